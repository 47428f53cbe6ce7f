use Rattle.engine.specs.Laws.Open.{first_word}
use borrow.Author.Rules.{rules}
use Rattle.engine.proofs.open.first_states.Statement.{statement}
use Rattle.engine.proofs.open.first_states.Tie as tie

pub first_states_spec : {M : Type 1} → statement M
first_states_spec = tie.close (tie.spec
    (λ c. search rules)  -- cast-result
    (λ c. search rules)  -- cast-result-2
    (λ c. search rules)  -- shl-result
    (λ c. search (first_word, rules))  -- sub-result
    (λ c. search (first_word, rules))  -- mul-result
    (λ c. search (first_word, rules))  -- returns
    )
