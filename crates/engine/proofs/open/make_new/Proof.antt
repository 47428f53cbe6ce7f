use Rattle.engine.specs.Laws.Open.{made_new}
use borrow.Author.Rules.{rules}
use Rattle.engine.proofs.open.make_new.Statement.{statement}
use Rattle.engine.proofs.open.make_new.Tie as tie

pub make_new_spec : {M : Type 1} → statement M
make_new_spec = tie.close (tie.spec
    (λ c κs. search rules)  -- words-for-requires
    (λ c κs. search rules)  -- fill-words-requires
    (λ c κs. search rules)  -- put-head-requires
    (λ c κs. search rules)  -- make-servers-requires
    (λ c. search rules)  -- same-length
    (λ c. search (made_new, rules))  -- returns
    )
