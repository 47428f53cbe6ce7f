use Rattle.kinds.specs.Laws.Parts.{server_back}
use borrow.Author.Rules.{rules}
use Rattle.engine.proofs.open.put_word.Statement.{statement}
use Rattle.engine.proofs.open.put_word.Tie as tie

pub put_word_spec : {M : Type 1} → statement M
put_word_spec = tie.close (tie.spec
    (λ c κs. search rules)  -- server-at-requires
    (λ c. search rules)  -- mul-at
    (λ c. search rules)  -- sub-put
    (λ c. search rules)  -- part-put-start
    (λ c. search rules)  -- part-put-end
    (λ c κs. search rules)  -- put-requires
    (λ c. search rules)  -- same-length
    (λ c. let a = c.args in let k = c.server_at-at in server_back a.sizes a.s k.result _ _ _ (search rules) (search rules) (search rules) c.put.ensures)  -- returns
    )
