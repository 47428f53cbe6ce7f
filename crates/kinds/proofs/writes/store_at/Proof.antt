use Rattle.kinds.specs.Laws.Parts.{server_back}
use borrow.Author.Rules.{rules}
use Rattle.kinds.proofs.writes.store_at.Statement.{statement}
use Rattle.kinds.proofs.writes.store_at.Tie as tie

pub store_at_spec : {M : Type 1} → statement M
store_at_spec = tie.close (tie.spec
    (λ c κs. search rules)  -- server-at-requires
    (λ c. search rules)  -- mul-at
    (λ c. search rules)  -- sub-store-write
    (λ c. search rules)  -- part-store-write-start
    (λ c. search rules)  -- part-store-write-end
    (λ c κs. search rules)  -- store-write-requires
    (λ c. search rules)  -- same-length
    (λ c. let a = c.args in let k = c.server_at-at in server_back a.sizes a.server k.result _ _ _ (search rules) (search rules) (search rules) c.store_write.ensures)  -- returns
    )
