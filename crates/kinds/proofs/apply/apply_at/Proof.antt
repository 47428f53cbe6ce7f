use Rattle.kinds.specs.Laws.Parts.{holds_as}
use Rattle.kinds.specs.Laws.Apply.{applied_one, applied_last}
use borrow.Author.Rules.{rules}
use Rattle.kinds.proofs.apply.apply_at.Statement.{statement}
use Rattle.kinds.proofs.apply.apply_at.Tie as tie

pub apply_at_spec : {M : Type 1} → statement M
apply_at_spec = tie.close (tie.spec
    (λ c κs. search rules)  -- is-last-requires
    (λ c κs. search rules)  -- store-server-requires
    (λ c κs. search (holds_as, rules))  -- note-requires
    (λ c κs. search (holds_as, rules))  -- finish-at-requires
    (λ c. search rules)  -- same-length
    (λ c. let a = c.args in applied_last a.sizes a.client a.server _ _ _ (search rules) (search rules) (search rules) (search rules) _ c.is_last-last.ensures c.store_server.ensures c.note.ensures _ (search rules) (search rules) (search rules) c.finish_at.ensures)  -- returns
    (λ c. search rules)  -- same-length-2
    (λ c. let a = c.args in applied_one a.sizes a.client a.server _ _ _ (search rules) (search rules) (search rules) (search rules) _ c.is_last-last.ensures c.store_server.ensures c.note.ensures (search rules))  -- returns-2
    )
