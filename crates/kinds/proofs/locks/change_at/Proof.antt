use Rattle.kinds.specs.Laws.Locks.{now_lock, now_unlock}
use borrow.Author.Rules.{rules}
use Rattle.kinds.proofs.locks.change_at.Statement.{statement}
use Rattle.kinds.proofs.locks.change_at.Tie as tie

pub change_at_spec : {M : Type 1} → statement M
change_at_spec = tie.close (tie.spec
    (λ c. search rules)  -- enum-told
    (λ c κs. search rules)  -- lock-at-requires
    (λ c. search rules)  -- enum-told-2
    (λ c κs. search rules)  -- unlock-at-requires
    (λ c. search rules)  -- same-length
    (λ c. let a = c.args in now_lock a.sizes a.server a.client _ _ a.item a.change (search rules) c.lock_at.ensures)  -- returns
    (λ c. search rules)  -- same-length-2
    (λ c. let a = c.args in now_unlock a.sizes a.server a.client _ _ a.item a.change (search rules) c.unlock_at.ensures)  -- returns-2
    )
