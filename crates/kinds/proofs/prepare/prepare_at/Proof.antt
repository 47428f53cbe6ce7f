use Rattle.kinds.specs.Laws.Prepare.{not_last, last_only, last_decides}
use borrow.Author.Rules.{rules}
use Rattle.kinds.proofs.prepare.prepare_at.Statement.{statement}
use Rattle.kinds.proofs.prepare.prepare_at.Tie as tie

pub prepare_at_spec : {M : Type 1} → statement M
prepare_at_spec = tie.close (tie.spec
    (λ c κs. search rules)  -- is-last-requires
    (λ c κs. search rules)  -- lock-server-requires
    (λ c. search rules)  -- same-length
    (λ c. let a = c.args in not_last a.sizes a.client a.server _ _ _ c.is_last.ensures (search rules) c.lock_server.ensures)  -- returns
    (λ c κs. search rules)  -- is-only-requires
    (λ c κs. search rules)  -- apply-too-requires
    (λ c. search rules)  -- same-length-2
    (λ c. let a = c.args in last_only a.sizes a.client a.server _ _ _ c.is_last.ensures _ c.is_only.ensures (search rules) _ (search rules) c.apply_too.ensures)  -- returns-2
    (λ c κs. search rules)  -- decide-requires
    (λ c. search rules)  -- same-length-3
    (λ c. let a = c.args in last_decides a.sizes a.client a.server _ _ _ c.is_last.ensures _ c.is_only.ensures (search rules) (search rules) c.decide.ensures)  -- returns-3
    )
