use Rattle.kinds.specs.Laws.Parts.{holds_as}
use Rattle.kinds.specs.Laws.Prepare.{too_refused, too_storing, too_applied, decided_known}
use borrow.Author.Rules.{rules}
use Rattle.kinds.proofs.prepare.apply_too.Statement.{statement}
use Rattle.kinds.proofs.prepare.apply_too.Tie as tie

pub apply_too_spec : {M : Type 1} → statement M
apply_too_spec = tie.close (tie.spec
    (λ c κs. search rules)  -- fit-to-apply-too-requires
    (λ c. search rules)  -- same-length
    (λ c. let a = c.args in too_refused a.sizes a.client a.server _ _ c.fit_to_apply_too.ensures (search rules))  -- returns
    (λ c κs. search rules)  -- decide-requires
    (λ c κs. search (decided_known, too_storing, holds_as, rules))  -- apply-at-requires
    (λ c. search rules)  -- same-length-2
    (λ c. let a = c.args in too_applied a.sizes a.client a.server _ _ _ _ _ (search rules) (search rules) (search rules) (search rules) c.fit_to_apply_too.ensures (search rules) c.decide.ensures c.apply_at.ensures)  -- returns-2
    )
