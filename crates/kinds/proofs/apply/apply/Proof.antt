use Rattle.kinds.specs.Laws.Apply.{last_is, apply_unfit, apply_locked, apply_fits}
use Rattle.kinds.specs.Laws.Known.{apply_known, apply_storing}
use borrow.Author.Rules.{rules}
use Rattle.kinds.proofs.apply.apply.Statement.{statement}
use Rattle.kinds.proofs.apply.apply.Tie as tie

pub apply_spec : {M : Type 1} → statement M
apply_spec = tie.close (tie.spec
    (λ c κs. search rules)  -- is-last-requires
    (λ c κs. search rules)  -- fit-to-apply-requires
    (λ c. search rules)  -- same-length
    (λ c. let a = c.args in apply_unfit a.sizes a.client a.server _ _ _ (last_is a.sizes _ _ _ _ c.is_last-last.ensures) c.fit_to_apply.ensures (search rules))  -- returns
    (λ c κs. search (apply_known c.args.sizes _ _ _ (search rules) _ _ c.fit_to_apply.ensures, rules))  -- unlock-fits-requires
    (λ c. search rules)  -- same-length-2
    (λ c. let a = c.args in apply_locked a.sizes a.client a.server _ _ _ (last_is a.sizes _ _ _ _ c.is_last-last.ensures) c.fit_to_apply.ensures _ c.unlock_fits.ensures (search rules) (search rules))  -- returns-2
    (λ c κs. let e = c.fit_to_apply.ensures in let z = c.args.sizes in search (apply_known z _ _ _ (search rules) _ _ e, apply_storing z _ _ _ (search rules) _ _ e, rules))  -- apply-at-requires
    (λ c. search rules)  -- same-length-3
    (λ c. let a = c.args in apply_fits a.sizes a.client a.server _ _ _ (last_is a.sizes _ _ _ _ c.is_last-last.ensures) c.fit_to_apply.ensures _ c.unlock_fits.ensures (search rules) _ _ (search rules) c.apply_at.ensures)  -- returns-3
    )
