use Rattle.kinds.specs.Laws.Prepare.{prepare_unfit, prepare_absent, prepare_checked}
use Rattle.kinds.specs.Laws.Known.{knows}
use borrow.Author.Rules.{rules}
use Rattle.kinds.proofs.prepare.prepare.Statement.{statement}
use Rattle.kinds.proofs.prepare.prepare.Tie as tie

pub prepare_spec : {M : Type 1} → statement M
prepare_spec = tie.close (tie.spec
    (λ c κs. search rules)  -- fit-to-prepare-requires
    (λ c. search rules)  -- same-length
    (λ c. let a = c.args in prepare_unfit a.sizes a.client a.server _ _ c.fit_to_prepare.ensures (search rules))  -- returns
    (λ c κs. search rules)  -- is-there-requires
    (λ c κs. search rules)  -- abort-unused-requires
    (λ c. search rules)  -- same-length-2
    (λ c. let a = c.args in prepare_absent a.sizes a.client a.server _ _ c.fit_to_prepare.ensures _ c.is_there.ensures (search rules) _ _ (search rules) c.abort_unused.ensures)  -- returns-2
    (λ c κs. search (knows, rules))  -- checked-prepare-requires
    (λ c. search rules)  -- same-length-3
    (λ c. let a = c.args in prepare_checked a.sizes a.client a.server _ _ c.fit_to_prepare.ensures _ c.is_there.ensures (search rules) _ _ (search rules) c.checked_prepare.ensures)  -- returns-3
    )
