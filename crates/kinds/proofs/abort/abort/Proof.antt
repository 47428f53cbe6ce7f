use Rattle.kinds.specs.Laws.Abort.{abort_done, abort_refused}
use Rattle.kinds.specs.Laws.Known.{knows}
use borrow.Author.Rules.{rules}
use Rattle.kinds.proofs.abort.abort.Statement.{statement}
use Rattle.kinds.proofs.abort.abort.Tie as tie

pub abort_spec : {M : Type 1} → statement M
abort_spec = tie.close (tie.spec
    (λ c κs. search rules)  -- abort-fits-requires
    (λ c κs. search (knows, rules))  -- store-abort-requires
    (λ c. search rules)  -- same-length
    (λ c. let a = c.args in abort_done a.sizes a.client a.reason _ _ _ c.abort_fits.ensures _ (search rules) c.store_abort.ensures)  -- returns
    (λ c. search rules)  -- same-length-2
    (λ c. let a = c.args in abort_refused a.sizes a.client a.reason _ _ _ c.abort_fits.ensures (search rules))  -- returns-2
    )
