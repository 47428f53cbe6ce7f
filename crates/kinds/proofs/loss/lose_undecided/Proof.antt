use Rattle.kinds.specs.Laws.Known.{knows}
use Rattle.kinds.specs.Laws.Loss.{loss_aborts, loss_refused}
use borrow.Author.Rules.{rules}
use Rattle.kinds.proofs.loss.lose_undecided.Statement.{statement}
use Rattle.kinds.proofs.loss.lose_undecided.Tie as tie

pub lose_undecided_spec : {M : Type 1} → statement M
lose_undecided_spec = tie.close (tie.spec
    (λ c κs. search rules)  -- abort-fits-requires
    (λ c κs. search (knows, rules))  -- store-loss-requires
    (λ c. search rules)  -- same-length
    (λ c. let a = c.args in loss_aborts a.sizes a.client _ _ c.abort_fits.ensures _ (search rules) c.store_loss.ensures)  -- returns
    (λ c. search rules)  -- same-length-2
    (λ c. loss_refused _ _ _ _ c.abort_fits.ensures (search rules))  -- returns-2
    )
