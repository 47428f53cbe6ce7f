use Rattle.kinds.specs.Laws.Abort.{none_in_use, abort_unused}
use borrow.Author.Rules.{rules}
use Rattle.kinds.proofs.abort.abort_unused.Statement.{statement}
use Rattle.kinds.proofs.abort.abort_unused.Tie as tie

pub abort_unused_spec : {M : Type 1} → statement M
abort_unused_spec = tie.close (tie.spec
    (λ c. search rules)  -- slice-aggregate-abort
    (λ c κs. search (none_in_use, rules))  -- abort-requires
    (λ c. search rules)  -- same-length
    (λ c. let a = c.args in abort_unused a.sizes a.client a.reason _ _ _ c.abort.ensures)  -- returns
    )
