use Rattle.kinds.specs.Laws.Loss.{lost_idle, lost_decided, lost_astray, lost_undecided}
use borrow.Author.Rules.{rules}
use Rattle.kinds.proofs.loss.lose.Statement.{statement}
use Rattle.kinds.proofs.loss.lose.Tie as tie

pub lose_spec : {M : Type 1} → statement M
lose_spec = tie.close (tie.spec
    (λ c κs. search rules)  -- field-of-requires
    (λ c κs. search rules)  -- forget-requires
    (λ c. search rules)  -- same-length
    (λ c. let a = c.args in lost_idle a.sizes a.client _ _ _ c.field_of-phase.ensures (search rules) c.forget.ensures)  -- returns
    (λ c κs. search rules)  -- mark-lost-requires
    (λ c. search rules)  -- same-length-2
    (λ c. let a = c.args in lost_decided a.sizes a.client _ _ _ c.field_of-phase.ensures (search rules) (search rules) c.mark_lost.ensures)  -- returns-2
    (λ c. search rules)  -- same-length-3
    (λ c. let a = c.args in lost_astray a.sizes a.client _ _ c.field_of-phase.ensures (search rules) (search rules) (search rules))  -- returns-3
    (λ c κs. search rules)  -- lose-undecided-requires
    (λ c. search rules)  -- same-length-4
    (λ c. let a = c.args in lost_undecided a.sizes a.client _ _ _ c.field_of-phase.ensures _ (search rules) (search rules) (search rules) c.lose_undecided.ensures)  -- returns-4
    )
