use Rattle.kinds.specs.Laws.Kinds.{was_given}
use borrow.Author.Rules.{rules}
use Rattle.kinds.proofs.life.give.Statement.{statement}
use Rattle.kinds.proofs.life.give.Tie as tie

pub give_spec : {M : Type 1} → statement M
give_spec = tie.close (tie.spec
    (λ c κs. search rules)  -- give-at-requires
    (λ c. search rules)  -- same-length
    (λ c. let a = c.args in was_given a.sizes a.client _ _ a.step c.give_at.ensures)  -- returns
    )
