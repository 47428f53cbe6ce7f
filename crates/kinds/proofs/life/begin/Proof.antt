use Rattle.kinds.specs.Laws.Kinds.{begun}
use borrow.Author.Rules.{rules}
use Rattle.kinds.proofs.life.begin.Statement.{statement}
use Rattle.kinds.proofs.life.begin.Tie as tie

pub begin_spec : {M : Type 1} → statement M
begin_spec = tie.close (tie.spec
    (λ c κs. search rules)  -- reset-at-requires
    (λ c. search rules)  -- same-length
    (λ c. let a = c.args in begun a.sizes a.client _ _ c.reset_at.ensures)  -- returns
    )
