use mathlib.Core.Path.{refl}
use Rattle.kinds.specs.Laws.Kinds.{client_as}
use borrow.Author.Rules.{rules}
use Rattle.kinds.proofs.loss.mark_lost.Statement.{statement}
use Rattle.kinds.proofs.loss.mark_lost.Tie as tie

pub mark_lost_spec : {M : Type 1} → statement M
mark_lost_spec = tie.close (tie.spec
    (λ c κs. search rules)  -- client-at-requires
    (λ c. search rules)  -- mul-at
    (λ c. search rules)  -- sub-lose
    (λ c. search rules)  -- part-lose-start
    (λ c. search rules)  -- part-lose-end
    (λ c κs. search rules)  -- lose-requires
    (λ c. search rules)  -- same-length
    (λ c. let a = c.args in let k = c.client_at-at in client_as a.sizes a.client k.result _ _ _ _ (search rules) (search rules) (search rules) (λ m. refl) c.lose.ensures)  -- returns
    )
