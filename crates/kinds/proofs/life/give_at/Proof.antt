use mathlib.Core.Path.{refl}
use Rattle.kinds.specs.Laws.Kinds.{client_as}
use borrow.Author.Rules.{rules}
use Rattle.kinds.proofs.life.give_at.Statement.{statement}
use Rattle.kinds.proofs.life.give_at.Tie as tie

pub give_at_spec : {M : Type 1} → statement M
give_at_spec = tie.close (tie.spec
    (λ c κs. search rules)  -- client-at-requires
    (λ c. search rules)  -- mul-at
    (λ c. search rules)  -- sub-give
    (λ c. search rules)  -- part-give-start
    (λ c. search rules)  -- part-give-end
    (λ c κs. search rules)  -- give-requires
    (λ c. search rules)  -- same-length
    (λ c. let a = c.args in let k = c.client_at-at in client_as a.sizes a.client k.result _ _ _ _ (search rules) (search rules) (search rules) (λ m. refl) c.give.ensures)  -- returns
    )
