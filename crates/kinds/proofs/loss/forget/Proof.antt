use mathlib.Core.Path.{refl}
use Rattle.kinds.specs.Laws.Kinds.{client_as}
use borrow.Author.Rules.{rules}
use Rattle.kinds.proofs.loss.forget.Statement.{statement}
use Rattle.kinds.proofs.loss.forget.Tie as tie

pub forget_spec : {M : Type 1} → statement M
forget_spec = tie.close (tie.spec
    (λ c κs. search rules)  -- client-at-requires
    (λ c. search rules)  -- mul-at
    (λ c. search rules)  -- sub-drop-all
    (λ c. search rules)  -- part-drop-all-start
    (λ c. search rules)  -- part-drop-all-end
    (λ c κs. search rules)  -- drop-all-requires
    (λ c. search rules)  -- same-length
    (λ c. let a = c.args in let k = c.client_at-at in client_as a.sizes a.client k.result _ _ _ _ (search rules) (search rules) (search rules) (λ m. refl) c.drop_all.ensures)  -- returns
    )
