use mathlib.Core.Path.{refl}
use Rattle.kinds.specs.Laws.Kinds.{client_as}
use borrow.Author.Rules.{rules}
use Rattle.kinds.proofs.abort.end_at.Statement.{statement}
use Rattle.kinds.proofs.abort.end_at.Tie as tie

pub end_at_spec : {M : Type 1} → statement M
end_at_spec = tie.close (tie.spec
    (λ c κs. search rules)  -- client-at-requires
    (λ c. search rules)  -- mul-at
    (λ c. search rules)  -- sub-abort
    (λ c. search rules)  -- part-abort-start
    (λ c. search rules)  -- part-abort-end
    (λ c κs. search rules)  -- abort-requires
    (λ c. search rules)  -- same-length
    (λ c. let a = c.args in let k = c.client_at-at in client_as a.sizes a.client k.result _ _ _ _ (search rules) (search rules) (search rules) (λ m. refl) c.abort.ensures)  -- returns
    )
