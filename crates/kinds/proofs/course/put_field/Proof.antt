use Rattle.kinds.specs.Laws.Course.{mark_same}
use Rattle.kinds.specs.Laws.Kinds.{client_as}
use borrow.Author.Rules.{rules}
use Rattle.kinds.proofs.course.put_field.Statement.{statement}
use Rattle.kinds.proofs.course.put_field.Tie as tie

pub put_field_spec : {M : Type 1} → statement M
put_field_spec = tie.close (tie.spec
    (λ c κs. search rules)  -- client-at-requires
    (λ c. search rules)  -- mul-at
    (λ c. search rules)  -- sub-set-field
    (λ c. search rules)  -- part-set-field-start
    (λ c. search rules)  -- part-set-field-end
    (λ c κs. search rules)  -- set-field-requires
    (λ c. search rules)  -- same-length
    (λ c. let a = c.args in let k = c.client_at-at in client_as a.sizes a.client k.result _ _ _ _ (search rules) (search rules) (search rules) (mark_same a.i a.v) c.set_field.ensures)  -- returns
    )
