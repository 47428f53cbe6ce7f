use Rattle.kinds.specs.Laws.Course.{is_noted}
use borrow.Author.Rules.{rules}
use Rattle.kinds.proofs.course.note.Statement.{statement}
use Rattle.kinds.proofs.course.note.Tie as tie

pub note_spec : {M : Type 1} → statement M
note_spec = tie.close (tie.spec
    (λ c κs. search rules)  -- field-of-requires
    (λ c. search rules)  -- cast-with
    (λ c κs. search rules)  -- with-requires
    (λ c κs. search rules)  -- put-field-requires
    (λ c. search rules)  -- same-length
    (λ c. let a = c.args in is_noted a.sizes a.client a.i a.server c.field_of-set.result c.with.result _ _ (search rules) (search rules) c.put_field.ensures)  -- returns
    )
