-- Laws of the code for a commit's course.
use Rattle.std.specs.Prelude.{◌≡◌, refl, Bool, true, false, List, ℕ}
use Rattle.std.proofs.Math.Path.{sym}
use Rattle.std.proofs.Common.{◌∙◌}
use Rattle.memory.specs.Bit.{bit, put_bit}
use Rattle.layout.specs.Step.{Does, silent}
use Rattle.layout.proofs.Laws.Step.{does_as}
use Rattle.layout.specs.Part.{in_part}
use Rattle.client.specs.Items.{all_below}
use Rattle.client.specs.Layout.{ClientWord, field}
use Rattle.client.specs.Part.{put_field, put_word}
use Rattle.client.specs.Course.{noted}
use Rattle.steps.specs.declared.sizes.Sizes.{Sizes}
use Rattle.steps.specs.Whole.{client, whole, block}
use Rattle.steps.specs.Steps.{covers}
use Rattle.kinds.specs.Judge.{of_client}
use Rattle.kinds.specs.Course.{covered, mark}

module _ (p q t : ℕ) (b : Bool) (e : b ≡ bit p t) where
  pub covered_not : b ≡ false → true ≡ covered p q t
  unfolding covered
  covered_not u = sym (rw (← e, u))

  pub covered_done : (r : Bool) → b ≡ true → r ≡ bit q t → r ≡ covered p q t
  unfolding covered
  covered_done r u h = h ∙ sym (rw (← e, u))

pub covers_all : (n p q : ℕ) (r : Bool) → r ≡ all_below n (covered p q) → r ≡ covers n p q
unfolding covers covered
covers_all n p q r h = h

pub mark_same : (i v : ℕ) (m : ClientWord → ℕ) → put_field i v m ≡ mark i v m
unfolding put_word mark
mark_same i v m = refl

pub is_noted : (z : Sizes) (c i s x v : ℕ) (w w' : List ℕ) → x ≡ of_client z w c (field i) → v ≡ put_bit true x s
    → Does whole (block z) (in_part (client c) (mark i v)) silent w 0 w' → Does whole (block z) (in_part (client c) (noted (field i) s)) silent w 0 w'
unfolding in_part mark noted
is_noted z c i s x v w w' e q d =
    does_as whole (block z) (in_part (client c) (mark i v)) (in_part (client c) (noted (field i) s)) silent w 0 w' (rw (q, e)) d
