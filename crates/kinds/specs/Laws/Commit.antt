-- Laws of the commit step's code.
use Rattle.std.specs.Prelude.{◌≡◌, Bool, true, false, not, List, [], ◌∷◌, ℕ}
use Rattle.std.proofs.Common.{sym}
use borrow.Author.Tests.{eq-eqb, ne_eqb, not-true, not-false}
use Rattle.layout.specs.Space.{put}
use Rattle.layout.specs.Step.{Does, silent}
use Rattle.layout.proofs.Laws.Step.{does_both, does_as}
use Rattle.layout.specs.Part.{over, in_part}
use Rattle.client.specs.Layout.{field}
use Rattle.client.specs.Participants.{participants_of, committing}
use Rattle.client.specs.Fits.{fit_to_commit}
use Rattle.steps.specs.declared.sizes.Sizes.{Sizes}
use Rattle.steps.specs.declared.outcome.Outcome.TheVariants.{Refused, Done, Committed}
use Rattle.steps.specs.Whole.{client, whole, block}
use Rattle.steps.specs.Steps.{did, commit}
use Rattle.kinds.specs.Judge.{of_client}
use Rattle.kinds.specs.Course.{mark}
use Rattle.kinds.specs.Kinds.{Meets}
use Rattle.kinds.specs.Laws.Kinds.{meets_did, meets_as, meets_refused}
use Rattle.client.specs.Life as L

module _ (z : Sizes) (c p : ℕ) (w w' : List ℕ) (e : p ≡ participants_of (of_client z w c)) where
  -- phase and participants
  pub now_committing : (u : List ℕ) → Does whole (block z) (in_part (client c) (mark 0 2)) silent w 0 u → Does whole (block z) (in_part (client c) (mark 5 p)) silent u 0 w'
      → Does whole (block z) (in_part (client c) committing) silent w 0 w'
  unfolding in_part mark committing over
  now_committing u d q =
      does_as whole (block z) (λ m. put (client c (field 0)) 2 ∷ put (client c (field 5)) p ∷ []) (in_part (client c) committing) silent w 0 w' (rw e)
      (does_both whole (block z) (put (client c (field 0)) 2 ∷ []) (put (client c (field 5)) p ∷ []) w u w' d q)

  pub commit_ends : (d : Bool) → d ≡ fit_to_commit z.slots (of_client z w c) → not d ≡ false → p ≡ 0 → Does whole (block z) (in_part (client c) (L.reset 0)) silent w 0 w' → Meets z (λ m. commit z m c) w Committed w'
  unfolding commit in_part
  commit_ends f k t q d =
      meets_as z w Committed w' (λ m. did Committed (in_part (client c) (L.reset 0) m)) (λ m. commit z m c) (sym (rw (← k, not-false f t, ← e, eq-eqb p 0 q)))
      (meets_did z w Committed w' (in_part (client c) (L.reset 0)) d)

  pub commit_waits : (d : Bool) → d ≡ fit_to_commit z.slots (of_client z w c) → not d ≡ false → (p ≡ 0 → ⊥) → Does whole (block z) (in_part (client c) committing) silent w 0 w' → Meets z (λ m. commit z m c) w Done w'
  unfolding commit in_part
  commit_waits f k t q d =
      meets_as z w Done w' (λ m. did Done (in_part (client c) committing m)) (λ m. commit z m c) (sym (rw (← k, not-false f t, ← e, ne_eqb p 0 q)))
      (meets_did z w Done w' (in_part (client c) committing) d)

pub commit_unfit : (z : Sizes) (c : ℕ) (w : List ℕ) (d : Bool) → d ≡ fit_to_commit z.slots (of_client z w c) → not d ≡ true → Meets z (λ m. commit z m c) w (Refused 10) w
unfolding commit
commit_unfit z c w d e t = meets_refused z w 10 (λ m. commit z m c) (sym (rw (← e, not-true d t)))
