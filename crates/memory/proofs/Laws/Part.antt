-- A part that is lent on: a change of the part, as a change of the whole.
use Rattle.std.specs.Prelude.{◌≡◌, ℕ, ◌+◌, ◌-◌, ◌*◌, ◌≤◌, drop}
use Rattle.std.proofs.Math.Path.{ap}
use Rattle.std.proofs.Common.{◌∙◌, arith, drop_of_length-le, take_all}
use mathlib.Core.List.{List, ◌++◌, append-nil}
use Rattle.std.proofs.Math.ListN.{length, take, length-drop}
use borrow.Rule.Slice.PartMut.{put_mid, mid_of}
use Rattle.memory.specs.Word.{view}
use Rattle.memory.proofs.Laws.Word.{view_drop, view_part}

-- f on the part from index k to the end
unfoldable pub from : ℕ → (List ℕ → List ℕ) → List ℕ → List ℕ
from k f l = take k l ++ f (drop k l)

-- the part's words, as it was lent: m bytes from word k
module _ (k : ℕ) (s : List ℕ) where
  pub lent_from : (m : ℕ) → 8 * k ≤ length s → m ≡ length s - 8 * k → view (mid_of (8 * k) m s) ≡ drop k (view s)
  lent_from m h e =
      let d : length (drop (8 * k) s) ≡ length s - 8 * k = length-drop (8 * k) s in
      ap view (take_all m (drop (8 * k) s) (omega arith)) ∙ view_drop k s h

  -- `&mut s[8 * k..]` came back as t
  pub back_from : (f : List ℕ → List ℕ) (m : ℕ) (t : List ℕ) → 8 * k ≤ length s → m ≡ length s - 8 * k
      → view t ≡ f (view (mid_of (8 * k) m s)) → view (put_mid (8 * k) m s t) ≡ from k f (view s)
  unfolding from
  back_from f m t h e c =
      let d : length (drop (8 * k) s) ≡ length s - 8 * k = length-drop (8 * k) s in
      ap (λ (r : List ℕ). view (take (8 * k) s ++ (t ++ r))) (drop_of_length-le (drop (8 * k) s) {i = m} (omega arith))
      ∙ ap (λ (r : List ℕ). view (take (8 * k) s ++ r)) (append-nil t)
      ∙ view_part k s h t
      ∙ ap (λ (r : List ℕ). take k (view s) ++ r) (c ∙ ap f (lent_from m h e))
