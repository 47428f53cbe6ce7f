-- What each change of a node leaves of its entries, for leaves and inner nodes alike.
use Prim.Native.Nat.{ℕ, zero, suc, ◌+◌, ◌≤◌, ◌<◌}
use Rattle.std.specs.Prelude.{◌≡◌, refl, length, take, drop, get_or}
use Rattle.std.proofs.Common.{sym, ◌∙◌, arith, add-zero, length-take-le, drop-cons}
use Rattle.std.proofs.Math.Path.{ap}
use mathlib.Core.List.{List, [], ◌∷◌, ◌++◌, map, append_assoc}
use Rattle.std.proofs.Math.Numerals.{add-one}
use Rattle.std.proofs.Math.ListN.{set}
use Rattle.std.proofs.Math.Seq.{set-get_or}
use Rattle.nodes.specs.Lists.{insert_at, remove_at}
use Rattle.nodes.specs.Entries.{zip, headed, entries}

-- ---- keys beside slots
pub length_zip : (ks ss : List ℕ) → length ks ≡ length ss → length (zip ks ss) ≡ length ss
length_zip [] [] h = refl
length_zip [] (s ∷ ss) h = absurd (omega arith)
length_zip (k ∷ ks) [] h = absurd (omega arith)
length_zip (k ∷ ks) (s ∷ ss) h = ap suc (length_zip ks ss (omega arith))

zip_take : (n : ℕ) (ks ss : List ℕ) → zip (take n ks) (take n ss) ≡ take n (zip ks ss)
zip_take zero ks ss = refl
zip_take (suc n) [] ss = refl
zip_take (suc n) (k ∷ ks) [] = refl
zip_take (suc n) (k ∷ ks) (s ∷ ss) = ap (λ (l : List (ℕ × ℕ)). (k, s) ∷ l) (zip_take n ks ss)

zip_nil : (ks : List ℕ) → zip ks [] ≡ []
zip_nil [] = refl
zip_nil (k ∷ ks) = refl

zip_drop : (n : ℕ) (ks ss : List ℕ) → zip (drop n ks) (drop n ss) ≡ drop n (zip ks ss)
zip_drop zero ks ss = refl
zip_drop (suc n) [] ss = refl
zip_drop (suc n) (k ∷ ks) [] = zip_nil (drop n ks)
zip_drop (suc n) (k ∷ ks) (s ∷ ss) = zip_drop n ks ss

zip_append : (ks ks' ss ss' : List ℕ) → length ks ≡ length ss → zip (ks ++ ks') (ss ++ ss') ≡ zip ks ss ++ zip ks' ss'
zip_append [] ks' [] ss' h = refl
zip_append [] ks' (s ∷ ss) ss' h = absurd (omega arith)
zip_append (k ∷ ks) ks' [] ss' h = absurd (omega arith)
zip_append (k ∷ ks) ks' (s ∷ ss) ss' h = ap (λ (l : List (ℕ × ℕ)). (k, s) ∷ l) (zip_append ks ks' ss ss' (omega arith))

zip_set : (i k s : ℕ) (ks ss : List ℕ) → zip (set ks i k) (set ss i s) ≡ set (zip ks ss) i (k, s)
zip_set i k s [] ss = refl
zip_set zero k s (x ∷ ks) [] = refl
zip_set (suc i) k s (x ∷ ks) [] = refl
zip_set zero k s (x ∷ ks) (y ∷ ss) = refl
zip_set (suc i) k s (x ∷ ks) (y ∷ ss) = ap (λ (l : List (ℕ × ℕ)). (x, y) ∷ l) (zip_set i k s ks ss)

-- the keys and the slots of entries
zip_keys : (ks ss : List ℕ) → length ks ≡ length ss → map (λ e. e.0) (zip ks ss) ≡ ks
zip_keys [] ss h = refl
zip_keys (k ∷ ks) [] h = absurd (omega arith)
zip_keys (k ∷ ks) (s ∷ ss) h = ap (λ (l : List ℕ). k ∷ l) (zip_keys ks ss (omega arith))

zip_slots : (ks ss : List ℕ) → length ks ≡ length ss → map (λ e. e.1) (zip ks ss) ≡ ss
zip_slots [] [] h = refl
zip_slots [] (s ∷ ss) h = absurd (omega arith)
zip_slots (k ∷ ks) [] h = absurd (omega arith)
zip_slots (k ∷ ks) (s ∷ ss) h = ap (λ (l : List ℕ). s ∷ l) (zip_slots ks ss (omega arith))

zip_insert : (j k s : ℕ) (ks ss : List ℕ) → j ≤ length ks → length ks ≡ length ss → zip (insert_at j k ks) (insert_at j s ss) ≡ insert_at j (k, s) (zip ks ss)
unfolding insert_at
zip_insert j k s ks ss h e =
    let a : length (take j ks) ≡ length (take j ss) = length-take-le j ks h ∙ sym (length-take-le j ss (omega arith)) in
    rw (zip_append (take j ks) (k ∷ drop j ks) (take j ss) (s ∷ drop j ss) a, zip_take j ks ss, zip_drop j ks ss)

zip_remove : (j : ℕ) (ks ss : List ℕ) → j ≤ length ks → length ks ≡ length ss → zip (remove_at j ks) (remove_at j ss) ≡ remove_at j (zip ks ss)
unfolding remove_at
zip_remove j ks ss h e =
    let a : length (take j ks) ≡ length (take j ss) = length-take-le j ks h ∙ sym (length-take-le j ss (omega arith)) in
    rw (zip_append (take j ks) (drop (j + 1) ks) (take j ss) (drop (j + 1) ss) a, zip_take j ks ss, zip_drop (j + 1) ks ss)

-- ---- the keys with the first one's: what is so with 0 and with 1 slot more
by_extra : (P : ℕ → Type 0) → P 0 → P 1 → (e : ℕ) → e ≤ 1 → P e
by_extra P p q zero h = p
by_extra P p q (suc zero) h = q
by_extra P p q (suc (suc e)) h = absurd (omega arith)

module _ (lo : ℕ) where
  length_headed : (e : ℕ) (ks : List ℕ) → e ≤ 1 → length (headed e lo ks) ≡ length ks + e
  length_headed e ks h = by_extra (λ e. length (headed e lo ks) ≡ length ks + e) (sym (add-zero (length ks))) (sym (add-one (length ks))) e h

  headed_take : (e i : ℕ) (ks : List ℕ) → e ≤ 1 → headed e lo (take i ks) ≡ take (i + e) (headed e lo ks)
  headed_take e i ks h = by_extra (λ e. headed e lo (take i ks) ≡ take (i + e) (headed e lo ks)) (rw (add-zero i)) (rw (add-one i)) e h

  headed_drop : (e i : ℕ) (ks : List ℕ) → e ≤ 1 → i < length ks → headed e (get_or ks i 0) (drop (i + e) ks) ≡ drop (i + e) (headed e lo ks)
  headed_drop e i ks h g =
      by_extra (λ e. headed e (get_or ks i 0) (drop (i + e) ks) ≡ drop (i + e) (headed e lo ks)) (rw (add-zero i)) (rw (add-one i) (sym (drop-cons ks i 0 g))) e h

  headed_insert : (e i k : ℕ) (ks : List ℕ) → e ≤ 1 → headed e lo (insert_at i k ks) ≡ insert_at (i + e) k (headed e lo ks)
  unfolding insert_at
  headed_insert e i k ks h = by_extra (λ e. headed e lo (insert_at i k ks) ≡ insert_at (i + e) k (headed e lo ks)) (rw (add-zero i)) (rw (add-one i)) e h

  headed_remove : (e i : ℕ) (ks : List ℕ) → e ≤ 1 → headed e lo (remove_at i ks) ≡ remove_at (i + e) (headed e lo ks)
  unfolding remove_at
  headed_remove e i ks h =
      let z : i + 1 + 1 ≡ suc (i + 1) = add-one (i + 1) in
      by_extra (λ e. headed e lo (remove_at i ks) ≡ remove_at (i + e) (headed e lo ks)) (rw (add-zero i)) (rw (z, add-one i)) e h

  headed_set : (e i k : ℕ) (ks : List ℕ) → e ≤ 1 → headed e lo (set ks i k) ≡ set (headed e lo ks) (i + e) k
  headed_set e i k ks h = by_extra (λ e. headed e lo (set ks i k) ≡ set (headed e lo ks) (i + e) k) (rw (add-zero i)) (rw (add-one i)) e h

-- ---- entries of lists with e slots more than keys
module _ (e lo : ℕ) (b : e ≤ 1) (ks ss : List ℕ) (l : length ss ≡ length ks + e) where
  fit : length (headed e lo ks) ≡ length ss
  fit = length_headed lo e ks b ∙ sym l

  pub length_entries : length (entries e lo ks ss) ≡ length ss
  unfolding entries
  length_entries = length_zip (headed e lo ks) ss fit

  pub entries_keys : map (λ x. x.0) (entries e lo ks ss) ≡ headed e lo ks
  unfolding entries
  entries_keys = zip_keys (headed e lo ks) ss fit

  pub entries_slots : map (λ x. x.1) (entries e lo ks ss) ≡ ss
  unfolding entries
  entries_slots = zip_slots (headed e lo ks) ss fit

  pub entries_take : (i : ℕ) → entries e lo (take i ks) (take (i + e) ss) ≡ take (i + e) (entries e lo ks ss)
  unfolding entries
  entries_take i = rw (headed_take lo e i ks b) (zip_take (i + e) (headed e lo ks) ss)

  pub entries_drop : (i : ℕ) → i < length ks → entries e (get_or ks i 0) (drop (i + e) ks) (drop (i + e) ss) ≡ drop (i + e) (entries e lo ks ss)
  unfolding entries
  entries_drop i h = rw (headed_drop lo e i ks b h) (zip_drop (i + e) (headed e lo ks) ss)

  pub entries_join : (sep : ℕ) (ks' ss' : List ℕ)
      → entries e lo (ks ++ (take e (sep ∷ []) ++ ks')) (ss ++ ss') ≡ entries e lo ks ss ++ entries e sep ks' ss'
  unfolding entries
  entries_join sep ks' ss' =
      rw (← append_assoc (take e (lo ∷ [])) ks (headed e sep ks')) (zip_append (headed e lo ks) (headed e sep ks') ss ss' fit)

  pub entries_insert : (i k s : ℕ) → i ≤ length ks → entries e lo (insert_at i k ks) (insert_at (i + e) s ss) ≡ insert_at (i + e) (k, s) (entries e lo ks ss)
  unfolding entries
  entries_insert i k s h =
      rw (headed_insert lo e i k ks b) (zip_insert (i + e) k s (headed e lo ks) ss (omega (arith, length_headed lo e ks b)) fit)

  pub entries_remove : (i : ℕ) → i ≤ length ks → entries e lo (remove_at i ks) (remove_at (i + e) ss) ≡ remove_at (i + e) (entries e lo ks ss)
  unfolding entries
  entries_remove i h = rw (headed_remove lo e i ks b) (zip_remove (i + e) (headed e lo ks) ss (omega (arith, length_headed lo e ks b)) fit)

  pub entries_key : (i k : ℕ) → entries e lo (set ks i k) ss ≡ set (entries e lo ks ss) (i + e) (k, get_or ss (i + e) 0)
  unfolding entries
  entries_key i k =
      let z : set ss (i + e) (get_or ss (i + e) 0) ≡ ss = set-get_or ss (i + e) 0 in
      rw (headed_set lo e i k ks b) (ap (zip (set (headed e lo ks) (i + e) k)) (sym z) ∙ zip_set (i + e) k (get_or ss (i + e) 0) (headed e lo ks) ss)

  pub entries_slot : (i s : ℕ) → entries e lo ks (set ss i s) ≡ set (entries e lo ks ss) i (get_or (headed e lo ks) i 0, s)
  unfolding entries
  entries_slot i s =
      let z : set (headed e lo ks) i (get_or (headed e lo ks) i 0) ≡ headed e lo ks = set-get_or (headed e lo ks) i 0 in
      ap (λ (l : List ℕ). zip l (set ss i s)) (sym z) ∙ zip_set i (get_or (headed e lo ks) i 0) s (headed e lo ks) ss

-- the key of the first entry: what goes up as the separator left of these entries
abbrev pub first : List (ℕ × ℕ) → ℕ
first [] = 0
first (x ∷ xs) = x.0

first_drop : (j : ℕ) (ks ss : List ℕ) → j < length ks → length ks ≡ length ss → first (drop j (zip ks ss)) ≡ get_or ks j 0
first_drop j [] ss h e = absurd (omega arith)
first_drop j (k ∷ ks) [] h e = absurd (omega arith)
first_drop zero (k ∷ ks) (s ∷ ss) h e = refl
first_drop (suc j) (k ∷ ks) (s ∷ ss) h e = first_drop j ks ss (omega arith) (omega arith)

pub entries_first : (e lo i : ℕ) (ks ss : List ℕ) → e ≤ 1 → length ss ≡ length ks + e → i < length ks → first (drop (i + e) (entries e lo ks ss)) ≡ get_or ks i 0
unfolding entries
entries_first e lo i ks ss b l h =
    first_drop (i + e) (headed e lo ks) ss (omega (arith, length_headed lo e ks b)) (fit e lo b ks ss l)
    ∙ by_extra (λ e. get_or (headed e lo ks) (i + e) 0 ≡ get_or ks i 0) (rw (add-zero i)) (rw (add-one i)) e b
