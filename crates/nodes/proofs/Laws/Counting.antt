-- Counting gives the old place: the turns of the loop, the way out, and the theorem; with examples by computation.
use Prim.Native.Nat.{ℕ, zero, suc, ◌+◌, ◌-◌, ◌≤◌, ◌<◌}
use Rattle.std.specs.Prelude.{◌≡◌, refl, Bool, true, false, ◌&&◌, length, leb, ltb, eqb}
use Rattle.std.proofs.Math.Path.{sym, ap}
use Rattle.std.proofs.Common.{◌∙◌, length-take, get_or-take, drop-cons, lt-ltb, ltb-true}
use mathlib.Core.List.{List, [], ◌∷◌}
use native.Mathlib.Omega.{arith}
use Rattle.std.proofs.Math.ListN.{drop, get_or, drop_of_length-le}
use Rattle.std.proofs.Math.Seq.{length-take-le}
use mir.Val.{bool_byte}
use Rattle.base.specs.Test.{one_if, and_both}
use Rattle.nodes.specs.declared.node.Node.{Node}
use Rattle.nodes.specs.declared.standing.KeyPlace.{KeyPlace}
use Rattle.nodes.specs.Lists.{pad}
use Rattle.nodes.specs.Node.{keys_of, made}
use Rattle.nodes.specs.Place.{place, there_at, key_place, Within}
use Rattle.nodes.specs.Counting.{added_up, from_count, yes_at, counted_place, TheOldPlace}
use Rattle.nodes.proofs.Laws.Place.{place_within}

-- a test that is cast to a number
pub cast_one : (b : Bool) → bool_byte b ≡ one_if b
cast_one true = refl
cast_one false = refl

-- ---- the place
adds_place : (p : ℕ) (ks : List ℕ) (key : ℕ) → added_up p ks key ≡ p + place ks key
unfolding added_up place
adds_place p [] key = omega arith
adds_place p (x ∷ ks) key =
    let ih : added_up (p + one_if (leb x key)) ks key ≡ p + one_if (leb x key) + place ks key = adds_place (p + one_if (leb x key)) ks key in
    omega arith

adds_up : (ks : List ℕ) (key : ℕ) → added_up 0 ks key ≡ place ks key
adds_up ks key = adds_place 0 ks key ∙ omega arith

-- ---- the loop that counts, at key i ("Key positions count from 1"): what the keys left add to p is what all keys add up to
abbrev pub Counting : Node → ℕ → ℕ → ℕ → Type 0
Counting n key i p = added_up p (drop (i - 1) (keys_of n)) key ≡ added_up 0 (keys_of n) key

pub counting_starts : (n : Node) (key : ℕ) → Counting n key 1 0
counting_starts n key = refl

-- at a position, behind the count, stands that key
pub key_behind : (n : Node) (i : ℕ) → 0 < i → get_or (from_count n) i 0 ≡ get_or n.keys (i - 1) 0
unfolding from_count
key_behind n zero h = absurd (omega arith)
key_behind n (suc j) h = let e : suc j - 1 ≡ j = omega arith in rw e

module _ (n : Node) (key i p : ℕ) (sized : length n.keys ≡ 14) (small : n.count ≤ 14) (so_far : Counting n key i p) (few : p < i) where
  all_keys : length (keys_of n) ≡ n.count
  unfolding keys_of
  all_keys = length-take-le n.count n.keys (omega arith)

  pub counting_goes_on : (c x o q : ℕ) → c ≡ n.count → i ≤ c → x ≡ get_or (from_count n) i 0 → o ≡ one_if (leb x key) → q ≡ p + o → Counting n key (i + 1) q
  unfolding added_up keys_of
  counting_goes_on c x o q z g k a e =
      let h : i - 1 < n.count = omega arith in
      let here : x ≡ get_or (keys_of n) (i - 1) 0 = k ∙ key_behind n i (omega arith) ∙ sym (get_or-take n.count n.keys (i - 1) 0 h) in
      let adds : q ≡ p + one_if (leb (get_or (keys_of n) (i - 1) 0) key) = e ∙ ap (λ (m : ℕ). p + m) (a ∙ ap (λ (y : ℕ). one_if (leb y key)) here) in
      let next : i + 1 - 1 ≡ suc (i - 1) = omega arith in
      let turn : added_up p (drop (i - 1) (keys_of n)) key ≡ added_up q (drop (i + 1 - 1) (keys_of n)) key = rw (drop-cons (keys_of n) (i - 1) 0 (omega (arith, h, all_keys)), adds, next) in
      sym turn ∙ so_far

  pub counting_ends : (c : ℕ) → c ≡ n.count → c < i → p ≡ place (keys_of n) key
  unfolding added_up
  counting_ends c z h =
      let left : drop (i - 1) (keys_of n) ≡ [] = drop_of_length-le (keys_of n) {i = i - 1} (omega (arith, all_keys)) in
      rw left at so_far ∙ adds_up (keys_of n) key

pub counted_within : (n : Node) (c i p : ℕ) → c ≡ n.count → i ≤ c + 1 → p < i → p ≤ n.count
counted_within n c i p z h g = omega arith

-- ---- the yes or no
yes_there : (n : Node) (key p : ℕ) → p ≤ n.count → yes_at (from_count n) key p ≡ there_at (keys_of n) key p
unfolding yes_at from_count there_at keys_of
yes_there n key zero h = refl
yes_there n key (suc i) h = rw (lt-ltb 0 (suc i) (omega arith), get_or-take n.count n.keys i 0 (omega arith))

pub answered : (n : Node) (key p x : ℕ) → p ≡ place (keys_of n) key → p ≤ n.count → x ≡ get_or (from_count n) p 0
    → ◌≡◌ {A = KeyPlace} (record { place = p; there = ltb 0 p && eqb x key }) (key_place (keys_of n) key)
unfolding key_place yes_at
answered n key p x e h k = rw (← e) (ap (λ (t : Bool). record { place = p; there = t }) (rw k (yes_there n key p h)))

pub answered_within : (p count : ℕ) (same : Bool) → p ≤ count → Within (record { place = p; there = ltb 0 p && same }) count
answered_within p count same h = record { most = h; not_zero = λ t. ltb-true 0 p (and_both (ltb 0 p) same t).0 }

-- ---- "The place is shown to be the old one for every node and key."
pub the_old_place : TheOldPlace
unfolding counted_place yes_at keys_of
the_old_place n key =
    let p : added_up 0 (keys_of n) key ≡ place (keys_of n) key = adds_up (keys_of n) key in
    let short : added_up 0 (keys_of n) key ≤ n.count = omega (arith, p, place_within (keys_of n) key, length-take n.count n.keys) in
    answered n key (added_up 0 (keys_of n) key) _ p short refl

-- ---- by computation
examples :
    -- a key equal to the one sought is counted, and so is the last key
    (counted_place (made 1 0 0 (10 ∷ 20 ∷ 30 ∷ []) []) 30 ≡ record { place = 3; there = true })
    × (counted_place (made 1 0 0 (10 ∷ 20 ∷ 30 ∷ []) []) 29 ≡ record { place = 2; there = false })
    -- keys that don't rise are counted wherever they stand; the key at the place alone says yes
    × (counted_place (made 1 0 0 (20 ∷ 30 ∷ 20 ∷ 5 ∷ []) []) 20 ≡ record { place = 3; there = true })
    × (counted_place (made 1 0 0 (20 ∷ 30 ∷ 25 ∷ 5 ∷ []) []) 20 ≡ record { place = 2; there = false })
    -- the words behind the keys, which are 0, don't count; at place 0 the count, here 0 and 1, doesn't say yes
    × (counted_place (made 1 0 0 [] []) 0 ≡ record { place = 0; there = false })
    × (counted_place (made 1 0 0 (5 ∷ []) []) 1 ≡ record { place = 0; there = false })
unfolding counted_place added_up from_count yes_at keys_of made pad
examples = (refl, refl, refl, refl, refl, refl)
