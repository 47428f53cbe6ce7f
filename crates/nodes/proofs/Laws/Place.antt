-- The place of a key in a node, key by key; and the test that keys rise.
use Prim.Native.Nat.{ℕ, zero, suc, ◌+◌, ◌-◌, ◌≤◌, ◌<◌}
use Rattle.std.specs.Prelude.{◌≡◌, true, false, ◌&&◌, ◌||◌, length, take, drop, get_or, leb, ltb, eqb}
use Rattle.std.proofs.Math.Path.{refl}
use Rattle.std.proofs.Common.{sym, ap, subst, ◌∙◌, true≢false, arith, length-drop, length-take-le, get_or-take, drop-cons}
use mathlib.Core.List.{List, [], ◌∷◌}
use Rattle.std.proofs.Math.Bool.{Bool}
use Rattle.std.proofs.Math.Decide.{ℕ_discrete, dec_lt}
use borrow.Author.Tests.{le-leb, lt-leb, le-ltb, lt-ltb, eq-eqb, ne_eqb, eqb-true, ltb-true}
use Rattle.base.specs.Test.{and_both}
use Rattle.base.proofs.Laws.Test.{one_if_small}
use Rattle.nodes.specs.declared.standing.KeyPlace.{KeyPlace}
use Rattle.nodes.specs.Node.{keys_of}
use Rattle.nodes.specs.Place.{place, there_at, key_place, Within, first_above, rises, has_key, YesWhereItIs}

-- ---- for callers, after a yes
module _ (p : KeyPlace) (count : ℕ) (h : Within p count) (t : p.there ≡ true) where
  pub yes_behind : 1 ≤ p.place
  yes_behind = h.not_zero t

  pub yes_inside : p.place - 1 < count
  yes_inside = omega (arith, h.most, h.not_zero t)

-- ---- what a yes says, wherever the keys come from
pub place_within : (ks : List ℕ) (key : ℕ) → place ks key ≤ length ks
unfolding place
place_within [] key = omega arith
place_within (k ∷ ks) key = omega (arith, one_if_small (leb k key), place_within ks key)

pub record Yes (ks : List ℕ) (key : ℕ) : Type 0 where
  pub not_zero : 0 < place ks key
  pub the_key : get_or ks (place ks key - 1) 0 ≡ key

pub yes_says : (ks : List ℕ) (key : ℕ) → (key_place ks key).there ≡ true → Yes ks key
unfolding key_place there_at
yes_says ks key t = go (place ks key) refl
  where
    go : (p : ℕ) → place ks key ≡ p → Yes ks key
    go zero e = let f : there_at ks key 0 ≡ true = subst (λ (p : ℕ). there_at ks key p ≡ true) e t in absurd (true≢false (sym f))
    go (suc i) e =
        let f : eqb (get_or ks i 0) key ≡ true = subst (λ (p : ℕ). there_at ks key p ≡ true) e t in
        let b : place ks key - 1 ≡ i = omega arith in
        record { not_zero = omega arith; the_key = rw b (eqb-true (get_or ks i 0) key f) }

-- ---- the test that keys rise
-- from number i on, after those before were seen to rise
pub record Risen (l : List ℕ) (i : ℕ) : Type 0 where
  pub first : 1 ≤ i
  pub same : rises l ≡ rises (drop (i - 1) l)

pub risen_first : (l : List ℕ) → Risen l 1
risen_first l = record { first = omega arith; same = refl }

rises_step : (l : List ℕ) (i : ℕ) → 1 ≤ i → i < length l → rises (drop (i - 1) l) ≡ (ltb (get_or l (i - 1) 0) (get_or l i 0) && rises (drop i l))
unfolding rises
rises_step l i f h =
    let e : suc (i - 1) ≡ i = omega arith in
    let g : i - 1 < length l = omega arith in
    rw (drop-cons l (i - 1) 0 g, e, drop-cons l i 0 h)

module _ (keys : List ℕ) (count i : ℕ) (c : count ≤ 14) (lk : length keys ≡ 14) (r : Risen (take count keys) i) (h : i < count) where
  here : rises (take count keys) ≡ (ltb (get_or keys (i - 1) 0) (get_or keys i 0) && rises (drop i (take count keys)))
  here =
      let l : length (take count keys) ≡ count = length-take-le count keys (omega arith) in
      let a : i - 1 < count = omega arith in
      rw (r.same, rises_step (take count keys) i r.first (omega arith), get_or-take count keys (i - 1) 0 a, get_or-take count keys i 0 h)

  pub not_risen : get_or keys i 0 ≤ get_or keys (i - 1) 0 → false ≡ rises (take count keys)
  not_risen t = rw (here, le-ltb _ _ t)

  pub risen_more : get_or keys (i - 1) 0 < get_or keys i 0 → Risen (take count keys) (i + 1)
  risen_more t =
      let e : i + 1 - 1 ≡ i = omega arith in
      record { first = omega arith; same = rw e (here ∙ rw (lt-ltb _ _ t)) }

short_rises : (l : List ℕ) → length l ≤ 1 → rises l ≡ true
unfolding rises
short_rises [] h = refl
short_rises (x ∷ []) h = refl
short_rises (x ∷ y ∷ l) h = absurd (omega arith)

pub risen_all : (keys : List ℕ) (count i : ℕ) → count ≤ 14 → length keys ≡ 14 → Risen (take count keys) i → count ≤ i → true ≡ rises (take count keys)
risen_all keys count i c lk r h =
    let l : length (take count keys) ≡ count = length-take-le count keys (omega arith) in
    let s : length (drop (i - 1) (take count keys)) ≤ 1 = simp length-drop (omega (arith, r.first)) in
    rw r.same (sym (short_rises (drop (i - 1) (take count keys)) s))

-- ---- "Where keys rise, yes is shown to come exactly when the node has the key"
-- the answer where one more key below stands in front
abbrev pub later : KeyPlace → KeyPlace
later p = record { place = suc p.place; there = p.there }

module _ (key : ℕ) where
  pub counted : (x : ℕ) (ks : List ℕ) → x ≤ key → place (x ∷ ks) key ≡ suc (place ks key)
  unfolding place
  counted x ks h = rw (le-leb _ _ h) (omega arith)

  -- what is above another key is above a lower one
  lower : (x : ℕ) (ks : List ℕ) → key ≤ x → first_above x ks ≡ true → first_above key ks ≡ true
  lower x [] h a = refl
  lower x (y ∷ ks) h a = let p = and_both (ltb x y) (first_above y ks) a in rw (lt-ltb key y (omega (arith, ltb-true x y p.0)), p.1)

  -- no key is counted where all are above
  pub none_counted : (ks : List ℕ) → first_above key ks ≡ true → place ks key ≡ 0
  unfolding place
  none_counted [] a = refl
  none_counted (x ∷ ks) a =
      let p = and_both (ltb key x) (first_above x ks) a in
      let h : key < x = ltb-true key x p.0 in
      rw (lt-leb x key h, none_counted ks (lower x ks (omega arith) p.1))

  pub key_below : (x : ℕ) (ks : List ℕ) → x < key → key_place (x ∷ ks) key ≡ later (key_place ks key)
  unfolding key_place there_at
  key_below x ks h = rw (counted x ks (omega arith)) (ap (λ (b : Bool). record { place = suc (place ks key); there = b }) (go (place ks key)))
    where
      go : (p : ℕ) → there_at (x ∷ ks) key (suc p) ≡ there_at ks key p
      go zero = ne_eqb x key (λ q. omega arith)
      go (suc i) = refl

  pub key_above : (ks : List ℕ) → first_above key ks ≡ true → key_place ks key ≡ record { place = 0; there = false }
  unfolding key_place there_at
  key_above ks a = rw (none_counted ks a)

  pub key_here : (x : ℕ) (ks : List ℕ) → x ≡ key → first_above x ks ≡ true → key_place (x ∷ ks) key ≡ record { place = 1; there = true }
  unfolding key_place there_at
  key_here x ks q a = rw (counted x ks (omega arith), none_counted ks (lower x ks (omega arith) a), eq-eqb x key q)

  rises_on : (x : ℕ) (ks : List ℕ) → first_above x ks ≡ true → rises ks ≡ true
  unfolding rises
  rises_on x [] a = refl
  rises_on x (y ∷ ks) a = (and_both (ltb x y) (first_above y ks) a).1

  told : (ks : List ℕ) → rises ks ≡ true → (key_place ks key).there ≡ has_key ks key
  unfolding rises place key_place there_at
  told [] r = refl
  told (x ∷ ks) r = go (dec_lt x key) (ℕ_discrete x key) (told ks (rises_on x ks r))
    where
      yes_of : KeyPlace → Bool
      yes_of p = p.there

      other : ¬ (x ≡ key) → has_key ks key ≡ has_key (x ∷ ks) key
      other q = ap (λ (b : Bool). b || has_key ks key) (sym (ne_eqb x key q))

      here : x ≡ key → (key_place (x ∷ ks) key).there ≡ has_key (x ∷ ks) key
      here q = ap yes_of (key_here x ks q r) ∙ ap (λ (b : Bool). b || has_key ks key) (sym (eq-eqb x key q))

      above : key < x → (key_place (x ∷ ks) key).there ≡ (key_place ks key).there
      above h = ap yes_of (key_above (x ∷ ks) (rw (lt-ltb key x h) r)) ∙ sym (ap yes_of (key_above ks (lower x ks (omega arith) r)))

      go : Dec (x < key) → Dec (x ≡ key) → (key_place ks key).there ≡ has_key ks key → (key_place (x ∷ ks) key).there ≡ has_key (x ∷ ks) key
      go (yes h) d rec = ap yes_of (key_below x ks h) ∙ rec ∙ other (λ q. omega arith)
      go (no h) (yes q) rec = here q
      go (no h) (no q) rec = above (omega arith) ∙ rec ∙ other q

pub yes_where_it_is : YesWhereItIs
yes_where_it_is n key h = told key (keys_of n) h
