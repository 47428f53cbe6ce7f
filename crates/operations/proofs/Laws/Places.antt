-- Where the keys of a node rise, its own functions, which go by the place of a key, are the map's; and the child that a key
-- leads to is the one whose part the key is in.
use Rattle.std.specs.Prelude.{◌≡◌, Bool, cond, not, ◌⊎◌, T, leb}
use Rattle.std.proofs.Math.Path.{refl, ap, subst}
use Rattle.std.proofs.Common.{sym, ◌∙◌, inl, inr, le→leb, leb→le}
use Rattle.std.proofs.Math.Bool.{true, false}
use mathlib.Core.List.{List, [], ◌∷◌, ◌++◌, reverse}
use Rattle.std.proofs.Math.Option.{some}
use Prim.Native.Nat.{ℕ, zero, suc, ◌+◌, ◌-◌, ◌<◌, ◌≤◌}
use Rattle.std.proofs.Math.Decide.{ℕ_discrete, dec_lt, dec_le}
use native.Mathlib.Omega.{arith}
use Rattle.std.proofs.Math.Dec.{not_T, leb-suc-suc}
use Rattle.std.proofs.Math.ListN.{length, take, drop}
use Rattle.base.specs.Test.{ifd, one_if}
use Rattle.base.proofs.Laws.Test.{ifd_yes, ifd_no}
use Rattle.nodes.specs.Lists.{insert_at, remove_at}
use Rattle.nodes.specs.declared.standing.KeyPlace.{KeyPlace}
use Rattle.nodes.specs.Place.{place, there_at, key_place}
use Rattle.nodes.proofs.Laws.Place.{later, counted, none_counted, key_below, key_here, key_above}
use Rattle.operations.specs.Map.{look, set_key, remove_key}
use Rattle.operations.specs.Entry.{Entries, keys, first_key_or, Cut, cut_at, cut, place_in, value_at, value_in, with_at, with_pair, under, above_in, below_in}
use Rattle.operations.proofs.Laws.Chain.{Rising, above_of, ren_keys}
use Rattle.operations.proofs.Laws.Picked.{picked}
use Rattle.operations.specs.Chain.{ren}

-- COUNTS of keys
counts : (b : Bool) (n : ℕ) → T b → one_if b + n ≡ suc n
counts true n t = omega arith
counts false n t = absurd t

counts_not : (b : Bool) (n : ℕ) → T (not b) → one_if b + n ≡ n
counts_not true n t = absurd t
counts_not false n t = omega arith

module _ (key : ℕ) where
  pub place_none : (a z : ℕ) (ks : List ℕ) → key < a → Rising a z ks → place ks key ≡ 0
  place_none a z ks h r = none_counted key ks (above_of key a z ks h r)

  under_lt : (x : ℕ) (ks : List ℕ) → x < key → under (x ∷ ks) key ≡ suc (under ks key)
  unfolding under
  under_lt x ks h = counts (leb (suc x) key) (under ks key) (le→leb (suc x) key h)

  under_ge : (x : ℕ) (ks : List ℕ) → ¬ (x < key) → under (x ∷ ks) key ≡ under ks key
  unfolding under
  under_ge x ks h = counts_not (leb (suc x) key) (under ks key) (not_T (leb (suc x) key) (λ t. h (leb→le (suc x) key t)))

  under_none : (a z : ℕ) (ks : List ℕ) → key ≤ a → Rising a z ks → under ks key ≡ 0
  unfolding under
  under_none a z [] h r = refl
  under_none a z (x ∷ ks) h r = under_ge x ks (λ q. absurd (omega (arith, q, r.0, h))) ∙ under_none (suc x) z ks (omega (arith, r.0, h)) r.1

  under_length : (ks : List ℕ) → under ks key ≤ length ks
  unfolding under
  under_length [] = omega arith
  under_length (x ∷ ks) = go (leb (suc x) key) (under_length ks)
    where
      go : (b : Bool) → under ks key ≤ length ks → one_if b + under ks key ≤ suc (length ks)
      go true h = omega (arith, h)
      go false h = omega (arith, h)

-- INNER NODES
module _ {A : Type 0} where
  cut_at_app : (i : ℕ) (e : ℕ × A) (es : List (ℕ × A)) → e ∷ es ≡ (cut_at i e es).0 ++ (cut_at i e es).1 ∷ (cut_at i e es).2
  cut_at_app zero e es = refl
  cut_at_app (suc i) e [] = refl
  cut_at_app (suc i) e (f ∷ es) = ap (λ r. e ∷ r) (cut_at_app i f es)

  pub cut_app : (key : ℕ) (e : ℕ × A) (es : List (ℕ × A)) → e ∷ es ≡ (cut key e es).0 ++ (cut key e es).1 ∷ (cut key e es).2
  cut_app key e es = cut_at_app (place (keys es) key) e es

  cut_on : (key : ℕ) (e f : ℕ × A) (es : List (ℕ × A)) → f.0 ≤ key → cut key e (f ∷ es) ≡ (e ∷ (cut key f es).0, (cut key f es).1, (cut key f es).2)
  cut_on key e f es h = ap (λ i. cut_at i e (f ∷ es)) (counted key f.0 (keys es) h)

  cut_here : (key a z : ℕ) (e : ℕ × A) (es : List (ℕ × A)) → key < a → Rising a z (keys es) → cut key e es ≡ ([], e, es)
  cut_here key a z e es h r = ap (λ i. cut_at i e es) (place_none key a z (keys es) h r)

  -- the entry's key is not above, and the next entry's key is
  pub cut_le : (key a z : ℕ) (e : ℕ × A) (es : List (ℕ × A)) → Rising a z (keys es) → e.0 ≤ key → (cut key e es).1.0 ≤ key
  unfolding place
  cut_le key a z e [] r h = h
  cut_le key a z e (f ∷ es) r h = go (dec_le f.0 key) (cut_le key (suc f.0) z f es r.1)
    where
      go : Dec (f.0 ≤ key) → (f.0 ≤ key → (cut key f es).1.0 ≤ key) → (cut key e (f ∷ es)).1.0 ≤ key
      go (yes p) rec = subst (λ c. c.1.0 ≤ key) (sym (cut_on key e f es p)) (rec p)
      go (no q) rec = subst (λ c. c.1.0 ≤ key) (sym (cut_here key f.0 z e (f ∷ es) (omega (arith, q)) (omega arith, r.1))) h

  pub cut_gt : (key a z b : ℕ) (e : ℕ × A) (es : List (ℕ × A)) → Rising a z (keys es) → key < b → key < first_key_or (cut key e es).2 b
  unfolding place
  cut_gt key a z b e [] r h = h
  cut_gt key a z b e (f ∷ es) r h = go (dec_le f.0 key) (cut_gt key (suc f.0) z b f es r.1 h)
    where
      go : Dec (f.0 ≤ key) → key < first_key_or (cut key f es).2 b → key < first_key_or (cut key e (f ∷ es)).2 b
      go (yes p) rec = subst (λ c. key < first_key_or c.2 b) (sym (cut_on key e f es p)) rec
      go (no q) rec = subst (λ c. key < first_key_or c.2 b) (sym (cut_here key f.0 z e (f ∷ es) (omega (arith, q)) (omega arith, r.1))) (omega (arith, q))

module _ {A B : Type 0} (w : A → B) where
  abbrev pub ren_of : Cut A → Cut B
  ren_of c = (ren w c.0, (c.1.0, w c.1.1), ren w c.2)

  cut_at_ren : (i : ℕ) (e : ℕ × A) (es : List (ℕ × A)) → cut_at i (e.0, w e.1) (ren w es) ≡ ren_of (cut_at i e es)
  cut_at_ren zero e es = refl
  cut_at_ren (suc i) e [] = refl
  cut_at_ren (suc i) e (f ∷ es) = ap {B = Cut B} (λ r. ((e.0, w e.1) ∷ r.0, r.1, r.2)) (cut_at_ren i f es)

  pub ren_cut : (key : ℕ) (e : ℕ × A) (es : List (ℕ × A)) → cut key (e.0, w e.1) (ren w es) ≡ ren_of (cut key e es)
  ren_cut key e es = ap (λ ks. cut_at (place ks key) (e.0, w e.1) (ren w es)) (ren_keys w es) ∙ cut_at_ren (place (keys es) key) e es

-- LEAVES
module _ (key : ℕ) where
  abbrev Side : ℕ → Type 0
  Side x = (x < key) ⊎ ((x ≡ key) ⊎ (key < x))

  side : (x : ℕ) → Side x
  side x = go (dec_lt x key) (ℕ_discrete x key)
    where
      go : Dec (x < key) → Dec (x ≡ key) → Side x
      go (yes p) d = inl p
      go (no p) (yes q) = inr (inl q)
      go (no p) (no q) = inr (inr (omega (arith, p, q)))

  -- the place of the key where the first key is below, equal, above
  module _ (z : ℕ) (e : ℕ × ℕ) (es : Entries) (r : Rising (suc e.0) z (keys es)) where
    in_later : e.0 < key → place_in key (e ∷ es) ≡ later (place_in key es)
    in_later h = key_below key e.0 (keys es) h

    in_first : e.0 ≡ key → place_in key (e ∷ es) ≡ record { place = 1; there = true }
    in_first h = key_here key e.0 (keys es) h (above_of e.0 (suc e.0) z (keys es) (omega arith) r)

    in_none : key < e.0 → place_in key (e ∷ es) ≡ record { place = 0; there = false }
    in_none h = key_above key (keys (e ∷ es)) (above_of key e.0 z (keys (e ∷ es)) h (omega arith, r))

    in_rest : key < e.0 → record { place = 0; there = false } ≡ place_in key es
    in_rest h = sym (key_above key (keys es) (above_of key (suc e.0) z (keys es) (omega arith) r))

  -- an answer by the place i
  abbrev at : Entries → ℕ → KeyPlace
  at es i = record { place = i; there = there_at (keys es) key i }

  pub look_is : (a z : ℕ) (es : Entries) → Rising a z (keys es) → value_in key es ≡ look key es
  unfolding place key_place there_at
  look_is a z [] r = refl
  look_is a z (e ∷ es) r = go (side e.0) (look_is (suc e.0) z es r.1)
    where
      shift : (i : ℕ) → value_at (e ∷ es) (later (at es i)) ≡ value_at es (at es i)
      shift zero = refl
      shift (suc i) =
          let m : suc (suc i) - 1 ≡ suc i = omega arith in
          let n : suc i - 1 ≡ i = omega arith in
          rw (m, n)

      other : ¬ (e.0 ≡ key) → look key es ≡ look key (e ∷ es)
      other q = sym (ifd_no (ℕ_discrete e.0 key) (some e.1) (look key es) q)

      go : Side e.0 → value_in key es ≡ look key es → value_in key (e ∷ es) ≡ look key (e ∷ es)
      go (inl h) rec = ap (value_at (e ∷ es)) (in_later z e es r.1 h) ∙ shift (place (keys es) key) ∙ rec ∙ other (λ q. absurd (omega (arith, q, h)))
      go (inr (inl h)) rec = ap (value_at (e ∷ es)) (in_first z e es r.1 h) ∙ sym (ifd_yes (ℕ_discrete e.0 key) (some e.1) (look key es) h)
      go (inr (inr h)) rec = ap (value_at (e ∷ es)) (in_none z e es r.1 h) ∙ ap (value_at es) (in_rest z e es r.1 h) ∙ rec ∙ other (λ q. absurd (omega (arith, q, h)))

  pub put_is : (v a z : ℕ) (es : Entries) → Rising a z (keys es) → with_pair key v es ≡ set_key key v es
  unfolding place key_place there_at insert_at
  put_is v a z [] r = refl
  put_is v a z (e ∷ es) r = go (side e.0) (put_is v (suc e.0) z es r.1)
    where
      new : Entries
      new = (key, v) ∷ e ∷ es

      shift : (i : ℕ) → with_at key v (e ∷ es) (later (at es i)) ≡ e ∷ with_at key v es (at es i)
      shift zero = refl
      shift (suc i) = by (there_at (keys es) key (suc i))
        where
          by : (t : Bool) → with_at key v (e ∷ es) (record { place = suc (suc i); there = t }) ≡ e ∷ with_at key v es (record { place = suc i; there = t })
          by true =
              let m : suc (suc i) - 1 ≡ suc i = omega arith in
              let n : suc i - 1 ≡ i = omega arith in
              rw (m, n)
          by false = refl

      go : Side e.0 → with_pair key v es ≡ set_key key v es → with_pair key v (e ∷ es) ≡ set_key key v (e ∷ es)
      go (inl h) rec = ap (with_at key v (e ∷ es)) (in_later z e es r.1 h) ∙ shift (place (keys es) key) ∙ ap (λ q. e ∷ q) rec
          ∙ sym (ifd_yes (dec_lt e.0 key) (e ∷ set_key key v es) (ifd (ℕ_discrete e.0 key) ((key, v) ∷ es) new) h)
      go (inr (inl h)) rec = ap (with_at key v (e ∷ es)) (in_first z e es r.1 h)
          ∙ sym (ifd_no (dec_lt e.0 key) (e ∷ set_key key v es) (ifd (ℕ_discrete e.0 key) ((key, v) ∷ es) new) (λ q. absurd (omega (arith, q, h)))
          ∙ ifd_yes (ℕ_discrete e.0 key) ((key, v) ∷ es) new h)
      go (inr (inr h)) rec = ap (with_at key v (e ∷ es)) (in_none z e es r.1 h)
          ∙ sym (ifd_no (dec_lt e.0 key) (e ∷ set_key key v es) (ifd (ℕ_discrete e.0 key) ((key, v) ∷ es) new) (λ q. absurd (omega (arith, q, h)))
          ∙ ifd_no (ℕ_discrete e.0 key) ((key, v) ∷ es) new (λ q. absurd (omega (arith, q, h))))

  -- the entries without the one at a place, if the key is there
  abbrev pub removed : Entries → KeyPlace → Entries
  removed es p = cond p.there (remove_at (p.place - 1) es) es

  pub del_is : (a z : ℕ) (es : Entries) → Rising a z (keys es) → removed es (place_in key es) ≡ remove_key key es
  unfolding place key_place there_at remove_at
  del_is a z [] r = refl
  del_is a z (e ∷ es) r = go (side e.0) (del_is (suc e.0) z es r.1)
    where
      shift : (i : ℕ) → removed (e ∷ es) (later (at es i)) ≡ e ∷ removed es (at es i)
      shift zero = refl
      shift (suc i) = by (there_at (keys es) key (suc i))
        where
          by : (t : Bool) → removed (e ∷ es) (record { place = suc (suc i); there = t }) ≡ e ∷ removed es (record { place = suc i; there = t })
          by true =
              let m : suc (suc i) - 1 ≡ suc i = omega arith in
              let n : suc i - 1 ≡ i = omega arith in
              let o : suc i + 1 ≡ suc (i + 1) = omega arith in
              rw (m, n, o)
          by false = refl

      other : ¬ (e.0 ≡ key) → e ∷ remove_key key es ≡ remove_key key (e ∷ es)
      other q = sym (ifd_no (ℕ_discrete e.0 key) es (e ∷ remove_key key es) q)

      go : Side e.0 → removed es (place_in key es) ≡ remove_key key es → removed (e ∷ es) (place_in key (e ∷ es)) ≡ remove_key key (e ∷ es)
      go (inl h) rec = ap (removed (e ∷ es)) (in_later z e es r.1 h) ∙ shift (place (keys es) key) ∙ ap (λ q. e ∷ q) rec ∙ other (λ q. absurd (omega (arith, q, h)))
      go (inr (inl h)) rec = ap (removed (e ∷ es)) (in_first z e es r.1 h) ∙ sym (ifd_yes (ℕ_discrete e.0 key) es (e ∷ remove_key key es) h)
      go (inr (inr h)) rec = ap (removed (e ∷ es)) (in_none z e es r.1 h) ∙ ap (λ q. e ∷ q) (ap (removed es) (in_rest z e es r.1 h) ∙ rec)
          ∙ other (λ q. absurd (omega (arith, q, h)))

  -- what is picked from a leaf's pairs by a bound for their keys
  pub drop_is : (a z : ℕ) (es : Entries) → Rising a z (keys es) → drop (under (keys es) key) es ≡ picked (dec_le key) es
  unfolding under
  drop_is a z [] r = refl
  drop_is a z (e ∷ es) r = go (dec_le key e.0) (drop_is (suc e.0) z es r.1)
    where
      go : (d : Dec (key ≤ e.0)) → drop (under (keys es) key) es ≡ picked (dec_le key) es
          → drop (under (keys (e ∷ es)) key) (e ∷ es) ≡ ifd d (e ∷ picked (dec_le key) es) (picked (dec_le key) es)
      go (yes h) rec = ap (λ i. drop i (e ∷ es)) (under_none key e.0 z (keys (e ∷ es)) h (omega arith, r.1))
          ∙ ap (λ l. e ∷ l) (ap (λ i. drop i es) (sym (under_none key (suc e.0) z (keys es) (omega (arith, h)) r.1)) ∙ rec)
      go (no h) rec = ap (λ i. drop i (e ∷ es)) (under_lt key e.0 (keys es) (omega (arith, h))) ∙ rec

  pub take_is : (a z : ℕ) (es : Entries) → Rising a z (keys es) → take (under (keys es) key) es ≡ picked (λ x. dec_lt x key) es
  unfolding under
  take_is a z [] r = refl
  take_is a z (e ∷ es) r = go (dec_lt e.0 key) (take_is (suc e.0) z es r.1)
    where
      go : (d : Dec (e.0 < key)) → take (under (keys es) key) es ≡ picked (λ x. dec_lt x key) es
          → take (under (keys (e ∷ es)) key) (e ∷ es) ≡ ifd d (e ∷ picked (λ x. dec_lt x key) es) (picked (λ x. dec_lt x key) es)
      go (yes h) rec = ap (λ i. take i (e ∷ es)) (under_lt key e.0 (keys es) h) ∙ ap (λ l. e ∷ l) rec
      go (no h) rec = ap (λ i. take i (e ∷ es)) (under_none key e.0 z (keys (e ∷ es)) (omega (arith, h)) (omega arith, r.1))
          ∙ ap (λ i. take i es) (sym (under_none key (suc e.0) z (keys es) (omega (arith, h)) r.1)) ∙ rec

-- the keys not above a key are those below the next number
place_under : (key : ℕ) (ks : List ℕ) → place ks key ≡ under ks (suc key)
unfolding place under
place_under key [] = refl
place_under key (x ∷ ks) = ap (λ i. one_if (leb x key) + i) (place_under key ks) ∙ ap (λ b. one_if b + under ks (suc key)) (sym (leb-suc-suc x key))

pub above_is : (key a z : ℕ) (es : Entries) → Rising a z (keys es) → above_in key es ≡ picked (dec_le (suc key)) es
above_is key a z es r = ap (λ i. drop i es) (place_under key (keys es)) ∙ drop_is (suc key) a z es r

pub below_is : (key a z : ℕ) (es : Entries) → Rising a z (keys es) → below_in key es ≡ reverse (picked (λ x. dec_lt x key) es)
below_is key a z es r = ap reverse (take_is key a z es r)
