-- The machine's items are the read set's, so a test of all of them, or of any, is one of the read set.
use Rattle.std.specs.Prelude.{◌≡◌, Bool, true, false, cond, ◌&&◌, ◌||◌, ◌⊎◌, ℕ, zero, suc, ◌≤◌, ◌<◌, eqb}
use Rattle.std.proofs.Math.Path.{refl, ap, sym}
use Rattle.std.proofs.Common.{◌∙◌, subst, true≢false, inl, inr, arith, eqb-true}
use Rattle.std.proofs.lemmas.Bool.{false≢true, eqb-false}
use Rattle.std.proofs.Math.Option.{some, none-ne-some, some-injective}
use Rattle.std.proofs.Math.Decide.{ℕ_discrete}
use Rattle.base.specs.Test.{and_both}
use Rattle.base.proofs.Laws.Test.{or_left, or_right, or_cases}
use Rattle.nodes.specs.Found.{Found}
use Rattle.std.specs.Prelude.{Some, None}
use Rattle.operations.specs.Object.{Obj}
use Rattle.protocol.specs.Lists.{Among, all, any}
use Rattle.protocol.proofs.Laws.Lists.{any_among, any_in, all_in}
use Rattle.protocol.proofs.Laws.Items.{find_item}
use Rattle.client.specs.declared.part.Set.{Set}
use Rattle.client.specs.declared.part.Set.TheVariants.{Reads, Writes}
use Rattle.client.specs.Layout.{ClientWord}
use Rattle.client.specs.Record.{number, value_of, number_in_store, record_in_range}
use Rattle.client.specs.Sets.{or_found, count, record_at, number_at, first_of, find}
use Rattle.client.specs.Commit.{is_at}
use Rattle.client.specs.Items.{all_below, any_below, has}
use Rattle.client.specs.Laws.Ranges.{has_read, item_fits, client_fits, fits_read, fits_write}
use Rattle.demand.proofs.Laws.Numbers.{obj_of, number_obj, store_obj, obj_number}
use Rattle.demand.proofs.Laws.Shows.{T, InStore, new_value, item_from, item_of, SlotShown}
use Rattle.protocol.specs.Machine as P

-- ---- tests below a number
pub all_at : (n : ℕ) (f : ℕ → Bool) → all_below n f ≡ true → (i : ℕ) → i < n → f i ≡ true
unfolding all_below
all_at zero f h i l = absurd (omega arith)
all_at (suc n) f h i l = let both = and_both (all_below n f) (f n) h in go (ℕ_discrete i n) both.1 (λ q. all_at n f both.0 i q)
  where
    go : Dec (i ≡ n) → f n ≡ true → (i < n → f i ≡ true) → f i ≡ true
    go (yes e) here rec = subst (λ (x : ℕ). f x ≡ true) (sym e) here
    go (no d) here rec = rec (omega arith)

pub every_below : (n : ℕ) (f : ℕ → Bool) → ((i : ℕ) → i < n → f i ≡ true) → all_below n f ≡ true
unfolding all_below
every_below zero f h = refl
every_below (suc n) f h = rw (every_below n f (λ i l. h i (omega arith)), h n (omega arith))

pub any_at : (n : ℕ) (f : ℕ → Bool) (i : ℕ) → i < n → f i ≡ true → any_below n f ≡ true
unfolding any_below
any_at zero f i l h = absurd (omega arith)
any_at (suc n) f i l h = go (ℕ_discrete i n) (λ q. any_at n f i q h)
  where
    go : Dec (i ≡ n) → (i < n → any_below n f ≡ true) → (any_below n f || f n) ≡ true
    go (yes e) rec = or_right (any_below n f) (f n) (subst (λ (x : ℕ). f x ≡ true) e h)
    go (no d) rec = or_left (any_below n f) (f n) (rec (omega arith))

pub any_one : (n : ℕ) (f : ℕ → Bool) → any_below n f ≡ true → (i : ℕ) × (i < n) × (f i ≡ true)
unfolding any_below
any_one zero f h = absurd (false≢true h)
any_one (suc n) f h = go (or_cases (any_below n f) (f n) h) (any_one n f)
  where
    go : (any_below n f ≡ true) ⊎ (f n ≡ true) → (any_below n f ≡ true → (i : ℕ) × (i < n) × (f i ≡ true)) → (i : ℕ) × (i < suc n) × (f i ≡ true)
    go (inl e) rec = let r = rec e in (r.0, omega (arith, r.1), r.2)
    go (inr e) rec = (n, omega arith, e)

pub same_test : (a b : Bool) → (a ≡ true → b ≡ true) → (b ≡ true → a ≡ true) → a ≡ b
same_test true b f g = sym (f refl)
same_test false true f g = g refl
same_test false false f g = refl

-- ---- a search
pub absent≢at : (i : ℕ) → ◌≡◌ {A = Found} None (Some i) → ⊥
absent≢at i e = true≢false (ap (λ (f : Found). elim f [ Some i ↦ false | None ↦ true ]) e)

pub at_same : (i n : ℕ) → ◌≡◌ {A = Found} (Some i) (Some n) → i ≡ n
at_same i n e = ap (λ (f : Found). elim f [ Some x ↦ x | None ↦ 0 ]) e

pub first_at : (f : ℕ → ℕ) (n x i : ℕ) → first_of f n x ≡ Some i → (i < n) × (f i ≡ x)
unfolding first_of
first_at f zero x i h = absurd (absent≢at i h)
first_at f (suc n) x i h = go (first_of f n x) refl (eqb (f n) x) refl h (first_at f n x)
  where
    go : (z : Found) → first_of f n x ≡ z → (b : Bool) → eqb (f n) x ≡ b → or_found z (cond b (Some n) None) ≡ Some i
        → ((i : ℕ) → first_of f n x ≡ Some i → (i < n) × (f i ≡ x)) → (i < suc n) × (f i ≡ x)
    go (Some q) e b t h rec =
        let r = rec q e in
        let same = at_same q i h in
        subst (λ (w : ℕ). (w < suc n) × (f w ≡ x)) same (omega (arith, r.0), r.1)
    go None e true t h rec = subst (λ (w : ℕ). (w < suc n) × (f w ≡ x)) (at_same n i h) (omega arith, eqb-true (f n) x t)
    go None e false t h rec = absurd (absent≢at i h)

first_none : (f : ℕ → ℕ) (n x : ℕ) → first_of f n x ≡ None → (i : ℕ) → i < n → ¬ (f i ≡ x)
unfolding first_of
first_none f zero x h i l e = absurd (omega arith)
first_none f (suc n) x h i l e = go (first_of f n x) refl (eqb (f n) x) refl h (first_none f n x) (ℕ_discrete i n)
  where
    go : (z : Found) → first_of f n x ≡ z → (b : Bool) → eqb (f n) x ≡ b → or_found z (cond b (Some n) None) ≡ None
        → (first_of f n x ≡ None → (i : ℕ) → i < n → ¬ (f i ≡ x)) → Dec (i ≡ n) → ⊥
    go (Some q) p b t h rec d = absent≢at q (sym h)
    go None p true t h rec d = absent≢at n (sym h)
    go None p false t h rec (yes d) = eqb-false (f n) x t (ap f (sym d) ∙ e)
    go None p false t h rec (no d) = rec p i (omega arith) e

module _ (u : ClientWord → ℕ) where
  -- an object that a set has not
  pub none_at : (s : Set) (x : ℕ) → find u s x ≡ None → (i : ℕ) → i < count u s → ¬ (number_at u s i ≡ x)
  unfolding find
  none_at s x h = first_none (number_at u s) (count u s) x h

  pub found_at : (s : Set) (x i : ℕ) → find u s x ≡ Some i → (i < count u s) × (number_at u s i ≡ x)
  unfolding find
  found_at s x i h = first_at (number_at u s) (count u s) x i h

  -- an object that a set has
  pub has_at : (s : Set) (x : ℕ) → has u s x ≡ true → (i : ℕ) × (find u s x ≡ Some i)
  unfolding has
  has_at s x h = go (find u s x) refl
    where
      go : (z : Found) → find u s x ≡ z → (i : ℕ) × (find u s x ≡ Some i)
      go (Some i) e = (i, e)
      go None e = absurd (false≢true (ap is_at (sym e) ∙ h))

  pub at_has : (s : Set) (x i : ℕ) → find u s x ≡ Some i → has u s x ≡ true
  unfolding has
  at_has s x i e = ap is_at e

-- ---- items
module _ (k j slots : ℕ) (al : slots ≤ 1024) (u : ClientWord → ℕ) (fit : client_fits slots u ≡ true) where
  -- what an item in range is known by
  judged : (s : Set) (i : ℕ) → item_fits slots u s i ≡ true
      → InStore k j slots (obj_of (number_at u s i)) × (record_in_range slots (number_at u s i) (record_at u s i) ≡ true) × (has_read u s (number_at u s i) ≡ true)
  unfolding item_fits
  judged s i h =
      let x = number_at u s i in
      let f = and_both (number_in_store slots x) (record_in_range slots x (record_at u s i) && has_read u s x) h in
      let g = and_both (record_in_range slots x (record_at u s i)) (has_read u s x) f.1 in
      (sym (store_obj slots x) ∙ f.0, g.0, g.1)

  pub read_in : (i : ℕ) → i < count u Reads → InStore k j slots (obj_of (number_at u Reads i))
  read_in i l = (judged Reads i (fits_read slots u fit i l)).0

  pub written_in : (i : ℕ) → i < count u Writes → InStore k j slots (obj_of (number_at u Writes i)) × (has u Reads (number_at u Writes i) ≡ true)
  unfolding has has_read
  written_in i l = let f = judged Writes i (fits_write slots u fit i l) in (f.0, f.2)

  pub written_fits : (i : ℕ) → i < count u Writes → record_in_range slots (number_at u Writes i) (record_at u Writes i) ≡ true
  written_fits i l = (judged Writes i (fits_write slots u fit i l)).1

  -- the item at place i of the read set, for the object o
  abbrev item_for : Obj → ℕ → P.Item (T k j slots)
  item_for o i = record {
    obj = o;
    old = value_of o (record_at u Reads i);
    version = (record_at u Reads i).version;
    written = has u Writes (number o);
    new = new_value k j slots u o (value_of o (record_at u Reads i)) (find u Writes (number o));
  }

  abbrev pub item_at : ℕ → P.Item (T k j slots)
  item_at i = item_for (obj_of (number_at u Reads i)) i

  module _ (y : P.Slot (T k j slots)) (h : SlotShown k j slots u y) where
    -- each place of the read set is an item of the machine's
    pub item_there : (i : ℕ) → i < count u Reads → P.find (T k j slots) y.items (obj_of (number_at u Reads i)) ≡ some (item_at i)
    unfolding item_of
    item_there i l =
        let o = obj_of (number_at u Reads i) in
        h.item_as o (read_in i l) ∙ ap (item_from k j slots u o) (ap (find u Reads) (number_obj (number_at u Reads i)) ∙ h.read_found i l)

    -- and each of these is one
    pub item_from_read : (a : P.Item (T k j slots)) → Among a y.items → (i : ℕ) × (i < count u Reads) × (a ≡ item_at i)
    unfolding item_of count
    item_from_read a q = go (find u Reads (number a.obj)) refl
      where
        shown : item_from k j slots u a.obj (find u Reads (number a.obj)) ≡ some a
        shown = sym (h.item_as a.obj (h.inside a q)) ∙ h.unique a q

        go : (z : Found) → find u Reads (number a.obj) ≡ z → (i : ℕ) × (i < count u Reads) × (a ≡ item_at i)
        go None e = absurd (none-ne-some a (ap (item_from k j slots u a.obj) (sym e) ∙ shown))
        go (Some i) e =
            let f = found_at u Reads (number a.obj) i e in
            let same : obj_of (number_at u Reads i) ≡ a.obj = ap obj_of f.1 ∙ obj_number slots al a.obj (h.inside a q) in
            let here : item_for a.obj i ≡ a = some-injective (item_for a.obj i) a (ap (item_from k j slots u a.obj) (sym e) ∙ shown) in
            (i, f.0, sym here ∙ ap (λ (o : Obj). item_for o i) (sym same))

    pub any_items : (f : P.Item (T k j slots) → Bool) → any f y.items ≡ any_below (count u Reads) (λ i. f (item_at i))
    any_items f = same_test (any f y.items) (any_below (count u Reads) (λ i. f (item_at i))) there back
      where
        there : any f y.items ≡ true → any_below (count u Reads) (λ i. f (item_at i)) ≡ true
        there e =
            let r = any_in f y.items e in
            let w = item_from_read r.0 r.1 in
            any_at (count u Reads) (λ i. f (item_at i)) w.0 w.1 (ap f (sym w.2) ∙ r.2)

        back : any_below (count u Reads) (λ i. f (item_at i)) ≡ true → any f y.items ≡ true
        back e =
            let r = any_one (count u Reads) (λ i. f (item_at i)) e in
            any_among f y.items (item_at r.0) r.2
            (find_item (T k j slots) y.items (obj_of (number_at u Reads r.0)) (item_at r.0) (item_there r.0 r.1)).0

    pub all_items : (f : P.Item (T k j slots) → Bool) → ((i : ℕ) → i < count u Reads → f (item_at i) ≡ true) → all f y.items ≡ true
    all_items f g = all_in f y.items (λ a q. let w = item_from_read a q in ap f w.2 ∙ g w.0 w.1)
