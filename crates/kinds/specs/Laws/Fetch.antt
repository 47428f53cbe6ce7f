-- Laws of a fetch's check: "A fetch checks at that server what the transaction has read".
use Rattle.std.specs.Prelude.{◌≡◌, Bool, false, cond, not, length, take, drop, None}
use Rattle.std.proofs.Math.Path.{refl, sym, ap, ap₂}
use Rattle.std.proofs.Common.{◌∙◌, subst}
use Rattle.std.proofs.Math.Bool.{true}
use mathlib.Core.List.{List, [], ◌∷◌, ◌++◌, map, append_assoc, append-nil}
use Rattle.std.proofs.Math.Option.{Option}
use Prim.Native.Nat.{ℕ, zero, suc, ◌+◌, ◌-◌, ◌≤◌, ◌<◌}
use native.Mathlib.Omega.{arith}
use borrow.Author.Tests.{lt-ltb, le-ltb, le-leb, lt-leb, not-true, not-false}
use Rattle.std.proofs.Math.ListN.{get_or}
use Rattle.std.proofs.Math.Seq.{get_or-take, get_or-drop}
use Rattle.nodes.specs.declared.object.Object.{Object}
use Rattle.server.specs.declared.lock.Use.TheVariants.{Fetch}
use Rattle.server.specs.declared.check.Finding.{Finding}
use Rattle.server.specs.declared.check.Finding.TheVariants.{Busy}
use Rattle.nodes.specs.Object.{object_of}
use Rattle.server.specs.Object.{Has}
use Rattle.server.specs.Check.{can_check, standing, mark_finding, checked, held, finding_number}
use Rattle.nodes.specs.declared.node.Node.{Node}
use Rattle.client.specs.declared.part.Set.TheVariants.{Reads}
use Rattle.client.specs.Layout.{ClientWord, reads_count}
use Rattle.client.specs.Sets.{count}
use Rattle.client.specs.Have.{copied}
use Rattle.client.specs.Lent.{InUse, used_in}
use Rattle.client.specs.Laws.Lent.{length_used}
use Rattle.steps.specs.declared.sizes.Sizes.{Sizes}
use Rattle.steps.specs.Uses.{Item, each, item_of, read_items, used_items, least, reason_of, deciding}
use Rattle.steps.specs.Judge.{lock_fits}
use Rattle.steps.specs.Servers.{there}
use Rattle.kinds.specs.Parts.{stored_in}
use Rattle.kinds.specs.Items.{as_item, read_item}
use Rattle.kinds.specs.Judge.{of_client, of_server}
use Rattle.kinds.specs.Findings.{as_fault, later, lock_reason, compared_at}
use Rattle.kinds.specs.Laws.Findings.{by_lock, settled, unsettled, some_fault, least_upto, least_first, least_next}
use Rattle.kinds.specs.Fetch.{used_item, known_at, AllKnown, fetch_fault, items_found, reached, room_of, gate_of}
use Rattle.kinds.specs.declared.items.Item as code

-- ---- items by their number in the list
module _ {A : Type 0} where
  each_same : (n : ℕ) (f g : ℕ → A) → ((i : ℕ) → i < n → f i ≡ g i) → each n f ≡ each n g
  unfolding each
  each_same zero f g e = refl
  each_same (suc n) f g e = rw (each_same n f g (λ i l. e i (omega arith)), e n (omega arith))

  each_more : (n k : ℕ) (f : ℕ → A) → each n f ++ each k (λ i. f (n + i)) ≡ each (n + k) f
  unfolding each
  each_more n zero f = let e : n + 0 ≡ n = omega arith in rw e (append-nil (each n f))
  each_more n (suc k) f =
      let e : n + suc k ≡ suc (n + k) = omega arith in
      rw e (sym (append_assoc (each n f) (each k (λ i. f (n + i))) (f (n + k) ∷ [])) ∙ ap (λ (l : List A). l ++ (f (n + k) ∷ [])) (each_more n k f))

  each_first : (n : ℕ) (f : ℕ → A) → f 0 ∷ each n (λ i. f (suc i)) ≡ each (suc n) f
  unfolding each
  each_first zero f = refl
  each_first (suc n) f = ap (λ (l : List A). l ++ (f (suc n) ∷ [])) (each_first n f)

  map_each : (g : ℕ → A) (us : List ℕ) → map g us ≡ each (length us) (λ i. g (get_or us i 0))
  unfolding each
  map_each g [] = refl
  map_each g (x ∷ us) = ap (λ (l : List A). g x ∷ l) (map_each g us) ∙ each_first (length us) (λ i. g (get_or (x ∷ us) i 0))

module _ (m : ClientWord → ℕ) (us : List ℕ) where
  pub known_read : (i : ℕ) → i < count m Reads → read_item m i ≡ known_at m us i
  unfolding known_at
  known_read i h = sym (rw (lt-ltb i (count m Reads) h))

  known_used : (i : ℕ) → used_item m (get_or us i 0) ≡ known_at m us (count m Reads + i)
  unfolding known_at
  known_used i =
      let l : count m Reads ≤ count m Reads + i = omega arith in
      let e : count m Reads + i - count m Reads ≡ i = omega arith in
      sym (rw (le-ltb (count m Reads + i) (count m Reads) l, e))

  known_items : read_items m ++ used_items m us ≡ each (count m Reads + length us) (known_at m us)
  unfolding read_items used_items read_item used_item
  known_items =
      ap₂ (λ (a b : List Item). a ++ b)
      (each_same (count m Reads) (λ i. read_item m i) (known_at m us) known_read)
      (map_each (λ x. used_item m x) us ∙ each_same (length us) (λ i. used_item m (get_or us i 0)) (λ i. known_at m us (count m Reads + i)) (λ i l. known_used i))
      ∙ each_more (count m Reads) (length us) (known_at m us)

-- ---- the parts of the code
pub used_by : (m : ClientWord → ℕ) (x : ℕ) (n : Node) (r : Item) → n ≡ (copied m x).node → r ≡ item_of m x n → r ≡ used_item m x
unfolding used_item
used_by m x n r e q = q ∙ rw e

module _ (m : ClientWord → ℕ) (u : List ℕ) (n i : ℕ) (en : n ≡ count m Reads) (r : Item) where
  pub known_there : i < n → r ≡ read_item m i → r ≡ known_at m (used_in u) i
  known_there h q = q ∙ known_read m (used_in u) i (rw (← en) h)

  pub known_copy : InUse u → n ≤ i → i < count m Reads + get_or u 0 0 → r ≡ used_item m (get_or u (i - n + 1) 0) → r ≡ known_at m (used_in u) i
  unfolding used_in
  known_copy f h l q =
      let j : i - n < get_or u 0 0 = omega arith in
      let e : get_or (take (get_or u 0 0) (drop 1 u)) (i - n) 0 ≡ get_or u (1 + (i - n)) 0 = get_or-take (get_or u 0 0) (drop 1 u) (i - n) 0 j ∙ get_or-drop 1 u (i - n) 0 in
      let o : i - n + 1 ≡ 1 + (i - n) = omega arith in
      let v : count m Reads + (i - n) ≡ i = omega arith in
      q ∙ rw (o, ← e) (known_used m (used_in u) (i - n) ∙ rw v)

pub copy_small : (m : ClientWord → ℕ) (u : List ℕ) (n i : ℕ) → n ≡ count m Reads → InUse u → n ≤ i → i < count m Reads + get_or u 0 0 → get_or u (i - n + 1) 0 < 16385
copy_small m u n i en f h l = f.small (i - n) (omega arith)

module _ (z : Sizes) (w : List ℕ) (c s : ℕ) (i : code.Item) where
  pub fault_unkind : not i.known ≡ true → 10 ≡ fetch_fault z w c s (as_item i)
  unfolding fetch_fault
  fault_unkind t = sym (rw (not-true i.known t))

  module _ (r : not i.known ≡ false) (o : Object) (po : o ≡ object_of i.number) (b : Bool) (pb : b ≡ can_check s o i.inner) where
    pub fault_elsewhere : not b ≡ true → 0 ≡ fetch_fault z w c s (as_item i)
    unfolding fetch_fault
    fault_elsewhere t = sym (rw (not-false i.known r, ← po, ← pb, not-true b t))

    module _ (t : not b ≡ false) where
      can : can_check s (object_of i.number) i.inner ≡ true
      can = ap (λ (x : Object). can_check s x i.inner) (sym po) ∙ sym pb ∙ not-false b t

      abbrev fits : Bool
      fits = lock_fits z (stored_in z w) s i.number

      abbrev busy : Bool
      busy = held (object_of i.number) c Fetch (of_server z w s)

      abbrev marks : Finding
      marks = mark_finding (object_of i.number) (standing (object_of i.number) i.inner (of_server z w s)) i.mark

      at_fault : cond fits (cond true (finding_number (cond busy Busy marks)) (cond busy 2 0)) 10 ≡ fetch_fault z w c s (as_item i)
      unfolding fetch_fault checked
      at_fault = sym (rw (not-false i.known r, can))

      pub fault_open : (y : ℕ) → 0 ≡ lock_reason z w c s i.number Fetch → y ≡ compared_at z w s (as_item i) → y ≡ fetch_fault z w c s (as_item i)
      unfolding compared_at
      fault_open y h k = k ∙ settled fits busy true marks (sym h) ∙ at_fault

      pub fault_held : (k : ℕ) → k ≡ lock_reason z w c s i.number Fetch → ¬ (k ≡ 0) → k ≡ fetch_fault z w c s (as_item i)
      fault_held k h d = h ∙ unsettled fits busy true marks (λ n. d (h ∙ n)) ∙ at_fault

pub ruleset fetch_items_exits = (used_by, known_there, known_copy, copy_small, fault_unkind, fault_elsewhere, fault_open, fault_held, some_fault)

-- ---- over all objects read, one after another
module _ (z : Sizes) (w : List ℕ) (c s : ℕ) (u : List ℕ) where
  abbrev N : ℕ
  N = count (of_client z w c) Reads + length (used_in u)

  whole_count : (n : ℕ) → InUse u → n ≡ count (of_client z w c) Reads + get_or u 0 0 → n ≡ N
  whole_count n f e = e ∙ ap (λ (k : ℕ). count (of_client z w c) Reads + k) (sym (length_used u f))

  pub known_has : (n i : ℕ) (t : code.Item) → InUse u → AllKnown z w c (used_in u) → n ≡ count (of_client z w c) Reads + get_or u 0 0 → i < n
      → as_item t ≡ known_at (of_client z w c) (used_in u) i → Has z.slots (object_of t.number)
  known_has n i t f k e h q =
      subst (λ (x : ℕ). Has z.slots (object_of x)) (sym (ap (λ (v : Item). v.number) q)) (k.known i (rw (← whole_count n f e) h))

  -- ---- the fault of the least object
  unfoldable pub known_found : ℕ → Option (ℕ × ℕ)
  known_found n = least_upto (fetch_fault z w c s) (known_at (of_client z w c) (used_in u)) n

  pub known_found_none : as_fault None ≡ known_found 0
  unfolding known_found
  known_found_none = least_first (fetch_fault z w c s) (known_at (of_client z w c) (used_in u))

  pub known_found_next : (i y : ℕ) (t : code.Item) (f g : Option (ℕ × ℕ)) → f ≡ known_found i → as_item t ≡ known_at (of_client z w c) (used_in u) i
      → y ≡ fetch_fault z w c s (as_item t) → g ≡ later f t.number y → g ≡ known_found (i + 1)
  unfolding known_found
  known_found_next = least_next (fetch_fault z w c s) (known_at (of_client z w c) (used_in u))

  pub known_found_all : (i n r : ℕ) (f : Option (ℕ × ℕ)) → InUse u → i ≤ n → n ≤ i → n ≡ count (of_client z w c) Reads + get_or u 0 0 → f ≡ known_found i
      → r ≡ reason_of f → r ≡ items_found z w c s (used_in u)
  unfolding known_found least_upto items_found deciding fetch_fault
  known_found_all i n r f used a b e h k =
      let q : i ≡ N = omega (arith, whole_count n used e) in
      k ∙ ap reason_of h
      ∙ rw q (sym (ap (λ (l : List Item). reason_of (least (map (λ v. (v.number, fetch_fault z w c s v)) l))) (known_items (of_client z w c) (used_in u))))

pub ruleset finding_all = (known_has, known_found_none, known_found_next, known_found_all)

module _ (z : Sizes) (w : List ℕ) (c : ℕ) (u : List ℕ) (f : InUse u) (r : ℕ) (pr : r ≡ of_client z w c reads_count) where
  pub room_full : 96 ≤ r + get_or u 0 0 → 4 ≡ room_of z w c (used_in u)
  room_full l = rw (← pr, length_used u f, le-leb 96 (r + get_or u 0 0) l)

  pub room_left : r + get_or u 0 0 < 96 → 0 ≡ room_of z w c (used_in u)
  room_left l = rw (← pr, length_used u f, lt-leb 96 (r + get_or u 0 0) l)

-- a lock and who holds it, and then y
gate_open : (fits held : Bool) (y : ℕ) → by_lock fits held ≡ 0 → y ≡ cond fits (cond held 2 y) 10
gate_open true true y e = absurd (let z : 2 ≡ 0 = e in omega arith)
gate_open true false y e = refl
gate_open false held y e = absurd (let z : 10 ≡ 0 = e in omega arith)

gate_held : (fits held : Bool) (y : ℕ) → ¬ (by_lock fits held ≡ 0) → by_lock fits held ≡ cond fits (cond held 2 y) 10
gate_held true true y d = refl
gate_held true false y d = absurd (d refl)
gate_held false held y d = refl

-- a reason that is neither 0 nor 10 is 2
busy_held : (fits held : Bool) → ¬ (by_lock fits held ≡ 0) → ¬ (by_lock fits held ≡ 10) → 2 ≡ by_lock fits held
busy_held true true d n = refl
busy_held true false d n = absurd (d refl)
busy_held false held d n = absurd (n refl)

module _ (z : Sizes) (w : List ℕ) (c s x : ℕ) (us : List ℕ) where
  abbrev lock_there : Bool
  lock_there = lock_fits z (stored_in z w) s x

  abbrev lock_held : Bool
  lock_held = held (object_of x) c Fetch (of_server z w s)

  pub gate_passed : (y : ℕ) → 0 ≡ lock_reason z w c s x Fetch → y ≡ room_of z w c us → y ≡ gate_of z w c s x us
  unfolding gate_of
  gate_passed y h k = k ∙ gate_open lock_there lock_held (room_of z w c us) (sym h)

  module _ (k : ℕ) (h : k ≡ lock_reason z w c s x Fetch) (d : ¬ (k ≡ 0)) where
    pub gate_stops : k ≡ gate_of z w c s x us
    unfolding gate_of
    gate_stops = h ∙ gate_held lock_there lock_held (room_of z w c us) (λ n. d (h ∙ n))

    pub gate_busy : ¬ (k ≡ 10) → 2 ≡ gate_of z w c s x us
    gate_busy n = busy_held lock_there lock_held (λ e. d (h ∙ e)) (λ e. n (h ∙ e)) ∙ sym h ∙ gate_stops

pub ruleset gates = (room_full, room_left, gate_passed, gate_stops, some_fault)

module _ (z : Sizes) (w : List ℕ) (c s : ℕ) (us : List ℕ) (h : Bool) (e : h ≡ there (stored_in z w) s) where
  pub out_of_reach : not h ≡ true → 1 ≡ reached z w c s us
  unfolding reached
  out_of_reach t = rw (← e, not-true h t)

  pub in_reach : (v : ℕ) → not h ≡ false → v ≡ items_found z w c s us → v ≡ reached z w c s us
  unfolding reached
  in_reach v t q = q ∙ rw (← e, not-false h t)
