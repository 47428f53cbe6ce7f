-- Laws of the findings' code: "in the order metadata, nodes by name, flags by name".
use Rattle.std.specs.Prelude.{◌≡◌, Bool, true, false, cond, not, ◌&&◌, ◌||◌, List, [], ◌∷◌, ◌++◌, map, ℕ, zero, suc, ◌+◌, ◌≤◌, ◌<◌, eqb, leb, None}
use Rattle.std.proofs.Math.Path.{refl, sym, ap}
use Rattle.std.proofs.Common.{◌∙◌, add-one}
use Rattle.std.proofs.Math.Option.{Option, none, some}
use native.Mathlib.Omega.{arith}
use borrow.Author.Tests.{ne_eqb, le-leb, lt-leb, leb-true, leb-false, not-true, not-false}
use Rattle.memory.specs.Bit.{bit}
use Rattle.memory.proofs.Laws.Bit.{zero_bit, put_none}
use Rattle.server.specs.declared.check.Finding.{Finding}
use Rattle.server.specs.declared.check.Finding.TheVariants.{Busy}
use Rattle.server.specs.declared.lock.Use.{Use}
use Rattle.server.specs.declared.lock.Use.TheVariants.{Fetch, Read, Write}
use Rattle.nodes.specs.declared.object.Object.{Object}
use Rattle.server.specs.declared.place.Place.{Place}
use Rattle.nodes.specs.Object.{object_of}
use Rattle.server.specs.Object.{lock_of}
use Rattle.server.specs.Lock.{busy}
use Rattle.server.specs.Laws.Lock.{free_range}
use Rattle.server.specs.Check.{standing, mark_finding, checked, held, finding_number}
use Rattle.client.specs.declared.part.Set.TheVariants.{Reads}
use Rattle.client.specs.Sets.{count}
use Rattle.client.specs.Items.{all_below}
use Rattle.steps.specs.declared.sizes.Sizes.{Sizes}
use Rattle.kinds.specs.declared.findings.Fault.{Fault}
use Rattle.kinds.specs.declared.findings.Fault.TheVariants.{Damaged, Differs, Busy as IsBusy, TooMany}
use Rattle.steps.specs.Whole.{server}
use Rattle.steps.specs.Uses.{Item, each, read_items, use_of, checked_at, locked_at, lesser, least, reason_of, deciding}
use Rattle.steps.specs.Judge.{has_transaction, holders_fit, lock_fits, lowest_participant}
use Rattle.kinds.specs.Parts.{stored_in}
use Rattle.kinds.specs.Items.{as_item, read_item}
use Rattle.kinds.specs.Judge.{of_client, of_server, word_fits}
use Rattle.kinds.specs.Laws.Items.{locked_by}
use Rattle.kinds.specs.Findings.{fault_number, as_fault, or_later, later, word_reason, lock_reason, compared_at, mark_reason, prepare_reason, prepare_fault, prepare_found}
use Rattle.kinds.specs.declared.items.Item as code

-- ---- the least, once there is one more
lesser_later : (f g : ℕ × ℕ) (l : Option (ℕ × ℕ)) → lesser f (or_later l g) ≡ or_later (lesser f l) g
lesser_later f g none = refl
lesser_later f g (some e) = go (leb f.0 e.0) (leb e.0 g.0) (leb f.0 g.0) refl refl refl
  where
    go : (a b c : Bool) → leb f.0 e.0 ≡ a → leb e.0 g.0 ≡ b → leb f.0 g.0 ≡ c
        → lesser f (cond b (some e) (some g)) ≡ or_later (cond a (some f) (some e)) g
    go true true true p q r = rw (p, r)
    go true true false p q r =
        absurd (let x : f.0 ≤ e.0 = leb-true f.0 e.0 p in let y : e.0 ≤ g.0 = leb-true e.0 g.0 q in let t : g.0 < f.0 = leb-false f.0 g.0 r in omega arith)
    go true false true p q r = rw r
    go true false false p q r = rw r
    go false true c p q r = rw (p, q)
    go false false true p q r =
        absurd (let x : e.0 < f.0 = leb-false f.0 e.0 p in let y : g.0 < e.0 = leb-false e.0 g.0 q in let t : f.0 ≤ g.0 = leb-true f.0 g.0 r in omega arith)
    go false false false p q r = rw (q, r)

pub least_later : (l : List (ℕ × ℕ)) (g : ℕ × ℕ) → least (l ++ (g ∷ [])) ≡ later (least l) g.0 g.1
unfolding least later
least_later [] g = refl
least_later (f ∷ l) g = go (eqb f.1 0) (eqb g.1 0) refl (least_later l g)
  where
    go : (a b : Bool) → eqb g.1 0 ≡ b → least (l ++ (g ∷ [])) ≡ cond (eqb g.1 0) (least l) (or_later (least l) g)
        → cond a (least (l ++ (g ∷ []))) (lesser f (least (l ++ (g ∷ []))))
        ≡ cond b (cond a (least l) (lesser f (least l))) (or_later (cond a (least l) (lesser f (least l))) g)
    go true true q h = h ∙ rw q
    go true false q h = h ∙ rw q
    go false true q h = let k : least (l ++ (g ∷ [])) ≡ least l = h ∙ rw q in ap (lesser f) k
    go false false q h =
        let k : least (l ++ (g ∷ [])) ≡ or_later (least l) g = h ∙ rw q in
        ap (lesser f) k ∙ lesser_later f g (least l)

-- ---- one more is found, or none
pub one_found : (o : Option (ℕ × ℕ)) (x y : ℕ) → (y ≡ 0 → ⊥) → or_later o (x, y) ≡ later o x y
unfolding later
one_found o x y d = sym (rw (ne_eqb y 0 d))

pub none_found : (o : Option (ℕ × ℕ)) (x : ℕ) → o ≡ later o x 0
unfolding later
none_found o x = refl

-- the lesser of two
module _ (f g : ℕ × ℕ) where
  pub first_kept : f.0 ≤ g.0 → some f ≡ or_later (some f) g
  first_kept h = sym (rw (le-leb f.0 g.0 h))

  pub second_taken : g.0 < f.0 → some g ≡ or_later (some f) g
  second_taken h = sym (rw (lt-leb f.0 g.0 h))

  module _ (d : g.1 ≡ 0 → ⊥) where
    pub first_least : f.0 ≤ g.0 → some f ≡ later (some f) g.0 g.1
    first_least h = first_kept h ∙ one_found (some f) g.0 g.1 d

    pub second_least : g.0 < f.0 → some g ≡ later (some f) g.0 g.1
    second_least h = second_taken h ∙ one_found (some f) g.0 g.1 d

-- ---- a mark compared, where m is what the server's part holds
pub compared_lent : (z : Sizes) (w : List ℕ) (s : ℕ) (m : Place → ℕ) (o : Object) (i : code.Item) (f : Finding) (r : ℕ) → m ≡ of_server z w s → o ≡ object_of i.number
    → f ≡ mark_finding o (standing o i.inner m) i.mark → r ≡ finding_number f → r ≡ compared_at z w s (as_item i)
unfolding compared_at
compared_lent z w s m o i f r e p q t = t ∙ ap finding_number (q ∙ rw (e, p) refl)

module _ (z : Sizes) (w : List ℕ) (s : ℕ) (b : Bool) (i : code.Item) where
  pub mark_checked : (r : ℕ) → b ≡ true → r ≡ compared_at z w s (as_item i) → r ≡ mark_reason z w s b (as_item i)
  unfolding mark_reason
  mark_checked r t q = q ∙ sym (rw t)

  pub mark_none : b ≡ false → 0 ≡ mark_reason z w s b (as_item i)
  unfolding mark_reason
  mark_none t = sym (rw t)

-- ---- the word of a lock
module _ (z : Sizes) (w : List ℕ) (c x v : ℕ) (u : Use) (a : Bool) (p : a ≡ word_fits z w x v) where
  pub word_unfit : not a ≡ true → 10 ≡ word_reason z w c x v u
  unfolding word_reason
  word_unfit n = sym (rw (← p, not-true a n))

  module _ (n : not a ≡ false) (h : Bool) (q : h ≡ busy u c v) where
    pub word_busy : h ≡ true → 2 ≡ word_reason z w c x v u
    unfolding word_reason
    word_busy t = sym (rw (← p, not-false a n, ← q, t))

    pub word_free : h ≡ false → 0 ≡ word_reason z w c x v u
    unfolding word_reason
    word_free t = sym (rw (← p, not-false a n, ← q, t))

-- no fault has the number 0
pub some_fault : (f : Fault) → fault_number f ≡ 0 → ⊥
some_fault Damaged h = omega arith
some_fault Differs h = omega arith
some_fault IsBusy h = omega arith
some_fault TooMany h = omega arith

-- a word that is 0 names nobody
names_none : (f : ℕ → Bool) (n : ℕ) → all_below n (λ d. not (bit 0 d) || f d) ≡ true
unfolding all_below
names_none f zero = refl
names_none f (suc n) = rw (names_none f n, zero_bit n)

zero_fits : (z : Sizes) (w : List ℕ) (x : ℕ) → word_fits z w x 0 ≡ true
unfolding word_fits holders_fit
zero_fits z w x = rw (free_range z.clients, names_none (has_transaction z (stored_in z w)) z.clients)

zero_free : (u : Use) (c : ℕ) → busy u c 0 ≡ false
unfolding busy
zero_free Fetch c = refl
zero_free Read c = refl
zero_free Write c = rw (put_none c)

-- how a lock and who holds it come to a reason
abbrev pub by_lock : Bool → Bool → ℕ
by_lock fits held = cond fits (cond held 2 0) 10

-- with what is found else
pub settled : (fits held b : Bool) (f : Finding) → by_lock fits held ≡ 0
    → cond b (finding_number f) 0 ≡ cond fits (cond b (finding_number (cond held Busy f)) (cond held 2 0)) 10
settled true true b f e = absurd (let z : 2 ≡ 0 = e in omega arith)
settled true false b f e = refl
settled false held b f e = absurd (let z : 10 ≡ 0 = e in omega arith)

pub unsettled : (fits held b : Bool) (f : Finding) → ¬ (by_lock fits held ≡ 0)
    → by_lock fits held ≡ cond fits (cond b (finding_number (cond held Busy f)) (cond held 2 0)) 10
unsettled true true true f d = refl
unsettled true true false f d = refl
unsettled true false b f d = absurd (d refl)
unsettled false held b f d = refl

module _ (z : Sizes) (w : List ℕ) (c s x v : ℕ) (u : Use) (e : v ≡ stored_in z w (server s (lock_of (object_of x)))) where
  -- the same by the word and by the lock
  by_word : word_reason z w c x v u ≡ lock_reason z w c s x u
  unfolding word_reason word_fits lock_fits held
  by_word = rw e

  pub lock_worded : (r : ℕ) → r ≡ word_reason z w c x v u → r ≡ lock_reason z w c s x u
  lock_worded r o = o ∙ by_word

  pub lock_free : v ≡ 0 → 0 ≡ lock_reason z w c s x u
  unfolding word_reason
  lock_free h = sym (rw (h, zero_fits z w x, zero_free u c)) ∙ by_word

-- ---- the reason of an item
module _ (z : Sizes) (w : List ℕ) (c s : ℕ) (b : Bool) (i : code.Item) (u : Use) (p : u ≡ use_of (as_item i)) where
  abbrev fits : Bool
  fits = lock_fits z (stored_in z w) s i.number

  abbrev busy? : Bool
  busy? = held (object_of i.number) c (use_of (as_item i)) (of_server z w s)

  abbrev marks : Finding
  marks = mark_finding (object_of i.number) (standing (object_of i.number) i.inner (of_server z w s)) i.mark

  of_lock : lock_reason z w c s i.number u ≡ by_lock fits busy?
  of_lock = rw p refl

  pub reason_open : (y : ℕ) → 0 ≡ lock_reason z w c s i.number u → y ≡ mark_reason z w s b (as_item i) → y ≡ prepare_reason z w c s b (as_item i)
  unfolding prepare_reason mark_reason compared_at checked
  reason_open y h k = k ∙ settled fits busy? b marks (sym (h ∙ of_lock))

  pub reason_held : (r : ℕ) → r ≡ lock_reason z w c s i.number u → ¬ (r ≡ 0) → r ≡ prepare_reason z w c s b (as_item i)
  unfolding prepare_reason checked
  reason_held r h d = let k : r ≡ by_lock fits busy? = h ∙ of_lock in k ∙ unsettled fits busy? b marks (λ n. d (k ∙ n))

module _ (z : Sizes) (w : List ℕ) (c s low : ℕ) (i : code.Item) where
  pub fault_read : not i.known ≡ true → 10 ≡ prepare_fault z w c s low (as_item i)
  unfolding prepare_fault
  fault_read t = sym (rw (not-true i.known t))

  module _ (r : not i.known ≡ false) where
    pub fault_written : not i.settled ≡ true → 10 ≡ prepare_fault z w c s low (as_item i)
    unfolding prepare_fault
    fault_written t = sym (rw (not-false i.known r, not-true i.settled t))

    module _ (n : not i.settled ≡ false) (k b : Bool) (p : k ≡ checked_at low s (as_item i)) (e : b ≡ (k || (i.written && i.becomes))) where
      locked_so : locked_at low s (as_item i) ≡ b
      locked_so = sym (locked_by i low s k b p e)

      pub fault_locked : (y : ℕ) → b ≡ true → y ≡ prepare_reason z w c s k (as_item i) → y ≡ prepare_fault z w c s low (as_item i)
      unfolding prepare_fault
      fault_locked y t h = h ∙ rw p (sym (rw (locked_so, t, not-false i.known r, not-false i.settled n)))

      pub fault_none : b ≡ false → 0 ≡ prepare_fault z w c s low (as_item i)
      unfolding prepare_fault
      fault_none t = sym (rw (locked_so, t, not-false i.known r, not-false i.settled n))

pub ruleset finding_exits = (
  first_kept,
  second_taken,
  first_least,
  second_least,
  one_found,
  none_found,
  some_fault,
  compared_lent,
  mark_checked,
  mark_none,
  word_unfit,
  word_busy,
  word_free,
  lock_worded,
  lock_free,
  reason_open,
  reason_held,
  fault_read,
  fault_written,
  fault_locked,
  fault_none,
)

-- ---- over all objects read
map_append : {A B : Type 0} (f : A → B) (l k : List A) → map f (l ++ k) ≡ map f l ++ map f k
map_append f [] k = refl
map_append f (a ∷ l) k = ap (λ (t : List _). f a ∷ t) (map_append f l k)

-- the fault of the least of the first n items, worked out item by item
module _ (fault_of : Item → ℕ) (at : ℕ → Item) where
  abbrev finding : Item → ℕ × ℕ
  finding i = (i.number, fault_of i)

  unfoldable pub least_upto : ℕ → Option (ℕ × ℕ)
  least_upto n = least (map finding (each n at))

  pub least_first : as_fault None ≡ least_upto 0
  unfolding least_upto each least
  least_first = refl

  pub least_next : (i y : ℕ) (t : code.Item) (f g : Option (ℕ × ℕ)) → f ≡ least_upto i → as_item t ≡ at i → y ≡ fault_of (as_item t)
      → g ≡ later f t.number y → g ≡ least_upto (i + 1)
  unfolding least_upto each
  least_next i y t f g h q e p =
      let l = each i at in
      let k : later f t.number y ≡ later (least (map finding l)) (at i).number (fault_of (at i)) =
      rw (e, h) (ap (λ (v : Item). later (least (map finding l)) v.number (fault_of v)) q) in
      p ∙ k ∙ rw (add-one i) (sym (ap least (map_append finding l (at i ∷ [])) ∙ least_later (map finding l) (finding (at i))))

module _ (z : Sizes) (w : List ℕ) (c s low : ℕ) where
  -- of the first n objects read
  unfoldable pub found_upto : ℕ → Option (ℕ × ℕ)
  found_upto n = least_upto (prepare_fault z w c s low) (read_item (of_client z w c)) n

  pub found_first : as_fault None ≡ found_upto 0
  unfolding found_upto
  found_first = least_first (prepare_fault z w c s low) (read_item (of_client z w c))

  pub found_next : (i y : ℕ) (t : code.Item) (f g : Option (ℕ × ℕ)) → f ≡ found_upto i → as_item t ≡ read_item (of_client z w c) i
      → y ≡ prepare_fault z w c s low (as_item t) → g ≡ later f t.number y → g ≡ found_upto (i + 1)
  unfolding found_upto
  found_next = least_next (prepare_fault z w c s low) (read_item (of_client z w c))

  pub found_all : (i n r : ℕ) (f : Option (ℕ × ℕ)) → i ≤ n → n ≤ i → n ≡ count (of_client z w c) Reads → low ≡ lowest_participant z (stored_in z w) c → f ≡ found_upto i
      → r ≡ reason_of f → r ≡ prepare_found z w c s
  unfolding found_upto least_upto prepare_found deciding read_items read_item prepare_fault prepare_reason
  found_all i n r f a b en el h k =
      let q : i ≡ count (of_client z w c) Reads = omega arith in
      k ∙ ap reason_of h ∙ rw (q, el)

pub ruleset found_exits = (found_first, found_next, found_all)
