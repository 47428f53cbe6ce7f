-- What an operation writes is sound, and the write set stays sound as it enters.
use Rattle.std.specs.Prelude.{◌≡◌, Bool, cond, ◌&&◌, ◌||◌, not, ◌⊎◌, length}
use Rattle.std.proofs.Math.Path.{refl, ap, subst}
use Rattle.std.proofs.Common.{ap₂, sym, ◌∙◌, inl, inr, arith}
use Rattle.std.proofs.Math.Bool.{true, false}
use Rattle.std.proofs.lemmas.Bool.{false≢true}
use mathlib.Core.List.{List, [], ◌∷◌}
use Prim.Native.Nat.{ℕ, zero, suc, ◌≤◌, ◌<◌}
use Rattle.std.proofs.Math.Decide.{ℕ_discrete, dec_le}
use borrow.Author.Tests.{eqb-true, eqb-false, eq-eqb, le-leb, ltb-true, lt-ltb}
use Rattle.std.proofs.Math.Dec.{eqb, leb, ltb}
use Rattle.base.specs.Test.{and_both, yes?, one_if}
use Rattle.base.proofs.Laws.Test.{or_neither, bool_cases, yes_of}
use Rattle.layout.specs.Space.{changed}
use Rattle.layout.specs.Step.{and_then}
use Rattle.layout.proofs.Laws.Step.{changed_append}
use Rattle.plans.specs.Walk.{Every}
use Rattle.nodes.specs.declared.node.Node.{Node}
use Rattle.nodes.specs.Found.{Found}
use Rattle.std.specs.Prelude.{Some, None}
use Rattle.nodes.specs.Place.{rises}
use Rattle.nodes.specs.Lists.{pad}
use Rattle.nodes.specs.Node.{slots_of, made}
use Rattle.nodes.proofs.Laws.Node.{slots_made}
use Rattle.nodes.specs.Range.{node_in_range}
use Rattle.nodes.proofs.Laws.Range.{range_of}
use Rattle.nodes.proofs.Laws.Stored.{Sized}
use Rattle.nodes.specs.States.{metadata_fits}
use Rattle.operations.specs.Object.{Obj, meta, node, flag, Val, root, body, taken, flags, keys_in, level_of, Writes, hit, written_value}
use Rattle.operations.proofs.Laws.Object.{written}
use Rattle.operations.specs.Operation.{fits?, all_fit?}
use Rattle.operations.proofs.Laws.Storable.{Shape, Kept, Named, Storable, AllStorable, every_any}
use Rattle.operations.proofs.Laws.Hit.{hit_eq, hit_self}
use Rattle.client.specs.Have.{Look}
use Rattle.client.specs.Layout.{ClientWord, client_words, item, reads_count, writes_count}
use Rattle.client.specs.Record.{number, first_slot, second_slot, single, metadata, record_of, in_store, object_in_store, last_version, record_in_range, all, children_there}
use Rattle.client.specs.Sets.{or_found, at_most, count, record_at, number_at, find}
use Rattle.client.specs.Items.{has}
use Rattle.client.specs.Part.{nothing}
use Rattle.client.specs.Have.{copied}
use Rattle.client.specs.Lent.{Entry}
use Rattle.client.specs.Enter.{enter_at, enter_write, enter_entries}
use Rattle.client.specs.Answered.{entered}
use Rattle.client.specs.Drops.{version_of}
use Rattle.client.specs.Work.{version_in, at_last_version, any_at_last}
use Rattle.demand.proofs.Laws.Numbers.{by_object, by_number_of, number_inside}
use Rattle.demand.proofs.Laws.Held.{found_at, has_at}
use Rattle.demand.proofs.Laws.Placed.{placed, placed_number, placed_record, placed_beside, placed_else}
use Rattle.demand.proofs.Laws.Behind.{writes_within, Elsewhere, field_same, set_same, Behind, find_behind, put_behind}
use Rattle.demand.proofs.Laws.Entered.{ElseSame, ReadEntered}
use Rattle.demand.proofs.Laws.Used.{copied_same, after_used}
use Rattle.demand.proofs.Laws.Latest.{entry_of, entered_apart, put_every, AllWhole}
use Rattle.ranges.specs.Laws.Sound.{ItemSound, SetsSound}
use Rattle.ranges.proofs.Laws.Lists.{every_weaker, every_all}
use Rattle.ranges.proofs.Laws.Sets.{sound_version, item_stays, all_stay, MayWrite, written_may, sets_from, ReadsStay, reads_stay, entered_stay, may_stay, room, used_keeps}
use Rattle.client.specs.declared.part.Set.TheVariants as set

-- ---- ONE WRITE of an operation
-- a name of the store
abbrev pub There : ℕ → ℕ → Type 0
There slots n = in_store slots n ≡ true

module _ (slots : ℕ) (al : slots ≤ 1024) where
  -- an object's record, by the object
  pub object_sound : (o : Obj) (r : Node) → object_in_store slots o ≡ true
      → by_object o (metadata_fits slots (first_slot r) (second_slot r) r.version) (λ n. node_in_range r) (λ n. leb (first_slot r) 1) ≡ true
      → by_object o true (λ n. children_there slots r) (λ n. true) ≡ true → ItemSound slots (number o) r
  unfolding record_in_range
  object_sound o r h f c = record {
    inside = number_inside slots al o h;
    sound = record {
      fitting = by_number_of slots al o h (metadata_fits slots (first_slot r) (second_slot r) r.version) (λ n. node_in_range r) (λ n. leb (first_slot r) 1) ∙ f;
      children = by_number_of slots al o h true (λ n. children_there slots r) (λ n. true) ∙ c;
    };
  }

  -- a node's record
  kept_range : (k l : ℕ) (ks vs : List ℕ) → Kept (There slots) k l ks vs → l ≤ 4 → node_in_range (made k l 0 ks vs) ≡ true
  unfolding made
  kept_range k l ks vs h m = go k h.shape
    where
      go : (k : ℕ) → Shape k l ks → node_in_range (made k l 0 ks vs) ≡ true
      go zero s = range_of (made 0 l 0 ks vs) (omega arith) (omega arith) (eq-eqb l 0 s.0) (eq-eqb (length ks) 0 s.1)
      go (suc zero) s = range_of (made 1 l 0 ks vs) (omega arith) (omega arith) (eq-eqb l 0 s) (le-leb (length ks) 14 h.few)
      go (suc (suc zero)) s = range_of (made 2 l 0 ks vs) (omega arith) (omega arith) (rw (le-leb 1 l s, le-leb l 4 m)) (le-leb (length ks) 14 h.few)
      go (suc (suc (suc k))) s = absurd s

  kept_children : (k l : ℕ) (ks vs : List ℕ) → Kept (There slots) k l ks vs → children_there slots (made k l 0 ks vs) ≡ true
  unfolding children_there made
  kept_children k l ks vs h = go (eqb k 2) refl
    where
      go : (b : Bool) → eqb k 2 ≡ b → (not b || all (in_store slots) (slots_of (made k l 0 ks vs))) ≡ true
      go true e = ap (all (in_store slots)) (slots_made k l 0 ks vs h.beside) ∙ every_all (in_store slots) vs (h.children (eqb-true k 2 e))
      go false e = refl

  entry_sound : (o : Obj) (v : Val) → Named (There slots) o → Storable (There slots) o v → level_of v ≤ 4 → ItemSound slots (number o) (record_of 0 v)
  unfolding record_of single metadata metadata_fits made pad
  entry_sound meta (root r st) n s l = object_sound meta (record_of 0 (root r st)) refl (rw (s.0, s.1)) refl
  entry_sound (node n) (body k j ks vs) h s l =
      object_sound (node n) (record_of 0 (body k j ks vs)) h (kept_range k j ks vs s l) (kept_children k j ks vs s)
  entry_sound (flag n) (taken b) h s l = object_sound (flag n) (record_of 0 (taken b)) h (small b) refl
    where
      small : (b : Bool) → leb (first_slot (single 0 (one_if b))) 1 ≡ true
      small true = refl
      small false = refl
  entry_sound meta (body k j ks vs) n s l = absurd s
  entry_sound meta (taken b) n s l = absurd s
  entry_sound meta (flags fs) n s l = absurd s
  entry_sound (node n) (root r st) h s l = absurd s
  entry_sound (node n) (taken b) h s l = absurd s
  entry_sound (node n) (flags fs) h s l = absurd s
  entry_sound (flag n) (root r st) h s l = absurd s
  entry_sound (flag n) (body k j ks vs) h s l = absurd s
  entry_sound (flag n) (flags fs) h s l = absurd s

-- ---- THE LATEST WRITES
module _ (N : ℕ → Type 0) where
  -- an entry holds what the writes leave of an object of theirs
  record Latest (w : Writes) (f : Entry) : Type 0 where
    obj : Obj
    val : Val
    is : f ≡ (number obj, record_of 0 val)
    named : Named N obj
    storable : Storable N obj val
    is_written : written w obj ≡ true
    is_value : written_value w obj ≡ val

  latest_entries : (w : Writes) → AllStorable N w → Every (Latest w) (entered w)
  unfolding Every entered
  latest_entries [] h = tt
  latest_entries (e ∷ w) h =
      put_every (Latest w) (Latest (e ∷ w)) (entry_of e) older newest (entered w) (entered_apart w) (latest_entries w h.2)
    where
      newest : Latest (e ∷ w) (entry_of e)
      newest = let t = hit_self e.0 in record { obj = e.0; val = e.1; is = refl; named = h.0; storable = h.1; is_written = rw t; is_value = rw t }

      older : (g : Entry) → eqb g.0 (number e.0) ≡ false → Latest w g → Latest (e ∷ w) g
      older g n L =
          let t = miss (bool_cases (hit e.0 L.obj)) in
          record { obj = L.obj; val = L.val; is = L.is; named = L.named; storable = L.storable; is_written = rw t L.is_written; is_value = rw t L.is_value }
        where
          miss : (hit e.0 L.obj ≡ true) ⊎ (hit e.0 L.obj ≡ false) → hit e.0 L.obj ≡ false
          miss (inl t) = absurd (eqb-false g.0 (number e.0) n (ap (λ (f : Entry). f.0) L.is ∙ ap number (sym (hit_eq e.0 L.obj t))))
          miss (inr t) = t

-- what the last check before the answer says of each object
fit_at : (all w : Writes) (o : Obj) → all_fit? all w ≡ true → written w o ≡ true → fits? (written_value all o) ≡ true
fit_at all [] o f h = absurd (false≢true h)
fit_at all (e ∷ w) o f h = go (hit e.0 o) refl h (and_both (fits? (written_value all e.0)) (all_fit? all w) f) (fit_at all w o)
  where
    go : (b : Bool) → hit e.0 o ≡ b → cond b true (written w o) ≡ true → (fits? (written_value all e.0) ≡ true) × (all_fit? all w ≡ true)
        → (all_fit? all w ≡ true → written w o ≡ true → fits? (written_value all o) ≡ true) → fits? (written_value all o) ≡ true
    go true t h f rec = subst (λ (o : Obj). fits? (written_value all o) ≡ true) (hit_eq e.0 o t) f.0
    go false t h f rec = rec f.1 h

level_low : (v : Val) → fits? v ≡ true → level_of v ≤ 4
level_low v h = yes_of (dec_le (level_of v) 4) (and_both (rises (keys_in v)) (yes? (dec_le (level_of v) 4)) h).1

module _ (slots : ℕ) (al : slots ≤ 1024) where
  pub entries_sound : (w : Writes) → AllStorable (There slots) w → all_fit? w w ≡ true → Every (λ (e : Entry). ItemSound slots e.0 e.1) (entered w)
  entries_sound w s f = every_weaker (Latest (There slots) w) (λ (e : Entry). ItemSound slots e.0 e.1) one (entered w) (latest_entries (There slots) w s)
    where
      one : (e : Entry) → Latest (There slots) w e → ItemSound slots e.0 e.1
      one e L =
          let low = level_low L.val (ap fits? (sym L.is_value) ∙ fit_at w w L.obj f L.is_written) in
          subst (λ (e : Entry). ItemSound slots e.0 e.1) (sym L.is) (entry_sound slots al L.obj L.val L.named L.storable low)

-- ---- WRITES ENTER
-- written item i of v is the object x with the record r, or stood there in u
abbrev NewOrOld : (ClientWord → ℕ) → (ClientWord → ℕ) → ℕ → Node → ℕ → Type 0
NewOrOld u v x r i =
    ((number_at v set.Writes i ≡ x) × (record_at v set.Writes i ≡ r)) ⊎ ((i < count u set.Writes) × ((n : ℕ) → v (item set.Writes i n) ≡ u (item set.Writes i n)))

abbrev OneWritten : (ClientWord → ℕ) → (ClientWord → ℕ) → ℕ → Node → Type 0
OneWritten u v x r = (i : ℕ) → i < count v set.Writes → NewOrOld u v x r i

module _ (u v : ClientWord → ℕ) (other : Elsewhere set.Writes 11 u v) where
  same_words : (i n : ℕ) → v (item set.Reads i n) ≡ u (item set.Reads i n)
  same_words = set_same set.Writes 11 u v other set.Reads (λ e. absurd (omega arith))

  same_count : count v set.Reads ≡ count u set.Reads
  unfolding count
  same_count = ap (at_most 96) (field_same set.Writes 11 u v other 10 (λ e. absurd (omega arith)))

  -- the read set has what it had
  unwritten_stay : ReadsStay u v
  unwritten_stay = reads_stay u v same_count same_words

  one_sound : (slots : ℕ) (x : ℕ) (r : Node) → OneWritten u v x r → ItemSound slots x r → MayWrite u x → SetsSound slots u → SetsSound slots v
  unfolding number_at
  one_sound slots x r one new may S =
      sets_from slots v (all_stay slots u v set.Reads same_count same_words S.read) (λ i l. sound i (one i l))
      (λ i l. may_stay u v unwritten_stay (number_at v set.Writes i) (allowed i (one i l)))
    where
      sound : (i : ℕ) → NewOrOld u v x r i → ItemSound slots (number_at v set.Writes i) (record_at v set.Writes i)
      sound i (inl h) = let a = h.0 in let b = h.1 in coe 1 0 (t. ItemSound slots (a t) (b t)) new
      sound i (inr h) = item_stays slots u v set.Writes i h.1 (S.written i h.0)

      allowed : (i : ℕ) → NewOrOld u v x r i → MayWrite u (number_at v set.Writes i)
      allowed i (inl h) = subst (MayWrite u) (sym h.0) may
      allowed i (inr h) = subst (MayWrite u) (sym (h.1 0)) (written_may slots u S i h.0)

-- in its object's place, or behind the others
module _ (slots : ℕ) (u : ClientWord → ℕ) (x : ℕ) (r : Node) (w : Sized r) (new : ItemSound slots x r) (may : MayWrite u x) (S : SetsSound slots u) where
  abbrev SoundElse : (ClientWord → ℕ) → Type 0
  SoundElse v = SetsSound slots v × Elsewhere set.Writes 11 u v

  replaced_sound : (i : ℕ) → SoundElse (placed set.Writes i x r w u)
  unfolding count number_at
  replaced_sound i = (one_sound u v other slots x r one new may S, other)
    where
      v : ClientWord → ℕ
      v = placed set.Writes i x r w u

      other : Elsewhere set.Writes 11 u v
      other a p q = placed_else set.Writes i x r w u a p

      one : OneWritten u v x r
      one n l = go (ℕ_discrete n i)
        where
          go : Dec (n ≡ i) → NewOrOld u v x r n
          go (yes e) = inl (ap (number_at v set.Writes) e ∙ placed_number set.Writes i x r w u, ap (record_at v set.Writes) e ∙ placed_record set.Writes i x r w u)
          go (no d) =
              let same : v writes_count ≡ u writes_count = placed_else set.Writes i x r w u writes_count (λ e. absurd (omega arith)) in
              inr (subst (λ (c : ℕ). n < at_most 48 c) same l, λ m. placed_beside set.Writes i x r w u n m d)

  behind_sound : (v : ClientWord → ℕ) → Behind set.Writes 11 u v x r → SoundElse v
  behind_sound v B = (one_sound u v B.other slots x r one new may S, B.other)
    where
      one : OneWritten u v x r
      one n l = go (ℕ_discrete n (u writes_count))
        where
          go : Dec (n ≡ u writes_count) → NewOrOld u v x r n
          go (yes e) = inl (ap (number_at v set.Writes) e ∙ B.number_as, ap (record_at v set.Writes) e ∙ B.record_as)
          go (no d) = inr (omega (arith, l, d, B.before, B.after), λ m. B.beside n m d)

  -- by the client's own step, which does not write object 49
  write_sound : SoundElse (changed client_words u (enter_write x r u))
  unfolding enter_write nothing changed count
  write_sound = go (find u set.Writes x) refl
    where
      go : (f : Found) → find u set.Writes x ≡ f → SoundElse (changed client_words u (enter_at x r (count u set.Writes) (find u set.Writes x) u))
      go (Some i) e = subst (λ f. SoundElse (changed client_words u (enter_at x r (count u set.Writes) f u))) (sym e) (replaced_sound i)
      go None e = subst (λ f. SoundElse (changed client_words u (enter_at x r (count u set.Writes) f u))) (sym e) (by (ltb (count u set.Writes) 48) refl)
        where
          by : (b : Bool) → ltb (count u set.Writes) 48 ≡ b → SoundElse (changed client_words u (enter_at x r (count u set.Writes) None u))
          by false t = rw t (S, λ a p q. refl)
          by true t =
              let l = room 48 (u writes_count) (ltb-true (count u set.Writes) 48 t) in
              let c = writes_within u (omega arith) in
              let b = lt-ltb (u writes_count) 48 l in
              rw (c, b) (behind_sound _ (put_behind set.Writes 11 x r w u c (λ v q. writes_within v (omega (arith, q, l)) ∙ q)))

module _ (slots : ℕ) where
  pub written_sound : (l : List Entry) → Every (λ (e : Entry). ItemSound slots e.0 e.1) l → AllWhole l
      → (u : ClientWord → ℕ) → Every (λ (e : Entry). MayWrite u e.0) l → SetsSound slots u
      → SetsSound slots (changed client_words u (enter_entries l u)) × Elsewhere set.Writes 11 u (changed client_words u (enter_entries l u))
  unfolding Every enter_entries nothing and_then changed
  written_sound [] h w u m S = (S, λ a p q. refl)
  written_sound (e ∷ l) h w u m S =
      let v = changed client_words u (enter_write e.0 e.1 u) in
      let one = write_sound slots u e.0 e.1 w.0 h.0 m.0 S in
      let may = every_weaker (λ (e : Entry). MayWrite u e.0) (λ (e : Entry). MayWrite v e.0) (λ e. may_stay u v (unwritten_stay u v one.1) e.0) l m.1 in
      let rest = written_sound l h.1 w.1 v may one.0 in
      subst (λ y. SetsSound slots y × Elsewhere set.Writes 11 u y) (sym (changed_append client_words (enter_write e.0 e.1 u) (enter_entries l v) u))
      (rest.0, λ a p q. rest.1 a p q ∙ one.1 a p q)

-- ---- the last version
-- what comes into use has the version of its copy
version_used : (u : ClientWord → ℕ) (us : List ℕ) (x : ℕ) → version_in (after_used u us) x (find (after_used u us) set.Reads x) ≡ version_in u x (find u set.Reads x)
version_used u us x =
    (used_keeps u (λ y. Unit {0}) (λ v. version_in v x (find v set.Reads x) ≡ version_in u x (find u set.Reads x)) one us (every_any (λ y. Unit {0}) (λ y. tt) us) refl
    ).0
  where
    one : (y : ℕ) → Unit {0} → (m v : ClientWord → ℕ) → ElseSame u m → ReadEntered m v y (copied u y).node
        → version_in m x (find m set.Reads x) ≡ version_in u x (find u set.Reads x) → version_in v x (find v set.Reads x) ≡ version_in u x (find u set.Reads x)
    one y _ m v s E h = go (find m set.Reads x) refl ∙ h
      where
        late : (b : Bool) → eqb y x ≡ b → version_in v x (cond b (Some (m reads_count)) None) ≡ (copied m x).node.version
        late true t =
            ap (λ (r : Node). r.version) E.record_as ∙ ap (λ (q : ℕ). (copied u q).node.version) (eqb-true y x t)
            ∙ sym (ap (λ (c : Look). c.node.version) (copied_same u m s x))
        late false t = ap (λ (c : Look). c.node.version) (copied_same m v E.other x)

        go : (f : Found) → find m set.Reads x ≡ f → version_in v x (find v set.Reads x) ≡ version_in m x (find m set.Reads x)
        go (Some i) e =
            let g = entered_stay m v y (copied u y).node E x i e in
            ap (version_in v x) g.0 ∙ ap (λ (r : Node). r.version) g.1 ∙ sym (ap (version_in m x) e)
        go None e =
            ap (version_in v x) (find_behind set.Reads 10 m v y (copied u y).node E x ∙ ap (λ (f : Found). or_found f (cond (eqb y x) (Some (m reads_count)) None)) e)
            ∙ late (eqb y x) refl ∙ sym (ap (version_in m x) e)

pub used_last : (u : ClientWord → ℕ) (us : List ℕ) (l : List Entry) → any_at_last (after_used u us) l ≡ any_at_last u l
unfolding any_at_last
used_last u us [] = refl
used_last u us (e ∷ l) =
    let v = version_used u us e.0 in
    let r = used_last u us l in
    λ t. (leb e.0 8192 && eqb (v t) last_version) || r t

-- "8 a written version is 4,294,967,295": where none is, what was read may be written
pub not_last : (slots : ℕ) (u : ClientWord → ℕ) → SetsSound slots u → (l : List Entry) → any_at_last u l ≡ false → has u set.Reads 0 ≡ true
    → Every (λ (e : Entry). has u set.Reads e.0 ≡ true) l → Every (λ (e : Entry). MayWrite u e.0) l
unfolding Every any_at_last
not_last slots u S [] a o h = tt
not_last slots u S (e ∷ l) a o h =
    let n = or_neither (at_last_version u e.0) (any_at_last u l) a in
    (record { read = h.0; rooted = o; young = λ m. young m n.0 }, not_last slots u S l n.1 o h.1)
  where
    young : e.0 ≤ 8192 → at_last_version u e.0 ≡ false → version_of u (find u set.Reads e.0) < last_version
    young m q =
        let f = has_at u set.Reads e.0 h.0 in
        let g = found_at u set.Reads e.0 f.0 f.1 in
        let r = record_at u set.Reads f.0 in
        let le = sound_version slots (number_at u set.Reads f.0) r (S.read f.0 g.0).sound (subst (λ (x : ℕ). x ≤ 8192) (sym g.1) m) in
        let ne : eqb r.version last_version ≡ false
        = ap₂ (λ (b : Bool) (p : Found). b && eqb (version_in u e.0 p) last_version) (sym (le-leb e.0 8192 m)) (sym f.1) ∙ q in
        subst (λ p. version_of u p < last_version) (sym f.1) (omega (arith, le, eqb-false r.version last_version ne))
