-- The locks of the objects read, at one server: which words a prepare, an apply and an abort change there, and that the machine asks for the same.
use Rattle.std.specs.Prelude.{◌≡◌, ◌&&◌, ◌||◌, not, List, [], ◌∷◌, ◌⊎◌, eqb}
use Rattle.std.proofs.Math.Path.{refl, ap, ap₂}
use Rattle.std.proofs.Common.{sym, ◌∙◌, subst, inl, inr, arith, eq-eqb, ne_eqb}
use Rattle.std.proofs.Math.Bool.{Bool, true, false, cond, false≢true}
use Prim.Native.Nat.{ℕ, zero, suc, ◌+◌, ◌*◌, ◌/◌, ◌%◌, ◌≤◌, ◌<◌, Fin}
use Rattle.std.proofs.Math.Decide.{ℕ_discrete, Fin-discrete}
use Rattle.base.specs.Test.{not_both, yes?}
use Rattle.base.proofs.Laws.Test.{or_cases, of_yes, of_no}
use Rattle.layout.specs.Space.{Put, put, changed}
use Rattle.layout.proofs.Laws.Space.{written_same, written_other}
use Rattle.layout.specs.Step.{and_then}
use Rattle.layout.proofs.Laws.Step.{changed_append}
use Rattle.layout.specs.Sweep.{sweep}
use Rattle.nodes.specs.declared.node.Node.{Node}
use Rattle.nodes.specs.Found.{Found}
use Rattle.std.specs.Prelude.{Some, None}
use Rattle.operations.specs.Object.{Obj, meta, node, flag, Val}
use Rattle.operations.proofs.Laws.Object.{inner}
use Rattle.server.specs.declared.place.Place.{Place}
use Rattle.server.specs.Layout.{place_again, places}
use Rattle.server.specs.Lock.{locked, unlocked}
use Rattle.nodes.specs.Object.{object_of}
use Rattle.server.specs.Object.{lock_of}
use Rattle.server.specs.Store.{lock_step, unlock_step}
use Rattle.client.specs.declared.part.Set.TheVariants.{Reads, Writes}
use Rattle.client.specs.Layout.{ClientWord}
use Rattle.client.specs.Record.{number, value_of}
use Rattle.client.specs.Commit.{is_at}
use Rattle.client.specs.Sets.{count, record_at, number_at, find}
use Rattle.client.specs.Laws.Ranges.{client_fits}
use Rattle.client.specs.Participants.{at_home}
use Rattle.steps.specs.Steps.{lock_each, unlock_each}
use Rattle.demand.proofs.Laws.Store.{home, keeps}
use Rattle.demand.proofs.Laws.Numbers.{obj_of, number_obj, obj_number, inner_of, server_object, object_number}
use Rattle.demand.proofs.Laws.Shows.{T, InStore, new_value, lock_kept, SlotShown}
use Rattle.demand.proofs.Laws.Held.{absent≢at, at_same, found_at, read_in}
use Rattle.demand.proofs.Laws.Members.{kept_at, kept_home, outer_home}
use Rattle.protocol.specs.Machine as P
use Rattle.protocol.specs.Moves as Mv
use Rattle.server.specs.declared.place.Place.TheVariants as place
use Rattle.client.specs.Items as I
use Rattle.steps.specs.Uses as U

-- ---- one store for each place that passes a test
module _ (here : ℕ → Bool) (lk : ℕ → Place) (F : ℕ → ℕ → ℕ) (p : Place → ℕ) where
  abbrev pub one : ℕ → (Place → ℕ) → List (Put Place)
  one n q = cond (here n) (put (lk n) (F n (q (lk n))) ∷ []) []

  abbrev pub after : ℕ → Place → ℕ
  after n = changed places p (sweep places one n p)

  step : (n : ℕ) → after (suc n) ≡ changed places (after n) (one n (after n))
  unfolding sweep and_then
  step n = changed_append places (sweep places one n p) (one n (after n)) p

  one_other : (n : ℕ) (q : Place → ℕ) (a : Place) → (here n ≡ true → ¬ (a ≡ lk n)) → changed places q (one n q) a ≡ q a
  unfolding changed
  one_other n q a h = go (here n) h
    where
      go : (b : Bool) → (b ≡ true → ¬ (a ≡ lk n)) → changed places q (cond b (put (lk n) (F n (q (lk n))) ∷ []) []) a ≡ q a
      go true h = written_other places place_again q (lk n) (F n (q (lk n))) a (h refl)
      go false h = refl

  one_same : (n : ℕ) (q : Place → ℕ) → here n ≡ true → changed places q (one n q) (lk n) ≡ F n (q (lk n))
  unfolding changed
  one_same n q h = rw h (written_same places q (lk n) (F n (q (lk n))))

  pub swept_other : (n : ℕ) (a : Place) → ((i : ℕ) → i < n → here i ≡ true → ¬ (a ≡ lk i)) → after n a ≡ p a
  unfolding sweep changed
  swept_other zero a h = refl
  swept_other (suc n) a h =
      ap (λ (f : Place → ℕ). f a) (step n) ∙ one_other n (after n) a (h n (omega arith)) ∙ swept_other n a (λ i l. h i (omega arith))

  pub swept_same : (n i : ℕ) → i < n → here i ≡ true → ((t : ℕ) → t < n → here t ≡ true → lk t ≡ lk i → t ≡ i) → after n (lk i) ≡ F i (p (lk i))
  swept_same zero i l h u = absurd (omega arith)
  swept_same (suc n) i l h u = ap (λ (f : Place → ℕ). f (lk i)) (step n) ∙ go (ℕ_discrete i n) (λ q. swept_same n i q h (λ t r. u t (omega arith)))
    where
      before : i ≡ n → after n (lk n) ≡ p (lk n)
      before e = swept_other n (lk n) (λ t q r z. absurd (omega (arith, u t (omega arith) r (sym z ∙ ap lk (sym e)), e)))

      go : Dec (i ≡ n) → (i < n → after n (lk i) ≡ F i (p (lk i))) → changed places (after n) (one n (after n)) (lk i) ≡ F i (p (lk i))
      go (yes e) rec =
          subst (λ (x : ℕ). changed places (after n) (one n (after n)) (lk x) ≡ F x (p (lk x))) (sym e)
          (one_same n (after n) (subst (λ (x : ℕ). here x ≡ true) e h) ∙ ap (F n) (before e))
      go (no d) rec = one_other n (after n) (lk i) (λ r z. d (sym (u n (omega arith) r (sym z)))) ∙ rec (omega arith)

-- ---- places of locks
-- what a place of a lock names
whose : Place → ℕ
whose place.Root = 0
whose place.Version = 0
whose place.States = 0
whose place.MetadataLock = 0
whose (place.Vector i) = 0
whose (place.Node k j) = 0
whose (place.FlagLock k) = k
whose (place.Table s k) = 0
whose (place.NodeLock s k) = s * 1024 + k

sort_of : Place → ℕ
sort_of place.Root = 0
sort_of place.Version = 0
sort_of place.States = 0
sort_of place.MetadataLock = 1
sort_of (place.Vector i) = 0
sort_of (place.Node k j) = 0
sort_of (place.FlagLock k) = 2
sort_of (place.Table s k) = 0
sort_of (place.NodeLock s k) = 3

module _ (k j slots : ℕ) (al : slots ≤ 1024) where
  abbrev pub lock_place : Obj → Place
  lock_place o = lock_of (server_object o)

  -- at one server the locks of different objects are at different places
  pub lock_apart : (p : Place → ℕ) (s : Fin 8) (o q : Obj) → InStore k j slots o → InStore k j slots q → lock_kept k j slots p s o ≡ true → lock_kept k j slots p s q ≡ true
      → lock_place o ≡ lock_place q → o ≡ q
  unfolding lock_of sort_of whose
  lock_apart p s meta meta hi hq ho hz e = refl
  lock_apart p s meta (node n) hi hq ho hz e = absurd (let z : 1 ≡ 3 = ap sort_of e in omega arith)
  lock_apart p s meta (flag n) hi hq ho hz e = absurd (let z : 1 ≡ 2 = ap sort_of e in omega arith)
  lock_apart p s (node x) meta hi hq ho hz e = absurd (let z : 3 ≡ 1 = ap sort_of e in omega arith)
  lock_apart p s (node x) (node n) hi hq ho hz e = ap node (let z : x / 1024 * 1024 + x % 1024 ≡ n / 1024 * 1024 + n % 1024 = ap whose e in omega arith)
  lock_apart p s (node x) (flag n) hi hq ho hz e = absurd (let z : 3 ≡ 2 = ap sort_of e in omega arith)
  lock_apart p s (flag x) meta hi hq ho hz e = absurd (let z : 2 ≡ 1 = ap sort_of e in omega arith)
  lock_apart p s (flag x) (node n) hi hq ho hz e = absurd (let z : 2 ≡ 3 = ap sort_of e in omega arith)
  lock_apart p s (flag x) (flag n) hi hq ho hz e =
      let z : x % 1024 ≡ n % 1024 = ap whose e in
      let a : x / 1024 ≡ s.0 = kept_at k j slots s x hi ho in
      let b : n / 1024 ≡ s.0 = kept_at k j slots s n hq hz in
      ap flag (omega arith)

  -- ---- what the machine asks for, by the words
  module _ (u : ClientWord → ℕ) (y : P.Slot (T k j slots)) (s : Fin 8) (low : ℕ) (el : y.lowest.0 ≡ low) (o : Obj) (i : ℕ) (hi : InStore k j slots o) where
    abbrev r : Node
    r = record_at u Reads i

    -- the object as servers are asked about it, and as the machine has it
    abbrev pub asked : U.Item
    asked = U.item_of u (number o) r

    abbrev pub held : P.Item (T k j slots)
    held = record {
      obj = o;
      old = value_of o r;
      version = r.version;
      written = I.has u Writes (number o);
      new = new_value k j slots u o (value_of o r) (find u Writes (number o));
    }

    low_same : eqb s.0 low ≡ yes? (Fin-discrete 8 y.lowest s)
    low_same = go (ℕ_discrete s.0 low)
      where
        go : Dec (s.0 ≡ low) → eqb s.0 low ≡ yes? (Fin-discrete 8 y.lowest s)
        go (yes e) = eq-eqb s.0 low e ∙ sym (of_yes (Fin-discrete 8 y.lowest s) (native.Mathlib.Fin.val_path (el ∙ sym e)))
        go (no n) = ne_eqb s.0 low n ∙ sym (of_no (Fin-discrete 8 y.lowest s) (λ e. n (sym (ap (λ (z : Fin 8). z.0) e) ∙ el)))

    -- of an outer object
    home_same : (v : Val) → inner o v ≡ false → at_home s.0 (number o) ≡ yes? (Fin-discrete 8 s (home k j slots o))
    home_same v e =
        sym (kept_home k j slots al s o hi) ∙ sym (subst (λ (b : Bool). (not b && yes? (Fin-discrete 8 s (home k j slots o))) ≡ (not b && keeps k j slots s o)) e
        (outer_home k j slots s o v))

    pub read_same : U.checked_at low s.0 asked ≡ Mv.to_read (T k j slots) y.lowest s held
    unfolding U.checked_at U.item_of
    read_same =
        ap (λ (b : Bool). cond b (eqb s.0 low || I.has u Writes (number o)) (at_home s.0 (number o))) (inner_of slots al o hi r)
        ∙ go (inner o (value_of o r)) refl
      where
        go : (b : Bool) → inner o (value_of o r) ≡ b
            → cond b (eqb s.0 low || I.has u Writes (number o)) (at_home s.0 (number o))
            ≡ cond b (yes? (Fin-discrete 8 y.lowest s) || I.has u Writes (number o)) (yes? (Fin-discrete 8 s (home k j slots o)))
        go true e = ap (λ (b : Bool). b || I.has u Writes (number o)) low_same
        go false e = home_same (value_of o r) e

    -- of what is written: inner as written
    becomes_same : (f : Found) → I.of_record u Writes (I.inner (number o)) f
        ≡ (is_at f && inner o (new_value k j slots u o (value_of o r) f))
    becomes_same None = refl
    becomes_same (Some w) = inner_of slots al o hi (record_at u Writes w)

    pub write_same : (I.has u Writes (number o) && U.locked_at low s.0 asked) ≡ Mv.to_write (T k j slots) s held
    unfolding U.locked_at U.checked_at U.item_of I.has
    write_same =
        ap₂ (λ (a b : Bool). I.has u Writes (number o) && (cond a (eqb s.0 low || I.has u Writes (number o)) (at_home s.0 (number o)) || (I.has u Writes (number o) && b)))
        (inner_of slots al o hi r) (becomes_same (find u Writes (number o)))
        ∙ go (inner o (value_of o r)) refl (I.has u Writes (number o)) (inner o (new_value k j slots u o (value_of o r) (find u Writes (number o))))
      where
        H : Bool
        H = yes? (Fin-discrete 8 s (home k j slots o))

        go : (b : Bool) → inner o (value_of o r) ≡ b → (w n : Bool)
            → (w && (cond b (eqb s.0 low || w) (at_home s.0 (number o)) || (w && (w && n)))) ≡ (w && (H || (b || n)))
        go b e false n = refl
        go true e true n = or_true (eqb s.0 low) n H
          where
            or_true : (a n h : Bool) → ((a || true) || n) ≡ (h || true)
            or_true true n true = refl
            or_true true n false = refl
            or_true false n true = refl
            or_true false n false = refl
        go false e true n = ap (λ (b : Bool). b || n) (home_same (value_of o r) e)

  -- ---- the words of locks after a sweep over the read set
  module _ (u : ClientWord → ℕ) (fit : client_fits slots u ≡ true) (y : P.Slot (T k j slots)) (h : SlotShown k j slots u y) (s : Fin 8) (low : ℕ) (el : y.lowest.0 ≡ low) (p : Place → ℕ) where
    abbrev pub obj : ℕ → Obj
    obj i = obj_of (number_at u Reads i)

    abbrev pub here : ℕ → Bool
    here i = U.locked_at low s.0 (U.read_item u i)

    abbrev pub lk : ℕ → Place
    lk i = lock_of (object_of (number_at u Reads i))

    -- place i of the read set, by its object
    pub by_object : (i : ℕ) → U.read_item u i ≡ U.item_of u (number (obj i)) (record_at u Reads i)
    by_object i = ap (λ (x : ℕ). U.item_of u x (record_at u Reads i)) (sym (number_obj (number_at u Reads i)))

    pub lock_at : (i : ℕ) → i < count u Reads → lk i ≡ lock_place (obj i)
    lock_at i l = ap lock_of (ap object_of (sym (number_obj (number_at u Reads i))) ∙ object_number slots al (obj i) (read_in k j slots al u fit i l))

    -- what is locked is kept here
    pub here_kept : (i : ℕ) → i < count u Reads → here i ≡ true → lock_kept k j slots p s (obj i) ≡ true
    unfolding U.locked_at U.item_of
    here_kept i l b = go (obj i) (read_in k j slots al u fit i l) (subst (λ (x : U.Item). U.locked_at low s.0 x ≡ true) (by_object i) b)
      where
        go : (o : Obj) → InStore k j slots o → U.locked_at low s.0 (U.item_of u (number o) (record_at u Reads i)) ≡ true → lock_kept k j slots p s o ≡ true
        go meta hi b = refl
        go (node n) hi b = refl
        go (flag n) hi b = kept (or_cases _ _ b)
          where
            never : (w : Bool) (f : Found) → (w && I.of_record u Writes (I.inner (number (flag n))) f) ≡ true → ⊥
            never w f e = false≢true (sym (is_none w f) ∙ e)
              where
                is_none : (w : Bool) (f : Found) → (w && I.of_record u Writes (I.inner (number (flag n))) f) ≡ false
                is_none true f = becomes_same u y s low el (flag n) i hi f ∙ none f
                  where
                    none : (f : Found) → (is_at f && false) ≡ false
                    none (Some w) = refl
                    none None = refl
                is_none false f = refl

            kept : (U.checked_at low s.0 (U.item_of u (number (flag n)) (record_at u Reads i)) ≡ true)
                ⊎ ((I.has u Writes (number (flag n)) && I.of_record u Writes (I.inner (number (flag n))) (find u Writes (number (flag n)))) ≡ true)
                → keeps k j slots s (flag n) ≡ true
            kept (inl e) = sym (read_same u y s low el (flag n) i hi) ∙ e
            kept (inr e) = absurd (never (I.has u Writes (number (flag n))) (find u Writes (number (flag n))) e)

    -- two places of one lock are one place
    one_place : (i t : ℕ) → i < count u Reads → t < count u Reads → obj t ≡ obj i → t ≡ i
    one_place i t li lt e =
        let q : number_at u Reads t ≡ number_at u Reads i = sym (number_obj (number_at u Reads t)) ∙ ap number e ∙ number_obj (number_at u Reads i) in
        at_same t i (sym (h.read_found t lt) ∙ ap (find u Reads) q ∙ h.read_found i li)

    module _ (F : ℕ → ℕ → ℕ) (o : Obj) (hi : InStore k j slots o) (kept : lock_kept k j slots p s o ≡ true) where
      -- the lock's object at a place that is swept
      is_it : (t : ℕ) → t < count u Reads → here t ≡ true → lock_place o ≡ lk t → o ≡ obj t
      is_it t l b e = lock_apart p s o (obj t) hi (read_in k j slots al u fit t l) kept (here_kept t l b) (e ∙ lock_at t l)

      abbrev swept : ℕ
      swept = after here lk F p (count u Reads) (lock_place o)

      pub none_swept : find u Reads (number o) ≡ None → swept ≡ p (lock_place o)
      none_swept e =
          swept_other here lk F p (count u Reads) (lock_place o)
          (λ t l b q. absent≢at t (sym e ∙ ap (find u Reads) (ap number (is_it t l b q) ∙ number_obj (number_at u Reads t)) ∙ h.read_found t l))

      module _ (i : ℕ) (e : find u Reads (number o) ≡ Some i) where
        at : (i < count u Reads) × (number_at u Reads i ≡ number o)
        unfolding count
        at = found_at u Reads (number o) i e

        pub the_object : obj i ≡ o
        the_object = ap obj_of at.1 ∙ obj_number slots al o hi

        pub one_swept : here i ≡ true → swept ≡ F i (p (lock_place o))
        one_swept b =
            let q : lk i ≡ lock_place o = lock_at i at.0 ∙ ap lock_place the_object in
            ap (after here lk F p (count u Reads)) (sym q)
            ∙ swept_same here lk F p (count u Reads) i at.0 b
            (λ t l r z. one_place i t at.0 l
            (lock_apart p s (obj t) (obj i) (read_in k j slots al u fit t l) (read_in k j slots al u fit i at.0) (here_kept t l r) (here_kept i at.0 b) (sym (lock_at t l) ∙ z ∙ lock_at i at.0)))
            ∙ ap (λ (a : Place). F i (p a)) q

        pub not_swept : here i ≡ false → swept ≡ p (lock_place o)
        not_swept b =
            swept_other here lk F p (count u Reads) (lock_place o)
            (λ t l r q. not_both (subst (λ (x : ℕ). here x ≡ true) (one_place i t at.0 l (sym (is_it t l r q) ∙ sym the_object)) r) b)

      -- the lock is that of an object that is read and locked here, or its word stays
      abbrev pub Here : ℕ → Type 0
      Here i = (find u Reads (number o) ≡ Some i) × (here i ≡ true)

      abbrev Becomes : ℕ → ℕ → Type 0
      Becomes w old = ((i : ℕ) × Here i × (w ≡ F i old)) ⊎ (((i : ℕ) → ¬ (Here i)) × (w ≡ old))

      abbrev pub Swept : ℕ → Type 0
      Swept w = Becomes w (p (lock_of (object_of (number o))))

      swept_or_not : Swept (after here lk F p (count u Reads) (lock_of (object_of (number o))))
      swept_or_not =
          subst (λ (a : Place). Becomes (after here lk F p (count u Reads) a) (p a)) (sym (ap lock_of (object_number slots al o hi)))
          (go (find u Reads (number o)) refl)
        where
          go : (f : Found) → find u Reads (number o) ≡ f → Becomes swept (p (lock_place o))
          go None e = inr (λ i q. absent≢at i (sym e ∙ q.0), none_swept e)
          go (Some i) e = by (here i) refl
            where
              by : (b : Bool) → here i ≡ b → Becomes swept (p (lock_place o))
              by true b = inl (i, (e, b), one_swept i e b)
              by false b = inr (λ n q. not_both (subst (λ (x : ℕ). here x ≡ true) (at_same n i (sym q.0 ∙ e)) q.1) b, not_swept i e b)

    -- at a prepare, and at an apply or an abort
    module _ (c : ℕ) (o : Obj) (hi : InStore k j slots o) (kept : lock_kept k j slots p s o ≡ true) where
      pub locked_swept : Swept (λ i. locked (U.read_item u i).written c) o hi kept (changed places p (lock_each u c low s.0 p) (lock_of (object_of (number o))))
      unfolding lock_step count number_at U.item_of
      locked_swept = swept_or_not (λ i. locked (U.read_item u i).written c) o hi kept

      pub unlocked_swept : Swept (λ i. unlocked c) o hi kept (changed places p (unlock_each u c low s.0 p) (lock_of (object_of (number o))))
      unfolding unlock_step count number_at U.item_of
      unlocked_swept = swept_or_not (λ i. unlocked c) o hi kept
