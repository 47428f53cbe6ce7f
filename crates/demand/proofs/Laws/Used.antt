-- "what is used enters the read set": the copies that came into use are items of the machine's.
use Rattle.std.specs.Prelude.{◌≡◌, Bool, ◌&&◌, ◌||◌, not, ◌⊎◌, ℕ, zero, suc, ◌+◌, ◌-◌, ◌/◌, ◌%◌, ◌≤◌, ◌<◌, eqb, leb, length, get_or}
use Rattle.std.proofs.Math.Path.{refl, ap, ap₂, sym, subst}
use Rattle.std.proofs.Common.{◌∙◌, true≢false, inr, arith}
use Rattle.std.proofs.Math.Bool.{true, false, cond}
use Rattle.std.proofs.lemmas.Bool.{false≢true}
use mathlib.Core.List.{List, [], ◌∷◌, ◌++◌}
use Rattle.std.proofs.Math.Logic.{inl}
use Rattle.std.proofs.Math.Option
use Rattle.std.proofs.Math.Option.{Option, none, some, some-injective}
use Rattle.std.proofs.Math.ListN.{get_or-append}
use Rattle.std.proofs.Math.Seq.{get_or-append_seam}
use Rattle.base.proofs.Laws.Test.{bool_cases, or_neither, or_cases}
use Rattle.base.specs.Test.{not_both, and_both, one_if}
use Rattle.memory.specs.Bit.{bit}
use Rattle.layout.specs.Space.{Put, changed}
use Rattle.layout.specs.Step.{and_then}
use Rattle.layout.proofs.Laws.Step.{changed_append}
use Rattle.layout.specs.Sweep.{sweep}
use Rattle.plans.specs.Walk.{Every, used}
use Rattle.nodes.specs.declared.node.Node.{Node}
use Rattle.nodes.specs.Found.{Found}
use Rattle.std.specs.Prelude.{Some, None}
use Rattle.nodes.specs.Node.{free_node}
use Rattle.nodes.proofs.Laws.Stored.{Sized, made_sized}
use Rattle.nodes.specs.States.{is_present, is_open}
use Rattle.nodes.proofs.Laws.States.{present_below}
use Rattle.operations.specs.Object.{Obj, meta, node, flag, Ask, object, vector, fetched, Val, root, states_of, Ans}
use Rattle.operations.proofs.Laws.Object.{ObjDiscrete, inner}
use Rattle.operations.specs.Map.{Op}
use Rattle.operations.specs.Operation.{reading}
use Rattle.operations.proofs.Laws.Seen.{Hint, hint_of}
use Rattle.protocol.specs.Lists.{Among}
use Rattle.protocol.proofs.Laws.Hints.{objects}
use Rattle.client.specs.Have.{Look}
use Rattle.client.specs.declared.part.Set.{Set}
use Rattle.client.specs.declared.part.Set.TheVariants.{Reads, Writes, Copies}
use Rattle.client.specs.Layout.{ClientWord, client_words, item, vector_word, reads_count, meta_states, meta_root, meta_version}
use Rattle.client.specs.Record.{number, single, metadata, value_of}
use Rattle.client.specs.Sets.{count, find}
use Rattle.client.specs.Items.{has}
use Rattle.client.specs.Laws.Ranges.{client_fits}
use Rattle.client.specs.Have.{copy, lacking, copied_meta, copied_item, copied_node, copied_flag, copied, or_copied, or_read, source, have}
use Rattle.client.specs.Run.{among}
use Rattle.client.specs.Work.{new}
use Rattle.client.specs.Enter.{enter_read, enter_copy, enter_nth, enter_used}
use Rattle.client.specs.Answered.{used_enter}
use Rattle.demand.proofs.Laws.Stays.{AllKeep, walk_keeps, Servers, Asks, Orderly, gathered, questions, lacking_question}
use Rattle.demand.proofs.Laws.Store.{no_node, home, present}
use Rattle.demand.proofs.Laws.Housed.{HomeThere, Lost, PlacedAt, find_first, find_past, still}
use Rattle.demand.proofs.Laws.Shows.{T, InStore, item_from, item_of, SlotShown, CopiesShown}
use Rattle.demand.proofs.Laws.Slots.{find_frame, record_frame, copies_frame}
use Rattle.demand.proofs.Laws.Held.{at_has}
use Rattle.demand.proofs.Laws.Members.{server_is}
use Rattle.demand.proofs.Laws.Placed.{family, record_sized}
use Rattle.demand.proofs.Laws.AtHand.{IsThere, copy_there, written_read, Had, had, copied_inner, have_there}
use Rattle.demand.proofs.Laws.Behind.{Elsewhere, field_same, set_same, vector_same, absent_has, has_absent, has_behind}
use Rattle.demand.proofs.Laws.Entered.{ElseSame, found_written, ReadEntered, read_entered, slot_entered}
use Rattle.demand.proofs.Laws.Ran.{one_more, with_used, all_used, used_grows}
use Rattle.nodes.specs.Name as N
use Rattle.operations.specs.Object as O
use Rattle.protocol.specs.Machine as P
use Rattle.protocol.proofs.Laws.Work as W
use Rattle.protocol.specs.Moves as Mv
use Rattle.plans.specs.Plan as Pl
use Rattle.plans.proofs.Laws.Walk as Wk

-- ---- copies do not depend on the read set
module _ (u v : ClientWord → ℕ) (h : ElseSame u v) where
  pub copied_same : (x : ℕ) → copied v x ≡ copied u x
  unfolding copied copied_meta copied_node copied_flag count
  copied_same x = λ t. cond (eqb x 0) (of_meta t) (cond (leb x 8192) (of_node t) (of_flag (x - 8193) t))
    where
      of_meta : copied_meta v ≡ copied_meta u
      of_meta =
          let a = field_same Reads 10 u v h 12 (λ e. absurd (omega arith)) in
          let b = field_same Reads 10 u v h 13 (λ e. absurd (omega arith)) in
          let c = field_same Reads 10 u v h 14 (λ e. absurd (omega arith)) in
          λ t. cond (eqb (a t) 0) lacking (copy (metadata (c t) (b t) (a t)))

      of_item : (z : Found) → copied_item v z ≡ copied_item u z
      of_item (Some i) = ap copy (record_frame u v Copies i (set_same Reads 10 u v h Copies (λ e. absurd (omega arith)) i))
      of_item None = refl

      of_node : copied_node v x ≡ copied_node u x
      of_node = ap (copied_item v) (find_frame u v Copies refl (λ i. set_same Reads 10 u v h Copies (λ e. absurd (omega arith)) i 0) x) ∙ of_item (find u Copies x)

      of_flag : (n : ℕ) → copied_flag v n ≡ copied_flag u n
      of_flag n =
          let a = vector_same Reads 10 u v h (N.server_of n) 0 in
          let b = vector_same Reads 10 u v h (N.server_of n) (1 + N.slot_of n / 64) in
          λ t. cond (eqb (a t) 0) lacking (copy (single 0 (one_if (bit (b t) (N.slot_of n % 64)))))

-- and stay, where only a set and its count change
pub copies_stay : (s : Set) (f : ℕ) (u v : ClientWord → ℕ) → Elsewhere s f u v → ¬ (family (item Copies 0 0) ≡ family (item s 0 0)) → f < 12
    → (k j slots : ℕ) (g : Obj → Option (P.Copy (T k j slots))) → CopiesShown k j slots u g → CopiesShown k j slots v g
copies_stay s f u v h c l k j slots g =
    copies_frame k j slots u v g (field_same s f u v h 12 (λ e. absurd (omega arith))) (field_same s f u v h 13 (λ e. absurd (omega arith)))
    (field_same s f u v h 14 (λ e. absurd (omega arith))) (set_same s f u v h Copies c) (vector_same s f u v h)

-- a copy's record has whole arrays
pub copied_sized : (u : ClientWord → ℕ) (x : ℕ) → Sized (copied u x).node
unfolding copied copied_meta copied_node copied_flag single metadata free_node
copied_sized u x = go (eqb x 0) (leb x 8192)
  where
    free : Sized (free_node 0)
    free = made_sized 0 0 0 [] [] (omega arith) (omega arith)

    may : (b : Bool) (r : Node) → Sized r → Sized (cond b lacking (copy r)).node
    may true r h = free
    may false r h = h

    of_item : (z : Found) → Sized (copied_item u z).node
    of_item (Some i) = record_sized u Copies i
    of_item None = free

    go : (a b : Bool) → Sized (cond a (copied_meta u) (cond b (copied_node u x) (copied_flag u (x - 8193)))).node
    go true b = may (eqb (u meta_states) 0) (metadata (u meta_version) (u meta_root) (u meta_states)) (made_sized 0 0 (u meta_version) [] (u meta_root ∷ u meta_states ∷ []) (omega arith) (omega arith))
    go false true = of_item (find u Copies x)
    go false false = may (eqb (u (vector_word (N.server_of (x - 8193)) 0)) 0) _ (made_sized 0 0 0 [] (_ ∷ []) (omega arith) (omega arith))

-- ---- one copy more
sweep_same : (f g : ℕ → (ClientWord → ℕ) → List (Put ClientWord)) (n : ℕ) (u : ClientWord → ℕ) → ((i : ℕ) → i < n → g i ≡ f i)
    → sweep client_words g n u ≡ sweep client_words f n u
unfolding sweep and_then
sweep_same f g zero u h = refl
sweep_same f g (suc n) u h =
    let e = sweep_same f g n u (λ i l. h i (omega arith)) in
    let s = h n (omega arith) in
    λ t. e t ++ s t (changed client_words u (e t))

-- the part after the copies us were used
abbrev pub after_used : (ClientWord → ℕ) → List ℕ → ClientWord → ℕ
after_used u us = changed client_words u (used_enter us u)

after_none : (u : ClientWord → ℕ) → after_used u [] ≡ u
unfolding used_enter enter_used sweep changed
after_none u = refl

after_more : (u : ClientWord → ℕ) (us : List ℕ) (x : ℕ) → after_used u (us ++ (x ∷ [])) ≡ changed client_words (after_used u us) (enter_copy x (after_used u us))
unfolding used_enter enter_used enter_nth sweep and_then
after_more u us x =
    ap (λ (n : ℕ). changed client_words u (sweep client_words (enter_nth (n ∷ more)) n u)) (one_more us x)
    ∙ changed_append client_words (sweep client_words (enter_nth (suc n ∷ more)) n u) (enter_nth (suc n ∷ more) n (changed client_words u (sweep client_words (enter_nth (suc n ∷ more)) n u))) u
    ∙ (λ t. changed client_words (changed client_words u (before t)) (enter_copy (last t) (changed client_words u (before t))))
  where
    n : ℕ
    n = length us

    more : List ℕ
    more = us ++ (x ∷ [])

    last : get_or (suc n ∷ more) (n + 1) 0 ≡ x
    last = (let e : n + 1 ≡ suc n = omega arith in ap (λ (i : ℕ). get_or (suc n ∷ more) i 0) e) ∙ get_or-append_seam us x [] 0

    nth : (i : ℕ) → i < n → get_or (suc n ∷ more) (i + 1) 0 ≡ get_or (n ∷ us) (i + 1) 0
    nth i l = let e : i + 1 ≡ suc i = omega arith in rw e (get_or-append us (x ∷ []) 0 i l)

    before : sweep client_words (enter_nth (suc n ∷ more)) n u ≡ sweep client_words (enter_nth (n ∷ us)) n u
    before = sweep_same (enter_nth (n ∷ us)) (enter_nth (suc n ∷ more)) n u (λ i l. ap enter_copy (nth i l))

-- ---- ALL COPIES THAT CAME INTO USE
or_false : (b : Bool) → (b || false) ≡ b
or_false true = refl
or_false false = refl

or_assoc : (a b c : Bool) → (a || (b || c)) ≡ ((a || b) || c)
or_assoc true b c = refl
or_assoc false b c = refl

pub among_more : (x y : ℕ) (us : List ℕ) → among x (us ++ (y ∷ [])) ≡ (among x us || eqb y x)
unfolding among
among_more x y [] = or_false (eqb y x)
among_more x y (z ∷ us) = ap (λ (b : Bool). eqb z x || b) (among_more x y us) ∙ or_assoc (eqb z x) (among x us) (eqb y x)

-- a slot of an open server
pub new_home : (slots : ℕ) → slots ≤ 1024 → (st s i : ℕ) → is_open st s ≡ true → i < slots → is_present st (N.server_of (N.name s i)) ≡ true
unfolding is_open
new_home slots al st s i o l =
    let e : N.server_of (N.name s i) ≡ s = omega arith in
    ap (is_present st) e ∙ (and_both (is_present st s) (bit (st / 256) s) o).0

every_map : {A : Type 0} {P R : A → Type 0} → ((a : A) → P a → R a) → (l : List A) → Every P l → Every R l
unfolding Every
every_map f [] h = tt
every_map f (a ∷ l) h = (f a h.0, every_map f l h.1)

module _ (k j slots : ℕ) (al : slots ≤ 1024) (u : ClientWord → ℕ) (fit : client_fits slots u ≡ true) (y : P.Slot (T k j slots)) (shown : SlotShown k j slots u y) (f : Obj → Option (P.Copy (T k j slots))) (copies : CopiesShown k j slots u f) where
  -- the part after us were used shows the items is
  pub record Entering (us : List ℕ) (is : List (P.Item (T k j slots))) : Type 0 where
    pub slot : SlotShown k j slots (after_used u us) (P.with_items (T k j slots) y is)
    pub other : ElseSame u (after_used u us)
    pub counted : after_used u us reads_count ≡ u reads_count + length us
    pub has_now : (x : ℕ) → has (after_used u us) Reads x ≡ (has u Reads x || among x us)
    -- an item is one from before, or a copy
    pub origin : (o : Obj) (x : P.Item (T k j slots)) → InStore k j slots o → P.find (T k j slots) is o ≡ some x
        → (P.find (T k j slots) y.items o ≡ some x) ⊎ ((find u Reads (number o) ≡ None) × (x.version ≡ (copied u (number o)).node.version))
    -- nothing else is at hand
    pub hand : (o : Obj) → W.have (T k j slots) f is o ≡ W.have (T k j slots) f y.items o

  none_used : Entering [] y.items
  unfolding among
  none_used = record {
    slot = subst (λ (v : ClientWord → ℕ). SlotShown k j slots v y) (sym (after_none u)) shown;
    other = λ a p q. ap (λ (v : ClientWord → ℕ). v a) (after_none u);
    counted = ap (λ (v : ClientWord → ℕ). v reads_count) (after_none u) ∙ omega arith;
    has_now = λ x. ap (λ (v : ClientWord → ℕ). has v Reads x) (after_none u) ∙ sym (or_false (has u Reads x));
    origin = λ o x _ e. inl e;
    hand = λ o. refl;
  }

  module _ (us : List ℕ) (is : List (P.Item (T k j slots))) (E : Entering us is) (o : Obj) (hi : InStore k j slots o) where
    abbrev v : ClientWord → ℕ
    v = after_used u us

    abbrev r : Node
    r = (copied u (number o)).node

    abbrev more : List ℕ
    more = us ++ (number o ∷ [])

    -- what is not read now was not read before, nor is it written
    unread_before : find v Reads (number o) ≡ None → (find u Writes (number o) ≡ None) × (find u Reads (number o) ≡ None)
    unread_before e =
        let n = (or_neither (has u Reads (number o)) (among (number o) us) (sym (E.has_now (number o)) ∙ absent_has v Reads (number o) e)).0 in
        (has_absent u Writes (number o) (go n (bool_cases (has u Writes (number o)))), has_absent u Reads (number o) n)
      where
        go : has u Reads (number o) ≡ false → (has u Writes (number o) ≡ true) ⊎ (has u Writes (number o) ≡ false) → has u Writes (number o) ≡ false
        go n (inl w) = absurd (not_both (written_read k j slots al u f copies fit y shown o w) n)
        go n (inr w) = w

    entered : u reads_count + length us < 96 → ReadEntered v (after_used u more) (number o) r
    unfolding enter_copy
    entered l =
        subst (λ (w : ClientWord → ℕ). ReadEntered v w (number o) r) (sym (after_more u us (number o) ∙ ap (λ (z : Look). changed client_words v (enter_read (number o) z.node v)) (copied_same u v E.other (number o))))
        (read_entered v (number o) r (copied_sized u (number o)) (omega (arith, E.counted)))

    one_used : find v Reads (number o) ≡ None → u reads_count + length us < 96 → PlacedAt k j slots is o (value_of o r)
        → W.enter (T k j slots) is o (P.find (T k j slots) is o) (f o) ≡ P.item (T k j slots) o (value_of o r) r.version ∷ is
        → Entering more (P.item (T k j slots) o (value_of o r) r.version ∷ is)
    one_used e l placed enters =
        let R = entered l in record {
          slot = slot_entered k j slots al v (after_used u more) o r R (P.with_items (T k j slots) y is) E.slot hi e (found_written u v E.other (number o) ∙ (unread_before e).0) placed;
          other = λ a p q. R.other a p q ∙ E.other a p q;
          counted = R.counted ∙ ap suc E.counted ∙ omega (arith, one_more us (number o));
          has_now = λ x.
              has_behind Reads 10 v (after_used u more) (number o) r R x ∙ ap (λ (b : Bool). b || eqb (number o) x) (E.has_now x)
              ∙ sym (or_assoc (has u Reads x) (among x us) (eqb (number o) x)) ∙ ap (λ (b : Bool). has u Reads x || b) (sym (among_more x (number o) us));
          origin = λ q x i w. from q x i w (ObjDiscrete q o);
          hand = λ q. sym (ap (λ (is : List (P.Item (T k j slots))). W.have (T k j slots) f is q) enters)
              ∙ W.have_enter (T k j slots) f is o q (P.find (T k j slots) is o) (f o) refl refl ∙ E.hand q;
        }
      where
        it : P.Item (T k j slots)
        it = P.item (T k j slots) o (value_of o r) r.version

        from : (q : Obj) (x : P.Item (T k j slots)) → InStore k j slots q → P.find (T k j slots) (it ∷ is) q ≡ some x → Dec (q ≡ o)
            → (P.find (T k j slots) y.items q ≡ some x) ⊎ ((find u Reads (number q) ≡ None) × (x.version ≡ (copied u (number q)).node.version))
        from q x i w (no d) = E.origin q x i (sym (find_past k j slots it is q d) ∙ w)
        from q x i w (yes p) =
            let same : it ≡ x = some-injective it x (sym (find_first k j slots it is) ∙ ap (P.find (T k j slots) (it ∷ is)) (sym p) ∙ w) in
            inr (ap (λ (q : Obj). find u Reads (number q)) p ∙ (unread_before e).1, ap (λ (x : P.Item (T k j slots)). x.version) (sym same) ∙ ap (λ (q : Obj). (copied u (number q)).node.version) (sym p))

    pub shown_item : (i : ℕ) → find v Reads (number o) ≡ Some i → (x : P.Item (T k j slots)) × (P.find (T k j slots) is o ≡ some x)
    unfolding item_of
    shown_item i e = (_, E.slot.item_as o hi ∙ ap (item_from k j slots v o) e)

    no_item : find v Reads (number o) ≡ None → P.find (T k j slots) is o ≡ none
    unfolding item_of
    no_item e = E.slot.item_as o hi ∙ ap (item_from k j slots v o) e

    -- an object that is read already
    known : (i : ℕ) → find v Reads (number o) ≡ Some i → (with_used (new u) us (object o) ≡ us) × (W.enter (T k j slots) is o (P.find (T k j slots) is o) (f o) ≡ is)
    unfolding with_used item_of
    known i e = (
      stays (or_cases (has u Reads (number o)) (among (number o) us) (sym (E.has_now (number o)) ∙ at_has v Reads (number o) i e)),
      ap (λ z. W.enter (T k j slots) is o z (f o)) (E.slot.item_as o hi ∙ ap (item_from k j slots v o) e),
    )
      where
        by : (b c : Bool) → (b ≡ false) ⊎ (c ≡ true) → cond b (cond c us more) us ≡ us
        by false c h = refl
        by true true h = refl
        by true false (inl h) = absurd (true≢false h)
        by true false (inr h) = absurd (false≢true h)

        not_new : (a b : Bool) → b ≡ true → (not a && not b) ≡ false
        not_new true b h = refl
        not_new false b h = ap not h

        stays : (has u Reads (number o) ≡ true) ⊎ (among (number o) us ≡ true) → cond (new u (number o)) (cond (among (number o) us) us more) us ≡ us
        stays (inl h) = by (new u (number o)) (among (number o) us) (inl (not_new (has u Writes (number o)) (has u Reads (number o)) h))
        stays (inr h) = by (new u (number o)) (among (number o) us) (inr h)

    -- one that comes into use
    unknown : IsThere (source u (number o)) → find v Reads (number o) ≡ None
        → (with_used (new u) us (object o) ≡ more) × (W.enter (T k j slots) is o (P.find (T k j slots) is o) (f o) ≡ P.item (T k j slots) o (value_of o r) r.version ∷ is)
    unfolding with_used item_of source
    unknown h e =
        let before = unread_before e in
        let a = absent_has u Writes (number o) before.0 in
        let b = absent_has u Reads (number o) before.1 in
        let c = (or_neither (has u Reads (number o)) (among (number o) us) (sym (E.has_now (number o)) ∙ absent_has v Reads (number o) e)).1 in
        let there = subst (λ z. IsThere (or_copied u (number o) z)) before.1 (subst (λ z. IsThere (or_read u (number o) z)) before.0 h) in (
          rw (a, b, c) refl,
          ap₂ (λ z g. W.enter (T k j slots) is o z g) (E.slot.item_as o hi ∙ ap (item_from k j slots v o) e) (copy_there k j slots al u f copies fit o hi there),
        )

  -- what is at hand of each question
  abbrev pub AtHand : List Ask → Type 0
  AtHand qs = Every (λ (a : Ask). (v : Val) × (have slots u a ≡ some v)) qs

  -- ---- where they live. The states of the metadata at hand
  abbrev states_had : ℕ
  states_had = states_of (Option.get_or (W.have (T k j slots) f y.items meta) (root 0 0))

  -- the servers by these states
  abbrev pub servers : Servers slots
  servers = record { st = states_had; Home = λ n. is_present states_had (N.server_of n) ≡ true; new = new_home slots al states_had }

  -- the questions of the waiting operation
  states_known : (v : Val) → have slots u (object meta) ≡ some v → states_of v ≡ states_had
  states_known v e = sym (ap (λ (z : Option Val). states_of (Option.get_or z (root 0 0))) (have_there k j slots al u f copies fit y shown meta v e))

  pub asked_orderly : (op : Op) → Orderly slots servers [] (used (reading slots op) (have slots u))
  asked_orderly op = questions slots servers op (have slots u) states_known

  pub lacking_orderly : (op : Op) (a : Ask) → Wk.walk (reading slots op) (have slots u) ≡ Wk.lacks a → Asks slots servers (λ q. Among q (gathered slots servers [] (used (reading slots op) (have slots u)))) a
  lacking_orderly op = lacking_question slots servers op (have slots u) states_known

  -- its writes keep these states
  pub writes_keep : (op : Op) (a : Ans) (w : O.Writes) → Wk.walk (reading slots op) (have slots u) ≡ Wk.ends (Pl.gives (a, w)) → AllKeep states_had w
  writes_keep op = walk_keeps slots states_had op (have slots u) states_known

  -- each of these objects has an item
  abbrev pub ItemsOf : List (P.Item (T k j slots)) → List Obj → Type 0
  ItemsOf is seen = Every (λ (q : Obj). (x : P.Item (T k j slots)) × (P.find (T k j slots) is q ≡ some x)) seen

  pub item_known : (is : List (P.Item (T k j slots))) (seen : List Obj) → ItemsOf is seen → (q : Obj) → Among q seen → (x : P.Item (T k j slots)) × (P.find (T k j slots) is q ≡ some x)
  unfolding Every Among
  item_known is [] h q i = absurd i
  item_known is (o ∷ seen) h q (inl e) = subst (λ (q : Obj). (x : P.Item (T k j slots)) × (P.find (T k j slots) is q ≡ some x)) (sym e) h.0
  item_known is (o ∷ seen) h q (inr i) = item_known is seen h.1 q i

  module _ (us : List ℕ) (is : List (P.Item (T k j slots))) (E : Entering us is) where
    -- the metadata read has these states
    pub states_are : (x : P.Item (T k j slots)) → P.find (T k j slots) is meta ≡ some x → states_of (Mv.meta_read (T k j slots) is) ≡ states_had
    states_are x e =
        let seen : some (cond x.written x.new x.old) ≡ W.have (T k j slots) f y.items meta = sym (ap (λ z. W.at_hand (T k j slots) z (f meta)) e) ∙ E.hand meta in
        ap (λ z. states_of (P.says (T k j slots) (λ i. i.old) ((T k j slots).init meta) z)) e ∙ go x.written
        ∙ ap (λ (z : Option Val). states_of (Option.get_or z (root 0 0))) seen
      where
        go : (b : Bool) → states_of x.old ≡ states_of (cond b x.new x.old)
        go true = sym (E.slot.housed.stated x e)
        go false = refl

    -- a node that was read says where its slot is
    beside : (n : ℕ) (x : P.Item (T k j slots)) → P.find (T k j slots) is (node n) ≡ some x → HomeThere k j slots is (flag n) ⊎ Lost k j slots is
    beside n x e = go (bool_cases (inner (node n) x.old)) (bool_cases (present (Mv.meta_read (T k j slots) is) (home k j slots (flag n))))
      where
        go : (inner (node n) x.old ≡ true) ⊎ (inner (node n) x.old ≡ false)
            → (present (Mv.meta_read (T k j slots) is) (home k j slots (flag n)) ≡ true) ⊎ (present (Mv.meta_read (T k j slots) is) (home k j slots (flag n)) ≡ false)
            → HomeThere k j slots is (flag n) ⊎ Lost k j slots is
        go (inr i) _ = E.slot.housed.at_home (node n) x e i
        go (inl i) (inl h) = inl h
        go (inl i) (inr h) = inr (record { object = node n; item = x; found = e; inner_read = i; other = no_node n; gone = h })

    -- an object that comes into use, and is asked for as it should be
    placed_so : (seen : List Obj) → ItemsOf is seen → (o : Obj) (v : Val) → Had k j slots al u f copies fit y shown o v → find (after_used u us) Reads (number o) ≡ None
        → Asks slots servers (λ q. Among q seen) (object o) → PlacedAt k j slots is o (value_of o (copied u (number o)).node)
    placed_so seen h meta v q e a = record { known = inl refl; there = λ n. absurd (true≢false n) }
    placed_so seen h (node n) v q e a = record {
      known = inr (item_known is seen h meta a);
      there = λ i. let b = unread_before us is E (node n) q.in_store e in
          absurd (not_both (copied_inner k j slots al u f copies fit y shown n v q b.0 b.1) i);
    }
    placed_so seen h (flag n) v q e a = let x = item_known is seen h meta a.0 in record { known = inr x; there = λ _. go x a.1 }
      where
        go : (x : P.Item (T k j slots)) × (P.find (T k j slots) is meta ≡ some x) → (is_present states_had (N.server_of n) ≡ true) ⊎ Among (node n) seen
            → HomeThere k j slots is (flag n) ⊎ Lost k j slots is
        go x (inl p) =
            inl (ap₂ is_present (states_are x.0 x.1) (server_is k j slots (N.server_of n) (present_below states_had (N.server_of n) p)) ∙ p)
        go x (inr i) = let r = item_known is seen h (node n) i in beside n r.0 r.1

  module _ (h : Hint) where
    -- the part after these questions, and items of all that was asked for
    abbrev After : List Ask → List ℕ → List (P.Item (T k j slots)) → List Obj → Type 0
    After qs us is seen =
        let is' = W.absorb (T k j slots) f (objects (hint_of h) qs) is in
        Entering (all_used (new u) qs us) is' × ItemsOf is' (gathered slots servers seen qs)

    -- the questions qs, of what is at hand, after us were used
    uses : (qs : List Ask) → AtHand qs → (us : List ℕ) (is : List (P.Item (T k j slots))) (seen : List Obj) → Entering us is → ItemsOf is seen → Orderly slots servers seen qs
        → u reads_count + length (all_used (new u) qs us) ≤ 96 → After qs us is seen
    unfolding Every all_used with_used W.absorb objects
    uses [] g us is seen E i d l = (E, i)
    uses (vector s ∷ qs) g us is seen E i d l = uses qs g.1 us is seen E i d l
    uses (fetched s ∷ qs) g us is seen E i d l = uses qs g.1 us is seen E i d l
    uses (object o ∷ qs) g us is seen E i d l = go (find (after_used u us) Reads (number o)) refl (λ us is E i. uses qs g.1 us is (o ∷ seen) E i d.1)
      where
        q : Had k j slots al u f copies fit y shown o g.0.0
        q = had k j slots al u f copies fit y shown o g.0.0 g.0.1

        Rec : Type 0
        Rec = (us : List ℕ) (is : List (P.Item (T k j slots))) → Entering us is → ItemsOf is (o ∷ seen) → u reads_count + length (all_used (new u) qs us) ≤ 96 → After qs us is (o ∷ seen)

        next : (vs : List ℕ) (js : List (P.Item (T k j slots))) → Rec → Entering vs js → ItemsOf js (o ∷ seen) → with_used (new u) us (object o) ≡ vs
            → W.enter (T k j slots) is o (P.find (T k j slots) is o) (f o) ≡ js
            → After qs (with_used (new u) us (object o)) (W.enter (T k j slots) is o (P.find (T k j slots) is o) (f o)) (o ∷ seen)
        next vs js rec E i a b =
            coe 1 0 (t. After qs (a t) (b t) (o ∷ seen)) (rec vs js E i (subst (λ (w : List ℕ). u reads_count + length (all_used (new u) qs w) ≤ 96) a l))

        go : (z : Found) → find (after_used u us) Reads (number o) ≡ z → Rec
            → After qs (with_used (new u) us (object o)) (W.enter (T k j slots) is o (P.find (T k j slots) is o) (f o)) (o ∷ seen)
        go (Some n) e rec = let s = known us is E o q.in_store n e in next us is rec E (shown_item us is E o q.in_store n e, i) s.0 s.1
        go None e rec =
            let s = unknown us is E o q.in_store q.found e in
            let room : u reads_count + length (us ++ (number o ∷ [])) ≤ 96 = room_left s.0 in
            let it = P.item (T k j slots) o (value_of o (copied u (number o)).node) (copied u (number o)).node.version in
            let none_yet = no_item us is E o q.in_store e in
            next (us ++ (number o ∷ [])) (it ∷ is) rec
            (one_used us is E o q.in_store e (omega (arith, one_more us (number o), room)) (placed_so us is E seen i o g.0.0 q e d.0) s.1)
            ((it, find_first k j slots it is), every_map (λ x w. (w.0, still k j slots is it none_yet x w.0 w.1)) seen i) s.0 s.1
          where
            room_left : with_used (new u) us (object o) ≡ us ++ (number o ∷ []) → u reads_count + length (us ++ (number o ∷ [])) ≤ 96
            room_left a = omega (arith, used_grows (new u) qs (us ++ (number o ∷ [])), subst (λ (w : List ℕ). u reads_count + length (all_used (new u) qs w) ≤ 96) a l)

    -- COPIES IN USE: the read set has all that was used, and the machine has absorbed it
    pub copies_used : (qs : List Ask) → AtHand qs → Orderly slots servers [] qs → u reads_count + length (all_used (new u) qs []) ≤ 96 → After qs [] y.items []
    unfolding Every
    copies_used qs g d l = uses qs g [] y.items [] none_used tt d l
