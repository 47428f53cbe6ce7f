-- Laws of a question: own writes, then what the part has.
use Rattle.std.specs.Prelude.{◌≡◌, Bool, ◌&&◌, ◌||◌, not, List, [], ◌∷◌, ◌++◌, ℕ, ◌+◌, ◌-◌, ◌/◌, ◌≤◌, ◌<◌, take, drop, set, Result, Ok, Err, IfOk}
use Rattle.std.proofs.Math.Path.{refl, sym}
use Rattle.std.proofs.Common.{ap, ◌∙◌, arith, add-one, length-append, length-set, take-suc-set, get_or-set_same, get_or-set_other, take-take}
use Rattle.std.proofs.Math.Bool.{true, false}
use Rattle.std.proofs.Math.Option.{Option, none, some}
use Rattle.std.proofs.Math.Decide.{ℕ_discrete}
use Rattle.std.proofs.Math.Dec.{ltb, leb, eqb}
use Rattle.std.proofs.Math.ListN.{length, get_or, length-drop}
use Rattle.std.proofs.Math.Seq.{length-take-le}
use borrow.Author.Tests.{lt-ltb, le-ltb, ltb-true, ltb-false, leb-true, le-leb, ne_eqb, eqb-true, not-true, not-false}
use Rattle.base.specs.Test.{and_both}
use Rattle.nodes.specs.declared.node.Node.{Node}
use Rattle.nodes.specs.Found.{Found}
use Rattle.std.specs.Prelude.{Some, None}
use Rattle.nodes.specs.Name.{server_of, name_in_store}
use Rattle.nodes.specs.Node.{free_node, made}
use Rattle.nodes.specs.Range.{level_fits, count_fits, node_in_range}
use Rattle.nodes.proofs.Laws.Range.{range_count}
use Rattle.nodes.specs.Found.{Inside}
use Rattle.operations.specs.Object.{Obj, meta, node, flag, object, Val, taken, Writes, hit}
use Rattle.base.specs.Test.{one_if}
use Rattle.client.specs.Have as known
use Rattle.operations.specs.Path.{TreePlan, see}
use Rattle.memory.specs.Word.{view}
use Rattle.nodes.specs.Lists.{pad}
use Rattle.nodes.specs.Stored.{node_at}
use Rattle.client.specs.declared.answer.Have.{Have}
use Rattle.client.specs.declared.answer.Have.TheVariants as code
use Rattle.client.specs.declared.answer.Short.{Short}
use Rattle.walk.specs.declared.walk.Stop.{Stop}
use Rattle.walk.specs.declared.walk.Stop.TheVariants.{LacksMeta, LacksNode, LacksVector, Refused, Aborts}
use Rattle.client.specs.declared.part.Set.TheVariants.{Reads, Copies}
use Rattle.client.specs.Layout.{ClientWord, reads_count, meta_states, vector_word}
use Rattle.client.specs.Record.{number, object_in_store, in_store, first_slot, second_slot, value_of, single, metadata, record_in_range}
use Rattle.client.specs.Sets.{held, count, find, first_of}
use Rattle.client.specs.Have.{How, Look, is_copied, is_found, how, Has, stood, StandsInPart, short_of, short_as, short, short_in, IsNode, node_usable, stand_usable, meta_usable, flag_usable, copied, copied_meta, copied_item, copied_node, copied_flag, copy_fits, source, look_fits, have, broken}
use Rattle.client.specs.Laws.Look.{node_usable_is, meta_fits_is, flag_fits_is}
use Rattle.client.specs.Run.{lacks, Ran, ran, among, run}
use Rattle.client.specs.Lent.{own_find, own_first, own_record, own_list, Lent, used_in, pushed}
use Rattle.client.specs.Answered.{entered}
use Rattle.walk.specs.Laws.Met.{Way, Here, Copied, Full, Lacking, Broken, Met, here, copy, full, lacking, unfit, is_new, taken_up, looked, at_hand, used_after}
use Rattle.walk.specs.Walk.{Course, Going, Ended, course, goes, lack, fresh, room, over, worked, walked, carry}
use Rattle.walk.specs.Laws.Walk.{full_ask, judged_over}
use Rattle.walk.specs.Ask.{Small, write_of, OwnGood, HoldsWrites, nothing, Noted, Asks, Numbered, Outside, Asked, given, Meets, InPart, node_in, placed_in, flag_in, PlacedNode, SeenNode, AskedFlag, popped, with_copy, noted_copy}
use Rattle.plans.specs.Plan as P
use Rattle.client.specs.declared.part.Set.TheVariants as set

abbrev pub or_ask : Obj → (Val → TreePlan) → Option Val → TreePlan
or_ask o k none = P.ask (object o) k
or_ask o k (some v) = k v

pub see_is : (w : Writes) (o : Obj) (k : Val → TreePlan) → see w o k ≡ or_ask o k (write_of w o)
see_is [] o k = refl
see_is (e ∷ w) o k = go (hit e.0 o) refl (see_is w o k)
  where
    go : (b : Bool) → hit e.0 o ≡ b → see w o k ≡ or_ask o k (write_of w o) → see (e ∷ w) o k ≡ or_ask o k (write_of (e ∷ w) o)
    go true p h = rw p
    go false p h = rw p h

-- an empty list of own writes
none_own : (x : List ℕ) (n : ℕ) → get_or x 0 0 ≡ 0 → own_find x n ≡ None
unfolding own_find first_of
none_own x n e = rw e

absent_at : {A : Type 0} (i : ℕ) → None ≡ Some i → A
absent_at i e = let z : ◌≡◌ {A = ℕ} 0 1 = cc in absurd (omega arith)

module _ (x : List ℕ) (e : get_or x 0 0 ≡ 0) where
  pub nothing_good : 681 ≤ length x → OwnGood x
  nothing_good l =
      record { fit = record { long = l; few = omega arith }; few = λ i h. absurd (omega arith); small = λ o i f. absent_at i (sym (none_own x (number o) e) ∙ f) }

  pub nothing_held : (slots : ℕ) → HoldsWrites slots x []
  unfolding own_list own_first entered
  nothing_held slots = record { entries = rw e; same = λ o t. rw (none_own x (number o) e); out = λ o t. refl }

pub none_held : (slots : ℕ) → HoldsWrites slots nothing []
none_held slots = nothing_held nothing refl slots

module _ (m : ClientWord → ℕ) (u : List ℕ) (h : Noted m u) where
  pub used_length : length (used_in u) ≡ get_or u 0 0
  unfolding used_in
  used_length = let l : get_or u 0 0 ≤ length (drop 1 u) = simp length-drop (omega arith) in length-take-le (get_or u 0 0) (drop 1 u) l

  pub not_over : over m (used_in u) ≡ false → Lent u
  unfolding over
  not_over e = let l : count m Reads + length (used_in u) ≤ 96 = ltb-false _ _ e in record { long = h.long; few = omega (arith, used_length); small = h.each }

  pub over_is : (n c : ℕ) → n ≡ count m Reads → c ≡ get_or u 0 0 → ltb 96 (n + c) ≡ over m (used_in u)
  unfolding over
  over_is n c p q = rw (used_length, p, q)

pub used_pushed : (u : List ℕ) (x : ℕ) → 98 ≤ length u → get_or u 0 0 ≤ 96 → used_in (pushed u x) ≡ used_in u ++ (x ∷ [])
unfolding used_in pushed
used_pushed [] x l f = absurd (omega arith)
used_pushed (n ∷ u) x l f = let g : n < length u = omega arith in rw (add-one, take-suc-set u n x g)

-- ---- what is looked up is the plan's next step
room_left : (a b : ℕ) → ltb a (96 - b) ≡ ltb (b + a) 96
room_left a b = go (ltb (b + a) 96) refl
  where
    go : (t : Bool) → ltb (b + a) 96 ≡ t → ltb a (96 - b) ≡ ltb (b + a) 96
    go true e = let l : b + a < 96 = ltb-true _ _ e in let g : a < 96 - b = omega arith in rw (e, lt-ltb _ _ g)
    go false e = let l : 96 ≤ b + a = ltb-false _ _ e in let g : 96 - b ≤ a = omega arith in rw (e, le-ltb _ _ g)

-- what is found, and in neither set, is a copy
module _ (m : ClientWord → ℕ) where
  item_copied : (f : Found) → is_found (copied_item m f).how ≡ is_copied (copied_item m f).how
  item_copied (Some i) = refl
  item_copied None = refl

  meta_found_is : is_found (copied_meta m).how ≡ is_copied (copied_meta m).how
  unfolding copied_meta
  meta_found_is = go (eqb (m meta_states) 0) refl
    where
      go : (b : Bool) → eqb (m meta_states) 0 ≡ b → is_found (copied_meta m).how ≡ is_copied (copied_meta m).how
      go true e = rw (copied_meta, e)
      go false e = rw (copied_meta, e)

  flag_found_is : (n : ℕ) → is_found (copied_flag m n).how ≡ is_copied (copied_flag m n).how
  unfolding copied_flag
  flag_found_is n = go (eqb (m (vector_word (server_of n) 0)) 0) refl
    where
      go : (b : Bool) → eqb (m (vector_word (server_of n) 0)) 0 ≡ b → is_found (copied_flag m n).how ≡ is_copied (copied_flag m n).how
      go true e = rw (copied_flag, e)
      go false e = rw (copied_flag, e)

  copied_found : (x : ℕ) → is_found (copied m x).how ≡ is_copied (copied m x).how
  unfolding copied copied_node
  copied_found x = go (eqb x 0) (leb x 8192) refl refl
    where
      go : (a b : Bool) → eqb x 0 ≡ a → leb x 8192 ≡ b → is_found (copied m x).how ≡ is_copied (copied m x).how
      go true b p q = rw (copied, p) meta_found_is
      go false true p q = rw (copied, p, q, copied_node) (item_copied (find m Copies x))
      go false false p q = rw (copied, p, q) (flag_found_is (x - 8193))

  fresh_is : (x : ℕ) → is_found (source m x).how ≡ true → fresh m x ≡ is_copied (source m x).how
  unfolding source
  fresh_is x h = go (find m set.Writes x) (find m Reads x) refl refl
    where
      go : (f g : Found) → find m set.Writes x ≡ f → find m Reads x ≡ g → fresh m x ≡ is_copied (source m x).how
      go (Some i) g p q = rw (source, p)
      go None (Some i) p q = rw (source, p, q)
      go None None p q = rw (source, p, q) (sym (rw (source, p, q) at h) ∙ copied_found x)

module _ (slots : ℕ) (m : ClientWord → ℕ) (o : Obj) (k : Val → TreePlan) (us : List ℕ) where
  abbrev pub met : Way → Node → Ran
  met Here n = worked slots m (k (value_of o n)) us
  met Copied n = worked slots m (k (value_of o n)) (us ++ (number o ∷ []))
  met Full n = worked slots m (k (value_of o n)) (us ++ (number o ∷ []))
  met Lacking n = ran (lacks (object o)) us
  met Broken n = ran (lacks (object o)) us

module _ (slots : ℕ) (m : ClientWord → ℕ) (x u : List ℕ) (w : Writes) (o : Obj) (t : object_in_store slots o ≡ true) (v : over m (used_in u) ≡ false) (k : Val → TreePlan) where
  abbrev asked_run : Ran
  asked_run = run (have slots m) (fresh m) (room m) (P.ask (object o) k) (used_in u)

  one_more : length (used_in u ++ (number o ∷ [])) ≡ length (used_in u) + 1
  one_more = simp length-append (omega arith)

  taken_run : (r : Node) → fresh m (number o) ≡ true → have slots m (object o) ≡ some (value_of o r)
      → asked_run ≡ met slots m o k (used_in u) (taken_up m u (number o) r).how (taken_up m u (number o) r).node
  unfolding run taken_up worked over
  taken_run r c h = go (among (number o) (used_in u)) (ltb (count m Reads + length (used_in u)) 96) refl refl
    where
      go : (a b : Bool) → among (number o) (used_in u) ≡ a → ltb (count m Reads + length (used_in u)) 96 ≡ b
          → asked_run ≡ met slots m o k (used_in u) (taken_up m u (number o) r).how (taken_up m u (number o) r).node
      go true b p q = rw (run, taken_up, worked, h, c, p, v)
      go false true p q =
          let l : count m Reads + length (used_in u) < 96 = ltb-true (count m Reads + length (used_in u)) 96 q in
          let g : count m Reads + length (used_in u ++ (number o ∷ [])) ≤ 96 = omega (arith, one_more) in
          rw (run, taken_up, worked, over, h, c, p, room_left (length (used_in u)) (count m Reads), q, le-ltb _ _ g)
      go false false p q =
          let l : 96 ≤ count m Reads + length (used_in u) = ltb-false (count m Reads + length (used_in u)) 96 q in
          let g : 96 < count m Reads + length (used_in u ++ (number o ∷ [])) = omega (arith, one_more) in
          rw (run, taken_up, worked, over, h, c, p, room_left (length (used_in u)) (count m Reads), q, lt-ltb _ _ g) (judged_over (k (value_of o r)) (number o) (used_in u))

  part_run : own_find x (number o) ≡ None → asked_run ≡ met slots m o k (used_in u) (looked slots m x u (number o)).how (looked slots m x u (number o)).node
  unfolding run have looked worked
  part_run a = go (is_found (source m (number o)).how) (look_fits slots m (number o) (source m (number o))) (is_copied (source m (number o)).how) refl refl refl
    where
      go : (b c d : Bool) → is_found (source m (number o)).how ≡ b → look_fits slots m (number o) (source m (number o)) ≡ c → is_copied (source m (number o)).how ≡ d
          → asked_run ≡ met slots m o k (used_in u) (looked slots m x u (number o)).how (looked slots m x u (number o)).node
      go true true true p q r =
          let h : have slots m (object o) ≡ some (value_of o (source m (number o)).node) = rw (have, t, p, q) in
          rw (looked, a, p, q, r) (taken_run (source m (number o)).node (fresh_is m (number o) p ∙ r) h)
      go true true false p q r = rw (run, have, looked, worked, a, t, p, q, r, fresh_is m (number o) p, r, v)
      go true false d p q r = rw (run, have, looked, a, t, p, q)
      go false c d p q r = rw (run, have, looked, a, t, p)

  looked_run : HoldsWrites slots x w → worked slots m (see w o k) (used_in u) ≡ met slots m o k (used_in u) (looked slots m x u (number o)).how (looked slots m x u (number o)).node
  unfolding looked worked
  looked_run h = go (own_find x (number o)) refl
    where
      go : (f : Found) → own_find x (number o) ≡ f
          → worked slots m (see w o k) (used_in u) ≡ met slots m o k (used_in u) (looked slots m x u (number o)).how (looked slots m x u (number o)).node
      go (Some i) e = let y : write_of w o ≡ some (value_of o (own_record x i)) = sym (h.same o t) ∙ rw e in rw (see_is w o k, y, looked, e)
      go None e = let y : write_of w o ≡ none = sym (h.same o t) ∙ rw e in rw (see_is w o k, y, worked, v) (part_run e)

-- whether what is lacking may be fetched
abbrev unfit? : Way → Bool
unfit? Here = false
unfit? Copied = false
unfit? Full = false
unfit? Lacking = false
unfit? Broken = true

abbrev fetched? : Way → Bool
fetched? Here = true
fetched? Copied = true
fetched? Full = true
fetched? Lacking = false
fetched? Broken = false

module _ (slots : ℕ) (m : ClientWord → ℕ) (x u : List ℕ) (o : Obj) (t : object_in_store slots o ≡ true) where
  taken_fetched : (r : Node) → fetched? (taken_up m u (number o) r).how ≡ true
  unfolding taken_up
  taken_fetched r = go (among (number o) (used_in u)) (ltb (count m Reads + length (used_in u)) 96) refl refl
    where
      go : (a b : Bool) → among (number o) (used_in u) ≡ a → ltb (count m Reads + length (used_in u)) 96 ≡ b → fetched? (taken_up m u (number o) r).how ≡ true
      go true b p q = rw (taken_up, p)
      go false true p q = rw (taken_up, p, q)
      go false false p q = rw (taken_up, p, q)

  looked_broken : fetched? (looked slots m x u (number o)).how ≡ false → broken slots m (object o) ≡ unfit? (looked slots m x u (number o)).how
  unfolding looked broken
  looked_broken h = own (own_find x (number o)) refl
    where
      go : own_find x (number o) ≡ None → (b c d : Bool) → is_found (source m (number o)).how ≡ b → look_fits slots m (number o) (source m (number o)) ≡ c → is_copied (source m (number o)).how ≡ d
          → broken slots m (object o) ≡ unfit? (looked slots m x u (number o)).how
      go a true true true p q r =
          let f : fetched? (looked slots m x u (number o)).how ≡ true = rw (looked, a, p, q, r) (taken_fetched (source m (number o)).node) in
          let e : true ≡ false = sym f ∙ h in cc
      go a true true false p q r = rw (broken, looked, a, t, p, q, r)
      go a true false d p q r = rw (broken, looked, a, t, p, q)
      go a false c d p q r = rw (broken, looked, a, t, p)

      own : (f : Found) → own_find x (number o) ≡ f → broken slots m (object o) ≡ unfit? (looked slots m x u (number o)).how
      own (Some i) e = let f : fetched? (looked slots m x u (number o)).how ≡ true = rw (looked, e) in let g : true ≡ false = sym f ∙ h in cc
      own None e = go e (is_found (source m (number o)).how) (look_fits slots m (number o) (source m (number o))) (is_copied (source m (number o)).how) refl refl refl

free_small : (o : Obj) → Small o (free_node 0)
unfolding free_node made
free_small meta = tt
free_small (node n) = record { keys = omega arith; level = omega arith }
free_small (flag n) = tt

range_level : (n : Node) → node_in_range n ≡ true → n.level ≤ 4
unfolding node_in_range
range_level n h = go (eqb n.kind 2) refl
  where
    rest : Bool
    rest = level_fits n.kind n.level && count_fits n.kind n.count

    fit : level_fits n.kind n.level ≡ true
    fit =
        (and_both (level_fits n.kind n.level) (count_fits n.kind n.count)
        (and_both (leb n.version 4294967295) rest (and_both (leb n.kind 2) (leb n.version 4294967295 && rest) h).1).1).0

    go : (b : Bool) → eqb n.kind 2 ≡ b → n.level ≤ 4
    go true e = leb-true n.level 4 (and_both (leb 1 n.level) (leb n.level 4) (rw e at fit)).1
    go false e = let z : n.level ≡ 0 = eqb-true n.level 0 (rw e at fit) in omega arith

-- a name of the store
pub name_below : (slots n : ℕ) → in_store slots n ≡ true → n < 8192
unfolding name_in_store
name_below slots n t = let a : n / 1024 < 8 = ltb-true _ _ (and_both _ _ t).0 in omega arith

range_small : (slots : ℕ) (o : Obj) (r : Node) → object_in_store slots o ≡ true → record_in_range slots (number o) r ≡ true → Small o r
unfolding record_in_range
range_small slots meta r t h = tt
range_small slots (node n) r t h =
    let b : 1 + n ≤ 8192 = omega (arith, name_below slots n t) in
    let c : 1 + n ≡ 0 → ⊥ = λ e. omega arith in
    let g : node_in_range r ≡ true = rw (ne_eqb _ _ c, le-leb _ _ b) at h in
    record { keys = range_count r g; level = range_level r g }
range_small slots (flag n) r t h = tt

fits_small : (slots : ℕ) (m : ClientWord → ℕ) (o : Obj) (l : Look) → object_in_store slots o ≡ true → look_fits slots m (number o) l ≡ true → Small o l.node
unfolding look_fits
fits_small slots m o l t h =
    range_small slots o l.node t (and_both (record_in_range slots (number o) l.node) (not (is_copied l.how) || copy_fits m (number o) l.node) h).0

module _ (slots : ℕ) (m : ClientWord → ℕ) (x u : List ℕ) (o : Obj) (t : object_in_store slots o ≡ true) (own : (i : ℕ) → own_find x (number o) ≡ Some i → Small o (own_record x i)) where
  looked_small : Small o (looked slots m x u (number o)).node
  unfolding looked taken_up
  looked_small = go (own_find x (number o)) refl
    where
      taken : (r : Node) → Small o r → (a b : Bool) → among (number o) (used_in u) ≡ a → ltb (count m Reads + length (used_in u)) 96 ≡ b → Small o (taken_up m u (number o) r).node
      taken r h true b p q = rw (taken_up, p) h
      taken r h false true p q = rw (taken_up, p, q) h
      taken r h false false p q = rw (taken_up, p, q) h

      part : own_find x (number o) ≡ None → (b c d : Bool) → is_found (source m (number o)).how ≡ b → look_fits slots m (number o) (source m (number o)) ≡ c
          → is_copied (source m (number o)).how ≡ d → Small o (looked slots m x u (number o)).node
      part a true true true p q r = rw (looked, a, p, q, r) (taken (source m (number o)).node (fits_small slots m o (source m (number o)) t q) (among (number o) (used_in u)) (ltb (count m Reads + length (used_in u)) 96) refl refl)
      part a true true false p q r = rw (looked, a, p, q, r) (fits_small slots m o (source m (number o)) t q)
      part a true false d p q r = rw (looked, a, p, q) (free_small o)
      part a false c d p q r = rw (looked, a, p) (free_small o)

      go : (f : Found) → own_find x (number o) ≡ f → Small o (looked slots m x u (number o)).node
      go (Some i) e = rw (looked, e) (own i e)
      go None e = part e (is_found (source m (number o)).how) (look_fits slots m (number o) (source m (number o))) (is_copied (source m (number o)).how) refl refl refl

never : {A : Type 0} {b : Bool} → b ≡ false → b ≡ true → A
never p q = let e : false ≡ true = sym p ∙ q in let z : ◌≡◌ {A = ℕ} 0 1 = cc in absurd (omega arith)

abbrev entered_stop : Way → Stop → Course
entered_stop Here l = Going
entered_stop Copied l = Going
entered_stop Full l = Going
entered_stop Lacking l = Ended l
entered_stop Broken l = Ended Refused

abbrev entered_used : Way → List ℕ → ℕ → List ℕ
entered_used Here u n = u
entered_used Copied u n = u
entered_used Full u n = pushed u n
entered_used Lacking u n = u
entered_used Broken u n = u

pub popped_used : (u : List ℕ) → 98 ≤ length u → get_or u 0 0 ≤ 97 → used_in (popped u) ≡ take (length (used_in u) - 1) (used_in u)
unfolding used_in
popped_used [] l f = absurd (omega arith)
popped_used (c ∷ u) l f =
    let g : length (take c u) ≡ c = length-take-le c u (omega arith) in
    let d : c - 1 ≤ c = omega arith in
    rw (g, take-take (c - 1) c u d)

pub popped_noted : (m : ClientWord → ℕ) (u : List ℕ) → Noted m u → Noted m (popped u)
popped_noted m [] h = absurd (omega arith)
popped_noted m (c ∷ u) h = record { long = h.long; few = omega arith; each = λ i l. rw add-one (rw add-one at (h.each i (omega arith))) }

pushed_noted : (m : ClientWord → ℕ) (u : List ℕ) (x : ℕ) → x < 16385 → Noted m u → count m Reads + get_or u 0 0 ≤ 96 → Noted m (pushed u x)
unfolding pushed
pushed_noted m u x b f h =
    record {
      long = rw (length-set (set u (c + 1) x) 0 (c + 1), length-set u (c + 1) x) f.long;
      few = rw first (omega arith);
      each = λ i l. rw (get_or-set_other (set u (c + 1) x) 0 (i + 1) (c + 1) 0 (λ e. absurd (omega arith))) (go i (ℕ_discrete i c) (rw first at l));
    }
  where
    c : ℕ
    c = get_or u 0 0

    a : 0 < length (set u (c + 1) x)
    a = rw (length-set u (c + 1) x) (omega (arith, f.long))

    first : get_or (set (set u (c + 1) x) 0 (c + 1)) 0 0 ≡ c + 1
    first = get_or-set_same (set u (c + 1) x) 0 (c + 1) 0 a

    go : (i : ℕ) → Dec (i ≡ c) → i < c + 1 → get_or (set u (c + 1) x) (i + 1) 0 < 16385
    go i (yes e) l = rw (e, get_or-set_same u (c + 1) x 0 (omega (arith, f.long, f.few, h))) b
    go i (no d) l = rw (get_or-set_other u (c + 1) (i + 1) x 0 (λ e. d (omega arith))) (f.each i (omega arith))

module _ (slots : ℕ) (m : ClientWord → ℕ) (u : List ℕ) (n : ℕ) (l : Stop) (near : n < 16385) (h : Noted m u) where
  asked_over : (u' : List ℕ) → over m (used_in u) ≡ true → u' ≡ popped u → Numbered slots m nothing u n l (Ended (Aborts 4)) (free_node 0) u'
  asked_over u' v pu =
      let b : get_or u 0 0 ≤ 97 = omega arith in
      rw pu (record {
        asks = λ o p t b' w hold. let y : write_of w o ≡ none = sym (hold.same o t) ∙ rw (none_own nothing (number o) refl) in
            record { same = λ k. rw (see_is w o k, y, full_ask slots m (used_in u) (object o) k v, popped_used u h.long b) };
        noted = popped_noted m u h;
        long = simp length-set;
        small = λ o p t. free_small o;
      })

  module _ (v : over m (used_in u) ≡ false) where
    few : count m Reads + get_or u 0 0 ≤ 96
    unfolding over
    few = let c : count m Reads + length (used_in u) ≤ 96 = ltb-false _ _ v in omega (arith, used_length m u h)

    more : Noted m (pushed u n)
    more = pushed_noted m u n near h few

    looked_noted : (d : Way) → (looked slots m nothing u n).how ≡ d → Noted m (entered_used (at_hand (looked slots m nothing u n)).how (used_after (looked slots m nothing u n) u n) n)
    unfolding at_hand used_after
    looked_noted Here e = rw (at_hand, used_after, e) h
    looked_noted Copied e = rw (at_hand, used_after, e) more
    looked_noted Full e = rw (at_hand, used_after, e) more
    looked_noted Lacking e = rw (at_hand, used_after, e) h
    looked_noted Broken e = rw (at_hand, used_after, e) h

    looked_long : (d : Way) → (looked slots m nothing u n).how ≡ d → length (entered_used (at_hand (looked slots m nothing u n)).how (used_after (looked slots m nothing u n) u n) n) ≡ length u
    unfolding at_hand used_after pushed
    looked_long Here e = rw (at_hand, used_after, e)
    looked_long Copied e = rw (at_hand, used_after, e) (simp length-set)
    looked_long Full e = rw (at_hand, used_after, e) (simp length-set)
    looked_long Lacking e = rw (at_hand, used_after, e)
    looked_long Broken e = rw (at_hand, used_after, e)

    hand_node : (L : Met) → (at_hand L).node ≡ L.node
    unfolding at_hand
    hand_node L = go (is_new L.how) refl
      where
        go : (b : Bool) → is_new L.how ≡ b → (at_hand L).node ≡ L.node
        go true e = rw (at_hand, e)
        go false e = rw (at_hand, e)

    module _ (o : Obj) (t : object_in_store slots o ≡ true) (b : lack (object o) ≡ l) (w : Writes) (hold : HoldsWrites slots nothing w) where
      abbrev L : Met
      L = looked slots m nothing u (number o)

      pushed_in : used_in (pushed u (number o)) ≡ used_in u ++ (number o ∷ [])
      pushed_in = used_pushed u (number o) h.long (omega (arith, few))

      looked_asks : (d : Way) → L.how ≡ d → Asks slots m w o u (entered_stop (at_hand L).how l) (at_hand L).node (entered_used (at_hand L).how (used_after L u (number o)) (number o))
      unfolding at_hand used_after walked
      looked_asks Here e = rw (at_hand, used_after, e) (record { same = λ k. rw (walked, looked_run slots m nothing u w o t v k hold, e) })
      looked_asks Copied e = rw (at_hand, used_after, e) (record { same = λ k. rw (pushed_in, walked, looked_run slots m nothing u w o t v k hold, e) })
      looked_asks Full e = rw (at_hand, used_after, e) (record { same = λ k. rw (pushed_in, walked, looked_run slots m nothing u w o t v k hold, e) })
      looked_asks Lacking e =
          let f : broken slots m (object o) ≡ false = looked_broken slots m nothing u o t (rw e) ∙ rw e in
          rw (at_hand, used_after, e) (record { same = λ k. rw (walked, looked_run slots m nothing u w o t v k hold, e, f, ← b) })
      looked_asks Broken e =
          let f : broken slots m (object o) ≡ true = looked_broken slots m nothing u o t (rw e) ∙ rw e in
          rw (at_hand, used_after, e) (record { same = λ k. rw (walked, looked_run slots m nothing u w o t v k hold, e, f) })

  -- what the part has of the object, as it is looked up
  looked_found : over m (used_in u) ≡ false → (L : Met) → looked slots m nothing u n ≡ L
      → Numbered slots m nothing u n l (entered_stop (at_hand L).how l) (at_hand L).node (entered_used (at_hand L).how (used_after L u n) n)
  looked_found v L e = rw (← e) (record {
    asks = λ o p t b w hold. rw (← p) (looked_asks v o t b w hold (looked slots m nothing u (number o)).how refl);
    noted = looked_noted v (looked slots m nothing u n).how refl;
    long = looked_long v (looked slots m nothing u n).how refl;
    small = λ o p t. rw (hand_node v (looked slots m nothing u n), ← p) (looked_small slots m nothing u o t (λ i q. absent_at i (sym (none_own nothing (number o) refl) ∙ q)));
  })

  module _ (under : over m (used_in u) ≡ false) where
    asked_lacking : is_found (source m n).how ≡ false → Numbered slots m nothing u n l (Ended l) (free_node 0) u
    unfolding looked at_hand used_after
    asked_lacking k = looked_found under lacking (rw (looked, none_own nothing n refl, k))

    module _ (k : is_found (source m n).how ≡ true) where
      asked_broken : look_fits slots m n (source m n) ≡ false → Numbered slots m nothing u n l (Ended Refused) (free_node 0) u
      unfolding looked at_hand used_after
      asked_broken q = looked_found under unfit (rw (looked, none_own nothing n refl, k, q))

      asked_going : (u' : List ℕ) → look_fits slots m n (source m n) ≡ true → u' ≡ noted_copy (source m n).how u n → Numbered slots m nothing u n l Going (source m n).node u'
      unfolding looked taken_up at_hand used_after with_copy
      asked_going u' q pu = rw pu (go (is_copied (source m n).how) refl (among n (used_in u)) refl (ltb (count m Reads + length (used_in u)) 96) refl)
        where
          go : (b : Bool) → is_copied (source m n).how ≡ b → (d : Bool) → among n (used_in u) ≡ d → (e : Bool) → ltb (count m Reads + length (used_in u)) 96 ≡ e
              → Numbered slots m nothing u n l Going (source m n).node (noted_copy (source m n).how u n)
          go false pb d pd e pe = rw pb (looked_found under (here (source m n).node) (rw (looked, none_own nothing n refl, k, q, pb)))
          go true pb true pd e pe = rw (pb, with_copy, pd) (looked_found under (here (source m n).node) (rw (looked, none_own nothing n refl, k, q, pb, taken_up, pd)))
          go true pb false pd true pe = rw (pb, with_copy, pd) (looked_found under (copy (source m n).node) (rw (looked, none_own nothing n refl, k, q, pb, taken_up, pd, pe)))
          go true pb false pd false pe = rw (pb, with_copy, pd) (looked_found under (full (source m n).node) (rw (looked, none_own nothing n refl, k, q, pb, taken_up, pd, pe)))

-- as the code asks
module _ {A : Type 0} (m : ClientWord → ℕ) (u : List ℕ) (n : ℕ) (f : Have A) (right : Bool) (l : Stop) (near : n < 16385) (h : Noted m u) (c : Bool) (vc : c ≡ over m (used_in u)) where
  pub meets_over : (u' : List ℕ) → c ≡ true → u' ≡ popped u → Meets m u n (how f) right l (Ended (Aborts 4)) u'
  meets_over u' t pu = record { numbered = λ slots p q. asked_over slots m u n l near h u' (sym vc ∙ t) pu; found = λ g. never refl g }

  module _ (cf : c ≡ false) where
    pub meets_lacking : f ≡ code.Lacking → Meets m u n (how f) right l (Ended l) u
    meets_lacking e =
        rw e (record {
          numbered = λ slots p q. let k : is_found (source m n).how ≡ false = rw (← p) in asked_lacking slots m u n l near h (sym vc ∙ cf) k;
          found = λ g. never refl g;
        })

    there : (f : Have A) → (f ≡ code.Lacking → ⊥) → is_found (how f) ≡ true
    there (code.Here x) d = refl
    there (code.Copied x) d = refl
    there code.Lacking d = absurd (d refl)

    pub meets_unfit : (f ≡ code.Lacking → ⊥) → not right ≡ true → Meets m u n (how f) right l (Ended Refused) u
    meets_unfit d nr =
        record {
          numbered = λ slots p q. asked_broken slots m u n l near h (sym vc ∙ cf) (rw p at (there f d)) (sym (q (there f d)) ∙ not-true right nr);
          found = λ g. never refl g;
        }

    pub meets_fit : (u' : List ℕ) → is_found (how f) ≡ true → not right ≡ false → u' ≡ noted_copy (how f) u n → Meets m u n (how f) right l Going u'
    meets_fit u' t nr pu =
        record {
          numbered = λ slots p q. asked_going slots m u n l near h (sym vc ∙ cf) (rw p at t) u' (sym (q t) ∙ not-false right nr) (rw p at pu);
          found = λ g. t;
        }

    pub meets_here : (x : A) → f ≡ code.Here x → not right ≡ false → Meets m u n (how f) right l Going u
    meets_here x e nr = meets_fit u (rw e) nr (rw e)

    pub meets_copied : (x : A) (u' : List ℕ) → f ≡ code.Copied x → not right ≡ false → u' ≡ with_copy u n → Meets m u n (how f) right l Going u'
    meets_copied x u' e nr pu = meets_fit u' (rw e) nr (rw e pu)

pub has_here : {A : Type 0} (f : Have A) (x : A) → f ≡ code.Here x → Has f x
has_here f x e = rw e

pub has_copied : {A : Type 0} (f : Have A) (x : A) → f ≡ code.Copied x → Has f x
has_copied f x e = rw e

-- the record of a walk that ended is not looked at
pub given_small : (n : ℕ) (s : Course) (r : Node) → Small (node n) r → Small (node n) (given s r)
given_small n s r h = go (goes s) refl
  where
    go : (b : Bool) → goes s ≡ b → Small (node n) (given s r)
    go true e = rw e h
    go false e = rw e (free_small (node n))

module _ (slots : ℕ) (m : ClientWord → ℕ) (x u : List ℕ) (o : Obj) (s : Course) (r r' : Node) (u' : List ℕ) where
  pub asked_as : (goes s ≡ true → value_of o r ≡ value_of o r') → Small o r' → Asked slots m x u o s r u' → Asked slots m x u o s r' u'
  asked_as v sm a =
      record { asks = λ w hold. record { same = λ k. (a.asks w hold).same k ∙ go (goes s) refl k }; noted = a.noted; long = a.long; inside = a.inside; small = sm }
    where
      go : (b : Bool) → goes s ≡ b → (k : Val → TreePlan) → carry s (used_in u') (λ us. walked slots m (k (value_of o r)) us) ≡ carry s (used_in u') (λ us. walked slots m (k (value_of o r')) us)
      go true e k = rw (e, v e)
      go false e k = rw e

-- ---- a node of the store, where it stands in the part
module _ (w : List ℕ) where
  stood_how : (f : Have ℕ) → (stood w f).how ≡ how f
  stood_how (code.Here i) = refl
  stood_how (code.Copied i) = refl
  stood_how code.Lacking = refl

  stood_node : (f : Have ℕ) (i : ℕ) → Has f i → (stood w f).node ≡ node_at w i
  stood_node (code.Here j) i e = rw e
  stood_node (code.Copied j) i e = rw e
  stood_node code.Lacking i e = absurd e

  stood_in_part : (f : Have ℕ) (i : ℕ) → Has f i → StandsInPart f → InPart i
  stood_in_part (code.Here j) i e h = rw (← e) h
  stood_in_part (code.Copied j) i e h = rw (← e) h
  stood_in_part code.Lacking i e h = absurd e

  usable_is : (f : Have ℕ) → is_found (how f) ≡ true → stand_usable w f ≡ node_usable (how f) (stood w f).node
  unfolding stand_usable
  usable_is f t = rw t

module _ (b u : List ℕ) (n k : ℕ) (f : Have ℕ) (right : Bool) (u' : List ℕ) where
  pub node_placed : (r : Result ℕ Stop) → k ≡ 1 + n → n < 8192 → stood (view b) f ≡ source (held b) k → StandsInPart f → right ≡ stand_usable (view b) f
      → Meets (held b) u k (how f) right (LacksNode n) (course r) u' → IfOk r (λ i. Has f i) → PlacedNode b u n r u'
  node_placed r e h st inside pr = go r
    where
      how_is : how f ≡ (source (held b) k).how
      how_is = sym (stood_how (view b) f) ∙ ap (λ (y : Look). y.how) st

      fits : (slots : ℕ) → is_found (how f) ≡ true → right ≡ look_fits slots (held b) k (source (held b) k)
      fits slots t =
          pr ∙ usable_is (view b) f t ∙ ap (λ (y : How). node_usable y (stood (view b) f).node) how_is ∙ ap (λ (y : Look). node_usable (source (held b) k).how y.node) st
          ∙ sym (node_usable_is slots (held b) k (source (held b) k) (record { some = λ d. omega arith; most = omega arith }))

      go : (r : Result ℕ Stop) → Meets (held b) u k (how f) right (LacksNode n) (course r) u' → IfOk r (λ i. Has f i) → PlacedNode b u n r u'
      go (Ok i) g d =
          let q : (source (held b) k).node ≡ node_at (view b) i = ap (λ (y : Look). y.node) (sym st) ∙ stood_node (view b) f i d in
          record { numbered = λ slots. rw (← e) (rw q at (g.numbered slots how_is (fits slots))); within = stood_in_part (view b) f i d inside }
      go (Err s) g d = record { numbered = λ slots. rw (← e) (g.numbered slots how_is (fits slots)); within = tt }

pub node_is_node : (n k : ℕ) → k ≡ 1 + n → n < 8192 → IsNode k
node_is_node n k e h = record { some = λ d. omega arith; most = omega arith }

pub ruleset placed_exits = (node_placed, node_is_node)

-- ---- an object seen: an own write, else what was asked for
module _ (slots : ℕ) (m : ClientWord → ℕ) (x u : List ℕ) (n : ℕ) (l : Stop) (h : Noted m u) (g : OwnGood x) (f : Found) (pf : f ≡ own_find x n) where
  pub seen_own : (i : ℕ) (r : Node) → f ≡ Some i → r ≡ own_record x i → Numbered slots m x u n l Going r u
  seen_own i r e q =
      let a : own_find x n ≡ Some i = sym pf ∙ e in
      rw q (record {
        asks = λ o p t b w hold. let k : own_find x (number o) ≡ Some i = rw p a in
            let y : write_of w o ≡ some (value_of o (own_record x i)) = sym (hold.same o t) ∙ rw k in
            record { same = λ k. rw (see_is w o k, y) };
        noted = h;
        long = refl;
        small = λ o p t. g.small o i (rw p a);
      })

  pub seen_asked : (s : Course) (r : Node) (u' : List ℕ) → f ≡ None → Numbered slots m nothing u n l s r u' → Numbered slots m x u n l s r u'
  seen_asked s r u' e d =
      let a : own_find x n ≡ None = sym pf ∙ e in
      record {
        asks = λ o p t b w hold. let k : own_find x (number o) ≡ None = rw p a in
            let y : write_of w o ≡ none = sym (hold.same o t) ∙ rw k in
            record { same = λ k. rw (see_is w o k, y) ((d.asks o p t b [] (none_held slots)).same k) };
        noted = d.noted;
        long = d.long;
        small = d.small;
      }

-- ---- ways out of the code that asks
pub at_inside : (f : Found) (i n : ℕ) → Inside f n → f ≡ Some i → i < n
at_inside f i n h e = h.inside i e

-- a copy comes into use
module _ (u : List ℕ) (n : ℕ) (c : Bool) (pc : c ≡ among n (used_in u)) where
  pub copy_known : c ≡ true → u ≡ with_copy u n
  unfolding with_copy
  copy_known t = rw (← pc, t)

  pub copy_new : (u' : List ℕ) → c ≡ false → u' ≡ pushed u n → u' ≡ with_copy u n
  unfolding with_copy
  copy_new u' t p = rw (p, ← pc, t)

pub ruleset copy_exits = (copy_known, copy_new)

pub reads_few : (m : ClientWord → ℕ) → count m Reads ≤ 96
unfolding count
reads_few m = go (leb (m reads_count) 96) refl
  where
    go : (b : Bool) → leb (m reads_count) 96 ≡ b → count m Reads ≤ 96
    go true e = rw (count, e) (leb-true (m reads_count) 96 e)
    go false e = rw (count, e) (omega arith)

-- the code's test of the limit
module _ (m : ClientWord → ℕ) (u : List ℕ) (b : Bool) (e : b ≡ over m (used_in u)) (h : Noted m u) where
  pub over_some : b ≡ true → 0 < get_or u 0 0
  unfolding over
  over_some t = let l : 96 < count m Reads + length (used_in u) = ltb-true _ _ (sym e ∙ t) in omega (arith, used_length m u h, reads_few m)

  pub over_long : b ≡ true → 98 ≤ length u
  over_long t = h.long

  pub under_lent : b ≡ false → Lent u
  under_lent f = not_over m u h (sym e ∙ f)

pub ruleset meet_exits = (over_some, over_long, under_lent, meets_over, meets_lacking, meets_unfit, meets_here, meets_copied, has_here, has_copied)

module _ (b x u : List ℕ) (n k : ℕ) (e : k ≡ 1 + n) (h : Noted (held b) u) (g : OwnGood x) (f : Found) (pf : f ≡ own_find x k) where
  pub node_own : (i : ℕ) (r : Node) → f ≡ Some i → r ≡ own_record x i → SeenNode (held b) x u n (Ok r) u
  node_own i r d q = record { numbered = λ slots. rw (← e) (seen_own slots (held b) x u k (LacksNode n) h g f pf i r d q) }

  module _ (d : f ≡ None) (u' : List ℕ) where
    placed : (p : Result ℕ Stop) → PlacedNode b u n p u' → (slots : ℕ) → Numbered slots (held b) x u (1 + n) (LacksNode n) (course p) (placed_in b p) u'
    placed p q slots = rw (← e) (seen_asked slots (held b) x u k (LacksNode n) h g f pf (course p) (placed_in b p) u' d (rw (← e) at (q.numbered slots)))

    pub node_seen : (i : ℕ) (r : Node) → PlacedNode b u n (Ok i) u' → r ≡ node_at (view b) i → SeenNode (held b) x u n (Ok r) u'
    node_seen i r q t = record { numbered = λ slots. rw t (placed (Ok i) q slots) }

    pub node_unseen : (s : Stop) → PlacedNode b u n (Err s) u' → SeenNode (held b) x u n (Err s) u'
    node_unseen s q = record { numbered = placed (Err s) q }

pub placed_within : (b u : List ℕ) (n i : ℕ) (u' : List ℕ) → PlacedNode b u n (Ok i) u' → i + 33 ≤ 7223
placed_within b u n i u' q = q.within

pub ruleset seen_exits = (node_own, node_seen, node_unseen, placed_within, at_inside)

module _ (m : ClientWord → ℕ) (u : List ℕ) (b : Bool) (e : b ≡ over m (used_in u)) (h : Noted m u) where
  pub out_over : (u' : List ℕ) → b ≡ true → u' ≡ popped u → Outside m u (Aborts 4) u'
  out_over u' t p =
      let c : get_or u 0 0 ≤ 97 = omega arith in
      rw p (record {
        asks = λ slots x o f w hold r. record { same = λ k. rw (see_is w o k, hold.out o f, full_ask slots m (used_in u) (object o) k (sym e ∙ t), popped_used u h.long c) };
        noted = popped_noted m u h;
        long = simp length-set;
      })

  pub out_refused : b ≡ false → Outside m u Refused u
  unfolding walked worked run have broken
  out_refused t =
      let v : over m (used_in u) ≡ false = sym e ∙ t in
      record {
        asks = λ slots x o f w hold r. record { same = λ k. rw (see_is w o k, hold.out o f, walked, worked, run, have, v, f, broken, f) };
        noted = h;
        long = refl;
      }

pub ruleset outside_exits = (over_some, over_long, out_over, out_refused)

pub first_metadata : (r st : ℕ) → first_slot (metadata 0 r st) ≡ r
unfolding metadata made pad
first_metadata r st = refl

pub second_metadata : (r st : ℕ) → second_slot (metadata 0 r st) ≡ st
unfolding metadata made pad
second_metadata r st = refl

pub first_single : (v : ℕ) → first_slot (single 0 v) ≡ v
unfolding single made pad
first_single v = refl

flag_value : (n : ℕ) (r : Node) (b : Bool) → b ≡ eqb (first_slot r) 1 → value_of (flag n) r ≡ value_of (flag n) (single 0 (one_if b))
flag_value n r b e = rw (first_single (one_if b), ← e) (ap taken (back b))
  where
    back : (b : Bool) → b ≡ eqb (one_if b) 1
    back true = refl
    back false = refl

module _ (slots : ℕ) (m : ClientWord → ℕ) (x u : List ℕ) (n : ℕ) (b : Bool) (e : b ≡ in_store slots n) where
  module _ (s : Stop) (u' : List ℕ) (t : not b ≡ true) (h : Outside m u s u') where
    outside_is : (o : Obj) → object_in_store slots o ≡ false → (r : Node) → Small o r → Asked slots m x u o (Ended s) r u'
    outside_is o f r sm = record { asks = λ w hold. h.asks slots x o f w hold r; noted = h.noted; long = h.long; inside = λ g. never refl g; small = sm }

    pub node_out : Asked slots m x u (node n) (Ended s) (free_node 0) u'
    node_out = outside_is (node n) (sym e ∙ not-true b t) (free_node 0) (free_small (node n))

    pub flag_out : (v : ℕ) → Asked slots m x u (flag n) (Ended s) (single 0 v) u'
    flag_out v = outside_is (flag n) (sym e ∙ not-true b t) (single 0 v) tt

  module _ (t : not b ≡ false) where
    node_found : (s : Course) (r : Node) (u' : List ℕ) → Numbered slots m x u (1 + n) (LacksNode n) s r u' → Asked slots m x u (node n) s r u'
    node_found s r u' h =
        record { asks = λ w hold. h.asks (node n) refl (sym e ∙ not-false b t) refl w hold; noted = h.noted; long = h.long; inside = λ g. sym e ∙ not-false b t; small = h.small (node n) refl (sym e ∙ not-false b t) }

    pub node_see : (a : Result Node Stop) (u' : List ℕ) → SeenNode m x u n a u' → Asked slots m x u (node n) (course a) (node_in a) u'
    node_see a u' h = node_found (course a) (node_in a) u' (h.numbered slots)

    flag_found : (s : Course) (r : Node) (v : Bool) (u' : List ℕ) → (goes s ≡ true → v ≡ eqb (first_slot r) 1) → Numbered slots m x u (8193 + n) (LacksVector (server_of n)) s r u'
        → Asked slots m x u (flag n) s (single 0 (one_if v)) u'
    flag_found s r v u' q h =
        asked_as slots m x u (flag n) s r (single 0 (one_if v)) u' (λ g. flag_value n r v (q g)) tt
        (record { asks = λ w hold. h.asks (flag n) refl (sym e ∙ not-false b t) refl w hold; noted = h.noted; long = h.long; inside = λ g. sym e ∙ not-false b t; small = tt })

    module _ (k : ℕ) (d : k ≡ 8193 + n) (h : Noted m u) (g : OwnGood x) (f : Found) (pf : f ≡ own_find x k) where
      pub flag_own : (i v : ℕ) → f ≡ Some i → v ≡ first_slot (own_record x i) → Asked slots m x u (flag n) Going (single 0 (one_if (eqb v 1))) u
      flag_own i v c q =
          flag_found Going (own_record x i) (eqb v 1) u (λ a. rw q) (rw d at (seen_own slots m x u k (LacksVector (server_of n)) h g f pf i (own_record x i) c refl))

      pub flag_asked : (v : Result Bool Stop) (u' : List ℕ) → f ≡ None → AskedFlag m u n v u' → Asked slots m x u (flag n) (course v) (flag_in v) u'
      flag_asked v u' c a = go v a.value (λ slots. seen_asked slots m x u (8193 + n) (LacksVector (server_of n)) h g f (rw d at pf) (course v) a.node u' c (a.numbered slots))
        where
          go : (v : Result Bool Stop) → IfOk v (λ t. t ≡ eqb (first_slot a.node) 1) → ((slots : ℕ) → Numbered slots m x u (8193 + n) (LacksVector (server_of n)) (course v) a.node u')
              → Asked slots m x u (flag n) (course v) (flag_in v) u'
          go (Ok t) q h = flag_found Going a.node t u' (λ g. q) (h slots)
          go (Err s) q h = flag_found (Ended s) a.node false u' (λ g. never refl g) (h slots)

pub node_ask : (slots : ℕ) (c u : List ℕ) (n : ℕ) (b : Bool) → b ≡ in_store slots n → not b ≡ false → (p : Result ℕ Stop) (u' : List ℕ) → PlacedNode c u n p u'
    → Asked slots (held c) nothing u (node n) (course p) (placed_in c p) u'
node_ask slots c u n b e t p u' h =
    node_found slots (held c) nothing u n b e t (course p) (placed_in c p) u' (h.numbered slots)

pub ask_within : (c u : List ℕ) (n : ℕ) (p : Result ℕ Stop) (u' : List ℕ) → PlacedNode c u n p u' → IfOk p InPart
ask_within c u n p u' h = h.within

-- what stands for an object's record in few words
short_how : (l : Look) → how (short l) ≡ l.how
short_how l = go l.how
  where
    go : (h : How) → how (short_as h l.node) ≡ h
    go known.Here = refl
    go known.Copied = refl
    go known.Lacking = refl

short_is : (l : Look) (s : Short) → Has (short l) s → s ≡ short_of l.node
short_is l s = go l.how
  where
    go : (h : How) → Has (short_as h l.node) s → s ≡ short_of l.node
    go known.Here e = sym e
    go known.Copied e = sym e
    go known.Lacking e = absurd e

-- a flag of the store
module _ (m : ClientWord → ℕ) (u : List ℕ) (n k y : ℕ) (f : Have Short) (right : Bool) (u' : List ℕ) (e : k ≡ 8193 + n) (o : y ≡ server_of n) (sh : f ≡ short (source m (8193 + n))) (pr : right ≡ flag_usable m n (how f) (short_in f)) where
  flag_numbered : (s : Course) → Meets m u k (how f) right (LacksVector y) s u' → (slots : ℕ) → Numbered slots m nothing u (8193 + n) (LacksVector (server_of n)) s (given s (source m (8193 + n)).node) u'
  flag_numbered s g slots =
      rw (o, e) at (g.numbered slots (rw e how_is) (λ t. rw e (pr ∙ ap (λ (g : Have Short). flag_usable m n (how g) (short_in g)) sh ∙ sym (flag_fits_is slots m n (source m (8193 + n)) (rw how_is at t)))))
    where
      how_is : how f ≡ (source m (8193 + n)).how
      how_is = ap how sh ∙ short_how (source m (8193 + n))

  pub flag_met : (s : Short) → Meets m u k (how f) right (LacksVector y) Going u' → Has f s → AskedFlag m u n (Ok (eqb s.value 1)) u'
  flag_met s g h =
      let q : s ≡ short_of (source m (8193 + n)).node = short_is (source m (8193 + n)) s (rw sh at h) in
      record { node = (source m (8193 + n)).node; numbered = flag_numbered Going g; value = rw q }

  pub flag_unmet : (s : Stop) → Meets m u k (how f) right (LacksVector y) (Ended s) u' → AskedFlag m u n (Err s) u'
  flag_unmet s g = record { node = free_node 0; numbered = flag_numbered (Ended s) g; value = tt }

pub ruleset flag_ways = (flag_met, flag_unmet)

-- the metadata
module _ (slots : ℕ) (m : ClientWord → ℕ) (u : List ℕ) (f : Have Short) (right : Bool) (u' : List ℕ) (sh : f ≡ short (source m 0)) (pr : right ≡ meta_usable slots (short_in f)) where
  meta_asked : (s : Course) → Meets m u 0 (how f) right LacksMeta s u' → Asked slots m nothing u meta s (given s (source m 0).node) u'
  meta_asked s g =
      let how_is : how f ≡ (source m 0).how = ap how sh ∙ short_how (source m 0) in
      let h = g.numbered slots how_is (λ t. pr ∙ ap (λ (g : Have Short). meta_usable slots (short_in g)) sh ∙ sym (meta_fits_is slots m (source m 0) (rw how_is at t))) in
      record { asks = λ w hold. h.asks meta refl refl refl w hold; noted = h.noted; long = h.long; inside = λ t. refl; small = tt }

  pub meta_met : (s : Short) → Meets m u 0 (how f) right LacksMeta Going u' → Has f s → Asked slots m nothing u meta Going (metadata 0 s.value s.states) u'
  meta_met s g h =
      let q : s ≡ short_of (source m 0).node = short_is (source m 0) s (rw sh at h) in
      asked_as slots m nothing u meta Going (source m 0).node (metadata 0 s.value s.states) u' (λ t. rw (first_metadata s.value s.states, second_metadata s.value s.states, q)) tt (meta_asked Going g)

  pub meta_unmet : (s : Course) (y : Node) → goes s ≡ false → Meets m u 0 (how f) right LacksMeta s u' → Asked slots m nothing u meta s y u'
  meta_unmet s y halts g = asked_as slots m nothing u meta s _ y u' (λ t. never halts t) tt (meta_asked s g)

  pub meta_ended : (s : Stop) → Meets m u 0 (how f) right LacksMeta (Ended s) u' → Asked slots m nothing u meta (Ended s) (free_node 0) u'
  meta_ended s g = meta_unmet (Ended s) (free_node 0) refl g

pub ruleset meta_ways = (meta_met, meta_ended)

pub name_small : (slots n : ℕ) (b : Bool) → b ≡ in_store slots n → not b ≡ false → n < 8192
name_small slots n b e t = name_below slots n (sym e ∙ not-false b t)

pub ruleset answer_exits = (node_out, flag_out, node_ask, ask_within, node_see, flag_own, flag_asked, name_small, at_inside)
