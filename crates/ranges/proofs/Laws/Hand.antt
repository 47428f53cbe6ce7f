-- What is at hand is sound, so nothing at hand is out of range, and it points to names of the store.
use Rattle.std.specs.Prelude.{◌≡◌, Bool, cond, ◌&&◌, ◌||◌, ℕ, ◌+◌, ◌-◌, ◌≤◌, eqb, ltb}
use Rattle.std.proofs.Math.Path.{refl, ap, subst}
use Rattle.std.proofs.Common.{sym, ◌∙◌, eq-eqb, lt-ltb}
use Rattle.std.proofs.Math.Bool.{true, false, not}
use Rattle.std.proofs.lemmas.Bool.{false≢true, not-true}
use mathlib.Core.List.{List, [], ◌∷◌, ◌++◌}
use Rattle.std.proofs.Math.Option.{Option, some}
use Rattle.base.specs.Test.{and_both, not_both}
use Rattle.base.proofs.Laws.Test.{or_right}
use Rattle.plans.specs.Plan.{gives}
use Rattle.plans.specs.Walk.{Every}
use Rattle.plans.proofs.Laws.Walk.{lacks, ends, walk, used_had}
use Rattle.nodes.specs.Found.{Found}
use Rattle.std.specs.Prelude.{Some, None}
use Rattle.nodes.specs.Node.{slots_of}
use Rattle.operations.specs.Object.{Obj, meta, node, flag, Ask, object, vector, fetched, Val, Ans, Writes}
use Rattle.operations.specs.Operation.{all_fit?}
use Rattle.operations.proofs.Laws.Storable.{Storable, Named, AllStorable, Inside}
use Rattle.operations.proofs.Laws.Storing.{writes_storable, asked_inside}
use Rattle.client.specs.Layout.{ClientWord, reads_count}
use Rattle.client.specs.Answered.{entered}
use Rattle.client.specs.Record.{number, in_store, number_in_store, object_in_store, all, children_there}
use Rattle.client.specs.Sets.{record_at, find}
use Rattle.client.specs.Have.{Look}
use Rattle.client.specs.Have.{is_found, is_copied, copied, copy_fits, or_copied, or_read, source, look_fits, have, broken}
use Rattle.client.specs.Items.{has}
use Rattle.client.specs.Laws.Ranges.{client_fits}
use Rattle.client.specs.Run.{among}
use Rattle.client.specs.Work.{Worked, waiting, walked, worked, new}
use Rattle.demand.proofs.Laws.AtHand.{had}
use Rattle.demand.proofs.Laws.Behind.{has_absent}
use Rattle.demand.proofs.Laws.Lacking.{plan, asked}
use Rattle.demand.proofs.Laws.Numbers.{name_lt, as_node, number_inside, slot_named}
use Rattle.demand.proofs.Laws.Ran.{with_used, all_used, Follows, run_follows}
use Rattle.demand.proofs.Laws.Shows.{T, SlotShown, CopiesShown}
use Rattle.demand.proofs.Laws.Held.{found_at}
use Rattle.demand.proofs.Laws.Records.{Points, op_names, have_storable}
use Rattle.ranges.specs.Laws.Sound.{Sound, PartSound}
use Rattle.ranges.proofs.Laws.Lists.{every_more, all_every}
use Rattle.ranges.proofs.Laws.Sets.{part_fits, copied_sound, AllCopied}
use Rattle.ranges.proofs.Laws.Judged.{copy_judged, vector_judged, versions_judged}
use Rattle.ranges.proofs.Laws.Entries.{There}
use Rattle.ranges.proofs.Laws.Stored.{root_and_states}
use Rattle.protocol.specs.Machine as M
use Rattle.client.specs.declared.part.Set.TheVariants as set
use Rattle.client.specs.Run as Run
use Rattle.client.specs.Work as Work

abbrev is_refused : Worked → Bool
is_refused Work.refused = true
is_refused (Work.fetches a) = false
is_refused (Work.aborted y) = false
is_refused (Work.answers a w) = false

-- an object of the store
named_there : (slots : ℕ) (o : Obj) → Named (There slots) o → object_in_store slots o ≡ true
named_there slots meta h = refl
named_there slots (node n) h = h
named_there slots (flag n) h = h

module _ (slots : ℕ) (u : ClientWord → ℕ) (P : PartSound slots u) where
  -- "An object is read from the write set, else the read set, else the client's copies"
  source_sound : (x : ℕ) → is_found (source u x).how ≡ true → Sound slots x (source u x).node
  unfolding source
  source_sound x h = go (find u set.Writes x) refl (find u set.Reads x) refl h
    where
      go : (w : Found) → find u set.Writes x ≡ w → (r : Found) → find u set.Reads x ≡ r → is_found (or_read u x w).how ≡ true → Sound slots x (or_read u x w).node
      go (Some i) e r q h = let f = found_at u set.Writes x i e in subst (λ (x : ℕ). Sound slots x (record_at u set.Writes i)) f.1 (P.sets.written i f.0).sound
      go None e (Some i) q h =
          let f = found_at u set.Reads x i q in
          subst (λ (r : Found). Sound slots x (or_copied u x r).node) (sym q) (subst (λ (x : ℕ). Sound slots x (record_at u set.Reads i)) f.1 (P.sets.read i f.0).sound)
      go None e None q h =
          subst (λ (r : Found). Sound slots x (or_copied u x r).node) (sym q)
          (copied_sound slots u P.copies x (subst (λ (r : Found). is_found (or_copied u x r).how ≡ true) q h))

  -- and it can be used
  source_judged : (x : ℕ) → number_in_store slots x ≡ true → is_found (source u x).how ≡ true → look_fits slots u x (source u x) ≡ true
  unfolding look_fits source
  source_judged x hi h = rw (source_sound x h).fitting (go (find u set.Writes x) (find u set.Reads x) refl h)
    where
      Usable : Look → Type 0
      Usable l = (not (is_copied l.how) || copy_fits u x l.node) ≡ true

      go : (w r : Found) → find u set.Reads x ≡ r → is_found (or_read u x w).how ≡ true → Usable (or_read u x w)
      go (Some i) r q h = refl
      go None (Some i) q h = subst (λ (r : Found). Usable (or_copied u x r)) (sym q) refl
      go None None q h =
          subst (λ (r : Found). Usable (or_copied u x r)) (sym q)
          (or_right (not (is_copied (copied u x).how)) (copy_fits u x (copied u x).node)
          (copy_judged slots u P x hi (subst (λ (r : Found). is_found (or_copied u x r).how ≡ true) q h)))

  -- a question about something of the store is never broken
  unbroken : slots ≤ 1024 → (a : Ask) → Inside (There slots) a → broken slots u a ≡ false
  unfolding broken
  unbroken al (object o) h = rw (named_there slots o h) (go (is_found (source u (number o)).how) refl)
    where
      go : (b : Bool) → is_found (source u (number o)).how ≡ b → (b && not (look_fits slots u (number o) (source u (number o)))) ≡ false
      go true e = ap not (source_judged (number o) (number_inside slots al o (named_there slots o h)) e)
      go false e = refl
  unbroken al (vector s) h = rw (lt-ltb s 8 h, vector_judged slots u P s h)
  unbroken al (fetched s) h = rw (lt-ltb s 8 h, vector_judged slots u P s h)

  points : slots ≤ 1024 → (o : Obj) → object_in_store slots o ≡ true → is_found (source u (number o)).how ≡ true → Points (There slots) o (source u (number o)).node
  unfolding children_there
  points al meta hi h = (root_and_states slots (source u 0).node (source_sound 0 h)).0
  points al (node n) hi h = λ e. go (eqb (source u (1 + n)).node.kind 2) (eq-eqb (source u (1 + n)).node.kind 2 e)
      (sym (as_node true (λ _. children_there slots (source u (1 + n)).node) (λ _. true) n (name_lt slots al n hi)) ∙ (source_sound (1 + n) h).children)
    where
      go : (b : Bool) → b ≡ true → (not b || all (in_store slots) (slots_of (source u (1 + n)).node)) ≡ true → Every (There slots) (slots_of (source u (1 + n)).node)
      go true e q = all_every (in_store slots) (slots_of (source u (1 + n)).node) q
      go false e q = absurd (false≢true e)
  points al (flag n) hi h = tt

-- ---- A CLIENT THAT WORKS: what it has at hand, as the machine has it too
module _ (k j slots : ℕ) (al : slots ≤ 1024) (u : ClientWord → ℕ) (P : PartSound slots u) (f : Obj → Option (M.Copy (T k j slots))) (copies : CopiesShown k j slots u f) (y : M.Slot (T k j slots)) (shown : SlotShown k j slots u y) where
  fit : client_fits slots u ≡ true
  fit = part_fits slots u P

  at_hand : (o : Obj) (v : Val) → have slots u (object o) ≡ some v → Storable (There slots) o v
  at_hand = have_storable k j slots al u f copies fit y shown (There slots) (λ o v h. points slots u P al o h.in_store h.found)

  -- the plan asks for nothing but what the store has
  lacks_unbroken : (a : Ask) → walk (plan slots u) (have slots u) ≡ lacks a → broken slots u a ≡ false
  lacks_unbroken a e = unbroken slots u P al a (asked_inside (There slots) slots (slot_named slots al) (waiting u) (op_names (There slots) slots (λ n h. h) u fit) (have slots u) at_hand a e)

  pub never_refused : ¬ (worked slots u ≡ Work.refused)
  unfolding worked walked
  never_refused e = not_both (ap is_refused e) (go (walked slots u).how (run_follows (have slots u) (new u) (96 - u reads_count) (plan slots u) []))
    where
      asks : (a : Ans) (w : Writes) → is_refused (Work.last_questions slots u a w) ≡ false
      asks a w = rw (versions_judged slots u P (entered w)) (by (not (all_fit? w w)) (ltb 48 (Work.writes_after u w)) (Work.any_at_last u (entered w)))
        where
          by : (p q r : Bool) → is_refused (cond p (Work.aborted 3) (cond q (Work.aborted 4) (cond r (Work.aborted 8) (Work.answers a w)))) ≡ false
          by true q r = refl
          by false true r = refl
          by false false true = refl
          by false false false = refl

      go : (h : Run.End) → Follows (walk (plan slots u) (have slots u)) (all_used (new u) (asked slots u) []) [] (96 - u reads_count) h (walked slots u).used
          → is_refused (Work.judge slots u h) ≡ false
      go (Run.aborts y) f = refl
      go (Run.gives a w) f = asks a w
      go (Run.lacks a) f = ap (λ (b : Bool). is_refused (cond b Work.refused (Work.fetches a))) (lacks_unbroken a f.0)

  -- and what it writes can be stored, and points to what is there
  pub writes_there : (a : Ans) (w : Writes) → walk (plan slots u) (have slots u) ≡ ends (gives (a, w)) → AllStorable (There slots) w
  writes_there = writes_storable (There slots) slots (slot_named slots al) (waiting u) (op_names (There slots) slots (λ n h. h) u fit) (have slots u) at_hand

  -- ---- the copies in use are there
  new_copy : (o : Obj) → is_found (source u (number o)).how ≡ true → new u (number o) ≡ true → is_found (copied u (number o)).how ≡ true
  unfolding source
  new_copy o h e =
      let b = and_both (not (has u set.Writes (number o))) (not (has u set.Reads (number o))) e in
      let w = has_absent u set.Writes (number o) (not-true (has u set.Writes (number o)) b.0) in
      let r = has_absent u set.Reads (number o) (not-true (has u set.Reads (number o)) b.1) in
      subst (λ (f : Found). is_found (or_copied u (number o) f).how ≡ true) r (subst (λ (f : Found). is_found (or_read u (number o) f).how ≡ true) w h)

  all_copied : (qs : List Ask) → Every (λ (a : Ask). (v : Val) × (have slots u a ≡ some v)) qs → (l : List ℕ) → AllCopied slots u l → AllCopied slots u (all_used (new u) qs l)
  unfolding all_used with_used Every
  all_copied [] h l g = g
  all_copied (vector s ∷ qs) h l g = all_copied qs h.1 l g
  all_copied (fetched s ∷ qs) h l g = all_copied qs h.1 l g
  all_copied (object o ∷ qs) h l g = all_copied qs h.1 (with_used (new u) l (object o)) (go (new u (number o)) refl (among (number o) l))
    where
      go : (a : Bool) → new u (number o) ≡ a → (b : Bool) → AllCopied slots u (cond a (cond b l (l ++ (number o ∷ []))) l)
      go false e b = g
      go true e true = g
      go true e false =
          let H = had k j slots al u f copies fit y shown o h.0.0 h.0.1 in
          every_more _ l (number o) g (number_inside slots al o H.in_store, new_copy o H.found e)

  pub used_copied : (us : List ℕ) → us ≡ all_used (new u) (asked slots u) [] → AllCopied slots u us
  unfolding Every
  used_copied us e = subst (AllCopied slots u) (sym e) (all_copied (asked slots u) (used_had (plan slots u) (have slots u)) [] tt)
