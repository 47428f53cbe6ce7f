-- WORK THAT ANSWERS: what is written was read, with a version before the last, and is sound; so the write set stays sound.
use Rattle.std.specs.Prelude.{◌≡◌, Bool, cond, ◌||◌, eqb, length}
use Rattle.std.proofs.Math.Path.{refl}
use Rattle.std.proofs.Common.{ap, sym, ◌∙◌, subst, arith, eq-eqb}
use Rattle.std.proofs.Math.Bool.{true, false}
use mathlib.Core.List.{List, [], ◌∷◌, ◌++◌}
use Rattle.std.proofs.Math.Option.{Option}
use Prim.Native.Nat.{ℕ, suc, ◌+◌, ◌≤◌, Fin}
use Rattle.base.proofs.Laws.Test.{or_left, or_right}
use Rattle.layout.specs.Space.{changed}
use Rattle.layout.specs.Part.{over}
use Rattle.plans.specs.Walk.{Every}
use Rattle.operations.specs.Object.{Obj, meta, Val, Ask, object, vector, fetched, Ans, Writes}
use Rattle.operations.specs.Map.{Op, insert, lookup, delete, next, previous, migrate, list}
use Rattle.operations.specs.Path.{TreePlan}
use Rattle.operations.proofs.Laws.Object.{written}
use Rattle.client.specs.Layout.{ClientWord, client_words, phase, reads_count}
use Rattle.client.specs.Record.{number}
use Rattle.client.specs.Have.{have}
use Rattle.client.specs.Items.{has}
use Rattle.client.specs.Laws.Ranges.{client_fits}
use Rattle.client.specs.Lent.{Entry}
use Rattle.client.specs.Run.{among}
use Rattle.client.specs.Work.{waiting, walked, worked, new}
use Rattle.client.specs.Answered.{entered, answered}
use Rattle.steps.specs.declared.outcome.Outcome.TheVariants.{Answered}
use Rattle.steps.specs.Whole.{Address, client}
use Rattle.steps.specs.Steps.{did}
use Rattle.steps.proofs.Laws.Stores.{client_of}
use Rattle.demand.proofs.Laws.AtHand.{written_read}
use Rattle.demand.proofs.Laws.Lacking.{asked}
use Rattle.demand.proofs.Laws.Latest.{entered_every, every_written, entered_whole}
use Rattle.demand.specs.Ledger.{Ledger}
use Rattle.demand.proofs.Laws.Ran.{with_used, all_used}
use Rattle.demand.proofs.Laws.Shows.{T, SlotShown, CopiesShown, Related}
use Rattle.demand.proofs.Laws.Used.{after_used, among_more}
use Rattle.ranges.specs.Laws.Sound.{PartSound, SoundStore}
use Rattle.ranges.proofs.Laws.Sets.{part_fits, MayWrite, AllCopied}
use Rattle.ranges.proofs.Laws.Entries.{entries_sound, used_last, not_last}
use Rattle.ranges.proofs.Laws.Part.{used_part, answer_part}
use Rattle.ranges.proofs.Laws.Locks.{early_stored}
use Rattle.ranges.proofs.Laws.Whole.{accepted, Kept, client_sound}
use Rattle.ranges.proofs.Laws.Hand.{writes_there, used_copied}
use Rattle.plans.specs.Plan as Pl
use Rattle.plans.proofs.Laws.Walk as WkLaws
use Rattle.plans.specs.Walk as Wk
use Rattle.operations.specs.Operation as Op
use Rattle.protocol.specs.Machine as P
use Rattle.client.specs.declared.part.Set.TheVariants as set
use Rattle.client.specs.Work as Work
use Rattle.demand.proofs.Laws.Answered as A

module _ (k j slots : ℕ) (al : slots ≤ 1024) (u : ClientWord → ℕ) (part : PartSound slots u) (f : Obj → Option (P.Copy (T k j slots))) (copies : CopiesShown k j slots u f) (y : P.Slot (T k j slots)) (shown : SlotShown k j slots u y) where
  fit : client_fits slots u ≡ true
  fit = part_fits slots u part

  -- ---- everything that the plan asked for is read, once the copies in use have entered
  -- l: those in use
  abbrev is_read : List ℕ → Ask → Bool
  is_read l (object o) = has u set.Reads (number o) || among (number o) l
  is_read l (vector s) = true
  is_read l (fetched s) = true

  among_stays : (x : ℕ) (qs : List Ask) (l : List ℕ) → among x l ≡ true → among x (all_used (new u) qs l) ≡ true
  unfolding all_used with_used
  among_stays x [] l h = h
  among_stays x (vector s ∷ qs) l h = among_stays x qs l h
  among_stays x (fetched s ∷ qs) l h = among_stays x qs l h
  among_stays x (object o ∷ qs) l h = among_stays x qs (with_used (new u) l (object o)) (go (new u (number o)) (among (number o) l))
    where
      go : (a b : Bool) → among x (cond a (cond b l (l ++ (number o ∷ []))) l) ≡ true
      go false b = h
      go true true = h
      go true false = among_more x (number o) l ∙ or_left (among x l) (eqb (number o) x) h

  all_read : (qs : List Ask) (l : List ℕ) → Every (λ (q : Ask). is_read (all_used (new u) qs l) q ≡ true) qs
  unfolding all_used with_used Every
  all_read [] l = tt
  all_read (vector s ∷ qs) l = (refl, all_read qs l)
  all_read (fetched s ∷ qs) l = (refl, all_read qs l)
  all_read (object o ∷ qs) l =
      (go (has u set.Writes x) refl (has u set.Reads x) refl (λ l'. among_stays x qs l'), all_read qs (with_used (new u) l (object o)))
    where
      x : ℕ
      x = number o

      now : (b : Bool) → among x l ≡ b → among x (cond b l (l ++ (x ∷ []))) ≡ true
      now true e = e
      now false e = among_more x x l ∙ or_right (among x l) (eqb x x) (eq-eqb x x refl)

      go : (w : Bool) → has u set.Writes x ≡ w → (r : Bool) → has u set.Reads x ≡ r → ((l' : List ℕ) → among x l' ≡ true → among x (all_used (new u) qs l') ≡ true)
          → (has u set.Reads x || among x (all_used (new u) qs (cond (new u x) (cond (among x l) l (l ++ (x ∷ []))) l))) ≡ true
      go w p true q rec = or_left (has u set.Reads x) _ q
      go true p false q rec = or_left (has u set.Reads x) _ (written_read k j slots al u f copies fit y shown o p)
      go false p false q rec = or_right (has u set.Reads x) _ (rw (p, q) (rec (cond (among x l) l (l ++ (x ∷ []))) (now (among x l) refl)))

  -- ---- the answer a with the writes w
  module _ (a : Ans) (w : Writes) (e : worked slots u ≡ Work.answers a w) where
    abbrev us : List ℕ
    us = (walked slots u).used

    abbrev v : ClientWord → ℕ
    v = after_used u us

    answers : A.Answers slots u a w
    answers = A.answered_as slots u a w e

    ran : (WkLaws.walk (Op.reading slots (waiting u)) (have slots u) ≡ WkLaws.ends (Pl.gives (a, w)))
        × (us ≡ all_used (new u) (asked slots u) []) × (u reads_count + length us ≤ 96)
    ran = A.ran k j slots al u fit y shown f copies a w answers

    all_copied : AllCopied slots u us
    all_copied = used_copied k j slots al u part f copies y shown us ran.1

    read_now : (o : Obj) → written w o ≡ true → has v set.Reads (number o) ≡ true
    read_now o h =
        (A.entering k j slots al u fit y shown f copies a w answers).has_now (number o)
        ∙ A.asked_of_written k j slots al u fit y shown f copies a w answers (is_read us) every_read o h
      where
        every_read : Every (λ (q : Ask). is_read us q ≡ true) (Wk.used (Op.plan slots (waiting u)) (have slots u))
        every_read =
            subst (Every (λ (q : Ask). is_read us q ≡ true)) (sym (A.uses k j slots al u fit y shown f copies a w answers))
            (subst (λ (l : List ℕ). Every (λ (q : Ask). is_read l q ≡ true) (asked slots u)) (sym ran.1) (all_read (asked slots u) []))

    -- "in the order metadata, ..": every plan begins with it
    root_read : has v set.Reads 0 ≡ true
    unfolding Every
    root_read =
        (A.entering k j slots al u fit y shown f copies a w answers).has_now 0
        ∙ first (subst (λ (l : List ℕ). Every (λ (q : Ask). is_read l q ≡ true) (asked slots u)) (sym ran.1) (all_read (asked slots u) []))
      where
        rooted : (op : Op) → (next : Val → TreePlan) × (Op.reading slots op ≡ Pl.ask (object meta) next)
        rooted (insert key value) = (_, refl)
        rooted (lookup key) = (_, refl)
        rooted (delete key) = (_, refl)
        rooted (next key) = (_, refl)
        rooted (previous key) = (_, refl)
        rooted (migrate n s) = (_, refl)
        rooted (list key n) = (_, refl)

        first : Every (λ (q : Ask). is_read us q ≡ true) (asked slots u) → is_read us (object meta) ≡ true
        first h =
            let r = rooted (waiting u) in
            let m = WkLaws.walk_met (object meta) r.0 (have slots u) (Pl.gives (a, w)) (subst (λ (p : TreePlan). WkLaws.walk p (have slots u) ≡ WkLaws.ends (Pl.gives (a, w))) r.1 ran.0) in
            let e : asked slots u ≡ object meta ∷ Wk.used (r.0 m.0) (have slots u)
            = ap (λ (p : TreePlan). Wk.used p (have slots u)) r.1 ∙ WkLaws.used_has (object meta) r.0 (have slots u) m.0 m.1 in
            (subst (Every (λ (q : Ask). is_read us q ≡ true)) e h).0

    may_write : Every (λ (e : Entry). MayWrite v e.0) (entered w)
    may_write =
        not_last slots v (used_part slots u part us all_copied).sets (entered w) (used_last u us (entered w) ∙ answers.young) root_read
        (entered_every (λ (e : Entry). has v set.Reads e.0 ≡ true) w (every_written (λ o. has v set.Reads (number o) ≡ true) w read_now))

    answered_sound : PartSound slots (changed client_words u (answered us w u))
    answered_sound =
        answer_part slots u part us w all_copied
        (entries_sound slots al w (writes_there k j slots al u part f copies y shown a w ran.0) answers.fitting)
        (entered_whole w (A.storable k j slots al u fit y shown f copies a w answers)) may_write

pub answer_kept : (k j slots : ℕ) (al : slots ≤ 1024) (few : suc j ≤ 16) (m : Address → ℕ) (S : SoundStore k j slots m)
    (L : Ledger) (M : P.Machine (T k j slots)) → Related k j slots m L M → (c : Fin (suc j)) → client_of m c.0 phase ≡ 1
    → (a : Ans) (w : Writes) → worked slots (client_of m c.0) ≡ Work.answers a w
    → Kept k j slots m (did (Answered a.0 a.1) (over (client c.0) (answered (walked slots (client_of m c.0)).used w (client_of m c.0))))
answer_kept k j slots al few m S L M R c now a w e =
    let ps = answered (walked slots (client_of m c.0)).used w (client_of m c.0) in
    record {
      passes = accepted (Answered a.0 a.1) refl;
      sound = client_sound k j slots m S c ps
          (answered_sound k j slots al (client_of m c.0) (S.parts c) (M.copy c) (R.clients c).copies (M.slots c) (R.clients c).slot a w e)
          (early_stored k j slots m c.0 ps S.locks (omega (arith, now)));
    }
