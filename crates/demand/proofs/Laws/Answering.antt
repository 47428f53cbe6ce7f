-- WORK THAT ANSWERS: "otherwise it answers the operation, and only then do its writes enter the write set". The step as moves of the machine.
use Rattle.std.specs.Prelude.{◌≡◌, refl, true, List, ◌∷◌, map}
use Rattle.std.proofs.Math.Path.{ap, sym}
use Rattle.std.proofs.Common.{◌∙◌, subst, arith}
use Prim.Native.Nat.{ℕ, suc, ◌≤◌, Fin}
use Rattle.std.proofs.Math.Decide.{ℕ_discrete, Fin-discrete}
use Rattle.base.specs.Update.{upd}
use Rattle.base.proofs.Laws.Update.{upd_same, upd_other}
use Rattle.layout.specs.Space.{Put, changed}
use Rattle.layout.specs.Part.{over}
use Rattle.operations.specs.Object.{Obj, Ans, Writes}
use Rattle.operations.proofs.Laws.Seen.{Hint, Given, hint_of}
use Rattle.protocol.specs.State.{opened, is_decided}
use Rattle.protocol.proofs.Laws.Hints.{objects}
use Rattle.protocol.specs.Meaning.{Shown, shown_of}
use Rattle.client.specs.Layout.{ClientWord, phase, op_number}
use Rattle.client.specs.Laws.Ranges.{client_fits}
use Rattle.client.specs.Work.{waiting, walked, worked}
use Rattle.client.specs.Answered.{answered}
use Rattle.steps.specs.Whole.{Address, client, whole}
use Rattle.steps.proofs.Laws.Stores.{client_of, client_else}
use Rattle.demand.specs.Ledger.{Told, Ledger, notes_answer}
use Rattle.demand.proofs.Laws.Shows.{phase_of, T, told, ClientShown, Related}
use Rattle.demand.proofs.Laws.Kept.{away, client_related}
use Rattle.demand.proofs.Laws.Turns.{Turns}
use Rattle.demand.proofs.Laws.Answered.{Answers, answered_as, qs, hint, machine_walks, v₃, stored, none_waits, slot_now, copies_now, formed}
use Rattle.demand.specs.Ledger.{seen as seen_by}
use Rattle.demand.proofs.Laws.Seen.{seen_formed}
use Rattle.steps.specs.Output.{with_pairs}
use Rattle.operations.specs.Map.{Op}
use Rattle.protocol.specs.Machine as P
use Rattle.protocol.specs.Moves as Mv
use Rattle.protocol.proofs.Laws.Work as W
use Rattle.client.specs.Work as Work

module _ (k j slots : ℕ) (al : slots ≤ 1024) (m : Address → ℕ) (L : Ledger) (M : P.Machine (T k j slots)) (c : Fin (suc j)) (R : Related k j slots m L M) (fit : client_fits slots (client_of m c.0) ≡ true) (now : client_of m c.0 phase ≡ 1) (waits : ¬ (client_of m c.0 op_number ≡ 0)) (a : Ans) (w : Writes) (e : worked slots (client_of m c.0) ≡ Work.answers a w) where
  abbrev u : ClientWord → ℕ
  u = client_of m c.0

  abbrev y : P.Slot (T k j slots)
  y = M.slots c

  abbrev own : ClientShown k j slots u (L.given c.0) (L.undecided c.0) (M.slots c) (M.copy c) (M.said c)
  own = R.clients c

  A : Answers slots u a w
  A = answered_as slots u a w e

  abbrev seen : Hint
  seen = hint k j slots al u fit y own.slot (M.copy c) own.copies a w A

  abbrev given : Given
  given = record { op = waiting u; legal = own.says.legal waits; hint = seen }

  abbrev shown : Shown (T k j slots)
  shown = shown_of (T k j slots) (record { op = given; result = (a, w) })

  abbrev after : List Obj → P.Slot (T k j slots)
  after os = Mv.answered_slot (T k j slots) (P.with_items (T k j slots) y (W.absorb (T k j slots) (M.copy c) os y.items)) w

  abbrev machine : List Obj → P.Machine (T k j slots)
  machine os =
      P.turned (T k j slots) M (upd (Fin-discrete (suc j)) M.slots c (after os)) M.lock (upd (Fin-discrete (suc j)) M.said c (shown ∷ M.said c)) M.log

  abbrev os : List Obj
  os = objects (hint_of seen) (qs k j slots al u fit y own.slot (M.copy c) own.copies a w A)

  open_now : (M.slots c).phase ≡ opened
  unfolding phase_of
  open_now = sym own.slot.phase_as ∙ ap phase_of now

  reached : Mv.Reached (T k j slots) (machine os)
  reached =
      let walks = machine_walks k j slots al u fit y own.slot (M.copy c) own.copies a w A in
      subst (λ (l : List Obj). Mv.Reached (T k j slots) (machine l)) walks.1 (W.work_answers (T k j slots) M c given (a, w) R.reached open_now walks.0)

  abbrev ps : List (Put ClientWord)
  ps = answered (walked slots u).used w u

  -- what the client's part shows, and that the answer was added
  abbrev v : ClientWord → ℕ
  v = v₃ k j slots al u fit y own.slot (M.copy c) own.copies a w A

  shows : ClientShown k j slots v ((notes_answer L c.0 a).given c.0) ((notes_answer L c.0 a).undecided c.0) (after os) (M.copy c) (shown ∷ M.said c)
  shows = record {
    slot = slot_now k j slots al u fit y own.slot (M.copy c) own.copies a w A;
    copies = copies_now k j slots al u fit y own.slot (M.copy c) own.copies a w A;
    says = record {
      said_as = λ _. upd_same ℕ_discrete L.undecided c.0 (record { op = L.given c.0; ans = a } ∷ L.undecided c.0) ∙ added;
      given_as = λ n. absurd (n (none_waits k j slots al u fit y own.slot (M.copy c) own.copies a w A));
      legal = λ n. absurd (n (none_waits k j slots al u fit y own.slot (M.copy c) own.copies a w A));
    };
  }
    where
      added : ◌≡◌ {A = List Told} (record { op = L.given c.0; ans = a } ∷ L.undecided c.0) (map (told k j slots) (shown ∷ M.said c))
      added =
          let g = own.says.given_as waits in
          let l = own.says.said_as (omega (arith, now), omega (arith, now)) in
          λ t. record { op = g t; ans = a } ∷ l t

  -- what the ledger takes down is the answer
  pub answer_seen : (lent : List ℕ) → seen_by (L.given c.0) a.0 a.1 (with_pairs a.2 lent) ≡ a
  answer_seen lent =
      subst (λ (op : Op). seen_by op a.0 a.1 (with_pairs a.2 lent) ≡ a) (sym (own.says.given_as waits))
      (seen_formed (waiting u) a lent (formed k j slots al u fit y own.slot (M.copy c) own.copies a w A))

  pub answer_turns : Turns k j slots m (changed whole m (over (client c.0) ps)) (notes_answer L c.0 a) M c
  answer_turns = record {
    machine = machine os;
    shows = client_related k j slots m L (notes_answer L c.0 a) M (machine os) c ps R reached
        (record {
          value_same = refl;
          version_same = refl;
          table_same = refl;
          lock_same = refl;
          given = λ d n. refl;
          undecided = λ d n. upd_other ℕ_discrete L.undecided c.0 (record { op = L.given c.0; ans = a } ∷ L.undecided c.0) d.0 (away k j slots c d n);
          slots_same = λ d n. upd_other (Fin-discrete (suc j)) M.slots c (after os) d n;
          copy_same = λ d n. refl;
          said_same = λ d n. upd_other (Fin-discrete (suc j)) M.said c (shown ∷ M.said c) d n;
        })
        (coe 1 0 (t. ClientShown k j slots (stored k j slots al u fit y own.slot (M.copy c) own.copies a w A t) ((notes_answer L c.0 a).given c.0) ((notes_answer L c.0 a).undecided c.0)
        (upd_same (Fin-discrete (suc j)) M.slots c (after os) t) (M.copy c) (upd_same (Fin-discrete (suc j)) M.said c (shown ∷ M.said c) t)) shows)
        R.log_as;
    values_same = refl;
    undecided = ap (λ (s : P.Slot (T k j slots)). is_decided s.phase) (upd_same (Fin-discrete (suc j)) M.slots c (after os)) ∙ ap is_decided open_now;
    others = λ d n. client_else m c.0 ps d.0 (away k j slots c d n);
  }
