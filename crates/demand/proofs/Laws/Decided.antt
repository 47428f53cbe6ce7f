-- The DECISION, and what an apply and a prepare leave behind them.
use Rattle.std.specs.Prelude.{◌≡◌, refl, Bool, true, ◌||◌, not}
use Rattle.std.proofs.Math.Path.{ap}
use Rattle.std.proofs.Common.{ap₂, sym, ◌∙◌, subst, arith}
use mathlib.Core.List.{List, ◌∷◌, []}
use Prim.Native.Nat.{ℕ, suc, Fin}
use Rattle.std.proofs.Math.Decide.{Fin-discrete, ℕ_discrete}
use Rattle.base.specs.Update.{upd}
use Rattle.base.proofs.Laws.Update.{upd_same, upd_other}
use Rattle.memory.specs.Bit.{bit}
use Rattle.layout.specs.Space.{Put, changed}
use Rattle.layout.specs.Part.{over}
use Rattle.protocol.specs.State.{decided}
use Rattle.client.specs.Layout.{ClientWord, client_words, phase, participants, prepared, applied}
use Rattle.client.specs.Participants.{lowest_of}
use Rattle.steps.specs.Whole.{Address, client, whole}
use Rattle.steps.specs.Steps.{covers}
use Rattle.demand.specs.Ledger.{Told, Ledger, notes_decision}
use Rattle.demand.proofs.Laws.Store.{fins}
use Rattle.steps.proofs.Laws.Stores.{client_of}
use Rattle.demand.proofs.Laws.Frame.{last, read_after, Only}
use Rattle.demand.proofs.Laws.Shows.{phase_of, T, SlotShown, ClientShown, Related}
use Rattle.demand.proofs.Laws.Course.{else_same, course_shown}
use Rattle.protocol.proofs.Laws.Lists.{all_in}
use Rattle.demand.proofs.Laws.Held.{all_at}
use Rattle.demand.proofs.Laws.Kept.{client_related, away}
use Rattle.protocol.specs.Machine as P
use Rattle.protocol.specs.Moves as Mv
use Rattle.client.specs.Course as Life

-- all participants are among those noted
pub parts_covered : (k j slots : ℕ) (p d : Fin 8 → Bool) (w v : ℕ) → ((s : Fin 8) → p s ≡ bit w s.0) → ((s : Fin 8) → d s ≡ bit v s.0)
    → covers 8 w v ≡ true → Mv.all_parts (T k j slots) p d ≡ true
unfolding covers
parts_covered k j slots p d w v e f h =
    all_in (λ s. not (p s) || d s) (fins 8)
    (λ s _. ap₂ (λ (a b : Bool). not a || b) (e s) (f s) ∙ all_at 8 (λ t. not (bit w t) || bit v t) h s.0 s.1)

module _ (k j slots : ℕ) (m : Address → ℕ) (L : Ledger) (M : P.Machine (T k j slots)) (c : Fin (suc j)) (R : Related k j slots m L M) (now : client_of m c.0 phase ≡ 2) (ready : covers 8 (client_of m c.0 participants) (client_of m c.0 prepared) ≡ true) where
  abbrev u : ClientWord → ℕ
  u = client_of m c.0

  abbrev y : P.Slot (T k j slots)
  y = M.slots c

  abbrev shown : SlotShown k j slots u y
  shown = (R.clients c).slot

  abbrev ps : List (Put ClientWord)
  ps = Life.decided u

  abbrev v : ClientWord → ℕ
  v = changed client_words u ps

  at : (a : ClientWord) → v a ≡ last client_words ps a (u a)
  at a = read_after client_words ps u a

  abbrev pub M₁ : P.Machine (T k j slots)
  M₁ = P.turned (T k j slots) M (upd (Fin-discrete (suc j)) M.slots c (Mv.decided_slot (T k j slots) y)) M.lock M.said (M.said c ∷ M.log)

  pub decide_kept : Related k j slots (changed whole m (over (client c.0) ps)) (notes_decision L c.0) M₁
  unfolding Life.decided phase_of Only
  decide_kept =
      client_related k j slots m L (notes_decision L c.0) M M₁ c ps R
      (Mv.moved R.reached (Mv.decides c (sym shown.phase_as ∙ ap phase_of now)
      (parts_covered k j slots y.participant y.prepared (u participants) (u prepared) shown.participant_as shown.prepared_as ready)))
      (record {
        value_same = refl;
        version_same = refl;
        table_same = refl;
        lock_same = refl;
        given = λ d n. refl;
        undecided = λ d n. upd_other ℕ_discrete L.undecided c.0 [] d.0 (away k j slots c d n);
        slots_same = λ d n. upd_other (Fin-discrete (suc j)) M.slots c (Mv.decided_slot (T k j slots) y) d n;
        copy_same = λ d n. refl;
        said_same = λ d n. refl;
      })
      (subst (λ (w : P.Slot (T k j slots)). ClientShown k j slots v (L.given c.0) ((notes_decision L c.0).undecided c.0) w (M.copy c) (M.said c))
      (sym (upd_same (Fin-discrete (suc j)) M.slots c (Mv.decided_slot (T k j slots) y)))
      (course_shown k j slots u v (else_same ps u (refl, tt))
      (L.given c.0) (L.undecided c.0) ((notes_decision L c.0).undecided c.0) y (M.copy c) (M.said c) decided y.participant y.lowest y.prepared y.applied
      (λ n. absurd (omega (arith, at phase, n.1))) (ap phase_of (at phase))
      (λ t. shown.participant_as t ∙ ap (λ (w : ℕ). bit w t.0) (sym (at participants)))
      (λ t. shown.prepared_as t ∙ ap (λ (w : ℕ). bit w t.0) (sym (at prepared)))
      (λ t. shown.applied_as t ∙ ap (λ (w : ℕ). bit w t.0) (sym (at applied)))
      (omega (arith, at phase)) (shown.lowest_as (omega (arith, now)) ∙ ap (lowest_of 8) (sym (at participants))) (R.clients c)))
      (ap₂ (λ (t : List Told) (l : List (List Told)). t ∷ l) ((R.clients c).says.said_as (omega (arith, now), omega (arith, now))) R.log_as)
