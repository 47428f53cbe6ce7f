-- THE END: "The last apply ends the transaction and renews its copies", once it has applied.
use Rattle.std.specs.Prelude.{◌≡◌, refl, true}
use Rattle.std.proofs.Math.Path.{ap, sym}
use Rattle.std.proofs.Common.{◌∙◌, subst, arith}
use mathlib.Core.List.{[]}
use Prim.Native.Nat.{ℕ, suc, ◌≤◌, Fin}
use Rattle.std.proofs.Math.Decide.{Fin-discrete}
use Rattle.base.proofs.Laws.Update.{upd_same, upd_other}
use Rattle.layout.specs.Space.{changed}
use Rattle.layout.specs.Step.{and_then}
use Rattle.layout.proofs.Laws.Step.{changed_append}
use Rattle.layout.specs.Part.{over}
use Rattle.protocol.specs.State.{idle, decided, is_decided}
use Rattle.client.specs.Layout.{ClientWord, client_words, phase, participants, applied}
use Rattle.client.specs.Laws.Ranges.{client_fits}
use Rattle.client.specs.Life.{reset}
use Rattle.steps.specs.Whole.{Address, client, whole}
use Rattle.steps.specs.Steps.{covers}
use Rattle.steps.proofs.Laws.Stores.{client_of, client_else}
use Rattle.demand.specs.Ledger.{Ledger}
use Rattle.demand.proofs.Laws.Shows.{phase_of, T, SlotShown, ClientShown, Related}
use Rattle.demand.proofs.Laws.Decided.{parts_covered}
use Rattle.demand.proofs.Laws.Kept.{away, cleared, client_related, cleared_shown}
use Rattle.demand.proofs.Laws.CopyWords.{sets_refl}
use Rattle.demand.proofs.Laws.Renewed.{renews_young, Renewing, renew_kept}
use Rattle.demand.proofs.Laws.Turns.{Turns}
use Rattle.protocol.specs.Machine as P
use Rattle.protocol.specs.Moves as Mv
use Rattle.client.specs.Renew as Rn

module _ (k j slots : ℕ) (al : slots ≤ 1024) (m : Address → ℕ) (L : Ledger) (M : P.Machine (T k j slots)) (c : Fin (suc j)) (R : Related k j slots m L M) (fit : client_fits slots (client_of m c.0) ≡ true) (now : client_of m c.0 phase ≡ 3) (all : covers 8 (client_of m c.0 participants) (client_of m c.0 applied) ≡ true) (early : renews_young (client_of m c.0) ≡ true) where
  abbrev u : ClientWord → ℕ
  u = client_of m c.0

  abbrev shown : SlotShown k j slots u (M.slots c)
  shown = (R.clients c).slot

  decided_now : (M.slots c).phase ≡ decided
  unfolding phase_of
  decided_now = sym shown.phase_as ∙ ap phase_of now

  abbrev w : ClientWord → ℕ
  w = changed client_words u (Rn.renew_kept u)

  -- the copies that are renewed
  copies_now : Renewing k j slots al M c u fit shown decided_now early w
  copies_now = renew_kept k j slots al M c u fit shown decided_now early
      (record {
        copies = M.copy;
        reached = R.reached;
        others = λ d n. refl;
        shows = (R.clients c).copies;
        sets = sets_refl u;
      })

  -- and then the transaction ends
  abbrev M₁ : P.Machine (T k j slots)
  M₁ = P.with_copies (T k j slots) M copies_now.copies

  abbrev M₂ : P.Machine (T k j slots)
  M₂ = Mv.cleared (T k j slots) M₁ c idle

  finished_is : changed client_words u (Rn.finish u) ≡ cleared k j slots w 0
  unfolding Rn.finish and_then
  finished_is = changed_append client_words (Rn.renew_kept u) (reset 0 w) u

  finish_kept : Related k j slots (changed whole m (over (client c.0) (Rn.finish u))) L M₂
  unfolding phase_of
  finish_kept =
      client_related k j slots m L L M M₂ c (Rn.finish u) R
      (Mv.moved copies_now.reached (Mv.ends c decided_now
      (parts_covered k j slots (M.slots c).participant (M.slots c).applied (u participants) (u applied) shown.participant_as shown.applied_as all)))
      (record {
        value_same = refl;
        version_same = refl;
        table_same = refl;
        lock_same = refl;
        given = λ d n. refl;
        undecided = λ d n. refl;
        slots_same = λ d n. upd_other (Fin-discrete (suc j)) M.slots c (P.blank (T k j slots) idle) d n;
        copy_same = copies_now.others;
        said_same = λ d n. upd_other (Fin-discrete (suc j)) M.said c [] d n;
      })
      (subst (λ (v : ClientWord → ℕ). ClientShown k j slots v (L.given c.0) (L.undecided c.0) (M₂.slots c) (M₂.copy c) (M₂.said c)) (sym finished_is)
      (cleared_shown k j slots M₁ c 0 (omega arith) (L.given c.0) (L.undecided c.0) w copies_now.shows (λ n. absurd (n refl))))
      R.log_as

  pub finish_turns : Turns k j slots m (changed whole m (over (client c.0) (Rn.finish u))) L M c
  finish_turns = record {
    machine = M₂;
    shows = finish_kept;
    values_same = refl;
    undecided = ap (λ (y : P.Slot (T k j slots)). is_decided y.phase) (upd_same (Fin-discrete (suc j)) M.slots c (P.blank (T k j slots) idle));
    others = λ d n. client_else m c.0 (Rn.finish u) d.0 (away k j slots c d n);
  }
