-- WHERE NO APPLY IS DUE, none is in the machine that the memory shows. An apply that was taken is not due again.
use Rattle.std.specs.Prelude.{◌≡◌, Bool, false, ◌&&◌, ℕ, ◌≤◌, ◌<◌}
use Rattle.std.proofs.Math.Path.{ap}
use Rattle.std.proofs.Common.{ap₂, sym, ◌∙◌, arith}
use Rattle.std.proofs.Math.Bool.{true, not, and-false}
use borrow.Author.Tests.{eqb-true, eq-eqb, not-true, not-false}
use Rattle.std.proofs.Math.Dec.{eqb}
use Rattle.base.specs.Test.{and_both}
use Rattle.memory.specs.Bit.{bit, put_bit}
use Rattle.memory.proofs.Laws.Bit.{bit_put_same, bit_put_other}
use Rattle.layout.specs.Space.{changed}
use Rattle.protocol.specs.State.{is_decided}
use Rattle.protocol.specs.Machine as P
use Rattle.protocol.proofs.Laws.Claim.{Applied}
use Rattle.client.specs.Layout.{ClientWord, client_words, phase, participants, applied}
use Rattle.client.specs.Laws.Ranges.{fits_field}
use Rattle.client.specs.Course.{noted}
use Rattle.steps.specs.declared.sizes.Sizes.{Sizes}
use Rattle.steps.specs.declared.step.Kind.TheVariants.{Apply}
use Rattle.steps.specs.Whole.{Address}
use Rattle.steps.proofs.Laws.Stores.{client_of}
use Rattle.steps.specs.Refusal.{state_fits}
use Rattle.demand.specs.Ledger.{Ledger}
use Rattle.demand.proofs.Laws.Store.{meaning}
use Rattle.demand.proofs.Laws.Frame.{last, read_after}
use Rattle.demand.proofs.Laws.Shows.{T}
use Rattle.demand.proofs.Laws.Turns.{store, word_decided, Good}

-- ---- an apply noted is not due again, and the others are as before
module _ (u : ClientWord → ℕ) (s : ℕ) where
  abbrev v : ClientWord → ℕ
  v = changed client_words u (noted applied s u)

  at : (a : ClientWord) → v a ≡ last client_words (noted applied s u) a (u a)
  at a = read_after client_words (noted applied s u) u a

  fits_after : (t : ℕ) → state_fits v t Apply ≡ (eqb (u phase) 3 && (bit (u participants) t && not (bit (put_bit true (u applied) s) t)))
  unfolding noted state_fits
  fits_after t i = eqb (at phase i) 3 && (bit (at participants i) t && not (bit (at applied i) t))

  pub noted_done : state_fits v s Apply ≡ false
  noted_done =
      fits_after s ∙ ap (λ (b : Bool). eqb (u phase) 3 && (bit (u participants) s && not b)) (bit_put_same true (u applied) s)
      ∙ ap (λ (b : Bool). eqb (u phase) 3 && b) (and-false (bit (u participants) s)) ∙ and-false (eqb (u phase) 3)

  pub noted_else : (t : ℕ) → ¬ (t ≡ s) → state_fits v t Apply ≡ state_fits u t Apply
  unfolding state_fits
  noted_else t n = fits_after t ∙ ap (λ (b : Bool). eqb (u phase) 3 && (bit (u participants) t && not b)) (bit_put_other true (u applied) s t n)

-- what is known where a prepare or an apply at s fits: the phase, a participant, and that it isn't done
pub unfinished : (u : ClientWord → ℕ) (s : ℕ) (done : ClientWord) (p : ℕ) → (eqb (u phase) p && (bit (u participants) s && not (bit (u done) s))) ≡ true
    → (u phase ≡ p) × (bit (u participants) s ≡ true) × (bit (u done) s ≡ false)
unfinished u s done p h =
    let a = and_both (eqb (u phase) p) (bit (u participants) s && not (bit (u done) s)) h in
    let b = and_both (bit (u participants) s) (not (bit (u done) s)) a.1 in
    (eqb-true (u phase) p a.0, b.0, not-true (bit (u done) s) b.1)

pub due_now : (u : ClientWord → ℕ) (s : ℕ) → state_fits u s Apply ≡ true → (u phase ≡ 3) × (bit (u participants) s ≡ true) × (bit (u applied) s ≡ false)
unfolding state_fits
due_now u s = unfinished u s applied 3

-- no apply is due
abbrev pub NoneDue : Sizes → (Address → ℕ) → Type 0
NoneDue z m = (c s : ℕ) → c < z.clients → s < 8 → state_fits (client_of m c) s Apply ≡ false

module _ (k j slots : ℕ) (al : slots ≤ 1024) (L : Ledger) where
  -- in the machine too
  pub settled_applied : (m : Address → ℕ) (M : P.Machine (T k j slots)) → Good k j slots m L M
      → NoneDue (store k j slots) m → Applied (T k j slots) (meaning k j slots al) M
  unfolding state_fits
  settled_applied m M G none c h s p =
      let u = client_of m c.0 in
      let shown = (G.shown.clients c).slot in
      let late : 3 ≤ u phase = word_decided (u phase) (ap is_decided shown.phase_as ∙ h) in
      let now : u phase ≡ 3 = omega (arith, late, fits_field slots u (G.decided_fits c late) 0 (omega arith)) in
      shown.applied_as s ∙ not-false (bit (u applied) s.0) (sym (ap₂ (λ (a b : Bool). a && (b && not (bit (u applied) s.0))) (eq-eqb (u phase) 3 now) (sym (shown.participant_as s) ∙ p)) ∙ none c.0 s.0 c.1 s.1)
