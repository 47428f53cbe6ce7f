-- PREPARE as a step: the locks are noted, an abort, or the decision; with one participant it also applies.
use Rattle.std.specs.Prelude.{◌≡◌, refl, Bool, false, ◌||◌, map}
use Rattle.std.proofs.Math.Path.{ap, ap₂}
use Rattle.std.proofs.Common.{sym, ◌∙◌, subst}
use Rattle.std.proofs.Math.Bool.{true, not}
use Prim.Native.Nat.{ℕ, suc, ◌≤◌, Fin}
use Rattle.std.proofs.Math.Decide.{ℕ_discrete, Fin-discrete}
use Rattle.base.proofs.Laws.Test.{or_right}
use Rattle.base.proofs.Laws.Update.{upd_same}
use Rattle.memory.specs.Bit.{bit, put_bit}
use Rattle.memory.proofs.Laws.Bit.{bit_put_same, bit_put_other, zero_bit}
use Rattle.layout.specs.Space.{changed}
use Rattle.layout.proofs.Laws.Step.{changed_append}
use Rattle.layout.specs.Part.{over}
use Rattle.protocol.specs.State.{is_decided}
use Rattle.protocol.proofs.Laws.Claim.{unapplied}
use Rattle.client.specs.Layout.{ClientWord, client_words, phase, participants, prepared, applied, lost}
use Rattle.client.specs.Laws.Ranges.{client_fits}
use Rattle.client.specs.Course.{noted, decided}
use Rattle.steps.specs.declared.sizes.Sizes.{Sizes}
use Rattle.steps.specs.Whole.{Address, client, whole}
use Rattle.steps.specs.Servers.{there}
use Rattle.steps.proofs.Laws.Stores.{client_of, client_changed, client_else}
use Rattle.steps.specs.Steps.{covers, preparing, deciding_stores, prepare_finding, all_prepared, all_applied}
use Rattle.demand.specs.Ledger.{Ledger, notes_decision}
use Rattle.demand.proofs.Laws.Store.{meaning}
use Rattle.demand.proofs.Laws.Frame.{last, read_after}
use Rattle.demand.proofs.Laws.Shows.{phase_of, T, Related}
use Rattle.demand.proofs.Laws.Held.{every_below}
use Rattle.demand.proofs.Laws.Kept.{away}
use Rattle.demand.proofs.Laws.Slots.{SameSets}
use Rattle.demand.proofs.Laws.Servers.{both_client, both_other}
use Rattle.demand.proofs.Laws.InRange.{prepared_fits, decision_fits}
use Rattle.demand.proofs.Laws.Turns.{store, Good, still_fits, Turns}
use Rattle.protocol.specs.Machine as P
use Rattle.protocol.specs.Moves as Mv
use Rattle.steps.specs.Uses as U
use Rattle.demand.proofs.Laws.Prepared as A
use Rattle.demand.proofs.Laws.Decided as D

-- nothing is applied before the decision
pub nothing_applied : (k j slots : ℕ) → slots ≤ 1024 → (m : Address → ℕ) (L : Ledger) (M : P.Machine (T k j slots)) (c : Fin (suc j))
    → Related k j slots m L M → client_of m c.0 phase ≡ 2 → (s : Fin 8) → bit (client_of m c.0 applied) s.0 ≡ false
unfolding phase_of
nothing_applied k j slots al m L M c R now s =
    let shown = (R.clients c).slot in
    sym (shown.applied_as s) ∙ unapplied (T k j slots) (meaning k j slots al) R.reached c (ap is_decided (sym shown.phase_as ∙ ap phase_of now)) s

module _ (k j slots : ℕ) (al : slots ≤ 1024) (few : suc j ≤ 16) (m : Address → ℕ) (L : Ledger) (M : P.Machine (T k j slots)) (c : Fin (suc j)) (G : Good k j slots m L M) (fit : client_fits slots (client_of m c.0) ≡ true) (s : Fin 8) (now : client_of m c.0 phase ≡ 2) (new : bit (client_of m c.0 prepared) s.0 ≡ false) (attends : there m s.0 ≡ true) (fine : U.deciding (map (prepare_finding (store k j slots) m c.0 s.0) (U.read_items (client_of m c.0))) ≡ 0) where
  abbrev z : Sizes
  z = store k j slots

  abbrev u : ClientWord → ℕ
  u = client_of m c.0

  -- the locks and the note
  abbrev pub m₁ : Address → ℕ
  m₁ = changed whole m (preparing z m c.0 s.0)

  abbrev pub M₁ : P.Machine (T k j slots)
  M₁ = A.M₁ k j slots al few m L M c G.shown fit s now new attends fine

  pub shown₁ : Related k j slots m₁ L M₁
  shown₁ = A.prepare_kept k j slots al few m L M c G.shown fit s now new attends fine

  abbrev v : ClientWord → ℕ
  v = changed client_words u (noted prepared s.0 u)

  own₁ : client_of m₁ c.0 ≡ v
  own₁ = both_client m s.0 c.0 _ _

  word₁ : (a : ClientWord) → client_of m₁ c.0 a ≡ last client_words (noted prepared s.0 u) a (u a)
  word₁ a = ap (λ (f : ClientWord → ℕ). f a) own₁ ∙ read_after client_words (noted prepared s.0 u) u a

  others₁ : (d : Fin (suc j)) → ¬ (d ≡ c) → client_of m₁ d.0 ≡ client_of m d.0
  others₁ d n = both_other m s.0 c.0 _ _ d.0 (away k j slots c d n)

  undecided₁ : is_decided (M₁.slots c).phase ≡ false
  unfolding phase_of
  undecided₁ =
      ap (λ (y : P.Slot (T k j slots)). is_decided y.phase) (upd_same (Fin-discrete (suc j)) M.slots c (Mv.prepared_slot (T k j slots) (M.slots c) s))
      ∙ ap is_decided (sym (G.shown.clients c).slot.phase_as ∙ ap phase_of now)

  pub prepare_turns : Turns k j slots m m₁ L M c
  prepare_turns = record { machine = M₁; shows = shown₁; values_same = refl; undecided = undecided₁; others = others₁ }

  -- ---- the last one: the decision
  module _ (all : all_prepared z m c.0 s.0 ≡ true) where
    pub now₁ : client_of m₁ c.0 phase ≡ 2
    unfolding noted
    now₁ = word₁ phase ∙ now

    pub ready₁ : covers 8 (client_of m₁ c.0 participants) (client_of m₁ c.0 prepared) ≡ true
    unfolding noted
    ready₁ = ap₂ (covers 8) (word₁ participants) (word₁ prepared) ∙ all

    abbrev pub m₂ : Address → ℕ
    m₂ = changed whole m (deciding_stores z m c.0 s.0)

    m₂_is : m₂ ≡ changed whole m₁ (over (client c.0) (decided (client_of m₁ c.0)))
    unfolding decided
    m₂_is = changed_append whole (preparing z m c.0 s.0) (over (client c.0) (decided u)) m

    abbrev pub M₂ : P.Machine (T k j slots)
    M₂ = D.M₁ k j slots m₁ L M₁ c shown₁ now₁ ready₁

    pub own₂ : client_of m₂ c.0 ≡ changed client_words v (decided v)
    own₂ =
        ap (λ (f : Address → ℕ). client_of f c.0) m₂_is ∙ client_changed m₁ c.0 (decided (client_of m₁ c.0))
        ∙ ap (λ (w : ClientWord → ℕ). changed client_words w (decided w)) own₁

    others₂ : (d : Fin (suc j)) → ¬ (d ≡ c) → client_of m₂ d.0 ≡ client_of m d.0
    others₂ d n =
        ap (λ (f : Address → ℕ). client_of f d.0) m₂_is ∙ client_else m₁ c.0 (decided (client_of m₁ c.0)) d.0 (away k j slots c d n) ∙ others₁ d n

    pub decide_good : Good k j slots m₂ (notes_decision L c.0) M₂
    decide_good = record {
      shown = subst (λ (f : Address → ℕ). Related k j slots f (notes_decision L c.0) M₂) (sym m₂_is) (D.decide_kept k j slots m₁ L M₁ c shown₁ now₁ ready₁);
      decided_fits = still_fits k j slots m m₂ L (notes_decision L c.0) M c G
          (λ _. subst (λ (w : ClientWord → ℕ). client_fits slots w ≡ true) (sym own₂)
          (decision_fits slots v (prepared_fits slots u fit s.0 s.1))) others₂;
      outside = G.outside;
    }

    -- what is as it was at the decision
    word₂ : (a : ClientWord) → client_of m₂ c.0 a ≡ last client_words (decided v) a (last client_words (noted prepared s.0 u) a (u a))
    word₂ a =
        ap (λ (f : ClientWord → ℕ). f a) own₂ ∙ read_after client_words (decided v) v a
        ∙ ap (last client_words (decided v) a) (read_after client_words (noted prepared s.0 u) u a)

    pub now₂ : client_of m₂ c.0 phase ≡ 3
    unfolding decided noted
    now₂ = word₂ phase

    pub new₂ : bit (client_of m₂ c.0 applied) s.0 ≡ false
    unfolding decided noted
    new₂ = ap (λ (w : ℕ). bit w s.0) (word₂ applied) ∙ nothing_applied k j slots al m L M c G.shown now s

    pub same_sets₂ : SameSets u (client_of m₂ c.0)
    unfolding decided noted
    same_sets₂ = record {
      reads = word₂ _;
      writes = word₂ _;
      items_read = λ i n. word₂ _;
      items_written = λ i n. word₂ _;
    }

    pub lost₂ : client_of m₂ c.0 lost ≡ u lost
    unfolding decided noted
    lost₂ = word₂ lost

    -- with one participant it takes part
    pub part₂ : u participants ≡ put_bit true 0 s.0 → bit (client_of m₂ c.0 participants) s.0 ≡ true
    unfolding decided noted
    part₂ e = ap (λ (w : ℕ). bit w s.0) (word₂ participants ∙ e) ∙ bit_put_same true 0 s.0

    -- and that is all
    pub only_applied : u participants ≡ put_bit true 0 s.0 → all_applied z m₂ c.0 s.0 ≡ true
    unfolding decided noted covers
    only_applied e =
        ap (λ (w : ℕ). covers 8 w (put_bit true (client_of m₂ c.0 applied) s.0)) (word₂ participants ∙ e)
        ∙ every_below 8 _ (λ t _. at t (ℕ_discrete t s.0))
      where
        at : (t : ℕ) → Dec (t ≡ s.0) → (not (bit (put_bit true 0 s.0) t) || bit (put_bit true (client_of m₂ c.0 applied) s.0) t) ≡ true
        at t (yes q) =
            or_right (not (bit (put_bit true 0 s.0) t)) (bit (put_bit true (client_of m₂ c.0 applied) s.0) t)
            (ap (bit (put_bit true (client_of m₂ c.0 applied) s.0)) q ∙ bit_put_same true (client_of m₂ c.0 applied) s.0)
        at t (no n) =
            ap (λ (b : Bool). not b || bit (put_bit true (client_of m₂ c.0 applied) s.0) t) (bit_put_other true 0 s.0 t n ∙ zero_bit t)
