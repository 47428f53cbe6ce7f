-- Each kind of step that leaves its client undecided and applies nothing: begin, give, commit, give up, and loss before the decision.
use Rattle.std.specs.Prelude.{◌≡◌, refl, true, false, List, [], ◌++◌, ◌⊎◌, eqb}
use Rattle.std.proofs.Common.{ap, sym, ◌∙◌, subst, inl, inr, arith}
use Prim.Native.Nat.{ℕ, zero, suc, ◌≤◌, ◌<◌, Fin}
use Rattle.std.proofs.Math.Decide.{Fin-discrete}
use Rattle.std.proofs.lemmas.Bool.{eqb-false}
use Rattle.base.proofs.Laws.Update.{upd_same}
use Rattle.layout.specs.Space.{Put, changed}
use Rattle.layout.proofs.Laws.Step.{changed_append}
use Rattle.layout.specs.Part.{over}
use Rattle.operations.specs.Map.{two_to_64}
use Rattle.operations.specs.Operation.{Legal}
use Rattle.protocol.specs.State.{Phase, idle, opened, is_decided}
use Rattle.client.specs.Layout.{ClientWord, phase}
use Rattle.client.specs.Fits.{servers_known}
use Rattle.client.specs.Laws.Ranges.{client_fits}
use Rattle.client.specs.Copies.{drop_all}
use Rattle.client.specs.Life.{reset, give_part}
use Rattle.client.specs.Work.{op_of}
use Rattle.steps.specs.Whole.{Address, client, whole}
use Rattle.steps.proofs.Laws.Stores.{client_of, client_else}
use Rattle.steps.specs.Steps.{aborting}
use Rattle.demand.specs.Ledger.{Ledger, clears, notes_op, notes_decision}
use Rattle.demand.proofs.Laws.Shows.{phase_of, T, Related}
use Rattle.demand.proofs.Laws.Kept.{away, begin_kept, give_kept}
use Rattle.demand.proofs.Laws.Forgotten.{loss_kept}
use Rattle.demand.proofs.Laws.Turns.{store, Turns, abort_turns}
use Rattle.protocol.specs.Machine as P
use Rattle.protocol.specs.Moves as Mv
use Rattle.client.specs.Participants as K
use Rattle.demand.proofs.Laws.Committed as C

-- words of phases before the decision
pub early_word : (n : ℕ) → n < 3 → is_decided (phase_of n) ≡ false
unfolding phase_of
early_word zero l = refl
early_word (suc zero) l = refl
early_word (suc (suc zero)) l = refl
early_word (suc (suc (suc n))) l = absurd (omega arith)

-- an open transaction, or one after its commit
pub either : (x : ℕ) → 1 ≤ x → x ≤ 2 → (x ≡ 1) ⊎ (x ≡ 2)
either zero l h = absurd (omega arith)
either (suc zero) l h = inl refl
either (suc (suc x)) l h = inr (omega arith)

pub undecided_word : (x : ℕ) → eqb x 0 ≡ false → eqb x 3 ≡ false → x ≤ 3 → (x ≡ 1) ⊎ (x ≡ 2)
undecided_word x p q l = let a = eqb-false x 0 p in let b = eqb-false x 3 q in either x (omega arith) (omega arith)

-- "op 1 insert .. 6 migrate": what was given is an operation that the store can do
pub given_legal : (op key value server : ℕ) → key < two_to_64 → Legal (op_of op key value server)
given_legal zero key value server h = h
given_legal (suc zero) key value server h = h
given_legal (suc (suc zero)) key value server h = h
given_legal (suc (suc (suc zero))) key value server h = h
given_legal (suc (suc (suc (suc zero)))) key value server h = h
given_legal (suc (suc (suc (suc (suc zero))))) key value server h = h
given_legal (suc (suc (suc (suc (suc (suc zero)))))) key value server h = tt
given_legal (suc (suc (suc (suc (suc (suc (suc n))))))) key value server h = h

module _ (k j slots : ℕ) (al : slots ≤ 1024) (few : suc j ≤ 16) (m : Address → ℕ) (L : Ledger) (M : P.Machine (T k j slots)) (c : Fin (suc j)) (R : Related k j slots m L M) where
  abbrev u : ClientWord → ℕ
  u = client_of m c.0

  others : (ps : List (Put ClientWord)) (d : Fin (suc j)) → ¬ (d ≡ c) → client_of (changed whole m (over (client c.0) ps)) d.0 ≡ client_of m d.0
  others ps d n = client_else m c.0 ps d.0 (away k j slots c d n)

  -- the client's slot as it was
  early : u phase < 3 → is_decided (M.slots c).phase ≡ false
  early l = ap is_decided (sym (R.clients c).slot.phase_as) ∙ early_word (u phase) l

  blank_now : (p : Phase) → is_decided p ≡ false → is_decided ((Mv.cleared (T k j slots) M c p).slots c).phase ≡ false
  blank_now p h = ap (λ (y : P.Slot (T k j slots)). is_decided y.phase) (upd_same (Fin-discrete (suc j)) M.slots c (P.blank (T k j slots) p)) ∙ h

  pub begin_turns : u phase ≡ 0 → Turns k j slots m (changed whole m (over (client c.0) (reset 1 u))) (clears L c.0) M c
  begin_turns e = record {
    machine = Mv.cleared (T k j slots) M c opened;
    shows = begin_kept k j slots m L M c R e;
    values_same = refl;
    undecided = blank_now opened refl;
    others = others (reset 1 u);
  }

  pub give_turns : (op key value server : ℕ) → u phase ≡ 1 → Legal (op_of op key value server)
      → Turns k j slots m (changed whole m (over (client c.0) (give_part op key value server u))) (notes_op L c.0 (op_of op key value server)) M c
  give_turns op key value server e legal = record {
    machine = M;
    shows = give_kept k j slots m L M c R op key value server legal;
    values_same = refl;
    undecided = early (omega (arith, e));
    others = others (give_part op key value server u);
  }

  -- loss without a transaction
  pub forget_turns : u phase ≡ 0 → Turns k j slots m (changed whole m (over (client c.0) (drop_all u))) L M c
  forget_turns e = record {
    machine = M;
    shows = loss_kept k j slots m L M c R;
    values_same = refl;
    undecided = early (omega (arith, e));
    others = others (drop_all u);
  }

  module _ (fit : client_fits slots u ≡ true) where
    -- commit, with participants and without
    pub commit_turns : u phase ≡ 1 → servers_known u ≡ true → Mv.homed (T k j slots) (M.slots c).items ≡ true → ¬ (K.participants_of u ≡ 0) → Turns k j slots m (changed whole m (over (client c.0) (K.committing u))) L M c
    commit_turns e known homed some = record {
      machine = C.M₁ k j slots al m L M c R fit e known homed;
      shows = C.commit_kept k j slots al m L M c R fit e known homed some;
      values_same = refl;
      undecided = ap (λ (y : P.Slot (T k j slots)). is_decided y.phase) (upd_same (Fin-discrete (suc j)) M.slots c (Mv.committed_slot (T k j slots) (M.slots c)));
      others = others (K.committing u);
    }

    pub end_turns : u phase ≡ 1 → servers_known u ≡ true → Mv.homed (T k j slots) (M.slots c).items ≡ true → K.participants_of u ≡ 0 → Turns k j slots m (changed whole m (over (client c.0) (reset 0 u))) (notes_decision L c.0) M c
    end_turns e known homed nobody = record {
      machine = C.M₃ k j slots al m L M c R fit e known homed nobody;
      shows = C.commit_ends k j slots al m L M c R fit e known homed nobody;
      values_same = refl;
      undecided = ap (λ (y : P.Slot (T k j slots)). is_decided y.phase) (upd_same (Fin-discrete (suc j)) (C.M₂ k j slots al m L M c R fit e known homed nobody).slots c (P.blank (T k j slots) idle));
      others = others (reset 0 u);
    }

    -- loss before the decision: the abort, and then all copies
    pub lost_turns : (u phase ≡ 1) ⊎ (u phase ≡ 2)
        → let m₁ = changed whole m (aborting (store k j slots) m c.0 []) in
        Turns k j slots m (changed whole m (aborting (store k j slots) m c.0 [] ++ over (client c.0) (drop_all (client_of m₁ c.0)))) (clears L c.0) M c
    lost_turns e =
        let m₁ = changed whole m (aborting (store k j slots) m c.0 []) in
        let t = abort_turns k j slots al few m L M c R fit [] e in
        let ps = drop_all (client_of m₁ c.0) in
        subst (λ (f : Address → ℕ). Turns k j slots m f (clears L c.0) M c) (sym (changed_append whole (aborting (store k j slots) m c.0 []) (over (client c.0) ps) m))
        (record {
          machine = t.machine;
          shows = loss_kept k j slots m₁ (clears L c.0) t.machine c t.shows;
          values_same = t.values_same;
          undecided = t.undecided;
          others = λ d n. client_else m₁ c.0 ps d.0 (away k j slots c d n) ∙ t.others d n;
        })
