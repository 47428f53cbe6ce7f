-- What holds after each step of a list: the memory shows a state that the machine reaches, and two facts more, which the applies still due and
-- the reading of the tree need.
use Rattle.std.specs.Prelude.{◌≡◌, refl, Bool, true, false, cond, List, ◌⊎◌}
use Rattle.std.proofs.Common.{ap, sym, ◌∙◌, subst, arith}
use Rattle.std.proofs.lemmas.Bool.{false≢true}
use Prim.Native.Nat.{ℕ, zero, suc, ◌≤◌, Fin}
use Rattle.std.proofs.Math.Decide.{Fin-discrete}
use Rattle.base.specs.Test.{not_both}
use Rattle.base.proofs.Laws.Update.{upd_same}
use Rattle.layout.specs.Space.{changed}
use Rattle.operations.specs.Object.{Obj}
use Rattle.demand.proofs.Laws.Store.{init}
use Rattle.protocol.specs.State.{idle, is_decided}
use Rattle.client.specs.Layout.{phase}
use Rattle.client.specs.Record.{object_in_store}
use Rattle.client.specs.Laws.Ranges.{client_fits}
use Rattle.steps.specs.declared.sizes.Sizes.{Sizes}
use Rattle.steps.specs.Whole.{Address, whole}
use Rattle.steps.proofs.Laws.Stores.{client_of}
use Rattle.steps.specs.Steps.{aborting}
use Rattle.demand.specs.Ledger.{Ledger, clears}
use Rattle.demand.proofs.Laws.Shows.{phase_of, T, Related}
use Rattle.protocol.specs.Machine as P
use Rattle.demand.proofs.Laws.Aborted as A

-- a decided transaction by its word
pub decided_word : (n : ℕ) → 3 ≤ n → is_decided (phase_of n) ≡ true
unfolding phase_of
decided_word zero l = absurd (omega arith)
decided_word (suc zero) l = absurd (omega arith)
decided_word (suc (suc zero)) l = absurd (omega arith)
decided_word (suc (suc (suc n))) l = refl

pub word_decided : (n : ℕ) → is_decided (phase_of n) ≡ true → 3 ≤ n
unfolding phase_of
word_decided zero e = absurd (false≢true e)
word_decided (suc zero) e = absurd (false≢true e)
word_decided (suc (suc zero)) e = absurd (false≢true e)
word_decided (suc (suc (suc n))) e = omega arith

-- one of two, by a test
pub one_of : {A : Type 0} (P : A → Type 0) (b : Bool) (x y : A) → (b ≡ true → P x) → (b ≡ false → P y) → P (cond b x y)
one_of P true x y f g = f refl
one_of P false x y f g = g refl

module _ (k j slots : ℕ) where
  abbrev Client : Type 0
  Client = Fin (suc j)

  -- the sizes, as the steps have them
  abbrev pub store : Sizes
  store = record { servers = suc k; slots = slots; clients = suc j }

  -- A GOOD STATE
  pub record Good (m : Address → ℕ) (L : Ledger) (M : P.Machine (T k j slots)) : Type 0 where
    pub shown : Related k j slots m L M
    -- a decided transaction is in range: its applies still due can be done
    pub decided_fits : (c : Client) → 3 ≤ client_of m c.0 phase → client_fits slots (client_of m c.0) ≡ true
    -- nothing is written to what the store hasn't
    pub outside : (s : Fin 8) (o : Obj) → object_in_store slots o ≡ false → M.value s o ≡ init k j slots o

  -- memory and ledger are those of some good state
  pub record Explained (m : Address → ℕ) (L : Ledger) : Type 0 where
    pub machine : P.Machine (T k j slots)
    pub good : Good m L machine

  -- A step of client c that applies nothing and leaves c undecided
  pub record Turns (m m' : Address → ℕ) (L' : Ledger) (M : P.Machine (T k j slots)) (c : Client) : Type 0 where
    pub machine : P.Machine (T k j slots)
    pub shows : Related k j slots m' L' machine
    pub values_same : machine.value ≡ M.value
    pub undecided : is_decided (machine.slots c).phase ≡ false
    pub others : (d : Client) → ¬ (d ≡ c) → client_of m' d.0 ≡ client_of m d.0

  module _ (m m' : Address → ℕ) (L L' : Ledger) (M : P.Machine (T k j slots)) (c : Client) (G : Good m L M) where
    abbrev Fits : Client → Type 0
    Fits d = 3 ≤ client_of m' d.0 phase → client_fits slots (client_of m' d.0) ≡ true

    -- one client's part changes
    pub still_fits : Fits c → ((d : Client) → ¬ (d ≡ c) → client_of m' d.0 ≡ client_of m d.0) → (d : Client) → Fits d
    still_fits own others d = go (Fin-discrete (suc j) d c)
      where
        go : Dec (d ≡ c) → Fits d
        go (yes e) = subst Fits (sym e) own
        go (no n) = subst (λ u. 3 ≤ u phase → client_fits slots u ≡ true) (sym (others d n)) (G.decided_fits d)

    pub turns_good : Turns m m' L' M c → Explained m' L'
    turns_good t = record {
      machine = t.machine;
      good = record {
        shown = t.shows;
        decided_fits = still_fits (λ e. absurd (not_both (ap is_decided (sym (t.shows.clients c).slot.phase_as) ∙ decided_word (client_of m' c.0 phase) e) t.undecided)) t.others;
        outside = λ s o h. ap (λ (f : Fin 8 → Obj → _). f s o) t.values_same ∙ G.outside s o h;
      };
    }

  -- ---- ABORT, for whatever reason; us came into use in the step
  module _ (al : slots ≤ 1024) (few : suc j ≤ 16) (m : Address → ℕ) (L : Ledger) (M : P.Machine (T k j slots)) (c : Client) (R : Related k j slots m L M) (fit : client_fits slots (client_of m c.0) ≡ true) (us : List ℕ) (open_still : (client_of m c.0 phase ≡ 1) ⊎ (client_of m c.0 phase ≡ 2)) where
    pub abort_turns : Turns m (changed whole m (aborting store m c.0 us)) (clears L c.0) M c
    abort_turns = record {
      machine = A.M₁ k j slots al few m L M c R fit;
      shows = A.abort_kept k j slots al few m L M c R fit us open_still;
      values_same = refl;
      undecided = ap (λ (y : P.Slot (T k j slots)). is_decided y.phase) (upd_same (Fin-discrete (suc j)) M.slots c (P.blank (T k j slots) idle));
      others = A.abort_others k j slots al few m L M c R fit us open_still;
    }
