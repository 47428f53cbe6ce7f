-- WHAT A STEP MUST LEAVE, and a sound store from its parts, where a step stores in one client's part, or in one server's too.
use Rattle.std.specs.Prelude.{◌≡◌, Bool, true, false, cond, List, eqb}
use Rattle.std.proofs.Common.{ap, sym, ◌∙◌, subst, true≢false, eqb-true}
use Rattle.std.proofs.lemmas.Bool.{false≢true}
use Prim.Native.Nat.{ℕ, suc, Fin}
use Rattle.std.proofs.Math.Decide.{Fin-discrete}
use Rattle.layout.specs.Space.{Put, changed}
use Rattle.layout.specs.Part.{over}
use Rattle.server.specs.declared.place.Place.{Place}
use Rattle.server.specs.Layout.{places}
use Rattle.client.specs.Layout.{ClientWord, client_words}
use Rattle.steps.specs.Whole.{Address, client, whole}
use Rattle.steps.specs.declared.outcome.Outcome.{Outcome}
use Rattle.steps.specs.declared.outcome.Outcome.TheVariants.{Refused, Done, Fetched, Answered, Prepared, Decided, Applied, Committed, Aborted}
use Rattle.steps.specs.Steps.{Did, refuse, if_fit, by_finding}
use Rattle.steps.proofs.Laws.Stores.{client_of, server_of, client_changed, client_else, client_servers}
use Rattle.demand.proofs.Laws.Kept.{away}
use Rattle.demand.proofs.Laws.Turns.{one_of}
use Rattle.demand.proofs.Laws.Servers.{both, both_client, both_other, both_server, both_else}
use Rattle.ranges.specs.Claim.{NotRefusedBy10}
use Rattle.ranges.specs.Laws.Sound.{PartSound, ServerSound, LocksSound, SoundStore}

-- every outcome but one is accepted
abbrev pub by_10 : Outcome → Bool
by_10 (Refused n) = eqb n 10
by_10 Done = false
by_10 (Fetched a b) = false
by_10 (Answered a b) = false
by_10 (Prepared s) = false
by_10 Decided = false
by_10 (Applied s) = false
by_10 Committed = false
by_10 (Aborted y) = false

pub accepted : (o : Outcome) → by_10 o ≡ false → NotRefusedBy10 o
accepted o h e = absurd (true≢false (sym (ap by_10 e) ∙ h))

-- A STEP THAT DID d to m is not refused by 10, and leaves a sound store
pub record Kept (k j slots : ℕ) (m : Address → ℕ) (d : Did) : Type 0 where
  pub passes : NotRefusedBy10 d.outcome
  pub sound : SoundStore k j slots (changed whole m d.stores)

-- what it reads is in range
pub if_kept : (k j slots : ℕ) (m : Address → ℕ) (b : Bool) (d : Did) → b ≡ true → Kept k j slots m d → Kept k j slots m (if_fit b d)
if_kept k j slots m true d e K = K
if_kept k j slots m false d e K = absurd (false≢true e)

-- and what it finds is no refusal
pub finding_kept : (k j slots : ℕ) (m : Address → ℕ) (y : ℕ) (d : Did) (aborts : ℕ → Did) → eqb y 10 ≡ false → (y ≡ 0 → Kept k j slots m d) → Kept k j slots m (aborts y)
    → Kept k j slots m (by_finding y d aborts)
finding_kept k j slots m y d aborts e on off =
    one_of (Kept k j slots m) (eqb y 0) _ _ (λ q. on (eqb-true y 0 q)) (λ _. subst (λ (b : Bool). Kept k j slots m (cond b (refuse 10) (aborts y))) (sym e) off)

module _ (k j slots : ℕ) (m : Address → ℕ) (S : SoundStore k j slots m) where
  -- one client's part is another
  module _ (m' : Address → ℕ) (c : Fin (suc j)) where
    pub parts_sound : PartSound slots (client_of m' c.0) → ((d : Fin (suc j)) → ¬ (d ≡ c) → client_of m' d.0 ≡ client_of m d.0)
        → (d : Fin (suc j)) → PartSound slots (client_of m' d.0)
    parts_sound own others d = go (Fin-discrete (suc j) d c)
      where
        go : Dec (d ≡ c) → PartSound slots (client_of m' d.0)
        go (yes e) = subst (λ (d : Fin (suc j)). PartSound slots (client_of m' d.0)) (sym e) own
        go (no n) = subst (PartSound slots) (sym (others d n)) (S.parts d)

  -- stores in client c's part
  module _ (c : Fin (suc j)) (ps : List (Put ClientWord)) where
    abbrev after : Address → ℕ
    after = changed whole m (over (client c.0) ps)

    pub client_sound : PartSound slots (changed client_words (client_of m c.0) ps)
        → ((s : Fin 8) → LocksSound k j slots after s) → SoundStore k j slots after
    client_sound own locks = record {
      parts = parts_sound after c (subst (PartSound slots) (sym (client_changed m c.0 ps)) own)
          (λ d n. client_else m c.0 ps d.0 (away k j slots c d n));
      servers = λ s. subst (ServerSound slots s.0) (sym (client_servers m c.0 ps s.0)) (S.servers s);
      locks = locks;
    }

  -- and before that in server s's
  module _ (s : Fin 8) (c : Fin (suc j)) (ps : List (Put Place)) (qs : List (Put ClientWord)) where
    abbrev after_both : Address → ℕ
    after_both = both m s.0 c.0 ps qs

    pub both_sound : ServerSound slots s.0 (changed places (server_of m s.0) ps)
        → PartSound slots (changed client_words (client_of m c.0) qs)
        → ((t : Fin 8) → LocksSound k j slots after_both t) → SoundStore k j slots after_both
    both_sound here own locks = record {
      parts = parts_sound after_both c (subst (PartSound slots) (sym (both_client m s.0 c.0 ps qs)) own)
          (λ d n. both_other m s.0 c.0 ps qs d.0 (away k j slots c d n));
      servers = λ t. go t (Fin-discrete 8 t s);
      locks = locks;
    }
      where
        go : (t : Fin 8) → Dec (t ≡ s) → ServerSound slots t.0 (server_of after_both t.0)
        go t (yes e) =
            subst (λ (t : Fin 8). ServerSound slots t.0 (server_of after_both t.0)) (sym e)
            (subst (ServerSound slots s.0) (sym (both_server m s.0 c.0 ps qs)) here)
        go t (no n) = subst (ServerSound slots t.0) (sym (both_else m s.0 c.0 ps qs t.0 (λ e. n (native.Mathlib.Fin.val_path e)))) (S.servers t)
