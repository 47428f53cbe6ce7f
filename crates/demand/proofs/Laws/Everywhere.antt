-- Stores at every server: what stands at the clients, in the head, and at each server.
use Rattle.std.specs.Prelude.{◌≡◌, Bool, true, false, List}
use Rattle.std.proofs.Math.Path.{refl, ap}
use Rattle.std.proofs.Common.{sym, ◌∙◌, subst, arith}
use Rattle.std.proofs.Math.Bool.{true≢false}
use Prim.Native.Nat.{ℕ, zero, suc, ◌≤◌, ◌<◌}
use Rattle.std.proofs.Math.Decide.{ℕ_discrete}
use Rattle.layout.specs.Space.{Put, changed}
use Rattle.layout.specs.Part.{over}
use Rattle.layout.proofs.Laws.Step.{changed_append}
use Rattle.server.specs.declared.place.Place.{Place}
use Rattle.server.specs.Layout.{place_again, places}
use Rattle.steps.specs.Whole.{Address, head, server, client, whole}
use Rattle.steps.proofs.Laws.Whole.{again}
use Rattle.steps.specs.Steps.{at_servers}
use Rattle.steps.proofs.Laws.Stores.{part_other, client_of, server_of, server_changed, server_else, server_clients}

a_head : Address → Bool
a_head (head i) = true
a_head (server s a) = false
a_head (client c a) = false

module _ (m : Address → ℕ) (f : ℕ → List (Put Address)) (qs : ℕ → List (Put Place)) (e : (t : ℕ) → f t ≡ over (server t) (qs t)) where
  abbrev m₁ : ℕ → Address → ℕ
  m₁ n = changed whole m (at_servers n f)

  step : (n : ℕ) → m₁ (suc n) ≡ changed whole (m₁ n) (over (server n) (qs n))
  unfolding at_servers
  step n = changed_append whole (at_servers n f) (f n) m ∙ ap (changed whole (m₁ n)) (e n)

  pub every_client : (n d : ℕ) → client_of (m₁ n) d ≡ client_of m d
  unfolding at_servers changed
  every_client zero d = refl
  every_client (suc n) d = ap (λ (g : Address → ℕ). client_of g d) (step n) ∙ server_clients (m₁ n) n (qs n) d ∙ every_client n d

  later : (n t : ℕ) → n ≤ t → server_of (m₁ n) t ≡ server_of m t
  unfolding at_servers changed
  later zero t l = refl
  later (suc n) t l = ap (λ (g : Address → ℕ). server_of g t) (step n) ∙ server_else (m₁ n) n (qs n) t (λ z. absurd (omega arith)) ∙ later n t (omega arith)

  pub every_server : (n t : ℕ) → t < n → server_of (m₁ n) t ≡ changed places (server_of m t) (qs t)
  every_server zero t l = absurd (omega arith)
  every_server (suc n) t l = ap (λ (g : Address → ℕ). server_of g t) (step n) ∙ go (ℕ_discrete t n) (every_server n t)
    where
      go : Dec (t ≡ n) → (t < n → server_of (m₁ n) t ≡ changed places (server_of m t) (qs t))
          → server_of (changed whole (m₁ n) (over (server n) (qs n))) t ≡ changed places (server_of m t) (qs t)
      go (yes z) rec =
          subst (λ (x : ℕ). server_of (changed whole (m₁ n) (over (server n) (qs n))) x ≡ changed places (server_of m x) (qs x)) (sym z)
          (server_changed (m₁ n) n (qs n) ∙ ap (λ (g : Place → ℕ). changed places g (qs n)) (later n n (omega arith)))
      go (no d) rec = server_else (m₁ n) n (qs n) t d ∙ rec (omega arith)

  pub every_head : (n i : ℕ) → m₁ n (head i) ≡ m (head i)
  unfolding at_servers changed a_head
  every_head zero i = refl
  every_head (suc n) i =
      ap (λ (g : Address → ℕ). g (head i)) (step n) ∙ part_other places place_again whole again (server n) (head i) (λ x q. true≢false (ap a_head q)) (qs n) (m₁ n) ∙ every_head n i
