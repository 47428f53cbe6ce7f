-- What is known of a step of which none of refusals 4 to 9, 11 and 13 to 15 holds.
use Rattle.std.specs.Prelude.{◌≡◌, true, false, ℕ, ◌≤◌, ◌<◌}
use Rattle.nodes.specs.Bounds.{most_servers}
use Rattle.client.specs.Record.{in_store}
use Rattle.steps.specs.declared.sizes.Sizes.{Sizes}
use Rattle.steps.specs.declared.step.Step.{Step}
use Rattle.steps.specs.Whole.{Address, client}
use Rattle.steps.specs.Servers.{change_of, state_suits, any_taken, version_ends, quiet}
use Rattle.steps.specs.Refusal.{kind_of, state_fits}

pub record Passed (z : Sizes) (k : Step) (m : Address → ℕ) : Type 0 where
  pub known_kind : k.kind ≤ 10
  pub known_client : k.kind ≤ 7 → k.client < z.clients
  pub known_op : k.kind ≡ 1 → (1 ≤ k.op) × (k.op ≤ 7)
  pub known_count : k.kind ≡ 1 → k.op ≡ 7 → (1 ≤ k.value) × (k.value ≤ 32)
  -- of a migrate, a prepare or an apply, and of a change of the servers
  pub known_server : k.kind ≡ 1 → k.op ≡ 6 → k.server < most_servers
  pub known_participant : 4 ≤ k.kind → k.kind ≤ 5 → k.server < most_servers
  pub known_changed : 8 ≤ k.kind → k.server < most_servers
  pub known_node : k.kind ≡ 1 → k.op ≡ 6 → in_store z.slots k.key ≡ true
  pub fitting : k.kind ≤ 7 → state_fits (λ a. m (client k.client a)) k.server (kind_of k.kind) ≡ true
  -- and of a change of the servers
  pub suiting : 8 ≤ k.kind → state_suits m k.server (change_of k.kind) ≡ true
  pub untaken : k.kind ≡ 10 → any_taken m k.server ≡ false
  pub rising : 8 ≤ k.kind → version_ends m ≡ false
  pub quiet_now : 8 ≤ k.kind → quiet z m ≡ true
