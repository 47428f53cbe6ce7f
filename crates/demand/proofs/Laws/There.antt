-- "a server is what its own metadata calls it", in the memory and in the machine.
use Rattle.std.specs.Prelude.{◌≡◌}
use Rattle.std.proofs.Math.Path.{refl, ap}
use Rattle.std.proofs.Common.{sym}
use Prim.Native.Nat.{ℕ, Fin}
use Rattle.nodes.specs.States.{is_present}
use Rattle.operations.specs.Object.{meta, Val, states_of}
use Rattle.protocol.specs.Claim.{there_now}
use Rattle.steps.specs.Whole.{Address}
use Rattle.steps.specs.Servers.{there}
use Rattle.demand.specs.Ledger.{Ledger}
use Rattle.demand.proofs.Laws.Shows.{T, Related}
use Rattle.protocol.specs.Machine as P

module _ (k j slots : ℕ) (m : Address → ℕ) (L : Ledger) (M : P.Machine (T k j slots)) (R : Related k j slots m L M) where
  pub there_same : (s : Fin 8) → there m s.0 ≡ there_now (T k j slots) M s
  unfolding there
  there_same s = ap (λ (v : Val). is_present (states_of v) s.0) (sym ((R.servers s).value_as meta refl refl))
