-- The starred cases hold, by computation.
use Rattle.std.specs.Prelude.{refl}
use Rattle.std.proofs.Math.Decide.{ℕ_discrete, dec_lt, dec_le}
use Rattle.plans.specs.Plan.{exec, bind}
use Rattle.nodes.specs.Lists.{insert_at, remove_at}
use Rattle.nodes.specs.Place.{place, there_at, key_place, rises}
use Rattle.nodes.specs.Vector.{first_free}
use Rattle.nodes.proofs.Laws.States as States
use Rattle.operations.specs.Entry.{under}
use Rattle.operations.specs.Cases.{comes_to, Tried}

-- what the plans compute with on a small snapshot; `Examples` computes with it too
unfoldable pub computes : Type 0
unfolding comes_to exec bind States.computes place under there_at key_place rises insert_at remove_at first_free ℕ_discrete dec_lt dec_le
computes = Unit {0}

pub tried : Tried
unfolding computes
tried = refl
