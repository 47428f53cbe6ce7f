-- DEMAND 3: "one claim on the whole list, not one for each step". The last paragraph of document 01's "Tried by hand", sentence by sentence: what
-- is claimed of the steps h that were taken in a store of sizes z, with their outcomes, and of the memory m to which they led.
use Rattle.std.specs.Prelude.{◌≡◌, true, List, [], ◌∷◌, ◌++◌, ◌⊎◌, ℕ, ◌<◌}
use Rattle.plans.specs.Walk.{Every}
use Rattle.nodes.specs.Bounds.{most_servers}
use Rattle.nodes.specs.Name.{server_of}
use Rattle.operations.specs.Object.{node, Val, level_of}
use Rattle.operations.specs.Map.{Map}
use Rattle.operations.specs.Reading.{pairs_below}
use Rattle.server.specs.declared.place.Place.TheVariants.{Root}
use Rattle.client.specs.Record.{value_of}
use Rattle.steps.specs.declared.sizes.Sizes.{Sizes}
use Rattle.steps.specs.declared.step.Step.{Step}
use Rattle.steps.specs.Whole.{Address, server, Allowed}
use Rattle.steps.specs.Servers.{there}
use Rattle.steps.specs.Steps.{node_at, step}
use Rattle.steps.specs.Run.{opened}
use Rattle.steps.specs.Taken.{Taken, steps_of, Engine, LeadsBy}
use Rattle.demand.specs.Ledger.{decided_in, map_all, RightAll}

-- ---- the tree
-- the node of a name, at its home
unfoldable pub node_in : (Address → ℕ) → ℕ → Val
node_in m n = value_of (node n) (node_at (λ a. m (server (server_of n) a)) n)

-- "the leaves' pairs, left to right, under the root"
abbrev pub pairs_under : (Address → ℕ) → ℕ → Map
pairs_under m r = pairs_below (level_of (node_in m r)) (node_in m) r

-- the memory's tree holds these pairs
pub record Tree (m : Address → ℕ) (pairs : Map) : Type 0 where
  -- "the root that all servers' metadata then name"; ""All servers" means those not absent"
  pub root : ℕ
  pub named : (s : ℕ) → s < most_servers → there m s ≡ true → m (server s Root) ≡ root
  -- and there is one that names it
  pub attended : (s : ℕ) × (s < most_servers) × (there m s ≡ true)
  pub holds : pairs_under m root ≡ pairs

-- ---- "The tree is read from the memory as all applies still due would leave it": as steps have left it, of which these were the last
-- P holds of some element
unfoldable pub Some : {A : Type 0} → (A → Type 0) → List A → Type 0
Some P [] = ⊥
Some P (a ∷ l) = P a ⊎ Some P l

-- applies (kind 5) of every client at every server, in any order; one that isn't due is refused, and does nothing
pub record Applies (z : Sizes) (ks : List Step) : Type 0 where
  pub only : Every (λ (k : Step). k.kind ≡ 5) ks
  pub each : (c s : ℕ) → c < z.clients → s < most_servers → Some (λ (k : Step). (k.client ≡ c) × (k.server ≡ s)) ks

-- DEMAND 3 of the steps h and the memory m
pub record Demand (z : Sizes) (h : List Taken) (m : Address → ℕ) : Type 0 where
  -- the decided transactions, run one after another in order of decision on one sorted map, give the answers that the tablets got
  pub answers : RightAll (decided_in h)
  -- and the tree holds that map: aborted and undecided transactions have changed none of it
  pub tree : (before ts : List Taken) → h ≡ before ++ ts → Applies z (steps_of ts) → Tree m (map_all (decided_in before))

-- an engine meets demand 3: for all allowed sizes and all steps that can be taken by it from a newly opened store, refused ones included
abbrev pub MeetsDemand3 : Engine → Type 0
MeetsDemand3 f = (z : Sizes) → Allowed z → (h : List Taken) (m : Address → ℕ) → LeadsBy f z (opened z) h m → Demand z h m

-- the claim: this engine does, whose steps are `Steps.step`
abbrev pub Demand3 : Type 0
Demand3 = MeetsDemand3 step
