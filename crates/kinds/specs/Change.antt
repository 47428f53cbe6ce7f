-- A change of the servers, as the code makes it: what it judges, and what it stores, one after another.
use Rattle.std.specs.Prelude.{◌≡◌, Bool, false, cond, ◌||◌, not, List, [], ◌∷◌, ◌++◌, ℕ, suc, ◌<◌, eqb, leb}
use Rattle.memory.specs.Word.{view}
use Rattle.layout.specs.Space.{Put, put}
use Rattle.layout.specs.Part.{over}
use Rattle.server.specs.declared.hand_out.Metadata.{Metadata}
use Rattle.server.specs.declared.place.Place.TheVariants.{Table}
use Rattle.server.specs.Store.{metadata_step, versions_row, versions_step}
use Rattle.nodes.specs.Bounds.{most_servers, last_version}
use Rattle.client.specs.Items.{all_below}
use Rattle.client.specs.Layout.{phase, decided_phase}
use Rattle.steps.specs.declared.sizes.Sizes.{Sizes}
use Rattle.steps.specs.declared.step.ServerChange.{ServerChange}
use Rattle.steps.specs.Whole.{Address, server}
use Rattle.steps.specs.Servers.{there, lowest_there, version_ends, larger, largest_version, is_add}
use Rattle.steps.specs.Steps.{at_servers}
use Rattle.kinds.specs.Parts.{stored_in}
use Rattle.kinds.specs.Judge.{of_client}

-- a node of the tables: its server, and its slot
pub record TableIn (z : Sizes) (t k : ℕ) : Type 0 where
  pub server : t < most_servers
  pub slot : k < z.slots

-- the lowest server there, of memory with the bytes b
pub record Lowest (z : Sizes) (b : List ℕ) (s : ℕ) : Type 0 where
  pub lowest : s ≡ lowest_there (stored_in z (view b))
  pub server : s < most_servers

-- the metadata's version has a next one: refusal 15 has passed
abbrev pub Rising : Sizes → List ℕ → Type 0
Rising z b = version_ends (stored_in z (view b)) ≡ false

-- ---- judged
abbrev pub phase_fits : Sizes → List ℕ → ℕ → Bool
phase_fits z w c = leb (of_client z w c phase) decided_phase

module _ (m : Address → ℕ) where
  -- the largest so far, with that of the server u
  unfoldable pub with_largest : ℕ → ℕ → ℕ → ℕ → ℕ
  with_largest u t k best = cond (there m u) (larger best (m (server u (Table t k)))) best

  abbrev pub version_fits : ℕ → ℕ → ℕ → Bool
  version_fits s k t = leb (largest_version m s t k) last_version

  unfoldable pub row_fits : ℕ → ℕ → Bool
  row_fits s k = all_below most_servers (version_fits s k)

-- only of an added server
unfoldable pub added_fits : Sizes → (Address → ℕ) → ServerChange → ℕ → Bool
added_fits z m x s = not (is_add x) || all_below z.slots (row_fits m s)

-- ---- stored
-- one version of the added server's table; those of a slot number; those of the first n slots
abbrev pub version_put : ℕ → ℕ → ℕ → (Address → ℕ) → List (Put Address)
version_put s k t m = put (server s (Table t k)) (largest_version m s t k) ∷ []

unfoldable pub row_put : ℕ → ℕ → ℕ → (Address → ℕ) → List (Put Address)
row_put s k n m = over (server s) (versions_row (largest_version m s) k n)

unfoldable pub added : ℕ → ℕ → (Address → ℕ) → List (Put Address)
added s n m = over (server s) (versions_step (largest_version m s) n)

-- the metadata x at the server t, and at the first n, its version raised
unfoldable pub tell_one : ℕ → Metadata → ℕ → (Address → ℕ) → List (Put Address)
tell_one s x t m = cond (there m t || eqb t s) (over (server t) (metadata_step x.root x.states (suc x.version) (λ a. 0))) []

unfoldable pub told : ℕ → Metadata → ℕ → (Address → ℕ) → List (Put Address)
told s x n m = at_servers n (λ t. tell_one s x t m)

-- the table, and then the metadata
unfoldable pub changing : Sizes → ServerChange → ℕ → Metadata → (Address → ℕ) → List (Put Address)
changing z c s x m = cond (is_add c) (added s z.slots m) [] ++ told s x most_servers m
