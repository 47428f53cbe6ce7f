-- A name of the store, as a fetch needs it; what a server hands over.
use Rattle.std.specs.Prelude.{◌≡◌, true, ℕ, ◌<◌, List}
use Rattle.memory.specs.Word.{view}
use Rattle.nodes.specs.Name.{slot_of}
use Rattle.operations.specs.Object.{Ask}
use Rattle.client.specs.Bounds.{end_of_names}
use Rattle.client.specs.Record.{in_store}
use Rattle.client.specs.Lent.{LentList, LentMut, used_in}
use Rattle.client.specs.Part.{PartStep, Did, ◌then◌}
use Rattle.client.specs.Answered.{used_enter}
use Rattle.steps.specs.declared.sizes.Sizes.{Sizes}
use Rattle.steps.specs.declared.outcome.Outcome.{Outcome}
use Rattle.steps.specs.Servers.{metadata_source}
use Rattle.steps.specs.Steps.{hand_over, fetch}
use Rattle.kinds.specs.Parts.{InClient, stored_in}
use Rattle.kinds.specs.Kinds.{Comes}

-- ---- a node: its name is one of the store
pub record There (z : Sizes) (n : ℕ) : Type 0 where
  pub named : in_store z.slots n ≡ true
  pub slot : slot_of n < z.slots
  pub small : n < end_of_names

-- the source of metadata
abbrev pub Source : Sizes → List ℕ → ℕ → ℕ → Type 0
Source z b c s = s ≡ metadata_source (stored_in z (view b)) z c

-- ---- over the lent part, or the memory, and the list of copies in use: the copies in use enter the read set, and then what was fetched is stored
abbrev pub Takes : LentList → PartStep → LentMut → Type 0
Takes used g part = Did (used_enter (used_in used.entry.now) then g) part.entry.now part.exit.now

abbrev pub TakesIn : Sizes → ℕ → LentList → PartStep → LentMut → Type 0
TakesIn z c used g mem = InClient z c (used_enter (used_in used.entry.now) then g) mem.entry.now mem.exit.now

-- what comes of it, where the server s hands over what is lacking; out is the outcome if nothing is in its way
abbrev pub HandsOver : Sizes → ℕ → LentList → Ask → ℕ → Outcome → LentMut → Outcome → Type 0
HandsOver z c used a s out mem o = Comes z (λ m. hand_over z m c (used_in used.entry.now) a s out) mem.entry.now o mem.exit.now

-- what comes of the fetch
abbrev pub Fetches : Sizes → ℕ → LentList → Ask → LentMut → Outcome → Type 0
Fetches z c used a mem o = Comes z (λ m. fetch z m c (used_in used.entry.now) a) mem.entry.now o mem.exit.now
