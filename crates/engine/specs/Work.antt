-- How a walk that stopped ends the work step: what enters the sets with an answer.
use Rattle.std.specs.Prelude.{List, [], ℕ, ◌*◌, ◌≤◌, ◌<◌, ◌≡◌, true, length}
use Rattle.client.specs.Part.{PartStep, ◌then◌, put_word}
use Rattle.client.specs.Lent.{LentList, LentMut, Entry, used_in}
use Rattle.client.specs.Enter.{enter_entries}
use Rattle.client.specs.Answered.{used_enter}
use Rattle.client.specs.Layout.{ClientWord, op_number, op_value}
use Rattle.client.specs.Fits.{fit_to_work}
use Rattle.steps.specs.Whole.{Address}
use Rattle.steps.specs.Output.{with_pairs}
use Rattle.steps.specs.Steps.{Did, work}
use Rattle.kinds.specs.Parts.{StoreIn, stored_in, InClient}
use Rattle.kinds.specs.Fits.{Known}
use Rattle.kinds.specs.Judge.{of_client}
use Rattle.walk.specs.declared.operation.Operation.{Operation}
use Rattle.walk.specs.declared.operation.Operation.TheVariants.{Listing}
use Rattle.walk.specs.Operation.{operation_of}
use Rattle.walk.specs.Stopped.{Waiting}
use Rattle.memory.specs.Word.{view}
use Rattle.steps.specs.declared.sizes.Sizes.{Sizes}

-- ---- the stores of an answer
unfoldable pub entering : List ℕ → List Entry → PartStep
entering us l = used_enter us then (enter_entries l then put_word op_number 0)

-- over the lent memory and the list of copies in use: those, and the entries, enter the client's part
abbrev pub EntersAll : Sizes → ℕ → LentList → List Entry → LentMut → Type 0
EntersAll z c used l mem = InClient z c (entering (used_in used.entry.now) l) mem.entry.now mem.exit.now

-- memory with the bytes b that holds a store, with a client whose operation waits, and what is then judged
pub record WaitingClient (z : Sizes) (b : List ℕ) (c : ℕ) : Type 0 where
  pub store : StoreIn z (length b)
  pub client : c < z.clients
  pub fits : fit_to_work z.slots (of_client z (view b) c) ≡ true
  pub sets : Known z (view b) c
  pub waiting : Waiting (of_client z (view b) c)

-- a statement of a walk over a client's part of the lent memory
abbrev pub over_client : {A : Type 1} → (ℕ → (ClientWord → ℕ) → A) → Sizes → LentList → ℕ → A
over_client S z mem c = S z.slots (of_client z (view mem.entry.now) c)

-- the operation of client c that waits is of that sort
abbrev pub WaitsFor : Sizes → List ℕ → ℕ → Operation → Type 0
WaitsFor z b c o = Waiting (of_client z (view b) c) × (operation_of (of_client z (view b) c op_number) ≡ o)

-- it is a list, and the lent output is long enough for it
abbrev pub ListsInto : Sizes → List ℕ → ℕ → List ℕ → Type 0
ListsInto z b c out = (operation_of (of_client z (view b) c op_number) ≡ Listing) × (16 * of_client z (view b) c op_value ≤ length out)

-- the lent output is long enough for the list that waits, if one does
abbrev pub RoomForList : Sizes → List ℕ → ℕ → List ℕ → Type 0
RoomForList z b c out = of_client z (view b) c op_number ≡ 7 → 16 * of_client z (view b) c op_value ≤ length out

-- the output out as the rule d leaves it, on memory with the bytes b: the pairs of a list's answer are written to it, else it keeps its contents
abbrev pub Leaves : Sizes → ((Address → ℕ) → Did) → List ℕ → List ℕ → List ℕ → Type 0
Leaves z d b out out' = view out' ≡ with_pairs (d (stored_in z (view b))).pairs (view out)

-- the same of the lent memory and output
abbrev pub LeavesLent : Sizes → ((Address → ℕ) → Did) → LentMut → LentMut → Type 0
LeavesLent z d mem out = Leaves z d mem.entry.now out.entry.now out.exit.now

-- the work step has no pairs to write
abbrev pub NoPairs : Sizes → List ℕ → ℕ → Type 0
NoPairs z b c = (work z (stored_in z (view b)) c).pairs ≡ []
