-- A store as the calls of a program have left it, however long it lives. `open` reaches one, and every step goes on from whatever was reached.
use Rattle.std.specs.Prelude.{◌≡◌, List, ◌++◌, ℕ, length}
use Rattle.memory.specs.Word.{view}
use Rattle.steps.specs.declared.sizes.Sizes.{Sizes}
use Rattle.steps.specs.Refusal.{open_refusal}
use Rattle.steps.specs.Run.{opened}
use Rattle.steps.specs.Taken.{Taken, Leads}
use Rattle.kinds.specs.Parts.{stored_in}

-- the bytes b are those of a store that was opened with sizes z, and in which the steps of h were taken since, with these outcomes
pub record Reached (z : Sizes) (h : List Taken) (b : List ℕ) : Type 0 where
  pub accepted : open_refusal (length b) z ≡ 0
  pub way : Leads z (opened z) h (stored_in z (view b))

-- whatever steps reached the bytes b: those, and then the steps of ts, reach the bytes b'
unfoldable pub GoesOn : List ℕ → List Taken → List ℕ → Type 0
GoesOn b ts b' = (z : Sizes) (h : List Taken) → Reached z h b → Reached z (h ++ ts) b'
