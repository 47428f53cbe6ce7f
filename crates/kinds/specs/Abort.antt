-- "An abort unlocks everywhere and drops copies of all objects read": server by server.
use Rattle.std.specs.Prelude.{cond, List, [], ℕ}
use Rattle.memory.specs.Bit.{bit}
use Rattle.layout.specs.Space.{Put}
use Rattle.layout.specs.Step.{Does, silent}
use Rattle.steps.specs.declared.sizes.Sizes.{Sizes}
use Rattle.kinds.specs.declared.locks.Change.TheVariants.{Unlock}
use Rattle.kinds.specs.declared.findings.Fault.{Fault}
use Rattle.kinds.specs.declared.findings.Fault.TheVariants.{Damaged, Differs, Busy, TooMany}
use Rattle.steps.specs.Whole.{Address, whole, block}
use Rattle.steps.specs.Steps.{Did, refuse, abort, unlocked_everywhere, aborting}
use Rattle.kinds.specs.Locks.{changes}

-- "An abort unlocks everywhere"
unfoldable pub freeing : Sizes → ℕ → (Address → ℕ) → List (Put Address)
freeing z c m = unlocked_everywhere z m c

-- ---- one server after another; p are those at which the transaction is prepared
unfoldable pub unlocking : Sizes → ℕ → ℕ → ℕ → (Address → ℕ) → List (Put Address)
unlocking z c p s m = cond (bit p s) (changes z c s Unlock m) []

unfoldable pub Freed : Sizes → ℕ → ℕ → ℕ → List ℕ → List ℕ → Type 0
Freed z c p s w w' = Does whole (block z) (unlocking z c p s) silent w 0 w'

-- a fault refuses the step, or the transaction aborts for it
unfoldable pub stops : Sizes → ℕ → Fault → List ℕ → (Address → ℕ) → Did
stops z c Damaged us m = refuse 10
stops z c Differs us m = abort z m c 1 us
stops z c Busy us m = abort z m c 2 us
stops z c TooMany us m = abort z m c 4 us

-- ---- "and drops copies of all objects read"
unfoldable pub aborts : Sizes → ℕ → List ℕ → (Address → ℕ) → List (Put Address)
aborts z c us m = aborting z m c us
