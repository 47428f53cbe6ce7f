-- The operations, by their numbers.
use Rattle.std.specs.Prelude.{[], ◌∷◌, ℕ, get_or}
use Rattle.walk.specs.declared.operation.Query.TheVariants.{Lookup, Next, Previous}
use Rattle.walk.specs.declared.operation.Update.TheVariants.{Insert, Delete, Migrate}
use Rattle.walk.specs.declared.operation.Operation.{Operation}
use Rattle.walk.specs.declared.operation.Operation.TheVariants.{Read, Listing, Write, Unknown}

-- "op 1 insert, 2 lookup, 3 delete, 4 next key above, 5 previous key below, 6 migrate", and 7 list; no other number is one
unfoldable pub operation_of : ℕ → Operation
operation_of n =
    get_or (Unknown ∷ Write Insert ∷ Read Lookup ∷ Write Delete ∷ Read Next ∷ Read Previous ∷ Write Migrate ∷ Listing ∷ []) n Unknown
