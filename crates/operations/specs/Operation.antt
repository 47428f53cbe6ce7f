-- The seven operations as plans, with the last check before the answer.
use Rattle.std.specs.Prelude.{Bool, true, cond, ◌&&◌, [], ◌∷◌, ℕ, ◌<◌}
use Rattle.std.proofs.Math.Decide.{dec_le}
use Rattle.base.specs.Test.{yes?}
use Rattle.nodes.specs.Place.{rises}
use Rattle.operations.specs.Object.{Val, keys_in, level_of, no_tree, Ans, Writes, written_value}
use Rattle.operations.specs.Map.{two_to_64, Op, insert, lookup, delete, next, previous, migrate, list}
use Rattle.operations.specs.Path.{TreePlan}
use Rattle.operations.specs.Look.{lookup_plan, next_plan, previous_plan, list_plan}
use Rattle.operations.specs.Change.{insert_plan, delete_plan}
use Rattle.operations.specs.Migrate.{migrate_plan}
use Rattle.plans.specs.Plan as P

-- may this be written? "a node with keys that don't rise or a level above 4 would be written"
abbrev pub fits? : Val → Bool
fits? v = rises (keys_in v) && yes? (dec_le (level_of v) 4)

-- of the objects of w, what all the writes together leave there
abbrev pub all_fit? : Writes → Writes → Bool
all_fit? all [] = true
all_fit? all (e ∷ w) = fits? (written_value all e.0) && all_fit? all w

-- once all is read, what would be written is looked at
abbrev pub check : Ans × Writes → TreePlan
check r = cond (all_fit? r.1 r.1) (P.done r) (P.fail no_tree)

-- a plan with this last check
abbrev pub checked : TreePlan → TreePlan
checked p = P.bind p check

-- what an operation reads and would write
abbrev pub reading : ℕ → Op → TreePlan
reading slots (insert k v) = insert_plan slots k v
reading slots (lookup k) = lookup_plan k
reading slots (delete k) = delete_plan slots k
reading slots (next k) = next_plan k
reading slots (previous k) = previous_plan k
reading slots (migrate n s) = migrate_plan slots n s
reading slots (list k n) = list_plan k n

-- the plan of an operation
abbrev pub plan : ℕ → Op → TreePlan
plan slots op = checked (reading slots op)

-- what a step with this operation is not refused for: the key is a 64-bit number
abbrev pub Legal : Op → Type 0
Legal (insert k v) = k < two_to_64
Legal (lookup k) = k < two_to_64
Legal (delete k) = k < two_to_64
Legal (next k) = k < two_to_64
Legal (previous k) = k < two_to_64
Legal (migrate n s) = Unit {0}
Legal (list k n) = k < two_to_64
