-- "Objects are the metadata, nodes and flags": their numbers.
use Rattle.std.specs.Prelude.{◌≡◌, ◌≢◌, cond, ℕ, ◌-◌, ◌≤◌, ◌<◌, eqb, leb}
use Rattle.nodes.specs.declared.name.Name.{Name}
use Rattle.nodes.specs.declared.object.Object.{Object}
use Rattle.nodes.specs.declared.object.Object.TheVariants.{Metadata, Node, Flag}

-- the name with the number x
abbrev pub named : ℕ → Name
named x = record { number = x }

-- the object with the number n: 0 the metadata, from 1 on nodes by name, from 8,193 on flags by name
unfoldable pub object_of : ℕ → Object
object_of n = cond (eqb n 0) Metadata (cond (leb n 8192) (Node (named (n - 1))) (Flag (named (n - 1 - 8192))))

-- where an object's number lies
abbrev pub NumberOf : Object → ℕ → Type 0
NumberOf Metadata n = n ≡ 0
NumberOf (Node x) n = (n ≢ 0) × (n ≤ 8192) × (x.number ≡ n - 1)
NumberOf (Flag x) n = (n ≢ 0) × (8192 < n) × (x.number ≡ n - 8193)
