-- Objects as numbers, and their values as records of a node's form.
use Rattle.std.specs.Prelude.{Bool, true, cond, ◌&&◌, ◌||◌, not, List, [], ◌∷◌, ℕ, ◌+◌, ◌-◌, eqb, leb, get_or}
use Rattle.base.specs.Test.{one_if}
use Rattle.nodes.specs.declared.node.Node.{Node}
use Rattle.nodes.specs.Name.{name_in_store}
use Rattle.nodes.specs.Node.{keys_of, slots_of, made}
use Rattle.nodes.specs.Range.{node_in_range}
use Rattle.nodes.specs.States.{metadata_fits}
use Rattle.operations.specs.Object.{Obj, meta, node, flag, Val, root, body, taken, flags}
use Rattle.client.specs.Bounds.{last_node_number, first_flag_number}
pub use Rattle.nodes.specs.Bounds.{last_version}

-- "in the order metadata, nodes by name, flags by name": the order of these numbers
abbrev pub number : Obj → ℕ
number meta = 0
number (node n) = 1 + n
number (flag n) = first_flag_number + n

-- by the number: what the metadata has, what a node of that name has, what a flag of that name has
abbrev pub by_number : {A : Type 0} → ℕ → A → (ℕ → A) → (ℕ → A) → A
by_number x a f g = cond (eqb x 0) a (cond (leb x last_node_number) (f (x - 1)) (g (x - first_flag_number)))

-- the root's name and a flag stand in the record's first slot
abbrev pub first_slot : Node → ℕ
first_slot r = get_or r.slots 0 0

-- the servers' states stand in the second
abbrev pub second_slot : Node → ℕ
second_slot r = get_or r.slots 1 0

-- the value that a record holds
abbrev pub value_of : Obj → Node → Val
value_of meta r = root (first_slot r) (second_slot r)
value_of (node n) r = body r.kind r.level (keys_of r) (slots_of r)
value_of (flag n) r = taken (eqb (first_slot r) 1)

-- a record of a flag, with that value
unfoldable pub single : ℕ → ℕ → Node
single v x = made 0 0 v [] (x ∷ [])

-- a record of the metadata: its version, the root's name, the servers' states
unfoldable pub metadata : ℕ → ℕ → ℕ → Node
metadata v r st = made 0 0 v [] (r ∷ st ∷ [])

-- the record that holds a value, with a version; no operation writes a vector
unfoldable pub record_of : ℕ → Val → Node
record_of v (root r st) = metadata v r st
record_of v (body k l ks vs) = made k l v ks vs
record_of v (taken b) = single v (one_if b)
record_of v (flags fs) = made 0 0 v [] []

-- a name that the store has
abbrev pub in_store : ℕ → ℕ → Bool
in_store slots n = name_in_store slots n

-- an object that the store has
abbrev pub object_in_store : ℕ → Obj → Bool
object_in_store slots meta = true
object_in_store slots (node n) = in_store slots n
object_in_store slots (flag n) = in_store slots n

-- the number of such an object
unfoldable pub number_in_store : ℕ → ℕ → Bool
number_in_store slots x = by_number x true (in_store slots) (in_store slots)

-- "has a field out of range, or points to something that isn't there": may the record of the object with that number be used. The children of a
-- node are names that are judged where one is gone to
unfoldable pub record_in_range : ℕ → ℕ → Node → Bool
record_in_range slots x r =
    by_number x (metadata_fits slots (first_slot r) (second_slot r) r.version) (λ n. node_in_range r) (λ n. leb (first_slot r) 1)

-- do all pass a test
unfoldable pub all : {A : Type 0} → (A → Bool) → List A → Bool
all f [] = true
all f (a ∷ l) = f a && all f l

-- an inner node's children are names of the store
unfoldable pub children_there : ℕ → Node → Bool
children_there slots r = not (eqb r.kind 2) || all (in_store slots) (slots_of r)

-- a node that is handed out or stored whole: its children are read too
unfoldable pub node_fits : ℕ → Node → Bool
node_fits slots r = node_in_range r && children_there slots r

-- the record of any object that is stored whole
unfoldable pub whole_in_range : ℕ → ℕ → Node → Bool
whole_in_range slots x r = by_number x (record_in_range slots x r) (λ n. node_fits slots r) (λ n. record_in_range slots x r)

-- the kind of a node, which says where it is checked and who takes part
unfoldable pub kind_in_range : ℕ → Node → Bool
kind_in_range x r = by_number x true (λ n. leb r.kind 2) (λ n. true)
