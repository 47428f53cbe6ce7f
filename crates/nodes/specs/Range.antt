-- "Something stored that this step's rule reads has a field out of range": the ranges of a node's fields.
use Rattle.std.specs.Prelude.{ℕ, Bool, cond, ◌&&◌, eqb, leb}
use Rattle.nodes.specs.declared.node.Node.{Node}

-- "Level is the distance from the leaves: 0 for a leaf, 1 to 4 for an inner node." A free node keeps none.
abbrev pub level_fits : ℕ → ℕ → Bool
level_fits kind level = cond (eqb kind 2) (leb 1 level && leb level 4) (eqb level 0)

-- "at most 14 keys"; a free node keeps "only a version"
abbrev pub count_fits : ℕ → ℕ → Bool
count_fits kind count = cond (eqb kind 0) (eqb count 0) (leb count 14)

-- "a kind (0 free, 1 leaf, 2 inner), a level, a 32-bit version, at most 14 keys"
abbrev pub fields_in_range : ℕ → ℕ → ℕ → ℕ → Bool
fields_in_range kind level version count = leb kind 2 && (leb version 4294967295 && (level_fits kind level && count_fits kind count))

-- of a node
unfoldable pub node_in_range : Node → Bool
node_in_range n = fields_in_range n.kind n.level n.version n.count
