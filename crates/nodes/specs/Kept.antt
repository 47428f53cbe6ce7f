-- Nodes whose count is one that their arrays have room for.
use Rattle.std.specs.Prelude.{◌+◌, ◌≡◌, length}
use Rattle.nodes.specs.declared.node.Node.{Node}
use Rattle.nodes.specs.declared.change.Wide.{Wide}
use Rattle.nodes.specs.Node.{extra, keys_of, slots_of}
use Rattle.nodes.specs.Change.{wide_keys, wide_slots}

-- a node of the code: its arrays have their sizes, and its keys and slots fit in them
pub record Whole (n : Node) : Type 0 where
  pub keys : length (keys_of n) ≡ n.count
  pub slots : length (slots_of n) ≡ n.count + extra n.kind

-- and so a wide one
pub record WholeWide (w : Wide) : Type 0 where
  pub keys : length (wide_keys w) ≡ w.count
  pub slots : length (wide_slots w) ≡ w.count + extra w.kind
