-- A node as 33 words: kind, level, version, count, 14 keys, 15 slots.
use Rattle.std.specs.Prelude.{ℕ, List, ◌∷◌, ◌++◌, get_or, take, drop}
use Rattle.std.proofs.lemmas.List.Edits.{sets}
use Rattle.nodes.specs.declared.node.Node.{Node}

-- the node that 33 words stand for
unfoldable pub node_of : List ℕ → Node
node_of ws = record {
  kind = get_or ws 0 0;
  level = get_or ws 1 0;
  version = get_or ws 2 0;
  count = get_or ws 3 0;
  keys = take 14 (drop 4 ws);
  slots = take 15 (drop 18 ws);
}

-- the 33 words of a node
unfoldable pub words_of : Node → List ℕ
words_of n = n.kind ∷ n.level ∷ n.version ∷ n.count ∷ (n.keys ++ n.slots)

-- in a memory of words: the node at word b, and the memory with n there
unfoldable pub node_at : List ℕ → ℕ → Node
node_at w b = node_of (take 33 (drop b w))

unfoldable pub put_node : List ℕ → ℕ → Node → List ℕ
put_node w b n = sets w b (words_of n)
