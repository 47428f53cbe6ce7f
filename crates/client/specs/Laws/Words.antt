-- The words of an item, as they are read and written.
use Rattle.std.specs.Prelude.{◌≡◌, List, ◌∷◌, ℕ, length, take, drop, set, replicate}
use Rattle.std.proofs.Common.{◌∙◌, ap, append-nil, arith, take_all}
use Rattle.std.proofs.Math.Seq.{paste}
use Rattle.nodes.specs.declared.node.Node.{Node}
use Rattle.nodes.specs.Stored.{node_of, node_at, words_of}

pub record_got : (l words : List ℕ) (b : ℕ) (r : Node) → words ≡ paste (replicate 33 0) 0 (drop b l) 33 → r ≡ node_of words → r ≡ node_at l b
unfolding node_at
record_got l words b r e p = p ∙ ap node_of (e ∙ append-nil (take 33 (drop b l)))

pub item_made : (x : ℕ) (n : Node) (ws item : List ℕ) → length ws ≡ 33 → ws ≡ words_of n → item ≡ paste (set (replicate 34 0) 0 x) 1 ws 33 → item ≡ x ∷ words_of n
item_made x n ws item l e p = p ∙ rw (take_all 33 ws (omega arith), e) (append-nil (x ∷ words_of n))

pub copy_made : (ws copy : List ℕ) → length ws ≡ 16 → copy ≡ paste (set (replicate 17 0) 0 1) 1 ws 16 → copy ≡ 1 ∷ ws
copy_made ws copy l p = p ∙ rw (take_all 16 ws (omega arith)) (append-nil (1 ∷ ws))
