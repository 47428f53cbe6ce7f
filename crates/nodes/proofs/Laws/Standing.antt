-- Laws of a node where it stands: which word has which field.
use Rattle.std.specs.Prelude.{◌≡◌, List, length, get_or, take, drop, Bool}
use Rattle.std.proofs.Math.Path.{sym}
use Rattle.std.proofs.Common.{◌∙◌, length-drop, get_or-take, length-take-le}
use Prim.Native.Nat.{ℕ, zero, suc, ◌+◌, ◌/◌, ◌≤◌, ◌<◌}
use native.Mathlib.Omega.{arith}
use Rattle.std.proofs.Math.Seq.{get_or-drop}
use Rattle.memory.specs.Word.{view}
use Rattle.memory.proofs.Laws.Word.{view_length}
use Rattle.nodes.specs.declared.node.Node.{Node}
use Rattle.nodes.specs.Counting.{from_count}
use Rattle.nodes.specs.Range.{fields_in_range, node_in_range}
use Rattle.nodes.specs.Stored.{node_of, node_at}
use Rattle.nodes.proofs.Laws.Stored.{Sized, node_sized}

module _ (w : List ℕ) (b : ℕ) where
  word_there : (i : ℕ) → i < 33 → get_or (take 33 (drop b w)) i 0 ≡ get_or w (b + i) 0
  word_there i h = get_or-take 33 (drop b w) i 0 h ∙ get_or-drop b w i 0

  module _ (r : ℕ) where
    pub kind_there : r ≡ get_or w b 0 → r ≡ (node_at w b).kind
    unfolding node_at node_of
    kind_there e = let z : b + 0 ≡ b = omega arith in e ∙ sym (rw z at (word_there 0 (omega arith)))

    pub level_there : r ≡ get_or w (b + 1) 0 → r ≡ (node_at w b).level
    unfolding node_at node_of
    level_there e = e ∙ sym (word_there 1 (omega arith))

    pub version_there : r ≡ get_or w (b + 2) 0 → r ≡ (node_at w b).version
    unfolding node_at node_of
    version_there e = e ∙ sym (word_there 2 (omega arith))

    pub count_there : r ≡ get_or w (b + 3) 0 → r ≡ (node_at w b).count
    unfolding node_at node_of
    count_there e = e ∙ sym (word_there 3 (omega arith))

    pub key_there : (i : ℕ) → i < 14 → r ≡ get_or w (b + 4 + i) 0 → r ≡ get_or (node_at w b).keys i 0
    unfolding node_at node_of
    key_there i h e =
        let z : b + (4 + i) ≡ b + 4 + i = omega arith in
        e ∙ sym (get_or-take 14 (drop 4 (take 33 (drop b w))) i 0 h ∙ get_or-drop 4 (take 33 (drop b w)) i 0 ∙ rw z at (word_there (4 + i) (omega arith)))

    pub number_there : (i : ℕ) → i ≤ 14 → r ≡ get_or w (b + 3 + i) 0 → r ≡ get_or (from_count (node_at w b)) i 0
    unfolding from_count
    number_there zero h e = let z : b + 3 + 0 ≡ b + 3 = omega arith in count_there (rw z at e)
    number_there (suc j) h e = let z : b + 3 + suc j ≡ b + 4 + j = omega arith in key_there j (omega arith) (rw z at e)

    pub slot_there : (i : ℕ) → i < 15 → r ≡ get_or w (b + 18 + i) 0 → r ≡ get_or (node_at w b).slots i 0
    unfolding node_at node_of
    slot_there i h e =
        let z : b + (18 + i) ≡ b + 18 + i = omega arith in
        e ∙ sym (get_or-take 15 (drop 18 (take 33 (drop b w))) i 0 h ∙ get_or-drop 18 (take 33 (drop b w)) i 0 ∙ rw z at (word_there (18 + i) (omega arith)))

-- its arrays have their sizes
pub standing_sized : (s : List ℕ) (b : ℕ) → b + 33 ≤ length s / 8 → Sized (node_at (view s) b)
unfolding node_at
standing_sized s b h = node_sized (take 33 (drop b (view s))) (length-take-le 33 (drop b (view s)) (simp length-drop (omega (arith, view_length s))))

pub keys_sized : (s : List ℕ) (b : ℕ) → b + 33 ≤ length s / 8 → length (node_at (view s) b).keys ≡ 14
keys_sized s b h = (standing_sized s b h).keys

-- ---- what was asked of its words one by one, said of the node
pub range_there : (n : Node) (k l v c : ℕ) (r : Bool) → k ≡ n.kind → l ≡ n.level → v ≡ n.version → c ≡ n.count → r ≡ fields_in_range k l v c → r ≡ node_in_range n
unfolding node_in_range
range_there n k l v c r a b d e q = rw (← a, ← b, ← d, ← e) q
