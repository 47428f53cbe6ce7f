-- A node made of its lists has these lists.
use Rattle.std.specs.Prelude.{ℕ, ◌+◌, ◌≤◌, ◌≡◌, refl, List, length, eqb}
use Rattle.std.proofs.Common.{arith, length-take-le}
use Rattle.base.proofs.Laws.Test.{one_if_small}
use Rattle.nodes.specs.declared.node.Node.{Node}
use Rattle.nodes.proofs.Laws.Lists.{take_pad}
use Rattle.nodes.specs.Node.{extra, keys_of, slots_of, made}

-- ---- laws
pub extra_le : (kind : ℕ) → extra kind ≤ 1
unfolding extra
extra_le kind = one_if_small (eqb kind 2)

pub length_keysOf : (n : Node) → length n.keys ≡ 14 → n.count ≤ 14 → length (keys_of n) ≡ n.count
unfolding keys_of
length_keysOf n l h = length-take-le n.count n.keys (omega arith)

pub length_slotsOf : (n : Node) → length n.slots ≡ 15 → n.count ≤ 14 → length (slots_of n) ≡ n.count + extra n.kind
unfolding slots_of
length_slotsOf n l h = length-take-le (n.count + extra n.kind) n.slots (omega (arith, extra_le n.kind))

-- what was made is read back
pub keys_made : (k l v : ℕ) (ks ss : List ℕ) → keys_of (made k l v ks ss) ≡ ks
unfolding keys_of made
keys_made k l v ks ss = take_pad 14 ks (length ks) refl

pub slots_made : (k l v : ℕ) (ks ss : List ℕ) → length ss ≡ length ks + extra k → slots_of (made k l v ks ss) ≡ ss
unfolding slots_of made
slots_made k l v ks ss e = take_pad 15 ss (length ks + extra k) e

-- two nodes of equal parts are equal
pub node_eq : (k l v : ℕ) {c d : ℕ} {ks ks' ss ss' : List ℕ} → c ≡ d → ks ≡ ks' → ss ≡ ss'
    → ◌≡◌ {A = Node} (record { kind = k; level = l; version = v; count = c; keys = ks; slots = ss })
    (record { kind = k; level = l; version = v; count = d; keys = ks'; slots = ss' })
node_eq k l v p q r = λ i. record { kind = k; level = l; version = v; count = p i; keys = q i; slots = r i }
