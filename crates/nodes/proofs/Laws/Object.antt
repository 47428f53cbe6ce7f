-- An object's number gives the object back.
use Rattle.std.specs.Prelude.{◌≡◌, ℕ, ◌+◌, ◌-◌, ◌≤◌, ◌<◌}
use Rattle.std.proofs.Common.{sym, ap, ◌∙◌, arith, eq-eqb, ne_eqb, le-leb}
use Rattle.std.proofs.Math.Decide.{ℕ_discrete, dec_le}
use Rattle.std.proofs.lemmas.Bool.{lt-leb}
use Rattle.nodes.specs.declared.name.Name.{Name}
use Rattle.nodes.specs.declared.object.Object.{Object}
use Rattle.nodes.specs.declared.object.Object.TheVariants.{Metadata, Node, Flag}
use Rattle.nodes.specs.Object.{named, object_of}

-- numbers in the order of checking: "metadata, nodes by name, flags by name"
unfoldable pub number_of : Object → ℕ
number_of Metadata = 0
number_of (Node x) = 1 + x.number
number_of (Flag x) = 8193 + x.number

-- what the number tells
pub is_metadata : (n : ℕ) → n ≡ 0 → Metadata ≡ object_of n
unfolding object_of
is_metadata n h = sym (rw (eq-eqb n 0 h))

pub is_node : (n : ℕ) → ¬ (n ≡ 0) → n ≤ 8192 → Node (named (n - 1)) ≡ object_of n
unfolding object_of
is_node n h g = sym (rw (ne_eqb n 0 h, le-leb n 8192 g))

pub is_flag : (n : ℕ) → ¬ (n ≡ 0) → 8192 < n → Flag (named (n - 1 - 8192)) ≡ object_of n
unfolding object_of
is_flag n h g = sym (rw (ne_eqb n 0 h, lt-leb n 8192 g))

-- the number of the object with a number, and the object with the number of an object
pub number_again : (n : ℕ) → number_of (object_of n) ≡ n
unfolding number_of object_of
number_again n = go (ℕ_discrete n 0) (dec_le n 8192)
  where
    go : Dec (n ≡ 0) → Dec (n ≤ 8192) → number_of (object_of n) ≡ n
    go (yes z) d = rw (eq-eqb n 0 z) (sym z)
    go (no z) (yes l) = rw (ne_eqb n 0 z, le-leb n 8192 l) (omega arith)
    go (no z) (no l) = let h : 8192 < n = omega arith in rw (ne_eqb n 0 z, lt-leb n 8192 h) (omega arith)

pub node_again : (x : Name) → x.number < 8192 → object_of (number_of (Node x)) ≡ Node x
unfolding number_of
node_again x h =
    let e : 1 + x.number - 1 ≡ x.number = omega arith in
    sym (is_node (1 + x.number) (λ z. omega arith) (omega arith)) ∙ ap (λ (n : ℕ). Node (named n)) e

pub flag_again : (x : Name) → object_of (number_of (Flag x)) ≡ Flag x
unfolding number_of
flag_again x =
    let e : 8193 + x.number - 1 - 8192 ≡ x.number = omega arith in
    sym (is_flag (8193 + x.number) (λ z. omega arith) (omega arith)) ∙ ap (λ (n : ℕ). Flag (named n)) e
