-- The turns of the loop that branches, and its ways out.
use Rattle.std.specs.Prelude.{ℕ, ◌+◌, ◌-◌, ◌≤◌, ◌<◌, ◌≡◌, Bool, false, length, get_or, leb, eqb}
use Rattle.std.proofs.Common.{sym, ◌∙◌, true≢false, arith, le-leb, lt-ltb}
use Rattle.std.proofs.lemmas.Bool.{lt-leb}
use Rattle.base.specs.Test.{one_if}
use Rattle.nodes.specs.declared.node.Node.{Node}
use Rattle.nodes.specs.declared.standing.KeyPlace.{KeyPlace}
use Rattle.nodes.specs.Node.{keys_of}
use Rattle.nodes.specs.Place.{place, there_at, key_place, Within}
use Rattle.nodes.proofs.Laws.Counting.{Counting, key_behind, counting_goes_on, answered}

-- ---- the loop
module _
    (n : Node) (key i p : ℕ) (sized : length n.keys ≡ 14) (small : n.count ≤ 14) (so_far : Counting n key i p) (few : p < i)
    (c x q : ℕ) (z : c ≡ n.count) (g : i ≤ c) (k : x ≡ get_or n.keys (i - 1) 0) where
  goes_on : (o : ℕ) → o ≡ one_if (leb x key) → q ≡ p + o → Counting n key (i + 1) q
  goes_on o = counting_goes_on n key i p sized small so_far few c x o q z g (k ∙ sym (key_behind n i (omega arith)))

  pub counts_key : x ≤ key → q ≡ p + 1 → Counting n key (i + 1) q
  counts_key t e = goes_on 1 (rw (le-leb x key t)) e

  pub passes_key : key < x → q ≡ p → Counting n key (i + 1) q
  passes_key t e = goes_on 0 (rw (lt-leb x key t)) (omega arith)

-- ---- the ways out
module _ (n : Node) (key p : ℕ) (e : p ≡ place (keys_of n) key) where
  pub no_place : p ≡ 0 → ◌≡◌ {A = KeyPlace} (record { place = p; there = false }) (key_place (keys_of n) key)
  unfolding key_place there_at
  no_place z = rw (← e, z)

  pub at_place : (x : ℕ) → (p ≡ 0 → ⊥) → p ≤ n.count → x ≡ get_or n.keys (p - 1) 0
      → ◌≡◌ {A = KeyPlace} (record { place = p; there = eqb x key }) (key_place (keys_of n) key)
  at_place x z h k =
      let some : 0 < p = omega (arith, z) in
      rw (lt-ltb 0 p some) at (answered n key p x e h (k ∙ sym (key_behind n p some)))

pub none_within : (p count : ℕ) → p ≤ count → Within (record { place = p; there = false }) count
none_within p count h = record { most = h; not_zero = λ t. absurd (true≢false (sym t)) }

pub one_within : (p count : ℕ) (t : Bool) → p ≤ count → (p ≡ 0 → ⊥) → Within (record { place = p; there = t }) count
one_within p count t h z = record { most = h; not_zero = λ _. omega (arith, z) }
