-- What a node in range has: kind, level, version and count, one by one.
use Rattle.std.specs.Prelude.{ℕ, zero, suc, ◌≤◌, ◌≡◌, refl, ◌⊎◌, Bool, true, false, cond, ◌&&◌, eqb, leb}
use Rattle.std.proofs.Common.{inl, inr, arith}
use borrow.Author.Tests.{eqb-true, leb-true, le-leb}
use Rattle.base.specs.Test.{and_both}
use Rattle.nodes.specs.declared.node.Node.{Node}
use Rattle.nodes.specs.Range.{level_fits, count_fits, fields_in_range, node_in_range}

-- ---- laws
module _ (n : Node) where
  abbrev fits_kind : Bool
  fits_kind = level_fits n.kind n.level && count_fits n.kind n.count

  pub range_of : n.kind ≤ 2 → n.version ≤ 4294967295 → level_fits n.kind n.level ≡ true → count_fits n.kind n.count ≡ true → node_in_range n ≡ true
  unfolding node_in_range
  range_of k v l c = rw (le-leb n.kind 2 k, le-leb n.version 4294967295 v, l, c)

  module _ (h : node_in_range n ≡ true) where
    after_kind : (leb n.kind 2 ≡ true) × ((leb n.version 4294967295 && fits_kind) ≡ true)
    unfolding node_in_range
    after_kind = and_both (leb n.kind 2) (leb n.version 4294967295 && fits_kind) h

    after_version : (leb n.version 4294967295 ≡ true) × (fits_kind ≡ true)
    after_version = and_both (leb n.version 4294967295) fits_kind after_kind.1

    fits : (level_fits n.kind n.level ≡ true) × (count_fits n.kind n.count ≡ true)
    fits = and_both (level_fits n.kind n.level) (count_fits n.kind n.count) after_version.1

    pub range_version : n.version ≤ 4294967295
    range_version = leb-true n.version 4294967295 after_version.0

    pub range_count : n.count ≤ 14
    range_count = go (eqb n.kind 0) fits.1
      where
        go : (b : Bool) → cond b (eqb n.count 0) (leb n.count 14) ≡ true → n.count ≤ 14
        go true q = let z : n.count ≡ 0 = eqb-true n.count 0 q in omega arith
        go false q = leb-true n.count 14 q

    -- free, a leaf, or inner
    pub range_cases : ((n.kind ≡ 0) × (n.level ≡ 0) × (n.count ≡ 0)) ⊎ ((n.kind ≡ 1) × (n.level ≡ 0)) ⊎ ((n.kind ≡ 2) × (1 ≤ n.level) × (n.level ≤ 4))
    range_cases = go n.kind n.level n.count (leb-true n.kind 2 after_kind.0) fits.0 fits.1
      where
        go : (k l c : ℕ) → k ≤ 2 → level_fits k l ≡ true → count_fits k c ≡ true
            → ((k ≡ 0) × (l ≡ 0) × (c ≡ 0)) ⊎ ((k ≡ 1) × (l ≡ 0)) ⊎ ((k ≡ 2) × (1 ≤ l) × (l ≤ 4))
        go zero l c g p q = inl (refl, eqb-true l 0 p, eqb-true c 0 q)
        go (suc zero) l c g p q = inr (inl (refl, eqb-true l 0 p))
        go (suc (suc zero)) l c g p q = let r = and_both (leb 1 l) (leb l 4) p in inr (inr (refl, leb-true 1 l r.0, leb-true l 4 r.1))
        go (suc (suc (suc k))) l c g p q = absurd (omega arith)

-- where the code has asked all but the count of an inner node
pub inner_range : (k l v c : ℕ) → k ≡ 2 → v ≤ 4294967295 → 1 ≤ l → l ≤ 4 → leb c 14 ≡ fields_in_range k l v c
inner_range k l v c e f g h = rw (e, le-leb v 4294967295 f, le-leb 1 l g, le-leb l 4 h)
