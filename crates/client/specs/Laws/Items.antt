-- The ways out of the functions on items.
use Rattle.std.specs.Prelude.{◌≡◌, Bool, true, false, ℕ, ◌-◌, ◌≤◌, ◌<◌, eqb}
use Rattle.std.proofs.Math.Path.{sym}
use Rattle.std.proofs.Common.{ap, ◌∙◌}
use borrow.Author.Tests.{ne_eqb, le-leb, lt-leb}
use Rattle.nodes.specs.Name.{server_of}
use Rattle.nodes.specs.declared.node.Node.{Node}
use Rattle.nodes.specs.Found.{Found}
use Rattle.std.specs.Prelude.{Some, None}
use Rattle.client.specs.declared.part.Set.{Set}
use Rattle.client.specs.declared.part.Set.TheVariants.{Reads, Writes}
use Rattle.client.specs.Layout.{ClientWord}
use Rattle.client.specs.Sets.{record_at, find}
use Rattle.client.specs.Drops.{version_of}
use Rattle.client.specs.Items.{inner, has, inner_in, inner_before_after}
use Rattle.client.specs.Participants.{at_home}

module _ (m : ClientWord → ℕ) (s : Set) (x : ℕ) (f : Found) (e : f ≡ find m s x) where
  pub has_one : (i : ℕ) → f ≡ Some i → true ≡ has m s x
  unfolding has
  has_one i q = sym (rw (← e, q))

  pub has_none : f ≡ None → false ≡ has m s x
  unfolding has
  has_none q = sym (rw (← e, q))

  pub inner_there : (i : ℕ) (n : Node) (r : Bool) → f ≡ Some i → n ≡ record_at m s i → r ≡ inner x n → r ≡ inner_in m s x
  unfolding inner_in
  inner_there i n r q p h = h ∙ rw p (sym (rw (← e, q)))

  pub inner_absent : f ≡ None → false ≡ inner_in m s x
  unfolding inner_in
  inner_absent q = sym (rw (← e, q))

module _ (m : ClientWord → ℕ) (x : ℕ) (b : Bool) (e : b ≡ inner_in m Reads x) where
  pub inner_before : b ≡ true → true ≡ inner_before_after m x
  unfolding inner_before_after
  inner_before t = sym (rw (← e, t))

  pub inner_after : (r : Bool) → b ≡ false → r ≡ inner_in m Writes x → r ≡ inner_before_after m x
  unfolding inner_before_after
  inner_after r t h = h ∙ sym (rw (← e, t))

-- ---- homes
module _ (s x k : ℕ) (d : x ≡ 0 → ⊥) where
  pub node_home : x ≤ 8192 → k ≡ server_of (x - 1) → eqb k s ≡ at_home s x
  unfolding at_home
  node_home h o = sym (rw (ne_eqb _ _ d, le-leb _ _ h, ← o))

  pub flag_home : 8192 < x → k ≡ server_of (x - 8193) → eqb k s ≡ at_home s x
  unfolding at_home
  flag_home h o = sym (rw (ne_eqb _ _ d, lt-leb _ _ h, ← o))

-- ---- versions
module _ (m : ClientWord → ℕ) (x : ℕ) (f : Found) (e : f ≡ find m Reads x) where
  pub version_there : (i : ℕ) (n : Node) → f ≡ Some i → n ≡ record_at m Reads i → n.version ≡ version_of m (find m Reads x)
  version_there i n q p = ap (λ (r : Node). r.version) p ∙ sym (ap (version_of m) (sym e ∙ q))

  pub version_absent : f ≡ None → 0 ≡ version_of m (find m Reads x)
  version_absent q = sym (ap (version_of m) (sym e ∙ q))
