-- Whether a name is one of the store, a root's and a child's too.
use Rattle.std.specs.Prelude.{◌≡◌, Bool, not, leb, take}
use Rattle.std.proofs.Math.Path.{refl, sym}
use Rattle.std.proofs.Common.{◌∙◌, arith}
use Rattle.std.proofs.Math.Bool.{true, false}
use mathlib.Core.List.{List, [], ◌∷◌}
use Prim.Native.Nat.{ℕ, ◌+◌, ◌≤◌, ◌<◌}
use borrow.Author.Tests.{eq-eqb, ne_eqb, le-leb, lt-leb, not-true, not-false}
use Rattle.std.specs.List.{list_all}
use Rattle.nodes.specs.declared.node.Node.{Node}
use Rattle.nodes.specs.Node.{extra, slots_of}
use Rattle.nodes.specs.Range.{node_in_range}
use Rattle.nodes.proofs.Laws.Range.{range_count}
use Rattle.nodes.specs.States.{metadata_fits}
use Rattle.client.specs.Record.{first_slot, second_slot, in_store, record_in_range, all, children_there, node_fits, whole_in_range, kind_in_range}

pub of_metadata : (slots x a c : ℕ) (n : Node) (b : Bool) → x ≡ 0 → a ≡ first_slot n → c ≡ second_slot n → b ≡ metadata_fits slots a c n.version → b ≡ record_in_range slots x n
unfolding record_in_range
of_metadata slots x a c n b e p q h = h ∙ rw (e, p, q)

-- ---- an inner node's children: as the library's test of a slice says it
all_list : (f : ℕ → Bool) (l : List ℕ) → list_all f l ≡ all f l
unfolding all
all_list f [] = refl
all_list f (x ∷ l) = rw (all_list f l)

module _ (slots : ℕ) (n : Node) where
  pub not_inner : (n.kind ≡ 2 → ⊥) → true ≡ children_there slots n
  unfolding children_there
  not_inner d = rw (ne_eqb _ _ d)

  pub all_children : (b : Bool) → n.kind ≡ 2 → b ≡ list_all (in_store slots) (take (n.count + 1) n.slots) → b ≡ children_there slots n
  unfolding children_there slots_of extra
  all_children b e p = p ∙ all_list (in_store slots) (take (n.count + 1) n.slots) ∙ rw (eq-eqb _ _ e)

-- ---- nodes and objects stored whole
module _ (slots : ℕ) (n : Node) (b : Bool) (p : b ≡ node_in_range n) where
  pub node_unfit : not b ≡ true → false ≡ node_fits slots n
  unfolding node_fits
  node_unfit t = rw (← p, not-true b t)

  pub node_whole : (r : Bool) → not b ≡ false → r ≡ children_there slots n → r ≡ node_fits slots n
  unfolding node_fits
  node_whole r t q = q ∙ rw (← p, not-false b t)

  pub few_keys : not b ≡ false → n.count ≤ 14
  few_keys t = range_count n (sym p ∙ not-false b t)

module _ (slots : ℕ) (x : ℕ) (n : Node) (r : Bool) where
  pub whole_meta : x ≡ 0 → r ≡ record_in_range slots x n → r ≡ whole_in_range slots x n
  unfolding whole_in_range
  whole_meta e q = q ∙ rw (eq-eqb _ _ e)

  pub whole_node : (x ≡ 0 → ⊥) → x ≤ 8192 → r ≡ node_fits slots n → r ≡ whole_in_range slots x n
  unfolding whole_in_range
  whole_node d h q = q ∙ rw (ne_eqb _ _ d, le-leb _ _ h)

  pub whole_flag : 8192 < x → r ≡ record_in_range slots x n → r ≡ whole_in_range slots x n
  unfolding whole_in_range
  whole_flag h q = q ∙ rw (ne_eqb x 0 (λ e. absurd (omega (arith, e))), lt-leb _ _ h)

-- ---- kinds
module _ (x : ℕ) (n : Node) where
  pub meta_kind : x ≡ 0 → true ≡ kind_in_range x n
  unfolding kind_in_range
  meta_kind e = rw (eq-eqb _ _ e)

  pub flag_kind : (x ≡ 0 → ⊥) → 8192 < x → true ≡ kind_in_range x n
  unfolding kind_in_range
  flag_kind d h = rw (ne_eqb _ _ d, lt-leb _ _ h)

  pub node_kind : (x ≡ 0 → ⊥) → x ≤ 8192 → leb n.kind 2 ≡ kind_in_range x n
  unfolding kind_in_range
  node_kind d h = rw (ne_eqb _ _ d, le-leb _ _ h)

pub ruleset kind_exits = (meta_kind, flag_kind, node_kind)

pub ruleset whole_exits = (not_inner, all_children, node_unfit, node_whole, few_keys, whole_meta, whole_node, whole_flag)
