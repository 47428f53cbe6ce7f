-- Laws of a delete's walk.
use Rattle.std.specs.Prelude.{◌≡◌, true, false, List, [], ℕ, ◌+◌, ◌-◌, ◌≤◌, ◌<◌, None, Some, Ok, Err}
use Rattle.std.proofs.Common.{sym, ◌∙◌, arith}
use Rattle.std.proofs.Math.ListN.{length}
use Rattle.nodes.specs.declared.node.Node.{Node}
use Rattle.nodes.specs.declared.change.Wide.{Wide}
use Rattle.nodes.specs.declared.standing.KeyPlace.{KeyPlace}
use Rattle.nodes.specs.Lists.{remove_at}
use Rattle.nodes.proofs.Laws.Lists.{length_remove}
use Rattle.nodes.specs.Place.{key_place, Within}
use Rattle.nodes.proofs.Laws.Place.{yes_behind, yes_inside}
use Rattle.nodes.specs.Node.{keys_of, made}
use Rattle.nodes.specs.Entries.{entries_of, wide_entries}
use Rattle.nodes.specs.Change.{take_out}
use Rattle.nodes.proofs.Laws.Kept.{take_out_entries}
use Rattle.operations.specs.Entry.{Entries, place_in}
use Rattle.operations.specs.Path.{TreePlan, Branch}
use Rattle.operations.specs.Change.{delete_at, delete_plan}
use Rattle.memory.specs.Word.{view}
use Rattle.nodes.specs.Stored.{node_at}
use Rattle.walk.specs.declared.down.Descent.{Descent}
use Rattle.client.specs.Sets.{held}
use Rattle.walk.specs.declared.walk.Stop.{Stop}
use Rattle.walk.specs.Laws.Entries.{extra_leaf, leaf_place}
use Rattle.walk.specs.Walk.{Course}
use Rattle.walk.specs.Lookup.{Ends, Walks}
use Rattle.walk.specs.Down.{low, Descends, Arrival, arrival, PathInPart}
use Rattle.change.specs.Rise.{Content, widened}
use Rattle.change.specs.Laws.Parts.{out_level, widened_entries, widened_content}
use Rattle.change.specs.Up.{rise_plan}
use Rattle.change.specs.Leaf.{Changes}
use Rattle.change.specs.Laws.Insert.{AtLeaf, leaf_level, way, ended_leaf, change_stops, change_noted, change_ended, leaf_few, change_few, change_on, change_none, leaf_unchanged}

-- ---- the leaf's new content
module _ (n : Node) (f : AtLeaf n) (i : ℕ) (h : i < n.count) where
  out_few : (take_out n i).count ≤ 14
  unfolding take_out made
  out_few = let e : length (remove_at i (keys_of n)) ≡ length (keys_of n) - 1 = length_remove i (keys_of n) (omega (arith, f.whole.keys)) in omega (arith, f.whole.keys, f.small)

  out_content : Content 0 (widened (take_out n i))
  out_content = widened_content 0 (take_out n i) (out_level 0 n (leaf_level n f) i h) out_few

  out_entries : (lo : ℕ) → wide_entries (widened (take_out n i)) lo ≡ remove_at i (entries_of n lo)
  out_entries lo =
      let z : i + 0 ≡ i = omega arith in
      widened_entries 0 (take_out n i) (out_level 0 n (leaf_level n f) i h) lo ∙ take_out_entries n lo f.whole i h ∙ rw (extra_leaf n f.leaf, z)

-- ---- at the leaf
pub delete_stops : (slots : ℕ) (b u : List ℕ) (key : ℕ) (s : Stop) (u₁ : List ℕ) → Descends slots (held b) u key (arrival b (Err s)) u₁ → Changes slots b u (delete_plan slots key) (Err s) u₁
delete_stops slots b u key s u₁ h = change_stops slots b u key s u₁ h (λ fs n es. delete_at slots fs n es (place_in key es))

module _ (slots : ℕ) (b u : List ℕ) (key : ℕ) (WayDown : Descent) (u₁ : List ℕ) (h : Descends slots (held b) u key (arrival b (Ok WayDown)) u₁) (k : KeyPlace) (p : k ≡ key_place (keys_of (node_at (view b) WayDown.place)) key) where
  abbrev d : Arrival
  d = arrival b (Ok WayDown)

  abbrev lo : ℕ
  lo = low (way d)

  leaf : AtLeaf d.node
  leaf = ended_leaf slots d (change_ended slots b u key WayDown u₁ h)

  in_leaf : place_in key (entries_of d.node lo) ≡ k
  in_leaf = leaf_place d.node lo key leaf.whole leaf.leaf ∙ sym p

  abbrev plan : List Branch → ℕ → Entries → TreePlan
  plan fs n es = delete_at slots fs n es (place_in key es)

  pub delete_nothing : k.there ≡ false → (s : Course) (u' : List ℕ) → Ends (held b) u₁ 0 0 s u' → Walks slots (held b) u (delete_plan slots key) s u' []
  delete_nothing e s u' q = change_none slots b u key WayDown u₁ h plan 0 0 s u' (rw (in_leaf, e)) q

  pub delete_unchanged : k.there ≡ false → Changes slots b u (delete_plan slots key) (Ok None) u₁
  delete_unchanged e = leaf_unchanged slots b u key WayDown u₁ h plan (rw (in_leaf, e))

  module _ (yes : k.there ≡ true) (w : Within k (node_at (view b) WayDown.place).count) where
    abbrev i : ℕ
    i = k.place - 1

    within : i < d.node.count
    within = yes_inside k d.node.count w yes

    pub delete_behind : 1 ≤ k.place
    delete_behind = yes_behind k d.node.count w yes

    pub delete_inside : (n : Node) → n ≡ node_at (view b) WayDown.place → i < n.count
    delete_inside n q = rw q within

    pub deleted : (l : Node) (n : Wide) → PathInPart WayDown.path → l ≡ node_at (view b) WayDown.place → n ≡ widened (take_out l i)
        → Changes slots b u (delete_plan slots key) (Ok (Some (record { way = WayDown; content = n; a = 1 }))) u₁
    unfolding rise_plan
    deleted l n w' pl pl' =
        let pn : n ≡ widened (take_out d.node i) = rw pl at pl' in
        let o : wide_entries n lo ≡ remove_at i (entries_of d.node lo) = rw pn (out_entries d.node leaf i within lo) in
        change_on slots b u key WayDown u₁ h plan n 1 w' (rw pn (out_content d.node leaf i within)) (rw (in_leaf, yes, ← o))

pub ruleset delete_exits = (delete_stops, change_noted, change_few, leaf_few, delete_unchanged, delete_behind, delete_inside, deleted)
