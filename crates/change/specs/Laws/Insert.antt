-- Laws of an insert's walk.
use Rattle.std.specs.Prelude.{◌≡◌, Bool, cond, get_or, set, None, Some, Ok, Err}
use Rattle.std.proofs.Math.Path.{refl, sym, ap}
use Rattle.std.proofs.Common.{◌∙◌}
use Rattle.std.proofs.Math.Bool.{true, false}
use mathlib.Core.List.{List, []}
use Rattle.std.proofs.Math.Option.{none, some}
use Prim.Native.Nat.{ℕ, zero, ◌+◌, ◌-◌, ◌≤◌}
use native.Mathlib.Omega.{arith}
use Rattle.std.proofs.Math.ListN.{length, length-set}
use Rattle.nodes.specs.declared.node.Node.{Node}
use Rattle.nodes.specs.declared.change.Wide.{Wide}
use Rattle.nodes.specs.declared.standing.KeyPlace.{KeyPlace}
use Rattle.nodes.specs.Lists.{insert_at}
use Rattle.nodes.proofs.Laws.Lists.{length_insert}
use Rattle.nodes.specs.Place.{place, key_place, Within}
use Rattle.nodes.proofs.Laws.Place.{place_within, yes_says}
use Rattle.nodes.specs.Node.{extra, keys_of, slots_of, made}
use Rattle.nodes.specs.Entries.{entries_of, wide_entries}
use Rattle.nodes.specs.Change.{wide, put_in, with_slot}
use Rattle.nodes.specs.Kept.{Whole}
use Rattle.nodes.proofs.Laws.Kept.{made_whole, put_in_whole, put_in_entries, slot_entries}
use Rattle.operations.specs.Map.{fresh}
use Rattle.operations.specs.Entry.{Entries, value_in, with_at, with_pair}
use Rattle.operations.specs.Path.{TreePlan, Branch, from_root}
use Rattle.operations.specs.Change.{up, insert_plan}
use Rattle.walk.specs.declared.down.Turn.{Turn}
use Rattle.memory.specs.Word.{view}
use Rattle.nodes.specs.Stored.{node_at}
use Rattle.walk.specs.declared.down.Descent.{Descent}
use Rattle.client.specs.Sets.{held}
use Rattle.change.specs.declared.insert.Paired.{Paired}
use Rattle.walk.specs.declared.walk.Stop.{Stop}
use Rattle.walk.specs.Laws.Entries.{Leaf, open_leaf, extra_leaf, leaf_place, leaf_value}
use Rattle.walk.specs.Walk.{Course}
use Rattle.walk.specs.Lookup.{Ends, Walks}
use Rattle.walk.specs.Ask.{Noted}
use Rattle.walk.specs.Down.{low, branches, trail, Linked, Reached, Descends, Arrival, arrival, PathInPart}
use Rattle.change.specs.Rise.{OfLevel, Content}
use Rattle.change.specs.Laws.Parts.{widened_entries, widened_content}
use Rattle.change.specs.Up.{Ready, rise_plan}
use Rattle.change.specs.Insert.{paired_at, paired}
use Rattle.change.specs.Leaf.{Changes}
use Rattle.plans.specs.Plan as P

-- a leaf at hand
pub record AtLeaf (n : Node) : Type 0 where
  pub whole : Whole n
  pub leaf : Leaf n
  pub small : n.count ≤ 14

module _ (n : Node) (f : AtLeaf n) where
  none_more : extra n.kind ≡ 0
  none_more = extra_leaf n f.leaf

  pub leaf_level : OfLevel 0 n
  leaf_level = record { kind = f.leaf.kind; level = f.leaf.level; whole = f.whole }

  slot_level : (i v : ℕ) → OfLevel 0 (with_slot n i v)
  unfolding with_slot made
  slot_level i v =
      let e : length (set (slots_of n) i v) ≡ length (keys_of n) + extra n.kind = rw length-set (omega (arith, f.whole.keys, f.whole.slots)) in
      record { kind = f.leaf.kind; level = f.leaf.level; whole = made_whole n.kind n.level n.version 0 (keys_of n) (set (slots_of n) i v) e }

  slot_few : (i v : ℕ) → (with_slot n i v).count ≤ 14
  unfolding with_slot made
  slot_few i v = omega (arith, f.whole.keys, f.small)

  module _ (key v : ℕ) where
    place_inside : place (keys_of n) key ≤ n.count
    place_inside = omega (arith, place_within (keys_of n) key, f.whole.keys)

    put_content : Content 0 (put_in n (place (keys_of n) key) key v)
    unfolding put_in wide
    put_content = record {
      kind = f.leaf.kind;
      level = f.leaf.level;
      whole = put_in_whole n 0 f.whole (place (keys_of n) key) key v place_inside;
      few = let g : length (insert_at (place (keys_of n) key) key (keys_of n)) ≡ length (keys_of n) + 1 = length_insert (place (keys_of n) key) key (keys_of n) (omega (arith, f.whole.keys, place_inside)) in
          omega (arith, f.whole.keys, f.small);
    }

    -- with an answer to whether the key is there
    abbrev answered : Bool → KeyPlace
    answered t = record { place = place (keys_of n) key; there = t }

    pub paired_content : Content 0 (paired n key v).content
    unfolding paired key_place
    paired_content = go (key_place (keys_of n) key).there
      where
        go : (t : Bool) → Content 0 (paired_at n key v (answered t)).content
        go false = put_content
        go true = let i = place (keys_of n) key - 1 in widened_content 0 (with_slot n i v) (slot_level i v) (slot_few i v)

    -- the entries are those of the plan, and so is the answer
    module _ (lo : ℕ) where
      pub paired_entries : wide_entries (paired n key v).content lo ≡ with_pair key v (entries_of n lo)
      unfolding paired key_place
      paired_entries = go (key_place (keys_of n) key).there refl ∙ sym (ap (with_at key v (entries_of n lo)) (leaf_place n lo key f.whole f.leaf))
        where
          go : (t : Bool) → (key_place (keys_of n) key).there ≡ t → wide_entries (paired_at n key v (answered t)).content lo ≡ with_at key v (entries_of n lo) (answered t)
          go false e =
              let z : place (keys_of n) key + 0 ≡ place (keys_of n) key = omega arith in
              put_in_entries n lo f.whole (place (keys_of n) key) key v place_inside ∙ rw (none_more, z)
          go true e =
              let i = place (keys_of n) key - 1 in
              widened_entries 0 (with_slot n i v) (slot_level i v) lo ∙ slot_entries n lo f.whole i v ∙ rw (none_more, (yes_says (keys_of n) key e).the_key)

      pub paired_answer : fresh (value_in key (entries_of n lo)) ≡ ((paired n key v).a, 0, [])
      unfolding paired key_place
      paired_answer = ap fresh (leaf_value n lo key f.whole f.leaf) ∙ go (key_place (keys_of n) key).there
        where
          go : (t : Bool) → fresh (cond t (some (get_or n.slots (place (keys_of n) key - 1) 0)) none) ≡ ((paired_at n key v (answered t)).a, 0, [])
          go false = refl
          go true = refl

-- ---- a way down that ended at a leaf
pub record Landed (slots : ℕ) (d : Arrival) : Type 0 where
  pub high : d.top ≤ 4
  pub reached : Reached 0 d
  pub linked : Linked slots 0 d.name (trail d.path 0 (d.top - 0))

abbrev pub way : Arrival → List Turn
way d = trail d.path 0 (d.top - 0)

module _ (slots : ℕ) (d : Arrival) (t : Landed slots d) where
  pub ended_leaf : AtLeaf d.node
  ended_leaf = record { whole = t.reached.whole; leaf = open_leaf d.node t.reached.opened t.reached.level; small = t.reached.small.keys }

  ended_ready : (n : Wide) → Content 0 n → Ready slots d.top d.path d.name n
  ended_ready n c = record { high = t.high; size = t.reached.size; good = t.reached.good; linked = t.linked; content = c }

-- a walk that ends on the way
pub change_stops : (slots : ℕ) (b u : List ℕ) (key : ℕ) (s : Stop) (u₁ : List ℕ) → Descends slots (held b) u key (arrival b (Err s)) u₁
    → (k : List Branch → ℕ → Entries → TreePlan) → Changes slots b u (from_root key k) (Err s) u₁
change_stops slots b u key s u₁ h k = record { asks = h.asks k; ready = tt; noted = h.noted }

pub insert_stops : (slots : ℕ) (b u : List ℕ) (key v : ℕ) (s : Stop) (u₁ : List ℕ) → Descends slots (held b) u key (arrival b (Err s)) u₁ → Changes slots b u (insert_plan slots key v) (Err s) u₁
insert_stops slots b u key v s u₁ h = change_stops slots b u key s u₁ h (λ fs n es. up slots (fresh (value_in key es)) zero fs [] n (with_pair key v es))

module _ (slots : ℕ) (b u : List ℕ) (key : ℕ) (p : Descent) (u₁ : List ℕ) (h : Descends slots (held b) u key (arrival b (Ok p)) u₁) where
  abbrev d : Arrival
  d = arrival b (Ok p)

  pub change_noted : Noted (held b) u₁
  change_noted = h.noted

  pub change_ended : Landed slots (arrival b (Ok p))
  change_ended = record { high = h.high; reached = h.reached refl; linked = h.linked refl }

  pub leaf_few : (node_at (view b) p.place).count ≤ 14
  leaf_few = (ended_leaf slots d change_ended).small

  pub pair_within : (n : Node) (k : KeyPlace) → n ≡ node_at (view b) p.place → Within k (node_at (view b) p.place).count → Within k n.count
  pair_within n k e w = rw e w

  pub change_few : (n : Node) → n ≡ node_at (view b) p.place → n.count ≤ 14
  change_few n e = rw e (ended_leaf slots d change_ended).small

  -- a leaf's new content, where the plan goes up from it
  pub change_on : (k : List Branch → ℕ → Entries → TreePlan) (n : Wide) (a : ℕ) → PathInPart p.path → Content 0 n
      → k (branches (way d)) d.name (entries_of d.node (low (way d))) ≡ rise_plan slots (a, 0, []) d.top d.path d.name n
      → Changes slots b u (from_root key k) (Ok (Some (record { way = p; content = n; a = a }))) u₁
  change_on k n a w c e = record { asks = h.asks k ∙ rw e; ready = (ended_ready slots d change_ended n c, w); noted = h.noted }

  -- no leaf changes: the plan answers at once
  pub change_none : (k : List Branch → ℕ → Entries → TreePlan) (i j : ℕ) (s : Course) (u' : List ℕ)
      → k (branches (way d)) d.name (entries_of d.node (low (way d))) ≡ P.done ((i, j, []), []) → Ends (held b) u₁ i j s u' → Walks slots (held b) u (from_root key k) s u' []
  change_none k i j s u' e q = record { same = h.asks k ∙ rw e (q.same slots [] []); noted = q.noted }

  -- an answer of 0 is left to be given
  pub leaf_unchanged : (k : List Branch → ℕ → Entries → TreePlan) → k (branches (way d)) d.name (entries_of d.node (low (way d))) ≡ P.done ((0, 0, []), [])
      → Changes slots b u (from_root key k) (Ok None) u₁
  leaf_unchanged k e = record { asks = h.asks k ∙ rw e; ready = tt; noted = h.noted }

  -- ---- insert
  pub inserted : (v : ℕ) (n : Node) (k : KeyPlace) (q : Paired) → PathInPart p.path → k ≡ key_place (keys_of (node_at (view b) p.place)) key → n ≡ node_at (view b) p.place → q ≡ paired_at n key v k
      → Changes slots b u (insert_plan slots key v) (Ok (Some (record { way = p; content = q.content; a = q.a }))) u₁
  unfolding rise_plan paired
  inserted v n k q w pk pn pq =
      let pp : q ≡ paired d.node key v = rw (pn, pk) at pq in
      let leaf : AtLeaf d.node = ended_leaf slots d change_ended in
      let e : wide_entries q.content (low (way d)) ≡ with_pair key v (entries_of d.node (low (way d))) = rw pp (paired_entries d.node leaf key v (low (way d))) in
      let a : fresh (value_in key (entries_of d.node (low (way d)))) ≡ (q.a, 0, []) = rw pp (paired_answer d.node leaf key v (low (way d))) in
      change_on (λ fs n es. up slots (fresh (value_in key es)) zero fs [] n (with_pair key v es)) q.content q.a w (rw pp (paired_content d.node leaf key v)) (rw (a, ← e))

pub ruleset insert_exits = (insert_stops, leaf_few, change_few, pair_within, inserted)
