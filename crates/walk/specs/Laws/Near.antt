-- Laws of a search from the leaf of its key on.
use Rattle.std.specs.Prelude.{◌≡◌, refl, Bool, false, ℕ, zero, suc, ◌-◌, ◌<◌, drop, get_or, Some, None, Ok}
use Rattle.std.proofs.Common.{ap, ◌∙◌, arith}
use Rattle.std.proofs.Math.Bool.{true}
use mathlib.Core.List.{List, [], ◌∷◌, ◌++◌, map}
use Rattle.std.proofs.Math.Dec.{leb}
use Rattle.std.proofs.Math.ListN.{length, take}
use borrow.Author.Tests.{le-leb}
use Rattle.memory.specs.Word.{view}
use Rattle.nodes.specs.declared.node.Node.{Node}
use Rattle.nodes.specs.Entries.{entries_of}
use Rattle.nodes.specs.Stored.{node_at}
use Rattle.operations.specs.Entry.{Entries}
use Rattle.operations.specs.Path.{TreePlan, Branch}
use Rattle.operations.specs.Look.{Search, enough, told, seek_up}
use Rattle.walk.specs.declared.down.Descent.{Descent}
use Rattle.walk.specs.declared.down.Turn.{Turn}
use Rattle.walk.specs.declared.found.Wish.{Wish}
use Rattle.walk.specs.declared.walk.Stop.{Stop}
use Rattle.client.specs.Layout.{ClientWord}
use Rattle.client.specs.Lent.{used_in}
use Rattle.walk.specs.Entries.{branch_of}
use Rattle.walk.specs.Walk.{Course, Going, Ended, goes, stands, walked}
use Rattle.walk.specs.Ask.{Noted}
use Rattle.walk.specs.Laws.Begin.{nothing_used, nothing_noted}
use Rattle.walk.specs.Down.{turns_in, Arrival, no_arrival, arrival, Descends, Reached, ToLeaf, low, branches, trail}
use Rattle.walk.specs.Lookup.{ended, Walks}
use Rattle.walk.specs.Found.{pairs_in, first_pairs, Roomy, to_right, search_of, pairs_told, visit, side, search_plan, LeafAt}
use Rattle.walk.specs.Laws.Found.{length_pairs, leaf_from, full_take}
use Rattle.walk.specs.Seek.{rests, above, Stacked, Past, Tells, Seeks, FromLeaf, Afresh}
use Rattle.walk.specs.Laws.Mute.{way_silent}
use Rattle.walk.specs.Laws.Lookup.{told_ended}
use Rattle.walk.specs.Laws.Seek.{seek_climb, told_taken}
use Rattle.walk.specs.Laws.Entries.{open_leaf}

-- ---- the branches left on one side
abbrev lows_of : List Turn → ℕ → ℕ
lows_of bs i = low (drop (suc i) bs)

sides_are : (right : Bool) (bs : List Turn) → map (side right) (branches bs) ≡ rests right bs (lows_of bs)
unfolding branch_of
sides_are true [] = refl
sides_are false [] = refl
sides_are true (b ∷ bs) = rw (sides_are true bs)
sides_are false (b ∷ bs) = rw (sides_are false bs)

-- ---- the leaf of the key
pub near_noted : (slots : ℕ) (m : ClientWord → ℕ) (u : List ℕ) (key : ℕ) (s : Course) (r : Node) (u₁ : List ℕ) → ToLeaf slots m u key s r u₁ → Noted m u₁
near_noted slots m u key s r u₁ h = h.descends.noted

-- what is sought from there
abbrev from : Wish → List Branch → ℕ → Entries → TreePlan
from w fs n es = let q = search_of w in enough q (seek_up q (visit (to_right w.sought)) (side (to_right w.sought)) zero fs) (q.in_leaf es)

module _ (slots : ℕ) (m : ClientWord → ℕ) (u : List ℕ) (w : Wish) (r : Node) (u₁ : List ℕ) where
  pub near_stops : (s : Course) (ps : Entries) → goes s ≡ false → ToLeaf slots m u w.key s r u₁ → Walks slots m u (search_plan w) s u₁ ps
  near_stops s ps halts h =
      let silent : goes h.come.course ≡ false → stands h.come.course ≡ false = way_silent slots m u w.key h.come u₁ h.descends in
      let quiet : goes s ≡ false → stands s ≡ false = rw h.course at silent in
      record { same = rw (h.descends.asks (from w), h.course, halts) (told_ended s (used_in u₁) [] ps halts (quiet halts)); noted = h.descends.noted }

  module _ (h : ToLeaf slots m u w.key Going r u₁) where
    abbrev d : Arrival
    d = h.come

    abbrev q : Search
    q = search_of w

    abbrev right : Bool
    right = to_right w.sought

    on : goes d.course ≡ true
    on = rw h.course

    end : Reached 0 d
    end = h.descends.reached on

    abbrev bs : List Turn
    bs = trail d.path 0 (d.top - 0)

    pub near_leaf : LeafAt r
    near_leaf = let l : LeafAt d.node = record { whole = end.whole; small = end.small; opened = end.opened; level = end.level } in rw h.node at l

    -- on from there
    pub near_goes : walked slots m (search_plan w) (used_in u) ≡ walked slots m (enough q (above q right d.top d.path 0 (lows_of bs)) (q.in_leaf (entries_of r (low bs)))) (used_in u₁)
    near_goes =
        let e : walked slots m (search_plan w) (used_in u) ≡ walked slots m (enough q (above q right d.top d.path 0 (lows_of bs)) (q.in_leaf (entries_of d.node (low bs)))) (used_in u₁) =
        rw (h.descends.asks (from w), on, seek_climb q right zero (branches bs), sides_are right bs) in
        e ∙ ap (λ (n : Node). walked slots m (enough q (above q right d.top d.path 0 (lows_of bs)) (q.in_leaf (entries_of n (low bs)))) (used_in u₁)) h.node

    -- where the leaf has enough
    pub near_enough : (f₀ f : List ℕ) (s : Course) (u₂ : List ℕ) → get_or f₀ 0 0 ≡ 0 → pairs_in f ≡ take w.wanted (pairs_in f₀ ++ q.in_leaf (entries_of r 0)) → get_or f 0 0 ≡ w.wanted
        → Tells m u₁ w (pairs_in f) s u₂ → Walks slots m u (search_plan w) s u₂ (pairs_told w (pairs_in f))
    unfolding pairs_in first_pairs
    near_enough f₀ f s u₂ z₀ e c t =
        let all : Entries = q.in_leaf (entries_of r 0) in
        let e' : pairs_in f ≡ take w.wanted all = rw z₀ at e in
        let n : length (take w.wanted all) ≡ w.wanted = rw (← e') (length_pairs f ∙ c) in
        let full : leb w.wanted (length all) ≡ true = le-leb w.wanted (length all) (full_take w.wanted all (omega arith)) in
        let v : walked slots m (told q all) (used_in u₁) ≡ walked slots m (told q (pairs_in f)) (used_in u₁) = rw (e', told_taken q all) in
        record {
          same = near_goes ∙ rw (leaf_from r (low bs) (open_leaf r near_leaf.opened near_leaf.level), full) (v ∙ t.same slots);
          noted = t.noted;
        }

-- ---- with the path to it
module _ (slots : ℕ) (m : ClientWord → ℕ) (u : List ℕ) (key : ℕ) (c : List ℕ) (p : Descent) (u₁ : List ℕ) (h : Descends slots m u key (arrival c (Ok p)) u₁) where
  reached : Reached 0 (arrival c (Ok p))
  reached = h.reached refl

  pub path_stacked : Stacked p.top (turns_in c p.path) 0
  path_stacked = record { high = h.high; size = reached.size; good = reached.good }

  pub path_leaf : LeafAt (node_at (view c) p.place)
  path_leaf = record { whole = reached.whole; small = reached.small; opened = reached.opened; level = reached.level }

pub path_noted : (slots : ℕ) (m : ClientWord → ℕ) (u : List ℕ) (key : ℕ) (d : Arrival) (u₁ : List ℕ) → Descends slots m u key d u₁ → Noted m u₁
path_noted slots m u key d u₁ h = h.noted

module _ (slots : ℕ) (m : ClientWord → ℕ) (u : List ℕ) (w : Wish) (u₁ : List ℕ) where
  pub path_stops : (s : Stop) (ps : Entries) → Descends slots m u w.key (no_arrival s) u₁ → Walks slots m u (search_plan w) (Ended s) u₁ ps
  path_stops s ps h = near_stops slots m u w (no_arrival s).node u₁ (Ended s) ps refl (record { come = no_arrival s; course = refl; node = refl; descends = h })

  module _ (c : List ℕ) (p : Descent) (h : Descends slots m u w.key (arrival c (Ok p)) u₁) (f₀ : List ℕ) (z₀ : get_or f₀ 0 0 ≡ 0) where
    abbrev way : List Turn
    way = trail (turns_in c p.path) 0 (p.top - 0)

    arrived : ToLeaf slots m u w.key Going (node_at (view c) p.place) u₁
    arrived = record { come = arrival c (Ok p); course = refl; node = refl; descends = h }

    pub path_on : (s : Course) (u₂ : List ℕ) (ps : Entries) → FromLeaf slots m u₁ w p.top (turns_in c p.path) (node_at (view c) p.place) (pairs_in f₀) s u₂ ps → Walks slots m u (search_plan w) s u₂ ps
    unfolding pairs_in first_pairs arrived
    path_on s u₂ ps t =
        let e : walked slots m (enough (search_of w) (above (search_of w) (to_right w.sought) p.top (turns_in c p.path) 0 (lows_of way)) ((search_of w).in_leaf (entries_of (node_at (view c) p.place) (low way)))) (used_in u₁)
        ≡ ended s (used_in u₂) [] ps = rw z₀ at (t.same (low way) (lows_of way)) in
        record { same = near_goes slots m u w (node_at (view c) p.place) u₁ arrived ∙ e; noted = t.noted }

pub ruleset path_exits = (path_stops, path_noted, path_stacked, path_leaf, path_on)

-- ---- on from a leaf
module _ (slots : ℕ) (m : ClientWord → ℕ) (u : List ℕ) (w : Wish) (top : ℕ) (path : List Turn) (n : Node) (got got' : Entries) (s : Course) (u' : List ℕ) where
  pub leaf_ends : Past w top path n got None got' → Tells m u w got' s u' → FromLeaf slots m u w top path n got s u' (pairs_told w got')
  leaf_ends h t = record { same = λ j f. rw (h.ends refl j f) (t.same slots); noted = t.noted }

  pub leaf_next : (p : List Turn) (l a : ℕ) (ps : Entries) → Past w top path n got (Some (record { path = p; level = l; name = a })) got' → Seeks slots m u w top p l a got' s u' ps
      → FromLeaf slots m u w top path n got s u' ps
  leaf_next p l a ps h t = record { same = λ j f. rw (h.next (record { path = p; level = l; name = a }) refl j f) (t.same (h.lo f) (h.lows f)); noted = t.noted }

module _ (w : Wish) (top : ℕ) (path : List Turn) (n : Node) (got : Entries) (p : List Turn) (l a : ℕ) (got' : Entries) (h : Past w top path n got (Some (record { path = p; level = l; name = a })) got') where
  pub next_stacked : Stacked top p l
  next_stacked = h.stacked (record { path = p; level = l; name = a }) refl

  pub next_below : l < top
  next_below = h.below (record { path = p; level = l; name = a }) refl

pub ruleset leaf_exits = (leaf_ends, leaf_next, next_stacked, next_below)

-- ---- from the start again: no copy was in use then, and no pair found
pub used_there : (m : ClientWord → ℕ) (u : List ℕ) → Noted m u → 0 < length u
used_there m u h = omega (arith, h.long)

pub again_noted : (m : ClientWord → ℕ) (u u₁ : List ℕ) → Noted m u → length u₁ ≡ length u → get_or u₁ 0 0 ≡ 0 → Noted m u₁
again_noted m u u₁ h l e = nothing_noted m u₁ e (omega (arith, h.long))

pub found_there : (n : ℕ) (f : List ℕ) → Roomy n f → 0 < length f
found_there n f r = omega (arith, r.long)

pub again_roomy : (n : ℕ) (f f₁ : List ℕ) → Roomy n f → length f₁ ≡ length f → get_or f₁ 0 0 ≡ 0 → Roomy n f₁
again_roomy n f f₁ r l e = record { some = r.some; few = r.few; long = omega (arith, r.long); within = omega arith }

pub ruleset again_exits = (used_there, again_noted, found_there, again_roomy)

pub again : (slots : ℕ) (m : ClientWord → ℕ) (u : List ℕ) (p : TreePlan) (s : Course) (u₁ : List ℕ) (ps : Entries) → get_or u 0 0 ≡ 0 → Walks slots m u p s u₁ ps → Afresh slots m p s u₁ ps
again slots m u p s u₁ ps e w = record { same = rw (nothing_used m u e) at w.same; noted = w.noted }

pub near_afresh : (slots : ℕ) (m : ClientWord → ℕ) (u : List ℕ) (p : TreePlan) (s : Course) (u₁ : List ℕ) (ps : Entries) → get_or u 0 0 ≡ 0 → Afresh slots m p s u₁ ps → Walks slots m u p s u₁ ps
near_afresh slots m u p s u₁ ps e h = record { same = rw (nothing_used m u e) h.same; noted = h.noted }

pub ruleset near_exits = (near_stops, near_noted, near_leaf, near_enough, near_afresh)
