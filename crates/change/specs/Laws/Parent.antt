-- Laws of a moved node's parent.
use Rattle.std.specs.Prelude.{◌≡◌, refl, true, false, List, [], ◌∷◌, ℕ, zero, suc, ◌+◌, ◌-◌, ◌≤◌, ◌<◌, drop, get_or, set, Option, None, Ok, Err}
use Rattle.std.proofs.Common.{sym, ◌∙◌, arith, add-one}
use Rattle.std.proofs.Math.Decide.{ℕ_discrete, dec_lt}
use Rattle.std.proofs.Math.ListN.{length, length-set, get_or-map}
use Rattle.std.proofs.lemmas.List.{set_split}
use Rattle.base.proofs.Laws.Test.{of_yes, of_no, ifd_yes, ifd_no}
use Rattle.base.specs.Test.{ifd}
use Rattle.nodes.specs.declared.node.Node.{Node}
use Rattle.nodes.specs.Place.{place}
use Rattle.nodes.specs.Node.{extra, keys_of, slots_of, made}
use Rattle.nodes.specs.Change.{with_slot}
use Rattle.nodes.specs.Entries.{entries_of}
use Rattle.nodes.specs.Kept.{Whole}
use Rattle.nodes.proofs.Laws.Kept.{made_whole, length_entries_of, slot_entries}
use Rattle.operations.specs.Object.{node, Val, no_tree, Writes}
use Rattle.operations.specs.Entry.{Entries, keys, node_value}
use Rattle.operations.specs.Path.{TreePlan, Branch, Cont, down}
use Rattle.operations.specs.Migrate.{move_at, to_level}
use Rattle.walk.specs.declared.down.Turn.{Turn}
use Rattle.walk.specs.declared.walk.Stop.{Stop}
use Rattle.walk.specs.declared.walk.Stop.TheVariants.{Aborts}
use Rattle.client.specs.Layout.{ClientWord}
use Rattle.client.specs.Record.{in_store, value_of}
use Rattle.client.specs.Lent.{used_in}
use Rattle.walk.specs.Entries.{opens, Inner}
use Rattle.walk.specs.Laws.Entries.{open_inner, extra_inner, cut_at_is, keys_later, entry_slot, entry_keys, stored_node}
use Rattle.walk.specs.Walk.{Course, Going, Ended, goes}
use Rattle.walk.specs.Laws.Walk.{walked_fails}
use Rattle.walk.specs.Ask.{OwnGood, Noted}
use Rattle.walk.specs.Laws.Down.{stops_not}
use Rattle.walk.specs.Down.{Arrival, RootMet, From, Stops, Led, Linked, trail, Reached}
use Rattle.walk.specs.Laws.Ask.{name_below}
use Rattle.walk.specs.Take.{Wrote}
use Rattle.walk.specs.Lookup.{Ends}
use Rattle.change.specs.Rise.{NodeWritten}
use Rattle.change.specs.Laws.Operated.{walks_operated}
use Rattle.change.specs.Laws.Rise.{never}
use Rattle.change.specs.Move.{moves, Moved}
use Rattle.change.specs.Parent.{Parent, ToParent, with_child, child_plan, ChildMoved, MovedAt}
use Rattle.plans.specs.Plan as P
use Rattle.nodes.specs.Entries as N

-- ---- the parent as it is written
module _ (p : Node) (f : Whole p) (o : opens p ≡ true) (i d : ℕ) (q : Node) (e : q ≡ with_slot p i d) where
  with_opens : opens q ≡ true
  unfolding opens with_slot made
  with_opens = rw e o

  with_level : q.level ≡ p.level
  unfolding with_slot made
  with_level = rw e

  with_whole : Whole q
  unfolding with_slot
  with_whole = let l : length (set (slots_of p) i d) ≡ length (keys_of p) + extra p.kind = rw length-set (omega (arith, f.keys, f.slots)) in
      rw e (made_whole p.kind p.level p.version 0 (keys_of p) (set (slots_of p) i d) l)

  child_value : (lo up : ℕ) → i < p.count + extra p.kind → node_value p.level (with_child (entries_of p lo) i d) ≡ value_of (node up) q
  child_value lo up h =
      let es : Entries = entries_of p lo in
      let k : (get_or es i (0, 0)).0 ≡ get_or (N.headed (extra p.kind) lo (keys_of p)) i 0 = sym (get_or-map (λ (e : ℕ × ℕ). e.0) es i (0, 0)) ∙ rw (entry_keys p lo f) in
      let a : with_child es i d ≡ set es i ((get_or es i (0, 0)).0, d) = sym (set_split es i ((get_or es i (0, 0)).0, d) (omega (arith, length_entries_of p lo f))) in
      let b : entries_of q lo ≡ set es i ((get_or es i (0, 0)).0, d) = rw (e, k) (slot_entries p lo f i d) in
      rw (a, ← b, ← with_level) (stored_node q lo up with_whole with_opens)

-- ---- the child moved, and the parent written
module _ (slots : ℕ) (m : ClientWord → ℕ) (x u : List ℕ) (nm s : ℕ) (n : Node) (up : ℕ) (p : Node) (at : ℕ) (x₁ u₁ : List ℕ) where
  abbrev v : Val
  v = value_of (node nm) n

  abbrev after : ℕ → ℕ → Writes → TreePlan
  after lo d w = P.done ((1, d, []), (node up, node_value p.level (with_child (entries_of p lo) at d)) ∷ w)

  pub child_stops : (e : Stop) → Moved slots m x u nm s n None (Err e) x₁ u₁ → ChildMoved slots m x u nm s n up p at (Ended e) x₁ u₁
  child_stops e h = record {
    operated = λ lo. record {
      writes = [];
      same = λ hold. h.asks hold (after lo);
      holds = λ t. never t;
      kept = λ t. never t;
      noted = h.noted;
    };
  }

  pub child_done : (to : ℕ) → Moved slots m x u nm s n None (Ok to) x₁ u₁ → (l : ℕ) (q : Node) (x₂ : List ℕ) (st : Course) (u₂ : List ℕ) → Parent slots l up p → at ≤ p.count → q ≡ with_slot p at to
      → NodeWritten x₁ up q x₂ → Ends m u₁ 1 to st u₂ → ChildMoved slots m x u nm s n up p at st x₂ u₂
  child_done to h l q x₂ st u₂ f ha e w a =
      let i : Inner p = open_inner p f.opened (omega (arith, f.level)) in
      let y : Wrote x₁ (node up) (value_of (node up) q) x₂ = w.wrote (omega (arith, with_level p f.whole f.opened at to q e, f.small.level)) in
      let k : (lo : ℕ) → node_value p.level (with_child (entries_of p lo) at to) ≡ value_of (node up) q =
      λ lo. child_value p f.whole f.opened at to q e lo up (omega (arith, extra_inner p i)) in
      record {
        operated = λ lo. record {
          writes = (node up, value_of (node up) q) ∷ moves nm v None to;
          same = λ hold. h.asks hold (after lo) ∙ rw (k lo) (a.same slots ((node up, value_of (node up) q) ∷ moves nm v None to) []);
          holds = λ _ hold. y.holds slots (moves nm v None to) f.there (h.holds refl hold);
          kept = λ _ hold. record { fit = y.good.fit; few = y.good.few };
          noted = a.noted;
        };
      }

pub child_inside : (slots l up : ℕ) (p : Node) (at : ℕ) → Parent slots l up p → at ≤ p.count → at < p.count + extra p.kind
child_inside slots l up p at f h = let i : Inner p = open_inner p f.opened (omega (arith, f.level)) in omega (arith, extra_inner p i)

pub child_room : (slots : ℕ) (m : ClientWord → ℕ) (x u : List ℕ) (nm s : ℕ) (n : Node) (b : Option ℕ) (to : ℕ) (x' u' : List ℕ) → Moved slots m x u nm s n b (Ok to) x' u' → get_or x' 0 0 < 20
child_room slots m x u nm s n b to x' u' h = omega (arith, h.few refl)

pub child_good : (slots : ℕ) (m : ClientWord → ℕ) (x u : List ℕ) (nm s : ℕ) (n : Node) (b : Option ℕ) (to : ℕ) (x' u' : List ℕ) → Moved slots m x u nm s n b (Ok to) x' u' → OwnGood x'
child_good slots m x u nm s n b to x' u' h = h.good refl

pub child_name : (slots l up : ℕ) (p : Node) → Parent slots l up p → up < 8192
child_name slots l up p f = name_below slots up f.there

pub child_count : (slots l up : ℕ) (p q : Node) → Parent slots l up p → q.count ≡ p.count → q.count ≤ 14
child_count slots l up p q f e = omega (arith, f.small.keys)

pub ruleset child_exits = (child_stops, child_done, child_inside, child_count, child_room, child_good, child_name)

-- ---- at the parent
move_at_list : (slots nm s : ℕ) (v : Val) (key : ℕ) (fs : List Branch) (up l at : ℕ) (es : Entries) → 0 < l → at ≡ place (keys (drop 1 es)) key → suc at ≤ length es
    → move_at slots nm s v key l fs up es ≡ ifd (ℕ_discrete (get_or es at (0, 0)).1 nm) (child_plan slots nm s v up l at es) (P.fail no_tree)
move_at_list slots nm s v key fs up zero at es g e h = absurd (omega arith)
move_at_list slots nm s v key fs up (suc l) at [] g e h = absurd (omega arith)
move_at_list slots nm s v key fs up (suc l) at (a ∷ es) g e h = rw (← e, cut_at_is at a es (omega arith))

module _ (slots : ℕ) (m : ClientWord → ℕ) (x u : List ℕ) (key nm s : ℕ) (n : Node) (l up : ℕ) (p : Node) (f : Parent slots l up p) (at : ℕ) (pa : at ≡ place (keys_of p) key) (ha : at ≤ p.count) where
  at_is : (fs : List Branch) (lo : ℕ)
      → move_at slots nm s (value_of (node nm) n) key p.level fs up (entries_of p lo)
      ≡ ifd (ℕ_discrete (get_or p.slots at 0) nm) (child_plan slots nm s (value_of (node nm) n) up p.level at (entries_of p lo)) (P.fail no_tree)
  at_is fs lo =
      let i : Inner p = open_inner p f.opened (omega (arith, f.level)) in
      let q : keys (drop 1 (entries_of p lo)) ≡ keys_of p = rw (keys_later (entries_of p lo), entry_keys p lo f.whole, extra_inner p i) in
      let r : (get_or (entries_of p lo) at (0, 0)).1 ≡ get_or p.slots at 0 = entry_slot p lo f.whole at (omega (arith, extra_inner p i)) in
      let g : suc at ≤ length (entries_of p lo) = omega (arith, length_entries_of p lo f.whole, extra_inner p i) in
      move_at_list slots nm s (value_of (node nm) n) key fs up p.level at (entries_of p lo) i.level (rw q pa) g ∙ rw r

  pub at_elsewhere : (c : ℕ) → OwnGood x → Noted m u → c ≡ get_or p.slots at 0 → (c ≡ nm → ⊥) → MovedAt slots m x u key nm s n up p (Ended (Aborts 3)) x u
  at_elsewhere c g h q d = record {
    operated = λ fs lo. walks_operated slots m x u _ (Ended (Aborts 3)) u g (record {
      same = rw (at_is fs lo, ifd_no (ℕ_discrete (get_or p.slots at 0) nm) (child_plan slots nm s (value_of (node nm) n) up p.level at (entries_of p lo)) (P.fail no_tree) (λ e. d (q ∙ e))) (walked_fails slots m (used_in u) no_tree);
      noted = h;
    });
  }

  pub at_child : (c : ℕ) (q : Node) (st : Course) (x' u' : List ℕ) → c ≡ get_or p.slots at 0 → c ≡ nm → q ≡ p → ChildMoved slots m x u nm s n up q at st x' u' → MovedAt slots m x u key nm s n up p st x' u'
  at_child c q st x' u' r e pq t = record {
    operated = λ fs lo.
        rw (at_is fs lo, ifd_yes (ℕ_discrete (get_or p.slots at 0) nm) (child_plan slots nm s (value_of (node nm) n) up p.level at (entries_of p lo)) (P.fail no_tree) (sym r ∙ e)) ((rw pq at t).operated lo);
  }

pub parent_slot : (slots l up : ℕ) (p : Node) (at : ℕ) → Parent slots l up p → at ≤ p.count → at < 15
parent_slot slots l up p at f h = omega (arith, f.small.keys)

pub parent_read : (slots l up : ℕ) (p q : Node) → q ≡ p → Parent slots l up p → Parent slots l up q
parent_read slots l up p q e f = rw e f

pub parent_within : (p q : Node) (at : ℕ) → q ≡ p → at ≤ p.count → at ≤ q.count
parent_within p q at e h = rw e h

pub ruleset at_exits = (at_elsewhere, at_child, parent_slot, parent_read, parent_within)

-- ---- the way to the parent
linked_there : (slots l nm : ℕ) (bs : List Turn) → Linked slots l nm bs → in_store slots nm ≡ true
unfolding Linked
linked_there slots l nm [] h = h
linked_there slots l nm (b ∷ bs) h = h.0.there

level_stops : (t : ℕ) → Stops (to_level t) t
level_stops t = record { before = λ l h. of_no (ℕ_discrete l t) (λ e. absurd (omega arith)); there = λ h. of_yes (ℕ_discrete t t) refl }

module _ (slots : ℕ) (m : ClientWord → ℕ) (u : List ℕ) (key top l : ℕ) (r : Node) (u₁ : List ℕ) where
  abbrev below : Cont → ℕ → Entries → TreePlan
  below k j es = ifd (dec_lt l j) (down (to_level (suc l)) key k j [] top es) (P.fail no_tree)

  pub parent_no_root : (s : Course) (d : Arrival) → RootMet slots m u top s r u₁ → goes s ≡ false → d.course ≡ s → ToParent slots m u key top l d u₁
  parent_no_root s d h halts e = record { asks = λ k. rw (h.asks (below k), e, halts); noted = h.noted; parent = λ t. stops_not s halts (rw e at t) }

  module _ (h : RootMet slots m u top Going r u₁) where
    pub parent_low : (d : Arrival) (v : ℕ) → v ≡ r.level → v ≤ l → d.course ≡ Ended (Aborts 3) → ToParent slots m u key top l d u₁
    parent_low d v pv g e = record {
      asks = λ k. h.asks (below k) ∙ rw (ifd_no (dec_lt l r.level) (down (to_level (suc l)) key k r.level [] top (entries_of r 0)) (P.fail no_tree) (λ a. absurd (omega arith)), e)
          (walked_fails slots m (used_in u₁) no_tree);
      noted = h.noted;
      parent = λ t. stops_not (Ended (Aborts 3)) refl (rw e at t);
    }

    pub parent_from : (v : ℕ) → v ≡ r.level → l < v → From r (l + 1)
    parent_from v pv g = record { whole = h.whole refl; small = h.small refl; opened = h.fits refl; above = omega arith }

    pub parent_led : (d : Arrival) (v : ℕ) (u₂ : List ℕ) → v ≡ r.level → l < v → Led slots m u₁ key (l + 1) top r d u₂ → ToParent slots m u key top l d u₂
    parent_led d v u₂ pv g' c =
        let g : l < r.level = omega arith in
        let c' : Led slots m u₁ key (suc l) top r d u₂ = rw add-one at c in
        record {
          asks = λ k. h.asks (below k) ∙ rw (ifd_yes (dec_lt l r.level) (down (to_level (suc l)) key k r.level [] top (entries_of r 0)) (P.fail no_tree) g)
              (c'.asks (to_level (suc l)) (level_stops (suc l)) k);
          noted = c'.noted;
          parent = λ t. let e : Reached (suc l) d = c'.reached t in
              record {
                whole = e.whole;
                small = e.small;
                opened = e.opened;
                level = e.level;
                there = linked_there slots (suc l) d.name (trail d.path (suc l) (d.top - suc l)) (c'.linked (h.inside refl) t);
              };
        }

pub ruleset parent_exits = (parent_no_root, parent_low, parent_from, parent_led)
