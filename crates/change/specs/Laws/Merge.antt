-- Laws of two neighbours merged.
use Rattle.std.specs.Prelude.{◌≡◌, refl, Bool, cond, eqb, length, get_or, Result, Ok, Err}
use Rattle.std.proofs.Math.Path.{sym, ap}
use Rattle.std.proofs.Common.{◌∙◌, arith, add-one, get_or-take}
use Rattle.std.proofs.Math.Bool.{true, false}
use mathlib.Core.List.{List, [], ◌∷◌, ◌++◌, append_assoc}
use Prim.Native.Nat.{ℕ, suc, ◌+◌, ◌≤◌, ◌<◌}
use Rattle.std.proofs.Math.Decide.{ℕ_discrete}
use Rattle.std.proofs.Math.ListN.{get_or-map}
use borrow.Author.Tests.{eqb-true, eqb-false}
use Rattle.base.proofs.Laws.Test.{ifd_yes, ifd_no}
use Rattle.nodes.specs.declared.node.Node.{Node}
use Rattle.nodes.specs.declared.change.Wide.{Wide}
use Rattle.nodes.specs.Lists.{remove_at}
use Rattle.nodes.proofs.Laws.Lists.{length_remove}
use Rattle.nodes.specs.Node.{extra, keys_of, pair_at}
use Rattle.nodes.specs.Entries.{entries_of, wide_entries}
use Rattle.nodes.specs.Change.{take_out}
use Rattle.nodes.proofs.Laws.Kept.{length_entries_of, take_out_entries}
use Rattle.operations.specs.Object.{node, flag, taken, free, Ans, Writes}
use Rattle.operations.specs.Entry.{Entries}
use Rattle.operations.specs.Path.{Branch}
use Rattle.operations.specs.Change.{Go, with_one, collapsed, onward, merged}
use Rattle.walk.specs.declared.down.Turn.{Turn}
use Rattle.change.specs.declared.neighbour.Sides.{Sides}
use Rattle.change.specs.declared.rise.Risen.{Risen}
use Rattle.change.specs.declared.rise.Risen.TheVariants.{Up, Done}
use Rattle.walk.specs.declared.walk.Stop.{Stop}
use Rattle.walk.specs.declared.walk.Answer.{Answer}
use Rattle.client.specs.Layout.{ClientWord}
use Rattle.client.specs.Record.{in_store, value_of}
use Rattle.client.specs.Lent.{used_in}
use Rattle.walk.specs.Laws.Entries.{extra_inner, entry_slot, entry_keys}
use Rattle.walk.specs.Walk.{Course, Going, Ended, answer_course, Told, goes, over, walked}
use Rattle.walk.specs.Laws.Walk.{walked_done, full_done}
use Rattle.walk.specs.Ask.{SmallNode, OwnGood}
use Rattle.walk.specs.Down.{Followed}
use Rattle.walk.specs.Laws.Down.{stops_not}
use Rattle.walk.specs.Lookup.{Ends}
use Rattle.walk.specs.Take.{Wrote, Released}
use Rattle.walk.specs.Laws.Ask.{name_below}
use Rattle.change.specs.Rise.{risen_course, Raised, NodeWritten, OfLevel, is_root, widened}
use Rattle.change.specs.Laws.Rise.{of_level_value, ended_raised}
use Rattle.change.specs.Laws.Parts.{out_level, widened_entries, widened_content}
use Rattle.change.specs.Beside.{pair_of}
use Rattle.change.specs.Laws.Beside.{paired, right_out}
use Rattle.change.specs.Merge.{Between, Neighbours, pair_in, collapse_plan, Collapses, collapses, merge_plan, Merges}
use Rattle.plans.specs.Plan as P

pub between : (b : Turn) (at left right : ℕ) (last : Bool) → (0 < b.node.count) × (b.at ≤ b.node.count) × (b.node.count ≤ 14) → at ≡ pair_at b.node.count b.at
    → left ≡ get_or b.node.slots at 0 → right ≡ get_or b.node.slots (at + 1) 0 → last ≡ eqb b.at b.node.count
    → Between b (record { at = at; last = last; left = left; right = right })
between b at left right last h pa pl pr pe = record {
  paired = paired b.node.count b.at at last h.1 h.0 pa pe;
  left = pl;
  right = pr ∙ ap (λ (i : ℕ). get_or b.node.slots i 0) (add-one at);
}

-- the same by the parent's entries
module _ (b : Turn) (s : Sides) (g : Followed b) (h : Between b s) (lo : ℕ) where
  abbrev pub above : Entries
  above = entries_of b.node lo

  pub long : length above ≡ suc b.node.count
  long = let e = extra_inner b.node g.inner in omega (arith, length_entries_of b.node lo g.whole)

  pub both_inside : suc s.at < length above
  both_inside = omega (arith, long, h.paired.inside)

  pub left_entry : s.left ≡ (get_or above s.at (0, 0)).1
  left_entry = h.left ∙ sym (entry_slot b.node lo g.whole s.at (omega (arith, h.paired.inside)))

  pub right_entry : s.right ≡ (get_or above (suc s.at) (0, 0)).1
  right_entry = let e = extra_inner b.node g.inner in h.right ∙ sym (entry_slot b.node lo g.whole (suc s.at) (omega (arith, h.paired.inside)))

  -- the separator between the two
  pub key_entry : (get_or above (suc s.at) (0, 0)).0 ≡ get_or b.node.keys s.at 0
  unfolding keys_of
  key_entry =
      sym (get_or-map (λ (e : ℕ × ℕ). e.0) above (suc s.at) (0, 0))
      ∙ rw (entry_keys b.node lo g.whole, extra_inner b.node g.inner) (get_or-take b.node.count b.node.keys s.at 0 h.paired.inside)

-- an answer, or one object too many
pub ends_halts : (slots : ℕ) (m : ClientWord → ℕ) (u : List ℕ) (a b : ℕ) (s : Course) (u' : List ℕ) → Ends m u a b s u' → goes s ≡ false
ends_halts slots m u a b s u' h = go (over m (used_in u)) refl
  where
    is : (walked slots m (P.done ((a, b, []), [])) (used_in u)).course ≡ s
    is = ap (λ (t : Told). t.course) (h.same slots [] [])

    go : (o : Bool) → over m (used_in u) ≡ o → goes s ≡ false
    go true e = ap goes (sym (sym (ap (λ (t : Told). t.course) (full_done slots m (used_in u) ((a, b, []), []) e)) ∙ is))
    go false e = ap goes (sym (sym (ap (λ (t : Told). t.course) (walked_done slots m (used_in u) ((a, b, []), []) e)) ∙ is))

-- a node is freed, or its flag ends the walk
module _ (slots : ℕ) (m : ClientWord → ℕ) (x u : List ℕ) (c : ℕ) (s : Course) (x' u' : List ℕ) (h : Released slots m x u c s x' u') where
  pub freed_good : goes s ≡ true → OwnGood x'
  freed_good on = h.good on

  pub freed_some : get_or x 0 0 ≤ 12 → get_or x' 0 0 ≤ 14
  freed_some q = omega (arith, h.few)

  pub freed_room : get_or x 0 0 ≤ 14 → get_or x' 0 0 < 20
  freed_room q = omega (arith, h.few)

  pub freed_more : get_or x 0 0 ≤ 12 → get_or x' 0 0 < 20
  freed_more q = omega (arith, h.few)

module _ (slots : ℕ) (m : ClientWord → ℕ) (x u : List ℕ) (a b root c : ℕ) (one : Node) (x₁ u₁ : List ℕ) where
  pub collapse_stops : (s : Stop) → Released slots m x u c (Ended s) x₁ u₁ → Collapses slots m x u (a, b, []) root c one (Err s) x₁ u₁
  unfolding collapse_plan
  collapse_stops s h = record {
    raised = λ l top. ended_raised slots m x u l top (collapse_plan (a, b, []) root c one) s x₁ u₁ (λ w hold lo fs t go. rw (h.asks w hold _)) h.noted;
  }

  module _ (h : Released slots m x u c Going x₁ u₁) (x₂ u₂ : List ℕ) (t : in_store slots root ≡ true) (written : NodeWritten x₁ root one x₂) where
    -- what does not go on from there is as the answer
    taken_over : (r : Result Risen Stop) → goes (risen_course r) ≡ false → Ends m u₁ a b (risen_course r) u₂ → (l : ℕ) (top : Bool) → Raised slots m x u l top (collapse_plan (a, b, []) root c one) r x₂ u₂
    unfolding collapse_plan
    taken_over r halt end l top = record {
      more = (node root, value_of (node root) one) ∷ (node c, free) ∷ (flag c, taken false) ∷ [];
      same = λ w hold lo fs d go. rw (h.asks w hold _, halt) (end.same slots ((node root, value_of (node root) one) ∷ (node c, free) ∷ (flag c, taken false) ∷ w) []);
      holds = λ d w hold. written.holds slots ((node c, free) ∷ (flag c, taken false) ∷ w) t (h.holds refl w hold);
      kept = λ d w hold. written.kept;
      good = λ d. stops_not (risen_course r) halt d;
      few = λ d. stops_not (risen_course r) halt d;
      content = λ d. stops_not (risen_course r) halt d;
      noted = end.noted;
    }

    pub collapse_ends : (r : Result Answer Stop) → Ends m u₁ a b (answer_course r) u₂ → Collapses slots m x u (a, b, []) root c one r x₂ u₂
    collapse_ends (Ok r) end = record { raised = taken_over (Ok (Done r)) refl end }
    collapse_ends (Err s) end = record { raised = taken_over (Err s) refl end }

pub ruleset collapse_exits = (collapse_stops, freed_good, freed_room, name_below, collapse_ends)

module _ (root : Bool) (count : ℕ) where
  pub root_not : root ≡ false → false ≡ collapses root count
  unfolding collapses
  root_not q = rw q

  pub root_by : root ≡ true → eqb count 1 ≡ collapses root count
  unfolding collapses
  root_by q = rw q

pub ruleset root_exits = (root_not, root_by)

merged_is : (a : Ans) (l : ℕ) (fs : List Branch) (go : Go) (root : Bool) (count : ℕ) (w : Writes) (f : Branch) (c : ℕ) (es : Entries) → is_root fs ≡ root → length (with_one f c) ≡ count
    → merged a l fs go w f c es ≡ cond (collapses root count) (collapsed a l fs go w f c es) (onward a l fs go w f c es)
unfolding collapses
merged_is a l [] go root count w f c es e n = rw (← e, ← n) (by (eqb (length (with_one f c)) 1) refl)
  where
    by : (t : Bool) → eqb (length (with_one f c)) 1 ≡ t
        → merged a l [] go w f c es ≡ cond (eqb (length (with_one f c)) 1) (collapsed a l [] go w f c es) (onward a l [] go w f c es)
    by true t = rw t (ifd_yes (ℕ_discrete (length (with_one f c)) 1) _ _ (eqb-true (length (with_one f c)) 1 t))
    by false t = rw t (ifd_no (ℕ_discrete (length (with_one f c)) 1) _ _ (eqb-false (length (with_one f c)) 1 t))
merged_is a l (g ∷ fs) go root count w f c es e n = rw (← e)

module _ (slots : ℕ) (b : Turn) (s : Sides) (h : Neighbours slots b s) where
  -- the parent's entries without the right one
  pub one_less : (lo : ℕ) → with_one (pair_in b s lo) s.left ≡ remove_at (suc s.at) (entries_of b.node lo)
  one_less lo =
      right_out b.name s.at (entries_of b.node lo) (both_inside b s h.followed h.between lo) s.left (left_entry b s h.followed h.between lo)

  one_less_length : (lo : ℕ) → length (with_one (pair_in b s lo) s.left) ≡ b.node.count
  one_less_length lo =
      let e = length_remove (suc s.at) (entries_of b.node lo) (both_inside b s h.followed h.between lo) in
      ap length (one_less lo) ∙ omega (arith, e, long b s h.followed h.between lo)

  pub parent_level : (l : ℕ) → b.node.level ≡ suc l → OfLevel (suc l) b.node
  parent_level l e = record { kind = h.followed.inner.kind; level = e; whole = h.followed.whole }

  goes_up : (l lo : ℕ) → b.node.level ≡ suc l → with_one (pair_in b s lo) s.left ≡ wide_entries (widened (take_out b.node s.at)) lo
  goes_up l lo e =
      let i : s.at < b.node.count = h.between.paired.inside in
      let x : s.at + extra b.node.kind ≡ suc s.at = let y = extra_inner b.node h.followed.inner in omega arith in
      one_less lo ∙ ap (λ (k : ℕ). remove_at k (entries_of b.node lo)) (sym x) ∙ sym (take_out_entries b.node lo h.followed.whole s.at i)
      ∙ sym (widened_entries (suc l) (take_out b.node s.at) (out_level (suc l) b.node (parent_level l e) s.at i) lo)

module _ (slots : ℕ) (m : ClientWord → ℕ) (x u : List ℕ) (root : Bool) (a c : ℕ) (b : Turn) (s : Sides) (one : Node) (x₁ u₁ : List ℕ) where
  pub merge_stops : (e : Stop) → Released slots m x u s.right (Ended e) x₁ u₁ → Merges slots m x u root (a, c, []) b s one (Err e) x₁ u₁
  unfolding merge_plan
  merge_stops e freed = record {
    raised = λ l v k. ended_raised slots m x u l root (merge_plan (a, c, []) l b s one) e x₁ u₁ (λ w hold lo fs t go. rw (freed.asks w hold _)) freed.noted;
  }

  module _ (h : Neighbours slots b s) (freed : Released slots m x u s.right Going x₁ u₁) (t : Bool) (pt : t ≡ collapses root b.node.count) where
    abbrev let_go : Writes
    let_go = (node s.right, free) ∷ (flag s.right, taken false) ∷ []

    -- what does not go on from there is as the answer
    taken_over_by : (r : Result Risen Stop) → goes (risen_course r) ≡ false → (x₂ u₂ : List ℕ) → t ≡ true
        → ((l : ℕ) (top : Bool) → Raised slots m x₁ u₁ l top (collapse_plan (a, c, []) b.name s.left one) r x₂ u₂) → Merges slots m x u root (a, c, []) b s one r x₂ u₂
    unfolding merge_plan collapse_plan pair_of
    taken_over_by r halt x₂ u₂ e raised = record {
      raised = λ l v lv. let d = raised l root in record {
        more = d.more ++ let_go;
        same = λ w hold lo fs f go. rw (
          freed.asks w hold _,
          merged_is (a, c, []) l fs go root b.node.count (let_go ++ w) (pair_in b s lo) s.left (entries_of one (get_or (entries_of b.node lo) s.at (0, 0)).0) f (one_less_length slots b s h lo),
          ← pt,
          e,
          of_level_value l one (get_or (entries_of b.node lo) s.at (0, 0)).0 b.name lv,
          append_assoc d.more let_go w,
        ) (d.same (let_go ++ w) (freed.holds refl w hold) lo fs f go);
        holds = λ f w hold. rw (append_assoc d.more let_go w) (d.holds f (let_go ++ w) (freed.holds refl w hold));
        kept = λ f w hold. d.kept f (let_go ++ w) (freed.holds refl w hold);
        good = λ f. stops_not (risen_course r) halt f;
        few = λ f. stops_not (risen_course r) halt f;
        content = λ f. stops_not (risen_course r) halt f;
        noted = d.noted;
      };
    }

    pub merge_ends : (z : Stop) (x₂ u₂ : List ℕ) → t ≡ true → Collapses slots m x₁ u₁ (a, c, []) b.name s.left one (Err z) x₂ u₂ → Merges slots m x u root (a, c, []) b s one (Err z) x₂ u₂
    merge_ends z x₂ u₂ e k = taken_over_by (Err z) refl x₂ u₂ e k.raised

    pub merge_answers : (r : Answer) (x₂ u₂ : List ℕ) → t ≡ true → Collapses slots m x₁ u₁ (a, c, []) b.name s.left one (Ok r) x₂ u₂ → Merges slots m x u root (a, c, []) b s one (Ok (Done r)) x₂ u₂
    merge_answers r x₂ u₂ e k = taken_over_by (Ok (Done r)) refl x₂ u₂ e k.raised

    pub merge_goes : (x₂ : List ℕ) (p : Node) (up : Wide) → t ≡ false → SmallNode one → NodeWritten x₁ s.left one x₂ → p ≡ take_out b.node s.at → p.count < b.node.count
        → up ≡ widened p → Merges slots m x u root (a, c, []) b s one (Ok (Up up)) x₂ u₁
    unfolding merge_plan
    merge_goes x₂ p up e small written pp fewer pu =
        let wrote : Wrote x₁ (node s.left) (value_of (node s.left) one) x₂ = written.wrote small.level in
        let is_up : up ≡ widened (take_out b.node s.at) = pu ∙ ap widened pp in
        record {
          raised = λ l v lv. record {
            more = (node s.left, value_of (node s.left) one) ∷ let_go;
            same = λ w hold lo fs f go. rw (
              freed.asks w hold _,
              merged_is (a, c, []) l fs go root b.node.count (let_go ++ w) (pair_in b s lo) s.left
                  (entries_of one (pair_in b s lo).key) f (one_less_length slots b s h lo),
              ← pt,
              e,
              of_level_value l one (pair_in b s lo).key s.left lv,
              goes_up slots b s h l lo v,
              is_up,
            );
            holds = λ f w hold. wrote.holds slots (let_go ++ w) h.left (freed.holds refl w hold);
            kept = λ f w hold. written.kept;
            good = λ f. wrote.good;
            few = λ f. omega (arith, freed.few, wrote.few);
            content = λ f. rw pu (widened_content (suc l) p (rw pp (out_level (suc l) b.node (parent_level slots b s h l v) s.at h.between.paired.inside)) (omega (arith, h.followed.small.keys)));
            noted = freed.noted;
          };
        }

pub left_named : (slots : ℕ) (b : Turn) (s : Sides) → Neighbours slots b s → s.left < 8192
left_named slots b s h = name_below slots s.left h.left

pub right_named : (slots : ℕ) (b : Turn) (s : Sides) → Neighbours slots b s → s.right < 8192
right_named slots b s h = name_below slots s.right h.right

pub parent_fewer : (slots : ℕ) (b : Turn) (s : Sides) → Neighbours slots b s → (p : Node) → p.count < b.node.count → p.count ≤ 14
parent_fewer slots b s h p q = omega (arith, h.followed.small.keys)

pub ruleset merge_exits = (merge_stops, freed_good, freed_some, freed_more, left_named, parent_fewer, merge_ends, merge_answers, merge_goes)
