-- Laws of the turn to a neighbour.
use Rattle.std.specs.Prelude.{◌≡◌, Bool, cond, List, [], ◌∷◌, ltb, Result, Ok, Err}
use Rattle.std.proofs.Math.Path.{refl, sym, ap}
use Rattle.std.proofs.Common.{◌∙◌}
use Rattle.std.proofs.Math.Bool.{true, false}
use Prim.Native.Nat.{ℕ, zero, suc, ◌+◌, ◌≤◌, ◌<◌}
use native.Mathlib.Omega.{arith}
use Rattle.std.proofs.Math.ListN.{length, get_or, set}
use Rattle.std.proofs.Math.Seq.{get_or-take}
use borrow.Author.Tests.{lt-ltb, le-ltb}
use Rattle.nodes.specs.declared.node.Node.{Node}
use Rattle.nodes.specs.declared.change.Wide.{Wide}
use Rattle.nodes.specs.declared.change.Halves.{Halves}
use Rattle.nodes.specs.Node.{extra, slots_of, made}
use Rattle.nodes.specs.Entries.{entries_of, wide_entries}
use Rattle.nodes.specs.Change.{wide, join, narrow, cut_at, merged, from_left, from_right, with_key}
use Rattle.nodes.specs.Kept.{Whole}
use Rattle.nodes.proofs.Laws.Kept.{length_entries_of, key_entries}
use Rattle.operations.specs.Object.{node, no_tree, Writes}
use Rattle.operations.specs.Path.{TreePlan, Branch, kid}
use Rattle.operations.specs.Change.{Go, with_two, parted}
use Rattle.walk.specs.declared.down.Turn.{Turn}
use Rattle.change.specs.declared.neighbour.Sides.{Sides}
use Rattle.change.specs.declared.rise.Risen.{Risen}
use Rattle.change.specs.declared.rise.Risen.TheVariants.{Up}
use Rattle.walk.specs.declared.walk.Stop.{Stop}
use Rattle.walk.specs.declared.walk.Stop.TheVariants.{Aborts}
use Rattle.client.specs.Layout.{ClientWord}
use Rattle.client.specs.Record.{in_store, value_of}
use Rattle.client.specs.Lent.{used_in}
use Rattle.walk.specs.Entries.{branch_of, Below}
use Rattle.walk.specs.Laws.Entries.{extra_inner, below_true, open_leaf, open_inner}
use Rattle.walk.specs.Walk.{Going, Ended, walked}
use Rattle.walk.specs.Laws.Walk.{walked_fails}
use Rattle.walk.specs.Ask.{SmallNode, HoldsWrites, Noted}
use Rattle.walk.specs.Down.{Kid}
use Rattle.change.specs.Rise.{OfLevel, Raised, Under, Fitting, BothWritten, widened, neighbour_plan}
use Rattle.change.specs.Laws.Rise.{of_level_value, ended_raised}
use Rattle.change.specs.Laws.Parts.{key_level, widened_entries, widened_content}
use Rattle.change.specs.Beside.{own_side, far_side, pair_of, evened}
use Rattle.change.specs.Laws.Beside.{only_child, turns, turns_to_itself, key_between}
use Rattle.change.specs.Lend.{lent, joined}
use Rattle.change.specs.Laws.Lend.{Halved, lent_halved, joined_level, evened_is}
use Rattle.change.specs.Merge.{Between, Neighbours, pair_in, Merges, merge_plan}
use Rattle.change.specs.Laws.Merge.{both_inside, left_entry, right_entry, key_entry, long, parent_level, left_named, right_named}
use Rattle.change.specs.Neighbour.{even_plan, Evens}
use Rattle.plans.specs.Plan as P
use Rattle.operations.specs.Change as C

-- a plan that is walked as another is
raised_as : (slots : ℕ) (m : ClientWord → ℕ) (x u u₁ : List ℕ) (l : ℕ) (root : Bool) (p q : ℕ → List Branch → Writes → Go → TreePlan) (r : Result Risen Stop) (x' u' : List ℕ)
    → ((w : Writes) → HoldsWrites slots x w → (lo : ℕ) (fs : List Branch) (go : Go) → walked slots m (p lo fs w go) (used_in u) ≡ walked slots m (q lo fs w go) (used_in u₁))
    → Raised slots m x u₁ l root q r x' u' → Raised slots m x u l root p r x' u'
raised_as slots m x u u₁ l root p q r x' u' e d = record {
  more = d.more;
  same = λ w hold lo fs f go. e w hold lo fs go ∙ d.same w hold lo fs f go;
  holds = d.holds;
  kept = d.kept;
  good = d.good;
  few = d.few;
  content = d.content;
  noted = d.noted;
}

module _ (last : Bool) (n k : Node) (sep : ℕ) (small_n : SmallNode n) (small_k : SmallNode k) where
  pub lent_fits : (h : Halves) → h ≡ lent last n sep k → (h.left.count ≤ 14) × (h.right.count ≤ 14) → Fitting h
  unfolding lent from_left from_right cut_at join wide made
  lent_fits h e g = go last refl
    where
      go : (t : Bool) → last ≡ t → Fitting h
      go true p =
          let a : h.left.level ≡ k.level = rw (e, p) in
          let b : h.right.level ≡ k.level = rw (e, p) in
          record { left = record { keys = g.0; level = omega (arith, small_k.level) }; right = record { keys = g.1; level = omega (arith, small_k.level) } }
      go false p =
          let a : h.left.level ≡ n.level = rw (e, p) in
          let b : h.right.level ≡ n.level = rw (e, p) in
          record { left = record { keys = g.0; level = omega (arith, small_n.level) }; right = record { keys = g.1; level = omega (arith, small_n.level) } }

  pub joined_small : (one : Node) → one ≡ joined last n sep k → one.count ≤ 14 → SmallNode one
  unfolding joined merged narrow join wide made
  joined_small one e g = go last refl
    where
      go : (t : Bool) → last ≡ t → SmallNode one
      go true p = let a : one.level ≡ k.level = rw (e, p) in record { keys = g; level = omega (arith, small_k.level) }
      go false p = let a : one.level ≡ n.level = rw (e, p) in record { keys = g; level = omega (arith, small_n.level) }

module _ (slots : ℕ) (m : ClientWord → ℕ) (x u : List ℕ) (root : Bool) (a c : ℕ) (b : Turn) (s : Sides) (n k : Node) (h : Neighbours slots b s) (sep : ℕ) (ps : sep ≡ get_or b.node.keys s.at 0) where
  -- the plan by the nodes that the code makes
  even_is : (l lo : ℕ) → OfLevel l n → OfLevel l k → 7 ≤ k.count → (fs : List Branch) (w : Writes) (go : Go)
      → even_plan (a, c, []) l b s n k lo fs w go
      ≡ cond (ltb 7 k.count)
      (parted go l w (pair_in b s lo) s.left (entries_of (lent s.last n sep k).left (pair_in b s lo).key)
      s.right (entries_of (lent s.last n sep k).right (lent s.last n sep k).sep))
      (merge_plan (a, c, []) l b s (joined s.last n sep k) lo fs w go)
  unfolding even_plan merge_plan
  even_is l lo fn fk seven fs w go =
      rw (← ps) (evened_is l n k sep fn fk (omega arith) (a, c, []) fs go s.last w (pair_in b s lo) s.left s.right (pair_in b s lo).key)

  pub even_merges : (one : Node) (r : Result Risen Stop) (x₁ u₁ : List ℕ) → k.count ≤ 7 → one ≡ joined s.last n sep k → Merges slots m x u root (a, c, []) b s one r x₁ u₁ → Evens slots m x u root (a, c, []) b s n k r x₁ u₁
  even_merges one r x₁ u₁ few e d = record {
    raised = λ l v fn fk seven.
        raised_as slots m x u u l root (even_plan (a, c, []) l b s n k) (merge_plan (a, c, []) l b s one) r x₁ u₁
        (λ w hold lo fs go. rw (even_is l lo fn fk seven fs w go, le-ltb 7 k.count few, e))
        (d.raised l v (rw e (joined_level l n k sep fn fk (omega arith) s.last)));
  }

  module _ (h' : Halves) (e : h' ≡ lent s.last n sep k) (p : Node) (pp : p ≡ with_key b.node s.at h'.sep) where
    key_goes_up : (l lo : ℕ) → b.node.level ≡ suc l → with_two (pair_in b s lo) s.left h'.sep s.right ≡ wide_entries (widened p) lo
    unfolding slots_of
    key_goes_up l lo v =
        let y = extra_inner b.node h.followed.inner in
        let i : s.at + extra b.node.kind ≡ suc s.at = omega arith in
        let d : get_or (slots_of b.node) (s.at + extra b.node.kind) 0 ≡ s.right =
        get_or-take (b.node.count + extra b.node.kind) b.node.slots (s.at + extra b.node.kind) 0 (omega (arith, h.between.paired.inside)) ∙ ap (λ (q : ℕ). get_or b.node.slots q 0) i ∙ sym h.between.right in
        key_between b.name s.at (entries_of b.node lo) (both_inside b s h.followed h.between lo) h'.sep s.left s.right
        (left_entry b s h.followed h.between lo) (right_entry b s h.followed h.between lo)
        ∙ ap (λ (q : ℕ). set (entries_of b.node lo) (suc s.at) (h'.sep, q)) (sym d) ∙ ap (λ (q : ℕ). set (entries_of b.node lo) q (h'.sep, get_or (slots_of b.node) (s.at + extra b.node.kind) 0)) (sym i)
        ∙ sym (key_entries b.node lo h.followed.whole s.at h'.sep)
        ∙ ap (λ (q : Node). entries_of q lo) (sym pp)
        ∙ sym (widened_entries (suc l) p (rw pp (key_level (suc l) b.node (parent_level slots b s h l v) s.at h'.sep)) lo)

    pub even_shares : (x₁ : List ℕ) (up : Wide) → 7 < k.count → Noted m u → BothWritten x s.left s.right h' x₁ → p.count ≡ b.node.count → up ≡ widened p
        → Evens slots m x u root (a, c, []) b s n k (Ok (Up up)) x₁ u
    even_shares x₁ up plenty noted both pc pu = record {
      raised = λ l v fn fk seven. let parts : Halved l h' = rw e (lent_halved l n k sep fn fk (omega arith) s.last) in record {
        more = (node s.right, value_of (node s.right) h'.right) ∷ (node s.left, value_of (node s.left) h'.left) ∷ [];
        same = λ w hold lo fs f go. rw (
          even_is l lo fn fk seven fs w go,
          lt-ltb 7 k.count plenty,
          ← e,
          of_level_value l h'.left (pair_in b s lo).key s.left parts.left,
          of_level_value l h'.right h'.sep s.right parts.right,
          parts.next,
          key_goes_up l lo v,
          pu,
        );
        holds = λ f w hold. both.holds slots w h.left h.right hold;
        kept = λ f w hold. both.kept;
        good = λ f. both.good;
        few = λ f. omega (arith, both.few);
        content = λ f. rw pu (widened_content (suc l) p (rw pp (key_level (suc l) b.node (parent_level slots b s h l v) s.at h'.sep)) (omega (arith, h.followed.small.keys)));
        noted = noted;
      };
    }

pub separator_inside : (slots : ℕ) (b : Turn) (s : Sides) → Neighbours slots b s → s.at < 14
separator_inside slots b s h = omega (arith, h.between.paired.inside, h.followed.small.keys)

pub parent_few : (slots : ℕ) (b : Turn) (s : Sides) → Neighbours slots b s → (p : Node) → p.count ≡ b.node.count → p.count ≤ 14
parent_few slots b s h p q = omega (arith, h.followed.small.keys)

pub ruleset even_exits = (even_shares, even_merges, lent_fits, joined_small, left_named, right_named, separator_inside, parent_few)

-- ---- the way to the neighbour
-- what is asked of the number that a side has
side_of : (t : Bool) (g : ℕ → ℕ) (i j : ℕ) → g (own_side t i j) ≡ own_side t (g i) (g j)
side_of true g i j = refl
side_of false g i j = refl

other_of : (t : Bool) (g : ℕ → ℕ) (i j : ℕ) → g (far_side t i j) ≡ far_side t (g i) (g j)
other_of true g i j = refl
other_of false g i j = refl

one_name : (t : Bool) (l r : ℕ) → far_side t l r ≡ own_side t l r → l ≡ r
one_name true l r e = e
one_name false l r e = sym e

same_names : (t : Bool) (l r : ℕ) → l ≡ r → far_side t l r ≡ own_side t l r
same_names true l r e = e
same_names false l r e = sym e

both_of : (P : ℕ → Type 0) (t : Bool) (l r : ℕ) → P (own_side t l r) → P (far_side t l r) → P l × P r
both_of P true l r p q = (q, p)
both_of P false l r p q = (p, q)

below_level : (l : ℕ) (n : Node) → Below l n → Whole n → OfLevel l n
below_level zero n h f = record { kind = (open_leaf n h.opened h.level).kind; level = h.level; whole = f }
below_level (suc l) n h f = record { kind = (open_inner n h.opened (omega (arith, h.level))).kind; level = h.level; whole = f }

-- a plan that fails
fails_raised : (slots : ℕ) (m : ClientWord → ℕ) (x u : List ℕ) (l : ℕ) (root : Bool) (p : ℕ → List Branch → Writes → Go → TreePlan)
    → ((lo : ℕ) (fs : List Branch) (w : Writes) (go : Go) → p lo fs w go ≡ P.fail no_tree) → Noted m u → Raised slots m x u l root p (Err (Aborts 3)) x u
fails_raised slots m x u l root p h noted =
    ended_raised slots m x u l root p (Aborts 3) x u (λ w hold lo fs f go. rw (h lo fs w go) (walked_fails slots m (used_in u) no_tree)) noted

pub turning_small : (slots l : ℕ) (b : Turn) (name : ℕ) (n : Node) → Under slots l name b → OfLevel l n → n.count ≤ 6 → SmallNode n
turning_small slots l b name n d f six = record { keys = omega arith; level = omega (arith, f.level, d.link.level, d.followed.small.level) }

-- the name of the node that turns
side_name : (slots l : ℕ) (b : Turn) (name : ℕ) (s : Sides) → Under slots l name b → Between b s → name ≡ own_side s.last s.left s.right
side_name slots l b name s d h =
    d.link.child ∙ ap (λ (i : ℕ). get_or b.node.slots i 0) h.paired.here ∙ side_of s.last (λ i. get_or b.node.slots i 0) s.at (suc s.at)
    ∙ ap (λ (q : ℕ). own_side s.last q (get_or b.node.slots (suc s.at) 0)) (sym h.left) ∙ ap (λ (q : ℕ). own_side s.last s.left q) (sym h.right)

pub met : (slots : ℕ) (m : ClientWord → ℕ) (x u : List ℕ) (l : ℕ) (b : Turn) (name : ℕ) (s : Sides) (other : ℕ) (k : Node) (u₁ : List ℕ)
    → Under slots l name b → Between b s → other ≡ far_side s.last s.left s.right → Kid slots m x u l other Going k u₁ → Neighbours slots b s
met slots m x u l b name s other k u₁ d h po kid =
    let mine : in_store slots (own_side s.last s.left s.right) ≡ true = rw (side_name slots l b name s d h) at d.link.there in
    let far : in_store slots (far_side s.last s.left s.right) ≡ true = rw po at (kid.inside refl) in
    let both = both_of (λ q. in_store slots q ≡ true) s.last s.left s.right mine far in
    record { followed = d.followed; there = d.there; between = h; left = both.0; right = both.1 }

module _ (slots l a c : ℕ) (b : Turn) (name : ℕ) (n : Node) (d : Under slots l name b) where
  abbrev whole_plan : ℕ → List Branch → Writes → Go → TreePlan
  whole_plan = neighbour_plan (a, c, []) l b name (entries_of n)

  pub alone : (m : ClientWord → ℕ) (x u : List ℕ) (root : Bool) → b.node.count ≡ 0 → Noted m u → Raised slots m x u l root (neighbour_plan (a, c, []) l b name (entries_of n)) (Err (Aborts 3)) x u
  unfolding neighbour_plan branch_of
  alone m x u root none noted =
      let first : b.at ≡ 0 = omega (arith, d.followed.within) in
      fails_raised slots m x u l root whole_plan
      (λ lo fs w go.
      ap (λ (i : ℕ). C.neighbour (a, c, []) l fs go w (branch_of b.name i (entries_of b.node lo)) name (entries_of n (get_or (entries_of b.node lo) i (0, 0)).0) (branch_of b.name i (entries_of b.node lo)).post) first
      ∙ only_child (a, c, []) l fs go w b.name (entries_of b.node lo) (entries_of n (get_or (entries_of b.node lo) 0 (0, 0)).0) name (only lo))
      noted
    where
      only : (lo : ℕ) → length (entries_of b.node lo) ≡ 1
      only lo = let y = extra_inner b.node d.followed.inner in omega (arith, length_entries_of b.node lo d.followed.whole)

  module _ (s : Sides) (h : Between b s) where
    -- where the two hold keys from
    abbrev lows : ℕ → ℕ
    lows lo = (get_or (entries_of b.node lo) s.at (0, 0)).0

    abbrev sep : ℕ
    sep = get_or b.node.keys s.at 0

    own_low : (lo : ℕ) → (get_or (entries_of b.node lo) (own_side s.last s.at (suc s.at)) (0, 0)).0 ≡ own_side s.last (lows lo) sep
    own_low lo = side_of s.last (λ i. (get_or (entries_of b.node lo) i (0, 0)).0) s.at (suc s.at) ∙ ap (λ (q : ℕ). own_side s.last (lows lo) q) (key_entry b s d.followed h lo)

    far_low : (lo : ℕ) → (get_or (entries_of b.node lo) (far_side s.last s.at (suc s.at)) (0, 0)).0 ≡ far_side s.last (lows lo) sep
    far_low lo = other_of s.last (λ i. (get_or (entries_of b.node lo) i (0, 0)).0) s.at (suc s.at) ∙ ap (λ (q : ℕ). far_side s.last (lows lo) q) (key_entry b s d.followed h lo)

    ends : (lo : ℕ) → s.last ≡ true → length (entries_of b.node lo) ≡ suc (suc s.at)
    ends lo t = omega (arith, long b s d.followed h lo, h.paired.ends t)

    abbrev turned_at : ℕ → List Branch → Writes → Go → ℕ → ℕ → ℕ → TreePlan
    turned_at lo fs w go i e q =
        C.neighbour (a, c, []) l fs go w (branch_of b.name i (entries_of b.node lo)) e (entries_of n q) (branch_of b.name i (entries_of b.node lo)).post

    by_side : (lo : ℕ) (fs : List Branch) (w : Writes) (go : Go)
        → whole_plan lo fs w go ≡ turned_at lo fs w go (own_side s.last s.at (suc s.at)) (own_side s.last s.left s.right) (own_side s.last (lows lo) sep)
    unfolding neighbour_plan branch_of
    by_side lo fs w go =
        ap (λ (i : ℕ). turned_at lo fs w go i name (get_or (entries_of b.node lo) i (0, 0)).0) h.paired.here
        ∙ ap (λ (e : ℕ). turned_at lo fs w go (own_side s.last s.at (suc s.at)) e (get_or (entries_of b.node lo) (own_side s.last s.at (suc s.at)) (0, 0)).0) (side_name slots l b name s d h)
        ∙ ap (λ (q : ℕ). turned_at lo fs w go (own_side s.last s.at (suc s.at)) (own_side s.last s.left s.right) q) (own_low lo)

    module _ (other : ℕ) (po : other ≡ far_side s.last s.left s.right) where
      pub itself : (m : ClientWord → ℕ) (x u : List ℕ) (root : Bool) → other ≡ name → Noted m u → Raised slots m x u l root (neighbour_plan (a, c, []) l b name (entries_of n)) (Err (Aborts 3)) x u
      itself m x u root e noted =
          let same : s.left ≡ s.right = one_name s.last s.left s.right (sym po ∙ e ∙ side_name slots l b name s d h) in
          fails_raised slots m x u l root whole_plan
          (λ lo fs w go. by_side lo fs w go
          ∙ turns_to_itself (a, c, []) l fs go w b.name (entries_of b.node lo) (entries_of n (own_side s.last (lows lo) sep)) s.at (both_inside b s d.followed h lo)
          s.left s.right (left_entry b s d.followed h lo) (right_entry b s d.followed h lo) s.last (ends lo) same)
          noted

      module _ (apart : other ≡ name → ⊥) where
        meets : (lo : ℕ) (fs : List Branch) (w : Writes) (go : Go)
            → whole_plan lo fs w go
            ≡ kid w l (far_side s.last (lows lo) sep) other
            (λ es2. evened (a, c, []) l fs go s.last w (pair_in b s lo) s.left s.right (entries_of n (own_side s.last (lows lo) sep)) es2)
        meets lo fs w go =
            let two : s.left ≡ s.right → ⊥ = λ e. apart (po ∙ same_names s.last s.left s.right e ∙ sym (side_name slots l b name s d h)) in
            by_side lo fs w go
            ∙ turns (a, c, []) l fs go w b.name (entries_of b.node lo) (entries_of n (own_side s.last (lows lo) sep)) s.at (both_inside b s d.followed h lo)
            s.left s.right (left_entry b s d.followed h lo) (right_entry b s d.followed h lo) s.last (ends lo) two
            ∙ rw (far_low lo, po)

        module _ (m : ClientWord → ℕ) (x u : List ℕ) (root : Bool) (k : Node) (u₁ : List ℕ) where
          pub turn_stops : (e : Stop) → Kid slots m x u l other (Ended e) k u₁ → Raised slots m x u l root (neighbour_plan (a, c, []) l b name (entries_of n)) (Err e) x u₁
          turn_stops e asked =
              ended_raised slots m x u l root whole_plan e x u₁ (λ w hold lo fs t go. rw (meets lo fs w go) (asked.asks w hold _ _)) asked.noted

          pub turned : Kid slots m x u l other Going k u₁ → (r : Result Risen Stop) (x' u' : List ℕ) → OfLevel l n → Evens slots m x u₁ root (a, c, []) b s n k r x' u'
              → Raised slots m x u l root (neighbour_plan (a, c, []) l b name (entries_of n)) r x' u'
          unfolding even_plan pair_of
          turned asked r x' u' f evens =
              let low : Below l k = below_true l k (asked.fits refl) in
              raised_as slots m x u u₁ l root whole_plan (even_plan (a, c, []) l b s n k) r x' u'
              (λ w hold lo fs go. rw (meets lo fs w go) (asked.asks w hold _ _))
              (evens.raised l d.link.level f (below_level l k low (asked.whole refl)) low.enough)

pub ruleset neighbour_exits = (alone, itself, turn_stops, met, turning_small, turned)
