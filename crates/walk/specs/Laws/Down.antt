-- Laws of the way down.
use Rattle.std.specs.Prelude.{◌≡◌, refl, Ok, Bool, false, not, List, [], ◌∷◌, map, length, get_or, take, set}
use Rattle.std.proofs.Math.Path.{sym}
use Rattle.std.proofs.Common.{ap, subst, ◌∙◌, add-one, get_or-set_same, get_or-set_other, take-suc, take-suc-set, take_all}
use Rattle.std.proofs.Math.Bool.{true}
use Prim.Native.Nat.{ℕ, zero, suc, ◌+◌, ◌-◌, ◌/◌, ◌≤◌, ◌<◌}
use native.Mathlib.Omega.{arith}
use Rattle.std.proofs.Math.Decide.{ℕ_discrete}
use Rattle.std.proofs.Math.ListN.{length-set}
use borrow.Author.Tests.{not-true, not-false}
use Rattle.nodes.specs.declared.node.Node.{Node}
use Rattle.nodes.specs.Place.{place}
use Rattle.nodes.specs.Node.{keys_of}
use Rattle.nodes.specs.Entries.{entries_of}
use Rattle.nodes.specs.Kept.{Whole}
use Rattle.nodes.specs.Stored.{node_at}
use Rattle.nodes.proofs.Laws.Stored.{Sized}
use Rattle.nodes.proofs.Laws.Standing.{standing_sized}
use Rattle.memory.specs.Word.{view}
use Rattle.nodes.proofs.Laws.Kept.{whole, length_entries_of}
use Rattle.operations.specs.Object.{meta, node, no_tree}
use Rattle.operations.specs.Path.{Cont, down, to_leaf}
use Rattle.walk.specs.declared.down.Turn.{Turn}
use Rattle.walk.specs.declared.down.Pass.{Pass}
use Rattle.walk.specs.declared.walk.Stop.{Stop}
use Rattle.walk.specs.declared.walk.Stop.TheVariants.{Aborts}
use Rattle.client.specs.Layout.{ClientWord}
use Rattle.client.specs.Record.{in_store, metadata}
use Rattle.client.specs.Lent.{used_in}
use Rattle.walk.specs.Entries.{opens, below, Inner, Below}
use Rattle.walk.specs.Laws.Entries.{open_is, child_is, open_inner, extra_inner, down_inner, down_there, below_true}
use Rattle.walk.specs.Walk.{Course, Going, Ended, goes, walked}
use Rattle.walk.specs.Laws.Walk.{walked_fails}
use Rattle.walk.specs.Ask.{SmallNode, Noted, Asked, nothing}
use Rattle.walk.specs.Laws.Ask.{none_held, first_metadata}
use Rattle.walk.specs.Down.{Kid, RootMet, blank, nowhere, turn_in, turns_in, Arrival, arrival, PathInPart, low, branches, trail, All, Linked, From, Stops, Above, Lowered, Led, AtRoot, Descends, Reaches, ToLeaf}

pub stops_not : (s : Course) {A : Type 0} → goes s ≡ false → goes s ≡ true → A
stops_not s p q = let e : false ≡ true = sym p ∙ q in let z : ◌≡◌ {A = ℕ} 0 1 = cc in absurd (omega arith)

-- a record that has room in a client's part has its sizes
pub part_sized : (c : List ℕ) (p : ℕ) → p + 33 ≤ 7223 → 7223 ≤ length c / 8 → Sized (node_at (view c) p)
part_sized c p h g = standing_sized c p (omega arith)

pub node_sized : (r : Node) → length r.keys ≡ 14 → length r.slots ≡ 15 → Sized r
node_sized r k s = record { keys = k; slots = s }

-- what was asked for, used below the root
module _ (slots : ℕ) (m : ClientWord → ℕ) (x u : List ℕ) (n l : ℕ) (u' : List ℕ) where
  pub kid_stops : (s : Course) (y r : Node) → goes s ≡ false → Asked slots m x u (node n) s y u' → Kid slots m x u l n s r u'
  kid_stops s y r halts h = record {
    asks = λ w hold lo k. rw ((h.asks w hold).same, halts);
    noted = h.noted;
    long = h.long;
    small = λ t. stops_not s halts t;
    fits = λ t. stops_not s halts t;
    whole = λ t. stops_not s halts t;
    inside = λ t. stops_not s halts t;
  }

  module _ (r : Node) (g : Sized r) (h : Asked slots m x u (node n) Going r u') (c : Bool) (pc : c ≡ below l r) where
    f : Whole r
    f = whole r g.keys g.slots h.small.keys

    pub kid_bad : (y : Node) → not c ≡ true → Kid slots m x u l n (Ended (Aborts 3)) y u'
    kid_bad y nc =
        let e : below l r ≡ false = sym pc ∙ not-true c nc in
        record {
          asks = λ w hold lo k. rw ((h.asks w hold).same, child_is l lo n r f k, e) (walked_fails slots m (used_in u') no_tree);
          noted = h.noted;
          long = h.long;
          small = λ t. stops_not (Ended (Aborts 3)) refl t;
          fits = λ t. stops_not (Ended (Aborts 3)) refl t;
          whole = λ t. stops_not (Ended (Aborts 3)) refl t;
          inside = λ t. stops_not (Ended (Aborts 3)) refl t;
        }

    pub kid_good : not c ≡ false → Kid slots m x u l n Going r u'
    kid_good nc =
        let e : below l r ≡ true = sym pc ∙ not-false c nc in
        record {
          asks = λ w hold lo k. rw ((h.asks w hold).same, child_is l lo n r f k, e);
          noted = h.noted;
          long = h.long;
          small = λ t. h.small;
          fits = λ t. e;
          whole = λ t. f;
          inside = h.inside;
        }

pub ruleset kid_exits = (kid_stops, kid_bad, kid_good, part_sized, node_sized)

-- the root
module _ (slots : ℕ) (m : ClientWord → ℕ) (u : List ℕ) (n : ℕ) (u' : List ℕ) where
  pub root_stops : (s : Course) (y r : Node) → goes s ≡ false → Asked slots m nothing u (node n) s y u' → RootMet slots m u n s r u'
  root_stops s y r halts h = record {
    asks = λ k. rw ((h.asks [] (none_held slots)).same, halts);
    noted = h.noted;
    long = h.long;
    small = λ t. stops_not s halts t;
    fits = λ t. stops_not s halts t;
    whole = λ t. stops_not s halts t;
    inside = λ t. stops_not s halts t;
  }

  module _ (r : Node) (g : Sized r) (h : Asked slots m nothing u (node n) Going r u') (c : Bool) (pc : c ≡ opens r) where
    pub root_bad : (y : Node) → not c ≡ true → RootMet slots m u n (Ended (Aborts 3)) y u'
    root_bad y nc =
        let e : opens r ≡ false = sym pc ∙ not-true c nc in
        record {
          asks = λ k. rw ((h.asks [] (none_held slots)).same, open_is 0 n r k, e) (walked_fails slots m (used_in u') no_tree);
          noted = h.noted;
          long = h.long;
          small = λ t. stops_not (Ended (Aborts 3)) refl t;
          fits = λ t. stops_not (Ended (Aborts 3)) refl t;
          whole = λ t. stops_not (Ended (Aborts 3)) refl t;
          inside = λ t. stops_not (Ended (Aborts 3)) refl t;
        }

    pub root_good : not c ≡ false → RootMet slots m u n Going r u'
    root_good nc =
        let e : opens r ≡ true = sym pc ∙ not-false c nc in
        record {
          asks = λ k. rw ((h.asks [] (none_held slots)).same, open_is 0 n r k, e);
          noted = h.noted;
          long = h.long;
          small = λ t. h.small;
          fits = λ t. e;
          whole = λ t. whole r g.keys g.slots h.small.keys;
          inside = h.inside;
        }

pub ruleset root_ways = (root_stops, root_bad, root_good, part_sized)

-- how far a way down has come
pub record Downward (slots : ℕ) (m : ClientWord → ℕ) (u₀ : List ℕ) (key target root : ℕ) (first : Node) (top : ℕ) (path : List Turn) (name : ℕ) (n : Node) (level : ℕ) (u : List ℕ) : Type 0 where
  pub whole_way : top ≡ first.level
  pub long : length u ≡ length u₀
  pub lower : target ≤ level
  pub upper : level ≤ top
  pub high : top ≤ 4
  pub size : length path ≡ 5
  pub level_is : n.level ≡ level
  pub opened : opens n ≡ true
  pub small : SmallNode n
  pub whole : Whole n
  pub noted : Noted m u
  pub good : All (trail path level (top - level))
  pub linked : in_store slots root ≡ true → Linked slots level name (trail path level (top - level))
  pub same : (stop : ℕ → Bool) → Stops stop target → (k : Cont)
      → walked slots m (down stop key k first.level [] root (entries_of first 0)) (used_in u₀)
      ≡ walked slots m (down stop key k level (branches (trail path level (top - level))) name (entries_of n (low (trail path level (top - level))))) (used_in u)

-- ---- one more branch in the array
trail_kept : (p : List Turn) (i : ℕ) (b : Turn) (l n : ℕ) → i ≤ l → trail (set p i b) l n ≡ trail p l n
unfolding trail
trail_kept p i b l zero h = refl
trail_kept p i b l (suc n) h =
    let e : suc l ≡ i → ⊥ = λ q. omega arith in
    rw (get_or-set_other p i (suc l) b blank e, trail_kept p i b (suc l) n (omega arith))

pub trail_more : (p : List Turn) (b : Turn) (l top : ℕ) → 0 < l → l ≤ top → l < length p → trail (set p l b) (l - 1) (top - (l - 1)) ≡ b ∷ trail p l (top - l)
unfolding trail
trail_more p b zero top z h g = absurd (omega arith)
trail_more p b (suc l) top z h g =
    let e : suc l - 1 ≡ l = omega arith in
    let f : top - l ≡ suc (top - suc l) = omega arith in
    rw (e, f, get_or-set_same p (suc l) b blank g, trail_kept p (suc l) b (suc l) (top - suc l) (omega arith))

trail_none : (p : List Turn) (l : ℕ) → trail p l (l - l) ≡ []
unfolding trail
trail_none p l = let e : l - l ≡ 0 = omega arith in rw e

-- ---- the turns of the loop, and its ends
pub down_start : (slots : ℕ) (m : ClientWord → ℕ) (u : List ℕ) (key target root : ℕ) (first : Node) (path : List Turn) → From first target → Noted m u → length path ≡ 5
    → Downward slots m u key target root first first.level path root first first.level u
unfolding All Linked
down_start slots m u key target root first path f h l = record {
  whole_way = refl;
  long = refl;
  lower = f.above;
  upper = omega arith;
  high = f.small.level;
  size = l;
  level_is = refl;
  opened = f.opened;
  small = f.small;
  whole = f.whole;
  noted = h;
  good = rw (trail_none path first.level) tt;
  linked = λ q. rw (trail_none path first.level) q;
  same = λ stop st k. rw (trail_none path first.level);
}

module _ (slots : ℕ) (m : ClientWord → ℕ) (u₀ : List ℕ) (key target root : ℕ) (first : Node) (top : ℕ) (path : List Turn) (name : ℕ) (n : Node) (level : ℕ) (u : List ℕ) (d : Downward slots m u₀ key target root first top path name n level u) where
  module _ (lt : target < level) (i next : ℕ) (r : Node) (u' : List ℕ) where
    abbrev above : List Turn
    above = trail path level (top - level)

    abbrev turn : Turn
    turn = record { name = name; at = i; node = n }

    -- whatever is said of where it has come to
    pub down_stops : (s : Course) (a : Arrival) → Lowered slots m u key level n s i next r u' → goes s ≡ false → a.course ≡ s → a.top ≤ 4
        → Led slots m u₀ key target root first a u'
    down_stops s a c halts e t4 = record {
      asks = λ stop st k. rw (d.same stop st k, c.asks stop (st.before level lt) k (branches above) name (low above), e, halts);
      noted = c.noted;
      high = t4;
      reached = λ t. stops_not s halts (rw e at t);
      linked = λ q t. stops_not s halts (rw e at t);
    }

    pub down_long : (s : Course) → Lowered slots m u key level n s i next r u' → length u' ≡ length u₀
    down_long s c = c.long ∙ d.long

    module _ (c : Lowered slots m u key level n Going i next r u') where
      pub down_more : (lower : ℕ) → level ≡ suc lower → Downward slots m u₀ key target root first top (set path level turn) next r lower u'
      unfolding All Linked
      down_more lower up =
          let e : level - 1 ≡ lower = omega arith in
          let t : trail (set path level turn) lower (top - lower) ≡ turn ∷ above = rw e at (trail_more path turn level top (omega arith) d.upper (omega (arith, d.size, d.high, d.upper))) in
          let q : Below lower r = rw e at (c.fits refl) in
          record {
            whole_way = d.whole_way;
            long = down_long Going c;
            lower = omega arith;
            upper = omega (arith, d.upper);
            high = d.high;
            size = simp length-set d.size;
            level_is = q.level;
            opened = q.opened;
            small = c.small refl;
            whole = c.whole refl;
            noted = c.noted;
            good = rw t (record { inner = (c.turned refl).inner; whole = (c.turned refl).whole; small = (c.turned refl).small; within = (c.turned refl).within }, d.good);
            linked = λ q. rw t (record { level = d.level_is ∙ up; child = c.child refl; there = c.inside refl }, subst (λ (v : ℕ). Linked slots v name above) up (d.linked q));
            same = λ stop st k. rw (t, d.same stop st k, c.asks stop (st.before level lt) k (branches above) name (low above), e);
          }

  pub down_above : target < level → Above n level
  down_above lt = record { whole = d.whole; small = d.small; opened = d.opened; level_is = d.level_is; inner = omega arith }

  pub down_done : level ≤ target → Led slots m u₀ key target root first (record { course = Going; top = top; path = path; name = name; node = n }) u
  down_done h =
      let e : level ≡ target = omega (arith, d.lower) in
      let some : (lo : ℕ) → 0 < target → 0 < length (entries_of n lo) = λ lo g. let x = extra_inner n (open_inner n d.opened (omega (arith, d.level_is))) in omega (arith, length_entries_of n lo d.whole) in
      record {
        asks = λ stop st k. rw (
          d.same stop st k,
          e,
          down_there stop key k (branches (trail path target (top - target))) name target
              (entries_of n (low (trail path target (top - target)))) st.there (some (low (trail path target (top - target)))),
        );
        noted = d.noted;
        high = d.high;
        reached = λ t. record { level = rw e at d.level_is; opened = d.opened; small = d.small; whole = d.whole; size = d.size; above = omega (arith, d.upper); good = rw e at d.good };
        linked = λ q t. rw e at (d.linked q);
      }

-- ---- the same of what the code passes, in a part of the bytes b
pub map_set : {A B : Type 0} (f : A → B) (l : List A) (i : ℕ) (x : A) → map f (set l i x) ≡ set (map f l) i (f x)
map_set f [] i x = refl
map_set f (y ∷ l) zero x = refl
map_set f (y ∷ l) (suc i) x = ap (λ (t : List _). f y ∷ t) (map_set f l i x)

pub map_get : {A B : Type 0} (f : A → B) (l : List A) (i : ℕ) (d : A) → get_or (map f l) i (f d) ≡ f (get_or l i d)
map_get f [] i d = refl
map_get f (y ∷ l) zero d = refl
map_get f (y ∷ l) (suc i) d = map_get f l i d

map_length : {A B : Type 0} (f : A → B) (l : List A) → length (map f l) ≡ length l
map_length f [] = refl
map_length f (y ∷ l) = ap suc (map_length f l)

pub set_in_part : (ps : List Pass) (i : ℕ) (p : Pass) → PathInPart ps → p.place + 33 ≤ 7223 → PathInPart (set ps i p)
set_in_part ps i p h w = record { each = λ j l. go j l (ℕ_discrete j i) }
  where
    go : (j : ℕ) → j < length (set ps i p) → Dec (j ≡ i) → (get_or (set ps i p) j nowhere).place + 33 ≤ 7223
    go j l (yes e) = let g : i < length ps = rw (length-set ps i p, e) at l in rw (e, get_or-set_same ps i p nowhere g) w
    go j l (no d) = rw (get_or-set_other ps i j p nowhere d) (h.each j (rw (length-set ps i p) at l))

pub none_in_part : PathInPart (nowhere ∷ nowhere ∷ nowhere ∷ nowhere ∷ nowhere ∷ [])
none_in_part = record { each = λ i h. go i }
  where
    go : (i : ℕ) → (get_or (nowhere ∷ nowhere ∷ nowhere ∷ nowhere ∷ nowhere ∷ []) i nowhere).place + 33 ≤ 7223
    go zero = omega arith
    go (suc zero) = omega arith
    go (suc (suc zero)) = omega arith
    go (suc (suc (suc zero))) = omega arith
    go (suc (suc (suc (suc zero)))) = omega arith
    go (suc (suc (suc (suc (suc i))))) = omega arith

module _ (b : List ℕ) (slots : ℕ) (m : ClientWord → ℕ) (u₀ : List ℕ) (key target root first : ℕ) where
  abbrev pub Passing : ℕ → List Pass → ℕ → ℕ → ℕ → List ℕ → Type 0
  Passing top path name place level u =
      Downward slots m u₀ key target root (node_at (view b) first) top (turns_in b path) name (node_at (view b) place) level u × PathInPart path × (place + 33 ≤ 7223)

  pub pass_start : (path : List Pass) (top : ℕ) → From (node_at (view b) first) target → first + 33 ≤ 7223 → Noted m u₀ → path ≡ nowhere ∷ nowhere ∷ nowhere ∷ nowhere ∷ nowhere ∷ []
      → top ≡ (node_at (view b) first).level → Passing top path root first top u₀
  pass_start path top f w h p e =
      rw (p, e) (down_start slots m u₀ key target root (node_at (view b) first) (turns_in b (nowhere ∷ nowhere ∷ nowhere ∷ nowhere ∷ nowhere ∷ [])) f h refl, none_in_part, w)

  module _ (top : ℕ) (path : List Pass) (name place level : ℕ) (u : List ℕ) (d : Passing top path name place level u) where
    pub pass_done : level ≤ target
        → Led slots m u₀ key target root (node_at (view b) first) (arrival b (Ok (record { top = top; path = path; name = name; place = place }))) u
    pass_done h = down_done slots m u₀ key target root (node_at (view b) first) top (turns_in b path) name (node_at (view b) place) level u d.0 h

    pub pass_path : PathInPart path × (place + 33 ≤ 7223)
    pass_path = (d.1, d.2)

    -- v is the level as the code has it
    module _ (lt : target < level) (v : ℕ) (ev : v ≡ level) (i next : ℕ) (u' : List ℕ) where
      pub pass_stops : (s : Course) (r : Node) (a : Arrival) → Lowered slots m u key v (node_at (view b) place) s i next r u' → goes s ≡ false → a.course ≡ s → a.top ≤ 4
          → Led slots m u₀ key target root (node_at (view b) first) a u'
      pass_stops s r a c = down_stops slots m u₀ key target root (node_at (view b) first) top (turns_in b path) name (node_at (view b) place) level u d.0 lt i next r u' s a (rw ev at c)

      pub pass_more : (p lower : ℕ) → Lowered slots m u key v (node_at (view b) place) Going i next (node_at (view b) p) u' → suc lower ≡ level → p + 33 ≤ 7223
          → Passing top (set path v (record { name = name; at = i; place = place })) next p lower u'
      pass_more p lower c up w =
          let y : Pass = record { name = name; at = i; place = place } in
          let e = down_more slots m u₀ key target root (node_at (view b) first) top (turns_in b path) name (node_at (view b) place) level u d.0 lt i next (node_at (view b) p) u' (rw ev at c) lower (sym up) in
          rw ev (rw (map_set (turn_in b) path level y) e, set_in_part path level y d.1 w', w)
        where
          w' : place + 33 ≤ 7223
          w' = d.2

pub ruleset pass_exits = (pass_start, pass_done, pass_path, pass_stops, pass_more)

-- the nodes of a path taken out
abbrev pub TakenOut : List ℕ → List Pass → List Turn → ℕ → Type 0
TakenOut b ps out i = (i ≤ 5) × (length out ≡ 5) × (take i out ≡ take i (turns_in b ps))

map_get_or : (b : List ℕ) (ps : List Pass) (i : ℕ) → i < length ps → get_or (turns_in b ps) i blank ≡ turn_in b (get_or ps i nowhere)
map_get_or b [] i h = absurd (omega arith)
map_get_or b (p ∷ ps) zero h = refl
map_get_or b (p ∷ ps) (suc i) h = map_get_or b ps i (omega arith)

module _ (b : List ℕ) (ps : List Pass) (l : length ps ≡ 5) (out : List Turn) (i : ℕ) (h : TakenOut b ps out i) where
  pub taken_more : i < 5 → (t : Turn) → t ≡ turn_in b (get_or ps i nowhere) → TakenOut b ps (set out i t) (i + 1)
  taken_more g t e =
      let m : i < length (turns_in b ps) = rw (map_length (turn_in b) ps, l) g in (
        omega arith,
        length-set out i t ∙ h.1,
        rw (add-one, take-suc-set out i t (omega (arith, h.1)), take-suc (turns_in b ps) i blank m, h.2, map_get_or b ps i (omega arith), ← e),
      )

  pub taken_all : 5 ≤ i → out ≡ turns_in b ps
  taken_all g =
      let z : i ≡ 5 = omega (arith, h.0) in
      let q : take 5 out ≡ take 5 (turns_in b ps) = rw z at h.2 in
      sym (take_all 5 out (omega (arith, h.1))) ∙ q ∙ take_all 5 (turns_in b ps) (rw (map_length (turn_in b) ps) (omega arith))

pub taken_none : (b : List ℕ) (ps : List Pass) (out : List Turn) → length out ≡ 5 → TakenOut b ps out 0
taken_none b ps out l = (omega arith, l, refl)

pub pass_inside : (ps : List Pass) (i : ℕ) → PathInPart ps → length ps ≡ 5 → i < 5 → (get_or ps i nowhere).place + 33 ≤ 7223
pass_inside ps i h l g = h.each i (omega arith)

pub ruleset taken_exits = (taken_none, taken_more, taken_all, pass_inside)

module _ (slots : ℕ) (m : ClientWord → ℕ) (u : List ℕ) (key level : ℕ) (n : Node) (g : Above n level) (at next : ℕ) (pa : at ≡ place (keys_of n) key) (ha : at ≤ n.count) (pn : next ≡ get_or n.slots at 0) where
  inner : Inner n
  inner = open_inner n g.opened (omega (arith, g.level_is, g.inner))

  pub lowered : (s : Course) (r : Node) (u' : List ℕ) → Kid slots m nothing u (level - 1) next s r u' → Lowered slots m u key level n s at next r u'
  lowered s r u' c = record {
    asks = λ stop e k fs nm lo. rw (down_inner stop key k fs nm at next n lo level g.level_is g.whole inner e pa ha pn, c.asks [] (none_held slots));
    noted = c.noted;
    long = c.long;
    turned = λ t. record { inner = inner; whole = g.whole; small = g.small; within = ha };
    small = c.small;
    whole = c.whole;
    fits = λ t. below_true (level - 1) r (c.fits t);
    child = λ t. pn;
    inside = c.inside;
  }

  pub lower_stops : (s : Stop) (r : Node) (u' : List ℕ) → Kid slots m nothing u (level - 1) next (Ended s) r u' → Lowered slots m u key level n (Ended s) 0 0 r u'
  lower_stops s r u' c = record {
    asks = λ stop e k fs nm lo. rw (down_inner stop key k fs nm at next n lo level g.level_is g.whole inner e pa ha pn, c.asks [] (none_held slots));
    noted = c.noted;
    long = c.long;
    turned = λ t. stops_not (Ended s) refl t;
    small = c.small;
    whole = c.whole;
    fits = λ t. stops_not (Ended s) refl t;
    child = λ t. stops_not (Ended s) refl t;
    inside = λ t. stops_not (Ended s) refl t;
  }

  pub child_inside : at < 15
  child_inside = omega (arith, g.small.keys)

pub ruleset lower_exits = (lowered, lower_stops, child_inside)

module _ (slots : ℕ) (m : ClientWord → ℕ) (u : List ℕ) where
  pub no_root : (s : Course) (y r : Node) (q : ℕ) (u₁ : List ℕ) → goes s ≡ false → Asked slots m nothing u meta s y u₁ → AtRoot slots m u s q r u₁
  no_root s y r q u₁ halts a = record { asks = λ k. rw ((a.asks [] (none_held slots)).same, halts); noted = a.noted; begins = λ t. stops_not s halts t; inside = λ t. stops_not s halts t }

  module _ (q st : ℕ) (u₁ : List ℕ) (a : Asked slots m nothing u meta Going (metadata 0 q st) u₁) where
    pub bad_root : (s : Stop) (y r : Node) (p : ℕ) (u₂ : List ℕ) → RootMet slots m u₁ q (Ended s) y u₂ → AtRoot slots m u (Ended s) p r u₂
    bad_root s y r p u₂ h = record {
      asks = λ k. rw ((a.asks [] (none_held slots)).same, first_metadata q st) (h.asks (k q));
      noted = h.noted;
      begins = λ t. stops_not (Ended s) refl t;
      inside = λ t. stops_not (Ended s) refl t;
    }

    pub met_root : (t : Course) (r : Node) (u₂ : List ℕ) → RootMet slots m u₁ q t r u₂ → AtRoot slots m u t q r u₂
    met_root t r u₂ h = record {
      asks = λ k. rw ((a.asks [] (none_held slots)).same, first_metadata q st) (h.asks (k q));
      noted = h.noted;
      begins = λ g. record { whole = h.whole g; small = h.small g; opened = h.fits g; above = omega arith };
      inside = h.inside;
    }

pub ruleset root_exits = (no_root, bad_root, met_root)

leaf_stops : Stops to_leaf 0
leaf_stops = record { before = λ l h. go l h; there = λ h. absurd (omega arith) }
  where
    go : (l : ℕ) → 0 < l → to_leaf l ≡ false
    go zero h = absurd (omega arith)
    go (suc l) h = refl

module _ (slots : ℕ) (m : ClientWord → ℕ) (u : List ℕ) (key q : ℕ) (r : Node) (u₁ : List ℕ) where
  pub no_way : (s : Course) (d : Arrival) → AtRoot slots m u s q r u₁ → goes s ≡ false → d.course ≡ s → d.top ≤ 4 → Descends slots m u key d u₁
  no_way s d a halts e t4 = record {
    asks = λ k. rw (a.asks (λ q l es. down to_leaf key (λ _ fs n es. k fs n es) l [] q es), e, halts);
    noted = a.noted;
    high = t4;
    reached = λ t. stops_not s halts (rw e at t);
    linked = λ t. stops_not s halts (rw e at t);
  }

  module _ (a : AtRoot slots m u Going q r u₁) where
    pub whole_way : (d : Arrival) (u₂ : List ℕ) → Led slots m u₁ key 0 q r d u₂ → Descends slots m u key d u₂
    whole_way d u₂ h = record {
      asks = λ k. rw (a.asks (λ q l es. down to_leaf key (λ _ fs n es. k fs n es) l [] q es)) (h.asks to_leaf leaf_stops (λ l fs n es. k fs n es));
      noted = h.noted;
      high = h.high;
      reached = h.reached;
      linked = h.linked (a.inside refl);
    }

    pub way_begins : From r 0
    way_begins = a.begins refl

pub ruleset descend_exits = (no_way, whole_way, way_begins)

-- ---- the way down of which no path is kept
-- how far it has come, from a root of whatever name
pub record Reaching (slots : ℕ) (m : ClientWord → ℕ) (u₀ : List ℕ) (key : ℕ) (first : Node) (n : Node) (level : ℕ) (u : List ℕ) : Type 0 where
  pub path : ℕ → List Turn
  pub name : ℕ → ℕ
  pub way : (root : ℕ) → Downward slots m u₀ key 0 root first first.level (path root) (name root) n level u

pub reach_start : (slots : ℕ) (m : ClientWord → ℕ) (u : List ℕ) (key v : ℕ) (first : Node) → From first 0 → Noted m u → v ≡ first.level → Reaching slots m u key first first v u
reach_start slots m u key v first f h e = rw e (record {
  path = λ root. blank ∷ blank ∷ blank ∷ blank ∷ blank ∷ [];
  name = λ root. root;
  way = λ root. down_start slots m u key 0 root first (blank ∷ blank ∷ blank ∷ blank ∷ blank ∷ []) f h refl;
})

module _ (slots : ℕ) (m : ClientWord → ℕ) (u₀ : List ℕ) (key : ℕ) (first n : Node) (level : ℕ) (u : List ℕ) (d : Reaching slots m u₀ key first n level u) where
  pub reach_above : (v : ℕ) → v ≡ level → 0 < level → Above n v
  reach_above v ev lt = rw ev (down_above slots m u₀ key 0 0 first first.level (d.path 0) (d.name 0) n level u (d.way 0) lt)

  pub reach_done : level ≤ 0 → Reaches slots m u₀ key first Going n u
  reach_done h = record {
    come = λ root. record { course = Going; top = first.level; path = d.path root; name = d.name root; node = n };
    course = λ root. refl;
    node = λ root. refl;
    led = λ root. down_done slots m u₀ key 0 root first first.level (d.path root) (d.name root) n level u (d.way root) h;
  }

  module _ (lt : 0 < level) (v : ℕ) (ev : v ≡ level) (i next : ℕ) (r : Node) (u' : List ℕ) where
    pub reach_stops : (s : Course) (y : Node) → Lowered slots m u key v n s i next r u' → goes s ≡ false → Reaches slots m u₀ key first s y u'
    reach_stops s y c halts =
        let a : Arrival = record { course = s; top = 0; path = []; name = 0; node = y } in
        record {
          come = λ root. a;
          course = λ root. refl;
          node = λ root. refl;
          led = λ root. down_stops slots m u₀ key 0 root first first.level (d.path root) (d.name root) n level u (d.way root) lt i next r u' s a (rw ev at c) halts refl (omega arith);
        }

    pub reach_more : (lower : ℕ) → Lowered slots m u key v n Going i next r u' → suc lower ≡ level → Reaching slots m u₀ key first r lower u'
    reach_more lower c up = record {
      path = λ root. set (d.path root) level (record { name = d.name root; at = i; node = n });
      name = λ root. next;
      way = λ root. down_more slots m u₀ key 0 root first first.level (d.path root) (d.name root) n level u (d.way root) lt i next r u' (rw ev at c) lower (sym up);
    }

pub ruleset reach_exits = (reach_start, reach_above, reach_done, reach_stops, reach_more)

module _ (slots : ℕ) (m : ClientWord → ℕ) (u : List ℕ) (key q : ℕ) (r : Node) (u₁ : List ℕ) where
  pub leaf_none : (s : Course) (y : Node) → AtRoot slots m u s q r u₁ → goes s ≡ false → ToLeaf slots m u key s y u₁
  leaf_none s y a halts =
      let d : Arrival = record { course = s; top = 0; path = []; name = 0; node = y } in
      record { come = d; course = refl; node = refl; descends = no_way slots m u key q r u₁ s d a halts refl (omega arith) }

  module _ (a : AtRoot slots m u Going q r u₁) where
    pub leaf_reached : (t : Course) (n : Node) (u₂ : List ℕ) → Reaches slots m u₁ key r t n u₂ → ToLeaf slots m u key t n u₂
    leaf_reached t n u₂ h =
        record { come = h.come q; course = h.course q; node = h.node q; descends = whole_way slots m u key q r u₁ a (h.come q) u₂ (h.led q) }

pub ruleset leaf_exits = (leaf_none, leaf_reached, way_begins)
