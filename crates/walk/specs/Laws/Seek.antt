-- Laws of the nearest branch and the leaves below it.
use Rattle.std.proofs.Math.Path.{◌≡◌, refl, sym}
use Rattle.std.proofs.Common.{ap, ◌∙◌, drop_of_length-le, drop-cons, take-suc, take_all, take-take, ltb-true, ltb-false, le-leb}
use Rattle.std.specs.Prelude.{Bool, List, [], ◌∷◌, ◌++◌, map, leb, ltb, length, take, drop, set, Option, Some, None}
use Rattle.std.proofs.Math.Bool.{true, false, cond}
use Prim.Native.Nat.{ℕ, zero, suc, ◌+◌, ◌-◌, ◌/◌, ◌≤◌, ◌<◌}
use native.Mathlib.Omega.{arith}
use Rattle.std.proofs.Math.ListN.{get_or, length-set}
use Rattle.std.proofs.Math.Numerals.{add-one}
use Rattle.std.proofs.lemmas.Bool.{lt-leb}
use Rattle.nodes.specs.declared.node.Node.{Node}
use Rattle.nodes.specs.Entries.{entries_of}
use Rattle.nodes.specs.Stored.{node_at}
use Rattle.memory.specs.Word.{view}
use Rattle.nodes.proofs.Laws.Kept.{length_entries_of}
use Rattle.operations.specs.Object.{Ans}
use Rattle.operations.specs.Entry.{Entries}
use Rattle.operations.specs.Path.{kid, Branch}
use Rattle.operations.specs.Look.{Search, Onward, told, nearest, rightward, leftward, seek, seek_up}
use Rattle.walk.specs.declared.down.Turn.{Turn}
use Rattle.walk.specs.declared.down.Pass.{Pass}
use Rattle.walk.specs.declared.found.Sought.TheVariants.{Higher, Lower, AtLeast}
use Rattle.walk.specs.declared.found.Wish.{Wish}
use Rattle.walk.specs.Laws.Entries.{below_true, open_leaf, open_inner, extra_inner, entry_slot}
use Rattle.walk.specs.Entries.{Inner}
use Rattle.client.specs.Layout.{ClientWord}
use Rattle.client.specs.Lent.{used_in}
use Rattle.walk.specs.Walk.{Course, Going, goes, stands, walked}
use Rattle.walk.specs.Ask.{Noted, nothing}
use Rattle.walk.specs.Laws.Ask.{none_held}
use Rattle.walk.specs.Lookup.{Ends}
use Rattle.walk.specs.Found.{first_pairs, pair_in, pairs_in, Roomy, to_right, answer_by, search_of, pairs_told, visit, side, LeafAt}
use Rattle.walk.specs.Laws.Lookup.{told_ended}
use Rattle.walk.specs.Laws.Found.{length_first, length_pairs, leaf_from, full_take, short_take}
use Rattle.walk.specs.Down.{Kid, nowhere, turn_in, turns_in, PathInPart, trail, Followed, All, blank}
use Rattle.walk.specs.Laws.Down.{stops_not, map_set, map_get, set_in_part, trail_more}
use Rattle.walk.specs.Seek.{more_with, more, onward, first_at, rest, climb, rests, Stacked, above, onto, times, pow, left_in, load, weight, Heading, heading_of, Climbed, Past, first_child, Standing, read_on, afterwards, Advanced, ReadOn, Tells, Seeks}

-- ---- ways out of the code on one node
pub more_right : (i c : ℕ) (right : Bool) → right ≡ true → ltb i c ≡ more_with right i c
more_right i c right t = rw t

pub more_left : (i c : ℕ) (right : Bool) → right ≡ false → ltb 0 i ≡ more_with right i c
more_left i c right t = rw t

pub onward_right : (i : ℕ) (right : Bool) → right ≡ true → i + 1 ≡ onward right i
onward_right i right t = rw t

pub onward_none : (i : ℕ) (right : Bool) → right ≡ false → i ≡ 0 → 0 ≡ onward right i
onward_none i right t e = rw (t, e)

pub onward_left : (i : ℕ) (right : Bool) → right ≡ false → i - 1 ≡ onward right i
onward_left i right t = rw t

pub ruleset turn_exits = (more_right, more_left, onward_right, onward_none, onward_left)

pub seek_climb : (g : Search) (right : Bool) (l : ℕ) (fs : List Branch) → seek_up g (visit right) (side right) l fs ≡ climb g right l (map (side right) fs)
unfolding climb
seek_climb g right l [] = refl
seek_climb g right l (f ∷ fs) = rw (seek_climb g right (suc l) fs)

-- a child of an inner node, and those left after it
leftward_last : (f : ℕ → ℕ → Onward → Onward) (es : Entries) (e : ℕ × ℕ) (p : Onward) → leftward f (es ++ (e ∷ [])) p ≡ f e.0 e.1 (leftward f es p)
leftward_last f [] e p = refl
leftward_last f (x ∷ es) e p = leftward_last f es e (f x.0 x.1 p)

visit_right : (f : ℕ → ℕ → Onward → Onward) (es : Entries) (i : ℕ) (p : Onward) → i < length es
    → rightward f (drop i es) p ≡ f (get_or es i (0, 0)).0 (get_or es i (0, 0)).1 (rightward f (drop (suc i) es) p)
visit_right f es i p h = rw (drop-cons es i (0, 0) h)

visit_left : (f : ℕ → ℕ → Onward → Onward) (es : Entries) (i : ℕ) (p : Onward) → i < length es
    → leftward f (take (suc i) es) p ≡ f (get_or es i (0, 0)).0 (get_or es i (0, 0)).1 (leftward f (take i es) p)
visit_left f es i p h = rw (take-suc es i (0, 0) h) (leftward_last f (take i es) (get_or es i (0, 0)) p)

-- the children of a node all left to visit: the first from that side
visit_first : (right : Bool) (f : ℕ → ℕ → Onward → Onward) (es : Entries) (n : ℕ) (p : Onward) → length es ≡ suc n
    → visit right f es p ≡ f (get_or es (cond right 0 n) (0, 0)).0 (get_or es (cond right 0 n) (0, 0)).1 (visit right f (rest right (cond right 0 n) es) p)
visit_first true f es n p h = visit_right f es 0 p (omega arith)
visit_first false f es n p h = let e : take (suc n) es ≡ es = take_all (suc n) es (omega arith) in rw e at (visit_left f es n p (omega arith))

-- the next of those left, after child number i of n + 1
visit_next : (right : Bool) (f : ℕ → ℕ → Onward → Onward) (es : Entries) (n i : ℕ) (p : Onward) → length es ≡ suc n → i ≤ n → cond right (ltb i n) (ltb 0 i) ≡ true
    → visit right f (rest right i es) p
    ≡ f (get_or es (onward right i) (0, 0)).0 (get_or es (onward right i) (0, 0)).1 (visit right f (rest right (onward right i) es) p)
visit_next true f es n i p h g t = let a : i < n = ltb-true i n t in rw add-one (visit_right f es (suc i) p (omega arith))
visit_next false f es n zero p h g t = let a : 0 < 0 = ltb-true 0 0 t in absurd (omega arith)
visit_next false f es n (suc i) p h g t = let e : suc i - 1 ≡ i = omega arith in rw e (visit_left f es i p (omega arith))

-- none is left
visit_none : (right : Bool) (f : ℕ → ℕ → Onward → Onward) (es : Entries) (n i : ℕ) (p : Onward) → length es ≡ suc n → i ≤ n → cond right (ltb i n) (ltb 0 i) ≡ false
    → visit right f (rest right i es) p ≡ p
visit_none true f es n i p h g t =
    let a : n ≤ i = ltb-false i n t in
    let e : drop (suc i) es ≡ [] = drop_of_length-le es {i = suc i} (omega arith) in rw e
visit_none false f es n zero p h g t = refl
visit_none false f es n (suc i) p h g t = let a : suc i ≤ 0 = ltb-false 0 (suc i) t in absurd (omega arith)

pub get_d_any : {A : Type 0} (l : List A) (i : ℕ) (a b : A) → i < length l → get_or l i a ≡ get_or l i b
get_d_any [] i a b h = absurd (omega arith)
get_d_any (x ∷ l) zero a b h = refl
get_d_any (x ∷ l) (suc i) a b h = get_d_any l i a b (omega arith)

trail_next : (p : List Turn) (b : Turn) (l top : ℕ) → l < top → suc l < length p → trail (set p (l + 1) b) l (top - l) ≡ b ∷ trail p (suc l) (top - suc l)
trail_next p b l top h g = let e : suc l - 1 ≡ l = omega arith in rw add-one (rw e at (trail_more p b (suc l) top (omega arith) (omega arith) g))

some_is : {A : Type 0} (x y : A) → Some x ≡ Some y → x ≡ y
some_is x y e = cc

none_some : {A B : Type 0} (x : A) → ◌≡◌ {A = Option A} None (Some x) → B
none_some x e = let z : ◌≡◌ {A = ℕ} 0 1 = cc in absurd (omega arith)

some_none : {A B : Type 0} (x : A) → ◌≡◌ {A = Option A} (Some x) None → B
some_none x e = let z : ◌≡◌ {A = ℕ} 0 1 = cc in absurd (omega arith)

-- how far a climb has come
pub record Climbing (right : Bool) (top : ℕ) (path : List Turn) (level l : ℕ) : Type 0 where
  pub lows : (ℕ → ℕ) → ℕ → ℕ
  pub same : (g : Search) (f : ℕ → ℕ) → climb g right level (rests right (trail path level (top - level)) f) ≡ climb g right l (rests right (trail path l (top - l)) (lows f))
  pub stacked : Stacked top path l
  pub lighter : load right l (trail path l (top - l)) ≤ load right level (trail path level (top - level))

pub climb_start : (right : Bool) (top : ℕ) (path : List Turn) (level : ℕ) → Stacked top path level → Climbing right top path level level
climb_start right top path level s = record { lows = λ f. f; same = λ g f. refl; stacked = s; lighter = omega arith }

module _ (right : Bool) (top : ℕ) (path : List Turn) (level l : ℕ) (c : Climbing right top path level l) where
  pub climb_ends : top ≤ l → Climbed right top path level None
  unfolding trail climb
  climb_ends h =
      let e : top - l ≡ 0 = omega arith in
      record {
        lo = λ f. 0;
        lows = λ f. f;
        ends = λ q g f. rw (c.same g f, e);
        next = λ h q. none_some h q;
        stacked = λ h q. none_some h q;
        below = λ h q. none_some h q;
        lighter = λ h q. none_some h q;
      }

  module _ (h : l < top) (d : Turn) where
    abbrev bs : List Turn
    bs = trail path (suc l) (top - suc l)

    inside : suc l < length path
    inside = omega (arith, c.stacked.size, c.stacked.high)

    here : get_or path (l + 1) d ≡ get_or path (suc l) blank
    here = rw add-one (get_d_any path (suc l) d blank inside)

    opened : trail path l (top - l) ≡ get_or path (l + 1) d ∷ bs
    unfolding trail
    opened = let e : top - l ≡ suc (top - suc l) = omega arith in rw (e, here)

    taken : Followed (get_or path (l + 1) d) × All bs
    unfolding All
    taken = rw opened at c.stacked.good

    long_enough : (lo : ℕ) → length (entries_of (get_or path (l + 1) d).node lo) ≡ suc (get_or path (l + 1) d).node.count
    long_enough lo = let x = extra_inner (get_or path (l + 1) d).node taken.0.inner in omega (arith, length_entries_of (get_or path (l + 1) d).node lo taken.0.whole)

    pub climb_at : (get_or path (l + 1) d).at ≤ 14
    climb_at = omega (arith, taken.0.within, taken.0.small.keys)

    tested : more right (get_or path (l + 1) d) ≡ cond right (ltb (get_or path (l + 1) d).at (get_or path (l + 1) d).node.count) (ltb 0 (get_or path (l + 1) d).at)
    unfolding more
    tested = go right
      where
        go : (r : Bool) → more r (get_or path (l + 1) d) ≡ cond r (ltb (get_or path (l + 1) d).at (get_or path (l + 1) d).node.count) (ltb 0 (get_or path (l + 1) d).at)
        go true = refl
        go false = refl

    loaded : load right l (trail path l (top - l)) ≡ times (left_in right (get_or path (l + 1) d)) (pow l) + load right (suc l) bs
    unfolding load
    loaded = rw opened

    less_left : load right (suc l) bs ≤ load right level (trail path level (top - level))
    less_left = omega (arith, c.lighter, loaded)

    pub climb_more : (t : Bool) → t ≡ more right (get_or path (l + 1) d) → t ≡ false → Climbing right top path level (l + 1)
    unfolding climb
    climb_more t p q =
        let i = (get_or path (l + 1) d).at in
        let e : cond right (ltb i (get_or path (l + 1) d).node.count) (ltb 0 i) ≡ false = sym tested ∙ sym p ∙ q in
        rw add-one (record {
          lows = λ f j. c.lows f (suc j);
          same = λ g f. rw (c.same g f, opened) (visit_none right (seek g (visit right) l) (entries_of (get_or path (l + 1) d).node (c.lows f 0)) (get_or path (l + 1) d).node.count i
              (climb g right (suc l) (rests right bs (λ j. c.lows f (suc j)))) (long_enough (c.lows f 0)) taken.0.within e);
          stacked = record { high = c.stacked.high; size = c.stacked.size; good = taken.1 };
          lighter = let w : load right (suc l) bs ≤ load right level (trail path level (top - level)) = less_left in w;
        })

    module _ (t : Bool) (p : t ≡ more right (get_or path (l + 1) d)) (q : t ≡ true) (at name : ℕ) (pa : at ≡ onward right (get_or path (l + 1) d).at) where
      going_on : cond right (ltb (get_or path (l + 1) d).at (get_or path (l + 1) d).node.count) (ltb 0 (get_or path (l + 1) d).at) ≡ true
      going_on = sym tested ∙ sym p ∙ q

      within : at ≤ (get_or path (l + 1) d).node.count
      within = go right refl going_on
        where
          go : (r : Bool) → right ≡ r → cond r (ltb (get_or path (l + 1) d).at (get_or path (l + 1) d).node.count) (ltb 0 (get_or path (l + 1) d).at) ≡ true → at ≤ (get_or path (l + 1) d).node.count
          go true e k =
              let y : (get_or path (l + 1) d).at < (get_or path (l + 1) d).node.count = ltb-true (get_or path (l + 1) d).at (get_or path (l + 1) d).node.count k in
              let w : at ≡ (get_or path (l + 1) d).at + 1 = rw e at pa in omega arith
          go false e k = let w : at ≡ (get_or path (l + 1) d).at - 1 = rw e at pa in omega (arith, taken.0.within)

      one_less : (n : Node) (i j : ℕ) → j ≡ onward right i → cond right (ltb i n.count) (ltb 0 i) ≡ true → cond right (n.count - i) i ≡ suc (cond right (n.count - j) j)
      one_less n i j e g = go right refl
        where
          go : (r : Bool) → right ≡ r → cond right (n.count - i) i ≡ suc (cond right (n.count - j) j)
          go true k = let y : i < n.count = ltb-true i n.count (rw k at g) in let w : j ≡ i + 1 = rw k at e in rw k (omega arith)
          go false k = let y : 0 < i = ltb-true 0 i (rw k at g) in let w : j ≡ i - 1 = rw k at e in rw k (omega arith)

      lighter_by : (b : Turn) → trail (set path (l + 1) b) l (top - l) ≡ b ∷ bs → left_in right (get_or path (l + 1) d) ≡ suc (left_in right b)
          → weight right top (set path (l + 1) b) l ≤ load right level (trail path level (top - level))
      unfolding weight load times
      lighter_by b s e =
          let w : weight right top (set path (l + 1) b) l ≡ times (suc (left_in right b)) (pow l) + load right (suc l) bs = rw (weight, s, load) (omega arith) in
          let v : load right l (trail path l (top - l)) ≡ times (suc (left_in right b)) (pow l) + load right (suc l) bs = rw e at loaded in
          omega (arith, c.lighter)

      pub climb_slot : at < 15
      climb_slot = omega (arith, within, taken.0.small.keys)

      pub climb_next : name ≡ get_or (get_or path (l + 1) d).node.slots at 0
          → Climbed right top path level (Some (record { path = set path (l + 1) (record { name = (get_or path (l + 1) d).name; at = at; node = (get_or path (l + 1) d).node }); level = l; name = name }))
      unfolding climb All
      climb_next pn =
          let n = (get_or path (l + 1) d).node in
          let b : Turn = record { name = (get_or path (l + 1) d).name; at = at; node = n } in
          let s : trail (set path (l + 1) b) l (top - l) ≡ b ∷ bs = trail_next path b l top h inside in
          let v : (lo : ℕ) → (get_or (entries_of n lo) at (0, 0)).1 ≡ name = λ lo. let x = extra_inner n taken.0.inner in rw pn (entry_slot n lo taken.0.whole at (omega (arith, within))) in
          let a : Heading = record { path = set path (l + 1) b; level = l; name = name } in
          let next : (g : Search) (f : ℕ → ℕ) → above g right top path level f ≡ onto g right top a.path a.level a.name (get_or (entries_of n (c.lows f 0)) at (0, 0)).0 (c.lows f) =
          λ g f. rw (c.same g f, opened, s, ← v (c.lows f 0), pa) (visit_next right (seek g (visit right) l) (entries_of n (c.lows f 0)) n.count (get_or path (l + 1) d).at
          (climb g right (suc l) (rests right bs (λ j. c.lows f (suc j)))) (long_enough (c.lows f 0)) taken.0.within going_on) in
          let stacked : Stacked top a.path a.level = record {
            high = c.stacked.high;
            size = simp length-set c.stacked.size;
            good = rw s (record { inner = taken.0.inner; whole = taken.0.whole; small = taken.0.small; within = within }, taken.1);
          } in
          let lighter : weight right top a.path a.level ≤ load right level (trail path level (top - level)) = lighter_by b s (one_less n (get_or path (l + 1) d).at at pa going_on) in
          record {
            lo = λ f. (get_or (entries_of n (c.lows f 0)) at (0, 0)).0;
            lows = λ f. c.lows f;
            ends = λ r. some_none a r;
            next = λ k r. rw (← some_is a k r) next;
            stacked = λ k r. rw (← some_is a k r) stacked;
            below = λ k r. rw (← some_is a k r) h;
            lighter = λ k r. rw (← some_is a k r) lighter;
          }

pass_there : (ps : List Pass) (i : ℕ) (d : Pass) → PathInPart ps → i < length ps → (get_or ps i d).place + 33 ≤ 7223
pass_there ps i d h l = rw (get_d_any ps i d nowhere l) (h.each i l)

-- ---- the same over what the code passes, in a part of the bytes b
module _ (b : List ℕ) (right : Bool) (top : ℕ) (ps : List Pass) (level l : ℕ) (c : Climbing right top (turns_in b ps) level l) where
  pub climbs_end : top ≤ l → Climbed right top (turns_in b ps) level None
  climbs_end h = climb_ends right top (turns_in b ps) level l c h

  module _ (h : l < top) (d : Pass) where
    abbrev p : Pass
    p = get_or ps (l + 1) d

    turn_there : get_or (turns_in b ps) (l + 1) (turn_in b d) ≡ turn_in b p
    turn_there = map_get (turn_in b) ps (l + 1) d

    pub climbs_room : PathInPart ps → length ps ≡ 5 → 7223 ≤ length b / 8 → (get_or ps (l + 1) d).place + 33 ≤ length b / 8
    climbs_room w e g =
        let i : l + 1 < length ps = omega (arith, c.stacked.high) in
        let r : (get_or ps (l + 1) d).place + 33 ≤ 7223 = pass_there ps (l + 1) d w i in
        omega arith

    pub climbs_kept : PathInPart ps → length ps ≡ 5 → (n v : ℕ) → PathInPart (set ps (l + 1) (record { name = n; at = v; place = (get_or ps (l + 1) d).place }))
    climbs_kept w e n v =
        let i : l + 1 < length ps = omega (arith, c.stacked.high) in
        set_in_part ps (l + 1) (record { name = n; at = v; place = (get_or ps (l + 1) d).place }) w (pass_there ps (l + 1) d w i)

    pub climbs_at : (get_or ps (l + 1) d).at ≤ 14
    climbs_at = rw turn_there at (climb_at right top (turns_in b ps) level l c h (turn_in b d))

    module _ (t : Bool) (n : ℕ) (pn : n ≡ (node_at (view b) (get_or ps (l + 1) d).place).count) (pt : t ≡ more_with right (get_or ps (l + 1) d).at n) where
      branch_asked : t ≡ more right (get_or (turns_in b ps) (l + 1) (turn_in b d))
      unfolding more
      branch_asked = pt ∙ rw (turn_there, ← pn)

      pub climbs_on : t ≡ false → Climbing right top (turns_in b ps) level (l + 1)
      climbs_on q = climb_more right top (turns_in b ps) level l c h (turn_in b d) t branch_asked q

      module _ (q : t ≡ true) (at name : ℕ) (pa : at ≡ onward right (get_or ps (l + 1) d).at) where
        onto_at : at ≡ onward right (get_or (turns_in b ps) (l + 1) (turn_in b d)).at
        onto_at = pa ∙ rw turn_there

        pub climbs_slot : at < 15
        climbs_slot = climb_slot right top (turns_in b ps) level l c h (turn_in b d) t branch_asked q at name onto_at

        pub climbs_next : name ≡ get_or (node_at (view b) (get_or ps (l + 1) d).place).slots at 0
            → Climbed right top (turns_in b ps) level
            (Some (heading_of b (record { path = set ps (l + 1) (record { name = (get_or ps (l + 1) d).name; at = at; place = (get_or ps (l + 1) d).place }); level = l; name = name })))
        climbs_next e =
            let y : Pass = record { name = p.name; at = at; place = p.place } in
            let v : name ≡ get_or (get_or (turns_in b ps) (l + 1) (turn_in b d)).node.slots at 0 = e ∙ rw turn_there in
            rw (map_set (turn_in b) ps (l + 1) y) (rw turn_there at (climb_next right top (turns_in b ps) level l c h (turn_in b d) t branch_asked q at name onto_at v))

pub ruleset climb_exits = (climb_start, climbs_end, climbs_at, climbs_on, climbs_slot, climbs_next, climbs_room, climbs_kept)

pub seek_reads : (g : Search) (right : Bool) (l lo n : ℕ) (p : Onward) (got : Entries) → seek g (visit right) l lo n p got ≡ kid [] l lo n (λ es. read_on g right l es p got)
unfolding read_on
seek_reads g right zero lo n p got = refl
seek_reads g right (suc l) lo n p got = refl

-- ---- on from a leaf
-- no more count than were wanted
pub told_taken : (q : Search) (l : Entries) → told q (take q.wanted l) ≡ told q l
told_taken q l = rw (take-take q.wanted q.wanted l (omega arith))

module _ (w : Wish) (top : ℕ) (path : List Turn) (n : Node) (h : LeafAt n) (got : Entries) (f' : List ℕ) where
  abbrev q : Search
  q = search_of w

  abbrev all : Entries
  all = got ++ q.in_leaf (entries_of n 0)

  module _ (same : pairs_in f' ≡ take w.wanted all) where
    leaf_is : (j : ℕ) → entries_of n j ≡ entries_of n 0
    leaf_is j = leaf_from n j (open_leaf n h.opened h.level)

    counted : length (take w.wanted all) ≡ get_or f' 0 0
    counted = ap length (sym same) ∙ length_pairs f'

    pub past_enough : get_or f' 0 0 ≡ w.wanted → Past w top path n got None (pairs_in f')
    past_enough e =
        let t : leb w.wanted (length all) ≡ true = le-leb w.wanted (length all) (full_take w.wanted all (omega (arith, counted))) in
        record {
          lo = λ f. 0;
          lows = λ f. f;
          ends = λ _ j f. rw (leaf_is j, t, same) (sym (told_taken q all));
          next = λ h k. none_some h k;
          stacked = λ h k. none_some h k;
          below = λ h k. none_some h k;
          lighter = λ h k. none_some h k;
        }

    pub past_climbs : (r : Bool) (a : Option Heading) → (get_or f' 0 0 ≡ w.wanted → ⊥) → Roomy w.wanted f' → r ≡ to_right w.sought → Climbed r top path 0 a → Past w top path n got a (pairs_in f')
    past_climbs r a d room e c' =
        let c : Climbed (to_right w.sought) top path 0 a = rw e at c' in
        let s : take w.wanted all ≡ all = short_take w.wanted all (omega (arith, counted, room.within)) in
        let l : length all < w.wanted = omega (arith, counted, room.within, ap length s) in
        let t : leb w.wanted (length all) ≡ false = lt-leb w.wanted (length all) l in
        record {
          lo = c.lo;
          lows = c.lows;
          ends = λ k j f. rw (leaf_is j, t, same, s, c.ends k q f);
          next = λ h k j f. rw (leaf_is j, t, same, s, c.next h k q f);
          stacked = c.stacked;
          below = c.below;
          lighter = c.lighter;
        }

pub ruleset past_exits = (past_enough, past_climbs)

times_mono : (r s p : ℕ) → r ≤ s → times r p ≤ times s p
unfolding times
times_mono zero s p h = omega arith
times_mono (suc r) zero p h = absurd (omega arith)
times_mono (suc r) (suc s) p h = omega (arith, times_mono r s p (omega arith))

pow_some : (l : ℕ) → 1 ≤ pow l
unfolding pow times
pow_some zero = omega arith
pow_some (suc l) = omega (arith, pow_some l)

pow_more : (l c : ℕ) → c ≤ 14 → pow l + times c (pow l) < pow (suc l)
unfolding pow times
pow_more l c h = omega (arith, times_mono (suc c) 15 (pow l) (omega arith), pow_some l)

read_inner : (g : Search) (right : Bool) (l : ℕ) (es : Entries) (p : Onward) (got : Entries) → (l ≡ 0 → ⊥) → read_on g right l es p got ≡ visit right (seek g (visit right) (l - 1)) es p got
unfolding read_on
read_inner g right zero es p got z = absurd (z refl)
read_inner g right (suc l) es p got z = let e : suc l - 1 ≡ l = omega arith in rw e

first_is : (right : Bool) (c : ℕ) → first_at right c ≡ cond right 0 c
first_is true c = refl
first_is false c = refl

first_left : (right : Bool) (c : ℕ) → cond right (c - cond right 0 c) (cond right 0 c) ≡ c
first_left true c = omega arith
first_left false c = refl

abbrev pushed : ℕ → (ℕ → ℕ) → ℕ → ℕ
pushed j f zero = j
pushed j f (suc i) = f i

-- ---- on from a node below the root
pub at_leaf : (n : Node) (level top : ℕ) → Standing n level top → level ≡ 0 → LeafAt n
at_leaf n level top s z = record { whole = s.whole; small = s.small; opened = s.opened; level = s.level_is ∙ z }

pub stacked_leaf : (top : ℕ) (path : List Turn) (level : ℕ) → Stacked top path level → level ≡ 0 → Stacked top path 0
stacked_leaf top path level k z = rw z at k

pub inner_level : (n : Node) (level top : ℕ) (path : List Turn) → Standing n level top → Stacked top path level → (level ≡ 0 → ⊥) → (0 < level) × (level ≤ 4) × (n.count ≤ 14)
inner_level n level top path s k z = (omega arith, omega (arith, s.below, k.high), s.small.keys)

module _ (w : Wish) (top : ℕ) (path : List Turn) (level : ℕ) (n : Node) (got : Entries) where
  abbrev to : Bool
  to = to_right w.sought

  pub leaf_passed : (a : Option Heading) (got' : Entries) → level ≡ 0 → Past w top path n got a got' → Advanced w top path level n got a got'
  unfolding read_on weight pow
  leaf_passed a got' z p = rw z (record {
    lo = λ j f. p.lo f;
    lows = λ j f. p.lows f;
    ends = λ k j f. p.ends k j f;
    next = λ h k j f. p.next h k j f;
    stacked = p.stacked;
    below = p.below;
    lighter = λ h k. omega (arith, p.lighter h k);
  })

  module _ (s : Standing n level top) (k : Stacked top path level) (z : level ≡ 0 → ⊥) where
    at_most : (r : Bool) → cond r 0 n.count ≤ n.count
    at_most true = omega arith
    at_most false = omega arith

    pub inner_down : (r : Bool) (name : ℕ) (a : Heading) → r ≡ to → a ≡ first_child r path level name n → Advanced w top path level n got (Some a) got
    unfolding climb All weight load first_child
    inner_down r name a pr is' =
        let is : a ≡ first_child to path level name n = rw pr at is' in
        let at : ℕ = cond to 0 n.count in
        let b : Turn = record { name = name; at = at; node = n } in
        let i : Inner n = open_inner n s.opened (omega (arith, s.level_is)) in
        let x = extra_inner n i in
        let e : suc (level - 1) ≡ level = omega arith in
        let most : at ≤ n.count = at_most to in
        let t : trail (set path level b) (level - 1) (top - (level - 1)) ≡ b ∷ trail path level (top - level) =
        trail_more path b level top (omega arith) (omega (arith, s.below)) (omega (arith, s.below, k.high, k.size)) in
        let v : (j : ℕ) → (get_or (entries_of n j) at (0, 0)).1 ≡ get_or n.slots at 0 = λ j. entry_slot n j s.whole at (omega arith) in
        let m : left_in to b ≡ n.count = first_left to n.count in
        let g : Heading = record { path = set path level b; level = level - 1; name = get_or n.slots at 0 } in
        let ga : g ≡ a = rw (is, first_is to n.count) in
        let next : (j : ℕ) (f : ℕ → ℕ) → afterwards w top path level n j f got ≡ onto (search_of w) to top g.path g.level g.name (get_or (entries_of n j) at (0, 0)).0 (pushed j f) got =
        λ j f. let p = above (search_of w) to top path level f in
        rw (t, read_inner (search_of w) to level (entries_of n j) p got z, e, ← v j)
        (ap (λ (o : Onward). o got) (visit_first to (seek (search_of w) (visit to) (level - 1)) (entries_of n j) n.count p (omega (arith, length_entries_of n j s.whole)))) in
        let stacked : Stacked top g.path g.level = record { high = k.high; size = simp length-set k.size; good = rw t (record { inner = i; whole = s.whole; small = s.small; within = at_most to }, k.good) } in
        let y : pow (level - 1) + times n.count (pow (level - 1)) < pow level = rw e at (pow_more (level - 1) n.count s.small.keys) in
        let lighter : weight to top g.path g.level < weight to top path level = rw (weight, t, load, m, e) (omega arith) in
        let below : g.level < top = omega (arith, s.below) in
        rw (← ga) (record {
          lo = λ j f. (get_or (entries_of n j) at (0, 0)).0;
          lows = λ j f. pushed j f;
          ends = λ q. some_none g q;
          next = λ h q. rw (← some_is g h q) next;
          stacked = λ h q. rw (← some_is g h q) stacked;
          below = λ h q. rw (← some_is g h q) below;
          lighter = λ h q. rw (← some_is g h q) lighter;
        })

pub ruleset advance_exits = (at_leaf, stacked_leaf, leaf_passed, inner_down, inner_level)

-- the first child, where the inner node stands in a part of the bytes b
module _ (b : List ℕ) (right : Bool) (ps : List Pass) (level name p : ℕ) where
  pub first_inside : (c at : ℕ) → (node_at (view b) p).count ≤ 14 → c ≡ (node_at (view b) p).count → at ≡ first_at right c → at < 15
  first_inside c at l d e = go right refl
    where
      go : (r : Bool) → right ≡ r → at < 15
      go true t = let w : at ≡ 0 = rw t at e in omega arith
      go false t = let w : at ≡ c = rw t at e in omega arith

  pub first_down : (c at child : ℕ) → c ≡ (node_at (view b) p).count → at ≡ first_at right c → child ≡ get_or (node_at (view b) p).slots at 0
      → heading_of b (record { path = set ps level (record { name = name; at = at; place = p }); level = level - 1; name = child })
      ≡ first_child right (turns_in b ps) level name (node_at (view b) p)
  unfolding first_child
  first_down c at child d e h = rw (map_set (turn_in b) ps level (record { name = name; at = at; place = p }), h, e, d)

pub ruleset first_exits = (first_inside, first_down, set_in_part)

module _ (slots : ℕ) (m : ClientWord → ℕ) (u : List ℕ) (w : Wish) (top : ℕ) (path : List Turn) (level name : ℕ) (got : Entries) (n : Node) (u' : List ℕ) where
  pub read_stops : (s : Course) (a : Option Heading) (got' : Entries) → goes s ≡ false → Kid slots m nothing u level name s n u' → ReadOn slots m u w top path level name got s a u' got'
  read_stops s a got' halts h = record {
    node = n;
    asks = λ j f. rw (seek_reads (search_of w) (to_right w.sought) level j name (above (search_of w) (to_right w.sought) top path level f) got, h.asks [] (none_held slots));
    noted = h.noted;
    long = h.long;
    leads = λ t. stops_not s halts t;
  }

  pub read_leads : (a : Option Heading) (got' : Entries) → Kid slots m nothing u level name Going n u' → Advanced w top path level n got a got' → ReadOn slots m u w top path level name got Going a u' got'
  read_leads a got' h v = record {
    node = n;
    asks = λ j f. rw (seek_reads (search_of w) (to_right w.sought) level j name (above (search_of w) (to_right w.sought) top path level f) got, h.asks [] (none_held slots));
    noted = h.noted;
    long = h.long;
    leads = λ t. v;
  }

pub read_standing : (slots : ℕ) (m : ClientWord → ℕ) (u : List ℕ) (level name : ℕ) (n : Node) (u' : List ℕ) (top : ℕ) → Kid slots m nothing u level name Going n u' → level < top → Standing n level top
read_standing slots m u level name n u' top h lt =
    let q = below_true level n (h.fits refl) in
    record { whole = h.whole refl; small = h.small refl; opened = q.opened; level_is = q.level; below = lt }

pub ruleset read_exits = (read_stops, read_leads, read_standing)

-- ---- the answer by the pairs found
-- the nearest is the first
nearest_app : (l m : Entries) → 0 < length l → nearest (l ++ m) ≡ nearest l
nearest_app [] m h = absurd (omega arith)
nearest_app (e ∷ l) m h = refl

nearest_some : (f : List ℕ) (n : ℕ) → nearest (first_pairs f (suc n)) ≡ (1, get_or f 1 0, [])
unfolding first_pairs pair_in
nearest_some f zero = refl
nearest_some f (suc n) = let h : 0 < length (first_pairs f (suc n)) = rw (length_first f (suc n)) (omega arith) in
    nearest_app (first_pairs f (suc n)) (pair_in f (suc n) ∷ []) h ∙ nearest_some f n

module _ (m : ClientWord → ℕ) (u : List ℕ) (f : List ℕ) (s : Course) (u' : List ℕ) where
  pub nearest_none_told : get_or f 0 0 ≡ 0 → Ends m u 0 0 s u' → Ends m u (nearest (pairs_in f)).0 (nearest (pairs_in f)).1 s u'
  unfolding pairs_in first_pairs
  nearest_none_told e q = rw e q

  pub nearest_told : (x : ℕ) → (get_or f 0 0 ≡ 0 → ⊥) → x ≡ get_or f 1 0 → Ends m u 1 x s u' → Ends m u (nearest (pairs_in f)).0 (nearest (pairs_in f)).1 s u'
  unfolding pairs_in
  nearest_told x d e q =
      let n : get_or f 0 0 ≡ suc (get_or f 0 0 - 1) = omega arith in
      rw (n, nearest_some f (get_or f 0 0 - 1), ← e) q

pub ruleset nearest_exits = (nearest_none_told, nearest_told)

module _ (m : ClientWord → ℕ) (u : List ℕ) (w : Wish) (f : List ℕ) (s : Course) (u' : List ℕ) (r : Roomy w.wanted f) where
  all_taken : take w.wanted (pairs_in f) ≡ pairs_in f
  all_taken = take_all w.wanted (pairs_in f) (rw (length_pairs f) r.within)

  tells : (a : Ans) → answer_by w.sought (pairs_in f) ≡ a → Ends m u a.0 a.1 s u' → Tells m u w (pairs_in f) s u'
  tells a e t =
      let p : pairs_told w (pairs_in f) ≡ a.2 = ap (λ (x : Ans). x.2) e in
      record { same = λ slots. rw (all_taken, p, e) (t.same slots [] a.2); noted = t.noted }

  pub tell_higher : w.sought ≡ Higher → Ends m u (nearest (pairs_in f)).0 (nearest (pairs_in f)).1 s u' → Tells m u w (pairs_in f) s u'
  tell_higher e t = tells (nearest (pairs_in f)) (rw e) t

  pub tell_lower : w.sought ≡ Lower → Ends m u (nearest (pairs_in f)).0 (nearest (pairs_in f)).1 s u' → Tells m u w (pairs_in f) s u'
  tell_lower e t = tells (nearest (pairs_in f)) (rw e) t

  pub tell_listed : (n : ℕ) → w.sought ≡ AtLeast → n ≡ get_or f 0 0 → Ends m u n 0 s u' → Tells m u w (pairs_in f) s u'
  tell_listed n e c t = tells (n, 0, pairs_in f) (rw (e, length_pairs f, c)) t

  pub roomy_there : 1 < length f
  roomy_there = omega (arith, r.long, r.some)

pub ruleset tell_exits = (tell_higher, tell_lower, tell_listed, roomy_there)

-- how far the search has come
pub record Seeking (slots : ℕ) (m : ClientWord → ℕ) (u₀ : List ℕ) (w : Wish) (top : ℕ) (path₀ : List Turn) (level₀ name₀ : ℕ) (got₀ : Entries) (path : List Turn) (level name : ℕ) (u : List ℕ) (got : Entries) : Type 0 where
  pub lo : ℕ → (ℕ → ℕ) → ℕ
  pub lows : ℕ → (ℕ → ℕ) → ℕ → ℕ
  pub same : (j : ℕ) (f : ℕ → ℕ)
      → walked slots m (onto (search_of w) (to_right w.sought) top path₀ level₀ name₀ j f got₀) (used_in u₀)
      ≡ walked slots m (onto (search_of w) (to_right w.sought) top path level name (lo j f) (lows j f) got) (used_in u)
  pub stacked : Stacked top path level
  pub below : level < top
  pub noted : Noted m u

pub seek_start : (slots : ℕ) (m : ClientWord → ℕ) (u : List ℕ) (w : Wish) (top : ℕ) (path : List Turn) (level name : ℕ) (got : Entries) → Stacked top path level × (level < top) → Noted m u
    → Seeking slots m u w top path level name got path level name u got
seek_start slots m u w top path level name got k n =
    record { lo = λ j f. j; lows = λ j f. f; same = λ j f. refl; stacked = k.0; below = k.1; noted = n }

module _ (slots : ℕ) (m : ClientWord → ℕ) (u₀ : List ℕ) (w : Wish) (top : ℕ) (path₀ : List Turn) (level₀ name₀ : ℕ) (got₀ : Entries) (path : List Turn) (level name : ℕ) (u : List ℕ) (got : Entries) (d : Seeking slots m u₀ w top path₀ level₀ name₀ got₀ path level name u got) (u₁ : List ℕ) (got₁ : Entries) where
  pub seek_stops : (t : Course) (a : Option Heading) (ps : Entries) → goes t ≡ false → stands t ≡ false → ReadOn slots m u w top path level name got t a u₁ got₁
      → Seeks slots m u₀ w top path₀ level₀ name₀ got₀ t u₁ ps
  seek_stops t a ps halts silent h = record { same = λ j f. rw (d.same j f, h.asks (d.lo j f) (d.lows j f), halts) (told_ended t (used_in u₁) [] ps halts silent); noted = h.noted }

  pub seek_ends : (s : Course) (u₂ : List ℕ) → ReadOn slots m u w top path level name got Going None u₁ got₁ → Tells m u₁ w got₁ s u₂ → Seeks slots m u₀ w top path₀ level₀ name₀ got₀ s u₂ (pairs_told w got₁)
  seek_ends s u₂ h q = record {
    same = λ j f. rw (d.same j f, h.asks (d.lo j f) (d.lows j f), (h.leads refl).ends refl (d.lo j f) (d.lows j f)) (q.same slots);
    noted = q.noted;
  }

  module _ (p : List Turn) (l n : ℕ) (h : ReadOn slots m u w top path level name got Going (Some (record { path = p; level = l; name = n })) u₁ got₁) where
    abbrev a : Heading
    a = record { path = p; level = l; name = n }

    pub seek_more : Seeking slots m u₀ w top path₀ level₀ name₀ got₀ p l n u₁ got₁
    seek_more = let v = h.leads refl in
        record {
          lo = λ j f. v.lo (d.lo j f) (d.lows j f);
          lows = λ j f. v.lows (d.lo j f) (d.lows j f);
          same = λ j f. rw (d.same j f, h.asks (d.lo j f) (d.lows j f), v.next a refl (d.lo j f) (d.lows j f));
          stacked = v.stacked a refl;
          below = v.below a refl;
          noted = h.noted;
        }

    pub seek_less : weight (to_right w.sought) top p l < weight (to_right w.sought) top path level
    seek_less = (h.leads refl).lighter a refl

pub seek_noted : (slots : ℕ) (m : ClientWord → ℕ) (u : List ℕ) (w : Wish) (top : ℕ) (path : List Turn) (level name : ℕ) (got : Entries) (s : Course) (a : Option Heading) (u₁ : List ℕ) (got₁ : Entries)
    → ReadOn slots m u w top path level name got s a u₁ got₁ → Noted m u₁
seek_noted slots m u w top path level name got s a u₁ got₁ h = h.noted

pub ruleset seek_exits = (seek_start, seek_stops, seek_noted, seek_ends, seek_more, seek_less)
