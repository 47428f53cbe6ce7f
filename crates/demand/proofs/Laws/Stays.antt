-- Operations and servers. An operation leaves the servers' states as they are: the metadata is written in one place only, with the states of the
-- metadata that was read. And it asks for the metadata first, and for the flag of a slot only where that slot is on an open server or its node was read.
use Rattle.std.specs.Prelude.{◌≡◌, Bool, true, false, cond, ◌⊎◌, ℕ, zero, suc, ◌-◌, ◌<◌, leb, length, take, drop}
use Rattle.std.proofs.Math.Path.{refl}
use Rattle.std.proofs.Common.{ap, sym, ◌∙◌, subst, inl, inr}
use mathlib.Core.List.{List, [], ◌∷◌, ◌++◌}
use Rattle.std.proofs.Math.Option.{Option, none, some}
use Rattle.std.proofs.Math.Decide.{ℕ_discrete, dec_lt, dec_le}
use Rattle.base.specs.Test.{ifd}
use Rattle.base.proofs.Laws.Test.{ifd_all}
use Rattle.plans.specs.Walk.{Every, used}
use Rattle.protocol.specs.Lists.{Among}
use Rattle.nodes.specs.Lists.{remove_at}
use Rattle.nodes.specs.Name.{name, server_of, slot_of}
use Rattle.nodes.specs.Placement.{row}
use Rattle.nodes.specs.States.{is_open}
use Rattle.operations.specs.Object.{Obj, meta, node, flag, Ask, object, vector, fetched, Val, root, body, taken, flags, free, states_of, flags_of, no_tree, Why, Ans, Writes, hit}
use Rattle.operations.specs.Map.{Op, insert, lookup, delete, next, previous, migrate, list, fresh}
use Rattle.operations.specs.Entry.{Entries, node_value, fewest_entries, most_entries, first_key_or, cut, place_in, value_in, above_in, below_in, with_pair}
use Rattle.operations.specs.Path.{TreePlan, see, when_root, open_node, kid, Branch, Cont, to_leaf, down, at_root, from_root}
use Rattle.operations.specs.Slot.{counted, free_slot, chosen, search, open_ones, when_free_flag, take_flag, take_on, take_for, when_free_node, take_node, release}
use Rattle.operations.specs.Look.{Search, Onward, enough, Visit, rightward, leftward, seek, seek_up, from_leaf, one_of, listing}
use Rattle.operations.specs.Change.{Go, with_one, with_two, at_top, onward, collapsed, parted, merged, with_right, with_left, unsnoc, left_of, neighbour, split_root, split, up, delete_at}
use Rattle.operations.specs.Migrate.{moved, move_at, to_level, first_key, move_below, move_node, move_if}
use Rattle.operations.specs.Operation.{reading, plan}
use Rattle.operations.proofs.Laws.Slots.{Each, Open, open_slot}
use Rattle.operations.proofs.Laws.Hit.{hit_eq}
use Rattle.operations.proofs.Laws.Along.{Along, Ended, along_exec, along_walk, along_checked}
use Rattle.plans.specs.Plan as P
use Rattle.plans.proofs.Laws.Walk as W

-- the states st are kept by a write
abbrev pub Keeps : ℕ → Obj → Val → Type 0
Keeps st meta v = states_of v ≡ st
Keeps st (node n) v = Unit {0}
Keeps st (flag n) v = Unit {0}

abbrev pub AllKeep : ℕ → Writes → Type 0
AllKeep st [] = Unit {0}
AllKeep st (e ∷ w) = Keeps st e.0 e.1 × AllKeep st w

all_open : (states : ℕ) (ss : List ℕ) → Every (λ s. is_open states s ≡ true) (open_ones states ss)
unfolding Every
all_open states [] = tt
all_open states (s ∷ ss) = go (is_open states s) refl (all_open states ss)
  where
    go : (b : Bool) → is_open states s ≡ b → Every (λ s. is_open states s ≡ true) (open_ones states ss) → Every (λ s. is_open states s ≡ true) (cond b (s ∷ open_ones states ss) (open_ones states ss))
    go true e r = (e, r)
    go false e r = r

-- st: the states of the metadata, whenever it is read; Home holds of every slot of an open server
pub record Servers (slots : ℕ) : Type 1 where
  pub st : ℕ
  pub Home : ℕ → Type 0
  pub new : (s i : ℕ) → is_open st s ≡ true → i < slots → Home (name s i)

-- R: what was asked for
module _ (slots : ℕ) (T : Servers slots) (R : Obj → Type 0) where
  abbrev st : ℕ
  st = T.st

  -- every other object is asked for after the metadata; and the flag of a slot that is on an open server, or whose node was asked for
  abbrev pub Asks : Ask → Type 0
  Asks (object meta) = Unit {0}
  Asks (object (node n)) = R meta
  Asks (object (flag n)) = R meta × (T.Home n ⊎ R (node n))
  Asks (vector s) = R meta
  Asks (fetched s) = R meta

  abbrev pub Reads : Ask → Val → Type 0
  Reads (object o) v = R o × Keeps st o v
  Reads (vector s) v = Unit {0}
  Reads (fetched s) v = Unit {0}

  -- what is written was asked for
  abbrev Well : Writes → Type 0
  Well [] = Unit {0}
  Well (e ∷ w) = (R e.0 × Keeps st e.0 e.1) × Well w

  abbrev pub Ok : TreePlan → Type 0
  Ok p = Along Asks Reads (λ a w. Well w) p

  if_ok : {P : Type 0} (d : Dec P) (p q : TreePlan) → Ok p → Ok q → Ok (ifd d p q)
  if_ok d p q h g = ifd_all d p q Ok (λ _. h) (λ _. g)

  cond_ok : (b : Bool) (p q : TreePlan) → Ok p → Ok q → Ok (cond b p q)
  cond_ok true p q h g = h
  cond_ok false p q h g = g

  see_ok : (w : Writes) (o : Obj) (k : Val → TreePlan) → Well w → Asks (object o) → ((v : Val) → R o → Ok (k v)) → Ok (see w o k)
  see_ok [] o k h i g = (i, λ v a. g v a.0)
  see_ok (e ∷ w) o k h i g = go (hit e.0 o) refl (see_ok w o k h.1 i g)
    where
      go : (b : Bool) → hit e.0 o ≡ b → Ok (see w o k) → Ok (cond b (k e.1) (see w o k))
      go true q r = g e.1 (subst R (hit_eq e.0 o q) h.0.0)
      go false q r = r

  root_ok : (v : Val) (k : ℕ → TreePlan) → ((r : ℕ) → Ok (k r)) → Ok (when_root v k)
  root_ok (root r t) k h = h r
  root_ok (body j l ks vs) k h = tt
  root_ok (taken b) k h = tt
  root_ok (flags fs) k h = tt

  open_ok : (lo : ℕ) (v : Val) (k : ℕ → Entries → TreePlan) → ((l : ℕ) (es : Entries) → Ok (k l es)) → Ok (open_node lo v k)
  open_ok lo (root r t) k h = tt
  open_ok lo (taken b) k h = tt
  open_ok lo (flags fs) k h = tt
  open_ok lo (body zero l ks vs) k h = tt
  open_ok lo (body (suc zero) zero ks vs) k h = h 0 _
  open_ok lo (body (suc zero) (suc l) ks vs) k h = tt
  open_ok lo (body (suc (suc zero)) zero ks vs) k h = tt
  open_ok lo (body (suc (suc zero)) (suc l) ks vs) k h = h (suc l) _
  open_ok lo (body (suc (suc (suc j))) l ks vs) k h = tt

  -- after the metadata was asked for
  module _ (m : R meta) where
    -- ---- the way down
    kid_ok : (w : Writes) (l lo n : ℕ) (k : Entries → TreePlan) → Well w → ((es : Entries) → R (node n) → Ok (k es)) → Ok (kid w l lo n k)
    kid_ok w l lo n k h g =
        see_ok w (node n) _ h m (λ v r. open_ok lo v _ (λ j es.
        if_ok (ℕ_discrete j l) _ (P.fail no_tree) (if_ok (dec_le (fewest_entries l) (length es)) (k es) (P.fail no_tree) (g es r) tt) tt))

    -- the nodes of a path were asked for
    abbrev Path : List Branch → Type 0
    Path [] = Unit {0}
    Path (f ∷ fs) = R (node f.nm) × Path fs

    down_ok : (stop : ℕ → Bool) (key : ℕ) (k : Cont) → ((l : ℕ) (fs : List Branch) (n : ℕ) (es : Entries) → Path fs → R (node n) → Ok (k l fs n es))
        → (l : ℕ) (fs : List Branch) (n : ℕ) (es : Entries) → Path fs → R (node n) → Ok (down stop key k l fs n es)
    down_ok stop key k h zero fs n es p r = h zero fs n es p r
    down_ok stop key k h (suc l) fs n [] p r = tt
    down_ok stop key k h (suc l) fs n (e ∷ es) p r =
        let c = cut key e es in
        let f : Branch = record { nm = n; key = c.1.0; pre = c.0; post = c.2 } in
        cond_ok (stop (suc l)) _ _ (h (suc l) fs n (e ∷ es) p r)
        (kid_ok [] l c.1.0 c.1.1 (λ es'. down stop key k l (f ∷ fs) c.1.1 es') tt (λ es' q. down_ok stop key k h l (f ∷ fs) c.1.1 es' (r, p) q))

    at_root_ok : (r : ℕ) (k : ℕ → Entries → TreePlan) → ((l : ℕ) (es : Entries) → R (node r) → Ok (k l es)) → Ok (at_root r k)
    at_root_ok r k h = (m, λ u a. open_ok 0 u k (λ l es. h l es a.0))

    -- ---- slots
    flag_ok : (w : Writes) (d : ℕ) (k : Writes → TreePlan) → Well w → T.Home d → ((u : Writes) → Well u → Ok (k u)) → Ok (take_flag w d k)
    flag_ok w d k h i g = see_ok w (flag d) _ h (m, inl i) (λ v r. go v (g ((flag d, taken true) ∷ w) ((r, tt), h)))
      where
        go : (v : Val) → Ok (k ((flag d, taken true) ∷ w)) → Ok (when_free_flag v (k ((flag d, taken true) ∷ w)))
        go (root r t) q = tt
        go (body j l ks vs) q = tt
        go (taken true) q = tt
        go (taken false) q = q
        go (flags fs) q = tt

    node_ok : (w : Writes) (d : ℕ) (k : TreePlan) → Well w → (R (node d) → Ok k) → Ok (take_node w d k)
    node_ok w d k h g = see_ok w (node d) _ h m (λ v r. go v (g r))
      where
        go : (v : Val) → Ok k → Ok (when_free_node v k)
        go (root r t) q = tt
        go (body zero l ks vs) q = q
        go (body (suc j) l ks vs) q = tt
        go (taken b) q = tt
        go (flags fs) q = tt

    release_ok : (w : Writes) (n : ℕ) (k : Writes → TreePlan) → Well w → R (node n) → ((u : Writes) → Well u → Ok (k u)) → Ok (release w n k)
    release_ok w n k h r g = see_ok w (flag n) _ h (m, inr r) (λ v q. g ((node n, free) ∷ (flag n, taken false) ∷ w) ((r, tt), ((q, tt), h)))

    search_ok : (w : Writes) (slot : ℕ) (ss : List ℕ) (k : ℕ → TreePlan) → Every (λ s. is_open st s ≡ true) ss → ((d : ℕ) → T.Home d → Ok (k d))
        → Ok (search slots w slot ss k)
    unfolding Every
    search_ok w slot [] k o h = tt
    search_ok w slot (s ∷ ss) k o h =
        (m, λ v _. go v _ (m, λ u _. go u (search slots w slot ss k) (search_ok w slot ss k o.1 h)))
      where
        go : (v : Val) (p : TreePlan) → Ok p → Ok (chosen s (free_slot slots w slot s v) k p)
        go v p q = by (free_slot slots w slot s v) (open_slot slots w slot s v)
          where
            by : (i : Option ℕ) → Each (λ i. (i < slots) × Open (counted w s (flags_of v)) i) i → Ok (chosen s i k p)
            by none u = q
            by (some i) u = h (name s i) (T.new s i o.0 u.0)

    take_ok : (ss : List ℕ) (slot : ℕ) (w : Writes) (k : ℕ → Writes → TreePlan) → Well w → ((d : ℕ) (u : Writes) → Well u → Ok (k d u))
        → Ok (take_on slots ss slot w k)
    take_ok ss slot w k h g = (
      tt,
      λ v a. search_ok w slot (open_ones (states_of v) ss) _ (subst (λ (x : ℕ). Every (λ s. is_open x s ≡ true) (open_ones (states_of v) ss)) a.1 (all_open (states_of v) ss))
          (λ d i. flag_ok w d (λ u. k d u) h i (g d)),
    )

    -- ---- the way up
    abbrev Goes : Go → Type 0
    Goes go = (w : Writes) (es : Entries) → Well w → Ok (go w es)

    parted_ok : (go : Go) → Goes go → (l : ℕ) (w : Writes) (f : Branch) (c : ℕ) (es : Entries) (d : ℕ) (es' : Entries) → Well w → R (node c) → R (node d)
        → Ok (parted go l w f c es d es')
    parted_ok go g l w f c es d es' h p q =
        g ((node d, node_value l es') ∷ (node c, node_value l es) ∷ w) (with_two f c (first_key_or es' 0) d) ((q, tt), ((p, tt), h))

    module _ (a : Ans) (l : ℕ) (fs : List Branch) (go : Go) (g : Goes go) where
      merged_ok : (w : Writes) (f : Branch) (c : ℕ) (es : Entries) → Well w → R (node f.nm) → R (node c) → Ok (merged a l fs go w f c es)
      merged_ok w f c es h p r = by fs
        where
          one : Ok (onward a l fs go w f c es)
          one = g ((node c, node_value l es) ∷ w) (with_one f c) ((r, tt), h)

          by : (gs : List Branch) → let p = onward a l fs go w f c es in Ok (at_top gs (ifd (ℕ_discrete (length (with_one f c)) 1) (collapsed a l fs go w f c es) p) p)
          by [] = if_ok (ℕ_discrete (length (with_one f c)) 1) _ _ (release_ok w c (λ w'. P.done (a, (node f.nm, node_value l es) ∷ w')) h r (λ u n. ((p, tt), n))) one
          by (x ∷ gs) = one

      with_right_ok : (w : Writes) (f : Branch) (c : ℕ) (es : Entries) (k2 c2 : ℕ) → Well w → R (node f.nm) → R (node c) → Ok (with_right a l fs go w f c es k2 c2)
      with_right_ok w f c es k2 c2 h p r =
          if_ok (ℕ_discrete c2 c) (P.fail no_tree) _ tt
          (kid_ok w l k2 c2 _ h (λ es2 q. if_ok (dec_lt (fewest_entries l) (length es2)) _ _ (parted_ok go g l w f c (es ++ take 1 es2) c2 (drop 1 es2) h r q)
          (release_ok w c2 (λ w'. merged a l fs go w' f c (es ++ es2)) h q (λ u n. merged_ok u f c (es ++ es2) n p r))))

      with_left_ok : (w : Writes) (f : Branch) (c : ℕ) (es : Entries) (c1 : ℕ) → Well w → R (node f.nm) → R (node c) → Ok (with_left a l fs go w f c es c1)
      with_left_ok w f c es c1 h p r =
          if_ok (ℕ_discrete c1 c) (P.fail no_tree) _ tt
          (kid_ok w l f.key c1 _ h (λ es1 q. if_ok (dec_lt (fewest_entries l) (length es1)) _ _
          (parted_ok go g l w f c1 (take (length es1 - 1) es1) c (drop (length es1 - 1) es1 ++ es) h q r)
          (release_ok w c (λ w'. merged a l fs go w' f c1 (es1 ++ es)) h r (λ u n. merged_ok u f c1 (es1 ++ es) n p q))))

      neighbour_ok : (w : Writes) (f : Branch) (c : ℕ) (es post : Entries) → Well w → R (node f.nm) → R (node c) → Ok (neighbour a l fs go w f c es post)
      neighbour_ok w f c es (e ∷ post) h p r = with_right_ok w (record { nm = f.nm; key = f.key; pre = f.pre; post = post }) c es e.0 e.1 h p r
      neighbour_ok w f c es [] h p r = by (unsnoc f.pre)
        where
          by : (o : Option (Entries × (ℕ × ℕ))) → Ok (left_of a l fs go w f.nm c es o)
          by none = tt
          by (some q) = with_left_ok w (record { nm = f.nm; key = q.1.0; pre = q.0; post = [] }) c es q.1.1 h p r

    split_root_ok : (a : Ans) (l : ℕ) (w : Writes) (r : ℕ) (es : Entries) → Well w → R (node r) → Ok (split_root slots a l w r es)
    split_root_ok a l w r es h q =
        let f : Branch = record { nm = r; key = 0; pre = []; post = [] } in
        let top : Go = λ w' es'. P.done (a, (node r, node_value (suc l) es') ∷ w') in
        let both : ℕ → ℕ → Writes → TreePlan = λ c d w2. take_node w2 c (take_node w2 d (parted top l w2 f c (take (fewest_entries l) es) d (drop (fewest_entries l) es))) in
        take_ok (row (server_of r)) (slot_of r) w (λ c w1. take_for slots r w1 (both c)) h (λ c w1 h1. take_ok (row (server_of r)) (slot_of r) w1 (both c) h1 (λ d w2 h2.
        node_ok w2 c _ h2 (λ p1. node_ok w2 d _ h2 (λ p2. parted_ok top (λ w' es' n. ((q, tt), n)) l w2 f c (take (fewest_entries l) es) d (drop (fewest_entries l) es) h2 p1 p2))))

    split_ok : (go : Go) → Goes go → (l : ℕ) (w : Writes) (f : Branch) (c : ℕ) (es : Entries) → Well w → R (node c) → Ok (split slots go l w f c es)
    split_ok go g l w f c es h r =
        take_ok (row (server_of c)) (slot_of c) w (λ d w1. take_node w1 d (parted go l w1 f c (take (fewest_entries l) es) d (drop (fewest_entries l) es))) h
        (λ d w1 h1. node_ok w1 d _ h1 (λ q. parted_ok go g l w1 f c (take (fewest_entries l) es) d (drop (fewest_entries l) es) h1 r q))

    up_ok : (a : Ans) (fs : List Branch) (l : ℕ) (w : Writes) (c : ℕ) (es : Entries) → Well w → Path fs → R (node c) → Ok (up slots a l fs w c es)
    up_ok a [] l w c es h p r = if_ok (dec_le (length es) (most_entries l)) _ _ ((r, tt), h) (split_root_ok a l w c es h r)
    up_ok a (f ∷ fs) l w c es h p r =
        let go : Go = λ w' es'. up slots a (suc l) fs w' f.nm es' in
        let on : Goes go = λ w' es' n. up_ok a fs (suc l) w' f.nm es' n p.1 p.0 in
        if_ok (dec_le (fewest_entries l) (length es)) _ _ (if_ok (dec_le (length es) (most_entries l)) _ _ ((r, tt), h) (split_ok go on l w f c es h r))
        (neighbour_ok a l fs go on w f c es f.post h p.0 r)

    delete_ok : (fs : List Branch) (n : ℕ) (es : Entries) (i : ℕ) (t : Bool) → Path fs → R (node n) → Ok (delete_at slots fs n es (record { place = i; there = t }))
    delete_ok fs n es i false p r = tt
    delete_ok fs n es i true p r = up_ok (1, 0, []) fs zero [] n (remove_at (i - 1) es) tt p r

    -- ---- migrate: the one place where the metadata is written
    module _ (n s : ℕ) (v : Val) (r : R (node n)) where
      moved_ok : (x : ℕ → Writes → Writes) (k : ℕ → Writes → TreePlan) → ((d : ℕ) (w : Writes) → Well w → Well (x d w))
          → ((d : ℕ) (w : Writes) → Well w → Ok (k d w)) → Ok (moved slots n s v x k)
      moved_ok x k hx hk =
          let on : ℕ → Writes → TreePlan = λ d w. k d ((node d, v) ∷ w) in
          take_ok (s ∷ []) (slot_of n) [] (λ d w. take_node w d (release (x d w) n (on d))) tt
          (λ d w h. node_ok w d _ h (λ q. release_ok (x d w) n (on d) (hx d w h) r (λ u g. hk d ((node d, v) ∷ u) ((q, tt), g))))

      move_at_ok : (key l : ℕ) (fs : List Branch) (p : ℕ) (es : Entries) → R (node p) → Ok (move_at slots n s v key l fs p es)
      move_at_ok key zero fs p es q = tt
      move_at_ok key (suc l) fs p [] q = tt
      move_at_ok key (suc l) fs p (e ∷ es) q =
          let c = cut key e es in
          if_ok (ℕ_discrete c.1.1 n) _ (P.fail no_tree)
          (moved_ok (λ d w. w) (λ d w. P.done ((1, d, []), (node p, node_value (suc l) (c.0 ++ (c.1.0, d) ∷ c.2)) ∷ w)) (λ d w h. h) (λ d w h. ((q, tt), h))) tt

      move_node_ok : (at l : ℕ) (ks : List ℕ) → Ok (move_node slots st at n s v l ks)
      move_node_ok at l ks =
          if_ok (ℕ_discrete n at) _ _ (moved_ok (λ d w. (meta, root d st) ∷ w) (λ d w. P.done ((1, d, []), w)) (λ d w h. ((m, refl), h)) (λ d w h. h))
          (if_ok (dec_le 7 (length ks)) _ (P.fail no_tree) (by ks) tt)
        where
          by : (ks : List ℕ) → Ok (first_key ks (move_below slots at n s v l))
          by [] = tt
          by (key ∷ ks) = at_root_ok at _ (λ j es q. if_ok (dec_lt l j) _ (P.fail no_tree)
              (down_ok (to_level (suc l)) key (move_at slots n s v key) (λ i fs p es _ u. move_at_ok key i fs p es u) j [] at es tt q) tt)

    move_if_ok : (at n s : ℕ) (v : Val) → R (node n) → Ok (move_if slots st at n s v)
    move_if_ok at n s (root q t) r = tt
    move_if_ok at n s (taken b) r = tt
    move_if_ok at n s (flags fs) r = tt
    move_if_ok at n s (body zero l ks vs) r = tt
    move_if_ok at n s (body (suc j) l ks vs) r = if_ok (ℕ_discrete (server_of n) s) _ _ tt (move_node_ok n s (body (suc j) l ks vs) r at l ks)

    -- ---- what only reads
    abbrev After : Onward → Type 0
    After on = (found : Entries) → Ok (on found)

    enough_ok : (q : Search) (on : Onward) → After on → After (enough q on)
    enough_ok q on h found = cond_ok (leb q.wanted (length found)) _ _ tt (h found)

    abbrev Visits : Visit → Type 0
    Visits t = (f : ℕ → ℕ → Onward → Onward) → ((k n : ℕ) (on : Onward) → After on → After (f k n on)) → (es : Entries) (on : Onward) → After on → After (t f es on)

    right_ok : Visits rightward
    right_ok f h [] on q = q
    right_ok f h (e ∷ es) on q = h e.0 e.1 (rightward f es on) (right_ok f h es on q)

    left_ok : Visits leftward
    left_ok f h [] on q = q
    left_ok f h (e ∷ es) on q = left_ok f h es (f e.0 e.1 on) (h e.0 e.1 on q)

    module _ (q : Search) (t : Visit) (tr : Visits t) where
      seek_ok : (l k n : ℕ) (on : Onward) → After on → After (seek q t l k n on)
      seek_ok zero k n on h found = kid_ok [] zero k n _ tt (λ es _. enough_ok q on h (found ++ q.in_leaf es))
      seek_ok (suc l) k n on h found = kid_ok [] (suc l) k n _ tt (λ es _. tr (seek q t l) (seek_ok l) es on h found)

      seek_up_ok : (side : Branch → Entries) (fs : List Branch) (l : ℕ) → After (seek_up q t side l fs)
      seek_up_ok side [] l found = tt
      seek_up_ok side (f ∷ fs) l found = tr (seek q t l) (seek_ok l) (side f) (seek_up q t side (suc l) fs) (seek_up_ok side fs (suc l)) found

  -- to the leaf of a key
  leaf_ok : (key : ℕ) (k : List Branch → ℕ → Entries → TreePlan) → ((m : R meta) (fs : List Branch) (n : ℕ) (es : Entries) → Path m fs → R (node n) → Ok (k fs n es))
      → Ok (from_root key k)
  leaf_ok key k h =
      (tt, λ v a. root_ok v _ (λ r. at_root_ok a.0 r _ (λ l es q. down_ok a.0 to_leaf key (λ _ fs n es. k fs n es) (λ _ fs n es p u. h a.0 fs n es p u) l [] r es tt q)))

  from_leaf_ok : (q : Search) (t : Visit) → ((m : R meta) → Visits m t) → (side : Branch → Entries) (key : ℕ) → Ok (from_leaf q t side key)
  from_leaf_ok q t tr side key = leaf_ok key _ (λ m fs n es p _. enough_ok m q (seek_up q t side zero fs) (seek_up_ok m q t (tr m) side fs zero) (q.in_leaf es))

  pub reading_ok : (op : Op) → Ok (reading slots op)
  reading_ok (insert k v) = leaf_ok k _ (λ m fs n es p r. up_ok m (fresh (value_in k es)) fs zero [] n (with_pair k v es) tt p r)
  reading_ok (lookup k) = leaf_ok k _ (λ m fs n es p r. tt)
  reading_ok (delete k) = leaf_ok k _ (λ m fs n es p r. delete_ok m fs n es (place_in k es).place (place_in k es).there p r)
  reading_ok (next k) = from_leaf_ok (one_of (above_in k)) rightward (λ m. right_ok m) (λ f. f.post) k
  reading_ok (previous k) = from_leaf_ok (one_of (below_in k)) leftward (λ m. left_ok m) (λ f. f.pre) k
  reading_ok (list k n) = from_leaf_ok (listing k n) rightward (λ m. right_ok m) (λ f. f.post) k
  reading_ok (migrate n s) =
      (tt, λ v e. root_ok v _ (λ r. (e.0, λ u q. subst (λ (x : ℕ). Ok (move_if slots x r n s u)) (sym e.1) (move_if_ok e.0 r n s u q.0))))

-- ---- THE SERVERS STAY
-- every question counts as asked
all_asked : (p : TreePlan) (S : Ask → Val) → P.Asked p (λ q. true) S
unfolding P.Asked
all_asked (P.ask q k) S = (refl, all_asked (k (S q)) S)
all_asked (P.done r) S = tt
all_asked (P.fail y) S = tt

-- st: the states of the metadata; where each slot is matters nothing
module _ (slots st : ℕ) where
  abbrev Any : Obj → Type 0
  Any o = Unit {0}

  abbrev anywhere : Servers slots
  anywhere = record { st = st; Home = λ n. Unit {0}; new = λ s i _ _. tt }

  abbrev I : Ask → Type 0
  I = Asks slots anywhere Any

  abbrev A : Ask → Val → Type 0
  A = Reads slots anywhere Any

  abbrev Q : Ans → Writes → Type 0
  Q a w = Well slots anywhere Any w

  all_keep : (w : Writes) → Well slots anywhere Any w → AllKeep st w
  all_keep [] h = tt
  all_keep (x ∷ w) h = (h.0.1, all_keep w h.1)

  read_so : (o : Obj) (v : Val) → (o ≡ meta → states_of v ≡ st) → A (object o) v
  read_so meta v h = (tt, h refl)
  read_so (node n) v h = (tt, tt)
  read_so (flag n) v h = (tt, tt)

  -- over a snapshot
  pub states_kept : (op : Op) (S : Ask → Val) → states_of (S (object meta)) ≡ st → (a : Ans) (w : Writes) → P.exec (plan slots op) S ≡ P.gives (a, w) → AllKeep st w
  states_kept op S h a w e =
      all_keep w (subst (λ r. Ended I A Q (W.ends r)) e
      (along_exec I A Q (λ q. true) S read (plan slots op) (along_checked I A Q (reading slots op) (reading_ok slots anywhere Any op)) (all_asked (plan slots op) S)))
    where
      read : (q : Ask) → true ≡ true → A q (S q)
      read (object o) _ = read_so o (S (object o)) (λ e. ap (λ (o : Obj). states_of (S (object o))) e ∙ h)
      read (vector s) _ = tt
      read (fetched s) _ = tt

  -- over what is at hand
  pub walk_keeps : (op : Op) (have : Ask → Option Val) → ((v : Val) → have (object meta) ≡ some v → states_of v ≡ st) → (a : Ans) (w : Writes)
      → W.walk (reading slots op) have ≡ W.ends (P.gives (a, w)) → AllKeep st w
  walk_keeps op have h a w e = all_keep w (subst (Ended I A Q) e (along_walk I A Q have read (reading slots op) (reading_ok slots anywhere Any op)))
    where
      read : (q : Ask) (v : Val) → have q ≡ some v → A q v
      read (object o) v e = read_so o v (λ z. h v (ap (λ (o : Obj). have (object o)) (sym z) ∙ e))
      read (vector s) v e = tt
      read (fetched s) v e = tt

-- ---- THE ORDER OF THE QUESTIONS
every_self : {A : Type 0} (P : A → Type 0) (l : List A) → ((a : A) → Among a l → P a) → Every P l
unfolding Every Among
every_self P [] h = tt
every_self P (a ∷ l) h = (h a (inl refl), every_self P l (λ b i. h b (inr i)))

module _ (slots : ℕ) (T : Servers slots) where
  -- each question is asked as it should be, after those before it; seen: the objects asked for before, the last first
  abbrev pub Orderly : List Obj → List Ask → Type 0
  Orderly seen [] = Unit {0}
  Orderly seen (object o ∷ qs) = Asks slots T (λ q. Among q seen) (object o) × Orderly (o ∷ seen) qs
  Orderly seen (vector s ∷ qs) = Orderly seen qs
  Orderly seen (fetched s ∷ qs) = Orderly seen qs

  -- the objects asked for after these questions
  abbrev pub gathered : List Obj → List Ask → List Obj
  gathered seen [] = seen
  gathered seen (object o ∷ qs) = gathered (o ∷ seen) qs
  gathered seen (vector s ∷ qs) = gathered seen qs
  gathered seen (fetched s ∷ qs) = gathered seen qs

  -- and so is the one that is lacking
  abbrev EndsSo : List Obj → W.Met Ask (Ans × Writes) Why → Type 0
  EndsSo os (W.lacks a) = Asks slots T (λ q. Among q os) a
  EndsSo os (W.ends r) = Unit {0}

  module _ (have : Ask → Option Val) (known : (v : Val) → have (object meta) ≡ some v → states_of v ≡ T.st) where
    keeps_had : (o : Obj) (v : Val) → have (object o) ≡ some v → Keeps T.st o v
    keeps_had meta v e = known v e
    keeps_had (node n) v e = tt
    keeps_had (flag n) v e = tt

    ordered : (p : TreePlan) (seen : List Obj) → ((R : Obj → Type 0) → Every R seen → Ok slots T R p)
        → Orderly seen (used p have) × EndsSo (gathered seen (used p have)) (W.walk p have)
    unfolding used W.walk Every
    ordered (P.done r) seen ok = (tt, tt)
    ordered (P.fail y) seen ok = (tt, tt)
    ordered (P.ask q k) seen ok = go (have q) refl (λ v seen h. ordered (k v) seen h)
      where
        Both : List Obj → List Ask → W.Met Ask (Ans × Writes) Why → Type 0
        Both seen qs r = Orderly seen qs × EndsSo (gathered seen qs) r

        asks : Asks slots T (λ q. Among q seen) q
        asks = (ok (λ q. Among q seen) (every_self (λ q. Among q seen) seen (λ a i. i))).0

        step : (q : Ask) (v : Val) → have q ≡ some v → Asks slots T (λ q. Among q seen) q → ((R : Obj → Type 0) → Every R seen → Reads slots T R q v → Ok slots T R (k v))
            → ((seen : List Obj) → ((R : Obj → Type 0) → Every R seen → Ok slots T R (k v)) → Both seen (used (k v) have) (W.walk (k v) have))
            → Both seen (q ∷ used (k v) have) (W.walk (k v) have)
        step (object o) v e a ok rec = let r = rec (o ∷ seen) (λ R h. ok R h.1 (h.0, keeps_had o v e)) in ((a, r.0), r.1)
        step (vector s) v e a ok rec = rec seen (λ R h. ok R h tt)
        step (fetched s) v e a ok rec = rec seen (λ R h. ok R h tt)

        go : (z : Option Val) → have q ≡ z
            → ((v : Val) (seen : List Obj) → ((R : Obj → Type 0) → Every R seen → Ok slots T R (k v)) → Both seen (used (k v) have) (W.walk (k v) have))
            → Both seen (used (P.ask q k) have) (W.walk (P.ask q k) have)
        go none e rec =
            let nothing : used (P.ask q k) have ≡ [] = rw (e, used) in
            coe 1 0 (t. Both seen (nothing t) (W.walk_lacks q k have e t)) (tt, asks)
        go (some v) e rec =
            coe 1 0 (t. Both seen (W.used_has q k have v e t) (W.walk_has q k have v e t)) (step q v e asks (λ R h. (ok R h).1 v) (rec v))

  module _ (op : Op) (have : Ask → Option Val) (known : (v : Val) → have (object meta) ≡ some v → states_of v ≡ T.st) where
    pub questions : Orderly [] (used (reading slots op) have)
    questions = (ordered have known (reading slots op) [] (λ R _. reading_ok slots T R op)).0

    pub lacking_question : (a : Ask) → W.walk (reading slots op) have ≡ W.lacks a → Asks slots T (λ q. Among q (gathered [] (used (reading slots op) have))) a
    lacking_question a e =
        subst (EndsSo (gathered [] (used (reading slots op) have))) e (ordered have known (reading slots op) [] (λ R _. reading_ok slots T R op)).1
