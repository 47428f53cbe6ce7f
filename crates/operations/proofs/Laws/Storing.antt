-- What is asked for and written, as in file Storable: the way up of insert and delete, and migrate. The theorems.
use Rattle.std.specs.Prelude.{◌≡◌, Bool, true, false, length, take, drop}
use Rattle.std.proofs.Math.Path.{refl}
use Rattle.std.proofs.Common.{ap, subst, arith, length-take, length-drop, length-set, length-take-le}
use mathlib.Core.List.{List, [], ◌∷◌, ◌++◌}
use Rattle.std.proofs.Math.Option.{Option, none, some}
use Prim.Native.Nat.{ℕ, zero, suc, ◌+◌, ◌-◌, ◌≤◌, ◌<◌}
use Rattle.std.proofs.Math.Decide.{ℕ_discrete, dec_lt, dec_le}
use Rattle.std.proofs.Math.ListN.{length-append}
use Rattle.base.specs.Test.{ifd}
use Rattle.plans.specs.Walk.{Every}
use Rattle.nodes.specs.Lists.{remove_at}
use Rattle.nodes.specs.Name.{name, server_of, slot_of}
use Rattle.nodes.specs.Place.{place}
use Rattle.nodes.specs.Placement.{row}
use Rattle.nodes.specs.States.{states_fit}
use Rattle.operations.specs.Object.{Obj, meta, node, Ask, object, vector, fetched, Val, root, body, taken, flags, states_of, no_tree, Ans, Writes}
use Rattle.operations.specs.Map.{Op, insert, lookup, delete, next, previous, migrate, list, fresh, said, gone, listed}
use Rattle.operations.specs.Entry.{Entries, node_value, fewest_entries, most_entries, first_key_or, cut, place_in, value_in, with_at, with_pair}
use Rattle.operations.specs.Path.{TreePlan, when_root, Branch}
use Rattle.operations.specs.Slot.{take_for, take_node, release}
use Rattle.operations.specs.Change.{Go, with_one, with_two, parted, at_top, onward, collapsed, merged, with_right, with_left, unsnoc_step, unsnoc, left_of, neighbour, split_root, split, up, delete_at}
use Rattle.operations.specs.Migrate.{moved, move_at, to_level, first_key, move_below, move_node, move_if}
use Rattle.operations.specs.Operation.{reading}
use Rattle.operations.proofs.Laws.Along.{along_walk}
use Rattle.operations.proofs.Laws.Quiet.{lookup_quiet, next_quiet, previous_quiet, list_quiet}
use Rattle.operations.proofs.Laws.Storable.{Ends, Storable, AllStorable, Inside, every_any, every_append, every_take, every_drop, Scope, least, Children, Within, Sized, Asks, Read, Well, AllWell, Ok, Comes, Met, mk_well, see_ok, if_ok, kid_ok, Beside, Branched, Path, cut_ok, down_ok, root_ok, at_root_ok, leaf_ok, node_ok, release_ok, take_ok}
use Rattle.plans.specs.Plan as P
use Rattle.plans.proofs.Laws.Walk as W
use Rattle.nodes.specs.Lists as L

-- two nodes of the fewest keys are at most one entry too many
pub record Bounds (l : ℕ) : Type 0 where
  pub one : least l ≤ 1
  pub fewest : 1 < fewest_entries l
  pub between : fewest_entries l ≤ most_entries l
  pub twice : fewest_entries l + fewest_entries l ≤ suc (most_entries l)

bounds : (l : ℕ) → Bounds l
bounds zero = record { one = omega arith; fewest = omega arith; between = omega arith; twice = omega arith }
bounds (suc l) = record { one = omega arith; fewest = omega arith; between = omega arith; twice = omega arith }

-- what an operation names is of the store
abbrev pub Names : (ℕ → Type 0) → Op → Type 0
Names N (insert k v) = Unit {0}
Names N (lookup k) = Unit {0}
Names N (delete k) = Unit {0}
Names N (next k) = Unit {0}
Names N (previous k) = Unit {0}
Names N (list k n) = Unit {0}
Names N (migrate n s) = N n

-- how an operation's answer is made up: "a is the number of pairs" of a list, and no other has any
abbrev pub Form : Op → Ans → Type 0
Form (insert k v) a = a.2 ≡ []
Form (lookup k) a = a.2 ≡ []
Form (delete k) a = a.2 ≡ []
Form (next k) a = a.2 ≡ []
Form (previous k) a = a.2 ≡ []
Form (migrate n s) a = a.2 ≡ []
Form (list k n) a = a.0 ≡ length a.2

said_form : (o : Option ℕ) → (said o).2 ≡ []
said_form none = refl
said_form (some v) = refl

fresh_form : (o : Option ℕ) → (fresh o).2 ≡ []
fresh_form none = refl
fresh_form (some v) = refl

gone_form : (o : Option ℕ) → (gone o).2 ≡ []
gone_form none = refl
gone_form (some v) = refl

-- a pair put into a leaf, or taken out
with_few : (key v : ℕ) (es : Entries) → length (with_pair key v es) ≤ suc (length es)
unfolding L.insert_at
with_few key v es = go (place_in key es).place (place_in key es).there
  where
    go : (i : ℕ) (t : Bool) → length (with_at key v es (record { place = i; there = t })) ≤ suc (length es)
    go i false = omega (arith, length-append (take i es) ((key, v) ∷ drop i es), length-take i es, length-drop i es)
    go i true = omega (arith, length-set es (i - 1) (key, v))

remove_few : (i : ℕ) (es : Entries) → length (remove_at i es) ≤ length es
unfolding remove_at
remove_few i es = omega (arith, length-append (take i es) (drop (i + 1) es), length-take i es, length-drop (i + 1) es)

module _ (T : Scope) where
  abbrev N : ℕ → Type 0
  N = T.N

  abbrev Z : Type 0
  Z = T.Z

  abbrev slots : ℕ
  slots = T.slots

  -- ---- THE WAY UP: entries that may be one too many
  abbrev Risen : ℕ → Entries → Type 0
  Risen l es = Within T (suc (most_entries l)) l es

  sized : (l n : ℕ) (es : Entries) → length es ≡ n → 1 ≤ n → n ≤ most_entries l → Children T l es → Sized T l es
  sized l n es e a b c = record { some_child = omega (arith, (bounds l).one); few = omega arith; children = c }

  joined : (l : ℕ) (xs ys : Entries) → 1 ≤ length xs + length ys → length xs + length ys ≤ most_entries l → Children T l xs → Children T l ys → Sized T l (xs ++ ys)
  joined l xs ys a b p q = sized l (length xs + length ys) (xs ++ ys) (length-append xs ys) a b (every_append _ xs ys p q)

  -- a node with more than the fewest entries, without one
  lender : (l : ℕ) (es xs : Entries) → Sized T l es → fewest_entries l < length es → length xs ≡ length es - 1 → Children T l xs → Sized T l xs
  lender l es xs s q e c = sized l (length es - 1) xs e (omega (arith, (bounds l).fewest)) (omega (arith, s.few)) c

  abbrev Goes : ℕ → Go → Type 0
  Goes l go = (w : Writes) (es : Entries) → AllWell T w → (Z → Risen (suc l) es) → Ok T (go w es)

  one_within : (m l : ℕ) (f : Branch) (c : ℕ) → 15 ≤ m → Beside T f.pre f.post → N c → Within T m (suc l) (with_one f c)
  unfolding Every
  one_within m l f c x b i =
      let es : Entries = (f.key, c) ∷ f.post in
      let e = length-append f.pre es in
      record { some_child = omega (arith, e); few = omega (arith, e, b.few); children = every_append _ f.pre es b.before (i, b.after) }

  risen_two : (l : ℕ) (f : Branch) (c k d : ℕ) → Beside T f.pre f.post → N c → N d → Risen (suc l) (with_two f c k d)
  unfolding Every
  risen_two l f c k d b i j =
      let es : Entries = (f.key, c) ∷ (k, d) ∷ f.post in
      let e = length-append f.pre es in
      record { some_child = omega (arith, e); few = omega (arith, e, b.few); children = every_append _ f.pre es b.before (i, (j, b.after)) }

  parted_ok : (go : Go) (l : ℕ) → Goes l go → (w : Writes) (f : Branch) (c : ℕ) (es : Entries) (d : ℕ) (es' : Entries)
      → AllWell T w → Branched T f → Met T c → (Z → Sized T l es) → Met T d → (Z → Sized T l es') → Ok T (parted go l w f c es d es')
  parted_ok go l g w f c es d es' h b m s m' s' =
      g _ _ (mk_well T l d es' m' s', (mk_well T l c es m s, h)) (λ z. risen_two l f c _ d (b.1 z) (m.1 z) (m'.1 z))

  -- the two halves of a node with an entry too many
  halves : (l : ℕ) (es : Entries) → Risen l es → most_entries l < length es → Sized T l (take (fewest_entries l) es) × Sized T l (drop (fewest_entries l) es)
  halves l es s m = (
    sized l (fewest_entries l) (take (fewest_entries l) es) (length-take-le (fewest_entries l) es (omega (arith, (bounds l).between))) (omega (arith, (bounds l).fewest)) (bounds l).between
        (every_take _ (fewest_entries l) es s.children),
    sized l (length es - fewest_entries l) (drop (fewest_entries l) es) (length-drop (fewest_entries l) es) (omega (arith, (bounds l).between)) (omega (arith, (bounds l).fewest, s.few))
        (every_drop _ (fewest_entries l) es s.children),
  )

  -- the entries but the last are one fewer
  abbrev Last : Entries → Option (Entries × (ℕ × ℕ)) → Type 0
  Last es none = length es ≡ 0
  Last es (some r) = (length es ≡ suc (length r.0)) × (Children T 1 es → Children T 1 r.0 × N r.1.1)

  unsnoc_last : (es : Entries) → Last es (unsnoc es)
  unfolding Every
  unsnoc_last [] = refl
  unsnoc_last (e ∷ es) = go (unsnoc es) (unsnoc_last es)
    where
      go : (o : Option (Entries × (ℕ × ℕ))) → Last es o → Last (e ∷ es) (unsnoc_step e o)
      go none q = (ap suc q, λ c. (tt, c.0))
      go (some r) q = (ap suc q.0, λ c. let d = q.1 c.1 in ((c.0, d.0), d.1))

  module _ (a : Ans) (fine : T.A a) (l : ℕ) (fs : List Branch) (go : Go) (g : Goes l go) where
    merged_ok : (w : Writes) (f : Branch) (c : ℕ) (es : Entries) → AllWell T w → Branched T f → Met T c → (Z → Sized T l es) → Ok T (merged a l fs go w f c es)
    merged_ok w f c es h b m s = by fs
      where
        one : Ok T (onward a l fs go w f c es)
        one = g ((node c, node_value l es) ∷ w) (with_one f c) (mk_well T l c es m s, h) (λ z. one_within 16 l f c (omega arith) (b.1 z) (m.1 z))

        by : (gs : List Branch) → let p = onward a l fs go w f c es in Ok T (at_top gs (ifd (ℕ_discrete (length (with_one f c)) 1) (collapsed a l fs go w f c es) p) p)
        by [] = if_ok T (ℕ_discrete (length (with_one f c)) 1) _ _
            (λ _. release_ok T w c (λ w'. P.done (a, (node f.nm, node_value l es) ∷ w')) h m (λ u n. (fine, (mk_well T l f.nm es b.0 s, n)))) (λ _. one)
        by (x ∷ gs) = one

    -- the entries es of c, too few, and a neighbour; f: the branch without the neighbour
    module _ (w : Writes) (f : Branch) (c : ℕ) (es : Entries) (h : AllWell T w) (b : Branched T f) (m : Met T c) (i : Z → Children T l es) (n : length es < fewest_entries l) where
      with_right_ok : (k2 c2 : ℕ) → (Z → N c2) → Ok T (with_right a l fs go w f c es k2 c2)
      with_right_ok k2 c2 j =
          if_ok T (ℕ_discrete c2 c) (P.fail no_tree) _ (λ _. tt) (λ _.
          kid_ok T w l k2 c2 _ h j (λ es2 m2 s t. if_ok T (dec_lt (fewest_entries l) (length es2)) _ _
          (λ q. let e = length-take-le 1 es2 (omega (arith, q)) in parted_ok go l g w f c (es ++ take 1 es2) c2 (drop 1 es2) h b
          m (λ z. joined l es (take 1 es2) (omega (arith, e)) (omega (arith, e, (bounds l).between)) (i z) (every_take _ 1 es2 (s z).children))
          m2 (λ z. lender l es2 (drop 1 es2) (s z) q (length-drop 1 es2) (every_drop _ 1 es2 (s z).children)))
          (λ q. release_ok T w c2 (λ w'. merged a l fs go w' f c (es ++ es2)) h m2 (λ u o. merged_ok u f c (es ++ es2) o b
          m (λ z. joined l es es2 (omega (arith, t, (bounds l).fewest)) (omega (arith, q, (bounds l).twice)) (i z) (s z).children)))))

      with_left_ok : (c1 : ℕ) → (Z → N c1) → Ok T (with_left a l fs go w f c es c1)
      with_left_ok c1 j =
          if_ok T (ℕ_discrete c1 c) (P.fail no_tree) _ (λ _. tt) (λ _.
          kid_ok T w l f.key c1 _ h j (λ es1 m1 s t. let x = length es1 - 1 in if_ok T (dec_lt (fewest_entries l) (length es1)) _ _
          (λ q. let e = length-drop x es1 in parted_ok go l g w f c1 (take x es1) c (drop x es1 ++ es) h b
          m1 (λ z. lender l es1 (take x es1) (s z) q (length-take-le x es1 (omega arith)) (every_take _ x es1 (s z).children))
          m (λ z. joined l (drop x es1) es (omega (arith, e, q)) (omega (arith, e, q, (bounds l).between)) (every_drop _ x es1 (s z).children) (i z)))
          (λ q. release_ok T w c (λ w'. merged a l fs go w' f c1 (es1 ++ es)) h m (λ u o. merged_ok u f c1 (es1 ++ es) o b
          m1 (λ z. joined l es1 es (omega (arith, t, (bounds l).fewest)) (omega (arith, q, (bounds l).twice)) (s z).children (i z))))))

    neighbour_ok : (w : Writes) (f : Branch) (c : ℕ) (es post : Entries) → AllWell T w → Met T f.nm → (Z → Beside T f.pre post) → Met T c → (Z → Children T l es)
        → length es < fewest_entries l → Ok T (neighbour a l fs go w f c es post)
    unfolding Every
    neighbour_ok w f c es (e ∷ post) h x b m i n =
        with_right_ok w (record { nm = f.nm; key = f.key; pre = f.pre; post = post }) c es h
        (x, λ z. record { few = omega (arith, (b z).few); before = (b z).before; after = (b z).after.1 }) m i n e.0 e.1 (λ z. (b z).after.0)
    neighbour_ok w f c es [] h x b m i n = by (unsnoc f.pre) (unsnoc_last f.pre)
      where
        by : (o : Option (Entries × (ℕ × ℕ))) → Last f.pre o → Ok T (left_of a l fs go w f.nm c es o)
        by none e = tt
        by (some r) e =
            with_left_ok w (record { nm = f.nm; key = r.1.0; pre = r.0; post = [] }) c es h
            (x, λ z. record { few = omega (arith, (b z).few, e.0); before = (e.1 (b z).before).0; after = tt }) m i n r.1.1 (λ z. (e.1 (b z).before).1)

  split_root_ok : (a : Ans) → T.A a → (l : ℕ) (w : Writes) (r : ℕ) (es : Entries) → AllWell T w → Met T r → (Z → Risen l es) → most_entries l < length es → Ok T (split_root slots a l w r es)
  unfolding Every
  split_root_ok a fine l w r es h m s q =
      let ss = row (server_of r) in
      let f : Branch = record { nm = r; key = 0; pre = []; post = [] } in
      let top : Go = λ w' es'. P.done (a, (node r, node_value (suc l) es') ∷ w') in
      let both : ℕ → ℕ → Writes → TreePlan = λ c d w2. take_node w2 c (take_node w2 d (parted top l w2 f c (take (fewest_entries l) es) d (drop (fewest_entries l) es))) in
      take_ok T ss (slot_of r) w (λ c w1. take_for slots r w1 (both c)) h (λ c w1 i n1.
      take_ok T ss (slot_of r) w1 (both c) n1 (λ d w2 j n2. node_ok T w2 c _ n2 i (λ mc. node_ok T w2 d _ n2 j (λ md. (
        fine,
        (
          mk_well T (suc l) r (with_two f c (first_key_or (drop (fewest_entries l) es) 0) d) m (λ z. record { some_child = omega arith; few = omega arith; children = (i z, (j z, tt)) }),
          (mk_well T l d _ md (λ z. (halves l es (s z) q).1), (mk_well T l c _ mc (λ z. (halves l es (s z) q).0), n2)),
        ),
      )))))

  split_ok : (go : Go) (l : ℕ) (w : Writes) (f : Branch) (c : ℕ) (es : Entries) → AllWell T w → Branched T f → Met T c → (Z → Risen l es) → most_entries l < length es → Goes l go
      → Ok T (split slots go l w f c es)
  split_ok go l w f c es h b m s q g =
      take_ok T (row (server_of c)) (slot_of c) w
      (λ d w1. take_node w1 d (parted go l w1 f c (take (fewest_entries l) es) d (drop (fewest_entries l) es))) h (λ d w1 i n. node_ok T w1 d _ n i (λ md.
      parted_ok go l g w1 f c (take (fewest_entries l) es) d (drop (fewest_entries l) es) n b m (λ z. (halves l es (s z) q).0) md (λ z. (halves l es (s z) q).1)))

  -- not one too many after all
  fits_well : (l c : ℕ) (es : Entries) → Met T c → (Z → Risen l es) → length es ≤ most_entries l → Well T (node c) (node_value l es)
  fits_well l c es m s q = mk_well T l c es m (λ z. record { some_child = (s z).some_child; few = q; children = (s z).children })

  up_ok : (a : Ans) → T.A a → (fs : List Branch) (l : ℕ) (w : Writes) (c : ℕ) (es : Entries) → AllWell T w → Path T fs → Met T c → (Z → Risen l es) → Ok T (up slots a l fs w c es)
  up_ok a fine [] l w c es h p m s =
      if_ok T (dec_le (length es) (most_entries l)) _ _ (λ q. (fine, (fits_well l c es m s q, h))) (λ q. split_root_ok a fine l w c es h m s (omega (arith, q)))
  up_ok a fine (f ∷ fs) l w c es h p m s =
      let go : Go = λ w' es'. up slots a (suc l) fs w' f.nm es' in
      let on : Goes l go = λ w' es' n r. up_ok a fine fs (suc l) w' f.nm es' n p.1 p.0.0 r in
      if_ok T (dec_le (fewest_entries l) (length es)) _ _
      (λ _. if_ok T (dec_le (length es) (most_entries l)) _ _ (λ q. (fine, (fits_well l c es m s q, h))) (λ q. split_ok go l w f c es h p.0 m s (omega (arith, q)) on))
      (λ q. neighbour_ok a fine l fs go on w f c es f.post h p.0.0 p.0.1 m (λ z. (s z).children) (omega (arith, q)))

  -- a leaf has no children
  leaf_risen : (es : Entries) → length es ≤ 15 → Risen 0 es
  leaf_risen es h = record { some_child = omega arith; few = omega arith; children = every_any _ (λ _. tt) es }

  delete_ok : ((o : Option ℕ) → T.A (gone o)) → (fs : List Branch) (n : ℕ) (es : Entries) (i : ℕ) (t : Bool) → Path T fs → Met T n → (Z → Sized T 0 es)
      → Ok T (delete_at slots fs n es (record { place = i; there = t }))
  delete_ok a fs n es i false p m s = (a none, tt)
  delete_ok a fs n es i true p m s = up_ok (1, 0, []) (a (some 0)) fs zero [] n (remove_at (i - 1) es) tt p m (λ z. leaf_risen (remove_at (i - 1) es) (omega (arith, remove_few (i - 1) es, (s z).few)))

  -- ---- MIGRATE
  module _ (n s : ℕ) (m : Met T n) (v : Val) (kept : Z → Storable N (node n) v) (fine : (i d : ℕ) → T.A (i, d, [])) where
    moved_ok : (x : ℕ → Writes → Writes) (k : ℕ → Writes → TreePlan) → ((d : ℕ) (w : Writes) → (Z → N d) → AllWell T w → AllWell T (x d w))
        → ((d : ℕ) (w : Writes) → (Z → N d) → AllWell T w → Ok T (k d w)) → Ok T (moved slots n s v x k)
    unfolding Every
    moved_ok x k hx hk =
        let on : ℕ → Writes → TreePlan = λ d w. k d ((node d, v) ∷ w) in
        take_ok T (s ∷ []) (slot_of n) [] (λ d w. take_node w d (release (x d w) n (on d))) tt (λ d w i h.
        node_ok T w d _ h i (λ md. release_ok T (x d w) n (on d) (hx d w i h) m (λ u g. hk d ((node d, v) ∷ u) i ((md.0, λ z. (i z, elsewhere d v (kept z))), g))))
      where
        -- a node can be stored under any name
        elsewhere : (d : ℕ) (v : Val) → Storable N (node n) v → Storable N (node d) v
        elsewhere d (root q t) h = h
        elsewhere d (body k l ks vs) h = h
        elsewhere d (taken b) h = h
        elsewhere d (flags fs) h = h

    move_at_ok : (key l : ℕ) (fs : List Branch) (p : ℕ) (es : Entries) → Met T p → (Z → Sized T l es) → Ok T (move_at slots n s v key l fs p es)
    move_at_ok key zero fs p es o h = tt
    move_at_ok key (suc l) fs p [] o h = tt
    move_at_ok key (suc l) fs p (e ∷ es) o h =
        let c = cut key e es in
        let f : Branch = record { nm = p; key = c.1.0; pre = c.0; post = c.2 } in
        let end : ℕ → Writes → TreePlan = λ d w. P.done ((1, d, []), (node p, node_value (suc l) (with_one f d)) ∷ w) in
        if_ok T (ℕ_discrete c.1.1 n) _ (P.fail no_tree)
        (λ _. moved_ok (λ d w. w) end (λ d w i g. g)
        (λ d w i g. (fine 1 d, (mk_well T (suc l) p (with_one f d) o (λ z. one_within 15 l f d (omega arith) (cut_ok T key l e es (h z)).0 (i z)), g)))) (λ _. tt)

    move_node_ok : (r st l : ℕ) (ks : List ℕ) → T.R meta → (Z → N r) → (Z → states_fit st ≡ true) → Ok T (move_node slots st r n s v l ks)
    move_node_ok r st l ks a i f =
        if_ok T (ℕ_discrete n r) _ _
        (λ _. moved_ok (λ d w. (meta, root d st) ∷ w) (λ d w. P.done ((1, d, []), w)) (λ d w j h. ((a, λ z. (tt, (j z, f z))), h)) (λ d w j h. (fine 1 d, h)))
        (λ _. if_ok T (dec_le 7 (length ks)) _ (P.fail no_tree) (λ _. by ks) (λ _. tt))
      where
        by : (ks : List ℕ) → Ok T (first_key ks (move_below slots r n s v l))
        by [] = tt
        by (key ∷ ks) =
            at_root_ok T r _ i (λ j es o f. if_ok T (dec_lt l j) _ (P.fail no_tree)
            (λ _. down_ok T (to_level (suc l)) key (move_at slots n s v key) (λ i fs p es _ o g _. move_at_ok key i fs p es o g) j [] r es tt o f) (λ _. tt))

  move_if_ok : ((i d : ℕ) → T.A (i, d, [])) → (r st n s : ℕ) (v : Val) → T.R meta → (Z → N r) → (Z → states_fit st ≡ true) → Well T (node n) v → Ok T (move_if slots st r n s v)
  move_if_ok fine r st n s (root q p) a i f t = tt
  move_if_ok fine r st n s (taken b) a i f t = tt
  move_if_ok fine r st n s (flags fs) a i f t = tt
  move_if_ok fine r st n s (body zero l ks vs) a i f t = (fine 0 0, tt)
  move_if_ok fine r st n s (body (suc j) l ks vs) a i f t =
      if_ok T (ℕ_discrete (server_of n) s) _ _ (λ _. (fine 0 1, tt)) (λ _. move_node_ok n s (t.0, λ z. (t.1 z).0) (body (suc j) l ks vs) (λ z. (t.1 z).1) fine r st l ks a i f)

  pub reading_ok : (op : Op) → (Z → Names N op) → ((a : Ans) → Form op a → T.A a) → Ok T (reading slots op)
  reading_ok (insert k v) h a = leaf_ok T k _ (λ fs n es p m s.
      up_ok (fresh (value_in k es)) (a (fresh (value_in k es)) (fresh_form (value_in k es))) fs zero [] n (with_pair k v es) tt p m (λ z. leaf_risen (with_pair k v es) (omega (arith, with_few k v es, (s z).few))))
  reading_ok (lookup k) h a = lookup_quiet T k (λ o. a (said o) (said_form o))
  reading_ok (delete k) h a = leaf_ok T k _ (λ fs n es p m s. delete_ok (λ o. a (gone o) (gone_form o)) fs n es (place_in k es).place (place_in k es).there p m s)
  reading_ok (next k) h a = next_quiet T k (λ o. a (said o) (said_form o))
  reading_ok (previous k) h a = previous_quiet T k (λ o. a (said o) (said_form o))
  reading_ok (list k n) h a = list_quiet T k n (λ l. a (listed l) refl)
  reading_ok (migrate n s) h a =
      see_ok T [] meta (λ v. when_root v (λ r. P.ask (object (node n)) (λ u. move_if slots (states_of v) r n s u))) tt (λ _. tt) (λ v b. root_ok T v _ b (λ r i f.
      see_ok T [] (node n) (λ u. move_if slots (states_of v) r n s u) tt h (λ u t. move_if_ok (λ i d. a (i, d, []) refl) r (states_of v) n s u b.0 i f t)))

-- THE THEOREMS, where everything at hand can be stored in a store of the names N
module _ (N : ℕ → Type 0) (slots : ℕ) (new : (s i : ℕ) → s < 8 → i < slots → N (name s i)) (op : Op) (names : Names N op) (have : Ask → Option Val) (kept : (o : Obj) (v : Val) → have (object o) ≡ some v → Storable N o v) where
  abbrev T : Scope
  T = record { slots = slots; N = N; new = new; R = λ o. Unit {0}; Z = Unit {0}; A = Form op }

  ended : Comes T (W.walk (reading slots op) have)
  ended = along_walk (Asks T) (Read T) (Ends T) have read (reading slots op) (reading_ok T op (λ _. names) (λ a h. h))
    where
      read : (q : Ask) (v : Val) → have q ≡ some v → Read T q v
      read (object o) v e = (tt, λ _. kept o v e)
      read (vector s) v e = tt
      read (fetched s) v e = tt

  -- EVERYTHING WRITTEN CAN BE STORED, and is of the store
  pub writes_storable : (a : Ans) (w : Writes) → W.walk (reading slots op) have ≡ W.ends (P.gives (a, w)) → AllStorable N w
  writes_storable a w e = all w (subst (Comes T) e ended).1
    where
      all : (w : Writes) → AllWell T w → AllStorable N w
      all [] h = tt
      all (e ∷ w) h = let k = h.0.1 tt in (k.0, k.1, all w h.1)

  -- AN ANSWER has its operation's form
  pub answer_formed : (a : Ans) (w : Writes) → W.walk (reading slots op) have ≡ W.ends (P.gives (a, w)) → Form op a
  answer_formed a w e = (subst (Comes T) e ended).0

  -- EVERY QUESTION is about something of the store
  pub asked_inside : (q : Ask) → W.walk (reading slots op) have ≡ W.lacks q → Inside N q
  asked_inside q e = subst (Comes T) e ended tt
