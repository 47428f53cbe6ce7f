-- New entries of a node carried up to the root: splits, one entry moved over, merges, the root's growth and collapse.
use Rattle.std.specs.Prelude.{◌≡◌, refl, false, List, [], ◌∷◌, ◌++◌, ◌⊎◌, ℕ, zero, suc, ◌+◌, ◌-◌, ◌≤◌, length, take, drop}
use Rattle.std.proofs.Common.{ap, sym, ◌∙◌, subst, append_assoc, inl, inr, arith, length-append, take-append-drop, length-take-le}
use Rattle.std.proofs.Math.Option.{some}
use Rattle.std.proofs.Math.Decide.{ℕ_discrete, dec_lt}
use Rattle.operations.specs.Object.{Obj, node, flag, Val, taken, free, no_tree, Ans, Writes, with_value, over}
use Rattle.operations.specs.Map.{Map}
use Rattle.operations.specs.Entry.{node_value, fewest_entries, most_entries, first_key_or}
use Rattle.operations.specs.Slot.{release}
use Rattle.operations.specs.Change.{Go, parted, merged, with_right, with_left, unsnoc_step, unsnoc, left_of, neighbour}
use Rattle.operations.specs.Chain.{one, tally, ren}
use Rattle.operations.proofs.Laws.Chain.{one_same, chain_right, tally_app, ren_app, ren_length, ren_take, ren_drop, ren_nxt}
use Rattle.operations.proofs.Laws.Ensures.{Terms, Ok, if_ok, sel_same, sel_other}
use Rattle.operations.specs.Tree.{Slot, word, cnt, Kid, Entry, bottom}
use Rattle.operations.proofs.Laws.Focus.{Path, top, frame, nm, hi, around, floor, Stored, Focus, nil, Rep, Ends, stored_frame, mark_le, apart}
use Rattle.operations.proofs.Laws.Moves.{set_node, release as slot_freed, lift, recut, widen_right, widen_left, shrink, close}
use Rattle.operations.proofs.Laws.Down.{branch, branches, bottom_mn, bottom_floor, kid_ok}
use Rattle.operations.proofs.Laws.Slots.{release_ok}
use Rattle.plans.specs.Plan as P

-- how few entries new contents may have: for the root none too few, else one
abbrev pub Near : (l : ℕ) → Path l → ℕ → Type 0
Near l (top r) n = bottom l ≤ n
Near l (frame k c pre post p) n = fewest_entries l ≤ suc n

pub near_of : (l : ℕ) (p : Path l) (n : ℕ) → floor l p ≤ n → Near l p n
near_of l (top r) n h = h
near_of l (frame k c pre post p) n h = omega (arith, h)

pub ne_of : (c d : ℕ) → one c d ≡ 0 → ¬ (d ≡ c)
ne_of c d z e = absurd (omega (arith, one_same c, subst (λ y. one c y ≡ 0) e z))

pub mn_mx : (l : ℕ) → (1 ≤ fewest_entries l) × (fewest_entries l ≤ most_entries l) × (most_entries l ≤ fewest_entries l + fewest_entries l) × (fewest_entries l + fewest_entries l ≤ suc (most_entries l)) × (suc (most_entries l) ≤ fewest_entries l + most_entries l)
mn_mx zero = omega arith
mn_mx (suc l) = omega arith

-- the last entry
pub snoc_view : {A : Type 0} (xs : List A) → (xs ≡ []) ⊎ ((i : List A) × (x : A) × (xs ≡ i ++ (x ∷ [])))
snoc_view [] = inl refl
snoc_view (y ∷ ys) = inr (go y ys (snoc_view ys))
  where
    go : {A : Type 0} (y : A) (ys : List A) → (ys ≡ []) ⊎ ((i : List A) × (x : A) × (ys ≡ i ++ (x ∷ []))) → (i : List A) × (x : A) × (y ∷ ys ≡ i ++ (x ∷ []))
    go y ys (inl e) = ([], y, ap (λ z. y ∷ z) e)
    go y ys (inr (i, x, e)) = (y ∷ i, x, ap (λ z. y ∷ z) e)

pub unsnoc_app : {A : Type 0} (i : List A) (x : A) → unsnoc (i ++ (x ∷ [])) ≡ some (i, x)
unsnoc_app [] x = refl
unsnoc_app (y ∷ i) x = ap (unsnoc_step y) (unsnoc_app i x)

-- the node is written and all is done
pub write_ok : (M : Obj → Val) (m : Map) (l : ℕ) (p : Path l) (w : Writes) (es : List (ℕ × Slot l)) → Focus (over w M) l p es nil m → Stored (λ n. over w M (node n)) l p → floor l p ≤ length es → length es ≤ most_entries l
    → Rep (over ((node (nm l p), node_value l (ren (word l) es)) ∷ w) M) m
write_ok M m l p w es f st i j =
    let U = over w M in
    let c = nm l p in
    let v = node_value l (ren (word l) es) in
    let t = mark_le (U (flag c)) (U (node c)) (around l p c + one c c + tally (cnt l) es c + 0) (f.marks c) in
    let out : around l p c ≡ 0 = omega (arith, t, one_same c) in
    close (with_value (node c) v U) m l p es (set_node U m l p es nil c v (omega (arith, one_same c)) f)
    (stored_frame (λ n. over w M (node n)) (λ x. with_value (node c) v U (node x)) l p (apart U c v (around l p) out) st) (sel_same c v (U (node c))) i j

module _ (F : Terms) (M : Obj → Val) (m : Map) (a : Ans) where
  abbrev E : Ans → Writes → Type 0
  E = Ends M m a

  abbrev N : Writes → ℕ → Val
  N w n = over w M (node n)

  -- the plan goes on well with new entries at level l
  abbrev pub Next : (l : ℕ) → Path l → Go → Type 0
  Next l p go = (w : Writes) (es : List (ℕ × Slot l)) → Focus (over w M) l p es nil m → Stored (N w) l p → Near l p (length es) → length es ≤ suc (most_entries l)
      → Ok F E M (go w (ren (word l) es))

  -- one entry for the hole's node, and on
  pub back_ok : (l k c : ℕ) (pre post : List (ℕ × Slot (suc l))) (p : Path (suc l)) (w : Writes) (es : List (ℕ × Slot l)) (go : Go)
      → fewest_entries l ≤ length es → length es ≤ most_entries l → Near (suc l) p (length pre + suc (length post)) → length pre + suc (length post) ≤ most_entries (suc l) → Next (suc l) p go
      → Focus (over w M) l (frame k c pre post p) es nil m
      → Ok F E M (go ((node c, node_value l (ren (word l) es)) ∷ w) (ren (word (suc l)) pre ++ ((k, c) ∷ ren (word (suc l)) post)))
  back_ok l k c pre post p w es go i j n s next f =
      let U = over w M in
      let v = node_value l (ren (word l) es) in
      let w' : Writes = (node c, v) ∷ w in
      let mid : List (ℕ × Slot (suc l)) = (k, (c, es)) ∷ post in
      let g = set_node U m l (frame k c pre post p) es nil c v (omega (arith, one_same c)) f in
      let z = length-append pre mid in
      subst (λ e. Ok F E M (go w' e)) (ren_app (word (suc l)) pre mid)
      (next w' (pre ++ mid) (lift (over w' M) m l k c pre post p es nil (sel_same c v (U (node c))) i j g) g.above
      (subst (λ y. Near (suc l) p y) (sym z) n) (omega (arith, s, z)))

  -- two entries for the hole's, and on
  pub parted_ok : (l k c d : ℕ) (pre post : List (ℕ × Slot (suc l))) (p : Path (suc l)) (w : Writes) (es L R : List (ℕ × Slot l)) (go : Go) → es ≡ L ++ R
      → fewest_entries l ≤ length L → length L ≤ most_entries l → fewest_entries l ≤ length R → length R ≤ most_entries l
      → Near (suc l) p (length pre + suc (suc (length post))) → length pre + suc (suc (length post)) ≤ suc (most_entries (suc l)) → Next (suc l) p go
      → Focus (over w M) l (frame k c pre post p) es (one d) m
      → Ok F E M (parted go l w (branch l k pre post p) c (ren (word l) L) d (ren (word l) R))
  parted_ok l k c d pre post p w es L R go e i1 j1 i2 j2 n s next f =
      let U = over w M in
      let P = frame k c pre post p in
      let v1 = node_value l (ren (word l) L) in
      let v2 = node_value l (ren (word l) R) in
      let U1 = with_value (node c) v1 U in
      let w' : Writes = (node d, v2) ∷ (node c, v1) ∷ w in
      let mid : List (ℕ × Slot (suc l)) = (k, (c, L)) ∷ (first_key_or R 0, (d, R)) ∷ post in
      let f1 = set_node U m l P es (one d) c v1 (omega (arith, one_same c)) f in
      let f2 = set_node U1 m l P es (one d) d v2 (omega (arith, one_same d)) f1 in
      let t = mark_le (U (flag c)) (U (node c)) (around l P c + one c c + tally (cnt l) es c + one d c) (f.marks c) in
      let z : one d c ≡ 0 = omega (arith, t, one_same c) in
      let f3 = recut (over w' M) m l k c d pre post p es L R (one d) nil e (λ x. omega arith)
      (sel_other d c v2 (U1 (node c)) (ne_of d c z) ∙ sel_same c v1 (U (node c))) (sel_same d v2 (U1 (node d))) i1 j1 i2 j2 (mn_mx l).0 f2 in
      let y = length-append pre mid in
      subst (λ e. Ok F E M (go w' e))
      (ren_app (word (suc l)) pre mid ∙ ap (λ q. ren (word (suc l)) pre ++ ((k, c) ∷ (q, d) ∷ ren (word (suc l)) post)) (sym (ren_nxt (word l) R 0)))
      (next w' (pre ++ mid) f3 f2.above (subst (λ q. Near (suc l) p q) (sym y) n) (omega (arith, s, y)))

  -- a root with one child takes over its contents
  collapse_ok : (l k c r : ℕ) (pre post : List (ℕ × Slot (suc l))) (w : Writes) (es : List (ℕ × Slot l)) → fewest_entries l ≤ length es → length es ≤ most_entries l → length pre + length post ≡ 0
      → Focus (over w M) l (frame k c pre post (top r)) es nil m → Ok F E M (release w c (λ w'. P.done (a, (node r, node_value l (ren (word l) es)) ∷ w')))
  collapse_ok l k c r (e ∷ pre) post w es i j z f = absurd (omega (arith, z))
  collapse_ok l k c r [] (e ∷ post) w es i j z f = absurd (omega (arith, z))
  collapse_ok l k c r [] [] w es i j z f =
      let U = over w M in
      let g = slot_freed U m l (top r) es (one c) nil c (λ x. omega arith) (shrink U m l r k c es nil (one c) (λ x. omega arith) f) in
      release_ok F E M w c (λ w'. P.done (a, (node r, node_value l (ren (word l) es)) ∷ w'))
      (refl, write_ok M m l (top r) ((node c, free) ∷ (flag c, taken false) ∷ w) es g tt (omega (arith, bottom_mn l, i)) j)

  merged_ok : (l k c : ℕ) (pre post : List (ℕ × Slot (suc l))) (p : Path (suc l)) (w : Writes) (es : List (ℕ × Slot l)) (go : Go)
      → fewest_entries l ≤ length es → length es ≤ most_entries l → floor (suc l) p ≤ suc (suc (length pre + length post)) → suc (length pre + length post) ≤ most_entries (suc l) → Next (suc l) p go
      → Focus (over w M) l (frame k c pre post p) es nil m
      → Ok F E M (merged a l (branches (suc l) p) go w (branch l k pre post p) c (ren (word l) es))
  merged_ok l k c pre post (frame k' c' pre' post' p) w es go i j n s next f =
      back_ok l k c pre post (frame k' c' pre' post' p) w es go i j (omega (arith, n)) (omega (arith, s)) next f
  merged_ok l k c pre post (top r) w es go i j n s next f =
      let W = word (suc l) in
      let z = length-append (ren W pre) ((k, c) ∷ ren W post) in
      if_ok F E M (ℕ_discrete (length (ren W pre ++ (k, c) ∷ ren W post)) 1) _ _
      (λ q. collapse_ok l k c r pre post w es i j (omega (arith, q, z, ren_length W pre, ren_length W post)) f)
      (λ q. back_ok l k c pre post (top r) w es go i j (omega (arith, q, z, ren_length W pre, ren_length W post)) (omega (arith, s)) next f)

  -- too few entries: the right neighbour
  right_ok : (l k c k2 c2 : ℕ) (es2 : List (ℕ × Slot l)) (pre post : List (ℕ × Slot (suc l))) (p : Path (suc l)) (w : Writes) (es : List (ℕ × Slot l)) (go : Go)
      → suc (length es) ≡ fewest_entries l → floor (suc l) p ≤ suc (suc (length pre + length post)) → suc (suc (length pre + length post)) ≤ most_entries (suc l) → Next (suc l) p go
      → Focus (over w M) l (frame k c pre ((k2, (c2, es2)) ∷ post) p) es nil m
      → Ok F E M (with_right a l (branches (suc l) p) go w (branch l k pre post p) c (ren (word l) es) k2 c2)
  right_ok l k c k2 c2 es2 pre post p w es go n fl s next f =
      let U = over w M in
      let W = word l in
      let W' = word (suc l) in
      let r = nm (suc l) p in
      let K = f.ctx.1.0 in
      let b = first_key_or post (hi (suc l) p) in
      let t = mark_le (U (flag c)) (U (node c)) (around l (frame k c pre ((k2, (c2, es2)) ∷ post) p) c + one c c + tally (cnt l) es c + 0) (f.marks c) in
      let g = widen_right U m l k c k2 c2 es2 pre post p es nil (one c2) (λ x. omega arith) f in
      let x = mn_mx l in
      let y = ren_length W es2 in
      if_ok F E M (ℕ_discrete c2 c) (P.fail no_tree) _
      (λ q. absurd (omega (arith, t, one_same c, subst (λ d. one d c ≡ 1) (sym q) (one_same c))))
      (λ _. kid_ok F E M w l k2 b c2 es2 _ K.at K.from K.least
      (if_ok F E M (dec_lt (fewest_entries l) (length (ren W es2))) _ _
      (λ q.
      let tk = length-take-le 1 es2 (omega (arith, q, y)) in
      let td = length-append (take 1 es2) (drop 1 es2) in
      let tt' = ap length (take-append-drop 1 es2) in
      let la = length-append es (take 1 es2) in
      subst (λ z. Ok F E M (parted go l w (branch l k pre post p) c z c2 (drop 1 (ren W es2))))
      (ren_app W es (take 1 es2) ∙ ap (λ z. ren W es ++ z) (sym (ren_take W 1 es2)))
      (subst (λ z. Ok F E M (parted go l w (branch l k pre post p) c (ren W (es ++ take 1 es2)) c2 z)) (sym (ren_drop W 1 es2))
      (parted_ok l k c c2 pre post p w (es ++ es2) (es ++ take 1 es2) (drop 1 es2) go
      (ap (λ z. es ++ z) (sym (take-append-drop 1 es2)) ∙ sym (append_assoc es (take 1 es2) (drop 1 es2)))
      (omega (arith, la, tk, n)) (omega (arith, la, tk, n, x)) (omega (arith, tk, td, tt', q, y)) (omega (arith, tk, td, tt', K.most))
      (near_of (suc l) p (length pre + suc (suc (length post))) (omega (arith, fl))) (omega (arith, s)) next g)))
      (λ q.
      let la = length-append es es2 in
      release_ok F E M w c2 (λ w'. merged a l (branches (suc l) p) go w' (branch l k pre post p) c (ren W es ++ ren W es2))
      (subst (λ z. Ok F E M (merged a l (branches (suc l) p) go ((node c2, free) ∷ (flag c2, taken false) ∷ w) (branch l k pre post p) c z)) (ren_app W es es2)
      (merged_ok l k c pre post p ((node c2, free) ∷ (flag c2, taken false) ∷ w) (es ++ es2) go
      (omega (arith, la, K.least)) (omega (arith, la, n, q, y, x)) fl (omega (arith, s)) next
      (slot_freed U m l (frame k c pre post p) (es ++ es2) (one c2) nil c2 (λ x. omega arith) g))))))

  -- too few entries in the last child: the left neighbour
  left_ok : (l k c k1 c1 : ℕ) (es1 : List (ℕ × Slot l)) (pre : List (ℕ × Slot (suc l))) (p : Path (suc l)) (w : Writes) (es : List (ℕ × Slot l)) (go : Go)
      → suc (length es) ≡ fewest_entries l → floor (suc l) p ≤ suc (suc (length pre)) → suc (suc (length pre)) ≤ most_entries (suc l) → Next (suc l) p go
      → Focus (over w M) l (frame k c (pre ++ ((k1, (c1, es1)) ∷ [])) [] p) es nil m
      → Ok F E M (with_left a l (branches (suc l) p) go w (branch l k1 pre [] p) c (ren (word l) es) c1)
  left_ok l k c k1 c1 es1 pre p w es go n fl s next f =
      let U = over w M in
      let W = word l in
      let W' = word (suc l) in
      let r = nm (suc l) p in
      let mid : List (ℕ × Slot (suc l)) = (k1, (c1, es1)) ∷ [] in
      let K : Kid (N w) l (Entry (N w) l) k1 k (c1, es1) = (chain_right (Entry (N w) (suc l)) k pre mid f.ctx.0).0 in
      let t = mark_le (U (flag c)) (U (node c)) (around l (frame k c (pre ++ mid) [] p) c + one c c + tally (cnt l) es c + 0) (f.marks c) in
      let g = widen_left U m l k c k1 c1 es1 pre [] p es nil (one c) (λ x. omega arith) f in
      let x = mn_mx l in
      let y = ren_length W es1 in
      let j = length (ren W es1) - 1 in
      if_ok F E M (ℕ_discrete c1 c) (P.fail no_tree) _
      (λ q. absurd (omega (arith, t, one_same c, tally_app (cnt (suc l)) pre mid c, subst (λ d. one d c ≡ 1) (sym q) (one_same c))))
      (λ _. kid_ok F E M w l k1 k c1 es1 _ K.at K.from K.least
      (if_ok F E M (dec_lt (fewest_entries l) (length (ren W es1))) _ _
      (λ q.
      let tk = length-take-le j es1 (omega (arith, q, y)) in
      let td = length-append (take j es1) (drop j es1) in
      let tt' = ap length (take-append-drop j es1) in
      let la = length-append (drop j es1) es in
      subst (λ z. Ok F E M (parted go l w (branch l k1 pre [] p) c1 z c (drop j (ren W es1) ++ ren W es))) (sym (ren_take W j es1))
      (subst (λ z. Ok F E M (parted go l w (branch l k1 pre [] p) c1 (ren W (take j es1)) c z))
      (ren_app W (drop j es1) es ∙ ap (λ z. z ++ ren W es) (sym (ren_drop W j es1)))
      (parted_ok l k1 c1 c pre [] p w (es1 ++ es) (take j es1) (drop j es1 ++ es) go
      (ap (λ z. z ++ es) (sym (take-append-drop j es1)) ∙ append_assoc (take j es1) (drop j es1) es)
      (omega (arith, tk, q)) (omega (arith, tk, y, K.most)) (omega (arith, la, td, tk, tt', y, n, q)) (omega (arith, la, td, tk, tt', y, n, q, x))
      (near_of (suc l) p (length pre + 2) (omega (arith, fl))) (omega (arith, s)) next g)))
      (λ q.
      let la = length-append es1 es in
      release_ok F E M w c (λ w'. merged a l (branches (suc l) p) go w' (branch l k1 pre [] p) c1 (ren W es1 ++ ren W es))
      (subst (λ z. Ok F E M (merged a l (branches (suc l) p) go ((node c, free) ∷ (flag c, taken false) ∷ w) (branch l k1 pre [] p) c1 z)) (ren_app W es1 es)
      (merged_ok l k1 c1 pre [] p ((node c, free) ∷ (flag c, taken false) ∷ w) (es1 ++ es) go
      (omega (arith, la, K.least)) (omega (arith, la, n, q, y, x)) (omega (arith, fl)) (omega (arith, s)) next
      (slot_freed U m l (frame k1 c1 pre [] p) (es1 ++ es) (one c) nil c (λ x. omega arith) g))))))

  pub neighbour_ok : (l k c : ℕ) (pre post : List (ℕ × Slot (suc l))) (p : Path (suc l)) (w : Writes) (es : List (ℕ × Slot l)) (go : Go)
      → suc (length es) ≡ fewest_entries l → floor (suc l) p ≤ suc (length pre + length post) → suc (length pre + length post) ≤ most_entries (suc l) → Next (suc l) p go
      → Focus (over w M) l (frame k c pre post p) es nil m
      → Ok F E M (neighbour a l (branches (suc l) p) go w (branch l k pre post p) c (ren (word l) es) (ren (word (suc l)) post))
  neighbour_ok l k c pre (e ∷ post) p w es go n fl s next f =
      right_ok l k c e.0 e.1.0 e.1.1 pre post p w es go n (omega (arith, fl)) (omega (arith, s)) next f
  neighbour_ok l k c pre [] p w es go n fl s next f = by (snoc_view pre)
    where
      by : (pre ≡ []) ⊎ ((i : List (ℕ × Slot (suc l))) × (x : ℕ × Slot (suc l)) × (pre ≡ i ++ (x ∷ [])))
          → Ok F E M (left_of a l (branches (suc l) p) go w (nm (suc l) p) c (ren (word l) es) (unsnoc (ren (word (suc l)) pre)))
      by (inl q) = absurd (omega (arith, fl, ap length q, bottom_floor (suc l) p))
      by (inr (i, x, q)) =
          let z = ap length q ∙ length-append i (x ∷ []) in
          subst (λ y. Ok F E M (left_of a l (branches (suc l) p) go w (nm (suc l) p) c (ren (word l) es) y))
          (sym (ap (λ y. unsnoc (ren (word (suc l)) y)) q ∙ ap unsnoc (ren_app (word (suc l)) i (x ∷ [])) ∙ unsnoc_app (ren (word (suc l)) i) (x.0, x.1.0)))
          (left_ok l k c x.0 x.1.0 x.1.1 i p w es go n (omega (arith, fl, z)) (omega (arith, s, z)) next
          (subst (λ y. Focus (over w M) l (frame k c y [] p) es nil m) q f))
