-- Splits, and the whole way up.
use Rattle.std.specs.Prelude.{◌≡◌, refl, true, List, [], ◌∷◌, ◌++◌, ℕ, suc, ◌+◌, ◌≤◌, length, take, drop}
use Rattle.std.proofs.Common.{ap, sym, ◌∙◌, subst, arith, length-append, take-append-drop, length-take-le}
use Rattle.std.proofs.Math.Decide.{dec_le}
use Rattle.operations.specs.Object.{Obj, node, flag, Val, taken, Ans, Writes, with_value, over}
use Rattle.operations.specs.Map.{Map, two_to_64}
use Rattle.operations.specs.Entry.{Entries, node_value, fewest_entries, most_entries, first_key_or}
use Rattle.operations.specs.Path.{TreePlan}
use Rattle.operations.specs.Slot.{take_for, take_node}
use Rattle.operations.specs.Change.{Go, parted, split_root, split, up}
use Rattle.operations.specs.Chain.{one, tally, ren}
use Rattle.operations.proofs.Laws.Chain.{one_same, ren_length, ren_take, ren_drop, ren_nxt}
use Rattle.operations.proofs.Laws.Ensures.{Terms, Ok, if_ok, sel_same, sel_other}
use Rattle.operations.specs.Tree.{room, Slot, word, cnt}
use Rattle.operations.proofs.Laws.Tree.{room_is}
use Rattle.operations.proofs.Laws.Focus.{Path, top, frame, nm, around, floor, Focus, nil, Rep, Ends, mark_le, mark_free}
use Rattle.operations.proofs.Laws.Count.{no_fifth}
use Rattle.operations.proofs.Laws.Moves.{set_node, take_slot as slot_taken, recut, grow}
use Rattle.operations.proofs.Laws.Down.{branch, branches}
use Rattle.operations.proofs.Laws.Slots.{Supply, take_for_ok, take_node_ok}
use Rattle.operations.proofs.Laws.Rise.{near_of, ne_of, mn_mx, Next, write_ok, parted_ok, neighbour_ok}
use Rattle.plans.specs.Plan as P

module _ (F : Terms) (slots : ℕ) (al : slots ≤ 1024) (M : Obj → Val) (supply : Supply F M slots) (m : Map) (a : Ans) where
  abbrev E : Ans → Writes → Type 0
  E = Ends M m a

  -- a split below the root
  split_ok : (l k c : ℕ) (pre post : List (ℕ × Slot (suc l))) (p : Path (suc l)) (w : Writes) (es : List (ℕ × Slot l)) (go : Go)
      → length es ≡ suc (most_entries l) → floor (suc l) p ≤ suc (length pre + length post) → suc (length pre + length post) ≤ most_entries (suc l) → Next F M m a (suc l) p go
      → Focus (over w M) l (frame k c pre post p) es nil m
      → Ok F E M (split slots go l w (branch l k pre post p) c (ren (word l) es))
  split_ok l k c pre post p w es go n fl s next f =
      let U = over w M in
      let W = word l in
      let P = frame k c pre post p in
      let t : ℕ → ℕ = λ d. around l P d + one c d + tally (cnt l) es d + 0 in
      let x = mn_mx l in
      let j = fewest_entries l in
      let tk = length-take-le j es (omega (arith, n, x)) in
      let td = length-append (take j es) (drop j es) in
      let tt' = ap length (take-append-drop j es) in
      let on : Entries → Entries → ℕ → Writes → TreePlan = λ L R d w1. parted go l w1 (branch l k pre post p) c L d R in
      take_for_ok F E M slots al supply c w (λ d w1. take_node w1 d (on (take j (ren W es)) (drop j (ren W es)) d w1)) t f.marks
      (λ d sm z.
      let w1 : Writes = (flag d, taken true) ∷ w in
      take_node_ok F E M w1 d (on (take j (ren W es)) (drop j (ren W es)) d w1) (mark_free (U (flag d)) (U (node d)) (t d) z (f.marks d)).1
      (subst (λ y. Ok F E M (on y (drop j (ren W es)) d w1)) (sym (ren_take W j es))
      (subst (λ y. Ok F E M (on (ren W (take j es)) y d w1)) (sym (ren_drop W j es))
      (parted_ok F M m a l k c d pre post p w1 es (take j es) (drop j es) go (sym (take-append-drop j es))
      (omega (arith, tk)) (omega (arith, tk, x)) (omega (arith, tk, td, tt', n, x)) (omega (arith, tk, td, tt', n, x))
      (near_of (suc l) p (length pre + suc (suc (length post))) (omega (arith, fl))) (omega (arith, s)) next
      (slot_taken U m l P es nil (one d) d z sm (λ x. omega arith) f)))))

  -- the root's split, the two slots taken
  root_parted : (l r c d : ℕ) (w : Writes) (es L R : List (ℕ × Slot l)) → suc l ≤ 4 → es ≡ L ++ R
      → fewest_entries l ≤ length L → length L ≤ most_entries l → fewest_entries l ≤ length R → length R ≤ most_entries l
      → Focus (over w M) l (top r) es (λ x. one c x + one d x) m
      → Rep (over ((node r, node_value (suc l) ((0, c) ∷ (first_key_or (ren (word l) R) 0, d) ∷ [])) ∷ (node d, node_value l (ren (word l) R)) ∷ (node c, node_value l (ren (word l) L)) ∷ w) M) m
  root_parted l r c d w es L R i e i1 j1 i2 j2 f =
      let U = over w M in
      let sp : ℕ → ℕ = λ x. one c x + one d x in
      let v1 = node_value l (ren (word l) L) in
      let v2 = node_value l (ren (word l) R) in
      let U1 = with_value (node c) v1 U in
      let U2 = with_value (node d) v2 U1 in
      let f1 = set_node U m l (top r) es sp c v1 (omega (arith, one_same c)) f in
      let f2 = set_node U1 m l (top r) es sp d v2 (omega (arith, one_same d)) f1 in
      let t = mark_le (U (flag c)) (U (node c)) (0 + one r c + tally (cnt l) es c + (one c c + one d c)) (f.marks c) in
      let z : one d c ≡ 0 = omega (arith, t, one_same c) in
      let g = grow U2 m l r c es sp (one d) i (λ x. omega arith) f2 in
      let mid : List (ℕ × Slot (suc l)) = (0, (c, L)) ∷ (first_key_or R 0, (d, R)) ∷ [] in
      let f3 = recut U2 m l 0 c d [] [] (top r) es L R (one d) nil e (λ x. omega arith)
      (sel_other d c v2 (U1 (node c)) (ne_of d c z) ∙ sel_same c v1 (U (node c))) (sel_same d v2 (U1 (node d))) i1 j1 i2 j2 (mn_mx l).0 g in
      subst (λ q. Rep (over ((node r, node_value (suc l) ((0, c) ∷ (q, d) ∷ [])) ∷ (node d, v2) ∷ (node c, v1) ∷ w) M) m) (sym (ren_nxt (word l) R 0))
      (write_ok M m (suc l) (top r) ((node d, v2) ∷ (node c, v1) ∷ w) mid f3 tt (omega arith) (omega arith))

  root_split_ok : (l r : ℕ) (w : Writes) (es : List (ℕ × Slot l)) → suc l ≤ 4 → length es ≡ suc (most_entries l) → Focus (over w M) l (top r) es nil m
      → Ok F E M (split_root slots a l w r (ren (word l) es))
  root_split_ok l r w es i n f =
      let W = word l in
      let j = fewest_entries l in
      let x = mn_mx l in
      let A = take j (ren W es) in
      let B = drop j (ren W es) in
      let tk = length-take-le j es (omega (arith, n, x)) in
      let td = length-append (take j es) (drop j es) in
      let tt' = ap length (take-append-drop j es) in
      let end : ℕ → ℕ → Entries → Entries → Writes → Writes = λ c d L R w2. (node r, node_value (suc l) ((0, c) ∷ (first_key_or R 0, d) ∷ [])) ∷ (node d, node_value l R) ∷ (node c, node_value l L) ∷ w2 in
      let last : ℕ → ℕ → Writes → TreePlan = λ c d w2. take_node w2 c (take_node w2 d (P.done (a, end c d A B w2))) in
      let t1 : ℕ → ℕ = λ x. 0 + one r x + tally (cnt l) es x + 0 in
      take_for_ok F E M slots al supply r w (λ c w1. take_for slots r w1 (λ d w2. last c d w2)) t1 f.marks
      (λ c sm1 z1.
      let w1 : Writes = (flag c, taken true) ∷ w in
      let t2 : ℕ → ℕ = λ x. 0 + one r x + tally (cnt l) es x + one c x in
      let f1 = slot_taken (over w M) m l (top r) es nil (one c) c z1 sm1 (λ x. omega arith) f in
      take_for_ok F E M slots al supply r w1 (λ d w2. last c d w2) t2 f1.marks
      (λ d sm2 z2.
      let w2 : Writes = (flag d, taken true) ∷ w1 in
      let f2 = slot_taken (over w1 M) m l (top r) es (one c) (λ x. one c x + one d x) d z2 sm2 (λ x. refl) f1 in
      take_node_ok F E M w2 c (take_node w2 d (P.done (a, end c d A B w2))) (mark_free (over w M (flag c)) (over w M (node c)) (t1 c) z1 (f.marks c)).1
      (take_node_ok F E M w2 d (P.done (a, end c d A B w2)) (mark_free (over w1 M (flag d)) (over w1 M (node d)) (t2 d) z2 (f1.marks d)).1 (
        refl,
        subst (λ y. Rep (over (end c d y B w2) M) m) (sym (ren_take W j es)) (subst (λ y. Rep (over (end c d (ren W (take j es)) y w2) M) m) (sym (ren_drop W j es))
            (root_parted l r c d w2 es (take j es) (drop j es) i (sym (take-append-drop j es))
            (omega (arith, tk)) (omega (arith, tk, x)) (omega (arith, tk, td, tt', n, x)) (omega (arith, tk, td, tt', n, x)) f2)),
      ))))

  -- a root of level 4 does not split: there are not so many slots
  level_ok : (l r : ℕ) (w : Writes) (es : List (ℕ × Slot l)) → length es ≡ suc (most_entries l) → Focus (over w M) l (top r) es nil m → suc l ≤ 4
  level_ok l r w es n f = go (dec_le (suc l) 4)
    where
      U : Obj → Val
      U = over w M

      t : ℕ → ℕ
      t x = 0 + one r x + tally (cnt l) es x + 0

      go : Dec (suc l ≤ 4) → suc l ≤ 4
      go (yes i) = i
      go (no i) =
          let e : l ≡ 4 = omega (arith, f.lev, i) in
          absurd (no_fifth (λ x. U (node x)) room l two_to_64 es (omega (arith, room_is)) e (omega (arith, n, ap most_entries e)) f.segs
          (λ x. omega (arith, mark_le (U (flag x)) (U (node x)) (t x) (f.marks x)))
          (λ x h. omega (arith, (mark_free (U (flag x)) (U (node x)) (t x) (f.inside x h) (f.marks x)).0)))

  -- new entries of any node, carried to the root
  pub up_ok : (l : ℕ) (p : Path l) → Next F M m a l p (λ w es. up slots a l (branches l p) w (nm l p) es)
  up_ok l (top r) w es f st n s =
      let fl = ren (word l) es in
      let y = ren_length (word l) es in
      if_ok F E M (dec_le (length fl) (most_entries l)) _ _
      (λ q. (refl, write_ok M m l (top r) w es f tt n (omega (arith, q, y))))
      (λ q. let e : length es ≡ suc (most_entries l) = omega (arith, q, s, y) in root_split_ok l r w es (level_ok l r w es e f) e f)
  up_ok l (frame k c pre post p) w es f st n s =
      let fl = ren (word l) es in
      let y = ren_length (word l) es in
      let go : Go = λ w es. up slots a (suc l) (branches (suc l) p) w (nm (suc l) p) es in
      if_ok F E M (dec_le (fewest_entries l) (length fl)) _ _
      (λ q. if_ok F E M (dec_le (length fl) (most_entries l)) _ _
      (λ i. (refl, write_ok M m l (frame k c pre post p) w es f st (omega (arith, q, y)) (omega (arith, i, y))))
      (λ i. split_ok l k c pre post p w es go (omega (arith, i, s, y)) st.1 st.2 (up_ok (suc l) p) f))
      (λ q. neighbour_ok F M m a l k c pre post p w es go (omega (arith, q, n, y)) st.1 st.2 (up_ok (suc l) p) f)
