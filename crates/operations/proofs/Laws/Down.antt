-- The way down from the root of a snapshot that holds a tree.
use Rattle.std.specs.Prelude.{◌≡◌, refl, ℕ, zero, suc, ◌+◌, ◌<◌, ◌≤◌, length}
use Rattle.std.proofs.Common.{ap, sym, ◌∙◌, subst, arith, length-append}
use mathlib.Core.List.{List, [], ◌∷◌, ◌++◌, tail}
use Rattle.std.proofs.Math.Decide.{ℕ_discrete, dec_le}
use Rattle.base.specs.Test.{ifd}
use Rattle.operations.specs.Object.{Obj, node, Val, no_tree, Ans, Writes, over}
use Rattle.operations.specs.Map.{Map, two_to_64}
use Rattle.operations.specs.Entry.{Entries, keys, vals, zip, node_value, fewest_entries, most_entries, first_key_or, Cut, cut}
use Rattle.operations.specs.Path.{TreePlan, open_node, kid, when_root, Branch, to_leaf, down, at_root, from_root}
use Rattle.operations.proofs.Laws.Chain.{Rising, chain_rising, ren_app, ren_length}
use Rattle.operations.specs.Chain.{ren}
use Rattle.operations.proofs.Laws.Places.{cut_app, cut_le, cut_gt, ren_cut}
use Rattle.operations.proofs.Laws.Ensures.{Terms, Ok, see_ok, if_ok}
use Rattle.operations.specs.Tree.{Slot, word, Starts, Entry, bottom}
use Rattle.operations.proofs.Laws.Focus.{entry_rise, Path, top, frame, nm, lo, hi, left, right, floor, Stored, Focus, nil, Rep}
use Rattle.operations.proofs.Laws.Moves.{lower}
use Rattle.operations.proofs.Laws.Maps.{Keys, keys_map, left_lt, right_ge, leaf_pairs, leaf_words}
use Rattle.plans.specs.Plan as P

pub zip_keys : (es : Entries) → zip (keys es) (vals es) ≡ es
zip_keys [] = refl
zip_keys (e ∷ es) = ap (λ r. e ∷ r) (zip_keys es)

zip_from : (k : ℕ) (es : Entries) → 0 < length es → first_key_or es 0 ≡ k → zip (k ∷ keys (tail es)) (vals es) ≡ es
zip_from k [] h e = absurd (omega arith)
zip_from k (x ∷ es) h e = ap (λ j. (j, x.1) ∷ zip (keys es) (vals es)) (sym e) ∙ ap (λ r. x ∷ r) (zip_keys es)

-- the path as the plan has it
abbrev pub branch : (l k : ℕ) (pre post : List (ℕ × Slot (suc l))) → Path (suc l) → Branch
branch l k pre post p = record { nm = nm (suc l) p; key = k; pre = ren (word (suc l)) pre; post = ren (word (suc l)) post }

abbrev pub branches : (l : ℕ) → Path l → List Branch
branches l (top r) = []
branches l (frame k c pre post p) = branch l k pre post p ∷ branches (suc l) p

pub bottom_mn : (l : ℕ) → bottom l ≤ fewest_entries l
bottom_mn zero = omega arith
bottom_mn (suc l) = omega arith

pub bottom_floor : (l : ℕ) (p : Path l) → bottom l ≤ floor l p
bottom_floor l (top r) = omega arith
bottom_floor l (frame k c pre post p) = bottom_mn l

module _ (F : Terms) (Q : Ans → Writes → Type 0) (M : Obj → Val) where
  pub open_ok : (l from b : ℕ) (es : List (ℕ × Slot l)) (k : ℕ → Entries → TreePlan) → Starts l from (first_key_or es b) → bottom l ≤ length es
      → Ok F Q M (k l (ren (word l) es)) → Ok F Q M (open_node from (node_value l (ren (word l) es)) k)
  open_ok zero from b es k st i h = subst (λ z. Ok F Q M (k 0 z)) (sym (zip_keys (ren (word zero) es))) h
  open_ok (suc l) from b [] k st i h = absurd (omega arith)
  open_ok (suc l) from b (e ∷ es) k st i h =
      subst (λ z. Ok F Q M (k (suc l) z)) (sym (zip_from from (ren (word (suc l)) (e ∷ es)) (omega arith) st)) h

  pub kid_ok : (w : Writes) (l from b n : ℕ) (es : List (ℕ × Slot l)) (k : Entries → TreePlan) → over w M (node n) ≡ node_value l (ren (word l) es)
      → Starts l from (first_key_or es b) → fewest_entries l ≤ length es → Ok F Q M (k (ren (word l) es)) → Ok F Q M (kid w l from n k)
  kid_ok w l from b n es k a st i h =
      let size : Entries → TreePlan = λ fs. ifd (dec_le (fewest_entries l) (length fs)) (k fs) (P.fail no_tree) in
      let tests : ℕ → Entries → TreePlan = λ j fs. ifd (ℕ_discrete j l) (size fs) (P.fail no_tree) in
      see_ok F Q M w (node n) (λ v. open_node from v tests)
      (subst (λ v. Ok F Q M (open_node from v tests)) (sym a)
      (open_ok l from b es tests st (omega (arith, bottom_mn l, i))
      (if_ok F Q M (ℕ_discrete l l) (size (ren (word l) es)) (P.fail no_tree)
      (λ _. if_ok F Q M (dec_le (fewest_entries l) (length (ren (word l) es))) (k (ren (word l) es)) (P.fail no_tree) (λ _. h)
      (λ n. absurd (n (omega (arith, i, ren_length (word l) es)))))
      (λ n. absurd (n refl)))))

module _ (M : Obj → Val) (m : Map) (key : ℕ) where
  abbrev N : ℕ → Val
  N n = M (node n)

  -- where a way down by the key has come to
  pub record Site (l : ℕ) (p : Path l) (es : List (ℕ × Slot l)) : Type 0 where
    pub focus : Focus M l p es nil m
    pub stored : Stored N l p
    pub at : M (node (nm l p)) ≡ node_value l (ren (word l) es)
    pub least : floor l p ≤ length es
    pub most : length es ≤ most_entries l
    pub near : key < two_to_64 → (lo l p ≤ key) × (key < hi l p)

  pub site_root : (R : Rep M m) → Site R.level (top R.name) R.ents
  site_root R = record { focus = R.tree; stored = tt; at = R.stored; least = R.least; most = R.most; near = λ h. (omega arith, h) }

  pub site_rising : (l : ℕ) (p : Path l) (es : List (ℕ × Slot l)) → Site l p es → Rising (first_key_or es (hi l p)) (hi l p) (keys es)
  site_rising l p es s = chain_rising (Entry N l) (entry_rise N l) (hi l p) es s.focus.segs

  -- one level down
  pub site_down : (l : ℕ) (p : Path (suc l)) (e : ℕ × Slot (suc l)) (es : List (ℕ × Slot (suc l))) → Site (suc l) p (e ∷ es)
      → let c = cut key e es in Site l (frame c.1.0 c.1.1.0 c.0 c.2 p) c.1.1.1 × Starts l c.1.0 (first_key_or c.1.1.1 (first_key_or c.2 (hi (suc l) p)))
  site_down l p e es s =
      let c = cut key e es in
      let q = cut_app key e es in
      let b = hi (suc l) p in
      let r = (site_rising (suc l) p (e ∷ es) s).1 in
      let W = lower M m l c.1.0 c.1.1.0 c.1.1.1 c.0 c.2 p nil s.stored (subst (λ z. Focus M (suc l) p z nil m) q s.focus) in
      let n : suc (length es) ≡ length c.0 + suc (length c.2) = ap length q ∙ length-append c.0 (c.1 ∷ c.2) in (
        record {
          focus = W.0;
          stored = (
            s.at ∙ ap (λ z. node_value (suc l) (ren (word (suc l)) z)) q ∙ ap (node_value (suc l)) (ren_app (word (suc l)) c.0 (c.1 ∷ c.2)),
            omega (arith, s.least, n),
            omega (arith, s.most, n),
            s.stored,
          );
          at = W.1.at;
          least = W.1.least;
          most = W.1.most;
          near = λ h. (cut_le key (suc e.0) b e es r (omega (arith, s.near h, s.focus.from)), cut_gt key (suc e.0) b b e es r (s.near h).1);
        },
        W.1.from,
      )

  -- the pairs left and right of a leaf are below and above the key
  pub site_left : (l : ℕ) (p : Path l) (es : List (ℕ × Slot l)) → key < two_to_64 → Site l p es → Keys (λ x. x < key) (left l p)
  site_left l p es small s = keys_map (λ x. x < lo l p) (λ x. x < key) (λ x h. omega (arith, h, s.near small)) (left l p) (left_lt N l p s.focus.ctx)

  pub site_right : (l : ℕ) (p : Path l) (es : List (ℕ × Slot l)) → key < two_to_64 → Site l p es → Keys (λ x. key < x) (right l p)
  site_right l p es small s = keys_map (λ x. hi l p ≤ x) (λ x. key < x) (λ x h. omega (arith, h, s.near small)) (right l p) (right_ge N l p s.focus.ctx)

  -- what the leaf holds of the map
  pub site_map : (p : Path zero) (es : Entries) → Site zero p es → left zero p ++ (es ++ right zero p) ≡ m
  site_map p es s = ap (λ z. left zero p ++ (z ++ right zero p)) (sym (leaf_pairs es)) ∙ s.focus.holds

  module _ (F : Terms) (Q : Ans → Writes → Type 0) (k : List Branch → ℕ → Entries → TreePlan) (hk : (p : Path zero) (es : Entries) → Site zero p es → Ok F Q M (k (branches zero p) (nm zero p) es)) where
    down_ok : (l : ℕ) (p : Path l) (es : List (ℕ × Slot l)) → Site l p es
        → Ok F Q M (down to_leaf key (λ _ fs n es. k fs n es) l (branches l p) (nm l p) (ren (word l) es))
    down_ok zero p es s = subst (λ z. Ok F Q M (k (branches zero p) (nm zero p) z)) (sym (leaf_words es)) (hk p es s)
    down_ok (suc l) p [] s = absurd (omega (arith, s.least, bottom_floor (suc l) p))
    down_ok (suc l) p (e ∷ es) s =
        let c = cut key e es in
        let D = site_down l p e es s in
        let P = frame c.1.0 c.1.1.0 c.0 c.2 p in
        let on : Cut ℕ → TreePlan = λ c. kid [] l c.1.0 c.1.1 (λ es'. down to_leaf key (λ _ fs n es. k fs n es) l
        (record { nm = nm (suc l) p; key = c.1.0; pre = c.0; post = c.2 } ∷ branches (suc l) p) c.1.1 es') in
        subst (λ z. Ok F Q M (on z)) (sym (ren_cut (word (suc l)) key e es))
        (kid_ok F Q M [] l c.1.0 (first_key_or c.2 (hi (suc l) p)) c.1.1.0 c.1.1.1
        (λ es'. down to_leaf key (λ _ fs n es. k fs n es) l (branches l P) c.1.1.0 es')
        D.0.at D.1 D.0.least (down_ok l P c.1.1.1 D.0))

    pub root_ok : Rep M m → Ok F Q M (from_root key k)
    root_ok R =
        let r = R.name in
        let on : ℕ → ℕ → Entries → TreePlan = λ r l es. down to_leaf key (λ _ fs n es. k fs n es) l [] r es in
        subst (λ v. Ok F Q M (when_root v (λ r. at_root r (on r)))) (sym R.tree.top_is)
        (subst (λ u. Ok F Q M (open_node 0 u (on r))) (sym R.stored)
        (open_ok F Q M R.level 0 two_to_64 R.ents (on r) R.tree.from R.least (down_ok R.level (top r) R.ents (site_root R))))
