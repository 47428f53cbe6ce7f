-- Migrate on a snapshot that holds a tree.
use Rattle.std.specs.Prelude.{◌≡◌, refl, true, false, List, [], ◌∷◌, ◌++◌, ℕ, zero, suc, ◌+◌, ◌<◌, ◌≤◌, length}
use Rattle.std.proofs.Common.{ap, sym, ◌∙◌, subst, true≢false, inl, inr, arith, length-append}
use Rattle.std.proofs.Math.Decide.{ℕ_discrete, dec_lt, dec_le}
use Rattle.base.specs.Test.{ifd}
use Rattle.base.proofs.Laws.Test.{yes_of, of_yes}
use Rattle.nodes.specs.Name.{server_of, slot_of}
use Rattle.operations.specs.Object.{Obj, meta, node, flag, object, Val, root, body, taken, flags, free, keys_in, level_of, states_of, no_tree, Ans, Writes, over}
use Rattle.operations.proofs.Laws.Object.{kind_of}
use Rattle.operations.specs.Map.{Map, two_to_64}
use Rattle.operations.specs.Entry.{Entries, node_value, Cut, cut}
use Rattle.operations.specs.Path.{TreePlan, kid, when_root, open_node, down}
use Rattle.operations.specs.Slot.{take_node, release}
use Rattle.operations.specs.Migrate.{moved, move_root, move_at, to_level, first_key, move_below, move_if, migrate_plan}
use Rattle.operations.specs.Chain.{one, tally, ren}
use Rattle.operations.proofs.Laws.Chain.{one_same, one_other, tally_app, ren_app, ren_length}
use Rattle.operations.proofs.Laws.Places.{cut_app, cut_le, cut_gt, ren_cut}
use Rattle.operations.proofs.Laws.Ensures.{Terms, Ok, if_ok, cond_ok, sel_same}
use Rattle.operations.specs.Tree.{Slot, word, cnt, Mark}
use Rattle.operations.proofs.Laws.Focus.{Path, top, frame, nm, hi, around, nil, Rep, mark_free}
use Rattle.operations.proofs.Laws.Moves.{set_node, take_slot as slot_taken, release as slot_freed, lift, rename, rename_root}
use Rattle.operations.proofs.Laws.Down.{branches, open_ok, kid_ok, Site, site_root, site_rising, site_down}
use Rattle.operations.proofs.Laws.Slots.{Supply, take_node_ok, release_ok, take_on_ok}
use Rattle.operations.proofs.Laws.Rise.{write_ok}
use Rattle.operations.proofs.Laws.Found.{leaf_tally, locate, level_mk, node_like, all_nodes, Met, met, stored_length}
use Rattle.plans.specs.Plan as P

module _ (F : Terms) (slots : ℕ) (al : slots ≤ 1024) (M : Obj → Val) (supply : Supply F M slots) (m : Map) (R : Rep M m) (s : ℕ) where
  -- the snapshot with the writes holds the same map
  abbrev pub Kept : Ans → Writes → Type 0
  Kept b w = Rep (over w M) m

  abbrev N : ℕ → Val
  N n = M (node n)

  -- the root moves
  move_root_ok : (v : Val) → M (node R.name) ≡ v → Ok F Kept M (move_root slots (states_of (M meta)) R.name s v)
  move_root_ok v e =
      let st = states_of (M meta) in
      let l = R.level in
      let r = R.name in
      let es = R.ents in
      let f = R.tree in
      let t : ℕ → ℕ = λ d. 0 + one r d + tally (cnt l) es d + 0 in
      let end : ℕ → Writes → TreePlan = λ d w. P.done ((1, d, []), (node d, v) ∷ w) in
      take_on_ok F Kept M slots al supply (s ∷ []) (slot_of r) [] (λ d w. take_node w d (release ((meta, root d st) ∷ w) r (end d))) t f.marks
      (λ d sm z.
      let w1 : Writes = (flag d, taken true) ∷ [] in
      let w2 : Writes = (meta, root d st) ∷ w1 in
      let w3 : Writes = (node r, free) ∷ (flag r, taken false) ∷ w2 in
      take_node_ok F Kept M w1 d (release w2 r (end d)) (mark_free (M (flag d)) (M (node d)) (t d) z (f.marks d)).1
      (release_ok F Kept M w2 r (end d)
      (subst (λ u. Rep (over ((node d, u) ∷ w3) M) m) (sym R.stored ∙ e)
      (write_ok M m l (top d) w3 es
      (slot_freed (over w2 M) m l (top d) es (one r) nil r (λ x. omega arith)
      (rename_root (over w1 M) m l r d st es (one d) (one r) (λ x. omega arith) (slot_taken M m l (top r) es nil (one d) d z sm (λ x. omega arith) f)))
      tt R.least R.most))))

  -- a node below the root moves
  move_kid_ok : (key l k n : ℕ) (pre post : List (ℕ × Slot (suc l))) (p : Path (suc l)) (es : List (ℕ × Slot l)) (v : Val) → M (node n) ≡ v
      → Site M m key l (frame k n pre post p) es
      → Ok F Kept M (moved slots n s v (λ d w. w) (λ d w. P.done ((1, d, []), (node (nm (suc l) p), node_value (suc l) (ren (word (suc l)) pre ++ (k, d) ∷ ren (word (suc l)) post)) ∷ w)))
  move_kid_ok key l k n pre post p es v e g =
      let f = g.focus in
      let W = word (suc l) in
      let hole = frame k n pre post p in
      let t : ℕ → ℕ = λ d. around l hole d + one n d + tally (cnt l) es d + 0 in
      let end : ℕ → Writes → TreePlan = λ d w. P.done ((1, d, []), (node (nm (suc l) p), node_value (suc l) (ren W pre ++ (k, d) ∷ ren W post)) ∷ (node d, v) ∷ w) in
      take_on_ok F Kept M slots al supply (s ∷ []) (slot_of n) [] (λ d w. take_node w d (release w n (end d))) t f.marks
      (λ d sm z.
      let w1 : Writes = (flag d, taken true) ∷ [] in
      let w2 : Writes = (node n, free) ∷ (flag n, taken false) ∷ w1 in
      let u = node_value l (ren (word l) es) in
      let mid : List (ℕ × Slot (suc l)) = (k, (d, es)) ∷ post in
      let y = length-append pre mid in
      let f1 = slot_freed (over w1 M) m l (frame k d pre post p) es (one n) nil n (λ x. omega arith)
      (rename (over w1 M) m l k n d pre post p es (one d) (one n) (λ x. omega arith) (slot_taken M m l hole es nil (one d) d z sm (λ x. omega arith) f)) in
      let f2 = set_node (over w2 M) m l (frame k d pre post p) es nil d u (omega (arith, one_same d)) f1 in
      let f3 = lift (over ((node d, u) ∷ w2) M) m l k d pre post p es nil (sel_same d u (over w2 M (node d))) g.least g.most f2 in
      take_node_ok F Kept M w1 d (release w1 n (end d)) (mark_free (M (flag d)) (M (node d)) (t d) z (f.marks d)).1
      (release_ok F Kept M w1 n (end d)
      (subst (λ x. Rep (over ((node (nm (suc l) p), node_value (suc l) (ren W pre ++ (k, d) ∷ ren W post)) ∷ (node d, x) ∷ w2) M) m) (sym g.at ∙ e)
      (subst (λ x. Rep (over ((node (nm (suc l) p), node_value (suc l) x) ∷ (node d, u) ∷ w2) M) m) (ren_app W pre mid)
      (write_ok M m (suc l) p ((node d, u) ∷ w2) (pre ++ mid) f3 f2.above (omega (arith, y, g.stored.1)) (omega (arith, y, g.stored.2)))))))

  -- the way down to the parent of a node of the tree, by the node's first key
  module _ (n j lv key : ℕ) (ks vs : List ℕ) (e : M (node n) ≡ body j lv (key ∷ ks) vs) where
    abbrev v : Val
    v = body j lv (key ∷ ks) vs

    -- the entry that the key leads to is the one with the node
    in_cut : (l : ℕ) (p : Path (suc l)) (y : ℕ × Slot (suc l)) (es : List (ℕ × Slot (suc l))) → Site M m key (suc l) p (y ∷ es) → 1 ≤ tally (cnt (suc l)) (y ∷ es) n
        → 1 ≤ one (cut key y es).1.1.0 n + tally (cnt l) (cut key y es).1.1.1 n
    in_cut l p y es g h = by (dec_le 1 (tally (cnt (suc l)) c.0 n)) (dec_le 1 (tally (cnt (suc l)) c.2 n))
      where
        c : Cut (Slot (suc l))
        c = cut key y es

        b : ℕ
        b = hi (suc l) p

        D : Site M m key l (frame (cut key y es).1.0 (cut key y es).1.1.0 (cut key y es).0 (cut key y es).2 p) (cut key y es).1.1.1
        D = (site_down M m key l p y es g).0

        W : Met N (suc l) key y.0 b lv
        W = met N n j lv key ks vs e (suc l) b (y ∷ es) g.focus.segs h

        all : tally (cnt (suc l)) (y ∷ es) n ≡ tally (cnt (suc l)) c.0 n + tally (cnt (suc l)) (c.1 ∷ c.2) n
        all = ap (λ z. tally (cnt (suc l)) z n) (cut_app key y es) ∙ tally_app (cnt (suc l)) c.0 (c.1 ∷ c.2) n

        by : Dec (1 ≤ tally (cnt (suc l)) c.0 n) → Dec (1 ≤ tally (cnt (suc l)) c.2 n) → 1 ≤ one c.1.1.0 n + tally (cnt l) c.1.1.1 n
        by (yes q) d = absurd (omega (
          arith,
          (met N n j lv key ks vs e (suc l) c.1.0 c.0 D.focus.ctx.0 q).upto,
          cut_le key (suc y.0) b y es (site_rising M m key (suc l) p (y ∷ es) g).1 W.from,
        ))
        by (no q) (yes d) = absurd (omega (
          arith,
          (met N n j lv key ks vs e (suc l) b c.2 D.focus.ctx.1 d).from,
          cut_gt key (suc y.0) b b y es (site_rising M m key (suc l) p (y ∷ es) g).1 W.upto,
        ))
        by (no q) (no d) = omega (arith, h, all, q, d)

    find_ok : (l : ℕ) (p : Path l) (es : List (ℕ × Slot l)) → Site M m key l p es → 1 ≤ tally (cnt l) es n
        → Ok F Kept M (down (to_level (suc lv)) key (move_at slots n s v key) l (branches l p) (nm l p) (ren (word l) es))
    find_ok zero p es g h = absurd (omega (arith, h, leaf_tally es n))
    find_ok (suc l) p [] g h = absurd (omega (arith, h))
    find_ok (suc l) p (y ∷ es) g h =
        let c = cut key y es in
        let w = word (suc l) in
        let D = site_down M m key l p y es g in
        let hole = frame c.1.0 c.1.1.0 c.0 c.2 p in
        let i = in_cut l p y es g h in
        let there : Cut ℕ → TreePlan = λ c. moved slots n s v (λ d w. w) (λ d w. P.done ((1, d, []), (node (nm (suc l) p), node_value (suc l) (c.0 ++ (c.1.0, d) ∷ c.2)) ∷ w)) in
        let met_here : Cut ℕ → TreePlan = λ c. ifd (ℕ_discrete c.1.1 n) (there c) (P.fail no_tree) in
        let on : Cut ℕ → TreePlan = λ c. kid [] l c.1.0 c.1.1
        (λ es'. down (to_level (suc lv)) key (move_at slots n s v key) l (record { nm = nm (suc l) p; key = c.1.0; pre = c.0; post = c.2 } ∷ branches (suc l) p) c.1.1 es') in
        cond_ok F Kept M (to_level (suc lv) (suc l)) (met_here (cut key (y.0, w y.1) (ren w es))) (on (cut key (y.0, w y.1) (ren w es)))
        (λ q. subst (λ z. Ok F Kept M (met_here z)) (sym (ren_cut w key y es))
        (if_ok F Kept M (ℕ_discrete c.1.1.0 n) _ (P.fail no_tree)
        (λ x. move_kid_ok key l c.1.0 n c.0 c.2 p c.1.1.1 v e (subst (λ z. Site M m key l (frame c.1.0 z c.0 c.2 p) c.1.1.1) x D.0))
        (λ x. absurd (omega (
          arith,
          yes_of (ℕ_discrete (suc l) (suc lv)) q,
          (met N n j lv key ks vs e l (hi l hole) c.1.1.1 D.0.focus.segs (omega (arith, i, one_other c.1.1.0 n (λ z. x (sym z))))).under,
        )))))
        (λ q. subst (λ z. Ok F Kept M (on z)) (sym (ren_cut w key y es))
        (kid_ok F Kept M [] l c.1.0 (hi l hole) c.1.1.0 c.1.1.1
        (λ es'. down (to_level (suc lv)) key (move_at slots n s v key) l (branches l hole) c.1.1.0 es') D.0.at D.1 D.0.least
        (find_ok l hole c.1.1.1 D.0 (omega (
          arith,
          i,
          one_other c.1.1.0 n (λ z. true≢false
              (sym (of_yes (ℕ_discrete (suc l) (suc lv)) (ap suc (sym (level_mk l (ren (word l) c.1.1.1)) ∙ ap level_of (sym D.0.at ∙ ap (λ x. M (node x)) (sym z) ∙ e)))) ∙ q)),
        )))))

  -- a taken node other than the root occurs below it
  occurs : (n j l : ℕ) (ks vs : List ℕ) → M (node n) ≡ body (suc j) l ks vs → ¬ (n ≡ R.name) → 1 ≤ tally (cnt R.level) R.ents n
  occurs n j l ks vs e ne = by (R.tree.marks n)
    where
      by : Mark (M (flag n)) (M (node n)) (0 + one R.name n + tally (cnt R.level) R.ents n + 0) → 1 ≤ tally (cnt R.level) R.ents n
      by (inl q) = omega (arith, q.0, one_other R.name n ne)
      by (inr q) = absurd (omega (arith, ap kind_of (sym q.2 ∙ e)))

  below_ok : (n j l : ℕ) (ks vs : List ℕ) → M (node n) ≡ body (suc j) l ks vs → ¬ (n ≡ R.name)
      → Ok F Kept M (ifd (dec_le 7 (length ks)) (first_key ks (move_below slots R.name n s (body (suc j) l ks vs) l)) (P.fail no_tree))
  below_ok n j l ks vs e ne =
      let h = occurs n j l ks vs e ne in
      let G = locate N R.level n two_to_64 R.ents R.tree.segs h in
      let v : node_value G.lv (ren (word G.lv) G.es) ≡ body (suc j) l ks vs = sym G.kid.at ∙ e in
      let k7 : 7 ≤ length ks = subst (λ z. 7 ≤ length (keys_in z)) v
      (stored_length G.lv (ren (word G.lv) G.es) (omega (arith, G.kid.least, ren_length (word G.lv) G.es))) in
      let lt : l < R.level = omega (arith, G.under, sym (level_mk G.lv (ren (word G.lv) G.es)) ∙ ap level_of v) in
      if_ok F Kept M (dec_le 7 (length ks)) _ (P.fail no_tree)
      (λ _. by ks e k7 lt h) (λ q. absurd (q k7))
    where
      by : (ks : List ℕ) → M (node n) ≡ body (suc j) l ks vs → 7 ≤ length ks → l < R.level → 1 ≤ tally (cnt R.level) R.ents n
          → Ok F Kept M (first_key ks (move_below slots R.name n s (body (suc j) l ks vs) l))
      by [] e i lt h = absurd (omega (arith, i))
      by (key ∷ ks) e i lt h =
          let r = R.name in
          let v = body (suc j) l (key ∷ ks) vs in
          let go : ℕ → Entries → TreePlan = λ i es. down (to_level (suc l)) key (move_at slots n s v key) i [] r es in
          let on : ℕ → Entries → TreePlan = λ i es. ifd (dec_lt l i) (go i es) (P.fail no_tree) in
          subst (λ u. Ok F Kept M (open_node 0 u on)) (sym R.stored)
          (open_ok F Kept M R.level 0 two_to_64 R.ents on R.tree.from R.least
          (if_ok F Kept M (dec_lt l R.level) _ (P.fail no_tree)
          (λ _. find_ok n (suc j) l key ks vs e R.level (top r) R.ents (site_root M m key R) h)
          (λ q. absurd (q lt))))

  pub migrate_ok : (n : ℕ) → Ok F Kept M (migrate_plan slots n s)
  migrate_ok n =
      subst (λ u. Ok F Kept M (when_root u (λ r. P.ask (object (node n)) (λ v. move_if slots (states_of u) r n s v)))) (sym R.tree.top_is) (by (M (node n)) refl)
    where
      no_node : (v : Val) → M (node n) ≡ v → node_like v ≡ false → ⊥
      no_node v e q = true≢false (sym (all_nodes M m R n) ∙ ap node_like e ∙ q)

      by : (v : Val) → M (node n) ≡ v → Ok F Kept M (move_if slots (states_of (M meta)) R.name n s v)
      by (root q t) e = absurd (no_node (root q t) e refl)
      by (taken b) e = absurd (no_node (taken b) e refl)
      by (flags fs) e = absurd (no_node (flags fs) e refl)
      by (body zero l ks vs) e = R
      by (body (suc j) l ks vs) e =
          let v = body (suc j) l ks vs in
          if_ok F Kept M (ℕ_discrete (server_of n) s) _ _ (λ _. R)
          (λ _. if_ok F Kept M (ℕ_discrete n R.name) _ _
          (λ q. subst (λ z. Ok F Kept M (move_root slots (states_of (M meta)) z s v)) (sym q) (move_root_ok v (ap (λ z. M (node z)) (sym q) ∙ e)))
          (λ q. below_ok n j l ks vs e q))
