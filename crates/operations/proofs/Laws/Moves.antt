-- Moves on a focus: each step of an operation is one or two of them.
use Rattle.std.specs.Prelude.{◌≡◌, refl, true, false, cond, List, [], ◌∷◌, ◌++◌, ℕ, zero, suc, ◌+◌, ◌<◌, ◌≤◌, length}
use Rattle.std.proofs.Common.{ap, sym, ◌∙◌, subst, append_assoc, append-nil, inl, inr, arith, length-append}
use Rattle.std.proofs.Math.Decide.{ℕ_discrete}
use Rattle.base.specs.Test.{yes?}
use Rattle.operations.specs.Object.{Obj, meta, node, flag, Val, root, taken, free, with_value}
use Rattle.operations.specs.Map.{Map, two_to_64}
use Rattle.operations.proofs.Laws.Map.{HPos}
use Rattle.operations.specs.Entry.{node_value, fewest_entries, most_entries, first_key_or}
use Rattle.operations.specs.Chain.{one, Chain, tally, gather, ren}
use Rattle.operations.proofs.Laws.Chain.{one_same, one_other, nxt_app, chain_app, chain_left, chain_right, chain_lt, chain_frame, tally_app, gather_app, ren_app}
use Rattle.operations.proofs.Laws.Ensures.{sel_all, sel_other}
use Rattle.operations.specs.Tree.{room, Slot, word, cnt, pairs, Starts, Kid, Entry, Mark}
use Rattle.operations.proofs.Laws.Focus.{entry_rise, entry_frame, Path, top, frame, nm, hi, around, left, right, floor, Stored, Focus, nil, Rep, ctx_frame, above_frame, stored_above, mark_le, mark_num, mark_node, mark_free, apart}

-- lists and bounds
pub nxt_any : {A : Type 0} (es : List (ℕ × A)) (a b : ℕ) → 0 < length es → first_key_or es a ≡ first_key_or es b
nxt_any [] a b h = absurd (omega arith)
nxt_any (e ∷ es) a b h = refl

pub starts_le : (l k x : ℕ) → Starts l k x → k ≤ x
starts_le zero k x h = h
starts_le (suc l) k x h = omega (arith, h)

pub starts_refl : (l k : ℕ) → Starts l k k
starts_refl zero k = omega arith
starts_refl (suc l) k = refl

pub starts_app : {A : Type 0} (l k b y : ℕ) (es : List (ℕ × A)) → Starts l k (first_key_or es b) → Starts l b y → Starts l k (first_key_or es y)
starts_app zero k b y [] h g = omega arith
starts_app (suc l) k b y [] h g = g ∙ h
starts_app zero k b y (e ∷ es) h g = h
starts_app (suc l) k b y (e ∷ es) h g = h

leaf_up : (b y : ℕ) → b ≤ y → (es : List (ℕ × ℕ)) → Chain (λ k c v. k < c) b es → Chain (λ k c v. k < c) y es
leaf_up b y g [] h = tt
leaf_up b y g (e ∷ []) h = (omega (arith, h.0), tt)
leaf_up b y g (e ∷ f ∷ es) h = (h.0, leaf_up b y g (f ∷ es) h.1)

-- a chain up to b, where the next entries start from b
pub chain_up : (N : ℕ → Val) (l b y : ℕ) → Starts l b y → (es : List (ℕ × Slot l)) → Chain (Entry N l) b es → Chain (Entry N l) y es
chain_up N zero b y g es h = leaf_up b y g es h
chain_up N (suc l) b y g es h = subst (λ z. Chain (Entry N (suc l)) z es) (sym g) h

module _ (U : Obj → Val) (m : Map) where
  abbrev N : ℕ → Val
  N n = U (node n)

  -- a node that is the hole or spare is written
  pub set_node : (l : ℕ) (p : Path l) (es : List (ℕ × Slot l)) (sp : ℕ → ℕ) (n : ℕ) (v : Val) → 1 ≤ one (nm l p) n + sp n
      → Focus U l p es sp m → Focus (with_value (node n) v U) l p es sp m
  set_node l p es sp n v i f =
      let t = mark_le (U (flag n)) (U (node n)) (around l p n + one (nm l p) n + tally (cnt l) es n + sp n) (f.marks n) in
      let out : around l p n ≡ 0 = omega (arith, t, i) in
      let off : tally (cnt l) es n ≡ 0 = omega (arith, t, i) in
      let g = apart U n v (around l p) out in
      record {
        lev = f.lev;
        top_is = f.top_is;
        inside = f.inside;
        ctx = ctx_frame N (λ x. with_value (node n) v U (node x)) l p g f.ctx;
        above = above_frame N (λ x. with_value (node n) v U (node x)) l p g f.above;
        segs = chain_frame (Entry N l) (Entry (λ x. with_value (node n) v U (node x)) l) (cnt l) N (λ x. with_value (node n) v U (node x))
            (λ k b s. entry_frame N (λ x. with_value (node n) v U (node x)) l k b s) (hi l p) es (apart U n v (tally (cnt l) es) off) f.segs;
        from = f.from;
        rise = f.rise;
        marks = λ x. sel_all n x v (U (node x)) (λ u. Mark (U (flag x)) u (around l p x + one (nm l p) x + tally (cnt l) es x + sp x))
            (λ e. mark_node (U (flag x)) (U (node x)) v (around l p x + one (nm l p) x + tally (cnt l) es x + sp x)
            (subst (λ y. 1 ≤ around l p y + one (nm l p) y + tally (cnt l) es y + sp y) (sym e) (omega (arith, i))) (f.marks x))
            (λ e. f.marks x);
        holds = f.holds;
      }

  -- a free slot becomes spare
  pub take_slot : (l : ℕ) (p : Path l) (es : List (ℕ × Slot l)) (sp sq : ℕ → ℕ) (d : ℕ) → U (flag d) ≡ taken false → d < room → ((x : ℕ) → sq x ≡ sp x + one d x)
      → Focus U l p es sp m → Focus (with_value (flag d) (taken true) U) l p es sq m
  take_slot l p es sp sq d z sm q f = record {
    lev = f.lev;
    top_is = f.top_is;
    inside = λ x h. sel_other d x (taken true) (U (flag x)) (λ e. absurd (omega (arith, h, e, sm))) ∙ f.inside x h;
    ctx = f.ctx;
    above = f.above;
    segs = f.segs;
    from = f.from;
    rise = f.rise;
    marks = λ x. sel_all d x (taken true) (U (flag x)) (λ g. Mark g (U (node x)) (around l p x + one (nm l p) x + tally (cnt l) es x + sq x))
        (λ e. inl (
          omega (
            arith,
            subst (λ y. around l p y + one (nm l p) y + tally (cnt l) es y + sp y ≡ 0) (sym e)
                (mark_free (U (flag d)) (U (node d)) (around l p d + one (nm l p) d + tally (cnt l) es d + sp d) z (f.marks d)).0,
            q x,
            subst (λ y. one d y ≡ 1) (sym e) (one_same d),
          ),
          refl,
        ))
        (λ e. mark_num (U (flag x)) (U (node x)) (around l p x + one (nm l p) x + tally (cnt l) es x + sp x) (around l p x + one (nm l p) x + tally (cnt l) es x + sq x)
        (omega (arith, q x, one_other d x e)) (f.marks x));
    holds = f.holds;
  }

  -- a spare slot is freed
  pub release : (l : ℕ) (p : Path l) (es : List (ℕ × Slot l)) (sp sq : ℕ → ℕ) (d : ℕ) → ((x : ℕ) → sp x ≡ sq x + one d x)
      → Focus U l p es sp m → Focus (with_value (node d) free (with_value (flag d) (taken false) U)) l p es sq m
  release l p es sp sq d q f =
      let t = mark_le (U (flag d)) (U (node d)) (around l p d + one (nm l p) d + tally (cnt l) es d + sp d) (f.marks d) in
      let z : around l p d + one (nm l p) d + tally (cnt l) es d + sq d ≡ 0 = omega (arith, t, q d, one_same d) in
      let out : around l p d ≡ 0 = omega (arith, z) in
      let off : tally (cnt l) es d ≡ 0 = omega (arith, z) in
      let g = apart U d free (around l p) out in
      record {
        lev = f.lev;
        top_is = f.top_is;
        inside = λ x h. sel_all d x (taken false) (U (flag x)) (λ g. g ≡ taken false) (λ _. refl) (λ _. f.inside x h);
        ctx = ctx_frame N (λ x. with_value (node d) free U (node x)) l p g f.ctx;
        above = above_frame N (λ x. with_value (node d) free U (node x)) l p g f.above;
        segs = chain_frame (Entry N l) (Entry (λ x. with_value (node d) free U (node x)) l) (cnt l) N (λ x. with_value (node d) free U (node x))
            (λ k b s. entry_frame N (λ x. with_value (node d) free U (node x)) l k b s) (hi l p) es (apart U d free (tally (cnt l) es) off) f.segs;
        from = f.from;
        rise = f.rise;
        marks = λ x. go x (ℕ_discrete x d) z;
        holds = f.holds;
      }
    where
      go : (x : ℕ) (e : Dec (x ≡ d)) → around l p d + one (nm l p) d + tally (cnt l) es d + sq d ≡ 0
          → Mark (cond (yes? e) (taken false) (U (flag x))) (cond (yes? e) free (U (node x))) (around l p x + one (nm l p) x + tally (cnt l) es x + sq x)
      go x (yes e) z = inr (subst (λ y. around l p y + one (nm l p) y + tally (cnt l) es y + sq y ≡ 0) (sym e) z, refl, refl)
      go x (no e) z = mark_num (U (flag x)) (U (node x)) (around l p x + one (nm l p) x + tally (cnt l) es x + sp x) (around l p x + one (nm l p) x + tally (cnt l) es x + sq x)
          (omega (arith, q x, one_other d x e)) (f.marks x)

  -- up by one level: the hole's entry is replaced by other entries
  pub refocus : (l k c : ℕ) (pre post mid : List (ℕ × Slot (suc l))) (p : Path (suc l)) (es : List (ℕ × Slot l)) (sp sq : ℕ → ℕ)
      → Chain (Entry N (suc l)) (first_key_or post (hi (suc l) p)) mid → first_key_or mid (first_key_or post (hi (suc l) p)) ≡ k
      → ((x : ℕ) → tally (cnt (suc l)) mid x + sq x ≡ one c x + tally (cnt l) es x + sp x)
      → gather (pairs (suc l)) mid ≡ gather (pairs l) es
      → Focus U l (frame k c pre post p) es sp m → Focus U (suc l) p (pre ++ (mid ++ post)) sq m
  refocus l k c pre post mid p es sp sq cm km q gm f =
      let kn : first_key_or (mid ++ post) (hi (suc l) p) ≡ k = nxt_app mid post (hi (suc l) p) ∙ km in
      let P = pairs (suc l) in
      record {
        lev = f.lev;
        top_is = f.top_is;
        inside = f.inside;
        ctx = f.ctx.4;
        above = stored_above N (suc l) p f.above;
        segs = chain_app (Entry N (suc l)) (hi (suc l) p) pre (mid ++ post)
            (subst (λ z. Chain (Entry N (suc l)) z pre) (sym kn) f.ctx.0)
            (chain_app (Entry N (suc l)) (hi (suc l) p) mid post cm f.ctx.1);
        from = nxt_app pre (mid ++ post) (hi (suc l) p) ∙ ap (λ z. first_key_or pre z) kn ∙ f.ctx.2;
        rise = f.ctx.3;
        marks = λ x. mark_num (U (flag x)) (U (node x)) (around l (frame k c pre post p) x + one c x + tally (cnt l) es x + sp x)
            (around (suc l) p x + one (nm (suc l) p) x + tally (cnt (suc l)) (pre ++ (mid ++ post)) x + sq x)
            (omega (arith, q x, tally_app (cnt (suc l)) pre (mid ++ post) x, tally_app (cnt (suc l)) mid post x)) (f.marks x);
        holds = ap (λ z. left (suc l) p ++ (z ++ right (suc l) p)) (gather_app P pre (mid ++ post) ∙ ap (λ z. gather P pre ++ z) (gather_app P mid post ∙ ap (λ z. z ++ gather P post) gm))
            ∙ ap (λ z. left (suc l) p ++ z) (append_assoc (gather P pre) (gather (pairs l) es ++ gather P post) (right (suc l) p)
            ∙ ap (λ z. gather P pre ++ z) (append_assoc (gather (pairs l) es) (gather P post) (right (suc l) p)))
            ∙ sym (append_assoc (left (suc l) p) (gather P pre) (gather (pairs l) es ++ (gather P post ++ right (suc l) p)))
            ∙ f.holds;
      }

  -- the hole's node is stored: one entry
  pub lift : (l k c : ℕ) (pre post : List (ℕ × Slot (suc l))) (p : Path (suc l)) (es : List (ℕ × Slot l)) (sp : ℕ → ℕ)
      → U (node c) ≡ node_value l (ren (word l) es) → fewest_entries l ≤ length es → length es ≤ most_entries l
      → Focus U l (frame k c pre post p) es sp m → Focus U (suc l) p (pre ++ ((k, (c, es)) ∷ post)) sp m
  lift l k c pre post p es sp a i j f =
      refocus l k c pre post ((k, (c, es)) ∷ []) p es sp sp
      (record { at = a; least = i; most = j; from = f.from; rise = f.rise; segs = f.segs }, tt) refl
      (λ x. omega arith) (append-nil (gather (pairs l) es)) f

  -- the hole's entries are parted: two entries, of which the second takes a spare node
  pub recut : (l k c d : ℕ) (pre post : List (ℕ × Slot (suc l))) (p : Path (suc l)) (es es1 es2 : List (ℕ × Slot l)) (sp sq : ℕ → ℕ)
      → es ≡ es1 ++ es2 → ((x : ℕ) → sp x ≡ sq x + one d x)
      → U (node c) ≡ node_value l (ren (word l) es1) → U (node d) ≡ node_value l (ren (word l) es2)
      → fewest_entries l ≤ length es1 → length es1 ≤ most_entries l → fewest_entries l ≤ length es2 → length es2 ≤ most_entries l → 1 ≤ fewest_entries l
      → Focus U l (frame k c pre post p) es sp m → Focus U (suc l) p (pre ++ ((k, (c, es1)) ∷ (first_key_or es2 0, (d, es2)) ∷ post)) sq m
  recut l k c d pre post p es es1 es2 sp sq ee q a1 a2 i1 j1 i2 j2 pos f =
      let b = first_key_or post (hi (suc l) p) in
      let n2 : first_key_or es2 b ≡ first_key_or es2 0 = nxt_any es2 b 0 (omega arith) in
      let s0 : Chain (Entry N l) b (es1 ++ es2) = subst (λ z. Chain (Entry N l) b z) ee f.segs in
      let s1 : Chain (Entry N l) (first_key_or es2 0) es1 = subst (λ z. Chain (Entry N l) z es1) n2 (chain_left (Entry N l) b es1 es2 s0) in
      let s2 : Chain (Entry N l) b es2 = chain_right (Entry N l) b es1 es2 s0 in
      let branches : Starts l k (first_key_or es1 (first_key_or es2 0)) = subst (λ z. Starts l k z) (ap (λ z. first_key_or z b) ee ∙ nxt_app es1 es2 b ∙ ap (λ z. first_key_or es1 z) n2) f.from in
      refocus l k c pre post ((k, (c, es1)) ∷ (first_key_or es2 0, (d, es2)) ∷ []) p es sp sq (
        record { at = a1; least = i1; most = j1; from = branches; rise = omega (arith, starts_le l k (first_key_or es1 (first_key_or es2 0)) branches, chain_lt (Entry N l) (entry_rise N l) (first_key_or es2 0) es1 s1 (omega arith)); segs = s1 },
        (
          record {
            at = a2;
            least = i2;
            most = j2;
            from = subst (λ z. Starts l (first_key_or es2 0) z) (sym n2) (starts_refl l (first_key_or es2 0));
            rise = subst (λ z. z < b) n2 (chain_lt (Entry N l) (entry_rise N l) b es2 s2 (omega arith));
            segs = s2;
          },
          tt,
        ),
      )
      refl
      (λ x. omega (arith, q x, tally_app (cnt l) es1 es2 x, ap (λ z. tally (cnt l) z x) ee))
      (ap (λ z. gather (pairs l) es1 ++ z) (append-nil (gather (pairs l) es2)) ∙ sym (gather_app (pairs l) es1 es2) ∙ sym (ap (λ z. gather (pairs l) z) ee)) f

  -- the right neighbour's entries come into the hole, its node becomes spare
  pub widen_right : (l k c k2 c2 : ℕ) (es2 : List (ℕ × Slot l)) (pre post : List (ℕ × Slot (suc l))) (p : Path (suc l)) (es : List (ℕ × Slot l)) (sp sq : ℕ → ℕ)
      → ((x : ℕ) → sq x ≡ sp x + one c2 x)
      → Focus U l (frame k c pre ((k2, (c2, es2)) ∷ post) p) es sp m → Focus U l (frame k c pre post p) (es ++ es2) sq m
  widen_right l k c k2 c2 es2 pre post p es sp sq q f =
      let b = first_key_or post (hi (suc l) p) in
      let K = f.ctx.1.0 in
      let P = pairs (suc l) in
      record {
        lev = f.lev;
        top_is = f.top_is;
        inside = f.inside;
        ctx = (f.ctx.0, f.ctx.1.1, f.ctx.2, f.ctx.3, f.ctx.4);
        above = f.above;
        segs = chain_app (Entry N l) b es es2 (chain_up N l k2 (first_key_or es2 b) K.from es f.segs) K.segs;
        from = subst (λ z. Starts l k z) (sym (nxt_app es es2 b)) (starts_app l k k2 (first_key_or es2 b) es f.from K.from);
        rise = omega (arith, f.rise, K.rise);
        marks = λ x. mark_num (U (flag x)) (U (node x)) (around l (frame k c pre ((k2, (c2, es2)) ∷ post) p) x + one c x + tally (cnt l) es x + sp x)
            (around l (frame k c pre post p) x + one c x + tally (cnt l) (es ++ es2) x + sq x)
            (omega (arith, q x, tally_app (cnt l) es es2 x)) (f.marks x);
        holds = ap (λ z. left l (frame k c pre post p) ++ z)
            (ap (λ z. z ++ (gather P post ++ right (suc l) p)) (gather_app (pairs l) es es2) ∙ append_assoc (gather (pairs l) es) (gather (pairs l) es2) (gather P post ++ right (suc l) p)
            ∙ ap (λ z. gather (pairs l) es ++ z) (sym (append_assoc (gather (pairs l) es2) (gather P post) (right (suc l) p))))
            ∙ f.holds;
      }

  -- the left neighbour's node is the hole with all entries, the hole's node becomes spare
  pub widen_left : (l k c k1 c1 : ℕ) (es1 : List (ℕ × Slot l)) (pre post : List (ℕ × Slot (suc l))) (p : Path (suc l)) (es : List (ℕ × Slot l)) (sp sq : ℕ → ℕ)
      → ((x : ℕ) → sq x ≡ sp x + one c x)
      → Focus U l (frame k c (pre ++ ((k1, (c1, es1)) ∷ [])) post p) es sp m → Focus U l (frame k1 c1 pre post p) (es1 ++ es) sq m
  widen_left l k c k1 c1 es1 pre post p es sp sq q f =
      let b = first_key_or post (hi (suc l) p) in
      let P = pairs (suc l) in
      let mid : List (ℕ × Slot (suc l)) = (k1, (c1, es1)) ∷ [] in
      let K : Kid N l (Entry N l) k1 k (c1, es1) = (chain_right (Entry N (suc l)) k pre mid f.ctx.0).0 in
      record {
        lev = f.lev;
        top_is = f.top_is;
        inside = f.inside;
        ctx = (chain_left (Entry N (suc l)) k pre mid f.ctx.0, f.ctx.1, sym (nxt_app pre mid k) ∙ f.ctx.2, f.ctx.3, f.ctx.4);
        above = f.above;
        segs = chain_app (Entry N l) b es1 es (chain_up N l k (first_key_or es b) f.from es1 K.segs) f.segs;
        from = subst (λ z. Starts l k1 z) (sym (nxt_app es1 es b)) (starts_app l k1 k (first_key_or es b) es1 K.from f.from);
        rise = omega (arith, f.rise, K.rise);
        marks = λ x. mark_num (U (flag x)) (U (node x)) (around l (frame k c (pre ++ mid) post p) x + one c x + tally (cnt l) es x + sp x)
            (around l (frame k1 c1 pre post p) x + one c1 x + tally (cnt l) (es1 ++ es) x + sq x)
            (omega (arith, q x, tally_app (cnt l) es1 es x, tally_app (cnt (suc l)) pre mid x)) (f.marks x);
        holds = append_assoc (left (suc l) p) (gather P pre) (gather (pairs l) (es1 ++ es) ++ (gather P post ++ right (suc l) p))
            ∙ ap (λ z. left (suc l) p ++ (gather P pre ++ z)) (ap (λ z. z ++ (gather P post ++ right (suc l) p)) (gather_app (pairs l) es1 es)
            ∙ append_assoc (gather (pairs l) es1) (gather (pairs l) es) (gather P post ++ right (suc l) p))
            ∙ ap (λ z. left (suc l) p ++ z) (sym (append_assoc (gather P pre) (gather (pairs l) es1) (gather (pairs l) es ++ (gather P post ++ right (suc l) p)))
            ∙ ap (λ z. z ++ (gather (pairs l) es ++ (gather P post ++ right (suc l) p)))
            (ap (λ z. gather P pre ++ z) (sym (append-nil (gather (pairs l) es1))) ∙ sym (gather_app P pre mid)))
            ∙ sym (append_assoc (left (suc l) p) (gather P (pre ++ mid)) (gather (pairs l) es ++ (gather P post ++ right (suc l) p)))
            ∙ f.holds;
      }

  -- a new root above, and away with one
  pub grow : (l r d : ℕ) (es : List (ℕ × Slot l)) (sp sq : ℕ → ℕ) → suc l ≤ 4 → ((x : ℕ) → sp x ≡ sq x + one d x)
      → Focus U l (top r) es sp m → Focus U l (frame 0 d [] [] (top r)) es sq m
  grow l r d es sp sq i q f = record {
    lev = i;
    top_is = f.top_is;
    inside = f.inside;
    ctx = (tt, tt, refl, HPos, tt);
    above = tt;
    segs = f.segs;
    from = f.from;
    rise = f.rise;
    marks = λ x. mark_num (U (flag x)) (U (node x)) (0 + one r x + tally (cnt l) es x + sp x) (around l (frame 0 d [] [] (top r)) x + one d x + tally (cnt l) es x + sq x)
        (omega (arith, q x)) (f.marks x);
    holds = f.holds;
  }

  pub shrink : (l r k c : ℕ) (es : List (ℕ × Slot l)) (sp sq : ℕ → ℕ) → ((x : ℕ) → sq x ≡ sp x + one c x)
      → Focus U l (frame k c [] [] (top r)) es sp m → Focus U l (top r) es sq m
  shrink l r k c es sp sq q f = record {
    lev = omega (arith, f.lev);
    top_is = f.top_is;
    inside = f.inside;
    ctx = tt;
    above = tt;
    segs = f.segs;
    from = subst (λ z. Starts l z (first_key_or es two_to_64)) f.ctx.2 f.from;
    rise = HPos;
    marks = λ x. mark_num (U (flag x)) (U (node x)) (around l (frame k c [] [] (top r)) x + one c x + tally (cnt l) es x + sp x) (0 + one r x + tally (cnt l) es x + sq x)
        (omega (arith, q x)) (f.marks x);
    holds = f.holds;
  }

  -- a spare node and the hole's change places
  pub rename : (l k c d : ℕ) (pre post : List (ℕ × Slot (suc l))) (p : Path (suc l)) (es : List (ℕ × Slot l)) (sp sq : ℕ → ℕ)
      → ((x : ℕ) → sq x + one d x ≡ sp x + one c x)
      → Focus U l (frame k c pre post p) es sp m → Focus U l (frame k d pre post p) es sq m
  rename l k c d pre post p es sp sq q f = record {
    lev = f.lev;
    top_is = f.top_is;
    inside = f.inside;
    ctx = f.ctx;
    above = f.above;
    segs = f.segs;
    from = f.from;
    rise = f.rise;
    marks = λ x. mark_num (U (flag x)) (U (node x)) (around l (frame k c pre post p) x + one c x + tally (cnt l) es x + sp x)
        (around l (frame k d pre post p) x + one d x + tally (cnt l) es x + sq x) (omega (arith, q x)) (f.marks x);
    holds = f.holds;
  }

  pub rename_root : (l r d st : ℕ) (es : List (ℕ × Slot l)) (sp sq : ℕ → ℕ) → ((x : ℕ) → sq x + one d x ≡ sp x + one r x)
      → Focus U l (top r) es sp m → Focus (with_value meta (root d st) U) l (top d) es sq m
  rename_root l r d st es sp sq q f = record {
    lev = f.lev;
    top_is = refl;
    inside = f.inside;
    ctx = tt;
    above = tt;
    segs = f.segs;
    from = f.from;
    rise = f.rise;
    marks = λ x. mark_num (U (flag x)) (U (node x)) (0 + one r x + tally (cnt l) es x + sp x) (0 + one d x + tally (cnt l) es x + sq x) (omega (arith, q x)) (f.marks x);
    holds = f.holds;
  }

  -- down by one level
  pub lower : (l k c : ℕ) (es : List (ℕ × Slot l)) (pre post : List (ℕ × Slot (suc l))) (p : Path (suc l)) (sp : ℕ → ℕ)
      → Stored N (suc l) p → Focus U (suc l) p (pre ++ ((k, (c, es)) ∷ post)) sp m → Focus U l (frame k c pre post p) es sp m × Kid N l (Entry N l) k (first_key_or post (hi (suc l) p)) (c, es)
  lower l k c es pre post p sp st f =
      let b = hi (suc l) p in
      let P = pairs (suc l) in
      let mid : List (ℕ × Slot (suc l)) = (k, (c, es)) ∷ post in
      let R = chain_right (Entry N (suc l)) b pre mid f.segs in (
        record {
          lev = f.lev;
          top_is = f.top_is;
          inside = f.inside;
          ctx = (chain_left (Entry N (suc l)) b pre mid f.segs, R.1, sym (nxt_app pre mid b) ∙ f.from, f.rise, f.ctx);
          above = st;
          segs = R.0.segs;
          from = R.0.from;
          rise = R.0.rise;
          marks = λ x. mark_num (U (flag x)) (U (node x)) (around (suc l) p x + one (nm (suc l) p) x + tally (cnt (suc l)) (pre ++ mid) x + sp x)
              (around l (frame k c pre post p) x + one c x + tally (cnt l) es x + sp x)
              (omega (arith, tally_app (cnt (suc l)) pre mid x)) (f.marks x);
          holds = append_assoc (left (suc l) p) (gather P pre) (gather (pairs l) es ++ (gather P post ++ right (suc l) p))
              ∙ ap (λ z. left (suc l) p ++ z) (ap (λ z. gather P pre ++ z) (sym (append_assoc (gather (pairs l) es) (gather P post) (right (suc l) p)))
              ∙ sym (append_assoc (gather P pre) (gather (pairs l) es ++ gather P post) (right (suc l) p))
              ∙ ap (λ z. z ++ right (suc l) p) (sym (gather_app P pre mid)))
              ∙ f.holds;
        },
        R.0,
      )

  -- nothing spare, and the hole's node stored: the snapshot holds the tree
  pub close : (l : ℕ) (p : Path l) (es : List (ℕ × Slot l)) → Focus U l p es nil m → Stored N l p
      → U (node (nm l p)) ≡ node_value l (ren (word l) es) → floor l p ≤ length es → length es ≤ most_entries l → Rep U m
  close l (top r) es f st a i j = record { level = l; name = r; ents = es; tree = f; stored = a; least = i; most = j }
  close l (frame k c pre post p) es f st a i j =
      let mid : List (ℕ × Slot (suc l)) = (k, (c, es)) ∷ post in
      let n = length-append pre mid in
      close (suc l) p (pre ++ mid) (lift l k c pre post p es nil a i j f) st.3
      (st.0 ∙ ap (node_value (suc l)) (sym (ren_app (word (suc l)) pre mid)))
      (omega (arith, st.1, n)) (omega (arith, st.2, n))
