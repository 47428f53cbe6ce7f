-- Insert and delete on a snapshot that holds a tree.
use Rattle.std.specs.Prelude.{◌≡◌, Bool, true, false, [], ◌++◌, ℕ, zero, suc, ◌+◌, ◌-◌, ◌<◌, ◌≤◌, length}
use Rattle.std.proofs.Common.{ap, sym, ◌∙◌, subst, arith}
use Rattle.nodes.specs.declared.standing.KeyPlace.{KeyPlace}
use Rattle.nodes.specs.Lists.{remove_at}
use Rattle.operations.specs.Object.{Obj, node, flag, Val, Ans, Writes}
use Rattle.operations.specs.Map.{Map, look, set_key, remove_key, fresh, gone, two_to_64}
use Rattle.operations.specs.Entry.{Entries, first_key_or, place_in, value_at, value_in, with_pair}
use Rattle.operations.specs.Change.{up, insert_plan, delete_at, delete_plan}
use Rattle.operations.specs.Chain.{one, Chain, tally}
use Rattle.operations.proofs.Laws.Places.{look_is, put_is, removed, del_is}
use Rattle.operations.proofs.Laws.Ensures.{Terms, Ok}
use Rattle.operations.specs.Tree.{cnt}
use Rattle.operations.proofs.Laws.Focus.{Path, top, frame, nm, lo, hi, around, left, right, floor, Focus, nil, Rep, Ends, mark_num}
use Rattle.operations.proofs.Laws.Maps.{leaf_pairs, leaf_words, look_mid, put_mid, del_mid, del_absent, put_from, put_chain, put_len, del_from, del_chain, del_len}
use Rattle.operations.proofs.Laws.Down.{branches, Site, site_rising, site_left, site_right, site_map, root_ok}
use Rattle.operations.proofs.Laws.Slots.{Supply}
use Rattle.operations.proofs.Laws.Rise.{Near, near_of}
use Rattle.operations.proofs.Laws.Grow.{up_ok}
use Rattle.operations.proofs.Laws.Found.{leaf_tally}

-- other pairs in a leaf
fill : (U : Obj → Val) (p : Path zero) (es fs : Entries) (m n : Map) → Focus U zero p es nil m
    → Chain (λ k c v. k < c) (hi zero p) fs → lo zero p ≤ first_key_or fs (hi zero p) → left zero p ++ (fs ++ right zero p) ≡ n → Focus U zero p fs nil n
fill U p es fs m n f c i e = record {
  lev = f.lev;
  top_is = f.top_is;
  inside = f.inside;
  ctx = f.ctx;
  above = f.above;
  segs = c;
  from = i;
  rise = f.rise;
  marks = λ x. mark_num (U (flag x)) (U (node x)) (around zero p x + one (nm zero p) x + tally (cnt zero) es x + 0) (around zero p x + one (nm zero p) x + tally (cnt zero) fs x + 0)
      (omega (arith, leaf_tally es x, leaf_tally fs x)) (f.marks x);
  holds = ap (λ z. left zero p ++ (z ++ right zero p)) (leaf_pairs fs) ∙ e;
}

near_less : (p : Path zero) (n : ℕ) → floor zero p ≤ suc n → Near zero p n
near_less (top r) n h = omega arith
near_less (frame k c pre post p) n h = h

module _ (F : Terms) (slots : ℕ) (al : slots ≤ 1024) (M : Obj → Val) (supply : Supply F M slots) (m : Map) (key : ℕ) (small : key < two_to_64) (R : Rep M m) where
  -- the value that the leaf has is the map's
  site_look : (p : Path zero) (es : Entries) → Site M m key zero p es → value_in key es ≡ look key m
  site_look p es s = look_is key (first_key_or es (hi zero p)) (hi zero p) es (site_rising M m key zero p es s)
      ∙ sym (look_mid key (left zero p) es (right zero p) (site_left M m key zero p es small s) (site_right M m key zero p es small s)) ∙ ap (look key) (site_map M m key p es s)

  -- new pairs of the leaf, carried up
  leaf_up : (n : Map) (a : Ans) (p : Path zero) (es fs : Entries) → Site M m key zero p es
      → Chain (λ k c v. k < c) (hi zero p) fs → lo zero p ≤ first_key_or fs (hi zero p) → left zero p ++ (fs ++ right zero p) ≡ n
      → Near zero p (length fs) → length fs ≤ 15 → Ok F (Ends M n a) M (up slots a zero (branches zero p) [] (nm zero p) fs)
  leaf_up n a p es fs s c i e near most =
      subst (λ z. Ok F (Ends M n a) M (up slots a zero (branches zero p) [] (nm zero p) z)) (leaf_words fs)
      (up_ok F slots al M supply n a zero p [] fs (fill M p es fs m n s.focus c i e) s.stored near most)

  pub insert_ok : (v : ℕ) → Ok F (Ends M (set_key key v m) (fresh (look key m))) M (insert_plan slots key v)
  insert_ok v = root_ok M m key F Q _ at R
    where
      Q : Ans → Writes → Type 0
      Q = Ends M (set_key key v m) (fresh (look key m))

      at : (p : Path zero) (es : Entries) → Site M m key zero p es → Ok F Q M (up slots (fresh (value_in key es)) zero (branches zero p) [] (nm zero p) (with_pair key v es))
      at p es s =
          let n = put_len key v es in
          let near = s.near small in
          let b = hi zero p in
          subst (λ a. Ok F Q M (up slots a zero (branches zero p) [] (nm zero p) (with_pair key v es))) (sym (ap fresh (site_look p es s)))
          (subst (λ z. Ok F Q M (up slots (fresh (look key m)) zero (branches zero p) [] (nm zero p) z)) (sym (put_is key v (first_key_or es b) b es (site_rising M m key zero p es s)))
          (leaf_up (set_key key v m) (fresh (look key m)) p es (set_key key v es) s (put_chain key v b es near.1 s.focus.segs) (put_from key v (lo zero p) b es near.0 s.focus.from)
          (sym (put_mid key v (left zero p) es (right zero p) (site_left M m key zero p es small s) (site_right M m key zero p es small s)) ∙ ap (set_key key v) (site_map M m key p es s))
          (near_of zero p (length (set_key key v es)) (omega (arith, s.least, n))) (omega (arith, s.most, n))))

  pub delete_ok : Ok F (Ends M (remove_key key m) (gone (look key m))) M (delete_plan slots key)
  delete_ok = root_ok M m key F Q _ at R
    where
      Q : Ans → Writes → Type 0
      Q = Ends M (remove_key key m) (gone (look key m))

      by : (p : Path zero) (es : Entries) → Site M m key zero p es → (i : ℕ) (t : Bool)
          → (let o : KeyPlace = record { place = i; there = t } in value_at es o ≡ look key m → removed key es o ≡ remove_key key es → Ok F Q M (delete_at slots (branches zero p) (nm zero p) es o))
      by p es s i false e d = (ap gone e, subst (λ z. Rep M z) (sym (del_absent key m (sym e))) R)
      by p es s i true e d =
          let n = del_len key es in
          let b = hi zero p in
          subst (λ a. Ok F Q M (up slots a zero (branches zero p) [] (nm zero p) (remove_at (i - 1) es))) (sym (ap gone e))
          (subst (λ z. Ok F Q M (up slots (gone (look key m)) zero (branches zero p) [] (nm zero p) z)) (sym d)
          (leaf_up (remove_key key m) (gone (look key m)) p es (remove_key key es) s (del_chain key b es s.focus.segs) (del_from key (lo zero p) b es s.focus.segs s.focus.from)
          (sym (del_mid key (left zero p) es (right zero p) (site_left M m key zero p es small s) (site_right M m key zero p es small s)) ∙ ap (remove_key key) (site_map M m key p es s))
          (near_less p (length (remove_key key es)) (omega (arith, s.least, n))) (omega (arith, s.most, n))))

      at : (p : Path zero) (es : Entries) → Site M m key zero p es → Ok F Q M (delete_at slots (branches zero p) (nm zero p) es (place_in key es))
      at p es s = by p es s (place_in key es).place (place_in key es).there (site_look p es s) (del_is key (first_key_or es (hi zero p)) (hi zero p) es (site_rising M m key zero p es s))
