-- The lent list of own writes after one more: it holds the writes with the new one first.
use Rattle.std.proofs.Math.Path.{◌≡◌, refl, sym}
use Rattle.std.proofs.Common.{◌∙◌, ap, add-one, take_all, get_or-take, get_or-drop, eq-eqb, ne_eqb, eqb-true, ltb-true, ltb-false}
use Rattle.std.specs.Prelude.{Bool, cond, ◌⊎◌, eqb, ltb, take, drop, get_or, set}
use Rattle.std.proofs.Math.Bool.{true, false}
use mathlib.Core.List.{List, [], ◌∷◌, append-nil}
use Rattle.std.proofs.Math.Logic.{inl, inr}
use Rattle.std.proofs.Math.Option.{none}
use Prim.Native.Nat.{ℕ, suc, ◌+◌, ◌*◌, ◌≤◌, ◌<◌}
use native.Mathlib.Omega.{arith}
use Rattle.std.proofs.Math.Decide.{ℕ_discrete}
use Rattle.std.proofs.Math.ListN.{length, length-set}
use Rattle.std.proofs.Math.Seq.{paste, length-sets, get_or-set_same}
use Rattle.std.proofs.lemmas.List.Edits.{sets, sets-eq}
use Rattle.std.proofs.lemmas.Bool.{eqb-false}
use Rattle.memory.proofs.Laws.Run.{run_beside}
use Rattle.base.proofs.Laws.Test.{yes_of, of_yes, of_no}
use Rattle.nodes.specs.declared.node.Node.{Node}
use Rattle.nodes.specs.Found.{Found}
use Rattle.std.specs.Prelude.{Some, None}
use Rattle.nodes.specs.Stored.{words_of, node_of, node_at, put_node}
use Rattle.nodes.proofs.Laws.Stored.{Sized, length_words, node_same}
use Rattle.operations.specs.Object.{Obj, meta, node, flag, Val, Writes, hit}
use Rattle.client.specs.Record.{number, object_in_store, value_of, record_of}
use Rattle.client.specs.Sets.{or_found, first_of}
use Rattle.client.specs.Lent.{OwnFits, own_count, own_number, own_record, own_find, own_at, own_put, own_first, own_list}
use Rattle.client.specs.Answered.{put_entry, entered}
use Rattle.walk.specs.Laws.Ask.{name_below}
use Rattle.walk.specs.Laws.Own.{first_same, first_at, own_entry, first_equal, entry_behind, entry_there}
use Rattle.walk.specs.Ask.{SmallNode, Small, Few, OwnGood, write_of, own_value, HoldsWrites}

-- ---- an object of the store and its number
pub hit_is : (slots : ℕ) (o p : Obj) → object_in_store slots o ≡ true → object_in_store slots p ≡ true → hit o p ≡ eqb (number o) (number p)
hit_is slots meta meta s t = refl
hit_is slots meta (node n) s t = let e : 0 ≡ 1 + n → ⊥ = λ q. omega arith in sym (ne_eqb 0 (1 + n) e)
hit_is slots meta (flag n) s t = let e : 0 ≡ 8193 + n → ⊥ = λ q. omega arith in sym (ne_eqb 0 (8193 + n) e)
hit_is slots (node n) meta s t = let e : 1 + n ≡ 0 → ⊥ = λ q. omega arith in sym (ne_eqb (1 + n) 0 e)
hit_is slots (flag n) meta s t = let e : 8193 + n ≡ 0 → ⊥ = λ q. omega arith in sym (ne_eqb (8193 + n) 0 e)
hit_is slots (node n) (flag p) s t = let l = name_below slots n s in let e : 1 + n ≡ 8193 + p → ⊥ = λ q. omega arith in sym (ne_eqb (1 + n) (8193 + p) e)
hit_is slots (flag n) (node p) s t = let l = name_below slots p t in let e : 8193 + n ≡ 1 + p → ⊥ = λ q. omega arith in sym (ne_eqb (8193 + n) (1 + p) e)
hit_is slots (node n) (node p) s t = go (eqb (1 + n) (1 + p)) refl
  where
    go : (b : Bool) → eqb (1 + n) (1 + p) ≡ b → hit (node n) (node p) ≡ eqb (1 + n) (1 + p)
    go true e = let q : 1 + n ≡ 1 + p = eqb-true (1 + n) (1 + p) e in let f : p ≡ n = omega arith in rw e (of_yes (ℕ_discrete p n) f)
    go false e = let q : 1 + n ≡ 1 + p → ⊥ = eqb-false (1 + n) (1 + p) e in rw e (of_no (ℕ_discrete p n) (λ f. q (omega arith)))
hit_is slots (flag n) (flag p) s t = go (eqb (8193 + n) (8193 + p)) refl
  where
    go : (b : Bool) → eqb (8193 + n) (8193 + p) ≡ b → hit (flag n) (flag p) ≡ eqb (8193 + n) (8193 + p)
    go true e = let q : 8193 + n ≡ 8193 + p = eqb-true (8193 + n) (8193 + p) e in let f : p ≡ n = omega arith in rw e (of_yes (ℕ_discrete p n) f)
    go false e = let q : 8193 + n ≡ 8193 + p → ⊥ = eqb-false (8193 + n) (8193 + p) e in rw e (of_no (ℕ_discrete p n) (λ f. q (omega arith)))

-- ---- an item of the list after a store of one
paste_item : (x ws : List ℕ) (a : ℕ) → length ws ≡ 34 → a + 34 ≤ length x → paste x a ws 34 ≡ sets x a ws
paste_item x ws a l h =
    let t : take 34 ws ≡ ws = take_all 34 ws (omega arith) in
    rw (t, ← l) (sym (sets-eq ws x a (omega arith)))

word_beside : (x ws : List ℕ) (b c : ℕ) → (c + 1 ≤ b) ⊎ (b + length ws ≤ c) → get_or (sets x b ws) c 0 ≡ get_or x c 0
word_beside x ws b c h =
    let e : get_or (take 1 (drop c (sets x b ws))) 0 0 ≡ get_or (take 1 (drop c x)) 0 0 = ap (λ (l : List ℕ). get_or l 0 0) (run_beside ws x b c 1 h) in
    let o : 0 < 1 = omega arith in
    let z : c + 0 ≡ c = omega arith in
    rw (get_or-take 1 (drop c (sets x b ws)) 0 0 o, get_or-take 1 (drop c x) 0 0 o, get_or-drop c (sets x b ws) 0 0, get_or-drop c x 0 0, z) at e

module _ (x : List ℕ) (n : ℕ) (r : Node) (sized : Sized r) (i : ℕ) (room : 34 * i + 35 ≤ length x) where
  long : length (n ∷ words_of r) ≡ 34
  long = ap suc (length_words r sized)

  run : own_at x n r i ≡ sets x (34 * i + 1) (n ∷ words_of r)
  unfolding own_at
  run = paste_item x (n ∷ words_of r) (34 * i + 1) long (omega arith)

  stored : own_at x n r i ≡ put_node (set x (34 * i + 1) n) (34 * i + 2) r
  unfolding put_node
  stored = let e : suc (34 * i + 1) ≡ 34 * i + 2 = omega arith in rw (run, ← e)

  pub record_here : own_record (own_at x n r i) i ≡ r
  unfolding own_record
  record_here = rw stored (node_same (set x (34 * i + 1) n) (34 * i + 2) r sized (simp length-set (omega arith)))

  apart : (j : ℕ) → (j ≡ i → ⊥) → (34 * j + 35 ≤ 34 * i + 1) ⊎ (34 * i + 35 ≤ 34 * j + 1)
  apart j h = go (ltb j i) refl
    where
      go : (b : Bool) → ltb j i ≡ b → (34 * j + 35 ≤ 34 * i + 1) ⊎ (34 * i + 35 ≤ 34 * j + 1)
      go true e = let l : j < i = ltb-true j i e in inl (omega arith)
      go false e = let l : i ≤ j = ltb-false j i e in let m : i < j = omega arith in inr (omega arith)

  pub record_there : (j : ℕ) → (j ≡ i → ⊥) → own_record (own_at x n r i) j ≡ own_record x j
  unfolding own_record node_at
  record_there j h = rw run (ap node_of (run_beside (n ∷ words_of r) x (34 * i + 1) (34 * j + 2) 33 (side (apart j h))))
    where
      side : (34 * j + 35 ≤ 34 * i + 1) ⊎ (34 * i + 35 ≤ 34 * j + 1) → (34 * j + 2 + 33 ≤ 34 * i + 1) ⊎ (34 * i + 1 + length (n ∷ words_of r) ≤ 34 * j + 2)
      side (inl l) = inl (omega arith)
      side (inr l) = inr (omega (arith, long))

  pub number_here : own_number (own_at x n r i) i ≡ n
  unfolding own_number
  number_here =
      rw run (word_beside (set x (34 * i + 1) n) (words_of r) (suc (34 * i + 1)) (34 * i + 1) (inl (omega arith)) ∙ get_or-set_same x (34 * i + 1) n 0 (omega arith))

  pub number_there : (j : ℕ) → (j ≡ i → ⊥) → own_number (own_at x n r i) j ≡ own_number x j
  unfolding own_number
  number_there j h = rw run (word_beside x (n ∷ words_of r) (34 * i + 1) (34 * j + 1) (side (apart j h)))
    where
      side : (34 * j + 35 ≤ 34 * i + 1) ⊎ (34 * i + 35 ≤ 34 * j + 1) → (34 * j + 1 + 1 ≤ 34 * i + 1) ⊎ (34 * i + 1 + length (n ∷ words_of r) ≤ 34 * j + 1)
      side (inl l) = inl (omega arith)
      side (inr l) = inr (omega (arith, long))

  pub count_same : own_count (own_at x n r i) ≡ own_count x
  count_same = rw run (word_beside x (n ∷ words_of r) (34 * i + 1) 0 (inl (omega arith)))

-- another count
pub counted_number : (x : List ℕ) (c j : ℕ) → own_number (set x 0 c) j ≡ own_number x j
unfolding own_number
counted_number x c j = word_beside x (c ∷ []) 0 (34 * j + 1) (inr (omega arith))

pub counted_record : (x : List ℕ) (c j : ℕ) → own_record (set x 0 c) j ≡ own_record x j
unfolding own_record node_at
counted_record x c j = ap node_of (run_beside (c ∷ []) x 0 (34 * j + 2) 33 (inr (omega arith)))

-- ---- the list after a write
-- for each number: where it is found, and the record there
pub record Put (x : List ℕ) (n : ℕ) (r : Node) (x' : List ℕ) : Type 0 where
  pub at : ℕ
  pub found : own_find x' n ≡ Some at
  pub is : own_record x' at ≡ r
  pub others : (y : ℕ) → (y ≡ n → ⊥) → own_find x' y ≡ own_find x y
  pub kept : (y i : ℕ) → (y ≡ n → ⊥) → own_find x y ≡ Some i → own_record x' i ≡ own_record x i
  pub few : own_count x' ≤ own_count x + 1
  pub list : own_list x' ≡ put_entry (n, r) (own_list x)
  pub keys : r.count ≤ 14 → Few x → Few x'

found_in : (x : List ℕ) (y j : ℕ) → own_find x y ≡ Some j → j < own_count x
unfolding own_find
found_in x y j f = (first_at (own_number x) (own_count x) y j f).1

module _ (x : List ℕ) (n : ℕ) (r : Node) (sized : Sized r) (fit : OwnFits x) (few : own_count x < 20) where
  -- the list with the entry in its place
  list_replaced : (i : ℕ) → own_number x i ≡ n → 34 * i + 35 ≤ length x → first_of (own_number x) (own_count x) n ≡ Some i
      → own_first (own_at x n r i) (own_count x) ≡ put_entry (n, r) (own_first x (own_count x))
  list_replaced i h g e =
      let here : own_entry (own_at x n r i) i ≡ (n, r) = rw (number_here x n r sized i g, record_here x n r sized i g) in
      let there : (j : ℕ) → (j ≡ i → ⊥) → own_entry (own_at x n r i) j ≡ own_entry x j = λ j d. rw (number_there x n r sized i g j d, record_there x n r sized i g j d) in
      let a = entry_there x n r (own_at x n r i) i here there (own_count x) [] e in
      sym (rw (append-nil (own_first x (own_count x)), append-nil (own_first (own_at x n r i) (own_count x))) at a)

  put_replaced : (i : ℕ) → own_find x n ≡ Some i → Put x n r (own_at x n r i)
  unfolding own_find own_list
  put_replaced i e =
      let h = first_at (own_number x) (own_count x) n i e in
      let g : 34 * i + 35 ≤ length x = omega (arith, h.1, fit.long) in
      let numbers : (j : ℕ) → own_number (own_at x n r i) j ≡ own_number x j = λ j. same j (ℕ_discrete j i) h.0 g in
      let same_find : (y : ℕ) → own_find (own_at x n r i) y ≡ own_find x y = λ y. rw (own_find, count_same x n r sized i g) (first_same (own_number (own_at x n r i)) (own_number x) (own_count x) y (λ j l. numbers j)) in
      record {
        at = i;
        found = same_find n ∙ e;
        is = record_here x n r sized i g;
        others = λ y d. same_find y;
        kept = λ y j d f. record_there x n r sized i g j (λ q. d (sym (first_at (own_number x) (own_count x) y j f).0 ∙ rw q h.0));
        few = omega (arith, count_same x n r sized i g);
        list = rw (count_same x n r sized i g) (list_replaced i h.0 g e);
        keys = λ b few j l. keep b few j (ℕ_discrete j i) g (omega (arith, count_same x n r sized i g));
      }
    where
      same : (j : ℕ) → Dec (j ≡ i) → own_number x i ≡ n → 34 * i + 35 ≤ length x → own_number (own_at x n r i) j ≡ own_number x j
      same j (yes q) h g = rw q (number_here x n r sized i g ∙ sym h)
      same j (no d) h g = number_there x n r sized i g j d

      keep : r.count ≤ 14 → Few x → (j : ℕ) → Dec (j ≡ i) → 34 * i + 35 ≤ length x → j < own_count x → (own_record (own_at x n r i) j).count ≤ 14
      keep b few j (yes q) g l = rw (q, record_here x n r sized i g) b
      keep b few j (no d) g l = rw (record_there x n r sized i g j d) (few j l)

  room : 34 * own_count x + 35 ≤ length x
  room = omega (arith, fit.long)

  abbrev x' : List ℕ
  x' = set (own_at x n r (own_count x)) 0 (own_count x + 1)

  one_more : own_count x' ≡ suc (own_count x)
  one_more =
      let l : length (own_at x n r (own_count x)) ≡ length x = rw (run x n r sized (own_count x) room) (length-sets x (34 * own_count x + 1) (n ∷ words_of r)) in
      get_or-set_same (own_at x n r (own_count x)) 0 (own_count x + 1) 0 (omega (arith, fit.long)) ∙ add-one (own_count x)

  last_number : own_number x' (own_count x) ≡ n
  last_number = counted_number (own_at x n r (own_count x)) (own_count x + 1) (own_count x) ∙ number_here x n r sized (own_count x) room

  earlier : (j : ℕ) → j < own_count x → own_number x' j ≡ own_number x j
  earlier j h = counted_number (own_at x n r (own_count x)) (own_count x + 1) j ∙ number_there x n r sized (own_count x) room j (λ e. absurd (omega arith))

  find_after : (y : ℕ) → own_find x' y ≡ or_found (own_find x y) (cond (eqb n y) (Some (own_count x)) None)
  unfolding own_find first_of
  find_after y = rw (own_find, one_more, first_of, last_number, first_same (own_number x') (own_number x) (own_count x) y earlier)

  or_absent : (f : Found) → or_found f None ≡ f
  or_absent (Some i) = refl
  or_absent None = refl

  last_record : own_record x' (own_count x) ≡ r
  last_record = counted_record (own_at x n r (own_count x)) (own_count x + 1) (own_count x) ∙ record_here x n r sized (own_count x) room

  earlier_record : (j : ℕ) → j < own_count x → own_record x' j ≡ own_record x j
  earlier_record j h = counted_record (own_at x n r (own_count x)) (own_count x + 1) j ∙ record_there x n r sized (own_count x) room j (λ e. absurd (omega arith))

  -- the list with the entry behind the others
  list_behind : own_find x n ≡ None → own_list x' ≡ put_entry (n, r) (own_list x)
  unfolding own_find own_list own_first put_entry
  list_behind e =
      let f : own_first x' (own_count x) ≡ own_first x (own_count x) = first_equal x' x (own_count x) (λ j h. rw (earlier j h, earlier_record j h)) in
      let b = entry_behind x n r (own_count x) [] e in
      rw (own_list, one_more, own_first, last_number, last_record, f) (sym (rw (append-nil (own_first x (own_count x))) at b))

  put_behind : own_find x n ≡ None → Put x n r x'
  put_behind e = record {
    at = own_count x;
    found = rw (find_after n, e, eq-eqb n n refl);
    is = last_record;
    others = λ y d. rw (find_after y, ne_eqb n y (λ q. d (sym q))) (or_absent (own_find x y));
    kept = λ y j d f. earlier_record j (found_in x y j f);
    few = omega (arith, one_more);
    list = list_behind e;
    keys = λ b few j l. keep b few j (ℕ_discrete j (own_count x)) (omega (arith, one_more));
  }
    where
      keep : r.count ≤ 14 → Few x → (j : ℕ) → Dec (j ≡ own_count x) → j < suc (own_count x) → (own_record x' j).count ≤ 14
      keep b few j (yes q) l = rw (q, last_record) b
      keep b few j (no d) l = let h : j < own_count x = omega arith in rw (earlier_record j h) (few j h)

  pub put : Put x n r (own_put x n r)
  unfolding own_put
  put = go (own_find x n) refl
    where
      go : (f : Found) → own_find x n ≡ f → Put x n r (own_put x n r)
      go (Some i) e = rw (own_put, e) (put_replaced i e)
      go None e = rw (own_put, e) (put_behind e)

pub hit_same : (o q : Obj) → hit o q ≡ true → o ≡ q
hit_same meta meta e = refl
hit_same meta (node n) e = let z : ◌≡◌ {A = ℕ} 0 1 = cc in absurd (omega arith)
hit_same meta (flag n) e = let z : ◌≡◌ {A = ℕ} 0 1 = cc in absurd (omega arith)
hit_same (node n) meta e = let z : ◌≡◌ {A = ℕ} 0 1 = cc in absurd (omega arith)
hit_same (node n) (flag p) e = let z : ◌≡◌ {A = ℕ} 0 1 = cc in absurd (omega arith)
hit_same (flag n) meta e = let z : ◌≡◌ {A = ℕ} 0 1 = cc in absurd (omega arith)
hit_same (flag n) (node p) e = let z : ◌≡◌ {A = ℕ} 0 1 = cc in absurd (omega arith)
hit_same (node n) (node p) e = ap node (sym (yes_of (ℕ_discrete p n) e))
hit_same (flag n) (flag p) e = ap flag (sym (yes_of (ℕ_discrete p n) e))

small_any : (r : Node) → SmallNode r → (q : Obj) → Small q r
small_any r s meta = tt
small_any r s (node n) = s
small_any r s (flag n) = tt

-- ---- what the list holds after it
module _ (x : List ℕ) (o : Obj) (r : Node) (good : OwnGood x) (few : own_count x < 20) (sized : Sized r) where
  p : Put x (number o) r (own_put x (number o) r)
  p = put x (number o) r sized good.fit few

  pub count_more : own_count (own_put x (number o) r) ≤ own_count x + 1
  count_more = p.few

  pub few_more : r.count ≤ 14 → Few (own_put x (number o) r)
  few_more b = p.keys b good.few

  pub good_more : OwnFits (own_put x (number o) r) → SmallNode r → OwnGood (own_put x (number o) r)
  good_more f small = record { fit = f; few = few_more small.keys; small = λ q i e. go q i e (ℕ_discrete (number q) (number o)) }
    where
      go : (q : Obj) (i : ℕ) → own_find (own_put x (number o) r) (number q) ≡ Some i → Dec (number q ≡ number o) → Small q (own_record (own_put x (number o) r) i)
      go q i e (yes d) =
          let k : Some p.at ≡ Some i = sym p.found ∙ rw d at e in
          let j : p.at ≡ i = cc in
          rw (← j, p.is) (small_any r small q)
      go q i e (no d) = let k : own_find x (number q) ≡ Some i = sym (p.others (number q) d) ∙ e in rw (p.kept (number q) i d k) (good.small q i k)

module _ (slots : ℕ) (x : List ℕ) (w : Writes) (o : Obj) (v : Val) (r : Node) (good : OwnGood x) (hold : HoldsWrites slots x w) (few : own_count x < 20) (t : object_in_store slots o ≡ true) (sized : Sized r) (is_v : value_of o r ≡ v) (is_r : r ≡ record_of 0 v) where
  value_after : (q : Obj) → object_in_store slots q ≡ true → own_value (own_put x (number o) r) q (own_find (own_put x (number o) r) (number q)) ≡ write_of ((o, v) ∷ w) q
  value_after q s = go (hit o q) refl
    where
      found_at : (f : Found) → own_find x (number q) ≡ f → (number q ≡ number o → ⊥) → own_value (own_put x (number o) r) q f ≡ own_value x q f
      found_at (Some j) e d = rw ((p x o r good few sized).kept (number q) j d e)
      found_at None e d = refl

      go : (b : Bool) → hit o q ≡ b → own_value (own_put x (number o) r) q (own_find (own_put x (number o) r) (number q)) ≡ write_of ((o, v) ∷ w) q
      go true e = let same : o ≡ q = hit_same o q e in rw (e, ← same, (p x o r good few sized).found, (p x o r good few sized).is, is_v)
      go false e =
          let d : number q ≡ number o → ⊥ = λ f. differ e f in
          rw (e, (p x o r good few sized).others (number q) d) (found_at (own_find x (number q)) refl d ∙ hold.same q s)
        where
          differ : hit o q ≡ false → number q ≡ number o → ⊥
          differ e f = eqb-false (number o) (number q) (sym (hit_is slots o q t s) ∙ e) (sym f)

  pub holds_more : HoldsWrites slots (own_put x (number o) r) ((o, v) ∷ w)
  unfolding entered
  holds_more = record { entries = rw ((p x o r good few sized).list, hold.entries, is_r); same = value_after; out = λ q s. go q s (hit o q) refl }
    where
      go : (q : Obj) → object_in_store slots q ≡ false → (b : Bool) → hit o q ≡ b → write_of ((o, v) ∷ w) q ≡ none
      go q s true e = let same : o ≡ q = hit_same o q e in let c : true ≡ false = sym t ∙ rw same s in let y : ◌≡◌ {A = ℕ} 0 1 = cc in absurd (omega arith)
      go q s false e = rw e (hold.out q s)
