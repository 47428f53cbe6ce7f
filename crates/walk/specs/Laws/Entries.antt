-- The code's nodes are the entries that plans speak of.
use Rattle.std.specs.Prelude.{◌≡◌, Bool, true, false, cond, not, ltb, leb, eqb, length, take, drop}
use Rattle.std.proofs.Math.Path.{refl, sym, ap}
use Rattle.std.proofs.Common.{◌∙◌, arith, get_or-take, lt-ltb, ltb-true, leb-true, leb-false, eq-eqb, ne_eqb, eqb-true}
use mathlib.Core.List.{List, [], ◌∷◌, tail}
use Rattle.std.proofs.Math.Option.{none, some}
use Prim.Native.Nat.{ℕ, zero, suc, ◌+◌, ◌-◌, ◌≤◌, ◌<◌}
use Rattle.std.proofs.Math.Decide.{ℕ_discrete, dec_le}
use Rattle.std.proofs.Math.ListN.{get_or, get_or-map}
use Rattle.std.proofs.lemmas.Bool.{eqb-false, not-true, not-false}
use Rattle.base.specs.Test.{ifd}
use Rattle.base.proofs.Laws.Test.{ifd_yes, ifd_no}
use Rattle.nodes.specs.declared.node.Node.{Node}
use Rattle.nodes.specs.Place.{place}
use Rattle.nodes.specs.Place.{place, key_place}
use Rattle.nodes.proofs.Laws.Place.{place_within, yes_says}
use Rattle.nodes.specs.Node.{extra, keys_of, slots_of}
use Rattle.nodes.proofs.Laws.Node.{extra_le}
use Rattle.nodes.specs.Entries.{entries, entries_of}
use Rattle.nodes.proofs.Laws.Entries.{entries_keys, entries_slots}
use Rattle.nodes.specs.Kept.{Whole}
use Rattle.nodes.proofs.Laws.Kept.{length_entries_of}
use Rattle.operations.specs.Object.{node, body, no_tree}
use Rattle.operations.specs.Entry.{Entries, zip, keys, vals, node_value, fewest_entries, cut_at, place_in, value_at, value_in}
use Rattle.operations.specs.Path.{TreePlan, open_node, kid, Branch, Cont, down}
use Rattle.client.specs.Record.{value_of}
use Rattle.walk.specs.Entries.{opens_with, opens, below_with, below, Inner, branch_of, Below}
use Rattle.plans.specs.Plan as P
use Rattle.nodes.specs.Entries as N

zip_same : (ks vs : List ℕ) → zip ks vs ≡ N.zip ks vs
zip_same [] vs = refl
zip_same (k ∷ ks) [] = refl
zip_same (k ∷ ks) (v ∷ vs) = ap (λ (l : Entries). (k, v) ∷ l) (zip_same ks vs)

open_body : (lo k l : ℕ) (ks vs : List ℕ) (c : ℕ → Entries → TreePlan)
    → open_node lo (body k l ks vs) c ≡ cond (cond (eqb k 1) (eqb l 0) (cond (eqb k 2) (ltb 0 l) false)) (c l (entries (extra k) lo ks vs)) (P.fail no_tree)
unfolding entries extra
open_body lo zero l ks vs c = refl
open_body lo (suc zero) zero ks vs c = rw (zip_same ks vs)
open_body lo (suc zero) (suc l) ks vs c = let a : suc l ≡ 0 → ⊥ = λ e. omega arith in rw (ne_eqb (suc l) 0 a)
open_body lo (suc (suc zero)) zero ks vs c = refl
open_body lo (suc (suc zero)) (suc l) ks vs c = let a : 0 < suc l = omega arith in rw (zip_same (lo ∷ ks) vs, lt-ltb 0 (suc l) a)
open_body lo (suc (suc (suc k))) l ks vs c =
    let a : suc (suc (suc k)) ≡ 1 → ⊥ = λ e. omega arith in
    let b : suc (suc (suc k)) ≡ 2 → ⊥ = λ e. omega arith in
    rw (ne_eqb (suc (suc (suc k))) 1 a, ne_eqb (suc (suc (suc k))) 2 b)

pub open_is : (lo x : ℕ) (n : Node) (c : ℕ → Entries → TreePlan)
    → open_node lo (value_of (node x) n) c ≡ cond (opens n) (c n.level (entries_of n lo)) (P.fail no_tree)
unfolding opens entries_of
open_is lo x n c = open_body lo n.kind n.level (keys_of n) (slots_of n) c

-- a node that is open is a leaf of level 0, or an inner node of a level from 1
pub record Leaf (n : Node) : Type 0 where
  pub kind : n.kind ≡ 1
  pub level : n.level ≡ 0

open_kind : (n : Node) → opens n ≡ true → cond (eqb n.kind 1) (eqb n.level 0) (cond (eqb n.kind 2) (ltb 0 n.level) false) ≡ true
unfolding opens
open_kind n h = h

module _ (n : Node) (h : opens n ≡ true) where
  pub open_leaf : n.level ≡ 0 → Leaf n
  open_leaf z = go (eqb n.kind 1) (eqb n.kind 2) refl refl
    where
      go : (a b : Bool) → eqb n.kind 1 ≡ a → eqb n.kind 2 ≡ b → Leaf n
      go true b p q = record { kind = eqb-true n.kind 1 p; level = z }
      go false true p q = let l : 0 < n.level = ltb-true 0 n.level (rw (p, q) at (open_kind n h)) in absurd (omega arith)
      go false false p q = let e : false ≡ true = rw (p, q) at (open_kind n h) in let z : ◌≡◌ {A = ℕ} 0 1 = cc in absurd (omega arith)

  pub open_inner : 0 < n.level → Inner n
  open_inner z = go (eqb n.kind 1) (eqb n.kind 2) refl refl
    where
      go : (a b : Bool) → eqb n.kind 1 ≡ a → eqb n.kind 2 ≡ b → Inner n
      go true b p q = let l : n.level ≡ 0 = eqb-true n.level 0 (rw p at (open_kind n h)) in absurd (omega arith)
      go false true p q = record { kind = eqb-true n.kind 2 q; level = z }
      go false false p q = let e : false ≡ true = rw (p, q) at (open_kind n h) in let z : ◌≡◌ {A = ℕ} 0 1 = cc in absurd (omega arith)

pub extra_leaf : (n : Node) → Leaf n → extra n.kind ≡ 0
unfolding extra
extra_leaf n h = rw h.kind

pub extra_inner : (n : Node) → Inner n → extra n.kind ≡ 1
unfolding extra
extra_inner n h = rw h.kind

-- enough entries: 7 keys
enough_by : (l c len : ℕ) (a b : TreePlan) → (l ≡ 0 → len ≡ c) → (0 < l → len ≡ c + 1) → ifd (dec_le (fewest_entries l) len) a b ≡ cond (leb 7 c) a b
enough_by l c len a b z s = go l refl (leb 7 c) refl
  where
    go : (j : ℕ) → l ≡ j → (t : Bool) → leb 7 c ≡ t → ifd (dec_le (fewest_entries l) len) a b ≡ cond (leb 7 c) a b
    go zero e true p = let g : 7 ≤ c = leb-true 7 c p in let d : fewest_entries l ≤ len = rw e (omega (arith, z e)) in rw p (ifd_yes (dec_le (fewest_entries l) len) a b d)
    go zero e false p = let g : c < 7 = leb-false 7 c p in let d : fewest_entries l ≤ len → ⊥ = rw e (λ q. omega (arith, z e, q)) in rw p (ifd_no (dec_le (fewest_entries l) len) a b d)
    go (suc j) e true p = let g : 7 ≤ c = leb-true 7 c p in let d : fewest_entries l ≤ len = rw e (omega (arith, s (omega arith))) in rw p (ifd_yes (dec_le (fewest_entries l) len) a b d)
    go (suc j) e false p = let g : c < 7 = leb-false 7 c p in let y = s (omega arith) in let d : fewest_entries l ≤ len → ⊥ = rw e (λ q. omega (arith, y, q)) in rw p (ifd_no (dec_le (fewest_entries l) len) a b d)

enough : (n : Node) (lo : ℕ) → Whole n → opens n ≡ true → (a b : TreePlan)
    → ifd (dec_le (fewest_entries n.level) (length (entries_of n lo))) a b ≡ cond (leb 7 n.count) a b
enough n lo f h a b =
    enough_by n.level n.count (length (entries_of n lo)) a b
    (λ z. let x = extra_leaf n (open_leaf n h z) in omega (arith, length_entries_of n lo f))
    (λ z. let x = extra_inner n (open_inner n h z) in omega (arith, length_entries_of n lo f))

-- what a plan makes of a node below the root
pub child_is : (l lo x : ℕ) (n : Node) → Whole n → (k : Entries → TreePlan)
    → open_node lo (value_of (node x) n) (λ j es. ifd (ℕ_discrete j l) (ifd (dec_le (fewest_entries l) (length es)) (k es) (P.fail no_tree)) (P.fail no_tree))
    ≡ cond (below l n) (k (entries_of n lo)) (P.fail no_tree)
unfolding below
child_is l lo x n f k = open_is lo x n _ ∙ go (opens n) (eqb n.level l) refl refl
  where
    go : (a b : Bool) → opens n ≡ a → eqb n.level l ≡ b
        → cond (opens n) (ifd (ℕ_discrete n.level l) (ifd (dec_le (fewest_entries l) (length (entries_of n lo))) (k (entries_of n lo)) (P.fail no_tree)) (P.fail no_tree)) (P.fail no_tree)
        ≡ cond (below l n) (k (entries_of n lo)) (P.fail no_tree)
    go true true p q =
        let e : n.level ≡ l = eqb-true n.level l q in
        rw (below, p, q, ← e, ifd_yes (ℕ_discrete n.level n.level) _ _ refl) (enough n lo f p (k (entries_of n lo)) (P.fail no_tree))
    go true false p q =
        let e : n.level ≡ l → ⊥ = eqb-false n.level l q in
        rw (below, p, q, ifd_no (ℕ_discrete n.level l) _ _ e)
    go false b p q = rw (below, p)

-- ---- ways out of the code that decides it
module _ (k v c l : ℕ) (t : Bool) (e : t ≡ opens_with k v) where
  pub below_shut : not t ≡ true → false ≡ below_with l k v c
  below_shut q = rw (← e, not-true t q)

  pub below_other : not t ≡ false → (v ≡ l → ⊥) → false ≡ below_with l k v c
  below_other q h = rw (← e, not-false t q, ne_eqb v l h)

  pub below_count : not t ≡ false → v ≡ l → leb 7 c ≡ below_with l k v c
  below_count q h = rw (← e, not-false t q, eq-eqb v l h)

pub ruleset below_exits = (below_shut, below_other, below_count)

-- of a node whose fields are asked one by one
pub opens_as : (n : Node) (k v : ℕ) (c : Bool) → k ≡ n.kind → v ≡ n.level → c ≡ opens_with k v → c ≡ opens n
unfolding opens
opens_as n k v c p q e = rw (← p, ← q) e

pub below_as : (n : Node) (l k v d : ℕ) (c : Bool) → k ≡ n.kind → v ≡ n.level → d ≡ n.count → c ≡ below_with l k v d → c ≡ below l n
unfolding below opens
below_as n l k v d c p q r e = rw (← p, ← q, ← r) e

-- ---- the entry that a key leads to
pub cut_at_is : (i : ℕ) (e : ℕ × ℕ) (es : Entries) → i ≤ length es → cut_at i e es ≡ (take i (e ∷ es), get_or (e ∷ es) i (0, 0), drop (suc i) (e ∷ es))
cut_at_is zero e es h = refl
cut_at_is (suc i) e [] h = absurd (omega arith)
cut_at_is (suc i) e (f ∷ es) h = let r : cut_at i f es ≡ (take i (f ∷ es), get_or (f ∷ es) i (0, 0), drop (suc i) (f ∷ es)) = cut_at_is i f es (omega arith) in rw r

down_at : (stop : ℕ → Bool) (key : ℕ) (k : Cont) (l : ℕ) (fs : List Branch) (n : ℕ) (e : ℕ × ℕ) (es : Entries) (p : ℕ) → stop (suc l) ≡ false → p ≡ place (keys es) key → p ≤ length es
    → down stop key k (suc l) fs n (e ∷ es)
    ≡ kid [] l (get_or (e ∷ es) p (0, 0)).0 (get_or (e ∷ es) p (0, 0)).1 (λ es'. down stop key k l (branch_of n p (e ∷ es) ∷ fs) (get_or (e ∷ es) p (0, 0)).1 es')
unfolding branch_of
down_at stop key k l fs n e es p s q h = rw (s, ← q, cut_at_is p e es h)

module _ (n : Node) (lo : ℕ) (f : Whole n) where
  longer : length (slots_of n) ≡ length (keys_of n) + extra n.kind
  longer = omega (arith, f.keys, f.slots)

  entry_slots : vals (entries_of n lo) ≡ slots_of n
  unfolding entries_of
  entry_slots = entries_slots (extra n.kind) lo (extra_le n.kind) (keys_of n) (slots_of n) longer

  pub entry_slot : (p : ℕ) → p < n.count + extra n.kind → (get_or (entries_of n lo) p (0, 0)).1 ≡ get_or n.slots p 0
  unfolding slots_of
  entry_slot p h =
      let a : get_or (vals (entries_of n lo)) p 0 ≡ (get_or (entries_of n lo) p (0, 0)).1 = get_or-map (λ (e : ℕ × ℕ). e.1) (entries_of n lo) p (0, 0) in
      sym a ∙ rw entry_slots (get_or-take (n.count + extra n.kind) n.slots p 0 h)

  pub entry_keys : keys (entries_of n lo) ≡ N.headed (extra n.kind) lo (keys_of n)
  unfolding entries_of
  entry_keys = entries_keys (extra n.kind) lo (extra_le n.kind) (keys_of n) (slots_of n) longer

pub keys_later : (E : Entries) → keys (drop 1 E) ≡ drop 1 (keys E)
keys_later [] = refl
keys_later (e ∷ es) = refl

-- a node as it is written
mk_leaf : (kind level : ℕ) (E : Entries) (ks vs : List ℕ) → kind ≡ 1 → level ≡ 0 → keys E ≡ ks → vals E ≡ vs → node_value level E ≡ body kind level ks vs
mk_leaf kind level E ks vs k e p q = rw (k, e, p, q)

mk_inner : (kind level : ℕ) (E : Entries) (ks vs : List ℕ) → kind ≡ 2 → 0 < level → drop 1 (keys E) ≡ ks → vals E ≡ vs → node_value level E ≡ body kind level ks vs
mk_inner kind zero E ks vs k e p q = absurd (omega arith)
mk_inner kind (suc l) E ks vs k e p q = rw (k, later E, p, q)
  where
    later : (E : Entries) → keys (tail E) ≡ drop 1 (keys E)
    later [] = refl
    later (e ∷ es) = refl

pub stored_node : (n : Node) (lo x : ℕ) → Whole n → opens n ≡ true → node_value n.level (entries_of n lo) ≡ value_of (node x) n
stored_node n lo x f h = go n.level refl
  where
    go : (l : ℕ) → n.level ≡ l → node_value n.level (entries_of n lo) ≡ value_of (node x) n
    go zero e =
        let k : Leaf n = open_leaf n h e in
        mk_leaf n.kind n.level (entries_of n lo) (keys_of n) (slots_of n) k.kind e (rw (entry_keys n lo f, extra_leaf n k)) (entry_slots n lo f)
    go (suc l) e =
        let k : Inner n = open_inner n h (omega arith) in
        mk_inner n.kind n.level (entries_of n lo) (keys_of n) (slots_of n) k.kind k.level (rw (entry_keys n lo f, extra_inner n k)) (entry_slots n lo f)

-- "the path downward": a step from an inner node
module _ (stop : ℕ → Bool) (key : ℕ) (k : Cont) (fs : List Branch) (nm p c : ℕ) where
  down_list : (l : ℕ) (E : Entries) → 0 < l → stop l ≡ false → p ≡ place (keys (drop 1 E)) key → suc p ≤ length E → c ≡ (get_or E p (0, 0)).1
      → down stop key k l fs nm E ≡ kid [] (l - 1) (get_or E p (0, 0)).0 c (λ es'. down stop key k (l - 1) (branch_of nm p E ∷ fs) c es')
  down_list zero E z s pp h pc = absurd (omega arith)
  down_list (suc l) [] z s pp h pc = absurd (omega arith)
  down_list (suc l) (e ∷ es) z s pp h pc = let d : suc l - 1 ≡ l = omega arith in rw (d, pc) (down_at stop key k l fs nm e es p s pp (omega arith))

  pub down_inner : (n : Node) (lo l : ℕ) → n.level ≡ l → Whole n → Inner n → stop l ≡ false → p ≡ place (keys_of n) key → p ≤ n.count → c ≡ get_or n.slots p 0
      → down stop key k l fs nm (entries_of n lo)
      ≡ kid [] (l - 1) (get_or (entries_of n lo) p (0, 0)).0 c (λ es'. down stop key k (l - 1) (branch_of nm p (entries_of n lo) ∷ fs) c es')
  down_inner n lo l e f i s pp h pc =
      let x = extra_inner n i in
      let q : keys (drop 1 (entries_of n lo)) ≡ keys_of n = rw (keys_later (entries_of n lo), entry_keys n lo f, x) in
      down_list l (entries_of n lo) (omega (arith, i.level, e)) s (rw q pp) (omega (arith, length_entries_of n lo f)) (rw (entry_slot n lo f p (omega arith)) pc)

pub down_there : (stop : ℕ → Bool) (key : ℕ) (k : Cont) (fs : List Branch) (nm l : ℕ) (E : Entries) → (0 < l → stop l ≡ true) → (0 < l → 0 < length E) → down stop key k l fs nm E ≡ k l fs nm E
down_there stop key k fs nm zero E s h = refl
down_there stop key k fs nm (suc l) [] s h = absurd (omega (arith, h (omega arith)))
down_there stop key k fs nm (suc l) (e ∷ es) s h = let t : stop (suc l) ≡ true = s (omega arith) in rw t

pub below_true : (l : ℕ) (n : Node) → below l n ≡ true → Below l n
unfolding below
below_true l n h = go (opens n) (eqb n.level l) refl refl
  where
    go : (a b : Bool) → opens n ≡ a → eqb n.level l ≡ b → Below l n
    go true true p q = record { opened = p; level = eqb-true n.level l q; enough = leb-true 7 n.count (rw (below, p, q) at h) }
    go true false p q = let e : false ≡ true = rw (below, p, q) at h in let z : ◌≡◌ {A = ℕ} 0 1 = cc in absurd (omega arith)
    go false b p q = let e : false ≡ true = rw (below, p) at h in let z : ◌≡◌ {A = ℕ} 0 1 = cc in absurd (omega arith)

-- ---- a key in a leaf
module _ (n : Node) (lo key : ℕ) (f : Whole n) (l : Leaf n) where
  pub leaf_keys : keys (entries_of n lo) ≡ keys_of n
  leaf_keys = rw (entry_keys n lo f, extra_leaf n l)

  pub leaf_place : place_in key (entries_of n lo) ≡ key_place (keys_of n) key
  leaf_place = rw leaf_keys

  -- the value is that of the node's slot
  pub leaf_value : value_in key (entries_of n lo) ≡ cond (key_place (keys_of n) key).there (some (get_or n.slots (place (keys_of n) key - 1) 0)) none
  unfolding key_place
  leaf_value = ap (value_at (entries_of n lo)) leaf_place ∙ go (key_place (keys_of n) key).there refl
    where
      i : ℕ
      i = place (keys_of n) key - 1

      go : (t : Bool) → (key_place (keys_of n) key).there ≡ t → cond t (some (get_or (vals (entries_of n lo)) i 0)) none ≡ cond t (some (get_or n.slots i 0)) none
      go true e =
          let y = yes_says (keys_of n) key e in
          let h : i < n.count = omega (arith, y.not_zero, place_within (keys_of n) key, f.keys) in
          let a : get_or (vals (entries_of n lo)) i 0 ≡ (get_or (entries_of n lo) i (0, 0)).1 = get_or-map (λ (e : ℕ × ℕ). e.1) (entries_of n lo) i (0, 0) in
          rw (a, entry_slot n lo f i (omega arith))
      go false e = refl
