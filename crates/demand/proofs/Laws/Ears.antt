-- BOTH EARS, proved: a lookup answers what the last transaction before that writes the key has left there.
use Rattle.std.specs.Prelude.{◌≡◌, Bool, ◌||◌, ℕ, suc, ◌≤◌, ◌<◌, eqb}
use Rattle.std.proofs.Math.Path.{refl, ap}
use Rattle.std.proofs.Common.{sym, ◌∙◌, subst, arith, eqb-true}
use Rattle.std.proofs.Math.Bool.{true, false, cond}
use mathlib.Core.List.{List, [], ◌∷◌, ◌++◌}
use Rattle.std.proofs.Math.Option.{Option, none, some}
use Rattle.std.proofs.Math.Decide.{ℕ_discrete, dec_lt}
use Rattle.std.proofs.lemmas.Bool.{eqb-false}
use Rattle.base.specs.Test.{ifd}
use Rattle.base.proofs.Laws.Test.{ifd_yes, ifd_no, ifd_all}
use Rattle.plans.specs.Walk.{Every}
use Rattle.operations.specs.Object.{Ans}
use Rattle.operations.specs.Map.{Map, Op, insert, lookup, delete, next, previous, migrate, list, look, set_key, remove_key, said, map_after}
use Rattle.demand.specs.Ledger.{Told, map_of, map_all, Right, RightAll}
use Rattle.demand.specs.Ears.{op_writes, op_leaves, tx_writes, tx_leaves, up_to_writer, of_first, Together, LooksUp, OfOne, BothEars}

-- ---- the map's keys rise
abbrev Rises : ℕ → Map → Type 0
Rises a [] = Unit {0}
Rises a (e ∷ m) = (a ≤ e.0) × Rises (suc e.0) m

rises_from : (a b : ℕ) (m : Map) → a ≤ b → Rises b m → Rises a m
rises_from a b [] l h = tt
rises_from a b (e ∷ m) l h = (omega (arith, h.0), h.1)

put_rises : (k v a : ℕ) (m : Map) → a ≤ k → Rises a m → Rises a (set_key k v m)
put_rises k v a [] l h = (l, tt)
put_rises k v a (e ∷ m) l h =
    ifd_all (dec_lt e.0 k) _ _ (Rises a) (λ p. (h.0, put_rises k v (suc e.0) m (omega arith) h.1))
    (λ n. ifd_all (ℕ_discrete e.0 k) _ _ (Rises a) (λ q. (l, subst (λ (x : ℕ). Rises (suc x) m) q h.1)) (λ d. (l, (omega arith, h.1))))

del_rises : (k a : ℕ) (m : Map) → Rises a m → Rises a (remove_key k m)
del_rises k a [] h = tt
del_rises k a (e ∷ m) h =
    ifd_all (ℕ_discrete e.0 k) _ _ (Rises a) (λ q. rises_from a (suc e.0) m (omega (arith, h.0)) h.1) (λ d. (h.0, del_rises k (suc e.0) m h.1))

-- ---- what is found after an operation
look_skip : (k : ℕ) (e : ℕ × ℕ) (m : Map) → ¬ (e.0 ≡ k) → look k (e ∷ m) ≡ look k m
look_skip k e m n = ifd_no (ℕ_discrete e.0 k) (some e.1) (look k m) n

look_here : (k v : ℕ) (m : Map) → look k ((k, v) ∷ m) ≡ some v
look_here k v m = ifd_yes (ℕ_discrete k k) (some v) (look k m) refl

look_below : (k a : ℕ) (m : Map) → k < a → Rises a m → look k m ≡ none
look_below k a [] l h = refl
look_below k a (e ∷ m) l h = look_skip k e m (λ q. absurd (omega (arith, h.0))) ∙ look_below k (suc e.0) m (omega (arith, h.0)) h.1

put_same : (k v : ℕ) (m : Map) → look k (set_key k v m) ≡ some v
put_same k v [] = look_here k v []
put_same k v (e ∷ m) =
    ifd_all (dec_lt e.0 k) _ _ (λ (x : Map). look k x ≡ some v) (λ p. look_skip k e (set_key k v m) (λ q. absurd (omega arith)) ∙ put_same k v m)
    (λ n. ifd_all (ℕ_discrete e.0 k) _ _ (λ (x : Map). look k x ≡ some v) (λ q. look_here k v m) (λ d. look_here k v (e ∷ m)))

-- of another key
module _ (k i : ℕ) (other : ¬ (i ≡ k)) where
  behind : (e : ℕ × ℕ) (m n : Map) → look k m ≡ look k n → look k (e ∷ m) ≡ look k (e ∷ n)
  behind e m n q = ap (ifd (ℕ_discrete e.0 k) (some e.1)) q

  put_other : (v : ℕ) (m : Map) → look k (set_key i v m) ≡ look k m
  put_other v [] = look_skip k (i, v) [] other
  put_other v (e ∷ m) =
      ifd_all (dec_lt e.0 i) _ _ (λ (x : Map). look k x ≡ look k (e ∷ m)) (λ p. behind e (set_key i v m) m (put_other v m))
      (λ n. ifd_all (ℕ_discrete e.0 i) _ _ (λ (x : Map). look k x ≡ look k (e ∷ m))
      (λ q. look_skip k (i, v) m other ∙ sym (look_skip k e m (λ p. other (sym q ∙ p)))) (λ d. look_skip k (i, v) (e ∷ m) other))

  del_other : (m : Map) → look k (remove_key i m) ≡ look k m
  del_other [] = refl
  del_other (e ∷ m) =
      ifd_all (ℕ_discrete e.0 i) _ _ (λ (x : Map). look k x ≡ look k (e ∷ m)) (λ q. sym (look_skip k e m (λ p. other (sym q ∙ p))))
      (λ d. behind e (remove_key i m) m (del_other m))

del_same : (k a : ℕ) (m : Map) → Rises a m → look k (remove_key k m) ≡ none
del_same k a [] h = refl
del_same k a (e ∷ m) h =
    ifd_all (ℕ_discrete e.0 k) _ _ (λ (x : Map). look k x ≡ none) (λ q. look_below k (suc e.0) m (omega arith) h.1)
    (λ d. look_skip k e (remove_key k m) d ∙ del_same k (suc e.0) m h.1)

-- by a test whether it is the key
at_key : {A : Type 0} (i k : ℕ) (x y z : A) → (i ≡ k → x ≡ y) → (¬ (i ≡ k) → x ≡ z) → x ≡ cond (eqb i k) y z
at_key i k x y z f g = go (eqb i k) refl
  where
    go : (b : Bool) → eqb i k ≡ b → x ≡ cond b y z
    go true e = f (eqb-true i k e)
    go false e = g (eqb-false i k e)

op_rises : (p : Op) (m : Map) → Rises 0 m → Rises 0 (map_after p m)
op_rises (insert i v) m h = put_rises i v 0 m (omega arith) h
op_rises (lookup i) m h = h
op_rises (delete i) m h = del_rises i 0 m h
op_rises (next i) m h = h
op_rises (previous i) m h = h
op_rises (migrate n s) m h = h
op_rises (list i n) m h = h

op_looks : (k : ℕ) (p : Op) (m : Map) → Rises 0 m → look k (map_after p m) ≡ cond (op_writes k p) (op_leaves p) (look k m)
op_looks k (insert i v) m h =
    at_key i k _ _ _ (λ q. subst (λ (x : ℕ). look k (set_key x v m) ≡ some v) (sym q) (put_same k v m)) (λ n. put_other k i n v m)
op_looks k (lookup i) m h = refl
op_looks k (delete i) m h =
    at_key i k _ _ _ (λ q. subst (λ (x : ℕ). look k (remove_key x m) ≡ none) (sym q) (del_same k 0 m h)) (λ n. del_other k i n m)
op_looks k (next i) m h = refl
op_looks k (previous i) m h = refl
op_looks k (migrate n s) m h = refl
op_looks k (list i n) m h = refl

-- ---- after a transaction, and after all
tx_rises : (ts : List Told) (m : Map) → Rises 0 m → Rises 0 (map_of ts m)
tx_rises [] m h = h
tx_rises (t ∷ ts) m h = op_rises t.op (map_of ts m) (tx_rises ts m h)

all_rises : (l : List (List Told)) → Rises 0 (map_all l)
all_rises [] = tt
all_rises (ts ∷ l) = tx_rises ts (map_all l) (all_rises l)

module _ (k : ℕ) where
  tx_looks : (ts : List Told) (m : Map) → Rises 0 m → look k (map_of ts m) ≡ cond (tx_writes k ts) (tx_leaves k ts) (look k m)
  unfolding tx_writes tx_leaves
  tx_looks [] m h = refl
  tx_looks (t ∷ ts) m h =
      op_looks k t.op (map_of ts m) (tx_rises ts m h) ∙ ap (cond (op_writes k t.op) (op_leaves t.op)) (tx_looks ts m h)
      ∙ nested (op_writes k t.op) (tx_writes k ts) (op_leaves t.op) (tx_leaves k ts) (look k m)
    where
      nested : (a b : Bool) (x y z : Option ℕ) → cond a x (cond b y z) ≡ cond (a || b) (cond a x y) z
      nested true b x y z = refl
      nested false b x y z = refl

  all_looks : (l : List (List Told)) → said (look k (map_all l)) ≡ of_first k (up_to_writer k l)
  unfolding up_to_writer
  all_looks [] = refl
  all_looks (ts ∷ l) = ap said (tx_looks ts (map_all l) (all_rises l)) ∙ go (tx_writes k ts) (all_looks l)
    where
      go : (b : Bool) → said (look k (map_all l)) ≡ of_first k (up_to_writer k l) → said (cond b (tx_leaves k ts) (look k (map_all l))) ≡ of_first k (cond b (ts ∷ l) (up_to_writer k l))
      go true h = refl
      go false h = h

-- ---- what is right of all is right of each
pub right_at : (later : List Told) (t : Told) (earlier : List Told) (m : Map) → Right (later ++ t ∷ earlier) m → Right (t ∷ earlier) m
right_at [] t earlier m h = h
right_at (u ∷ later) t earlier m h = right_at later t earlier m h.0

pub right_in : (after : List (List Told)) (ts : List Told) (before : List (List Told)) → RightAll (after ++ ts ∷ before) → Right ts (map_all before)
right_in [] ts before h = h.1
right_in (us ∷ after) ts before h = right_in after ts before h.0

-- a lookup answers what the newest transaction that writes the key has left
looked : (k : ℕ) (a : Ans) (ts : List Told) (before : List (List Told)) → Right ts (map_all before) → LooksUp k a ts → a ≡ of_first k (up_to_writer k before)
looked k a ts before h q =
    (right_at q.later (record { op = lookup k; ans = a }) q.earlier (map_all before) (subst (λ (u : List Told). Right u (map_all before)) q.is h)).1 refl
    ∙ ap said (tx_looks k q.earlier (map_all before) (all_rises before) ∙ ap (λ (b : Bool). cond b (tx_leaves k q.earlier) (look k (map_all before))) q.unwritten)
    ∙ all_looks k before

same_writer : (l r : ℕ) (before : List (List Told)) → Together l r before → up_to_writer l before ≡ up_to_writer r before
unfolding up_to_writer Every
same_writer l r [] h = refl
same_writer l r (ts ∷ before) h = rw h.0 (ap (cond (tx_writes r ts) (ts ∷ before)) (same_writer l r before h.1))

pub both_ears : BothEars
both_ears l r a b after before ts right together p q = record {
  one = same_writer l r before together;
  left = looked l a ts before (right_in after ts before right) p;
  right = looked r b ts before (right_in after ts before right) q;
}
