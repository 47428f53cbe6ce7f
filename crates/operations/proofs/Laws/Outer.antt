-- A compared operation that answers has asked for a node that is not inner: the leaf.
use Rattle.std.specs.Prelude.{◌≡◌, refl, Bool, true, false, List, [], ◌∷◌, ℕ, zero, suc, length}
use Rattle.std.proofs.Common.{ap, ◌∙◌, subst, arith}
use Rattle.std.proofs.lemmas.Bool.{false≢true}
use Rattle.std.proofs.Math.Decide.{ℕ_discrete, dec_le}
use Rattle.base.specs.Test.{ifd}
use Rattle.base.proofs.Laws.Test.{ifd_all}
use Rattle.operations.specs.Object.{node, Ask, object, Val, root, body, taken, flags, no_tree, Ans, Writes}
use Rattle.operations.proofs.Laws.Object.{inner, inner_node}
use Rattle.operations.specs.Map.{Op, insert, lookup, delete, next, previous, migrate, list, compared}
use Rattle.operations.specs.Entry.{Entries, fewest_entries, cut}
use Rattle.operations.specs.Path.{TreePlan, open_node, kid, when_root, Branch, Cont, to_leaf, down, at_root, from_root}
use Rattle.operations.specs.Operation.{reading, plan}
use Rattle.operations.proofs.Laws.Along.{Along, Ended, along_exec, along_any, along_checked}
use Rattle.plans.specs.Plan as P
use Rattle.plans.proofs.Laws.Walk as W

-- G follows from a node read that is not inner
module _ (G : Type 0) (A : Ask → Val → Type 0) (out : (n : ℕ) (v : Val) → A (object (node n)) v → inner_node v ≡ false → G) where
  abbrev Outer : TreePlan → Type 0
  Outer p = Along (λ q. Unit {0}) A (λ a w. G) p

  -- at level 0 it has been read
  abbrev Seen : ℕ → Type 0
  Seen l = l ≡ 0 → G

  open_outer : (from n : ℕ) (v : Val) (k : ℕ → Entries → TreePlan) → A (object (node n)) v → ((l : ℕ) (es : Entries) → Seen l → Outer (k l es)) → Outer (open_node from v k)
  open_outer from n (root r st) k a h = tt
  open_outer from n (taken b) k a h = tt
  open_outer from n (flags fs) k a h = tt
  open_outer from n (body zero l ks vs) k a h = tt
  open_outer from n (body (suc zero) zero ks vs) k a h = h 0 _ (λ _. out n (body 1 0 ks vs) a refl)
  open_outer from n (body (suc zero) (suc l) ks vs) k a h = tt
  open_outer from n (body (suc (suc zero)) zero ks vs) k a h = tt
  open_outer from n (body (suc (suc zero)) (suc l) ks vs) k a h = h (suc l) _ (λ e. absurd (omega (arith, e)))
  open_outer from n (body (suc (suc (suc j))) l ks vs) k a h = tt

  kid_outer : (l from n : ℕ) (k : Entries → TreePlan) → ((es : Entries) → Seen l → Outer (k es)) → Outer (kid [] l from n k)
  kid_outer l from n k h =
      let size : Entries → TreePlan = λ es. ifd (dec_le (fewest_entries l) (length es)) (k es) (P.fail no_tree) in (
        tt,
        λ v a. open_outer from n v (λ j es. ifd (ℕ_discrete j l) (size es) (P.fail no_tree)) a (λ j es s.
            ifd_all (ℕ_discrete j l) (size es) (P.fail no_tree) Outer
            (λ q. ifd_all (dec_le (fewest_entries l) (length es)) (k es) (P.fail no_tree) Outer (λ _. h es (λ z. s (q ∙ z))) (λ _. tt)) (λ _. tt)),
      )

  down_outer : (key : ℕ) (k : Cont) (l : ℕ) (fs : List Branch) (n : ℕ) (es : Entries) → Seen l → Outer (down to_leaf key k l fs n es)
  down_outer key k zero fs n es h = along_any (λ q. Unit {0}) A (λ a w. G) (λ q. tt) (λ a w. h refl) (k zero fs n es)
  down_outer key k (suc l) fs n [] h = tt
  down_outer key k (suc l) fs n (e ∷ es) h =
      let c = cut key e es in
      let f : Branch = record { nm = n; key = c.1.0; pre = c.0; post = c.2 } in
      kid_outer l c.1.0 c.1.1 (λ gs. down to_leaf key k l (f ∷ fs) c.1.1 gs) (λ gs s. down_outer key k l (f ∷ fs) c.1.1 gs s)

  root_outer : (key : ℕ) (k : List Branch → ℕ → Entries → TreePlan) → Outer (from_root key k)
  root_outer key k = (tt, λ v _. go v)
    where
      on : ℕ → ℕ → Entries → TreePlan
      on r l es = down to_leaf key (λ _ fs n es. k fs n es) l [] r es

      go : (v : Val) → Outer (when_root v (λ r. at_root r (on r)))
      go (root r st) = (tt, λ u a. open_outer 0 r u (on r) a (λ l es s. down_outer key (λ _ fs n es. k fs n es) l [] r es s))
      go (body j l ks vs) = tt
      go (taken b) = tt
      go (flags fs) = tt

  reading_outer : (slots : ℕ) (op : Op) → compared op ≡ true → Outer (reading slots op)
  reading_outer slots (insert k v) c = root_outer k _
  reading_outer slots (lookup k) c = root_outer k _
  reading_outer slots (delete k) c = root_outer k _
  reading_outer slots (next k) c = root_outer k _
  reading_outer slots (previous k) c = root_outer k _
  reading_outer slots (list k n) c = root_outer k _
  reading_outer slots (migrate n s) c = absurd (false≢true c)

pub asks_outer : (slots : ℕ) (op : Op) (rd : Ask → Bool) (S : Ask → Val) (a : Ans) (w : Writes) → compared op ≡ true
    → P.Asked (plan slots op) rd S → P.exec (plan slots op) S ≡ P.gives (a, w)
    → (n : ℕ) × (rd (object (node n)) ≡ true) × (inner (node n) (S (object (node n))) ≡ false)
asks_outer slots op rd S a w c g e =
    let G : Type 0 = (n : ℕ) × (rd (object (node n)) ≡ true) × (inner (node n) (S (object (node n))) ≡ false) in
    let I : Ask → Type 0 = λ q. Unit {0} in
    let A : Ask → Val → Type 0 = λ q v. (rd q ≡ true) × (S q ≡ v) in
    let Q : Ans → Writes → Type 0 = λ a w. G in
    let h = along_checked I A Q (reading slots op) (reading_outer G A (λ n v a i. (n, a.0, ap inner_node a.1 ∙ i)) slots op c) in
    subst (λ r. Ended I A Q (W.ends r)) e (along_exec I A Q rd S (λ q h. (h, refl)) (plan slots op) h g)
