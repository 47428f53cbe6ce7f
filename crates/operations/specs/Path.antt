-- The way down: what every operation reads first, and the checks of what was read.
use Rattle.std.specs.Prelude.{Bool, true, false, cond, List, [], ◌∷◌, ℕ, zero, suc, length}
use Rattle.std.proofs.Math.Decide.{ℕ_discrete, dec_le}
use Rattle.base.specs.Test.{ifd}
use Rattle.operations.specs.Object.{Obj, meta, node, Ask, object, Val, root, body, taken, flags, Why, no_tree, Ans, Writes, hit}
use Rattle.operations.specs.Entry.{Entries, zip, fewest_entries, cut}
use Rattle.plans.specs.Plan as P

-- an operation's plan ends with its answer and its writes
abbrev pub TreePlan : Type 0
TreePlan = P.Plan Ask Val (Ans × Writes) Why

-- an object read, the operation's own writes first
abbrev pub see : Writes → Obj → (Val → TreePlan) → TreePlan
see [] o k = P.ask (object o) k
see (e ∷ w) o k = cond (hit e.0 o) (k e.1) (see w o k)

-- on with the root's name; the metadata has no other value, so the failures are not reached
abbrev pub when_root : Val → (ℕ → TreePlan) → TreePlan
when_root (root r st) k = k r
when_root (body j l ks vs) k = P.fail no_tree
when_root (taken b) k = P.fail no_tree
when_root (flags fs) k = P.fail no_tree

-- "the root is free, a child is free": of any other node its level and its entries, from the key lo. A value that is no node's is not
-- reached, nor a kind above 2 or a level that does not fit its kind: they are out of range (refusal 10)
abbrev pub open_node : ℕ → Val → (ℕ → Entries → TreePlan) → TreePlan
open_node lo (root r st) k = P.fail no_tree
open_node lo (taken b) k = P.fail no_tree
open_node lo (flags fs) k = P.fail no_tree
open_node lo (body zero l ks vs) k = P.fail no_tree
open_node lo (body (suc zero) zero ks vs) k = k 0 (zip ks vs)
open_node lo (body (suc zero) (suc l) ks vs) k = P.fail no_tree
open_node lo (body (suc (suc zero)) zero ks vs) k = P.fail no_tree
open_node lo (body (suc (suc zero)) (suc l) ks vs) k = k (suc l) (zip (lo ∷ ks) vs)
open_node lo (body (suc (suc (suc j))) l ks vs) k = P.fail no_tree

-- "a child is free or not exactly one level lower, a node used below the root has under 7 keys"
abbrev pub kid : Writes → ℕ → ℕ → ℕ → (Entries → TreePlan) → TreePlan
kid w l lo n k = see w (node n) (λ v. open_node lo v (λ j es.
    ifd (ℕ_discrete j l) (ifd (dec_le (fewest_entries l) (length es)) (k es) (P.fail no_tree)) (P.fail no_tree)))

-- an inner node on the path: its name, the key of the entry that was followed, the entries before and after it
pub record Branch : Type 0 where
  pub nm : ℕ
  pub key : ℕ
  pub pre : Entries
  pub post : Entries

-- what follows at a node: its level, the path to it (the nearest first), its name and its entries
abbrev pub Cont : Type 0
Cont = ℕ → List Branch → ℕ → Entries → TreePlan

-- "the path downward", by a key, to the level where stop says so; an inner node has a child, so [] is not reached
abbrev pub down : (ℕ → Bool) → ℕ → Cont → (l : ℕ) → List Branch → ℕ → Entries → TreePlan
down stop key k zero fs n es = k zero fs n es
down stop key k (suc l) fs n [] = P.fail no_tree
down stop key k (suc l) fs n (e ∷ es) =
    let c = cut key e es in
    cond (stop (suc l)) (k (suc l) fs n (e ∷ es))
    (kid [] l c.1.0 c.1.1 (λ es'. down stop key k l (record { nm = n; key = c.1.0; pre = c.0; post = c.2 } ∷ fs) c.1.1 es'))

-- the root that the metadata names, and its entries
abbrev pub at_root : ℕ → (ℕ → Entries → TreePlan) → TreePlan
at_root r k = P.ask (object (node r)) (λ u. open_node 0 u k)

-- at no inner level does the path stop
abbrev pub to_leaf : ℕ → Bool
to_leaf zero = true
to_leaf (suc l) = false

-- "in the order metadata, .. the path downward": to the leaf of a key
abbrev pub from_root : ℕ → (List Branch → ℕ → Entries → TreePlan) → TreePlan
from_root key k = P.ask (object meta) (λ v. when_root v (λ r. at_root r (λ l es. down to_leaf key (λ _ fs n es. k fs n es) l [] r es)))
