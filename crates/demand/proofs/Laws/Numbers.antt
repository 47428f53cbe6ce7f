-- Objects and their numbers, at a store of allowed sizes.
use Rattle.std.specs.Prelude.{◌≡◌, Bool, false, cond, ℕ, ◌+◌, ◌-◌, ◌/◌, ◌≤◌, ◌<◌, leb, ltb}
use Rattle.std.proofs.Math.Path.{refl}
use Rattle.std.proofs.Common.{ap, sym, ◌∙◌}
use Rattle.std.proofs.Math.Bool.{true}
use native.Mathlib.Omega.{arith}
use borrow.Author.Tests.{ltb-true, lt-ltb, leb-false, eqb-true, eqb-false, le-leb, lt-leb, ne_eqb}
use Rattle.std.proofs.Math.Dec.{eqb}
use Rattle.base.specs.Test.{and_both}
use Rattle.nodes.specs.Name.{name, server_of, slot_of, name_in_store}
use Rattle.nodes.specs.declared.node.Node.{Node}
use Rattle.operations.specs.Object.{Obj, meta, node, flag}
use Rattle.operations.proofs.Laws.Object.{inner}
use Rattle.nodes.specs.declared.object.Object.{Object}
use Rattle.nodes.specs.Object.{object_of, named}
use Rattle.client.specs.Record.{number, by_number, value_of, in_store, object_in_store, number_in_store}
use Rattle.nodes.specs.declared.object.Object.TheVariants as object
use Rattle.client.specs.Items as I

-- one of three by the object
abbrev pub by_object : {A : Type 0} → Obj → A → (ℕ → A) → (ℕ → A) → A
by_object meta a f g = a
by_object (node n) a f g = f n
by_object (flag n) a f g = g n

unfoldable pub obj_of : ℕ → Obj
obj_of x = by_number x meta node flag

-- a number of a node, and of a flag
module _ {A : Type 0} (a : A) (f g : ℕ → A) where
  pub as_node : (n : ℕ) → n < 8192 → by_number (1 + n) a f g ≡ f n
  as_node n h =
      let e : 1 + n - 1 ≡ n = omega arith in
      let p = ne_eqb (1 + n) 0 (λ q. omega arith) in
      let q = le-leb (1 + n) 8192 (omega arith) in
      rw (p, q, e)

  pub as_flag : (n : ℕ) → by_number (8193 + n) a f g ≡ g n
  as_flag n =
      let e : 8193 + n - 8193 ≡ n = omega arith in
      let p = ne_eqb (8193 + n) 0 (λ q. omega arith) in
      let q = lt-leb (8193 + n) 8192 (omega arith) in
      rw (p, q, e)

-- a number is that of its object
pub number_obj : (x : ℕ) → number (obj_of x) ≡ x
unfolding obj_of
number_obj x = go (eqb x 0) refl (leb x 8192) refl
  where
    go : (a : Bool) → eqb x 0 ≡ a → (b : Bool) → leb x 8192 ≡ b → number (cond a meta (cond b (node (x - 1)) (flag (x - 8193)))) ≡ x
    go true e b q = sym (eqb-true x 0 e)
    go false e true q = let z = eqb-false x 0 e in omega arith
    go false e false q = let l = leb-false x 8192 q in omega arith

pub store_obj : (slots x : ℕ) → number_in_store slots x ≡ object_in_store slots (obj_of x)
unfolding obj_of number_in_store
store_obj slots x = go (eqb x 0) (leb x 8192)
  where
    go : (a b : Bool) → cond a true (cond b (in_store slots (x - 1)) (in_store slots (x - 8193))) ≡ object_in_store slots (cond a meta (cond b (node (x - 1)) (flag (x - 8193))))
    go true b = refl
    go false true = refl
    go false false = refl

-- node 0, which holds the first root
pub zeroth_there : (slots : ℕ) → 0 < slots → in_store slots 0 ≡ true
unfolding name_in_store
zeroth_there slots g = rw (lt-ltb 0 slots g)

module _ (slots : ℕ) (al : slots ≤ 1024) where
  pub name_lt : (n : ℕ) → in_store slots n ≡ true → n < 8192
  unfolding name_in_store
  name_lt n h =
      let s : n / 1024 < 8 = ltb-true (server_of n) 8 (and_both (ltb (server_of n) 8) (ltb (slot_of n) slots) h).0 in
      omega (arith, s)

  -- every slot has a name
  pub slot_named : (s i : ℕ) → s < 8 → i < slots → in_store slots (name s i) ≡ true
  unfolding name_in_store
  slot_named s i h g =
      let p : server_of (name s i) ≡ s = omega (arith, al) in
      let q : slot_of (name s i) ≡ i = omega (arith, al) in
      rw (p, q, lt-ltb s 8 h, lt-ltb i slots g)

  pub by_number_of : {A : Type 0} (o : Obj) → object_in_store slots o ≡ true → (a : A) (f g : ℕ → A) → by_number (number o) a f g ≡ by_object o a f g
  by_number_of meta h a f g = refl
  by_number_of (node n) h a f g = as_node a f g n (name_lt n h)
  by_number_of (flag n) h a f g = as_flag a f g n

  pub obj_number : (o : Obj) → object_in_store slots o ≡ true → obj_of (number o) ≡ o
  unfolding obj_of
  obj_number o h = by_number_of o h meta node flag ∙ same o
    where
      same : (o : Obj) → by_object o meta node flag ≡ o
      same meta = refl
      same (node n) = refl
      same (flag n) = refl

  pub number_inside : (o : Obj) → object_in_store slots o ≡ true → number_in_store slots (number o) ≡ true
  number_inside o h = store_obj slots (number o) ∙ ap (object_in_store slots) (obj_number o h) ∙ h

  pub inner_of : (o : Obj) → object_in_store slots o ≡ true → (r : Node) → I.inner (number o) r ≡ inner o (value_of o r)
  unfolding I.inner
  inner_of o h r = by_number_of o h true (λ n. eqb r.kind 2) (λ n. false) ∙ same o
    where
      same : (o : Obj) → by_object o true (λ n. eqb r.kind 2) (λ n. false) ≡ inner o (value_of o r)
      same meta = refl
      same (node n) = refl
      same (flag n) = refl

-- the server's name of an object
abbrev pub server_object : Obj → Object
server_object meta = object.Metadata
server_object (node n) = object.Node (named n)
server_object (flag n) = object.Flag (named n)

module _ (slots : ℕ) (al : slots ≤ 1024) where
  pub object_number : (o : Obj) → object_in_store slots o ≡ true → object_of (number o) ≡ server_object o
  unfolding object_of
  object_number meta h = refl
  object_number (node n) h =
      let l = name_lt slots al n h in
      let e : 1 + n - 1 ≡ n = omega arith in
      let p = ne_eqb (1 + n) 0 (λ q. omega arith) in
      let q = le-leb (1 + n) 8192 (omega arith) in
      rw (p, q, e)
  object_number (flag n) h =
      let e : 8193 + n - 1 - 8192 ≡ n = omega arith in
      let p = ne_eqb (8193 + n) 0 (λ q. omega arith) in
      let q = lt-leb (8193 + n) 8192 (omega arith) in
      rw (p, q, e)
