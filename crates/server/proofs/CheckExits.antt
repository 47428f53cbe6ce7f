-- Ways out of the code for checks: from the facts at hand there to what the contract says.
use mathlib.Core.Path.{◌≡◌, sym, ◌∙◌}
use mathlib.Core.Bool.{Bool, true, false, not}
use Prim.Native.Nat.{ℕ, ◌/◌, ◌%◌}
use native.Mathlib.Omega.{arith}
use borrow.Author.Tests.{eq-eqb, ne_eqb, not-true, not-false}
use lib.Dec.{eqb, leb}
use Rattle.memory.specs.Bit.{bit}
use Rattle.layout.specs.Block.{In}
use Rattle.layout.specs.Space.{Valid}
use Rattle.nodes.specs.Name.{server_of, slot_of}
use Rattle.nodes.specs.declared.name.Name.{Name}
use Rattle.server.specs.declared.check.Finding.{Finding}
use Rattle.server.specs.declared.check.Finding.TheVariants.{Same, Differs, Unfit}
use Rattle.nodes.specs.declared.object.Object.{Object}
use Rattle.nodes.specs.declared.object.Object.TheVariants as object
use Rattle.server.specs.declared.place.Place.{Place}
use Rattle.server.specs.declared.place.Place.TheVariants as place
use Rattle.server.specs.Layout.{places, server_block}
use Rattle.server.specs.Object.{lock_of, Has}
use Rattle.server.specs.Check.{can_check, mark_place, mark_in, standing, mark_fits, mark_finding}

module _ (s : ℕ) (o : Object) (inner : Bool) where
  pub can_metadata : o ≡ object.Metadata → true ≡ can_check s o inner
  unfolding can_check
  can_metadata e = sym (rw e)

  pub can_inner : (x : Name) → o ≡ object.Node x → inner ≡ true → inner ≡ can_check s o inner
  unfolding can_check
  can_inner x e i = i ∙ sym (rw (e, i))

  pub can_node : (x : Name) (r : ℕ) → o ≡ object.Node x → inner ≡ false → r ≡ server_of x.number → eqb r s ≡ can_check s o inner
  unfolding can_check
  can_node x r e i q = sym (rw (e, i, q))

  pub can_flag : (x : Name) (r : ℕ) → o ≡ object.Flag x → r ≡ server_of x.number → eqb r s ≡ can_check s o inner
  unfolding can_check
  can_flag x r e q = sym (rw (e, q))

module _ (o : Object) (inner : Bool) where
  pub mark_version : o ≡ object.Metadata → place.Version ≡ mark_place o inner
  unfolding mark_place
  mark_version e = sym (rw e)

  pub mark_table : (x : Name) (s k : ℕ) → o ≡ object.Node x → inner ≡ true → s ≡ server_of x.number → k ≡ slot_of x.number
      → place.Table s k ≡ mark_place o inner
  unfolding mark_place
  mark_table x s k e i p q = rw (p, q) (sym (rw (e, i)))

  pub mark_own : (x : Name) (k : ℕ) → o ≡ object.Node x → inner ≡ false → k ≡ slot_of x.number → place.Node k 2 ≡ mark_place o inner
  unfolding mark_place
  mark_own x k e i q = rw q (sym (rw (e, i)))

  pub mark_vector : (x : Name) (k : ℕ) → o ≡ object.Flag x → k ≡ slot_of x.number → place.Vector (k / 64) ≡ mark_place o inner
  unfolding mark_place
  mark_vector x k e q = rw q (sym (rw e))

module _ (o : Object) (w : ℕ) where
  pub marks_metadata : o ≡ object.Metadata → w ≡ mark_in o w
  unfolding mark_in
  marks_metadata e = sym (rw e)

  pub marks_node : (x : Name) → o ≡ object.Node x → w ≡ mark_in o w
  unfolding mark_in
  marks_node x e = sym (rw e)

  pub marks_taken : (x : Name) (k : ℕ) (b : Bool) → o ≡ object.Flag x → k ≡ slot_of x.number → b ≡ bit w (k % 64) → b ≡ true → 1 ≡ mark_in o w
  unfolding mark_in
  marks_taken x k b e q h t = sym (rw (e, mark_in, ← q, ← h, t))

  pub marks_free : (x : Name) (k : ℕ) (b : Bool) → o ≡ object.Flag x → k ≡ slot_of x.number → b ≡ bit w (k % 64) → b ≡ false → 0 ≡ mark_in o w
  unfolding mark_in
  marks_free x k b e q h t = sym (rw (e, mark_in, ← q, ← h, t))

-- the mark of an object of the store lies in the part
mark_there : (n : ℕ) (inner : Bool) (o : Object) → Has n o → Valid places (server_block n) (mark_place o inner)
unfolding mark_place lock_of Valid In
mark_there n inner object.Metadata h = omega arith
mark_there n true (object.Node x) h = h
mark_there n false (object.Node x) h = (h.0, omega arith)
mark_there n inner (object.Flag x) h = omega arith

pub mark_valid : (n : ℕ) (o : Object) (inner : Bool) (a : Place) → Has n o → a ≡ mark_place o inner → Valid places (server_block n) a
mark_valid n o inner a h e = rw e (mark_there n inner o h)

module _ (o : Object) (m : Place → ℕ) where
  pub it_stands : (inner : Bool) (a : Place) (w r : ℕ) → a ≡ mark_place o inner → w ≡ m a → r ≡ mark_in o w → r ≡ standing o inner m
  unfolding standing
  it_stands inner a w r e q h = h ∙ rw (q, e)

  pub it_compares : (inner : Bool) (mark r : ℕ) (f : Finding) → r ≡ standing o inner m → f ≡ mark_finding o r mark → f ≡ mark_finding o (standing o inner m) mark
  it_compares inner mark r f q h = h ∙ rw q

-- ---- the two marks
module _ (o : Object) (x : ℕ) where
  pub fits_metadata : o ≡ object.Metadata → leb x 4294967295 ≡ mark_fits o x
  unfolding mark_fits
  fits_metadata e = sym (rw e)

  pub fits_node : (n : Name) → o ≡ object.Node n → leb x 4294967295 ≡ mark_fits o x
  unfolding mark_fits
  fits_node n e = sym (rw e)

  pub fits_flag : (n : Name) → o ≡ object.Flag n → leb x 1 ≡ mark_fits o x
  unfolding mark_fits
  fits_flag n e = sym (rw e)

module _ (o : Object) (here read : ℕ) (a : Bool) (p : a ≡ mark_fits o here) where
  pub here_unfit : not a ≡ true → Unfit ≡ mark_finding o here read
  unfolding mark_finding
  here_unfit t = sym (rw (← p, not-true a t))

  module _ (b : Bool) (t : not a ≡ false) (q : b ≡ mark_fits o read) where
    pub read_unfit : not b ≡ true → Unfit ≡ mark_finding o here read
    unfolding mark_finding
    read_unfit u = sym (rw (← p, not-false a t, ← q, not-true b u))

    pub marks_same : not b ≡ false → here ≡ read → Same ≡ mark_finding o here read
    unfolding mark_finding
    marks_same u e = sym (rw (← p, not-false a t, ← q, not-false b u, eq-eqb here read e))

    pub marks_differ : not b ≡ false → ¬ (here ≡ read) → Differs ≡ mark_finding o here read
    unfolding mark_finding
    marks_differ u d = sym (rw (← p, not-false a t, ← q, not-false b u, ne_eqb here read d))

pub ruleset check_exits = (
  can_metadata,
  can_inner,
  can_node,
  can_flag,
  mark_version,
  mark_table,
  mark_own,
  mark_vector,
  marks_metadata,
  marks_node,
  marks_taken,
  marks_free,
  mark_valid,
  it_stands,
  it_compares,
  fits_metadata,
  fits_node,
  fits_flag,
  here_unfit,
  read_unfit,
  marks_same,
  marks_differ,
)
