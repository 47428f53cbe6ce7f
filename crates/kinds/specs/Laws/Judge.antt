-- Laws of refusal 10's code: what is read of parts that are lent, and tests of all items.
use Rattle.std.specs.Prelude.{◌≡◌, Bool, ◌&&◌, List, length}
use Rattle.std.proofs.Math.Path.{refl, sym}
use Rattle.std.proofs.Common.{ap, ◌∙◌, subst}
use Rattle.std.proofs.Math.Bool.{true, false}
use Prim.Native.Nat.{ℕ, zero, suc, ◌+◌, ◌-◌, ◌*◌, ◌≤◌, ◌<◌}
use native.Mathlib.Omega.{arith}
use borrow.Author.Tests.{lt-ltb, le-ltb, le-leb, lt-leb, ltb-true}
use borrow.Rule.Slice.PartMut.{mid_of}
use Rattle.std.proofs.Math.Dec.{ltb}
use Rattle.memory.specs.Word.{view}
use Rattle.memory.specs.Bit.{bit}
use Rattle.layout.specs.Space.{Valid}
use Rattle.nodes.specs.declared.object.Object.{Object}
use Rattle.server.specs.declared.place.Place.{Place}
use Rattle.nodes.specs.Object.{object_of}
use Rattle.server.specs.Object.{lock_of, Has}
use Rattle.server.specs.Lock.{lock_in_range}
use Rattle.client.specs.declared.part.Set.TheVariants.{Writes}
use Rattle.client.specs.Layout.{field}
use Rattle.client.specs.Sets.{held}
use Rattle.client.specs.Items.{all_below, has}
use Rattle.steps.specs.declared.sizes.Sizes.{Sizes}
use Rattle.steps.specs.Whole.{server, client_at, server_at}
use Rattle.steps.specs.Refusal.{between}
use Rattle.steps.specs.Judge.{has_transaction, writes, holders_fit, lock_fits}
use Rattle.kinds.specs.Parts.{StoreIn, stored_in}
use Rattle.kinds.specs.Laws.Parts.{client_lent, server_lent}
use Rattle.kinds.specs.Judge.{of_client, of_server, held_by, reader_fits, word_fits}
use Rattle.server.specs.Layout as Srv

-- ---- objects of the store
pub has_as : (n x : ℕ) (o : Object) → o ≡ object_of x → Has n (object_of x) → Has n o
has_as n x o e h = subst (Has n) (sym e) h

pub lies_as : (n x : ℕ) (o : Object) (a : Place) → o ≡ object_of x → a ≡ lock_of o → Has n (object_of x) → Valid Srv.places (Srv.server_block n) a
lies_as n x o a e q h = subst (Valid Srv.places (Srv.server_block n)) (sym (q ∙ ap lock_of e)) h

-- ---- parts lent to be read
module _ (z : Sizes) (b : List ℕ) (l : StoreIn z (length b)) where
  pub client_held : (c k : ℕ) → c < z.clients → k ≡ client_at z c → held (mid_of (8 * k) (length b - 8 * k) b) ≡ of_client z (view b) c
  unfolding held
  client_held c k h e = client_lent z c k b h e l.room

  pub server_held : (s k : ℕ) → s < 8 → k ≡ server_at z s → held_by z (mid_of (8 * k) (length b - 8 * k) b) ≡ of_server z (view b) s
  server_held s k h e = server_lent z s k b h e l.room

-- ---- a test of all numbers, one after another
module _ (f : ℕ → Bool) where
  fails_on : (i k : ℕ) → f i ≡ false → all_below (suc i + k) f ≡ false
  unfolding all_below
  fails_on i zero h = let e : suc i + 0 ≡ suc i = omega arith in rw (e, h) (go (all_below i f))
    where
      go : (b : Bool) → (b && false) ≡ false
      go true = refl
      go false = refl
  fails_on i (suc k) h = let e : suc i + suc k ≡ suc (suc i + k) = omega arith in rw (e, fails_on i k h)

  pub one_fails : (i n : ℕ) (b : Bool) → i < n → b ≡ f i → b ≡ false → false ≡ all_below n f
  one_fails i n b h e t = let q : n ≡ suc i + (n - suc i) = omega arith in sym (rw q (fails_on i (n - suc i) (sym e ∙ t)))

-- ---- holders of locks
module _ (z : Sizes) (w : List ℕ) where
  pub has_by : (d p : ℕ) (b : Bool) → p ≡ of_client z w d (field 0) → b ≡ between 1 3 p → b ≡ has_transaction z (stored_in z w) d
  has_by d p b e q = q ∙ rw e

  pub writes_many : (d x n : ℕ) → n ≡ of_client z w d (field 11) → 48 < n → false ≡ writes z (stored_in z w) d x
  writes_many d x n e h = sym (rw (← e, lt-leb n 48 h))

  pub writes_by : (d x n : ℕ) (b : Bool) → n ≡ of_client z w d (field 11) → n ≤ 48 → b ≡ has (of_client z w d) Writes x → b ≡ writes z (stored_in z w) d x
  writes_by d x n b e h q = q ∙ sym (rw (← e, le-leb n 48 h))

  module _ (x d : ℕ) (b : Bool) (e : b ≡ bit x d) where
    pub reader_free : b ≡ false → true ≡ reader_fits z w x d
    unfolding reader_fits
    reader_free t = sym (rw (← e, t))

    pub reader_in : (c : Bool) → b ≡ true → c ≡ has_transaction z (stored_in z w) d → c ≡ reader_fits z w x d
    unfolding reader_fits
    reader_in c t q = q ∙ sym (rw (← e, t))

  module _ (x v : ℕ) where
    pub by_readers : (b : Bool) → v < 65536 → b ≡ all_below z.clients (reader_fits z w v) → b ≡ holders_fit z (stored_in z w) x v
    unfolding holders_fit reader_fits
    by_readers b h q = q ∙ sym (rw (lt-ltb v 65536 h))

    module _ (b : Bool) (h : 65536 ≤ v) (e : b ≡ has_transaction z (stored_in z w) (v - 65536)) where
      pub writer_out : b ≡ false → false ≡ holders_fit z (stored_in z w) x v
      unfolding holders_fit
      writer_out t = sym (rw (le-ltb v 65536 h, ← e, t))

      pub by_writer : (r : Bool) → b ≡ true → r ≡ writes z (stored_in z w) (v - 65536) x → r ≡ holders_fit z (stored_in z w) x v
      unfolding holders_fit
      by_writer r t q = q ∙ sym (rw (le-ltb v 65536 h, ← e, t))

  pub a_client : (n v : ℕ) → lock_in_range n v ≡ true → 65536 ≤ v → v - 65536 < n
  unfolding lock_in_range
  a_client n v h g =
      let q : ltb v (65536 + n) ≡ true = sym (rw (le-ltb v 65536 g)) ∙ h in
      omega (arith, ltb-true v (65536 + n) q)

  pub is_range : (n v : ℕ) (b : Bool) → b ≡ lock_in_range n v → b ≡ true → lock_in_range n v ≡ true
  is_range n v b e t = sym e ∙ t

  -- ---- locks
  module _ (x v : ℕ) (b : Bool) (q : b ≡ lock_in_range z.clients v) where
    pub word_out : b ≡ false → false ≡ word_fits z w x v
    unfolding word_fits
    word_out t = sym (rw (← q, t))

    pub word_by : (r : Bool) → b ≡ true → r ≡ holders_fit z (stored_in z w) x v → r ≡ word_fits z w x v
    unfolding word_fits
    word_by r t p = p ∙ sym (rw (← q, t))

  pub lock_by : (s x v : ℕ) (r : Bool) → v ≡ stored_in z w (server s (lock_of (object_of x))) → r ≡ word_fits z w x v → r ≡ lock_fits z (stored_in z w) s x
  unfolding lock_fits word_fits
  lock_by s x v r e q = q ∙ rw e

pub ruleset judge_exits = (
  has_as,
  lies_as,
  has_by,
  writes_many,
  writes_by,
  reader_free,
  reader_in,
  by_readers,
  writer_out,
  by_writer,
  a_client,
  is_range,
  word_out,
  word_by,
  lock_by,
)
