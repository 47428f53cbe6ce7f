-- Laws of refusal 10's code over all objects read.
use Rattle.std.specs.Prelude.{◌≡◌, Bool, true, not, List}
use Rattle.std.proofs.Math.Path.{refl, sym}
use Rattle.std.proofs.Common.{ap, ◌∙◌, subst, add-one}
use Rattle.std.proofs.Math.Bool.{false}
use Prim.Native.Nat.{ℕ, zero, suc, ◌+◌, ◌-◌, ◌≤◌, ◌<◌}
use native.Mathlib.Omega.{arith}
use borrow.Author.Tests.{not-true, not-false}
use Rattle.memory.specs.Bit.{bit}
use Rattle.nodes.specs.Object.{object_of}
use Rattle.server.specs.Object.{Has}
use Rattle.client.specs.declared.part.Set.TheVariants.{Reads}
use Rattle.client.specs.Layout.{field}
use Rattle.client.specs.Sets.{count}
use Rattle.client.specs.Items.{all_below}
use Rattle.client.specs.Participants.{lowest_of}
use Rattle.client.specs.Fits.{fit_to_abort, fit_to_unlock}
use Rattle.steps.specs.declared.sizes.Sizes.{Sizes}
use Rattle.steps.specs.Uses.{Item, item_of, locked_at}
use Rattle.steps.specs.Judge.{lock_fits, lowest_participant, unlock_fits, abort_fits}
use Rattle.kinds.specs.Parts.{stored_in}
use Rattle.kinds.specs.Items.{as_item, read_item}
use Rattle.kinds.specs.Judge.{of_client}
use Rattle.kinds.specs.Fits.{InSet, Known, unlock_item, unlocks_at, unlocks_all}
use Rattle.kinds.specs.declared.items.Item as code

pub known_same : (z : Sizes) (c : ℕ) (w w' : List ℕ) → of_client z w' c ≡ of_client z w c → Known z w c → Known z w' c
known_same z c w w' e k = record { known = subst (InSet z Reads) (sym e) k.known }

pub known_item : (z : Sizes) (w : List ℕ) (c n i : ℕ) (t : code.Item) → Known z w c → n ≡ count (of_client z w c) Reads → i < n
    → as_item t ≡ read_item (of_client z w c) i → Has z.slots (object_of t.number)
unfolding read_item item_of
known_item z w c n i t k e h q =
    subst (λ (x : ℕ). Has z.slots (object_of x)) (sym (ap (λ (u : Item). u.number) q)) (k.known i (rw (← e) h))

-- ---- the lowest server
module _ (w : ℕ) where
  pub lowest_none : lowest_of 0 w ≡ 0
  unfolding lowest_of
  lowest_none = refl

  pub lowest_next : (i : ℕ) (b : Bool) → lowest_of i w ≡ i → b ≡ bit w i → b ≡ false → lowest_of (i + 1) w ≡ i + 1
  unfolding lowest_of
  lowest_next i b h e t = let q : bit w i ≡ false = sym e ∙ t in rw (add-one i, h, q)

  stays_lowest : (i k : ℕ) → lowest_of i w ≡ i → bit w i ≡ true → lowest_of (suc i + k) w ≡ i
  unfolding lowest_of
  stays_lowest i zero h q = let e : suc i + 0 ≡ suc i = omega arith in rw (e, h, q)
  stays_lowest i (suc k) h q = let e : suc i + suc k ≡ suc (suc i + k) = omega arith in rw (e, stays_lowest i k h q, q)

  pub lowest_here : (i n : ℕ) (b : Bool) → i < n → lowest_of i w ≡ i → b ≡ bit w i → b ≡ true → i ≡ lowest_of n w
  lowest_here i n b l h e t =
      let q : n ≡ suc i + (n - suc i) = omega arith in
      sym (rw q (stays_lowest i (n - suc i) h (sym e ∙ t)))

  pub lowest_absent : (i n : ℕ) → i ≤ n → n ≤ i → lowest_of i w ≡ i → i ≡ lowest_of n w
  lowest_absent i n l g h = let q : n ≡ i = omega arith in sym (rw q h)

pub lowest_by : (z : Sizes) (w : List ℕ) (c p r : ℕ) → p ≡ of_client z w c (field 5) → r ≡ lowest_of 8 p → r ≡ lowest_participant z (stored_in z w) c
lowest_by z w c p r e q = q ∙ rw e

module _ (z : Sizes) (w : List ℕ) (low s : ℕ) (i : code.Item) where
  pub read_unfit : not i.known ≡ true → false ≡ unlock_item z w low s (as_item i)
  unfolding unlock_item
  read_unfit t = sym (rw (not-true i.known t))

  module _ (r : not i.known ≡ false) where
    pub written_unfit : not i.settled ≡ true → false ≡ unlock_item z w low s (as_item i)
    unfolding unlock_item
    written_unfit t = sym (rw (not-false i.known r, not-true i.settled t))

    module _ (t : not i.settled ≡ false) (b : Bool) (e : b ≡ locked_at low s (as_item i)) where
      pub not_unlocked : b ≡ false → true ≡ unlock_item z w low s (as_item i)
      unfolding unlock_item
      not_unlocked u = sym (rw (← e, u, not-false i.known r, not-false i.settled t))

      pub unlocks : (d : Bool) → b ≡ true → d ≡ lock_fits z (stored_in z w) s i.number → d ≡ unlock_item z w low s (as_item i)
      unfolding unlock_item
      unlocks d u h = h ∙ sym (rw (← e, u, not-false i.known r, not-false i.settled t))

pub ruleset fit_exits = (known_item, lowest_by, read_unfit, written_unfit, not_unlocked, unlocks)

-- ---- over all objects read: f is the test of an item
abbrev pub each_fits : Sizes → List ℕ → ℕ → (Item → Bool) → ℕ → Bool
each_fits z w c f i = f (read_item (of_client z w c) i)

module _ (z : Sizes) (w : List ℕ) (c : ℕ) (f : Item → Bool) (t : code.Item) (i : ℕ) (b : Bool) (q : as_item t ≡ read_item (of_client z w c) i) (e : b ≡ f (as_item t)) where
  pub item_asked : b ≡ each_fits z w c f i
  item_asked = e ∙ ap f q

-- the names that the definitions give to these tests
module _ (z : Sizes) (w : List ℕ) (c s n low : ℕ) (r : Bool) (en : n ≡ count (of_client z w c) Reads) (el : low ≡ lowest_participant z (stored_in z w) c) where
  pub unlock_all : r ≡ all_below n (each_fits z w c (unlock_item z w low s)) → r ≡ unlock_fits z (stored_in z w) c s
  unfolding unlock_fits read_item unlock_item
  unlock_all h = h ∙ rw (en, el)

module _ (z : Sizes) (w : List ℕ) (c p s : ℕ) (b : Bool) (e : b ≡ bit p s) where
  pub not_there : not b ≡ true → true ≡ unlocks_at z w c p s
  unfolding unlocks_at
  not_there t = sym (rw (← e, not-true b t))

  module _ (t : not b ≡ false) (f : Bool) (q : f ≡ fit_to_unlock z.slots (of_client z w c)) where
    pub there_unfit : not f ≡ true → false ≡ unlocks_at z w c p s
    unfolding unlocks_at
    there_unfit u = sym (rw (← e, not-false b t, ← q, not-true f u))

    pub there : (r : Bool) → not f ≡ false → r ≡ unlock_fits z (stored_in z w) c s → r ≡ unlocks_at z w c p s
    unfolding unlocks_at
    there r u h = h ∙ sym (rw (← e, not-false b t, ← q, not-false f u))

module _ (z : Sizes) (w : List ℕ) (c : ℕ) where
  pub unlocked_all : (n p : ℕ) (r : Bool) → n ≡ 8 → p ≡ of_client z w c (field 6) → r ≡ all_below n (unlocks_at z w c p) → r ≡ unlocks_all z w c
  unfolding unlocks_all
  unlocked_all n p r en ep h = h ∙ rw (en, ep)

  module _ (b : Bool) (e : b ≡ fit_to_abort z.slots (of_client z w c)) where
    pub abort_unfit : not b ≡ true → false ≡ abort_fits z (stored_in z w) c
    unfolding abort_fits
    abort_unfit t = sym (rw (← e, not-true b t))

    pub abort_all : (r : Bool) → not b ≡ false → r ≡ unlocks_all z w c → r ≡ abort_fits z (stored_in z w) c
    unfolding abort_fits unlocks_all unlocks_at
    abort_all r t h = h ∙ sym (rw (← e, not-false b t))

pub ruleset server_exits = (not_there, there_unfit, there, unlocked_all, abort_unfit, abort_all)
