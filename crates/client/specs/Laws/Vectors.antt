-- The ways out of the functions on vectors.
use Rattle.std.specs.Prelude.{◌≡◌, Bool, true, false, List, ℕ, ◌+◌, ◌-◌, ◌≤◌, ◌<◌, eqb, leb}
use Rattle.std.proofs.Common.{◌∙◌, arith, add-one}
use borrow.Author.Tests.{eq-eqb, ne_eqb, lt-ltb, le-ltb, le-leb, lt-leb}
use Rattle.memory.specs.Bit.{bit}
use Rattle.nodes.specs.Flags.{with_flag}
use Rattle.nodes.specs.Name.{server_of, slot_of}
use Rattle.client.specs.declared.part.Set.TheVariants.{Writes}
use Rattle.client.specs.Layout.{ClientWord, field, item, vector_word}
use Rattle.client.specs.Sets.{count, number_at}
use Rattle.client.specs.Items.{all_below}
use Rattle.client.specs.Vectors.{has_vector, is_fetched, vector_copy, counted_one, counted_words, seen_words, flag_fits, flags_fit, vector_fits}

pub asked_vector : (m : ClientWord → ℕ) (s q : ℕ) → q ≡ m (vector_word s 0) → eqb q 1 ≡ has_vector m s
unfolding has_vector
asked_vector m s q e = rw e

pub asked_fetched : (m : ClientWord → ℕ) (s q : ℕ) (r : Bool) → q ≡ m (field 8) → r ≡ bit q s → r ≡ is_fetched m s
unfolding is_fetched
asked_fetched m s q r e p = rw (← e) p

module _ (m : ClientWord → ℕ) (s i x : ℕ) (ws : List ℕ) (e : x ≡ number_at m Writes i) where
  pub no_flag : x < 8193 → ws ≡ counted_one m s i ws
  unfolding counted_one
  no_flag h = rw (← e, lt-ltb _ _ h)

  module _ (h : 8193 ≤ x) (t : ℕ) (o : t ≡ server_of (x - 8193)) where
    pub elsewhere : (t ≡ s → ⊥) → ws ≡ counted_one m s i ws
    unfolding counted_one
    elsewhere d = rw (← e, le-ltb _ _ h, ← o, ne_eqb _ _ d)

    pub flag_counted : (v k : ℕ) (r : List ℕ) → t ≡ s → v ≡ m (item Writes i 19) → k ≡ slot_of (x - 8193) → r ≡ with_flag ws k (eqb v 1) → r ≡ counted_one m s i ws
    unfolding counted_one
    flag_counted v k r d a l p = rw (← e, le-ltb _ _ h, ← o, eq-eqb _ _ d, ← a, ← l) p

-- ---- refusal 10
module _ (m : ClientWord → ℕ) (s i x : ℕ) (e : x ≡ number_at m Writes i) where
  pub flag_none : x < 8193 → true ≡ flag_fits m s i
  unfolding flag_fits
  flag_none h = rw (← e, lt-ltb _ _ h)

  module _ (h : 8193 ≤ x) (t : ℕ) (o : t ≡ server_of (x - 8193)) where
    pub flag_elsewhere : (t ≡ s → ⊥) → true ≡ flag_fits m s i
    unfolding flag_fits
    flag_elsewhere d = rw (← e, le-ltb _ _ h, ← o, ne_eqb _ _ d)

    pub flag_here : (v : ℕ) → t ≡ s → v ≡ m (item Writes i 19) → leb v 1 ≡ flag_fits m s i
    unfolding flag_fits
    flag_here v d a = rw (← e, le-ltb _ _ h, ← o, eq-eqb _ _ d, ← a)

pub flags_all : (m : ClientWord → ℕ) (s : ℕ) (b : Bool) → b ≡ all_below (count m Writes) (flag_fits m s) → b ≡ flags_fit m s
unfolding flags_fit
flags_all m s b e = e

module _ (m : ClientWord → ℕ) (s q : ℕ) (e : q ≡ m (vector_word s 0)) where
  pub vector_unmarked : 1 < q → false ≡ vector_fits m s
  unfolding vector_fits
  vector_unmarked l = rw (← e, lt-leb _ _ l)

  pub vector_marked : (b : Bool) → q ≤ 1 → b ≡ flags_fit m s → b ≡ vector_fits m s
  unfolding vector_fits
  vector_marked b l p = p ∙ rw (← e, le-leb _ _ l)

pub ruleset vector_exits = (flag_none, flag_elsewhere, flag_here, flags_all, vector_unmarked, vector_marked)

-- i of the n write items are counted
pub record Counting (m : ClientWord → ℕ) (s n : ℕ) (ws : List ℕ) (i : ℕ) : Type 0 where
  pub within : i ≤ n
  pub is : n ≡ count m Writes
  pub most : n ≤ 48
  pub so_far : ws ≡ counted_words m s i (vector_copy m s)

module _ (m : ClientWord → ℕ) (s n : ℕ) where
  pub counting_none : (ws : List ℕ) → n ≡ count m Writes → n ≤ 48 → ws ≡ vector_copy m s → Counting m s n ws 0
  unfolding counted_words
  counting_none ws c l e = record { within = omega arith; is = c; most = l; so_far = e }

  pub counting_next : (ws ws' : List ℕ) (i : ℕ) → i < n → ws' ≡ counted_one m s i ws → Counting m s n ws i → Counting m s n ws' (i + 1)
  unfolding counted_words
  counting_next ws ws' i h e c = record { within = omega arith; is = c.is; most = c.most; so_far = rw (add-one, counted_words, ← c.so_far) e }

  pub counting_all : (ws : List ℕ) (i : ℕ) → n ≤ i → Counting m s n ws i → ws ≡ seen_words m s
  unfolding seen_words
  counting_all ws i h c = let z : i ≡ n = omega (arith, c.within) in rw (← c.is, ← z) c.so_far
