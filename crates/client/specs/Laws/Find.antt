-- A search from the front, turn by turn.
use Rattle.std.specs.Prelude.{◌≡◌, List, ℕ, zero, suc, ◌+◌, ◌-◌, ◌*◌, ◌≤◌, ◌<◌, get_or}
use Rattle.std.proofs.Math.Path.{refl}
use Rattle.std.proofs.Common.{sym, ◌∙◌, arith, add-one}
use borrow.Author.Tests.{eq-eqb, ne_eqb}
use Rattle.std.specs.Prelude.{Some, None}
use Rattle.nodes.specs.Found.{Inside}
use Rattle.nodes.proofs.Laws.Found.{at_inside}
use Rattle.client.specs.declared.part.Set.{Set}
use Rattle.client.specs.Layout.{ClientWord}
use Rattle.client.specs.Sets.{count, number_at, first_of, find}
use Rattle.client.specs.Lent.{own_number, own_find}

-- of n the first i are not x
pub record Searched (f : ℕ → ℕ) (n x i : ℕ) : Type 0 where
  pub within : i ≤ n
  pub none_yet : first_of f i x ≡ None

module _ (f : ℕ → ℕ) (n x : ℕ) where
  pub none_searched : Searched f n x 0
  unfolding first_of
  none_searched = record { within = omega arith; none_yet = refl }

  pub not_here : (i : ℕ) → i < n → (f i ≡ x → ⊥) → Searched f n x i → Searched f n x (i + 1)
  unfolding first_of
  not_here i h d s = record { within = omega arith; none_yet = rw (add-one, first_of, s.none_yet, ne_eqb _ _ d) }

  pub all_searched : (i : ℕ) → n ≤ i → Searched f n x i → None ≡ first_of f n x
  all_searched i h s = let e : i ≡ n = omega (arith, s.within) in rw (← e) (sym s.none_yet)

stays : (f : ℕ → ℕ) (x i k n : ℕ) → first_of f n x ≡ Some i → first_of f (n + k) x ≡ Some i
unfolding first_of
stays f x i zero n e = let z : n + 0 ≡ n = omega arith in rw z e
stays f x i (suc k) n e = let z : n + suc k ≡ suc (n + k) = omega arith in rw (z, first_of, stays f x i k n e)

pub found_here : (f : ℕ → ℕ) (n x i : ℕ) → i < n → f i ≡ x → Searched f n x i → Some i ≡ first_of f n x
unfolding first_of
found_here f n x i h e s =
    let a : first_of f (suc i) x ≡ Some i = rw (first_of, s.none_yet, eq-eqb _ _ e) in
    let z : n ≡ suc i + (n - suc i) = omega arith in
    sym (rw z (stays f x i (n - suc i) (suc i) a))

pub found_within : (i n l : ℕ) → i < n → n ≤ l → Inside (Some i) l
found_within i n l h g = at_inside l i (omega arith)

-- ---- in a set of a client's part
module _ (m : ClientWord → ℕ) (k : Set) (x n : ℕ) where
  pub find_none : Searched (number_at m k) n x 0
  find_none = none_searched (number_at m k) n x

  module _ (i q : ℕ) (h : i < n) (e : q ≡ number_at m k i) (t : Searched (number_at m k) n x i) where
    pub find_next : (q ≡ x → ⊥) → Searched (number_at m k) n x (i + 1)
    find_next d = not_here (number_at m k) n x i h (λ g. d (e ∙ g)) t

    pub find_here : n ≡ count m k → q ≡ x → Some i ≡ find m k x
    unfolding find
    find_here c d = rw (← c) (found_here (number_at m k) n x i h (sym e ∙ d) t)

  pub find_absent : (i : ℕ) → n ≡ count m k → n ≤ i → Searched (number_at m k) n x i → None ≡ find m k x
  unfolding find
  find_absent i c h t = rw (← c) (all_searched (number_at m k) n x i h t)

-- ---- among the own writes
module _ (w : List ℕ) (x n : ℕ) where
  pub own_none : Searched (own_number w) n x 0
  own_none = none_searched (own_number w) n x

  module _ (i : ℕ) (h : i < n) (t : Searched (own_number w) n x i) where
    pub own_next : (get_or w (34 * i + 1) 0 ≡ x → ⊥) → Searched (own_number w) n x (i + 1)
    unfolding own_number
    own_next d = not_here (own_number w) n x i h d t

    pub own_here : n ≡ get_or w 0 0 → get_or w (34 * i + 1) 0 ≡ x → Some i ≡ own_find w x
    unfolding own_find own_number
    own_here c d = rw (← c) (found_here (own_number w) n x i h d t)

  pub own_absent : (i : ℕ) → n ≡ get_or w 0 0 → n ≤ i → Searched (own_number w) n x i → None ≡ own_find w x
  unfolding own_find
  own_absent i c h t = rw (← c) (all_searched (own_number w) n x i h t)
