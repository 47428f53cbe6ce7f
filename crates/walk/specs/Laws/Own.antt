-- The lent list of own writes as entries: a write stands in its object's place, else behind the others.
use Rattle.std.proofs.Math.Path.{◌≡◌, refl, ap}
use Rattle.std.proofs.Common.{sym, ◌∙◌, append_assoc, arith, eqb-true}
use Rattle.std.specs.Prelude.{Bool, List, [], ◌∷◌, ◌++◌}
use Rattle.std.proofs.Math.Bool.{true, false}
use Prim.Native.Nat.{ℕ, zero, suc, ◌<◌}
use Rattle.std.proofs.Math.Dec.{eqb}
use Rattle.nodes.specs.declared.node.Node.{Node}
use Rattle.nodes.specs.Found.{Found}
use Rattle.std.specs.Prelude.{Some, None}
use Rattle.client.specs.Sets.{first_of}
use Rattle.client.specs.Lent.{Entry, own_number, own_record, own_first}
use Rattle.client.specs.Answered.{put_entry}

-- ---- where a number is found
pub first_same : (f g : ℕ → ℕ) (n y : ℕ) → ((j : ℕ) → j < n → f j ≡ g j) → first_of f n y ≡ first_of g n y
unfolding first_of
first_same f g zero y h = refl
first_same f g (suc n) y h = rw (first_same f g n y (λ j l. h j (omega arith)), h n (omega arith))

pub first_at : (f : ℕ → ℕ) (n y i : ℕ) → first_of f n y ≡ Some i → (f i ≡ y) × (i < n)
unfolding first_of
first_at f zero y i e = let z : ◌≡◌ {A = ℕ} 0 1 = cc in absurd (omega arith)
first_at f (suc n) y i e = go (first_of f n y) refl (eqb (f n) y) refl (first_at f n y i)
  where
    go : (a : Found) → first_of f n y ≡ a → (b : Bool) → eqb (f n) y ≡ b → (first_of f n y ≡ Some i → (f i ≡ y) × (i < n)) → (f i ≡ y) × (i < suc n)
    go (Some k) p b q ih = let r : Some k ≡ Some i = rw (first_of, p) at e in let t = ih (p ∙ r) in (t.0, omega (arith, t.1))
    go None p true q ih = let r : Some n ≡ Some i = rw (first_of, p, q) at e in let s : n ≡ i = cc in (rw (← s) (eqb-true (f n) y q), omega arith)
    go None p false q ih = let r : None ≡ Some i = rw (first_of, p, q) at e in let z : ◌≡◌ {A = ℕ} 0 1 = cc in absurd (omega arith)

-- ---- the list as entries
-- own write j
abbrev pub own_entry : List ℕ → ℕ → Entry
own_entry x j = (own_number x j, own_record x j)

pub first_equal : (x y : List ℕ) (n : ℕ) → ((j : ℕ) → j < n → own_entry x j ≡ own_entry y j) → own_first x n ≡ own_first y n
unfolding own_first
first_equal x y zero h = refl
first_equal x y (suc n) h = rw (first_equal x y n (λ j l. h j (omega arith)), h n (omega arith))

module _ (x : List ℕ) (k : ℕ) (r : Node) where
  -- none of the first n is the object
  pub entry_behind : (n : ℕ) (l : List Entry) → first_of (own_number x) n k ≡ None → put_entry (k, r) (own_first x n ++ l) ≡ own_first x n ++ put_entry (k, r) l
  unfolding own_first first_of put_entry
  entry_behind zero l e = refl
  entry_behind (suc n) l e = go (first_of (own_number x) n k) refl (eqb (own_number x n) k) refl (entry_behind n (own_entry x n ∷ l))
    where
      go : (f : Found) → first_of (own_number x) n k ≡ f → (b : Bool) → eqb (own_number x n) k ≡ b
          → (first_of (own_number x) n k ≡ None → put_entry (k, r) (own_first x n ++ (own_entry x n ∷ l)) ≡ own_first x n ++ put_entry (k, r) (own_entry x n ∷ l))
          → put_entry (k, r) (own_first x (suc n) ++ l) ≡ own_first x (suc n) ++ put_entry (k, r) l
      go (Some i) p b q ih = let c : Some i ≡ None = rw (first_of, p) at e in let z : ◌≡◌ {A = ℕ} 0 1 = cc in absurd (omega arith)
      go None p true q ih = let c : Some n ≡ None = rw (first_of, p, q) at e in let z : ◌≡◌ {A = ℕ} 0 1 = cc in absurd (omega arith)
      go None p false q ih =
          ap (put_entry (k, r)) (append_assoc (own_first x n) (own_entry x n ∷ []) l) ∙ ih p
          ∙ rw q (sym (append_assoc (own_first x n) (own_entry x n ∷ []) (put_entry (k, r) l)))

  -- number i of the first n is the object; y has the new record there, and the others as they were
  module _ (y : List ℕ) (i : ℕ) (here : own_entry y i ≡ (k, r)) (there : (j : ℕ) → (j ≡ i → ⊥) → own_entry y j ≡ own_entry x j) where
    pub entry_there : (n : ℕ) (l : List Entry) → first_of (own_number x) n k ≡ Some i → put_entry (k, r) (own_first x n ++ l) ≡ own_first y n ++ l
    unfolding own_first first_of put_entry
    entry_there zero l e = let z : ◌≡◌ {A = ℕ} 0 1 = cc in absurd (omega arith)
    entry_there (suc n) l e = go (first_of (own_number x) n k) refl (eqb (own_number x n) k) refl (entry_there n (own_entry x n ∷ l))
      where
        same : (j : ℕ) → (j ≡ i → ⊥) → own_entry y j ≡ own_entry x j
        same = there

        front : put_entry (k, r) (own_first x (suc n) ++ l) ≡ put_entry (k, r) (own_first x n ++ (own_entry x n ∷ l))
        front = ap (put_entry (k, r)) (append_assoc (own_first x n) (own_entry x n ∷ []) l)

        back : (a : Entry) → own_entry y n ≡ a → own_first y (suc n) ++ l ≡ own_first y n ++ (a ∷ l)
        back a p = append_assoc (own_first y n) (own_entry y n ∷ []) l ∙ rw p

        go : (f : Found) → first_of (own_number x) n k ≡ f → (b : Bool) → eqb (own_number x n) k ≡ b
            → (first_of (own_number x) n k ≡ Some i → put_entry (k, r) (own_first x n ++ (own_entry x n ∷ l)) ≡ own_first y n ++ (own_entry x n ∷ l))
            → put_entry (k, r) (own_first x (suc n) ++ l) ≡ own_first y (suc n) ++ l
        go (Some h) p b q ih =
            let c : Some h ≡ Some i = rw (first_of, p) at e in
            let t = first_at (own_number x) n k i (p ∙ c) in
            front ∙ ih (p ∙ c) ∙ sym (back (own_entry x n) (same n (λ d. absurd (omega (arith, t.1)))))
        go None p true q ih =
            let c : Some n ≡ Some i = rw (first_of, p, q) at e in
            let d : n ≡ i = cc in
            front ∙ entry_behind n (own_entry x n ∷ l) p
            ∙ rw (q, first_equal x y n (λ j h. sym (same j (λ f. absurd (omega arith))))) (sym (back (k, r) (rw d here)))
        go None p false q ih = let c : None ≡ Some i = rw (first_of, p, q) at e in let z : ◌≡◌ {A = ℕ} 0 1 = cc in absurd (omega arith)
