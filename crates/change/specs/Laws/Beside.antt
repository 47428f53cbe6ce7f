-- Laws of two neighbours under one parent.
use Rattle.std.specs.Prelude.{◌≡◌, Bool, eqb, get_or}
use Rattle.std.proofs.Math.Path.{refl, ap}
use Rattle.std.proofs.Common.{sym, ◌∙◌, drop-cons, lt-ltb, le-ltb, eqb-true}
use Rattle.std.proofs.Math.Bool.{true, false}
use mathlib.Core.List.{List, [], ◌∷◌, ◌++◌}
use Rattle.std.proofs.Math.Option.{some}
use Prim.Native.Nat.{ℕ, zero, suc, ◌-◌, ◌≤◌, ◌<◌}
use native.Mathlib.Omega.{arith}
use Rattle.std.proofs.Math.Decide.{ℕ_discrete}
use Rattle.std.proofs.Math.Numerals.{add-one}
use Rattle.std.proofs.Math.ListN.{length, take, drop, set}
use Rattle.std.proofs.Math.Seq.{drop-length}
use Rattle.std.proofs.lemmas.Bool.{eqb-false}
use Rattle.base.proofs.Laws.Test.{ifd_yes, ifd_no}
use Rattle.nodes.specs.Lists.{remove_at}
use Rattle.nodes.specs.Node.{pair_at}
use Rattle.operations.specs.Object.{no_tree, Ans, Writes}
use Rattle.operations.specs.Entry.{Entries}
use Rattle.operations.specs.Path.{TreePlan, kid, Branch}
use Rattle.operations.specs.Change.{Go, with_one, with_two, unsnoc, with_right, with_left, neighbour}
use Rattle.walk.specs.Entries.{branch_of}
use Rattle.change.specs.Beside.{pair_of, own_side, far_side, Paired, evened}
use Rattle.plans.specs.Plan as P

pub paired : (count i j : ℕ) (last : Bool) → i ≤ count → 0 < count → j ≡ pair_at count i → last ≡ eqb i count → Paired count i j last
unfolding pair_at
paired count i j last h one pj pl = go (eqb i count) refl
  where
    go : (b : Bool) → eqb i count ≡ b → Paired count i j last
    go true e =
        let c : i ≡ count = eqb-true i count e in
        let t : last ≡ true = pl ∙ e in
        let n : count ≤ i = omega arith in
        let p : j ≡ i - 1 = rw (le-ltb i count n) at pj in
        let q : i ≡ suc j = omega arith in
        rw t (record { here = q; inside = omega arith; ends = λ _. omega arith })
    go false e =
        let c : i ≡ count → ⊥ = eqb-false i count e in
        let n : i < count = omega arith in
        let p : j ≡ i = rw (lt-ltb i count n) at pj in
        rw (pl, e) (record { here = sym p; inside = omega arith; ends = λ t. let z : ◌≡◌ {A = ℕ} 0 1 = cc in absurd (omega arith) })

unsnoc_take : (j : ℕ) (E : Entries) → j < length E → unsnoc (take (suc j) E) ≡ some (take j E, get_or E j (0, 0))
unsnoc_take j [] h = absurd (omega arith)
unsnoc_take zero (e ∷ E) h = refl
unsnoc_take (suc j) (e ∷ E) h = rw (unsnoc_take j E (omega arith))

drop_all : (n : ℕ) (E : Entries) → length E ≡ n → drop n E ≡ []
drop_all n E e = rw (← e) (drop-length E)

module _ (a : Ans) (l : ℕ) (fs : List Branch) (go : Go) where
  module _ (w : Writes) (nm : ℕ) (E : Entries) (es : Entries) where
    abbrev turning : ℕ → ℕ → TreePlan
    turning i c = neighbour a l fs go w (branch_of nm i E) c es (branch_of nm i E).post

    -- "a node is its own neighbour": an only child
    pub only_child : (c : ℕ) → length E ≡ 1 → turning 0 c ≡ P.fail no_tree
    unfolding branch_of
    only_child c e = rw (drop_all 1 E e)

    module _ (j : ℕ) (h : suc j < length E) where
      right_turn : (c : ℕ) → turning j c ≡ with_right a l fs go w (pair_of nm j E) c es (get_or E (suc j) (0, 0)).0 (get_or E (suc j) (0, 0)).1
      unfolding branch_of pair_of
      right_turn c = rw (drop-cons E (suc j) (0, 0) h)

      left_turn : (c : ℕ) → length E ≡ suc (suc j) → turning (suc j) c ≡ with_left a l fs go w (pair_of nm j E) c es (get_or E j (0, 0)).1
      unfolding branch_of pair_of
      left_turn c e = let n : j < length E = omega arith in rw (drop_all (suc (suc j)) E e, unsnoc_take j E n)

      module _ (left right : ℕ) (pl : left ≡ (get_or E j (0, 0)).1) (pr : right ≡ (get_or E (suc j) (0, 0)).1) where
        -- "a node is its own neighbour"
        pub turns_to_itself : (last : Bool) → (last ≡ true → length E ≡ suc (suc j)) → left ≡ right → turning (own_side last j (suc j)) (own_side last left right) ≡ P.fail no_tree
        turns_to_itself true e q = rw (left_turn right (e refl), ← pl) (ifd_yes (ℕ_discrete left right) _ _ q)
        turns_to_itself false e q = rw (right_turn left, ← pr) (ifd_yes (ℕ_discrete right left) _ _ (sym q))

        -- the plan of both sides
        pub turns : (last : Bool) → (last ≡ true → length E ≡ suc (suc j)) → (left ≡ right → ⊥)
            → turning (own_side last j (suc j)) (own_side last left right)
            ≡ kid w l (get_or E (far_side last j (suc j)) (0, 0)).0 (far_side last left right) (λ es2. evened a l fs go last w (pair_of nm j E) left right es es2)
        unfolding pair_of
        turns true e d = rw (left_turn right (e refl), ← pl) (ifd_no (ℕ_discrete left right) _ _ d)
        turns false e d = rw (right_turn left, ← pr) (ifd_no (ℕ_discrete right left) _ _ (λ q. d (sym q)))

-- the parent with another separator between the two, or without the right one
module _ (nm j : ℕ) (E : Entries) (h : suc j < length E) where
  pub key_between : (k left right : ℕ) → left ≡ (get_or E j (0, 0)).1 → right ≡ (get_or E (suc j) (0, 0)).1 → with_two (pair_of nm j E) left k right ≡ set E (suc j) (k, right)
  unfolding pair_of
  key_between k left right pl pr = rw pl (go j E h)
    where
      go : (j : ℕ) (E : Entries) → suc j < length E → take j E ++ ((get_or E j (0, 0)).0, (get_or E j (0, 0)).1) ∷ (k, right) ∷ drop (suc (suc j)) E ≡ set E (suc j) (k, right)
      go j [] h = absurd (omega arith)
      go j (e ∷ []) h = absurd (omega arith)
      go zero (e ∷ f ∷ E) h = refl
      go (suc j) (e ∷ f ∷ E) h = ap (λ (l : Entries). e ∷ l) (go j (f ∷ E) (omega arith))

  pub right_out : (left : ℕ) → left ≡ (get_or E j (0, 0)).1 → with_one (pair_of nm j E) left ≡ remove_at (suc j) E
  unfolding pair_of remove_at
  right_out left pl = rw (pl, add-one (suc j)) (go j E h)
    where
      go : (j : ℕ) (E : Entries) → suc j < length E → take j E ++ ((get_or E j (0, 0)).0, (get_or E j (0, 0)).1) ∷ drop (suc (suc j)) E ≡ take (suc j) E ++ drop (suc (suc j)) E
      go j [] h = absurd (omega arith)
      go j (e ∷ []) h = absurd (omega arith)
      go zero (e ∷ f ∷ E) h = refl
      go (suc j) (e ∷ f ∷ E) h = ap (λ (l : Entries). e ∷ l) (go j (f ∷ E) (omega arith))
