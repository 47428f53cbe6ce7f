-- Lookup, next, previous and list write nothing, and ask for nothing outside the store.
use Rattle.std.specs.Prelude.{Bool, true, false, cond, ℕ, zero, suc, leb, length, take}
use mathlib.Core.List.{List, [], ◌∷◌, ◌++◌}
use Rattle.std.proofs.Math.Option.{Option, none, some}
use Rattle.plans.specs.Walk.{Every}
use Rattle.operations.specs.Map.{said, listed}
use Rattle.operations.specs.Entry.{Entries, value_in, above_in, below_in}
use Rattle.operations.specs.Path.{Branch}
use Rattle.operations.specs.Look.{Search, Onward, told, enough, Visit, rightward, leftward, seek, seek_up, from_leaf, nearest, one_of, lookup_plan, next_plan, previous_plan, list_plan, listing}
use Rattle.operations.proofs.Laws.Storable.{Scope, Children, Ok, kid_ok, Branched, Path, leaf_ok}
use Rattle.plans.specs.Plan as P

module _ (T : Scope) where
  -- whatever was found
  abbrev After : Onward → Type 0
  After on = (found : Entries) → Ok T (on found)

  -- what is answered, whatever was found
  abbrev Answers : Search → Type 0
  Answers q = (l : Entries) → T.A (q.answer l)

  enough_ok : (q : Search) → Answers q → (on : Onward) → After on → After (enough q on)
  enough_ok q a on h found = go (leb q.wanted (length found))
    where
      go : (b : Bool) → Ok T (cond b (told q found) (on found))
      go true = (a (take q.wanted found), tt)
      go false = h found

  -- what is done at children of the store
  abbrev AtChild : (ℕ → ℕ → Onward → Onward) → Type 0
  AtChild f = (k n : ℕ) (on : Onward) → (T.Z → T.N n) → After on → After (f k n on)

  abbrev Visits : Visit → Type 0
  Visits t = (f : ℕ → ℕ → Onward → Onward) → AtChild f → (es : Entries) (on : Onward) → (T.Z → Children T 1 es) → After on → After (t f es on)

  right_ok : Visits rightward
  unfolding Every
  right_ok f h [] on c q = q
  right_ok f h (e ∷ es) on c q = h e.0 e.1 (rightward f es on) (λ z. (c z).0) (right_ok f h es on (λ z. (c z).1) q)

  left_ok : Visits leftward
  unfolding Every
  left_ok f h [] on c q = q
  left_ok f h (e ∷ es) on c q = left_ok f h es (f e.0 e.1 on) (λ z. (c z).1) (h e.0 e.1 on (λ z. (c z).0) q)

  module _ (q : Search) (a : Answers q) (t : Visit) (tr : Visits t) where
    seek_ok : (l : ℕ) → AtChild (seek q t l)
    seek_ok zero k n on i h found =
        kid_ok T [] zero k n (λ es. enough q on (found ++ q.in_leaf es)) tt i (λ es m s _. enough_ok q a on h (found ++ q.in_leaf es))
    seek_ok (suc l) k n on i h found =
        kid_ok T [] (suc l) k n (λ es. t (seek q t l) es on found) tt i (λ es m s _. tr (seek q t l) (seek_ok l) es on (λ z. (s z).children) h found)

    module _ (side : Branch → Entries) (there : (f : Branch) → Branched T f → T.Z → Children T 1 (side f)) where
      seek_up_ok : (fs : List Branch) (l : ℕ) → Path T fs → After (seek_up q t side l fs)
      seek_up_ok [] l h found = (a (take q.wanted found), tt)
      seek_up_ok (f ∷ fs) l h found = tr (seek q t l) (seek_ok l) (side f) (seek_up q t side (suc l) fs) (there f h.0) (seek_up_ok fs (suc l) h.1) found

      from_leaf_ok : (key : ℕ) → Ok T (from_leaf q t side key)
      from_leaf_ok key = leaf_ok T key (λ fs n es. enough q (seek_up q t side zero fs) (q.in_leaf es))
          (λ fs n es p _ _. enough_ok q a (seek_up q t side zero fs) (seek_up_ok fs zero p) (q.in_leaf es))

  -- WHAT ONLY READS
  pub lookup_quiet : (key : ℕ) → ((o : Option ℕ) → T.A (said o)) → Ok T (lookup_plan key)
  lookup_quiet key a = leaf_ok T key (λ fs n es. P.done (said (value_in key es), [])) (λ fs n es _ _ _. (a (value_in key es), tt))

  nearest_answers : ((o : Option ℕ) → T.A (said o)) → (l : Entries) → T.A (nearest l)
  nearest_answers a [] = a none
  nearest_answers a (e ∷ l) = a (some e.0)

  pub next_quiet : (key : ℕ) → ((o : Option ℕ) → T.A (said o)) → Ok T (next_plan key)
  next_quiet key a = from_leaf_ok (one_of (above_in key)) (nearest_answers a) rightward right_ok (λ f. f.post) (λ f b z. (b.1 z).after) key

  pub previous_quiet : (key : ℕ) → ((o : Option ℕ) → T.A (said o)) → Ok T (previous_plan key)
  previous_quiet key a = from_leaf_ok (one_of (below_in key)) (nearest_answers a) leftward left_ok (λ f. f.pre) (λ f b z. (b.1 z).before) key

  pub list_quiet : (key n : ℕ) → ((l : Entries) → T.A (listed l)) → Ok T (list_plan key n)
  list_quiet key n a = from_leaf_ok (listing key n) a rightward right_ok (λ f. f.post) (λ f b z. (b.1 z).after) key
