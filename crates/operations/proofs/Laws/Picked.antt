-- Pairs picked from a map by their keys, and the nearest of them.
use Rattle.std.specs.Prelude.{◌≡◌, refl, [], ◌∷◌, ◌++◌, reverse, ℕ, ◌<◌, take}
use Rattle.std.proofs.Common.{ap, ◌∙◌}
use Rattle.std.proofs.lemmas.List.{reverse-append}
use Rattle.std.proofs.Math.Option.{Option, none, some}
use Rattle.std.proofs.Math.Decide.{dec_lt, dec_le}
use Rattle.base.specs.Test.{ifd}
use Rattle.nodes.specs.Vector.{or_else}
use Rattle.operations.specs.Map.{Map, above, below, upward, said}
use Rattle.operations.specs.Look.{nearest}

module _ {P : ℕ → Type 0} (d : (x : ℕ) → Dec (P x)) where
  -- those whose key is as P says
  abbrev pub picked : Map → Map
  picked [] = []
  picked (e ∷ m) = ifd (d e.0) (e ∷ picked m) (picked m)

  pub picked_app : (a b : Map) → picked (a ++ b) ≡ picked a ++ picked b
  picked_app [] b = refl
  picked_app (e ∷ a) b = go (d e.0) (picked_app a b)
    where
      go : (y : Dec (P e.0)) → picked (a ++ b) ≡ picked a ++ picked b → ifd y (e ∷ picked (a ++ b)) (picked (a ++ b)) ≡ ifd y (e ∷ picked a) (picked a) ++ picked b
      go (yes p) r = ap (λ m. e ∷ m) r
      go (no p) r = r

  -- from the other end
  pub picked_back : (a b : Map) → reverse (picked (a ++ b)) ≡ reverse (picked b) ++ reverse (picked a)
  picked_back a b = ap reverse (picked_app a b) ∙ reverse-append (picked a) (picked b)

-- the nearest key is that of the first pair
abbrev first : Map → Option ℕ
first [] = none
first (e ∷ m) = some e.0

nearest_first : (m : Map) → nearest (take 1 m) ≡ said (first m)
nearest_first [] = refl
nearest_first (e ∷ m) = refl

first_app : (a b : Map) → first (a ++ b) ≡ or_else (first a) (first b)
first_app [] b = refl
first_app (e ∷ a) b = refl

module _ (key : ℕ) where
  pub upward_is : (m : Map) → upward key m ≡ picked (dec_le key) m
  upward_is [] = refl
  upward_is (e ∷ m) = ap (λ l. ifd (dec_le key e.0) (e ∷ l) l) (upward_is m)

  -- however it is decided
  module _ (d : (x : ℕ) → Dec (key < x)) where
    above_first : (m : Map) → first (picked d m) ≡ above key m
    above_first [] = refl
    above_first (e ∷ m) = go (d e.0) (dec_lt key e.0) (above_first m)
      where
        go : (y z : Dec (key < e.0)) → first (picked d m) ≡ above key m → first (ifd y (e ∷ picked d m) (picked d m)) ≡ ifd z (some e.0) (above key m)
        go (yes p) (yes q) r = refl
        go (yes p) (no q) r = absurd (q p)
        go (no p) (yes q) r = absurd (p q)
        go (no p) (no q) r = r

    pub above_nearest : (m : Map) → nearest (take 1 (picked d m)) ≡ said (above key m)
    above_nearest m = nearest_first (picked d m) ∙ ap said (above_first m)

  abbrev lower : Map → Map
  lower = picked (λ x. dec_lt x key)

  below_first : (m : Map) → first (reverse (lower m)) ≡ below key m
  below_first [] = refl
  below_first (e ∷ m) =
      ap first (picked_back (λ x. dec_lt x key) (e ∷ []) m) ∙ first_app (reverse (lower m)) (reverse (lower (e ∷ []))) ∙ ap (λ o. or_else o (first (reverse (lower (e ∷ []))))) (below_first m)
      ∙ ap (or_else (below key m)) (one (dec_lt e.0 key))
    where
      one : (y : Dec (e.0 < key)) → first (reverse (ifd y (e ∷ []) [])) ≡ ifd y (some e.0) none
      one (yes p) = refl
      one (no p) = refl

  pub below_nearest : (m : Map) → nearest (take 1 (reverse (lower m))) ≡ said (below key m)
  below_nearest m = nearest_first (reverse (lower m)) ∙ ap said (below_first m)
