-- A table of eight, asked for the place of a number that is none of its places.
use Rattle.std.specs.Prelude.{◌≡◌, refl, [], ◌∷◌, ℕ, zero, suc, get_or}

pub past_eight : {A : Type 0} (s t u v w x y z other : A) (n : ℕ) → (n ≡ 0 → ⊥) → (n ≡ 1 → ⊥) → (n ≡ 2 → ⊥) → (n ≡ 3 → ⊥) → (n ≡ 4 → ⊥) → (n ≡ 5 → ⊥)
    → (n ≡ 6 → ⊥) → (n ≡ 7 → ⊥) → other ≡ get_or (s ∷ t ∷ u ∷ v ∷ w ∷ x ∷ y ∷ z ∷ []) n other
past_eight s t u v w x y z other zero a b c d e f g h = absurd (a refl)
past_eight s t u v w x y z other (suc zero) a b c d e f g h = absurd (b refl)
past_eight s t u v w x y z other (suc (suc zero)) a b c d e f g h = absurd (c refl)
past_eight s t u v w x y z other (suc (suc (suc zero))) a b c d e f g h = absurd (d refl)
past_eight s t u v w x y z other (suc (suc (suc (suc zero)))) a b c d e f g h = absurd (e refl)
past_eight s t u v w x y z other (suc (suc (suc (suc (suc zero))))) a b c d e f g h = absurd (f refl)
past_eight s t u v w x y z other (suc (suc (suc (suc (suc (suc zero)))))) a b c d e f g h = absurd (g refl)
past_eight s t u v w x y z other (suc (suc (suc (suc (suc (suc (suc zero))))))) a b c d e f g h = absurd (h refl)
past_eight s t u v w x y z other (suc (suc (suc (suc (suc (suc (suc (suc n)))))))) a b c d e f g h = refl
