-- A function changed at one place: there it has the new value, elsewhere its own.
use Rattle.std.specs.Prelude.{◌≡◌, refl}
use Rattle.std.proofs.Common.{sym, subst}
use mathlib.Core.HLevel.{Discrete}
use Rattle.base.specs.Update.{upd}

pub upd_same : {K A : Type 0} (d : Discrete K) (f : K → A) (k : K) (v : A) → upd d f k v k ≡ v
unfolding upd
upd_same d f k v = go (d k k) refl
  where
    go : (e : Dec (k ≡ k)) → d k k ≡ e → upd d f k v k ≡ v
    go (yes p) e = rw (e, upd)
    go (no q) e = absurd (q refl)

pub upd_other : {K A : Type 0} (d : Discrete K) (f : K → A) (k : K) (v : A) (n : K) → ¬ (n ≡ k) → upd d f k v n ≡ f n
unfolding upd
upd_other d f k v n h = go (d n k) refl
  where
    go : (e : Dec (n ≡ k)) → d n k ≡ e → upd d f k v n ≡ f n
    go (yes p) e = absurd (h p)
    go (no q) e = rw (e, upd)

-- what holds of v at k, and of f elsewhere, holds of f with v at k
pub upd_all : {K A : Type 0} (d : Discrete K) (f : K → A) (k : K) (v : A) (P : K → A → Type 0)
    → P k v → ((n : K) → ¬ (n ≡ k) → P n (f n)) → (n : K) → P n (upd d f k v n)
upd_all d f k v P here there n = go (d n k)
  where
    go : Dec (n ≡ k) → P n (upd d f k v n)
    go (yes p) = subst (λ m. P m (upd d f k v m)) (sym p) (subst (P k) (sym (upd_same d f k v)) here)
    go (no q) = subst (P n) (sym (upd_other d f k v n q)) (there n q)
