-- More laws of a function changed at one place.
use Rattle.std.specs.Prelude.{◌≡◌, refl}
use Rattle.std.proofs.Common.{sym, ◌∙◌, subst}
use mathlib.Core.HLevel.{Discrete}
use Rattle.base.specs.Update.{upd}
use Rattle.base.proofs.Laws.Update.{upd_same, upd_other, upd_all}

-- what holds of two functions, both changed at k
pub upd_both : {K A B : Type 0} (d : Discrete K) (f : K → A) (g : K → B) (k : K) (a : A) (b : B) (P : K → A → B → Type 0)
    → P k a b → ((n : K) → ¬ (n ≡ k) → P n (f n) (g n)) → (n : K) → P n (upd d f k a n) (upd d g k b n)
upd_both d f g k a b P here there n = go (d n k)
  where
    go : Dec (n ≡ k) → P n (upd d f k a n) (upd d g k b n)
    go (yes e) = subst (λ n. P n (upd d f k a n) (upd d g k b n)) (sym e)
        (subst (λ u. P k u (upd d g k b k)) (sym (upd_same d f k a)) (subst (P k a) (sym (upd_same d g k b)) here))
    go (no q) = subst (λ u. P n u (upd d g k b n)) (sym (upd_other d f k a n q)) (subst (P n (f n)) (sym (upd_other d g k b n q)) (there n q))

-- a function of two changed functions is the changed function of the two
pub upd_zip : {K A B C : Type 0} (d : Discrete K) (F : A → B → C) (f : K → A) (g : K → B) (k : K) (a : A) (b : B) (n : K)
    → F (upd d f k a n) (upd d g k b n) ≡ upd d (λ n. F (f n) (g n)) k (F a b) n
upd_zip d F f g k a b n =
    upd_both d f g k a b (λ n u v. F u v ≡ upd d (λ n. F (f n) (g n)) k (F a b) n)
    (sym (upd_same d (λ n. F (f n) (g n)) k (F a b))) (λ n q. sym (upd_other d (λ n. F (f n) (g n)) k (F a b) n q)) n

-- a change to what is there already is none
pub upd_none : {K A : Type 0} (d : Discrete K) (f : K → A) (k : K) (v : A) → f k ≡ v → (n : K) → upd d f k v n ≡ f n
upd_none d f k v e = upd_all d f k v (λ n u. u ≡ f n) (sym e) (λ n _. refl)

-- of two changes at one place the second counts
pub upd_twice : {K A : Type 0} (d : Discrete K) (f : K → A) (k : K) (a b : A) (n : K) → upd d (upd d f k a) k b n ≡ upd d f k b n
upd_twice d f k a b =
    upd_all d (upd d f k a) k b (λ n u. u ≡ upd d f k b n)
    (sym (upd_same d f k b)) (λ n q. upd_other d f k a n q ∙ sym (upd_other d f k b n q))
