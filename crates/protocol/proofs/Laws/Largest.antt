-- The largest number in tables, computed: what the table of an added server takes.
use Rattle.std.specs.Prelude.{◌≡◌, Bool, false, cond, ◌⊎◌}
use Rattle.std.proofs.Math.Path.{refl, subst}
use Rattle.std.proofs.Common.{sym, arith}
use Rattle.std.proofs.Math.Bool.{true}
use mathlib.Core.List.{List, [], ◌∷◌}
use Rattle.std.proofs.Math.Logic.{inl, inr}
use Prim.Native.Nat.{ℕ, ◌≤◌, ◌<◌}
use Rattle.std.proofs.Math.Decide.{dec_lt}
use Rattle.base.proofs.Laws.Test.{bool_cases}
use Rattle.base.specs.Test.{not_both, ifd}
use Rattle.protocol.specs.Setting.{Setting}
use Rattle.protocol.specs.Lists.{Among}
use Rattle.protocol.specs.System.{Largest}

abbrev pub larger : ℕ → ℕ → ℕ
larger a b = ifd (dec_lt a b) b a

-- the largest of n and of the numbers f of those that pass the test
unfoldable pub largest : {A : Type 0} → (A → Bool) → (A → ℕ) → List A → ℕ → ℕ
largest t f [] n = n
largest t f (a ∷ l) n = cond (t a) (larger (f a) (largest t f l n)) (largest t f l n)

module _ {A : Type 0} (t : A → Bool) (f : A → ℕ) (n : ℕ) where
  larger_left : (a b : ℕ) → a ≤ larger a b
  larger_left a b = go (dec_lt a b)
    where
      go : (d : Dec (a < b)) → a ≤ ifd d b a
      go (yes h) = omega (arith, h)
      go (no h) = omega arith

  larger_right : (a b : ℕ) → b ≤ larger a b
  larger_right a b = go (dec_lt a b)
    where
      go : (d : Dec (a < b)) → b ≤ ifd d b a
      go (yes h) = omega arith
      go (no h) = omega arith

  larger_one : (a b : ℕ) → (larger a b ≡ a) ⊎ (larger a b ≡ b)
  larger_one a b = go (dec_lt a b)
    where
      go : (d : Dec (a < b)) → (ifd d b a ≡ a) ⊎ (ifd d b a ≡ b)
      go (yes h) = inr refl
      go (no h) = inl refl

  above : (l : List A) (a : A) → Among a l → t a ≡ true → f a ≤ largest t f l n
  unfolding largest Among
  above [] a i h = absurd i
  above (b ∷ l) a i h = go i (above l a) (bool_cases (t b))
    where
      rest : ℕ
      rest = largest t f l n

      go : (a ≡ b) ⊎ Among a l → (Among a l → t a ≡ true → f a ≤ largest t f l n) → (t b ≡ true) ⊎ (t b ≡ false)
          → f a ≤ cond (t b) (larger (f b) (largest t f l n)) (largest t f l n)
      go (inl e) rec (inl y) = rw y (subst (λ c. f c ≤ larger (f b) (largest t f l n)) (sym e) (larger_left (f b) (largest t f l n)))
      go (inl e) rec (inr z) = absurd (not_both h (subst (λ c. t c ≡ false) (sym e) z))
      go (inr i) rec (inl y) = rw y (omega (arith, rec i h, larger_right (f b) (largest t f l n)))
      go (inr i) rec (inr z) = rw z (rec i h)

  Source : ℕ → Type 0
  Source m = (m ≡ n) ⊎ ((a : A) × (t a ≡ true) × (m ≡ f a))

  source : (l : List A) → Source (largest t f l n)
  unfolding largest Source
  source [] = inl refl
  source (b ∷ l) = go (source l) (bool_cases (t b))
    where
      one : Source (largest t f l n) → t b ≡ true → (larger (f b) (largest t f l n) ≡ f b) ⊎ (larger (f b) (largest t f l n) ≡ largest t f l n)
          → Source (larger (f b) (largest t f l n))
      one rec y (inl e) = inr (b, y, e)
      one rec y (inr e) = subst Source (sym e) rec

      go : Source (largest t f l n) → (t b ≡ true) ⊎ (t b ≡ false) → Source (cond (t b) (larger (f b) (largest t f l n)) (largest t f l n))
      go rec (inl y) = rw y (one rec y (larger_one (f b) (largest t f l n)))
      go rec (inr z) = rw z rec

module _ (T : Setting) where
  open T use {Obj, Server, servers, servers_all}

  -- "slot by slot, the largest number in its own earlier table or in those of servers not absent"
  abbrev pub added_table : (Server → Obj → ℕ) → (Server → Bool) → Server → Obj → ℕ
  added_table table there s o = largest there (λ t. table t o) servers (table s o)

  pub added_largest : (table : Server → Obj → ℕ) (there : Server → Bool) (s : Server) (o : Obj)
      → Largest T table there s o (added_table table there s o)
  unfolding Source
  added_largest table there s o = record {
    above = λ t h. above there (λ t. table t o) (table s o) servers t (servers_all t) h;
    one_of_them = source there (λ t. table t o) (table s o) servers;
  }
