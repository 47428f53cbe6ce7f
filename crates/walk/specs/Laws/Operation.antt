-- Laws of the operations' numbers.
use Rattle.std.specs.Prelude.{◌≡◌, refl, ℕ, zero, suc, ◌≤◌}
use Rattle.std.proofs.Common.{arith}
use Rattle.base.proofs.Laws.Table.{past_eight}
use Rattle.walk.specs.declared.operation.Query.{Query}
use Rattle.walk.specs.declared.operation.Query.TheVariants.{Lookup, Next, Previous}
use Rattle.walk.specs.declared.operation.Update.{Update}
use Rattle.walk.specs.declared.operation.Update.TheVariants.{Insert, Delete, Migrate}
use Rattle.walk.specs.declared.operation.Operation.TheVariants.{Read, Listing, Write, Unknown}
use Rattle.walk.specs.Operation.{operation_of}

-- ---- of a number that is none
pub of_none : (n : ℕ) → (n ≡ 0 → ⊥) → (n ≡ 1 → ⊥) → (n ≡ 2 → ⊥) → (n ≡ 3 → ⊥) → (n ≡ 4 → ⊥) → (n ≡ 5 → ⊥) → (n ≡ 6 → ⊥) → (n ≡ 7 → ⊥) → Unknown ≡ operation_of n
unfolding operation_of
of_none = past_eight _ _ _ _ _ _ _ _ Unknown

-- ---- back to the numbers
abbrev pub query_number : Query → ℕ
query_number Lookup = 2
query_number Next = 4
query_number Previous = 5

pub reads_number : (n : ℕ) (r : Query) → operation_of n ≡ Read r → n ≡ query_number r
unfolding operation_of
reads_number zero r e = cc
reads_number (suc zero) r e = cc
reads_number (suc (suc zero)) Lookup e = refl
reads_number (suc (suc zero)) Next e = cc
reads_number (suc (suc zero)) Previous e = cc
reads_number (suc (suc (suc zero))) r e = cc
reads_number (suc (suc (suc (suc zero)))) Lookup e = cc
reads_number (suc (suc (suc (suc zero)))) Next e = refl
reads_number (suc (suc (suc (suc zero)))) Previous e = cc
reads_number (suc (suc (suc (suc (suc zero))))) Lookup e = cc
reads_number (suc (suc (suc (suc (suc zero))))) Next e = cc
reads_number (suc (suc (suc (suc (suc zero))))) Previous e = refl
reads_number (suc (suc (suc (suc (suc (suc zero)))))) r e = cc
reads_number (suc (suc (suc (suc (suc (suc (suc zero))))))) r e = cc
reads_number (suc (suc (suc (suc (suc (suc (suc (suc n)))))))) r e = cc

pub lists_number : (n : ℕ) → operation_of n ≡ Listing → n ≡ 7
unfolding operation_of
lists_number zero e = cc
lists_number (suc zero) e = cc
lists_number (suc (suc zero)) e = cc
lists_number (suc (suc (suc zero))) e = cc
lists_number (suc (suc (suc (suc zero)))) e = cc
lists_number (suc (suc (suc (suc (suc zero))))) e = cc
lists_number (suc (suc (suc (suc (suc (suc zero)))))) e = cc
lists_number (suc (suc (suc (suc (suc (suc (suc zero))))))) e = refl
lists_number (suc (suc (suc (suc (suc (suc (suc (suc n)))))))) e = cc

abbrev pub update_number : Update → ℕ
update_number Insert = 1
update_number Delete = 3
update_number Migrate = 6

pub writes_number : (n : ℕ) (r : Update) → operation_of n ≡ Write r → n ≡ update_number r
unfolding operation_of
writes_number zero r e = cc
writes_number (suc zero) Insert e = refl
writes_number (suc zero) Delete e = cc
writes_number (suc zero) Migrate e = cc
writes_number (suc (suc zero)) r e = cc
writes_number (suc (suc (suc zero))) Insert e = cc
writes_number (suc (suc (suc zero))) Delete e = refl
writes_number (suc (suc (suc zero))) Migrate e = cc
writes_number (suc (suc (suc (suc zero)))) r e = cc
writes_number (suc (suc (suc (suc (suc zero))))) r e = cc
writes_number (suc (suc (suc (suc (suc (suc zero)))))) Insert e = cc
writes_number (suc (suc (suc (suc (suc (suc zero)))))) Delete e = cc
writes_number (suc (suc (suc (suc (suc (suc zero)))))) Migrate e = refl
writes_number (suc (suc (suc (suc (suc (suc (suc zero))))))) r e = cc
writes_number (suc (suc (suc (suc (suc (suc (suc (suc n)))))))) r e = cc

-- a number from 1 to 7 is one of them
pub not_unknown : (n : ℕ) → (n ≡ 0 → ⊥) → n ≤ 7 → operation_of n ≡ Unknown → ⊥
unfolding operation_of
not_unknown zero z h e = absurd (z refl)
not_unknown (suc zero) z h e = let k : ◌≡◌ {A = ℕ} 0 1 = cc in omega arith
not_unknown (suc (suc zero)) z h e = let k : ◌≡◌ {A = ℕ} 0 1 = cc in omega arith
not_unknown (suc (suc (suc zero))) z h e = let k : ◌≡◌ {A = ℕ} 0 1 = cc in omega arith
not_unknown (suc (suc (suc (suc zero)))) z h e = let k : ◌≡◌ {A = ℕ} 0 1 = cc in omega arith
not_unknown (suc (suc (suc (suc (suc zero))))) z h e = let k : ◌≡◌ {A = ℕ} 0 1 = cc in omega arith
not_unknown (suc (suc (suc (suc (suc (suc zero)))))) z h e = let k : ◌≡◌ {A = ℕ} 0 1 = cc in omega arith
not_unknown (suc (suc (suc (suc (suc (suc (suc zero))))))) z h e = let k : ◌≡◌ {A = ℕ} 0 1 = cc in omega arith
not_unknown (suc (suc (suc (suc (suc (suc (suc (suc n)))))))) z h e = omega arith
