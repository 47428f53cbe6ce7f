-- The refusals tried on closed examples; kinds that are not there.
use Rattle.std.specs.Prelude.{◌≡◌, refl, ℕ, ◌≤◌, [], ◌∷◌}
use Rattle.std.proofs.Common.{sym}
use Rattle.std.proofs.Math.ListN.{get_or-eq_default}
use Rattle.steps.specs.declared.step.Kind.TheVariants.{Begin, Give, Work, Commit, Prepare, Apply, GiveUp, Lost, Servers, Unknown}
use Rattle.steps.specs.declared.step.ServerChange.TheVariants.{Add, Close, Remove}
use Rattle.layout.specs.Block.{size}
use Rattle.steps.specs.Whole.{words_for, length_for}
use Rattle.steps.specs.Refusal.{first, kind_of, allowed?, state_fits, open_refusal, refusal}

-- "Servers 0 and 9 refused by 2, 1 and 8 accepted; of 16 clients, 15 accepted, 16 refused by 5."
abbrev opens : ℕ → ℕ
opens s = open_refusal 5000000 (record { servers = s; slots = 1; clients = 1 })

abbrev begins : ℕ → ℕ
begins c =
    refusal (record { servers = 1; slots = 1; clients = 16 }) (record { kind = 0; client = c; op = 0; key = 0; value = 0; server = 0 }) (λ a. 0)

pub refusal_samples : (opens 0 ≡ 2) × (opens 9 ≡ 2) × (opens 1 ≡ 0) × (opens 8 ≡ 0) × (begins 15 ≡ 0) × (begins 16 ≡ 5)
unfolding open_refusal refusal first allowed? length_for words_for size kind_of state_fits
refusal_samples = (refl, refl, refl, refl, refl, refl)

-- above the kinds' numbers
pub unknown_kind : (n : ℕ) → 11 ≤ n → Unknown ≡ kind_of n
unfolding kind_of
unknown_kind n l =
    sym (get_or-eq_default (Begin ∷ Give ∷ Work ∷ Commit ∷ Prepare ∷ Apply ∷ GiveUp ∷ Lost ∷ Servers Add ∷ Servers Close ∷ Servers Remove ∷ []) Unknown {n = n} l)
