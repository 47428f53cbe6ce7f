-- Some server is there, so a count up and round from any server meets one: metadata has a source, and a change has metadata to go by.
use Rattle.std.specs.Prelude.{◌≡◌, refl, Bool, true, false, cond, ℕ, zero, suc, ◌+◌, ◌-◌, ◌%◌, ◌≤◌, ◌<◌}
use Rattle.std.proofs.Common.{sym, ◌∙◌, subst, arith}
use Rattle.base.specs.Test.{not_both}
use Rattle.protocol.proofs.Laws.Claim.{claim}
use Rattle.steps.specs.Whole.{Address}
use Rattle.steps.specs.Servers.{first_from, there}
use Rattle.demand.specs.Ledger.{Ledger}
use Rattle.demand.proofs.Laws.Store.{meaning}
use Rattle.demand.proofs.Laws.Shows.{T, Related}
use Rattle.demand.proofs.Laws.There.{there_same}
use Rattle.protocol.specs.Machine as P

met : (f : ℕ → Bool) (n s i : ℕ) → i < n → f ((s + i) % 8) ≡ true → first_from f n s < 8
unfolding first_from
met f zero s i l h = absurd (omega arith)
met f (suc n) s i l h = go (f (s % 8)) refl i l h (met f n (suc s))
  where
    go : (b : Bool) → f (s % 8) ≡ b → (i : ℕ) → i < suc n → f ((s + i) % 8) ≡ true → ((i : ℕ) → i < n → f ((suc s + i) % 8) ≡ true → first_from f n (suc s) < 8)
        → cond b (s % 8) (first_from f n (suc s)) < 8
    go true e i l h rec = omega arith
    go false e zero l h rec = let q : s + 0 ≡ s = omega arith in absurd (not_both (subst (λ (y : ℕ). f (y % 8) ≡ true) q h) e)
    go false e (suc i) l h rec = let q : s + suc i ≡ suc s + i = omega arith in rec i (omega arith) (subst (λ (y : ℕ). f (y % 8) ≡ true) q h)

met_from : (f : ℕ → Bool) (s t : ℕ) → t < 8 → f t ≡ true → first_from f 8 s < 8
met_from f s t l h =
    let i = (t + 8 - s % 8) % 8 in
    let e : (s + i) % 8 ≡ t = omega arith in
    met f 8 s i (omega arith) (subst (λ (y : ℕ). f y ≡ true) (sym e) h)

-- wherever the count begins
pub source_there : (k j slots : ℕ) (al : slots ≤ 1024) (m : Address → ℕ) (L : Ledger) (M : P.Machine (T k j slots)) → Related k j slots m L M → (s : ℕ) → first_from (there m) 8 s < 8
source_there k j slots al m L M R s =
    let c = (claim (T k j slots) (meaning k j slots al) R.reached).manned in
    met_from (there m) s c.0.0 c.0.1 (there_same k j slots m L M R c.0 ∙ c.1)
