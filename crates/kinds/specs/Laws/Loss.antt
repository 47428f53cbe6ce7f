-- Laws of a loss's code.
use Rattle.std.specs.Prelude.{◌≡◌, refl, Bool, true, false, List, [], ℕ, ◌≤◌, ◌<◌, length, replicate}
use Rattle.std.proofs.Common.{sym, ◌∙◌, subst, arith}
use borrow.Author.Tests.{eq-eqb, ne_eqb, le-leb, lt-leb}
use Rattle.memory.specs.Word.{view}
use Rattle.memory.proofs.Laws.Word.{view_length}
use Rattle.layout.specs.Step.{Does, silent, and_then}
use Rattle.layout.proofs.Laws.Step.{does_then}
use Rattle.layout.specs.Part.{in_part}
use Rattle.client.specs.Layout.{field}
use Rattle.client.specs.Lent.{used_in}
use Rattle.client.specs.Copies.{drop_all}
use Rattle.steps.specs.declared.sizes.Sizes.{Sizes}
use Rattle.steps.specs.declared.outcome.Outcome.{Outcome}
use Rattle.steps.specs.declared.outcome.Outcome.TheVariants.{Refused, Done, Aborted}
use Rattle.steps.specs.Whole.{Address, client, whole, block, words_for}
use Rattle.steps.specs.Judge.{abort_fits}
use Rattle.steps.specs.Steps.{did, lose}
use Rattle.kinds.specs.Parts.{StoreIn, stored_in}
use Rattle.kinds.specs.Judge.{of_client}
use Rattle.kinds.specs.Fits.{Known}
use Rattle.kinds.specs.Kinds.{Meets}
use Rattle.kinds.specs.Laws.Kinds.{meets_did, meets_as, meets_refused}
use Rattle.kinds.specs.Abort.{aborts}
use Rattle.kinds.specs.Laws.Abort.{aborts_inside}
use Rattle.kinds.specs.Loss.{losing, loses_undecided}
use Rattle.client.specs.Life as L

pub is_lost : (z : Sizes) (c : ℕ) (b₀ b b' : List ℕ) → StoreIn z (length b₀) → c < z.clients → Known z (view b₀) c
    → Does whole (block z) (aborts z c (used_in (replicate 98 0))) silent (view b₀) 0 (view b) → Does whole (block z) (in_part (client c) drop_all) silent (view b) 0 (view b')
    → Does whole (block z) (losing z c) silent (view b₀) 0 (view b')
unfolding losing used_in words_for
is_lost z c b₀ b b' hold h known p q =
    let d = does_then whole (block z) (aborts z c []) (in_part (client c) drop_all) silent silent (view b₀) (view b) (view b') 0 0
    (omega (arith, hold.room, view_length b₀)) (aborts_inside z c [] (view b₀) h known) p q in
    record { answer = refl; words = d.words }

module _ (z : Sizes) (c : ℕ) (w : List ℕ) (b : Bool) (e : b ≡ abort_fits z (stored_in z w) c) where
  pub loss_aborts : (w' : List ℕ) → b ≡ true → Does whole (block z) (losing z c) silent w 0 w' → Meets z (loses_undecided z c) w (Aborted 7) w'
  unfolding loses_undecided
  loss_aborts w' t d =
      meets_as z w (Aborted 7) w' (λ m. did (Aborted 7) (losing z c m)) (loses_undecided z c) (sym (rw (← e, t))) (meets_did z w (Aborted 7) w' (losing z c) d)

  pub loss_refused : b ≡ false → Meets z (loses_undecided z c) w (Refused 10) w
  unfolding loses_undecided
  loss_refused t = meets_refused z w 10 (loses_undecided z c) (sym (rw (← e, t)))

-- the undecided one's rule is that of the step
same_loss : (z : Sizes) (c : ℕ) (m : Address → ℕ) → (m (client c (field 0)) ≡ 0 → ⊥) → (m (client c (field 0)) ≡ 3 → ⊥) → m (client c (field 0)) ≤ 3 → loses_undecided z c m ≡ lose z m c
unfolding loses_undecided losing lose aborts and_then in_part
same_loss z c m p q l = rw (ne_eqb (m (client c (field 0))) 0 p, ne_eqb (m (client c (field 0))) 3 q, le-leb (m (client c (field 0))) 3 l)

module _ (z : Sizes) (c p : ℕ) (w w' : List ℕ) (e : p ≡ of_client z w c (field 0)) where
  pub lost_idle : p ≡ 0 → Does whole (block z) (in_part (client c) drop_all) silent w 0 w' → Meets z (λ m. lose z m c) w Done w'
  unfolding lose in_part
  lost_idle q d =
      meets_as z w Done w' (λ m. did Done (in_part (client c) drop_all m)) (λ m. lose z m c) (sym (rw (← e, eq-eqb p 0 q)))
      (meets_did z w Done w' (in_part (client c) drop_all) d)

  pub lost_decided : (p ≡ 0 → ⊥) → p ≡ 3 → Does whole (block z) (in_part (client c) L.lose_part) silent w 0 w' → Meets z (λ m. lose z m c) w Done w'
  unfolding lose in_part
  lost_decided n q d =
      meets_as z w Done w' (λ m. did Done (in_part (client c) L.lose_part m)) (λ m. lose z m c) (sym (rw (← e, ne_eqb p 0 n, eq-eqb p 3 q)))
      (meets_did z w Done w' (in_part (client c) L.lose_part) d)

  pub lost_undecided : (o : Outcome) → (p ≡ 0 → ⊥) → (p ≡ 3 → ⊥) → p ≤ 3 → Meets z (loses_undecided z c) w o w' → Meets z (λ m. lose z m c) w o w'
  lost_undecided o n q l d =
      let m = stored_in z w in
      meets_as z w o w' (loses_undecided z c) (λ m. lose z m c) (same_loss z c m (λ h. n (e ∙ h)) (λ h. q (e ∙ h)) (subst (λ (x : ℕ). x ≤ 3) e l)) d

-- a phase that is none
pub lost_astray : (z : Sizes) (c p : ℕ) (w : List ℕ) → p ≡ of_client z w c (field 0) → (p ≡ 0 → ⊥) → (p ≡ 3 → ⊥) → 3 < p → Meets z (λ m. lose z m c) w (Refused 10) w
unfolding lose
lost_astray z c p w e n q l = meets_refused z w 10 (λ m. lose z m c) (sym (rw (← e, ne_eqb p 0 n, ne_eqb p 3 q, lt-leb p 3 l)))

pub ruleset loss_exits = (is_lost, loss_aborts, loss_refused, lost_idle, lost_decided, lost_astray, lost_undecided)
