-- Where steps lead: one list after another; the fields of machine words; and an outcome's numbers stand for it.
use Rattle.std.specs.Prelude.{◌≡◌, refl, ℕ, ◌^◌, ◌<◌}
use Rattle.std.proofs.Common.{sym}
use Rattle.std.proofs.Math.Path.{subst}
use mathlib.Core.List.{List, [], ◌∷◌, ◌++◌}
use Rattle.operations.proofs.Laws.Map.{HIs}
use Rattle.steps.specs.declared.sizes.Sizes.{Sizes}
use Rattle.steps.specs.declared.step.Step.{Step}
use Rattle.steps.specs.declared.outcome.Outcome.{Outcome}
use Rattle.steps.specs.declared.outcome.Outcome.TheVariants.{Refused, Done, Fetched, Answered, Prepared, Decided, Applied, Committed, Aborted}
use Rattle.steps.specs.Outcome.{line}
use Rattle.steps.specs.Whole.{Address}
use Rattle.steps.specs.Taken.{Word, Words, Taken, outcome_from, LeadsBy, Leads}

-- a machine's word
pub word_below : (n : ℕ) → n < 2 ^ 64 → Word n
word_below n h = subst (λ (b : ℕ). n < b) (sym HIs) h

pub fields_are_words : (k : Step) → k.kind < 18446744073709551616 → k.client < 18446744073709551616 → k.op < 18446744073709551616
    → k.key < 18446744073709551616 → k.value < 18446744073709551616 → k.server < 18446744073709551616 → Words k
fields_are_words k a b c d e f = record {
  kind = word_below k.kind a;
  client = word_below k.client b;
  op = word_below k.op c;
  key = word_below k.key d;
  value = word_below k.value e;
  server = word_below k.server f;
}

pub same_outcome : (o : Outcome) → outcome_from (line o).outcome (line o).a (line o).b ≡ o
unfolding outcome_from line
same_outcome (Refused n) = refl
same_outcome Done = refl
same_outcome (Fetched a b) = refl
same_outcome (Answered a b) = refl
same_outcome (Prepared s) = refl
same_outcome Decided = refl
same_outcome (Applied s) = refl
same_outcome Committed = refl
same_outcome (Aborted y) = refl

module _ (z : Sizes) where
  pub leads_on : (h ts : List Taken) (m m' m'' : Address → ℕ) → Leads z m h m' → Leads z m' ts m'' → Leads z m (h ++ ts) m''
  unfolding LeadsBy
  leads_on [] ts m m' m'' p q = subst (λ (u : Address → ℕ). Leads z u ts m'') p q
  leads_on (t ∷ h) ts m m' m'' p q = (p.0, p.1, p.2, leads_on h ts _ m' m'' p.3 q)

  -- the memory between two lists
  pub record Parted (m : Address → ℕ) (h ts : List Taken) (m'' : Address → ℕ) : Type 0 where
    pub between : Address → ℕ
    pub first : Leads z m h between
    pub then : Leads z between ts m''

  pub parted : (h ts : List Taken) (m m'' : Address → ℕ) → Leads z m (h ++ ts) m'' → Parted m h ts m''
  unfolding LeadsBy
  parted [] ts m m'' p = record { between = m; first = refl; then = p }
  parted (t ∷ h) ts m m'' p =
      let q = parted h ts _ m'' p.3 in
      record { between = q.between; first = (p.0, p.1, p.2, q.first); then = q.then }
