-- One step on any memory lent: its outcome, every word afterwards, and the output that it was lent.
use Rattle.std.specs.Prelude.{◌≡◌, false, cond, List, ℕ, eqb, length}
use Rattle.memory.specs.Word.{view}
use Rattle.layout.specs.Space.{stored}
use Rattle.steps.specs.declared.sizes.Sizes.{Sizes}
use Rattle.steps.specs.declared.step.Step.{Step}
use Rattle.steps.specs.declared.step.Kind.{Kind}
use Rattle.steps.specs.declared.outcome.Outcome.{Outcome}
use Rattle.steps.specs.Whole.{Address, whole, block}
use Rattle.steps.specs.Refusal.{open_refusal, kind_of}
use Rattle.steps.specs.Passed.{Passed}
use Rattle.steps.specs.Output.{with_pairs}
use Rattle.steps.specs.Taken.{Taken, came_to}
use Rattle.steps.specs.Steps.{Did, refuse, by_kind, short_output, step}
use Rattle.kinds.specs.Parts.{head_sizes, stored_in, StoreIn}
use Rattle.kinds.specs.Judge.{of_client}
use Rattle.client.specs.Lent.{LentMut}

-- ---- the rule of a kind
unfoldable pub rule_of : Sizes → ℕ → Step → Kind → (Address → ℕ) → Did
rule_of z c k x m = by_kind z m c k x

-- what the rule of a step's kind x rests on, where b are the memory's bytes: no refusal up to 9, nor 11 to 15
pub record Ruled (z : Sizes) (b : List ℕ) (room c : ℕ) (k : Step) (x : Kind) : Type 0 where
  pub store : StoreIn z (length b)
  pub client : c ≡ k.client
  pub kind : x ≡ kind_of k.kind
  pub passed : Passed z k (stored_in z (view b))
  pub roomy : short_output k.kind room (of_client z (view b) c) ≡ false

-- what comes of a step on memory of that many bytes with these words, lent an output of so many: refusals 1 to 3 for the sizes in the head, else the
-- step's rule
module _ (bytes : ℕ) (w : List ℕ) (room : ℕ) (k : Step) where
  unfoldable pub result_of : Did
  result_of =
      let z = head_sizes w in
      cond (eqb (open_refusal bytes z) 0) (step z k room (stored_in z w)) (refuse (open_refusal bytes z))

  -- its outcome
  unfoldable pub outcome_of : Outcome
  outcome_of = result_of.outcome

  -- every word afterwards; a refused step leaves all as they were
  unfoldable pub words_after : List ℕ
  words_after = stored whole (block (head_sizes w)) w result_of.stores

  -- the output afterwards, whose words were these
  unfoldable pub output_after : List ℕ → List ℕ
  output_after out = with_pairs result_of.pairs out

-- ---- over the lent memory and output: a definition of their lengths and the memory's words
abbrev pub lent : {A : Type 0} → (ℕ → List ℕ → ℕ → A) → LentMut → LentMut → A
lent f mem out = f (length mem.entry.now) (view mem.entry.now) (length out.entry.now)

-- the output as the step leaves it
abbrev pub lent_output : LentMut → LentMut → Step → List ℕ
lent_output mem out k = lent output_after mem out k (view out.entry.now)

-- the step as it was taken: with its outcome, and the output that it was lent
abbrev pub as_taken : Step → LentMut → Outcome → Taken
as_taken k out o = came_to k (length out.entry.now) (view out.entry.now) o (view out.exit.now)
