-- Laws of the exported functions' code.
use Rattle.std.specs.Prelude.{◌≡◌}
use Rattle.std.proofs.Common.{ap, ◌∙◌}
use Rattle.steps.specs.declared.outcome.Outcome.{Outcome}
use Rattle.steps.specs.declared.outcome.Line.{Line}
use Rattle.steps.specs.Outcome.{line}

-- the three numbers of an outcome
module _ (x o : Outcome) (l : Line) (e : o ≡ x) (q : l ≡ line o) where
  is_line : l ≡ line x
  is_line = q ∙ ap line e

  pub first_number : l.outcome ≡ (line x).outcome
  first_number = ap (λ (v : Line). v.outcome) is_line

  pub second_number : l.a ≡ (line x).a
  second_number = ap (λ (v : Line). v.a) is_line

  pub third_number : l.b ≡ (line x).b
  third_number = ap (λ (v : Line). v.b) is_line

pub ruleset line_numbers = (first_number, second_number, third_number)
