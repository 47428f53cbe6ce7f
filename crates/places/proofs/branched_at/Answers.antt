use Rattle.std.proofs.Common.{rules}
use Rattle.places.specs.Laws.Branched.{no_place, at_place}
use Rattle.places.proofs.branched_at.Goals as goal

pub returns-then-place-eq0-clause-value : goal.returns-then-place-eq0-clause-value
returns-then-place-eq0-clause-value c = search (no_place, rules)

pub returns-clause-value : goal.returns-clause-value
returns-clause-value c = search (at_place, rules)
