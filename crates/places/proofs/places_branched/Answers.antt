use Rattle.std.proofs.Common.{rules}
use Rattle.places.specs.Laws.Asked.{out_of_range, in_range}
use Rattle.places.proofs.places_branched.Goals as goal

pub returns-then-count_at-gt14 : goal.returns-then-count_at-gt14
returns-then-count_at-gt14 c = search (out_of_range, rules)

pub returns : goal.returns
returns c = search (in_range, rules)
