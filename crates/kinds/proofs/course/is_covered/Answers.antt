use Rattle.std.proofs.Common.{rules}
use Rattle.kinds.specs.Laws.Course.{covered_not, covered_done}
use Rattle.kinds.proofs.course.is_covered.Goals as goal

pub returns-then-has : goal.returns-then-has
returns-then-has c = search (covered_done, covered_not, rules)

pub returns : goal.returns
returns c = search (covered_done, covered_not, rules)
