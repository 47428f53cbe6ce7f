use Rattle.std.proofs.Common.{rules}
use Rattle.client.specs.Laws.Commit.{so_none, so_next, so_all, so_fails}
use Rattle.kinds.specs.Laws.Course.{covers_all}
use Rattle.kinds.proofs.course.covers.Goals as goal

pub returns-then-not-is_covered : goal.returns-then-not-is_covered
returns-then-not-is_covered c = search (so_fails, covers_all, rules)

pub loop-s-init : goal.loop-s-init
loop-s-init c = so_none _ _

pub loop-s-preserved : goal.loop-s-preserved
loop-s-preserved c = search (so_next, rules)

pub returns : goal.returns
returns c = search (so_all, covers_all, rules)
