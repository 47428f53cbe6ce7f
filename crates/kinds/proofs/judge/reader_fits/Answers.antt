use Rattle.std.proofs.Common.{rules}
use Rattle.kinds.specs.Laws.Judge.{judge_exits}
use Rattle.kinds.proofs.judge.reader_fits.Goals as goal

pub returns-then-has : goal.returns-then-has
returns-then-has c = search (judge_exits, rules)

pub returns : goal.returns
returns c = search (judge_exits, rules)
