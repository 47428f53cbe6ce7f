use Rattle.std.proofs.Common.{rules}
use Rattle.kinds.specs.Laws.Judge.{judge_exits}
use Rattle.kinds.proofs.judge.word_fits.Goals as goal

pub returns-then-is_lock : goal.returns-then-is_lock
returns-then-is_lock c = search (judge_exits, rules)

pub returns : goal.returns
returns c = search (judge_exits, rules)
