use Rattle.std.proofs.Common.{rules}
use Rattle.kinds.specs.Laws.Judge.{judge_exits}
use Rattle.kinds.proofs.judge.lock_fits.Goals as goal

pub returns : goal.returns
returns c = search (judge_exits, rules)
