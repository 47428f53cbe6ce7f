use Rattle.std.proofs.Common.{rules}
use Rattle.memory.proofs.Laws.Run.{fill_step}
use Rattle.memory.proofs.fill_words.Goals as goal

pub loop-i-preserved : goal.loop-i-preserved
loop-i-preserved c = search (fill_step, rules)
