use Rattle.std.proofs.Common.{◌∙◌, arith}
use Rattle.memory.specs.Word.{view}
use Rattle.memory.proofs.Laws.Run.{write_step}
use Rattle.memory.proofs.write_words.Goals as goal

pub loop-i-preserved : goal.loop-i-preserved
loop-i-preserved c = c.write_word.ensures ∙ rw c.loop-i.invariant (write_step c.args.from.now (view c.args.s.now) c.args.at c.loop-i.i c.loop-i-test.true)
