use Rattle.std.proofs.Common.{rules}
use Rattle.client.specs.Laws.Steps.{swept_none, swept_on}
use Rattle.client.specs.Laws.Copies.{good_drop_read, reads_dropped}
use Rattle.client.proofs.copies.drop_reads.Goals as goal

pub loop-i-init : goal.loop-i-init
loop-i-init c = search (swept_none, rules)

pub loop-i-preserved : goal.loop-i-preserved
loop-i-preserved c = search (swept_on, good_drop_read, rules)

pub returns : goal.returns
returns c = search (reads_dropped, rules)
