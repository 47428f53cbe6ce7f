use Rattle.std.proofs.Common.{rules}
use Rattle.kinds.specs.Laws.Abort.{none_in_use}
use Rattle.kinds.specs.Laws.Loss.{loss_exits}
use Rattle.kinds.proofs.loss.store_loss.Goals as goal

pub returns : goal.returns
returns c = search (none_in_use, loss_exits, rules)
