use Rattle.std.proofs.Common.{rules}
use Rattle.client.specs.Laws.Enter.{copy_entered}
use Rattle.client.proofs.enter.enter_copy.Goals as goal

pub returns : goal.returns
returns c = search (copy_entered, rules)
