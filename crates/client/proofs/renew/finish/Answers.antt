use Rattle.std.proofs.Common.{rules}
use Rattle.client.specs.Laws.Renew.{was_finished}
use Rattle.client.proofs.renew.finish.Goals as goal

pub returns : goal.returns
returns c = search (was_finished, rules)
