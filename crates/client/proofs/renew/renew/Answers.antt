use Rattle.std.proofs.Common.{rules}
use Rattle.client.specs.Laws.Renew.{was_renewed}
use Rattle.client.proofs.renew.renew.Goals as goal

pub returns : goal.returns
returns c = search (was_renewed, rules)
