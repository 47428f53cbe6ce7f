use Rattle.std.proofs.Common.{rules}
use Rattle.client.specs.Laws.Renew.{renewed_is}
use Rattle.client.proofs.renew.renewed.Goals as goal

pub returns : goal.returns
returns c = search (renewed_is, rules)
