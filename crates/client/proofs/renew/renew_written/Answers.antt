use Rattle.std.proofs.Common.{rules}
use Rattle.client.specs.Laws.Renew.{written_renewed}
use Rattle.client.proofs.renew.renew_written.Goals as goal

pub returns : goal.returns
returns c = search (written_renewed, rules)
