use Rattle.std.proofs.Common.{rules}
use Rattle.client.specs.Laws.Copies.{was_aborted}
use Rattle.client.proofs.life.abort.Goals as goal

pub returns : goal.returns
returns c = search (was_aborted, rules)
