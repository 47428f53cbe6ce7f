use Rattle.std.proofs.Common.{rules}
use Rattle.client.specs.Laws.Copies.{was_reset}
use Rattle.client.proofs.life.reset.Goals as goal

pub returns : goal.returns
returns c = search (was_reset, rules)
