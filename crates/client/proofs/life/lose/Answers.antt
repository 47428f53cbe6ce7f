use Rattle.std.proofs.Common.{rules}
use Rattle.client.specs.Laws.Copies.{was_lost}
use Rattle.client.proofs.life.lose.Goals as goal

pub returns : goal.returns
returns c = search (was_lost, rules)
