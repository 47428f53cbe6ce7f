use Rattle.std.proofs.Common.{rules}
use Rattle.client.specs.Laws.Commit.{homes_none}
use Rattle.client.proofs.commit.homes.Goals as goal

pub loop-i-init : goal.loop-i-init
loop-i-init c = search (homes_none, rules)
