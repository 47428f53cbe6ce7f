use Rattle.std.proofs.Common.{rules}
use Rattle.client.specs.Life.{give_part}
use Rattle.client.proofs.life.give.Goals as goal

pub returns : goal.returns
unfolding give_part
returns c = search rules
