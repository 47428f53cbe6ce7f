use Rattle.std.proofs.Common.{rules}
use Rattle.walk.specs.Found.{pushed_pair}
use Rattle.walk.proofs.found.push.Goals as goal

pub returns : goal.returns
unfolding pushed_pair
returns c = search rules
