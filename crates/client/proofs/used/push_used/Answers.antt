use Rattle.std.proofs.Common.{rules}
use Rattle.client.specs.Lent.{pushed}
use Rattle.client.proofs.used.push_used.Goals as goal

pub returns : goal.returns
unfolding pushed
returns c = search rules
