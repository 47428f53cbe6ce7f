use Rattle.std.proofs.Common.{rules}
use Rattle.show.specs.Feed.{stepped}
use Rattle.show.proofs.stepped.Goals as goal

pub returns-clause-came : goal.returns-clause-came
unfolding stepped
returns-clause-came c = search rules
