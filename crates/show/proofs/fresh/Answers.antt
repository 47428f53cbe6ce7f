use Rattle.std.proofs.Common.{refl}
use Rattle.show.specs.Shown.{zeros}
use Rattle.show.proofs.fresh.Goals as goal

pub returns : goal.returns
unfolding zeros
returns c = refl
