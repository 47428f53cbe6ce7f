use Rattle.std.proofs.Common.{rules}
use Rattle.kinds.specs.Laws.Refusal.{fits_by}
use Rattle.kinds.proofs.refusal.state_fits.Goals as goal

pub returns : goal.returns
returns c = search (fits_by, rules)
