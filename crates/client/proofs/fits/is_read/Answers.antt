use Rattle.std.proofs.Common.{rules}
use Rattle.client.specs.Laws.Fits.{fit_exits}
use Rattle.client.proofs.fits.is_read.Goals as goal

pub returns : goal.returns
returns c = search (fit_exits, rules)
