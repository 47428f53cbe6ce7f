use Rattle.std.proofs.Common.{rules}
use Rattle.change.specs.Laws.Last.{own_exits}
use Rattle.change.proofs.last.fits.Goals as goal

pub returns-then-keys_rise : goal.returns-then-keys_rise
returns-then-keys_rise c = search (own_exits, rules)

pub returns-else-keys_rise : goal.returns-else-keys_rise
returns-else-keys_rise c = search (own_exits, rules)
