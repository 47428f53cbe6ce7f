use Rattle.std.proofs.Common.{rules}
use Rattle.client.specs.Laws.Fits.{rule_exits}
use Rattle.client.proofs.fits.fit_to_apply_too.Goals as goal

pub returns-then-writes_fit : goal.returns-then-writes_fit
returns-then-writes_fit c = search (rule_exits, rules)

pub returns-else-writes_fit : goal.returns-else-writes_fit
returns-else-writes_fit c = search (rule_exits, rules)
