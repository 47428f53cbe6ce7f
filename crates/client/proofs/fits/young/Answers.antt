use Rattle.client.specs.Laws.Fits.{young_flag, young_version}
use Rattle.std.proofs.Common.{rules}
use Rattle.client.proofs.fits.young.Goals as goal

pub returns-then-number-gt-LAST_NODE_NUMBER : goal.returns-then-number-gt-LAST_NODE_NUMBER
returns-then-number-gt-LAST_NODE_NUMBER c = search (young_flag, rules)

pub returns-else-number-gt-LAST_NODE_NUMBER : goal.returns-else-number-gt-LAST_NODE_NUMBER
returns-else-number-gt-LAST_NODE_NUMBER c = search (young_version, rules)
