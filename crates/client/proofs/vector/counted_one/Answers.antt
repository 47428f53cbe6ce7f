use Rattle.std.proofs.Common.{rules}
use Rattle.client.specs.Laws.Vectors.{no_flag, elsewhere, flag_counted}
use Rattle.client.proofs.vector.counted_one.Goals as goal

pub returns-in_default : goal.returns-in_default
returns-in_default c = search (no_flag, rules)

pub returns-then-server-s : goal.returns-then-server-s
returns-then-server-s c = search (elsewhere, rules)

pub returns : goal.returns
returns c = search (flag_counted, rules)
