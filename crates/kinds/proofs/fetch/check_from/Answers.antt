use Rattle.std.proofs.Common.{rules}
use Rattle.kinds.specs.Laws.Fetch.{out_of_reach, in_reach}
use Rattle.kinds.proofs.fetch.check_from.Goals as goal

pub returns-then-not-is_there : goal.returns-then-not-is_there
returns-then-not-is_there c = search (out_of_reach, rules)

pub returns : goal.returns
returns c = search (in_reach, rules)
