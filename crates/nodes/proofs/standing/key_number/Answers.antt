use Rattle.std.proofs.Common.{rules}
use Rattle.nodes.proofs.Laws.Standing.{number_there}
use Rattle.nodes.proofs.standing.key_number.Goals as goal

pub returns : goal.returns
returns c = search (number_there, rules)
