use Rattle.std.proofs.Common.{rules}
use Rattle.nodes.proofs.Laws.Search.{above_found, above_none}
use Rattle.nodes.proofs.vector.first_free.Goals as goal

pub returns-in-Some-clause-value : goal.returns-in-Some-clause-value
returns-in-Some-clause-value c = search (above_found, above_none, rules)

pub returns-in-None-clause-value : goal.returns-in-None-clause-value
returns-in-None-clause-value c = search (above_found, above_none, rules)
