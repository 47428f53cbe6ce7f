use Rattle.std.proofs.Common.{rules}
use Rattle.client.specs.Laws.Part.{number_spot}
use Rattle.client.proofs.part.number_place.Goals as goal

pub returns-clause-value : goal.returns-clause-value
returns-clause-value c = search (number_spot, rules)
