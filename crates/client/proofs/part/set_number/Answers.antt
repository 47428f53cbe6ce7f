use Rattle.std.proofs.Common.{rules}
use Rattle.client.specs.Laws.Steps.{number_done}
use Rattle.client.proofs.part.set_number.Goals as goal

pub returns : goal.returns
returns c = search (number_done, rules)
