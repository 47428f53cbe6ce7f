use Rattle.std.proofs.Common.{rules}
use Rattle.client.specs.Laws.Steps.{drop_done}
use Rattle.client.proofs.part.drop_vector.Goals as goal

pub returns : goal.returns
returns c = search (drop_done, rules)
