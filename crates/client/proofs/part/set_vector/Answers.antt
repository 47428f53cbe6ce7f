use Rattle.std.proofs.Common.{rules}
use Rattle.client.specs.Laws.Steps.{vector_done}
use Rattle.client.proofs.part.set_vector.Goals as goal

pub returns : goal.returns
returns c = search (vector_done, rules)
