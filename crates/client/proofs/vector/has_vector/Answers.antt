use Rattle.std.proofs.Common.{rules}
use Rattle.client.specs.Laws.Vectors.{asked_vector}
use Rattle.client.proofs.vector.has_vector.Goals as goal

pub returns : goal.returns
returns c = search (asked_vector, rules)
