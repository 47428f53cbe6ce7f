use Rattle.std.proofs.Common.{rules}
use Rattle.client.specs.Laws.Part.{got_copy}
use Rattle.client.proofs.vector.vector_copy.Goals as goal

pub returns : goal.returns
returns c = search (got_copy, rules)
