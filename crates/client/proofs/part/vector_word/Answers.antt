use Rattle.std.proofs.Common.{rules}
use Rattle.client.specs.Laws.Part.{got_vector}
use Rattle.client.proofs.part.vector_word.Goals as goal

pub returns : goal.returns
returns c = search (got_vector, rules)
