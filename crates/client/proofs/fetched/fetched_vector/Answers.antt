use Rattle.std.proofs.Common.{rules}
use Rattle.client.specs.Laws.Steps.{did_then, good_vector}
use Rattle.client.specs.Fetched.{fetched_vector}
use Rattle.client.proofs.fetched.fetched_vector.Goals as goal

pub returns : goal.returns
unfolding fetched_vector
returns c = search (did_then, good_vector, rules)
