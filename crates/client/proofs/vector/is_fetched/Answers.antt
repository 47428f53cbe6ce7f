use Rattle.std.proofs.Common.{rules}
use Rattle.client.specs.Laws.Vectors.{asked_fetched}
use Rattle.client.proofs.vector.is_fetched.Goals as goal

pub returns : goal.returns
returns c = search (asked_fetched, rules)
