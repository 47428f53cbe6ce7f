use Rattle.std.proofs.Common.{rules}
use Rattle.client.specs.Laws.Copies.{vector_marked}
use Rattle.client.proofs.fetched.mark_fetched.Goals as goal

pub returns : goal.returns
returns c = search (vector_marked, rules)
