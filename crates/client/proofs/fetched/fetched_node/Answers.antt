use Rattle.std.proofs.Common.{rules}
use Rattle.client.specs.Laws.Steps.{did_then}
use Rattle.client.specs.Laws.Enter.{good_read}
use Rattle.client.specs.Fetched.{fetched_node}
use Rattle.client.proofs.fetched.fetched_node.Goals as goal

pub returns : goal.returns
unfolding fetched_node
returns c = search (did_then, good_read, rules)
