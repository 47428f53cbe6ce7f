use Rattle.std.proofs.Common.{rules}
use Rattle.client.specs.Laws.Items.{has_one, has_none}
use Rattle.client.proofs.items.has.Goals as goal

pub returns : goal.returns
returns c = search (has_one, has_none, rules)
