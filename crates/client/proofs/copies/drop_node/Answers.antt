use Rattle.std.proofs.Common.{rules}
use Rattle.client.specs.Laws.Copies.{drop_there, drop_none}
use Rattle.client.proofs.copies.drop_node.Goals as goal

pub returns-in-Some : goal.returns-in-Some
returns-in-Some c = search (drop_there, rules)

pub returns-in_default : goal.returns-in_default
returns-in_default c = search (drop_none, rules)
