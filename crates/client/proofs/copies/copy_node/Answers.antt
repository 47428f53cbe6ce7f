use Rattle.std.proofs.Common.{rules}
use Rattle.client.specs.Laws.Copies.{copy_there, copy_empty, copy_none}
use Rattle.client.proofs.copies.copy_node.Goals as goal

pub returns-in-Some : goal.returns-in-Some
returns-in-Some c = search (copy_there, rules)

pub returns-in-Some-find : goal.returns-in-Some-find
returns-in-Some-find c = search (copy_empty, rules)

pub returns-in_default-find : goal.returns-in_default-find
returns-in_default-find c = search (copy_none, rules)
