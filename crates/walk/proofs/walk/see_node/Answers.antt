use Rattle.std.proofs.Common.{rules}
use Rattle.walk.specs.Laws.Ask.{answer_exits}
use Rattle.walk.proofs.walk.see_node.Goals as goal

pub returns-then-not-in_store : goal.returns-then-not-in_store
returns-then-not-in_store c = search (answer_exits, rules)

pub see_in_store-requires : goal.see_in_store-requires
see_in_store-requires c = search (answer_exits, rules)

pub returns : goal.returns
returns c = search (answer_exits, rules)
