use Rattle.std.proofs.Common.{rules}
use Rattle.walk.specs.Laws.Ask.{answer_exits}
use Rattle.walk.proofs.walk.ask_node.Goals as goal

pub returns-then-not-in_store-clause-unwritten : goal.returns-then-not-in_store-clause-unwritten
returns-then-not-in_store-clause-unwritten c = search (answer_exits, rules)

pub place_node-requires : goal.place_node-requires
place_node-requires c = search (answer_exits, rules)

pub returns-clause-unwritten : goal.returns-clause-unwritten
returns-clause-unwritten c = search (answer_exits, rules)
