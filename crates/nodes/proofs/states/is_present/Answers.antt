use Rattle.std.proofs.Common.{rules}
use Rattle.nodes.proofs.Laws.States.{by_bit}
use Rattle.nodes.proofs.states.is_present.Goals as goal

pub returns : goal.returns
returns c = search (by_bit, rules)
