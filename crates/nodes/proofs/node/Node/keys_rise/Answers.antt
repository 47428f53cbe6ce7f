use Rattle.std.proofs.Common.{rules}
use Rattle.nodes.specs.Node.{keys_of}
use Rattle.nodes.proofs.Laws.Place.{risen_first, risen_more, not_risen, risen_all}
use Rattle.nodes.proofs.node.Node.keys_rise.Goals as goal

pub returns-then-self-i : goal.returns-then-self-i
unfolding keys_of
returns-then-self-i c = search (not_risen, risen_all, risen_first, risen_more, rules)

pub loop-i-preserved : goal.loop-i-preserved
unfolding keys_of
loop-i-preserved c = search (risen_more, rules)

pub returns : goal.returns
unfolding keys_of
returns c = search (not_risen, risen_all, risen_first, risen_more, rules)
