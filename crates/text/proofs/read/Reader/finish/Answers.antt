use Rattle.std.proofs.Common.{rules}
use Rattle.text.proofs.Laws.Exits.{finish_spoiled, finish_unbegun, finish_sizes, finish_step, finish_short}
use Rattle.text.proofs.read.Reader.finish.Goals as goal

pub returns-then-not-self : goal.returns-then-not-self
returns-then-not-self c = search (finish_spoiled, rules)

pub returns-in_err-last : goal.returns-in_err-last
returns-in_err-last c = search (finish_unbegun, rules)

pub returns-in-2 : goal.returns-in-2
returns-in-2 c = search (finish_sizes, rules)

pub returns-in-5 : goal.returns-in-5
returns-in-5 c = search (finish_step, rules)

pub returns-in_default : goal.returns-in_default
returns-in_default c = search (finish_short, rules)
