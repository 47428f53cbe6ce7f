use Rattle.std.proofs.Common.{rules}
use Rattle.text.proofs.Laws.Exits.{space_early, space_late, space_ends}
use Rattle.text.proofs.read.Reader.ended.Goals as goal

pub returns-in_default : goal.returns-in_default
returns-in_default c = search (space_early, rules)

pub returns-then-self-gt4 : goal.returns-then-self-gt4
returns-then-self-gt4 c = search (space_late, rules)

pub returns : goal.returns
returns c = search (space_ends, rules)
