use Rattle.std.proofs.Common.{rules}
use Rattle.show.specs.Feed.{later_line}
use Rattle.show.specs.Laws.Exits.{nothing_but_bad}
use Rattle.show.proofs.later_line.Goals.{in-Some+in-Sizes-1, in-None-1}
use Rattle.show.proofs.later_line.Goals as goal

pub returns-in-Some-Step-clause-came : goal.returns-in-Some-Step-clause-came
unfolding later_line
returns-in-Some-Step-clause-came c = search rules

pub returns-in-Some-Sizes-clause-came : goal.returns-in-Some-Sizes-clause-came
unfolding later_line
returns-in-Some-Sizes-clause-came c = elim c.in-Some-Sizes-1.branch [
  | in-Some+in-Sizes-1 w ↦ search (nothing_but_bad, rules)
  | in-None-1 w ↦ search (nothing_but_bad, rules)
]
