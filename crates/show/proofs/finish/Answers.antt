use Rattle.std.proofs.Common.{rules}
use Rattle.show.specs.Feed.{finished}
use Rattle.show.specs.Laws.Exits.{nothing_printed, nothing_but_bad}
use Rattle.show.proofs.finish.Goals.{in_default-Some-via-in-FirstLine+in-Some, in_default-Some-via-in-StepLine+in-Some}
use Rattle.show.proofs.finish.Goals as goal

pub returns-in-Nothing-default-clause-came : goal.returns-in-Nothing-default-clause-came
unfolding finished
returns-in-Nothing-default-clause-came c = search (nothing_printed, rules)

pub returns-in-FirstLine-None-clause-came : goal.returns-in-FirstLine-None-clause-came
unfolding finished
returns-in-FirstLine-None-clause-came c = search (nothing_but_bad, rules)

pub returns-in-StepLine-None-clause-came : goal.returns-in-StepLine-None-clause-came
unfolding finished
returns-in-StepLine-None-clause-came c = search (nothing_printed, rules)

pub returns-in_default-Some-clause-came : goal.returns-in_default-Some-clause-came
unfolding finished
returns-in_default-Some-clause-came c = elim c.in_default-Some.branch [
  | in_default-Some-via-in-FirstLine+in-Some w ↦ search rules
  | in_default-Some-via-in-StepLine+in-Some w ↦ search rules
]
