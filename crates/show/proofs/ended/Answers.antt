use Rattle.std.proofs.Common.{rules}
use Rattle.show.specs.Feed.{awaited_line, line_ended}
use Rattle.show.specs.Laws.Exits.{nothing_printed}
use Rattle.show.proofs.ended.Goals as goal

pub returns-in-FirstLine-clause-came : goal.returns-in-FirstLine-clause-came
unfolding line_ended awaited_line
returns-in-FirstLine-clause-came c = search rules

pub returns-in-StepLine-clause-came : goal.returns-in-StepLine-clause-came
unfolding line_ended awaited_line
returns-in-StepLine-clause-came c = search rules

pub returns-in-Nothing-clause-came : goal.returns-in-Nothing-clause-came
unfolding line_ended awaited_line
returns-in-Nothing-clause-came c = search (nothing_printed, rules)
