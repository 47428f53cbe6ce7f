use Rattle.std.proofs.Common.{rules}
use Rattle.schedule.proofs.Laws.Reached.{turn_goes_on}
use Rattle.schedule.proofs.run.turn.Goals as goal

pub returns-clause-reached : goal.returns-clause-reached
returns-clause-reached c = search (turn_goes_on, rules)
