use Rattle.std.proofs.Common.{rules}
use Rattle.nodes.proofs.Laws.States.{fit_wide, fit_by_present}
use Rattle.nodes.proofs.states.states_fit.Goals as goal

pub returns-then-states-lt65536 : goal.returns-then-states-lt65536
returns-then-states-lt65536 c = search (fit_by_present, rules)

pub returns-else-states-lt65536 : goal.returns-else-states-lt65536
returns-else-states-lt65536 c = search (fit_wide, fit_by_present, rules)
