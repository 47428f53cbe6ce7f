use Rattle.std.proofs.Common.{rules}
use Rattle.text.proofs.Laws.Printing.{step_made}
use Rattle.text.proofs.print.put_step.Goals as goal

pub returns-clause-printed : goal.returns-clause-printed
returns-clause-printed c = search (step_made, rules)
