use Rattle.std.proofs.Common.{rules}
use Rattle.text.proofs.Laws.Printing.{field_made}
use Rattle.text.proofs.print.put_field.Goals as goal

pub returns-clause-printed : goal.returns-clause-printed
returns-clause-printed c = search (field_made, rules)
