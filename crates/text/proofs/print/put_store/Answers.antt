use Rattle.std.proofs.Common.{rules}
use Rattle.text.proofs.Laws.Printing.{store_made}
use Rattle.text.proofs.print.put_store.Goals as goal

pub returns-clause-printed : goal.returns-clause-printed
returns-clause-printed c = search (store_made, rules)
