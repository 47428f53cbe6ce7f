use Rattle.std.proofs.Common.{rules}
use Rattle.text.proofs.Laws.Printing.{place_made}
use Rattle.text.proofs.print.put.Goals as goal

pub returns : goal.returns
returns c = search (place_made, rules)
