use Rattle.std.proofs.Common.{rules}
use Rattle.kinds.specs.Laws.Writes.{write_made}
use Rattle.kinds.proofs.writes.write_in.Goals as goal

pub returns : goal.returns
returns c = search (write_made, rules)
