use Rattle.std.proofs.Common.{rules}
use Rattle.client.specs.Laws.Copies.{read_dropped}
use Rattle.client.proofs.copies.drop_read.Goals as goal

pub returns : goal.returns
returns c = search (read_dropped, rules)
