use Rattle.std.proofs.Common.{rules}
use Rattle.client.specs.Laws.Copies.{used_dropped}
use Rattle.client.proofs.copies.drop_used.Goals as goal

pub returns : goal.returns
returns c = search (used_dropped, rules)
