use Rattle.std.proofs.Common.{rules}
use Rattle.client.specs.Laws.Copies.{all_dropped}
use Rattle.client.proofs.copies.drop_all.Goals as goal

pub returns : goal.returns
returns c = search (all_dropped, rules)
