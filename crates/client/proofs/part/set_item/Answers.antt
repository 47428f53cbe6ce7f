use Rattle.std.proofs.Common.{rules}
use Rattle.client.specs.Laws.Part.{item_done}
use Rattle.client.proofs.part.set_item.Goals as goal

pub returns : goal.returns
returns c = search (item_done, rules)
