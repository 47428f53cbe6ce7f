use Rattle.std.proofs.Common.{rules}
use Rattle.kinds.specs.Laws.Fetch.{fetch_items_exits}
use Rattle.kinds.proofs.fetch.used_item.Goals as goal

pub returns : goal.returns
returns c = search (fetch_items_exits, rules)
