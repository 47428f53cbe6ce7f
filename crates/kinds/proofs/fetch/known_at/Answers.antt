use Rattle.std.proofs.Common.{rules}
use Rattle.kinds.specs.Laws.Fetch.{fetch_items_exits}
use Rattle.kinds.proofs.fetch.known_at.Goals as goal

pub returns-then-i-n : goal.returns-then-i-n
returns-then-i-n c = search (fetch_items_exits, rules)

pub returns : goal.returns
returns c = search (fetch_items_exits, rules)
