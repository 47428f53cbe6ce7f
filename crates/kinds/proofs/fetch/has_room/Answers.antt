use Rattle.std.proofs.Common.{rules}
use Rattle.kinds.specs.Laws.Fetch.{gates}
use Rattle.kinds.proofs.fetch.has_room.Goals as goal

pub returns-then-read-used-ge-MOST_READ : goal.returns-then-read-used-ge-MOST_READ
returns-then-read-used-ge-MOST_READ c = search (gates, rules)

pub returns : goal.returns
returns c = search (gates, rules)
