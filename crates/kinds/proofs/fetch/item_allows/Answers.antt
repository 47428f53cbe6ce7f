use Rattle.std.proofs.Common.{rules}
use Rattle.kinds.specs.Laws.Fetch.{fetch_items_exits}
use Rattle.kinds.proofs.fetch.item_allows.Goals as goal

pub returns-then-not-item : goal.returns-then-not-item
returns-then-not-item c = search (fetch_items_exits, rules)

pub returns-then-not-can_check : goal.returns-then-not-can_check
returns-then-not-can_check c = search (fetch_items_exits, rules)

pub returns-in_err-lock_allows : goal.returns-in_err-lock_allows
returns-in_err-lock_allows c = search (fetch_items_exits, rules)

pub returns : goal.returns
returns c = search (fetch_items_exits, rules)
