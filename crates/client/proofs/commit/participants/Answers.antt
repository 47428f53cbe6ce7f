use Rattle.std.proofs.Common.{rules}
use Rattle.client.specs.Laws.Commit.{taking_all, taking_homes}
use Rattle.client.proofs.commit.participants.Goals as goal

pub returns-then-all_take_part : goal.returns-then-all_take_part
returns-then-all_take_part c = search (taking_all, rules)

pub returns : goal.returns
returns c = search (taking_homes, rules)
