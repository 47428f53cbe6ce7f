use Rattle.std.proofs.Common.{rules}
use Rattle.kinds.specs.Laws.Refusal.{change_exits}
use Rattle.kinds.proofs.refusal.change_refusal.Goals as goal

pub returns-then-server-ge-SERVERS : goal.returns-then-server-ge-SERVERS
returns-then-server-ge-SERVERS c = search (change_exits, rules)

pub returns-then-not-state_suits : goal.returns-then-not-state_suits
returns-then-not-state_suits c = search (change_exits, rules)

pub returns-then-is_taken_yet : goal.returns-then-is_taken_yet
returns-then-is_taken_yet c = search (change_exits, rules)

pub returns-then-version_ends : goal.returns-then-version_ends
returns-then-version_ends c = search (change_exits, rules)

pub returns-then-is_quiet : goal.returns-then-is_quiet
returns-then-is_quiet c = search (change_exits, rules)

pub returns : goal.returns
returns c = search (change_exits, rules)
