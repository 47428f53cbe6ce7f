use Rattle.std.proofs.Common.{rules}
use Rattle.walk.specs.Laws.Ask.{meet_exits}
use Rattle.walk.proofs.walk.meet.Goals as goal

pub pop_used-requires : goal.pop_used-requires
pop_used-requires g c = search (meet_exits, rules)

pub returns-then-over-clause-meets : goal.returns-then-over-clause-meets
returns-then-over-clause-meets g c = search (meet_exits, rules)

pub note_copy-requires : goal.note_copy-requires
note_copy-requires g c = search (meet_exits, rules)

pub returns-in_default : goal.returns-in_default
returns-in_default g c = search (meet_exits, rules)

pub returns-in-Here : goal.returns-in-Here
returns-in-Here g c = search (meet_exits, rules)

pub returns-in-Copied : goal.returns-in-Copied
returns-in-Copied g c = search (meet_exits, rules)

pub returns-in-Lacking-clause-meets : goal.returns-in-Lacking-clause-meets
returns-in-Lacking-clause-meets g c = search (meet_exits, rules)
