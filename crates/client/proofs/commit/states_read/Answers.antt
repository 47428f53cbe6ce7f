use Rattle.std.proofs.Common.{rules}
use Rattle.client.specs.Laws.Commit.{states_there, states_unread}
use Rattle.client.proofs.commit.states_read.Goals as goal

pub returns-in-Some : goal.returns-in-Some
returns-in-Some c = search (states_there, rules)

pub returns-in-None : goal.returns-in-None
returns-in-None c = search (states_unread, rules)
