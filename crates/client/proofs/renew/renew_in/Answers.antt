use Rattle.std.proofs.Common.{rules}
use Rattle.client.specs.Laws.Renew.{flag_beyond, flag_uncopied, flag_renewed}
use Rattle.client.proofs.renew.renew_in.Goals as goal

pub returns-then-server-ge-SERVERS : goal.returns-then-server-ge-SERVERS
returns-then-server-ge-SERVERS c = search (flag_beyond, rules)

pub returns-then-has_vector : goal.returns-then-has_vector
returns-then-has_vector c = search (flag_renewed, rules)

pub returns-else-has_vector : goal.returns-else-has_vector
returns-else-has_vector c = search (flag_uncopied, rules)
