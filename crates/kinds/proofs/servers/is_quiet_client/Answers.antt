use Rattle.std.proofs.Common.{rules}
use Rattle.kinds.specs.Laws.Servers.{quiet_exits}
use Rattle.kinds.proofs.servers.is_quiet_client.Goals as goal

pub returns-then-phase-eq-DECIDED : goal.returns-then-phase-eq-DECIDED
returns-then-phase-eq-DECIDED c = search (quiet_exits, rules)

pub returns-then-phase-eq-COMMITTING : goal.returns-then-phase-eq-COMMITTING
returns-then-phase-eq-COMMITTING c = search (quiet_exits, rules)

pub returns : goal.returns
returns c = search (quiet_exits, rules)
