use Rattle.std.proofs.Common.{rules}
use Rattle.client.specs.Laws.Commit.{so_none, so_next, so_all, so_fails}
use Rattle.kinds.specs.Laws.Servers.{quiet_by}
use Rattle.kinds.proofs.servers.is_quiet.Goals as goal

pub returns-then-not-is_quiet_client : goal.returns-then-not-is_quiet_client
returns-then-not-is_quiet_client c = search (so_fails, quiet_by, rules)

pub loop-c-init : goal.loop-c-init
loop-c-init c = so_none _ _

pub loop-c-preserved : goal.loop-c-preserved
loop-c-preserved c = search (so_next, rules)

pub returns : goal.returns
returns c = search (so_all, quiet_by, rules)
