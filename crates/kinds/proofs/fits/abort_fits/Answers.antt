use Rattle.std.proofs.Common.{rules}
use Rattle.kinds.specs.Laws.Known.{knows}
use Rattle.kinds.specs.Laws.Fits.{server_exits}
use Rattle.kinds.proofs.fits.abort_fits.Goals as goal

pub returns-then-not-fit_to_abort : goal.returns-then-not-fit_to_abort
returns-then-not-fit_to_abort c = search (server_exits, knows, rules)

pub servers_unlock-requires : goal.servers_unlock-requires
servers_unlock-requires c = search (server_exits, knows, rules)

pub returns : goal.returns
returns c = search (server_exits, knows, rules)
