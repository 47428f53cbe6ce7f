use Rattle.std.proofs.Common.{rules}
use Rattle.nodes.proofs.Laws.States.{root_astray, version_wide, by_states}
use Rattle.nodes.proofs.states.metadata_fits.Goals as goal

pub returns-then-version-le4294967295 : goal.returns-then-version-le4294967295
returns-then-version-le4294967295 c = search (root_astray, version_wide, by_states, rules)

pub returns-else-version-le4294967295 : goal.returns-else-version-le4294967295
returns-else-version-le4294967295 c = search (root_astray, version_wide, by_states, rules)
