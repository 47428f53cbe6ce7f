use Rattle.std.proofs.Common.{rules}
use Rattle.client.specs.Laws.Renew.{version_next, version_last}
use Rattle.client.proofs.renew.new_version.Goals as goal

pub returns-then-read-lt4294967295 : goal.returns-then-read-lt4294967295
returns-then-read-lt4294967295 c = search (version_next, rules)

pub returns-else-read-lt4294967295 : goal.returns-else-read-lt4294967295
returns-else-read-lt4294967295 c = search (version_last, rules)
