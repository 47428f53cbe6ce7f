use Rattle.std.proofs.Common.{rules}
use Rattle.kinds.specs.Laws.Servers.{by_source}
use Rattle.kinds.proofs.servers.metadata_source.Goals as goal

pub returns-clause-value : goal.returns-clause-value
returns-clause-value c = search (by_source, rules)
