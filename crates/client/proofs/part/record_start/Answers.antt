use Rattle.std.proofs.Common.{rules}
use Rattle.client.specs.Laws.Part.{record_spot}
use Rattle.client.proofs.part.record_start.Goals as goal

pub returns-clause-value : goal.returns-clause-value
returns-clause-value c = search (record_spot, rules)
