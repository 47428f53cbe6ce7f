use Rattle.std.proofs.Common.{rules}
use Rattle.client.specs.Laws.Part.{got_record}
use Rattle.client.proofs.part.record_at.Goals as goal

pub returns : goal.returns
returns c = search (got_record, rules)
