use Rattle.std.proofs.Common.{rules}
use Rattle.client.specs.Laws.Words.{record_got}
use Rattle.client.proofs.record.record_in.Goals as goal

pub returns : goal.returns
returns c = search (record_got, rules)
