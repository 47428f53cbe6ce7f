use Rattle.std.proofs.Common.{rules}
use Rattle.client.specs.Lent.{own_record}
use Rattle.client.proofs.own.own_record.Goals as goal

pub returns : goal.returns
unfolding own_record
returns c = search rules
