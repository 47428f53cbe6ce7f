use Rattle.std.proofs.Common.{rules}
use Rattle.client.specs.Laws.Part.{got_number}
use Rattle.client.proofs.part.number_at.Goals as goal

pub returns : goal.returns
returns c = search (got_number, rules)
