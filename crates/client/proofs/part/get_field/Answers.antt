use Rattle.std.proofs.Common.{rules}
use Rattle.client.specs.Laws.Part.{got_field}
use Rattle.client.proofs.part.get_field.Goals as goal

pub returns : goal.returns
returns c = search (got_field, rules)
