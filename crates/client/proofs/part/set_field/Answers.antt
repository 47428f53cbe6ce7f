use Rattle.std.proofs.Common.{rules}
use Rattle.client.specs.Laws.Part.{field_done}
use Rattle.client.proofs.part.set_field.Goals as goal

pub returns : goal.returns
returns c = search (field_done, rules)
