use Rattle.std.proofs.Common.{rules}
use Rattle.client.specs.Laws.Steps.{fields_done}
use Rattle.client.proofs.part.set_fields.Goals as goal

pub returns : goal.returns
returns c = search (fields_done, rules)
