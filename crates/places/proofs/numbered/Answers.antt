use Rattle.std.proofs.Common.{rules}
use Rattle.places.specs.Laws.Asked.{as_number}
use Rattle.places.proofs.numbered.Goals as goal

pub returns : goal.returns
returns c = search (as_number, rules)
