use Rattle.client.specs.Laws.Lent.{asked_among}
use Rattle.client.proofs.used.is_used.Goals as goal

pub returns : goal.returns
returns c = asked_among _ _ _ _ c.contains.ensures.value c.in_use.ensures
