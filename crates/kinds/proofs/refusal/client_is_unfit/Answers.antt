use Rattle.std.proofs.Common.{rules}
use Rattle.kinds.specs.Laws.Refusal.{client_unfit}
use Rattle.kinds.proofs.refusal.client_is_unfit.Goals as goal

pub returns : goal.returns
returns c = search (client_unfit, rules)
