use Rattle.std.proofs.Common.{rules}
use Rattle.kinds.specs.Laws.Refusal.{known_exits}
use Rattle.kinds.proofs.refusal.known_refusal.Goals as goal

pub returns-then-step-sizes : goal.returns-then-step-sizes
returns-then-step-sizes c = search (known_exits, rules)

pub returns-in_err-field_refusal : goal.returns-in_err-field_refusal
returns-in_err-field_refusal c = search (known_exits, rules)

pub client_is_unfit-requires : goal.client_is_unfit-requires
client_is_unfit-requires c = search (known_exits, rules)

pub returns-then-client_is_unfit : goal.returns-then-client_is_unfit
returns-then-client_is_unfit c = search (known_exits, rules)

pub returns : goal.returns
returns c = search (known_exits, rules)
