use Rattle.std.proofs.Common.{rules}
use Rattle.steps.proofs.Laws.Refused.{some_number}
use Rattle.kinds.specs.Laws.Refusal.{none_holds}
use Rattle.engine.specs.Laws.Open.{stays_shut, is_open}
use Rattle.engine.specs.Laws.Reached.{new_reached}
use Rattle.engine.proofs.open.open.Goals as goal

pub returns-in_err-memory_refusal-clause-words : goal.returns-in_err-memory_refusal-clause-words
returns-in_err-memory_refusal-clause-words c = stays_shut _ _ _ _ c.in_err-memory_refusal.ensures (some_number c.in_err-memory_refusal.field-0.0)

pub make_new-requires : goal.make_new-requires
make_new-requires c = search (none_holds, rules)

pub returns-clause-words : goal.returns-clause-words
returns-clause-words c = search (is_open, rules)

pub returns-clause-reached : goal.returns-clause-reached
returns-clause-reached c = λ ok. search (new_reached, is_open, rules)
