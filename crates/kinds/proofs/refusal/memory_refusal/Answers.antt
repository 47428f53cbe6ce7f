use Rattle.std.proofs.Common.{rules}
use Rattle.kinds.specs.Laws.Parts.{are_allowed}
use Rattle.kinds.specs.Laws.Refusal.{memory_exits}
use Rattle.kinds.proofs.refusal.memory_refusal.Goals as goal

pub returns-then-bytes-lt64 : goal.returns-then-bytes-lt64
returns-then-bytes-lt64 c = search (memory_exits, rules)

pub returns-then-not-allowed : goal.returns-then-not-allowed
returns-then-not-allowed c = search (memory_exits, rules)

pub words_for-requires : goal.words_for-requires
words_for-requires c = search (are_allowed, rules)

pub returns-then-bytes-words_for : goal.returns-then-bytes-words_for
returns-then-bytes-words_for c = search (memory_exits, rules)

pub returns : goal.returns
returns c = search (memory_exits, rules)
