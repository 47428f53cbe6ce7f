use Rattle.std.proofs.Common.{rules}
use Rattle.kinds.specs.Laws.Parts.{size_exits}
use Rattle.kinds.proofs.whole.length_for.Goals as goal

pub words_for-requires : goal.words_for-requires
words_for-requires c = search (size_exits, rules)

pub returns-then-allowed : goal.returns-then-allowed
returns-then-allowed c = search (size_exits, rules)

pub returns : goal.returns
returns c = search (size_exits, rules)
