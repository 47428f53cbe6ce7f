use Rattle.std.proofs.Common.{rules}
use Rattle.kinds.specs.Laws.Parts.{words_few, words_sum}
use Rattle.kinds.proofs.whole.words_for.Goals as goal

pub returns-clause-value : goal.returns-clause-value
returns-clause-value c = search (words_sum, rules)
