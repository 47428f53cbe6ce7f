use Rattle.std.proofs.Common.{rules}
use Rattle.change.specs.Laws.Last.{version_word}
use Rattle.change.proofs.last.version_at.Goals as goal

pub returns : goal.returns
returns c = search (version_word, rules)
