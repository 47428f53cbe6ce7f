use Rattle.std.proofs.Common.{rules}
use Rattle.nodes.proofs.Laws.Stored.{holds, words_built}
use Rattle.nodes.proofs.node.Node.to_words.Goals as goal

pub returns : goal.returns
returns c = search (holds, words_built, rules)
