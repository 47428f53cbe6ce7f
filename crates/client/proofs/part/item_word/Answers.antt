use Rattle.std.proofs.Common.{rules}
use Rattle.client.specs.Laws.Part.{got_word_of}
use Rattle.client.proofs.part.item_word.Goals as goal

pub returns : goal.returns
returns c = search (got_word_of, rules)
