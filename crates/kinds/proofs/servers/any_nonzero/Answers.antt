use Rattle.std.proofs.Common.{rules}
use Rattle.client.specs.Laws.Commit.{any_none, any_absent}
use Rattle.kinds.specs.Laws.Servers.{word_free, word_taken}
use Rattle.kinds.proofs.servers.any_nonzero.Goals as goal

pub returns-then-words-i-ne0 : goal.returns-then-words-i-ne0
returns-then-words-i-ne0 c = search (word_taken, rules)

pub loop-i-init : goal.loop-i-init
loop-i-init c = any_none _

pub loop-i-preserved : goal.loop-i-preserved
loop-i-preserved c = search (word_free, rules)

pub returns : goal.returns
returns c = search (any_absent, rules)
