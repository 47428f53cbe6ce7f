use Rattle.std.proofs.Common.{rules}
use Rattle.client.specs.Laws.Look.{flag_lacking, flag_there}
use Rattle.client.proofs.lookup.flag_copy.Goals as goal

pub returns-then-vector_word-eq0 : goal.returns-then-vector_word-eq0
returns-then-vector_word-eq0 c = search (flag_lacking, rules)

pub returns : goal.returns
returns c = search (flag_there, rules)
