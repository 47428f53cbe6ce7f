use Rattle.std.proofs.Common.{rules}
use Rattle.kinds.specs.Laws.Judge.{judge_exits}
use Rattle.kinds.proofs.judge.holders_fit.Goals as goal

pub returns-then-word-lt65536 : goal.returns-then-word-lt65536
returns-then-word-lt65536 c = search (judge_exits, rules)

pub has_transaction-requires : goal.has_transaction-requires
has_transaction-requires c = search (judge_exits, rules)

pub writes-requires : goal.writes-requires
writes-requires c = search (judge_exits, rules)

pub returns-then-has_transaction : goal.returns-then-has_transaction
returns-then-has_transaction c = search (judge_exits, rules)

pub returns : goal.returns
returns c = search (judge_exits, rules)
