use Rattle.std.proofs.Common.{rules}
use Rattle.client.specs.Laws.Enter.{nth_written}
use Rattle.client.proofs.enter.write_nth.Goals as goal

pub returns : goal.returns
returns c = search (nth_written, rules)
