use Rattle.std.proofs.Common.{rules}
use Rattle.client.specs.Laws.Part.{count_reads, count_writes, count_copies}
use Rattle.client.proofs.part.count.Goals as goal

pub returns-in-Reads-clause-value : goal.returns-in-Reads-clause-value
returns-in-Reads-clause-value c = search (count_reads, rules)

pub returns-in-Writes-clause-value : goal.returns-in-Writes-clause-value
returns-in-Writes-clause-value c = search (count_writes, rules)

pub returns-in-Copies-clause-value : goal.returns-in-Copies-clause-value
returns-in-Copies-clause-value c = search (count_copies, rules)
