use Rattle.std.proofs.Common.{rules}
use Rattle.show.specs.Feed.{next_byte}
use Rattle.show.specs.Laws.Exits.{nothing_printed}
use Rattle.show.proofs.byte.Goals as goal

pub returns-then-is_ended-clause-came : goal.returns-then-is_ended-clause-came
unfolding next_byte
returns-then-is_ended-clause-came c = search (nothing_printed, rules)

pub returns-then-byte-eq10-clause-came : goal.returns-then-byte-eq10-clause-came
unfolding next_byte
returns-then-byte-eq10-clause-came c = search rules

pub returns-clause-came : goal.returns-clause-came
unfolding next_byte
returns-clause-came c = search (nothing_printed, rules)
