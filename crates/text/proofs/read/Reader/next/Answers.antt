use Rattle.std.proofs.Common.{rules}
use Rattle.text.proofs.Laws.Exits.{next_space, next_below, next_above, next_digit}
use Rattle.text.proofs.read.Reader.next.Goals.{in_default-via-then-byte-lt48, in_default-via-else-byte-lt48+else-byte-lt58}
use Rattle.text.proofs.read.Reader.next.Goals as goal

pub returns-in-32 : goal.returns-in-32
returns-in-32 c = search (next_space, rules)

pub returns-in-48-to-57 : goal.returns-in-48-to-57
returns-in-48-to-57 c = search (next_digit, rules)

pub returns-in_default : goal.returns-in_default
returns-in_default c =
    elim c.in_default.branch [
      | in_default-via-then-byte-lt48 w ↦ search (next_below, rules)
      | in_default-via-else-byte-lt48+else-byte-lt58 w ↦ search (next_above, rules)
    ]
