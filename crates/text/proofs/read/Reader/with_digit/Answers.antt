use Rattle.std.proofs.Common.{rules}
use Rattle.text.proofs.Laws.Exits.{digit_spoils, digit_grows}
use Rattle.text.proofs.read.Reader.with_digit.Goals as goal

pub returns-then-digit-so_far : goal.returns-then-digit-so_far
returns-then-digit-so_far c = search (digit_spoils, rules)

pub returns : goal.returns
returns c = search (digit_grows, rules)
