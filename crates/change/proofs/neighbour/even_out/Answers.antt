use Rattle.std.proofs.Common.{rules}
use Rattle.change.specs.Laws.Neighbour.{even_exits}
use Rattle.change.proofs.neighbour.even_out.Goals as goal

pub write_halves-requires-clause-left_lt_end_of_names : goal.write_halves-requires-clause-left_lt_end_of_names
write_halves-requires-clause-left_lt_end_of_names c = search (even_exits, rules)

pub write_halves-requires-clause-halves : goal.write_halves-requires-clause-halves
write_halves-requires-clause-halves c = search (even_exits, rules)

pub returns-then-m-gt7 : goal.returns-then-m-gt7
returns-then-m-gt7 c = search (even_exits, rules)

pub merge-requires-clause-few : goal.merge-requires-clause-few
merge-requires-clause-few c = search (even_exits, rules)

pub returns : goal.returns
returns c = search (even_exits, rules)
