use Rattle.std.proofs.Common.{rules}
use Rattle.walk.specs.Laws.Vector.{vector_exits}
use Rattle.walk.proofs.search.ask_vector.Goals as goal

pub pop_used-requires : goal.pop_used-requires
pop_used-requires c = search (vector_exits, rules)

pub returns-then-over : goal.returns-then-over
returns-then-over c = search (vector_exits, rules)

pub returns-then-not-vector_fits : goal.returns-then-not-vector_fits
returns-then-not-vector_fits c = search (vector_exits, rules)

pub returns-then-not-has_vector : goal.returns-then-not-has_vector
returns-then-not-has_vector c = search (vector_exits, rules)

pub returns : goal.returns
returns c = search (vector_exits, rules)
