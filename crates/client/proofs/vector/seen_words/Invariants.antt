use Rattle.client.specs.Sets.{held}
use Rattle.client.specs.Laws.Vectors.{Counting}
use Rattle.client.proofs.vector.seen_words.Given as goal

abbrev pub invariant-loop-i : goal.invariant-loop-i
invariant-loop-i l = Counting (held l.part) l.s l.i-end l.words l.i
