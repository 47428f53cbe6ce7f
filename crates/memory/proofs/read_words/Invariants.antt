use Rattle.std.proofs.Common.{◌≡◌, take, drop}
use Rattle.memory.specs.Word.{view}
use Rattle.memory.proofs.read_words.Given as goal

abbrev pub invariant-loop-i : goal.invariant-loop-i
invariant-loop-i l = take l.i l.out ≡ take l.i (drop l.at (view l.s))
