use Rattle.std.proofs.Common.{◌≡◌, take}
use Rattle.std.proofs.lemmas.List.Edits.{sets}
use Rattle.memory.specs.Word.{view}
use Rattle.memory.proofs.write_words.Given as goal

abbrev pub invariant-loop-i : goal.invariant-loop-i
invariant-loop-i l = view l.s ≡ sets (view l.initial.s) l.at (take l.i l.from)
