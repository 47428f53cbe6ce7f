use mathlib.Core.List.{[]}
use Rattle.client.specs.Sets.{held}
use Rattle.change.specs.Laws.Up.{Rising}
use Rattle.change.proofs.up.rise.Given as goal

abbrev pub invariant-loop-level : goal.invariant-loop-level
invariant-loop-level l = Rising l.slots (held l.part) l.initial.own l.initial.used (l.answer.a, l.answer.b, []) l.top l.path l.leaf l.fn.content l.name l.n l.level l.own l.used
