use Rattle.std.proofs.Common.{take}
use Rattle.client.specs.Part.{Did}
use Rattle.client.specs.Drops.{drop_each}
use Rattle.client.proofs.copies.drop_each.Given as goal

abbrev pub invariant-loop-number : goal.invariant-loop-number
invariant-loop-number l = Did (drop_each (take l.number-index l.number-items)) l.initial.part l.part
