use Rattle.layout.specs.Sweep.{sweep}
use Rattle.client.specs.Layout.{client_words}
use Rattle.client.specs.Part.{Did}
use Rattle.client.specs.Enter.{write_nth}
use Rattle.client.proofs.enter.enter_writes.Given as goal

abbrev pub invariant-loop-i : goal.invariant-loop-i
invariant-loop-i l = Did (sweep client_words (write_nth l.own) l.i) l.initial.part l.part
