use Rattle.layout.specs.Sweep.{sweep}
use Rattle.client.specs.Layout.{client_words}
use Rattle.client.specs.Part.{Did}
use Rattle.client.specs.Copies.{empty_place}
use Rattle.client.proofs.copies.drop_nodes.Given as goal

abbrev pub invariant-loop-i : goal.invariant-loop-i
invariant-loop-i l = Did (sweep client_words empty_place l.i) l.initial.part l.part
