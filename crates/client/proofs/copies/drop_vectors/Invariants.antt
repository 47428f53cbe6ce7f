use Rattle.layout.specs.Sweep.{sweep}
use Rattle.client.specs.Layout.{client_words}
use Rattle.client.specs.Part.{Did, drop_vector}
use Rattle.client.proofs.copies.drop_vectors.Given as goal

abbrev pub invariant-loop-s : goal.invariant-loop-s
invariant-loop-s l = Did (sweep client_words drop_vector l.s) l.initial.part l.part
