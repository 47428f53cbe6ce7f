use Rattle.layout.specs.Sweep.{sweep}
use Rattle.client.specs.Layout.{client_words}
use Rattle.client.specs.Part.{Did}
use Rattle.client.specs.Copies.{drop_read}
use Rattle.client.proofs.copies.drop_reads.Given as goal

abbrev pub invariant-loop-i : goal.invariant-loop-i
invariant-loop-i l = Did (sweep client_words drop_read l.i) l.initial.part l.part
