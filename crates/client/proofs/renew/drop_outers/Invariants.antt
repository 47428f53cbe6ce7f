use Rattle.layout.specs.Sweep.{sweep}
use Rattle.client.specs.Layout.{client_words}
use Rattle.client.specs.Part.{Did}
use Rattle.client.specs.Renew.{drop_outer}
use Rattle.client.proofs.renew.drop_outers.Given as goal

abbrev pub invariant-loop-i : goal.invariant-loop-i
invariant-loop-i l = Did (sweep client_words drop_outer l.i) l.initial.part l.part
