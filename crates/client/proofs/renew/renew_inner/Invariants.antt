use Rattle.layout.specs.Sweep.{sweep}
use Rattle.client.specs.Layout.{client_words}
use Rattle.client.specs.Part.{Did}
use Rattle.client.specs.Renew.{renew_nth}
use Rattle.client.proofs.renew.renew_inner.Given as goal

abbrev pub invariant-loop-i : goal.invariant-loop-i
invariant-loop-i l = Did (sweep client_words renew_nth l.i) l.initial.part l.part
