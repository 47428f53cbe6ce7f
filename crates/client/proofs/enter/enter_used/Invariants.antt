use Rattle.std.proofs.Common.{◌∷◌, length}
use Rattle.layout.specs.Sweep.{sweep}
use Rattle.client.specs.Layout.{client_words}
use Rattle.client.specs.Part.{Did}
use Rattle.client.specs.Enter.{enter_nth}
use Rattle.client.proofs.enter.enter_used.Given as goal

abbrev pub invariant-loop-number : goal.invariant-loop-number
invariant-loop-number l = Did (sweep client_words (enter_nth (length l.number-items ∷ l.number-items)) l.number-index) l.initial.part l.part
