use Rattle.std.proofs.Common.{rules, arith}
use Rattle.show.specs.Laws.Exits.{none_fed, next_fed}
use Rattle.show.proofs.feed.Goals as goal

pub loop-b-init : goal.loop-b-init
loop-b-init c = record { short = omega arith; came = search (none_fed, rules) }

pub loop-b-preserved : goal.loop-b-preserved
loop-b-preserved c = record { short = omega arith; came = search (next_fed, rules) }
