use Rattle.std.proofs.Common.{rules}
use Rattle.walk.specs.Laws.Ask.{seen_exits}
use Rattle.walk.proofs.walk.see_in_store.Goals as goal

pub returns-in_err-place-in-None : goal.returns-in_err-place-in-None
returns-in_err-place-in-None c = search (seen_exits, rules)

pub returns-in-Some : goal.returns-in-Some
returns-in-Some c = search (seen_exits, rules)

pub returns-in_ok-place-in-None : goal.returns-in_ok-place-in-None
returns-in_ok-place-in-None c = search (seen_exits, rules)
