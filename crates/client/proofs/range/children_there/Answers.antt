use Rattle.std.proofs.Common.{rules, ◌+◌, take, tests}
use Rattle.std.proofs.lemmas.Iterator.{YieldsList-from_slice}
use Rattle.std.proofs.lemmas.Iterator.Search.{all_from_yields_List}
use Rattle.client.specs.Record.{in_store}
use Rattle.client.specs.Laws.Record.{not_inner, all_children}
use Rattle.client.proofs.range.children_there.Goals as goal

pub returns-then-n-ne2 : goal.returns-then-n-ne2
returns-then-n-ne2 c = search (not_inner, rules)

pub returns-else-n-ne2 : goal.returns-else-n-ne2
returns-else-n-ne2 c =
    let l = take (c.args.n.count + 1) c.args.n.slots in
    all_children c.args.slots c.args.n c.all.result c.if-n-ne2.false
    (all_from_yields_List (in_store c.args.slots) _ _ c.all.result c.all.ensures.ran (YieldsList-from_slice l cc) (λ x b q k. search (rules, tests)))
