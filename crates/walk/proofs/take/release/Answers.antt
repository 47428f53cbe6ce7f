use Rattle.std.proofs.Common.{rules}
use Rattle.walk.specs.Laws.Take.{release_exits}
use Rattle.walk.proofs.take.release.Goals as goal

pub free_flag-requires : goal.free_flag-requires
free_flag-requires c =
    let h = c.in_ok-see_flag.ensures in search (release_exits, rules)

pub free_node-requires : goal.free_node-requires
free_node-requires c =
    let h = c.in_ok-see_flag.ensures in search (release_exits, rules)

pub returns : goal.returns
returns c =
    let h = c.in_ok-see_flag.ensures in search (release_exits, rules)
