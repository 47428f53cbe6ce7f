use Rattle.std.proofs.Common.{rules}
use Rattle.client.specs.Laws.Commit.{home_inner, home_added, home_outside}
use Rattle.client.proofs.commit.with_home.Goals as goal

pub returns-then-is_inner : goal.returns-then-is_inner
returns-then-is_inner c = search (home_inner, rules)

pub returns-then-home-lt-SERVERS : goal.returns-then-home-lt-SERVERS
returns-then-home-lt-SERVERS c = search (home_added, rules)

pub returns : goal.returns
returns c = search (home_outside, rules)
