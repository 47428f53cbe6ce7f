use Rattle.std.proofs.Common.{rules}
use Rattle.client.specs.Laws.Copies.{meta_fetched}
use Rattle.client.proofs.fetched.fetched_meta.Goals as goal

pub returns : goal.returns
returns c = search (meta_fetched, rules)
