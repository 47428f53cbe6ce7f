use Rattle.std.proofs.Common.{rules}
use Rattle.client.specs.Laws.Renew.{meta_renewed, meta_kept}
use Rattle.client.proofs.renew.renew_meta.Goals as goal

pub returns-in-Some : goal.returns-in-Some
returns-in-Some c = search (meta_renewed, rules)

pub returns-in_default : goal.returns-in_default
returns-in_default c = search (meta_kept, rules)
