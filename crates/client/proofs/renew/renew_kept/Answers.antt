use Rattle.std.proofs.Common.{rules}
use Rattle.client.specs.Laws.Renew.{lost_kept, kept_renewed}
use Rattle.client.proofs.renew.renew_kept.Goals as goal

pub returns-then-get_field-ne1 : goal.returns-then-get_field-ne1
returns-then-get_field-ne1 c = search (kept_renewed, rules)

pub returns-else-get_field-ne1 : goal.returns-else-get_field-ne1
returns-else-get_field-ne1 c = search (lost_kept, rules)
