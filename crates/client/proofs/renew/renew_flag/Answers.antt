use Rattle.std.proofs.Common.{rules}
use Rattle.client.specs.Laws.Renew.{flag_put, flag_other}
use Rattle.client.proofs.renew.renew_flag.Goals as goal

pub returns-in-Flag : goal.returns-in-Flag
returns-in-Flag c = search (flag_put, rules)

pub returns-in_default : goal.returns-in_default
returns-in_default c = flag_other _ _ _ c.number_at.ensures _ c.from.ensures.bounds c.in_default.not-Flag
