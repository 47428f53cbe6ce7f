use Rattle.std.proofs.Common.{rules}
use Rattle.show.specs.Laws.Exits.{so_opened, so_refused, so_too_large}
use Rattle.show.proofs.opened.Goals as goal

pub returns-in-Ok-clause-came : goal.returns-in-Ok-clause-came
returns-in-Ok-clause-came c = search (so_opened, rules)

pub returns-in-BadSizes-clause-came : goal.returns-in-BadSizes-clause-came
returns-in-BadSizes-clause-came c = search (so_refused, rules)

pub returns-in_default : goal.returns-in_default
returns-in_default c = record {
  came = so_too_large _ _ _ _ _ _ _ _ _ c.open.ensures.value c.open.ensures.words c.in-Err.refusal c.in-Err.is c.bad.result c.in_default.not-BadSizes c.bad.ensures.show_value c.bad.ensures.printed;
  short = c.bad.ensures.short;
}
