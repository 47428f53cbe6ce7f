use Rattle.std.proofs.Common.{rules, ◌<◌}
use Rattle.client.specs.Laws.Look.{sets_exits, sets_read, found_inside}
use Rattle.client.proofs.lookup.in_sets.Goals as goal

pub returns-in-Some : goal.returns-in-Some
returns-in-Some c = search (sets_exits, rules)

pub returns-in_err-i : goal.returns-in_err-i
returns-in_err-i c = search (sets_exits, rules)

pub returns : goal.returns
returns c =
    let i : c.in_ok-i.i < 96 = found_inside _ _ _ c.find-2.ensures.within c.in_ok-i.was in (
      sets_read c.args.part.now (search rules) c.args.number c.find.result c.find.ensures.value c.find-2.result c.in_default.is c.find-2.ensures.value c.in_ok-i.i
          c.record_start-2.result i c.in_ok-i.was c.record_start-2.ensures.value c.record_start-2.ensures.within,
      c.record_start-2.ensures.within,
    )
