use Rattle.std.proofs.Common.{rules, refl, sym, ◌∙◌}
use Rattle.steps.proofs.Laws.Refused.{some_number}
use Rattle.engine.specs.Laws.Step.{is_refused, is_short, is_ruled, client_there, passes}
use Rattle.engine.proofs.step.in_store.Goals as goal

pub returns-in-Err-clause-comes : goal.returns-in-Err-clause-comes
returns-in-Err-clause-comes c = (is_refused _ _ _ _ _ (c.from.ensures ∙ c.in-Err.ensures) (λ e. some_number c.in-Err.refused (sym c.from.ensures ∙ e))).0

pub returns-in-Err-clause-output : goal.returns-in-Err-clause-output
returns-in-Err-clause-output c = (is_refused _ _ _ _ _ (c.from.ensures ∙ c.in-Err.ensures) (λ e. some_number c.in-Err.refused (sym c.from.ensures ∙ e))).1

pub short_output-requires : goal.short_output-requires
short_output-requires c = (search rules, search (client_there, rules))

pub returns-then-short_output-clause-comes : goal.returns-then-short_output-clause-comes
returns-then-short_output-clause-comes c = (is_short _ _ _ _ c.args.step.client refl c.in_default.ensures _ c.short_output.ensures c.if-short_output.true).0

pub returns-then-short_output-clause-output : goal.returns-then-short_output-clause-output
returns-then-short_output-clause-output c = (is_short _ _ _ _ c.args.step.client refl c.in_default.ensures _ c.short_output.ensures c.if-short_output.true).1

pub by_kind-requires : goal.by_kind-requires
by_kind-requires c = record {
  store = c.requires;
  client = refl;
  kind = c.from-2.ensures;
  passed = passes _ _ _ c.args.out.now c.in_default.ensures;
  roomy = sym c.short_output.ensures ∙ c.if-short_output.false;
}

pub returns-clause-comes : goal.returns-clause-comes
returns-clause-comes c = (is_ruled _ _ _ _ c.args.step.client refl c.in_default.ensures _ c.short_output.ensures _ _ _ _ c.from-2.ensures c.if-short_output.false c.by_kind.ensures.comes c.by_kind.ensures.output).0

pub returns-clause-output : goal.returns-clause-output
returns-clause-output c = (is_ruled _ _ _ _ c.args.step.client refl c.in_default.ensures _ c.short_output.ensures _ _ _ _ c.from-2.ensures c.if-short_output.false c.by_kind.ensures.comes c.by_kind.ensures.output).1
