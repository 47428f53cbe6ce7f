use Rattle.std.proofs.Common.{rules, sym, ◌∙◌}
use Rattle.steps.proofs.Laws.Taken.{fields_are_words}
use Rattle.steps.proofs.Laws.Refused.{some_number}
use Rattle.kinds.specs.Laws.Refusal.{none_holds}
use Rattle.engine.specs.Laws.Step.{Stands, short_stands, shut_stands, open_stands}
use Rattle.engine.specs.Laws.Reached.{step_goes_on}
use Rattle.steps.specs.declared.outcome.Outcome.TheVariants.{Refused}
use Rattle.engine.proofs.step.step.Goals as goal

pub returns-then-bytes-lt64 : goal.returns-then-bytes-lt64
returns-then-bytes-lt64 c =
    let a = c.args in
    let s : Stands a.mem.now a.out.now a.step (Refused 1) a.mem.now a.out.now = short_stands _ _ _ c.if-bytes-lt64.true in
    record {
      value = s.outcome;
      words = s.words;
      output = s.output;
      reached = step_goes_on _ _ _ _ _ _ (search (fields_are_words, rules)) (search rules) s;
    }

pub returns-in-Err : goal.returns-in-Err
returns-in-Err c =
    let a = c.args in
    let s : Stands a.mem.now a.out.now a.step (Refused c.from.result) a.mem.now a.out.now =
    shut_stands _ _ _ c.head-sizes.result c.head-sizes.ensures _ (c.from.ensures ∙ c.in-Err.ensures) (λ e. some_number c.in-Err.refusal (sym c.from.ensures ∙ e)) in
    record {
      value = s.outcome;
      words = s.words;
      output = s.output;
      reached = step_goes_on _ _ _ _ _ _ (search (fields_are_words, rules)) (search rules) s;
    }

pub in_store-requires : goal.in_store-requires
in_store-requires c = search (none_holds, rules)

pub returns : goal.returns
returns c =
    let a = c.args in
    let s : Stands a.mem.now a.out.now a.step c.in_store.result c.in_store.new.mem c.in_store.new.out =
    open_stands _ _ _ c.head-sizes.result c.head-sizes.ensures _ _ _ c.in_default.ensures c.in_store.ensures.comes c.in_store.ensures.output in
    record {
      value = s.outcome;
      words = s.words;
      output = s.output;
      reached = step_goes_on _ _ _ _ _ _ (search (fields_are_words, rules)) (search rules) s;
    }
