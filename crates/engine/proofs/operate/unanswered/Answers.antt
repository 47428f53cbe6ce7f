use Rattle.std.proofs.Common.{rules}
use Rattle.engine.specs.Laws.Work.{meta_checking, node_checking, node_there, vector_checking, work_refused, work_aborts, work_meta, work_node, work_vector, none_written}
use Rattle.engine.proofs.operate.unanswered.Goals as goal

pub fetch_meta-requires : goal.fetch_meta-requires
fetch_meta-requires c = search (meta_checking, rules)

pub fetch_node-requires : goal.fetch_node-requires
fetch_node-requires c = search (node_checking, node_there, rules)

pub fetch_vector-requires : goal.fetch_vector-requires
fetch_vector-requires c = search (vector_checking, rules)

pub returns-in-LacksMeta-clause-comes : goal.returns-in-LacksMeta-clause-comes
returns-in-LacksMeta-clause-comes c = work_meta c.args.sizes _ c.args.client (search rules) (search rules) (search rules) (search rules) (search rules) _ _ c.requires.stopped _ _ (search rules) c.fetch_meta.ensures

pub returns-in-LacksMeta-clause-pairs : goal.returns-in-LacksMeta-clause-pairs
returns-in-LacksMeta-clause-pairs c = search (none_written, rules)

pub returns-in-LacksNode-clause-comes : goal.returns-in-LacksNode-clause-comes
returns-in-LacksNode-clause-comes c = work_node c.args.sizes _ c.args.client (search rules) (search rules) (search rules) (search rules) (search rules) _ _ c.requires.stopped _ _ _ (search rules) c.fetch_node.ensures

pub returns-in-LacksNode-clause-pairs : goal.returns-in-LacksNode-clause-pairs
returns-in-LacksNode-clause-pairs c = search (none_written, rules)

pub returns-in-LacksVector-clause-comes : goal.returns-in-LacksVector-clause-comes
returns-in-LacksVector-clause-comes c = work_vector c.args.sizes _ c.args.client (search rules) (search rules) (search rules) (search rules) (search rules) _ _ c.requires.stopped _ _ _ (search rules) c.fetch_vector.ensures

pub returns-in-LacksVector-clause-pairs : goal.returns-in-LacksVector-clause-pairs
returns-in-LacksVector-clause-pairs c = search (none_written, rules)

pub returns-in-Refused-clause-comes : goal.returns-in-Refused-clause-comes
returns-in-Refused-clause-comes c = work_refused c.args.sizes _ c.args.client (search rules) (search rules) (search rules) (search rules) (search rules) _ _ c.requires.stopped (search rules)

pub returns-in-Refused-clause-pairs : goal.returns-in-Refused-clause-pairs
returns-in-Refused-clause-pairs c = search (none_written, rules)

pub returns-in-Aborts-clause-comes : goal.returns-in-Aborts-clause-comes
returns-in-Aborts-clause-comes c = work_aborts c.args.sizes _ c.args.client (search rules) (search rules) (search rules) (search rules) (search rules) _ _ c.requires.stopped _ _ _ (search rules) c.abort.ensures

pub returns-in-Aborts-clause-pairs : goal.returns-in-Aborts-clause-pairs
returns-in-Aborts-clause-pairs c = search (none_written, rules)
