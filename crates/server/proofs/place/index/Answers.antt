use Rattle.std.proofs.Common.{rules, ◌<◌, arith}
use Rattle.server.proofs.LayoutExits.{Cell, in_vector, in_node, in_flag, in_table, in_locks, indices}
use Rattle.server.proofs.place.index.Goals as goal

pub overflow_add-result : goal.overflow_add-result
overflow_add-result c = let bound : c.in-Vector.i < 16 = search (in_vector, rules) in omega arith

pub overflow_mul-result : goal.overflow_mul-result
overflow_mul-result c = let bound : Cell c.in-Node.k c.args.slots c.in-Node.j 33 = search (in_node, rules) in omega arith

pub overflow_add-result-in-Node : goal.overflow_add-result-in-Node
overflow_add-result-in-Node c = let bound : Cell c.in-Node.k c.args.slots c.in-Node.j 33 = search (in_node, rules) in omega arith

pub overflow_add-result-in-Node-2 : goal.overflow_add-result-in-Node-2
overflow_add-result-in-Node-2 c = let bound : Cell c.in-Node.k c.args.slots c.in-Node.j 33 = search (in_node, rules) in omega arith

pub overflow_mul-result-in-FlagLock : goal.overflow_mul-result-in-FlagLock
overflow_mul-result-in-FlagLock c = let bound : c.in-FlagLock.k < c.args.slots = search (in_flag, rules) in omega arith

pub overflow_add-result-in-FlagLock : goal.overflow_add-result-in-FlagLock
overflow_add-result-in-FlagLock c = let bound : c.in-FlagLock.k < c.args.slots = search (in_flag, rules) in omega arith

pub overflow_mul-result-in-Table : goal.overflow_mul-result-in-Table
overflow_mul-result-in-Table c = let bound : Cell c.in-Table.k c.args.slots c.in-Table.s 8 = search (in_table, rules) in omega arith

pub overflow_add-result-in-Table : goal.overflow_add-result-in-Table
overflow_add-result-in-Table c = let bound : Cell c.in-Table.k c.args.slots c.in-Table.s 8 = search (in_table, rules) in omega arith

pub overflow_add-result-in-Table-2 : goal.overflow_add-result-in-Table-2
overflow_add-result-in-Table-2 c = let bound : Cell c.in-Table.k c.args.slots c.in-Table.s 8 = search (in_table, rules) in omega arith

pub overflow_mul-result-in-NodeLock : goal.overflow_mul-result-in-NodeLock
overflow_mul-result-in-NodeLock c = let bound : Cell c.in-NodeLock.k c.args.slots c.in-NodeLock.s 8 = search (in_locks, rules) in omega arith

pub overflow_add-result-in-NodeLock : goal.overflow_add-result-in-NodeLock
overflow_add-result-in-NodeLock c = let bound : Cell c.in-NodeLock.k c.args.slots c.in-NodeLock.s 8 = search (in_locks, rules) in omega arith

pub overflow_add-result-in-NodeLock-2 : goal.overflow_add-result-in-NodeLock-2
overflow_add-result-in-NodeLock-2 c = let bound : Cell c.in-NodeLock.k c.args.slots c.in-NodeLock.s 8 = search (in_locks, rules) in omega arith

pub returns-in-Root : goal.returns-in-Root
returns-in-Root c = search (indices, rules)

pub returns-in-Version : goal.returns-in-Version
returns-in-Version c = search (indices, rules)

pub returns-in-States : goal.returns-in-States
returns-in-States c = search (indices, rules)

pub returns-in-MetadataLock : goal.returns-in-MetadataLock
returns-in-MetadataLock c = search (indices, rules)

pub returns-in-Vector : goal.returns-in-Vector
returns-in-Vector c = search (indices, rules)

pub returns-in-Node : goal.returns-in-Node
returns-in-Node c = search (indices, rules)

pub returns-in-FlagLock : goal.returns-in-FlagLock
returns-in-FlagLock c = search (indices, rules)

pub returns-in-Table : goal.returns-in-Table
returns-in-Table c = search (indices, rules)

pub returns-in-NodeLock : goal.returns-in-NodeLock
returns-in-NodeLock c = search (indices, rules)
