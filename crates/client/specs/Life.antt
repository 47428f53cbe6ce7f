-- The life of a transaction in a client's part.
use Rattle.std.specs.Prelude.{List, [], ◌∷◌, ℕ, replicate}
use Rattle.client.specs.Part.{PartStep, ◌then◌, put_fields, put_word}
use Rattle.client.specs.Copies.{drop_all}
use Rattle.client.specs.Drops.{drop_used}
use Rattle.client.specs.Layout.{phase, op_number, lost, op_fields, course_fields, no_transaction}

-- a transaction begins (open) or has ended (none): no operation waits, and the sets of servers, the mark of a lost client
-- and both counts are 0
unfoldable pub reset : ℕ → PartStep
reset p = put_word phase p then put_word op_number 0 then put_fields course_fields (replicate 7 0)

-- "1 give an operation"
unfoldable pub give_part : ℕ → ℕ → ℕ → ℕ → PartStep
give_part op key value server = put_fields op_fields (op ∷ key ∷ value ∷ server ∷ [])

-- "An abort .. drops copies of all objects read", those that came into use in this step included
abbrev pub abort_part : List ℕ → PartStep
abort_part us = drop_used us then reset no_transaction

-- "A decided transaction of a lost client is still applied": it is marked, and its copies go
unfoldable pub lose_part : PartStep
lose_part = put_word lost 1 then drop_all
