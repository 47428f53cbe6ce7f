-- WRONG ENGINES that demand 3 shuts out, of document 01's claim (c): "one that answers "none" to each lookup, .. and one that performs a
-- transaction's first operation and feigns the others; demand 3 shuts out the fourth and the last again". Each is this engine but for one thing.
use Rattle.std.specs.Prelude.{Bool, cond, ◌&&◌, eqb, ltb}
use Rattle.client.specs.Layout.{op_number, writes_count}
use Rattle.client.specs.Part.{put_word}
use Rattle.steps.specs.declared.outcome.Outcome.{Outcome}
use Rattle.steps.specs.declared.outcome.Outcome.TheVariants.{Answered}
use Rattle.steps.specs.Outcome.{line}
use Rattle.steps.specs.Whole.{client}
use Rattle.steps.specs.Steps.{in_client, step}
use Rattle.steps.specs.Taken.{Engine}
use Rattle.demand.specs.Demand.{MeetsDemand3}

-- "3 answered"
abbrev answers? : Outcome → Bool
answers? o = eqb (line o).outcome 3

-- "answers "none" to each lookup": where op 2 waits, the answer is a 0 and b 0, whatever there is
abbrev pub finds_none : Engine
finds_none z k room m =
    let d = step z k room m in
    record { outcome = cond (answers? d.outcome && eqb (m (client k.client op_number)) 2) (Answered 0 0) d.outcome; stores = d.stores; pairs = d.pairs }

-- "performs a transaction's first operation and feigns the others": where its transaction has written, an operation is answered as it should be,
-- and of what it stores all is left out but that none waits any more
abbrev pub feigns_later : Engine
feigns_later z k room m =
    let d = step z k room m in
    cond (answers? d.outcome && ltb 0 (m (client k.client writes_count)))
    (record { outcome = d.outcome; stores = in_client z m k.client (put_word op_number 0); pairs = d.pairs }) d

-- THE CLAIM: neither meets demand 3
pub record ShutOut : Type 0 where
  pub finding_none : ¬ MeetsDemand3 finds_none
  pub feigning_later : ¬ MeetsDemand3 feigns_later
