-- The work step: the waiting operation's plan over what the client has, and the last questions before the answer.
use Rattle.std.specs.Prelude.{Bool, true, false, cond, ◌&&◌, ◌||◌, not, List, [], ◌∷◌, ℕ, zero, suc, ◌+◌, ◌-◌, eqb, leb, ltb}
use Rattle.nodes.specs.Found.{Found}
use Rattle.std.specs.Prelude.{Some, None}
use Rattle.operations.specs.Object.{Ask, Ans, Writes}
use Rattle.operations.specs.Map.{Op, insert, lookup, delete, next, previous, migrate, list}
use Rattle.operations.specs.Operation.{reading, all_fit?}
use Rattle.client.specs.Layout.{ClientWord, op_number, op_key, op_value, op_server, reads_count, writes_count, limit}
use Rattle.client.specs.Record.{last_version}
use Rattle.client.specs.Sets.{record_at, find}
use Rattle.client.specs.Have.{have, broken, copied}
use Rattle.client.specs.Run.{End, lacks, aborts, gives, Ran, run}
use Rattle.client.specs.Items.{has}
use Rattle.client.specs.Lent.{Entry}
use Rattle.client.specs.Answered.{entered}
use Rattle.client.specs.declared.part.Set.TheVariants as set
use Rattle.client.specs.Bounds.{last_node_number}

-- how a work step ends: refused by 10; or the first thing lacking, an abort's reason, the answer with the operation's writes
pub data Worked : Type 0 where
  refused : Worked
  fetches : Ask → Worked
  aborted : ℕ → Worked
  answers : Ans → Writes → Worked

-- "op 1 insert, 2 lookup, 3 delete, 4 next key above, 5 previous key below, 6 migrate (key is the node name)", and 7 list (value is the count). No
-- other number comes here: 0 means that none waits, and work is then refused by 9; a given one outside 1 to 7 is refused by 6, a stored one above 7 by 10
abbrev pub op_of : ℕ → ℕ → ℕ → ℕ → Op
op_of zero key value server = lookup key
op_of (suc zero) key value server = insert key value
op_of (suc (suc zero)) key value server = lookup key
op_of (suc (suc (suc zero))) key value server = delete key
op_of (suc (suc (suc (suc zero)))) key value server = next key
op_of (suc (suc (suc (suc (suc zero))))) key value server = previous key
op_of (suc (suc (suc (suc (suc (suc zero)))))) key value server = migrate key server
op_of (suc (suc (suc (suc (suc (suc (suc n))))))) key value server = list key value

module _ (m : ClientWord → ℕ) where
  -- the operation that waits
  abbrev pub waiting : Op
  waiting = op_of (m op_number) (m op_key) (m op_value) (m op_server)

  -- neither set has the object
  abbrev pub new : ℕ → Bool
  new x = not (has m set.Writes x) && not (has m set.Reads x)

  -- the version of an object that is read, or comes into use in this step; what is written is one of these
  abbrev pub version_in : ℕ → Found → ℕ
  version_in x (Some i) = (record_at m set.Reads i).version
  version_in x None = (copied m x).node.version

  -- refusal 10 for that version: it is one of 32 bits; "a written object's read" is there, or the object comes into use in this step
  abbrev pub version_there : ℕ → Found → Bool
  version_there x (Some i) = leb (record_at m set.Reads i).version last_version
  version_there x None = not (has m set.Writes x)

  -- how many of these objects are not in the write set yet
  unfoldable pub count_new : List Entry → ℕ
  count_new [] = 0
  count_new (e ∷ l) = cond (has m set.Writes e.0) (count_new l) (suc (count_new l))

  -- how many objects the write set would have
  abbrev pub writes_after : Writes → ℕ
  writes_after w = m writes_count + count_new (entered w)

  -- "8 a written version is 4,294,967,295": of metadata and nodes
  abbrev pub at_last_version : ℕ → Bool
  at_last_version x = leb x last_node_number && eqb (version_in x (find m set.Reads x)) last_version

  -- is one of these objects at the last version
  unfoldable pub any_at_last : List Entry → Bool
  any_at_last [] = false
  any_at_last (e ∷ l) = at_last_version e.0 || any_at_last l

  -- the versions of all of these objects are there, of metadata and nodes
  unfoldable pub versions_there : List Entry → Bool
  versions_there [] = true
  versions_there (e ∷ l) = (ltb last_node_number e.0 || version_there e.0 (find m set.Reads e.0)) && versions_there l

module _ (slots : ℕ) (m : ClientWord → ℕ) where
  -- what would be written is looked at once all is read: reason 3, then 4, then 8, for which the versions are read
  abbrev pub last_questions : Ans → Writes → Worked
  last_questions a w =
      cond (not (all_fit? w w)) (aborted 3)
      (cond (ltb (limit set.Writes) (writes_after m w)) (aborted 4)
      (cond (not (versions_there m (entered w))) refused
      (cond (any_at_last m (entered w)) (aborted 8) (answers a w))))

  -- how the step ends by the walk's end; what is lacking and can't be fetched is refused
  abbrev pub judge : End → Worked
  judge (lacks a) = cond (broken slots m a) refused (fetches a)
  judge (aborts y) = aborted y
  judge (gives a w) = last_questions a w

  -- the walk of the plan, with room for 96 objects in the read set, which has at most 96 (`fit_to_work`)
  unfoldable pub walked : Ran
  walked = run (have slots m) (new m) (limit set.Reads - m reads_count) (reading slots (waiting m)) []

  -- how the work step ends
  unfoldable pub worked : Worked
  worked = judge walked.how
