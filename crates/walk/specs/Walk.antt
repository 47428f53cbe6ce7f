-- The walk of a plan as a work step tells it, and what comes of a question.
use Rattle.std.specs.Prelude.{Bool, true, false, cond, ◌&&◌, not, List, [], ℕ, ◌+◌, ◌-◌, ltb, length, take, Result, Ok, Err}
use Rattle.nodes.specs.Name.{server_of}
use Rattle.operations.specs.Object.{meta, node, flag, Ask, object, vector, fetched, reason, Writes}
use Rattle.operations.specs.Entry.{Entries}
use Rattle.operations.specs.Path.{TreePlan}
use Rattle.walk.specs.declared.walk.Stop.{Stop}
use Rattle.walk.specs.declared.walk.Stop.TheVariants.{LacksMeta, LacksNode, LacksVector, Refused, Aborts}
use Rattle.walk.specs.declared.walk.Answer.{Answer}
use Rattle.client.specs.declared.part.Set.TheVariants.{Reads}
use Rattle.client.specs.Layout.{ClientWord, limit}
use Rattle.client.specs.Sets.{count, find}
use Rattle.client.specs.Have.{have, broken}
use Rattle.client.specs.Commit.{is_at}
use Rattle.client.specs.Run.{End, lacks, aborts, gives, Ran, ran, run}
use Rattle.plans.specs.Plan as P
use Rattle.client.specs.declared.part.Set.TheVariants as set

-- how far a walk has come: it goes on, it has ended before its answer, or it has its answer
pub data Course : Type 0 where
  Going : Course
  Ended : Stop → Course
  Answered : (a b : ℕ) → Course

-- as the code says it: what goes on comes with a value
abbrev pub course : {A : Type 0} → Result A Stop → Course
course (Ok x) = Going
course (Err s) = Ended s

-- an operation comes with its answer
abbrev pub answer_course : Result Answer Stop → Course
answer_course (Ok r) = Answered r.a r.b
answer_course (Err s) = Ended s

-- the value, and d where the walk has ended
abbrev pub ok_or : {A : Type 0} → A → Result A Stop → A
ok_or d (Ok x) = x
ok_or d (Err s) = d

-- how a walk ends, the copies that it used, what it would write, and the pairs of its answer
pub record Told : Type 0 where
  pub course : Course
  pub used : List ℕ
  pub writes : Writes
  pub pairs : Entries

abbrev pub told : Course → List ℕ → Told
told s us = record { course = s; used = us; writes = []; pairs = [] }

abbrev pub goes : Course → Bool
goes Going = true
goes (Ended s) = false
goes (Answered a b) = false

abbrev pub is_answer : Course → Bool
is_answer Going = false
is_answer (Ended s) = false
is_answer (Answered a b) = true

-- the walk goes on, or has come to the answer
abbrev pub stands : Course → Bool
stands Going = true
stands (Ended s) = false
stands (Answered a b) = true

-- "Metadata is fetched from the first server not absent", "a node from its home, a vector from its server": a flag is in its vector
abbrev pub lack : Ask → Stop
lack (object meta) = LacksMeta
lack (object (node n)) = LacksNode n
lack (object (flag n)) = LacksVector (server_of n)
lack (vector s) = LacksVector s
lack (fetched s) = LacksVector s

-- Object 97 from the copies is entered as the others are. The next question, or the answer, finds that it is one too many; a
-- failure at once leaves it among what was read.
abbrev pub over_run : TreePlan → List ℕ → Ran
over_run (P.ask a k) us = ran (aborts 4) (take (length us - 1) us)
over_run (P.done r) us = ran (aborts 4) (take (length us - 1) us)
over_run (P.fail y) us = ran (aborts (reason y)) us

module _ (m : ClientWord → ℕ) where
  -- an object that neither set has
  abbrev pub fresh : ℕ → Bool
  fresh x = not (is_at (find m set.Writes x)) && not (is_at (find m Reads x))

  abbrev pub room : ℕ
  room = limit Reads - count m Reads

  unfoldable pub over : List ℕ → Bool
  over us = ltb (limit Reads) (count m Reads + length us)

module _ (slots : ℕ) (m : ClientWord → ℕ) where
  unfoldable pub worked : TreePlan → List ℕ → Ran
  worked p us = cond (over m us) (over_run p us) (run (have slots m) (fresh m) (room m) p us)

  abbrev pub tell : End → List ℕ → Told
  tell (lacks a) us = told (Ended (cond (broken slots m a) Refused (lack a))) us
  tell (aborts r) us = told (Ended (Aborts r)) us
  tell (gives a w) us = record { course = Answered a.0 a.1; used = us; writes = w; pairs = a.2 }

  unfoldable pub walked : TreePlan → List ℕ → Told
  walked p us = tell (worked p us).how (worked p us).used

-- with the copies us the walk has ended, or goes on
abbrev pub carry : Course → List ℕ → (List ℕ → Told) → Told
carry s us f = cond (goes s) (f us) (told s us)
