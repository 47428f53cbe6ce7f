-- Demand 3, what is compared: "Its transactions are read from the steps and their outcomes alone".
use Rattle.std.specs.Prelude.{◌≡◌, true, cond, ◌||◌, List, [], ◌∷◌, ℕ, eqb}
use Rattle.std.proofs.Math.Decide.{ℕ_discrete}
use Rattle.base.specs.Update.{upd}
use Rattle.operations.specs.Object.{Ans}
use Rattle.operations.specs.Map.{Map, Op, insert, lookup, delete, next, previous, migrate, list, answer, compared, map_after}
use Rattle.client.specs.Work.{op_of}
use Rattle.steps.specs.Output.{pairs_at}
use Rattle.steps.specs.declared.step.Step.{Step}
use Rattle.steps.specs.declared.outcome.Outcome.{Outcome}
use Rattle.steps.specs.declared.outcome.Outcome.TheVariants.{Refused, Done, Fetched, Answered, Prepared, Decided, Applied, Committed, Aborted}
use Rattle.steps.specs.Taken.{Taken}

-- an operation with its answer
pub record Told : Type 0 where
  pub op : Op
  pub ans : Ans

-- What steps and outcomes show: for each client the operation given last, the operations answered in its transaction, the
-- last first; and the decided transactions, the last first.
pub record Ledger : Type 0 where
  pub given : ℕ → Op
  pub undecided : ℕ → List Told
  pub decided : List (List Told)

-- nothing seen. Before a client's first give nothing is answered, so its lookup 0 enters no transaction
abbrev pub blank : Ledger
blank = record { given = λ c. lookup 0; undecided = λ c. []; decided = [] }

-- client c has no operation answered: its transaction begins, or has been dropped
abbrev pub clears : Ledger → ℕ → Ledger
clears L c = record { given = L.given; undecided = upd ℕ_discrete L.undecided c []; decided = L.decided }

-- client c is given the operation p
abbrev pub notes_op : Ledger → ℕ → Op → Ledger
notes_op L c p = record { given = upd ℕ_discrete L.given c p; undecided = L.undecided; decided = L.decided }

-- the operation given to client c last is answered by a
abbrev pub notes_answer : Ledger → ℕ → Ans → Ledger
notes_answer L c a = record { given = L.given; undecided = upd ℕ_discrete L.undecided c (record { op = L.given c; ans = a } ∷ L.undecided c); decided = L.decided }

-- client c's transaction is decided: it leaves the undecided ones
abbrev pub notes_decision : Ledger → ℕ → Ledger
notes_decision L c = record { given = L.given; undecided = upd ℕ_discrete L.undecided c []; decided = L.undecided c ∷ L.decided }

-- an operation's answer as a tablet sees it: a and b, and of a list its pairs "from the output as the answering step left it"
abbrev pub seen : Op → ℕ → ℕ → List ℕ → Ans
seen (insert k v) a b out = (a, b, [])
seen (lookup k) a b out = (a, b, [])
seen (delete k) a b out = (a, b, [])
seen (next k) a b out = (a, b, [])
seen (previous k) a b out = (a, b, [])
seen (migrate n s) a b out = (a, b, [])
seen (list k n) a b out = (a, b, pairs_at a out)

-- "a begin starts its client's transaction, a give adds an op, key and value"; a change of the servers is no transaction's
abbrev pub note_done : Ledger → Step → Ledger
note_done L k =
    cond (eqb k.kind 0) (clears L k.client)
    (cond (eqb k.kind 1) (notes_op L k.client (op_of k.op k.key k.value k.server)) L)

-- "a commit or prepare with outcome 5 or 7 decides it"
abbrev pub note_decided : Ledger → Step → Ledger
note_decided L k = cond (eqb k.kind 3 || eqb k.kind 4) (notes_decision L k.client) L

-- "outcome 3 adds that operation's answer, a and b, outcome 8 drops the transaction .. ; refused steps do nothing"; out are the words of the
-- output after the step
abbrev pub note : Ledger → Step → List ℕ → Outcome → Ledger
note L k out (Refused n) = L
note L k out Done = note_done L k
note L k out (Fetched a b) = L
note L k out (Answered a b) = notes_answer L k.client (seen (L.given k.client) a b out)
note L k out (Prepared s) = L
note L k out Decided = note_decided L k
note L k out (Applied s) = L
note L k out Committed = note_decided L k
note L k out (Aborted y) = clears L k.client

-- of steps that were taken, front to back
unfoldable pub ledger_from : Ledger → List Taken → Ledger
ledger_from L [] = L
ledger_from L (t ∷ h) = ledger_from (note L t.step t.left t.outcome) h

-- the transactions decided by them, the last first
abbrev pub decided_in : List Taken → List (List Told)
decided_in h = (ledger_from blank h).decided

-- "The map is pairs by rising key." The map after a transaction
abbrev pub map_of : List Told → Map → Map
map_of [] m = m
map_of (t ∷ ts) m = map_after t.op (map_of ts m)

-- the map after all that were decided, empty at first
abbrev pub map_all : List (List Told) → Map
map_all [] = []
map_all (ts ∷ l) = map_of ts (map_all l)

-- each answer is the map's; migrate's "answer isn't compared"
abbrev pub Right : List Told → Map → Type 0
Right [] m = Unit {0}
Right (t ∷ ts) m = Right ts m × (compared t.op ≡ true → t.ans ≡ answer t.op (map_of ts m))

-- all decided transactions got the map's answers
abbrev pub RightAll : List (List Told) → Type 0
RightAll [] = Unit {0}
RightAll (ts ∷ l) = RightAll l × Right ts (map_all l)
