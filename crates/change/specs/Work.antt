-- The work step of an operation that writes: it is walked, then come the last questions.
use Rattle.std.specs.Prelude.{◌≡◌, Bool, true, false, cond, List, [], ℕ, ◌≤◌, eqb, length, get_or}
use Rattle.operations.specs.Object.{Ans, Writes}
use Rattle.client.specs.Layout.{ClientWord}
use Rattle.client.specs.Lent.{LentMut, Entry, OwnFits, own_list}
use Rattle.client.specs.Answered.{entered}
use Rattle.client.specs.Work.{answers, worked}
use Rattle.walk.specs.declared.operation.Update.{Update}
use Rattle.walk.specs.declared.operation.Update.TheVariants.{Insert, Delete, Migrate}
use Rattle.walk.specs.declared.walk.Stop.TheVariants.{Refused, Aborts}
use Rattle.client.specs.Bounds.{own_room, used_room}
use Rattle.walk.specs.Walk.{Course, Ended}
use Rattle.walk.specs.Stopped.{Stopped, Filled}
use Rattle.client.specs.Work as C

-- "Migrate moves a node"; insert and delete begin at a leaf
abbrev pub moves : Update → Bool
moves Insert = false
moves Delete = false
moves Migrate = true

-- both lists are empty
pub record Ready (x u : List ℕ) : Type 0 where
  pub own_long : own_room ≤ length x
  pub own_none : get_or x 0 0 ≡ 0
  pub used_long : used_room ≤ length u
  pub used_none : get_or u 0 0 ≡ 0

-- how an answer stands after the last questions, by their reason; 10 is the refusal
unfoldable pub judged : Course → ℕ → Course
judged s r = cond (eqb r 0) s (cond (eqb r 10) (Ended Refused) (Ended (Aborts r)))

-- the walk has stopped as the work step ends: a lent list has the copies that it used, and with an answer l are the writes that enter; it has no pairs
pub record Enters (slots : ℕ) (m : ClientWord → ℕ) (s : Course) (l : List Entry) (u₀ u : List ℕ) : Type 0 where
  pub stopped : Stopped slots m s u
  pub filled : Filled u₀ (C.walked slots m).used u
  pub own : (a : Ans) (w : Writes) → worked slots m ≡ answers a w → l ≡ entered w
  pub unlisted : (a : Ans) (w : Writes) → worked slots m ≡ answers a w → a.2 ≡ []

-- and where these stand in a lent list too: what lies behind them, and without an answer all of that list, is free: anything may
-- stand there, and nobody reads it. It keeps its length
pub record Works (slots : ℕ) (m : ClientWord → ℕ) (s : Course) (x₀ u₀ x u : List ℕ) : Type 0 where
  pub enters : Enters slots m s (own_list x) u₀ u
  pub fits : (a : Ans) (w : Writes) → worked slots m ≡ answers a w → OwnFits x
  pub own_same_length : length x ≡ length x₀

-- as a contract promises it of the lists that are lent
abbrev pub WorksOn : ℕ → (ClientWord → ℕ) → Course → LentMut → LentMut → Type 0
WorksOn slots m s own used = Works slots m s own.entry.now used.entry.now own.exit.now used.exit.now
