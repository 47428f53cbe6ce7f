-- How a walk stops is how its work step ends.
use Rattle.std.specs.Prelude.{◌≡◌, List, ◌∷◌, ◌++◌, ℕ, ◌≤◌, ◌<◌, length}
use Rattle.walk.specs.declared.walk.Stop.TheVariants.{Refused, Aborts}
use Rattle.client.specs.Layout.{ClientWord, op_number, op_value, op_server, reads_count, writes_count, limit}
use Rattle.client.specs.Lent.{InUse, used_in}
use Rattle.client.specs.Work.{Worked, refused, fetches, aborted, answers, worked}
use Rattle.walk.specs.Walk.{Course, Ended, Answered, lack}
use Rattle.client.specs.Work as C
use Rattle.client.specs.declared.part.Set.TheVariants.{Reads, Writes}
use Rattle.client.specs.Bounds.{most_servers, most_listed}

-- an operation waits; what refusals 9 and 10 have judged
pub record Waiting (m : ClientWord → ℕ) : Type 0 where
  pub some : m op_number ≡ 0 → ⊥
  pub known : m op_number ≤ 7
  pub moved : m op_number ≡ 6 → m op_server < most_servers
  pub listed : m op_number ≡ 7 → (1 ≤ m op_value) × (m op_value ≤ most_listed)
  pub reads : m reads_count ≤ limit Reads
  pub writes : m writes_count ≤ limit Writes

-- how the work step ends, as the walk stops
abbrev pub stop_of : Worked → Course
stop_of refused = Ended Refused
stop_of (fetches a) = Ended (lack a)
stop_of (aborted y) = Ended (Aborts y)
stop_of (answers a w) = Answered a.0 a.1

-- the walk has ended as the work step does, with the copies that it used
pub record Stopped (slots : ℕ) (m : ClientWord → ℕ) (s : Course) (u : List ℕ) : Type 0 where
  pub stop : s ≡ stop_of (worked slots m)
  pub used : used_in u ≡ (C.walked slots m).used
  pub in_use : InUse u

-- the lent list u₀ as it is left: the count of the items, the items, and a rest that is free: anything may stand there, and nobody
-- reads it. The list keeps its length
pub record Filled (u₀ items u : List ℕ) : Type 0 where
  pub rest : List ℕ
  pub is : u ≡ length items ∷ items ++ rest
  pub kept : length u ≡ length u₀
