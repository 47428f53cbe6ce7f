-- The last questions before the answer: reasons 3, 4 and 8, and refusal 10.
use Rattle.std.specs.Prelude.{Bool, cond, ◌||◌, not, List, ℕ, ◌+◌, ltb}
use Rattle.client.specs.Layout.{ClientWord, writes_count, limit}
use Rattle.client.specs.Sets.{find}
use Rattle.client.specs.Items.{has}
use Rattle.client.specs.Lent.{Entry}
use Rattle.client.specs.Work.{version_there, at_last_version, count_new, versions_there, any_at_last}
use Rattle.change.specs.Fit.{entries_fit}
use Rattle.client.specs.declared.part.Set.TheVariants as set
use Rattle.client.specs.Bounds.{last_node_number}

-- ---- of one written object, by its number
-- 1 if the write set lacks it
unfoldable pub new_one : (ClientWord → ℕ) → ℕ → ℕ
new_one m x = cond (has m set.Writes x) 0 1

-- its version is not the last one, if it is metadata or a node
unfoldable pub stays_below : (ClientWord → ℕ) → ℕ → Bool
stays_below m x = not (at_last_version m x)

-- its version is there, if it is metadata or a node
unfoldable pub there : (ClientWord → ℕ) → ℕ → Bool
there m x = ltb last_node_number x || version_there m x (find m set.Reads x)

-- ---- of all that is written
-- reason 3, then 4, then 10 for the refusal, then 8; 0 if there is none
unfoldable pub reason_of : (ClientWord → ℕ) → Bool → ℕ → Bool → Bool → ℕ
reason_of m fit new there below =
    cond (not fit) 3 (cond (ltb (limit set.Writes) (m writes_count + new)) 4 (cond (not there) 10 (cond (not below) 8 0)))

-- the same of entries
unfoldable pub last_reason : (ClientWord → ℕ) → List Entry → ℕ
last_reason m l = reason_of m (entries_fit l) (count_new m l) (versions_there m l) (not (any_at_last m l))
