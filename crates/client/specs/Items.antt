-- What a transaction has read and written, item by item, and tests of all items.
use Rattle.std.specs.Prelude.{Bool, true, false, ◌&&◌, ◌||◌, ℕ, zero, suc, eqb}
use Rattle.nodes.specs.declared.node.Node.{Node}
use Rattle.nodes.specs.Found.{Found}
use Rattle.std.specs.Prelude.{Some, None}
use Rattle.client.specs.declared.part.Set.{Set}
use Rattle.client.specs.declared.part.Set.TheVariants.{Reads, Writes}
use Rattle.client.specs.Layout.{ClientWord}
use Rattle.client.specs.Record.{by_number}
use Rattle.client.specs.Commit.{is_at}
use Rattle.client.specs.Sets.{record_at, find}

-- does f hold of all numbers below n
unfoldable pub all_below : ℕ → (ℕ → Bool) → Bool
all_below zero f = true
all_below (suc n) f = all_below n f && f n

-- does f hold of any of them
unfoldable pub any_below : ℕ → (ℕ → Bool) → Bool
any_below zero f = false
any_below (suc n) f = any_below n f || f n

-- is the object with that number inner, where its record is r: "metadata and inner nodes"
unfoldable pub inner : ℕ → Node → Bool
inner x r = by_number x true (λ n. eqb r.kind 2) (λ n. false)

module _ (m : ClientWord → ℕ) where
  -- is there an item of the object in the set
  unfoldable pub has : Set → ℕ → Bool
  has s x = is_at (find m s x)

  -- does the test hold of the object's record in the set
  abbrev pub of_record : Set → (Node → Bool) → Found → Bool
  of_record s f (Some i) = f (record_at m s i)
  of_record s f None = false

  -- is the object inner in the set
  unfoldable pub inner_in : Set → ℕ → Bool
  inner_in s x = of_record s (inner x) (find m s x)

  -- "inner before or after": as read or as written
  unfoldable pub inner_before_after : ℕ → Bool
  inner_before_after x = inner_in Reads x || inner_in Writes x
