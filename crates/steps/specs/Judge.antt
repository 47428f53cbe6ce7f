-- Refusal 10 at servers: "Something stored that this step's rule reads has a field out of range, or points to something that isn't there
-- (a lock's transaction or its write, ..)": locks, and what an abort or an apply gives back.
use Rattle.std.specs.Prelude.{Bool, cond, ◌&&◌, ◌||◌, not, ℕ, ◌-◌, leb, ltb}
use Rattle.memory.specs.Bit.{bit}
use Rattle.nodes.specs.Bounds.{most_servers}
use Rattle.nodes.specs.Object.{object_of}
use Rattle.server.specs.Object.{lock_of}
use Rattle.server.specs.Lock.{lock_in_range}
use Rattle.client.specs.declared.part.Set.TheVariants.{Reads, Writes}
use Rattle.client.specs.Layout.{ClientWord, phase, participants, prepared, writes_count, open_phase, decided_phase}
use Rattle.client.specs.Sets.{count}
use Rattle.client.specs.Items.{all_below, has}
use Rattle.client.specs.Participants.{lowest_of}
use Rattle.client.specs.Fits.{fit_to_abort, fit_to_unlock}
use Rattle.steps.specs.declared.sizes.Sizes.{Sizes}
use Rattle.steps.specs.Whole.{Address, server, client}
use Rattle.steps.specs.Refusal.{between}
use Rattle.steps.specs.Uses.{Item, read_item, locked_at}

module _ (z : Sizes) (m : Address → ℕ) where
  -- "a lock's transaction": the client has one
  abbrev pub has_transaction : ℕ → Bool
  has_transaction d = between open_phase decided_phase (m (client d phase))

  -- "or its write": the object x is in the write set of client d, whose count is in range
  abbrev pub writes : ℕ → ℕ → Bool
  writes d x = leb (m (client d writes_count)) 48 && has (λ a. m (client d a)) Writes x

  -- those that a lock's word names: many readers, or one writer
  unfoldable pub holders_fit : ℕ → ℕ → Bool
  holders_fit x w =
      cond (ltb w 65536)
      (all_below z.clients (λ d. not (bit w d) || has_transaction d))
      (has_transaction (w - 65536) && writes (w - 65536) x)

  -- the lock of the object x at the server s
  unfoldable pub lock_fits : ℕ → ℕ → Bool
  lock_fits s x =
      let w = m (server s (lock_of (object_of x))) in
      lock_in_range z.clients w && holders_fit x w

module _ (z : Sizes) (m : Address → ℕ) (c : ℕ) where
  -- what stands in the part of client c
  abbrev mine : ClientWord → ℕ
  mine a = m (client c a)

  -- where metadata and inner nodes are checked
  abbrev pub lowest_participant : ℕ
  lowest_participant = lowest_of most_servers (mine participants)

  -- what an unlocking at s reads of an object: its kinds, which say whether it is locked there, and then its lock
  abbrev pub item_unlocks : ℕ → Item → Bool
  item_unlocks s i = (i.read_fits && i.written_fits) && (not (locked_at lowest_participant s i) || lock_fits z m s i.number)

  -- of all objects read
  unfoldable pub unlock_fits : ℕ → Bool
  unlock_fits s = all_below (count mine Reads) (λ n. item_unlocks s (read_item mine n))

  -- what an abort reads: which objects are read, and at every server that has prepared what is locked there
  unfoldable pub abort_fits : Bool
  abort_fits =
      fit_to_abort z.slots mine
      && all_below most_servers (λ s. not (bit (mine prepared) s) || (fit_to_unlock z.slots mine && unlock_fits s))
