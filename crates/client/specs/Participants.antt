-- "Participants are the homes of leaves, free nodes and flags read; or all servers, where the metadata or a node inner before or after
-- is written." ""All servers" means those not absent, for a transaction by the metadata it read"
use Rattle.std.specs.Prelude.{Bool, true, cond, ◌&&◌, not, List, [], ◌∷◌, ℕ, zero, suc, eqb}
use Rattle.memory.specs.Bit.{bit, put_bit}
use Rattle.layout.specs.Space.{Put, put}
use Rattle.nodes.specs.Name.{server_of}
use Rattle.nodes.specs.States.{present}
use Rattle.nodes.specs.Found.{Found}
use Rattle.std.specs.Prelude.{Some, None}
use Rattle.client.specs.declared.part.Set.TheVariants.{Reads, Writes}
use Rattle.client.specs.Layout.{ClientWord, phase, participants, commit_phase}
use Rattle.client.specs.Record.{by_number, second_slot}
use Rattle.client.specs.Sets.{record_at, find, count, number_at}
use Rattle.client.specs.Bounds.{most_servers}
use Rattle.client.specs.Items.{any_below, inner, inner_before_after}

-- the set of the servers below n that pass a test
unfoldable pub mask : ℕ → (ℕ → Bool) → ℕ
mask zero f = 0
mask (suc n) f = put_bit (f n) (mask n f) n

-- the lowest server below n in the set; n if there is none: without participants nothing is locked
unfoldable pub lowest_of : ℕ → ℕ → ℕ
lowest_of zero w = 0
lowest_of (suc n) w = cond (bit w (lowest_of n w)) (lowest_of n w) (cond (bit w n) n (suc n))

-- the home of the object with that number; the metadata is on every server
unfoldable pub at_home : ℕ → ℕ → Bool
at_home s x = by_number x true (λ n. eqb (server_of n) s) (λ n. eqb (server_of n) s)

module _ (m : ClientWord → ℕ) where
  -- does read item i make server s take part: "the homes of leaves, free nodes and flags read"
  abbrev pub calls_home : ℕ → ℕ → Bool
  calls_home s i = not (inner (number_at m Reads i) (record_at m Reads i)) && at_home s (number_at m Reads i)

  -- does write item i make all servers take part: "the metadata or a node inner before or after is written"
  abbrev pub calls_all : ℕ → Bool
  calls_all i = inner_before_after m (number_at m Writes i)

  -- the states in the metadata's record, by its place in the read set
  abbrev pub states_in : Found → ℕ
  states_in (Some i) = second_slot (record_at m Reads i)
  states_in None = 0

  -- the homes that the first i read items make take part
  abbrev pub called_homes : ℕ → ℕ
  called_homes i = mask most_servers (λ s. any_below i (calls_home s))

  -- does one of the write items
  abbrev pub all_take_part : Bool
  all_take_part = any_below (count m Writes) calls_all

  -- the servers' states in the metadata read; a transaction that writes has read it (refusal 10), so 0 is not reached
  unfoldable pub states_read : ℕ
  states_read = states_in (find m Reads 0)

  -- the set of the participants
  unfoldable pub participants_of : ℕ
  participants_of = cond all_take_part (present states_read) (called_homes (count m Reads))

-- the commit step with a participant
unfoldable pub committing : (ClientWord → ℕ) → List (Put ClientWord)
committing m = put phase commit_phase ∷ put participants (participants_of m) ∷ []
