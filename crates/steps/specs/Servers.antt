-- "Servers come and go": which servers there are, and what a change of them reads.
use Rattle.std.specs.Prelude.{Bool, true, false, cond, ◌&&◌, ◌||◌, not, ℕ, zero, suc, ◌%◌, eqb, leb, ltb}
use Rattle.nodes.specs.Bounds.{most_servers, last_version}
use Rattle.nodes.specs.States.{is_present, is_open, is_closing, with_added, with_closed, with_removed}
use Rattle.server.specs.declared.place.Place.TheVariants.{Version, States, Vector, Table}
use Rattle.client.specs.Layout.{ClientWord, phase, prepared, commit_phase, decided_phase}
use Rattle.client.specs.Items.{all_below, any_below}
use Rattle.steps.specs.declared.sizes.Sizes.{Sizes}
use Rattle.steps.specs.declared.step.ServerChange.{ServerChange}
use Rattle.steps.specs.declared.step.ServerChange.TheVariants.{Add, Close, Remove}
use Rattle.steps.specs.Whole.{Address, server, client}

-- "Kind 8 adds an absent server, 9 closes an open one to new nodes, 10 removes a closing one."
unfoldable pub change_of : ℕ → ServerChange
change_of n = cond (eqb n 8) Add (cond (eqb n 9) Close Remove)

-- the first of n servers that passes a test, "counting up and round" from s; 8 if none does
unfoldable pub first_from : (ℕ → Bool) → ℕ → ℕ → ℕ
first_from f zero s = most_servers
first_from f (suc n) s = cond (f (s % most_servers)) (s % most_servers) (first_from f n (suc s))

-- the larger of two numbers
unfoldable pub larger : ℕ → ℕ → ℕ
larger a b = cond (leb a b) b a

-- the largest number f of the servers below n that pass a test, and a
unfoldable pub largest : (ℕ → Bool) → (ℕ → ℕ) → ℕ → ℕ → ℕ
largest p f zero a = a
largest p f (suc n) a = cond (p n) (larger (largest p f n a) (f n)) (largest p f n a)

module _ (m : Address → ℕ) where
  -- "a server is what its own metadata calls it"
  abbrev pub states_at : ℕ → ℕ
  states_at s = m (server s States)

  -- is it not absent
  unfoldable pub there : ℕ → Bool
  there s = is_present (states_at s) s

  -- the lowest server not absent, whose metadata a change goes by; 8 if all are absent
  unfoldable pub lowest_there : ℕ
  lowest_there = first_from there most_servers 0

  -- "Metadata is fetched from the first server not absent, counting up and round from the old one", client modulo servers
  unfoldable pub metadata_source : Sizes → ℕ → ℕ
  metadata_source z c = first_from there most_servers (c % z.servers)

  -- is the server t open, and another than s
  unfoldable pub other_open : ℕ → ℕ → Bool
  other_open s t = not (eqb t s) && is_open (states_at t) t

  -- is another server open
  unfoldable pub another_open : ℕ → Bool
  another_open s = any_below most_servers (other_open s)

  -- "13: the server's state doesn't fit, or the last open one would close"
  unfoldable pub state_suits : ℕ → ServerChange → Bool
  state_suits s Add = not (there s)
  state_suits s Close = is_open (states_at s) s && another_open s
  state_suits s Remove = is_closing (states_at s) s

  -- "a slot still taken"
  unfoldable pub any_taken : ℕ → Bool
  any_taken s = any_below 16 (λ i. not (eqb (m (server s (Vector i))) 0))

  -- "the metadata's version is at its largest"
  unfoldable pub version_ends : Bool
  version_ends = ltb lowest_there most_servers && leb last_version (m (server lowest_there Version))

  -- "An added server's version table takes, slot by slot, the largest number in its own earlier table or in those of servers not absent": of the
  -- node of server t in slot k, at the added server s
  unfoldable pub largest_version : ℕ → ℕ → ℕ → ℕ
  largest_version s t k = largest there (λ u. m (server u (Table t k))) most_servers (m (server s (Table t k)))

-- is a client's transaction "prepared or decided without being ended"
unfoldable pub unended : (ClientWord → ℕ) → Bool
unended m = eqb (m phase) decided_phase || (eqb (m phase) commit_phase && not (eqb (m prepared) 0))

-- "All three need that no transaction is prepared or decided without being ended, else refusal 9."
unfoldable pub quiet : Sizes → (Address → ℕ) → Bool
quiet z m = all_below z.clients (λ c. not (unended (λ a. m (client c a))))

-- is a server added
abbrev pub is_add : ServerChange → Bool
is_add Add = true
is_add Close = false
is_add Remove = false

-- the states after a change at server s
unfoldable pub changed_states : ServerChange → ℕ → ℕ → ℕ
changed_states Add states s = with_added states s
changed_states Close states s = with_closed states s
changed_states Remove states s = with_removed states s
