-- "The last apply ends the transaction and renews its copies (nodes no longer inner go first; then written inner nodes by name,
-- metadata, flags; a lost client gets none)."
use Rattle.std.specs.Prelude.{cond, ◌&&◌, [], ◌∷◌, ℕ, zero, suc, ◌+◌, ◌-◌, eqb, ltb}
use Rattle.layout.specs.Sweep.{sweep}
use Rattle.nodes.specs.declared.node.Node.{Node}
use Rattle.nodes.specs.Found.{Found}
use Rattle.std.specs.Prelude.{Some, None}
use Rattle.nodes.specs.Name.{server_of, slot_of}
use Rattle.nodes.specs.Flags.{with_flag}
use Rattle.client.specs.declared.part.Set.TheVariants.{Reads, Writes}
use Rattle.client.specs.Layout.{ClientWord, client_words, item, lost, meta_fields, no_transaction}
use Rattle.client.specs.Record.{by_number, last_version}
use Rattle.client.specs.Sets.{first_of, count, number_at, record_at, find}
use Rattle.client.specs.Vectors.{has_vector, vector_copy}
use Rattle.client.specs.Commit.{inner_at}
use Rattle.client.specs.Part.{PartStep, ◌then◌, nothing, put_fields, put_vector}
use Rattle.client.specs.Copies.{copy_node, drop_node}
use Rattle.client.specs.Life.{reset}
use Rattle.client.specs.Drops.{version_of, next_version}
use Rattle.client.specs.Bounds.{most_servers, first_flag_number}

-- a node that is written and not inner loses its copy
unfoldable pub drop_outer : ℕ → PartStep
drop_outer i m = by_number (number_at m Writes i) nothing (λ n. cond (inner_at m Writes i) nothing (drop_node (number_at m Writes i))) (λ n. nothing) m

-- the node with the version v
unfoldable pub versioned : Node → ℕ → Node
versioned n v = record { kind = n.kind; level = n.level; version = v; count = n.count; keys = n.keys; slots = n.slots }

module _ (m : ClientWord → ℕ) where
  -- the version of a renewed copy: the one written; the last has no next, and an apply that would need it is refused before
  unfoldable pub new_version : ℕ → ℕ
  new_version x = cond (ltb (version_of m (find m Reads x)) last_version) (next_version m x) 0

  -- c, and 1 more if write item i is an inner node with a number below x
  unfoldable pub with_inner : ℕ → ℕ → ℕ → ℕ
  with_inner x i c = cond (inner_at m Writes i && ltb (number_at m Writes i) x) (c + 1) c

  -- how many of the first n write items are inner nodes with a number below x
  unfoldable pub inner_below : ℕ → ℕ → ℕ
  inner_below x zero = 0
  inner_below x (suc n) = with_inner x n (inner_below x n)

  -- 1 + the place of write item i among the written inner nodes by name; 0 for another object
  unfoldable pub rank : ℕ → ℕ
  rank i = cond (inner_at m Writes i) (inner_below (number_at m Writes i) (count m Writes) + 1) 0

  -- the write item of a rank
  unfoldable pub ranked : ℕ → Found
  ranked k = first_of rank (count m Writes) k

  -- the copy of write item i
  unfoldable pub renewed : ℕ → Node
  renewed i = versioned (record_at m Writes i) (new_version (number_at m Writes i))

-- the copy of a written inner node, if there is one of that rank
abbrev pub renew_found : (ClientWord → ℕ) → Found → PartStep
renew_found m (Some i) = copy_node (number_at m Writes i) (renewed m i)
renew_found m None = nothing

-- "then written inner nodes by name": the one of rank k + 1
unfoldable pub renew_nth : ℕ → PartStep
renew_nth k m = renew_found m (ranked m (k + 1)) m

-- the copy of the metadata as write item i has it, if it is written; word 19 is the root's name
abbrev pub meta_found : (ClientWord → ℕ) → Found → PartStep
meta_found m (Some i) = put_fields meta_fields (m (item Writes i 20) ∷ m (item Writes i 19) ∷ new_version m 0 ∷ [])
meta_found m None = nothing

-- the metadata, if it is written
unfoldable pub renew_meta : PartStep
renew_meta m = meta_found m (find m Writes 0) m

-- a flag is renewed in its server's vector, if there is a copy of that; the server is one of the store, so it is below 8
unfoldable pub renew_in : (ClientWord → ℕ) → ℕ → ℕ → PartStep
renew_in m n v = cond (ltb (server_of n) most_servers && has_vector m (server_of n)) (put_vector (server_of n) (with_flag (vector_copy m (server_of n)) (slot_of n) (eqb v 1))) nothing

-- write item i, if it is a flag (numbers from 8,193 on); word 19 says whether it is taken
unfoldable pub renew_flag : ℕ → PartStep
renew_flag i m = cond (ltb (number_at m Writes i) first_flag_number) nothing (renew_in m (number_at m Writes i - first_flag_number) (m (item Writes i 19))) m

-- each for all write items
unfoldable pub for_writes : (ℕ → PartStep) → PartStep
for_writes g m = sweep client_words g (count m Writes) m

-- "then written inner nodes by name, metadata, flags"
unfoldable pub renew_written : PartStep
renew_written = for_writes renew_nth then renew_meta then for_writes renew_flag

-- "nodes no longer inner go first"
unfoldable pub renew : PartStep
renew = for_writes drop_outer then renew_written

-- "a lost client gets none"
unfoldable pub renew_kept : PartStep
renew_kept m = cond (eqb (m lost) 1) nothing renew m

-- the transaction has ended
unfoldable pub finish : PartStep
finish = renew_kept then reset no_transaction
