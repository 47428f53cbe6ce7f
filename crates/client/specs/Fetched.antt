-- What a fetched object does to a client's part. "Metadata is fetched from the first server not absent .., a node from its home, a vector from its server."
use Rattle.std.specs.Prelude.{true, cond, List, [], ◌∷◌, ℕ, ◌+◌, eqb}
use Rattle.memory.specs.Bit.{put_bit}
use Rattle.nodes.specs.declared.node.Node.{Node}
use Rattle.client.specs.Layout.{fetched_vectors, meta_fields}
use Rattle.client.specs.Record.{metadata}
use Rattle.client.specs.Part.{PartStep, ◌then◌, nothing, put_fields, put_vector, put_word}
use Rattle.client.specs.Enter.{enter_read}
use Rattle.client.specs.Copies.{copy_node}

-- the metadata is fetched: it enters the read set and is copied
unfoldable pub fetched_meta : ℕ → ℕ → ℕ → PartStep
fetched_meta root states version = enter_read 0 (metadata version root states) then put_fields meta_fields (states ∷ root ∷ version ∷ [])

-- an inner node is copied too
unfoldable pub copy_inner : ℕ → Node → PartStep
copy_inner x r = cond (eqb r.kind 2) (copy_node x r) nothing

-- a node is fetched: it enters the read set and is copied if it is inner
unfoldable pub fetched_node : ℕ → Node → PartStep
fetched_node name r = enter_read (1 + name) r then copy_inner (1 + name) r

-- this transaction has fetched the vector of server s
unfoldable pub mark_fetched : ℕ → PartStep
mark_fetched s m = put_word fetched_vectors (put_bit true (m fetched_vectors) s) m

-- a vector is fetched: it is copied, and enters no set, since it is no object
unfoldable pub fetched_vector : ℕ → List ℕ → PartStep
fetched_vector s ws = put_vector s ws then mark_fetched s
