-- "Copies: metadata, one vector a server, 64 inner nodes; when full, a node isn't copied."
use Rattle.std.specs.Prelude.{ℕ}
use Rattle.layout.specs.Sweep.{sweep}
use Rattle.nodes.specs.declared.node.Node.{Node}
use Rattle.nodes.specs.Found.{Found}
use Rattle.std.specs.Prelude.{Some, None}
use Rattle.nodes.specs.Name.{server_of}
use Rattle.client.specs.declared.part.Set.TheVariants.{Reads, Copies}
use Rattle.client.specs.Layout.{client_words, meta_states, limit}
use Rattle.client.specs.Record.{by_number}
use Rattle.client.specs.Sets.{count, number_at, find}
use Rattle.client.specs.Part.{PartStep, ◌then◌, nothing, put_item, put_number, drop_vector, put_word}
use Rattle.client.specs.Bounds.{most_servers}

-- to an empty place; "when full, a node isn't copied"
abbrev pub to_empty : ℕ → Node → Found → PartStep
to_empty x r (Some i) = put_item Copies i x r
to_empty x r None = nothing

-- to the node's own place, else to an empty one
abbrev pub to_place : ℕ → Node → Found → Found → PartStep
to_place x r (Some i) e = put_item Copies i x r
to_place x r None e = to_empty x r e

-- a node's copy goes to its own place, else to the first empty one (its number is 0), else nowhere
unfoldable pub copy_node : ℕ → Node → PartStep
copy_node x r m = to_place x r (find m Copies x) (find m Copies 0) m

-- ---- dropped: what stands at a place, if it was found
abbrev pub drop_at : Found → PartStep
drop_at (Some i) = put_number Copies i 0
drop_at None = nothing

-- the copy of the inner node with the number x
unfoldable pub drop_node : ℕ → PartStep
drop_node x m = drop_at (find m Copies x) m

-- the copy of an object, by its number; "for a flag, its vector"
unfoldable pub drop_object : ℕ → PartStep
drop_object x = by_number x (put_word meta_states 0) (λ n. drop_node x) (λ n. drop_vector (server_of n))

-- the copy of the object of read item i
unfoldable pub drop_read : ℕ → PartStep
drop_read i m = drop_object (number_at m Reads i) m

-- "An abort .. drops copies of all objects read"
unfoldable pub drop_reads : PartStep
drop_reads m = sweep client_words drop_read (count m Reads) m

-- place i of the copies of inner nodes is empty
unfoldable pub empty_place : ℕ → PartStep
empty_place i = put_number Copies i 0

-- "loss drops all copies": the metadata, 64 inner nodes, 8 vectors
unfoldable pub drop_all : PartStep
drop_all = put_word meta_states 0 then sweep client_words empty_place (limit Copies) then sweep client_words drop_vector most_servers
