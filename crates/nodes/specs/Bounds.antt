-- Where numbers end, and how many of a thing there may be, in a store and in a node.
use Rattle.std.specs.Prelude.{ℕ}

-- ---- the store
-- "Servers 1 to 8": server numbers are below this
abbrev pub most_servers : ℕ
most_servers = 8

-- "slots on each 1 to 1,024": slot numbers are below this
abbrev pub end_of_slots : ℕ
end_of_slots = 1024

-- "A node name is server times 1,024 plus slot.": names are below this
abbrev pub end_of_names : ℕ
end_of_names = 8192

-- "clients 1 to 16": client numbers are below this
abbrev pub most_clients : ℕ
most_clients = 16

-- "a 32-bit version"
abbrev pub last_version : ℕ
last_version = 4294967295

-- the bits of a word
abbrev pub word_bits : ℕ
word_bits = 64

-- ---- nodes: "at most 14 keys"
abbrev pub most_keys : ℕ
most_keys = 14

-- "A node other than the root has at least 7 keys"
abbrev pub fewest_keys : ℕ
fewest_keys = 7

-- "A leaf of 15 pairs splits", "An inner node of 15 keys splits"
abbrev pub keys_to_split : ℕ
keys_to_split = 15

-- "one child more than keys (inner)"
abbrev pub most_children : ℕ
most_children = 15

-- the content of a node that splits, or of two that become one, has room for so many keys, and as many children
abbrev pub wide_room : ℕ
wide_room = 32

-- "Level is the distance from the leaves: 0 for a leaf, 1 to 4 for an inner node."
abbrev pub highest_level : ℕ
highest_level = 4

-- a node as words: kind, level, version, count, 14 keys, 15 slots
abbrev pub node_words : ℕ
node_words = 33
