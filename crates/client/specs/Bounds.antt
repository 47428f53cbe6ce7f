-- Where numbers end, how many of a thing there may be, and how long the lent lists of a work step are.
use Rattle.std.specs.Prelude.{ℕ}
pub use Rattle.nodes.specs.Bounds.{most_servers, end_of_slots, end_of_names, most_keys, fewest_keys, keys_to_split, most_children, highest_level}

-- ---- numbers of objects: the metadata's is 0, then comes one for every node, the last of them this
abbrev pub last_node_number : ℕ
last_node_number = 8192

-- then one for every flag, from this on
abbrev pub first_flag_number : ℕ
first_flag_number = 8193

-- all of them are below this
abbrev pub end_of_numbers : ℕ
end_of_numbers = 16385

-- ---- nodes: the levels 0 to 4
abbrev pub level_count : ℕ
level_count = 5

-- ---- the copies in use: "object 97 would be read", and is judged at once
abbrev pub used_most : ℕ
used_most = 97

-- their list: its count, and 97 numbers
abbrev pub used_room : ℕ
used_room = 98

-- ---- own writes: no operation writes more objects
abbrev pub own_most : ℕ
own_most = 20

-- a change that rises has at most this many: 3 for each of the levels 0 to 3
abbrev pub risen_most : ℕ
risen_most = 12

-- their list: its count, and for each an item of 34 words
abbrev pub own_room : ℕ
own_room = 681

-- ---- pairs of a list: "count (the value field, 1 to 32)"
abbrev pub most_listed : ℕ
most_listed = 32

-- the lent list of those found: its count, and for each its key and its value
abbrev pub found_room : ℕ
found_room = 65
