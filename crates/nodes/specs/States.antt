-- "The metadata gets each server's state: absent, open or closing", as one word: bit s of a server s that is not absent, and bit 8 + s of one that
-- is open.
use Rattle.std.specs.Prelude.{Bool, true, false, ◌&&◌, not, ℕ, ◌+◌, ◌-◌, ◌*◌, ◌/◌, ◌%◌, ◌^◌, eqb, leb, ltb}
use Rattle.memory.specs.Bit.{bit, put_bit}
use Rattle.nodes.specs.Bounds.{last_version}
use Rattle.nodes.specs.Name.{name_in_store}

-- the set of the servers that are not absent
abbrev pub present : ℕ → ℕ
present states = states % 256

-- is server s not absent
unfoldable pub is_present : ℕ → ℕ → Bool
is_present states s = bit (present states) s

-- is it open
unfoldable pub is_open : ℕ → ℕ → Bool
is_open states s = is_present states s && bit (states / 256) s

-- is it closing
unfoldable pub is_closing : ℕ → ℕ → Bool
is_closing states s = is_present states s && not (bit (states / 256) s)

-- refusal 10: there are eight servers with three states each, and "all absent: 10"
unfoldable pub states_fit : ℕ → Bool
states_fit states = ltb states 65536 && not (eqb (present states) 0)

-- and of the whole metadata: the root's name is one of the store, the version one of 32 bits, and some server is there
unfoldable pub metadata_fits : ℕ → ℕ → ℕ → ℕ → Bool
metadata_fits slots root states version = name_in_store slots root && (leb version last_version && states_fit states)

-- "those past the opened size absent at first", the others open
unfoldable pub first_states : ℕ → ℕ
first_states servers = 257 * (2 ^ servers - 1)

-- "Kind 8 adds an absent server": it is open then
unfoldable pub with_added : ℕ → ℕ → ℕ
with_added states s = put_bit true (put_bit true states s) (8 + s)

-- "9 closes an open one to new nodes"
unfoldable pub with_closed : ℕ → ℕ → ℕ
with_closed states s = put_bit false states (8 + s)

-- "10 removes a closing one"
unfoldable pub with_removed : ℕ → ℕ → ℕ
with_removed states s = put_bit false states s
