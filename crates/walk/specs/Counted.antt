-- "own frees and takes counted": a server's vector with what the operation has written.
use Rattle.std.specs.Prelude.{cond, List, ℕ, zero, suc, ◌-◌, eqb, ltb}
use Rattle.nodes.specs.Name.{server_of, slot_of}
use Rattle.nodes.specs.Flags.{with_flag}
use Rattle.client.specs.Record.{first_slot}
use Rattle.client.specs.Lent.{own_number, own_record}
use Rattle.client.specs.Bounds.{first_flag_number}

-- the words of the server s with own write i counted
unfoldable pub counts_one : List ℕ → ℕ → ℕ → List ℕ → List ℕ
counts_one x s i ws =
    let n = own_number x i - first_flag_number in
    cond (ltb (own_number x i) first_flag_number) ws (cond (eqb (server_of n) s) (with_flag ws (slot_of n) (eqb (first_slot (own_record x i)) 1)) ws)

-- with the first n own writes: of one object the first counts
unfoldable pub counts : List ℕ → ℕ → ℕ → List ℕ → List ℕ
counts x s zero ws = ws
counts x s (suc n) ws = counts x s n (counts_one x s n ws)
