-- Which servers there are, and what is asked of a server's vector.
use Rattle.std.specs.Prelude.{Bool, not, List, ℕ, eqb, get_or, Option, Some, None}
use Rattle.nodes.specs.Bounds.{most_servers}

-- the number of a server, if there is one; else 8
abbrev pub or_none : Option ℕ → ℕ
or_none (Some s) = s
or_none None = most_servers

-- is word i not 0
abbrev pub nonzero : List ℕ → ℕ → Bool
nonzero ws i = not (eqb (get_or ws i 0) 0)
