-- "written to a lent output of 16 bytes a pair, key first, lowest byte first": the output as its words (`memory`, `view`), two to a pair.
use Rattle.std.specs.Prelude.{List, [], ◌∷◌, ◌++◌, ℕ, zero, suc, ◌*◌, length, drop}
use Rattle.operations.specs.Entry.{Entries}

-- the words of some pairs
abbrev pub pair_words : Entries → List ℕ
pair_words [] = []
pair_words (e ∷ ps) = e.0 ∷ e.1 ∷ pair_words ps

-- an output with these pairs; "all other bytes, or all without an answer, keep their contents"
unfoldable pub with_pairs : Entries → List ℕ → List ℕ
with_pairs ps out = pair_words ps ++ drop (2 * length ps) out

-- the first n pairs of an output; it has as many where a list has answered n, so the others are not reached
abbrev pub pairs_at : ℕ → List ℕ → Entries
pairs_at zero out = []
pairs_at (suc n) [] = []
pairs_at (suc n) (k ∷ []) = []
pairs_at (suc n) (k ∷ v ∷ out) = (k, v) ∷ pairs_at n out
