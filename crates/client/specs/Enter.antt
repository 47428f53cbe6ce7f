-- Objects enter the read set and the write set.
use Rattle.std.specs.Prelude.{cond, List, [], ◌∷◌, ℕ, ◌+◌, ltb, get_or}
use Rattle.layout.specs.Sweep.{sweep}
use Rattle.nodes.specs.declared.node.Node.{Node}
use Rattle.nodes.specs.Found.{Found}
use Rattle.std.specs.Prelude.{Some, None}
use Rattle.client.specs.declared.part.Set.TheVariants.{Reads, Writes}
use Rattle.client.specs.Layout.{client_words, reads_count, writes_count, limit}
use Rattle.client.specs.Sets.{count, find}
use Rattle.client.specs.Part.{PartStep, ◌then◌, nothing, put_item, put_word}
use Rattle.client.specs.Have.{copied}
use Rattle.client.specs.Lent.{Entry, own_number, own_record}

-- the object x with the record r behind the c items that are there
abbrev pub read_behind : ℕ → ℕ → Node → PartStep
read_behind c x r = put_item Reads c x r then put_word reads_count (c + 1)

-- x enters the read set. There is always room: object 97 has ended the step by reason 4 (`judged`, `Steps.full`)
unfoldable pub enter_read : ℕ → Node → PartStep
enter_read x r m = cond (ltb (count m Reads) (limit Reads)) (read_behind (count m Reads) x r) nothing m

-- "what is used enters the read set": a copy, by its number
unfoldable pub enter_copy : ℕ → PartStep
enter_copy x m = enter_read x (copied m x).node m

-- copy i of a list that begins with its count
unfoldable pub enter_nth : List ℕ → ℕ → PartStep
enter_nth u i = enter_copy (get_or u (i + 1) 0)

-- the copies in use enter, in the order of use; the list u begins with its count
unfoldable pub enter_used : List ℕ → PartStep
enter_used u = sweep client_words (enter_nth u) (get_or u 0 0)

-- the object x with the record r behind the c items that are there
abbrev pub written_behind : ℕ → ℕ → Node → PartStep
written_behind c x r = put_item Writes c x r then put_word writes_count (c + 1)

-- a write replaces an earlier one of the same object, or comes behind the others. There is always room: object 49 has ended the step
-- by reason 4 (`last_questions`)
abbrev pub enter_at : ℕ → Node → ℕ → Found → PartStep
enter_at x r c (Some i) = put_item Writes i x r
enter_at x r c None = cond (ltb c (limit Writes)) (written_behind c x r) nothing

-- x enters the write set with the record r
unfoldable pub enter_write : ℕ → Node → PartStep
enter_write x r m = enter_at x r (count m Writes) (find m Writes x) m

unfoldable pub write_nth : List ℕ → ℕ → PartStep
write_nth w i = enter_write (own_number w i) (own_record w i)

-- "only then do its writes enter the write set": entries, one after another
unfoldable pub enter_entries : List Entry → PartStep
enter_entries [] = nothing
enter_entries (e ∷ l) = enter_write e.0 e.1 then enter_entries l
