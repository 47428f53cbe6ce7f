-- The read set, the write set and the copies of inner nodes, as functions of what stands in a client's part.
use Rattle.std.specs.Prelude.{cond, List, ℕ, zero, suc, eqb, leb}
use Rattle.memory.specs.Word.{view}
use Rattle.layout.specs.Space.{tab, mem}
use Rattle.nodes.specs.declared.node.Node.{Node}
use Rattle.nodes.specs.Found.{Found}
use Rattle.std.specs.Prelude.{Some, None}
use Rattle.client.specs.declared.part.Set.{Set}
use Rattle.client.specs.declared.part.Set.TheVariants.{Reads, Writes, Copies}
use Rattle.client.specs.Layout.{ClientWord, client_words, client_block, item, reads_count, writes_count, limit, record_words}
use Rattle.nodes.specs.Stored.{node_of}

-- what the bytes of a client's part hold
unfoldable pub held : List ℕ → ClientWord → ℕ
held s = mem client_words client_block (view s)

-- the count c of a set whose limit is l. A count above it is never used: it is refused by 10 before (`Fits.numbers_fit`, and for another
-- client `Judge.writes`)
abbrev pub at_most : ℕ → ℕ → ℕ
at_most l c = cond (leb c l) c l

-- the first if it is found, else the second
abbrev pub or_found : Found → Found → Found
or_found (Some i) y = Some i
or_found None y = y

-- of f 0, .. , f (n - 1) the first that is x
unfoldable pub first_of : (ℕ → ℕ) → ℕ → ℕ → Found
first_of f zero x = None
first_of f (suc n) x = or_found (first_of f n x) (cond (eqb (f n) x) (Some n) None)

module _ (m : ClientWord → ℕ) where
  -- how many items a set has; a place among the copies may be empty, its number is then 0
  unfoldable pub count : Set → ℕ
  count Reads = at_most (limit Reads) (m reads_count)
  count Writes = at_most (limit Writes) (m writes_count)
  count Copies = limit Copies

  -- the record of item i
  unfoldable pub record_at : Set → ℕ → Node
  record_at s i = node_of (tab record_words (λ j. m (item s i (suc j))))

  -- the number of the object of item i
  unfoldable pub number_at : Set → ℕ → ℕ
  number_at s i = m (item s i 0)

  -- the first item with the number x
  unfoldable pub find : Set → ℕ → Found
  find s x = first_of (number_at s) (count s) x
