-- The objects read, by value.
use Rattle.std.specs.Prelude.{◌||◌, not, ℕ}
use Rattle.nodes.specs.declared.node.Node.{Node}
use Rattle.client.specs.declared.part.Set.TheVariants.{Reads, Writes}
use Rattle.client.specs.Layout.{ClientWord}
use Rattle.client.specs.Record.{by_number, first_slot, kind_in_range}
use Rattle.client.specs.Sets.{number_at, record_at, find}
use Rattle.client.specs.Items.{inner, has, of_record}
use Rattle.steps.specs.Uses.{Item, item_of}
use Rattle.kinds.specs.declared.items.Written.{Written}
use Rattle.kinds.specs.declared.items.Item as code

-- an item by value
abbrev pub as_item : code.Item → Item
as_item i = record {
  number = i.number;
  inner_read = i.inner;
  mark = i.mark;
  written = i.written;
  becomes = i.becomes;
  read_fits = i.known;
  written_fits = i.settled;
}

-- that by which an object is checked: its version, or a flag's value
unfoldable pub mark_of : ℕ → Node → ℕ
mark_of x r = by_number x r.version (λ n. r.version) (λ n. first_slot r)

-- item i of the read set
unfoldable pub read_item : (ClientWord → ℕ) → ℕ → Item
read_item m i = item_of m (number_at m Reads i) (record_at m Reads i)

-- what the write set says of an object
unfoldable pub as_written : (ClientWord → ℕ) → ℕ → Written
as_written m x = record {
  there = has m Writes x;
  inner = of_record m Writes (inner x) (find m Writes x);
  fits = not (has m Writes x) || of_record m Writes (kind_in_range x) (find m Writes x);
}
