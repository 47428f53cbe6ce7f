-- What a transaction has read, as servers are asked about it: which object is checked where, and which is locked.
use Rattle.std.specs.Prelude.{Bool, cond, ◌&&◌, ◌||◌, not, List, [], ◌∷◌, ◌++◌, map, ℕ, zero, suc, eqb, leb}
use Rattle.std.proofs.Math.Option.{Option, none, some}
use Rattle.nodes.specs.declared.node.Node.{Node}
use Rattle.server.specs.declared.lock.Use.{Use}
use Rattle.server.specs.declared.lock.Use.TheVariants.{Read, Write}
use Rattle.nodes.specs.declared.object.Object.{Object}
use Rattle.nodes.specs.Object.{object_of}
use Rattle.client.specs.declared.part.Set.TheVariants.{Reads, Writes}
use Rattle.client.specs.Layout.{ClientWord}
use Rattle.client.specs.Record.{by_number, first_slot, kind_in_range}
use Rattle.client.specs.Sets.{record_at, find, count, number_at}
use Rattle.client.specs.Have.{copied}
use Rattle.client.specs.Items.{inner, has, of_record}
use Rattle.client.specs.Participants.{at_home}

-- an object read: metadata, or a node read as inner; its version, or a flag's value; is it written, and as an inner node; is its kind in range, as read
-- and as written
pub record Item : Type 0 where
  pub number : ℕ
  pub inner_read : Bool
  pub mark : ℕ
  pub written : Bool
  pub becomes : Bool
  pub read_fits : Bool
  pub written_fits : Bool

-- f 0, f 1, .. , n of them
unfoldable pub each : {A : Type 0} → ℕ → (ℕ → A) → List A
each zero f = []
each (suc n) f = each n f ++ (f n ∷ [])

module _ (m : ClientWord → ℕ) where
  -- the object with the number x, read as the record r
  unfoldable pub item_of : ℕ → Node → Item
  item_of x r = record {
    number = x;
    inner_read = inner x r;
    mark = by_number x r.version (λ n. r.version) (λ n. first_slot r);
    written = has m Writes x;
    becomes = of_record m Writes (inner x) (find m Writes x);
    read_fits = kind_in_range x r;
    written_fits = not (has m Writes x) || of_record m Writes (kind_in_range x) (find m Writes x);
  }

  -- item i of the read set
  abbrev pub read_item : ℕ → Item
  read_item i = item_of (number_at m Reads i) (record_at m Reads i)

  -- the read set
  unfoldable pub read_items : List Item
  read_items = each (count m Reads) read_item

  -- the copies that came into use in this step, by their numbers
  unfoldable pub used_items : List ℕ → List Item
  used_items us = map (λ x. item_of x (copied m x).node) us

-- the object itself
abbrev pub item_object : Item → Object
item_object i = object_of i.number

-- "Metadata and inner nodes are checked at the lowest participant, and at every one if written"; other nodes and flags at home
unfoldable pub checked_at : ℕ → ℕ → Item → Bool
checked_at lowest s i = cond i.inner_read (eqb s lowest || i.written) (at_home s i.number)

-- "a node becoming inner is checked at home, locked at all"
unfoldable pub locked_at : ℕ → ℕ → Item → Bool
locked_at lowest s i = checked_at lowest s i || (i.written && i.becomes)

-- what a prepare asks it for
abbrev pub use_of : Item → Use
use_of i = cond i.written Write Read

-- of two findings that of the lesser object. A finding is an object's number and what it comes to: a reason to abort, 10 for the refusal, 0 if there is none.
abbrev pub lesser : ℕ × ℕ → Option (ℕ × ℕ) → Option (ℕ × ℕ)
lesser f none = some f
lesser f (some g) = cond (leb f.0 g.0) (some f) (some g)

-- "in the order metadata, nodes by name, flags by name": the first finding that is not 0 decides, and what comes after it is not read
unfoldable pub least : List (ℕ × ℕ) → Option (ℕ × ℕ)
least [] = none
least (f ∷ fs) = cond (eqb f.1 0) (least fs) (lesser f (least fs))

-- what it comes to; 0 if there is none
abbrev pub reason_of : Option (ℕ × ℕ) → ℕ
reason_of none = 0
reason_of (some f) = f.1

-- what decides; 0 if nothing does
unfoldable pub deciding : List (ℕ × ℕ) → ℕ
deciding fs = reason_of (least fs)
