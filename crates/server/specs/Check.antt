-- Checking an object at a server: "A server can check metadata, inner nodes by its table, and its own other nodes and flags
-- (flags by value)." `inner` says that the object was read as an inner node; its mark is the version read, or a flag's value.
use Rattle.std.specs.Prelude.{Bool, true, cond, ◌&&◌, ◌||◌, ℕ, ◌/◌, ◌%◌, eqb, leb}
use Rattle.base.specs.Test.{one_if}
use Rattle.memory.specs.Bit.{bit}
use Rattle.nodes.specs.Name.{server_of, slot_of}
use Rattle.server.specs.declared.check.Finding.{Finding}
use Rattle.server.specs.declared.check.Finding.TheVariants.{Same, Differs, Busy, Unfit}
use Rattle.server.specs.declared.lock.Use.{Use}
use Rattle.nodes.specs.declared.object.Object.{Object}
use Rattle.server.specs.declared.place.Place.{Place}
use Rattle.server.specs.Object.{lock_of}
use Rattle.server.specs.Lock.{busy}
use Rattle.nodes.specs.declared.object.Object.TheVariants as object
use Rattle.server.specs.declared.place.Place.TheVariants as place

-- "A server can check metadata, inner nodes by its table, and its own other nodes and flags": s is the server
unfoldable pub can_check : ℕ → Object → Bool → Bool
can_check s object.Metadata inner = true
can_check s (object.Node x) inner = inner || eqb (server_of x.number) s
can_check s (object.Flag x) inner = eqb (server_of x.number) s

-- where the mark lies: the metadata's version, a table's entry, a node's own version (its third word), the vector. A node not read as
-- inner and a flag are checked at home only, so their slot says enough
unfoldable pub mark_place : Object → Bool → Place
mark_place object.Metadata inner = place.Version
mark_place (object.Node x) inner = cond inner (place.Table (server_of x.number) (slot_of x.number)) (place.Node (slot_of x.number) 2)
mark_place (object.Flag x) inner = place.Vector (slot_of x.number / 64)

-- the mark in that word: the version that it is; of the vector's word the slot's flag, 0 or 1
unfoldable pub mark_in : Object → ℕ → ℕ
mark_in object.Metadata w = w
mark_in (object.Node x) w = w
mark_in (object.Flag x) w = one_if (bit w (slot_of x.number % 64))

-- the mark that stands at a server
unfoldable pub standing : Object → Bool → (Place → ℕ) → ℕ
standing o inner m = mark_in o (m (mark_place o inner))

-- is the object locked here against a use of client c
unfoldable pub held : Object → ℕ → Use → (Place → ℕ) → Bool
held o c u m = busy u c (m (lock_of o))

-- may a mark be this number: a version of 32 bits, a flag's 0 or 1
unfoldable pub mark_fits : Object → ℕ → Bool
mark_fits object.Metadata x = leb x 4294967295
mark_fits (object.Node x) y = leb y 4294967295
mark_fits (object.Flag x) y = leb y 1

-- the two marks, the one that stands here and the one that was read: are both in range, and are they the same
unfoldable pub mark_finding : Object → ℕ → ℕ → Finding
mark_finding o here read = cond (mark_fits o here && mark_fits o read) (cond (eqb here read) Same Differs) Unfit

-- "at one object 2 before 1": of a busy object no mark is read
unfoldable pub checked : Object → Bool → ℕ → ℕ → Use → (Place → ℕ) → Finding
checked o inner mark c u m = cond (held o c u m) Busy (mark_finding o (standing o inner m) mark)

-- "1 a checked object differs .. 2 it is locked against this use by another client"; 0 is no reason, and 10 the refusal
abbrev pub finding_number : Finding → ℕ
finding_number Same = 0
finding_number Differs = 1
finding_number Busy = 2
finding_number Unfit = 10
