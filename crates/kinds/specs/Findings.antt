-- What a check finds, as code gathers it: "in the order metadata, nodes by name, flags by name".
use Rattle.std.specs.Prelude.{Bool, cond, ◌&&◌, List, map, ℕ, eqb, leb, Option as CodeOption, Some, None, Result, Ok, Err}
use Rattle.std.proofs.Math.Option.{Option, none, some}
use Rattle.server.specs.declared.lock.Use.{Use}
use Rattle.server.specs.Lock.{busy}
use Rattle.server.specs.Check.{standing, mark_finding, checked, held, finding_number}
use Rattle.steps.specs.declared.sizes.Sizes.{Sizes}
use Rattle.kinds.specs.declared.findings.Fault.{Fault}
use Rattle.kinds.specs.declared.findings.Fault.TheVariants.{Damaged, Differs, Busy, TooMany}
use Rattle.kinds.specs.declared.findings.Found.{Found}
use Rattle.nodes.specs.Object.{object_of}
use Rattle.steps.specs.Uses.{Item, read_items, use_of, item_object, checked_at, locked_at, deciding}
use Rattle.steps.specs.Judge.{lock_fits}
use Rattle.steps.specs.Steps.{prepare_finding}
use Rattle.kinds.specs.Parts.{stored_in}
use Rattle.kinds.specs.Judge.{of_client, of_server, word_fits}

-- the number of a fault: the reason to abort, or 10 for the refusal
abbrev pub fault_number : Fault → ℕ
fault_number Damaged = 10
fault_number Differs = 1
fault_number Busy = 2
fault_number TooMany = 4

-- of what a check comes to; 0 is no fault
abbrev pub faulted : Result (Unit {0}) Fault → ℕ
faulted (Ok x) = 0
faulted (Err f) = fault_number f

-- the fault of an object, and of the least one
abbrev pub as_pair : Found → ℕ × ℕ
as_pair f = (f.number, fault_number f.fault)

abbrev pub as_fault : CodeOption Found → Option (ℕ × ℕ)
as_fault None = none
as_fault (Some f) = some (as_pair f)

-- a fault, and one that comes after it
abbrev pub or_later : Option (ℕ × ℕ) → ℕ × ℕ → Option (ℕ × ℕ)
or_later none g = some g
or_later (some f) g = cond (leb f.0 g.0) (some f) (some g)

unfoldable pub later : Option (ℕ × ℕ) → ℕ → ℕ → Option (ℕ × ℕ)
later f x y = cond (eqb y 0) f (or_later f (x, y))

-- what the word v of a lock on the object x comes to for a use u by the client c: the refusal, "2 it is locked against this use", or nothing
unfoldable pub word_reason : Sizes → List ℕ → ℕ → ℕ → ℕ → Use → ℕ
word_reason z w c x v u = cond (word_fits z w x v) (cond (busy u c v) 2 0) 10

-- and what the lock itself comes to at the server s
abbrev pub lock_reason : Sizes → List ℕ → ℕ → ℕ → ℕ → Use → ℕ
lock_reason z w c s x u = cond (lock_fits z (stored_in z w) s x) (cond (held (object_of x) c u (of_server z w s)) 2 0) 10

-- what the marks of an item say at the server s
unfoldable pub compared_at : Sizes → List ℕ → ℕ → Item → ℕ
compared_at z w s i = finding_number (mark_finding (item_object i) (standing (item_object i) i.inner_read (of_server z w s)) i.mark)

-- and where it is checked there, or not
unfoldable pub mark_reason : Sizes → List ℕ → ℕ → Bool → Item → ℕ
mark_reason z w s b i = cond b (compared_at z w s i) 0

-- ---- a prepare at the server s, of an item that is checked there, or not
unfoldable pub prepare_reason : Sizes → List ℕ → ℕ → ℕ → Bool → Item → ℕ
prepare_reason z w c s b i =
    cond (lock_fits z (stored_in z w) s i.number)
    (cond b (finding_number (checked (item_object i) i.inner_read i.mark c (use_of i) (of_server z w s)))
    (cond (held (item_object i) c (use_of i) (of_server z w s)) 2 0)) 10

unfoldable pub prepare_fault : Sizes → List ℕ → ℕ → ℕ → ℕ → Item → ℕ
prepare_fault z w c s low i = cond (i.read_fits && i.written_fits) (cond (locked_at low s i) (prepare_reason z w c s (checked_at low s i) i) 0) 10

unfoldable pub prepare_found : Sizes → List ℕ → ℕ → ℕ → ℕ
prepare_found z w c s = deciding (map (prepare_finding z (stored_in z w) c s) (read_items (of_client z w c)))
