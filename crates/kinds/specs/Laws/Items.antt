-- Laws of the items' code.
use Rattle.std.specs.Prelude.{◌≡◌, refl, Bool, true, false, cond, ◌&&◌, ◌||◌, ℕ, ◌≤◌, ◌<◌, eqb}
use Rattle.std.proofs.Math.Path.{sym}
use Rattle.std.proofs.Common.{◌∙◌, arith}
use borrow.Author.Tests.{eq-eqb, ne_eqb, le-leb, lt-leb}
use Rattle.nodes.specs.declared.node.Node.{Node}
use Rattle.client.specs.declared.part.Set.TheVariants.{Reads, Writes}
use Rattle.client.specs.Layout.{ClientWord}
use Rattle.nodes.specs.Found.{Found}
use Rattle.std.specs.Prelude.{Some, None}
use Rattle.client.specs.Record.{first_slot, kind_in_range}
use Rattle.client.specs.Sets.{number_at, record_at, find}
use Rattle.client.specs.Items.{inner, has}
use Rattle.client.specs.Participants.{at_home}
use Rattle.steps.specs.Uses.{Item, item_of, checked_at, locked_at}
use Rattle.kinds.specs.Items.{as_item, as_written, mark_of, read_item}
use Rattle.kinds.specs.declared.items.Written.{Written}
use Rattle.kinds.specs.declared.items.Item as code

-- ---- marks
pub mark_version : (x : ℕ) (r : Node) → x ≤ 8192 → r.version ≡ mark_of x r
unfolding mark_of
mark_version x r h = rw (le-leb x 8192 h) (go (eqb x 0))
  where
    go : (b : Bool) → r.version ≡ cond b r.version r.version
    go true = refl
    go false = refl

pub mark_flag : (x k : ℕ) (r : Node) → 8192 < x → k ≡ first_slot r → k ≡ mark_of x r
unfolding mark_of
mark_flag x k r h q = q ∙ sym (rw (ne_eqb x 0 (λ e. omega arith), lt-leb x 8192 h))

-- ---- items
module _ (m : ClientWord → ℕ) (x : ℕ) (f : Found) (p : f ≡ find m Writes x) where
  pub written_there : (i : ℕ) (n : Node) (a b : Bool) → f ≡ Some i → n ≡ record_at m Writes i → a ≡ inner x n → b ≡ kind_in_range x n
      → ◌≡◌ {A = Written} (record { there = true; inner = a; fits = b }) (as_written m x)
  unfolding as_written has
  written_there i n a b e q ea eb = sym (rw (← p, e, ← q, ← ea, ← eb))

  pub written_not : f ≡ None → ◌≡◌ {A = Written} (record { there = false; inner = false; fits = true }) (as_written m x)
  unfolding as_written has
  written_not e = sym (rw (← p, e))

pub item_made : (m : ClientWord → ℕ) (x k : ℕ) (n : Node) (a r : Bool) (w : Written) → a ≡ inner x n → k ≡ mark_of x n → r ≡ kind_in_range x n → w ≡ as_written m x
    → ◌≡◌ {A = Item} (record { number = x; inner_read = a; mark = k; written = w.there; becomes = w.inner; read_fits = r; written_fits = w.fits }) (item_of m x n)
unfolding item_of mark_of as_written
item_made m x k n a r w ea ek er ew = rw (ea, ek, er, ew)

pub item_read : (m : ClientWord → ℕ) (i x : ℕ) (n : Node) (r : Item) → x ≡ number_at m Reads i → n ≡ record_at m Reads i → r ≡ item_of m x n → r ≡ read_item m i
unfolding read_item
item_read m i x n r ex en h = h ∙ rw (ex, en)

-- ---- where
module _ (i : code.Item) (low s : ℕ) where
  pub checked_lowest : i.inner ≡ true → s ≡ low → true ≡ checked_at low s (as_item i)
  unfolding checked_at
  checked_lowest e q = sym (rw (e, eq-eqb s low q))

  pub checked_written : i.inner ≡ true → (s ≡ low → ⊥) → i.written ≡ checked_at low s (as_item i)
  unfolding checked_at
  checked_written e q = sym (rw (e, ne_eqb s low q))

  pub checked_home : (b : Bool) → i.inner ≡ false → b ≡ at_home s i.number → b ≡ checked_at low s (as_item i)
  unfolding checked_at
  checked_home b e q = q ∙ sym (rw e)

  pub locked_by : (b r : Bool) → b ≡ checked_at low s (as_item i) → r ≡ (b || (i.written && i.becomes)) → r ≡ locked_at low s (as_item i)
  unfolding locked_at
  locked_by b r q h = h ∙ rw q

-- an item that is checked there, or not, is written, and becomes inner
module _ (b w k : Bool) where
  pub locked_checked : b ≡ true → true ≡ (b || (w && k))
  locked_checked t = sym (rw t)

  pub locked_becoming : b ≡ false → w ≡ true → k ≡ (b || (w && k))
  locked_becoming t u = sym (rw (t, u))

  pub locked_not : b ≡ false → w ≡ false → false ≡ (b || (w && k))
  locked_not t u = sym (rw (t, u))

pub ruleset item_exits = (
  written_there,
  written_not,
  mark_version,
  mark_flag,
  item_made,
  item_read,
  checked_lowest,
  checked_written,
  checked_home,
  locked_by,
  locked_checked,
  locked_becoming,
  locked_not,
)
