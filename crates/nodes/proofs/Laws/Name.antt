-- Whether a name is one of the store: its server is looked at first, then its slot.
use Rattle.std.specs.Prelude.{◌≡◌, false, ℕ, ◌≤◌, ◌<◌, ltb}
use Rattle.std.proofs.Math.Path.{sym}
use borrow.Author.Tests.{lt-ltb, le-ltb}
use Rattle.nodes.specs.Name.{server_of, slot_of, name_in_store}

module _ (slots x r : ℕ) (o : r ≡ server_of x) where
  pub no_server : 8 ≤ r → false ≡ name_in_store slots x
  unfolding name_in_store
  no_server h = sym (rw (← o, le-ltb _ _ h))

  pub by_slot : (k : ℕ) → r < 8 → k ≡ slot_of x → ltb k slots ≡ name_in_store slots x
  unfolding name_in_store
  by_slot k h l = sym (rw (← o, lt-ltb _ _ h, ← l))
