-- Ways out of the code for objects: from the facts at hand there to what the contract says.
use mathlib.Core.Path.{◌≡◌, sym}
use Prim.Native.Nat.{ℕ}
use Rattle.layout.specs.Space.{Valid}
use Rattle.nodes.specs.Name.{server_of, slot_of}
use Rattle.nodes.specs.declared.name.Name.{Name}
use Rattle.nodes.specs.declared.object.Object.{Object}
use Rattle.nodes.specs.declared.object.Object.TheVariants.{Metadata, Node, Flag}
use Rattle.server.specs.declared.place.Place.{Place}
use Rattle.server.specs.declared.place.Place.TheVariants.{MetadataLock, FlagLock, NodeLock}
use Rattle.server.specs.Layout.{places, server_block}
use Rattle.server.specs.Object.{lock_of, Has}

module _ (o : Object) where
  pub lock_metadata : o ≡ Metadata → MetadataLock ≡ lock_of o
  unfolding lock_of
  lock_metadata e = sym (rw e)

  pub lock_node : (x : Name) (s k : ℕ) → o ≡ Node x → s ≡ server_of x.number → k ≡ slot_of x.number → NodeLock s k ≡ lock_of o
  unfolding lock_of
  lock_node x s k e p q = rw (p, q) (sym (rw e))

  pub lock_flag : (x : Name) (k : ℕ) → o ≡ Flag x → k ≡ slot_of x.number → FlagLock k ≡ lock_of o
  unfolding lock_of
  lock_flag x k e q = rw q (sym (rw e))

  pub lock_valid : (n : ℕ) (a : Place) → Has n o → a ≡ lock_of o → Valid places (server_block n) a
  lock_valid n a h e = rw e h

pub ruleset object_exits = (lock_metadata, lock_node, lock_flag, lock_valid)
