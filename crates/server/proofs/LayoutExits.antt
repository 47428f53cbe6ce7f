-- Ways out of the code for reading and writing at a place: from the facts at hand there to what the contract says.
use mathlib.Core.Path.{◌≡◌, refl, sym, ap, ◌∙◌, subst}
use mathlib.Core.List.{List}
use Prim.Native.Nat.{ℕ, ◌+◌, ◌*◌, ◌<◌}
use native.Mathlib.Omega.{arith}
use lib.ListN.{get_or, set}
use Rattle.layout.specs.Block.{words, size, In, offset}
use Rattle.layout.specs.Space.{at, Valid, mem, stored}
use Rattle.layout.proofs.Laws.Space.{mem_at, at_below}
use Rattle.layout.specs.Step.{Does, silent, stepped}
use Rattle.server.specs.declared.place.Place.{Place}
use Rattle.server.specs.declared.place.Place.TheVariants.{Root, Version, States, MetadataLock, Vector, Node, FlagLock, Table, NodeLock}
use Rattle.server.specs.Layout.{server_block, places, part_words, put_step, Lies}

-- the bounds of a place that lies in the part
pub record Cell (k n j m : ℕ) : Type 0 where
  pub row : k < n
  pub word : j < m

module _ (n : ℕ) (a : Place) (ok : Valid places (server_block n) a) where
  pub in_vector : (i : ℕ) → a ≡ Vector i → i < 16
  unfolding Valid In
  in_vector i e = subst (Valid places (server_block n)) e ok

  pub in_node : (k j : ℕ) → a ≡ Node k j → Cell k n j 33
  unfolding Valid In
  in_node k j e = let h = subst (Valid places (server_block n)) e ok in record { row = h.0; word = h.1 }

  pub in_flag : (k : ℕ) → a ≡ FlagLock k → k < n
  unfolding Valid In
  in_flag k e = (subst (Valid places (server_block n)) e ok).0

  pub in_table : (s k : ℕ) → a ≡ Table s k → Cell k n s 8
  unfolding Valid In
  in_table s k e = let h = subst (Valid places (server_block n)) e ok in record { row = h.0; word = h.1 }

  pub in_locks : (s k : ℕ) → a ≡ NodeLock s k → Cell k n s 8
  unfolding Valid In
  in_locks s k e = let h = subst (Valid places (server_block n)) e ok in record { row = h.0; word = h.1 }

  placed : (b : Place) (i : ℕ) → a ≡ b → i ≡ at places (server_block n) b → Lies n a i
  unfolding part_words
  placed b i e q =
      let p : i ≡ at places (server_block n) a = q ∙ ap (at places (server_block n)) (sym e) in
      record { spot = p; within = rw p (at_below places (server_block n) a ok) }

  pub at_root : a ≡ Root → Lies n a 0
  unfolding at offset
  at_root e = placed Root 0 e refl

  pub at_version : a ≡ Version → Lies n a 1
  unfolding at offset
  at_version e = placed Version 1 e refl

  pub at_states : a ≡ States → Lies n a 2
  unfolding at offset
  at_states e = placed States 2 e refl

  pub at_metadata : a ≡ MetadataLock → Lies n a 3
  unfolding at offset
  at_metadata e = placed MetadataLock 3 e refl

  pub at_vector : (i : ℕ) → a ≡ Vector i → Lies n a (4 + i)
  unfolding at offset size
  at_vector i e = placed (Vector i) (4 + i) e refl

  pub at_node : (k j : ℕ) → a ≡ Node k j → Lies n a (20 + 50 * k + j)
  unfolding at offset size
  at_node k j e = placed (Node k j) (20 + 50 * k + j) e (omega arith)

  pub at_flag : (k : ℕ) → a ≡ FlagLock k → Lies n a (53 + 50 * k)
  unfolding at offset size
  at_flag k e = placed (FlagLock k) (53 + 50 * k) e (omega arith)

  pub at_table : (s k : ℕ) → a ≡ Table s k → Lies n a (54 + 50 * k + s)
  unfolding at offset size
  at_table s k e = placed (Table s k) (54 + 50 * k + s) e (omega arith)

  pub at_lock : (s k : ℕ) → a ≡ NodeLock s k → Lies n a (62 + 50 * k + s)
  unfolding at offset size
  at_lock s k e = placed (NodeLock s k) (62 + 50 * k + s) e (omega arith)

pub ruleset indices = (at_root, at_version, at_states, at_metadata, at_vector, at_node, at_flag, at_table, at_lock)

pub got : (n i r : ℕ) (a : Place) (w : List ℕ) → Valid places (server_block n) a → i ≡ at places (server_block n) a → r ≡ get_or w i 0 → r ≡ mem places (server_block n) w a
got n i r a w h e q = q ∙ rw e (sym (mem_at places (server_block n) w a h))

pub was_put : (n i v : ℕ) (a : Place) (w w' : List ℕ) → i ≡ at places (server_block n) a → w' ≡ set w i v → Does places (server_block n) (put_step a v) silent w 0 w'
unfolding stepped stored put_step
was_put n i v a w w' e q = record { answer = refl; words = q ∙ rw e }
