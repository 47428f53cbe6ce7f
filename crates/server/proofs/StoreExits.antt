-- Ways out of the code for storing: from the facts at hand there to what the contract says.
use mathlib.Core.Path.{◌≡◌, refl, sym, ap, ◌∙◌, subst}
use mathlib.Core.Bool.{Bool, true, false}
use mathlib.Core.List.{List, [], ◌∷◌}
use Prim.Native.Nat.{ℕ, ◌+◌, ◌/◌, ◌%◌, ◌≤◌}
use borrow.Author.Tests.{eq-eqb, ne_eqb}
use lib.ListN.{length}
use lib.Seq.{sets}
use Rattle.memory.specs.Bit.{put_bit}
use Rattle.layout.specs.Space.{Put, put, puts, at, Valid, mem, stored}
use Rattle.layout.proofs.Laws.Space.{stored_run}
use Rattle.layout.specs.Step.{Does, silent, stepped}
use Rattle.layout.proofs.Laws.Step.{does_as, does_both}
use Rattle.nodes.specs.Name.{server_of, slot_of}
use Rattle.nodes.specs.declared.name.Name.{Name}
use Rattle.nodes.specs.declared.node.Node as node
use Rattle.nodes.specs.Node.{free_node}
use Rattle.nodes.specs.Stored.{words_of, put_node}
use Rattle.nodes.proofs.Laws.Stored.{length_words}
use Rattle.nodes.specs.declared.object.Object.{Object}
use Rattle.nodes.specs.declared.object.Object.TheVariants as object
use Rattle.server.specs.declared.place.Place.{Place}
use Rattle.server.specs.declared.place.Place.TheVariants.{Root, Version, States, Vector, Table, Node}
use Rattle.server.specs.Layout.{places, server_block, part_words, put_step, Lies}
use Rattle.server.specs.Laws.Layout.{node_run, node_room, node_valid, root_valid, version_valid, states_valid, vector_valid}
use Rattle.server.specs.Object.{lock_of, Has}
use Rattle.server.proofs.ObjectExits.{lock_valid}
use Rattle.server.specs.Lock.{locked, unlocked}
use Rattle.server.specs.Store.{lock_step, unlock_step, metadata_step, flag_step, kept_of, home_step, table_step, node_step}
use Rattle.server.specs.Laws.Store.{slot_there, table_there}

module _ (n : ℕ) (w w' : List ℕ) where
  pub now_locked : (o : Object) (b : Bool) (c word v : ℕ) (a : Place) → a ≡ lock_of o → word ≡ mem places (server_block n) w a → v ≡ locked b c word
      → Does places (server_block n) (put_step a v) silent w 0 w' → Does places (server_block n) (lock_step o b c) silent w 0 w'
  unfolding put_step lock_step
  now_locked o b c word v a e q h d = does_as places (server_block n) (put_step a v) (lock_step o b c) silent w 0 w' (rw (h, q, e)) d

  pub now_unlocked : (o : Object) (c word v : ℕ) (a : Place) → a ≡ lock_of o → word ≡ mem places (server_block n) w a → v ≡ unlocked c word
      → Does places (server_block n) (put_step a v) silent w 0 w' → Does places (server_block n) (unlock_step o c) silent w 0 w'
  unfolding put_step unlock_step
  now_unlocked o c word v a e q h d = does_as places (server_block n) (put_step a v) (unlock_step o c) silent w 0 w' (rw (h, q, e)) d

  pub metadata_stored : (u v : List ℕ) (root states version : ℕ) → Does places (server_block n) (put_step Root root) silent w 0 u
      → Does places (server_block n) (put_step Version version) silent u 0 v → Does places (server_block n) (put_step States states) silent v 0 w'
      → Does places (server_block n) (metadata_step root states version) silent w 0 w'
  unfolding put_step metadata_step
  metadata_stored u v root states version p q h =
      does_both places (server_block n) (put Root root ∷ []) (put Version version ∷ put States states ∷ []) w u w' p
      (does_both places (server_block n) (put Version version ∷ []) (put States states ∷ []) u v w' q h)

  pub flag_stored : (x : Name) (b t : Bool) (k word v : ℕ) → b ≡ t → k ≡ slot_of x.number
      → word ≡ mem places (server_block n) w (Vector (k / 64)) → v ≡ put_bit t word (k % 64)
      → Does places (server_block n) (put_step (Vector (k / 64)) v) silent w 0 w' → Does places (server_block n) (flag_step x b) silent w 0 w'
  unfolding put_step flag_step
  flag_stored x b t k word v i e q h d =
      does_as places (server_block n) (put_step (Vector (k / 64)) v) (flag_step x b) silent w 0 w' (rw (h, q, i, e)) d

pub kept_free : (n r : node.Node) (v : ℕ) → n.kind ≡ 0 → r ≡ free_node v → r ≡ kept_of n v
unfolding kept_of
kept_free n r v h e = e ∙ sym (rw (eq-eqb n.kind 0 h))

pub kept_same : (n : node.Node) (v : ℕ) → ¬ (n.kind ≡ 0)
    → record { kind = n.kind; level = n.level; version = v; count = n.count; keys = n.keys; slots = n.slots } ≡ kept_of n v
unfolding kept_of
kept_same n v h = sym (rw (ne_eqb n.kind 0 h))

module _ (n : ℕ) (x : Name) (ok : Has n (object.Node x)) where
  pub home_valid : (k : ℕ) → k ≡ slot_of x.number → Valid places (server_block n) (Node k 0)
  home_valid k e = node_valid n k (slot_there n k x ok e)

  pub home_room : (k i l : ℕ) → k ≡ slot_of x.number → Lies n (Node k 0) i → part_words n ≤ l → i + 33 ≤ l
  home_room k i l e h g = node_room n k i l (slot_there n k x ok e) h g

  pub table_valid : (s k : ℕ) → s ≡ server_of x.number → k ≡ slot_of x.number → Valid places (server_block n) (Table s k)
  table_valid s k p q = rw (p, q) (table_there n x ok)

  pub at_home : (s r k i : ℕ) (y : node.Node) (w w' : List ℕ) → length y.keys ≡ 14 → length y.slots ≡ 15 → r ≡ server_of x.number → r ≡ s
      → k ≡ slot_of x.number → Lies n (Node k 0) i → w' ≡ put_node w i y → Does places (server_block n) (home_step s x y) silent w 0 w'
  unfolding stepped home_step put_node
  at_home s r k i y w w' lk ls p h e lies q =
      let b = at places (server_block n) (Node k 0) in
      let l : length (words_of y) ≡ 33 = length_words y (record { keys = lk; slots = ls }) in
      let stores : List (Put Place) = puts places (Node k) (words_of y) in
      let run : stored places (server_block n) w stores ≡ sets w b (words_of y) =
      stored_run places (server_block n) (words_of y) w (Node k) b (rw l (node_run n k (slot_there n k x ok e))) in
      let same : stores ≡ home_step s x y (mem places (server_block n) w) = sym (rw (← p, eq-eqb r s h, ← e)) in
      record {
        answer = refl;
        words = q ∙ ap (λ (j : ℕ). sets w j (words_of y)) lies.spot ∙ sym run ∙ ap (stored places (server_block n) w) same;
      }

pub not_home : (n s r : ℕ) (x : Name) (y : node.Node) (w : List ℕ) → r ≡ server_of x.number → ¬ (r ≡ s) → Does places (server_block n) (home_step s x y) silent w 0 w
unfolding stepped home_step stored
not_home n s r x y w p h = record { answer = refl; words = rw (← p, ne_eqb r s h) }

pub in_table : (n s k v : ℕ) (x : Name) (b : Bool) (w w' : List ℕ) → b ≡ true → s ≡ server_of x.number → k ≡ slot_of x.number
    → Does places (server_block n) (put_step (Table s k) v) silent w 0 w' → Does places (server_block n) (table_step x v b) silent w 0 w'
unfolding put_step table_step
in_table n s k v x b w w' h p q d = does_as places (server_block n) (put_step (Table s k) v) (table_step x v b) silent w 0 w' (rw (h, p, q)) d

pub not_in_table : (n v : ℕ) (x : Name) (b : Bool) (w : List ℕ) → b ≡ false → Does places (server_block n) (table_step x v b) silent w 0 w
unfolding stepped table_step stored
not_in_table n v x b w h = record { answer = refl; words = rw h }

pub node_stored : (n s v : ℕ) (x : Name) (y z : node.Node) (b : Bool) (w u w' : List ℕ) → z ≡ kept_of y v
    → Does places (server_block n) (home_step s x z) silent w 0 u → Does places (server_block n) (table_step x v b) silent u 0 w'
    → Does places (server_block n) (node_step s x y v b) silent w 0 w'
unfolding home_step table_step node_step
node_stored n s v x y z b w u w' e p q =
    does_both places (server_block n) (home_step s x (kept_of y v) (λ a. 0)) (table_step x v b (λ a. 0)) w u w'
    (subst (λ (t : node.Node). Does places (server_block n) (home_step s x t) silent w 0 u) e p) q

pub ruleset store_exits = (
  now_locked,
  now_unlocked,
  metadata_stored,
  flag_stored,
  root_valid,
  version_valid,
  states_valid,
  vector_valid,
  lock_valid,
  kept_free,
  kept_same,
  home_valid,
  home_room,
  table_valid,
  at_home,
  not_home,
  in_table,
  not_in_table,
  node_stored,
)
