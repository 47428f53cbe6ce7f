-- What each step leaves at the places of a server's part: the thing stored is the thing read, others of its kind stay, and so
-- does everything of another kind.
use Rattle.std.specs.Prelude.{◌≡◌, Bool, cond, List, [], ◌∷◌, eqb}
use Rattle.std.proofs.Math.Path.{refl, sym, ap}
use Rattle.std.proofs.Common.{◌∙◌, arith, eq-eqb, ne_eqb}
use Rattle.std.proofs.Math.Bool.{true, false}
use Prim.Native.Nat.{ℕ, ◌/◌, ◌%◌}
use Rattle.std.proofs.Math.ListN.{get_or, set}
use Rattle.base.specs.Test.{one_if}
use Rattle.memory.specs.Bit.{put_bit, bit}
use Rattle.layout.specs.Space.{Put, put, puts, tab, written, changed, at}
use Rattle.layout.proofs.Laws.Space.{written_same, written_other, written_apart, tab_written, tab_eq, get_or_tab, Only, changed_only, only_puts, tab_puts_same, tab_puts_other, AllValid, valid_run, length_tab}
use Rattle.layout.proofs.Laws.Step.{valid_append}
use Rattle.nodes.specs.Name.{server_of, slot_of}
use Rattle.nodes.specs.Flags.{with_flag, all_flags}
use Rattle.nodes.specs.Stored.{node_of, words_of}
use Rattle.nodes.proofs.Laws.Stored.{Sized, length_words, node_words}
use Rattle.nodes.specs.declared.name.Name.{Name}
use Rattle.nodes.specs.declared.object.Object.{Object}
use Rattle.server.specs.declared.place.Place.{Place}
use Rattle.server.specs.declared.place.Place.TheVariants.{Root, Version, States, MetadataLock, Vector, Node, FlagLock, Table, NodeLock}
use Rattle.nodes.proofs.Laws.Bits.{flag_read}
use Rattle.server.specs.Check.{standing, mark_in, mark_place}
use Rattle.server.specs.Layout.{place_again, places, place_code, server_block}
use Rattle.server.specs.Laws.Layout.{node_run, root_valid, version_valid, states_valid, vector_valid}
use Rattle.server.specs.Object.{lock_of, Has}
use Rattle.server.specs.Lock.{locked, unlocked}
use Rattle.server.specs.Store.{lock_step, unlock_step, metadata_step, flag_step, home_step, table_step, kept_of, node_step}
use Rattle.server.specs.Laws.Store.{slot_there, table_there}
use Rattle.server.specs.HandOut.{metadata_at, vector_at, node_here}
use Rattle.nodes.specs.declared.node.Node as node
use Rattle.nodes.specs.declared.object.Object.TheVariants as object

-- the kinds of things stored: 0 metadata, 1 flags, 2 nodes, 3 versions in the table, 4 locks
abbrev pub kind : Place → ℕ
kind Root = 0
kind Version = 0
kind States = 0
kind (Vector i) = 1
kind (Node k j) = 2
kind (Table s k) = 3
kind MetadataLock = 4
kind (FlagLock k) = 4
kind (NodeLock s k) = 4

abbrev pub of_kind : ℕ → Place → Bool
of_kind i a = eqb (kind a) i

lock_kind : (o : Object) → of_kind 4 (lock_of o) ≡ true
unfolding lock_of
lock_kind object.Metadata = refl
lock_kind (object.Node x) = refl
lock_kind (object.Flag x) = refl

-- the memory after a step
abbrev pub after : (Place → ℕ) → ((Place → ℕ) → List (Put Place)) → Place → ℕ
after m g = changed places m (g m)

module _ (m : Place → ℕ) where
  -- ---- everything of another kind stays
  pub lock_keeps : (o : Object) (b : Bool) (c : ℕ) (a : Place) → of_kind 4 a ≡ false → after m (lock_step o b c) a ≡ m a
  unfolding lock_step Only
  lock_keeps o b c a e = changed_only places place_again (of_kind 4) (lock_step o b c m) m a (lock_kind o, tt) e

  pub unlock_keeps : (o : Object) (c : ℕ) (a : Place) → of_kind 4 a ≡ false → after m (unlock_step o c) a ≡ m a
  unfolding unlock_step Only
  unlock_keeps o c a e = changed_only places place_again (of_kind 4) (unlock_step o c m) m a (lock_kind o, tt) e

  pub metadata_keeps : (r st v : ℕ) (a : Place) → of_kind 0 a ≡ false → after m (metadata_step r st v) a ≡ m a
  unfolding metadata_step Only
  metadata_keeps r st v a e = changed_only places place_again (of_kind 0) (metadata_step r st v m) m a (refl, (refl, (refl, tt))) e

  pub flag_keeps : (x : Name) (b : Bool) (a : Place) → of_kind 1 a ≡ false → after m (flag_step x b) a ≡ m a
  unfolding flag_step Only
  flag_keeps x b a e = changed_only places place_again (of_kind 1) (flag_step x b m) m a (refl, tt) e

  only_home : (s : ℕ) (x : Name) (n : node.Node) (t : Bool) → Only places (of_kind 2) (cond t (puts places (Node (slot_of x.number)) (words_of n)) [])
  unfolding Only
  only_home s x n true = only_puts places (of_kind 2) (Node (slot_of x.number)) (words_of n) (λ i. refl)
  only_home s x n false = tt

  pub home_keeps : (s : ℕ) (x : Name) (n : node.Node) (a : Place) → of_kind 2 a ≡ false → after m (home_step s x n) a ≡ m a
  unfolding home_step
  home_keeps s x n a e = changed_only places place_again (of_kind 2) (home_step s x n m) m a (only_home s x n (eqb (server_of x.number) s)) e

  only_table : (x : Name) (v : ℕ) (t : Bool) → Only places (of_kind 3) (cond t (put (Table (server_of x.number) (slot_of x.number)) v ∷ []) [])
  unfolding Only
  only_table x v true = (refl, tt)
  only_table x v false = tt

  pub table_keeps : (x : Name) (v : ℕ) (b : Bool) (a : Place) → of_kind 3 a ≡ false → after m (table_step x v b) a ≡ m a
  unfolding table_step
  table_keeps x v b a e = changed_only places place_again (of_kind 3) (table_step x v b m) m a (only_table x v b) e

  -- ---- locks
  pub locked_same : (o : Object) (b : Bool) (c : ℕ) → after m (lock_step o b c) (lock_of o) ≡ locked b c (m (lock_of o))
  unfolding lock_step changed
  locked_same o b c = written_same places m (lock_of o) (locked b c (m (lock_of o)))

  pub locked_other : (o : Object) (b : Bool) (c : ℕ) (a : Place) → ¬ (a ≡ lock_of o) → after m (lock_step o b c) a ≡ m a
  unfolding lock_step changed
  locked_other o b c a n = written_other places place_again m (lock_of o) (locked b c (m (lock_of o))) a n

  pub unlocked_same : (o : Object) (c : ℕ) → after m (unlock_step o c) (lock_of o) ≡ unlocked c (m (lock_of o))
  unfolding unlock_step changed
  unlocked_same o c = written_same places m (lock_of o) (unlocked c (m (lock_of o)))

  pub unlocked_other : (o : Object) (c : ℕ) (a : Place) → ¬ (a ≡ lock_of o) → after m (unlock_step o c) a ≡ m a
  unfolding unlock_step changed
  unlocked_other o c a n = written_other places place_again m (lock_of o) (unlocked c (m (lock_of o))) a n

  -- ---- metadata
  pub metadata_same : (r st v : ℕ) → metadata_at (after m (metadata_step r st v)) ≡ record { root = r; version = v; states = st }
  unfolding metadata_at metadata_step changed
  metadata_same r st v =
      let u = written places m Root r in
      let w = written places u Version v in
      rw (
        written_apart places w States st Root refl,
        written_apart places w States st Version refl,
        written_apart places u Version v Root refl,
        written_same places m Root r,
        written_same places u Version v,
        written_same places w States st,
      )

  -- ---- flags
  pub flag_same : (x : Name) (b : Bool) → vector_at (after m (flag_step x b)) ≡ with_flag (vector_at m) (slot_of x.number) b
  unfolding vector_at flag_step with_flag changed
  flag_same x b =
      let i = slot_of x.number / 64 in
      let v = put_bit b (m (Vector i)) (slot_of x.number % 64) in
      tab_written places place_again 16 m Vector (λ i j e. ap (λ (a : Place). get_or (place_code a) 1 0) e) i v (omega arith)
      ∙ ap (λ (w : ℕ). set (tab 16 (λ j. m (Vector j))) i (put_bit b w (slot_of x.number % 64))) (sym (get_or_tab 16 (λ j. m (Vector j)) i (omega arith)))

  -- ---- nodes
  pub home_same : (x : Name) (n : node.Node) → Sized n → node_here (slot_of x.number) (after m (home_step (server_of x.number) x n)) ≡ n
  unfolding node_here home_step
  home_same x n h =
      rw (eq-eqb (server_of x.number) (server_of x.number) refl)
      (ap node_of (tab_puts_same places place_again 33 (words_of n) m (Node (slot_of x.number)) (length_words n h) (λ i j e. ap (λ (a : Place). get_or (place_code a) 3 0) e))
      ∙ node_words n h)

  pub home_other : (s : ℕ) (x : Name) (n : node.Node) (k : ℕ) → ¬ (k ≡ slot_of x.number) → node_here k (after m (home_step s x n)) ≡ node_here k m
  unfolding node_here home_step changed
  home_other s x n k d = go (eqb (server_of x.number) s)
    where
      go : (t : Bool) → node_of (tab 33 (λ j. changed places m (cond t (puts places (Node (slot_of x.number)) (words_of n)) []) (Node k j))) ≡ node_of (tab 33 (λ j. m (Node k j)))
      go true =
          ap node_of (tab_puts_other places place_again 33 (words_of n) m (Node (slot_of x.number)) (Node k) (λ i j e. d (ap (λ (a : Place). get_or (place_code a) 1 0) e)))
      go false = refl

  pub home_elsewhere : (s : ℕ) (x : Name) (n : node.Node) → ¬ (server_of x.number ≡ s) → after m (home_step s x n) ≡ m
  unfolding home_step changed
  home_elsewhere s x n d = rw (ne_eqb (server_of x.number) s d)

  -- ---- the table
  pub table_same : (x : Name) (v : ℕ) → after m (table_step x v true) (Table (server_of x.number) (slot_of x.number)) ≡ v
  unfolding table_step changed
  table_same x v = written_same places m (Table (server_of x.number) (slot_of x.number)) v

  pub table_other : (x : Name) (v s k : ℕ) (b : Bool) → ¬ (Table s k ≡ Table (server_of x.number) (slot_of x.number))
      → after m (table_step x v b) (Table s k) ≡ m (Table s k)
  unfolding table_step changed
  table_other x v s k true d = written_other places place_again m (Table (server_of x.number) (slot_of x.number)) v (Table s k) d
  table_other x v s k false d = refl

-- ---- what is handed out depends on its own kind alone
module _ (m u : Place → ℕ) where
  pub metadata_by_kind : ((a : Place) → of_kind 0 a ≡ true → u a ≡ m a) → metadata_at u ≡ metadata_at m
  unfolding metadata_at
  metadata_by_kind h = rw (h Root refl, h Version refl, h States refl)

  pub vector_by_kind : ((a : Place) → of_kind 1 a ≡ true → u a ≡ m a) → vector_at u ≡ vector_at m
  unfolding vector_at
  vector_by_kind h = tab_eq 16 (λ i. u (Vector i)) (λ i. m (Vector i)) (λ i l. h (Vector i) refl)

  pub node_by_kind : (k : ℕ) → ((a : Place) → of_kind 2 a ≡ true → u a ≡ m a) → node_here k u ≡ node_here k m
  unfolding node_here
  node_by_kind k h = ap node_of (tab_eq 33 (λ j. u (Node k j)) (λ j. m (Node k j)) (λ j l. h (Node k j) refl))

-- ---- every store of a step lies in the part
module _ (n : ℕ) (m : Place → ℕ) where
  pub lock_inside : (o : Object) (b : Bool) (c : ℕ) → Has n o → AllValid places (server_block n) (lock_step o b c m)
  unfolding lock_step AllValid
  lock_inside o b c h = (h, tt)

  pub unlock_inside : (o : Object) (c : ℕ) → Has n o → AllValid places (server_block n) (unlock_step o c m)
  unfolding unlock_step AllValid
  unlock_inside o c h = (h, tt)

  pub metadata_inside : (r st v : ℕ) → AllValid places (server_block n) (metadata_step r st v m)
  unfolding metadata_step AllValid
  metadata_inside r st v = (root_valid n, (version_valid n, (states_valid n, tt)))

  pub flag_inside : (x : Name) (b : Bool) → AllValid places (server_block n) (flag_step x b m)
  unfolding flag_step AllValid
  flag_inside x b = (vector_valid n (slot_of x.number) (omega arith), tt)

  pub home_inside : (s : ℕ) (x : Name) (y : node.Node) → Sized y → Has n (object.Node x) → AllValid places (server_block n) (home_step s x y m)
  unfolding home_step AllValid
  home_inside s x y h ok = go (eqb (server_of x.number) s)
    where
      k : ℕ
      k = slot_of x.number

      go : (t : Bool) → AllValid places (server_block n) (cond t (puts places (Node k) (words_of y)) [])
      go true =
          valid_run places (server_block n) (words_of y) (Node k) (at places (server_block n) (Node k 0))
          (rw (length_words y h) (node_run n k (slot_there n k x ok refl)))
      go false = tt

  pub table_inside : (x : Name) (v : ℕ) (b : Bool) → Has n (object.Node x) → AllValid places (server_block n) (table_step x v b m)
  unfolding table_step AllValid
  table_inside x v true ok = (table_there n x ok, tt)
  table_inside x v false ok = tt

  pub node_inside : (s : ℕ) (x : Name) (y : node.Node) (v : ℕ) (b : Bool) → Sized (kept_of y v) → Has n (object.Node x)
      → AllValid places (server_block n) (node_step s x y v b m)
  unfolding node_step
  node_inside s x y v b h ok =
      valid_append places (server_block n) (home_step s x (kept_of y v) m) (table_step x v b m) (home_inside s x (kept_of y v) h ok) (table_inside x v b ok)

-- ---- the marks of a check are what is handed out
module _ (m : Place → ℕ) (x : Name) where
  pub own_version : standing (object.Node x) false m ≡ (node_here (slot_of x.number) m).version
  unfolding standing mark_in mark_place node_here node_of
  own_version = sym (get_or_tab 33 (λ j. m (Node (slot_of x.number) j)) 2 (omega arith))

  pub own_flag : (inner : Bool) → standing (object.Flag x) inner m ≡ one_if (get_or (all_flags (vector_at m)) (slot_of x.number) false)
  unfolding standing mark_in mark_place vector_at
  own_flag inner =
      let k = slot_of x.number in
      let ws = tab 16 (λ i. m (Vector i)) in
      let e : m (Vector (k / 64)) ≡ get_or ws (k / 64) 0 = sym (get_or_tab 16 (λ i. m (Vector i)) (k / 64) (omega arith)) in
      ap one_if (flag_read ws k (bit (m (Vector (k / 64))) (k % 64)) (length_tab 16 (λ i. m (Vector i))) (omega arith) (ap (λ (w : ℕ). bit w (k % 64)) e))
