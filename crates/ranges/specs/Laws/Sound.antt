-- A SOUND STORE: everything stored is in range, and what it points to is there. From it no step is refused by 10, and every step leaves one.
use Rattle.std.specs.Prelude.{◌≡◌, refl, true, false, [], ◌∷◌, get_or}
use Prim.Native.Nat.{ℕ, suc, ◌-◌, ◌≤◌, ◌<◌, Fin}
use Rattle.memory.specs.Bit.{bit}
use Rattle.nodes.specs.declared.node.Node.{Node}
use Rattle.std.specs.Prelude.{Some}
use Rattle.nodes.specs.Lists.{pad}
use Rattle.nodes.specs.Node.{extra, slots_of, made}
use Rattle.nodes.specs.Range.{node_in_range}
use Rattle.operations.specs.Object.{Obj}
use Rattle.server.specs.declared.place.Place.{Place}
use Rattle.server.specs.declared.place.Place.TheVariants.{Root, Version, States, Table}
use Rattle.nodes.specs.Object.{object_of}
use Rattle.server.specs.Object.{lock_of}
use Rattle.server.specs.Laws.Lock.{reads, writes}
use Rattle.client.specs.declared.part.Set.TheVariants.{Reads, Writes, Copies}
use Rattle.client.specs.Layout.{ClientWord, field, item, vector_word, phase, participants, prepared, applied, meta_states, meta_root, meta_version}
use Rattle.client.specs.Record.{number, by_number, metadata, in_store, number_in_store, last_version, record_in_range, all, children_there}
use Rattle.client.specs.Sets.{count, record_at, number_at, find}
use Rattle.client.specs.Items.{has}
use Rattle.client.specs.Drops.{version_of}
use Rattle.client.specs.Fits.{op_fits}
use Rattle.client.specs.Laws.Ranges.{bounds}
use Rattle.steps.specs.declared.sizes.Sizes.{Sizes}
use Rattle.steps.specs.Whole.{Address, server}
use Rattle.steps.proofs.Laws.Stores.{client_of, server_of}
use Rattle.steps.specs.Uses.{read_item, locked_at}
use Rattle.steps.specs.Judge.{lowest_participant}
use Rattle.steps.specs.Steps.{node_at}
use Rattle.demand.proofs.Laws.Shows.{InStore, lock_kept}
use Rattle.demand.proofs.Laws.Turns.{store}
use Rattle.nodes.specs.Name as N
use Rattle.server.specs.Lock as L

-- with two slots: inner nodes over 0 and 1, over 0 and 2; a leaf's values are no names
children_sample : (children_there 2 (made 2 1 0 (5 ∷ []) (0 ∷ 1 ∷ [])) ≡ true) × (children_there 2 (made 2 1 0 (5 ∷ []) (0 ∷ 2 ∷ [])) ≡ false)
    × (children_there 2 (made 1 0 0 (5 ∷ []) (2 ∷ [])) ≡ true)
unfolding children_there made pad slots_of extra all N.name_in_store
children_sample = (refl, refl, refl)

-- a node's record
pub record NodeSound (slots : ℕ) (r : Node) : Type 0 where
  pub range : node_in_range r ≡ true
  pub children : children_there slots r ≡ true

-- a copy's record: "64 inner nodes"
pub record InnerSound (slots : ℕ) (r : Node) : Type 0 where
  pub inner : r.kind ≡ 2
  pub sound : NodeSound slots r

-- the record of the object with number x
pub record Sound (slots : ℕ) (x : ℕ) (r : Node) : Type 0 where
  pub fitting : record_in_range slots x r ≡ true
  pub children : by_number x true (λ n. children_there slots r) (λ n. true) ≡ true

-- an item of the read set or the write set
pub record ItemSound (slots : ℕ) (x : ℕ) (r : Node) : Type 0 where
  pub inside : number_in_store slots x ≡ true
  pub sound : Sound slots x r

-- ---- a client's part: the fields, the read set and the write set, the copies
pub record FieldsSound (slots : ℕ) (u : ClientWord → ℕ) : Type 0 where
  pub within : (i : ℕ) → i < 13 → u (field i) ≤ get_or bounds i 0
  pub op : op_fits slots u ≡ true

pub record SetsSound (slots : ℕ) (u : ClientWord → ℕ) : Type 0 where
  pub read : (i : ℕ) → i < count u Reads → ItemSound slots (number_at u Reads i) (record_at u Reads i)
  pub written : (i : ℕ) → i < count u Writes → ItemSound slots (number_at u Writes i) (record_at u Writes i)
  -- "a written object's read"
  pub written_read : (i : ℕ) → i < count u Writes → has u Reads (number_at u Writes i) ≡ true
  -- what is written was found on a way from the root
  pub rooted : (i : ℕ) → i < count u Writes → has u Reads 0 ≡ true
  -- "8 a written version is 4,294,967,295": of metadata and nodes none is
  pub young : (i : ℕ) → i < count u Writes → number_at u Writes i ≤ 8192 → version_of u (find u Reads (number_at u Writes i)) < last_version

pub record CopiesSound (slots : ℕ) (u : ClientWord → ℕ) : Type 0 where
  pub meta_copy : ¬ (u meta_states ≡ 0) → Sound slots 0 (metadata (u meta_version) (u meta_root) (u meta_states))
  pub copies : (i : ℕ) → i < 64 → ¬ (u (item Copies i 0) ≡ 0) → InnerSound slots (record_at u Copies i)
  pub vectors : (s : ℕ) → s < 8 → u (vector_word s 0) ≤ 1

pub record PartSound (slots : ℕ) (u : ClientWord → ℕ) : Type 0 where
  pub fields : FieldsSound slots u
  pub sets : SetsSound slots u
  pub copies : CopiesSound slots u

-- ---- the part of server s
pub record ServerSound (slots : ℕ) (s : ℕ) (p : Place → ℕ) : Type 0 where
  pub metadata : Sound slots 0 (metadata (p Version) (p Root) (p States))
  pub nodes : (n : ℕ) → in_store slots n ≡ true → N.server_of n ≡ s → NodeSound slots (node_at p n)
  pub tables : (n : ℕ) → in_store slots n ≡ true → p (Table (N.server_of n) (N.slot_of n)) ≤ last_version

-- ---- locks
module _ (z : Sizes) (m : Address → ℕ) (s : ℕ) where
  -- client d holds the lock of the object with number x at server s: after its commit, prepared there and not yet applied, it has read x
  pub record Holds (d x : ℕ) : Type 0 where
    pub after_commit : (2 ≤ client_of m d phase) × (client_of m d phase ≤ 3)
    pub takes_part : bit (client_of m d participants) s ≡ true
    pub has_prepared : bit (client_of m d prepared) s ≡ true
    pub not_applied : bit (client_of m d applied) s ≡ false
    pub place : ℕ
    pub found : find (client_of m d) Reads x ≡ Some place
    pub locks : locked_at (lowest_participant z m d) s (read_item (client_of m d) place) ≡ true

  -- the lock's word w names clients of the store, and each of them holds it; "or its write"
  pub record LockSound (x w : ℕ) : Type 0 where
    pub range : L.lock_in_range z.clients w ≡ true
    pub readers : (d : ℕ) → d < z.clients → reads d w ≡ true → Holds d x
    pub writer : (d : ℕ) → d < z.clients → writes d w ≡ true → Holds d x × (has (client_of m d) Writes x ≡ true)

-- ---- the whole
module _ (k j slots : ℕ) where
  abbrev pub LocksSound : (Address → ℕ) → Fin 8 → Type 0
  LocksSound m s = (o : Obj) → InStore k j slots o → lock_kept k j slots (server_of m s.0) s o ≡ true
      → LockSound (store k j slots) m s.0 (number o) (m (server s.0 (lock_of (object_of (number o)))))

  pub record SoundStore (m : Address → ℕ) : Type 0 where
    pub parts : (c : Fin (suc j)) → PartSound slots (client_of m c.0)
    pub servers : (s : Fin 8) → ServerSound slots s.0 (server_of m s.0)
    pub locks : (s : Fin 8) → LocksSound m s
