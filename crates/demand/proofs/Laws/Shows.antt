-- What the memory and the steps' outcomes show of a state of the protocol's machine. Of copies and locks one direction is enough: a copy that
-- is stored is one of the machine's, a lock of the machine's is stored.
use Rattle.std.specs.Prelude.{◌≡◌, Bool, true, false, ◌||◌, List, [], ◌∷◌, map, get_or}
use Rattle.std.proofs.Math.Option.{Option, none, some}
use Prim.Native.Nat.{ℕ, suc, ◌+◌, ◌/◌, ◌%◌, ◌≤◌, ◌<◌, Fin}
use Rattle.memory.specs.Bit.{bit}
use Rattle.nodes.specs.Found.{Found}
use Rattle.std.specs.Prelude.{Some, None}
use Rattle.operations.specs.Object.{Obj, meta, node, flag, Val, root, taken}
use Rattle.operations.specs.Map.{Op}
use Rattle.operations.specs.Operation.{Legal}
use Rattle.protocol.specs.Setting.{Setting}
use Rattle.protocol.specs.Lists.{Among}
use Rattle.protocol.specs.State.{Phase, idle, opened, committing, decided}
use Rattle.protocol.specs.Meaning.{Shown}
use Rattle.server.specs.declared.place.Place.{Place}
use Rattle.nodes.specs.Object.{object_of}
use Rattle.server.specs.Object.{lock_of}
use Rattle.server.specs.Laws.Lock.{reads, writes}
use Rattle.client.specs.declared.part.Set.TheVariants.{Reads, Writes, Copies}
use Rattle.client.specs.Layout.{ClientWord, phase, op_number, participants, prepared, applied, item, vector_word, meta_states, meta_root, meta_version}
use Rattle.client.specs.Record.{number, value_of, object_in_store}
use Rattle.client.specs.Sets.{count, record_at, number_at, find}
use Rattle.client.specs.Items.{has}
use Rattle.client.specs.Participants.{lowest_of}
use Rattle.client.specs.Work.{waiting}
use Rattle.steps.specs.Whole.{Address}
use Rattle.steps.specs.Steps.{node_at}
use Rattle.demand.specs.Ledger.{Told, Ledger}
use Rattle.steps.proofs.Laws.Stores.{client_of, server_of}
use Rattle.demand.proofs.Laws.Store.{setting, keeps, by_value}
use Rattle.demand.proofs.Laws.Housed.{Housed}
use Rattle.nodes.specs.Name as N
use Rattle.protocol.specs.Machine as P
use Rattle.protocol.specs.Moves as Mv
use Rattle.server.specs.declared.place.Place.TheVariants as place

-- the phase of a transaction that is begun and not decided
abbrev pub Running : ℕ → Type 0
Running p = (0 < p) × (p < 3)

unfoldable pub phase_of : ℕ → Phase
phase_of n = get_or (idle ∷ opened ∷ committing ∷ []) n decided

module _ (k j slots : ℕ) where
  abbrev pub T : Setting
  T = setting k j slots

  abbrev pub InStore : Obj → Type 0
  InStore o = object_in_store slots o ≡ true

  -- an operation with its answer, as the machine has it and as the steps show it
  abbrev pub told : Shown T → Told
  told e = record { op = e.asked; ans = e.answered }

  -- ---- a client
  module _ (u : ClientWord → ℕ) where
    abbrev pub new_value : Obj → Val → Found → Val
    new_value o v (Some i) = value_of o (record_at u Writes i)
    new_value o v None = v

    abbrev pub item_from : Obj → Found → Option (P.Item T)
    item_from o (Some i) = some (record {
      obj = o;
      old = value_of o (record_at u Reads i);
      version = (record_at u Reads i).version;
      written = has u Writes (number o);
      new = new_value o (value_of o (record_at u Reads i)) (find u Writes (number o));
    })
    item_from o None = none

    -- the item that the sets have of an object
    unfoldable pub item_of : Obj → Option (P.Item T)
    item_of o = item_from o (find u Reads (number o))

    -- a transaction
    pub record SlotShown (y : P.Slot T) : Type 0 where
      pub phase_as : phase_of (u phase) ≡ y.phase
      pub item_as : (o : Obj) → InStore o → P.find T y.items o ≡ item_of o
      -- no object has two items
      pub read_found : (i : ℕ) → i < count u Reads → find u Reads (number_at u Reads i) ≡ Some i
      pub write_found : (i : ℕ) → i < count u Writes → find u Writes (number_at u Writes i) ≡ Some i
      pub inside : (i : P.Item T) → Among i y.items → InStore i.obj
      pub unique : (i : P.Item T) → Among i y.items → P.find T y.items i.obj ≡ some i
      pub participant_as : (s : Fin 8) → y.participant s ≡ bit (u participants) s.0
      pub prepared_as : (s : Fin 8) → y.prepared s ≡ bit (u prepared) s.0
      pub applied_as : (s : Fin 8) → y.applied s ≡ bit (u applied) s.0
      -- nothing is prepared before the commit
      pub calm : u phase < 2 → u prepared ≡ 0
      pub lowest_as : 2 ≤ u phase → y.lowest.0 ≡ lowest_of 8 (u participants)
      -- the homes of what it has read are there
      pub housed : Housed k j slots y.items

    abbrev pub copy : Val → ℕ → Option (P.Copy T)
    copy v n = some (record { value = v; version = n })

    -- copies; a place among those of nodes is one node's
    pub record CopiesShown (f : Obj → Option (P.Copy T)) : Type 0 where
      pub meta_as : ¬ (u meta_states ≡ 0) → f meta ≡ copy (root (u meta_root) (u meta_states)) (u meta_version)
      pub node_as : (i n : ℕ) → i < 64 → u (item Copies i 0) ≡ 1 + n → f (node n) ≡ copy (value_of (node n) (record_at u Copies i)) (record_at u Copies i).version
      pub flag_as : (n : ℕ) → InStore (flag n) → u (vector_word (N.server_of n) 0) ≡ 1
          → f (flag n) ≡ copy (taken (bit (u (vector_word (N.server_of n) (suc (N.slot_of n / 64)))) (N.slot_of n % 64))) 0
      pub apart : (i n : ℕ) → i < 64 → n < 64 → u (item Copies i 0) ≡ u (item Copies n 0) → ¬ (u (item Copies i 0) ≡ 0) → i ≡ n

    -- what was given, and what is answered of a transaction that is begun and not decided
    pub record SaidShown (given : Op) (undecided : List Told) (said : List (Shown T)) : Type 0 where
      pub said_as : Running (u phase) → undecided ≡ map told said
      pub given_as : ¬ (u op_number ≡ 0) → given ≡ waiting u
      pub legal : ¬ (u op_number ≡ 0) → Legal (waiting u)

  -- ---- a server
  abbrev pub Recorded : P.Lock T → ℕ → Type 0
  Recorded (P.shared q) w = (d : Fin (suc j)) → q d ≡ true → (reads d.0 w || writes d.0 w) ≡ true
  Recorded (P.owned d) w = writes d.0 w ≡ true

  module _ (p : Place → ℕ) where
    abbrev pub value_at : Obj → Val
    value_at meta = root (p place.Root) (p place.States)
    value_at (node n) = value_of (node n) (node_at p n)
    value_at (flag n) = taken (bit (p (place.Vector (N.slot_of n / 64))) (N.slot_of n % 64))

    abbrev pub version_at : Obj → ℕ
    version_at meta = p place.Version
    version_at (node n) = (node_at p n).version
    version_at (flag n) = 0

    abbrev pub table_at : Obj → ℕ
    table_at meta = p place.Version
    table_at (node n) = p (place.Table (N.server_of n) (N.slot_of n))
    table_at (flag n) = 0

    -- locks of flags are at home, all others at every server
    abbrev pub lock_kept : Fin 8 → Obj → Bool
    lock_kept s meta = true
    lock_kept s (node n) = true
    lock_kept s (flag n) = keeps k j slots s (flag n)

    pub record ServerShown (s : Fin 8) (value : Obj → Val) (version table : Obj → ℕ) (lock : Obj → P.Lock T) : Type 0 where
      pub value_as : (o : Obj) → InStore o → keeps k j slots s o ≡ true → value o ≡ value_at o
      pub version_as : (o : Obj) → InStore o → keeps k j slots s o ≡ true → version o ≡ version_at o
      pub table_as : (o : Obj) → InStore o → by_value k j slots o ≡ false → table o ≡ table_at o
      pub lock_as : (o : Obj) → InStore o → lock_kept s o ≡ true → Recorded (lock o) (p (lock_of (object_of (number o))))

  -- ---- the whole
  pub record ClientShown (u : ClientWord → ℕ) (given : Op) (undecided : List Told) (y : P.Slot T) (f : Obj → Option (P.Copy T)) (said : List (Shown T)) : Type 0 where
    pub slot : SlotShown u y
    pub copies : CopiesShown u f
    pub says : SaidShown u given undecided said

  pub record Related (m : Address → ℕ) (L : Ledger) (M : P.Machine T) : Type 0 where
    pub reached : Mv.Reached T M
    pub clients : (c : Fin (suc j)) → ClientShown (client_of m c.0) (L.given c.0) (L.undecided c.0) (M.slots c) (M.copy c) (M.said c)
    pub servers : (s : Fin 8) → ServerShown (server_of m s.0) s (M.value s) (M.version s) (M.table s) (M.lock s)
    pub log_as : L.decided ≡ map (map told) M.log
