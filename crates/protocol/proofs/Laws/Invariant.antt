-- The invariant of the protocol. For each part: why it is needed, and by which step.
--
-- The argument. A transaction reads old values. Its answers follow from what it read alone, so they are right on every snapshot that agrees
-- with it (`content`). A prepare that finds nobody's lock in its way finds nothing pending, so that stored versions and tables say what is
-- current (`stored`, `newest`, `tables`), and what passes its checks is current; its locks keep it so (`apart`, `kept`). When all participants
-- have prepared, everything read is current at one moment, the decision: there the newest snapshot agrees with what was read, the trace runs
-- on it, and the log grows by one (`replay`). The writes are then pending at the servers that lock them, and each apply settles one (`due`).
use Rattle.std.specs.Prelude.{◌≡◌, Bool, true, false, cond, List, ◌⊎◌, ℕ, suc, ◌≤◌, ◌<◌}
use Rattle.protocol.specs.Setting.{Setting}
use Rattle.protocol.specs.State.{Phase, is_decided, Entry, Transaction, State}
use Rattle.protocol.proofs.Laws.State.{after_commit}
use Rattle.protocol.specs.System.{here, there, inner_before_after, Holds, Checked, LockedAt, Apart, Parts}
use Rattle.protocol.specs.Replay.{effect, Answers, Uncompared, Replays}

module _ (T : Setting) where
  open T use {Obj, Server, Client, Val, home, keeps, inner, meta, present}

  -- Of a transaction's sets and its trace. The steps `read` and `answer` build it up; the decision needs it.
  pub record Contents (read written : Obj → Bool) (value_read value_written : Obj → Val) (trace : List (Entry T)) : Type 0 where
    -- what is written was read: so checks cover it, and its home takes part
    pub written_read : (o : Obj) → written o ≡ true → read o ≡ true
    -- who writes knows the servers, and leaves them as they are: the decision needs both, for "all servers" as read and as they then are
    pub knows : (o : Obj) → written o ≡ true → read meta ≡ true
    pub same_servers : written meta ≡ true → (s : Server) → present (value_written meta) s ≡ present (value_read meta) s
    -- on EVERY snapshot that agrees with what was read the trace has its results, and makes its writes: the decision takes the newest one
    -- in place of the many old ones that were read
    pub explained : (M : Obj → Val) → ((o : Obj) → read o ≡ true → M o ≡ value_read o)
        → Answers T trace M × ((o : Obj) → effect T trace M o ≡ cond (written o) (value_written o) (M o))
    -- nothing of it is compared, or it will have a participant, since it read something outer or wrote something: the decision of a
    -- transaction without participants needs it, where nothing was checked
    pub outer_seen : Uncompared T trace ⊎ ((o : Obj) × (read o ≡ true) × ((inner o (value_read o) ≡ false) ⊎ (written o ≡ true)))

  abbrev pub Content : Transaction T → Type 0
  Content x = Contents x.read x.written x.value_read x.value_written x.trace

  -- Of a transaction's course: commit, prepares, decision and applies come in this order.
  pub record Courses (phase : Phase) (participant prepared applied : Server → Bool) : Type 0 where
    -- before its commit step it holds no locks, so `read`, `answer` and `commit` disturb none
    pub unprepared : after_commit phase ≡ false → (s : Server) → prepared s ≡ false
    -- before its decision it has applied nothing, so what it prepared is locked still: the decision needs it, of itself and of others
    pub unapplied : is_decided phase ≡ false → (s : Server) → applied s ≡ false
    -- after its decision it has prepared everywhere, so what is pending is locked: prepares and decisions of others need it
    pub all_prepared : is_decided phase ≡ true → (s : Server) → participant s ≡ true → prepared s ≡ true

  abbrev pub Course : Transaction T → Type 0
  Course x = Courses x.phase x.participant x.prepared x.applied

  -- What was read is what the object was at the version read; an old copy is no more than that. The decision needs it, to conclude from
  -- equal versions that the values are equal, and the prepare, to know that an inner object was inner at that version.
  abbrev pub Reads : State T → Transaction T → Type 0
  Reads σ x = (o : Obj) → x.read o ≡ true → (x.value_read o ≡ σ.history o (x.version_read o)) × (x.version_read o ≤ σ.current o)

  -- What was checked at a prepare is current until the decision, since it is locked. The decision needs it of all that was read.
  abbrev pub Kept : State T → Transaction T → Type 0
  Kept σ x = is_decided x.phase ≡ false → (s : Server) (o : Obj) → x.prepared s ≡ true → x.read o ≡ true → Checked T x s o
      → σ.current o ≡ x.version_read o

  -- From version n on no write of the object was inner before or after. Of a table that holds n a prepare needs just this: what was read
  -- at version n and was inner then is current.
  pub record OuterSince (current : Obj → ℕ) (history : Obj → ℕ → Val) (o : Obj) (n : ℕ) : Type 0 where
    pub upto : n ≤ current o
    pub none : (w : ℕ) → n ≤ w → w < current o → (inner o (history o w) ≡ false) × (inner o (history o (suc w)) ≡ false)

  abbrev pub Seated : Transaction T → Type 0
  Seated x = (o : Obj) → x.read o ≡ true → inner o (x.value_read o) ≡ false → x.participant (home o) ≡ true

  -- Of a decided transaction's writes, where they are still to be applied.
  pub record Due (current : Obj → ℕ) (history : Obj → ℕ → Val) (x : Transaction T) : Type 0 where
    -- each is in the history, also after others wrote again: an apply stores it, and the client may copy it
    pub past : (o : Obj) → x.written o ≡ true
        → (history o (suc (x.version_read o)) ≡ x.value_written o) × (suc (x.version_read o) ≤ current o)
    -- it was not lost: the homes of all outer objects that it read took part
    pub seated : Seated x
    -- the servers that it knows are those that are there until it ends, since they change only where none is decided; homes are among them
    pub aware : (o : Obj) → x.written o ≡ true → (s : Server) → there T x s ≡ present (history meta (current meta)) s
    pub at_home : (o : Obj) → x.written o ≡ true → ¬ (o ≡ meta) → there T x (home o) ≡ true
    -- due at a server that keeps the object, it is the newest: so the apply makes that server current, and the theorem may count it in
    pub due_newest : (s : Server) (o : Obj) → x.applied s ≡ false → x.written o ≡ true → keeps s o ≡ true → there T x s ≡ true
        → current o ≡ suc (x.version_read o)
    -- Due at a table, nothing was inner since, so the apply makes that table right. It need not be the newest: after an inner node was
    -- freed, another transaction may take it as a leaf, with its home as sole participant, before all tables know that it is free.
    pub due_outer : (s : Server) (o : Obj) → x.applied s ≡ false → x.written o ≡ true → inner_before_after T x o ≡ true → there T x s ≡ true
        → OuterSince current history o (suc (x.version_read o))

  -- A decided write, locked at s and not yet applied there. The lock is part of it, and so is that s is there: a server that takes no part
  -- never gets an apply.
  abbrev pub Pending : Transaction T → Server → Obj → Type 0
  Pending x s o = (is_decided x.phase ≡ true) × (x.applied s ≡ false) × (x.written o ≡ true) × LockedAt T x s o × (there T x s ≡ true)

  abbrev pub PendingInner : Transaction T → Server → Obj → Type 0
  PendingInner x s o = Pending x s o × (inner_before_after T x o ≡ true)

  -- what a server stores of an object that it keeps is current, or the newest write is pending there: a prepare's check at home needs it
  abbrev pub Newest : State T → Server → Obj → Type 0
  Newest σ s o = (σ.version s o ≡ σ.current o) ⊎ ((c : Client) × Pending (σ.clients c) s o)

  -- A table holds a version from which on nothing was inner, or a write inner before or after is pending there: a prepare's check by
  -- table needs it. It is not the object's version, which goes on while the object is outer.
  abbrev pub TableRight : State T → Server → Obj → Type 0
  TableRight σ s o = OuterSince σ.current σ.history o (σ.table s o) ⊎ ((c : Client) × PendingInner (σ.clients c) s o)

  -- what s stores of o counts: an absent server's metadata is old; its free nodes are not, since nothing is written there
  abbrev pub Counts : State T → Server → Obj → Type 0
  Counts σ s o = (here T σ s ≡ true) ⊎ ¬ (o ≡ meta)

  -- Of servers that come and go.
  pub record Staffed (value : Server → Obj → Val) (table : Server → Obj → ℕ) (current : Obj → ℕ) (history : Obj → ℕ → Val) : Type 0 where
    -- "a server is what its own metadata calls it": a prepare needs it, which asks the server
    pub called : (s : Server) → present (value s meta) s ≡ present (history meta (current meta)) s
    -- inner nodes live on servers that are there: the decision needs it, since a write of one is applied at all of these, and so at home
    pub homed : (o : Obj) → ¬ (o ≡ meta) → inner o (history o (current o)) ≡ true → present (history meta (current meta)) (home o) ≡ true
    -- there was always a server: so whoever writes an inner node has a participant, which checks
    pub manned : (n : ℕ) → n ≤ current meta → (s : Server) × (present (history meta n) s ≡ true)
    -- no table is ahead, not even of an absent server, from which an added one takes the largest number
    pub behind : (s : Server) (o : Obj) → table s o ≤ current o

  pub record Inv (σ : State T) : Type 0 where
    pub content : (c : Client) → Content (σ.clients c)
    pub course : (c : Client) → Course (σ.clients c)
    -- the participants that the commit step chose: prepare, decision and end need them
    pub parts : (c : Client) → after_commit (σ.clients c).phase ≡ true → Parts T (σ.clients c) (σ.clients c).participant (σ.clients c).lowest
    pub reads : (c : Client) → Reads σ (σ.clients c)
    pub kept : (c : Client) → Kept σ (σ.clients c)
    pub due : (c : Client) → is_decided (σ.clients c).phase ≡ true → Due σ.current σ.history (σ.clients c)
    -- locks exclude each other: so a decision leaves current what others have checked, and newest what others have due
    pub apart : (c d : Client) → ¬ (c ≡ d) → (s : Server) → Holds T (σ.clients c) s → Holds T (σ.clients d) s
        → Apart T (σ.clients c) (σ.clients d) s
    -- what is stored is what the object was at the stored version: a fetch reads it, and a check by value compares it
    pub stored : (s : Server) (o : Obj) → keeps s o ≡ true → (σ.value s o ≡ σ.history o (σ.version s o)) × (σ.version s o ≤ σ.current o)
    pub newest : (s : Server) (o : Obj) → keeps s o ≡ true → Counts σ s o → Newest σ s o
    pub tables : (s : Server) (o : Obj) → here T σ s ≡ true → TableRight σ s o
    pub staffed : Staffed σ.value σ.table σ.current σ.history
    -- locks are held only at servers that are there
    pub held : (c : Client) (s : Server) → (σ.clients c).prepared s ≡ true → here T σ s ≡ true
    -- the decided transactions explain the newest snapshot: the theorem's first half
    pub replay : Replays T σ.log (λ o. σ.history o (σ.current o))
