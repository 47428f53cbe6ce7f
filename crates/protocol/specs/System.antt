-- 01's transaction rules as a transition system: locks, checks, participants, decision, apply, and the steps.
use Rattle.std.specs.Prelude.{◌≡◌, Bool, true, false, cond, ◌&&◌, ◌||◌, not, ◌∷◌, ◌⊎◌, ℕ, suc, ◌≤◌}
use Rattle.std.proofs.Math.Decide.{ℕ_discrete}
use Rattle.base.specs.Test.{yes?}
use Rattle.base.specs.Update.{upd}
use Rattle.plans.specs.Plan.{gives, exec, Asked}
use Rattle.protocol.specs.Setting.{Setting}
use Rattle.protocol.specs.State.{idle, opened, committing, decided, is_decided, Entry, Transaction, State, view, fresh, reading, answering, transacted, reconfigured, stamping, with_parts, preparing, deciding, applying, start, put}
use Rattle.protocol.specs.Replay.{snapshot}

module _ (T : Setting) where
  open T use {Obj, Server, Client, Val, eq_obj, eq_server, eq_client, home, keeps, inner, by_value, plan, meta, present, Alike}

  -- ""All servers" means those not absent": by the newest metadata
  abbrev pub here : State T → Server → Bool
  here σ = present (snapshot T σ meta)

  -- "for a transaction by the metadata it read"
  abbrev pub there : Transaction T → Server → Bool
  there x = present (x.value_read meta)

  -- "inner before or after": as read or as written
  abbrev pub inner_before_after : Transaction T → Obj → Bool
  inner_before_after x o = inner o (x.value_read o) || inner o (x.value_written o)

  -- a transaction holds its locks at s from its prepare there to its apply there
  abbrev pub Holds : Transaction T → Server → Type 0
  Holds x s = (x.prepared s ≡ true) × (x.applied s ≡ false)

  -- "Metadata and inner nodes are checked at the lowest participant, and at every one if written"; what is outer, at home
  abbrev pub Checked : Transaction T → Server → Obj → Type 0
  Checked x s o = ((inner o (x.value_read o) ≡ true) × ((x.lowest ≡ s) ⊎ (x.written o ≡ true)))
      ⊎ ((inner o (x.value_read o) ≡ false) × (s ≡ home o))

  -- what is checked is locked until the decision: the second trap is to leave this out
  abbrev pub ReadLock : Transaction T → Server → Obj → Type 0
  ReadLock x s o = (x.read o ≡ true) × Checked x s o

  -- a write is locked at home; "a node becoming inner is checked at home, locked at all", and so is one that was inner
  abbrev pub LockedAt : Transaction T → Server → Obj → Type 0
  LockedAt x s o = (s ≡ home o) ⊎ (inner_before_after x o ≡ true)

  abbrev pub WriteLock : Transaction T → Server → Obj → Type 0
  WriteLock x s o = (x.written o ≡ true) × LockedAt x s o

  -- "many readers, or one writer and nobody else": x writes nothing at s that y has locked there
  abbrev pub Apart : Transaction T → Transaction T → Server → Type 0
  Apart x y s = (o : Obj) → WriteLock x s o → WriteLock y s o ⊎ ReadLock y s o → ⊥

  -- a decision: the ghosts take the writes in
  abbrev pub after_decision : State T → Client → State T
  after_decision σ c = let x = σ.clients c in record {
    clients = upd eq_client σ.clients c (deciding T x);
    value = σ.value;
    version = σ.version;
    table = σ.table;
    current = λ o. cond (x.written o) (suc (x.version_read o)) (σ.current o);
    history = λ o. cond (x.written o) (upd ℕ_discrete (σ.history o) (suc (x.version_read o)) (x.value_written o)) (σ.history o);
    log = transacted x.trace (x.participant x.lowest) ∷ σ.log;
  }

  -- "a written version becomes the one read plus 1": the third trap is to start it afresh
  abbrev pub next_version : Transaction T → Obj → ℕ
  next_version x o = suc (x.version_read o)

  -- "for a node inner before or after, in every table": also for one that stops being inner
  abbrev pub in_tables : Transaction T → Obj → Bool
  in_tables x o = inner_before_after x o

  -- "Apply writes and unlocks"; the table takes the version "even where a table holds an older number"
  abbrev pub after_apply : State T → Client → Server → State T
  after_apply σ c s = let x = σ.clients c in record {
    clients = upd eq_client σ.clients c (applying T x s);
    value = upd eq_server σ.value s (λ o. cond (x.written o) (cond (keeps s o) (x.value_written o) (σ.value s o)) (σ.value s o));
    version = upd eq_server σ.version s (λ o. cond (x.written o) (cond (keeps s o) (next_version x o) (σ.version s o)) (σ.version s o));
    table = upd eq_server σ.table s (λ o. cond (x.written o) (cond (in_tables x o) (next_version x o) (σ.table s o)) (σ.table s o));
    current = σ.current;
    history = σ.history;
    log = σ.log;
  }

  -- A transaction with a participant that has read the metadata, and as inner a node whose home is not there by that metadata: what it read was never
  -- one tree, so it can't be decided. Such a one may leave homes out.
  abbrev pub Homeless : (read inner_read : Obj → Bool) (there p : Server → Bool) (l : Server) → Type 0
  Homeless read inner_read there p l = (p l ≡ true) × (read meta ≡ true)
      × ((q : Obj) × (read q ≡ true) × (inner_read q ≡ true) × ¬ (q ≡ meta) × (there (home q) ≡ false))

  -- "Participants are the homes of leaves, free nodes and flags read; or all servers, where the metadata or a node inner before or after
  -- is written"; and the one of them where inner objects are checked, which the rules have be the lowest: for safety any will do
  pub record Participants (read written inner_read inner_any : Obj → Bool) (there : Server → Bool) (p : Server → Bool) (l : Server) : Type 0 where
    pub homes : (o : Obj) → read o ≡ true → inner_read o ≡ false → (p (home o) ≡ true) ⊎ Homeless read inner_read there p l
    pub everywhere : (o : Obj) (s : Server) → written o ≡ true → inner_any o ≡ true → there s ≡ true → p s ≡ true
    pub one_of_them : p l ≡ false → (s : Server) → p s ≡ false

  abbrev pub Parts : Transaction T → (Server → Bool) → Server → Type 0
  Parts x = Participants x.read x.written (λ o. inner o (x.value_read o)) (inner_before_after x) (there x)

  -- the checks of a prepare at s: by the table, or by the version at home
  pub record Checks (table version : Server → Obj → ℕ) (x : Transaction T) (s : Server) : Type 0 where
    pub by_table : (o : Obj) → x.read o ≡ true → inner o (x.value_read o) ≡ true
        → (x.lowest ≡ s) ⊎ (x.written o ≡ true) → table s o ≡ x.version_read o
    pub at_home : (o : Obj) → x.read o ≡ true → inner o (x.value_read o) ≡ false → s ≡ home o → version s o ≡ x.version_read o

  -- "Prepare checks and locks"; "a server is what its own metadata calls it", and "prepare at an absent server aborts"
  pub record CanPrepare (σ : State T) (c : Client) (s : Server) : Type 0 where
    pub phase : (σ.clients c).phase ≡ committing
    pub not_absent : present (σ.value s meta) s ≡ true
    pub checks : Checks σ.table σ.version (σ.clients c) s
    pub unlocked : (d : Client) → ¬ (d ≡ c) → Holds (σ.clients d) s
        → Apart (σ.clients c) (σ.clients d) s × Apart (σ.clients d) (σ.clients c) s

  -- The version n for an object read: it is the one read; or the object is checked by value, which it has not been yet, and had the value
  -- read at version n
  abbrev pub Stamp : State T → Transaction T → Obj → ℕ → Type 0
  Stamp σ x o n = (n ≡ x.version_read o)
      ⊎ ((by_value o ≡ true) × (x.prepared (home o) ≡ false) × (x.value_read o ≡ σ.history o n) × (n ≤ σ.current o))

  -- SERVERS COME AND GO. The new metadata is written "alike on all servers, an added or removed one included"
  abbrev pub changed : (old new : Val) → Server → Obj → Bool
  changed old new s o = yes? (eq_obj o meta) && (present old s || present new s)

  -- n is "the largest number in its own earlier table or in those of servers not absent"
  pub record Largest (table : Server → Obj → ℕ) (there : Server → Bool) (s : Server) (o : Obj) (n : ℕ) : Type 0 where
    pub above : (t : Server) → there t ≡ true → table t o ≤ n
    pub one_of_them : (n ≡ table s o) ⊎ ((t : Server) × (there t ≡ true) × (n ≡ table t o))

  -- "All three need that no transaction is prepared or decided without being ended"
  pub record CanReconfigure (σ : State T) (v : Val) (t : Server → Obj → ℕ) : Type 0 where
    pub unprepared : (c : Client) (s : Server) → (σ.clients c).prepared s ≡ false
    pub undecided : (c : Client) → is_decided (σ.clients c).phase ≡ false
    -- the same tree; some server is there; no inner node's home is removed
    pub alike : Alike (snapshot T σ meta) v
    pub manned : (s : Server) × (present v s ≡ true)
    pub homed : (o : Obj) → ¬ (o ≡ meta) → inner o (snapshot T σ o) ≡ true → present v (home o) ≡ true
    -- the tables of servers that are added
    pub tables : (s : Server) → here σ s ≡ false → present v s ≡ true → (o : Obj) → Largest σ.table (here σ) s o (t s o)

  -- "Each is done and writes the new metadata, its version raised"
  abbrev pub after_reconfigure : State T → Val → (Server → Obj → ℕ) → State T
  after_reconfigure σ v t = let old = snapshot T σ meta in let n = suc (σ.current meta) in record {
    clients = σ.clients;
    value = λ s o. cond (changed old v s o) v (σ.value s o);
    version = λ s o. cond (changed old v s o) n (σ.version s o);
    table = λ s o. cond (changed old v s o) n (cond (not (present old s) && present v s) (t s o) (σ.table s o));
    current = upd eq_obj σ.current meta n;
    history = upd eq_obj σ.history meta (upd ℕ_discrete (σ.history meta) n v);
    log = reconfigured v ∷ σ.log;
  }

  pub data Step (σ : State T) : State T → Type 0 where
    begin : (c : Client) → (σ.clients c).phase ≡ idle → Step σ (put T σ c (fresh T opened))
    -- anything that the object once was: by a fetch, or from an old copy
    read : (c : Client) (o : Obj) (n : ℕ) → (σ.clients c).phase ≡ opened → (σ.clients c).read o ≡ false → n ≤ σ.current o
        → Step σ (put T σ c (reading T (σ.clients c) o (σ.history o n) n))
    -- an operation is answered when all that its plan asks for has been read
    answer : (c : Client) (e : Entry T) → (σ.clients c).phase ≡ opened
        → Asked (plan e.op) (σ.clients c).read (view T (σ.clients c))
        → exec (plan e.op) (view T (σ.clients c)) ≡ gives e.result
        → Step σ (put T σ c (answering T (σ.clients c) e))
    -- more participants than the rules name do no harm
    commit : (c : Client) (p : Server → Bool) (l : Server) → (σ.clients c).phase ≡ opened → Parts (σ.clients c) p l
        → Step σ (put T σ c (with_parts T (σ.clients c) p l))
    -- "flags by value": no version of a flag is stored, so before its check it takes the one that it has by now
    stamp : (c : Client) (n : Obj → ℕ) → (σ.clients c).phase ≡ committing → ((o : Obj) → Stamp σ (σ.clients c) o (n o))
        → Step σ (put T σ c (stamping T (σ.clients c) n))
    -- "Prepares and applies come in any order of servers"; one at a server that takes no part does no harm
    prepare : (c : Client) (s : Server) → CanPrepare σ c s → Step σ (put T σ c (preparing T (σ.clients c) s))
    -- "The last prepare is the decision"; with no participant, the commit step
    decide : (c : Client) → (σ.clients c).phase ≡ committing
        → ((s : Server) → (σ.clients c).participant s ≡ true → (σ.clients c).prepared s ≡ true) → Step σ (after_decision σ c)
    -- at participants only: a server that is absent is not written
    apply : (c : Client) (s : Server) → (σ.clients c).phase ≡ decided → (σ.clients c).participant s ≡ true → (σ.clients c).applied s ≡ false
        → Step σ (after_apply σ c s)
    -- "The last apply ends the transaction"
    end : (c : Client) → (σ.clients c).phase ≡ decided
        → ((s : Server) → (σ.clients c).participant s ≡ true → (σ.clients c).applied s ≡ true) → Step σ (put T σ c (fresh T idle))
    -- for whatever reason, "7 lost, and undecided" too
    abort : (c : Client) → is_decided (σ.clients c).phase ≡ false → Step σ (put T σ c (fresh T idle))
    -- "Kind 8 adds an absent server, 9 closes an open one to new nodes, 10 removes a closing one"
    reconfigure : (v : Val) (t : Server → Obj → ℕ) → CanReconfigure σ v t → Step σ (after_reconfigure σ v t)

  pub data Reach : State T → Type 0 where
    initial : Reach (start T)
    after : {σ τ : State T} → Reach σ → Step σ τ → Reach τ
