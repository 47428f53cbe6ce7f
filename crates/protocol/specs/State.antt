-- A client's transaction, and the state of the whole: clients, servers, and ghosts.
-- The ghosts `current`, `history` and `log` say what objects once were and what was decided. Of the rules only those of the steps `read` and
-- `stamp` look at them.
use Rattle.std.specs.Prelude.{Bool, true, false, cond, ◌||◌, List, [], ◌∷◌, ℕ, zero}
use Rattle.base.specs.Update.{upd}
use Rattle.protocol.specs.Setting.{Setting}
use Rattle.protocol.specs.Writes.{writes?, latest}

-- where a client stands: no transaction, one that works, one after its commit step, one after its decision
pub data Phase : Type 0 where
  idle opened committing decided : Phase

abbrev pub is_decided : Phase → Bool
is_decided idle = false
is_decided opened = false
is_decided committing = false
is_decided decided = true

module _ (T : Setting) where
  open T use {Obj, Server, Client, Val, Op, Res, eq_obj, eq_server, eq_client, some_server, init, writes}

  -- an operation with the result of its plan: answer and writes
  pub record Entry : Type 0 where
    pub op : Op
    pub result : Res

  -- A client's transaction. Read set: which objects, with which value and version; write set: which objects, with which value.
  -- Where the test says no, the value and version mean nothing. The trace has the last operation first.
  pub record Transaction : Type 0 where
    pub phase : Phase
    pub read : Obj → Bool
    pub value_read : Obj → Val
    pub version_read : Obj → ℕ
    pub written : Obj → Bool
    pub value_written : Obj → Val
    pub trace : List Entry
    pub participant : Server → Bool
    pub lowest : Server
    pub prepared : Server → Bool
    pub applied : Server → Bool

  -- a decided transaction, and whether it had a participant; or a change of the servers, by its new metadata
  pub data Decided : Type 0 where
    transacted : (ops : List Entry) (took_part : Bool) → Decided
    reconfigured : Val → Decided

  -- The clients' transactions; what each server stores of each object, value, version and its table's version; and the ghosts:
  -- an object's version counting decided writes, what it was at each version, and the decided transactions, last first.
  pub record State : Type 0 where
    pub clients : Client → Transaction
    pub value : Server → Obj → Val
    pub version : Server → Obj → ℕ
    pub table : Server → Obj → ℕ
    pub current : Obj → ℕ
    pub history : Obj → ℕ → Val
    pub log : List Decided

  -- "An object is read from the write set, else the read set"
  abbrev pub view : Transaction → Obj → Val
  view x o = cond (x.written o) (x.value_written o) (x.value_read o)

  -- a transaction with another read set, write set and trace; and with another course of its commit
  abbrev pub with_sets : Transaction → (Obj → Bool) → (Obj → Val) → (Obj → ℕ) → (Obj → Bool) → (Obj → Val) → List Entry → Transaction
  with_sets x r v n w u t = record {
    phase = x.phase;
    read = r;
    value_read = v;
    version_read = n;
    written = w;
    value_written = u;
    trace = t;
    participant = x.participant;
    lowest = x.lowest;
    prepared = x.prepared;
    applied = x.applied;
  }

  abbrev pub with_course : Transaction → Phase → (Server → Bool) → Server → (Server → Bool) → (Server → Bool) → Transaction
  with_course x p q l r a = record {
    phase = p;
    read = x.read;
    value_read = x.value_read;
    version_read = x.version_read;
    written = x.written;
    value_written = x.value_written;
    trace = x.trace;
    participant = q;
    lowest = l;
    prepared = r;
    applied = a;
  }

  -- the transaction after each kind of step
  abbrev pub fresh : Phase → Transaction
  fresh p = record {
    phase = p;
    read = λ o. false;
    value_read = init;
    version_read = λ o. zero;
    written = λ o. false;
    value_written = init;
    trace = [];
    participant = λ s. false;
    lowest = some_server;
    prepared = λ s. false;
    applied = λ s. false;
  }

  abbrev pub reading : Transaction → Obj → Val → ℕ → Transaction
  reading x o v n = with_sets x (upd eq_obj x.read o true) (upd eq_obj x.value_read o v) (upd eq_obj x.version_read o n)
      x.written x.value_written x.trace

  -- "only then do its writes enter the write set"
  abbrev pub answering : Transaction → Entry → Transaction
  answering x e = let ws = writes e.result in with_sets x x.read x.value_read x.version_read
      (λ o. writes? eq_obj ws o || x.written o) (λ o. latest eq_obj ws o (x.value_written o)) (e ∷ x.trace)

  abbrev pub stamping : Transaction → (Obj → ℕ) → Transaction
  stamping x n = with_sets x x.read x.value_read n x.written x.value_written x.trace

  abbrev pub with_parts : Transaction → (Server → Bool) → Server → Transaction
  with_parts x p l = with_course x committing p l x.prepared x.applied

  abbrev pub preparing : Transaction → Server → Transaction
  preparing x s = with_course x x.phase x.participant x.lowest (upd eq_server x.prepared s true) x.applied

  abbrev pub deciding : Transaction → Transaction
  deciding x = with_course x decided x.participant x.lowest x.prepared x.applied

  abbrev pub applying : Transaction → Server → Transaction
  applying x s = with_course x x.phase x.participant x.lowest x.prepared (upd eq_server x.applied s true)

  -- "a new store": nobody has a transaction, "all versions are 0"
  abbrev pub start : State
  start = record {
    clients = λ c. fresh idle;
    value = λ s. init;
    version = λ s o. zero;
    table = λ s o. zero;
    current = λ o. zero;
    history = λ o n. init o;
    log = [];
  }

  -- the state after a step that changes one client's transaction alone
  abbrev pub put : State → Client → Transaction → State
  put σ c x = record {
    clients = upd eq_client σ.clients c x;
    value = σ.value;
    version = σ.version;
    table = σ.table;
    current = σ.current;
    history = σ.history;
    log = σ.log;
  }
