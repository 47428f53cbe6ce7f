-- The machine's moves, with computed tests for premises. A step of a schedule is some moves, perhaps none. A work step uses copies and
-- then fetches or answers (file Work). The last prepare is `prepares`, `decides`; with one participant `applies`, `ends` and `releases` follow;
-- a commit without participants is `commits`, `decides`, `ends`; an abort, for whatever reason, `aborts`, `releases`. `copies` may follow any.
use Rattle.std.specs.Prelude.{◌≡◌, Bool, true, false, cond, ◌&&◌, ◌||◌, not, List, [], ◌∷◌, map, ℕ, suc}
use Rattle.std.proofs.Math.Option.{Option, none, some}
use Rattle.std.proofs.Math.Decide.{ℕ_discrete}
use Rattle.base.specs.Test.{yes?}
use Rattle.base.specs.Update.{upd}
use Rattle.plans.specs.Plan.{gives, exec, Asked}
use Rattle.protocol.specs.Setting.{Setting}
use Rattle.protocol.specs.Writes.{writes?, latest}
use Rattle.protocol.specs.Lists.{all, any}
use Rattle.protocol.specs.State.{Phase, idle, opened, committing, decided, is_decided, Entry, view}
use Rattle.protocol.specs.System.{changed, Largest}
use Rattle.protocol.specs.Meaning.{shown_of}
use Rattle.protocol.specs.Machine.{Item, find, says, test, Slot, Copy, Lock, shared, owned, Machine, with_items, with_course, blank, unlocked, first_machine, with_item, seen, turned, with_slot, with_copies}

module _ (T : Setting) where
  open T use {Obj, Server, Client, Val, eq_obj, eq_val, eq_server, eq_client, servers, some_server, clients}
  open T use {home, keeps, inner, by_value, plan, writes, meta, present, Alike, init}

  -- ANSWERING: the writes enter the items
  abbrev pub wrote : List (Obj × Val) → Item T → Item T
  wrote ws i = record {
    obj = i.obj;
    old = i.old;
    version = i.version;
    written = writes? eq_obj ws i.obj || i.written;
    new = latest eq_obj ws i.obj i.new;
  }

  abbrev pub answered_slot : Slot T → List (Obj × Val) → Slot T
  answered_slot y ws = with_items T y (map (wrote ws) y.items)

  -- COMMIT: "inner before or after"; the items for which all servers take part, and those for which s does
  abbrev pub item_inner : Item T → Bool
  item_inner i = inner i.obj i.old || inner i.obj i.new

  abbrev pub for_all : Item T → Bool
  for_all i = i.written && item_inner i

  abbrev pub for_home : Server → Item T → Bool
  for_home s i = not (inner i.obj i.old) && yes? (eq_server s (home i.obj))

  -- the metadata that was read: "all servers" are those that are there by it
  abbrev pub meta_read : List (Item T) → Val
  meta_read is = says T (λ i. i.old) (init meta) (find T is meta)

  -- "Participants are the homes of leaves, free nodes and flags read; or all servers, where the metadata or a node inner before or after is written"
  abbrev pub participants : List (Item T) → Server → Bool
  participants is s = cond (any for_all is) (present (meta_read is) s) (any (for_home s) is)

  -- the first server of a list that passes a test
  unfoldable pub first_of : (Server → Bool) → List Server → Server
  first_of p [] = some_server
  first_of p (s ∷ ss) = cond (p s) s (first_of p ss)

  -- all participants p have done it
  abbrev pub all_parts : (Server → Bool) → (Server → Bool) → Bool
  all_parts p done = all (λ s. not (p s) || done s) servers

  -- is the home of an item's object there by the metadata read
  abbrev pub home_there : List (Item T) → Item T → Bool
  home_there is i = present (meta_read is) (home i.obj)

  -- is it read as an inner node whose home isn't: then what was read was never one tree
  abbrev pub homeless : List (Item T) → Item T → Bool
  homeless is i = test T (λ j. inner j.obj j.old) is i.obj && (not (yes? (eq_obj i.obj meta)) && not (home_there is i))

  -- where all servers take part, the homes of what is outer are among them, or the transaction can't be decided
  abbrev pub homed : List (Item T) → Bool
  homed is =
      let p = participants is in
      not (any for_all is) || (all (λ i. inner i.obj i.old || home_there is i) is
      || (any (homeless is) is && (test T (λ i. true) is meta && p (first_of p servers))))

  abbrev pub committed_slot : Slot T → Slot T
  committed_slot y = let p = participants y.items in with_course T y committing p (first_of p servers) y.prepared y.applied

  -- PREPARE at s, where l is the lowest participant: the check of an item, by the table, by value or by version
  abbrev pub check : Machine T → Server → Server → Item T → Bool
  check m l s i = cond (inner i.obj i.old)
      (not (yes? (eq_server l s) || i.written) || yes? (ℕ_discrete (m.table s i.obj) i.version))
      (not (yes? (eq_server s (home i.obj))) || cond (by_value i.obj)
      (yes? (eq_val (m.value s i.obj) i.old))
      (yes? (ℕ_discrete (m.version s i.obj) i.version)))

  -- the locks that an item asks for at s
  abbrev pub to_write : Server → Item T → Bool
  to_write s i = i.written && (yes? (eq_server s (home i.obj)) || item_inner i)

  abbrev pub to_read : Server → Server → Item T → Bool
  to_read l s i = cond (inner i.obj i.old) (yes? (eq_server l s) || i.written) (yes? (eq_server s (home i.obj)))

  -- for writing (w) and for reading (r) nothing is "locked against this use by another client"
  abbrev pub grants : Client → Bool → Bool → Lock T → Bool
  grants c w r (shared q) = not (w && any (λ d. not (yes? (eq_client d c)) && q d) clients)
  grants c w r (owned d) = yes? (eq_client d c) || not (w || r)

  abbrev pub share : Client → Lock T → Lock T
  share c (shared q) = shared (λ d. yes? (eq_client d c) || q d)
  share c (owned d) = owned d

  abbrev pub grant : Client → Bool → Bool → Lock T → Lock T
  grant c w r l = cond w (owned c) (cond r (share c l) l)

  -- the locks in a server's row, after those have been granted that the items ask for by two tests
  abbrev pub granted_row : Client → (Item T → Bool) → (Item T → Bool) → List (Item T) → (Obj → Lock T) → Obj → Lock T
  granted_row c w r is locks o = grant c (test T w is o) (test T r is o) (locks o)

  abbrev pub granted_at : Machine T → Client → Server → Server → Obj → Lock T
  granted_at m c s = let y = m.slots c in upd eq_server m.lock s (granted_row c (to_write s) (to_read y.lowest s) y.items (m.lock s))

  abbrev pub prepared_slot : Slot T → Server → Slot T
  prepared_slot y s = with_course T y y.phase y.participant y.lowest (upd eq_server y.prepared s true) y.applied

  abbrev pub decided_slot : Slot T → Slot T
  decided_slot y = with_course T y decided y.participant y.lowest y.prepared y.applied

  -- APPLY at s: in a server's row, the objects whose items pass the test get what the item gives
  abbrev pub row : {A : Type 0} → List (Item T) → (Item T → Bool) → (Item T → A) → (Obj → A) → Obj → A
  row is new? given old o = says T (λ i. cond (new? i) (given i) (old o)) (old o) (find T is o)

  abbrev pub applied_slot : Slot T → Server → Slot T
  applied_slot y s = with_course T y y.phase y.participant y.lowest y.prepared (upd eq_server y.applied s true)

  -- the next versions are given by n; no version is stored of an object checked by value
  abbrev pub stored_at : (Item T → ℕ) → Machine T → Client → Server → Machine T
  stored_at n m c s = let is = (m.slots c).items in record {
    slots = upd eq_client m.slots c (applied_slot (m.slots c) s);
    value = upd eq_server m.value s (row is (λ i. i.written && keeps s i.obj) (λ i. i.new) (m.value s));
    version = upd eq_server m.version s
        (row is (λ i. not (by_value i.obj) && i.written && keeps s i.obj) n (m.version s));
    table = upd eq_server m.table s (row is for_all n (m.table s));
    lock = m.lock;
    copy = m.copy;
    said = m.said;
    log = m.log;
  }

  -- "a written version becomes the one read plus 1"
  abbrev pub applied_at : Machine T → Client → Server → Machine T
  applied_at = stored_at (λ i. suc i.version)

  -- BEGIN, END and ABORT: the slot is blank, and nothing has been said
  abbrev pub cleared : Machine T → Client → Phase → Machine T
  cleared m c p = turned T m (upd eq_client m.slots c (blank T p)) m.lock (upd eq_client m.said c []) m.log

  -- LOCKS GIVEN BACK: "Apply writes and unlocks", "An abort unlocks everywhere"
  abbrev pub drop : Client → Lock T → Lock T
  drop c (shared q) = shared (λ d. not (yes? (eq_client d c)) && q d)
  drop c (owned d) = cond (yes? (eq_client d c)) (unlocked T) (owned d)

  -- what the lock of o at s may be by the next state: c's part in it goes once c has not prepared there, or has applied there
  pub data Released (m : Machine T) (s : Server) (o : Obj) : Lock T → Type 0 where
    unchanged : Released m s o (m.lock s o)
    given_back : (c : Client) → ((m.slots c).prepared s && not ((m.slots c).applied s)) ≡ false → Released m s o (drop c (m.lock s o))

  -- COPIES: what a client may have as its copy of o by the next state
  pub data Copied (m : Machine T) (c : Client) (o : Obj) : Option (Copy T) → Type 0 where
    as_before : Copied m c o (m.copy c o)
    dropped : Copied m c o none
    -- a fetch copies what the server stores
    fetched : (s : Server) → keeps s o ≡ true → Copied m c o (some (record { value = m.value s o; version = m.version s o }))
    -- "The last apply ends the transaction and renews its copies"; of what is checked by value no version is kept
    renewed : (i : Item T) → (m.slots c).phase ≡ decided → find T (m.slots c).items o ≡ some i → i.written ≡ true
        → Copied m c o (some (record { value = i.new; version = cond (by_value o) 0 (suc i.version) }))

  -- SERVERS COME AND GO: a is a server that is there, whose metadata is the old one; v is the new one; t gives the tables of added servers
  pub record Reconfigurable (m : Machine T) (a : Server) (v : Val) (t : Server → Obj → ℕ) : Type 0 where
    pub not_absent : present (m.value a meta) a ≡ true
    -- "no transaction is prepared or decided without being ended"
    pub unprepared : (c : Client) (s : Server) → (m.slots c).prepared s ≡ false
    pub undecided : (c : Client) → is_decided (m.slots c).phase ≡ false
    pub alike : Alike (m.value a meta) v
    pub manned : (s : Server) × (present v s ≡ true)
    -- "removal with a slot still taken" is refused: the home of no inner node is absent afterwards
    pub homed : (o : Obj) → ¬ (o ≡ meta) → inner o (m.value (home o) o) ≡ true → present v (home o) ≡ true
    -- "An added server's version table takes, slot by slot, the largest number in its own earlier table or in those of servers not absent"
    pub tables : (s : Server) → present (m.value a meta) s ≡ false → present v s ≡ true → (o : Obj)
        → Largest T m.table (present (m.value a meta)) s o (t s o)

  -- the new metadata v in place of the old one, with the version n, and the tables of added servers
  abbrev pub reconfigured_by : (old : Val) (n : ℕ) (v : Val) (t : Server → Obj → ℕ) → Machine T → Machine T
  reconfigured_by old n v t m = record {
    slots = m.slots;
    value = λ s o. cond (changed T old v s o) v (m.value s o);
    version = λ s o. cond (changed T old v s o) n (m.version s o);
    table = λ s o. cond (changed T old v s o) n (cond (not (present old s) && present v s) (t s o) (m.table s o));
    lock = m.lock;
    copy = m.copy;
    said = m.said;
    log = m.log;
  }

  pub data Move (m : Machine T) : Machine T → Type 0 where
    begins : (c : Client) → (m.slots c).phase ≡ idle → Move m (cleared m c opened)
    uses_copy : (c : Client) (o : Obj) (k : Copy T) → (m.slots c).phase ≡ opened → find T (m.slots c).items o ≡ none → m.copy c o ≡ some k
        → Move m (with_slot T m c (with_item T (m.slots c) o k.value k.version))
    fetches : (c : Client) (s : Server) (o : Obj) → (m.slots c).phase ≡ opened → find T (m.slots c).items o ≡ none → keeps s o ≡ true
        → Move m (with_slot T m c (with_item T (m.slots c) o (m.value s o) (m.version s o)))
    answers : (c : Client) (e : Entry T) → (m.slots c).phase ≡ opened
        → Asked (plan e.op) (seen T (m.slots c)).read (view T (seen T (m.slots c)))
        → exec (plan e.op) (view T (seen T (m.slots c))) ≡ gives e.result
        → Move m (turned T m (upd eq_client m.slots c (answered_slot (m.slots c) (writes e.result))) m.lock
        (upd eq_client m.said c (shown_of T e ∷ m.said c)) m.log)
    commits : (c : Client) → (m.slots c).phase ≡ opened → homed (m.slots c).items ≡ true → Move m (with_slot T m c (committed_slot (m.slots c)))
    prepares : (c : Client) (s : Server) → present (m.value s meta) s ≡ true → (m.slots c).phase ≡ committing → (m.slots c).prepared s ≡ false
        → all (check m (m.slots c).lowest s) (m.slots c).items ≡ true
        → all (λ i. grants c (to_write s i) (to_read (m.slots c).lowest s i) (m.lock s i.obj)) (m.slots c).items ≡ true
        → Move m (turned T m (upd eq_client m.slots c (prepared_slot (m.slots c) s)) (granted_at m c s) m.said m.log)
    decides : (c : Client) → (m.slots c).phase ≡ committing
        → all_parts (m.slots c).participant (m.slots c).prepared ≡ true
        → Move m (turned T m (upd eq_client m.slots c (decided_slot (m.slots c))) m.lock m.said (m.said c ∷ m.log))
    applies : (c : Client) (s : Server) → (m.slots c).phase ≡ decided → (m.slots c).participant s ≡ true → (m.slots c).applied s ≡ false
        → Move m (applied_at m c s)
    ends : (c : Client) → (m.slots c).phase ≡ decided → all_parts (m.slots c).participant (m.slots c).applied ≡ true
        → Move m (cleared m c idle)
    aborts : (c : Client) → is_decided (m.slots c).phase ≡ false → Move m (cleared m c idle)
    releases : (lock : Server → Obj → Lock T) → ((s : Server) (o : Obj) → Released m s o (lock s o))
        → Move m (turned T m m.slots lock m.said m.log)
    copies : (f : Client → Obj → Option (Copy T)) → ((c : Client) (o : Obj) → Copied m c o (f c o)) → Move m (with_copies T m f)
    reconfigures : (a : Server) (v : Val) (t : Server → Obj → ℕ) → Reconfigurable m a v t
        → Move m (reconfigured_by (m.value a meta) (suc (m.version a meta)) v t m)

  pub data Reached : Machine T → Type 0 where
    at_first : Reached (first_machine T)
    moved : {m n : Machine T} → Reached m → Move m n → Reached n
