-- The system's state as a function of the machine's state and of ghosts; and the moves that change one slot, carried over by it.
use Rattle.std.specs.Prelude.{◌≡◌, true, false, cond, ◌||◌, ◌⊎◌, ℕ, ◌≤◌}
use Rattle.std.proofs.Math.Path.{refl, subst, fun_ext}
use Rattle.std.proofs.Common.{ap, sym, ◌∙◌, inl, inr}
use Rattle.std.proofs.lemmas.Bool.{false≢true}
use mathlib.Core.List.{List, [], ◌∷◌, map}
use Rattle.std.proofs.Math.Option
use Rattle.std.proofs.Math.Option.{Option, none, some}
use Rattle.base.proofs.Laws.Test.{bool_cases, cond_true, cond_false}
use Rattle.base.specs.Update.{upd}
use Rattle.base.proofs.Laws.Update.{upd_same, upd_other}
use Rattle.plans.specs.Plan.{gives, exec, Asked}
use Rattle.protocol.proofs.Laws.Changed.{upd_zip, upd_none}
use Rattle.protocol.specs.Setting.{Setting}
use Rattle.protocol.specs.Writes.{writes?, latest}
use Rattle.protocol.proofs.Laws.Writes.{latest_unwritten, latest_cond}
use Rattle.protocol.specs.State.{Phase, idle, opened, committing, decided, is_decided, Entry, Transaction, Decided, State, view, fresh, reading, answering, put}
use Rattle.protocol.specs.System.{after_decision, begin, read, answer, commit, decide, end, abort, Reach, after}
use Rattle.protocol.specs.Machine.{Item, find, says, test, Slot, Machine, blank, item, with_item, with_slot}
use Rattle.protocol.specs.Moves.{wrote, answered_slot, participants, homed, first_of, committed_slot, decided_slot}
use Rattle.protocol.proofs.Laws.Items.{find_item, participants_right}

module _ (T : Setting) where
  open T use {Obj, Server, Client, Val, eq_obj, eq_client, servers, by_value, init, plan, writes, writes_asked}

  -- of a client: its trace, and the versions that its objects checked by value have been given
  pub record Own : Type 0 where
    pub trace : List (Entry T)
    pub stamps : Obj → ℕ

  -- of the whole: the clients' ghosts, the versions that servers would store of objects checked by value, and the system's ghosts
  pub record Ghost : Type 0 where
    pub own : Client → Own
    pub versions : Server → Obj → ℕ
    pub current : Obj → ℕ
    pub history : Obj → ℕ → Val
    pub log : List (Decided T)

  abbrev pub nothing : Own
  nothing = record { trace = []; stamps = λ o. 0 }

  -- the version of an item: of an object checked by value it is a ghost
  abbrev pub item_version : Own → Obj → Option (Item T) → ℕ
  item_version u o = says T (λ i. cond (by_value o) (u.stamps o) i.version) 0

  -- as `seen`, with the ghosts
  abbrev pub transaction_of : Slot T → Own → Transaction T
  transaction_of y u = record {
    phase = y.phase;
    read = test T (λ i. true) y.items;
    value_read = λ o. says T (λ i. i.old) (init o) (find T y.items o);
    version_read = λ o. item_version u o (find T y.items o);
    written = test T (λ i. i.written) y.items;
    value_written = λ o. says T (λ i. cond i.written i.new (init o)) (init o) (find T y.items o);
    trace = u.trace;
    participant = y.participant;
    lowest = y.lowest;
    prepared = y.prepared;
    applied = y.applied;
  }

  abbrev pub state_of : Machine T → Ghost → State T
  state_of m g = record {
    clients = λ c. transaction_of (m.slots c) (g.own c);
    value = m.value;
    version = λ s o. cond (by_value o) (g.versions s o) (m.version s o);
    table = m.table;
    current = g.current;
    history = g.history;
    log = g.log;
  }

  abbrev pub put_own : Ghost → Client → Own → Ghost
  put_own g c u = record { own = upd eq_client g.own c u; versions = g.versions; current = g.current; history = g.history; log = g.log }

  -- one client's slot and its ghosts change: so does its transaction
  pub clients_put : (m : Machine T) (g : Ghost) (c : Client) (y : Slot T) (u : Own) (x : Transaction T) → transaction_of y u ≡ x
      → (λ d. transaction_of (upd eq_client m.slots c y d) (upd eq_client g.own c u d)) ≡ upd eq_client (λ d. transaction_of (m.slots d) (g.own d)) c x
  clients_put m g c y u x e = fun_ext (λ d. upd_zip eq_client transaction_of m.slots g.own c y u d
      ∙ ap (λ x. upd eq_client (λ d. transaction_of (m.slots d) (g.own d)) c x d) e)

  pub state_put : (m : Machine T) (g : Ghost) (c : Client) (y : Slot T) (u : Own) (x : Transaction T) → transaction_of y u ≡ x
      → state_of (with_slot T m c y) (put_own g c u) ≡ put T (state_of m g) c x
  state_put m g c y u x e i = record {
    clients = clients_put m g c y u x e i;
    value = m.value;
    version = (state_of m g).version;
    table = m.table;
    current = g.current;
    history = g.history;
    log = g.log;
  }

  -- the same, where only the ghosts change
  pub state_own : (m : Machine T) (g : Ghost) (c : Client) (u : Own) (x : Transaction T) → transaction_of (m.slots c) u ≡ x
      → state_of m (put_own g c u) ≡ put T (state_of m g) c x
  state_own m g c u x e = same ∙ state_put m g c (m.slots c) u x e
    where
      same : state_of m (put_own g c u) ≡ state_of (with_slot T m c (m.slots c)) (put_own g c u)
      same i = record {
        clients = λ d. transaction_of (sym (upd_none eq_client m.slots c (m.slots c) refl d) i) (upd eq_client g.own c u d);
        value = m.value;
        version = (state_of m g).version;
        table = m.table;
        current = g.current;
        history = g.history;
        log = g.log;
      }

  -- BEGIN, END, ABORT
  module _ (m : Machine T) (g : Ghost) (c : Client) (r : Reach T (state_of m g)) where
    blank_reach : (p : Phase) → Reach T (put T (state_of m g) c (fresh T p)) → Reach T (state_of (with_slot T m c (blank T p)) (put_own g c nothing))
    unfolding find
    blank_reach p = subst (λ σ. Reach T σ) (sym (state_put m g c (blank T p) nothing (fresh T p) refl))

    pub begin_reach : (m.slots c).phase ≡ idle → Reach T (state_of (with_slot T m c (blank T opened)) (put_own g c nothing))
    begin_reach h = blank_reach opened (after r (begin c h))

    pub abort_reach : is_decided (m.slots c).phase ≡ false → Reach T (state_of (with_slot T m c (blank T idle)) (put_own g c nothing))
    abort_reach h = blank_reach idle (after r (abort c h))

    pub end_reach : (m.slots c).phase ≡ decided → ((s : Server) → (m.slots c).participant s ≡ true → (m.slots c).applied s ≡ true)
        → Reach T (state_of (with_slot T m c (blank T idle)) (put_own g c nothing))
    end_reach h all = blank_reach idle (after r (end c h all))

  -- READ: a function of the items, with one item more, is changed at its object
  find_cons : {A : Type 0} (f f' : Obj → Item T → A) (a : Obj → A) (i : Item T) (is : List (Item T)) (w : A) → f' i.obj i ≡ w
      → ((o : Obj) → ¬ (o ≡ i.obj) → (j : Item T) → f' o j ≡ f o j)
      → (o : Obj) → says T (f' o) (a o) (find T (i ∷ is) o) ≡ upd eq_obj (λ o. says T (f o) (a o) (find T is o)) i.obj w o
  unfolding find
  find_cons {A = A} f f' a i is w here there o = go (eq_obj i.obj o) refl
    where
      old : Obj → A
      old o = says T (f o) (a o) (find T is o)

      rest : ¬ (o ≡ i.obj) → (z : Option (Item T)) → says T (f' o) (a o) z ≡ says T (f o) (a o) z
      rest n none = refl
      rest n (some j) = there o n j

      go : (d : Dec (i.obj ≡ o)) → eq_obj i.obj o ≡ d → says T (f' o) (a o) (find T (i ∷ is) o) ≡ upd eq_obj old i.obj w o
      go (yes e) q = rw (q, find)
          (subst (λ k. f' k i ≡ upd eq_obj old i.obj w k) e (here ∙ sym (upd_same eq_obj old i.obj w)))
      go (no n) q = rw (q, find) (rest (λ e. n (sym e)) (find T is o) ∙ sym (upd_other eq_obj old i.obj w o (λ e. n (sym e))))

  -- the same where the function is the same before and after
  cons_says : {A : Type 0} (f : Obj → Item T → A) (a : Obj → A) (i : Item T) (is : List (Item T))
      → (o : Obj) → says T (f o) (a o) (find T (i ∷ is) o) ≡ upd eq_obj (λ o. says T (f o) (a o) (find T is o)) i.obj (f i.obj i) o
  cons_says f a i is = find_cons f f a i is (f i.obj i) refl (λ _ _ _. refl)

  abbrev pub stamped : Own → Obj → ℕ → Own
  stamped u o k = record { trace = u.trace; stamps = upd eq_obj u.stamps o k }

  -- n is the stored version, k the version at which the object had this value: the same, unless it is checked by value
  slot_read : (y : Slot T) (u : Own) (o : Obj) (v : Val) (n k : ℕ) → (by_value o ≡ false → n ≡ k) → find T y.items o ≡ none
      → transaction_of (with_item T y o v n) (stamped u o k) ≡ reading T (transaction_of y u) o v k
  slot_read y u o v n k hk h j = record {
    phase = y.phase;
    read = fun_ext (cons_says (λ _ i. true) (λ _. false) (item T o v n) y.items) j;
    value_read = fun_ext (cons_says (λ _ i. i.old) init (item T o v n) y.items) j;
    version_read = fun_ext (find_cons (λ q i. cond (by_value q) (u.stamps q) i.version)
        (λ q i. cond (by_value q) (upd eq_obj u.stamps o k q) i.version) (λ _. 0) (item T o v n) y.items k (version (bool_cases (by_value o)))
        (λ q ne i. ap (λ t. cond (by_value q) t i.version) (upd_other eq_obj u.stamps o k q ne))) j;
    written = fun_ext (λ q. cons_says (λ _ i. i.written) (λ _. false) (item T o v n) y.items q
        ∙ upd_none eq_obj x.written o false (ap (says T (λ i. i.written) false) h) q) j;
    value_written = fun_ext (λ q. cons_says (λ o i. cond i.written i.new (init o)) init (item T o v n) y.items q
        ∙ upd_none eq_obj x.value_written o (init o) (ap (says T (λ i. cond i.written i.new (init o)) (init o)) h) q) j;
    trace = u.trace;
    participant = y.participant;
    lowest = y.lowest;
    prepared = y.prepared;
    applied = y.applied;
  }
    where
      x : Transaction T
      x = transaction_of y u

      version : (by_value o ≡ true) ⊎ (by_value o ≡ false) → cond (by_value o) (upd eq_obj u.stamps o k o) n ≡ k
      version (inl b) = cond_true (upd eq_obj u.stamps o k o) n b ∙ upd_same eq_obj u.stamps o k
      version (inr b) = cond_false (upd eq_obj u.stamps o k o) n b ∙ hk b

  pub read_reach : (m : Machine T) (g : Ghost) (c : Client) → Reach T (state_of m g) → (o : Obj) (v : Val) (n k : ℕ) → (by_value o ≡ false → n ≡ k)
      → (m.slots c).phase ≡ opened → find T (m.slots c).items o ≡ none → v ≡ g.history o k → k ≤ g.current o
      → Reach T (state_of (with_slot T m c (with_item T (m.slots c) o v n)) (put_own g c (stamped (g.own c) o k)))
  read_reach m g c r o v n k hk hp hf hv hn =
      subst (λ σ. Reach T σ) (sym (state_put m g c _ _ _ (slot_read (m.slots c) (g.own c) o v n k hk hf)))
      (subst (λ v. Reach T (put T (state_of m g) c (reading T (transaction_of (m.slots c) (g.own c)) o v k))) (sym hv)
      (after r (read c o k hp (ap (says T (λ i. true) false) hf) hn)))

  -- ANSWER: the written items change
  pub find_wrote : (ws : List (Obj × Val)) (is : List (Item T)) (o : Obj) → find T (map (wrote T ws) is) o ≡ Option.map (wrote T ws) (find T is o)
  unfolding find
  find_wrote ws [] o = refl
  find_wrote ws (i ∷ is) o = go (eq_obj i.obj o) refl (find_wrote ws is o)
    where
      go : (d : Dec (i.obj ≡ o)) → eq_obj i.obj o ≡ d → find T (map (wrote T ws) is) o ≡ Option.map (wrote T ws) (find T is o)
          → find T (map (wrote T ws) (i ∷ is)) o ≡ Option.map (wrote T ws) (find T (i ∷ is) o)
      go (yes p) q rec = rw (q, find) refl
      go (no n) q rec = rw (q, find) rec

  module _ (y : Slot T) (u : Own) (e : Entry T) (asked : Asked (plan e.op) (transaction_of y u).read (view T (transaction_of y u))) (ran : exec (plan e.op) (view T (transaction_of y u)) ≡ gives e.result) where
    abbrev is : List (Item T)
    is = y.items

    abbrev ws : List (Obj × Val)
    ws = writes e.result

    unwritten : (o : Obj) → find T is o ≡ none → writes? eq_obj ws o ≡ false
    unwritten o q = go (bool_cases (writes? eq_obj ws o))
      where
        go : (writes? eq_obj ws o ≡ true) ⊎ (writes? eq_obj ws o ≡ false) → writes? eq_obj ws o ≡ false
        go (inl h) =
            let x = transaction_of y u in
            absurd (false≢true (sym (ap (says T (λ i. true) false) q) ∙ writes_asked e.op x.read (view T x) e.result asked ran o h))
        go (inr h) = h

    -- what an item says stays, if it is not about writes
    stays : {A : Type 0} (f : Item T → A) (a : A) → ((i : Item T) → f (wrote T ws i) ≡ f i) → (o : Obj)
        → says T f a (find T (map (wrote T ws) is) o) ≡ says T f a (find T is o)
    stays {A = A} f a same o = ap (says T f a) (find_wrote ws is o) ∙ go (find T is o)
      where
        go : (z : Option (Item T)) → says T f a (Option.map (wrote T ws) z) ≡ says T f a z
        go none = refl
        go (some i) = same i

    new_written : (o : Obj) (z : Option (Item T)) → find T is o ≡ z
        → says T (λ i. i.written) false (Option.map (wrote T ws) z) ≡ (writes? eq_obj ws o || says T (λ i. i.written) false z)
    new_written o none q = rw (unwritten o q) refl
    new_written o (some i) q = ap (λ k. writes? eq_obj ws k || i.written) (find_item T is o i q).1

    new_value : (o : Obj) (z : Option (Item T)) → find T is o ≡ z
        → says T (λ i. cond i.written i.new (init o)) (init o) (Option.map (wrote T ws) z)
        ≡ latest eq_obj ws o (says T (λ i. cond i.written i.new (init o)) (init o) z)
    new_value o none q = sym (latest_unwritten eq_obj ws o (init o) (unwritten o q))
    new_value o (some i) q =
        ap (λ k. cond (writes? eq_obj ws k || i.written) (latest eq_obj ws k i.new) (init o)) (find_item T is o i q).1
        ∙ sym (latest_cond eq_obj ws o i.written i.new (init o))

    slot_answered : transaction_of (answered_slot T y ws) (record { trace = e ∷ u.trace; stamps = u.stamps }) ≡ answering T (transaction_of y u) e
    slot_answered j = record {
      phase = y.phase;
      read = fun_ext (stays (λ i. true) false (λ _. refl)) j;
      value_read = fun_ext (λ o. stays (λ i. i.old) (init o) (λ _. refl) o) j;
      version_read = fun_ext (λ o. stays (λ i. cond (by_value o) (u.stamps o) i.version) 0 (λ _. refl) o) j;
      written = fun_ext (λ o. ap (says T (λ i. i.written) false) (find_wrote ws is o) ∙ new_written o (find T is o) refl) j;
      value_written = fun_ext (λ o. ap (says T (λ i. cond i.written i.new (init o)) (init o)) (find_wrote ws is o) ∙ new_value o (find T is o) refl) j;
      trace = e ∷ u.trace;
      participant = y.participant;
      lowest = y.lowest;
      prepared = y.prepared;
      applied = y.applied;
    }

  pub answer_reach : (m : Machine T) (g : Ghost) (c : Client) → Reach T (state_of m g) → (e : Entry T) → (m.slots c).phase ≡ opened
      → Asked (plan e.op) (transaction_of (m.slots c) (g.own c)).read (view T (transaction_of (m.slots c) (g.own c)))
      → exec (plan e.op) (view T (transaction_of (m.slots c) (g.own c))) ≡ gives e.result
      → Reach T (state_of (with_slot T m c (answered_slot T (m.slots c) (writes e.result)))
      (put_own g c (record { trace = e ∷ (g.own c).trace; stamps = (g.own c).stamps })))
  answer_reach m g c r e hp asked ran =
      subst (λ σ. Reach T σ) (sym (state_put m g c _ _ _ (slot_answered (m.slots c) (g.own c) e asked ran))) (after r (answer c e hp asked ran))

  -- COMMIT
  pub commit_reach : (m : Machine T) (g : Ghost) (c : Client) → Reach T (state_of m g) → (m.slots c).phase ≡ opened → homed T (m.slots c).items ≡ true
      → Reach T (state_of (with_slot T m c (committed_slot T (m.slots c))) (put_own g c (g.own c)))
  commit_reach m g c r hp hm =
      subst (λ σ. Reach T σ) (sym (state_put m g c (committed_slot T (m.slots c)) (g.own c) _ refl))
      (after r (commit c (participants T (m.slots c).items) (first_of T (participants T (m.slots c).items) servers) hp (participants_right T (m.slots c) hm)))

  -- DECISION: the ghosts take the writes in
  abbrev pub decided_ghost : Machine T → Ghost → Client → Ghost
  decided_ghost m g c = let τ = after_decision T (state_of m g) c in
      record { own = upd eq_client g.own c (g.own c); versions = g.versions; current = τ.current; history = τ.history; log = τ.log }

  pub decide_reach : (m : Machine T) (g : Ghost) (c : Client) → Reach T (state_of m g) → (m.slots c).phase ≡ committing
      → ((s : Server) → (m.slots c).participant s ≡ true → (m.slots c).prepared s ≡ true)
      → Reach T (state_of (with_slot T m c (decided_slot T (m.slots c))) (decided_ghost m g c))
  decide_reach m g c r hp all = subst (λ σ. Reach T σ) (sym path) (after r (decide c hp all))
    where
      path : state_of (with_slot T m c (decided_slot T (m.slots c))) (decided_ghost m g c) ≡ after_decision T (state_of m g) c
      path i = let τ = after_decision T (state_of m g) c in record {
        clients = clients_put m g c (decided_slot T (m.slots c)) (g.own c) _ refl i;
        value = m.value;
        version = (state_of m g).version;
        table = m.table;
        current = τ.current;
        history = τ.history;
        log = τ.log;
      }
