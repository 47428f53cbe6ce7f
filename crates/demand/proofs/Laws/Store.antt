-- The protocol at this store: metadata, nodes and flags as objects, the operations with the vectors that were seen; and their meaning, by
-- the operations' theorem. So every state that the protocol's machine reaches is as demand 3 says.
use Rattle.std.specs.Prelude.{◌≡◌, Bool, true, false, cond, ◌||◌, List, [], ◌∷◌, map, ◌⊎◌}
use Rattle.std.proofs.Math.Path.{refl, fun_ext}
use Rattle.std.proofs.Common.{ap, sym, ◌∙◌, subst, true≢false, inl, inr, arith, pow_pos}
use Rattle.std.proofs.lemmas.Bool.{false≢true}
use Prim.Native.Nat.{ℕ, zero, suc, ◌≤◌, ◌<◌, ◌+◌, ◌-◌, ◌*◌, ◌/◌, ◌%◌, ◌^◌, Fin}
use Rattle.std.proofs.Math.Decide.{ℕ_discrete, dec_lt, Fin-discrete}
use Rattle.std.proofs.Math.Nat.{pow-succ', add-mul-mod_self_left}
use Rattle.base.specs.Test.{yes?, ifd}
use Rattle.base.proofs.Laws.Test.{yes_of, of_yes}
use Rattle.base.specs.Update.{upd}
use Rattle.base.proofs.Laws.Update.{upd_same, upd_other}
use Rattle.memory.specs.Bit.{bit}
use Rattle.nodes.specs.Name.{server_of}
use Rattle.nodes.specs.States.{is_present, is_open, first_states}
use Rattle.operations.specs.Object.{Obj, meta, node, flag, Val, root, states_of, root_of, Why, Ans, Writes, hit, with_value, over}
use Rattle.operations.proofs.Laws.Object.{ObjDiscrete, ValDiscrete, inner, written}
use Rattle.operations.specs.Tree.{HoldsTree}
use Rattle.operations.specs.Operation.{plan}
use Rattle.operations.proofs.Laws.Sound.{new_holds}
use Rattle.operations.specs.Sound.{new_store}
use Rattle.operations.proofs.Laws.Seen.{Hint, Given, hint_of, plan_with, sound_with, written_asked_with, asks_outer_with, uncompared_after}
use Rattle.protocol.specs.Setting.{Setting}
use Rattle.protocol.specs.Lists.{Among}
use Rattle.protocol.specs.Writes.{writes?, latest}
use Rattle.protocol.specs.Meaning.{Meaning}
use Rattle.demand.proofs.Laws.Stays.{Keeps, AllKeep, states_kept}
use Rattle.plans.specs.Plan as P
use Rattle.plans.proofs.Laws.Plan as PLaws
use Rattle.operations.specs.Map as M

-- the operations' test of two objects is that one
hit_self : (o : Obj) → hit o o ≡ true
hit_self meta = refl
hit_self (node n) = of_yes (ℕ_discrete n n) refl
hit_self (flag n) = of_yes (ℕ_discrete n n) refl

hit_is : (o q : Obj) → hit o q ≡ true → q ≡ o
hit_is meta meta h = refl
hit_is meta (node x) h = absurd (false≢true h)
hit_is meta (flag x) h = absurd (false≢true h)
hit_is (node n) meta h = absurd (false≢true h)
hit_is (node n) (node x) h = ap node (yes_of (ℕ_discrete x n) h)
hit_is (node n) (flag x) h = absurd (false≢true h)
hit_is (flag n) meta h = absurd (false≢true h)
hit_is (flag n) (node x) h = absurd (false≢true h)
hit_is (flag n) (flag x) h = ap flag (yes_of (ℕ_discrete x n) h)

latest_over : (w : Writes) (S : Obj → Val) (o : Obj) → latest ObjDiscrete w o (S o) ≡ over w S o
unfolding latest
latest_over [] S o = refl
latest_over (e ∷ w) S o = go (ObjDiscrete o e.0) (hit e.0 o) refl (latest_over w S o)
  where
    go : (d : Dec (o ≡ e.0)) (b : Bool) → hit e.0 o ≡ b → latest ObjDiscrete w o (S o) ≡ over w S o
        → ifd d e.1 (latest ObjDiscrete w o (S o)) ≡ cond b e.1 (over w S o)
    go (yes p) true h r = refl
    go (yes p) false h r = absurd (true≢false (sym (ap (λ q. hit e.0 q) p ∙ hit_self e.0) ∙ h))
    go (no q) true h r = absurd (q (hit_is e.0 o h))
    go (no q) false h r = r

written_same : (w : Writes) (o : Obj) → writes? ObjDiscrete w o ≡ written w o
unfolding writes?
written_same [] o = refl
written_same (e ∷ w) o = go (ObjDiscrete o e.0) (hit e.0 o) refl (written_same w o)
  where
    go : (d : Dec (o ≡ e.0)) (b : Bool) → hit e.0 o ≡ b → writes? ObjDiscrete w o ≡ written w o → (yes? d || writes? ObjDiscrete w o) ≡ cond b true (written w o)
    go (yes p) true h r = refl
    go (yes p) false h r = absurd (true≢false (sym (ap (λ q. hit e.0 q) p ∙ hit_self e.0) ∙ h))
    go (no q) true h r = absurd (q (hit_is e.0 o h))
    go (no q) false h r = r

-- ---- the numbers below n, lowest first
pub positive : (n : ℕ) → 0 < suc n
positive n = omega arith

abbrev pub zeroth : (n : ℕ) → Fin (suc n)
zeroth n = (0, positive n)

unfoldable pub fins : (n : ℕ) → List (Fin n)
fins zero = []
fins (suc n) = zeroth n ∷ map native.Mathlib.Fin.succ (fins n)

among_map : {n : ℕ} (i : Fin n) (l : List (Fin n)) → Among i l → Among (native.Mathlib.Fin.succ i) (map native.Mathlib.Fin.succ l)
unfolding Among
among_map i [] h = h
among_map i (x ∷ l) (inl e) = inl (ap native.Mathlib.Fin.succ e)
among_map i (x ∷ l) (inr h) = inr (among_map i l h)

pub fins_all : (n : ℕ) (i : Fin n) → Among i (fins n)
unfolding fins Among
fins_all zero i = absurd (omega (arith, i.1))
fins_all (suc n) (zero, h) = inl (native.Mathlib.Fin.val_path refl)
fins_all (suc n) (suc q, h) =
    let l : q < n = omega arith in
    inr (subst (λ (i : Fin (suc n)). Among i (map native.Mathlib.Fin.succ (fins n))) (native.Mathlib.Fin.val_path refl) (among_map (q, l) (fins n) (fins_all n (q, l))))

-- nodes and flags are not the metadata
pub no_node : (n : ℕ) → ¬ (node n ≡ meta)
no_node n e = true≢false (sym (hit_self (node n)) ∙ ap (hit (node n)) e)

pub no_flag : (n : ℕ) → ¬ (flag n ≡ meta)
no_flag n e = true≢false (sym (hit_self (flag n)) ∙ ap (hit (flag n)) e)

-- ---- the servers' states
-- "absent, open or closing": is the server not absent by the metadata's value
abbrev pub present : Val → Fin 8 → Bool
present v s = is_present (states_of v) s.0

-- some server is open: new nodes have a place, and the last open one doesn't close
abbrev pub Manned : ℕ → Type 0
Manned st = (s : ℕ) × (is_open st s ≡ true)

-- the second metadata has the first one's root, and an open server
abbrev pub Alike : Val → Val → Type 0
Alike v u = (u ≡ root (root_of v) (states_of u)) × Manned (states_of u)

-- server 0 is open in a new store
pub first_there : (n : ℕ) → is_present (first_states (suc n)) 0 ≡ true
unfolding is_present first_states bit
first_there n =
    let e : 257 * (2 ^ suc n - 1) % 256 % 2 ≡ 1 = subst (λ (x : ℕ). 257 * (x - 1) % 256 % 2 ≡ 1) (sym (pow-succ' 2 n)) (odd (2 ^ n) (pow_pos n)) in
    rw e
  where
    odd : (x : ℕ) → 1 ≤ x → 257 * (2 * x - 1) % 256 % 2 ≡ 1
    odd x h =
        let a = 257 * (2 * x - 1) in
        let p : a ≡ a % 256 + 2 * (128 * (a / 256)) = omega arith in
        let q : a ≡ 1 + 2 * (257 * x - 129) = omega arith in
        sym (ap (λ (n : ℕ). n % 2) p ∙ add-mul-mod_self_left (a % 256) 2 (128 * (a / 256))) ∙ ap (λ (n : ℕ). n % 2) q ∙ add-mul-mod_self_left 1 2 (257 * x - 129)

pub first_open : (n : ℕ) → suc n ≤ 8 → Manned (first_states (suc n))
unfolding is_open is_present first_states bit
first_open zero l = (0, refl)
first_open (suc zero) l = (0, refl)
first_open (suc (suc zero)) l = (0, refl)
first_open (suc (suc (suc zero))) l = (0, refl)
first_open (suc (suc (suc (suc zero)))) l = (0, refl)
first_open (suc (suc (suc (suc (suc zero))))) l = (0, refl)
first_open (suc (suc (suc (suc (suc (suc zero)))))) l = (0, refl)
first_open (suc (suc (suc (suc (suc (suc (suc zero))))))) l = (0, refl)
first_open (suc (suc (suc (suc (suc (suc (suc (suc n)))))))) l = absurd (omega arith)

-- what writes leave of the metadata has the states of the metadata before them
pub states_left : (w : Writes) (v : Val) (st : ℕ) → states_of v ≡ st → AllKeep st w → states_of (latest ObjDiscrete w meta v) ≡ st
unfolding latest
states_left [] v st e h = e
states_left (x ∷ w) v st e h = go (ObjDiscrete meta x.0) (states_left w v st e h.1)
  where
    go : (d : Dec (meta ≡ x.0)) → states_of (latest ObjDiscrete w meta v) ≡ st → states_of (ifd d x.1 (latest ObjDiscrete w meta v)) ≡ st
    go (yes p) r = subst (λ (o : Obj). Keeps st o x.1) (sym p) h.0
    go (no q) r = r

-- a tree stays one, whatever the servers
pub alike_holds : (S : Obj → Val) (m : M.Map) (v : Val) → HoldsTree S m → v ≡ root (root_of (S meta)) (states_of v) → HoldsTree (upd ObjDiscrete S meta v) m
alike_holds S m v h e = subst (λ (U : Obj → Val). HoldsTree U m) (sym (fun_ext same)) held
  where
    same : (o : Obj) → upd ObjDiscrete S meta v o ≡ with_value meta v S o
    same meta = upd_same ObjDiscrete S meta v
    same (node n) = upd_other ObjDiscrete S meta v (node n) (no_node n)
    same (flag n) = upd_other ObjDiscrete S meta v (flag n) (no_flag n)

    held : HoldsTree (with_value meta v S) m
    held = record {
      level = h.level;
      name = h.name;
      ents = h.ents;
      root_is = e ∙ ap (λ (q : Val). root (root_of q) (states_of v)) h.root_is;
      low = h.low;
      stored = h.stored;
      least = h.least;
      most = h.most;
      from = h.from;
      segs = h.segs;
      marks = h.marks;
      inside = h.inside;
      pairs_are = h.pairs_are;
    }

-- a store opened with k + 1 servers, of j + 1 clients
module _ (k j slots : ℕ) where
  unfoldable pub server : ℕ → Fin 8
  server q = elim (dec_lt q 8) [ yes h ↦ (q, h) | no h ↦ zeroth 7 ]

  abbrev pub home : Obj → Fin 8
  home meta = zeroth 7
  home (node n) = server (server_of n)
  home (flag n) = server (server_of n)

  -- "The metadata .. is on every server"; a node and a flag at their home
  abbrev pub keeps : Fin 8 → Obj → Bool
  keeps s meta = true
  keeps s (node n) = yes? (Fin-discrete 8 s (server (server_of n)))
  keeps s (flag n) = yes? (Fin-discrete 8 s (server (server_of n)))

  pub keeps_home : (o : Obj) → keeps (home o) o ≡ true
  keeps_home meta = refl
  keeps_home (node n) = of_yes (Fin-discrete 8 (server (server_of n)) (server (server_of n))) refl
  keeps_home (flag n) = of_yes (Fin-discrete 8 (server (server_of n)) (server (server_of n))) refl

  pub keeps_where : (s : Fin 8) (o : Obj) → keeps s o ≡ true → (s ≡ home o) ⊎ (o ≡ meta)
  keeps_where s meta h = inr refl
  keeps_where s (node n) h = inl (yes_of (Fin-discrete 8 s (server (server_of n))) h)
  keeps_where s (flag n) h = inl (yes_of (Fin-discrete 8 s (server (server_of n))) h)

  -- "flags by value"
  abbrev pub by_value : Obj → Bool
  by_value meta = false
  by_value (node n) = false
  by_value (flag n) = true

  pub by_value_outer : (o : Obj) → by_value o ≡ true → (v : Val) → inner o v ≡ false
  by_value_outer meta h v = absurd (false≢true h)
  by_value_outer (node n) h v = absurd (false≢true h)
  by_value_outer (flag n) h v = refl

  pub asks_outer : (p : Given) (asked : Obj → Bool) (S : Obj → Val) (r : Ans × Writes)
      → M.compared p.op ≡ true → P.Asked (plan_with slots p.hint p.op) asked S → P.exec (plan_with slots p.hint p.op) S ≡ P.gives r
      → (o : Obj) × (asked o ≡ true) × (inner o (S o) ≡ false)
  asks_outer p asked S r h a e =
      let f = asks_outer_with slots p.hint p.op S asked r.0 r.1 h a e in (node f.0, f.1, f.2)

  pub writes_asked : (p : Given) (asked : Obj → Bool) (S : Obj → Val) (r : Ans × Writes) → P.Asked (plan_with slots p.hint p.op) asked S
      → P.exec (plan_with slots p.hint p.op) S ≡ P.gives r → (o : Obj) → writes? ObjDiscrete r.1 o ≡ true → asked o ≡ true
  writes_asked p asked S r a e o h = written_asked_with slots p.hint p.op S asked r.0 r.1 a e o (sym (written_same r.1 o) ∙ h)

  pub writes_know : (op : M.Op) (h : Hint) (asked : Obj → Bool) (S : Obj → Val) → P.Asked (plan_with slots h op) asked S → asked meta ≡ true
  unfolding P.Asked PLaws.hinted P.bind
  writes_know (M.insert q v) h asked S a = a.0
  writes_know (M.lookup q) h asked S a = a.0
  writes_know (M.delete q) h asked S a = a.0
  writes_know (M.next q) h asked S a = a.0
  writes_know (M.previous q) h asked S a = a.0
  writes_know (M.migrate n s) h asked S a = a.0
  writes_know (M.list q n) h asked S a = a.0

  -- the servers' states are left as they are
  pub states_same : (p : Given) (S : Obj → Val) (r : Ans × Writes) → P.exec (plan_with slots p.hint p.op) S ≡ P.gives r
      → states_of (latest ObjDiscrete r.1 meta (S meta)) ≡ states_of (S meta)
  unfolding PLaws.with_hint
  states_same p S r e =
      states_left r.1 (S meta) (states_of (S meta)) refl
      (states_kept slots (states_of (S meta)) p.op (PLaws.with_hint (hint_of p.hint) S) refl r.0 r.1 (sym (PLaws.exec_hinted (hint_of p.hint) (plan slots p.op) S) ∙ e))

  -- a new store: "those past the opened size absent at first"
  abbrev pub init : Obj → Val
  init = new_store (first_states (suc k))

  -- it has no inner node
  pub no_inner : (o : Obj) → ¬ (o ≡ meta) → inner o (init o) ≡ true → present (init meta) (home o) ≡ true
  no_inner meta n h = absurd (n refl)
  no_inner (node zero) n h = absurd (false≢true h)
  no_inner (node (suc x)) n h = absurd (false≢true h)
  no_inner (flag x) n h = absurd (false≢true h)

  abbrev pub setting : Setting
  setting = record {
    Obj = Obj;
    Val = Val;
    Server = Fin 8;
    Client = Fin (suc j);
    eq_obj = ObjDiscrete;
    eq_val = ValDiscrete;
    eq_server = Fin-discrete 8;
    eq_client = Fin-discrete (suc j);
    servers = fins 8;
    servers_all = fins_all 8;
    some_server = zeroth 7;
    clients = fins (suc j);
    clients_all = fins_all (suc j);
    inner = inner;
    home = home;
    meta = meta;
    meta_inner = λ v. refl;
    present = present;
    keeps_meta = λ s. refl;
    init_manned = first_there k;
    init_homed = no_inner;
    Alike = Alike;
    writes_know = λ p asked S r a e o h. writes_know p.op p.hint asked S a;
    servers_stay = λ p S r e s. ap (λ (x : ℕ). is_present x s.0) (states_same p S r e);
    keeps = keeps;
    keeps_home = keeps_home;
    keeps_where = keeps_where;
    by_value = by_value;
    by_value_outer = by_value_outer;
    init = init;
    Op = Given;
    Res = Ans × Writes;
    Why = Why;
    plan = λ p. plan_with slots p.hint p.op;
    writes = λ r. r.1;
    Ask = M.Op;
    Ans = Ans;
    public = λ p. p.op;
    answer_of = λ r. r.0;
    compared = M.compared;
    asks_outer = asks_outer;
    writes_asked = writes_asked;
  }

  pub sound : slots ≤ 1024 → (p : Given) (S : Obj → Val) (m : M.Map) (r : Ans × Writes) → HoldsTree S m
      → P.exec (plan_with slots p.hint p.op) S ≡ P.gives r
      → (M.compared p.op ≡ true → r.0 ≡ M.answer p.op m) × HoldsTree (λ o. latest ObjDiscrete r.1 o (S o)) (M.map_after p.op m)
  sound al p S m r h e =
      let q = sound_with slots p.hint p.op S al p.legal m r.0 r.1 h e in
      (q.0, subst (λ U. HoldsTree U (M.map_after p.op m)) (sym (fun_ext (λ o. latest_over r.1 S o))) q.1)

  -- A store holds a map: it has a tree of it; and some server is open, if the store was opened with an allowed size
  abbrev pub Holds : (Obj → Val) → M.Map → Type 0
  Holds S m = HoldsTree S m × (suc k ≤ 8 → Manned (states_of (S meta)))

  pub still_holds : slots ≤ 1024 → (p : Given) (S : Obj → Val) (m : M.Map) (r : Ans × Writes) → Holds S m → P.exec (plan_with slots p.hint p.op) S ≡ P.gives r
      → (M.compared p.op ≡ true → r.0 ≡ M.answer p.op m) × Holds (λ o. latest ObjDiscrete r.1 o (S o)) (M.map_after p.op m)
  still_holds al p S m r h e = let q = sound al p S m r h.0 e in (q.0, (q.1, λ l. subst Manned (sym (states_same p S r e)) (h.1 l)))

  abbrev pub meaning : slots ≤ 1024 → Meaning setting
  meaning al = record {
    Map = M.Map;
    map_answer = M.answer;
    map_after = M.map_after;
    uncompared_after = uncompared_after;
    HoldsMap = Holds;
    first_map = [];
    first_holds = (new_holds (first_states (suc k)), first_open k);
    alike_holds = λ S m v h e. (alike_holds S m v h.0 e.0, λ _. subst (λ (u : Val). Manned (states_of u)) (sym (upd_same ObjDiscrete S meta v)) e.1);
    sound = still_holds al;
  }
