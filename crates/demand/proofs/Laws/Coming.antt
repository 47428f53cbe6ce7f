-- SERVERS COME AND GO: "Kind 8 adds an absent server, 9 closes an open one to new nodes, 10 removes a closing one". The step is the machine's move.
use Rattle.std.specs.Prelude.{◌≡◌, Bool, ◌&&◌, ◌||◌, ◌⊎◌, ltb}
use Rattle.std.proofs.Math.Path.{refl, ap, ap₂, sym, subst, fun_ext}
use Rattle.std.proofs.Common.{◌∙◌, true≢false, arith}
use Rattle.std.proofs.Math.Bool.{true, false, cond, not}
use Rattle.std.proofs.lemmas.Bool.{false≢true}
use mathlib.Core.List.{List, [], ◌∷◌, ◌++◌}
use Rattle.std.proofs.Math.Logic.{inl, inr}
use Prim.Native.Nat.{ℕ, zero, suc, ◌+◌, ◌/◌, ◌%◌, ◌≤◌, ◌<◌, Fin}
use Rattle.std.proofs.Math.Decide.{ℕ_discrete}
use borrow.Author.Tests.{eqb-true, eqb-false, eq-eqb, ne_eqb, leb-true, ltb-true, not-true}
use Rattle.std.proofs.Math.Dec.{eqb, leb}
use Rattle.base.specs.Test.{not_both, and_both}
use Rattle.base.proofs.Laws.Test.{bool_cases, or_neither, of_yes, of_no, ifd_yes, ifd_no}
use Rattle.memory.specs.Bit.{bit}
use Rattle.memory.proofs.Laws.Bit.{zero_bit}
use Rattle.layout.specs.Space.{Put, put, changed, tab}
use Rattle.layout.proofs.Laws.Space.{written_other}
use Rattle.layout.proofs.Laws.Step.{changed_append}
use Rattle.layout.specs.Part.{over}
use Rattle.nodes.specs.Stored.{node_of}
use Rattle.nodes.specs.States.{is_present, is_open}
use Rattle.operations.specs.Object.{Obj, meta, node, flag, Val, root, taken, is_taken, states_of, root_of, free}
use Rattle.operations.proofs.Laws.Object.{ObjDiscrete, inner}
use Rattle.operations.specs.Tree.{Mark}
use Rattle.protocol.specs.State.{is_decided}
use Rattle.protocol.specs.Meaning.{Meaning}
use Rattle.protocol.specs.Claim.{there_now, seat}
use Rattle.protocol.proofs.Laws.Claim.{Applied, claim, none_due, homed_now, called_now}
use Rattle.server.specs.declared.place.Place.{Place}
use Rattle.server.specs.declared.place.Place.TheVariants.{Root, Version, States, Vector, Node, Table}
use Rattle.server.specs.Layout.{place_again, places}
use Rattle.server.specs.HandOut.{metadata_at, metadata_sound}
use Rattle.nodes.specs.Object.{object_of}
use Rattle.server.specs.Object.{lock_of}
use Rattle.server.specs.Store.{metadata_step, versions_step}
use Rattle.client.specs.Layout.{ClientWord, phase, prepared}
use Rattle.client.specs.Record.{number, value_of, in_store, object_in_store}
use Rattle.client.specs.Items.{all_below}
use Rattle.client.specs.Laws.Ranges.{client_fits}
use Rattle.steps.specs.declared.sizes.Sizes.{Sizes}
use Rattle.steps.specs.declared.step.ServerChange.{ServerChange}
use Rattle.steps.specs.declared.step.ServerChange.TheVariants.{Add, Close, Remove}
use Rattle.steps.specs.declared.step.Kind.TheVariants.{Servers}
use Rattle.steps.specs.Whole.{Address, server, client, whole}
use Rattle.steps.specs.Servers.{change_of, first_from, there, lowest_there, other_open, another_open, state_suits, any_taken, largest, largest_version, unended, quiet, is_add, changed_states}
use Rattle.steps.specs.Refusal.{kind_of}
use Rattle.steps.specs.Steps.{at_servers, node_at}
use Rattle.steps.proofs.Laws.There.{named_in}
use Rattle.steps.proofs.Laws.Stores.{client_of, server_of, server_changed, server_else, server_clients}
use Rattle.demand.specs.Ledger.{Ledger}
use Rattle.demand.proofs.Laws.Store.{no_node, no_flag, home, keeps, init, present, Manned, meaning}
use Rattle.demand.proofs.Laws.Shows.{T, InStore, value_at, version_at, table_at, Recorded, lock_kept, ServerShown, ClientShown, Related}
use Rattle.demand.proofs.Laws.There.{there_same}
use Rattle.demand.proofs.Laws.Held.{all_at, any_at, any_one}
use Rattle.demand.proofs.Laws.Members.{server_is, name_server}
use Rattle.demand.proofs.Laws.Servers.{is_lock, a_lock}
use Rattle.demand.proofs.Laws.Frame.{read_after}
use Rattle.demand.proofs.Laws.Writing.{sort, unlocked}
use Rattle.demand.proofs.Laws.Everywhere.{every_client, every_server}
use Rattle.demand.proofs.Laws.Answers.{quiet_tree}
use Rattle.demand.proofs.Laws.Turns.{store, Good, Explained}
use Rattle.demand.proofs.Laws.Undecided.{early_word}
use Rattle.demand.proofs.Laws.Bits.{present_bit, open_bits, closing_bits, Before, union, joined, stays, add_open, still_open}
use Rattle.demand.proofs.Laws.Added.{largest_above, largest_from, largest_same, versions_else, versions_at}
use Rattle.nodes.specs.Name as N
use Rattle.protocol.specs.System as System
use Rattle.protocol.specs.Machine as P
use Rattle.protocol.specs.Moves as Mv
use Rattle.steps.specs.Steps as S
use Rattle.demand.proofs.Laws.Store as Store

-- the last three kinds
pub a_change : (x : ℕ) → 8 ≤ x → x ≤ 10 → kind_of x ≡ Servers (change_of x)
unfolding kind_of change_of
a_change zero l h = absurd (omega arith)
a_change (suc zero) l h = absurd (omega arith)
a_change (suc (suc zero)) l h = absurd (omega arith)
a_change (suc (suc (suc zero))) l h = absurd (omega arith)
a_change (suc (suc (suc (suc zero)))) l h = absurd (omega arith)
a_change (suc (suc (suc (suc (suc zero))))) l h = absurd (omega arith)
a_change (suc (suc (suc (suc (suc (suc zero)))))) l h = absurd (omega arith)
a_change (suc (suc (suc (suc (suc (suc (suc zero))))))) l h = absurd (omega arith)
a_change (suc (suc (suc (suc (suc (suc (suc (suc zero)))))))) l h = refl
a_change (suc (suc (suc (suc (suc (suc (suc (suc (suc zero))))))))) l h = refl
a_change (suc (suc (suc (suc (suc (suc (suc (suc (suc (suc zero)))))))))) l h = refl
a_change (suc (suc (suc (suc (suc (suc (suc (suc (suc (suc (suc x))))))))))) l h = absurd (omega arith)

pub removes : (x : ℕ) → 8 ≤ x → x ≤ 10 → change_of x ≡ Remove → x ≡ 10
unfolding change_of
removes x l h e = go (ℕ_discrete x 8) (ℕ_discrete x 9)
  where
    is_remove : ServerChange → Bool
    is_remove Add = false
    is_remove Close = false
    is_remove Remove = true

    go : Dec (x ≡ 8) → Dec (x ≡ 9) → x ≡ 10
    go (yes q) d = let b : change_of x ≡ Add = rw (eq-eqb x 8 q) refl in absurd (false≢true (ap is_remove (sym b ∙ e)))
    go (no n) (yes q) = let b : change_of x ≡ Close = rw (ne_eqb x 8 n, eq-eqb x 9 q) refl in absurd (false≢true (ap is_remove (sym b ∙ e)))
    go (no n) (no d) = omega arith

-- the server that a count up and round stops at passes the test
stops_at : (f : ℕ → Bool) (n s : ℕ) → first_from f n s < 8 → f (first_from f n s) ≡ true
unfolding first_from
stops_at f zero s l = absurd (omega arith)
stops_at f (suc n) s l = go (f (s % 8)) refl l (stops_at f n (suc s))
  where
    go : (b : Bool) → f (s % 8) ≡ b → cond b (s % 8) (first_from f n (suc s)) < 8 → (first_from f n (suc s) < 8 → f (first_from f n (suc s)) ≡ true)
        → f (cond b (s % 8) (first_from f n (suc s))) ≡ true
    go true e l rec = e
    go false e l rec = rec l

-- a transaction that is not prepared or decided without being ended
ended : (p w : ℕ) → not (eqb p 3 || (eqb p 2 && not (eqb w 0))) ≡ true → p ≤ 3 → (p < 2 → w ≡ 0) → (p < 3) × (w ≡ 0)
ended p w h l calm =
    let n = or_neither (eqb p 3) (eqb p 2 && not (eqb w 0)) (not-true (eqb p 3 || (eqb p 2 && not (eqb w 0))) h) in
    let d = eqb-false p 3 n.0 in
    (omega arith, go (ℕ_discrete p 2) n.1 d)
  where
    go : Dec (p ≡ 2) → (eqb p 2 && not (eqb w 0)) ≡ false → ¬ (p ≡ 3) → w ≡ 0
    go (yes e) q d = eqb-true w 0 (off (eqb w 0) (subst (λ (b : Bool). (b && not (eqb w 0)) ≡ false) (eq-eqb p 2 e) q))
      where
        off : (b : Bool) → not b ≡ false → b ≡ true
        off true e = refl
        off false e = sym e
    go (no n) q d = calm (omega arith)

module _ (k j slots : ℕ) (size : suc k ≤ 8) (al : slots ≤ 1024) (m : Address → ℕ) (L : Ledger) (M : P.Machine (T k j slots)) (G : Good k j slots m L M) (x : ServerChange) (s : ℕ) (near : s < 8) (suits : state_suits m s x ≡ true) (untaken : x ≡ Remove → any_taken m s ≡ false) (still : quiet (store k j slots) m ≡ true) (fits : S.change_fits (store k j slots) m x s ≡ true) where
  abbrev z : Sizes
  z = store k j slots

  abbrev Z : Meaning (T k j slots)
  Z = meaning k j slots al

  abbrev R : Related k j slots m L M
  R = G.shown

  -- what the step has read
  read : (all_below (suc j) (λ c. leb (m (client c phase)) 3) ≡ true) × (ltb (lowest_there m) 8 ≡ true)
  unfolding S.change_fits
  read =
      let sound = metadata_sound slots (λ a. m (server (lowest_there m) a)) in
      let room = not (is_add x) || all_below slots (λ k. all_below 8 (λ t. leb (largest_version m s t k) 4294967295)) in
      let b = and_both (all_below (suc j) (λ c. leb (m (client c phase)) 3)) (ltb (lowest_there m) 8 && (sound && room)) fits in
      (b.0, (and_both (ltb (lowest_there m) 8) (sound && room) b.1).0)

  -- ---- the lowest server that is there
  a : Fin 8
  a = (lowest_there m, ltb-true (lowest_there m) 8 read.1)

  attends : there m a.0 ≡ true
  unfolding a lowest_there
  attends = stops_at (there m) 8 0 a.1

  here : there_now (T k j slots) M a ≡ true
  here = sym (there_same k j slots m L M R a) ∙ attends

  -- ---- nobody has prepared or decided
  quiet_at : (c : Fin (suc j)) → (client_of m c.0 phase < 3) × (client_of m c.0 prepared ≡ 0)
  unfolding quiet unended
  quiet_at c =
      let u = client_of m c.0 in
      ended (u phase) (u prepared) (all_at (suc j) (λ c. not (unended (λ a. m (client c a)))) still c.0 c.1)
      (leb-true (u phase) 3 (all_at (suc j) (λ c. leb (m (client c phase)) 3) read.0 c.0 c.1)) (R.clients c).slot.calm

  unprepared : (c : Fin (suc j)) (t : Fin 8) → (M.slots c).prepared t ≡ false
  unprepared c t = (R.clients c).slot.prepared_as t ∙ ap (λ (w : ℕ). bit w t.0) (quiet_at c).1 ∙ zero_bit t.0

  undecided : (c : Fin (suc j)) → is_decided (M.slots c).phase ≡ false
  undecided c = ap is_decided (sym (R.clients c).slot.phase_as) ∙ early_word (client_of m c.0 phase) (quiet_at c).0

  applied : Applied (T k j slots) Z M
  applied c h t q = absurd (not_both h (undecided c))

  -- ---- the old metadata, which all servers have that are there, and the new one
  abbrev r : ℕ
  r = m (server (lowest_there m) Root)

  abbrev st : ℕ
  st = m (server (lowest_there m) States)

  abbrev version : ℕ
  version = m (server (lowest_there m) Version)

  abbrev st' : ℕ
  st' = changed_states x st s

  abbrev old : Val
  old = M.value a meta

  abbrev new : Val
  new = root r st'

  old_is : old ≡ root r st
  unfolding a
  old_is = (R.servers a).value_as meta refl refl

  version_is : M.version a meta ≡ version
  unfolding a
  version_is = (R.servers a).version_as meta refl refl

  -- a server is what this metadata calls it
  called : (t : Fin 8) → there m t.0 ≡ is_present st t.0
  called t =
      there_same k j slots m L M R t ∙ called_now (T k j slots) Z R.reached applied a here t ∙ ap (λ (v : Val). present v t) old_is

  agrees : (t : Fin 8) → there m t.0 ≡ true → m (server t.0 States) ≡ st
  agrees t h =
      let h' = sym (there_same k j slots m L M R t) ∙ h in
      ap states_of (sym ((R.servers t).value_as meta refl refl) ∙ sym (none_due (T k j slots) Z R.reached applied t meta refl (inl h'))
      ∙ (claim (T k j slots) Z R.reached).agree t a h' here ∙ none_due (T k j slots) Z R.reached applied a meta refl (inl here) ∙ old_is)

  before : Before st s near x
  unfolding state_suits there is_open
  before = go x suits
    where
      at_s : (b : Bool) → there m s ≡ b → is_present st s ≡ b
      at_s b h = sym (called (s, near)) ∙ h

      go : (x : ServerChange) → state_suits m s x ≡ true → Before st s near x
      go Add h = at_s false (not-true (there m s) h)
      go Close h =
          let o = (and_both (is_open (m (server s States)) s) (another_open m s) h).0 in
          at_s true (and_both (is_present (m (server s States)) s) (bit (m (server s States) / 256) s) o).0
      go Remove h = at_s true (closing_bits (m (server s States)) s h).0

  -- ---- "the last open one" doesn't close
  manned : Manned st'
  unfolding state_suits another_open other_open there is_open
  manned = go x suits
    where
      -- a server that its own metadata calls open
      open_own : (t : Fin 8) → is_open (m (server t.0 States)) t.0 ≡ true → is_open st t.0 ≡ true
      open_own t h =
          subst (λ (w : ℕ). is_open w t.0 ≡ true)
          (agrees t (and_both (is_present (m (server t.0 States)) t.0) (bit (m (server t.0 States) / 256) t.0) h).0) h

      go : (x : ServerChange) → state_suits m s x ≡ true → Manned (changed_states x st s)
      go Add h = (s, add_open st s near)
      go Close h =
          let o = any_one 8 (other_open m s) (and_both (is_open (m (server s States)) s) (another_open m s) h).1 in
          let b = and_both (not (eqb o.0 s)) (is_open (m (server o.0 States)) o.0) o.2 in
          (o.0, still_open st s near Close (λ e. false≢true (ap is_add e)) o.0 (open_own (o.0, o.1) b.1) (eqb-false o.0 s (not-true (eqb o.0 s) b.0)))
      go Remove h =
          let c = closing_bits (m (server s States)) s h in
          let held = (quiet_tree k j slots al m L M R applied a here).1 size in
          let o = subst Manned (ap (λ (t : Fin 8). states_of (M.value t meta)) (ifd_yes (ObjDiscrete meta meta) a (home k j slots meta) refl) ∙ ap states_of old_is) held in (
            o.0,
            still_open st s near Remove (λ e. false≢true (ap is_add e)) o.0 o.1
                (λ e. not_both (open_bits st o.0 o.1).2 (ap (λ (t : ℕ). bit st (8 + t)) e ∙ sym (ap (λ (w : ℕ). bit w (8 + s)) (agrees (s, near) c.0)) ∙ c.1)),
          )

  pub some_there : (t : Fin 8) × (present new t ≡ true)
  some_there =
      let b = open_bits st' manned.0 manned.1 in
      ((manned.0, b.0), present_bit st' manned.0 b.0 ∙ b.1)

  -- ---- "removal with a slot still taken" is refused: no inner node is at a removed server
  no_taken : x ≡ Remove → (i : ℕ) → i < 16 → m (server s (Vector i)) ≡ 0
  unfolding any_taken
  no_taken e i l = go (bool_cases (eqb (m (server s (Vector i))) 0))
    where
      go : (eqb (m (server s (Vector i))) 0 ≡ true) ⊎ (eqb (m (server s (Vector i))) 0 ≡ false) → m (server s (Vector i)) ≡ 0
      go (inl q) = eqb-true (m (server s (Vector i))) 0 q
      go (inr q) = absurd (not_both (any_at 16 (λ i. not (eqb (m (server s (Vector i))) 0)) i l (ap not q)) (untaken e))

  module _ (n : ℕ) (e : x ≡ Remove) (i : in_store slots n ≡ true) (at : N.server_of n ≡ s) where
    home_is : (home k j slots (flag n)).0 ≡ s
    home_is = server_is k j slots (N.server_of n) (name_server k j slots n i) ∙ at

    untaken_flag : M.value (home k j slots (flag n)) (flag n) ≡ taken false
    untaken_flag =
        (R.servers (home k j slots (flag n))).value_as (flag n) i (Store.keeps_home k j slots (flag n))
        ∙ ap (λ (w : ℕ). taken (bit w (N.slot_of n % 64))) (ap (λ (t : ℕ). m (server t (Vector (N.slot_of n / 64)))) home_is ∙ no_taken e (N.slot_of n / 64) (omega arith))
        ∙ ap taken (zero_bit (N.slot_of n % 64))

    -- so its node is free
    node_free : M.value (home k j slots (node n)) (node n) ≡ free
    node_free = go ((quiet_tree k j slots al m L M R applied a here).0.marks n)
      where
        at_home : (o : Obj) → ¬ (o ≡ meta) → M.value (seat (T k j slots) a o) o ≡ M.value (home k j slots o) o
        at_home o d = ap (λ (t : Fin 8). M.value t o) (ifd_no (ObjDiscrete o meta) a (home k j slots o) d)

        go : {c : ℕ} → Mark (M.value (seat (T k j slots) a (flag n)) (flag n)) (M.value (seat (T k j slots) a (node n)) (node n)) c → M.value (home k j slots (node n)) (node n) ≡ free
        go (inl q) = absurd (false≢true (ap is_taken (sym untaken_flag ∙ sym (at_home (flag n) (no_flag n)) ∙ q.1)))
        go (inr q) = sym (at_home (node n) (no_node n)) ∙ q.2

  homed : (o : Obj) → ¬ (o ≡ meta) → inner o (M.value (home k j slots o) o) ≡ true → present new (home k j slots o) ≡ true
  homed meta d h = absurd (d refl)
  homed (flag n) d h = absurd (false≢true h)
  homed (node n) d h =
      stays st s near x (home k j slots (node n)).0 (home k j slots (node n)).1 (λ e q. outside e q (in_store slots n) refl)
      (ap (λ (v : Val). present v (home k j slots (node n))) (sym old_is) ∙ homed_now (T k j slots) Z R.reached applied a here (node n) d h)
    where
      first : (n : ℕ) → ¬ (inner (node n) (init k j slots (node n)) ≡ true)
      first zero e = false≢true e
      first (suc n) e = false≢true e

      outside : x ≡ Remove → (home k j slots (node n)).0 ≡ s → (b : Bool) → in_store slots n ≡ b → ⊥
      outside e q false i = first n (ap (inner (node n)) (sym (G.outside (home k j slots (node n)) (node n) i)) ∙ h)
      outside e q true i =
          false≢true (sym (ap (inner (node n)) (node_free n e i (sym (server_is k j slots (N.server_of n) (name_server k j slots n i)) ∙ q))) ∙ h)

  -- ---- THE MOVE: an added server's table takes the largest numbers
  abbrev fin : ℕ → Fin 8
  fin = Store.server k j slots

  largest_at : Fin 8 → Obj → ℕ
  largest_at t o = largest (λ u. present old (fin u)) (λ u. M.table (fin u) o) 8 (M.table t o)

  fin_of : (t : Fin 8) → fin t.0 ≡ t
  fin_of t = native.Mathlib.Fin.val_path (server_is k j slots t.0 t.1)

  tables : (t : Fin 8) (o : Obj) → System.Largest (T k j slots) M.table (present old) t o (largest_at t o)
  unfolding largest_at
  tables t o = record {
    above = λ u h. subst (λ (q : Fin 8). M.table q o ≤ largest_at t o) (fin_of u)
        (largest_above (λ u. present old (fin u)) (λ u. M.table (fin u) o) (M.table t o) 8 u.0 u.1 (ap (present old) (fin_of u) ∙ h));
    one_of_them = go (largest_from (λ u. present old (fin u)) (λ u. M.table (fin u) o) (M.table t o) 8);
  }
    where
      go : (largest_at t o ≡ M.table t o) ⊎ ((u : ℕ) × (u < 8) × (present old (fin u) ≡ true) × (largest_at t o ≡ M.table (fin u) o))
          → (largest_at t o ≡ M.table t o) ⊎ ((u : Fin 8) × (present old u ≡ true) × (largest_at t o ≡ M.table u o))
      go (inl e) = inl e
      go (inr q) = inr (fin q.0, q.2, q.3)

  abbrev M' : P.Machine (T k j slots)
  M' = Mv.reconfigured_by (T k j slots) old (suc (M.version a meta)) new largest_at M

  reached' : Mv.Reached (T k j slots) M'
  reached' = Mv.moved R.reached (Mv.reconfigures a new largest_at (record {
    not_absent = here;
    unprepared = unprepared;
    undecided = undecided;
    alike = (ap (λ (q : Val). root (root_of q) st') (sym old_is), manned);
    manned = some_there;
    homed = homed;
    tables = λ t _ _ o. tables t o;
  }))

  -- ---- THE STORES: an added server's table, then the new metadata at every server that is there, or changed
  abbrev m₀ : Address → ℕ
  m₀ = changed whole m (S.added_stores z m x s)

  abbrev pub m' : Address → ℕ
  m' = changed whole m (S.added_stores z m x s ++ S.metadata_stores z m s (changed_states x (S.metadata_now z m).states s))

  abbrev versions : List (Put Place)
  versions = versions_step (largest_version m s) slots

  abbrev meta_puts : List (Put Place)
  meta_puts = put Root r ∷ put Version (suc version) ∷ put States st' ∷ []

  abbrev at_meta : ℕ → Bool
  at_meta t = there m t || eqb t s

  abbrev at_table : ℕ → Bool
  at_table t = is_add x && eqb t s

  abbrev f : ℕ → List (Put Address)
  f t = cond (at_meta t) (over (server t) meta_puts) []

  f_is : (t : ℕ) → f t ≡ over (server t) (cond (at_meta t) meta_puts [])
  unfolding over
  f_is t = go (at_meta t)
    where
      go : (b : Bool) → cond b (over (server t) meta_puts) [] ≡ over (server t) (cond b meta_puts [])
      go true = refl
      go false = refl

  m'_is : m' ≡ changed whole m₀ (at_servers 8 f)
  unfolding metadata_at metadata_step
  m'_is = changed_append whole (S.added_stores z m x s) (S.metadata_stores z m s (changed_states x (S.metadata_now z m).states s)) m

  pub client_now : (d : ℕ) → client_of m' d ≡ client_of m d
  unfolding changed
  client_now d = ap (λ (g : Address → ℕ). client_of g d) m'_is ∙ every_client m₀ f (λ t. cond (at_meta t) meta_puts []) f_is 8 d ∙ go (is_add x)
    where
      go : (b : Bool) → client_of (changed whole m (cond b (over (server s) versions) [])) d ≡ client_of m d
      go true = server_clients m s versions d
      go false = refl

  -- the words of a server
  module _ (t : Fin 8) where
    abbrev p : Place → ℕ
    p = server_of m t.0

    abbrev p₀ : Place → ℕ
    p₀ = changed places p (cond (at_table t.0) versions [])

    abbrev p' : Place → ℕ
    p' = changed places p₀ (cond (at_meta t.0) meta_puts [])

    pub server_now : server_of m' t.0 ≡ p'
    unfolding changed
    server_now =
        ap (λ (g : Address → ℕ). server_of g t.0) m'_is ∙ every_server m₀ f (λ t. cond (at_meta t) meta_puts []) f_is 8 t.0 t.1
        ∙ ap (λ (q : Place → ℕ). changed places q (cond (at_meta t.0) meta_puts [])) (go (is_add x) (ℕ_discrete t.0 s))
      where
        go : (b : Bool) → Dec (t.0 ≡ s) → server_of (changed whole m (cond b (over (server s) versions) [])) t.0 ≡ changed places p (cond (b && eqb t.0 s) versions [])
        go false d = refl
        go true (yes e) =
            subst (λ (q : ℕ). server_of (changed whole m (over (server s) versions)) q ≡ changed places (server_of m q) versions) (sym e) (server_changed m s versions)
            ∙ sym (ap (λ (b : Bool). changed places p (cond b versions [])) (eq-eqb t.0 s e))
        go true (no n) = server_else m s versions t.0 n ∙ sym (ap (λ (b : Bool). changed places p (cond b versions [])) (ne_eqb t.0 s n))

    -- none but the table's words change first, and then none but the metadata's
    before_meta : (w : Place) → ((i q : ℕ) → ¬ (w ≡ Table i q)) → p₀ w ≡ p w
    unfolding changed
    before_meta w h = go (at_table t.0)
      where
        go : (b : Bool) → changed places p (cond b versions []) w ≡ p w
        go true = versions_else (largest_version m s) slots p w h
        go false = refl

    past_meta : (w : Place) → ¬ (sort w ≡ 0) → p' w ≡ p₀ w
    unfolding changed sort
    past_meta w h = go (at_meta t.0)
      where
        go : (b : Bool) → changed places p₀ (cond b meta_puts []) w ≡ p₀ w
        go true = written_other places place_again _ States st' w (λ e. h (ap sort e)) ∙ written_other places place_again _ Version (suc version) w (λ e. h (ap sort e)) ∙ written_other places place_again p₀ Root r w (λ e. h (ap sort e))
        go false = refl

    else_word : (w : Place) → ¬ (sort w ≡ 0) → ¬ (sort w ≡ 6) → p' w ≡ p w
    unfolding sort
    else_word w h n = past_meta w h ∙ before_meta w (λ i q e. n (ap sort e))

    -- nodes, flags and locks are as before
    module _ (o : Obj) (d : ¬ (o ≡ meta)) where
      value_same : value_at k j slots p' o ≡ value_at k j slots p o
      unfolding node_at sort
      value_same = go o d
        where
          go : (o : Obj) → ¬ (o ≡ meta) → value_at k j slots p' o ≡ value_at k j slots p o
          go meta d = absurd (d refl)
          go (node n) d = ap (λ (g : ℕ → ℕ). value_of (node n) (node_of (tab 33 g))) (fun_ext (λ i. else_word (Node (N.slot_of n) i) (λ e. absurd (omega (arith, e))) (λ e. absurd (omega (arith, e)))))
          go (flag n) d = ap (λ (w : ℕ). taken (bit w (N.slot_of n % 64))) (else_word (Vector (N.slot_of n / 64)) (λ e. absurd (omega (arith, e))) (λ e. absurd (omega (arith, e))))

      version_same : version_at k j slots p' o ≡ version_at k j slots p o
      unfolding node_at sort
      version_same = go o d
        where
          go : (o : Obj) → ¬ (o ≡ meta) → version_at k j slots p' o ≡ version_at k j slots p o
          go meta d = absurd (d refl)
          go (node n) d = ap (λ (g : ℕ → ℕ). (node_of (tab 33 g)).version) (fun_ext (λ i. else_word (Node (N.slot_of n) i) (λ e. absurd (omega (arith, e))) (λ e. absurd (omega (arith, e)))))
          go (flag n) d = refl

    lock_same : (w : Place) → is_lock w ≡ true → p' w ≡ p w
    unfolding sort
    lock_same w h = past_meta w (λ e. not_both h (unlocked w e)) ∙ before_meta w (λ i q e. not_both h (ap is_lock e))

    pub locks_now : (w : Place) → is_lock w ≡ true → server_of m' t.0 w ≡ server_of m t.0 w
    locks_now w h = ap (λ (q : Place → ℕ). q w) server_now ∙ lock_same w h

    -- the metadata's words
    meta_word : (w : Place) → sort w ≡ 0 → p₀ w ≡ p w
    unfolding sort
    meta_word w h = before_meta w (λ i q e. absurd (omega (arith, h, ap sort e)))

    -- a table's entry
    table_word : (n : ℕ) → in_store slots n ≡ true → p' (Table (N.server_of n) (N.slot_of n)) ≡ cond (at_table t.0) (largest_version m s (N.server_of n) (N.slot_of n)) (p (Table (N.server_of n) (N.slot_of n)))
    unfolding changed sort
    table_word n i =
        past_meta (Table (N.server_of n) (N.slot_of n)) (λ e. absurd (omega (arith, e))) ∙ go (at_table t.0)
      where
        go : (b : Bool) → changed places p (cond b versions []) (Table (N.server_of n) (N.slot_of n)) ≡ cond b (largest_version m s (N.server_of n) (N.slot_of n)) (p (Table (N.server_of n) (N.slot_of n)))
        go true = let q = named_in slots n i in versions_at (largest_version m s) slots p (N.server_of n) (N.slot_of n) q.0 q.1
        go false = refl

    -- ---- the machine's
    -- the metadata is new where the memory's is
    new_here : System.changed (T k j slots) old new t meta ≡ at_meta t.0
    new_here =
        ap (λ (b : Bool). b && (present old t || present new t)) (of_yes (ObjDiscrete meta meta) refl)
        ∙ ap (λ (v : Val). present v t || present new t) old_is ∙ union st s near x before t.0 t.1 ∙ ap (λ (b : Bool). b || eqb t.0 s) (sym (called t))

    same_here : (o : Obj) → ¬ (o ≡ meta) → System.changed (T k j slots) old new t o ≡ false
    same_here o d = ap (λ (b : Bool). b && (present old t || present new t)) (of_no (ObjDiscrete o meta) d)

    -- the table is new where the memory's is
    joined_here : (not (present old t) && present new t) ≡ at_table t.0
    joined_here = ap (λ (v : Val). not (present v t) && present new t) old_is ∙ joined st s near x before t.0 t.1

    abbrev S₀ : ServerShown k j slots p t (M.value t) (M.version t) (M.table t) (M.lock t)
    S₀ = R.servers t

    value_as : (o : Obj) → InStore k j slots o → keeps k j slots t o ≡ true → M'.value t o ≡ value_at k j slots p' o
    unfolding sort
    value_as o hi kept = by (ObjDiscrete o meta)
      where
        here_now : (b : Bool) → cond b new (root (p Root) (p States)) ≡ value_at k j slots (changed places p₀ (cond b meta_puts [])) meta
        here_now true = ap₂ root (sym (read_after places meta_puts p₀ Root)) (sym (read_after places meta_puts p₀ States))
        here_now false = ap₂ root (sym (read_after places [] p₀ Root ∙ meta_word Root refl)) (sym (read_after places [] p₀ States ∙ meta_word States refl))

        by : Dec (o ≡ meta) → M'.value t o ≡ value_at k j slots p' o
        by (yes e) =
            subst (λ (o : Obj). M'.value t o ≡ value_at k j slots p' o) (sym e)
            (ap₂ (λ (b : Bool) (v : Val). cond b new v) new_here (S₀.value_as meta refl refl) ∙ here_now (at_meta t.0))
        by (no d) = ap (λ (b : Bool). cond b new (M.value t o)) (same_here o d) ∙ S₀.value_as o hi kept ∙ sym (value_same o d)

    -- the new version
    version_meta : cond (System.changed (T k j slots) old new t meta) (suc (M.version a meta)) (p Version) ≡ p' Version
    unfolding sort
    version_meta = ap₂ (λ (b : Bool) (n : ℕ). cond b (suc n) (p Version)) new_here version_is ∙ go (at_meta t.0)
      where
        go : (b : Bool) → cond b (suc version) (p Version) ≡ changed places p₀ (cond b meta_puts []) Version
        go true = sym (read_after places meta_puts p₀ Version)
        go false = sym (read_after places [] p₀ Version ∙ meta_word Version refl)

    version_as : (o : Obj) → InStore k j slots o → keeps k j slots t o ≡ true → M'.version t o ≡ version_at k j slots p' o
    version_as o hi kept = by (ObjDiscrete o meta)
      where
        by : Dec (o ≡ meta) → M'.version t o ≡ version_at k j slots p' o
        by (yes e) =
            subst (λ (o : Obj). M'.version t o ≡ version_at k j slots p' o) (sym e)
            (ap (λ (n : ℕ). cond (System.changed (T k j slots) old new t meta) (suc (M.version a meta)) n) (S₀.version_as meta refl refl) ∙ version_meta)
        by (no d) = ap (λ (b : Bool). cond b (suc (M.version a meta)) (M.version t o)) (same_here o d) ∙ S₀.version_as o hi kept ∙ sym (version_same o d)

    -- the table
    table_node : (n : ℕ) → in_store slots n ≡ true → M'.table t (node n) ≡ p' (Table (N.server_of n) (N.slot_of n))
    unfolding largest_at largest_version
    table_node n i =
        ap (λ (b : Bool). cond b (suc (M.version a meta)) (cond (not (present old t) && present new t) (largest_at t (node n)) (M.table t (node n)))) (same_here (node n) (no_node n))
        ∙ ap₂ (λ (b : Bool) (q : ℕ). cond b (largest_at t (node n)) q) joined_here (S₀.table_as (node n) i refl) ∙ go (is_add x) (ℕ_discrete t.0 s) ∙ sym (table_word n i)
      where
        same : t.0 ≡ s → largest_at t (node n) ≡ largest_version m s (N.server_of n) (N.slot_of n)
        same e =
            largest_same (λ u. present old (fin u)) (there m) (λ u. M.table (fin u) (node n)) (λ u. m (server u (Table (N.server_of n) (N.slot_of n)))) (M.table t (node n)) _ 8
            (S₀.table_as (node n) i refl ∙ ap (λ (q : ℕ). m (server q (Table (N.server_of n) (N.slot_of n)))) e)
            (λ u l. (
              ap₂ (λ (v : Val) (q : Fin 8). present v q) old_is (fin_of (u, l)) ∙ sym (called (u, l)),
              (R.servers (fin u)).table_as (node n) i refl ∙ ap (λ (q : ℕ). m (server q (Table (N.server_of n) (N.slot_of n)))) (server_is k j slots u l),
            ))

        go : (b : Bool) → Dec (t.0 ≡ s) → cond (b && eqb t.0 s) (largest_at t (node n)) (p (Table (N.server_of n) (N.slot_of n)))
            ≡ cond (b && eqb t.0 s) (largest_version m s (N.server_of n) (N.slot_of n)) (p (Table (N.server_of n) (N.slot_of n)))
        go false d = refl
        go true (yes e) = ap (λ (q : ℕ). cond (eqb t.0 s) q (p (Table (N.server_of n) (N.slot_of n)))) (same e)
        go true (no d) = rw (ne_eqb t.0 s d) refl

    table_as : (o : Obj) → InStore k j slots o → Store.by_value k j slots o ≡ false → M'.table t o ≡ table_at k j slots p' o
    table_as meta hi b =
        (λ i. cond (new_here i) (suc (M.version a meta)) (cond (joined_here i) (largest_at t meta) (M.table t meta))) ∙ go (there m t.0) (eqb t.0 s) (is_add x)
        ∙ ap₂ (λ (b : Bool) (q : ℕ). cond b (suc (M.version a meta)) q) (sym new_here) (S₀.table_as meta refl refl) ∙ version_meta
      where
        go : (h e b : Bool) → cond (h || e) (suc (M.version a meta)) (cond (b && e) (largest_at t meta) (M.table t meta)) ≡ cond (h || e) (suc (M.version a meta)) (M.table t meta)
        go true e b = refl
        go false true b = refl
        go false false true = refl
        go false false false = refl
    table_as (node n) hi b = table_node n hi
    table_as (flag n) hi b = absurd (true≢false b)

    server_shown : ServerShown k j slots (server_of m' t.0) t (M'.value t) (M'.version t) (M'.table t) (M'.lock t)
    server_shown =
        subst (λ (q : Place → ℕ). ServerShown k j slots q t (M'.value t) (M'.version t) (M'.table t) (M'.lock t)) (sym server_now)
        (record {
          value_as = value_as;
          version_as = version_as;
          table_as = table_as;
          lock_as = λ o hi q. subst (Recorded k j slots (M.lock t o)) (sym (lock_same (lock_of (object_of (number o))) (a_lock (object_of (number o))))) (S₀.lock_as o hi (kept_so o q));
        })
      where
        kept_so : (o : Obj) → lock_kept k j slots p' t o ≡ true → lock_kept k j slots p t o ≡ true
        kept_so meta h = h
        kept_so (node n) h = h
        kept_so (flag n) h = h

  -- THE STEP leads from a good state to a good one
  change_good : Good k j slots m' L M'
  change_good = record {
    shown = record {
      reached = reached';
      clients = λ c. subst (λ (u : ClientWord → ℕ). ClientShown k j slots u (L.given c.0) (L.undecided c.0) (M.slots c) (M.copy c) (M.said c)) (sym (client_now c.0)) (R.clients c);
      servers = server_shown;
      log_as = R.log_as;
    };
    decided_fits = λ c l. subst (λ (u : ClientWord → ℕ). client_fits slots u ≡ true) (sym (client_now c.0)) (G.decided_fits c (subst (λ (u : ClientWord → ℕ). 3 ≤ u phase) (client_now c.0) l));
    outside = λ t o h. ap (λ (b : Bool). cond b new (M.value t o)) (same_here t o (λ e. not_both (ap (object_in_store slots) e) h)) ∙ G.outside t o h;
  }

  pub change_explained : Explained k j slots m' L
  change_explained = record { machine = M'; good = change_good }
