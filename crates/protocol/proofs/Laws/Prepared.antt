-- The machine's prepare is a step of the system, after a stamp: its computed checks and grants are what the rules ask.
use Rattle.std.specs.Prelude.{◌≡◌, refl, Bool, true, false, cond, ◌⊎◌, ℕ, ◌≤◌}
use Rattle.std.proofs.Common.{ap, sym, ◌∙◌, subst, inl, inr}
use Rattle.std.proofs.Math.Option.{Option, none, some}
use Rattle.base.proofs.Laws.Test.{bool_cases, of_yes}
use Rattle.base.specs.Test.{not_both, yes?}
use Rattle.base.proofs.Laws.Update.{upd_same}
use Rattle.protocol.specs.Setting.{Setting}
use Rattle.protocol.specs.Lists.{all}
use Rattle.protocol.proofs.Laws.Lists.{all_among}
use Rattle.protocol.specs.State.{committing, Transaction, State}
use Rattle.protocol.specs.System.{Stamp, Checks, CanPrepare, stamp, prepare, Reach, after}
use Rattle.protocol.proofs.Laws.Invariant.{Inv}
use Rattle.protocol.proofs.Laws.Safety.{reach_inv}
use Rattle.protocol.specs.Machine.{Item, find, test, Slot, Machine, with_slot}
use Rattle.protocol.specs.Moves.{check, to_write, to_read, grants, granted_at, prepared_slot}
use Rattle.protocol.proofs.Laws.Items.{find_item, found, at_item, asks_write, asks_read, granted_all, check_table, check_version, check_value}
use Rattle.protocol.proofs.Laws.Locks.{Recorded, granted_apart, prepare_recorded}
use Rattle.protocol.proofs.Laws.Ghosts.{Own, Ghost, item_version, transaction_of, state_of, put_own, clients_put, state_put, state_own}

module _ (T : Setting) where
  open T use {Obj, Server, Client, Val, eq_server, eq_client, home, keeps, keeps_home, inner, by_value, by_value_outer, meta, present}

  inner_versioned : (o : Obj) (v : Val) → inner o v ≡ true → by_value o ≡ false
  inner_versioned o v h = go (bool_cases (by_value o))
    where
      go : (by_value o ≡ true) ⊎ (by_value o ≡ false) → by_value o ≡ false
      go (inl b) = absurd (not_both h (by_value_outer o b v))
      go (inr b) = b

  -- the stamps that a prepare at s gives: the versions that its objects have there
  abbrev pub stamps_at : Ghost T → Client → Server → Obj → ℕ
  stamps_at g c s o = cond (yes? (eq_server s (home o))) (g.versions s o) ((g.own c).stamps o)

  abbrev pub stamped_ghost : Ghost T → Client → Server → Ghost T
  stamped_ghost g c s = put_own T g c (record { trace = (g.own c).trace; stamps = stamps_at g c s })

  abbrev pub prepared_ghost : Ghost T → Client → Server → Ghost T
  prepared_ghost g c s = put_own T (stamped_ghost g c s) c ((stamped_ghost g c s).own c)

  module _ (m : Machine T) (g : Ghost T) (c : Client) (r : Reach T (state_of T m g)) (s : Server) (hs : present (m.value s meta) s ≡ true)
      (hp : (m.slots c).phase ≡ committing)
      (new : (m.slots c).prepared s ≡ false) (pass : all (check T m (m.slots c).lowest s) (m.slots c).items ≡ true) where
    abbrev y : Slot T
    y = m.slots c

    abbrev σ : State T
    σ = state_of T m g

    abbrev x : Transaction T
    x = transaction_of T y (g.own c)

    I : Inv T σ
    I = reach_inv T r

    -- the checks passed at the item of an object
    passed : (o : Obj) (i : Item T) → find T y.items o ≡ some i → check T m y.lowest s i ≡ true
    passed o i q = all_among (check T m y.lowest s) y.items i pass (find_item T y.items o i q).0

    -- an object checked by value at its home s has there the value that was read
    value_now : (o : Obj) (i : Item T) → find T y.items o ≡ some i → by_value o ≡ true → s ≡ home o → m.value s o ≡ x.value_read o
    value_now o i q = at_item T y.items o i q (λ o. by_value o ≡ true → s ≡ home o → m.value s o ≡ x.value_read o)
        (λ q b e. rw q (check_value T m y.lowest s i (passed i.obj i q) (by_value_outer i.obj b i.old) e b))

    abbrev new_own : Own T
    new_own = record { trace = (g.own c).trace; stamps = stamps_at g c s }

    -- so it may take the version that it has there
    stamp_right : (o : Obj) → Stamp T σ x o (item_version T new_own o (find T y.items o))
    stamp_right o = go (find T y.items o) refl (bool_cases (by_value o)) (eq_server s (home o)) refl
      where
        go : (z : Option (Item T)) → find T y.items o ≡ z → (by_value o ≡ true) ⊎ (by_value o ≡ false) → (d : Dec (s ≡ home o)) → eq_server s (home o) ≡ d
            → Stamp T σ x o (item_version T new_own o (find T y.items o))
        go none q _ d h = inl (rw q refl)
        go (some i) q (inr b) d h = inl (rw (q, b) refl)
        go (some i) q (inl b) (no n) h = inl (rw (q, b, h) refl)
        go (some i) q (inl b) (yes e) h =
            let kept = I.stored s o (subst (λ t. keeps t o ≡ true) (sym e) (keeps_home o)) in
            let same : σ.version s o ≡ item_version T new_own o (find T y.items o) = rw (q, b, h) refl in
            inr (
              b,
              subst (λ t. y.prepared t ≡ false) e new,
              sym (value_now o i q b e) ∙ kept.0 ∙ ap (g.history o) same,
              subst (λ n. n ≤ g.current o) same kept.1,
            )

    abbrev g1 : Ghost T
    g1 = stamped_ghost g c s

    stamped : Reach T (state_of T m (stamped_ghost g c s))
    stamped = subst (λ τ. Reach T τ) (sym (state_own T m g c new_own _ refl))
        (after r (stamp c (λ o. item_version T new_own o (find T y.items o)) hp stamp_right))

    -- the checks of the rules, for a client with these stamps
    checks : (u : Own T) → u ≡ new_own → Checks T σ.table σ.version (transaction_of T (m.slots c) u) s
    checks u same = record {
      by_table = λ o hr. let f = found T (λ i. true) y.items o hr in by_table o f.0 f.1;
      at_home = λ o hr. let f = found T (λ i. true) y.items o hr in at_home o f.0 f.1;
    }
      where
        version : Obj → ℕ
        version o = item_version T u o (find T y.items o)

        by_table : (o : Obj) (i : Item T) → find T y.items o ≡ some i → inner o (x.value_read o) ≡ true
            → (y.lowest ≡ s) ⊎ (x.written o ≡ true) → m.table s o ≡ version o
        by_table o i q = at_item T y.items o i q
            (λ o. inner o (x.value_read o) ≡ true → (y.lowest ≡ s) ⊎ (x.written o ≡ true) → m.table s o ≡ version o)
            (λ q n w. let n' : inner i.obj i.old ≡ true = rw q at n in
            rw (q, inner_versioned i.obj i.old n') (check_table T m y.lowest s i (passed i.obj i q) n' (rw q at w)))

        at_home : (o : Obj) (i : Item T) → find T y.items o ≡ some i → inner o (x.value_read o) ≡ false → s ≡ home o → σ.version s o ≡ version o
        at_home o i q = at_item T y.items o i q (λ o. inner o (x.value_read o) ≡ false → s ≡ home o → σ.version s o ≡ version o)
            (λ q n e. go q (rw q at n) e (bool_cases (by_value i.obj)))
          where
            go : find T y.items i.obj ≡ some i → inner i.obj i.old ≡ false → s ≡ home i.obj
                → (by_value i.obj ≡ true) ⊎ (by_value i.obj ≡ false) → σ.version s i.obj ≡ version i.obj
            go q n e (inl b) = rw (q, b) (sym (ap (λ u. u.stamps i.obj) same ∙ rw (of_yes (eq_server s (home i.obj)) e) refl))
            go q n e (inr b) = rw (q, b) (check_version T m y.lowest s i (passed i.obj i q) n e b)

    module _ (R : Recorded T (state_of T m g).clients m.lock) (granted : all (λ i. grants T c (to_write T s i) (to_read T (m.slots c).lowest s i) (m.lock s i.obj)) (m.slots c).items ≡ true) where
      abbrev w : Obj → Bool
      w = test T (to_write T s) y.items

      abbrev rd : Obj → Bool
      rd = test T (to_read T y.lowest s) y.items

      G : (o : Obj) → grants T c (w o) (rd o) (m.lock s o) ≡ true
      G = granted_all T c y s (m.lock s) granted

      pub prepare_reach : Reach T (state_of T (with_slot T m c (prepared_slot T (m.slots c) s)) (prepared_ghost g c s))
      prepare_reach = subst (λ σ. Reach T σ) (sym (state_put T m g1 c (prepared_slot T y s) (g1.own c) _ refl)) (after stamped (prepare c s can))
        where
          can : CanPrepare T (state_of T m g1) c s
          can = record {
            phase = hp;
            not_absent = hs;
            checks = checks (g1.own c) (upd_same eq_client g.own c _);
            unlocked = granted_apart T (state_of T m g1).clients m.lock R c s w rd (asks_write T y s) (asks_read T y s) G;
          }

      pub locks_recorded : Recorded T (state_of T (with_slot T m c (prepared_slot T (m.slots c) s)) (prepared_ghost g c s)).clients (granted_at T m c s)
      locks_recorded =
          subst (λ f. Recorded T f (granted_at T m c s)) (sym (clients_put T m g1 c (prepared_slot T y s) (g1.own c) _ refl))
          (prepare_recorded T (state_of T m g1).clients m.lock R c s w rd (asks_write T y s) (asks_read T y s) G)
