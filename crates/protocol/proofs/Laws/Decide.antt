-- The decision keeps the invariant: what the transaction read is current, so its trace runs on the newest snapshot, which its writes then
-- change; and what others have checked stays current, since their locks keep these writes out.
use Rattle.std.specs.Prelude.{◌≡◌, refl, false, cond, ◌⊎◌, ℕ, suc, ◌≤◌, ◌<◌}
use Rattle.std.proofs.Common.{ap, ◌∙◌, subst, true≢false, inl, inr, arith}
use Rattle.std.proofs.Math.Path.{sym}
use Rattle.std.proofs.Math.Bool.{true}
use Rattle.std.proofs.Math.Decide.{dec_lt}
use Rattle.base.proofs.Laws.Test.{bool_cases, cond_false, or_left}
use Rattle.base.specs.Test.{not_both}
use Rattle.base.proofs.Laws.Update.{upd_same, upd_all}
use Rattle.protocol.specs.Setting.{Setting}
use Rattle.protocol.specs.State.{committing, is_decided, Transaction, State, deciding}
use Rattle.protocol.proofs.Laws.State.{after_commit}
use Rattle.protocol.specs.System.{here, there, inner_before_after, Holds, Checked, WriteLock, Apart, after_decision, Parts}
use Rattle.protocol.specs.Replay.{Uncompared, Runs, Replays, snapshot}
use Rattle.protocol.proofs.Laws.Invariant.{Content, Course, Reads, Kept, Due, Pending, PendingInner, Newest, TableRight, Counts, Staffed, Inv}
use Rattle.protocol.proofs.Laws.Put.{still, apart_upd}
use Rattle.protocol.proofs.Laws.Locked.{locked_part, kept_locked, pending_holds}
use Rattle.protocol.proofs.Laws.History.{homes_now, read_now, lowest_part, written_now, current_written, current_else, history_new, current_le, history_old, reads_step, snapshot_step, view_now, here_step, home_here, outer_step}

module _ (T : Setting) where
  open T use {Obj, Server, Client, Val, eq_client, home, keeps, keeps_where, inner, meta, present}

  module _ (σ : State T) (I : Inv T σ) (c : Client) (hp : (σ.clients c).phase ≡ committing) (ready : (s : Server) → (σ.clients c).participant s ≡ true → (σ.clients c).prepared s ≡ true) where
    abbrev x : Transaction T
    x = σ.clients c

    abbrev x' : Transaction T
    x' = deciding T x

    abbrev τ : State T
    τ = after_decision T σ c

    undecided : is_decided x.phase ≡ false
    undecided = ap is_decided hp

    parts : Parts T x x.participant x.lowest
    parts = I.parts c (ap after_commit hp)

    -- where a write is locked is a participant, which has prepared
    part : (s : Server) (o : Obj) → WriteLock T x s o → there T x s ≡ true → x.participant s ≡ true
    part = locked_part T x (I.content c) parts (homes_now T σ I c hp ready)

    unapplied : (s : Server) → x.applied s ≡ false
    unapplied = (I.course c).unapplied undecided

    -- a write of x and a lock of another client cannot meet at one server
    clash : (d : Client) → ¬ (d ≡ c) → (s : Server) → Holds T (σ.clients d) s → Apart T x (σ.clients d) s
    clash d nd s h o w = I.apart c d (λ q. nd (sym q)) s (ready s (part s o w (view_now T σ I c hp ready o w.0 s ∙ I.held d s h.0)), unapplied s) h o w

    kept_step : (d : Client) → ¬ (d ≡ c) → Kept T τ (σ.clients d)
    kept_step d nd hd s o hs hr hc = go (bool_cases (x.written o)) hc
      where
        y : Transaction T
        y = σ.clients d

        was : σ.current o ≡ y.version_read o
        was = I.kept d hd s o hs hr hc

        hy : Holds T y s
        hy = (hs, (I.course d).unapplied hd s)

        -- both have read the current value
        both : x.written o ≡ true → x.value_read o ≡ y.value_read o
        both h = (I.reads c o ((I.content c).written_read o h)).0
            ∙ ap (σ.history o) (sym (written_now T σ I c hp ready o h) ∙ was) ∙ sym (I.reads d o hr).0

        go : (x.written o ≡ true) ⊎ (x.written o ≡ false) → Checked T y s o → τ.current o ≡ y.version_read o
        go (inr h) _ = current_else T σ I c hp ready o h ∙ was
        go (inl h) (inl q) = absurd (clash d nd s hy o
            (h, inr (or_left (inner o (x.value_read o)) (inner o (x.value_written o)) (ap (inner o) (both h) ∙ q.0))) (inr (hr, inl q)))
        go (inl h) (inr q) = absurd (clash d nd s hy o (h, inl q.1) (inr (hr, inr q)))

    due_step : (d : Client) → ¬ (d ≡ c) → is_decided (σ.clients d).phase ≡ true → Due T τ.current τ.history (σ.clients d)
    due_step d nd hd = record {
      past = λ o w. (
        history_old T σ I c hp ready o (suc (y.version_read o)) (D.past o w).1 ∙ (D.past o w).0,
        omega (arith, (D.past o w).1, current_le T σ I c hp ready o),
      );
      seated = D.seated;
      aware = λ o w s. D.aware o w s ∙ sym (here_step T σ I c hp ready s);
      at_home = D.at_home;
      due_newest = λ s o a w k t. newest s o a w k t (bool_cases (x.written o));
      due_outer = λ s o a w b t.
          outer_step T σ I c hp ready o (suc (y.version_read o)) (λ h. outer s o a w b t h (bool_cases (inner_before_after T x o))) (D.due_outer s o a w b t);
    }
      where
        y : Transaction T
        y = σ.clients d

        D : Due T σ.current σ.history y
        D = I.due d hd

        newest : (s : Server) (o : Obj) → y.applied s ≡ false → y.written o ≡ true → keeps s o ≡ true → there T y s ≡ true
            → (x.written o ≡ true) ⊎ (x.written o ≡ false) → τ.current o ≡ suc (y.version_read o)
        newest s o a w k t (inl h) =
            let locked = kept_locked T y s o k in
            absurd (clash d nd s (pending_holds T σ I d s o (hd, a, w, locked, t)) o (h, kept_locked T x s o k) (inl (w, locked)))
        newest s o a w k t (inr h) = current_else T σ I c hp ready o h ∙ D.due_newest s o a w k t

        outer : (s : Server) (o : Obj) → y.applied s ≡ false → y.written o ≡ true → inner_before_after T y o ≡ true → there T y s ≡ true → x.written o ≡ true
            → (inner_before_after T x o ≡ true) ⊎ (inner_before_after T x o ≡ false) → inner_before_after T x o ≡ false
        outer s o a w b t h (inl b') = absurd (clash d nd s (pending_holds T σ I d s o (hd, a, w, inr b, t)) o (h, inr b') (inl (w, inr b)))
        outer s o a w b t h (inr n) = n

    due_own : Due T τ.current τ.history x'
    due_own = record {
      past = λ o w. (history_new T σ I c hp ready o w, omega (arith, current_written T σ I c hp ready o w));
      seated = homes_now T σ I c hp ready;
      aware = λ o w s. view_now T σ I c hp ready o w s ∙ sym (here_step T σ I c hp ready s);
      at_home = λ o w ne. view_now T σ I c hp ready o w (home o) ∙ home_here T σ I c hp ready o ne w;
      due_newest = λ s o a w k t. current_written T σ I c hp ready o w;
      due_outer = λ s o a w b t. record {
        upto = omega (arith, current_written T σ I c hp ready o w);
        none = λ v lo hi. absurd (omega (arith, current_written T σ I c hp ready o w));
      };
    }

    -- x is a witness after the decision: its writes are pending
    own : (P : Transaction T → Type 0) → P x' → (d : Client) × P (τ.clients d)
    own P p = (c, subst P (sym (upd_same eq_client σ.clients c x')) p)

    newest_step : (s : Server) (o : Obj) → keeps s o ≡ true → Counts T τ s o → Newest T τ s o
    newest_step s o k q = go (bool_cases (x.written o)) (I.newest s o k (counted q))
      where
        counted : Counts T τ s o → Counts T σ s o
        counted (inl h) = inl (sym (here_step T σ I c hp ready s) ∙ h)
        counted (inr ne) = inr ne

        -- s is there, by the newest metadata, or as the home of what is written
        at : x.written o ≡ true → Counts T σ s o → (s ≡ home o) ⊎ (o ≡ meta) → here T σ s ≡ true
        at w (inl h) _ = h
        at w (inr ne) (inl e) = subst (λ s. here T σ s ≡ true) (sym e) (home_here T σ I c hp ready o ne w)
        at w (inr ne) (inr e) = absurd (ne e)

        go : (x.written o ≡ true) ⊎ (x.written o ≡ false) → Newest T σ s o → Newest T τ s o
        go (inl h) _ = inr (own (λ y. Pending T y s o) (refl, unapplied s, h, kept_locked T x s o k, view_now T σ I c hp ready o h s ∙ at h (counted q) (keeps_where s o k)))
        go (inr h) (inl e) = inl (e ∙ sym (current_else T σ I c hp ready o h))
        go (inr h) (inr w) = inr (still T σ.clients c x' (λ y. Pending T y s o) (λ p. not_both p.0 undecided) w)

    tables_step : (s : Server) (o : Obj) → here T τ s ≡ true → TableRight T τ s o
    tables_step s o q = go (bool_cases (x.written o)) (bool_cases (inner_before_after T x o))
      where
        was_here : here T σ s ≡ true
        was_here = sym (here_step T σ I c hp ready s) ∙ q

        rest : (x.written o ≡ true → inner_before_after T x o ≡ false) → TableRight T σ s o → TableRight T τ s o
        rest nb (inl out) = inl (outer_step T σ I c hp ready o (σ.table s o) nb out)
        rest nb (inr w) = inr (still T σ.clients c x' (λ y. PendingInner T y s o) (λ p. not_both p.0.0 undecided) w)

        go : (x.written o ≡ true) ⊎ (x.written o ≡ false) → (inner_before_after T x o ≡ true) ⊎ (inner_before_after T x o ≡ false) → TableRight T τ s o
        go (inl h) (inl b) = inr (own (λ y. PendingInner T y s o) ((refl, unapplied s, h, inr b, view_now T σ I c hp ready o h s ∙ was_here), b))
        go _ (inr n) = rest (λ _. n) (I.tables s o was_here)
        go (inr h) (inl b) = rest (λ w. absurd (not_both w h)) (I.tables s o was_here)

    -- with a participant, the trace runs on the newest snapshot; without one, nothing is compared and nothing changes
    runs_step : Runs T (x.participant x.lowest) x.trace (snapshot T σ) (snapshot T τ)
    unfolding Runs
    runs_step = go (bool_cases (x.participant x.lowest))
      where
        M : Obj → Val
        M = snapshot T σ

        step : (o : Obj) → snapshot T τ o ≡ cond (x.written o) (x.value_written o) (M o)
        step = snapshot_step T σ I c hp ready

        with_part : x.participant x.lowest ≡ true → Runs T true x.trace M (snapshot T τ)
        with_part h =
            let r = (I.content c).explained M (λ o hr. ap (σ.history o) (read_now T σ I c hp ready o hr (inl h)) ∙ sym (I.reads c o hr).0) in
            (r.0, λ o. step o ∙ sym (r.1 o))

        no_part : x.participant x.lowest ≡ false → (s : Server) → x.participant s ≡ true → ⊥
        no_part h s p = not_both p (parts.one_of_them h s)

        unwritten : x.participant x.lowest ≡ false → (o : Obj) → (x.written o ≡ true) ⊎ (x.written o ≡ false) → snapshot T τ o ≡ M o
        unwritten h o (inl w) = absurd (not_both (lowest_part T σ I c hp ready o w) h)
        unwritten h o (inr w) = step o ∙ cond_false (x.value_written o) (M o) w

        uncompared : x.participant x.lowest ≡ false
            → Uncompared T x.trace ⊎ ((o : Obj) × (x.read o ≡ true) × ((inner o (x.value_read o) ≡ false) ⊎ (x.written o ≡ true)))
            → Uncompared T x.trace
        uncompared h (inl q) = q
        uncompared h (inr (o, hr, inl n)) = absurd (no_part h (home o) (homes_now T σ I c hp ready o hr n))
        uncompared h (inr (o, hr, inr w)) = absurd (not_both (lowest_part T σ I c hp ready o w) h)

        go : (x.participant x.lowest ≡ true) ⊎ (x.participant x.lowest ≡ false)
            → Runs T (x.participant x.lowest) x.trace M (snapshot T τ)
        go (inl h) = subst (λ b. Runs T b x.trace M (snapshot T τ)) (sym h) (with_part h)
        go (inr h) = subst (λ b. Runs T b x.trace M (snapshot T τ)) (sym h)
            (uncompared h (I.content c).outer_seen, λ o. unwritten h o (bool_cases (x.written o)))

    staffed_step : Staffed T τ.value τ.table τ.current τ.history
    staffed_step = record {
      called = λ s. S.called s ∙ sym (here_step T σ I c hp ready s);
      homed = λ o ne i. here_step T σ I c hp ready (home o) ∙ homed o ne i (bool_cases (x.written o));
      manned = λ n le. manned n le (dec_lt (σ.current meta) n);
      behind = λ s o. omega (arith, S.behind s o, current_le T σ I c hp ready o);
    }
      where
        S : Staffed T σ.value σ.table σ.current σ.history
        S = I.staffed

        homed : (o : Obj) → ¬ (o ≡ meta) → inner o (snapshot T τ o) ≡ true → (x.written o ≡ true) ⊎ (x.written o ≡ false) → here T σ (home o) ≡ true
        homed o ne i (inl w) = home_here T σ I c hp ready o ne w
        homed o ne i (inr w) = S.homed o ne
            (subst (λ v. inner o v ≡ true) (snapshot_step T σ I c hp ready o ∙ cond_false (x.value_written o) (snapshot T σ o) w) i)

        -- at most one version is new, the newest, and its servers are those of the one before
        last : τ.current meta ≤ suc (σ.current meta)
        last = go (bool_cases (x.written meta))
          where
            go : (x.written meta ≡ true) ⊎ (x.written meta ≡ false) → τ.current meta ≤ suc (σ.current meta)
            go (inl w) = omega (arith, current_written T σ I c hp ready meta w, written_now T σ I c hp ready meta w)
            go (inr w) = omega (arith, current_else T σ I c hp ready meta w)

        manned : (n : ℕ) → n ≤ τ.current meta → Dec (σ.current meta < n) → (s : Server) × (present (τ.history meta n) s ≡ true)
        manned n le (no ge) =
            let m = S.manned n (omega arith) in
            (m.0, subst (λ v. present v m.0 ≡ true) (sym (history_old T σ I c hp ready meta n (omega arith))) m.1)
        manned n le (yes lt) =
            let m = S.manned (σ.current meta) (omega arith) in
            (m.0, subst (λ k. present (τ.history meta k) m.0 ≡ true) (omega (arith, last)) (here_step T σ I c hp ready m.0 ∙ m.1))

    pub decide_inv : Inv T (after_decision T σ c)
    unfolding Replays
    decide_inv = record {
      content = upd_all eq_client σ.clients c x' (λ d y. Content T y) (I.content c) (λ d _. I.content d);
      course = upd_all eq_client σ.clients c x' (λ d y. Course T y)
          (record { unprepared = λ h. absurd (true≢false h); unapplied = λ h. absurd (true≢false h); all_prepared = λ _. ready })
          (λ d _. I.course d);
      parts = upd_all eq_client σ.clients c x' (λ d y. after_commit y.phase ≡ true → Parts T y y.participant y.lowest)
          (λ _. parts) (λ d _. I.parts d);
      reads = upd_all eq_client σ.clients c x' (λ d y. Reads T τ y)
          (reads_step T σ I c hp ready x (I.reads c)) (λ d _. reads_step T σ I c hp ready (σ.clients d) (I.reads d));
      kept = upd_all eq_client σ.clients c x' (λ d y. Kept T τ y) (λ h. absurd (true≢false h)) kept_step;
      due = upd_all eq_client σ.clients c x' (λ d y. is_decided y.phase ≡ true → Due T τ.current τ.history y) (λ _. due_own) due_step;
      apart = apart_upd T σ.clients c x' (λ d nd. I.apart c d (λ q. nd (sym q))) (λ d nd. I.apart d c nd) I.apart;
      stored = λ s o k. (
        (I.stored s o k).0 ∙ sym (history_old T σ I c hp ready o (σ.version s o) (I.stored s o k).1),
        omega (arith, (I.stored s o k).1, current_le T σ I c hp ready o),
      );
      newest = newest_step;
      tables = tables_step;
      staffed = staffed_step;
      held = upd_all eq_client σ.clients c x' (λ d y. (s : Server) → y.prepared s ≡ true → here T τ s ≡ true)
          (λ s h. here_step T σ I c hp ready s ∙ I.held c s h) (λ d _ s h. here_step T σ I c hp ready s ∙ I.held d s h);
      replay = (snapshot T σ, I.replay, runs_step);
    }
