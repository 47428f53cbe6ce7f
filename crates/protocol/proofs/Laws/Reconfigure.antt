-- A change of the servers keeps the invariant: nobody holds a lock and nothing is pending, so what the servers that are there store is newest
-- and their tables are right; an added one takes the largest number of these, and a removed one is home of no inner node.
use Rattle.std.specs.Prelude.{◌≡◌, ◌&&◌, ◌||◌, not, ◌⊎◌, ℕ, suc, ◌≤◌, ◌<◌}
use Rattle.std.proofs.Math.Path.{refl, sym}
use Rattle.std.proofs.Common.{ap, ◌∙◌, subst, arith}
use Rattle.std.proofs.Math.Bool.{true, false, cond}
use Rattle.std.proofs.Math.Logic.{inl, inr}
use Rattle.std.proofs.Math.Decide.{ℕ_discrete, dec_lt}
use Rattle.base.proofs.Laws.Test.{bool_cases, or_neither, of_yes, of_no}
use Rattle.base.specs.Test.{not_both}
use Rattle.base.specs.Update.{upd}
use Rattle.base.proofs.Laws.Update.{upd_same, upd_other, upd_all}
use Rattle.protocol.specs.Setting.{Setting}
use Rattle.protocol.specs.State.{State}
use Rattle.protocol.specs.System.{here, changed, Largest, CanReconfigure, after_reconfigure}
use Rattle.protocol.specs.Replay.{Replays, snapshot}
use Rattle.protocol.proofs.Laws.Invariant.{OuterSince, Newest, TableRight, Counts, Staffed, Inv}

module _ (T : Setting) where
  open T use {Obj, Server, Client, Val, eq_obj, home, keeps, inner, meta, present}

  module _ (σ : State T) (I : Inv T σ) (v : Val) (t : Server → Obj → ℕ) (K : CanReconfigure T σ v t) where
    abbrev τ : State T
    τ = after_reconfigure T σ v t

    abbrev old : Val
    old = snapshot T σ meta

    abbrev n : ℕ
    n = suc (σ.current meta)

    -- the metadata has one version more, and nothing else changes
    current_meta : τ.current meta ≡ n
    current_meta = upd_same eq_obj σ.current meta n

    current_else : (o : Obj) → ¬ (o ≡ meta) → τ.current o ≡ σ.current o
    current_else o ne = upd_other eq_obj σ.current meta n o ne

    history_meta : τ.history meta ≡ upd ℕ_discrete (σ.history meta) n v
    history_meta = upd_same eq_obj σ.history meta _

    history_new : τ.history meta n ≡ v
    history_new = ap (λ f. f n) history_meta ∙ upd_same ℕ_discrete (σ.history meta) n v

    history_else : (o : Obj) → ¬ (o ≡ meta) → (k : ℕ) → τ.history o k ≡ σ.history o k
    history_else o ne k = ap (λ f. f k) (upd_other eq_obj σ.history meta _ o ne)

    pub reconfigured_le : (o : Obj) → σ.current o ≤ (after_reconfigure T σ v t).current o
    reconfigured_le = upd_all eq_obj σ.current meta n (λ o k. σ.current o ≤ k) (omega arith) (λ o _. omega arith)

    pub reconfigured_old : (o : Obj) (k : ℕ) → k ≤ σ.current o → (after_reconfigure T σ v t).history o k ≡ σ.history o k
    reconfigured_old o k = go (eq_obj o meta)
      where
        go : Dec (o ≡ meta) → k ≤ σ.current o → τ.history o k ≡ σ.history o k
        go (yes e) = subst (λ o. k ≤ σ.current o → τ.history o k ≡ σ.history o k) (sym e)
            (λ le. ap (λ f. f k) history_meta ∙ upd_other ℕ_discrete (σ.history meta) n v k (λ q. omega (arith, q, le)))
        go (no ne) = λ le. history_else o ne k

    pub reconfigured_snapshot : (o : Obj) → snapshot T (after_reconfigure T σ v t) o ≡ upd eq_obj (snapshot T σ) meta v o
    reconfigured_snapshot = upd_all eq_obj (snapshot T σ) meta v (λ o w. snapshot T τ o ≡ w)
        (ap (τ.history meta) current_meta ∙ history_new) (λ o ne. ap (τ.history o) (current_else o ne) ∙ history_else o ne (σ.current o))

    new_here : (s : Server) → here T τ s ≡ present v s
    new_here s = ap (λ w. present w s) (reconfigured_snapshot meta ∙ upd_same eq_obj (snapshot T σ) meta v)

    -- the new metadata is stored where a server is there, before or after; all else stays
    Same : Server → Obj → Type 0
    Same s o = ¬ (o ≡ meta) ⊎ ((present old s || present v s) ≡ false)

    Cases : Server → Obj → Type 0
    Cases s o = ((o ≡ meta) × (changed T old v s o ≡ true)) ⊎ ((changed T old v s o ≡ false) × Same s o)

    cases : (s : Server) (o : Obj) → Cases s o
    unfolding Cases Same
    cases s o = go (eq_obj o meta) (bool_cases (present old s || present v s))
      where
        go : Dec (o ≡ meta) → ((present old s || present v s) ≡ true) ⊎ ((present old s || present v s) ≡ false) → Cases s o
        go (yes e) (inl p) = inl (e, rw (of_yes (eq_obj o meta) e) p)
        go (yes e) (inr p) = inr (rw (of_yes (eq_obj o meta) e) p, inr p)
        go (no ne) _ = inr (rw (of_no (eq_obj o meta) ne) refl, inl ne)

    stored_step : (s : Server) (o : Obj) → keeps s o ≡ true → (τ.value s o ≡ τ.history o (τ.version s o)) × (τ.version s o ≤ τ.current o)
    unfolding Cases
    stored_step s o k = go (cases s o)
      where
        go : Cases s o → (cond (changed T old v s o) v (σ.value s o) ≡ τ.history o (cond (changed T old v s o) n (σ.version s o)))
            × (cond (changed T old v s o) n (σ.version s o) ≤ τ.current o)
        go (inl (e, c)) = rw c (subst (λ o. (v ≡ τ.history o n) × (n ≤ τ.current o)) (sym e) (sym history_new, omega (arith, current_meta)))
        go (inr (c, _)) =
            let st = I.stored s o k in
            rw c (st.0 ∙ sym (reconfigured_old o (σ.version s o) st.1), omega (arith, st.1, reconfigured_le o))

    newest_step : (s : Server) (o : Obj) → keeps s o ≡ true → Counts T τ s o → Newest T τ s o
    unfolding Cases Same
    newest_step s o k q = go (cases s o) q
      where
        rest : changed T old v s o ≡ false → ¬ (o ≡ meta) → Newest T σ s o → cond (changed T old v s o) n (σ.version s o) ≡ τ.current o
        rest c ne (inl e) = rw c (e ∙ sym (current_else o ne))
        rest c ne (inr w) = absurd (not_both w.1.0 (K.undecided w.0))

        go : Cases s o → Counts T τ s o → Newest T τ s o
        go (inl (e, c)) _ = inl (rw c (subst (λ o. n ≡ τ.current o) (sym e) (sym current_meta)))
        go (inr (c, inl ne)) _ = inl (rest c ne (I.newest s o k (inr ne)))
        go (inr (c, inr p)) (inr ne) = inl (rest c ne (I.newest s o k (inr ne)))
        go (inr (c, inr p)) (inl h) = absurd (not_both (sym (new_here s) ∙ h) (or_neither (present old s) (present v s) p).1)

    -- nothing is pending, so the table of a server that is there is right
    table_now : (s : Server) (o : Obj) → here T σ s ≡ true → OuterSince T σ.current σ.history o (σ.table s o)
    table_now s o h = go (I.tables s o h)
      where
        go : TableRight T σ s o → OuterSince T σ.current σ.history o (σ.table s o)
        go (inl out) = out
        go (inr w) = absurd (not_both w.1.0.0 (K.undecided w.0))

    -- and so is a larger number that is not ahead
    table_added : (s : Server) (o : Obj) → Largest T σ.table (here T σ) s o (t s o) → OuterSince T σ.current σ.history o (t s o)
    table_added s o L = record { upto = upto L.one_of_them; none = λ w lo hi. out.none w (omega (arith, lo, above)) hi }
      where
        someone : (u : Server) × (here T σ u ≡ true)
        someone = I.staffed.manned (σ.current meta) (omega arith)

        out : OuterSince T σ.current σ.history o (σ.table someone.0 o)
        out = table_now someone.0 o someone.1

        above : σ.table someone.0 o ≤ t s o
        above = L.above someone.0 someone.1

        upto : (t s o ≡ σ.table s o) ⊎ ((u : Server) × (here T σ u ≡ true) × (t s o ≡ σ.table u o)) → t s o ≤ σ.current o
        upto (inl e) = omega (arith, e, I.staffed.behind s o)
        upto (inr (u, h, e)) = omega (arith, e, I.staffed.behind u o)

    abbrev row : Server → Obj → ℕ
    row s o = cond (not (present old s) && present v s) (t s o) (σ.table s o)

    tables_step : (s : Server) (o : Obj) → here T τ s ≡ true → TableRight T τ s o
    unfolding Cases Same
    tables_step s o h = inl (go (cases s o))
      where
        there : present v s ≡ true
        there = sym (new_here s) ∙ h

        rest : (present old s ≡ true) ⊎ (present old s ≡ false) → OuterSince T σ.current σ.history o (row s o)
        rest (inl p) = rw p (table_now s o p)
        rest (inr p) = rw (p, there) (table_added s o (K.tables s p there o))

        -- of another object than the metadata nothing has changed
        same : ¬ (o ≡ meta) → (k : ℕ) → OuterSince T σ.current σ.history o k → OuterSince T τ.current τ.history o k
        same ne k out = record {
          upto = omega (arith, out.upto, current_else o ne);
          none = λ w lo hi.
              let was = out.none w lo (omega (arith, hi, current_else o ne)) in
              (ap (inner o) (history_else o ne w) ∙ was.0, ap (inner o) (history_else o ne (suc w)) ∙ was.1);
        }

        go : Cases s o → OuterSince T τ.current τ.history o (cond (changed T old v s o) n (row s o))
        go (inl (e, c)) = rw c (subst (λ o. OuterSince T τ.current τ.history o n) (sym e) (record {
          upto = omega (arith, current_meta);
          none = λ w lo hi. absurd (omega (arith, lo, hi, current_meta));
        }))
        go (inr (c, inl ne)) = rw c (same ne (row s o) (rest (bool_cases (present old s))))
        go (inr (c, inr p)) = absurd (not_both there (or_neither (present old s) (present v s) p).1)

    staffed_step : Staffed T τ.value τ.table τ.current τ.history
    unfolding Cases Same
    staffed_step = record {
      called = λ s. called s (cases s meta);
      homed = λ o ne i. new_here (home o)
          ∙ K.homed o ne (subst (λ w. inner o w ≡ true) (reconfigured_snapshot o ∙ upd_other eq_obj (snapshot T σ) meta v o ne) i);
      manned = λ k le. manned k le (dec_lt (σ.current meta) k);
      behind = λ s o. behind s o (cases s o) (bool_cases (not (present old s) && present v s)) (bool_cases (present old s)) (bool_cases (present v s));
    }
      where
        called : (s : Server) → Cases s meta → present (cond (changed T old v s meta) v (σ.value s meta)) s ≡ here T τ s
        called s (inl (e, c)) = rw c (sym (new_here s))
        called s (inr (c, inl ne)) = absurd (ne refl)
        called s (inr (c, inr p)) =
            let none = or_neither (present old s) (present v s) p in
            rw c (I.staffed.called s ∙ none.0 ∙ sym none.1 ∙ sym (new_here s))

        manned : (k : ℕ) → k ≤ τ.current meta → Dec (σ.current meta < k) → (s : Server) × (present (τ.history meta k) s ≡ true)
        manned k le (no ge) =
            let m = I.staffed.manned k (omega arith) in
            (m.0, subst (λ w. present w m.0 ≡ true) (sym (reconfigured_old meta k (omega arith))) m.1)
        manned k le (yes lt) =
            let e : k ≡ n = omega (arith, lt, le, current_meta) in
            (K.manned.0, subst (λ w. present w K.manned.0 ≡ true) (sym (ap (τ.history meta) e ∙ history_new)) K.manned.1)

        behind : (s : Server) (o : Obj) → Cases s o → ((not (present old s) && present v s) ≡ true) ⊎ ((not (present old s) && present v s) ≡ false)
            → (present old s ≡ true) ⊎ (present old s ≡ false) → (present v s ≡ true) ⊎ (present v s ≡ false)
            → cond (changed T old v s o) n (row s o) ≤ τ.current o
        behind s o (inl (e, c)) _ _ _ = rw c (subst (λ o. n ≤ τ.current o) (sym e) (omega (arith, current_meta)))
        behind s o (inr (c, _)) (inr j) _ _ = rw (c, j) (omega (arith, I.staffed.behind s o, reconfigured_le o))
        behind s o (inr (c, _)) (inl j) (inr p) (inl q) =
            rw (c, p, q) (omega (arith, (table_added s o (K.tables s p q o)).upto, reconfigured_le o))
        behind s o (inr (c, _)) (inl j) (inl p) _ = rw (c, p) (omega (arith, I.staffed.behind s o, reconfigured_le o))
        behind s o (inr (c, _)) (inl j) (inr p) (inr q) = rw (c, p, q) (omega (arith, I.staffed.behind s o, reconfigured_le o))

    pub reconfigure_inv : Inv T (after_reconfigure T σ v t)
    unfolding Replays
    reconfigure_inv = record {
      content = I.content;
      course = I.course;
      parts = I.parts;
      reads = λ c o h. let r = I.reads c o h in (
        r.0 ∙ sym (reconfigured_old o ((σ.clients c).version_read o) r.1),
        omega (arith, r.1, reconfigured_le o),
      );
      kept = λ c _ s o h. absurd (not_both h (K.unprepared c s));
      due = λ c h. absurd (not_both h (K.undecided c));
      apart = λ c d _ s h. absurd (not_both h.0 (K.unprepared c s));
      stored = stored_step;
      newest = newest_step;
      tables = tables_step;
      staffed = staffed_step;
      held = λ c s h. absurd (not_both h (K.unprepared c s));
      replay = (snapshot T σ, I.replay, K.alike, reconfigured_snapshot);
    }
