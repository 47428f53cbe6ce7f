-- An apply at one server keeps the invariant: the decided writes reach its store and its table.
use Rattle.std.specs.Prelude.{◌≡◌, true, false, cond, ◌⊎◌, ℕ, ◌≤◌}
use Rattle.std.proofs.Common.{ap, sym, ◌∙◌, subst, inl, inr}
use Rattle.base.proofs.Laws.Test.{bool_cases}
use Rattle.base.specs.Test.{not_both}
use Rattle.base.proofs.Laws.Update.{upd_other, upd_all}
use Rattle.protocol.proofs.Laws.Changed.{upd_both}
use Rattle.protocol.specs.Setting.{Setting}
use Rattle.protocol.specs.State.{decided, is_decided, Transaction, State, applying}
use Rattle.protocol.proofs.Laws.State.{after_commit}
use Rattle.protocol.specs.System.{here, there, next_version, in_tables, after_apply, Parts}
use Rattle.protocol.proofs.Laws.Invariant.{Content, Course, Reads, Kept, OuterSince, Due, Pending, PendingInner, Newest, TableRight, Counts, Inv}
use Rattle.protocol.proofs.Laws.Put.{still, apart_upd}

module _ (T : Setting) where
  open T use {Obj, Server, Client, eq_server, eq_client, keeps, keeps_meta, meta, present}

  module _ (σ : State T) (I : Inv T σ) (c : Client) (s : Server) (hp : (σ.clients c).phase ≡ decided)
      (hs : (σ.clients c).participant s ≡ true) (ha : (σ.clients c).applied s ≡ false) where
    abbrev x : Transaction T
    x = σ.clients c

    abbrev x' : Transaction T
    x' = applying T x s

    abbrev τ : State T
    τ = after_apply T σ c s

    hd : is_decided x.phase ≡ true
    hd = ap is_decided hp

    D : Due T σ.current σ.history x
    D = I.due c hd

    -- a participant is there, and the transaction knows it
    known : (o : Obj) → x.written o ≡ true → there T x s ≡ true
    known o w = D.aware o w s ∙ I.held c s ((I.course c).all_prepared hd s hs)

    -- what is unapplied after the step was so before
    was : (t : Server) → x'.applied t ≡ false → x.applied t ≡ false
    was t h = go (eq_server t s)
      where
        go : Dec (t ≡ s) → x.applied t ≡ false
        go (yes e) = subst (λ t. x.applied t ≡ false) (sym e) ha
        go (no ne) = sym (upd_other eq_server x.applied s true t ne) ∙ h

    -- at another server what is pending stays pending
    own_else : (t : Server) → ¬ (t ≡ s) → (o : Obj) → Pending T x t o → Pending T x' t o
    own_else t ne o p = (p.0, upd_other eq_server x.applied s true t ne ∙ p.1, p.2, p.3, p.4)

    pending_else : (t : Server) → ¬ (t ≡ s) → (o : Obj) (d : Client) → Pending T (σ.clients d) t o → Pending T (τ.clients d) t o
    pending_else t ne o = upd_all eq_client σ.clients c x' (λ d y. Pending T (σ.clients d) t o → Pending T y t o) (own_else t ne o) (λ d _ p. p)

    inner_else : (t : Server) → ¬ (t ≡ s) → (o : Obj) (d : Client) → PendingInner T (σ.clients d) t o → PendingInner T (τ.clients d) t o
    inner_else t ne o = upd_all eq_client σ.clients c x' (λ d y. PendingInner T (σ.clients d) t o → PendingInner T y t o)
        (λ p. (own_else t ne o p.0, p.1)) (λ d _ p. p)

    -- what is stored at s is now the decided write, which is in the history
    stored_step : (t : Server) (o : Obj) → keeps t o ≡ true → (τ.value t o ≡ σ.history o (τ.version t o)) × (τ.version t o ≤ σ.current o)
    stored_step = upd_both eq_server σ.value σ.version s _ _
        (λ t v n. (o : Obj) → keeps t o ≡ true → (v o ≡ σ.history o (n o)) × (n o ≤ σ.current o))
        (λ o k. here o k (bool_cases (x.written o))) (λ t _. I.stored t)
      where
        here : (o : Obj) → keeps s o ≡ true → (x.written o ≡ true) ⊎ (x.written o ≡ false)
            → (cond (x.written o) (cond (keeps s o) (x.value_written o) (σ.value s o)) (σ.value s o)
            ≡ σ.history o (cond (x.written o) (cond (keeps s o) (next_version T x o) (σ.version s o)) (σ.version s o)))
            × (cond (x.written o) (cond (keeps s o) (next_version T x o) (σ.version s o)) (σ.version s o) ≤ σ.current o)
        here o k (inl w) = rw (w, k) (sym (D.past o w).0, (D.past o w).1)
        here o k (inr n) = rw n (I.stored s o k)

    -- and it is the newest
    newest_step : (t : Server) (o : Obj) → keeps t o ≡ true → Counts T τ t o → Newest T τ t o
    newest_step = upd_all eq_server σ.version s _
        (λ t n. (o : Obj) → keeps t o ≡ true → Counts T σ t o → (n o ≡ σ.current o) ⊎ ((d : Client) × Pending T (τ.clients d) t o))
        (λ o k q. at_s o k (bool_cases (x.written o)) (I.newest s o k q)) (λ t ne o k q. else t ne o (I.newest t o k q))
      where
        at_s : (o : Obj) → keeps s o ≡ true → (x.written o ≡ true) ⊎ (x.written o ≡ false) → Newest T σ s o
            → (cond (x.written o) (cond (keeps s o) (next_version T x o) (σ.version s o)) (σ.version s o) ≡ σ.current o)
            ⊎ ((d : Client) × Pending T (τ.clients d) s o)
        at_s o k (inl w) _ = inl (rw (w, k) (sym (D.due_newest s o ha w k (known o w))))
        at_s o k (inr n) (inl e) = inl (rw n e)
        at_s o k (inr n) (inr w) = inr (still T σ.clients c x' (λ y. Pending T y s o) (λ p. not_both p.2 n) w)

        else : (t : Server) → ¬ (t ≡ s) → (o : Obj) → Newest T σ t o → (σ.version t o ≡ σ.current o) ⊎ ((d : Client) × Pending T (τ.clients d) t o)
        else t ne o (inl e) = inl e
        else t ne o (inr w) = inr (w.0, pending_else t ne o w.0 w.1)

    -- the table takes the version of a write that is inner before or after, "even where a table holds an older number"
    tables_step : (t : Server) (o : Obj) → here T τ t ≡ true → TableRight T τ t o
    tables_step = upd_all eq_server σ.table s _
        (λ t n. (o : Obj) → here T σ t ≡ true → OuterSince T σ.current σ.history o (n o) ⊎ ((d : Client) × PendingInner T (τ.clients d) t o))
        (λ o q. at_s o (bool_cases (x.written o)) (bool_cases (in_tables T x o)) (I.tables s o q)) (λ t ne o q. else t ne o (I.tables t o q))
      where
        row : Obj → ℕ
        row o = cond (x.written o) (cond (in_tables T x o) (next_version T x o) (σ.table s o)) (σ.table s o)

        After : Obj → Type 0
        After o = OuterSince T σ.current σ.history o (row o) ⊎ ((d : Client) × PendingInner T (τ.clients d) s o)

        keep : (o : Obj) → (PendingInner T x s o → ⊥) → row o ≡ σ.table s o → TableRight T σ s o → After o
        keep o np same (inl out) = inl (subst (OuterSince T σ.current σ.history o) (sym same) out)
        keep o np same (inr w) = inr (still T σ.clients c x' (λ y. PendingInner T y s o) np w)

        at_s : (o : Obj) → (x.written o ≡ true) ⊎ (x.written o ≡ false) → (in_tables T x o ≡ true) ⊎ (in_tables T x o ≡ false)
            → TableRight T σ s o → After o
        at_s o (inl w) (inl b) _ = inl (subst (OuterSince T σ.current σ.history o) (rw (w, b)) (D.due_outer s o ha w b (known o w)))
        at_s o (inl w) (inr n) h = keep o (λ p. not_both p.1 n) (rw (w, n)) h
        at_s o (inr n) _ h = keep o (λ p. not_both p.0.2 n) (rw n) h

        else : (t : Server) → ¬ (t ≡ s) → (o : Obj) → TableRight T σ t o
            → OuterSince T σ.current σ.history o (σ.table t o) ⊎ ((d : Client) × PendingInner T (τ.clients d) t o)
        else t ne o (inl out) = inl out
        else t ne o (inr w) = inr (w.0, inner_else t ne o w.0 w.1)

    -- metadata that is written has the same servers
    called_step : (t : Server) → present (τ.value t meta) t ≡ here T σ t
    called_step = upd_all eq_server σ.value s _ (λ t v. present (v meta) t ≡ here T σ t)
        (at_s (bool_cases (x.written meta))) (λ t _. I.staffed.called t)
      where
        at_s : (x.written meta ≡ true) ⊎ (x.written meta ≡ false)
            → present (cond (x.written meta) (cond (keeps s meta) (x.value_written meta) (σ.value s meta)) (σ.value s meta)) s ≡ here T σ s
        at_s (inl w) = rw (w, keeps_meta s) ((I.content c).same_servers w s ∙ D.aware meta w s)
        at_s (inr n) = rw n (I.staffed.called s)

    behind_step : (t : Server) (o : Obj) → τ.table t o ≤ σ.current o
    behind_step = upd_all eq_server σ.table s _ (λ t n. (o : Obj) → n o ≤ σ.current o)
        (λ o. at_s o (bool_cases (x.written o)) (bool_cases (in_tables T x o))) (λ t _. I.staffed.behind t)
      where
        at_s : (o : Obj) → (x.written o ≡ true) ⊎ (x.written o ≡ false) → (in_tables T x o ≡ true) ⊎ (in_tables T x o ≡ false)
            → cond (x.written o) (cond (in_tables T x o) (next_version T x o) (σ.table s o)) (σ.table s o) ≤ σ.current o
        at_s o (inl w) (inl b) = rw (w, b) (D.past o w).1
        at_s o (inl w) (inr n) = rw (w, n) (I.staffed.behind s o)
        at_s o (inr n) _ = rw n (I.staffed.behind s o)

    pub apply_inv : Inv T (after_apply T σ c s)
    apply_inv = record {
      content = upd_all eq_client σ.clients c x' (λ d y. Content T y) (I.content c) (λ d _. I.content d);
      course = upd_all eq_client σ.clients c x' (λ d y. Course T y)
          (record { unprepared = (I.course c).unprepared; unapplied = λ h. absurd (not_both hd h); all_prepared = (I.course c).all_prepared })
          (λ d _. I.course d);
      parts = upd_all eq_client σ.clients c x' (λ d y. after_commit y.phase ≡ true → Parts T y y.participant y.lowest)
          (I.parts c) (λ d _. I.parts d);
      reads = upd_all eq_client σ.clients c x' (λ d y. Reads T σ y) (I.reads c) (λ d _. I.reads d);
      kept = upd_all eq_client σ.clients c x' (λ d y. Kept T σ y) (λ h. absurd (not_both hd h)) (λ d _. I.kept d);
      due = upd_all eq_client σ.clients c x' (λ d y. is_decided y.phase ≡ true → Due T σ.current σ.history y)
          (λ _. record {
            past = D.past;
            seated = D.seated;
            aware = D.aware;
            at_home = D.at_home;
            due_newest = λ t o a. D.due_newest t o (was t a);
            due_outer = λ t o a. D.due_outer t o (was t a);
          })
          (λ d _. I.due d);
      apart = apart_upd T σ.clients c x'
          (λ d nd t hx. I.apart c d (λ q. nd (sym q)) t (hx.0, was t hx.1))
          (λ d nd t hy hx. I.apart d c nd t hy (hx.0, was t hx.1))
          I.apart;
      stored = stored_step;
      newest = newest_step;
      tables = tables_step;
      staffed = record { called = called_step; homed = I.staffed.homed; manned = I.staffed.manned; behind = behind_step };
      held = upd_all eq_client σ.clients c x' (λ d y. (t : Server) → y.prepared t ≡ true → here T σ t ≡ true) (I.held c) (λ d _. I.held d);
      replay = I.replay;
    }
