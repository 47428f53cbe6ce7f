-- The steps of a transaction before its first prepare keep the invariant: begin, read, answer, commit, and the stamp, which may come later.
use Rattle.std.specs.Prelude.{◌≡◌, refl, Bool, true, false, cond, ◌∷◌, ◌⊎◌, ℕ, ◌≤◌}
use Rattle.std.proofs.Common.{ap, sym, ◌∙◌, subst, true≢false, inr, arith}
use Rattle.std.proofs.lemmas.Bool.{false≢true}
use Rattle.std.proofs.Math.Logic.{inl}
use Rattle.base.proofs.Laws.Test.{bool_cases, cond_true, cond_false, or_right, or_cases}
use Rattle.base.specs.Test.{not_both}
use Rattle.base.proofs.Laws.Update.{upd_same, upd_other}
use Rattle.plans.specs.Plan.{gives, exec, Asked}
use Rattle.plans.proofs.Laws.Plan.{exec_frame}
use Rattle.protocol.specs.Setting.{Setting}
use Rattle.protocol.specs.Writes.{writes?, latest}
use Rattle.protocol.proofs.Laws.Writes.{latest_cond}
use Rattle.protocol.specs.State.{Phase, opened, committing, is_decided, Entry, Transaction, State, view, fresh, reading, answering, stamping, with_parts, put}
use Rattle.protocol.proofs.Laws.State.{after_commit}
use Rattle.protocol.specs.System.{Checked, Parts, Stamp}
use Rattle.protocol.specs.Replay.{effect, Answers, Uncompared}
use Rattle.protocol.proofs.Laws.Invariant.{Content, Course, Reads, Pending, Inv}
use Rattle.protocol.proofs.Laws.Put.{put_inv}

module _ (T : Setting) where
  open T use {Obj, Server, Client, Val, eq_obj, inner, by_value_outer, plan, writes, public, compared, asks_outer, writes_asked}
  open T use {meta, present, writes_know, servers_stay}

  -- an undecided transaction has nothing pending
  pub none_pending : (x : Transaction T) → is_decided x.phase ≡ false → (s : Server) (o : Obj) → ¬ (Pending T x s o)
  none_pending x h s o p = not_both p.0 h

  -- of a transaction that has prepared nowhere, what was read need not be current, and it holds no locks
  pub calm_inv : (σ : State T) → Inv T σ → (c : Client) (x : Transaction T)
      → ((s : Server) (o : Obj) → ¬ (Pending T (σ.clients c) s o))
      → is_decided x.phase ≡ false → ((s : Server) → x.prepared s ≡ false)
      → Content T x → Course T x → (after_commit x.phase ≡ true → Parts T x x.participant x.lowest) → Reads T σ x
      → Inv T (put T σ c x)
  calm_inv σ I c x np nd un ct cs ps r = put_inv T σ I c x (record {
    none_pending = np;
    undecided = nd;
    content = ct;
    course = cs;
    parts = ps;
    reads = r;
    kept = λ _ s o p. absurd (not_both p (un s));
    apart_out = λ d _ s hx. absurd (not_both hx.0 (un s));
    apart_into = λ d _ s hd hx. absurd (not_both hx.0 (un s));
    held = λ s h. absurd (not_both h (un s));
  })

  pub fresh_content : (p : Phase) → Content T (fresh T p)
  unfolding Answers effect Uncompared
  fresh_content p = record { written_read = λ o h. absurd (false≢true h); knows = λ o h. absurd (false≢true h); same_servers = λ h. absurd (false≢true h); explained = λ M _. (tt, λ o. refl); outer_seen = inl tt }

  pub fresh_course : (p : Phase) → is_decided p ≡ false → Course T (fresh T p)
  fresh_course p hd = record { unprepared = λ _ s. refl; unapplied = λ _ s. refl; all_prepared = λ h. absurd (not_both h hd) }

  -- begin, end and abort: the transaction is a new one, or none
  pub fresh_inv : (σ : State T) → Inv T σ → (c : Client) (p : Phase) → after_commit p ≡ false → is_decided p ≡ false
      → ((s : Server) (o : Obj) → ¬ (Pending T (σ.clients c) s o)) → Inv T (put T σ c (fresh T p))
  fresh_inv σ I c p hl hd np =
      calm_inv σ I c (fresh T p) np hd (λ s. refl) (fresh_content p) (fresh_course p hd) (λ h. absurd (not_both h hl)) (λ o h. absurd (false≢true h))

  module _ (σ : State T) (I : Inv T σ) (c : Client) where
    abbrev x : Transaction T
    x = σ.clients c

    -- a change of the sets of a transaction that works
    sets_inv : (y : Transaction T) → x.phase ≡ opened → y.phase ≡ opened → ((s : Server) → y.prepared s ≡ x.prepared s)
        → Content T y → Course T y → Reads T σ y → Inv T (put T σ c y)
    sets_inv y hp hy same ct cs r =
        calm_inv σ I c y (none_pending x (ap is_decided hp)) (ap is_decided hy) (λ s. same s ∙ (I.course c).unprepared (ap after_commit hp) s) ct cs
        (λ h. absurd (not_both h (ap after_commit hy))) r

    pub read_inv : (o : Obj) (n : ℕ) → (σ.clients c).phase ≡ opened → (σ.clients c).read o ≡ false → n ≤ σ.current o
        → Inv T (put T σ c (reading T (σ.clients c) o (σ.history o n) n))
    read_inv o n hp hr hn = sets_inv x' hp hp (λ s. refl) content (I.course c) reads
      where
        x' : Transaction T
        x' = reading T x o (σ.history o n) n

        -- what was read before stays
        other : (k : Obj) → x.read k ≡ true → ¬ (k ≡ o)
        other k h e = not_both h (subst (λ m. x.read m ≡ false) (sym e) hr)

        read_old : (k : Obj) → x.read k ≡ true → x'.read k ≡ true
        read_old k h = upd_other eq_obj x.read o true k (other k h) ∙ h

        value_old : (k : Obj) → x.read k ≡ true → x'.value_read k ≡ x.value_read k
        value_old k h = upd_other eq_obj x.value_read o (σ.history o n) k (other k h)

        seen : Uncompared T x.trace ⊎ ((k : Obj) × (x.read k ≡ true) × ((inner k (x.value_read k) ≡ false) ⊎ (x.written k ≡ true)))
            → Uncompared T x.trace ⊎ ((k : Obj) × (x'.read k ≡ true) × ((inner k (x'.value_read k) ≡ false) ⊎ (x.written k ≡ true)))
        seen (inl q) = inl q
        seen (inr w) = inr (
          w.0,
          read_old w.0 w.1,
          subst (λ v. (inner w.0 v ≡ false) ⊎ (x.written w.0 ≡ true)) (sym (value_old w.0 w.1)) w.2,
        )

        content : Content T x'
        content = record {
          written_read = λ k h. read_old k ((I.content c).written_read k h);
          knows = λ k h. read_old meta ((I.content c).knows k h);
          same_servers = λ h s. (I.content c).same_servers h s ∙ ap (λ v. present v s) (sym (value_old meta ((I.content c).written_read meta h)));
          explained = λ M agree. (I.content c).explained M (λ k h. agree k (read_old k h) ∙ value_old k h);
          outer_seen = seen (I.content c).outer_seen;
        }

        Past : Obj → Val → ℕ → Type 0
        Past k v m = (v ≡ σ.history k m) × (m ≤ σ.current k)

        reads : Reads T σ x'
        reads k h = go (eq_obj k o)
          where
            go : Dec (k ≡ o) → Past k (x'.value_read k) (x'.version_read k)
            go (yes e) = subst (λ m. Past m (x'.value_read m) (x'.version_read m)) (sym e) (
              upd_same eq_obj x.value_read o (σ.history o n) ∙ ap (σ.history o) (sym (upd_same eq_obj x.version_read o n)),
              subst (λ m. m ≤ σ.current o) (sym (upd_same eq_obj x.version_read o n)) hn,
            )
            go (no e) =
                let old : x.read k ≡ true = sym (upd_other eq_obj x.read o true k e) ∙ h in
                let same : x'.version_read k ≡ x.version_read k = upd_other eq_obj x.version_read o n k e in (
                  value_old k old ∙ (I.reads c k old).0 ∙ ap (σ.history k) (sym same),
                  subst (λ m. m ≤ σ.current k) (sym same) (I.reads c k old).1,
                )

    pub answer_inv : (e : Entry T) → (σ.clients c).phase ≡ opened
        → Asked (plan e.op) (σ.clients c).read (view T (σ.clients c))
        → exec (plan e.op) (view T (σ.clients c)) ≡ gives e.result
        → Inv T (put T σ c (answering T (σ.clients c) e))
    unfolding Answers effect Uncompared
    answer_inv e hp asked ran = sets_inv x' hp hp (λ s. refl) content (I.course c) (I.reads c)
      where
        x' : Transaction T
        x' = answering T x e

        wrote : Obj → Bool
        wrote = writes? eq_obj (writes e.result)

        was_read : (o : Obj) → (wrote o ≡ true) ⊎ (x.written o ≡ true) → x.read o ≡ true
        was_read o (inl h) = writes_asked e.op x.read (view T x) e.result asked ran o h
        was_read o (inr h) = (I.content c).written_read o h

        knew : (o : Obj) → (wrote o ≡ true) ⊎ (x.written o ≡ true) → x.read meta ≡ true
        knew o (inl h) = writes_know e.op x.read (view T x) e.result asked ran o h
        knew o (inr h) = (I.content c).knows o h

        -- an operation leaves the servers as it sees them, and so did those before it
        same : x'.written meta ≡ true → (s : Server) → (x.written meta ≡ true) ⊎ (x.written meta ≡ false)
            → present (x'.value_written meta) s ≡ present (x.value_read meta) s
        same h s b = ap (λ v. present v s)
            (sym (latest_cond eq_obj (writes e.result) meta (x.written meta) (x.value_written meta) (x.value_read meta) ∙ cond_true _ _ h))
            ∙ servers_stay e.op (view T x) e.result ran s ∙ before b
          where
            before : (x.written meta ≡ true) ⊎ (x.written meta ≡ false) → present (view T x meta) s ≡ present (x.value_read meta) s
            before (inl w) = ap (λ v. present v s) (cond_true (x.value_written meta) (x.value_read meta) w) ∙ (I.content c).same_servers w s
            before (inr w) = ap (λ v. present v s) (cond_false (x.value_written meta) (x.value_read meta) w)

        -- the plan asks only for what was read, so it has its result on every snapshot that agrees with that
        explained : (M : Obj → Val) → ((o : Obj) → x.read o ≡ true → M o ≡ x.value_read o)
            → Answers T (e ∷ x.trace) M × ((o : Obj) → effect T (e ∷ x.trace) M o ≡ cond (x'.written o) (x'.value_written o) (M o))
        explained M agree =
            let old = (I.content c).explained M agree in (
              (
                old.0,
                sym (exec_frame (plan e.op) x.read (view T x) (effect T x.trace M)
                    (λ o h. ap (cond (x.written o) (x.value_written o)) (sym (agree o h)) ∙ sym (old.1 o)) asked) ∙ ran,
              ),
              λ o. ap (latest eq_obj (writes e.result) o) (old.1 o)
                  ∙ latest_cond eq_obj (writes e.result) o (x.written o) (x.value_written o) (M o),
            )

        OuterSeen : Type 0
        OuterSeen = Uncompared T (e ∷ x.trace) ⊎ ((o : Obj) × (x.read o ≡ true) × ((inner o (x.value_read o) ≡ false) ⊎ (x'.written o ≡ true)))

        from_outer : (o : Obj) → x.read o ≡ true → inner o (view T x o) ≡ false → (x.written o ≡ true) ⊎ (x.written o ≡ false) → OuterSeen
        from_outer o hr hi (inl w) = inr (o, hr, inr (or_right (wrote o) (x.written o) w))
        from_outer o hr hi (inr w) = inr (o, hr, inl (subst (λ v. inner o v ≡ false) (cond_false (x.value_written o) (x.value_read o) w) hi))

        seen : (compared (public e.op) ≡ true) ⊎ (compared (public e.op) ≡ false)
            → Uncompared T x.trace ⊎ ((o : Obj) × (x.read o ≡ true) × ((inner o (x.value_read o) ≡ false) ⊎ (x.written o ≡ true))) → OuterSeen
        seen (inl k) _ =
            let w = asks_outer e.op x.read (view T x) e.result k asked ran in
            from_outer w.0 w.1 w.2 (bool_cases (x.written w.0))
        seen (inr k) (inl q) = inl (q, k)
        seen (inr k) (inr (o, hr, inl h)) = inr (o, hr, inl h)
        seen (inr k) (inr (o, hr, inr h)) = inr (o, hr, inr (or_right (wrote o) (x.written o) h))

        content : Content T x'
        content = record {
          written_read = λ o h. was_read o (or_cases (wrote o) (x.written o) h);
          knows = λ o h. knew o (or_cases (wrote o) (x.written o) h);
          same_servers = λ h s. same h s (bool_cases (x.written meta));
          explained = explained;
          outer_seen = seen (bool_cases (compared (public e.op))) (I.content c).outer_seen;
        }

    pub commit_inv : (p : Server → Bool) (l : Server) → (σ.clients c).phase ≡ opened → Parts T (σ.clients c) p l
        → Inv T (put T σ c (with_parts T (σ.clients c) p l))
    commit_inv p l hp P =
        calm_inv σ I c (with_parts T x p l) (none_pending x (ap is_decided hp)) refl ((I.course c).unprepared (ap after_commit hp)) (I.content c)
        (record {
          unprepared = λ h. absurd (true≢false h);
          unapplied = λ _. (I.course c).unapplied (ap is_decided hp);
          all_prepared = λ h. absurd (false≢true h);
        })
        (λ _. P) (I.reads c)

    -- a stamp at an object checked by value: it was checked nowhere yet, so nothing is claimed of its version but that it was once so
    pub stamp_inv : (n : Obj → ℕ) → (σ.clients c).phase ≡ committing → ((o : Obj) → Stamp T σ (σ.clients c) o (n o))
        → Inv T (put T σ c (stamping T (σ.clients c) n))
    stamp_inv n hp st =
        put_inv T σ I c (stamping T x n) (record {
          none_pending = none_pending x hd;
          undecided = hd;
          content = I.content c;
          course = I.course c;
          parts = I.parts c;
          reads = λ o h. past o h (st o);
          kept = λ _ s o hs hr hc. current s o hs hr (st o) hc;
          apart_out = λ d nd. I.apart c d (λ q. nd (sym q));
          apart_into = λ d nd. I.apart d c nd;
          held = I.held c;
        })
      where
        hd : is_decided x.phase ≡ false
        hd = ap is_decided hp

        past : (o : Obj) → x.read o ≡ true → Stamp T σ x o (n o) → (x.value_read o ≡ σ.history o (n o)) × (n o ≤ σ.current o)
        past o h (inl e) = ((I.reads c o h).0 ∙ ap (σ.history o) (sym e), omega (arith, e, (I.reads c o h).1))
        past o h (inr q) = (q.2, q.3)

        current : (s : Server) (o : Obj) → x.prepared s ≡ true → x.read o ≡ true → Stamp T σ x o (n o) → Checked T x s o → σ.current o ≡ n o
        current s o hs hr (inl e) q = I.kept c hd s o hs hr q ∙ sym e
        current s o hs hr (inr p) (inl q) = absurd (not_both q.0 (by_value_outer o p.0 (x.value_read o)))
        current s o hs hr (inr p) (inr q) = absurd (not_both (subst (λ s. x.prepared s ≡ true) q.1 hs) p.1)
