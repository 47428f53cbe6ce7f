-- What a decision does to versions and histories: what was read is current, so each written object gets one version more, and no older
-- entry of its history changes. An old copy therefore stays something that the object once was.
use Rattle.std.specs.Prelude.{◌≡◌, refl, true, false, cond, ◌⊎◌, ℕ, suc, ◌≤◌, ◌<◌}
use Rattle.std.proofs.Common.{ap, sym, ◌∙◌, subst, inl, inr, arith}
use Rattle.std.proofs.Math.Decide.{ℕ_discrete, dec_lt}
use Rattle.base.proofs.Laws.Test.{bool_cases, cond_true, cond_false, or_neither}
use Rattle.base.specs.Test.{not_both}
use Rattle.base.specs.Update.{upd}
use Rattle.base.proofs.Laws.Update.{upd_same, upd_other}
use Rattle.protocol.specs.Setting.{Setting}
use Rattle.protocol.specs.State.{committing, is_decided, Transaction, State}
use Rattle.protocol.proofs.Laws.State.{after_commit}
use Rattle.protocol.specs.System.{here, there, Homeless, inner_before_after, after_decision, Parts}
use Rattle.protocol.specs.Replay.{snapshot}
use Rattle.protocol.proofs.Laws.Invariant.{Reads, Seated, OuterSince, Inv}
use Rattle.protocol.proofs.Laws.Locked.{writer_part}

module _ (T : Setting) where
  open T use {Obj, Server, Client, Val, home, inner, meta, meta_inner, present}

  module _ (σ : State T) (I : Inv T σ) (c : Client) (hp : (σ.clients c).phase ≡ committing) (ready : (s : Server) → (σ.clients c).participant s ≡ true → (σ.clients c).prepared s ≡ true) where
    abbrev x : Transaction T
    x = σ.clients c

    abbrev τ : State T
    τ = after_decision T σ c

    undecided : is_decided x.phase ≡ false
    undecided = ap is_decided hp

    parts : Parts T x x.participant x.lowest
    parts = I.parts c (ap after_commit hp)

    -- what was read as inner is current where the lowest participant has prepared, so the transaction is not lost
    inner_now : (o : Obj) → x.participant x.lowest ≡ true → x.read o ≡ true → inner o (x.value_read o) ≡ true → σ.current o ≡ x.version_read o
    inner_now o p hr i = I.kept c undecided x.lowest o (ready x.lowest p) hr (inl (i, inl refl))

    value_now : (o : Obj) → x.participant x.lowest ≡ true → x.read o ≡ true → inner o (x.value_read o) ≡ true → x.value_read o ≡ snapshot T σ o
    value_now o p hr i = (I.reads c o hr).0 ∙ ap (σ.history o) (sym (inner_now o p hr i))

    pub homes_now : Seated T (σ.clients c)
    homes_now o hr n = go (parts.homes o hr n)
      where
        go : (x.participant (home o) ≡ true) ⊎ Homeless T x.read (λ o. inner o (x.value_read o)) (there T x) x.participant x.lowest
            → x.participant (home o) ≡ true
        go (inl p) = p
        go (inr (p, hm, (q, hq, i, ne, out))) = absurd (not_both
            (I.staffed.homed q ne (subst (λ v. inner q v ≡ true) (value_now q p hq i) i))
            (sym (ap (λ v. present v (home q)) (value_now meta p hm (meta_inner (x.value_read meta)))) ∙ out))

    -- what was read is current: an outer object was checked at its home, an inner one at the lowest participant
    pub read_now : (o : Obj) → (σ.clients c).read o ≡ true
        → ((σ.clients c).participant (σ.clients c).lowest ≡ true) ⊎ (inner o ((σ.clients c).value_read o) ≡ false)
        → σ.current o ≡ (σ.clients c).version_read o
    read_now o hr h = go h (bool_cases (inner o (x.value_read o)))
      where
        go : (x.participant x.lowest ≡ true) ⊎ (inner o (x.value_read o) ≡ false)
            → (inner o (x.value_read o) ≡ true) ⊎ (inner o (x.value_read o) ≡ false) → σ.current o ≡ x.version_read o
        go _ (inr n) = I.kept c undecided (home o) o (ready (home o) (homes_now o hr n)) hr (inr (n, refl))
        go (inl p) (inl i) = inner_now o p hr i
        go (inr n) (inl i) = absurd (not_both i n)

    -- who writes has a participant
    pub lowest_part : (o : Obj) → (σ.clients c).written o ≡ true → (σ.clients c).participant (σ.clients c).lowest ≡ true
    lowest_part = writer_part T σ x (I.content c) parts (I.reads c) I.staffed

    pub written_now : (o : Obj) → (σ.clients c).written o ≡ true → σ.current o ≡ (σ.clients c).version_read o
    written_now o w = go (bool_cases (inner o (x.value_read o)))
      where
        was_read : x.read o ≡ true
        was_read = (I.content c).written_read o w

        go : (inner o (x.value_read o) ≡ true) ⊎ (inner o (x.value_read o) ≡ false) → σ.current o ≡ x.version_read o
        go (inl i) = read_now o was_read (inl (lowest_part o w))
        go (inr n) = read_now o was_read (inr n)

    -- the version and the history of a written object, and of another
    pub current_written : (o : Obj) → (σ.clients c).written o ≡ true → (after_decision T σ c).current o ≡ suc ((σ.clients c).version_read o)
    current_written o h = cond_true (suc (x.version_read o)) (σ.current o) h

    pub current_else : (o : Obj) → (σ.clients c).written o ≡ false → (after_decision T σ c).current o ≡ σ.current o
    current_else o h = cond_false (suc (x.version_read o)) (σ.current o) h

    abbrev longer : Obj → ℕ → Val
    longer o = upd ℕ_discrete (σ.history o) (suc (x.version_read o)) (x.value_written o)

    pub history_new : (o : Obj) → (σ.clients c).written o ≡ true
        → (after_decision T σ c).history o (suc ((σ.clients c).version_read o)) ≡ (σ.clients c).value_written o
    history_new o h = ap (λ f. f (suc (x.version_read o))) (cond_true (longer o) (σ.history o) h)
        ∙ upd_same ℕ_discrete (σ.history o) (suc (x.version_read o)) (x.value_written o)

    pub current_le : (o : Obj) → σ.current o ≤ (after_decision T σ c).current o
    current_le o = go (bool_cases (x.written o))
      where
        go : (x.written o ≡ true) ⊎ (x.written o ≡ false) → σ.current o ≤ τ.current o
        go (inl h) = omega (arith, current_written o h, written_now o h)
        go (inr h) = omega (arith, current_else o h)

    pub history_old : (o : Obj) (n : ℕ) → n ≤ σ.current o → (after_decision T σ c).history o n ≡ σ.history o n
    history_old o n le = go (bool_cases (x.written o))
      where
        go : (x.written o ≡ true) ⊎ (x.written o ≡ false) → τ.history o n ≡ σ.history o n
        go (inl h) = ap (λ f. f n) (cond_true (longer o) (σ.history o) h)
            ∙ upd_other ℕ_discrete (σ.history o) (suc (x.version_read o)) (x.value_written o) n (λ e. omega (arith, written_now o h))
        go (inr h) = ap (λ f. f n) (cond_false (longer o) (σ.history o) h)

    -- so what was read stays something that was once so
    pub reads_step : (y : Transaction T) → Reads T σ y → Reads T (after_decision T σ c) y
    reads_step y r o h = ((r o h).0 ∙ sym (history_old o (y.version_read o) (r o h).1), omega (arith, (r o h).1, current_le o))

    -- the snapshot takes the writes
    pub snapshot_step : (o : Obj) → snapshot T (after_decision T σ c) o
        ≡ cond ((σ.clients c).written o) ((σ.clients c).value_written o) (snapshot T σ o)
    snapshot_step o = go (bool_cases (x.written o))
      where
        go : (x.written o ≡ true) ⊎ (x.written o ≡ false) → snapshot T τ o ≡ cond (x.written o) (x.value_written o) (snapshot T σ o)
        go (inl h) = ap (τ.history o) (current_written o h) ∙ history_new o h ∙ sym (cond_true (x.value_written o) (snapshot T σ o) h)
        go (inr h) = ap (τ.history o) (current_else o h) ∙ ap (λ f. f (σ.current o)) (cond_false (longer o) (σ.history o) h)
            ∙ sym (cond_false (x.value_written o) (snapshot T σ o) h)

    -- the servers that a writer knows are those that are there, since it has read the metadata, which was checked with the rest
    pub view_now : (o : Obj) → (σ.clients c).written o ≡ true → (s : Server) → there T (σ.clients c) s ≡ here T σ s
    view_now o w s =
        let known = (I.content c).knows o w in
        ap (λ v. present v s) ((I.reads c meta known).0 ∙ ap (σ.history meta) (sym (read_now meta known (inl (lowest_part o w)))))

    -- and the decision leaves them
    pub here_step : (s : Server) → here T (after_decision T σ c) s ≡ here T σ s
    here_step s = ap (λ v. present v s) (snapshot_step meta) ∙ go (bool_cases (x.written meta))
      where
        go : (x.written meta ≡ true) ⊎ (x.written meta ≡ false)
            → present (cond (x.written meta) (x.value_written meta) (snapshot T σ meta)) s ≡ here T σ s
        go (inl w) = rw w ((I.content c).same_servers w s ∙ view_now meta w s)
        go (inr w) = rw w refl

    -- what is written has its home there: if it was outer, that has prepared; if it was inner, it lived there
    pub home_here : (o : Obj) → ¬ (o ≡ meta) → (σ.clients c).written o ≡ true → here T σ (home o) ≡ true
    home_here o ne w = go (bool_cases (inner o (x.value_read o)))
      where
        was_read : x.read o ≡ true
        was_read = (I.content c).written_read o w

        go : (inner o (x.value_read o) ≡ true) ⊎ (inner o (x.value_read o) ≡ false) → here T σ (home o) ≡ true
        go (inl i) = I.staffed.homed o ne
            (subst (λ v. inner o v ≡ true) ((I.reads c o was_read).0 ∙ ap (σ.history o) (sym (written_now o w))) i)
        go (inr n) = I.held c (home o) (ready (home o) (homes_now o was_read n))

    -- a write that is not inner before or after leaves an object that was outer since n outer since n
    pub outer_step : (o : Obj) (n : ℕ) → ((σ.clients c).written o ≡ true → inner_before_after T (σ.clients c) o ≡ false)
        → OuterSince T σ.current σ.history o n → OuterSince T (after_decision T σ c).current (after_decision T σ c).history o n
    outer_step o n nb out = record {
      upto = omega (arith, out.upto, current_le o);
      none = λ w lo hi. go w lo hi (dec_lt w (σ.current o)) (bool_cases (x.written o));
    }
      where
        Outer : ℕ → Type 0
        Outer w = (inner o (τ.history o w) ≡ false) × (inner o (τ.history o (suc w)) ≡ false)

        last : (w : ℕ) → x.written o ≡ true → w ≡ x.version_read o → Outer w
        last w h e =
            let both = or_neither (inner o (x.value_read o)) (inner o (x.value_written o)) (nb h) in
            let was_read = I.reads c o ((I.content c).written_read o h) in
            subst Outer (sym e) (
              ap (inner o) (history_old o (x.version_read o) was_read.1 ∙ sym was_read.0) ∙ both.0,
              ap (inner o) (history_new o h) ∙ both.1,
            )

        go : (w : ℕ) → n ≤ w → w < τ.current o → Dec (w < σ.current o) → (x.written o ≡ true) ⊎ (x.written o ≡ false) → Outer w
        go w lo hi (yes lt) _ = (
          ap (inner o) (history_old o w (omega arith)) ∙ (out.none w lo lt).0,
          ap (inner o) (history_old o (suc w) lt) ∙ (out.none w lo lt).1,
        )
        go w lo hi (no ge) (inl h) = last w h (omega (arith, current_written o h, written_now o h))
        go w lo hi (no ge) (inr h) = absurd (omega (arith, current_else o h))
