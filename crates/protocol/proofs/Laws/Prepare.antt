-- A prepare keeps the invariant: what it checks is current, and stays so until the decision.
use Rattle.std.specs.Prelude.{◌≡◌, true, false, ◌<◌}
use Rattle.std.proofs.Common.{ap, sym, ◌∙◌, subst, inl, inr, arith}
use Rattle.std.proofs.Math.Decide.{dec_lt}
use Rattle.base.specs.Test.{not_both}
use Rattle.base.proofs.Laws.Update.{upd_other}
use Rattle.protocol.specs.Setting.{Setting}
use Rattle.protocol.proofs.Laws.State.{after_commit}
use Rattle.protocol.specs.State.{is_decided, Transaction, State, preparing, put}
use Rattle.protocol.specs.System.{here, Holds, Checked, ReadLock, Apart, CanPrepare}
use Rattle.protocol.proofs.Laws.Invariant.{OuterSince, Pending, Newest, TableRight, Inv}
use Rattle.protocol.proofs.Laws.Put.{put_inv}
use Rattle.protocol.proofs.Laws.Working.{none_pending}
use Rattle.protocol.proofs.Laws.Locked.{pending_holds}

module _ (T : Setting) where
  open T use {Obj, Server, Client, eq_server, keeps, keeps_home, inner}

  module _ (σ : State T) (I : Inv T σ) (c : Client) (s : Server) (K : CanPrepare T σ c s) where
    abbrev x : Transaction T
    x = σ.clients c

    undecided : is_decided x.phase ≡ false
    undecided = ap is_decided K.phase

    -- s calls itself not absent, and so it is
    is_here : here T σ s ≡ true
    is_here = sym (I.staffed.called s) ∙ K.not_absent

    -- a write of another client that is pending at s is in the way of a lock
    in_the_way : (o : Obj) (d : Client) → Pending T (σ.clients d) s o → ReadLock T x s o → ⊥
    in_the_way o d p r = (K.unlocked d another (pending_holds T σ I d s o p)).1 o (p.2, p.3) (inr r)
      where
        another : ¬ (d ≡ c)
        another e = not_both p.0 (subst (λ a. is_decided (σ.clients a).phase ≡ false) (sym e) undecided)

    -- What the checks at s pass is current. By the table: nothing was inner since its version, and what was read at that version is inner.
    by_table : (o : Obj) → x.read o ≡ true → inner o (x.value_read o) ≡ true → σ.table s o ≡ x.version_read o
        → OuterSince T σ.current σ.history o (σ.table s o) → σ.current o ≡ x.version_read o
    by_table o hr hi same out = go (dec_lt (σ.table s o) (σ.current o))
      where
        is_inner : inner o (σ.history o (σ.table s o)) ≡ true
        is_inner = subst (λ n. inner o (σ.history o n) ≡ true) (sym same) (subst (λ v. inner o v ≡ true) (I.reads c o hr).0 hi)

        go : Dec (σ.table s o < σ.current o) → σ.current o ≡ x.version_read o
        go (yes lt) = absurd (not_both is_inner (out.none (σ.table s o) (omega arith) lt).0)
        go (no ge) = omega (arith, same, out.upto)

    current : (o : Obj) → x.read o ≡ true → Checked T x s o → σ.current o ≡ x.version_read o
    current o hr (inl q) = go (I.tables s o is_here)
      where
        go : TableRight T σ s o → σ.current o ≡ x.version_read o
        go (inl out) = by_table o hr q.0 (K.checks.by_table o hr q.0 q.1) out
        go (inr w) = absurd (in_the_way o w.0 w.1.0 (hr, inl q))
    current o hr (inr q) = go (I.newest s o (subst (λ t. keeps t o ≡ true) (sym q.1) (keeps_home o)) (inl is_here))
      where
        go : Newest T σ s o → σ.current o ≡ x.version_read o
        go (inl e) = sym e ∙ K.checks.at_home o hr q.0 q.1
        go (inr w) = absurd (in_the_way o w.0 w.1 (hr, inr q))

    pub prepare_inv : Inv T (put T σ c (preparing T (σ.clients c) s))
    prepare_inv =
        put_inv T σ I c x' (record {
          none_pending = none_pending T x undecided;
          undecided = undecided;
          content = I.content c;
          course = record {
            unprepared = λ h. absurd (not_both (ap after_commit K.phase) h);
            unapplied = (I.course c).unapplied;
            all_prepared = λ h. absurd (not_both h undecided);
          };
          parts = I.parts c;
          reads = I.reads c;
          kept = λ _ t o ht hr hc. kept t o ht hr hc (eq_server t s);
          apart_out = λ d nd t hx hd. out d nd t (eq_server t s) hx hd;
          apart_into = λ d nd t hd hx. into d nd t (eq_server t s) hd hx;
          held = λ t h. held t h (eq_server t s);
        })
      where
        x' : Transaction T
        x' = preparing T x s

        before : (t : Server) → ¬ (t ≡ s) → x'.prepared t ≡ true → x.prepared t ≡ true
        before t ne h = sym (upd_other eq_server x.prepared s true t ne) ∙ h

        held : (t : Server) → x'.prepared t ≡ true → Dec (t ≡ s) → here T σ t ≡ true
        held t h (yes e) = subst (λ t. here T σ t ≡ true) (sym e) is_here
        held t h (no ne) = I.held c t (before t ne h)

        kept : (t : Server) (o : Obj) → x'.prepared t ≡ true → x.read o ≡ true → Checked T x t o → Dec (t ≡ s) → σ.current o ≡ x.version_read o
        kept t o ht hr hc (yes e) = current o hr (subst (λ t. Checked T x t o) e hc)
        kept t o ht hr hc (no ne) = I.kept c undecided t o (before t ne ht) hr hc

        out : (d : Client) → ¬ (d ≡ c) → (t : Server) → Dec (t ≡ s) → Holds T x' t → Holds T (σ.clients d) t → Apart T x (σ.clients d) t
        out d nd t (yes e) hx hd = subst (Apart T x (σ.clients d)) (sym e) (K.unlocked d nd (subst (Holds T (σ.clients d)) e hd)).0
        out d nd t (no ne) hx hd = I.apart c d (λ q. nd (sym q)) t (before t ne hx.0, hx.1) hd

        into : (d : Client) → ¬ (d ≡ c) → (t : Server) → Dec (t ≡ s) → Holds T (σ.clients d) t → Holds T x' t → Apart T (σ.clients d) x t
        into d nd t (yes e) hd hx = subst (Apart T (σ.clients d) x) (sym e) (K.unlocked d nd (subst (Holds T (σ.clients d)) e hd)).1
        into d nd t (no ne) hd hx = I.apart d c nd t hd (before t ne hx.0, hx.1)
