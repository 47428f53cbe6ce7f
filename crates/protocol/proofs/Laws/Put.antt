-- Where one client's transaction is replaced: the law of the steps that change nothing else.
use Rattle.std.specs.Prelude.{◌≡◌, true, false}
use Rattle.std.proofs.Common.{sym, subst, inl, inr}
use Rattle.base.specs.Test.{not_both}
use Rattle.base.specs.Update.{upd}
use Rattle.base.proofs.Laws.Update.{upd_other, upd_all}
use Rattle.protocol.specs.Setting.{Setting}
use Rattle.protocol.proofs.Laws.State.{after_commit}
use Rattle.protocol.specs.State.{is_decided, Transaction, State, put}
use Rattle.protocol.specs.System.{here, Holds, Apart, Parts}
use Rattle.protocol.proofs.Laws.Invariant.{Content, Course, Reads, Kept, Due, Pending, PendingInner, Newest, TableRight, Inv}

module _ (T : Setting) where
  open T use {Obj, Server, Client, eq_client}

  -- a transaction that stays as it is is still a witness
  pub still : (f : Client → Transaction T) (c : Client) (x : Transaction T) (P : Transaction T → Type 0) → (P (f c) → ⊥)
      → ((d : Client) × P (f d)) → (d : Client) × P (upd eq_client f c x d)
  still f c x P gone w = go (eq_client w.0 c)
    where
      go : Dec (w.0 ≡ c) → (d : Client) × P (upd eq_client f c x d)
      go (yes p) = absurd (gone (subst (λ d. P (f d)) p w.1))
      go (no q) = (w.0, subst P (sym (upd_other eq_client f c x w.0 q)) w.1)

  -- locks exclude each other, where both transactions hold theirs
  abbrev pub Exclude : Transaction T → Transaction T → Type 0
  Exclude x y = (s : Server) → Holds T x s → Holds T y s → Apart T x y s

  -- the same after one transaction has changed
  pub apart_upd : (f : Client → Transaction T) (c : Client) (x : Transaction T)
      → ((d : Client) → ¬ (d ≡ c) → Exclude x (f d)) → ((d : Client) → ¬ (d ≡ c) → Exclude (f d) x)
      → ((d e : Client) → ¬ (d ≡ e) → Exclude (f d) (f e))
      → (d e : Client) → ¬ (d ≡ e) → Exclude (upd eq_client f c x d) (upd eq_client f c x e)
  apart_upd f c x out into old =
      upd_all eq_client f c x (λ d y. (e : Client) → ¬ (d ≡ e) → Exclude y (upd eq_client f c x e))
      (λ e ne. subst (λ y. Exclude x y) (sym (upd_other eq_client f c x e (λ q. ne (sym q)))) (out e (λ q. ne (sym q))))
      (λ d nd. upd_all eq_client f c x (λ e y. ¬ (d ≡ e) → Exclude (f d) y) (λ _. into d nd) (λ e _ ne. old d e ne))

  -- one client's transaction becomes x, which is undecided, and nothing of it was pending
  pub record Replaced (σ : State T) (c : Client) (x : Transaction T) : Type 0 where
    pub none_pending : (s : Server) (o : Obj) → ¬ (Pending T (σ.clients c) s o)
    pub undecided : is_decided x.phase ≡ false
    pub content : Content T x
    pub course : Course T x
    pub parts : after_commit x.phase ≡ true → Parts T x x.participant x.lowest
    pub reads : Reads T σ x
    pub kept : Kept T σ x
    pub apart_out : (d : Client) → ¬ (d ≡ c) → Exclude x (σ.clients d)
    pub apart_into : (d : Client) → ¬ (d ≡ c) → Exclude (σ.clients d) x
    pub held : (s : Server) → x.prepared s ≡ true → here T σ s ≡ true

  pub put_inv : (σ : State T) → Inv T σ → (c : Client) (x : Transaction T) → Replaced σ c x → Inv T (put T σ c x)
  put_inv σ I c x R = record {
    content = upd_all eq_client σ.clients c x (λ d y. Content T y) R.content (λ d _. I.content d);
    course = upd_all eq_client σ.clients c x (λ d y. Course T y) R.course (λ d _. I.course d);
    parts = upd_all eq_client σ.clients c x (λ d y. after_commit y.phase ≡ true → Parts T y y.participant y.lowest)
        R.parts (λ d _. I.parts d);
    reads = upd_all eq_client σ.clients c x (λ d y. Reads T σ y) R.reads (λ d _. I.reads d);
    kept = upd_all eq_client σ.clients c x (λ d y. Kept T σ y) R.kept (λ d _. I.kept d);
    due = upd_all eq_client σ.clients c x (λ d y. is_decided y.phase ≡ true → Due T σ.current σ.history y)
        (λ h. absurd (not_both h R.undecided)) (λ d _. I.due d);
    apart = apart_upd σ.clients c x R.apart_out R.apart_into I.apart;
    stored = I.stored;
    newest = λ s o h k. newest_still s o (I.newest s o h k);
    tables = λ s o h. table_still s o (I.tables s o h);
    staffed = I.staffed;
    held = upd_all eq_client σ.clients c x (λ d y. (s : Server) → y.prepared s ≡ true → here T σ s ≡ true) R.held (λ d _. I.held d);
    replay = I.replay;
  }
    where
      newest_still : (s : Server) (o : Obj) → Newest T σ s o → Newest T (put T σ c x) s o
      newest_still s o (inl e) = inl e
      newest_still s o (inr w) = inr (still σ.clients c x (λ y. Pending T y s o) (R.none_pending s o) w)

      table_still : (s : Server) (o : Obj) → TableRight T σ s o → TableRight T (put T σ c x) s o
      table_still s o (inl t) = inl t
      table_still s o (inr w) = inr (still σ.clients c x (λ y. PendingInner T y s o) (λ p. R.none_pending s o p.0) w)
