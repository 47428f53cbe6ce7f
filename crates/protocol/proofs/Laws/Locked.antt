-- Where the locks of a transaction's writes are: at participants, and wherever the object is kept; so a pending write holds its lock.
use Rattle.std.specs.Prelude.{◌≡◌, refl, true, false, ◌⊎◌}
use Rattle.std.proofs.Common.{sym, subst, inl, inr}
use Rattle.base.proofs.Laws.Test.{bool_cases, or_left, or_neither}
use Rattle.base.specs.Test.{not_both}
use Rattle.protocol.specs.Setting.{Setting}
use Rattle.protocol.specs.State.{Phase, idle, opened, committing, decided, is_decided, Transaction, State}
use Rattle.protocol.proofs.Laws.State.{after_commit}
use Rattle.protocol.specs.System.{there, Homeless, inner_before_after, Holds, LockedAt, WriteLock, Parts}
use Rattle.protocol.proofs.Laws.Invariant.{Content, Reads, Seated, Pending, Staffed, Inv}

pub decided_committed : (p : Phase) → is_decided p ≡ true → after_commit p ≡ true
decided_committed idle h = h
decided_committed opened h = h
decided_committed committing h = refl
decided_committed decided h = refl

module _ (T : Setting) where
  open T use {Obj, Server, Client, Val, home, keeps, keeps_where, inner, meta, meta_inner, present}

  -- a server that is there, where a write is locked, is a participant
  pub locked_part : (x : Transaction T) → Content T x → Parts T x x.participant x.lowest → Seated T x
      → (s : Server) (o : Obj) → WriteLock T x s o → there T x s ≡ true → x.participant s ≡ true
  locked_part x ct P H s o w a = go w.1 (bool_cases (inner_before_after T x o))
    where
      go : LockedAt T x s o → (inner_before_after T x o ≡ true) ⊎ (inner_before_after T x o ≡ false) → x.participant s ≡ true
      go _ (inl b) = P.everywhere o s w.0 b a
      go (inr b) (inr n) = P.everywhere o s w.0 b a
      go (inl e) (inr n) = subst (λ t. x.participant t ≡ true) (sym e)
          (H o (ct.written_read o w.0) (or_neither (inner o (x.value_read o)) (inner o (x.value_written o)) n).0)

  -- a server that keeps a written object is one where the write is locked
  pub kept_locked : (x : Transaction T) (s : Server) (o : Obj) → keeps s o ≡ true → LockedAt T x s o
  kept_locked x s o h = go (keeps_where s o h)
    where
      go : (s ≡ home o) ⊎ (o ≡ meta) → LockedAt T x s o
      go (inl e) = inl e
      go (inr e) = inr (subst (λ o. inner_before_after T x o ≡ true) (sym e)
          (or_left (inner meta (x.value_read meta)) (inner meta (x.value_written meta)) (meta_inner (x.value_read meta))))

  -- who writes has a participant, and so the lowest one
  pub writer_part : (σ : State T) (x : Transaction T) → Content T x → Parts T x x.participant x.lowest → Reads T σ x
      → Staffed T σ.value σ.table σ.current σ.history → (o : Obj) → x.written o ≡ true → x.participant x.lowest ≡ true
  writer_part σ x ct P r S o w = lowest (bool_cases (x.participant x.lowest)) (some (bool_cases (inner_before_after T x o)))
    where
      some : (inner_before_after T x o ≡ true) ⊎ (inner_before_after T x o ≡ false) → (s : Server) × (x.participant s ≡ true)
      some (inl b) =
          let known = r meta (ct.knows o w) in
          let s = S.manned (x.version_read meta) known.1 in
          (s.0, P.everywhere o s.0 w b (subst (λ v. present v s.0 ≡ true) (sym known.0) s.1))
      some (inr n) = at_home (P.homes o (ct.written_read o w) (or_neither (inner o (x.value_read o)) (inner o (x.value_written o)) n).0)
        where
          at_home : (x.participant (home o) ≡ true)
              ⊎ Homeless T x.read (λ o. inner o (x.value_read o)) (there T x) x.participant x.lowest → (s : Server) × (x.participant s ≡ true)
          at_home (inl p) = (home o, p)
          at_home (inr lost) = (x.lowest, lost.0)

      lowest : (x.participant x.lowest ≡ true) ⊎ (x.participant x.lowest ≡ false) → (s : Server) × (x.participant s ≡ true)
          → x.participant x.lowest ≡ true
      lowest (inl p) _ = p
      lowest (inr n) q = absurd (not_both q.1 (P.one_of_them n q.0))

  -- a pending write holds its lock
  pub pending_holds : (σ : State T) → Inv T σ → (c : Client) (s : Server) (o : Obj) → Pending T (σ.clients c) s o → Holds T (σ.clients c) s
  pending_holds σ I c s o p = (
    (I.course c).all_prepared p.0 s
        (locked_part (σ.clients c) (I.content c) (I.parts c (decided_committed (σ.clients c).phase p.0))
        (I.due c p.0).seated s o (p.2, p.3) p.4),
    p.1,
  )
