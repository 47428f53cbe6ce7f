-- Locks as a server stores them, beside the protocol's locks, which follow from the transactions. Safety needs one direction only: each
-- lock that a transaction holds is recorded.
use Rattle.std.specs.Prelude.{◌≡◌, refl, Bool, true, false, ◌&&◌, ◌||◌, not, ◌⊎◌}
use Rattle.std.proofs.Common.{ap, sym, ◌∙◌, subst, inl, inr}
use Rattle.std.proofs.lemmas.Bool.{false≢true}
use Rattle.base.proofs.Laws.Test.{bool_cases, cond_true, or_left, or_right, yes_of, of_yes, of_no}
use Rattle.base.specs.Test.{not_both, yes?}
use Rattle.base.specs.Update.{upd}
use Rattle.base.proofs.Laws.Update.{upd_same, upd_other, upd_all}
use Rattle.protocol.specs.Setting.{Setting}
use Rattle.protocol.specs.Lists.{any}
use Rattle.protocol.proofs.Laws.Lists.{any_among}
use Rattle.protocol.specs.State.{Transaction, preparing, deciding, applying}
use Rattle.protocol.specs.System.{Holds, ReadLock, WriteLock, Apart}
use Rattle.protocol.specs.Machine.{Lock, shared, owned}
use Rattle.protocol.specs.Moves.{grants, grant, share, drop}

module _ (T : Setting) where
  open T use {Obj, Server, Client, eq_server, eq_client, clients, clients_all}

  -- c is recorded as a reader, or as the writer
  abbrev pub User : Client → Lock T → Type 0
  User c (shared q) = q c ≡ true
  User c (owned d) = d ≡ c

  -- the locks that c's transaction holds at s on o are recorded
  abbrev pub Known : Client → Transaction T → Server → Obj → Lock T → Type 0
  Known c x s o l = (Holds T x s → WriteLock T x s o → l ≡ owned c) × (Holds T x s → ReadLock T x s o → User c l)

  abbrev pub Recorded : (Client → Transaction T) → (Server → Obj → Lock T) → Type 0
  Recorded f lock = (c : Client) (s : Server) (o : Obj) → Known c (f c) s o (lock s o)

  -- what a granted lock says of another client: to write, it is no user; to read, it is not the writer
  grants_write : (c d : Client) (r : Bool) (l : Lock T) → ¬ (d ≡ c) → grants T c true r l ≡ true → User d l → ⊥
  grants_write c d r (shared q) nd g u = not_both other (go (any (λ e. not (yes? (eq_client e c)) && q e) clients) g)
    where
      other : any (λ e. not (yes? (eq_client e c)) && q e) clients ≡ true
      other = any_among (λ e. not (yes? (eq_client e c)) && q e) clients d (rw (of_no (eq_client d c) nd) u) (clients_all d)

      go : (b : Bool) → not b ≡ true → b ≡ false
      go true h = absurd (false≢true h)
      go false h = refl
  grants_write c d r (owned e) nd g u = nd (sym u ∙ yes_of (eq_client e c) (go (yes? (eq_client e c)) g))
    where
      go : (b : Bool) → (b || false) ≡ true → b ≡ true
      go true h = refl
      go false h = h

  grants_read : (c d : Client) (w : Bool) → ¬ (d ≡ c) → grants T c w true (owned d) ≡ true → ⊥
  grants_read c d true nd g = grants_write c d true (owned d) nd g refl
  grants_read c d false nd g = grants_write c d true (owned d) nd g refl

  owner_uses : (c : Client) (l : Lock T) → l ≡ owned c → User c l
  owner_uses c l e = subst (User c) (sym e) refl

  -- other readers stay readers where c joins them, and c becomes one, if no other client writes
  share_other : (c d : Client) (l : Lock T) → User d l → User d (share T c l)
  share_other c d (shared q) h = or_right (yes? (eq_client d c)) (q d) h
  share_other c d (owned e) h = h

  share_own : (c : Client) (w : Bool) (l : Lock T) → grants T c w true l ≡ true → User c (share T c l)
  share_own c w (shared q) g = or_left (yes? (eq_client c c)) (q c) (of_yes (eq_client c c) refl)
  share_own c w (owned d) g = go (eq_client d c)
    where
      go : Dec (d ≡ c) → d ≡ c
      go (yes e) = e
      go (no ne) = absurd (grants_read c d w ne g)

  -- A PREPARE of c at s, where w and r say for which objects it asks to write and to read
  module _ (f : Client → Transaction T) (lock : Server → Obj → Lock T) (R : Recorded f lock) (c : Client) (s : Server) (w r : Obj → Bool) (asks_write : (o : Obj) → WriteLock T (f c) s o → w o ≡ true) (asks_read : (o : Obj) → ReadLock T (f c) s o → r o ≡ true) (G : (o : Obj) → grants T c (w o) (r o) (lock s o) ≡ true) where
    alone : (d : Client) → ¬ (d ≡ c) → (o : Obj) → w o ≡ true → User d (lock s o) → ⊥
    alone d nd o h = grants_write c d (r o) (lock s o) nd (subst (λ b. grants T c b (r o) (lock s o) ≡ true) h (G o))

    unowned : (d : Client) → ¬ (d ≡ c) → (o : Obj) → r o ≡ true → lock s o ≡ owned d → ⊥
    unowned d nd o h e = grants_read c d (w o) nd
        (subst (λ l. grants T c (w o) true l ≡ true) e (subst (λ b. grants T c (w o) b (lock s o) ≡ true) h (G o)))

    -- what the protocol's prepare asks
    pub granted_apart : (d : Client) → ¬ (d ≡ c) → Holds T (f d) s → Apart T (f c) (f d) s × Apart T (f d) (f c) s
    granted_apart d nd h = (λ o v u. alone d nd o (asks_write o v) (uses o u), λ o v u. against o ((R d s o).0 h v) u)
      where
        uses : (o : Obj) → WriteLock T (f d) s o ⊎ ReadLock T (f d) s o → User d (lock s o)
        uses o (inl v) = owner_uses d (lock s o) ((R d s o).0 h v)
        uses o (inr v) = (R d s o).1 h v

        against : (o : Obj) → lock s o ≡ owned d → WriteLock T (f c) s o ⊎ ReadLock T (f c) s o → ⊥
        against o e (inl v) = alone d nd o (asks_write o v) (owner_uses d (lock s o) e)
        against o e (inr v) = unowned d nd o (asks_read o v) e

    abbrev row : Obj → Lock T
    row o = grant T c (w o) (r o) (lock s o)

    -- another client's lock stays, since it was in nobody's way
    others : (d : Client) → ¬ (d ≡ c) → (o : Obj) → Known d (f d) s o (row o)
    others d nd o = (
      λ h v. writer ((R d s o).0 h v) (bool_cases (w o)) (bool_cases (r o)),
      λ h v. reader ((R d s o).1 h v) (bool_cases (w o)) (bool_cases (r o)),
    )
      where
        writer : lock s o ≡ owned d → (w o ≡ true) ⊎ (w o ≡ false) → (r o ≡ true) ⊎ (r o ≡ false) → row o ≡ owned d
        writer e (inl a) _ = absurd (alone d nd o a (owner_uses d (lock s o) e))
        writer e (inr a) (inl b) = absurd (unowned d nd o b e)
        writer e (inr a) (inr b) = rw (a, b) e

        reader : User d (lock s o) → (w o ≡ true) ⊎ (w o ≡ false) → (r o ≡ true) ⊎ (r o ≡ false) → User d (row o)
        reader u (inl a) _ = absurd (alone d nd o a u)
        reader u (inr a) (inl b) = rw (a, b) (share_other c d (lock s o) u)
        reader u (inr a) (inr b) = rw (a, b) u

    own : (o : Obj) → Known c (preparing T (f c) s) s o (row o)
    own o = (λ h v. cond_true (owned c) _ (asks_write o v), λ h v. go (asks_read o v) (bool_cases (w o)))
      where
        go : r o ≡ true → (w o ≡ true) ⊎ (w o ≡ false) → User c (row o)
        go b (inl a) = rw a refl
        go b (inr a) = rw (a, b) (share_own c (w o) (lock s o) (subst (λ b. grants T c (w o) b (lock s o) ≡ true) b (G o)))

    -- at another server nothing changes
    own_else : (t : Server) → ¬ (t ≡ s) → (o : Obj) → Known c (preparing T (f c) s) t o (lock t o)
    own_else t ne o = (λ h. (R c t o).0 (old h), λ h. (R c t o).1 (old h))
      where
        old : Holds T (preparing T (f c) s) t → Holds T (f c) t
        old h = (sym (upd_other eq_server (f c).prepared s true t ne) ∙ h.0, h.1)

    pub prepare_recorded : Recorded (upd eq_client f c (preparing T (f c) s)) (upd eq_server lock s (λ o. grant T c (w o) (r o) (lock s o)))
    prepare_recorded =
        upd_all eq_client f c (preparing T (f c) s) (λ d y. (t : Server) (o : Obj) → Known d y t o (upd eq_server lock s row t o))
        (upd_all eq_server lock s row (λ t l. (o : Obj) → Known c (preparing T (f c) s) t o (l o)) own own_else)
        (λ d nd. upd_all eq_server lock s row (λ t l. (o : Obj) → Known d (f d) t o (l o)) (others d nd) (λ t _. R d t))

  -- locks given back by c leave those of others
  drop_owned : (c d : Client) (l : Lock T) → ¬ (d ≡ c) → l ≡ owned d → drop T c l ≡ owned d
  drop_owned c d l nd e = ap (drop T c) e ∙ rw (of_no (eq_client d c) nd)

  drop_user : (c d : Client) (l : Lock T) → ¬ (d ≡ c) → User d l → User d (drop T c l)
  drop_user c d (shared q) nd h = rw (of_no (eq_client d c) nd) h
  drop_user c d (owned e) nd h = rw (of_no (eq_client e c) (λ q. nd (sym h ∙ q))) h

  module _ (f : Client → Transaction T) (lock : Server → Obj → Lock T) (R : Recorded f lock) (c : Client) where
    abbrev Locks : Client → Transaction T → Type 0
    Locks d y = (s : Server) (o : Obj) → Known d y s o (lock s o)

    -- a transaction that has prepared nowhere holds nothing
    pub calm_recorded : (x : Transaction T) → ((s : Server) → x.prepared s ≡ false) → Recorded (upd eq_client f c x) lock
    calm_recorded x un = upd_all eq_client f c x Locks
        (λ s o. (λ h. absurd (not_both h.0 (un s)), λ h. absurd (not_both h.0 (un s)))) (λ d _. R d)

    -- a decision keeps its locks, and after an apply it holds fewer
    pub decide_recorded : Recorded (upd eq_client f c (deciding T (f c))) lock
    decide_recorded = upd_all eq_client f c (deciding T (f c)) Locks (R c) (λ d _. R d)

    pub apply_recorded : (s : Server) → Recorded (upd eq_client f c (applying T (f c) s)) lock
    apply_recorded s = upd_all eq_client f c (applying T (f c) s) Locks
        (λ t o. (λ h. (R c t o).0 (h.0, old t (eq_server t s) h.1), λ h. (R c t o).1 (h.0, old t (eq_server t s) h.1))) (λ d _. R d)
      where
        old : (t : Server) → Dec (t ≡ s) → (applying T (f c) s).applied t ≡ false → (f c).applied t ≡ false
        old t (yes e) h = absurd (not_both (upd_same eq_server (f c).applied s true) (subst (λ t. upd eq_server (f c).applied s true t ≡ false) e h))
        old t (no ne) h = sym (upd_other eq_server (f c).applied s true t ne) ∙ h

  -- a lock may be given back by a client that holds none there
  pub drop_recorded : (f : Client → Transaction T) (lock : Server → Obj → Lock T) → Recorded f lock → (c : Client) (s : Server) → ¬ (Holds T (f c) s)
      → (d : Client) (o : Obj) → Known d (f d) s o (drop T c (lock s o))
  drop_recorded f lock R c s none d o = go (eq_client d c)
    where
      go : Dec (d ≡ c) → Known d (f d) s o (drop T c (lock s o))
      go (yes e) = (λ h. absurd (none (subst (λ d. Holds T (f d) s) e h)), λ h. absurd (none (subst (λ d. Holds T (f d) s) e h)))
      go (no ne) = (λ h v. drop_owned c d (lock s o) ne ((R d s o).0 h v), λ h v. drop_user c d (lock s o) ne ((R d s o).1 h v))
