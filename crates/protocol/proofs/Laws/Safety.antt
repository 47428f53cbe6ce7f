-- THE PROTOCOL'S THEOREM: every state that its steps reach is safe.
use Rattle.std.specs.Prelude.{◌≡◌, refl, Bool, true, false, ◌&&◌, not, ◌⊎◌}
use Rattle.std.proofs.Common.{ap, sym, ◌∙◌, subst}
use Rattle.std.proofs.lemmas.Bool.{false≢true}
use mathlib.Core.List.{List, [], ◌∷◌}
use Rattle.std.proofs.Math.Logic.{inl, inr}
use native.Mathlib.Omega.{arith}
use Rattle.base.proofs.Laws.Test.{bool_cases, cond_true, cond_false}
use Rattle.base.specs.Test.{not_both}
use Rattle.protocol.specs.Setting.{Setting}
use Rattle.protocol.specs.Lists.{Among}
use Rattle.protocol.specs.State.{idle, opened, decided, is_decided, State, fresh, start, put}
use Rattle.protocol.proofs.Laws.State.{after_commit}
use Rattle.protocol.specs.System.{Step, begin, read, answer, commit, stamp, prepare, decide, apply, end, abort, reconfigure, Reach, there, initial, after}
use Rattle.protocol.specs.Replay.{Replays, snapshot, due?, settled, Safe}
use Rattle.protocol.proofs.Laws.Invariant.{Pending, Newest, Counts, Inv}
use Rattle.protocol.proofs.Laws.Working.{none_pending, fresh_content, fresh_course, fresh_inv, read_inv, answer_inv, commit_inv, stamp_inv}
use Rattle.protocol.proofs.Laws.Locked.{locked_part}
use Rattle.protocol.proofs.Laws.Prepare.{prepare_inv}
use Rattle.protocol.proofs.Laws.Decide.{decide_inv}
use Rattle.protocol.proofs.Laws.Apply.{apply_inv}
use Rattle.protocol.proofs.Laws.Reconfigure.{reconfigure_inv}

module _ (T : Setting) where
  open T use {Obj, Server, Client, clients, clients_all, some_server, home, keeps, keeps_where, meta, init_homed, init_manned}

  start_inv : Inv T (start T)
  unfolding Replays
  start_inv = record {
    content = λ c. fresh_content T idle;
    course = λ c. fresh_course T idle refl;
    parts = λ c h. absurd (false≢true h);
    reads = λ c o h. absurd (false≢true h);
    kept = λ c _ s o h. absurd (false≢true h);
    due = λ c h. absurd (false≢true h);
    apart = λ c d _ s h. absurd (false≢true h.0);
    stored = λ s o _. (refl, omega arith);
    newest = λ s o _ _. inl refl;
    tables = λ s o _. inl (record { upto = omega arith; none = λ w lo hi. absurd (omega arith) });
    staffed = record { called = λ s. refl; homed = init_homed; manned = λ n _. (some_server, init_manned); behind = λ s o. omega arith };
    held = λ c s h. absurd (false≢true h);
    replay = λ o. refl;
  }

  -- where all participants have applied, nothing is pending
  end_inv : (σ : State T) → Inv T σ → (c : Client) → (σ.clients c).phase ≡ decided
      → ((s : Server) → (σ.clients c).participant s ≡ true → (σ.clients c).applied s ≡ true) → Inv T (put T σ c (fresh T idle))
  end_inv σ I c hp all =
      fresh_inv T σ I c idle refl refl
      (λ s o p. not_both (all s (locked_part T (σ.clients c) (I.content c) (I.parts c (ap after_commit hp)) (I.due c p.0).seated s o (p.2, p.3) p.4)) p.1)

  step_inv : {σ τ : State T} → Inv T σ → Step T σ τ → Inv T τ
  step_inv {σ = σ} I (begin c h) = fresh_inv T σ I c opened refl refl (none_pending T (σ.clients c) (ap is_decided h))
  step_inv {σ = σ} I (read c o n hp hr hn) = read_inv T σ I c o n hp hr hn
  step_inv {σ = σ} I (answer c e hp a r) = answer_inv T σ I c e hp a r
  step_inv {σ = σ} I (commit c p l hp P) = commit_inv T σ I c p l hp P
  step_inv {σ = σ} I (stamp c n hp st) = stamp_inv T σ I c n hp st
  step_inv {σ = σ} I (prepare c s K) = prepare_inv T σ I c s K
  step_inv {σ = σ} I (decide c hp r) = decide_inv T σ I c hp r
  step_inv {σ = σ} I (apply c s hp hs ha) = apply_inv T σ I c s hp hs ha
  step_inv {σ = σ} I (end c hp all) = end_inv σ I c hp all
  step_inv {σ = σ} I (abort c h) = fresh_inv T σ I c idle refl refl (none_pending T (σ.clients c) h)
  step_inv {σ = σ} I (reconfigure v t K) = reconfigure_inv T σ I v t K

  pub reach_inv : {σ : State T} → Reach T σ → Inv T σ
  reach_inv initial = start_inv
  reach_inv (after r k) = step_inv (reach_inv r) k

  pub due_parts : (a b e : Bool) → (a && not b && e) ≡ true → (a ≡ true) × (b ≡ false) × (e ≡ true)
  due_parts true false true h = (refl, refl, refl)
  due_parts true false false h = absurd (false≢true h)
  due_parts true true e h = absurd (false≢true h)
  due_parts false b e h = absurd (false≢true h)

  module _ (σ : State T) (I : Inv T σ) (s : Server) (o : Obj) (k : keeps s o ≡ true) (q : Counts T σ s o) where
    -- who has a write of o due knows that s is there
    pub known : (c : Client) → is_decided (σ.clients c).phase ≡ true → (σ.clients c).written o ≡ true → there T (σ.clients c) s ≡ true
    known c d w = go q (keeps_where s o k)
      where
        go : Counts T σ s o → (s ≡ home o) ⊎ (o ≡ meta) → there T (σ.clients c) s ≡ true
        go (inl h) _ = (I.due c d).aware o w s ∙ h
        go (inr ne) (inl e) = subst (λ s. there T (σ.clients c) s ≡ true) (sym e) ((I.due c d).at_home o w ne)
        go (inr ne) (inr e) = absurd (ne e)

    -- a due write at a server that keeps the object is the newest contents
    due_is : (c : Client) → due? T (σ.clients c) s o ≡ true → (σ.clients c).value_written o ≡ snapshot T σ o
    due_is c h =
        let p = due_parts (is_decided (σ.clients c).phase) ((σ.clients c).applied s) ((σ.clients c).written o) h in
        let D = I.due c p.0 in
        sym (D.past o p.2).0 ∙ ap (σ.history o) (sym (D.due_newest s o p.1 p.2 k (known c p.0 p.2)))

    -- what is stored is the snapshot's, or one of the listed clients has a write pending
    Left : List Client → Type 0
    Left cs = (σ.value s o ≡ snapshot T σ o) ⊎ ((c : Client) × Among c cs × Pending T (σ.clients c) s o)

    -- a client that has nothing due is not the one
    rest : (c : Client) (cs : List Client) → due? T (σ.clients c) s o ≡ false → Left (c ∷ cs) → Left cs
    unfolding Left Among
    rest c cs n (inl e) = inl e
    rest c cs n (inr (d, inl e, p)) = absurd (not_both (subst (λ d. due? T (σ.clients d) s o ≡ true) e (rw (p.0, p.1, p.2))) n)
    rest c cs n (inr (d, inr i, p)) = inr (d, i, p)

    settled_is : (cs : List Client) → Left cs → settled T σ.clients σ.value cs s o ≡ snapshot T σ o
    unfolding settled Among Left
    settled_is [] (inl e) = e
    settled_is [] (inr w) = absurd w.1
    settled_is (c ∷ cs) h = go (settled_is cs) (bool_cases (due? T (σ.clients c) s o))
      where
        go : (Left cs → settled T σ.clients σ.value cs s o ≡ snapshot T σ o)
            → (due? T (σ.clients c) s o ≡ true) ⊎ (due? T (σ.clients c) s o ≡ false)
            → settled T σ.clients σ.value (c ∷ cs) s o ≡ snapshot T σ o
        go rec (inl b) = cond_true ((σ.clients c).value_written o) (settled T σ.clients σ.value cs s o) b ∙ due_is c b
        go rec (inr n) = cond_false ((σ.clients c).value_written o) (settled T σ.clients σ.value cs s o) n ∙ rec (rest c cs n h)

  pub safety : {σ : State T} → Reach T σ → Safe T σ
  unfolding Left
  safety {σ = σ} r = record {
    replayed = I.replay;
    stored_is = λ s o k q. settled_is σ I s o k q clients (left s o k q (I.newest s o k q));
  }
    where
      I : Inv T σ
      I = reach_inv r

      left : (s : Server) (o : Obj) (k : keeps s o ≡ true) (q : Counts T σ s o) → Newest T σ s o → Left σ (reach_inv r) s o k q clients
      left s o k q (inl e) = inl ((I.stored s o k).0 ∙ ap (σ.history o) e)
      left s o k q (inr w) = inr (w.0, clients_all w.0, w.1)
