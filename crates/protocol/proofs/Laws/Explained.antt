-- Every state that the machine's moves reach is, with some ghosts, a state of the system: each move is carried over.
use Rattle.std.specs.Prelude.{◌≡◌, Bool, true, false, cond, ℕ, suc, ◌≤◌}
use Rattle.std.proofs.Math.Path.{refl, sym, subst}
use Rattle.std.proofs.Common.{ap, ◌∙◌, true≢false, arith}
use Rattle.std.proofs.lemmas.Bool.{false≢true}
use mathlib.Core.List.{List, [], ◌∷◌}
use Rattle.std.proofs.Math.Option.{Option, none, some, none-ne-some, some-injective}
use Rattle.base.proofs.Laws.Test.{cond_true, cond_false}
use Rattle.base.specs.Update.{upd}
use Rattle.base.proofs.Laws.Update.{upd_all}
use Rattle.plans.specs.Plan.{gives, exec, Asked}
use Rattle.protocol.proofs.Laws.Changed.{upd_both}
use Rattle.protocol.specs.Setting.{Setting}
use Rattle.protocol.specs.Lists.{all}
use Rattle.protocol.specs.State.{idle, opened, committing, decided, is_decided, Phase, Entry, State, fresh, start, view}
use Rattle.protocol.proofs.Laws.State.{after_commit}
use Rattle.protocol.specs.System.{CanReconfigure, Reach, initial}
use Rattle.protocol.proofs.Laws.Invariant.{Inv}
use Rattle.protocol.proofs.Laws.History.{history_old, current_le}
use Rattle.protocol.proofs.Laws.Safety.{reach_inv}
use Rattle.protocol.specs.Meaning.{Shown, shown_of}
use Rattle.protocol.proofs.Laws.Meaning.{show, show_all}
use Rattle.protocol.specs.Machine.{Item, find, says, Slot, Copy, Lock, Machine, blank, first_machine, with_item, seen, turned, with_slot, with_copies}
use Rattle.protocol.specs.Moves.{Released, unchanged, given_back, releases, answered_slot, check, to_write, to_read, grants, granted_at, prepared_slot, decided_slot, applied_slot, applied_at, cleared, Copied, as_before, dropped, fetched, renewed, Move, begins, uses_copy, fetches, answers, commits, prepares, decides, applies, ends, aborts, copies, Reconfigurable, reconfigured_by, reconfigures, Reached, at_first, moved}
use Rattle.protocol.proofs.Laws.Items.{each_part}
use Rattle.protocol.proofs.Laws.Locks.{Known, Recorded, calm_recorded, drop_recorded, decide_recorded, apply_recorded}
use Rattle.protocol.proofs.Laws.Ghosts.{Own, Ghost, nothing, transaction_of, state_of, put_own, clients_put, stamped, begin_reach, abort_reach, end_reach, read_reach, answer_reach, commit_reach, decided_ghost, decide_reach}
use Rattle.protocol.proofs.Laws.Prepared.{stamped_ghost, prepared_ghost, prepare_reach, locks_recorded}
use Rattle.protocol.proofs.Laws.Applied.{applied_ghost, apply_reach}
use Rattle.protocol.proofs.Laws.Reconfigure.{reconfigured_old, reconfigured_le}
use Rattle.protocol.proofs.Laws.Reconfigured.{reconfigured_ghost, can_reconfigure, reconfigure_reach}

module _ (T : Setting) where
  open T use {Obj, Server, Client, Val, eq_client, keeps, by_value, init, plan, writes, meta, present}

  -- a copy is something that the object once was
  pub record Legal (current : Obj → ℕ) (history : Obj → ℕ → Val) (o : Obj) (k : Copy T) : Type 0 where
    pub at : ℕ
    pub was : k.value ≡ history o at
    pub upto : at ≤ current o
    pub same : by_value o ≡ false → k.version ≡ at

  -- With some ghosts the machine's state is a state of the system; the locks that are held are recorded, copies are legal, and what is shown
  -- is what was answered and decided.
  pub record Explained (m : Machine T) : Type 0 where
    pub ghost : Ghost T
    pub reach : Reach T (state_of T m ghost)
    pub recorded : Recorded T (state_of T m ghost).clients m.lock
    pub legal : (c : Client) (o : Obj) (k : Copy T) → m.copy c o ≡ some k → Legal ghost.current ghost.history o k
    pub said_as : (c : Client) → m.said c ≡ show T (ghost.own c).trace
    pub log_as : m.log ≡ show_all T ghost.log

  first_explained : Explained (first_machine T)
  unfolding find show show_all
  first_explained = record {
    ghost = g;
    reach = subst (λ σ. Reach T σ) path initial;
    recorded = λ c s o. (λ h. absurd (false≢true h.0), λ h. absurd (false≢true h.0));
    legal = λ c o k e. absurd (none-ne-some k e);
    said_as = λ c. refl;
    log_as = refl;
  }
    where
      g : Ghost T
      g = record { own = λ c. nothing T; versions = λ s o. 0; current = λ o. 0; history = λ o n. init o; log = [] }

      zeros : (b : Bool) → ◌≡◌ {A = ℕ} 0 (cond b 0 0)
      zeros true = refl
      zeros false = refl

      path : start T ≡ state_of T (first_machine T) g
      path i = record {
        clients = λ c. fresh T idle;
        value = λ s. init;
        version = λ s o. zeros (by_value o) i;
        table = λ s o. 0;
        current = λ o. 0;
        history = λ o n. init o;
        log = [];
      }

  module _ (m : Machine T) (G : Explained m) (c : Client) where
    abbrev g : Ghost T
    g = G.ghost

    abbrev σ : State T
    σ = state_of T m G.ghost

    I : Inv T σ
    I = reach_inv T G.reach

    -- what a client has said, where its trace changes, and where it does not
    said_upd : (t : List (Shown T)) (u : Own T) → t ≡ show T u.trace → (d : Client)
        → upd eq_client m.said c t d ≡ show T (upd eq_client g.own c u d).trace
    said_upd t u e = upd_both eq_client m.said g.own c t u (λ d a b. a ≡ show T b.trace) e (λ d _. G.said_as d)

    said_same : (own : Client → Own T) (u : Own T) → u.trace ≡ (own c).trace → ((d : Client) → m.said d ≡ show T (own d).trace)
        → (d : Client) → m.said d ≡ show T (upd eq_client own c u d).trace
    said_same own u e old = upd_all eq_client own c u (λ d v. m.said d ≡ show T v.trace) (old c ∙ ap (show T) (sym e)) (λ d _. old d)

    unprepared : after_commit (m.slots c).phase ≡ false → (s : Server) → (m.slots c).prepared s ≡ false
    unprepared = (I.course c).unprepared

    recorded_put : (y : Slot T) (u : Own T) (lock : Server → Obj → Lock T) → Recorded T (upd eq_client σ.clients c (transaction_of T y u)) lock
        → Recorded T (λ d. transaction_of T (upd eq_client m.slots c y d) (upd eq_client g.own c u d)) lock
    recorded_put y u lock = subst (λ f. Recorded T f lock) (sym (clients_put T m g c y u _ refl))

    -- a client that has prepared nowhere reads or commits
    calm_explained : (y : Slot T) (u : Own T) → Reach T (state_of T (with_slot T m c y) (put_own T g c u))
        → ((s : Server) → y.prepared s ≡ false) → u.trace ≡ (g.own c).trace → Explained (with_slot T m c y)
    calm_explained y u r un e = record {
      ghost = put_own T g c u;
      reach = r;
      recorded = recorded_put y u m.lock (calm_recorded T σ.clients m.lock G.recorded c (transaction_of T y u) un);
      legal = G.legal;
      said_as = said_same g.own u e G.said_as;
      log_as = G.log_as;
    }

    read_explained : (o : Obj) (k : Copy T) → (m.slots c).phase ≡ opened → find T (m.slots c).items o ≡ none → Legal g.current g.history o k
        → Explained (with_slot T m c (with_item T (m.slots c) o k.value k.version))
    read_explained o k hp hf l =
        calm_explained _ (stamped T (g.own c) o l.at) (read_reach T m g c G.reach o k.value k.version l.at l.same hp hf l.was l.upto)
        (unprepared (ap after_commit hp)) refl

    -- begin, end, abort
    cleared_explained : (p : Phase) → Reach T (state_of T (with_slot T m c (blank T p)) (put_own T g c (nothing T))) → Explained (cleared T m c p)
    unfolding show
    cleared_explained p r = record {
      ghost = put_own T g c (nothing T);
      reach = r;
      recorded = recorded_put (blank T p) (nothing T) m.lock
          (calm_recorded T σ.clients m.lock G.recorded c (transaction_of T (blank T p) (nothing T)) (λ s. refl));
      legal = G.legal;
      said_as = said_upd [] (nothing T) refl;
      log_as = G.log_as;
    }

    answer_explained : (e : Entry T) → (m.slots c).phase ≡ opened
        → Asked (plan e.op) (seen T (m.slots c)).read (view T (seen T (m.slots c)))
        → exec (plan e.op) (view T (seen T (m.slots c))) ≡ gives e.result
        → Explained (turned T m (upd eq_client m.slots c (answered_slot T (m.slots c) (writes e.result))) m.lock
        (upd eq_client m.said c (shown_of T e ∷ m.said c)) m.log)
    unfolding show
    answer_explained e hp asked ran = record {
      ghost = put_own T g c u;
      reach = answer_reach T m g c G.reach e hp asked ran;
      recorded = recorded_put y u m.lock (calm_recorded T σ.clients m.lock G.recorded c (transaction_of T y u) (unprepared (ap after_commit hp)));
      legal = G.legal;
      said_as = said_upd _ u (ap (λ t. shown_of T e ∷ t) (G.said_as c));
      log_as = G.log_as;
    }
      where
        u : Own T
        u = record { trace = e ∷ (g.own c).trace; stamps = (g.own c).stamps }

        y : Slot T
        y = answered_slot T (m.slots c) (writes e.result)

    prepare_explained : (s : Server) → present (m.value s meta) s ≡ true → (m.slots c).phase ≡ committing → (m.slots c).prepared s ≡ false
        → all (check T m (m.slots c).lowest s) (m.slots c).items ≡ true
        → all (λ i. grants T c (to_write T s i) (to_read T (m.slots c).lowest s i) (m.lock s i.obj)) (m.slots c).items ≡ true
        → Explained (turned T m (upd eq_client m.slots c (prepared_slot T (m.slots c) s)) (granted_at T m c s) m.said m.log)
    prepare_explained s hs hp new pass granted = record {
      ghost = prepared_ghost T g c s;
      reach = prepare_reach T m g c G.reach s hs hp new pass G.recorded granted;
      recorded = locks_recorded T m g c G.reach s hs hp new pass G.recorded granted;
      legal = G.legal;
      said_as = said_same g1.own (g1.own c) refl (said_same g.own _ refl G.said_as);
      log_as = G.log_as;
    }
      where
        g1 : Ghost T
        g1 = stamped_ghost T g c s

    decide_explained : (m.slots c).phase ≡ committing → ((s : Server) → (m.slots c).participant s ≡ true → (m.slots c).prepared s ≡ true)
        → Explained (turned T m (upd eq_client m.slots c (decided_slot T (m.slots c))) m.lock m.said (m.said c ∷ m.log))
    unfolding show_all
    decide_explained hp ready = record {
      ghost = decided_ghost T m g c;
      reach = decide_reach T m g c G.reach hp ready;
      recorded = recorded_put (decided_slot T (m.slots c)) (g.own c) m.lock (decide_recorded T σ.clients m.lock G.recorded c);
      legal = λ d o k e. let l = G.legal d o k e in record {
        at = l.at;
        was = l.was ∙ sym (history_old T σ I c hp ready o l.at l.upto);
        upto = omega (arith, l.upto, current_le T σ I c hp ready o);
        same = l.same;
      };
      said_as = said_same g.own (g.own c) refl G.said_as;
      log_as = λ i. G.said_as c i ∷ G.log_as i;
    }

    apply_explained : (s : Server) → (m.slots c).phase ≡ decided → (m.slots c).participant s ≡ true → (m.slots c).applied s ≡ false → Explained (applied_at T m c s)
    apply_explained s hp hs ha = record {
      ghost = applied_ghost T m g c s;
      reach = apply_reach T m g c s G.reach hp hs ha;
      recorded = recorded_put (applied_slot T (m.slots c) s) (g.own c) _ (apply_recorded T σ.clients m.lock G.recorded c s);
      legal = G.legal;
      said_as = said_same g.own (g.own c) refl G.said_as;
      log_as = G.log_as;
    }

    -- what a server stores may be read and copied
    stored_legal : (s : Server) (o : Obj) → keeps s o ≡ true → Legal g.current g.history o (record { value = m.value s o; version = m.version s o })
    stored_legal s o kept = let st = I.stored s o kept in record {
      at = σ.version s o;
      was = st.0;
      upto = st.1;
      same = λ b. sym (cond_false (g.versions s o) (m.version s o) b);
    }

    -- what a decided transaction wrote may be copied, also after others wrote again
    renewed_legal : (o : Obj) (i : Item T) → (m.slots c).phase ≡ decided → find T (m.slots c).items o ≡ some i → i.written ≡ true
        → Legal g.current g.history o (record { value = i.new; version = cond (by_value o) 0 (suc i.version) })
    renewed_legal o i hp q w = record {
      at = suc ((σ.clients c).version_read o);
      was = sym (ap (says T (λ i. cond i.written i.new (init o)) (init o)) q ∙ cond_true i.new (init o) w) ∙ sym past.0;
      upto = past.1;
      same = λ b. rw (q, b) refl;
    }
      where
        past : (σ.history o (suc ((σ.clients c).version_read o)) ≡ (σ.clients c).value_written o) × (suc ((σ.clients c).version_read o) ≤ σ.current o)
        past = (I.due c (ap is_decided hp)).past o (ap (says T (λ i. i.written) false) q ∙ w)

    copied_legal : (o : Obj) (z : Option (Copy T)) → Copied T m c o z → (k : Copy T) → z ≡ some k → Legal g.current g.history o k
    copied_legal o z as_before k e = G.legal c o k e
    copied_legal o z dropped k e = absurd (none-ne-some k e)
    copied_legal o z (fetched s kept) k e = subst (Legal g.current g.history o) (some-injective _ k e) (stored_legal s o kept)
    copied_legal o z (renewed i hp q w) k e = subst (Legal g.current g.history o) (some-injective _ k e) (renewed_legal o i hp q w)

  -- locks given back
  released_known : (m : Machine T) (G : Explained m) (s : Server) (o : Obj) (l : Lock T) → Released T m s o l → (d : Client)
      → Known T d ((state_of T m G.ghost).clients d) s o l
  released_known m G s o l unchanged d = G.recorded d s o
  released_known m G s o l (given_back c h) d = drop_recorded T (state_of T m G.ghost).clients m.lock G.recorded c s holds d o
    where
      holds : ¬ (((m.slots c).prepared s ≡ true) × ((m.slots c).applied s ≡ false))
      holds q = true≢false (sym (rw (q.0, q.1) refl) ∙ h)

  release_explained : (m : Machine T) → Explained m → (lock : Server → Obj → Lock T) → ((s : Server) (o : Obj) → Released T m s o (lock s o))
      → Explained (turned T m m.slots lock m.said m.log)
  release_explained m G lock h = record {
    ghost = G.ghost;
    reach = G.reach;
    recorded = λ d s o. released_known m G s o (lock s o) (h s o) d;
    legal = G.legal;
    said_as = G.said_as;
    log_as = G.log_as;
  }

  copies_explained : (m : Machine T) → Explained m → (f : Client → Obj → Option (Copy T)) → ((c : Client) (o : Obj) → Copied T m c o (f c o)) → Explained (with_copies T m f)
  copies_explained m G f h = record {
    ghost = G.ghost;
    reach = G.reach;
    recorded = G.recorded;
    legal = λ c o k e. copied_legal m G c o (f c o) (h c o) k e;
    said_as = G.said_as;
    log_as = G.log_as;
  }

  reconfigure_explained : (m : Machine T) → Explained m → (a : Server) (v : Val) (t : Server → Obj → ℕ) → Reconfigurable T m a v t
      → Explained (reconfigured_by T (m.value a meta) (suc (m.version a meta)) v t m)
  unfolding show_all
  reconfigure_explained m G a v t K = record {
    ghost = reconfigured_ghost T m G.ghost v t;
    reach = reconfigure_reach T m G.ghost G.reach a v t K;
    recorded = G.recorded;
    legal = λ d o k e. let l = G.legal d o k e in record {
      at = l.at;
      was = l.was ∙ sym (reconfigured_old T σ I v t C o l.at l.upto);
      upto = omega (arith, l.upto, reconfigured_le T σ I v t C o);
      same = l.same;
    };
    said_as = G.said_as;
    log_as = G.log_as;
  }
    where
      σ : State T
      σ = state_of T m G.ghost

      I : Inv T σ
      I = reach_inv T G.reach

      C : CanReconfigure T σ v t
      C = can_reconfigure T m G.ghost G.reach a v t K

  move_explained : {m n : Machine T} → Explained m → Move T m n → Explained n
  move_explained {m = m} G (begins c h) = cleared_explained m G c opened (begin_reach T m G.ghost c G.reach h)
  move_explained {m = m} G (uses_copy c o k hp hf e) = read_explained m G c o k hp hf (G.legal c o k e)
  move_explained {m = m} G (fetches c s o hp hf k) = read_explained m G c o _ hp hf (stored_legal m G c s o k)
  move_explained {m = m} G (answers c e hp asked ran) = answer_explained m G c e hp asked ran
  move_explained {m = m} G (commits c hp hm) =
      calm_explained m G c _ (G.ghost.own c) (commit_reach T m G.ghost c G.reach hp hm) (unprepared m G c (ap after_commit hp)) refl
  move_explained {m = m} G (prepares c s hs hp new pass granted) = prepare_explained m G c s hs hp new pass granted
  move_explained {m = m} G (decides c hp all) = decide_explained m G c hp (each_part T (m.slots c).participant (m.slots c).prepared all)
  move_explained {m = m} G (applies c s hp hs ha) = apply_explained m G c s hp hs ha
  move_explained {m = m} G (ends c hp all) =
      cleared_explained m G c idle (end_reach T m G.ghost c G.reach hp (each_part T (m.slots c).participant (m.slots c).applied all))
  move_explained {m = m} G (aborts c h) = cleared_explained m G c idle (abort_reach T m G.ghost c G.reach h)
  move_explained {m = m} G (releases lock h) = release_explained m G lock h
  move_explained {m = m} G (copies f h) = copies_explained m G f h
  move_explained {m = m} G (reconfigures a v t K) = reconfigure_explained m G a v t K

  pub reached_explained : {m : Machine T} → Reached T m → Explained m
  reached_explained at_first = first_explained
  reached_explained (moved r k) = move_explained (reached_explained r) k
