-- The machine's change of the servers is the system's: nothing is pending, so what a server that is there stores is newest.
use Rattle.std.specs.Prelude.{◌≡◌, refl, true, false, cond, ◌||◌, not, ◌⊎◌, ℕ, suc}
use Rattle.std.proofs.Common.{ap, sym, ◌∙◌, subst, inl, inr}
use Rattle.std.proofs.Math.Path.{fun_ext}
use Rattle.base.proofs.Laws.Test.{bool_cases, cond_false, yes_of}
use Rattle.base.specs.Test.{not_both, and_both}
use Rattle.protocol.specs.Setting.{Setting}
use Rattle.protocol.specs.State.{State}
use Rattle.protocol.specs.System.{changed, Largest, CanReconfigure, after_reconfigure, reconfigure, Reach, after}
use Rattle.protocol.specs.Replay.{snapshot}
use Rattle.protocol.proofs.Laws.Invariant.{Newest, Counts, Inv}
use Rattle.protocol.proofs.Laws.Safety.{reach_inv}
use Rattle.protocol.specs.Machine.{Machine}
use Rattle.protocol.specs.Moves.{Reconfigurable, reconfigured_by}
use Rattle.protocol.proofs.Laws.Ghosts.{Ghost, state_of}

module _ (T : Setting) where
  open T use {Obj, Server, Client, Val, eq_obj, home, keeps, keeps_home, keeps_meta, inner, by_value, by_value_outer, meta, meta_inner, present, Alike}

  abbrev pub reconfigured_ghost : Machine T → Ghost T → Val → (Server → Obj → ℕ) → Ghost T
  reconfigured_ghost m g v t = let τ = after_reconfigure T (state_of T m g) v t in
      record { own = g.own; versions = g.versions; current = τ.current; history = τ.history; log = τ.log }

  module _ (m : Machine T) (g : Ghost T) (r : Reach T (state_of T m g)) (a : Server) (v : Val) (t : Server → Obj → ℕ)
      (K : Reconfigurable T m a v t) where
    abbrev σ : State T
    σ = state_of T m g

    I : Inv T σ
    I = reach_inv T r

    -- where nothing is pending, what counts is newest
    version_now : (s : Server) (o : Obj) → keeps s o ≡ true → Counts T σ s o → σ.version s o ≡ g.current o
    version_now s o k q = go (I.newest s o k q)
      where
        go : Newest T σ s o → σ.version s o ≡ g.current o
        go (inl e) = e
        go (inr w) = absurd (not_both w.1.0 (K.undecided w.0))

    value_now : (s : Server) (o : Obj) → keeps s o ≡ true → Counts T σ s o → m.value s o ≡ snapshot T σ o
    value_now s o k q = (I.stored s o k).0 ∙ ap (g.history o) (version_now s o k q)

    a_here : Counts T σ a meta
    a_here = inl (sym (I.staffed.called a) ∙ K.not_absent)

    old_is : m.value a meta ≡ snapshot T σ meta
    old_is = value_now a meta (keeps_meta a) a_here

    versioned : by_value meta ≡ false
    versioned = go (bool_cases (by_value meta))
      where
        go : (by_value meta ≡ true) ⊎ (by_value meta ≡ false) → by_value meta ≡ false
        go (inl b) = absurd (not_both (meta_inner v) (by_value_outer meta b v))
        go (inr b) = b

    version_is : suc (m.version a meta) ≡ suc (g.current meta)
    version_is = ap suc (sym (cond_false (g.versions a meta) (m.version a meta) versioned) ∙ version_now a meta (keeps_meta a) a_here)

    pub can_reconfigure : CanReconfigure T (state_of T m g) v t
    can_reconfigure = record {
      unprepared = K.unprepared;
      undecided = K.undecided;
      alike = subst (λ w. Alike w v) old_is K.alike;
      manned = K.manned;
      homed = λ o ne i. K.homed o ne (subst (λ w. inner o w ≡ true) (sym (value_now (home o) o (keeps_home o) (inr ne))) i);
      tables = subst (λ w. (s : Server) → present w s ≡ false → present v s ≡ true → (o : Obj) → Largest T m.table (present w) s o (t s o))
          old_is K.tables;
    }

    abbrev g' : Ghost T
    g' = reconfigured_ghost m g v t

    -- the metadata is not checked by value, so its version is no ghost
    version_cell : (s : Server) (o : Obj) (old : Val) (n : ℕ)
        → cond (by_value o) (g.versions s o) (cond (changed T old v s o) n (m.version s o))
        ≡ cond (changed T old v s o) n (cond (by_value o) (g.versions s o) (m.version s o))
    version_cell s o old n = go (bool_cases (changed T old v s o))
      where
        go : (changed T old v s o ≡ true) ⊎ (changed T old v s o ≡ false)
            → cond (by_value o) (g.versions s o) (cond (changed T old v s o) n (m.version s o))
            ≡ cond (changed T old v s o) n (cond (by_value o) (g.versions s o) (m.version s o))
        go (inl c) =
            let e = yes_of (eq_obj o meta) (and_both _ (present old s || present v s) c).0 in
            let b : by_value o ≡ false = subst (λ o. by_value o ≡ false) (sym e) versioned in
            rw (c, b) refl
        go (inr c) = rw c refl

    path : state_of T (reconfigured_by T (snapshot T σ meta) (suc (g.current meta)) v t m) g' ≡ after_reconfigure T σ v t
    path i = let τ = after_reconfigure T σ v t in record {
      clients = σ.clients;
      value = τ.value;
      version = fun_ext (λ s. fun_ext (λ o. version_cell s o (snapshot T σ meta) (suc (g.current meta)))) i;
      table = τ.table;
      current = τ.current;
      history = τ.history;
      log = τ.log;
    }

    pub reconfigure_reach : Reach T (state_of T (reconfigured_by T (m.value a meta) (suc (m.version a meta)) v t m) (reconfigured_ghost m g v t))
    reconfigure_reach =
        subst (λ w. Reach T (state_of T (reconfigured_by T w (suc (m.version a meta)) v t m) g')) (sym old_is)
        (subst (λ n. Reach T (state_of T (reconfigured_by T (snapshot T σ meta) n v t m) g')) (sym version_is)
        (subst (λ σ. Reach T σ) (sym path) (after r (reconfigure v t can_reconfigure))))
