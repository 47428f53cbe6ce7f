-- The claim on the machine is the protocol's theorem, carried over.
use Rattle.std.specs.Prelude.{◌≡◌, true, false, cond, ◌⊎◌, ◌≤◌}
use Rattle.std.proofs.Math.Path.{refl, ap, fun_ext}
use Rattle.std.proofs.Common.{sym, ◌∙◌, subst, inl, inr, arith}
use mathlib.Core.List.{List, [], ◌∷◌}
use Rattle.std.proofs.Math.Option.{some}
use Rattle.base.proofs.Laws.Test.{bool_cases, cond_false}
use Rattle.base.specs.Test.{not_both, ifd}
use Rattle.protocol.specs.Setting.{Setting}
use Rattle.protocol.specs.State.{State, is_decided}
use Rattle.protocol.specs.Replay.{snapshot, due?, settled}
use Rattle.protocol.proofs.Laws.Invariant.{Counts, Inv}
use Rattle.protocol.proofs.Laws.Locked.{decided_committed, locked_part, kept_locked}
use Rattle.protocol.proofs.Laws.Safety.{reach_inv, due_parts, known, safety}
use Rattle.protocol.specs.Meaning.{Meaning, map_all, RightAll}
use Rattle.protocol.proofs.Laws.Meaning.{show_all, log_right}
use Rattle.protocol.specs.Machine.{Item, find, Machine, seen}
use Rattle.protocol.specs.Moves.{Reached}
use Rattle.protocol.proofs.Laws.Ghosts.{Ghost, state_of}
use Rattle.protocol.proofs.Laws.Explained.{Explained, reached_explained}
use Rattle.protocol.specs.Claim.{due_in, there_now, seat, Claim}

module _ (T : Setting) (Z : Meaning T) where
  open T use {Obj, Server, Client, eq_obj, clients, home, keeps, keeps_home, keeps_meta, inner, by_value, meta, present}
  open Z use {HoldsMap}

  seat_kept : (s : Server) (o : Obj) → keeps (seat T s o) o ≡ true
  seat_kept s o = go (eq_obj o meta)
    where
      go : (d : Dec (o ≡ meta)) → keeps (ifd d s (home o)) o ≡ true
      go (yes e) = subst (λ o. keeps s o ≡ true) (sym e) (keeps_meta s)
      go (no ne) = keeps_home o

  due_settled : (m : Machine T) (g : Ghost T) (cs : List Client) (s : Server) (o : Obj)
      → settled T (λ c. seen T (m.slots c)) m.value cs s o ≡ settled T (state_of T m g).clients m.value cs s o
  unfolding settled
  due_settled m g [] s o = refl
  due_settled m g (c ∷ cs) s o =
      let x = seen T (m.slots c) in ap (cond (due? T x s o) (x.value_written o)) (due_settled m g cs s o)

  pub claim : {m : Machine T} → Reached T m → Claim T Z m
  claim {m = m} r = record {
    answered = subst (RightAll T Z) (sym G.log_as) R.1;
    manned = let s = I.staffed.manned (σ.current meta) (omega arith) in (s.0, I.staffed.called s.0 ∙ s.1);
    holds = λ s h. subst (λ M. HoldsMap M (map_all T Z m.log)) (sym (fun_ext (λ o. at (seat T s o) o (seat_kept s o) (seat_counts s o h))))
        (subst (λ l. HoldsMap (snapshot T σ) (map_all T Z l)) (sym G.log_as) R.0);
    agree = λ s t hs ht. at s meta (keeps_meta s) (counts s hs) ∙ sym (at t meta (keeps_meta t) (counts t ht));
  }
    where
      G : Explained T m
      G = reached_explained T r

      σ : State T
      σ = state_of T m G.ghost

      R : HoldsMap (snapshot T σ) (map_all T Z (show_all T σ.log)) × RightAll T Z (show_all T σ.log)
      R = log_right T Z σ.log (snapshot T σ) (safety T G.reach).replayed

      I : Inv T σ
      I = reach_inv T G.reach

      counts : (s : Server) → there_now T m s ≡ true → Counts T σ s meta
      counts s h = inl (sym (I.staffed.called s) ∙ h)

      seat_counts : (s : Server) (o : Obj) → there_now T m s ≡ true → Counts T σ (seat T s o) o
      seat_counts s o h = go (eq_obj o meta)
        where
          go : (d : Dec (o ≡ meta)) → Counts T σ (ifd d s (home o)) o
          go (yes e) = inl (sym (I.staffed.called s) ∙ h)
          go (no ne) = inr ne

      at : (s : Server) (o : Obj) → keeps s o ≡ true → Counts T σ s o → due_in T m s o ≡ snapshot T σ o
      at s o k q = due_settled m G.ghost clients s o ∙ (safety T G.reach).stored_is s o k q

  -- ---- where no apply is due, what the servers store is that
  abbrev pub Applied : Machine T → Type 0
  Applied m = (c : Client) → is_decided (m.slots c).phase ≡ true → (s : Server) → (m.slots c).participant s ≡ true → (m.slots c).applied s ≡ true

  pub none_due : {m : Machine T} → Reached T m → Applied m → (s : Server) (o : Obj) → keeps s o ≡ true → (there_now T m s ≡ true) ⊎ ¬ (o ≡ meta)
      → due_in T m s o ≡ m.value s o
  unfolding settled
  none_due {m = m} r done s o k a = go clients
    where
      G : Explained T m
      G = reached_explained T r

      σ : State T
      σ = state_of T m G.ghost

      I : Inv T σ
      I = reach_inv T G.reach

      counts : (there_now T m s ≡ true) ⊎ ¬ (o ≡ meta) → Counts T σ s o
      counts (inl a) = inl (sym (I.staffed.called s) ∙ a)
      counts (inr ne) = inr ne

      -- a server that keeps what is written takes part
      nothing : (c : Client) → (due? T (σ.clients c) s o ≡ true) ⊎ (due? T (σ.clients c) s o ≡ false) → due? T (σ.clients c) s o ≡ false
      nothing c (inr n) = n
      nothing c (inl h) =
          let q = due_parts T (is_decided (m.slots c).phase) ((m.slots c).applied s) ((σ.clients c).written o) h in
          let P = I.parts c (decided_committed (m.slots c).phase q.0) in
          absurd (not_both (done c q.0 s (locked_part T (σ.clients c) (I.content c) P (I.due c q.0).seated s o (q.2, kept_locked T (σ.clients c) s o k)
          (known T σ I s o k (counts a) c q.0 q.2))) q.1)

      go : (cs : List Client) → settled T (λ c. seen T (m.slots c)) m.value cs s o ≡ m.value s o
      go [] = refl
      go (c ∷ cs) =
          cond_false ((seen T (m.slots c)).value_written o) (settled T (λ c. seen T (m.slots c)) m.value cs s o) (nothing c (bool_cases (due? T (σ.clients c) s o)))
          ∙ go cs

  -- so what they store holds the map: by this a removal knows that where no slot is taken no node is inner
  pub quiet_holds : {m : Machine T} → Reached T m → Applied m → (s : Server) → there_now T m s ≡ true
      → HoldsMap (λ o. m.value (seat T s o) o) (map_all T Z m.log)
  quiet_holds {m = m} r done s h =
      subst (λ M. HoldsMap M (map_all T Z m.log)) (fun_ext (λ o. none_due r done (seat T s o) o (seat_kept s o) (go o (eq_obj o meta)))) ((claim r).holds s h)
    where
      go : (o : Obj) (d : Dec (o ≡ meta)) → (there_now T m (ifd d s (home o)) ≡ true) ⊎ ¬ (o ≡ meta)
      go o (yes e) = inl h
      go o (no ne) = inr ne

  -- and inner nodes live on servers that are there: a change of the servers asks for it of the new ones
  pub homed_now : {m : Machine T} → Reached T m → Applied m → (s : Server) → there_now T m s ≡ true → (o : Obj) → ¬ (o ≡ meta)
      → inner o (m.value (home o) o) ≡ true → present (m.value s meta) (home o) ≡ true
  homed_now {m = m} r done s h o ne i =
      subst (λ v. present v (home o) ≡ true) (sym (at s meta (keeps_meta s) (inl h) (inl (sym (I.staffed.called s) ∙ h))))
      (I.staffed.homed o ne (subst (λ v. inner o v ≡ true) (at (home o) o (keeps_home o) (inr ne) (inr ne)) i))
    where
      G : Explained T m
      G = reached_explained T r

      σ : State T
      σ = state_of T m G.ghost

      I : Inv T σ
      I = reach_inv T G.reach

      at : (s : Server) (o : Obj) → keeps s o ≡ true → (there_now T m s ≡ true) ⊎ ¬ (o ≡ meta) → Counts T σ s o → m.value s o ≡ snapshot T σ o
      at s o k t q = sym (none_due r done s o k t) ∙ due_settled m G.ghost clients s o ∙ (safety T G.reach).stored_is s o k q

  -- and every server is what their metadata calls it, an absent one too
  pub called_now : {m : Machine T} → Reached T m → Applied m → (a : Server) → there_now T m a ≡ true → (s : Server) → there_now T m s ≡ present (m.value a meta) s
  called_now {m = m} r done a h s =
      I.staffed.called s
      ∙ ap (λ v. present v s) (sym (sym (none_due r done a meta (keeps_meta a) (inl h)) ∙ due_settled m G.ghost clients a meta
      ∙ (safety T G.reach).stored_is a meta (keeps_meta a) (inl (sym (I.staffed.called a) ∙ h))))
    where
      G : Explained T m
      G = reached_explained T r

      I : Inv T (state_of T m G.ghost)
      I = reach_inv T G.reach

  -- what was read at the version that a server stores is what it stores: so who fetches at a server that finds its metadata up to date knows
  -- that this server is there
  pub same_version : {m : Machine T} → Reached T m → (c : Client) (s : Server) (o : Obj) (i : Item T) → keeps s o ≡ true → by_value o ≡ false
      → find T (m.slots c).items o ≡ some i → m.version s o ≡ i.version → m.value s o ≡ i.old
  same_version {m = m} r c s o i k b q e =
      (I.stored s o k).0 ∙ ap (σ.history o) (cond_false (G.ghost.versions s o) (m.version s o) b ∙ e ∙ version) ∙ sym read.0 ∙ rw q refl
    where
      G : Explained T m
      G = reached_explained T r

      σ : State T
      σ = state_of T m G.ghost

      I : Inv T σ
      I = reach_inv T G.reach

      version : i.version ≡ (σ.clients c).version_read o
      version = rw (q, b) refl

      read : ((σ.clients c).value_read o ≡ σ.history o ((σ.clients c).version_read o)) × ((σ.clients c).version_read o ≤ σ.current o)
      read = I.reads c o (rw q refl)

  -- an undecided transaction has applied nothing
  pub unapplied : {m : Machine T} → Reached T m → (c : Client) → is_decided (m.slots c).phase ≡ false → (s : Server) → (m.slots c).applied s ≡ false
  unapplied r c h s = ((reach_inv T (reached_explained T r).reach).course c).unapplied h s
