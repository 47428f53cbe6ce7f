-- ABORT and LOSS: "An abort unlocks everywhere and drops copies of all objects read"; "loss drops all copies".
use Rattle.std.specs.Prelude.{◌≡◌, Bool, ◌&&◌, not, ◌⊎◌}
use Rattle.std.proofs.Math.Path.{refl, subst}
use Rattle.std.proofs.Common.{ap, sym, ◌∙◌, inl, inr, arith}
use Rattle.std.proofs.Math.Bool.{true, false, cond}
use mathlib.Core.List.{List, []}
use Prim.Native.Nat.{ℕ, suc, ◌≤◌, ◌<◌, Fin}
use Rattle.std.proofs.Math.Decide.{ℕ_discrete, Fin-discrete}
use Rattle.base.specs.Test.{not_both}
use Rattle.base.proofs.Laws.Update.{upd_same, upd_other}
use Rattle.memory.specs.Bit.{bit}
use Rattle.memory.proofs.Laws.Bit.{zero_bit}
use Rattle.layout.specs.Space.{Put, changed}
use Rattle.layout.specs.Step.{and_then}
use Rattle.layout.proofs.Laws.Step.{changed_append}
use Rattle.layout.specs.Part.{over}
use Rattle.operations.specs.Object.{Obj}
use Rattle.protocol.specs.State.{idle, is_decided}
use Rattle.server.specs.declared.place.Place.{Place}
use Rattle.server.specs.Layout.{places}
use Rattle.nodes.specs.Object.{object_of}
use Rattle.server.specs.Object.{lock_of}
use Rattle.client.specs.Layout.{ClientWord, client_words, phase, prepared}
use Rattle.client.specs.Record.{number}
use Rattle.client.specs.Laws.Ranges.{client_fits}
use Rattle.client.specs.Drops.{drop_used}
use Rattle.client.specs.Life.{reset, abort_part}
use Rattle.steps.specs.declared.sizes.Sizes.{Sizes}
use Rattle.steps.specs.Whole.{Address, server, client, whole}
use Rattle.steps.specs.Judge.{lowest_participant}
use Rattle.steps.specs.Steps.{unlock_each, unlocked_everywhere, aborting}
use Rattle.demand.specs.Ledger.{Ledger, clears}
use Rattle.steps.proofs.Laws.Stores.{client_of, server_of, client_changed, client_else, client_servers}
use Rattle.demand.proofs.Laws.Shows.{phase_of, T, SlotShown, ServerShown, ClientShown, Related}
use Rattle.demand.proofs.Laws.Recorded.{drop_kept, unlock_recorded}
use Rattle.demand.proofs.Laws.Servers.{is_lock, unlock_stays, value_frame, version_frame, table_frame}
use Rattle.demand.proofs.Laws.Everywhere.{every_client, every_server}
use Rattle.demand.proofs.Laws.Dropped.{fewer, fewer_copies, only_used}
use Rattle.demand.proofs.Laws.Kept.{away, related, cleared, cleared_shown}
use Rattle.protocol.specs.Machine as P
use Rattle.protocol.specs.Moves as Mv

-- an open transaction and one that commits are undecided
first_phases : (is_decided (phase_of 1) ≡ false) × (is_decided (phase_of 2) ≡ false)
unfolding phase_of
first_phases = (refl, refl)

-- ---- what an abort stores: at every server where the client is prepared its locks go, then its part begins anew; us came into use in the step
module _ (k j slots : ℕ) (m : Address → ℕ) (c : ℕ) (us : List ℕ) where
  abbrev z₀ : Sizes
  z₀ = record { servers = suc k; slots = slots; clients = suc j }

  abbrev u₀ : ClientWord → ℕ
  u₀ = client_of m c

  abbrev unlocks : ℕ → List (Put Place)
  unlocks t = unlock_each u₀ c (lowest_participant z₀ m c) t (server_of m t)

  -- what is unlocked at a server
  abbrev pub given_back : ℕ → List (Put Place)
  given_back t = cond (bit (u₀ prepared) t) (unlocks t) []

  abbrev f₀ : ℕ → List (Put Address)
  f₀ t = cond (bit (u₀ prepared) t) (over (server t) (unlocks t)) []

  same_stores : (t : ℕ) → f₀ t ≡ over (server t) (given_back t)
  unfolding over
  same_stores t = go (bit (u₀ prepared) t)
    where
      go : (b : Bool) → cond b (over (server t) (unlocks t)) [] ≡ over (server t) (cond b (unlocks t) [])
      go true = refl
      go false = refl

  abbrev n₀ : Address → ℕ
  n₀ = changed whole m (unlocked_everywhere z₀ m c)

  abbrev ends : List (Put ClientWord)
  ends = abort_part us u₀

  abbrev pub aborted : Address → ℕ
  aborted = changed whole m (aborting z₀ m c us)

  aborted_is : aborted ≡ changed whole n₀ (over (client c) ends)
  aborted_is = changed_append whole (unlocked_everywhere z₀ m c) (over (client c) ends) m

  clients_stay : (d : ℕ) → client_of n₀ d ≡ client_of m d
  clients_stay d = every_client m f₀ given_back same_stores 8 d

  pub aborted_client : client_of aborted c ≡ changed client_words u₀ (abort_part us u₀)
  aborted_client =
      ap (λ (g : Address → ℕ). client_of g c) aborted_is ∙ client_changed n₀ c ends ∙ ap (λ (v : ClientWord → ℕ). changed client_words v ends) (clients_stay c)

  pub aborted_others : (d : ℕ) → ¬ (d ≡ c) → client_of aborted d ≡ client_of m d
  aborted_others d n = ap (λ (g : Address → ℕ). client_of g d) aborted_is ∙ client_else n₀ c ends d n ∙ clients_stay d

  pub aborted_server : (s : ℕ) → s < 8 → server_of aborted s ≡ changed places (server_of m s) (given_back s)
  aborted_server s l =
      ap (λ (g : Address → ℕ). server_of g s) aborted_is ∙ client_servers n₀ c ends s ∙ every_server m f₀ given_back same_stores 8 s l

-- what is prepared anywhere is after its commit
pub prepared_late : (k j slots : ℕ) (u : ClientWord → ℕ) (y : P.Slot (T k j slots)) → SlotShown k j slots u y → (s : ℕ) → bit (u prepared) s ≡ true
    → (u phase ≡ 1) ⊎ (u phase ≡ 2) → 2 ≤ u phase
prepared_late k j slots u y shown s b (inr e) = omega (arith, e)
prepared_late k j slots u y shown s b (inl e) = absurd (not_both b (ap (λ (w : ℕ). bit w s) (shown.calm (omega (arith, e))) ∙ zero_bit s))

-- ---- ABORT
module _ (k j slots : ℕ) (al : slots ≤ 1024) (few : suc j ≤ 16) (m : Address → ℕ) (L : Ledger) (M : P.Machine (T k j slots)) (c : Fin (suc j)) (R : Related k j slots m L M) (fit : client_fits slots (client_of m c.0) ≡ true) where
  abbrev z : Sizes
  z = record { servers = suc k; slots = slots; clients = suc j }

  abbrev u : ClientWord → ℕ
  u = client_of m c.0

  abbrev y : P.Slot (T k j slots)
  y = M.slots c

  abbrev shown : SlotShown k j slots u y
  shown = (R.clients c).slot

  abbrev low : ℕ
  low = lowest_participant z m c.0

  abbrev locks : Fin 8 → Obj → P.Lock (T k j slots)
  locks s o = Mv.drop (T k j slots) c (M.lock s o)

  abbrev M₀ : P.Machine (T k j slots)
  M₀ = Mv.cleared (T k j slots) M c idle

  abbrev pub M₁ : P.Machine (T k j slots)
  M₁ = P.turned (T k j slots) M₀ M₀.slots locks M₀.said M₀.log

  module _ (us : List ℕ) (undecided : (u phase ≡ 1) ⊎ (u phase ≡ 2)) where
    abbrev m' : Address → ℕ
    m' = aborted k j slots m c.0 us

    reached₁ : Mv.Reached (T k j slots) M₁
    reached₁ =
        Mv.moved (Mv.moved R.reached (Mv.aborts c (ap is_decided (sym shown.phase_as) ∙ go undecided)))
        (Mv.releases locks (λ s o. Mv.given_back c (ap (λ (w : P.Slot (T k j slots)). w.prepared s && not (w.applied s)) (upd_same (Fin-discrete (suc j)) M.slots c (P.blank (T k j slots) idle)))))
      where
        go : (u phase ≡ 1) ⊎ (u phase ≡ 2) → is_decided (phase_of (u phase)) ≡ false
        go (inl e) = ap (λ (n : ℕ). is_decided (phase_of n)) e ∙ first_phases.0
        go (inr e) = ap (λ (n : ℕ). is_decided (phase_of n)) e ∙ first_phases.1

    server_shown : (s : Fin 8) → ServerShown k j slots (server_of m' s.0) s (M.value s) (M.version s) (M.table s) (locks s)
    unfolding changed
    server_shown s =
        subst (λ (p : Place → ℕ). ServerShown k j slots p s (M.value s) (M.version s) (M.table s) (locks s))
        (sym (aborted_server k j slots m c.0 us s.0 s.1))
        (by (bit (u prepared) s.0) refl)
      where
        p : Place → ℕ
        p = server_of m s.0

        S : ServerShown k j slots p s (M.value s) (M.version s) (M.table s) (M.lock s)
        S = R.servers s

        by : (b : Bool) → bit (u prepared) s.0 ≡ b
            → ServerShown k j slots (changed places p (cond b (unlock_each u c.0 low s.0 p) [])) s (M.value s) (M.version s) (M.table s) (locks s)
        by false e = record {
          value_as = S.value_as;
          version_as = S.version_as;
          table_as = S.table_as;
          lock_as = λ o i q. drop_kept k j slots few c (M.lock s o) (p (lock_of (object_of (number o)))) (S.lock_as o i q);
        }
        by true e = record {
          value_as = λ o i q. S.value_as o i q ∙ sym (value_frame k j slots p p₁ kept o);
          version_as = λ o i q. S.version_as o i q ∙ sym (version_frame k j slots p p₁ kept o);
          table_as = λ o i q. S.table_as o i q ∙ sym (table_frame k j slots p p₁ kept o);
          lock_as = λ o i q. unlock_recorded k j slots al few c u fit y shown s low el p o i q (M.lock s o) (S.lock_as o i q);
        }
          where
            el : y.lowest.0 ≡ low
            el = shown.lowest_as (prepared_late k j slots u y shown s.0 e undecided)

            p₁ : Place → ℕ
            p₁ = changed places p (unlock_each u c.0 low s.0 p)

            kept : (a : Place) → is_lock a ≡ false → p₁ a ≡ p a
            kept a h = unlock_stays u low s.0 p a h c.0

    -- ---- the client's part, and the whole
    abbrev dropped : ClientWord → ℕ
    dropped = changed client_words u (drop_used us u)

    own_words : client_of m' c.0 ≡ cleared k j slots dropped 0
    unfolding and_then
    own_words = aborted_client k j slots m c.0 us ∙ changed_append client_words (drop_used us u) (reset 0 dropped) u

    pub abort_others : (d : Fin (suc j)) → ¬ (d ≡ c) → client_of m' d.0 ≡ client_of m d.0
    abort_others d n = aborted_others k j slots m c.0 us d.0 (away k j slots c d n)

    pub abort_kept : Related k j slots m' (clears L c.0) M₁
    unfolding phase_of
    abort_kept =
        related k j slots m m' L (clears L c.0) M M₁ c R reached₁
        (record {
          part = abort_others;
          given = λ d n. refl;
          undecided = λ d n. upd_other ℕ_discrete L.undecided c.0 [] d.0 (away k j slots c d n);
          slots_same = λ d n. upd_other (Fin-discrete (suc j)) M.slots c (P.blank (T k j slots) idle) d n;
          copy_same = λ d n. refl;
          said_same = λ d n. upd_other (Fin-discrete (suc j)) M.said c [] d n;
        })
        (subst (λ (v : ClientWord → ℕ). ClientShown k j slots v (L.given c.0) ((clears L c.0).undecided c.0) (M₁.slots c) (M.copy c) (M₁.said c)) (sym own_words)
        (cleared_shown k j slots M c 0 (omega arith) (L.given c.0) ((clears L c.0).undecided c.0) dropped
        (fewer_copies k j slots u dropped (M.copy c) (fewer (drop_used us u) u (only_used us u)) (R.clients c).copies) (λ n. absurd (n refl))))
        server_shown
        R.log_as
