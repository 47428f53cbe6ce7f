-- THE THEOREMS: from a newly opened store no step is refused by 10, and DEMAND 3. Every step leads from a good state to a good one and leaves a sound
-- store; so applies that are due are taken, and then the tree is read.
use Rattle.layout.specs.Space.{changed}
use Rattle.std.specs.Prelude.{◌≡◌, Bool, true, false, cond, ◌⊎◌, ℕ, zero, suc, ◌≤◌, ◌<◌}
use Rattle.std.proofs.Common.{ap, sym, ◌∙◌, inl, inr, arith}
use Rattle.std.proofs.Math.Path.{subst}
use mathlib.Core.List.{List, [], ◌∷◌, ◌++◌}
use Rattle.plans.specs.Walk.{Every}
use Rattle.steps.specs.declared.sizes.Sizes.{Sizes}
use Rattle.steps.specs.declared.step.Step.{Step}
use Rattle.steps.specs.declared.step.Kind.TheVariants.{Apply}
use Rattle.steps.specs.declared.outcome.Outcome.TheVariants.{Applied, Committed}
use Rattle.steps.specs.Whole as W
use Rattle.steps.specs.Whole.{Address, whole}
use Rattle.steps.specs.Refusal.{state_fits}
use Rattle.steps.proofs.Laws.Stores.{client_of}
use Rattle.steps.specs.Steps.{Did, all_applied, step}
use Rattle.steps.specs.Run.{opened}
use Rattle.steps.specs.Taken.{Words, Taken, steps_of, LeadsBy, Leads}
use Rattle.steps.proofs.Laws.Taken.{parted}
use Rattle.demand.specs.Ledger.{Ledger, blank, note, ledger_from, decided_in, map_all}
use Rattle.demand.specs.Demand as D
use Rattle.demand.proofs.Laws.Turns.{store, Explained}
use Rattle.demand.proofs.Laws.Applies.{applied_outcome}
use Rattle.demand.proofs.Laws.ByKind.{step_after}
use Rattle.demand.proofs.Laws.Theorem as Th
use Rattle.demand.proofs.Laws.Done.{due_applied, applies_note, applies_done, apply_roomy}
use Rattle.ranges.specs.Claim as C
use Rattle.ranges.specs.Laws.Sound.{SoundStore}
use Rattle.ranges.proofs.Laws.Servers.{first_sound}
use Rattle.ranges.proofs.Laws.Sets.{part_fits}
use Rattle.ranges.proofs.Laws.Kinds.{step_kept}

module _ (k j slots : ℕ) (size : suc k ≤ 8) (al : slots ≤ 1024) (few : suc j ≤ 16) where
  -- what holds of memory and ledger wherever steps lead
  pub record State (m : Address → ℕ) (L : Ledger) : Type 0 where
    pub explained : Explained k j slots m L
    pub sound : SoundStore k j slots m

  pub record Led (h : List Taken) (m' : Address → ℕ) (L' : Ledger) : Type 0 where
    pub state : State m' L'
    pub accepted : Every (λ (t : Taken). C.NotRefusedBy10 t.outcome) h

  led : (h : List Taken) (m m' : Address → ℕ) (L : Ledger) → Leads (store k j slots) m h m' → State m L → Led h m' (ledger_from L h)
  unfolding LeadsBy Every ledger_from
  led [] m m' L p e = record { state = subst (λ (u : Address → ℕ). State u L) (sym p) e; accepted = tt }
  led (t ∷ h) m m' L p e =
      let x = e.explained in
      let K = step_kept k j slots size al few m e.sound L x.machine x.good t.step p.0 t.room in
      let d = step (store k j slots) t.step t.room m in
      let next : State (changed whole m d.stores) (note L t.step t.left t.outcome) = record {
        explained = coe 1 0 (i. Explained k j slots (changed whole m d.stores) (note L t.step (p.2 i) (p.1 i)))
            (step_after k j slots size al few m L x.machine x.good t.step t.lent t.room p.0.key
            (λ l. part_fits slots (client_of m t.step.client) (e.sound.parts (t.step.client, l))));
        sound = K.sound;
      } in
      let rest = led h (changed whole m d.stores) m' (note L t.step t.left t.outcome) p.3 next in
      record { state = rest.state; accepted = (subst C.NotRefusedBy10 (sym p.1) K.passes, rest.accepted) }

  module _ (some_slot : 1 ≤ slots) where
    abbrev New : List Taken → (Address → ℕ) → Type 0
    New h m = Leads (store k j slots) (opened (store k j slots)) h m

    from_new : (h : List Taken) (m : Address → ℕ) → New h m → Led h m (ledger_from blank h)
    from_new h m p = led h (opened (store k j slots)) m blank p (record { explained = Th.opened_explained k j slots al few; sound = first_sound k j slots some_slot size })

    -- where all applies were taken after the steps `before`
    settled : (before ts : List Taken) (m : Address → ℕ) → New (before ++ ts) m → D.Applies (store k j slots) (steps_of ts) → D.Tree m (map_all (decided_in before))
    settled before ts m p applies =
        let q = parted (store k j slots) before ts (opened (store k j slots)) m p in
        let L = ledger_from blank before in
        let rest = led ts q.between m L q.then (from_new before q.between q.first).state in
        let same = applies_note (store k j slots) ts q.between m L q.then applies.only in
        Th.tree k j slots al few m L (subst (Explained k j slots m) same rest.state.explained) some_slot
        (λ c s l r. applies_done (store k j slots) ts q.between m q.then applies.only rest.accepted c s l r (applies.each c s l r))

    demanded : (h : List Taken) (m : Address → ℕ) → New h m → D.Demand (store k j slots) h m
    demanded h m p = record {
      answers = Th.answers k j slots al few m (ledger_from blank h) (from_new h m p).state.explained;
      tree = λ before ts e. settled before ts m (subst (λ (x : List Taken). New x m) e p);
    }

    due : (h : List Taken) (m : Address → ℕ) → New h m → (n : Step) → Words n → n.kind ≡ 5 → n.client < suc j → n.server < 8
        → state_fits (client_of m n.client) n.server Apply ≡ true → (room : ℕ) → ((step (store k j slots) n room m).outcome ≡ Applied n.server) ⊎ ((step (store k j slots) n room m).outcome ≡ Committed)
    due h m p n w five c s f room =
        let e = (from_new h m p).state in
        let K = step_kept k j slots size al few m e.sound (ledger_from blank h) e.explained.machine e.explained.good n w room in
        let roomy = apply_roomy (store k j slots) m n five room in
        go (all_applied (store k j slots) m n.client n.server)
        (ap (λ (d : Did). d.outcome) (roomy ∙ due_applied (store k j slots) m n five c s f (λ q. K.passes (ap (λ (d : Did). d.outcome) roomy ∙ q))) ∙ applied_outcome (store k j slots) m n.client n.server)
      where
        go : (b : Bool) → (step (store k j slots) n room m).outcome ≡ cond b Committed (Applied n.server)
            → ((step (store k j slots) n room m).outcome ≡ Applied n.server) ⊎ ((step (store k j slots) n room m).outcome ≡ Committed)
        go true q = inr q
        go false q = inl q

-- whatever the sizes: there is a server and a client
with_sizes : (P : Sizes → Type 0) → ((k j slots : ℕ) → suc k ≤ 8 → slots ≤ 1024 → suc j ≤ 16 → 1 ≤ slots → P (store k j slots))
    → (servers slots clients : ℕ) → W.Allowed (record { servers = servers; slots = slots; clients = clients }) → P (record { servers = servers; slots = slots; clients = clients })
with_sizes P f zero slots clients a = absurd (omega (arith, a.servers.0))
with_sizes P f (suc k) slots zero a = absurd (omega (arith, a.clients.0))
with_sizes P f (suc k) slots (suc j) a = f k j slots a.servers.1 a.slots.1 a.clients.1 a.slots.0

pub never_refused_by_10 : C.NeverRefusedBy10
never_refused_by_10 z a h m p =
    with_sizes (λ (x : Sizes). Leads x (opened x) h m → Every (λ (t : Taken). C.NotRefusedBy10 t.outcome) h) (λ k j slots size al few some q. (from_new k j slots size al few some h m q).accepted)
    z.servers z.slots z.clients a p

pub due_is_applied : C.DueIsApplied
due_is_applied z a h m p n w five c s f room =
    with_sizes (λ (x : Sizes). Leads x (opened x) h m → n.client < x.clients → n.server < 8 → ((step x n room m).outcome ≡ Applied n.server) ⊎ ((step x n room m).outcome ≡ Committed))
    (λ k j slots size al few some q c s. due k j slots size al few some h m q n w five c s f room) z.servers z.slots z.clients a p c s

-- DEMAND 3
pub demand_3 : D.Demand3
demand_3 z a h m p =
    with_sizes (λ (x : Sizes). Leads x (opened x) h m → D.Demand x h m) (λ k j slots size al few some. demanded k j slots size al few some h m) z.servers z.slots z.clients a p
