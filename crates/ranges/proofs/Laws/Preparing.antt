-- Prepare: the locks, the decision, and with one participant the apply.
use Rattle.std.specs.Prelude.{◌≡◌, refl, Bool, true, false, cond, not, [], map}
use Rattle.std.proofs.Common.{sym, subst, inr, arith}
use Prim.Native.Nat.{ℕ, suc, ◌≤◌, ◌<◌, Fin}
use Rattle.std.proofs.lemmas.Bool.{not-false}
use Rattle.std.proofs.Math.Dec.{eqb}
use Rattle.memory.specs.Bit.{bit}
use Rattle.layout.specs.Space.{changed}
use Rattle.layout.specs.Part.{over}
use Rattle.layout.proofs.Laws.Step.{changed_append}
use Rattle.server.specs.Check.{held, checked, finding_number}
use Rattle.client.specs.declared.part.Set.TheVariants.{Reads}
use Rattle.client.specs.Sets.{count, record_at, number_at}
use Rattle.client.specs.Layout.{ClientWord, phase, participants, prepared}
use Rattle.client.specs.Course.{noted, decided}
use Rattle.client.specs.Fits.{fit_to_prepare, fit_to_apply}
use Rattle.client.specs.Laws.Ranges.{client_fits}
use Rattle.steps.specs.declared.sizes.Sizes.{Sizes}
use Rattle.steps.specs.declared.outcome.Outcome.TheVariants.{Prepared, Decided}
use Rattle.steps.specs.Whole.{Address, client, whole}
use Rattle.steps.specs.Judge.{lowest_participant}
use Rattle.steps.proofs.Laws.Stores.{client_of, server_of}
use Rattle.steps.specs.Servers.{there}
use Rattle.steps.specs.Steps.{lock_each}
use Rattle.steps.specs.Uses.{read_item, checked_at, locked_at}
use Rattle.demand.specs.Ledger.{Ledger, notes_decision}
use Rattle.demand.proofs.Laws.Shows.{T}
use Rattle.demand.proofs.Laws.Turns.{one_of, store, Good}
use Rattle.ranges.specs.Laws.Sound.{SoundStore}
use Rattle.ranges.proofs.Laws.Lists.{every_map, every_each}
use Rattle.ranges.proofs.Laws.Sets.{part_fits}
use Rattle.ranges.proofs.Laws.Judged.{fits_to_prepare, fits_to_apply}
use Rattle.ranges.proofs.Laws.Part.{prepared_part, decided_part}
use Rattle.ranges.proofs.Laws.Servers.{lock_each_sound}
use Rattle.ranges.proofs.Laws.Locks.{prepare_locks, decided_locks}
use Rattle.ranges.proofs.Laws.Held.{kinds_judged, item_judged}
use Rattle.ranges.proofs.Laws.Whole.{accepted, Kept, if_kept, finding_kept, client_sound, both_sound}
use Rattle.ranges.proofs.Laws.Undecided.{abort_kept}
use Rattle.ranges.proofs.Laws.Applying.{applied_kept}
use Rattle.protocol.specs.Machine as P
use Rattle.steps.specs.Steps as Steps
use Rattle.steps.specs.Uses as U
use Rattle.demand.proofs.Laws.Decides as D
use Rattle.ranges.proofs.Laws.Checks as Checks

module _ (k j slots : ℕ) (al : slots ≤ 1024) (few : suc j ≤ 16) where
  abbrev z : Sizes
  z = store k j slots

  -- ---- PREPARE at the server s
  module _ (m : Address → ℕ) (S : SoundStore k j slots m) (L : Ledger) (M : P.Machine (T k j slots)) (G : Good k j slots m L M) (c : Fin (suc j)) (s : Fin 8) (now : client_of m c.0 phase ≡ 2) (takes_part : bit (client_of m c.0 participants) s.0 ≡ true) (new : bit (client_of m c.0 prepared) s.0 ≡ false) where
    abbrev u : ClientWord → ℕ
    u = client_of m c.0

    abbrev low : ℕ
    low = lowest_participant z m c.0

    fit : client_fits slots u ≡ true
    fit = part_fits slots u (S.parts c)

    -- what a prepare reads of each object is in range, so none comes to a refusal
    abbrev Passes : U.Item → Type 0
    Passes i = eqb (Steps.prepare_finding z m c.0 s.0 i).1 10 ≡ false

    item_passes : (n : ℕ) → n < count u Reads → Passes (read_item u n)
    unfolding U.item_of number_at
    item_passes n l = rw (kinds_judged k j slots few m S al c (M.slots c) (G.shown.clients c).slot n l) (go (locked_at low s.0 i) refl)
      where
        i : U.Item
        i = read_item u n

        found : ℕ
        found = finding_number (checked (U.item_object i) i.inner_read i.mark c.0 (U.use_of i) (server_of m s.0))

        held_by : ℕ
        held_by = cond (held (U.item_object i) c.0 (U.use_of i) (server_of m s.0)) 2 0

        at_hand : (t : Bool) → checked_at low s.0 i ≡ t → eqb (cond t found held_by) 10 ≡ false
        at_hand true h =
            let I = (S.parts c).sets.read n l in
            Checks.prepare_judged slots s.0 (server_of m s.0) (S.servers s) i low c.0 I.inside
            (Checks.mark_judged slots u (number_at u Reads n) (record_at u Reads n) I.sound) h
        at_hand false h = by (held (U.item_object i) c.0 (U.use_of i) (server_of m s.0))
          where
            by : (b : Bool) → eqb (cond b 2 0) 10 ≡ false
            by true = refl
            by false = refl

        go : (b : Bool) → locked_at low s.0 i ≡ b → eqb (cond b (Steps.prepare_reason z m c.0 s.0 i) 0) 10 ≡ false
        go false e = refl
        go true e =
            rw (item_judged k j slots few m S al c (M.slots c) (G.shown.clients c).slot (omega (arith, now)) s n l e) (at_hand (checked_at low s.0 i) refl)

    found_judged : eqb (U.deciding (map (Steps.prepare_finding z m c.0 s.0) (U.read_items u))) 10 ≡ false
    unfolding U.read_items
    found_judged =
        Checks.deciding_judged (map (Steps.prepare_finding z m c.0 s.0) (U.read_items u))
        (every_map Passes (λ f. eqb f.1 10 ≡ false) (Steps.prepare_finding z m c.0 s.0) (λ i h. h) (U.read_items u)
        (every_each Passes (count u Reads) (read_item u) item_passes))

    abbrev m₁ : Address → ℕ
    m₁ = changed whole m (Steps.preparing z m c.0 s.0)

    prepared_sound : SoundStore k j slots m₁
    prepared_sound =
        both_sound k j slots m S s c (lock_each u c.0 low s.0 (server_of m s.0)) (noted prepared s.0 u)
        (lock_each_sound slots s.0 u c.0 low s.0 (server_of m s.0) (S.servers s))
        (prepared_part slots u (S.parts c) s.0 s.1) (prepare_locks k j slots al few m L M c G.shown fit s now takes_part S.locks)

    module _ (attends : there m s.0 ≡ true) (fine : U.deciding (map (Steps.prepare_finding z m c.0 s.0) (U.read_items u)) ≡ 0) (all : Steps.all_prepared z m c.0 s.0 ≡ true) where
      abbrev m₂ : Address → ℕ
      m₂ = changed whole m (Steps.deciding_stores z m c.0 s.0)

      m₂_is : m₂ ≡ changed whole m₁ (over (client c.0) (decided (client_of m₁ c.0)))
      unfolding decided
      m₂_is = changed_append whole (Steps.preparing z m c.0 s.0) (over (client c.0) (decided u)) m

      decided_sound : SoundStore k j slots m₂
      decided_sound =
          subst (SoundStore k j slots) (sym m₂_is)
          (client_sound k j slots m₁ prepared_sound c (decided (client_of m₁ c.0)) (decided_part slots (client_of m₁ c.0) (prepared_sound.parts c))
          (decided_locks k j slots m₁ c.0 prepared_sound.locks))

      -- with one participant it also applies
      alone : Kept k j slots m (Steps.then m (Steps.deciding_stores z m c.0 s.0) (λ m₃. Steps.applied_at z m₃ c.0 s.0))
      alone =
          let K = applied_kept k j slots al few m₂ decided_sound (notes_decision L c.0) (D.M₂ k j slots al few m L M c G fit s now new attends fine all)
          (D.decide_good k j slots al few m L M c G fit s now new attends fine all).shown c s (D.now₂ k j slots al few m L M c G fit s now new attends fine all) in
          record {
            passes = K.passes;
            sound = subst (SoundStore k j slots)
                (sym (changed_append whole (Steps.deciding_stores z m c.0 s.0) (Steps.applied_at z m₂ c.0 s.0).stores m)) K.sound;
          }

    pub prepare_kept : Kept k j slots m (Steps.prepare z m c.0 s.0)
    unfolding Steps.prepare Steps.prepared_at
    prepare_kept =
        let found = U.deciding (map (Steps.prepare_finding z m c.0 s.0) (U.read_items u)) in
        let every = Steps.all_prepared z m c.0 s.0 in
        if_kept k j slots m (fit_to_prepare slots u) _ (fits_to_prepare slots u (S.parts c))
        (one_of (Kept k j slots m) (there m s.0) _ _
        (λ here. finding_kept k j slots m found (Steps.prepared_at z m c.0 s.0) (λ y. Steps.abort z m c.0 y []) found_judged
        (λ q. one_of (Kept k j slots m) (not every) _ _ (λ _. record { passes = accepted (Prepared s.0) refl; sound = prepared_sound })
        (λ e. one_of (Kept k j slots m) (Steps.only z m c.0 s.0) _ _
        (λ _. if_kept k j slots m (fit_to_apply slots u s.0 true) _ (fits_to_apply slots u (S.parts c) s.0 true) (alone here q (not-false every e)))
        (λ _. record { passes = accepted Decided refl; sound = decided_sound here q (not-false every e) })))
        (abort_kept k j slots m S c al few L M G.shown (inr now) found []))
        (λ _. abort_kept k j slots m S c al few L M G.shown (inr now) 1 []))
