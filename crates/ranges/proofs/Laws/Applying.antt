-- Apply: what servers store, and the end of a transaction.
use Rattle.std.specs.Prelude.{◌≡◌, refl, true}
use Rattle.std.proofs.Common.{sym, arith}
use Rattle.std.proofs.Math.Path.{subst}
use Prim.Native.Nat.{ℕ, suc, ◌≤◌, Fin}
use Rattle.layout.specs.Space.{changed}
use Rattle.layout.specs.Step.{and_then}
use Rattle.layout.proofs.Laws.Step.{changed_append}
use Rattle.server.specs.Layout.{places}
use Rattle.client.specs.Layout.{ClientWord, client_words, phase, applied}
use Rattle.client.specs.Laws.Ranges.{client_fits}
use Rattle.client.specs.Course.{noted}
use Rattle.client.specs.Renew.{finish}
use Rattle.steps.specs.declared.sizes.Sizes.{Sizes}
use Rattle.steps.specs.declared.outcome.Outcome.TheVariants.{Applied, Committed}
use Rattle.steps.specs.Whole.{Address}
use Rattle.steps.specs.Judge.{lowest_participant}
use Rattle.steps.proofs.Laws.Stores.{client_of, server_of}
use Rattle.steps.specs.Steps.{unlock_each, store_all}
use Rattle.demand.specs.Ledger.{Ledger}
use Rattle.demand.proofs.Laws.Shows.{T, Related}
use Rattle.demand.proofs.Laws.Turns.{one_of, store}
use Rattle.ranges.specs.Laws.Sound.{PartSound, ServerSound, SoundStore}
use Rattle.ranges.proofs.Laws.Part.{applied_part, finish_part}
use Rattle.ranges.proofs.Laws.Stored.{apply_sound}
use Rattle.ranges.proofs.Laws.Sets.{part_fits}
use Rattle.ranges.proofs.Laws.Judged.{fits_to_apply}
use Rattle.ranges.proofs.Laws.Unlocks.{apply_locks, last_locks}
use Rattle.ranges.proofs.Laws.Held.{unlock_judged}
use Rattle.ranges.proofs.Laws.Whole.{accepted, Kept, if_kept, both_sound}
use Rattle.protocol.specs.Machine as P
use Rattle.steps.specs.Steps as Steps

module _ (k j slots : ℕ) where
  abbrev z : Sizes
  z = store k j slots

  -- ---- APPLY at the server s
  module _ (al : slots ≤ 1024) (few : suc j ≤ 16) (m : Address → ℕ) (S : SoundStore k j slots m) (L : Ledger) (M : P.Machine (T k j slots)) (R : Related k j slots m L M) (c : Fin (suc j)) (s : Fin 8) (now : client_of m c.0 phase ≡ 3) where
    abbrev u : ClientWord → ℕ
    u = client_of m c.0

    fit : client_fits slots u ≡ true
    fit = part_fits slots u (S.parts c)

    abbrev v : ClientWord → ℕ
    v = changed client_words u (noted applied s.0 u)

    here : ServerSound slots s.0
        (changed places (server_of m s.0) (and_then places (store_all u s.0) (unlock_each u c.0 (lowest_participant z m c.0) s.0) (server_of m s.0)))
    here = apply_sound slots s.0 u (S.parts c).sets (server_of m s.0) (S.servers s) c.0 (lowest_participant z m c.0)

    noted_part : PartSound slots v
    noted_part = applied_part slots u (S.parts c) s.0 s.1

    ended_part : PartSound slots (changed client_words u (and_then client_words (noted applied s.0) finish u))
    unfolding and_then
    ended_part =
        subst (PartSound slots) (sym (changed_append client_words (noted applied s.0 u) (finish v) u)) (finish_part slots v noted_part)

    pub applied_kept : Kept k j slots m (Steps.applied_at z m c.0 s.0)
    unfolding Steps.applied_at
    applied_kept =
        one_of (Kept k j slots m) (Steps.all_applied z m c.0 s.0) _ _
        (λ e. record {
          passes = accepted Committed refl;
          sound = both_sound k j slots m S s c _ _ here ended_part (last_locks k j slots al few m L M c R fit S.locks s now e);
        })
        (λ _. record {
          passes = accepted (Applied s.0) refl;
          sound = both_sound k j slots m S s c _ _ here noted_part (apply_locks k j slots al few m L M c R fit S.locks s now);
        })

    pub apply_kept : Kept k j slots m (Steps.apply z m c.0 s.0)
    unfolding Steps.apply
    apply_kept =
        if_kept k j slots m (Steps.apply_fits z m c.0 s.0) _
        (rw (
          fits_to_apply slots u (S.parts c) s.0 (Steps.all_applied z m c.0 s.0),
          unlock_judged k j slots few m S al c (M.slots c) (R.clients c).slot (omega (arith, now)) s,
        ))
        applied_kept
