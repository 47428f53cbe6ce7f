-- THE THIRD TRAP: "Starting a reused slot's version afresh." Client true reads leaf false at version 0. Client false empties it (0 stands for
-- a free node) and then uses it again, for 7, where the version starts again from 0. What client true read passes its check, and it answers 1.
use Rattle.std.specs.Prelude.{◌≡◌, refl, Bool, true, false, cond, List, [], ◌∷◌, suc}
use Rattle.std.proofs.Math.Decide.{ℕ_discrete}
use Rattle.base.specs.Test.{yes?}
use Rattle.base.specs.Update.{upd}
use Rattle.plans.specs.Plan.{exec, Asked}
use Rattle.protocol.specs.Writes.{writes?, latest}
use Rattle.protocol.specs.Lists.{all, any}
use Rattle.protocol.specs.State.{decided, Entry}
use Rattle.protocol.specs.Meaning.{Shown, map_of, map_all, Right, RightAll}
use Rattle.protocol.specs.Machine.{Machine, find}
use Rattle.protocol.specs.Moves.{releases, given_back, first_of, stored_at, begins, fetches, answers, commits, prepares, decides, applies, ends, Reached}
use Rattle.protocol.proofs.Laws.Variant.{ReachedWith, at_start, by_rule, also, never}
use Rattle.protocol.proofs.Laws.Example.{root, leaf, look, put, tiny, leaves, one, one≢seven}

-- an apply as the rules have it, but that the version of what was free becomes 0
data Afresh (m : Machine tiny) : Machine tiny → Type 0 where
  applies_afresh : (c s : Bool) → (m.slots c).phase ≡ decided → (m.slots c).applied s ≡ false
      → Afresh m (stored_at tiny (λ i. cond (yes? (ℕ_discrete i.old 0)) 0 (suc i.version)) m c s)

abbrev emptied : Entry tiny
emptied = record { op = put false false 0; result = (1, (leaf false, 0) ∷ []) }

abbrev reused : Entry tiny
reused = record { op = put false false 7; result = (0, (leaf false, 7) ∷ []) }

abbrev looked : Entry tiny
looked = record { op = look (leaf false); result = (1, []) }

abbrev pub outcome : List (List (Shown tiny))
outcome = one (look (leaf false)) 1 ∷ one (put false false 7) 0 ∷ one (put false false 0) 1 ∷ []

abbrev Goes : Machine tiny → Type 0
Goes = ReachedWith tiny Afresh

mistaken : (m : Machine tiny) × Goes m × (m.log ≡ outcome)
unfolding upd exec Asked writes? latest find all any first_of ℕ_discrete
mistaken =
    let r1 : Goes _ = by_rule at_start (begins true refl) in
    let r2 : Goes _ = by_rule r1 (fetches true false (leaf false) refl refl refl) in
    let r3 : Goes _ = by_rule r2 (begins false refl) in
    let r4 : Goes _ = by_rule r3 (fetches false false (leaf false) refl refl refl) in
    let r5 : Goes _ = by_rule r4 (fetches false false root refl refl refl) in
    let r6 : Goes _ = by_rule r5 (answers false emptied refl (refl, (refl, (refl, tt))) refl) in
    let r7 : Goes _ = by_rule r6 (commits false refl refl) in
    let r8 : Goes _ = by_rule r7 (prepares false false refl refl refl refl refl) in
    let r9 : Goes _ = by_rule r8 (decides false refl refl) in
    let r10 : Goes _ = by_rule r9 (applies false false refl refl refl) in
    let r11 : Goes _ = by_rule r10 (ends false refl refl) in
    let r12 : Goes _ = by_rule r11 (releases _ (λ s o. given_back false refl)) in
    let r13 : Goes _ = by_rule r12 (begins false refl) in
    let r14 : Goes _ = by_rule r13 (fetches false false (leaf false) refl refl refl) in
    let r15 : Goes _ = by_rule r14 (fetches false false root refl refl refl) in
    let r16 : Goes _ = by_rule r15 (answers false reused refl (refl, (refl, (refl, tt))) refl) in
    let r17 : Goes _ = by_rule r16 (commits false refl refl) in
    let r18 : Goes _ = by_rule r17 (prepares false false refl refl refl refl refl) in
    let r19 : Goes _ = by_rule r18 (decides false refl refl) in
    let r20 : Goes _ = also r19 (applies_afresh false false refl refl) in
    let r21 : Goes _ = by_rule r20 (ends false refl refl) in
    let r22 : Goes _ = by_rule r21 (releases _ (λ s o. given_back false refl)) in
    let r23 : Goes _ = by_rule r22 (answers true looked refl (refl, tt) refl) in
    let r24 : Goes _ = by_rule r23 (commits true refl refl) in
    let r25 : Goes _ = by_rule r24 (prepares true false refl refl refl refl refl) in
    let r26 : Goes _ = by_rule r25 (decides true refl refl) in
    (_, r26, refl)

-- the last one should have answered 7
wrong : RightAll tiny leaves outcome → ⊥
unfolding RightAll Right map_all map_of upd
wrong h = one≢seven (h.1.1 refl)

-- so it is no run by the rules
pub needed : (m : Machine tiny) → Reached tiny m → m.log ≡ outcome → ⊥
needed = never tiny leaves outcome wrong
