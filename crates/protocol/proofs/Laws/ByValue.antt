-- "flags by value": what was changed and changed back since it was read passes its check, and the order of decision explains all answers.
-- Client true looks at the leaf of server true, which holds 1; client false puts 7 there and then 1 again; then client true commits.
use Rattle.std.specs.Prelude.{◌≡◌, refl, true, false, [], ◌∷◌}
use Rattle.std.proofs.Math.Decide.{ℕ_discrete}
use Rattle.base.specs.Update.{upd}
use Rattle.plans.specs.Plan.{exec, Asked}
use Rattle.protocol.specs.Writes.{writes?, latest}
use Rattle.protocol.specs.Lists.{all, any}
use Rattle.protocol.specs.State.{Entry}
use Rattle.protocol.specs.Machine.{Machine, find}
use Rattle.protocol.specs.Moves.{releases, given_back, first_of, begins, fetches, answers, commits, prepares, decides, applies, ends, Reached, at_first, moved}
use Rattle.protocol.specs.Claim.{Claim}
use Rattle.protocol.proofs.Laws.Claim.{claim}
use Rattle.protocol.proofs.Laws.Example.{root, leaf, look, put, tiny, leaves, one}

abbrev changed : Entry tiny
changed = record { op = put true true 7; result = (1, (leaf true, 7) ∷ []) }

abbrev back : Entry tiny
back = record { op = put true true 1; result = (7, (leaf true, 1) ∷ []) }

abbrev looked : Entry tiny
looked = record { op = look (leaf true); result = (1, []) }

run : (m : Machine tiny) × Reached tiny m × (m.log ≡ one (look (leaf true)) 1 ∷ one (put true true 1) 7 ∷ one (put true true 7) 1 ∷ [])
unfolding upd exec Asked writes? latest find all any first_of ℕ_discrete
run =
    let r1 : Reached tiny _ = moved at_first (begins true refl) in
    let r2 : Reached tiny _ = moved r1 (fetches true true (leaf true) refl refl refl) in
    let r3 : Reached tiny _ = moved r2 (answers true looked refl (refl, tt) refl) in
    let r4 : Reached tiny _ = moved r3 (begins false refl) in
    let r5 : Reached tiny _ = moved r4 (fetches false true (leaf true) refl refl refl) in
    let r6 : Reached tiny _ = moved r5 (fetches false false root refl refl refl) in
    let r7 : Reached tiny _ = moved r6 (answers false changed refl (refl, (refl, (refl, tt))) refl) in
    let r8 : Reached tiny _ = moved r7 (commits false refl refl) in
    let r9 : Reached tiny _ = moved r8 (prepares false true refl refl refl refl refl) in
    let r10 : Reached tiny _ = moved r9 (decides false refl refl) in
    let r11 : Reached tiny _ = moved r10 (applies false true refl refl refl) in
    let r12 : Reached tiny _ = moved r11 (ends false refl refl) in
    let r13 : Reached tiny _ = moved r12 (releases _ (λ s o. given_back false refl)) in
    let r14 : Reached tiny _ = moved r13 (begins false refl) in
    let r15 : Reached tiny _ = moved r14 (fetches false true (leaf true) refl refl refl) in
    let r16 : Reached tiny _ = moved r15 (fetches false false root refl refl refl) in
    let r17 : Reached tiny _ = moved r16 (answers false back refl (refl, (refl, (refl, tt))) refl) in
    let r18 : Reached tiny _ = moved r17 (commits false refl refl) in
    let r19 : Reached tiny _ = moved r18 (prepares false true refl refl refl refl refl) in
    let r20 : Reached tiny _ = moved r19 (decides false refl refl) in
    let r21 : Reached tiny _ = moved r20 (applies false true refl refl refl) in
    let r22 : Reached tiny _ = moved r21 (ends false refl refl) in
    let r23 : Reached tiny _ = moved r22 (releases _ (λ s o. given_back false refl)) in
    let r24 : Reached tiny _ = moved r23 (commits true refl refl) in
    let r25 : Reached tiny _ = moved r24 (prepares true true refl refl refl refl refl) in
    let r26 : Reached tiny _ = moved r25 (decides true refl refl) in
    (_, r26, refl)

claimed : Claim tiny leaves run.0
claimed = claim tiny leaves run.1
