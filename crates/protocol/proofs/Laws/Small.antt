-- A small run of the machine, with every test by computation: a client puts a number into the leaf of server false, whose prepare decides
-- alone. Then it gives the root a new number, which both servers prepare, and which has been applied at one of them only.
use Rattle.std.specs.Prelude.{◌≡◌, refl, true, false, [], ◌∷◌}
use Rattle.std.proofs.Math.Decide.{ℕ_discrete}
use Rattle.base.specs.Update.{upd}
use Rattle.plans.specs.Plan.{exec, Asked}
use Rattle.protocol.specs.Writes.{writes?, latest}
use Rattle.protocol.specs.Lists.{all, any}
use Rattle.protocol.specs.State.{Entry}
use Rattle.protocol.specs.Replay.{settled}
use Rattle.protocol.specs.Machine.{Machine, unlocked, find}
use Rattle.protocol.specs.Moves.{releases, given_back, first_of, begins, fetches, answers, commits, prepares, decides, applies, ends, Reached, at_first, moved}
use Rattle.protocol.specs.Claim.{due_in, Claim}
use Rattle.protocol.proofs.Laws.Claim.{claim}
use Rattle.protocol.proofs.Laws.Example.{root, leaf, put, turn, tiny, leaves, one}

abbrev put_seven : Entry tiny
put_seven = record { op = put false false 7; result = (1, (leaf false, 7) ∷ []) }

abbrev turn_five : Entry tiny
turn_five = record { op = turn 5; result = (1, (root, 5) ∷ []) }

run : (m : Machine tiny) × Reached tiny m × (m.log ≡ one (turn 5) 1 ∷ one (put false false 7) 1 ∷ [])
    × (m.value false (leaf false) ≡ 7) × (m.version false (leaf false) ≡ 1) × (m.lock false (leaf false) ≡ unlocked tiny)
    × (m.value false root ≡ 5) × (m.table false root ≡ 1) × (m.value true root ≡ 1) × (due_in tiny m true root ≡ 5)
unfolding upd exec Asked writes? latest find all any first_of settled ℕ_discrete
run =
    let r1 : Reached tiny _ = moved at_first (begins false refl) in
    let r2 : Reached tiny _ = moved r1 (fetches false false (leaf false) refl refl refl) in
    let r3 : Reached tiny _ = moved r2 (fetches false false root refl refl refl) in
    let r4 : Reached tiny _ = moved r3 (answers false put_seven refl (refl, (refl, (refl, tt))) refl) in
    let r5 : Reached tiny _ = moved r4 (commits false refl refl) in
    let r6 : Reached tiny _ = moved r5 (prepares false false refl refl refl refl refl) in
    let r7 : Reached tiny _ = moved r6 (decides false refl refl) in
    let r8 : Reached tiny _ = moved r7 (applies false false refl refl refl) in
    let r9 : Reached tiny _ = moved r8 (ends false refl refl) in
    let r10 : Reached tiny _ = moved r9 (releases _ (λ s o. given_back false refl)) in
    let r11 : Reached tiny _ = moved r10 (begins false refl) in
    let r12 : Reached tiny _ = moved r11 (fetches false true root refl refl refl) in
    let r13 : Reached tiny _ = moved r12 (answers false turn_five refl (refl, tt) refl) in
    let r14 : Reached tiny _ = moved r13 (commits false refl refl) in
    let r15 : Reached tiny _ = moved r14 (prepares false true refl refl refl refl refl) in
    let r16 : Reached tiny _ = moved r15 (prepares false false refl refl refl refl refl) in
    let r17 : Reached tiny _ = moved r16 (decides false refl refl) in
    let r18 : Reached tiny _ = moved r17 (applies false false refl refl refl) in
    (_, r18, refl, refl, refl, refl, refl, refl, refl, refl)

-- and the claim holds of it
claimed : Claim tiny leaves run.0
claimed = claim tiny leaves run.1
