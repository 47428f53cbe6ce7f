-- A transaction without participants is decided unchecked, and its answer need not be the newest: so it is not compared. Client true looks
-- at the root; client false gives the root a new number and is decided; then client true answers from what it read, commits and is decided.
use Rattle.std.specs.Prelude.{◌≡◌, refl, true, false, [], ◌∷◌}
use Rattle.std.proofs.Math.Decide.{ℕ_discrete}
use Rattle.base.specs.Update.{upd}
use Rattle.plans.specs.Plan.{exec, Asked}
use Rattle.protocol.specs.Writes.{writes?, latest}
use Rattle.protocol.specs.Lists.{all, any}
use Rattle.protocol.specs.State.{Entry}
use Rattle.protocol.specs.Replay.{settled}
use Rattle.protocol.specs.Machine.{Machine, find}
use Rattle.protocol.specs.Moves.{first_of, begins, fetches, answers, commits, prepares, decides, Reached, at_first, moved}
use Rattle.protocol.specs.Claim.{due_in}
use Rattle.protocol.proofs.Laws.Example.{root, look, turn, tiny, one}

abbrev looked : Entry tiny
looked = record { op = look root; result = (1, []) }

abbrev turned : Entry tiny
turned = record { op = turn 5; result = (1, (root, 5) ∷ []) }

-- the root is 5 for both servers by the first decision, and the transaction decided after it has answered 1
stale : (m : Machine tiny) × Reached tiny m × (m.log ≡ one (look root) 1 ∷ one (turn 5) 1 ∷ [])
    × (due_in tiny m false root ≡ 5) × (due_in tiny m true root ≡ 5)
unfolding upd exec Asked writes? latest find all any first_of settled ℕ_discrete
stale =
    let r1 : Reached tiny _ = moved at_first (begins true refl) in
    let r2 : Reached tiny _ = moved r1 (fetches true true root refl refl refl) in
    let r3 : Reached tiny _ = moved r2 (begins false refl) in
    let r4 : Reached tiny _ = moved r3 (fetches false false root refl refl refl) in
    let r5 : Reached tiny _ = moved r4 (answers false turned refl (refl, tt) refl) in
    let r6 : Reached tiny _ = moved r5 (commits false refl refl) in
    let r7 : Reached tiny _ = moved r6 (prepares false false refl refl refl refl refl) in
    let r8 : Reached tiny _ = moved r7 (prepares false true refl refl refl refl refl) in
    let r9 : Reached tiny _ = moved r8 (decides false refl refl) in
    let r10 : Reached tiny _ = moved r9 (answers true looked refl (refl, tt) refl) in
    let r11 : Reached tiny _ = moved r10 (commits true refl refl) in
    let r12 : Reached tiny _ = moved r11 (decides true refl refl) in
    (_, r12, refl, refl, refl)
