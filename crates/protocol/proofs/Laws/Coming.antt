-- Servers come and go, by computation. Server false, the home of the metadata, is removed; the metadata is written again where only server true
-- is there, and takes part; then server false is added, with the table that it lacked; and both take part again.
use Rattle.std.specs.Prelude.{◌≡◌, refl, Bool, true, false, [], ◌∷◌, ℕ, suc}
use Rattle.std.proofs.lemmas.Bool.{false≢true}
use Rattle.std.proofs.Math.Decide.{ℕ_discrete, dec_lt}
use Rattle.base.specs.Update.{upd}
use Rattle.plans.specs.Plan.{exec, Asked}
use Rattle.protocol.specs.Writes.{writes?, latest}
use Rattle.protocol.specs.Lists.{all, any}
use Rattle.protocol.specs.State.{is_decided, Entry}
use Rattle.protocol.specs.Replay.{settled}
use Rattle.protocol.specs.Machine.{Machine, find}
use Rattle.protocol.specs.Moves.{releases, given_back, first_of, begins, fetches, answers, commits, prepares, decides, applies, ends, Reached, reconfigures, reconfigured_by, at_first, moved}
use Rattle.protocol.proofs.Laws.Largest.{largest, added_table, added_largest}
use Rattle.protocol.specs.Claim.{due_in, Claim}
use Rattle.protocol.proofs.Laws.Claim.{claim}
use Rattle.protocol.proofs.Laws.Example.{Obj, root, leaf, turn, tiny, leaves, one, inner, present, home}

abbrev turned : Entry tiny
turned = record { op = turn 18; result = (8, (root, 18) ∷ []) }

abbrev turned_both : Entry tiny
turned_both = record { op = turn 5; result = (1, (root, 5) ∷ []) }

-- no inner node but the root
homed : (v : ℕ) (f : Obj → ℕ) (o : Obj) → ¬ (o ≡ root) → inner o (f o) ≡ true → present v (home o) ≡ true
homed v f root ne h = absurd (ne refl)
homed v f (leaf a) ne h = absurd (false≢true h)

each : (P : Bool → Type 0) → P true → P false → (b : Bool) → P b
each P p q true = p
each P p q false = q

-- a change of the servers, with the added tables computed; no node but the root is inner
changes : (m : Machine tiny) (a : Bool) (v : ℕ) → Reached tiny m → present (m.value a root) a ≡ true → ((c s : Bool) → (m.slots c).prepared s ≡ false)
    → ((c : Bool) → is_decided (m.slots c).phase ≡ false) → (s : Bool) × (present v s ≡ true)
    → Reached tiny (reconfigured_by tiny (m.value a root) (suc (m.version a root)) v (added_table tiny m.table (present (m.value a root))) m)
changes m a v r h un ud w = moved r (reconfigures a v (added_table tiny m.table (present (m.value a root))) (record {
  not_absent = h;
  unprepared = un;
  undecided = ud;
  alike = tt;
  manned = w;
  homed = λ o. homed v (m.value (home o)) o;
  tables = λ s _ _ o. added_largest tiny m.table (present (m.value a root)) s o;
}))

run : (m : Machine tiny) × Reached tiny m × (m.log ≡ one (turn 5) 1 ∷ one (turn 18) 8 ∷ [])
    × (m.value false root ≡ 1) × (m.version false root ≡ 3) × (m.table false root ≡ 3) × (m.value true root ≡ 5) × (due_in tiny m false root ≡ 5)
unfolding upd exec Asked writes? latest find all any first_of settled largest ℕ_discrete dec_lt
run =
    let r1 : Reached tiny _ = changes _ false 8 at_first refl (λ c s. refl) (λ c. refl) (true, refl) in
    let r2 : Reached tiny _ = moved r1 (begins false refl) in
    let r3 : Reached tiny _ = moved r2 (fetches false true root refl refl refl) in
    let r4 : Reached tiny _ = moved r3 (answers false turned refl (refl, tt) refl) in
    let r5 : Reached tiny _ = moved r4 (commits false refl refl) in
    let r6 : Reached tiny _ = moved r5 (prepares false true refl refl refl refl refl) in
    let r7 : Reached tiny _ = moved r6 (decides false refl refl) in
    let r8 : Reached tiny _ = moved r7 (applies false true refl refl refl) in
    let r9 : Reached tiny _ = moved r8 (ends false refl refl) in
    let r10 : Reached tiny _ = moved r9 (releases _ (λ s o. given_back false refl)) in
    let r11 : Reached tiny _ = changes _ true 1 r10 refl (each _ (λ s. refl) (λ s. refl)) (each _ refl refl) (true, refl) in
    let r12 : Reached tiny _ = moved r11 (begins false refl) in
    let r13 : Reached tiny _ = moved r12 (fetches false false root refl refl refl) in
    let r14 : Reached tiny _ = moved r13 (answers false turned_both refl (refl, tt) refl) in
    let r15 : Reached tiny _ = moved r14 (commits false refl refl) in
    let r16 : Reached tiny _ = moved r15 (prepares false true refl refl refl refl refl) in
    let r17 : Reached tiny _ = moved r16 (prepares false false refl refl refl refl refl) in
    let r18 : Reached tiny _ = moved r17 (decides false refl refl) in
    let r19 : Reached tiny _ = moved r18 (applies false true refl refl refl) in
    (_, r19, refl, refl, refl, refl, refl, refl)

-- and the claim holds of it
claimed : Claim tiny leaves run.0
claimed = claim tiny leaves run.1
