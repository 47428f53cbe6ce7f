-- THE SECOND TRAP: "Checking reads without locking them until the decision." Client false looks at leaf false and writes leaf true; client
-- true looks at leaf true and writes leaf false. Both pass all checks, and both answer 1: no order of the two explains that.
use Rattle.std.specs.Prelude.{◌≡◌, refl, Bool, true, false, List, [], ◌∷◌}
use Rattle.std.proofs.Math.Decide.{ℕ_discrete}
use Rattle.base.specs.Update.{upd}
use Rattle.plans.specs.Plan.{exec, Asked}
use Rattle.protocol.specs.Writes.{writes?, latest}
use Rattle.protocol.specs.Lists.{all, any}
use Rattle.protocol.specs.State.{committing, Entry}
use Rattle.protocol.specs.Meaning.{Shown, map_of, map_all, Right, RightAll}
use Rattle.protocol.specs.Machine.{Machine, find, turned}
use Rattle.protocol.specs.Moves.{first_of, check, to_write, to_read, grants, granted_row, prepared_slot, begins, fetches, answers, commits, decides, Reached}
use Rattle.protocol.proofs.Laws.Variant.{ReachedWith, at_start, by_rule, also, never}
use Rattle.protocol.proofs.Laws.Example.{root, leaf, put, tiny, leaves, one, one≢seven}

-- a prepare as the rules have it, but that it leaves no lock on what is only read
data Loose (m : Machine tiny) : Machine tiny → Type 0 where
  prepares_loosely : (c s : Bool) → (m.slots c).phase ≡ committing → (m.slots c).prepared s ≡ false
      → all (check tiny m (m.slots c).lowest s) (m.slots c).items ≡ true
      → all (λ i. grants tiny c (to_write tiny s i) (to_read tiny (m.slots c).lowest s i) (m.lock s i.obj)) (m.slots c).items ≡ true
      → Loose m (turned tiny m (upd tiny.eq_client m.slots c (prepared_slot tiny (m.slots c) s))
      (upd tiny.eq_server m.lock s (granted_row tiny c (to_write tiny s) (λ i. false) (m.slots c).items (m.lock s))) m.said m.log)

abbrev crossed : Bool → Bool → Entry tiny
crossed a b = record { op = put a b 7; result = (1, (leaf b, 7) ∷ []) }

abbrev pub outcome : List (List (Shown tiny))
outcome = one (put true false 7) 1 ∷ one (put false true 7) 1 ∷ []

abbrev Goes : Machine tiny → Type 0
Goes = ReachedWith tiny Loose

skewed : (m : Machine tiny) × Goes m × (m.log ≡ outcome)
unfolding upd exec Asked writes? latest find all any first_of ℕ_discrete
skewed =
    let r1 : Goes _ = by_rule at_start (begins false refl) in
    let r2 : Goes _ = by_rule r1 (fetches false false (leaf false) refl refl refl) in
    let r3 : Goes _ = by_rule r2 (fetches false true (leaf true) refl refl refl) in
    let r4 : Goes _ = by_rule r3 (fetches false false root refl refl refl) in
    let r5 : Goes _ = by_rule r4 (answers false (crossed false true) refl (refl, (refl, (refl, tt))) refl) in
    let r6 : Goes _ = by_rule r5 (commits false refl refl) in
    let r7 : Goes _ = by_rule r6 (begins true refl) in
    let r8 : Goes _ = by_rule r7 (fetches true true (leaf true) refl refl refl) in
    let r9 : Goes _ = by_rule r8 (fetches true false (leaf false) refl refl refl) in
    let r10 : Goes _ = by_rule r9 (fetches true false root refl refl refl) in
    let r11 : Goes _ = by_rule r10 (answers true (crossed true false) refl (refl, (refl, (refl, tt))) refl) in
    let r12 : Goes _ = by_rule r11 (commits true refl refl) in
    let r13 : Goes _ = also r12 (prepares_loosely false false refl refl refl refl) in
    let r14 : Goes _ = also r13 (prepares_loosely true true refl refl refl refl) in
    let r15 : Goes _ = also r14 (prepares_loosely true false refl refl refl refl) in
    let r16 : Goes _ = also r15 (prepares_loosely false true refl refl refl refl) in
    let r17 : Goes _ = by_rule r16 (decides false refl refl) in
    let r18 : Goes _ = by_rule r17 (decides true refl refl) in
    (_, r18, refl)

-- the second of the two should have answered 7
wrong : RightAll tiny leaves outcome → ⊥
unfolding RightAll Right map_all map_of upd
wrong h = one≢seven (h.1.1 refl)

-- so it is no run by the rules
pub needed : (m : Machine tiny) → Reached tiny m → m.log ≡ outcome → ⊥
needed = never tiny leaves outcome wrong
