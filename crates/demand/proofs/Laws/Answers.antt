-- WHAT FOLLOWS where the memory shows a state that the machine reaches: the decided transactions' answers are the map's, and where no apply is due the
-- tree holds the map that they leave.
use Rattle.std.specs.Prelude.{◌≡◌, true}
use Rattle.std.proofs.Math.Path.{refl, ap, subst}
use Rattle.std.proofs.Common.{sym, ◌∙◌}
use mathlib.Core.List.{List, [], ◌∷◌, map}
use Prim.Native.Nat.{ℕ, ◌≤◌, Fin}
use Rattle.protocol.specs.Claim.{there_now, seat}
use Rattle.protocol.proofs.Laws.Claim.{claim, Applied, quiet_holds}
use Rattle.steps.specs.Whole.{Address}
use Rattle.demand.proofs.Laws.Store.{Holds, meaning}
use Rattle.demand.proofs.Laws.Shows.{T, told, Related}
use Rattle.operations.specs.Map as M
use Rattle.protocol.specs.Meaning as Mean
use Rattle.protocol.specs.Machine as P
use Rattle.demand.specs.Ledger as Ledger

module _ (k j slots : ℕ) (al : slots ≤ 1024) where
  abbrev Z : Mean.Meaning (T k j slots)
  Z = meaning k j slots al

  -- what the machine has said and what the steps show is one thing
  map_same : (t : List (Mean.Shown (T k j slots))) (m : M.Map) → Mean.map_of (T k j slots) Z t m ≡ Ledger.map_of (map (told k j slots) t) m
  unfolding Mean.map_of
  map_same [] m = refl
  map_same (e ∷ t) m = ap (M.map_after e.asked) (map_same t m)

  right_same : (t : List (Mean.Shown (T k j slots))) (m : M.Map) → Mean.Right (T k j slots) Z t m → Ledger.Right (map (told k j slots) t) m
  unfolding Mean.Right
  right_same [] m h = tt
  right_same (e ∷ t) m h = (right_same t m h.0, λ c. h.1 c ∙ ap (M.answer e.asked) (map_same t m))

  map_all_same : (l : List (List (Mean.Shown (T k j slots)))) → Mean.map_all (T k j slots) Z l ≡ Ledger.map_all (map (map (told k j slots)) l)
  unfolding Mean.map_all
  map_all_same [] = refl
  map_all_same (t ∷ l) = map_same t (Mean.map_all (T k j slots) Z l) ∙ ap (Ledger.map_of (map (told k j slots) t)) (map_all_same l)

  right_all_same : (l : List (List (Mean.Shown (T k j slots)))) → Mean.RightAll (T k j slots) Z l → Ledger.RightAll (map (map (told k j slots)) l)
  unfolding Mean.RightAll
  right_all_same [] h = tt
  right_all_same (t ∷ l) h =
      (right_all_same l h.0, subst (Ledger.Right (map (told k j slots) t)) (map_all_same l) (right_same t (Mean.map_all (T k j slots) Z l) h.1))

  module _ (m : Address → ℕ) (L : Ledger.Ledger) (N : P.Machine (T k j slots)) (R : Related k j slots m L N) where
    -- "give exactly the answers the tablets got"
    pub answers_right : Ledger.RightAll L.decided
    answers_right = subst Ledger.RightAll (sym R.log_as) (right_all_same N.log (claim (T k j slots) Z R.reached).answered)

    -- where no apply is due, the tree is what the servers store, the metadata as any server has it that is there
    pub quiet_tree : Applied (T k j slots) Z N → (s : Fin 8) → there_now (T k j slots) N s ≡ true → Holds k j slots (λ o. N.value (seat (T k j slots) s o) o) (Ledger.map_all L.decided)
    quiet_tree done s h =
        subst (Holds k j slots (λ o. N.value (seat (T k j slots) s o) o)) (map_all_same N.log ∙ ap Ledger.map_all (sym R.log_as))
        (quiet_holds (T k j slots) Z R.reached done s h)
