-- A list of a decided transaction is the map's.
use Rattle.std.specs.Prelude.{◌≡◌, refl, List, ℕ, ◌≤◌, ◌<◌, length, take}
use Rattle.std.proofs.Common.{subst, arith, length-take-le, take_all}
use Rattle.std.proofs.Math.Decide.{dec_le}
use Rattle.operations.specs.Object.{Ans}
use Rattle.operations.specs.Map.{Map, list, upward, listed}
use Rattle.demand.specs.Ledger.{Told, map_of, map_all, Right}
use Rattle.demand.specs.ClassList.{ListedFrom, ClassList}
use Rattle.demand.proofs.Laws.Ears.{right_at, right_in}

-- as many are taken as there are
taken_whole : (n : ℕ) (m : Map) → length (take n m) < n → take n m ≡ m
taken_whole n m h = go (dec_le n (length m))
  where
    go : Dec (n ≤ length m) → take n m ≡ m
    go (yes l) = absurd (omega (arith, length-take-le n m l))
    go (no l) = take_all n m (omega arith)

listed_from : (k n : ℕ) (a : Ans) (m : Map) → a ≡ listed (take n (upward k m)) → ListedFrom k n a m
listed_from k n a m e = rw e (record { pairs = refl; number = refl; all = taken_whole n (upward k m) })

pub class_list : ClassList
class_list k n a after before ts right l =
    let here = right_in after ts before right in
    let at = right_at l.later (record { op = list k n; ans = a }) l.earlier (map_all before) (subst (λ (u : List Told). Right u (map_all before)) l.is here) in
    listed_from k n a (map_of l.earlier (map_all before)) (at.1 refl)
