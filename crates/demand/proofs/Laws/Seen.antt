-- What a tablet sees of an answer is the answer.
use Rattle.std.specs.Prelude.{◌≡◌, refl, List, [], ◌∷◌, ◌++◌, ℕ, ◌*◌, length, drop}
use Rattle.std.proofs.Common.{ap}
use Rattle.operations.specs.Object.{Ans}
use Rattle.operations.specs.Map.{Op, insert, lookup, delete, next, previous, migrate, list}
use Rattle.operations.specs.Entry.{Entries}
use Rattle.operations.proofs.Laws.Storing.{Form}
use Rattle.steps.specs.Output.{pair_words, with_pairs, pairs_at}
use Rattle.demand.specs.Ledger.{seen}

-- the pairs that were written are those that stand there
pairs_back : (ps : Entries) (out : List ℕ) → pairs_at (length ps) (pair_words ps ++ out) ≡ ps
pairs_back [] out = refl
pairs_back (e ∷ ps) out = ap (λ (l : Entries). e ∷ l) (pairs_back ps out)

plain : (a : Ans) → a.2 ≡ [] → ◌≡◌ {A = Ans} (a.0, a.1, []) a
plain a e = rw (← e)

pub seen_formed : (op : Op) (a : Ans) (lent : List ℕ) → Form op a → seen op a.0 a.1 (with_pairs a.2 lent) ≡ a
unfolding with_pairs
seen_formed (insert k v) a lent h = plain a h
seen_formed (lookup k) a lent h = plain a h
seen_formed (delete k) a lent h = plain a h
seen_formed (next k) a lent h = plain a h
seen_formed (previous k) a lent h = plain a h
seen_formed (migrate n s) a lent h = plain a h
seen_formed (list k n) a lent h =
    let e : pairs_at a.0 (pair_words a.2 ++ drop (2 * length a.2) lent) ≡ a.2 = rw h (pairs_back a.2 (drop (2 * length a.2) lent)) in
    ap (λ (ps : Entries). (a.0, a.1, ps)) e
