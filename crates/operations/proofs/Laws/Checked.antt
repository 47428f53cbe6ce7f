-- The last check before an answer, and that it never fails where the writes leave a tree.
use Rattle.std.specs.Prelude.{◌≡◌, refl, Bool, true, false, cond, ◌&&◌, List, [], ◌∷◌, ℕ, suc, ◌+◌}
use Rattle.std.proofs.Common.{ap, sym, ◌∙◌, subst, inl, inr, arith}
use Rattle.std.proofs.Math.Decide.{dec_le}
use Rattle.base.proofs.Laws.Test.{of_yes}
use Rattle.base.specs.Test.{yes?}
use Rattle.nodes.specs.Place.{rises}
use Rattle.operations.specs.Object.{Obj, meta, node, flag, object, vector, fetched, Val, keys_in, level_of, no_tree, Ans, Writes, hit, over, written_value}
use Rattle.operations.proofs.Laws.Object.{written}
use Rattle.operations.specs.Map.{Map, two_to_64}
use Rattle.operations.specs.Path.{TreePlan}
use Rattle.operations.specs.Operation.{fits?, all_fit?, checked}
use Rattle.operations.proofs.Laws.Chain.{Rising, above_of}
use Rattle.operations.specs.Chain.{one, tally}
use Rattle.operations.proofs.Laws.Hit.{hit_self}
use Rattle.operations.proofs.Laws.Written.{over_is}
use Rattle.operations.proofs.Laws.Ensures.{Terms, Ok}
use Rattle.operations.specs.Tree.{cnt, Mark}
use Rattle.operations.proofs.Laws.Focus.{Rep}
use Rattle.operations.proofs.Laws.Found.{all_rising, all_levels}
use Rattle.plans.specs.Plan as P

pub checked_ok : (F : Terms) (Q : Ans → Writes → Type 0) (M : Obj → Val) → ((a : Ans) (w : Writes) → Q a w → all_fit? w w ≡ true)
    → (p : TreePlan) → Ok F Q M p → Ok F Q M (checked p)
unfolding P.bind
checked_ok F Q M f (P.ask (object o) k) h = checked_ok F Q M f (k (M o)) h
checked_ok F Q M f (P.ask (vector s) k) h = λ v t. checked_ok F Q M f (k v) (h v t)
checked_ok F Q M f (P.ask (fetched s) k) h = λ v t. checked_ok F Q M f (k v) (h v t)
checked_ok F Q M f (P.done r) h = subst (λ b. Ok F Q M (cond b (P.done r) (P.fail no_tree))) (sym (f r.0 r.1 h)) h
checked_ok F Q M f (P.fail y) h = h

rise_of : (a z : ℕ) (ks : List ℕ) → Rising a z ks → rises ks ≡ true
unfolding rises
rise_of a z [] h = refl
rise_of a z (k ∷ ks) h = above_of k (suc k) z ks (omega arith) h.1

-- every object of w is written by all
abbrev Among : Writes → Writes → Type 0
Among all [] = Unit {0}
Among all (e ∷ w) = (written all e.0 ≡ true) × Among all w

among_more : (x : Obj × Val) (all w : Writes) → Among all w → Among (x ∷ all) w
among_more x all [] h = tt
among_more x all (e ∷ w) h = (go (hit x.0 e.0), among_more x all w h.1)
  where
    go : (b : Bool) → cond b true (written all e.0) ≡ true
    go true = refl
    go false = h.0

among_self : (w : Writes) → Among w w
among_self [] = tt
among_self (e ∷ w) = (ap (λ b. cond b true (written w e.0)) (hit_self e.0), among_more e w w (among_self w))

-- what a snapshot that holds a tree has may be written
fits_rep : (U : Obj → Val) (m : Map) → Rep U m → (o : Obj) → fits? (U o) ≡ true
unfolding dec_le rises
fits_rep U m R meta = ap fits? R.tree.top_is
fits_rep U m R (node n) =
    ap (λ b. b && yes? (dec_le (level_of (U (node n))) 4)) (rise_of 0 two_to_64 (keys_in (U (node n))) (all_rising U m R n))
    ∙ of_yes (dec_le (level_of (U (node n))) 4) (all_levels U m R n)
fits_rep U m R (flag n) = go (R.tree.marks n)
  where
    go : Mark (U (flag n)) (U (node n)) (0 + one R.name n + tally (cnt R.level) R.ents n + 0) → fits? (U (flag n)) ≡ true
    go (inl q) = ap fits? q.1
    go (inr q) = ap fits? q.1

pub all_fit_rep : (M : Obj → Val) (m : Map) (all : Writes) → Rep (over all M) m → all_fit? all all ≡ true
all_fit_rep M m all R = go all (among_self all)
  where
    go : (w : Writes) → Among all w → all_fit? all w ≡ true
    go [] h = refl
    go (e ∷ w) h =
        let o = e.0 in
        ap (λ b. b && all_fit? all w) (ap fits? (sym (over_is all M o ∙ ap (λ b. cond b (written_value all o) (M o)) h.0)) ∙ fits_rep (over all M) m R o)
        ∙ go w h.1
