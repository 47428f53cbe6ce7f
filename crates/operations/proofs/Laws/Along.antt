-- What a plan ensures whatever is read: a property of its questions and one of its results, which follow from what was asked for.
use Rattle.std.specs.Prelude.{◌≡◌, Bool, cond}
use Rattle.std.proofs.Math.Path.{refl, subst}
use Rattle.std.proofs.Common.{sym}
use Rattle.std.proofs.Math.Bool.{true, false}
use Rattle.std.proofs.Math.Option.{Option, none, some}
use Rattle.operations.specs.Object.{Ask, Val, Why, no_tree, Ans, Writes}
use Rattle.operations.specs.Path.{TreePlan}
use Rattle.operations.specs.Operation.{all_fit?, checked}
use Rattle.plans.specs.Plan as P
use Rattle.plans.proofs.Laws.Walk as W

module _ (I : Ask → Type 0) (A : Ask → Val → Type 0) (Q : Ans → Writes → Type 0) where
  -- where A holds of each question asked and of the value read, I holds of the next question, and Q of the answer and the writes
  abbrev pub Along : TreePlan → Type 0
  Along (P.ask q k) = I q × ((v : Val) → A q v → Along (k v))
  Along (P.done r) = Q r.0 r.1
  Along (P.fail y) = Unit {0}

  abbrev pub Ended : W.Met Ask (Ans × Writes) Why → Type 0
  Ended (W.lacks q) = I q
  Ended (W.ends (P.gives r)) = Q r.0 r.1
  Ended (W.ends (P.fails y)) = Unit {0}

  -- so, where A holds of what was asked for over S, Q holds of the answer and the writes
  pub along_exec : (rd : Ask → Bool) (S : Ask → Val) → ((q : Ask) → rd q ≡ true → A q (S q)) → (p : TreePlan) → Along p → P.Asked p rd S → Ended (W.ends (P.exec p S))
  unfolding P.exec P.Asked
  along_exec rd S have (P.ask q k) h g = along_exec rd S have (k (S q)) (h.1 (S q) (have q g.0)) g.1
  along_exec rd S have (P.done r) h g = h
  along_exec rd S have (P.fail y) h g = tt

  -- and so of a walk, where A holds of what is at hand; of what is lacking I holds
  pub along_walk : (have : Ask → Option Val) → ((q : Ask) (v : Val) → have q ≡ some v → A q v) → (p : TreePlan) → Along p → Ended (W.walk p have)
  unfolding W.walk
  along_walk have g (P.ask q k) h = go (have q) refl (λ v a. along_walk have g (k v) (h.1 v a))
    where
      go : (o : Option Val) → have q ≡ o → ((v : Val) → A q v → Ended (W.walk (k v) have)) → Ended (W.walk (P.ask q k) have)
      go none e rec = subst Ended (sym (W.walk_lacks q k have e)) h.0
      go (some v) e rec = subst Ended (sym (W.walk_has q k have v e)) (rec v (g q v e))
  along_walk have g (P.done r) h = h
  along_walk have g (P.fail y) h = tt

  -- what always holds
  pub along_any : ((q : Ask) → I q) → ((a : Ans) (w : Writes) → Q a w) → (p : TreePlan) → Along p
  along_any i h (P.ask q k) = (i q, λ v _. along_any i h (k v))
  along_any i h (P.done r) = h r.0 r.1
  along_any i h (P.fail y) = tt

  -- the last check takes nothing away
  pub along_checked : (p : TreePlan) → Along p → Along (checked p)
  unfolding P.bind
  along_checked (P.ask q k) h = (h.0, λ v a. along_checked (k v) (h.1 v a))
  along_checked (P.done r) h = go (all_fit? r.1 r.1)
    where
      go : (b : Bool) → Along (cond b (P.done r) (P.fail no_tree))
      go true = h
      go false = tt
  along_checked (P.fail y) h = tt
