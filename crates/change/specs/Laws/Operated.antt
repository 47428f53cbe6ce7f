-- A plan that writes nothing, as an operation.
use Rattle.std.specs.Prelude.{List, [], ℕ}
use Rattle.operations.specs.Path.{TreePlan}
use Rattle.client.specs.Layout.{ClientWord}
use Rattle.walk.specs.Walk.{Course}
use Rattle.walk.specs.Ask.{OwnGood}
use Rattle.walk.specs.Lookup.{Walks}
use Rattle.change.specs.Operated.{Operated}

-- one that writes nothing
pub walks_operated : (slots : ℕ) (m : ClientWord → ℕ) (x u : List ℕ) (p : TreePlan) (s : Course) (u' : List ℕ) → OwnGood x → Walks slots m u p s u' [] → Operated slots m x u p s x u'
walks_operated slots m x u p s u' g h = record {
  writes = [];
  same = λ hold. h.same;
  holds = λ t hold. hold;
  kept = λ t hold. record { fit = g.fit; few = g.few };
  noted = h.noted;
}
