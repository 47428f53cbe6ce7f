-- What is promised holds: the theorems of `ranges` and `demand`, of the way that reached the store.
use Rattle.std.specs.Prelude.{refl, List, ◌++◌, ℕ, length}
use Rattle.std.proofs.Common.{sym, subst}
use Rattle.memory.specs.Word.{view}
use Rattle.steps.specs.declared.sizes.Sizes.{Sizes}
use Rattle.steps.specs.Whole.{Allowed}
use Rattle.steps.specs.Taken.{Taken}
use Rattle.kinds.specs.Parts.{stored_in}
use Rattle.kinds.specs.Laws.Refusal.{none_holds}
use Rattle.demand.specs.Ledger.{RightAll}
use Rattle.demand.specs.Demand.{Demand}
use Rattle.demand.proofs.Laws.Ears as Ears
use Rattle.demand.proofs.Laws.ClassList as ClassList
use Rattle.engine.specs.Reached.{Reached, GoesOn}
use Rattle.ranges.proofs.Laws.Theorem as Theorem
use Rattle.schedule.specs.Listed.{as_written}
use Rattle.schedule.specs.Promise.{Promise}
use Rattle.schedule.proofs.Laws.Written.{steps_run, reached_as_written}

allowed : (z : Sizes) (h : List Taken) (b : List ℕ) → Reached z h b → Allowed z
allowed z h b r = (none_holds (length b) z (sym r.accepted)).allowed

demand_3 : (z : Sizes) (h : List Taken) (b : List ℕ) → Reached z h b → Demand z h (stored_in z (view b))
demand_3 z h b r = Theorem.demand_3 z (allowed z h b r) h (stored_in z (view b)) r.way

pub promise : Promise
unfolding GoesOn
promise z h b r = record {
  demand_3 = demand_3 z h b r;
  never_refused_by_10 = Theorem.never_refused_by_10 z (allowed z h b r) h (stored_in z (view b)) r.way;
  both_ears = λ left right a c after before ts e. Ears.both_ears left right a c after before ts (subst RightAll e (demand_3 z h b r).answers);
  class_list = λ k n a after before ts e. ClassList.class_list k n a after before ts (subst RightAll e (demand_3 z h b r).answers);
  run_then_applies = λ ks js out outcomes b₁ out₁ outcomes₁ lent noted b₂ lent₂ noted₂ room first second applies.
      let h₁ = h ++ as_written outcomes₁ 0 first.taken in
      let ts = second.taken in
      let r₁ = reached_as_written b out outcomes ks b₁ out₁ outcomes₁ room first z h r in
      let r₂ = second.reached z h₁ r₁ in
      ((demand_3 z h₁ b₁ r₁).answers, (demand_3 z (h₁ ++ ts) b₂ r₂).tree h₁ ts refl (rw (second.is, steps_run (length b₁) (length lent) js (view b₁) (view lent)) applies));
}
