-- Where a walk begins: nothing is written, no copy is in use, and the plan is the whole operation's.
use Rattle.std.specs.Prelude.{◌≡◌, false, List, [], ℕ, ◌+◌, ◌≤◌, ltb, length, get_or}
use Rattle.std.proofs.Common.{arith, le-ltb}
use Rattle.operations.specs.Path.{TreePlan}
use Rattle.client.specs.declared.part.Set.TheVariants.{Reads}
use Rattle.client.specs.Layout.{ClientWord}
use Rattle.client.specs.Sets.{count}
use Rattle.client.specs.Have.{have}
use Rattle.client.specs.Run.{run}
use Rattle.client.specs.Lent.{used_in}
use Rattle.walk.specs.Walk.{fresh, room, over, worked, tell, walked}
use Rattle.walk.specs.Ask.{Noted}
use Rattle.walk.specs.Laws.Ask.{reads_few}

-- a walk from the start is the run of the plan, told
pub walk_begins : (slots : ℕ) (m : ClientWord → ℕ) (p : TreePlan)
    → walked slots m p [] ≡ tell slots m (run (have slots m) (fresh m) (room m) p []).how (run (have slots m) (fresh m) (room m) p []).used
unfolding walked worked over
walk_begins slots m p =
    let h : count m Reads + 0 ≤ 96 = omega (arith, reads_few m) in
    let e : ltb 96 (count m Reads + 0) ≡ false = le-ltb 96 (count m Reads + 0) h in
    rw e

-- no copy in use
module _ (m : ClientWord → ℕ) (u : List ℕ) (e : get_or u 0 0 ≡ 0) where
  pub nothing_used : used_in u ≡ []
  unfolding used_in
  nothing_used = rw e

  pub nothing_noted : 98 ≤ length u → Noted m u
  nothing_noted l = record { long = l; few = omega (arith, reads_few m); each = λ i h. absurd (omega arith) }
