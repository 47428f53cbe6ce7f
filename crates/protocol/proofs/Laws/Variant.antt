-- Runs of the machine that may also take moves which the rules do not have: by these a rule is shown to be needed.
use Rattle.std.specs.Prelude.{◌≡◌, List}
use Rattle.std.proofs.Common.{subst}
use Rattle.protocol.specs.Setting.{Setting}
use Rattle.protocol.specs.Meaning.{Meaning, Shown, RightAll}
use Rattle.protocol.specs.Machine.{Machine, first_machine}
use Rattle.protocol.specs.Moves.{Move, Reached}
use Rattle.protocol.proofs.Laws.Claim.{claim}

pub data ReachedWith (T : Setting) (Also : Machine T → Machine T → Type 0) : Machine T → Type 0 where
  at_start : ReachedWith T Also (first_machine T)
  by_rule : {m n : Machine T} → ReachedWith T Also m → Move T m n → ReachedWith T Also n
  also : {m n : Machine T} → ReachedWith T Also m → Also m n → ReachedWith T Also n

-- answers that are not the map's cannot be had by the rules
pub never : (T : Setting) (Z : Meaning T) (l : List (List (Shown T))) → (RightAll T Z l → ⊥) → (m : Machine T) → Reached T m → m.log ≡ l → ⊥
never T Z l wrong m r e = wrong (subst (RightAll T Z) e (claim T Z r).answered)
