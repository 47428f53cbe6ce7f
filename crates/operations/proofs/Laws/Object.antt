-- Equality of objects and of values is decided.
use Rattle.std.specs.Prelude.{Bool, true, false, cond, ℕ, eqb}
use Rattle.std.proofs.Math.Bool.{Bool-discrete}
use mathlib.Core.HLevel.{Discrete}
use mathlib.Core.List.{[], ◌∷◌, List-discrete}
use Rattle.std.proofs.Math.Decide.{ℕ_discrete}
use Rattle.operations.specs.Object.{ObjBy, ValBy, Obj, meta, node, flag, Val, root, body, taken, flags, Writes, hit}

pub ObjDiscrete : Discrete Obj
ObjDiscrete = ObjBy ℕ_discrete

pub ValDiscrete : Discrete Val
ValDiscrete = ValBy ℕ_discrete (List-discrete ℕ_discrete) Bool-discrete (List-discrete Bool-discrete)

abbrev pub kind_of : Val → ℕ
kind_of (root r st) = 0
kind_of (body k l ks vs) = k
kind_of (taken b) = 0
kind_of (flags fs) = 0

-- "A server can check metadata, inner nodes by its table, and its own other nodes and flags"
abbrev pub inner_node : Val → Bool
inner_node v = eqb (kind_of v) 2

abbrev pub inner : Obj → Val → Bool
inner meta v = true
inner (node n) v = inner_node v
inner (flag n) v = false

-- the writes as a test and a function
abbrev pub written : Writes → Obj → Bool
written [] o = false
written (e ∷ w) o = cond (hit e.0 o) true (written w o)
