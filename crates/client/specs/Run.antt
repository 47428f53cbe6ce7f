-- A plan worked on by a client: over what it has, counting the copies that come into use. Nothing is changed by it.
use Rattle.std.specs.Prelude.{Bool, false, cond, ◌||◌, List, [], ◌∷◌, ◌++◌, ℕ, eqb, ltb, length}
use Rattle.std.proofs.Math.Option.{Option, none, some}
use Rattle.operations.specs.Object.{Ask, object, vector, fetched, Val, reason, Ans, Writes}
use Rattle.operations.specs.Path.{TreePlan}
use Rattle.client.specs.Record.{number}
use Rattle.plans.specs.Plan as P

-- how a work step ends: the first thing lacking; an abort's reason; the answer with the operation's writes
pub data End : Type 0 where
  lacks : Ask → End
  aborts : ℕ → End
  gives : Ans → Writes → End

-- and the numbers of the objects that came into use from the copies, in order
pub record Ran : Type 0 where
  pub how : End
  pub used : List ℕ

-- how it ended, and what came into use
abbrev pub ran : End → List ℕ → Ran
ran e us = record { how = e; used = us }

-- is the number in the list
unfoldable pub among : ℕ → List ℕ → Bool
among x [] = false
among x (y ∷ l) = eqb y x || among x l

-- Object 97 from the copies: "at one object .. the lower first". What speaks against its use at once comes before reason 4, and
-- then the object counts as read; else it is not read.
abbrev pub judged : TreePlan → ℕ → List ℕ → Ran
judged (P.ask a k) x us = ran (aborts 4) us
judged (P.done r) x us = ran (aborts 4) us
judged (P.fail y) x us = ran (aborts (reason y)) (us ++ (x ∷ []))

-- `have`: what is at hand; `new`: an object's number that neither set has; `room`: how many more may be read
module _ (have : Ask → Option Val) (new : ℕ → Bool) (room : ℕ) where
  -- the plan walked over what the client has; us came into use before
  unfoldable pub run : TreePlan → List ℕ → Ran
  run (P.ask (object o) k) us = elim (have (object o)) [
    | none ↦ ran (lacks (object o)) us
    | some v ↦ cond (new (number o))
        (cond (among (number o) us) (run (k v) us)
        (cond (ltb (length us) room) (run (k v) (us ++ (number o ∷ []))) (judged (k v) (number o) us)))
        (run (k v) us)
  ]
  run (P.ask (vector s) k) us = elim (have (vector s)) [ none ↦ ran (lacks (vector s)) us | some v ↦ run (k v) us ]
  run (P.ask (fetched s) k) us = elim (have (fetched s)) [ none ↦ ran (lacks (fetched s)) us | some v ↦ run (k v) us ]
  run (P.done r) us = ran (gives r.0 r.1) us
  run (P.fail y) us = ran (aborts (reason y)) us
