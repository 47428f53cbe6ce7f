-- What the operations mean on ONE snapshot, and what follows for the decided transactions: demand 3 as a claim on what steps and outcomes
-- show. Whoever proves a `Meaning` needs to know nothing of clients, versions or locks.
use Rattle.std.specs.Prelude.{◌≡◌, true, false, List, [], ◌∷◌}
use Rattle.base.specs.Update.{upd}
use Rattle.plans.specs.Plan.{gives, exec}
use Rattle.protocol.specs.Setting.{Setting}
use Rattle.protocol.specs.Writes.{latest}
use Rattle.protocol.specs.State.{Entry}

pub record Meaning (T : Setting) : Type 1 where
  -- "pairs by rising key"
  pub Map : Type 0
  -- the map's answer to an operation, and the map after it
  pub map_answer : T.Ask → Map → T.Ans
  pub map_after : T.Ask → Map → Map
  -- "Migrate changes nothing"
  pub uncompared_after : (q : T.Ask) (m : Map) → T.compared q ≡ false → map_after q m ≡ m
  -- the snapshot is a well-formed tree of the map
  pub HoldsMap : (T.Obj → T.Val) → Map → Type 0
  pub first_map : Map
  pub first_holds : HoldsMap T.init first_map
  -- with other servers it is the same tree
  pub alike_holds : (M : T.Obj → T.Val) (m : Map) (v : T.Val) → HoldsMap M m → T.Alike (M T.meta) v
      → HoldsMap (upd T.eq_obj M T.meta v) m
  -- a plan that has a result over a tree of the map has the map's answer, and its writes make a tree of the next map
  pub sound : (p : T.Op) (M : T.Obj → T.Val) (m : Map) (r : T.Res) → HoldsMap M m → exec (T.plan p) M ≡ gives r
      → (T.compared (T.public p) ≡ true → T.answer_of r ≡ map_answer (T.public p) m)
      × HoldsMap (λ o. latest T.eq_obj (T.writes r) o (M o)) (map_after (T.public p) m)

-- an operation with its answer, as steps and outcomes show them
pub record Shown (T : Setting) : Type 0 where
  pub asked : T.Ask
  pub answered : T.Ans

module _ (T : Setting) where
  open T use {public, answer_of}

  -- what a trace and a log show; in all these lists the last comes first
  abbrev pub shown_of : Entry T → Shown T
  shown_of e = record { asked = public e.op; answered = answer_of e.result }

module _ (T : Setting) (Z : Meaning T) where
  open T use {Obj, Val, public, compared}
  open Z use {Map, map_answer, map_after, uncompared_after, HoldsMap, first_map, first_holds, sound}

  -- a transaction on the map: the map after it, and that its answers are the map's, those compared
  unfoldable pub map_of : List (Shown T) → Map → Map
  map_of [] m = m
  map_of (e ∷ t) m = map_after e.asked (map_of t m)

  unfoldable pub Right : List (Shown T) → Map → Type 0
  Right [] m = Unit {0}
  Right (e ∷ t) m = Right t m × (compared e.asked ≡ true → e.answered ≡ map_answer e.asked (map_of t m))

  -- all decided transactions, one after another
  unfoldable pub map_all : List (List (Shown T)) → Map
  map_all [] = first_map
  map_all (t ∷ l) = map_of t (map_all l)

  unfoldable pub RightAll : List (List (Shown T)) → Type 0
  RightAll [] = Unit {0}
  RightAll (t ∷ l) = RightAll l × Right t (map_all l)
