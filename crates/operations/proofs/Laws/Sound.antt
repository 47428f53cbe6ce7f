-- The theorems about operations, from those about each.
use Rattle.std.specs.Prelude.{◌≡◌, refl, true, false, [], ℕ, zero, suc, ◌+◌, ◌≤◌}
use Rattle.std.proofs.Common.{sym, ◌∙◌, subst, inl, inr, arith}
use Rattle.std.proofs.lemmas.Bool.{false≢true}
use Rattle.plans.specs.Plan.{fails, exec}
use Rattle.operations.specs.Object.{Obj, node, flag, Ask, Val, flags_of, taken, Why, not_free, no_tree, no_slot, Ans, Writes, over, objects}
use Rattle.operations.specs.Map.{Map, Op, insert, lookup, delete, next, previous, migrate, list, answer, compared, map_after}
use Rattle.operations.specs.Operation.{reading, plan, Legal}
use Rattle.operations.specs.Chain.{one}
use Rattle.operations.proofs.Laws.Chain.{one_same, one_other}
use Rattle.operations.proofs.Laws.Ensures.{Terms, Ok, Says, Shown, ok_says, ok_mono}
use Rattle.operations.specs.Tree.{room, Mark, HoldsTree, TrueOf}
use Rattle.operations.proofs.Laws.Tree.{room_is}
use Rattle.operations.proofs.Laws.Focus.{Rep, rep_of, holds_of}
use Rattle.operations.proofs.Laws.Slots.{counted_true, Supply}
use Rattle.operations.proofs.Laws.Reads.{lookup_ok, next_ok, previous_ok, list_ok}
use Rattle.operations.proofs.Laws.Changes.{insert_ok, delete_ok}
use Rattle.operations.proofs.Laws.Moved.{migrate_ok}
use Rattle.operations.proofs.Laws.Checked.{checked_ok, all_fit_rep}
use Rattle.operations.specs.Sound.{Sound, NoReason3, NewHolds, new_store, OnlyReason5}

module _ (slots : ℕ) (al : slots ≤ 1024) where
  -- what an answer with its writes has to be
  abbrev Right : Op → (Obj → Val) → Map → Ans → Writes → Type 0
  Right op M m a w = (compared op ≡ true → a ≡ answer op m) × Rep (over w M) (map_after op m)

  module _ (F : Terms) (M : Obj → Val) (supply : Supply F M slots) (m : Map) (R : Rep M m) where
    reading_ok : (op : Op) → Legal op → Ok F (Right op M m) M (reading slots op)
    reading_ok (insert k v) i = ok_mono F _ (Right (insert k v) M m) M (λ a w q. (λ _. q.0, q.1)) (reading slots (insert k v)) (insert_ok F slots al M supply m k i R v)
    reading_ok (lookup k) i = ok_mono F _ (Right (lookup k) M m) M (λ a w q. (λ _. q.0, q.1)) (reading slots (lookup k)) (lookup_ok F M m k i R)
    reading_ok (delete k) i = ok_mono F _ (Right (delete k) M m) M (λ a w q. (λ _. q.0, q.1)) (reading slots (delete k)) (delete_ok F slots al M supply m k i R)
    reading_ok (next k) i = ok_mono F _ (Right (next k) M m) M (λ a w q. (λ _. q.0, q.1)) (reading slots (next k)) (next_ok F M m k i R)
    reading_ok (previous k) i = ok_mono F _ (Right (previous k) M m) M (λ a w q. (λ _. q.0, q.1)) (reading slots (previous k)) (previous_ok F M m k i R)
    reading_ok (list k n) i = ok_mono F _ (Right (list k n) M m) M (λ a w q. (λ _. q.0, q.1)) (reading slots (list k n)) (list_ok F M m k i R n)
    reading_ok (migrate n s) i = ok_mono F _ (Right (migrate n s) M m) M (λ a w q. (λ c. absurd (false≢true c), q)) (reading slots (migrate n s))
        (migrate_ok F slots al M supply m R s n)

    plan_ok : (op : Op) → Legal op → Ok F (Right op M m) M (plan slots op)
    plan_ok op i = checked_ok F (Right op M m) M (λ a w q. all_fit_rep M (map_after op m) w q.1) (reading slots op) (reading_ok op i)

  -- the outcome over a whole snapshot
  outcome : (F : Terms) (op : Op) → Legal op → (S : Ask → Val) (m : Map) → Supply F (objects S) slots → Shown F S → HoldsTree (objects S) m
      → Says F (Right op (objects S) m) (exec (plan slots op) S)
  outcome F op i S m supply t h =
      let M = objects S in
      ok_says F (Right op M m) S t (plan slots op) (plan_ok F M supply m (rep_of M m h) op i)

  -- whatever the vectors say, reasons 1 and 5 may come
  abbrev no_3 : Why → Type 0
  no_3 not_free = Unit {0}
  no_3 no_tree = ⊥
  no_3 no_slot = Unit {0}

  abbrev any : Terms
  any = record { fails = no_3; shows = λ s v. Unit {0} }

  any_outcome : (op : Op) → Legal op → (S : Ask → Val) (m : Map) → HoldsTree (objects S) m → Says any (Right op (objects S) m) (exec (plan slots op) S)
  any_outcome op i S m h = outcome any op i S m (record { chosen_free = λ w s i v t j o. inl tt; none_left = tt }) (λ s. (tt, tt)) h

  pub sound : (op : Op) → Legal op → Sound slots op
  sound op i S m a w h e =
      let r : Right op (objects S) m a w = subst (Says any (Right op (objects S) m)) e (any_outcome op i S m h) in
      (r.0, holds_of (over w (objects S)) (map_after op m) r.1)

  pub no_reason_3 : (op : Op) → Legal op → NoReason3 slots op
  no_reason_3 op i S m h e = subst (Says any (Right op (objects S) m)) e (any_outcome op i S m h)

  abbrev only_5 : Why → Type 0
  only_5 not_free = ⊥
  only_5 no_tree = ⊥
  only_5 no_slot = Unit {0}

  -- so an operation on a tree, with vectors that show its flags, answers or finds no slot
  pub only_reason_5 : (op : Op) → Legal op → OnlyReason5 slots op
  only_reason_5 op i S m h t y e =
      let M = objects S in
      let F : Terms = record { fails = only_5; shows = λ s v. TrueOf M s (flags_of v) } in
      by y (subst (Says F (Right op M m)) e (outcome F op i S m
      (record { chosen_free = λ w s i v t j o. inr (sym (counted_true M w s (flags_of v) t i j o.0) ∙ o.1); none_left = tt }) t h))
    where
      by : (y : Why) → only_5 y → y ≡ no_slot
      by not_free x = absurd x
      by no_tree x = absurd x
      by no_slot x = refl

pub new_holds : NewHolds
unfolding room
new_holds states = record {
  level = 0;
  name = 0;
  ents = [];
  root_is = refl;
  low = omega arith;
  stored = refl;
  least = omega arith;
  most = omega arith;
  from = omega arith;
  segs = tt;
  marks = marked;
  inside = away;
  pairs_are = refl;
}
  where
    marked : (x : ℕ) → Mark (new_store states (flag x)) (new_store states (node x)) (one 0 x + 0)
    marked zero = inl (omega (arith, one_same 0), refl)
    marked (suc x) = inr (omega (arith, one_other 0 (suc x) (λ e. absurd (omega (arith, e)))), refl, refl)

    away : (x : ℕ) → room ≤ x → new_store states (flag x) ≡ taken false
    away zero h = absurd (omega (arith, h, room_is))
    away (suc x) h = refl
