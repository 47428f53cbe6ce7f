-- An operation with the vectors that were seen, as whoever commits transactions takes it: its plan asks for objects only.
use Rattle.std.specs.Prelude.{◌≡◌, refl, Bool, true, false, ◌⊎◌, ℕ, ◌≤◌}
use Rattle.std.proofs.Common.{sym, ◌∙◌, true≢false, inl, inr}
use Rattle.operations.specs.Object.{Obj, node, Ask, object, vector, fetched, Val, Why, no_tree, Ans, Writes, over}
use Rattle.operations.proofs.Laws.Object.{inner, written}
use Rattle.operations.specs.Map.{Map, Op, insert, lookup, delete, next, previous, migrate, list, answer, compared, map_after}
use Rattle.operations.specs.Path.{TreePlan}
use Rattle.operations.specs.Operation.{plan, Legal}
use Rattle.operations.specs.Tree.{HoldsTree}
use Rattle.operations.proofs.Laws.Sound.{sound, no_reason_3}
use Rattle.operations.proofs.Laws.Asked.{written_asked}
use Rattle.operations.proofs.Laws.Outer.{asks_outer}
use Rattle.plans.specs.Plan as P
use Rattle.plans.proofs.Laws.Plan as PLaws

-- each server's vector as the client has it, and as this transaction has fetched it; own frees and takes of earlier operations counted
pub record Hint : Type 0 where
  pub copied : ℕ → Val
  pub fetched_one : ℕ → Val

-- an operation as a transaction has it: given by a step that was not refused, and with its hint
pub record Given : Type 0 where
  pub op : Op
  pub legal : Legal op
  pub hint : Hint

abbrev pub hint_of : Hint → Ask → Val ⊎ Obj
hint_of h (object o) = inr o
hint_of h (vector s) = inl (h.copied s)
hint_of h (fetched s) = inl (h.fetched_one s)

abbrev pub plan_with : ℕ → Hint → Op → P.Plan Obj Val (Ans × Writes) Why
plan_with slots h op = PLaws.hinted (hint_of h) (plan slots op)

-- asked for, where every vector counts as asked for
abbrev also : (Obj → Bool) → Ask → Bool
also rd (object o) = rd o
also rd (vector s) = true
also rd (fetched s) = true

asked_with : (h : Hint) (rd : Obj → Bool) (M : Obj → Val) (p : TreePlan) → P.Asked (PLaws.hinted (hint_of h) p) rd M → P.Asked p (also rd) (PLaws.with_hint (hint_of h) M)
unfolding PLaws.hinted P.Asked PLaws.with_hint
asked_with h rd M (P.ask (object o) k) g = (g.0, asked_with h rd M (k (M o)) g.1)
asked_with h rd M (P.ask (vector s) k) g = (refl, asked_with h rd M (k (h.copied s)) g)
asked_with h rd M (P.ask (fetched s) k) g = (refl, asked_with h rd M (k (h.fetched_one s)) g)
asked_with h rd M (P.done r) g = tt
asked_with h rd M (P.fail y) g = tt

module _ (slots : ℕ) (h : Hint) (op : Op) (M : Obj → Val) where
  abbrev p : P.Plan Obj Val (Ans × Writes) Why
  p = plan_with slots h op

  pub sound_with : slots ≤ 1024 → Legal op → (m : Map) (a : Ans) (w : Writes) → HoldsTree M m → P.exec p M ≡ P.gives (a, w)
      → (compared op ≡ true → a ≡ answer op m) × HoldsTree (over w M) (map_after op m)
  unfolding PLaws.with_hint
  sound_with al i m a w t e = sound slots al op i (PLaws.with_hint (hint_of h) M) m a w t (sym (PLaws.exec_hinted (hint_of h) (plan slots op) M) ∙ e)

  pub no_reason_3_with : slots ≤ 1024 → Legal op → (m : Map) → HoldsTree M m → P.exec p M ≡ P.fails no_tree → ⊥
  unfolding PLaws.with_hint
  no_reason_3_with al i m t e = no_reason_3 slots al op i (PLaws.with_hint (hint_of h) M) m t (sym (PLaws.exec_hinted (hint_of h) (plan slots op) M) ∙ e)

  pub written_asked_with : (rd : Obj → Bool) (a : Ans) (w : Writes) → P.Asked p rd M → P.exec p M ≡ P.gives (a, w) → (o : Obj) → written w o ≡ true → rd o ≡ true
  written_asked_with rd a w g e = written_asked slots op (also rd) (PLaws.with_hint (hint_of h) M) a w (asked_with h rd M (plan slots op) g)
      (sym (PLaws.exec_hinted (hint_of h) (plan slots op) M) ∙ e)

  pub asks_outer_with : (rd : Obj → Bool) (a : Ans) (w : Writes) → compared op ≡ true → P.Asked p rd M → P.exec p M ≡ P.gives (a, w)
      → (n : ℕ) × (rd (node n) ≡ true) × (inner (node n) (M (node n)) ≡ false)
  unfolding PLaws.with_hint
  asks_outer_with rd a w c g e = asks_outer slots op (also rd) (PLaws.with_hint (hint_of h) M) a w c (asked_with h rd M (plan slots op) g)
      (sym (PLaws.exec_hinted (hint_of h) (plan slots op) M) ∙ e)

-- "Migrate changes nothing"
pub uncompared_after : (op : Op) (m : Map) → compared op ≡ false → map_after op m ≡ m
uncompared_after (insert k v) m h = absurd (true≢false h)
uncompared_after (lookup k) m h = refl
uncompared_after (delete k) m h = absurd (true≢false h)
uncompared_after (next k) m h = refl
uncompared_after (previous k) m h = refl
uncompared_after (list k n) m h = refl
uncompared_after (migrate n s) m h = refl
