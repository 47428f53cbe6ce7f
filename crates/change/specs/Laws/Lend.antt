-- Laws of neighbours that lend or merge: the nodes, and their entries as the plan has them.
use Rattle.std.specs.Prelude.{◌≡◌, refl, Bool, cond, List, [], ◌∷◌, ℕ, ◌+◌, ◌-◌, ◌≤◌, ◌<◌, ltb, length}
use Rattle.std.proofs.Math.Path.{sym, ap}
use Rattle.std.proofs.Common.{◌∙◌, arith, ltb-true, ltb-false}
use Rattle.std.proofs.Math.Bool.{true, false}
use Rattle.std.proofs.Math.Decide.{dec_lt}
use Rattle.base.specs.Test.{ifd}
use Rattle.base.proofs.Laws.Test.{ifd_yes, ifd_no}
use Rattle.nodes.specs.declared.node.Node.{Node}
use Rattle.nodes.specs.declared.change.Halves.{Halves}
use Rattle.nodes.specs.Node.{extra}
use Rattle.nodes.proofs.Laws.Node.{extra_le}
use Rattle.nodes.specs.Entries.{entries_of}
use Rattle.nodes.proofs.Laws.Entries.{first}
use Rattle.nodes.proofs.Laws.Built.{length_joined}
use Rattle.nodes.specs.Change.{wide, join, merged, from_right, from_left}
use Rattle.nodes.specs.Kept.{Whole}
use Rattle.nodes.proofs.Laws.Kept.{length_entries_of, merged_entries, from_right_left, from_right_right, from_right_sep, from_left_left, from_left_right, from_left_sep}
use Rattle.operations.specs.Object.{Ans, Writes}
use Rattle.operations.specs.Slot.{release}
use Rattle.operations.specs.Entry.{Entries, fewest_entries, first_key_or, kind}
use Rattle.operations.specs.Path.{TreePlan, Branch}
use Rattle.operations.specs.Change.{Go, parted}
use Rattle.change.specs.Rise.{OfLevel}
use Rattle.change.specs.Laws.Parts.{extra_level, join_level, narrow_level, left_level, right_level}
use Rattle.change.specs.Beside.{own_side, far_side, evened}
use Rattle.change.specs.Lend.{lent, joined}
use Rattle.operations.specs.Change as C

-- ---- ways out of the code that makes them
module _ (last : Bool) (n : Node) (sep : ℕ) (m : Node) where
  pub lent_by_left : (h : Halves) → last ≡ true → h ≡ from_left m sep n → h ≡ lent last n sep m
  unfolding lent
  lent_by_left h t e = rw t e

  pub lent_by_right : (h : Halves) → last ≡ false → h ≡ from_right n sep m → h ≡ lent last n sep m
  unfolding lent
  lent_by_right h t e = rw t e

  pub joined_to_left : (r : Node) → last ≡ true → r ≡ merged m sep n → r ≡ joined last n sep m
  unfolding joined
  joined_to_left r t e = rw t e

  pub joined_to_own : (r : Node) → last ≡ false → r ≡ merged n sep m → r ≡ joined last n sep m
  unfolding joined
  joined_to_own r t e = rw t e

pub left_joins : (n m : Node) → (n.count ≤ 6) × (m.count ≤ 7) → m.count + extra m.kind + n.count ≤ 14
left_joins n m h = omega (arith, extra_le m.kind)

pub right_joins : (n m : Node) → (n.count ≤ 6) × (m.count ≤ 7) → n.count + extra n.kind + m.count ≤ 14
right_joins n m h = omega (arith, extra_le n.kind)

pub joined_few : (r a b : Node) → a.count + extra a.kind + b.count ≤ 14 → r.count ≡ a.count + extra a.kind + b.count → r.count ≤ 14
joined_few r a b h e = omega arith

pub ruleset lend_exits = (lent_by_left, lent_by_right, joined_to_left, joined_to_own, left_joins, right_joins, joined_few)

-- two parts of level l, and the key from which the right one holds keys
pub record Halved (l : ℕ) (h : Halves) : Type 0 where
  pub left : OfLevel l h.left
  pub right : OfLevel l h.right
  pub next : first_key_or (entries_of h.right h.sep) 0 ≡ h.sep

nxt_first : (es : Entries) → first_key_or es 0 ≡ first es
nxt_first [] = refl
nxt_first (e ∷ es) = refl

-- "from 8 or more keys"
plenty : (l : ℕ) (m : Node) (lo : ℕ) → OfLevel l m → (p q : TreePlan) → ifd (dec_lt (fewest_entries l) (length (entries_of m lo))) p q ≡ cond (ltb 7 m.count) p q
plenty l m lo f p q = go (ltb 7 m.count) refl
  where
    len : length (entries_of m lo) + 7 ≡ m.count + fewest_entries l
    len = let e : extra m.kind ≡ extra (kind l) = ap extra f.kind in omega (arith, length_entries_of m lo f.whole, extra_level l)

    go : (b : Bool) → ltb 7 m.count ≡ b → ifd (dec_lt (fewest_entries l) (length (entries_of m lo))) p q ≡ cond (ltb 7 m.count) p q
    go true e = let h : 7 < m.count = ltb-true 7 m.count e in rw e (ifd_yes (dec_lt (fewest_entries l) (length (entries_of m lo))) p q (omega (arith, len)))
    go false e = let h : m.count ≤ 7 = ltb-false 7 m.count e in rw e (ifd_no (dec_lt (fewest_entries l) (length (entries_of m lo))) p q (λ d. omega (arith, len, d)))

module _ (l : ℕ) (n m : Node) (sep : ℕ) (fn : OfLevel l n) (fm : OfLevel l m) (enough : 1 < m.count) where
  to_right : n.kind ≡ m.kind
  to_right = fn.kind ∙ sym fm.kind

  count_of : (a b : Node) → Whole a → Whole b → (join a sep b).count ≡ a.count + extra a.kind + b.count
  unfolding join wide
  count_of a b f g = length_joined a b sep f.keys g.keys

  pub lent_halved : (last : Bool) → Halved l (lent last n sep m)
  unfolding lent from_left from_right
  lent_halved true =
      let i : m.count - 1 < (join m sep n).count = omega (arith, count_of m n fm.whole fn.whole) in
      record {
        left = left_level l (join m sep n) (join_level l m sep n fm fn) (m.count - 1) n.version i;
        right = right_level l (join m sep n) (join_level l m sep n fm fn) (m.count - 1) n.version i;
        next = nxt_first (entries_of (from_left m sep n).right (from_left m sep n).sep)
            ∙ ap first (from_left_right m n sep 0 fm.whole fn.whole to_right enough) ∙ sym (from_left_sep m n sep 0 fm.whole fn.whole to_right enough);
      }
  lent_halved false =
      let i : n.count + 1 < (join n sep m).count = omega (arith, count_of n m fn.whole fm.whole) in
      record {
        left = left_level l (join n sep m) (join_level l n sep m fn fm) (n.count + 1) m.version i;
        right = right_level l (join n sep m) (join_level l n sep m fn fm) (n.count + 1) m.version i;
        next = nxt_first (entries_of (from_right n sep m).right (from_right n sep m).sep)
            ∙ ap first (from_right_right n m sep 0 fn.whole fm.whole (sym to_right) enough) ∙ sym (from_right_sep n m sep 0 fn.whole fm.whole (sym to_right) enough);
      }

  pub joined_level : (last : Bool) → OfLevel l (joined last n sep m)
  unfolding joined merged
  joined_level true = narrow_level l (join m sep n) (join_level l m sep n fm fn)
  joined_level false = narrow_level l (join n sep m) (join_level l n sep m fn fm)

  -- the plan of either side, by the nodes
  pub evened_is : (a : Ans) (fs : List Branch) (go : Go) (last : Bool) (w : Writes) (f : Branch) (left right lo : ℕ)
      → evened a l fs go last w f left right (entries_of n (own_side last lo sep)) (entries_of m (far_side last lo sep))
      ≡ cond (ltb 7 m.count)
      (parted go l w f left (entries_of (lent last n sep m).left lo) right (entries_of (lent last n sep m).right (lent last n sep m).sep))
      (release w right (λ w'. C.merged a l fs go w' f left (entries_of (joined last n sep m) lo)))
  unfolding lent joined
  evened_is a fs go true w f left right lo =
      rw (
        from_left_left m n sep lo fm.whole fn.whole to_right enough,
        from_left_right m n sep lo fm.whole fn.whole to_right enough,
        merged_entries m n sep lo fm.whole fn.whole to_right,
      ) (plenty l m lo fm _ _)
  evened_is a fs go false w f left right lo =
      rw (
        from_right_left n m sep lo fn.whole fm.whole (sym to_right) enough,
        from_right_right n m sep lo fn.whole fm.whole (sym to_right) enough,
        merged_entries n m sep lo fn.whole fm.whole (sym to_right),
      ) (plenty l m sep fm _ _)
