-- Two neighbours under one parent: the plan that turns to one of them, by the parent's entries.
use Rattle.std.specs.Prelude.{◌≡◌, Bool, true, false, cond, List, ◌++◌, ℕ, suc, ◌-◌, ◌<◌, length, take, drop, get_or}
use Rattle.std.proofs.Math.Decide.{dec_lt}
use Rattle.base.specs.Test.{ifd}
use Rattle.operations.specs.Object.{Ans, Writes}
use Rattle.operations.specs.Slot.{release}
use Rattle.operations.specs.Entry.{Entries, fewest_entries}
use Rattle.operations.specs.Path.{TreePlan, Branch}
use Rattle.operations.specs.Change.{Go, parted, merged}

-- the branch to two neighbours, the left one of which is entry number j
unfoldable pub pair_of : ℕ → ℕ → Entries → Branch
pair_of n j es = record { nm = n; key = (get_or es j (0, 0)).0; pre = take j es; post = drop (suc (suc j)) es }

-- of two neighbours' numbers, names or keys: that of the node which turns, and that of the one it turns to. The last child turns to its left
abbrev pub own_side : {A : Type 0} → Bool → A → A → A
own_side last l r = cond last r l

abbrev pub far_side : {A : Type 0} → Bool → A → A → A
far_side last l r = cond last l r

-- the left one's number among the children, and with it the side
pub record Paired (count i j : ℕ) (last : Bool) : Type 0 where
  pub here : i ≡ own_side last j (suc j)
  pub inside : j < count
  pub ends : last ≡ true → count ≡ suc j

module _ (a : Ans) (l : ℕ) (fs : List Branch) (go : Go) where
  -- the two are c1 and c2; the one that turns has the entries es, its neighbour es2. "From 8 or more keys one moves over, in inner nodes
  -- through the parent; from 7 the two merge into the left one and the right is freed."
  abbrev pub evened : Bool → Writes → Branch → ℕ → ℕ → Entries → Entries → TreePlan
  evened true w f c1 c2 es es2 = let n = length es2 - 1 in
      ifd (dec_lt (fewest_entries l) (length es2)) (parted go l w f c1 (take n es2) c2 (drop n es2 ++ es)) (release w c2 (λ w'. merged a l fs go w' f c1 (es2 ++ es)))
  evened false w f c1 c2 es es2 =
      ifd (dec_lt (fewest_entries l) (length es2)) (parted go l w f c1 (es ++ take 1 es2) c2 (drop 1 es2)) (release w c2 (λ w'. merged a l fs go w' f c1 (es ++ es2)))
