-- What is made of a node is of its level: its halves, two in one, and a parent's new content.
use Rattle.std.specs.Prelude.{◌≡◌, refl, ℕ, zero, suc, ◌+◌, ◌-◌, ◌≤◌, ◌<◌, take, drop, set}
use Rattle.std.proofs.Common.{sym, ◌∙◌, arith}
use Rattle.std.proofs.Math.ListN.{length, length-drop, length-set}
use Rattle.std.proofs.Math.Seq.{length-take-le}
use Rattle.nodes.specs.declared.node.Node.{Node}
use Rattle.nodes.specs.declared.change.Wide.{Wide}
use Rattle.nodes.specs.Lists.{remove_at}
use Rattle.nodes.proofs.Laws.Lists.{length_remove}
use Rattle.nodes.specs.Node.{extra, keys_of, slots_of, made}
use Rattle.nodes.proofs.Laws.Node.{extra_le}
use Rattle.nodes.specs.Entries.{entries_of, wide_entries}
use Rattle.nodes.specs.Change.{wide, wide_keys, wide_slots, take_out, with_key, narrow, cut_at, join}
use Rattle.nodes.specs.Kept.{WholeWide}
use Rattle.nodes.proofs.Laws.Kept.{made_whole, wide_whole, entries_wide, join_whole}
use Rattle.operations.specs.Entry.{fewest_entries, kind}
use Rattle.change.specs.Rise.{OfLevel, Content, widened}

-- as many slots more than keys as a node of that level has
pub extra_level : (l : ℕ) → 7 + extra (kind l) ≡ fewest_entries l
unfolding extra
extra_level zero = refl
extra_level (suc l) = refl

-- what has the parts of a node of level l
pub record Leveled (l : ℕ) (w : Wide) : Type 0 where
  pub kind : w.kind ≡ kind l
  pub level : w.level ≡ l
  pub whole : WholeWide w

module _ (l : ℕ) (w : Wide) (f : Leveled l w) where
  fits : length (wide_slots w) ≡ length (wide_keys w) + extra w.kind
  fits = omega (arith, f.whole.keys, f.whole.slots)

  pub narrow_level : OfLevel l (narrow w)
  unfolding narrow made
  narrow_level = record {
    kind = f.kind;
    level = f.level;
    whole = made_whole w.kind w.level w.version 0 (wide_keys w) (wide_slots w) fits;
  }

  module _ (i v : ℕ) (h : i < w.count) where
    pub left_level : OfLevel l (cut_at w i v).left
    unfolding cut_at made
    left_level =
        let a : length (take i (wide_keys w)) ≡ i = length-take-le i (wide_keys w) (omega (arith, f.whole.keys)) in
        let b : length (take (i + extra w.kind) (wide_slots w)) ≡ i + extra w.kind = length-take-le (i + extra w.kind) (wide_slots w) (omega (arith, f.whole.slots)) in
        record {
          kind = f.kind;
          level = f.level;
          whole = made_whole w.kind w.level w.version 0 (take i (wide_keys w)) (take (i + extra w.kind) (wide_slots w)) (omega arith);
        }

    pub right_level : OfLevel l (cut_at w i v).right
    unfolding cut_at made
    right_level =
        let a : length (drop (i + extra w.kind) (wide_keys w)) ≡ length (wide_keys w) - (i + extra w.kind) = length-drop (i + extra w.kind) (wide_keys w) in
        let b : length (drop (i + extra w.kind) (wide_slots w)) ≡ length (wide_slots w) - (i + extra w.kind) = length-drop (i + extra w.kind) (wide_slots w) in
        record {
          kind = f.kind;
          level = f.level;
          whole = made_whole w.kind w.level v 0 (drop (i + extra w.kind) (wide_keys w)) (drop (i + extra w.kind) (wide_slots w)) (omega (arith, fits, f.whole.keys, extra_le w.kind));
        }

-- two neighbours of a level in one
pub join_level : (l : ℕ) (a : Node) (sep : ℕ) (b : Node) → OfLevel l a → OfLevel l b → Leveled l (join a sep b)
unfolding join wide
join_level l a sep b f g = record { kind = f.kind; level = f.level; whole = join_whole a b sep 0 f.whole g.whole (g.kind ∙ sym f.kind) }

-- a parent with another separator, or without key number i and the child right of it
module _ (l : ℕ) (n : Node) (f : OfLevel l n) where
  longer : length (slots_of n) ≡ length (keys_of n) + extra n.kind
  longer = omega (arith, f.whole.keys, f.whole.slots)

  pub key_level : (i k : ℕ) → OfLevel l (with_key n i k)
  unfolding with_key made
  key_level i k =
      let e : length (slots_of n) ≡ length (set (keys_of n) i k) + extra n.kind = rw length-set longer in
      record { kind = f.kind; level = f.level; whole = made_whole n.kind n.level n.version 0 (set (keys_of n) i k) (slots_of n) e }

  pub out_level : (i : ℕ) → i < n.count → OfLevel l (take_out n i)
  unfolding take_out made
  out_level i h =
      let a : length (remove_at i (keys_of n)) ≡ length (keys_of n) - 1 = length_remove i (keys_of n) (omega (arith, f.whole.keys)) in
      let b : length (remove_at (i + extra n.kind) (slots_of n)) ≡ length (slots_of n) - 1 = length_remove (i + extra n.kind) (slots_of n) (omega (arith, f.whole.slots)) in
      record {
        kind = f.kind;
        level = f.level;
        whole = made_whole n.kind n.level n.version 0 (remove_at i (keys_of n)) (remove_at (i + extra n.kind) (slots_of n)) (omega (arith, longer, f.whole.keys));
      }

  -- and as the content that goes up
  pub widened_entries : (lo : ℕ) → wide_entries (widened n) lo ≡ entries_of n lo
  unfolding widened entries_of
  widened_entries lo = entries_wide n.kind n.level n.version lo (keys_of n) (slots_of n) longer

  pub widened_content : n.count ≤ 14 → Content l (widened n)
  unfolding widened wide
  widened_content h = record {
    kind = f.kind;
    level = f.level;
    whole = wide_whole n.kind n.level n.version 0 (keys_of n) (slots_of n) longer;
    few = omega (arith, f.whole.keys);
  }
