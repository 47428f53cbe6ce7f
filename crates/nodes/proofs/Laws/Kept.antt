-- What each function on nodes keeps of the entries: nothing is lost by a split, a merge, or a move to a neighbour.
use Prim.Native.Nat.{ℕ, ◌+◌, ◌-◌, ◌≤◌, ◌<◌}
use Rattle.std.specs.Prelude.{◌≡◌, List, ◌++◌, take, drop, get_or, set}
use Rattle.std.proofs.Math.Path.{refl, sym, ap}
use Rattle.std.proofs.Common.{◌∙◌, arith, length-append}
use Rattle.std.proofs.Math.ListN.{length, length-drop, length-set}
use Rattle.std.proofs.Math.Seq.{length-take-le, take-append-add, drop-append-add, drop-append-le}
use Rattle.std.proofs.lemmas.List.{take-append-le}
use Rattle.nodes.specs.declared.node.Node.{Node}
use Rattle.nodes.specs.declared.change.Wide.{Wide}
use Rattle.nodes.specs.declared.change.Halves.{Halves}
use Rattle.nodes.specs.Lists.{insert_at, remove_at}
use Rattle.nodes.proofs.Laws.Lists.{length_insert, length_remove}
use Rattle.nodes.specs.Node.{extra, keys_of, slots_of, made}
use Rattle.nodes.proofs.Laws.Node.{extra_le, length_keysOf, length_slotsOf, keys_made, slots_made}
use Rattle.nodes.specs.Change.{wide, wide_keys, wide_slots, put_in, take_out, with_key, with_slot, narrow, cut_at, split, joined_keys, join, merged, from_right, from_left}
use Rattle.nodes.proofs.Laws.Built.{wide_keys_made, wide_slots_made, length_joined}
use Rattle.nodes.specs.Entries.{headed, entries, entries_of, wide_entries}
use Rattle.nodes.proofs.Laws.Entries.{length_entries, entries_take, entries_drop, entries_join, entries_insert, entries_remove, entries_key, entries_slot, first, entries_first}
use Rattle.nodes.specs.Kept.{Whole, WholeWide}

pub whole : (n : Node) → length n.keys ≡ 14 → length n.slots ≡ 15 → n.count ≤ 14 → Whole n
whole n lk ls h = record { keys = length_keysOf n lk h; slots = length_slotsOf n ls h }

-- ---- what was made has the entries of its lists
module _ (k l v lo : ℕ) (ks ss : List ℕ) (e : length ss ≡ length ks + extra k) where
  kind_made : (made k l v ks ss).kind ≡ k
  unfolding made
  kind_made = refl

  pub entries_made : entries_of (made k l v ks ss) lo ≡ entries (extra k) lo ks ss
  unfolding entries_of
  entries_made = rw (keys_made k l v ks ss, slots_made k l v ks ss e, kind_made)

  kind_wide : (wide k l v ks ss).kind ≡ k
  unfolding wide
  kind_wide = refl

  pub entries_wide : wide_entries (wide k l v ks ss) lo ≡ entries (extra k) lo ks ss
  unfolding wide_entries
  entries_wide = rw (wide_keys_made k l v ks ss, wide_slots_made k l v ks ss e, kind_wide)

  count_made : (made k l v ks ss).count ≡ length ks
  unfolding made
  count_made = refl

  pub made_whole : Whole (made k l v ks ss)
  made_whole = record { keys = rw (keys_made k l v ks ss, count_made); slots = rw (slots_made k l v ks ss e, count_made, kind_made) e }

  count_wide : (wide k l v ks ss).count ≡ length ks
  unfolding wide
  count_wide = refl

  pub wide_whole : WholeWide (wide k l v ks ss)
  wide_whole = record { keys = rw (wide_keys_made k l v ks ss, count_wide); slots = rw (wide_slots_made k l v ks ss e, count_wide, kind_wide) e }

-- ---- one node: a key and its slot put in, taken out or replaced
module _ (n : Node) (lo : ℕ) (f : Whole n) where
  longer : length (slots_of n) ≡ length (keys_of n) + extra n.kind
  longer = omega (arith, f.keys, f.slots)

  pub length_entries_of : length (entries_of n lo) ≡ n.count + extra n.kind
  unfolding entries_of
  length_entries_of = length_entries (extra n.kind) lo (extra_le n.kind) (keys_of n) (slots_of n) longer ∙ f.slots

  module _ (i k s : ℕ) (h : i ≤ n.count) where
    put_in_longer : length (insert_at (i + extra n.kind) s (slots_of n)) ≡ length (insert_at i k (keys_of n)) + extra n.kind
    put_in_longer =
        let a : length (insert_at i k (keys_of n)) ≡ length (keys_of n) + 1 = length_insert i k (keys_of n) (omega (arith, f.keys)) in
        let b : length (insert_at (i + extra n.kind) s (slots_of n)) ≡ length (slots_of n) + 1 =
        length_insert (i + extra n.kind) s (slots_of n) (omega (arith, f.slots)) in
        omega (arith, longer)

    pub put_in_whole : WholeWide (put_in n i k s)
    unfolding put_in
    put_in_whole = wide_whole n.kind n.level n.version lo (insert_at i k (keys_of n)) (insert_at (i + extra n.kind) s (slots_of n)) put_in_longer

    pub put_in_entries : wide_entries (put_in n i k s) lo ≡ insert_at (i + extra n.kind) (k, s) (entries_of n lo)
    unfolding put_in entries_of
    put_in_entries =
        entries_wide n.kind n.level n.version lo (insert_at i k (keys_of n)) (insert_at (i + extra n.kind) s (slots_of n)) put_in_longer
        ∙ entries_insert (extra n.kind) lo (extra_le n.kind) (keys_of n) (slots_of n) longer i k s (omega (arith, f.keys))

  pub take_out_entries : (i : ℕ) → i < n.count → entries_of (take_out n i) lo ≡ remove_at (i + extra n.kind) (entries_of n lo)
  unfolding take_out entries_of
  take_out_entries i h =
      let a : length (remove_at i (keys_of n)) ≡ length (keys_of n) - 1 = length_remove i (keys_of n) (omega (arith, f.keys)) in
      let b : length (remove_at (i + extra n.kind) (slots_of n)) ≡ length (slots_of n) - 1 =
      length_remove (i + extra n.kind) (slots_of n) (omega (arith, f.slots)) in
      entries_made n.kind n.level n.version lo (remove_at i (keys_of n)) (remove_at (i + extra n.kind) (slots_of n)) (omega (arith, longer, f.keys))
      ∙ entries_remove (extra n.kind) lo (extra_le n.kind) (keys_of n) (slots_of n) longer i (omega (arith, f.keys))

  pub key_entries : (i k : ℕ) → entries_of (with_key n i k) lo ≡ set (entries_of n lo) (i + extra n.kind) (k, get_or (slots_of n) (i + extra n.kind) 0)
  unfolding with_key entries_of
  key_entries i k =
      entries_made n.kind n.level n.version lo (set (keys_of n) i k) (slots_of n) (rw length-set longer)
      ∙ entries_key (extra n.kind) lo (extra_le n.kind) (keys_of n) (slots_of n) longer i k

  pub slot_entries : (i s : ℕ) → entries_of (with_slot n i s) lo ≡ set (entries_of n lo) i (get_or (headed (extra n.kind) lo (keys_of n)) i 0, s)
  unfolding with_slot entries_of
  slot_entries i s =
      entries_made n.kind n.level n.version lo (keys_of n) (set (slots_of n) i s) (rw length-set longer)
      ∙ entries_slot (extra n.kind) lo (extra_le n.kind) (keys_of n) (slots_of n) longer i s

-- ---- a wide node: made narrow, or cut before its key number i
module _ (w : Wide) (lo : ℕ) (f : WholeWide w) where
  wide_longer : length (wide_slots w) ≡ length (wide_keys w) + extra w.kind
  wide_longer = omega (arith, f.keys, f.slots)

  pub narrow_entries : entries_of (narrow w) lo ≡ wide_entries w lo
  unfolding narrow wide_entries
  narrow_entries = entries_made w.kind w.level w.version lo (wide_keys w) (wide_slots w) wide_longer

  module _ (i v : ℕ) (h : i < w.count) where
    pub left_entries : entries_of (cut_at w i v).left lo ≡ take (i + extra w.kind) (wide_entries w lo)
    unfolding cut_at wide_entries
    left_entries =
        let x : ℕ = extra w.kind in
        let a : length (take i (wide_keys w)) ≡ i = length-take-le i (wide_keys w) (omega (arith, f.keys)) in
        let b : length (take (i + extra w.kind) (wide_slots w)) ≡ i + extra w.kind = length-take-le (i + extra w.kind) (wide_slots w) (omega (arith, f.slots)) in
        entries_made w.kind w.level w.version lo (take i (wide_keys w)) (take (i + extra w.kind) (wide_slots w)) (omega arith)
        ∙ entries_take (extra w.kind) lo (extra_le w.kind) (wide_keys w) (wide_slots w) wide_longer i

    pub right_entries : entries_of (cut_at w i v).right (cut_at w i v).sep ≡ drop (i + extra w.kind) (wide_entries w lo)
    unfolding cut_at wide_entries
    right_entries =
        let a : length (drop (i + extra w.kind) (wide_keys w)) ≡ length (wide_keys w) - (i + extra w.kind) = length-drop (i + extra w.kind) (wide_keys w) in
        let b : length (drop (i + extra w.kind) (wide_slots w)) ≡ length (wide_slots w) - (i + extra w.kind) = length-drop (i + extra w.kind) (wide_slots w) in
        entries_made w.kind w.level v (get_or (wide_keys w) i 0) (drop (i + extra w.kind) (wide_keys w)) (drop (i + extra w.kind) (wide_slots w))
        (omega (arith, wide_longer, f.keys, extra_le w.kind))
        ∙ entries_drop (extra w.kind) lo (extra_le w.kind) (wide_keys w) (wide_slots w) wide_longer i (omega (arith, f.keys))

    -- the separator is the key from which the right half holds keys
    pub sep_first : (cut_at w i v).sep ≡ first (drop (i + extra w.kind) (wide_entries w lo))
    unfolding cut_at wide_entries
    sep_first = sym (entries_first (extra w.kind) lo i (wide_keys w) (wide_slots w) (extra_le w.kind) wide_longer (omega (arith, f.keys)))

  -- an overfull node split: 7 entries of a leaf in the left half, 8 of an inner node
  module _ (v : ℕ) (h : w.count ≡ 15) where
    pub split_left : entries_of (split w v).left lo ≡ take (7 + extra w.kind) (wide_entries w lo)
    unfolding split
    split_left = left_entries 7 v (omega arith)

    pub split_right : entries_of (split w v).right (split w v).sep ≡ drop (7 + extra w.kind) (wide_entries w lo)
    unfolding split
    split_right = right_entries 7 v (omega arith)

    pub split_sep : (split w v).sep ≡ first (drop (7 + extra w.kind) (wide_entries w lo))
    unfolding split
    split_sep = sep_first 7 v (omega arith)

-- ---- two neighbours: joined, merged, one key moved over
module _ (a b : Node) (sep lo : ℕ) (fa : Whole a) (fb : Whole b) (k : b.kind ≡ a.kind) where
  slots_fit : length (slots_of a ++ slots_of b) ≡ length (joined_keys a sep b) + extra a.kind
  slots_fit =
      let y : extra b.kind ≡ extra a.kind = ap extra k in
      simp length-append (omega (arith, fa.slots, fb.slots, length_joined a b sep fa.keys fb.keys))

  pub join_whole : WholeWide (join a sep b)
  unfolding join
  join_whole = wide_whole a.kind a.level a.version lo (joined_keys a sep b) (slots_of a ++ slots_of b) slots_fit

  pub join_entries : wide_entries (join a sep b) lo ≡ entries_of a lo ++ entries_of b sep
  unfolding join entries_of joined_keys
  join_entries =
      let y : extra b.kind ≡ extra a.kind = ap extra k in
      entries_wide a.kind a.level a.version lo (joined_keys a sep b) (slots_of a ++ slots_of b) slots_fit
      ∙ entries_join (extra a.kind) lo (extra_le a.kind) (keys_of a) (slots_of a) (longer a lo fa) sep (keys_of b) (slots_of b)
      ∙ ap (λ (e : ℕ). entries (extra a.kind) lo (keys_of a) (slots_of a) ++ entries e sep (keys_of b) (slots_of b)) (sym y)

  pub merged_entries : entries_of (merged a sep b) lo ≡ entries_of a lo ++ entries_of b sep
  unfolding merged
  merged_entries = narrow_entries (join a sep b) lo join_whole ∙ join_entries

  join_kind : (join a sep b).kind ≡ a.kind
  unfolding join wide
  join_kind = refl

  join_count : (join a sep b).count ≡ a.count + extra a.kind + b.count
  unfolding join wide
  join_count = length_joined a b sep fa.keys fb.keys

  -- the two with i keys in the left one
  module _ (i : ℕ) (h : i < a.count + extra a.kind + b.count) where
    abbrev shared : Halves
    shared = cut_at (join a sep b) i b.version

    inside : i < (join a sep b).count
    inside = omega (arith, join_count)

    shared_left : entries_of shared.left lo ≡ take (i + extra a.kind) (entries_of a lo ++ entries_of b sep)
    shared_left = left_entries (join a sep b) lo join_whole i b.version inside ∙ rw (join_entries, join_kind)

    shared_right : entries_of shared.right shared.sep ≡ drop (i + extra a.kind) (entries_of a lo ++ entries_of b sep)
    shared_right = right_entries (join a sep b) lo join_whole i b.version inside ∙ rw (join_entries, join_kind)

    shared_sep : shared.sep ≡ first (drop (i + extra a.kind) (entries_of a lo ++ entries_of b sep))
    shared_sep = sep_first (join a sep b) lo join_whole i b.version inside ∙ rw (join_entries, join_kind)

  -- "one moves over": the right one's first entry to the left one
  module _ (h : 1 < b.count) where
    after : a.count + 1 + extra a.kind ≡ length (entries_of a lo) + 1
    after = omega (arith, length_entries_of a lo fa)

    pub from_right_left : entries_of (from_right a sep b).left lo ≡ entries_of a lo ++ take 1 (entries_of b sep)
    unfolding from_right
    from_right_left = shared_left (a.count + 1) (omega arith) ∙ rw after (take-append-add (entries_of a lo) (entries_of b sep) 1)

    pub from_right_right : entries_of (from_right a sep b).right (from_right a sep b).sep ≡ drop 1 (entries_of b sep)
    unfolding from_right
    from_right_right = shared_right (a.count + 1) (omega arith) ∙ rw after (drop-append-add (entries_of a lo) (entries_of b sep) 1)

    pub from_right_sep : (from_right a sep b).sep ≡ first (drop 1 (entries_of b sep))
    unfolding from_right
    from_right_sep = shared_sep (a.count + 1) (omega arith) ∙ rw (after, drop-append-add (entries_of a lo) (entries_of b sep) 1)

  -- the left one's last entry to the right one
  module _ (h : 1 < a.count) where
    abbrev last : ℕ
    last = length (entries_of a lo) - 1

    before : a.count - 1 + extra a.kind ≡ last
    before = omega (arith, length_entries_of a lo fa)

    within : last ≤ length (entries_of a lo)
    within = omega arith

    pub from_left_left : entries_of (from_left a sep b).left lo ≡ take last (entries_of a lo)
    unfolding from_left
    from_left_left = shared_left (a.count - 1) (omega arith) ∙ rw before (take-append-le last (entries_of a lo) (entries_of b sep) within)

    pub from_left_right : entries_of (from_left a sep b).right (from_left a sep b).sep ≡ drop last (entries_of a lo) ++ entries_of b sep
    unfolding from_left
    from_left_right = shared_right (a.count - 1) (omega arith) ∙ rw before (drop-append-le last (entries_of a lo) (entries_of b sep) within)

    pub from_left_sep : (from_left a sep b).sep ≡ first (drop last (entries_of a lo) ++ entries_of b sep)
    unfolding from_left
    from_left_sep = shared_sep (a.count - 1) (omega arith) ∙ rw (before, drop-append-le last (entries_of a lo) (entries_of b sep) within)
