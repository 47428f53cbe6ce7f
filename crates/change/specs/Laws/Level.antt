-- Laws of one level of a change.
use Rattle.std.specs.Prelude.{◌≡◌, Bool, true, false, List, [], ◌∷◌, get_or, Result, Ok, Err}
use Rattle.std.proofs.Math.Path.{refl, sym}
use Rattle.std.proofs.Common.{◌∙◌, ap, arith}
use Prim.Native.Nat.{ℕ, zero, suc, ◌+◌, ◌≤◌, ◌<◌}
use Rattle.std.proofs.Math.Decide.{dec_le}
use Rattle.std.proofs.Math.ListN.{length}
use Rattle.base.proofs.Laws.Test.{ifd_yes, ifd_no}
use Rattle.nodes.specs.declared.node.Node.{Node}
use Rattle.nodes.specs.declared.change.Wide.{Wide}
use Rattle.nodes.specs.Node.{extra}
use Rattle.nodes.proofs.Laws.Node.{extra_le}
use Rattle.nodes.specs.Entries.{entries_of, wide_entries}
use Rattle.nodes.proofs.Laws.Entries.{length_entries}
use Rattle.nodes.specs.Change.{narrow, wide_keys, wide_slots}
use Rattle.nodes.proofs.Laws.Kept.{narrow_entries}
use Rattle.operations.specs.Object.{node, Ans, Writes}
use Rattle.operations.specs.Entry.{Entries, node_value, fewest_entries, most_entries, kind}
use Rattle.operations.specs.Path.{TreePlan, Branch}
use Rattle.operations.specs.Change.{Go, split_root, up}
use Rattle.walk.specs.declared.down.Turn.{Turn}
use Rattle.change.specs.declared.rise.Risen.{Risen}
use Rattle.change.specs.declared.rise.Risen.TheVariants.{Up, Done}
use Rattle.walk.specs.declared.walk.Stop.{Stop}
use Rattle.walk.specs.declared.walk.Answer.{Answer}
use Rattle.client.specs.Layout.{ClientWord}
use Rattle.client.specs.Record.{in_store, value_of}
use Rattle.walk.specs.Entries.{branch_of}
use Rattle.walk.specs.Walk.{Course, Ended, Answered, goes}
use Rattle.walk.specs.Lookup.{Ends}
use Rattle.walk.specs.Laws.Down.{stops_not}
use Rattle.walk.specs.Laws.Ask.{name_below}
use Rattle.change.specs.Rise.{risen_course, NodeWritten, Content, Full, OfLevel, Under, in_parent, Raised, Closed, split_plan, neighbour_plan}
use Rattle.change.specs.Laws.Rise.{of_level_value, under_name, level_room}
use Rattle.change.specs.Laws.Parts.{extra_level, narrow_level}
use Rattle.change.specs.Split.{Splits}
use Rattle.change.specs.Grow.{root_split}
use Rattle.change.specs.Level.{level_plan, top_plan, Settled}
use Rattle.plans.specs.Plan as P

pub up_level : (slots : ℕ) (a : Ans) (l : ℕ) (b : Turn) (c : ℕ) (es : ℕ → Entries) (lo : ℕ) (fs : List Branch) (w : Writes)
    → up slots a l (in_parent b lo ∷ fs) w c (es (in_parent b lo).key) ≡ level_plan slots a l b c es lo fs w (λ w' es'. up slots a (suc l) fs w' b.name es')
unfolding level_plan branch_of
up_level slots a l b c es lo fs w = refl

-- ---- a node's new content as entries
module _ (l : ℕ) (n : Wide) (k : Content l n) (lo : ℕ) where
  fits : length (wide_slots n) ≡ length (wide_keys n) + extra n.kind
  fits = omega (arith, k.whole.keys, k.whole.slots)

  entries_many : length (wide_entries n lo) ≡ n.count + extra n.kind
  unfolding wide_entries
  entries_many = length_entries (extra n.kind) lo (extra_le n.kind) (wide_keys n) (wide_slots n) fits ∙ k.whole.slots

  least : fewest_entries l ≡ 7 + extra n.kind
  least = sym (ap (λ (j : ℕ). 7 + extra j) k.kind ∙ extra_level l)

  most : most_entries l ≡ 14 + extra n.kind
  unfolding extra
  most = by l ∙ sym (ap (λ (j : ℕ). 14 + extra j) k.kind)
    where
      by : (l : ℕ) → most_entries l ≡ 14 + extra (kind l)
      by zero = refl
      by (suc l) = refl

  narrow_of_level : OfLevel l (narrow n)
  narrow_of_level = narrow_level l n (record { kind = k.kind; level = k.level; whole = k.whole })

  narrow_value : (c : ℕ) → node_value l (wide_entries n lo) ≡ value_of (node c) (narrow n)
  narrow_value c = ap (node_value l) (sym (narrow_entries n lo k.whole)) ∙ of_level_value l (narrow n) lo c narrow_of_level

module _ (n : Wide) (d : Node) (pd : d ≡ narrow n) where
  pub settled : (m : ClientWord → ℕ) (x u : List ℕ) (c a b : ℕ) (s : Course) (x' u' : List ℕ) → NodeWritten x c d x' → Ends m u a b s u' → Settled m x u c n a b s x' u'
  settled m x u c a b s x' u' h e = record { ends = λ slots w. e.same slots _ []; written = rw pd at h; noted = e.noted }

pub settled_few : (n : Wide) (d : Node) → d.count ≡ n.count → n.count ≤ 14 → d.count ≤ 14
settled_few n d e h = omega arith

pub ruleset settle_exits = (settled, settled_few)

-- ---- a node in range is written
pub level_written : (slots l : ℕ) (t : Turn) (c : ℕ) (n : Wide) (a : Ans) → Content l n → 7 ≤ n.count → n.count ≤ 14 → (lo : ℕ) (fs : List Branch) (w : Writes) (go : Go)
    → level_plan slots a l t c (wide_entries n) lo fs w go ≡ P.done (a, (node c, value_of (node c) (narrow n)) ∷ w)
unfolding level_plan
level_written slots l t c n a k e f lo fs w go =
    let i : ℕ = (in_parent t lo).key in
    let p : fewest_entries l ≤ length (wide_entries n (in_parent t lo).key) = omega (arith, least l n k i, entries_many l n k (in_parent t lo).key) in
    let q : length (wide_entries n (in_parent t lo).key) ≤ most_entries l = omega (arith, most l n k i, entries_many l n k (in_parent t lo).key) in
    ifd_yes (dec_le (fewest_entries l) (length (wide_entries n (in_parent t lo).key))) _ _ p ∙ ifd_yes (dec_le (length (wide_entries n (in_parent t lo).key)) (most_entries l)) _ _ q
    ∙ rw (narrow_value l n k (in_parent t lo).key c)

pub top_written : (slots l c : ℕ) (n : Wide) (a : Ans) → Content l n → n.count ≤ 14 → (w : Writes)
    → top_plan slots a l c (wide_entries n 0) w ≡ P.done (a, (node c, value_of (node c) (narrow n)) ∷ w)
unfolding top_plan
top_written slots l c n a k f w =
    let q : length (wide_entries n 0) ≤ most_entries l = omega (arith, most l n k 0, entries_many l n k 0) in
    ifd_yes (dec_le (length (wide_entries n 0)) (most_entries l)) (P.done (a, (node c, node_value l (wide_entries n 0)) ∷ w)) (split_root slots a l w c (wide_entries n 0)) q
    ∙ rw (narrow_value l n k 0 c)

-- ---- below the root
raised_as : (slots : ℕ) (m : ClientWord → ℕ) (x u : List ℕ) (l : ℕ) (root : Bool) (p q : ℕ → List Branch → Writes → Go → TreePlan) (r : Result Risen Stop) (x' u' : List ℕ)
    → ((lo : ℕ) (fs : List Branch) (w : Writes) (go : Go) → p lo fs w go ≡ q lo fs w go) → Raised slots m x u l root q r x' u' → Raised slots m x u l root p r x' u'
raised_as slots m x u l root p q r x' u' e h = record {
  more = h.more;
  same = λ w hold lo fs t go. rw (e lo fs w go) (h.same w hold lo fs t go);
  holds = h.holds;
  kept = h.kept;
  good = h.good;
  few = h.few;
  content = h.content;
  noted = h.noted;
}

module _ (slots : ℕ) (m : ClientWord → ℕ) (x u : List ℕ) (l : ℕ) (root : Bool) (t : Turn) (c : ℕ) (n : Wide) (a b : ℕ) (k : Content l n) where
  abbrev whole_plan : ℕ → List Branch → Writes → Go → TreePlan
  whole_plan = level_plan slots (a, b, []) l t c (wide_entries n)

  -- which of the three plans it is
  is_split : n.count ≡ 15 → (lo : ℕ) (fs : List Branch) (w : Writes) (go : Go) → whole_plan lo fs w go ≡ split_plan slots l t c (wide_entries n) lo fs w go
  unfolding level_plan split_plan
  is_split e lo fs w go =
      let i : ℕ = (in_parent t lo).key in
      let p : fewest_entries l ≤ length (wide_entries n (in_parent t lo).key) = omega (arith, least l n k i, entries_many l n k (in_parent t lo).key) in
      let q : length (wide_entries n (in_parent t lo).key) ≤ most_entries l → ⊥ = λ q. omega (arith, most l n k i, entries_many l n k (in_parent t lo).key, q) in
      ifd_yes (dec_le (fewest_entries l) (length (wide_entries n (in_parent t lo).key))) _ _ p ∙ ifd_no (dec_le (length (wide_entries n (in_parent t lo).key)) (most_entries l)) _ _ q

  is_neighbour : n.count < 7 → (lo : ℕ) (fs : List Branch) (w : Writes) (go : Go) → whole_plan lo fs w go ≡ neighbour_plan (a, b, []) l t c (entries_of (narrow n)) lo fs w go
  unfolding level_plan neighbour_plan
  is_neighbour e lo fs w go =
      let i : ℕ = (in_parent t lo).key in
      let p : fewest_entries l ≤ length (wide_entries n (in_parent t lo).key) → ⊥ = λ p. omega (arith, least l n k i, entries_many l n k (in_parent t lo).key, p) in
      rw (narrow_entries n (in_parent t lo).key k.whole) (ifd_no (dec_le (fewest_entries l) (length (wide_entries n (in_parent t lo).key))) _ _ p)

  pub raise_lacks : n.count ≡ 15 → (s : Stop) (x' u' : List ℕ) → Splits slots m x u l t c n (Err s) x' u' → Raised slots m x u l root (level_plan slots (a, b, []) l t c (wide_entries n)) (Err s) x' u'
  raise_lacks e s x' u' h = raised_as slots m x u l root whole_plan (split_plan slots l t c (wide_entries n)) (Err s) x' u' (is_split e) (h.raised root)

  pub raise_splits : n.count ≡ 15 → (up : Wide) (x' u' : List ℕ) → Splits slots m x u l t c n (Ok up) x' u'
      → Raised slots m x u l root (level_plan slots (a, b, []) l t c (wide_entries n)) (Ok (Up up)) x' u'
  raise_splits e up x' u' h = raised_as slots m x u l root whole_plan (split_plan slots l t c (wide_entries n)) (Ok (Up up)) x' u' (is_split e) (h.raised root)

  module _ (d : Node) (pd : d ≡ narrow n) where
    pub raise_turns : n.count < 7 → (r : Result Risen Stop) (x' u' : List ℕ) → Raised slots m x u l root (neighbour_plan (a, b, []) l t c (entries_of d)) r x' u'
        → Raised slots m x u l root (level_plan slots (a, b, []) l t c (wide_entries n)) r x' u'
    raise_turns e r x' u' h = raised_as slots m x u l root whole_plan (neighbour_plan (a, b, []) l t c (entries_of (narrow n))) r x' u' (is_neighbour e) (rw pd at h)

    pub raise_of_level : OfLevel l d
    raise_of_level = rw pd (narrow_of_level l n k 0)

  module _ (ne : n.count ≡ 15 → ⊥) (e : 7 ≤ n.count) (un : Under slots l c t) (x' u' : List ℕ) where
    -- what does not go on from there is as the answer
    writes : (r : Result Risen Stop) → goes (risen_course r) ≡ false → Settled m x u c n a b (risen_course r) x' u'
        → Raised slots m x u l root (level_plan slots (a, b, []) l t c (wide_entries n)) r x' u'
    writes r halts h =
        let f : n.count ≤ 14 = omega (arith, k.few, ne) in
        record {
          more = (node c, value_of (node c) (narrow n)) ∷ [];
          same = λ w hold lo fs t' go. rw (level_written slots l t c n (a, b, []) k e f lo fs w go, halts) (h.ends slots w);
          holds = λ _ w hold. h.written.holds slots w un.link.there hold;
          kept = λ _ w hold. h.written.kept;
          good = λ q. stops_not (risen_course r) halts q;
          few = λ q. stops_not (risen_course r) halts q;
          content = λ q. stops_not (risen_course r) halts q;
          noted = h.noted;
        }

    pub raise_ends : (s : Stop) → Settled m x u c n a b (Ended s) x' u' → Raised slots m x u l root (level_plan slots (a, b, []) l t c (wide_entries n)) (Err s) x' u'
    raise_ends s h = writes (Err s) refl h

    pub raise_answers : (r : Answer) → Settled m x u c n a b (Answered r.a r.b) x' u' → Raised slots m x u l root (level_plan slots (a, b, []) l t c (wide_entries n)) (Ok (Done r)) x' u'
    raise_answers r h = writes (Ok (Done r)) refl h

pub raise_full : (l : ℕ) (n : Wide) → Content l n → n.count ≡ 15 → Full l n
raise_full l n k e = record { content = k; full = e }

pub raise_narrow : (l : ℕ) (n : Wide) → Content l n → (n.count ≡ 15 → ⊥) → n.count ≤ 14
raise_narrow l n k ne = omega (arith, k.few, ne)

pub raise_few : (n : Wide) (d : Node) → d.count ≡ n.count → n.count < 7 → d.count ≤ 6
raise_few n d e h = omega arith

pub raise_turn_few : (n : Wide) → n.count < 7 → n.count ≤ 14
raise_turn_few n h = omega arith

pub raise_turn_room : (x : List ℕ) → get_or x 0 0 ≤ 12 → get_or x 0 0 ≤ 15
raise_turn_room x h = omega arith

pub ruleset raise_exits = (raise_lacks, raise_splits, raise_turns, raise_of_level, raise_ends, raise_answers, raise_full, raise_narrow, raise_few, raise_turn_few, level_room, raise_turn_room, under_name)

-- ---- the root
module _ (slots : ℕ) (m : ClientWord → ℕ) (x u : List ℕ) (l c : ℕ) (n : Wide) (a b : ℕ) (k : Content l n) where
  pub top_splits : n.count ≡ 15 → (s : Course) (x' u' : List ℕ) → Closed slots m x u (root_split slots (a, b, []) l c (wide_entries n 0)) s x' u'
      → Closed slots m x u (top_plan slots (a, b, []) l c (wide_entries n 0)) s x' u'
  unfolding top_plan root_split
  top_splits e s x' u' h =
      let q : length (wide_entries n 0) ≤ most_entries l → ⊥ = λ q. omega (arith, most l n k 0, entries_many l n k 0, q) in
      record {
        more = h.more;
        same = λ w hold. rw (ifd_no (dec_le (length (wide_entries n 0)) (most_entries l)) (P.done ((a, b, []), (node c, node_value l (wide_entries n 0)) ∷ w)) (split_root slots (a, b, []) l w c (wide_entries n 0)) q) (h.same w hold);
        holds = h.holds;
        kept = h.kept;
        noted = h.noted;
      }

  pub top_writes : (n.count ≡ 15 → ⊥) → in_store slots c ≡ true → (s : Course) (x' u' : List ℕ) → Settled m x u c n a b s x' u'
      → Closed slots m x u (top_plan slots (a, b, []) l c (wide_entries n 0)) s x' u'
  top_writes ne there s x' u' h =
      let f : n.count ≤ 14 = omega (arith, k.few, ne) in
      record {
        more = (node c, value_of (node c) (narrow n)) ∷ [];
        same = λ w hold. rw (top_written slots l c n (a, b, []) k f w) (h.ends slots w);
        holds = λ _ w hold. h.written.holds slots w there hold;
        kept = λ _ w hold. h.written.kept;
        noted = h.noted;
      }

pub ruleset top_exits = (top_splits, top_writes, name_below, raise_full, raise_narrow, level_room)
