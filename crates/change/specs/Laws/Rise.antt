-- Laws of changes carried up.
use Rattle.std.specs.Prelude.{◌≡◌, Bool, true, false, List, [], ◌∷◌, ◌++◌, ℕ, zero, suc, ◌+◌, ◌≤◌, ◌<◌, take, drop, get_or, Result, Err}
use Rattle.std.proofs.Math.Path.{refl}
use Rattle.std.proofs.Common.{sym, ◌∙◌, ap, append-nil, arith, length-take-le, lt-ltb}
use Rattle.std.proofs.Math.ListN.{length}
use Rattle.nodes.specs.declared.node.Node.{Node}
use Rattle.nodes.specs.declared.change.Wide.{Wide}
use Rattle.nodes.specs.declared.change.Halves.{Halves}
use Rattle.nodes.specs.Lists.{pad}
use Rattle.nodes.specs.Node.{extra, keys_of, slots_of, made}
use Rattle.nodes.proofs.Laws.Node.{keys_made, slots_made}
use Rattle.nodes.specs.Entries.{entries_of}
use Rattle.nodes.specs.Change.{wide, with_version}
use Rattle.nodes.specs.Kept.{Whole}
use Rattle.nodes.proofs.Laws.Kept.{whole}
use Rattle.nodes.proofs.Laws.Stored.{Sized}
use Rattle.operations.specs.Object.{node, Writes}
use Rattle.operations.specs.Entry.{node_value}
use Rattle.operations.specs.Path.{TreePlan, Branch}
use Rattle.operations.specs.Change.{Go}
use Rattle.change.specs.declared.rise.Risen.{Risen}
use Rattle.walk.specs.declared.down.Turn.{Turn}
use Rattle.walk.specs.declared.walk.Stop.{Stop}
use Rattle.client.specs.Layout.{ClientWord}
use Rattle.client.specs.Record.{number, value_of, record_of}
use Rattle.client.specs.Lent.{OwnFits, own_put, used_in}
use Rattle.walk.specs.Walk.{Course, Going, Ended, Answered, told, goes, stands, walked}
use Rattle.walk.specs.Lookup.{ended}
use Rattle.walk.specs.Ask.{OwnGood, HoldsWrites, Noted}
use Rattle.walk.specs.Laws.Ask.{name_below}
use Rattle.walk.specs.Laws.Write.{few_more, holds_more}
use Rattle.walk.specs.Take.{Wrote}
use Rattle.walk.specs.Laws.Take.{wrote}
use Rattle.walk.specs.Entries.{opens}
use Rattle.walk.specs.Laws.Entries.{stored_node}
use Rattle.change.specs.Rise.{NodeWritten, risen_course, is_root, Raised, Closed, Under, OfLevel, Fitting, BothWritten, widened}

pub under_name : (slots l c : ℕ) (b : Turn) → Under slots l c b → c < 8192
under_name slots l c b un = name_below slots c un.link.there

-- room for the writes of one level
pub level_room : (x : List ℕ) → get_or x 0 0 ≤ 12 → get_or x 0 0 < 20
level_room x h = omega arith

-- ---- a node is written
module _ (x : List ℕ) (g : OwnGood x) (few : get_or x 0 0 < 20) (name k : ℕ) (pk : k ≡ 1 + name) (n : Node) (lk : length n.keys ≡ 14) (ls : length n.slots ≡ 15) (h : n.count ≤ 14) (q : Node) (pq : q ≡ with_version n 0) (qk : length q.keys ≡ 14) (qs : length q.slots ≡ 15) (x' : List ℕ) (px : x' ≡ own_put x k q) (f : OwnFits x') where
  again_value : value_of (node name) (with_version n 0) ≡ value_of (node name) n
  unfolding with_version made
  again_value =
      let t : Whole n = whole n lk ls h in
      let e : length (slots_of n) ≡ length (keys_of n) + extra n.kind = omega (arith, t.keys, t.slots) in
      rw (keys_made n.kind n.level 0 (keys_of n) (slots_of n), slots_made n.kind n.level 0 (keys_of n) (slots_of n) e)

  again_count : (with_version n 0).count ≡ n.count
  unfolding with_version made
  again_count = (whole n lk ls h).keys

  again_level : (with_version n 0).level ≡ n.level
  unfolding with_version made
  again_level = refl

  is_value : value_of (node name) q ≡ value_of (node name) n
  is_value = ap (value_of (node name)) pq ∙ again_value

  few_keys : q.count ≤ 14
  few_keys = let e : q.count ≡ n.count = ap (λ (r : Node). r.count) pq ∙ again_count in omega arith

  sized : Sized q
  sized = record { keys = qk; slots = qs }

  named : x' ≡ own_put x (number (node name)) q
  named = rw pk at px

  is_record : q ≡ record_of 0 (value_of (node name) n)
  unfolding with_version record_of
  is_record = pq

  pub node_written : NodeWritten x name n x'
  node_written = record {
    wrote = λ l. let e : q.level ≡ n.level = ap (λ (r : Node). r.level) pq ∙ again_level in
        wrote x g few k q x' px f qk qs (node name) (value_of (node name) n) pk is_value is_record (record { keys = few_keys; level = omega arith });
    holds = λ slots w t hold. rw named (holds_more slots x w (node name) (value_of (node name) n) q g hold few t sized is_value is_record);
    kept = rw named (record { fit = rw named at f; few = few_more x (node name) q g few sized few_keys });
  }

module _ (x : List ℕ) (c d : ℕ) (h : Halves) (f : Fitting h) (x₁ : List ℕ) (p : NodeWritten x c h.left x₁) where
  one : Wrote x (node c) (value_of (node c) h.left) x₁
  one = p.wrote f.left.level

  pub one_good : OwnGood x₁
  one_good = one.good

  pub one_room : get_or x 0 0 < 19 → get_or x₁ 0 0 < 20
  one_room r = omega (arith, one.few)

  pub both_written : (x₂ : List ℕ) → NodeWritten x₁ d h.right x₂ → BothWritten x c d h x₂
  both_written x₂ q =
      let two = q.wrote f.right.level in
      record {
        holds = λ slots w s t hold. two.holds slots ((node c, value_of (node c) h.left) ∷ w) t (one.holds slots w s hold);
        good = two.good;
        few = omega (arith, one.few, two.few);
        kept = q.kept;
      }

pub left_few : (h : Halves) → Fitting h → h.left.count ≤ 14
left_few h f = f.left.keys

pub right_few : (h : Halves) → Fitting h → h.right.count ≤ 14
right_few h f = f.right.keys

pub ruleset both_exits = (one_good, one_room, both_written, left_few, right_few)

pub widened_is : (n : Node) (e : ℕ) (ks ss : List ℕ) → length n.keys ≡ 14 → n.count ≤ 14 → e ≡ extra n.kind
    → ks ≡ pad 32 (take n.count n.keys ++ take 0 (drop 0 n.keys)) → ss ≡ pad 32 (take (n.count + e) n.slots ++ take 0 (drop 0 n.slots))
    → ◌≡◌ {A = Wide} (record { kind = n.kind; level = n.level; version = n.version; count = n.count; keys = ks; slots = ss }) (widened n)
unfolding widened wide keys_of slots_of
widened_is n e ks ss l h pe pk ps =
    let c : length (take n.count n.keys) ≡ n.count = length-take-le n.count n.keys (omega arith) in
    rw (pk, ps, pe, append-nil (take n.count n.keys), append-nil (take (n.count + extra n.kind) n.slots), c)

-- ---- a node of level l as it is written
of_level_open : (l : ℕ) (n : Node) → OfLevel l n → opens n ≡ true
unfolding opens
of_level_open zero n h = rw (h.kind, h.level)
of_level_open (suc l) n h = let p : 0 < suc l = omega arith in rw (h.kind, h.level, lt-ltb 0 (suc l) p)

pub of_level_value : (l : ℕ) (n : Node) (lo x : ℕ) → OfLevel l n → node_value l (entries_of n lo) ≡ value_of (node x) n
of_level_value l n lo x h = ap (λ (j : ℕ). node_value j (entries_of n lo)) (sym h.level) ∙ stored_node n lo x h.whole (of_level_open l n h)

-- ---- a level that a question ends
pub never : {A : Type 0} → false ≡ true → A
never e = let z : ◌≡◌ {A = ℕ} 0 1 = cc in absurd (omega arith)

stopped_told : (s : Course) (us : List ℕ) (w : Writes) → stands s ≡ false → ended s us w [] ≡ told s us
stopped_told Going us w h = refl
stopped_told (Ended e) us w h = refl
stopped_told (Answered a b) us w h = never (sym h)

-- some plan that never answers ends as the level does
pub stopped_raised : (slots : ℕ) (m : ClientWord → ℕ) (x u : List ℕ) (l : ℕ) (root : Bool) (plan : ℕ → List Branch → Writes → Go → TreePlan) (r : Result Risen Stop) (x' u' : List ℕ)
    → goes (risen_course r) ≡ false → ((w : Writes) → HoldsWrites slots x w → stands (risen_course r) ≡ false)
    → ((w : Writes) → HoldsWrites slots x w → (lo : ℕ) (fs : List Branch) → is_root fs ≡ root → (go : Go) → walked slots m (plan lo fs w go) (used_in u) ≡ told (risen_course r) (used_in u'))
    → Noted m u' → Raised slots m x u l root plan r x' u'
stopped_raised slots m x u l root plan r x' u' halts mute same noted = record {
  more = [];
  same = λ w hold lo fs e go. rw halts (same w hold lo fs e go ∙ sym (stopped_told (risen_course r) (used_in u') w (mute w hold)));
  holds = λ t w hold. never (sym (mute w hold) ∙ t);
  kept = λ t w hold. never (sym (mute w hold) ∙ t);
  good = λ t. never (sym halts ∙ t);
  few = λ t. never (sym halts ∙ t);
  content = λ t. never (sym halts ∙ t);
  noted = noted;
}

pub ended_raised : (slots : ℕ) (m : ClientWord → ℕ) (x u : List ℕ) (l : ℕ) (root : Bool) (plan : ℕ → List Branch → Writes → Go → TreePlan) (s : Stop) (x' u' : List ℕ)
    → ((w : Writes) → HoldsWrites slots x w → (lo : ℕ) (fs : List Branch) → is_root fs ≡ root → (go : Go) → walked slots m (plan lo fs w go) (used_in u) ≡ told (Ended s) (used_in u'))
    → Noted m u' → Raised slots m x u l root plan (Err s) x' u'
ended_raised slots m x u l root plan s x' u' same noted = stopped_raised slots m x u l root plan (Err s) x' u' refl (λ w hold. refl) same noted

-- the same of the last level
pub stopped_closed : (slots : ℕ) (m : ClientWord → ℕ) (x u : List ℕ) (plan : Writes → TreePlan) (s : Course) (x' u' : List ℕ) → ((w : Writes) → HoldsWrites slots x w → stands s ≡ false)
    → ((w : Writes) → HoldsWrites slots x w → walked slots m (plan w) (used_in u) ≡ told s (used_in u')) → Noted m u' → Closed slots m x u plan s x' u'
stopped_closed slots m x u plan s x' u' mute same noted = record {
  more = [];
  same = λ w hold. same w hold ∙ sym (stopped_told s (used_in u') w (mute w hold));
  holds = λ t w hold. never (sym (mute w hold) ∙ t);
  kept = λ t w hold. never (sym (mute w hold) ∙ t);
  noted = noted;
}

pub ended_closed : (slots : ℕ) (m : ClientWord → ℕ) (x u : List ℕ) (plan : Writes → TreePlan) (s : Stop) (x' u' : List ℕ)
    → ((w : Writes) → HoldsWrites slots x w → walked slots m (plan w) (used_in u) ≡ told (Ended s) (used_in u')) → Noted m u' → Closed slots m x u plan (Ended s) x' u'
ended_closed slots m x u plan s x' u' same noted = stopped_closed slots m x u plan (Ended s) x' u' (λ w hold. refl) same noted
