-- Laws of a node's split below the root.
use Rattle.std.specs.Prelude.{◌≡◌, refl, true, false, List, [], ◌∷◌, ◌++◌, ℕ, zero, suc, ◌+◌, ◌≤◌, ◌<◌, take, drop, get_or, Result, Ok, Err}
use Rattle.std.proofs.Math.Path.{sym}
use Rattle.std.proofs.Common.{◌∙◌, ap, arith, add-one}
use Rattle.std.proofs.Math.ListN.{length}
use Rattle.nodes.specs.declared.change.Wide.{Wide}
use Rattle.nodes.specs.declared.change.Halves.{Halves}
use Rattle.nodes.specs.Lists.{insert_at}
use Rattle.nodes.proofs.Laws.Lists.{length_insert}
use Rattle.nodes.specs.Node.{extra, keys_of, made}
use Rattle.nodes.specs.Entries.{entries_of, wide_entries}
use Rattle.nodes.proofs.Laws.Entries.{first}
use Rattle.nodes.specs.Change.{wide, put_in, cut_at}
use Rattle.nodes.proofs.Laws.Kept.{length_entries_of, put_in_whole, put_in_entries, split_left, split_right, split_sep}
use Rattle.operations.specs.Object.{node, flag, taken, no_tree, Writes}
use Rattle.operations.specs.Slot.{take_for, take_node}
use Rattle.operations.specs.Entry.{Entries, fewest_entries, first_key_or}
use Rattle.operations.specs.Path.{TreePlan, Branch}
use Rattle.operations.specs.Change.{Go, with_two, parted}
use Rattle.walk.specs.declared.down.Turn.{Turn}
use Rattle.walk.specs.declared.walk.Stop.{Stop}
use Rattle.client.specs.Layout.{ClientWord}
use Rattle.client.specs.Record.{value_of}
use Rattle.client.specs.Lent.{used_in}
use Rattle.walk.specs.Laws.Entries.{extra_inner, entry_slot}
use Rattle.walk.specs.Entries.{branch_of}
use Rattle.walk.specs.Walk.{Course, Going, Ended, course, ok_or, Told, told, goes, stands, walked, carry}
use Rattle.walk.specs.Ask.{OwnGood, HoldsWrites, Noted}
use Rattle.walk.specs.Down.{Followed}
use Rattle.walk.specs.Laws.Ask.{name_below}
use Rattle.walk.specs.Take.{NodeTaken}
use Rattle.walk.specs.Search.{TakenFor}
use Rattle.walk.specs.Laws.Mute.{Mute, walked_mute, take_node_mute}
use Rattle.change.specs.Laws.Parts.{extra_level, Leveled, left_level, right_level}
use Rattle.change.specs.Rise.{Content, Full, OfLevel, Under, in_parent, Fitting, BothWritten, split_plan}
use Rattle.change.specs.Laws.Rise.{of_level_value, under_name, level_room, never, ended_raised}
use Rattle.change.specs.Split.{HalfTaken, Overfull, Halved, Divided, Splits}
use Rattle.plans.specs.Plan as P
use Rattle.nodes.specs.Change as N

-- the halves of a full node of level l
module _ (l : ℕ) (n : Wide) (k : Full l n) where
  abbrev halves : Halves
  halves = N.split n 0

  leveled : Leveled l n
  leveled = record { kind = k.content.kind; level = k.content.level; whole = k.content.whole }

  seven : 7 + extra n.kind ≡ fewest_entries l
  seven = ap (λ (j : ℕ). 7 + extra j) k.content.kind ∙ extra_level l

  inside : 7 < n.count
  inside = omega (arith, k.full)

  pub left_of_level : OfLevel l halves.left
  unfolding N.split
  left_of_level = left_level l n leveled 7 0 inside

  pub right_of_level : OfLevel l halves.right
  unfolding N.split
  right_of_level = right_level l n leveled 7 0 inside

  first_nxt : (es : Entries) → first_key_or es 0 ≡ first es
  first_nxt [] = refl
  first_nxt (e ∷ es) = refl

  -- what a plan makes of the two parts
  pub halves_parted : (go : Go) (w : Writes) (f : Branch) (c d lo : ℕ)
      → parted go l w f c (take (fewest_entries l) (wide_entries n lo)) d (drop (fewest_entries l) (wide_entries n lo))
      ≡ go ((node d, value_of (node d) halves.right) ∷ (node c, value_of (node c) halves.left) ∷ w) (with_two f c halves.sep d)
  halves_parted go w f c d lo =
      let a : take (fewest_entries l) (wide_entries n lo) ≡ entries_of halves.left lo = rw (← seven) (sym (split_left n lo k.content.whole 0 k.full)) in
      let b : drop (fewest_entries l) (wide_entries n lo) ≡ entries_of halves.right halves.sep = rw (← seven) (sym (split_right n lo k.content.whole 0 k.full)) in
      let e : first_key_or (drop (fewest_entries l) (wide_entries n lo)) 0 ≡ halves.sep = rw (first_nxt (drop (fewest_entries l) (wide_entries n lo)), ← seven) (sym (split_sep n lo k.content.whole 0 k.full)) in
      rw (e, a, b, of_level_value l halves.left lo c left_of_level, of_level_value l halves.right halves.sep d right_of_level)

-- ---- the parent with one more child
two_at : (E : Entries) (i : ℕ) (e : ℕ × ℕ) → i < length E → take i E ++ get_or E i (0, 0) ∷ e ∷ drop (suc i) E ≡ insert_at (suc i) e E
unfolding insert_at
two_at [] i e h = absurd (omega arith)
two_at (x ∷ E) zero e h = refl
two_at (x ∷ E) (suc i) e h = ap (λ (l : Entries). x ∷ l) (two_at E i e (omega arith))

module _ (b : Turn) (f : Followed b) (c : ℕ) (pc : c ≡ get_or b.node.slots b.at 0) where
  one_extra : extra b.node.kind ≡ 1
  one_extra = extra_inner b.node f.inner

  pub child_added : (sep d lo : ℕ) → with_two (in_parent b lo) c sep d ≡ wide_entries (put_in b.node b.at sep d) lo
  unfolding branch_of
  child_added sep d lo =
      let E : Entries = entries_of b.node lo in
      let h : b.at < length (entries_of b.node lo) = omega (arith, length_entries_of b.node lo f.whole, one_extra, f.within) in
      let g : b.at < b.node.count + extra b.node.kind = omega (arith, one_extra, f.within) in
      let e : (get_or (entries_of b.node lo) b.at (0, 0)).1 ≡ c = entry_slot b.node lo f.whole b.at g ∙ sym pc in
      rw (← e) (two_at (entries_of b.node lo) b.at (sep, d) h ∙ sym (put_in_entries b.node lo f.whole b.at sep d f.within ∙ rw (one_extra, add-one)))

  pub added_content : (l sep d : ℕ) → b.node.level ≡ suc l → Content (suc l) (put_in b.node b.at sep d)
  unfolding put_in wide
  added_content l sep d e = record {
    kind = f.inner.kind;
    level = e;
    whole = put_in_whole b.node 0 f.whole b.at sep d f.within;
    few = let g : length (insert_at b.at sep (keys_of b.node)) ≡ length (keys_of b.node) + 1 = length_insert b.at sep (keys_of b.node) (omega (arith, f.whole.keys, f.within)) in
        omega (arith, f.whole.keys, f.small.keys);
  }

-- a slot or its node that is lacking is no answer
module _ (slots : ℕ) (m : ClientWord → ℕ) (x u : List ℕ) (w : Writes) (hold : HoldsWrites slots x w) where
  pub slot_lacking : (c : ℕ) (r : Result ℕ Stop) (x₁ u₁ : List ℕ) → TakenFor slots m x u c r x₁ u₁ → goes (course r) ≡ false → stands (course r) ≡ false
  slot_lacking c (Ok d) x₁ u₁ q halts = halts
  slot_lacking c (Err s) x₁ u₁ q halts = refl

  pub node_lacking : (c : ℕ) (s : Course) (u₁ : List ℕ) → NodeTaken slots m x u c s u₁ → goes s ≡ false → stands s ≡ false
  unfolding Mute
  node_lacking c s u₁ q halts =
      let e : walked slots m (take_node w c (P.fail no_tree)) (used_in u) ≡ told s (used_in u₁) = q.asks w hold (P.fail no_tree) ∙ rw halts in
      sym (ap (λ (r : Told). stands r.course) e) ∙ walked_mute slots m (take_node w c (P.fail no_tree)) (take_node_mute w c (P.fail no_tree) tt) (used_in u)

-- ---- a slot for a half, and its node
module _ (slots : ℕ) (m : ClientWord → ℕ) (x u : List ℕ) (c : ℕ) (x₁ u₁ : List ℕ) where
  pub half_lacks : (s : Stop) → TakenFor slots m x u c (Err s) x₁ u₁ → HalfTaken slots m x u c (Err s) x₁ u₁
  half_lacks s q = record {
    asks = λ w hold k. q.asks w hold (λ d w'. take_node w' d (k d w'));
    holds = q.holds;
    good = q.good;
    noted = q.noted;
    few = q.few;
    inside = q.inside;
  }

  module _ (d : ℕ) (q : TakenFor slots m x u c (Ok d) x₁ u₁) where
    pub half_good : OwnGood x₁
    half_good = q.good refl

    pub half_noted : Noted m u₁
    half_noted = q.noted

    asked_node : (s : Course) (u₂ : List ℕ) → NodeTaken slots m x₁ u₁ d s u₂ → (w : Writes) → HoldsWrites slots x w → (k : ℕ → Writes → TreePlan)
        → walked slots m (take_for slots c w (λ d w'. take_node w' d (k d w'))) (used_in u) ≡ carry s (used_in u₂) (λ us. walked slots m (k d ((flag d, taken true) ∷ w)) us)
    asked_node s u₂ v w hold k =
        q.asks w hold (λ d w'. take_node w' d (k d w')) ∙ v.asks ((flag d, taken true) ∷ w) (q.holds refl w hold) (k d ((flag d, taken true) ∷ w))

    pub half_unfree : (s : Stop) (u₂ : List ℕ) → NodeTaken slots m x₁ u₁ d (Ended s) u₂ → HalfTaken slots m x u c (Err s) x₁ u₂
    half_unfree s u₂ v =
        record {
          asks = asked_node (Ended s) u₂ v;
          holds = λ t. never t;
          good = λ t. never t;
          noted = v.noted;
          few = q.few;
          inside = λ t. never t;
        }

    pub half_taken : (u₂ : List ℕ) → NodeTaken slots m x₁ u₁ d Going u₂ → HalfTaken slots m x u c (Ok d) x₁ u₂
    half_taken u₂ v =
        record {
          asks = asked_node Going u₂ v;
          holds = q.holds;
          good = q.good;
          noted = v.noted;
          few = q.few;
          inside = q.inside;
        }

pub ruleset half_exits = (half_lacks, half_good, half_noted, half_unfree, half_taken)

module _ (n : Wide) (o : Overfull n) (h : Halves) (ph : h ≡ N.split n 0) where
  pub halves_fit : (h.left.count ≤ 14) × (h.right.count ≤ 14) → Fitting h
  unfolding N.split cut_at made
  halves_fit few =
      let a : h.left.level ≡ n.level = rw ph in
      let b : h.right.level ≡ n.level = rw ph in
      record { left = record { keys = few.0; level = omega (arith, o.level) }; right = record { keys = few.1; level = omega (arith, o.level) } }

  pub halved : (x : List ℕ) (c d : ℕ) (x' : List ℕ) → BothWritten x c d h x' → Halved x c d n h.sep x'
  halved x c d x' y = record { sep_is = rw ph; written = rw ph at y }

pub overfull_count : (n : Wide) → Overfull n → n.count ≡ 15
overfull_count n o = o.full

pub ruleset halve_exits = (halves_fit, halved, overfull_count)

module _ (slots l c : ℕ) (b : Turn) (un : Under slots l c b) where
  pub parent_few : b.node.count ≤ 14
  parent_few = un.followed.small.keys

  pub parent_at : b.at ≤ b.node.count
  parent_at = un.followed.within

  pub split_overfull : (n : Wide) → Full l n → Overfull n
  split_overfull n k = record { full = k.full; level = omega (arith, k.content.level, un.followed.small.level, un.link.level) }

module _ (slots : ℕ) (m : ClientWord → ℕ) (x u : List ℕ) (l : ℕ) (b : Turn) (c : ℕ) (n : Wide) (x₁ u₁ : List ℕ) where
  abbrev plan : ℕ → List Branch → Writes → Go → TreePlan
  plan = split_plan slots l b c (wide_entries n)

  asked : (r : Result ℕ Stop) → HalfTaken slots m x u c r x₁ u₁ → (w : Writes) → HoldsWrites slots x w → (lo : ℕ) (fs : List Branch) (go : Go) → walked slots m (plan lo fs w go) (used_in u)
      ≡ carry (course r) (used_in u₁) (λ us. walked slots m
      (parted go l ((flag (ok_or 0 r), taken true) ∷ w) (in_parent b lo) c (take (fewest_entries l) (wide_entries n (in_parent b lo).key)) (ok_or 0 r)
      (drop (fewest_entries l) (wide_entries n (in_parent b lo).key))) us)
  unfolding split_plan
  asked r q w hold lo fs go =
      let es : Entries = wide_entries n (in_parent b lo).key in
      q.asks w hold (λ d w₁. parted go l w₁ (in_parent b lo) c (take (fewest_entries l) es) d (drop (fewest_entries l) es))

  pub split_lacks : (s : Stop) → HalfTaken slots m x u c (Err s) x₁ u₁ → Splits slots m x u l b c n (Err s) x₁ u₁
  split_lacks s q = record {
    raised = λ root. ended_raised slots m x u l root plan s x₁ u₁ (λ w hold lo fs e go. asked (Err s) q w hold lo fs go) q.noted;
  }

  module _ (d : ℕ) (q : HalfTaken slots m x u c (Ok d) x₁ u₁) where
    pub split_good : OwnGood x₁
    split_good = q.good refl

    pub right_name : d < 8192
    right_name = name_below slots d (q.inside refl)

    pub split_room : get_or x 0 0 ≤ 12 → get_or x₁ 0 0 < 19
    split_room h = omega (arith, q.few)

    pub split_done : Under slots l c b → Full l n → (up : Wide) (x₂ : List ℕ) → Divided x₁ b c d n up x₂ → Splits slots m x u l b c n (Ok up) x₂ u₁
    split_done un k up x₂ y =
        record {
          raised = λ root. record {
            more = (node d, value_of (node d) (N.split n 0).right) ∷ (node c, value_of (node c) (N.split n 0).left) ∷ (flag d, taken true) ∷ [];
            same = λ w hold lo fs e go. asked (Ok d) q w hold lo fs go ∙ rw (
              halves_parted l n k go ((flag d, taken true) ∷ w) (in_parent b lo) c d (in_parent b lo).key,
              child_added b un.followed c un.link.child (N.split n 0).sep d lo,
              y.up_is,
            );
            holds = λ _ w hold. y.written.holds slots ((flag d, taken true) ∷ w) un.link.there (q.inside refl) (q.holds refl w hold);
            kept = λ _ w hold. y.written.kept;
            good = λ _. y.written.good;
            few = λ _. omega (arith, y.written.few, q.few);
            content = λ _. rw y.up_is (added_content b un.followed c un.link.child l (N.split n 0).sep d un.link.level);
            noted = q.noted;
          };
        }

pub ruleset split_exits = (level_room, under_name, parent_few, parent_at, split_overfull, split_lacks, split_good, right_name, split_room, split_done)
