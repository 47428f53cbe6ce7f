-- Laws of a root's split.
use Rattle.std.specs.Prelude.{◌≡◌, refl, true, List, [], ◌∷◌, ℕ, suc, ◌+◌, ◌≤◌, ◌<◌, length, take, drop, get_or, Result, Ok, Err}
use Rattle.std.proofs.Common.{◌∙◌, arith}
use Rattle.nodes.specs.declared.node.Node.{Node}
use Rattle.nodes.specs.declared.change.Wide.{Wide}
use Rattle.nodes.specs.Node.{extra, made, parent_of}
use Rattle.nodes.proofs.Laws.Node.{keys_made, slots_made}
use Rattle.nodes.specs.Entries.{wide_entries}
use Rattle.operations.specs.Object.{node, Writes}
use Rattle.operations.specs.Slot.{take_for, take_node}
use Rattle.operations.specs.Entry.{Entries, node_value, fewest_entries}
use Rattle.operations.specs.Path.{TreePlan, Branch}
use Rattle.operations.specs.Change.{with_two, parted}
use Rattle.change.specs.declared.grow.Two.{Two}
use Rattle.walk.specs.declared.walk.Stop.{Stop}
use Rattle.client.specs.Layout.{ClientWord}
use Rattle.client.specs.Record.{in_store, value_of}
use Rattle.client.specs.Lent.{used_in}
use Rattle.walk.specs.Walk.{Course, Going, Ended, course, walked, carry}
use Rattle.walk.specs.Ask.{OwnGood, HoldsWrites, Noted}
use Rattle.walk.specs.Lookup.{Ends}
use Rattle.walk.specs.Laws.Ask.{name_below}
use Rattle.change.specs.Rise.{Full, NodeWritten, Closed}
use Rattle.change.specs.Laws.Rise.{never, ended_closed}
use Rattle.change.specs.Split.{Overfull, Halved}
use Rattle.change.specs.Laws.Split.{halves_parted}
use Rattle.change.specs.Grow.{two_in, two_flags, TwoTaken, BothFree, HalvesTaken, Grown, root_split}
use Rattle.nodes.specs.Change as N
use Rattle.plans.specs.Plan as P

module _ (slots : ℕ) (m : ClientWord → ℕ) (x u : List ℕ) (n : ℕ) (x₁ u₁ : List ℕ) where
  asked : (r : Result Two Stop) → TwoTaken slots m x u n r x₁ u₁ → (w : Writes) → HoldsWrites slots x w → (k : ℕ → ℕ → Writes → TreePlan)
      → walked slots m (take_for slots n w (λ c w₁. take_for slots n w₁ (λ d w₂. take_node w₂ c (take_node w₂ d (k c d w₂))))) (used_in u)
      ≡ carry (course r) (used_in u₁) (λ us. walked slots m
      (take_node (two_flags (two_in r) w) (two_in r).left (take_node (two_flags (two_in r) w) (two_in r).right (k (two_in r).left (two_in r).right (two_flags (two_in r) w)))) us)
  asked r q w hold k = q.asks w hold (λ c d w₂. take_node w₂ c (take_node w₂ d (k c d w₂)))

  pub halves_lack : (s : Stop) → TwoTaken slots m x u n (Err s) x₁ u₁ → HalvesTaken slots m x u n (Err s) x₁ u₁
  halves_lack s q =
      record {
        asks = asked (Err s) q;
        holds = q.holds;
        good = q.good;
        noted = q.noted;
        few = q.few;
        left_in = q.left_in;
        right_in = q.right_in;
      }

  module _ (t : Two) (q : TwoTaken slots m x u n (Ok t) x₁ u₁) where
    pub halves_good : OwnGood x₁
    halves_good = q.good refl

    pub halves_noted : Noted m u₁
    halves_noted = q.noted

    asked_both : (s : Course) (u₂ : List ℕ) → BothFree slots m x₁ u₁ t.left t.right s u₂ → (w : Writes) → HoldsWrites slots x w → (k : ℕ → ℕ → Writes → TreePlan)
        → walked slots m (take_for slots n w (λ c w₁. take_for slots n w₁ (λ d w₂. take_node w₂ c (take_node w₂ d (k c d w₂))))) (used_in u)
        ≡ carry s (used_in u₂) (λ us. walked slots m (k t.left t.right (two_flags t w)) us)
    asked_both s u₂ v w hold k = asked (Ok t) q w hold k ∙ v.asks (two_flags t w) (q.holds refl w hold) (k t.left t.right (two_flags t w))

    pub halves_unfree : (s : Stop) (u₂ : List ℕ) → BothFree slots m x₁ u₁ t.left t.right (Ended s) u₂ → HalvesTaken slots m x u n (Err s) x₁ u₂
    halves_unfree s u₂ v =
        record {
          asks = asked_both (Ended s) u₂ v;
          holds = λ e. never e;
          good = λ e. never e;
          noted = v.noted;
          few = q.few;
          left_in = λ e. never e;
          right_in = λ e. never e;
        }

    pub halves_taken : (u₂ : List ℕ) → BothFree slots m x₁ u₁ t.left t.right Going u₂ → HalvesTaken slots m x u n (Ok t) x₁ u₂
    halves_taken u₂ v =
        record {
          asks = asked_both Going u₂ v;
          holds = q.holds;
          good = q.good;
          noted = v.noted;
          few = q.few;
          left_in = q.left_in;
          right_in = q.right_in;
        }

pub ruleset halves_exits = (halves_lack, halves_good, halves_noted, halves_unfree, halves_taken)

module _ (x : List ℕ) (c d : ℕ) (n : Wide) (sep : ℕ) (x₁ : List ℕ) (h : Halved x c d n sep x₁) where
  pub grow_good : OwnGood x₁
  grow_good = h.written.good

  pub grow_room : get_or x 0 0 < 18 → get_or x₁ 0 0 < 20
  grow_room e = omega (arith, h.written.few)

  pub grown : (r : ℕ) (p : Node) (x₂ : List ℕ) → p ≡ parent_of (n.level + 1) 0 c sep d → NodeWritten x₁ r p x₂ → Grown x r c d n x₂
  grown r p x₂ pp y =
      let e : p ≡ parent_of (n.level + 1) 0 c (N.split n 0).sep d = rw h.sep_is at pp in
      record {
        holds = λ slots w a b e' hold. rw (← e) (y.holds slots _ a (h.written.holds slots w b e' hold));
        kept = y.kept;
      }

pub over_few : (p : Node) (l v c s d : ℕ) → p ≡ parent_of l v c s d → p.count ≤ 14
unfolding parent_of made
over_few p l v c s d e = rw e (omega arith)

pub grow_begins : (x : List ℕ) → get_or x 0 0 < 18 → get_or x 0 0 < 19
grow_begins x h = omega arith

pub grow_level : (n : Wide) → Overfull n → n.level ≤ 4
grow_level n o = o.level

pub ruleset grow_exits = (grow_good, grow_room, grown, over_few, grow_begins, grow_level)

-- the root as it is written
root_value : (l r c sep d : ℕ) → node_value (suc l) (with_two (record { nm = r; key = 0; pre = []; post = [] }) c sep d) ≡ value_of (node r) (parent_of (suc l) 0 c sep d)
unfolding parent_of made extra
root_value l r c sep d =
    let e : length (c ∷ d ∷ []) ≡ length (sep ∷ []) + extra 2 = refl in
    rw (keys_made 2 (suc l) 0 (sep ∷ []) (c ∷ d ∷ []), slots_made 2 (suc l) 0 (sep ∷ []) (c ∷ d ∷ []) e)

module _ (slots : ℕ) (m : ClientWord → ℕ) (x u : List ℕ) (l r : ℕ) (n : Wide) (a b : ℕ) (x₁ u₁ : List ℕ) where
  abbrev plan : Writes → TreePlan
  plan = root_split slots (a, b, []) l r (wide_entries n 0)

  -- the root is its own branch, with nothing round it
  abbrev alone : Branch
  alone = record { nm = r; key = 0; pre = []; post = [] }

  abbrev answer : Writes → Entries → TreePlan
  answer w es = P.done ((a, b, []), (node r, node_value (suc l) es) ∷ w)

  asked_root : (h : Result Two Stop) → HalvesTaken slots m x u r h x₁ u₁ → (w : Writes) → HoldsWrites slots x w → walked slots m (plan w) (used_in u)
      ≡ carry (course h) (used_in u₁) (λ us. walked slots m
      (parted answer l (two_flags (two_in h) w) alone (two_in h).left (take (fewest_entries l) (wide_entries n 0)) (two_in h).right (drop (fewest_entries l) (wide_entries n 0))) us)
  unfolding root_split
  asked_root h q w hold = q.asks w hold (λ c d w₂. parted answer l w₂ alone c (take (fewest_entries l) (wide_entries n 0)) d (drop (fewest_entries l) (wide_entries n 0)))

  pub root_lacks : (s : Stop) → HalvesTaken slots m x u r (Err s) x₁ u₁ → Closed slots m x u (root_split slots (a, b, []) l r (wide_entries n 0)) (Ended s) x₁ u₁
  root_lacks s q = ended_closed slots m x u plan s x₁ u₁ (asked_root (Err s) q) q.noted

  module _ (t : Two) (q : HalvesTaken slots m x u r (Ok t) x₁ u₁) where
    pub root_good : OwnGood x₁
    root_good = q.good refl

    pub root_noted : Noted m u₁
    root_noted = q.noted

    pub root_room : get_or x 0 0 ≤ 12 → get_or x₁ 0 0 < 18
    root_room h = omega (arith, q.few)

    pub root_left : t.left < 8192
    root_left = name_below slots t.left (q.left_in refl)

    pub root_right : t.right < 8192
    root_right = name_below slots t.right (q.right_in refl)

    pub root_parts : in_store slots r ≡ true → Full l n → (x₂ : List ℕ) → Grown x₁ r t.left t.right n x₂ → (s : Course) (u₂ : List ℕ) → Ends m u₁ a b s u₂
        → Closed slots m x u (root_split slots (a, b, []) l r (wide_entries n 0)) s x₂ u₂
    root_parts there k x₂ y s u₂ e =
        let lv : n.level + 1 ≡ suc l = omega (arith, k.content.level) in
        record {
          more = (node r, value_of (node r) (parent_of (n.level + 1) 0 t.left (N.split n 0).sep t.right))
              ∷ (node t.right, value_of (node t.right) (N.split n 0).right) ∷ (node t.left, value_of (node t.left) (N.split n 0).left) ∷ two_flags t [];
          same = λ w hold. asked_root (Ok t) q w hold ∙ rw (
            halves_parted l n k answer (two_flags t w) alone t.left t.right 0,
            root_value l r t.left (N.split n 0).sep t.right,
            lv,
          ) (e.same slots _ []);
          holds = λ _ w hold. y.holds slots (two_flags t w) there (q.left_in refl) (q.right_in refl) (q.holds refl w hold);
          kept = λ _ w hold. y.kept;
          noted = e.noted;
        }

pub root_begins : (x : List ℕ) → get_or x 0 0 ≤ 12 → get_or x 0 0 < 19
root_begins x h = omega arith

pub root_overfull : (l : ℕ) (n : Wide) → Full l n → l ≤ 4 → Overfull n
root_overfull l n k h = record { full = k.full; level = omega (arith, k.content.level) }

pub ruleset root_exits = (root_lacks, root_good, root_noted, root_room, root_left, root_right, root_parts, name_below, root_begins, root_overfull)
