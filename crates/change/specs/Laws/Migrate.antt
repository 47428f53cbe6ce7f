-- Laws of a migrate's walk.
use Rattle.std.specs.Prelude.{false, ◌≡◌, refl, ℕ, zero, suc, ◌-◌, ◌≤◌, ◌<◌, Some, Ok, Err}
use Rattle.std.proofs.Math.Path.{sym}
use Rattle.std.proofs.Common.{◌∙◌, arith}
use mathlib.Core.List.{List, [], ◌∷◌}
use Rattle.std.proofs.Math.Decide.{ℕ_discrete, dec_le}
use Rattle.std.proofs.Math.ListN.{length, get_or}
use Rattle.std.proofs.Math.Seq.{get_or-take}
use Rattle.base.specs.Test.{ifd}
use Rattle.base.proofs.Laws.Test.{ifd_yes, ifd_no}
use Rattle.nodes.specs.declared.node.Node.{Node}
use Rattle.nodes.specs.Name.{server_of}
use Rattle.nodes.specs.Node.{keys_of, slots_of}
use Rattle.nodes.specs.Kept.{Whole}
use Rattle.nodes.proofs.Laws.Kept.{whole}
use Rattle.operations.specs.Object.{meta, node, Val, body, no_tree}
use Rattle.operations.specs.Path.{TreePlan}
use Rattle.operations.specs.Migrate.{move_root, move_at, first_key, move_below, move_node, move_if, migrate_plan}
use Rattle.memory.specs.Word.{view}
use Rattle.nodes.specs.Stored.{node_at}
use Rattle.walk.specs.declared.down.Descent.{Descent}
use Rattle.walk.specs.declared.walk.Stop.{Stop}
use Rattle.walk.specs.declared.walk.Stop.TheVariants.{Aborts}
use Rattle.client.specs.Layout.{ClientWord}
use Rattle.client.specs.Record.{value_of, metadata}
use Rattle.client.specs.Lent.{used_in}
use Rattle.walk.specs.Walk.{Course, Going, Ended, goes, walked}
use Rattle.walk.specs.Laws.Walk.{walked_fails}
use Rattle.walk.specs.Ask.{SmallNode, OwnGood, HoldsWrites, Noted, Asked, nothing}
use Rattle.walk.specs.Laws.Ask.{none_held, first_metadata, second_metadata}
use Rattle.walk.specs.Down.{Arrival, arrival, branches, trail, low}
use Rattle.walk.specs.Laws.Lookup.{ended_nothing}
use Rattle.walk.specs.Lookup.{Ends}
use Rattle.change.specs.Operated.{Operated}
use Rattle.change.specs.Laws.Operated.{walks_operated}
use Rattle.change.specs.Laws.Rise.{never}
use Rattle.change.specs.Move.{moves, Moved}
use Rattle.change.specs.Parent.{Parent, ToParent, MovedAt}
use Rattle.change.specs.Migrate.{named_plan}
use Rattle.plans.specs.Plan as P

-- a plan whose walk comes to that of another
follows : (slots : ℕ) (m : ClientWord → ℕ) (x u u₁ : List ℕ) (p q : TreePlan) (s : Course) (x' u' : List ℕ) → (HoldsWrites slots x [] → walked slots m p (used_in u) ≡ walked slots m q (used_in u₁))
    → Operated slots m x u₁ q s x' u' → Operated slots m x u p s x' u'
follows slots m x u u₁ p q s x' u' e h = record { writes = h.writes; same = λ hold. e hold ∙ h.same hold; holds = h.holds; kept = h.kept; noted = h.noted }

-- ---- the root
module _ (slots : ℕ) (m : ClientWord → ℕ) (x u : List ℕ) (states nm s : ℕ) (n : Node) (x₁ u₁ : List ℕ) where
  abbrev v : Val
  v = value_of (node nm) n

  pub root_stays : (e : Stop) → Moved slots m x u nm s n (Some states) (Err e) x₁ u₁ → Operated slots m x u (move_root slots states nm s (value_of (node nm) n)) (Ended e) x₁ u₁
  root_stays e h =
      record {
        writes = [];
        same = λ hold. h.asks hold (λ d w. P.done ((1, d, []), w));
        holds = λ t. never t;
        kept = λ t. never t;
        noted = h.noted;
      }

  pub root_moved : (to : ℕ) → Moved slots m x u nm s n (Some states) (Ok to) x₁ u₁ → (st : Course) (u₂ : List ℕ) → Ends m u₁ 1 to st u₂
      → Operated slots m x u (move_root slots states nm s (value_of (node nm) n)) st x₁ u₂
  root_moved to h st u₂ a =
      record {
        writes = moves nm v (Some states) to;
        same = λ hold. h.asks hold (λ d w. P.done ((1, d, []), w)) ∙ a.same slots (moves nm v (Some states) to) [];
        holds = λ _ hold. h.holds refl hold;
        kept = λ _ hold. record { fit = (h.good refl).fit; few = (h.good refl).few };
        noted = a.noted;
      }

pub ruleset root_moves = (root_stays, root_moved)

-- ---- a node below the root
module _ (slots : ℕ) (m : ClientWord → ℕ) (x u : List ℕ) (top nm s key : ℕ) (n : Node) (c u₁ : List ℕ) where
  abbrev w : Val
  w = value_of (node nm) n

  pub below_stops : OwnGood x → (e : Stop) → ToParent slots m u key top n.level (arrival c (Err e)) u₁ → Operated slots m x u (move_below slots top nm s (value_of (node nm) n) n.level key) (Ended e) x u₁
  below_stops g e h =
      walks_operated slots m x u (move_below slots top nm s w n.level key) (Ended e) u₁ g (record { same = h.asks (move_at slots nm s w key); noted = h.noted })

  module _ (p : Descent) (h : ToParent slots m u key top n.level (arrival c (Ok p)) u₁) where
    abbrev d : Arrival
    d = arrival c (Ok p)

    pub below_moves : (st : Course) (x' u' : List ℕ) → MovedAt slots m x u₁ key nm s n p.name (node_at (view c) p.place) st x' u'
        → Operated slots m x u (move_below slots top nm s (value_of (node nm) n) n.level key) st x' u'
    below_moves st x' u' a =
        let e : d.node.level ≡ suc n.level = (h.parent refl).level in
        follows slots m x u u₁ (move_below slots top nm s w n.level key) _ st x' u' (λ hold. h.asks (move_at slots nm s w key) ∙ rw (← e))
        (a.operated (branches (trail d.path (suc n.level) (d.top - suc n.level))) (low (trail d.path (suc n.level) (d.top - suc n.level))))

pub below_parent : (slots : ℕ) (m : ClientWord → ℕ) (u : List ℕ) (key top l : ℕ) (c : List ℕ) (p : Descent) (u' : List ℕ) → ToParent slots m u key top l (arrival c (Ok p)) u'
    → Parent slots l p.name (node_at (view c) p.place)
below_parent slots m u key top l c p u' h = h.parent refl

pub ruleset below_exits = (below_stops, below_parent, below_moves)

-- ---- which it is
move_used : (slots states top nm s kind level : ℕ) (ks vs : List ℕ) → (kind ≡ 0 → ⊥)
    → move_if slots states top nm s (body kind level ks vs) ≡ ifd (ℕ_discrete (server_of nm) s) (P.done ((0, 1, []), [])) (move_node slots states top nm s (body kind level ks vs) level ks)
move_used slots states top nm s zero level ks vs h = absurd (h refl)
move_used slots states top nm s (suc kind) level ks vs h = refl

move_free : (slots states top nm s kind level : ℕ) (ks vs : List ℕ) → kind ≡ 0 → move_if slots states top nm s (body kind level ks vs) ≡ P.done ((0, 0, []), [])
move_free slots states top nm s kind level ks vs h = rw h

first_is : (ks : List ℕ) (k : ℕ → TreePlan) → 0 < length ks → first_key ks k ≡ k (get_or ks 0 0)
first_is [] k h = absurd (omega arith)
first_is (a ∷ ks) k h = refl

module _ (slots : ℕ) (m : ClientWord → ℕ) (x u : List ℕ) (g : OwnGood x) (states top nm s : ℕ) (n : Node) where
  abbrev y : Val
  y = value_of (node nm) n

  pub if_free : (st : Course) (u' : List ℕ) → n.kind ≡ 0 → Ends m u 0 0 st u' → Operated slots m x u (move_if slots states top nm s y) st x u'
  if_free st u' k a = walks_operated slots m x u (move_if slots states top nm s y) st u' g (record {
    same = rw (move_free slots states top nm s n.kind n.level (keys_of n) (slots_of n) k) (a.same slots [] []);
    noted = a.noted;
  })

  module _ (k : n.kind ≡ 0 → ⊥) where
    used_is : move_if slots states top nm s y ≡ ifd (ℕ_discrete (server_of nm) s) (P.done ((0, 1, []), [])) (move_node slots states top nm s y n.level (keys_of n))
    used_is = move_used slots states top nm s n.kind n.level (keys_of n) (slots_of n) k

    pub if_there : (home : ℕ) (st : Course) (u' : List ℕ) → home ≡ server_of nm → home ≡ s → Ends m u 0 1 st u' → Operated slots m x u (move_if slots states top nm s y) st x u'
    if_there home st u' o e a = walks_operated slots m x u (move_if slots states top nm s y) st u' g (record {
      same = rw (used_is, ifd_yes (ℕ_discrete (server_of nm) s) (P.done ((0, 1, []), [])) (move_node slots states top nm s y n.level (keys_of n)) (sym o ∙ e)) (a.same slots [] []);
      noted = a.noted;
    })

    module _ (home : ℕ) (o : home ≡ server_of nm) (e : home ≡ s → ⊥) where
      node_is : move_if slots states top nm s y ≡ move_node slots states top nm s y n.level (keys_of n)
      node_is = used_is ∙ ifd_no (ℕ_discrete (server_of nm) s) (P.done ((0, 1, []), [])) (move_node slots states top nm s y n.level (keys_of n)) (λ t. e (o ∙ t))

      pub if_root : (st : Course) (x' u' : List ℕ) → nm ≡ top → Operated slots m x u (move_root slots states nm s y) st x' u' → Operated slots m x u (move_if slots states top nm s y) st x' u'
      if_root st x' u' f a = rw (node_is, ifd_yes (ℕ_discrete nm top) (move_root slots states nm s y) (ifd (dec_le 7 (length (keys_of n))) (first_key (keys_of n) (move_below slots top nm s y n.level)) (P.fail no_tree)) f) a

      module _ (f : nm ≡ top → ⊥) (small : SmallNode n) (w : Whole n) where
        other_is : move_if slots states top nm s y ≡ ifd (dec_le 7 (length (keys_of n))) (first_key (keys_of n) (move_below slots top nm s y n.level)) (P.fail no_tree)
        other_is = node_is ∙ ifd_no (ℕ_discrete nm top) (move_root slots states nm s y) (ifd (dec_le 7 (length (keys_of n))) (first_key (keys_of n) (move_below slots top nm s y n.level)) (P.fail no_tree)) f

        pub if_few : Noted m u → n.count < 7 → Operated slots m x u (move_if slots states top nm s y) (Ended (Aborts 3)) x u
        if_few h c = walks_operated slots m x u (move_if slots states top nm s y) (Ended (Aborts 3)) u g (record {
          same = rw (other_is, ifd_no (dec_le 7 (length (keys_of n))) (first_key (keys_of n) (move_below slots top nm s y n.level)) (P.fail no_tree) (λ a. absurd (omega (arith, w.keys)))) (walked_fails slots m (used_in u) no_tree);
          noted = h;
        })

        pub if_below : (st : Course) (x' u' : List ℕ) → 7 ≤ n.count → Operated slots m x u (move_below slots top nm s y n.level (get_or n.keys 0 0)) st x' u' → Operated slots m x u (move_if slots states top nm s y) st x' u'
        unfolding keys_of
        if_below st x' u' c a =
            let i : 0 < length (keys_of n) = omega (arith, w.keys) in
            let j : get_or (keys_of n) 0 0 ≡ get_or n.keys 0 0 = get_or-take n.count n.keys 0 0 (omega arith) in
            rw (other_is, ifd_yes (dec_le 7 (length (keys_of n))) (first_key (keys_of n) (move_below slots top nm s y n.level)) (P.fail no_tree) (omega (arith, w.keys)), first_is (keys_of n) (move_below slots top nm s y n.level) i, j) a

pub ruleset if_exits = (if_free, if_there, if_root, if_few, if_below)

module _ (slots : ℕ) (m : ClientWord → ℕ) (x u : List ℕ) (states top nm s : ℕ) (q : Node) (u₁ : List ℕ) where
  pub named_stops : OwnGood x → (c : Course) → goes c ≡ false → Asked slots m nothing u (node nm) c q u₁ → Operated slots m x u (named_plan slots states top nm s) c x u₁
  unfolding named_plan
  named_stops g c halts a =
      walks_operated slots m x u (named_plan slots states top nm s) c u₁ g
      (record { same = rw ((a.asks [] (none_held slots)).same, halts) (sym (ended_nothing c (used_in u₁))); noted = a.noted })

  module _ (a : Asked slots m nothing u (node nm) Going q u₁) (n : Node) (e : n ≡ q) where
    node_asked : Asked slots m nothing u (node nm) Going n u₁
    node_asked = rw e a

    pub named_goes_on : (st : Course) (x' u' : List ℕ) → Operated slots m x u₁ (move_if slots states top nm s (value_of (node nm) n)) st x' u' → Operated slots m x u (named_plan slots states top nm s) st x' u'
    unfolding named_plan
    named_goes_on st x' u' h =
        follows slots m x u u₁ (named_plan slots states top nm s) (move_if slots states top nm s (value_of (node nm) n)) st x' u' (λ hold. rw ((node_asked.asks [] (none_held slots)).same)) h

    pub named_small : SmallNode n
    named_small = node_asked.small

    pub named_whole : length n.keys ≡ 14 → length n.slots ≡ 15 → Whole n
    named_whole lk ls = whole n lk ls node_asked.small.keys

pub ruleset named_exits = (named_stops, named_goes_on, named_small, named_whole)

module _ (slots : ℕ) (m : ClientWord → ℕ) (x u : List ℕ) (nm s : ℕ) (u₁ : List ℕ) where
  pub migrate_stops : OwnGood x → (c : Course) (r : Node) → goes c ≡ false → Asked slots m nothing u meta c r u₁ → Operated slots m x u (migrate_plan slots nm s) c x u₁
  migrate_stops g c r halts a =
      walks_operated slots m x u (migrate_plan slots nm s) c u₁ g
      (record { same = rw ((a.asks [] (none_held slots)).same, halts) (sym (ended_nothing c (used_in u₁))); noted = a.noted })

  pub migrate_goes_on : (top states : ℕ) → Asked slots m nothing u meta Going (metadata 0 top states) u₁ → (st : Course) (x' u' : List ℕ) → Operated slots m x u₁ (named_plan slots states top nm s) st x' u'
      → Operated slots m x u (migrate_plan slots nm s) st x' u'
  unfolding named_plan
  migrate_goes_on top states a st x' u' h =
      follows slots m x u u₁ (migrate_plan slots nm s) (named_plan slots states top nm s) st x' u' (λ hold. rw ((a.asks [] (none_held slots)).same, first_metadata top states, second_metadata top states)) h

pub ruleset migrate_exits = (migrate_stops, migrate_goes_on)
