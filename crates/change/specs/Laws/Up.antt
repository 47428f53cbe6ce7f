-- Laws of the way up, level by level.
use Rattle.std.specs.Prelude.{◌≡◌, refl, true, false, eqb, get_or, None, Some, Result, Ok, Err}
use Rattle.std.proofs.Common.{◌∙◌, eq-eqb, ne_eqb}
use Rattle.std.proofs.Math.Path.{ap}
use mathlib.Core.List.{List, [], ◌∷◌, ◌++◌}
use Prim.Native.Nat.{ℕ, zero, suc, ◌+◌, ◌-◌, ◌*◌, ◌≤◌, ◌<◌}
use native.Mathlib.Omega.{arith}
use Rattle.std.proofs.Math.Numerals.{add-one}
use Rattle.std.proofs.Math.ListN.{length}
use Rattle.nodes.specs.declared.change.Wide.{Wide}
use Rattle.nodes.specs.Entries.{wide_entries}
use Rattle.operations.specs.Object.{Ans, Writes}
use Rattle.operations.specs.Path.{TreePlan}
use Rattle.operations.specs.Change.{Go, up}
use Rattle.walk.specs.declared.down.Turn.{Turn}
use Rattle.change.specs.declared.leaf.Changed.{Changed}
use Rattle.change.specs.declared.rise.Risen.{Risen}
use Rattle.change.specs.declared.rise.Risen.TheVariants.{Up, Done}
use Rattle.walk.specs.declared.walk.Stop.{Stop}
use Rattle.walk.specs.declared.walk.Answer.{Answer}
use Rattle.client.specs.Layout.{ClientWord}
use Rattle.client.specs.Sets.{held}
use Rattle.client.specs.Record.{in_store}
use Rattle.client.specs.Lent.{used_in}
use Rattle.walk.specs.Entries.{branch_of}
use Rattle.walk.specs.Walk.{Course, Ended, Answered, goes, walked}
use Rattle.walk.specs.Lookup.{Ends}
use Rattle.walk.specs.Ask.{OwnGood, HoldsWrites, Noted}
use Rattle.walk.specs.Down.{low, branches, trail, blank, Followed, All, Link, Linked, turns_in, PathInPart}
use Rattle.walk.specs.Laws.Seek.{get_d_any}
use Rattle.change.specs.Operated.{Operated}
use Rattle.change.specs.Rise.{Content, Under, risen_course, up_in, is_root, rose, Raised, Closed}
use Rattle.change.specs.Level.{level_plan, top_plan}
use Rattle.change.specs.Laws.Level.{up_level}
use Rattle.change.specs.Up.{from_level, rise_plan, Ready}
use Rattle.change.specs.Leaf.{risen, LeafReady, Carries}
use Rattle.change.specs.Laws.Operated.{walks_operated}

-- how far it has come: at most three writes a level
pub record Rising (slots : ℕ) (m : ClientWord → ℕ) (x₀ u₀ : List ℕ) (a : Ans) (top : ℕ) (path : List Turn) (c₀ : ℕ) (n₀ : Wide) (c : ℕ) (n : Wide) (l : ℕ) (x u : List ℕ) : Type 0 where
  pub high : top ≤ 4
  pub upper : l ≤ top
  pub size : length path ≡ 5
  pub few : get_or x 0 0 ≤ 3 * l
  pub good : All (trail path l (top - l))
  pub linked : Linked slots l c (trail path l (top - l))
  pub content : Content l n
  pub own_good : OwnGood x
  pub noted : Noted m u
  pub writes : Writes
  pub holds : HoldsWrites slots x₀ [] → HoldsWrites slots x writes
  pub same : HoldsWrites slots x₀ [] → walked slots m (rise_plan slots a top path c₀ n₀) (used_in u₀) ≡ walked slots m (from_level slots a top path l writes c n) (used_in u)

pub rise_start : (slots : ℕ) (m : ClientWord → ℕ) (x u : List ℕ) (a : Ans) (top : ℕ) (path : List Turn) (c : ℕ) (n : Wide) → OwnGood x → get_or x 0 0 ≡ 0 → Noted m u → Ready slots top path c n
    → Rising slots m x u a top path c n c n 0 x u
unfolding rise_plan
rise_start slots m x u a top path c n g e h r = record {
  high = r.high;
  upper = omega arith;
  size = r.size;
  few = omega arith;
  good = r.good;
  linked = r.linked;
  content = r.content;
  own_good = g;
  noted = h;
  writes = [];
  holds = λ hold. hold;
  same = λ hold. refl;
}

pub linked_there : (slots l n : ℕ) (bs : List Turn) → Linked slots l n bs → in_store slots n ≡ true
unfolding Linked
linked_there slots l n [] h = h
linked_there slots l n (b ∷ bs) h = h.0.there

-- the parent is the root where the path ends with it
root_is : (path : List Turn) (l top : ℕ) → l < top → is_root (branches (trail path (suc l) (top - suc l))) ≡ eqb (l + 1) top
unfolding trail
root_is path l top h = go (top - suc l) refl
  where
    go : (k : ℕ) → top - suc l ≡ k → is_root (branches (trail path (suc l) (top - suc l))) ≡ eqb (l + 1) top
    go zero e = let f : l + 1 ≡ top = omega arith in rw (e, eq-eqb (l + 1) top f)
    go (suc k) e = let f : l + 1 ≡ top → ⊥ = λ q. omega arith in rw (e, ne_eqb (l + 1) top f)

module _ (slots : ℕ) (m : ClientWord → ℕ) (x₀ u₀ : List ℕ) (a : Ans) (top : ℕ) (path : List Turn) (c₀ : ℕ) (n₀ : Wide) (c : ℕ) (n : Wide) (l : ℕ) (x u : List ℕ) (g : Rising slots m x₀ u₀ a top path c₀ n₀ c n l x u) where
  pub rise_content : Content l n
  rise_content = g.content

  pub rise_good : OwnGood x
  rise_good = g.own_good

  pub rise_noted : Noted m u
  rise_noted = g.noted

  pub rise_room : get_or x 0 0 ≤ 12
  rise_room = omega (arith, g.few, g.upper, g.high)

  pub rise_low : l ≤ 4
  rise_low = omega (arith, g.upper, g.high)

  pub rise_there : in_store slots c ≡ true
  rise_there = linked_there slots l c (trail path l (top - l)) g.linked

  -- behind the last level
  module _ (h : top ≤ l) where
    at_end : l ≡ top
    at_end = omega (arith, g.upper)

    pub end_content : Content top n
    end_content = rw at_end at g.content

    pub end_low : top ≤ 4
    end_low = g.high

    pub end_there : in_store slots c ≡ true
    end_there = rise_there

    pub rise_ends : (s : Course) (x' u' : List ℕ) → Closed slots m x u (top_plan slots a top c (wide_entries n 0)) s x' u' → Operated slots m x₀ u₀ (rise_plan slots a top path c₀ n₀) s x' u'
    unfolding top_plan trail
    rise_ends s x' u' q =
        let e : top - top ≡ 0 = omega arith in
        record {
          writes = q.more ++ g.writes;
          same = λ hold. rw (g.same hold, at_end, e) (q.same g.writes (g.holds hold));
          holds = λ t hold. q.holds t g.writes (g.holds hold);
          kept = λ t hold. q.kept t g.writes (g.holds hold);
          noted = q.noted;
        }

  at_level : (c' : ℕ) (n' : Wide) (x' u' : List ℕ) (k : ℕ) → k ≡ suc l → Rising slots m x₀ u₀ a top path c₀ n₀ c' n' (suc l) x' u' → Rising slots m x₀ u₀ a top path c₀ n₀ c' n' k x' u'
  at_level c' n' x' u' k e r = rw e r

  module _ (h : l < top) (d : Turn) where
    abbrev b : Turn
    b = get_or path (l + 1) d

    abbrev bs : List Turn
    bs = trail path (suc l) (top - suc l)

    pub rise_inside : l + 1 < 5
    rise_inside = omega (arith, g.high)

    opened : trail path l (top - l) ≡ b ∷ bs
    unfolding trail
    opened =
        let i : suc l < length path = omega (arith, g.size, g.high) in
        let e : top - l ≡ suc (top - suc l) = omega arith in
        rw (e, add-one, get_d_any path (suc l) d blank i)

    taken : Followed b × All bs
    unfolding All
    taken = rw opened at g.good

    links : Link slots l c b × Linked slots (suc l) b.name bs
    unfolding Linked
    links = rw opened at g.linked

    pub rise_under : Under slots l c b
    rise_under = record { followed = taken.0; link = links.0; there = linked_there slots (suc l) b.name bs links.1 }

    module _ (x' u' : List ℕ) where
      abbrev go : Go
      go w es = up slots a (suc l) (branches bs) w b.name es

      walks : (r : Result Risen Stop) (q : Raised slots m x u l (eqb (l + 1) top) (level_plan slots a l b c (wide_entries n)) r x' u') → HoldsWrites slots x₀ []
          → walked slots m (rise_plan slots a top path c₀ n₀) (used_in u₀)
          ≡ rose (risen_course r) (used_in u') (q.more ++ g.writes) (λ us w. walked slots m (go w (wide_entries (up_in r) (low bs))) us)
      unfolding branch_of
      walks r q hold =
          g.same hold
          ∙ ap (λ (ts : List Turn). walked slots m (up slots a l (branches ts) g.writes c (wide_entries n (low ts))) (used_in u)) opened
          ∙ ap (λ (p : TreePlan). walked slots m p (used_in u)) (up_level slots a l b c (wide_entries n) (low bs) (branches bs) g.writes)
          ∙ q.same g.writes (g.holds hold) (low bs) (branches bs) (root_is path l top h) go

      no_more : (r : Result Risen Stop) → goes (risen_course r) ≡ false → Raised slots m x u l (eqb (l + 1) top) (level_plan slots a l b c (wide_entries n)) r x' u'
          → Operated slots m x₀ u₀ (rise_plan slots a top path c₀ n₀) (risen_course r) x' u'
      no_more r halts q =
          record {
            writes = q.more ++ g.writes;
            same = λ hold. walks r q hold ∙ rw halts;
            holds = λ t hold. q.holds t g.writes (g.holds hold);
            kept = λ t hold. q.kept t g.writes (g.holds hold);
            noted = q.noted;
          }

      pub rise_stops : (s : Stop) → Raised slots m x u l (eqb (l + 1) top) (level_plan slots a l b c (wide_entries n)) (Err s) x' u'
          → Operated slots m x₀ u₀ (rise_plan slots a top path c₀ n₀) (Ended s) x' u'
      rise_stops s q = no_more (Err s) refl q

      pub rise_answers : (z : Answer) → Raised slots m x u l (eqb (l + 1) top) (level_plan slots a l b c (wide_entries n)) (Ok (Done z)) x' u'
          → Operated slots m x₀ u₀ (rise_plan slots a top path c₀ n₀) (Answered z.a z.b) x' u'
      rise_answers z q = no_more (Ok (Done z)) refl q

      pub rise_more : (n' : Wide) → Raised slots m x u l (eqb (l + 1) top) (level_plan slots a l b c (wide_entries n)) (Ok (Up n')) x' u' → Rising slots m x₀ u₀ a top path c₀ n₀ b.name n' (l + 1) x' u'
      rise_more n' q =
          at_level b.name n' x' u' (l + 1) (add-one l) (record {
            high = g.high;
            upper = omega arith;
            size = g.size;
            few = omega (arith, q.few refl, g.few);
            good = taken.1;
            linked = links.1;
            content = q.content refl;
            own_good = q.good refl;
            noted = q.noted;
            writes = q.more ++ g.writes;
            holds = λ hold. q.holds refl g.writes (g.holds hold);
            same = walks (Ok (Up n')) q;
          })

pub ruleset rise_exits = (rise_start, rise_content, rise_good, rise_noted, rise_room, end_content, end_low, end_there, rise_ends, rise_inside, rise_under, rise_stops, rise_answers, rise_more)

-- ---- from a leaf that changes, or not
-- no leaf changes: the answer is 0
pub carry_nothing : (slots : ℕ) (b x u : List ℕ) → OwnGood x → (s : Course) (u' : List ℕ) → Ends (held b) u 0 0 s u' → Carries slots b x u None s x u'
carry_nothing slots b x u g s u' e = record {
  operated = λ p u₀ h. walks_operated slots (held b) x u₀ p s u' g (record { same = h.asks ∙ e.same slots [] []; noted = e.noted });
}

module _ (slots : ℕ) (b x u : List ℕ) (c : Changed) where
  pub carry_path : LeafReady slots b (Some c) → PathInPart c.way.path
  carry_path h = h.1

  -- its path is taken out of the part
  pub carry_ready : (path : List Turn) → LeafReady slots b (Some c) → path ≡ turns_in b c.way.path → Ready slots c.way.top path c.way.name c.content
  carry_ready path h e = rw e h.0

  pub carry_goes : (path : List Turn) (s : Course) (x' u' : List ℕ) → path ≡ turns_in b c.way.path
      → Operated slots (held b) x u (rise_plan slots (c.a, 0, []) c.way.top path c.way.name c.content) s x' u' → Carries slots b x u (Some c) s x' u'
  carry_goes path s x' u' e q' = let q : Operated slots (held b) x u (risen slots b (Some c)) s x' u' = rw e at q' in record {
    operated = λ p u₀ h. record {
      writes = q.writes;
      same = λ hold. h.asks ∙ q.same hold;
      holds = q.holds;
      kept = q.kept;
      noted = q.noted;
    };
  }

pub ruleset carry_exits = (carry_nothing, carry_path, carry_ready, carry_goes)
