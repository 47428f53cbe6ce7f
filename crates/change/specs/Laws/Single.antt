-- Laws of an operation that writes one object or none.
use Rattle.std.specs.Prelude.{◌≡◌, refl, Bool, true, not, ◌||◌, List, [], ◌∷◌, ℕ, zero, suc, ◌+◌, ◌-◌, ◌≤◌, ◌<◌, eqb, length, get_or, Option, None, Some, Result, Ok, Err}
use Rattle.std.proofs.Math.Path.{sym}
use Rattle.std.proofs.Common.{◌∙◌, ap}
use Rattle.std.proofs.Math.Bool.{false}
use Rattle.std.proofs.Math.Option.{none}
use native.Mathlib.Omega.{arith}
use Rattle.std.proofs.Math.Dec.{leb}
use borrow.Author.Tests.{not-false, eq-eqb, ne_eqb, le-leb, lt-leb, leb-true, le-ltb}
use Rattle.base.specs.Test.{and_both}
use Rattle.nodes.specs.declared.node.Node.{Node}
use Rattle.nodes.specs.declared.change.Wide.{Wide}
use Rattle.nodes.specs.Change.{narrow, with_version}
use Rattle.nodes.specs.Entries.{wide_entries}
use Rattle.operations.specs.Object.{Obj, node, Val, hit, Ans}
use Rattle.operations.specs.Path.{TreePlan}
use Rattle.operations.specs.Operation.{reading}
use Rattle.operations.specs.Change.{up}
use Rattle.client.specs.Sets.{held}
use Rattle.client.specs.Layout.{ClientWord, writes_count}
use Rattle.client.specs.Record.{in_store, object_in_store, value_of, record_of}
use Rattle.client.specs.Lent.{used_in}
use Rattle.client.specs.Answered.{put_entry, entered}
use Rattle.client.specs.Work.{waiting, count_new, versions_there, any_at_last}
use Rattle.walk.specs.declared.down.Turn.{Turn}
use Rattle.walk.specs.declared.walk.Stop.{Stop}
use Rattle.walk.specs.declared.walk.Answer.{Answer}
use Rattle.walk.specs.Walk.{Course, Going, Ended, Answered, walked}
use Rattle.walk.specs.Down.{low, branches, trail, blank, turns_in}
use Rattle.walk.specs.Entries.{branch_of}
use Rattle.walk.specs.Lookup.{Ends, ended}
use Rattle.walk.specs.Ask.{write_of}
use Rattle.walk.specs.Stopped.{Waiting}
use Rattle.walk.specs.Laws.Ask.{name_below}
use Rattle.walk.specs.Laws.Write.{hit_same}
use Rattle.change.specs.declared.leaf.Changed.{Changed}
use Rattle.change.specs.declared.single.OneWrite.{OneWrite}
use Rattle.change.specs.declared.single.Single.{Single}
use Rattle.change.specs.Rise.{Content}
use Rattle.change.specs.Level.{level_plan, top_plan}
use Rattle.change.specs.Laws.Level.{level_written, top_written}
use Rattle.change.specs.Up.{rise_plan}
use Rattle.change.specs.Laws.Up.{linked_there}
use Rattle.change.specs.Leaf.{LeafReady, Changes}
use Rattle.change.specs.Fit.{entries_fit}
use Rattle.change.specs.Last.{reason_of, last_reason}
use Rattle.change.specs.Work.{judged}
use Rattle.change.specs.Laws.Work.{enters_stops, enters_refused, enters_answers}
use Rattle.change.specs.Laws.Rise.{never}
use Rattle.change.specs.Operated.{Written}
use Rattle.change.specs.Single.{single_entries, FewKeys, in_range, Named, LeafWritten, Singly, WorksSingly}
use Rattle.plans.specs.Plan as P

-- ---- is the leaf in range
module _ (top count : ℕ) where
  pub range_full : 14 < count → false ≡ in_range top count
  unfolding in_range
  range_full h = rw (lt-leb count 14 h)

  module _ (h : count ≤ 14) where
    pub range_root : top ≡ 0 → true ≡ in_range top count
    unfolding in_range
    range_root e = rw (le-leb count 14 h, eq-eqb top 0 e)

    pub range_below : (top ≡ 0 → ⊥) → leb 7 count ≡ in_range top count
    unfolding in_range
    range_below e = rw (le-leb count 14 h, ne_eqb top 0 e)

  range_few : in_range top count ≡ true → count ≤ 14
  unfolding in_range
  range_few e = leb-true count 14 (and_both (leb count 14) (eqb top 0 || leb 7 count) e).0

pub ruleset range_exits = (range_full, range_root, range_below)

range_many : (i count : ℕ) → in_range (suc i) count ≡ true → 7 ≤ count
unfolding in_range
range_many i count e =
    let d : suc i ≡ 0 → ⊥ = λ q. omega arith in
    leb-true 7 count (rw (ne_eqb (suc i) 0 d) at (and_both (leb count 14) (eqb (suc i) 0 || leb 7 count) e).1)

-- ---- the plan is to write it
abbrev over_path : ℕ → Ans → List Turn → ℕ → Wide → TreePlan
over_path slots a bs c n = up slots a 0 (branches bs) [] c (wide_entries n (low bs))

leaf_plan : (slots : ℕ) (a : Ans) (top : ℕ) (path : List Turn) (c : ℕ) (n : Wide) → Content 0 n → in_range top n.count ≡ true
    → rise_plan slots a top path c n ≡ P.done (a, (node c, value_of (node c) (narrow n)) ∷ [])
unfolding rise_plan trail top_plan level_plan branch_of
leaf_plan slots a zero path c n k e = top_written slots 0 c n a k (range_few 0 n.count e) []
leaf_plan slots a (suc i) path c n k e =
    let q : suc i - 0 ≡ suc i = omega arith in
    ap (λ (j : ℕ). over_path slots a (trail path 0 j) c n) q
    ∙ level_written slots 0 (get_or path 1 blank) c n a k (range_many i n.count e) (range_few (suc i) n.count e) (low (trail path 1 i)) (branches (trail path 1 i)) []
    (λ w es. up slots a 1 (branches (trail path 1 i)) w (get_or path 1 blank).name es)

-- one write of an object of the store
out_one : (slots c : ℕ) (v : Val) (o : Obj) → in_store slots c ≡ true → object_in_store slots o ≡ false → write_of ((node c, v) ∷ []) o ≡ none
out_one slots c v o t f = go (hit (node c) o) refl
  where
    go : (b : Bool) → hit (node c) o ≡ b → write_of ((node c, v) ∷ []) o ≡ none
    go true p = let q : true ≡ false = sym t ∙ ap (object_in_store slots) (hit_same (node c) o p) ∙ f in let y : ◌≡◌ {A = ℕ} 0 1 = cc in absurd (omega arith)
    go false p = rw p

-- ---- the ways out of the code that writes it
-- nothing is written: no leaf changes
module _ (y u : List ℕ) where
  nothing_written : (s : Course) (u' : List ℕ) → Ends (held y) u 0 0 s u' → (slots : ℕ) (p : TreePlan) (u₀ : List ℕ) → Changes slots y u₀ p (Ok None) u → Written slots (held y) u₀ p s [] u'
  unfolding entered
  nothing_written s u' q slots p u₀ h = record {
    writes = [];
    same = h.asks ∙ q.same slots [] [];
    entries = λ t. refl;
    out = λ t o e. refl;
    noted = q.noted;
  }

  pub none_ends : (e : Stop) (u' : List ℕ) → Ends (held y) u 0 0 (Ended e) u' → LeafWritten y u None (Err e) u'
  none_ends e u' q = record { written = λ ng. nothing_written (Ended e) u' q; few = tt }

  pub none_answers : (z : Answer) (u' : List ℕ) → Ends (held y) u 0 0 (Answered z.a z.b) u' → LeafWritten y u None (Ok (Some (record { answer = z; write = None }))) u'
  none_answers z u' q = record { written = λ ng. nothing_written (Answered z.a z.b) u' q; few = tt }

module _ (y u : List ℕ) (c : Changed) where
  pub leaf_more : LeafWritten y u (Some c) (Ok None) u
  leaf_more = record { written = λ ng. never (sym ng); few = tt }

  module _ (b : Bool) (pb : b ≡ in_range c.way.top c.content.count) (nr : not b ≡ false) where
    ranges : in_range c.way.top c.content.count ≡ true
    ranges = sym pb ∙ not-false b nr

    pub leaf_few : c.content.count ≤ 14
    leaf_few = range_few c.way.top c.content.count ranges

    pub leaf_narrow : (n : Node) → n.count ≡ c.content.count → n.count ≤ 14
    leaf_narrow n e = omega (arith, leaf_few)

    -- the plan is walked to its end
    leaf_walked : (s : Course) (u' : List ℕ) → Ends (held y) u c.a 0 s u' → (slots : ℕ) (p : TreePlan) (u₀ : List ℕ) (h : Changes slots y u₀ p (Ok (Some c)) u)
        → walked slots (held y) p (used_in u₀) ≡ ended s (used_in u') ((node c.way.name, value_of (node c.way.name) (narrow c.content)) ∷ []) []
    leaf_walked s u' q slots p u₀ h =
        h.asks ∙ rw (leaf_plan slots (c.a, 0, []) c.way.top (turns_in y c.way.path) c.way.name c.content h.ready.0.content ranges) (q.same slots _ [])

    pub leaf_ends : (e : Stop) (u' : List ℕ) → Ends (held y) u c.a 0 (Ended e) u' → LeafWritten y u (Some c) (Err e) u'
    leaf_ends e u' q = record {
      written = λ ng slots p u₀ h. record {
        writes = (node c.way.name, value_of (node c.way.name) (narrow c.content)) ∷ [];
        same = leaf_walked (Ended e) u' q slots p u₀ h;
        entries = λ t. never t;
        out = λ t. never t;
        noted = q.noted;
      };
      few = tt;
    }

    pub leaf_one : (z : Answer) (u' : List ℕ) → Ends (held y) u c.a 0 (Answered z.a z.b) u' → (n v : Node) → n ≡ narrow c.content → v ≡ with_version n 0 → n.count ≡ c.content.count → v.count ≡ n.count
        → (k : ℕ) → k ≡ 1 + c.way.name → LeafWritten y u (Some c) (Ok (Some (record { answer = z; write = Some (record { number = k; node = v }) }))) u'
    unfolding entered put_entry with_version record_of
    leaf_one z u' q n v pn pv cn cv k pk = record {
      written = λ ng slots p u₀ h. record {
        writes = (node c.way.name, value_of (node c.way.name) (narrow c.content)) ∷ [];
        same = leaf_walked (Answered z.a z.b) u' q slots p u₀ h;
        entries = λ t. rw (pk, pv, pn);
        out = λ t o e. out_one slots c.way.name _ o (linked_there slots 0 c.way.name (trail (turns_in y c.way.path) 0 (c.way.top - 0)) h.ready.0.linked) e;
        noted = q.noted;
      };
      few = omega (arith, leaf_few);
    }

pub leaf_name : (c : Changed) → Named (Some c) → c.way.name < 8192
leaf_name c h = h

pub ruleset leaf_exits = (none_ends, none_answers, leaf_name, leaf_more, leaf_few, leaf_narrow, leaf_ends, leaf_one)

-- ---- by the operation
module _ (slots : ℕ) (y u : List ℕ) where
  abbrev m : ClientWord → ℕ
  m = held y

  pub single_ends : (e : Stop) (u₁ : List ℕ) → Changes slots y u (reading slots (waiting (held y))) (Err e) u₁ → Singly slots (held y) u (Err e) u₁
  single_ends e u₁ h = record {
    written = λ ng. record { writes = []; same = h.asks; entries = λ t. never t; out = λ t. never t; noted = h.noted };
    few = tt;
  }

  module _ (c : Option Changed) (u₁ : List ℕ) (h : Changes slots y u (reading slots (waiting (held y))) (Ok c) u₁) where
    pub leaf_named : Named c
    leaf_named = go c h.ready
      where
        go : (c : Option Changed) → LeafReady slots y c → Named c
        go None r = tt
        go (Some c) r = name_below slots c.way.name (linked_there slots 0 c.way.name (trail (turns_in y c.way.path) 0 (c.way.top - 0)) r.0.linked)

    pub single_leaf : (r : Result (Option Single) Stop) (u' : List ℕ) → LeafWritten y u₁ c r u' → Singly slots (held y) u r u'
    single_leaf r u' q = record { written = λ ng. q.written ng slots (reading slots (waiting m)) u h; few = q.few }

  pub single_moves : Singly slots (held y) u (Ok None) u
  single_moves = record { written = λ ng. never (sym ng); few = tt }

pub ruleset single_operation = (single_ends, leaf_named, single_leaf, single_moves)

-- ---- the last questions about it
pub nothing_asked : (m : ClientWord → ℕ) (w : Option OneWrite) → w ≡ None → m writes_count ≤ 48 → 0 ≡ last_reason m (single_entries w)
unfolding last_reason reason_of entries_fit count_new versions_there any_at_last
nothing_asked m w e h = let l : m writes_count + 0 ≤ 48 = omega arith in rw (e, le-ltb _ _ l)

pub nothing_judged : (m : ClientWord → ℕ) → m writes_count ≤ 48 → Going ≡ judged Going (last_reason m [])
unfolding judged
nothing_judged m h = ap (judged Going) (nothing_asked m None refl h)

-- ---- the work step
module _ (slots : ℕ) (m : ClientWord → ℕ) (wait : Waiting m) (u : List ℕ) (none : get_or u 0 0 ≡ 0) (u' : List ℕ) (ku : length u' ≡ length u) where
  pub single_stops : (e : Stop) → Singly slots m u (Err e) u' → WorksSingly slots m (Err e) u u'
  single_stops e o = record { enters = λ ng. enters_stops slots m wait u none (Ended e) [] u' ku (o.written refl) refl }

  pub single_more : WorksSingly slots m (Ok None) u u'
  single_more = record { enters = λ ng. never (sym ng) }

  module _ (s : Single) (o : Singly slots m u (Ok (Some s)) u') where
    pub single_few : FewKeys s.write
    single_few = o.few

    pub single_refused : (e : Stop) → Ended e ≡ judged Going (last_reason m (single_entries s.write)) → WorksSingly slots m (Err e) u u'
    single_refused e p = record {
      enters = λ ng. enters_refused slots m wait u none (Answered s.answer.a s.answer.b) (single_entries s.write) u' ku (o.written refl) refl (last_reason m (single_entries s.write)) refl e p [];
    }

    pub single_answers : Going ≡ judged Going (last_reason m (single_entries s.write)) → WorksSingly slots m (Ok (Some s)) u u'
    single_answers p = record {
      enters = λ ng. enters_answers slots m wait u none (Answered s.answer.a s.answer.b) (single_entries s.write) u' ku (o.written refl) refl (last_reason m (single_entries s.write)) refl p;
    }

pub ruleset single_exits = (single_stops, single_more, single_few, single_refused, single_answers)
