-- Laws of the work step of an operation that only reads.
use Rattle.std.specs.Prelude.{◌≡◌, Bool, ℕ, ◌+◌, ◌≤◌, ltb, length, get_or}
use Rattle.std.proofs.Math.Path.{refl, sym, ap}
use Rattle.std.proofs.Common.{◌∙◌, subst, arith, le-ltb}
use Rattle.std.proofs.Math.Bool.{true, false}
use mathlib.Core.List.{List, []}
use Rattle.operations.specs.Object.{Ans}
use Rattle.operations.specs.Path.{TreePlan}
use Rattle.operations.specs.Entry.{Entries}
use Rattle.operations.specs.Look.{lookup_plan}
use Rattle.operations.specs.Operation.{reading}
use Rattle.client.specs.Layout.{ClientWord, op_number, op_key, op_value, writes_count}
use Rattle.client.specs.Run.{End}
use Rattle.client.specs.Lent.{InUse, used_in}
use Rattle.client.specs.Answered.{entered}
use Rattle.client.specs.Work.{answers, waiting, count_new, any_at_last, versions_there, last_questions, worked}
use Rattle.walk.specs.Walk.{Course, Answered, Told, is_answer, tell, walked}
use Rattle.walk.specs.Laws.Begin.{nothing_used}
use Rattle.walk.specs.Lookup.{ended, Walks}
use Rattle.walk.specs.declared.found.Sought.TheVariants.{AtLeast}
use Rattle.walk.specs.declared.found.Wish.{Wish}
use Rattle.walk.specs.Found.{pairs_in, Roomy, pairs_told, search_plan}
use Rattle.walk.specs.declared.operation.Query.{Query}
use Rattle.walk.specs.declared.operation.Query.TheVariants.{Lookup, Next, Previous}
use Rattle.walk.specs.declared.operation.Operation.TheVariants.{Read, Listing}
use Rattle.walk.specs.Operation.{operation_of}
use Rattle.walk.specs.Laws.Operation.{query_number, reads_number, lists_number}
use Rattle.walk.specs.Stopped.{Waiting, stop_of, Filled}
use Rattle.walk.specs.Laws.Stopped.{noted_in_use, is_filled, R, run_is, never, told_used, Given, stops, given}
use Rattle.walk.specs.Look.{near_plan, Looks}
use Rattle.client.specs.Work as C

last_none : (slots : ℕ) (m : ClientWord → ℕ) (a : Ans) → m writes_count ≤ 48 → last_questions slots m a [] ≡ answers a []
unfolding entered count_new versions_there any_at_last
last_none slots m a h = let l : m writes_count + 0 ≤ 48 = omega arith in let e : ltb 48 (m writes_count + 0) ≡ false = le-ltb 48 (m writes_count + 0) l in rw e

module _ (slots : ℕ) (m : ClientWord → ℕ) (wait : Waiting m) (u : List ℕ) (empty : get_or u 0 0 ≡ 0) (s : Course) (u' : List ℕ) (kept : length u' ≡ length u) where
  module _ (p : TreePlan) (e : reading slots (waiting m) ≡ p) (ps : Entries) (h : Walks slots m u p s u' ps) where
    tells : tell slots m (R slots m wait.reads).how (R slots m wait.reads).used ≡ ended s (used_in u') [] ps
    tells =
        sym (run_is slots m wait.reads) ∙ ap (walked slots m (reading slots (waiting m))) (sym (nothing_used m u empty)) ∙ ap (λ (q : TreePlan). walked slots m q (used_in u)) e ∙ h.same

    used_are : used_in u' ≡ (C.walked slots m).used
    used_are = sym (ap (λ (k : Told). k.used) tells) ∙ told_used slots m (R slots m wait.reads).how (R slots m wait.reads).used

    in_use : InUse u'
    in_use = noted_in_use m u' h.noted

    fills : Filled u (C.walked slots m).used u'
    fills = is_filled u (C.walked slots m).used u' in_use used_are kept

    looks : Looks slots m s u u' ps
    unfolding worked
    looks = go (is_answer s) refl
      where
        go : (b : Bool) → is_answer s ≡ b → Looks slots m s u u' ps
        go false f =
            let q : s ≡ stop_of (worked slots m) = stops slots m s (R slots m wait.reads).used (used_in u') [] ps (R slots m wait.reads).how tells f in
            record {
              stopped = record { stop = q; used = used_are; in_use = in_use };
              filled = fills;
              none = λ a w k. never s (Answered a.0 a.1) (q ∙ rw k) f refl;
              pairs = λ a w k. never s (Answered a.0 a.1) (q ∙ rw k) f refl;
            }
        go true f =
            let g : Given slots m (R slots m wait.reads).how s [] ps = given slots m s (R slots m wait.reads).used (used_in u') [] ps (R slots m wait.reads).how tells f in
            let q : worked slots m ≡ answers g.answer [] = ap (λ (e : End). C.judge slots m e) g.is ∙ last_none slots m g.answer wait.writes in
            record {
              stopped = record { stop = g.stop ∙ rw q; used = used_are; in_use = in_use };
              filled = fills;
              none = λ a w k. let y : answers g.answer [] ≡ answers a w = sym q ∙ k in let v : [] ≡ w = cc in sym v;
              pairs = λ a w k. let y : answers g.answer [] ≡ answers a w = sym q ∙ k in let v : g.answer ≡ a = cc in rw v at g.pairs;
            }

  module _ (op : Query) (key : ℕ) (po : operation_of (m op_number) ≡ Read op) (pk : key ≡ m op_key) where
    number_is : (r : Query) → op ≡ r → m op_number ≡ query_number r
    number_is r e = reads_number (m op_number) r (po ∙ ap Read e)

    pub look_lookup : op ≡ Lookup → Walks slots m u (lookup_plan key) s u' [] → Looks slots m s u u' []
    look_lookup e h = looks (lookup_plan key) (rw (number_is Lookup e, pk)) [] h

    pub look_next : op ≡ Next → Walks slots m u (near_plan true key) s u' [] → Looks slots m s u u' []
    look_next e h = looks (near_plan true key) (rw (number_is Next e, pk)) [] h

    pub look_previous : op ≡ Previous → Walks slots m u (near_plan false key) s u' [] → Looks slots m s u u' []
    look_previous e h = looks (near_plan false key) (rw (number_is Previous e, pk)) [] h

  -- a list
  module _ (po : operation_of (m op_number) ≡ Listing) where
    is_list : m op_number ≡ 7
    is_list = lists_number (m op_number) po

    pub look_list : (w : Wish) (f : List ℕ) → w.sought ≡ AtLeast → w.wanted ≡ m op_value → w.key ≡ m op_key → Walks slots m u (search_plan w) s u' (pairs_told w (pairs_in f)) → Looks slots m s u u' (pairs_in f)
    look_list w f ps pw pk h =
        let q : w ≡ record { sought = AtLeast; wanted = m op_value; key = m op_key } = wish_is w ps pw pk in
        let l : pairs_told w (pairs_in f) ≡ pairs_in f = rw ps in
        looks (search_plan w) (rw (is_list, q)) (pairs_in f) (rw l at h)
      where
        wish_is : (w : Wish) → w.sought ≡ AtLeast → w.wanted ≡ m op_value → w.key ≡ m op_key → w ≡ record { sought = AtLeast; wanted = m op_value; key = m op_key }
        wish_is w a b c = rw (← a, ← b, ← c)

pub list_room : (m : ClientWord → ℕ) (n : ℕ) (f : List ℕ) → Waiting m → operation_of (m op_number) ≡ Listing → n ≡ m op_value → 65 ≤ length f → get_or f 0 0 ≡ 0 → Roomy n f
list_room m n f wait po e l z =
    let b = wait.listed (lists_number (m op_number) po) in
    record { some = omega (arith, b.0); few = omega (arith, b.1); long = omega (arith, b.1); within = omega arith }

pub list_within : (m : ClientWord → ℕ) (n : ℕ) (f : List ℕ) → n ≡ m op_value → Roomy n f → Roomy (m op_value) f
list_within m n f e r = subst (λ (v : ℕ). Roomy v f) e r

pub ruleset list_exits = (look_list, list_room, list_within)

pub ruleset look_exits = (look_lookup, look_next, look_previous)
