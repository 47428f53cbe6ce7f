-- Laws of the work step of an operation that writes.
use Rattle.std.specs.Prelude.{◌≡◌, refl, Bool, true, false, cond, ℕ, ◌+◌, ◌<◌, eqb, ltb, length, get_or, Option, Result, Ok, Err}
use Rattle.std.proofs.Common.{sym, ◌∙◌, ap, arith}
use mathlib.Core.List.{List, []}
use Rattle.operations.specs.Object.{Ans, Writes}
use Rattle.operations.specs.Path.{TreePlan}
use Rattle.operations.specs.Change.{insert_plan, delete_plan}
use Rattle.operations.specs.Migrate.{migrate_plan}
use Rattle.operations.specs.Operation.{reading, all_fit?}
use Rattle.client.specs.Layout.{ClientWord, op_number, op_key, op_value, op_server, writes_count}
use Rattle.client.specs.Lent.{InUse, Entry, own_list, used_in}
use Rattle.client.specs.Answered.{entered}
use Rattle.client.specs.Work.{Worked, refused, aborted, answers, waiting, count_new, versions_there, any_at_last, last_questions, worked}
use Rattle.walk.specs.declared.walk.Stop.{Stop}
use Rattle.walk.specs.declared.walk.Stop.TheVariants.{Refused, Aborts}
use Rattle.walk.specs.declared.walk.Answer.{Answer}
use Rattle.walk.specs.Walk.{Course, Going, Ended, Answered, Told, goes, is_answer, tell, walked}
use Rattle.walk.specs.Ask.{OwnKept, OwnGood, HoldsWrites, Noted}
use Rattle.walk.specs.Laws.Ask.{nothing_good, nothing_held}
use Rattle.walk.specs.Laws.Begin.{nothing_used, nothing_noted}
use Rattle.walk.specs.Lookup.{ended}
use Rattle.walk.specs.Stopped.{Waiting, stop_of}
use Rattle.walk.specs.Laws.Stopped.{noted_in_use, is_filled, R, run_is, never, told_used, Given, stops, given}
use Rattle.walk.specs.declared.operation.Update.{Update}
use Rattle.walk.specs.declared.operation.Update.TheVariants.{Insert, Delete, Migrate}
use Rattle.walk.specs.declared.operation.Operation.TheVariants.{Write}
use Rattle.walk.specs.Operation.{operation_of}
use Rattle.walk.specs.Laws.Operation.{update_number, writes_number}
use Rattle.walk.specs.Walk.{stands}
use Rattle.change.specs.declared.leaf.Changed.{Changed}
use Rattle.change.specs.Operated.{Operated, Written}
use Rattle.client.specs.Sets.{held}
use Rattle.change.specs.Leaf.{Changes, Carries}
use Rattle.change.specs.Laws.Rise as rise
use Rattle.change.specs.Laws.Operated.{walks_operated}
use Rattle.change.specs.Fit.{entries_fit}
use Rattle.change.specs.Laws.Fit.{all_fit_entries}
use Rattle.change.specs.Last.{reason_of, last_reason}
use Rattle.change.specs.Work.{moves, Ready, judged, Enters, Works}
use Rattle.client.specs.Work as C

-- ---- the last questions, by their reason; 10 is the refusal
abbrev by_reason : ℕ → Ans → Writes → Worked
by_reason r a w = cond (eqb r 0) (answers a w) (cond (eqb r 10) refused (aborted r))

pub last_is : (slots : ℕ) (m : ClientWord → ℕ) (a : Ans) (w : Writes) → all_fit? w w ≡ entries_fit (entered w)
    → last_questions slots m a w ≡ by_reason (last_reason m (entered w)) a w
unfolding last_reason reason_of
last_is slots m a w e =
    go (entries_fit (entered w)) refl (ltb 48 (m writes_count + count_new m (entered w))) refl (versions_there m (entered w)) refl (any_at_last m (entered w)) refl
  where
    go : (b : Bool) → entries_fit (entered w) ≡ b → (c : Bool) → ltb 48 (m writes_count + count_new m (entered w)) ≡ c → (f : Bool) → versions_there m (entered w) ≡ f
        → (d : Bool) → any_at_last m (entered w) ≡ d → last_questions slots m a w ≡ by_reason (last_reason m (entered w)) a w
    go false p c q f t d r = rw (e, last_reason, reason_of, p)
    go true p true q f t d r = rw (e, last_reason, reason_of, p, q)
    go true p false q false t d r = rw (e, last_reason, reason_of, p, q, t)
    go true p false q true t true r = rw (e, last_reason, reason_of, p, q, t, r)
    go true p false q true t false r = rw (e, last_reason, reason_of, p, q, t, r)

by_reason_stop : (r : ℕ) (a : Ans) (w : Writes) → judged (Answered a.0 a.1) r ≡ stop_of (by_reason r a w)
unfolding judged
by_reason_stop r a w = go (eqb r 0) (eqb r 10)
  where
    go : (b c : Bool) → cond b (Answered a.0 a.1) (cond c (Ended Refused) (Ended (Aborts r))) ≡ stop_of (cond b (answers a w) (cond c refused (aborted r)))
    go true c = refl
    go false true = refl
    go false false = refl

-- only without a reason is it answered, with these writes and pairs
by_reason_same : (r : ℕ) (a b : Ans) (w v : Writes) → by_reason r a w ≡ answers b v → (w ≡ v) × (a ≡ b)
by_reason_same r a b w v = go (eqb r 0) (eqb r 10)
  where
    go : (p q : Bool) → cond p (answers a w) (cond q refused (aborted r)) ≡ answers b v → (w ≡ v) × (a ≡ b)
    go true q e = (cc, cc)
    go false true e = let z : ◌≡◌ {A = ℕ} 0 1 = cc in absurd (omega arith)
    go false false e = let z : ◌≡◌ {A = ℕ} 0 1 = cc in absurd (omega arith)

-- what the last questions come to, as the code asks them
judged_ended : (s : Course) (r : ℕ) (e : Stop) → Ended e ≡ judged Going r → Ended e ≡ judged s r
unfolding judged
judged_ended s r e = go (eqb r 0) (eqb r 10)
  where
    go : (b c : Bool) → Ended e ≡ cond b Going (cond c (Ended Refused) (Ended (Aborts r))) → Ended e ≡ cond b s (cond c (Ended Refused) (Ended (Aborts r)))
    go true c p = rise.never (ap goes p)
    go false c p = p

judged_goes : (s : Course) (r : ℕ) → Going ≡ judged Going r → s ≡ judged s r
unfolding judged
judged_goes s r = go (eqb r 0) (eqb r 10)
  where
    go : (b c : Bool) → Going ≡ cond b Going (cond c (Ended Refused) (Ended (Aborts r))) → s ≡ cond b s (cond c (Ended Refused) (Ended (Aborts r)))
    go true c p = refl
    go false true p = rise.never (sym (ap goes p))
    go false false p = rise.never (sym (ap goes p))

stand : (s : Course) → is_answer s ≡ true → stands s ≡ true
stand Going n = refl
stand (Ended e) n = n
stand (Answered c d) n = refl

-- ---- how the work step ends, by the walk: l are the entries of what it writes
module _ (slots : ℕ) (m : ClientWord → ℕ) (wait : Waiting m) (u : List ℕ) (none : get_or u 0 0 ≡ 0) (s : Course) (l : List Entry) (u' : List ℕ) (ku : length u' ≡ length u) (o : Written slots m u (reading slots (waiting m)) s l u') where
  tells : tell slots m (R slots m wait.reads).how (R slots m wait.reads).used ≡ ended s (used_in u') o.writes []
  tells = sym (run_is slots m wait.reads) ∙ ap (walked slots m (reading slots (waiting m))) (sym (nothing_used m u none)) ∙ o.same

  used_are : used_in u' ≡ (C.walked slots m).used
  used_are = sym (ap (λ (k : Told). k.used) tells) ∙ told_used slots m (R slots m wait.reads).how (R slots m wait.reads).used

  in_use : InUse u'
  in_use = noted_in_use m u' o.noted

  enters_as : (t : Course) (k : List Entry) → t ≡ stop_of (worked slots m) → ((a : Ans) (w : Writes) → worked slots m ≡ answers a w → (k ≡ entered w) × (a.2 ≡ [])) → Enters slots m t k u u'
  enters_as t k e f = record { stopped = record { stop = e; used = used_are; in_use = in_use }; filled = is_filled u (C.walked slots m).used u' in_use used_are ku; own = λ a w p. (f a w p).0; unlisted = λ a w p. (f a w p).1 }

  module _ (no : is_answer s ≡ false) where
    stop_is : s ≡ stop_of (worked slots m)
    unfolding worked
    stop_is = stops slots m s (R slots m wait.reads).used (used_in u') o.writes [] (R slots m wait.reads).how tells no

    pub unanswered : {A : Type 0} (a : Ans) (w : Writes) → worked slots m ≡ answers a w → A
    unanswered a w p = never s (Answered a.0 a.1) (stop_is ∙ rw p) no refl

    pub enters_stops : Enters slots m s l u u'
    enters_stops = enters_as s l stop_is (λ a w p. unanswered a w p)

  module _ (yes_answer : is_answer s ≡ true) where
    given_is : Given slots m (R slots m wait.reads).how s o.writes []
    given_is = given slots m s (R slots m wait.reads).used (used_in u') o.writes [] (R slots m wait.reads).how tells yes_answer

    worked_is : worked slots m ≡ by_reason (last_reason m (entered o.writes)) given_is.answer o.writes
    unfolding worked
    worked_is = rw given_is.is (last_is slots m given_is.answer o.writes (all_fit_entries slots o.writes (o.out (stand s yes_answer))))

    listed_are : l ≡ entered o.writes
    listed_are = o.entries (stand s yes_answer)

    module _ (r : ℕ) (pr : r ≡ last_reason m l) where
      judged_is : worked slots m ≡ by_reason r given_is.answer o.writes
      judged_is = worked_is ∙ ap (λ (k : ℕ). by_reason k given_is.answer o.writes) (sym (pr ∙ ap (last_reason m) listed_are))

      stops_as : (t : Course) → t ≡ judged s r → t ≡ stop_of (worked slots m)
      stops_as t e = e ∙ ap (λ (k : Course). judged k r) given_is.stop ∙ by_reason_stop r given_is.answer o.writes ∙ sym (ap stop_of judged_is)

      -- as the last questions judge the answer
      pub enters_judged : (t : Course) → t ≡ judged s r → Enters slots m t l u u'
      enters_judged t e =
          enters_as t l (stops_as t e)
          (λ a w q. let same = by_reason_same r given_is.answer a o.writes w (sym judged_is ∙ q) in (listed_are ∙ ap entered same.0, ap (λ (b : Ans). b.2) (sym same.1) ∙ given_is.pairs))

      -- the answer stands
      pub enters_answers : Going ≡ judged Going r → Enters slots m s l u u'
      enters_answers p = enters_judged s (judged_goes s r p)

      -- or it doesn't: then nothing enters
      module _ (e : Stop) (p : Ended e ≡ judged Going r) where
        ends_as : Ended e ≡ stop_of (worked slots m)
        ends_as = stops_as (Ended e) (judged_ended s r e p)

        pub not_answered : {A : Type 0} (a : Ans) (w : Writes) → worked slots m ≡ answers a w → A
        not_answered a w q = never (Ended e) (Answered a.0 a.1) (ends_as ∙ rw q) refl refl

        pub enters_refused : (k : List Entry) → Enters slots m (Ended e) k u u'
        enters_refused k = enters_as (Ended e) k ends_as (λ a w q. not_answered a w q)

-- ---- the ways out of the work step
module _ (slots : ℕ) (m : ClientWord → ℕ) (wait : Waiting m) (x u : List ℕ) (ready : Ready x u) (x' u' : List ℕ) (kx : length x' ≡ length x) (ku : length u' ≡ length u) where
  empty : HoldsWrites slots x []
  empty = nothing_held x ready.own_none slots

  listed : (s : Course) → Operated slots m x u (reading slots (waiting m)) s x' u' → Written slots m u (reading slots (waiting m)) s (own_list x') u'
  listed s o = record { writes = o.writes; same = o.same empty; entries = λ t. (o.holds t empty).entries; out = λ t. (o.holds t empty).out; noted = o.noted }

  pub work_stops : (s : Course) → is_answer s ≡ false → Operated slots m x u (reading slots (waiting m)) s x' u' → Works slots m s x u x' u'
  work_stops s q o =
      record {
        enters = enters_stops slots m wait u ready.used_none s (own_list x') u' ku (listed s o) q;
        fits = λ a w p. unanswered slots m wait u ready.used_none s (own_list x') u' ku (listed s o) q a w p;
        own_same_length = kx;
      }

  module _ (z : Answer) (o : Operated slots m x u (reading slots (waiting m)) (Answered z.a z.b) x' u') where
    pub own_kept : OwnKept x'
    own_kept = o.kept refl empty

    pub work_judged : (r : ℕ) → r ≡ last_reason m (own_list x') → (t : Course) → t ≡ judged (Answered z.a z.b) r → Works slots m t x u x' u'
    work_judged r pr t e = record {
      enters = enters_judged slots m wait u ready.used_none (Answered z.a z.b) (own_list x') u' ku (listed (Answered z.a z.b) o) refl r pr t e;
      fits = λ a w q. own_kept.fit;
      own_same_length = kx;
    }

    pub work_refuses : (e : Stop) → Ended e ≡ judged Going (last_reason m (own_list x')) → Works slots m (Ended e) x u x' u'
    work_refuses e p = work_judged (last_reason m (own_list x')) refl (Ended e) (judged_ended (Answered z.a z.b) (last_reason m (own_list x')) e p)

    pub work_answers : Going ≡ judged Going (last_reason m (own_list x')) → Works slots m (Answered z.a z.b) x u x' u'
    work_answers p = work_judged (last_reason m (own_list x')) refl (Answered z.a z.b) (judged_goes (Answered z.a z.b) (last_reason m (own_list x')) p)

pub ruleset work_exits = (work_stops, own_kept, work_refuses, work_answers)

-- ---- by the operation
is_move : (op : Update) → moves op ≡ true → op ≡ Migrate
is_move Insert e = let y : ◌≡◌ {A = ℕ} 0 1 = cc in absurd (omega arith)
is_move Delete e = let y : ◌≡◌ {A = ℕ} 0 1 = cc in absurd (omega arith)
is_move Migrate e = refl

module _ (slots : ℕ) (b : List ℕ) (op : Update) (po : operation_of (held b op_number) ≡ Write op) where
  abbrev m : ClientWord → ℕ
  m = held b

  number_is : (r : Update) → op ≡ r → m op_number ≡ update_number r
  number_is r e = writes_number (m op_number) r (po ∙ ap Write e)

  -- to a server of the store
  pub move_server : Waiting (held b) → (c : Bool) → c ≡ moves op → c ≡ true → (server : ℕ) → server ≡ held b op_server → server < 8
  move_server wait c pb t server pv = omega (arith, wait.moved (number_is Migrate (is_move op (sym pb ∙ t))))

  module _ (key : ℕ) (pk : key ≡ held b op_key) where
    -- down to the leaf
    module _ (u : List ℕ) (c : Result (Option Changed) Stop) (u' : List ℕ) where
      pub leaf_insert : (value : ℕ) → op ≡ Insert → value ≡ held b op_value → Changes slots b u (insert_plan slots key value) c u' → Changes slots b u (reading slots (waiting (held b))) c u'
      leaf_insert value e pv h = let p : reading slots (waiting m) ≡ insert_plan slots key value = rw (number_is Insert e, pk, pv) in rw p h

      pub leaf_delete : op ≡ Delete → Changes slots b u (delete_plan slots key) c u' → Changes slots b u (reading slots (waiting (held b))) c u'
      leaf_delete e h = let p : reading slots (waiting m) ≡ delete_plan slots key = rw (number_is Delete e, pk) in rw p h

    -- a move
    pub by_migrate : (c : Bool) → c ≡ moves op → c ≡ true → (server : ℕ) → server ≡ held b op_server → (x u : List ℕ) (s : Course) (x' u' : List ℕ)
        → Operated slots (held b) x u (migrate_plan slots key server) s x' u' → Operated slots (held b) x u (reading slots (waiting (held b))) s x' u'
    by_migrate c pb t server pv x u s x' u' h =
        let p : reading slots (waiting m) ≡ migrate_plan slots key server = rw (number_is Migrate (is_move op (sym pb ∙ t)), pk, pv) in
        rw p h

pub leaf_not : (op : Update) → moves op ≡ false → op ≡ Migrate → (slots : ℕ) (b u : List ℕ) (p : TreePlan) (c : Result (Option Changed) Stop) (u' : List ℕ) → Changes slots b u p c u'
leaf_not op n e slots b u p c u' = let q : true ≡ false = sym (ap moves e) ∙ n in let y : ◌≡◌ {A = ℕ} 0 1 = cc in absurd (omega arith)

-- the list of own writes is carried along
pub no_leaf : (slots : ℕ) (b : List ℕ) (p : TreePlan) (x u : List ℕ) (s : Stop) (u₁ : List ℕ) → OwnGood x → Changes slots b u p (Err s) u₁ → Operated slots (held b) x u p (Ended s) x u₁
no_leaf slots b p x u s u₁ g h = walks_operated slots (held b) x u p (Ended s) u₁ g (record { same = h.asks; noted = h.noted })

pub by_leaf : (slots : ℕ) (b : List ℕ) (p : TreePlan) (x u : List ℕ) (c : Option Changed) (u₁ : List ℕ) → Changes slots b u p (Ok c) u₁ → (s : Course) (x' u' : List ℕ) → Carries slots b x u₁ c s x' u' → Operated slots (held b) x u p s x' u'
by_leaf slots b p x u c u₁ h s x' u' q = q.operated p u h

pub ruleset to_leaf_exits = (leaf_insert, leaf_delete, leaf_not)

pub ruleset by_operation = (move_server, by_migrate, no_leaf, by_leaf)

-- ---- what the parts of the work step ask for
pub ready_good : (x u : List ℕ) → Ready x u → OwnGood x
ready_good x u h = nothing_good x h.own_none h.own_long

pub ready_noted : (m : ClientWord → ℕ) (x u : List ℕ) → Ready x u → Noted m u
ready_noted m x u h = nothing_noted m u h.used_none h.used_long
