-- A work step that answers, in the client's part: the walk as the machine's, the copies in use and then the writes enter, no operation waits.
use Rattle.std.specs.Prelude.{◌≡◌, Bool, cond, not, ℕ, ◌+◌, ◌-◌, ◌≤◌, length}
use Rattle.std.proofs.Math.Path.{refl, ap, subst}
use Rattle.std.proofs.Common.{sym, ◌∙◌, arith, ltb-false}
use Rattle.std.proofs.Math.Bool.{true, false}
use Rattle.std.proofs.lemmas.Bool.{false≢true}
use mathlib.Core.List.{List, [], ◌∷◌}
use Rattle.std.proofs.Math.Option.{Option, none, some, get_or, none-ne-some, some-injective}
use Rattle.std.proofs.Math.Dec.{ltb}
use Rattle.layout.specs.Space.{put, changed}
use Rattle.layout.specs.Step.{and_then}
use Rattle.layout.proofs.Laws.Step.{changed_append}
use Rattle.operations.specs.Object.{Obj, meta, Ask, object, vector, fetched, Val, root, states_of, no_tree, Ans, Writes}
use Rattle.operations.proofs.Laws.Object.{written}
use Rattle.operations.specs.Path.{TreePlan}
use Rattle.operations.specs.Operation.{all_fit?, check, reading, plan}
use Rattle.operations.proofs.Laws.Seen.{Hint, hint_of, plan_with}
use Rattle.operations.proofs.Laws.Asked.{written_asked}
use Rattle.operations.proofs.Laws.Storable.{AllStorable}
use Rattle.operations.proofs.Laws.Storing.{Form, writes_storable, answer_formed}
use Rattle.protocol.proofs.Laws.Hints.{Fits, objects, walk_hinted}
use Rattle.client.specs.Layout.{ClientWord, client_words, item, vector_word, phase, op_number, participants, prepared, applied, reads_count, writes_count, meta_states, meta_root, meta_version}
use Rattle.client.specs.Commit.{is_at}
use Rattle.client.specs.Items.{has}
use Rattle.client.specs.Laws.Ranges.{client_fits, fits_field}
use Rattle.client.specs.Record.{number}
use Rattle.client.specs.Have.{source, have, broken}
use Rattle.client.specs.Work.{new, waiting, walked, worked}
use Rattle.client.specs.Answered.{used_enter, entered, enter_writes, answered}
use Rattle.demand.proofs.Laws.Stays.{AllKeep}
use Rattle.demand.proofs.Laws.Shows.{T, InStore, SlotShown, CopiesShown}
use Rattle.demand.proofs.Laws.Slots.{slot_frame, copies_frame}
use Rattle.demand.proofs.Laws.Frame.{last, read_after}
use Rattle.demand.proofs.Laws.Behind.{field_same}
use Rattle.demand.proofs.Laws.AtHand.{had, have_there}
use Rattle.demand.proofs.Laws.Ran.{Follows, all_used, run_follows}
use Rattle.demand.proofs.Laws.Entered.{found_written}
use Rattle.demand.proofs.Laws.Used.{copies_stay, after_used, Entering, asked_orderly, writes_keep, states_are, copies_used}
use Rattle.demand.proofs.Laws.Records.{Any, points_any, op_names, have_storable}
use Rattle.demand.proofs.Laws.Latest.{every_written, by_writes, entered_last, entered_whole, AllInside}
use Rattle.demand.proofs.Laws.Rewritten.{write_of, Rewritten, fewer_new, all_entered}
use Rattle.demand.proofs.Laws.Overwritten.{slot_written}
use Rattle.plans.specs.Plan as Pl
use Rattle.plans.specs.Walk as Wk
use Rattle.plans.proofs.Laws.Walk as WkLaws
use Rattle.protocol.specs.Machine as P
use Rattle.protocol.specs.Moves as Mv
use Rattle.protocol.proofs.Laws.Work as W
use Rattle.client.specs.declared.part.Set.TheVariants as set
use Rattle.client.specs.Run as Run
use Rattle.client.specs.Work as Work

-- ---- an answer: how the walk ended, and what the last questions found
the_answer : Work.Worked → Option (Ans × Writes)
the_answer Work.refused = none
the_answer (Work.fetches a) = none
the_answer (Work.aborted y) = none
the_answer (Work.answers a w) = some (a, w)

module _ (slots : ℕ) (u : ClientWord → ℕ) (a : Ans) (w : Writes) where
  pub record Answers : Type 0 where
    pub how : (walked slots u).how ≡ Run.gives a w
    pub fitting : all_fit? w w ≡ true
    pub few : Work.writes_after u w ≤ 48
    pub young : Work.any_at_last u (entered w) ≡ false

  pub answered_as : worked slots u ≡ Work.answers a w → Answers
  unfolding worked the_answer
  answered_as e = go (walked slots u).how refl (ap the_answer e)
    where
      last : (b : Ans) (v : Writes) → (walked slots u).how ≡ Run.gives b v → (f m t l : Bool) → all_fit? v v ≡ f → ltb 48 (Work.writes_after u v) ≡ m
          → Work.any_at_last u (entered v) ≡ l
          → the_answer (cond (not f) (Work.aborted 3) (cond m (Work.aborted 4) (cond t Work.refused (cond l (Work.aborted 8) (Work.answers b v))))) ≡ some (a, w) → Answers
      last b v p false m t l f n r q = absurd (none-ne-some (a, w) q)
      last b v p true true t l f n r q = absurd (none-ne-some (a, w) q)
      last b v p true false true l f n r q = absurd (none-ne-some (a, w) q)
      last b v p true false false true f n r q = absurd (none-ne-some (a, w) q)
      last b v p true false false false f n r q =
          let same = some-injective {A = Ans × Writes} (b, v) (a, w) q in
          let ws : v ≡ w = ap (λ (r : Ans × Writes). r.1) same in
          record {
            how = p ∙ ap (λ (r : Ans × Writes). Run.gives r.0 r.1) same;
            fitting = subst (λ (v : Writes). all_fit? v v ≡ true) ws f;
            few = subst (λ (v : Writes). Work.writes_after u v ≤ 48) ws (ltb-false 48 (Work.writes_after u v) n);
            young = subst (λ (v : Writes). Work.any_at_last u (entered v) ≡ false) ws r;
          }

      go : (h : Run.End) → (walked slots u).how ≡ h → the_answer (Work.judge slots u h) ≡ some (a, w) → Answers
      go (Run.aborts y) p q = absurd (none-ne-some (a, w) q)
      go (Run.lacks b) p q = absurd (none-ne-some (a, w) (sym (lacks (broken slots u b)) ∙ q))
        where
          lacks : (t : Bool) → the_answer (cond t Work.refused (Work.fetches b)) ≡ none
          lacks true = refl
          lacks false = refl
      go (Run.gives b v) p q =
          last b v p (all_fit? v v) (ltb 48 (Work.writes_after u v)) (not (Work.versions_there u (entered v))) (Work.any_at_last u (entered v)) refl refl refl q

-- ---- a snapshot of what is at hand
is_had : Option Val → Bool
is_had none = false
is_had (some v) = true

abbrev snapshot : (Ask → Option Val) → Ask → Val
snapshot have q = get_or (have q) (root 0 0)

snapshot_shows : (have : Ask → Option Val) (l : List Ask) → Wk.Every (λ q. (v : Val) × (have q ≡ some v)) l
    → WkLaws.Shows have (snapshot have) l × Wk.Every (λ q. is_had (have q) ≡ true) l
unfolding Wk.Every is_had
snapshot_shows have [] g = (tt, tt)
snapshot_shows have (q ∷ l) g =
    let e = g.0.1 in
    let r = snapshot_shows have l g.1 in
    ((e ∙ ap some (sym (ap (λ (r : Option Val). get_or r (root 0 0)) e)), r.0), (ap is_had e, r.1))

-- ---- the walk of the whole plan, and of the machine's
module _ (k j slots : ℕ) (al : slots ≤ 1024) (u : ClientWord → ℕ) (fit : client_fits slots u ≡ true) (y : P.Slot (T k j slots)) (shown : SlotShown k j slots u y) (f : Obj → Option (P.Copy (T k j slots))) (copies : CopiesShown k j slots u f) (a : Ans) (w : Writes) (A : Answers slots u a w) where
  abbrev pub us : List ℕ
  us = (walked slots u).used

  abbrev pub qs : List Ask
  qs = Wk.used (reading slots (waiting u)) (have slots u)

  pub ran : (WkLaws.walk (reading slots (waiting u)) (have slots u) ≡ WkLaws.ends (Pl.gives (a, w))) × (us ≡ all_used (new u) qs []) × (u reads_count + length us ≤ 96)
  unfolding walked
  ran =
      let room = 96 - u reads_count in
      let h : Follows (WkLaws.walk (reading slots (waiting u)) (have slots u)) (all_used (new u) qs []) [] room (walked slots u).how us
      = run_follows (have slots u) (new u) room (reading slots (waiting u)) [] in
      let g = subst (λ (e : Run.End). Follows (WkLaws.walk (reading slots (waiting u)) (have slots u)) (all_used (new u) qs []) [] room e us) A.how h in
      (g.0, g.1, omega (arith, g.2 (omega arith), fits_field slots u fit 10 (omega arith)))

  -- the last check lets the answer pass, and asks for nothing
  checks : WkLaws.walk (plan slots (waiting u)) (have slots u) ≡ WkLaws.ends (Pl.gives (a, w))
  unfolding WkLaws.walk
  checks =
      WkLaws.walk_bind (reading slots (waiting u)) check (have slots u) ∙ ap (λ m. WkLaws.then m (λ r. WkLaws.walk (check r) (have slots u))) ran.0
      ∙ ap (λ (b : Bool). WkLaws.walk (cond b (Pl.done (a, w)) (Pl.fail no_tree)) (have slots u)) A.fitting

  pub uses : Wk.used (plan slots (waiting u)) (have slots u) ≡ qs
  unfolding Wk.used
  uses = WkLaws.used_bind (reading slots (waiting u)) check (have slots u) (λ r. none_asked r (all_fit? r.1 r.1))
    where
      none_asked : (r : Ans × Writes) (b : Bool) → Wk.used (cond b (Pl.done r) (Pl.fail no_tree)) (have slots u) ≡ []
      none_asked r true = refl
      none_asked r false = refl

  -- the vectors as they were seen are the hint
  abbrev pub hint : Hint
  hint = record { copied = λ s. snapshot (have slots u) (vector s); fetched_one = λ s. snapshot (have slots u) (fetched s) }

  abbrev pub at_hand : Obj → Option Val
  at_hand = W.have (T k j slots) f y.items

  hint_fits : (q : Ask) (v : Val) → have slots u q ≡ some v → Fits at_hand (hint_of hint q) v
  hint_fits (object o) v e = have_there k j slots al u f copies fit y shown o v e
  hint_fits (vector s) v e = ap (λ (r : Option Val). get_or r (root 0 0)) e
  hint_fits (fetched s) v e = ap (λ (r : Option Val). get_or r (root 0 0)) e

  pub machine_walks : (WkLaws.walk (plan_with slots hint (waiting u)) at_hand ≡ WkLaws.ends (Pl.gives (a, w)))
      × (Wk.used (plan_with slots hint (waiting u)) at_hand ≡ objects (hint_of hint) qs)
  machine_walks =
      let h = walk_hinted (hint_of hint) (have slots u) at_hand hint_fits (plan slots (waiting u)) (Pl.gives (a, w)) checks in
      (h.0, h.1 ∙ ap (objects (hint_of hint)) uses)

  -- ---- the writes: each can be stored, and is of an object in the store
  pub storable : AllStorable Any w
  storable =
      writes_storable Any slots (λ s i _ _. tt) (waiting u) (op_names Any slots (λ n _. tt) u fit) (have slots u)
      (have_storable k j slots al u f copies fit y shown Any (λ o v _. points_any o (source u (number o)).node)) a w ran.0

  -- ---- the answer has its operation's form
  pub formed : Form (waiting u) a
  formed =
      answer_formed Any slots (λ s i _ _. tt) (waiting u) (op_names Any slots (λ n _. tt) u fit) (have slots u)
      (have_storable k j slots al u f copies fit y shown Any (λ o v _. points_any o (source u (number o)).node)) a w ran.0

  -- what holds of everything that the plan asks for holds of what is written
  pub asked_of_written : (holds : Ask → Bool) → Wk.Every (λ q. holds q ≡ true) (Wk.used (plan slots (waiting u)) (have slots u))
      → (o : Obj) → written w o ≡ true → holds (object o) ≡ true
  asked_of_written holds every =
      written_asked slots (waiting u) holds (snapshot (have slots u)) a w
      (WkLaws.walk_asked p (have slots u) (snapshot (have slots u)) holds (Pl.gives (a, w)) checks shows every)
      (WkLaws.walk_exec p (have slots u) (snapshot (have slots u)) (Pl.gives (a, w)) shows checks)
    where
      p : TreePlan
      p = plan slots (waiting u)

      shows : WkLaws.Shows (have slots u) (snapshot (have slots u)) (Wk.used p (have slots u))
      shows = (snapshot_shows (have slots u) (Wk.used p (have slots u)) (WkLaws.used_had p (have slots u))).0

  written_in : (o : Obj) → written w o ≡ true → InStore k j slots o
  unfolding is_had
  written_in o h =
      let p = plan slots (waiting u) in
      go (have slots u (object o)) refl
      (asked_of_written (λ q. is_had (have slots u q)) (snapshot_shows (have slots u) (Wk.used p (have slots u)) (WkLaws.used_had p (have slots u))).1 o h)
    where
      go : (r : Option Val) → have slots u (object o) ≡ r → is_had (have slots u (object o)) ≡ true → InStore k j slots o
      go none e t = absurd (false≢true (sym (ap is_had e) ∙ t))
      go (some v) e t = (had k j slots al u f copies fit y shown o v e).in_store

  pub inside : AllInside k j slots al w
  inside = every_written (InStore k j slots) w written_in

  -- ---- THE CLIENT'S PART: the copies in use enter, then the writes, and no operation waits
  abbrev pub v₁ : ClientWord → ℕ
  v₁ = after_used u us

  abbrev pub v₂ : ClientWord → ℕ
  v₂ = changed client_words v₁ (enter_writes w v₁)

  abbrev pub v₃ : ClientWord → ℕ
  v₃ = changed client_words v₂ (put op_number 0 ∷ [])

  pub stored : changed client_words u (answered us w u) ≡ v₃
  unfolding answered and_then
  stored =
      changed_append client_words (used_enter us u) (and_then client_words (enter_writes w) (λ m. put op_number 0 ∷ []) v₁) u
      ∙ changed_append client_words (enter_writes w v₁) (put op_number 0 ∷ []) v₁

  abbrev pub used_items : List (P.Item (T k j slots))
  used_items = W.absorb (T k j slots) f (objects (hint_of hint) qs) y.items

  pub entering : Entering k j slots al u fit y shown f copies us used_items
  entering =
      subst (λ (l : List ℕ). Entering k j slots al u fit y shown f copies l used_items) (sym ran.1)
      (copies_used k j slots al u fit y shown f copies hint qs (WkLaws.used_had (reading slots (waiting u)) (have slots u)) (asked_orderly k j slots al u fit y shown f copies (waiting u))
      (subst (λ (l : List ℕ). u reads_count + length l ≤ 96) ran.1 ran.2)).0

  -- the writes keep the servers' states
  keep : (x : P.Item (T k j slots)) → P.find (T k j slots) used_items meta ≡ some x → AllKeep (states_of x.old) w
  keep x e =
      subst (λ (st : ℕ). AllKeep st w)
      (sym (ap (λ z. states_of (P.says (T k j slots) (λ i. i.old) ((T k j slots).init meta) z)) (sym e) ∙ states_are k j slots al u fit y shown f copies us used_items entering x e))
      (writes_keep k j slots al u fit y shown f copies (waiting u) a w ran.0)

  rewritten : Rewritten v₁ v₂ (by_writes w)
  unfolding enter_writes has
  rewritten =
      let c = field_same set.Reads 10 u v₁ entering.other 11 (λ e. absurd (omega arith)) in
      let n = fewer_new u v₁ (λ x h. ap is_at (found_written u v₁ entering.other x) ∙ h) (entered w) in
      let E = all_entered (entered w) (entered_whole w storable) v₁ (omega (arith, c, n, A.few)) in
      record { looked = λ q. E.looked q ∙ entered_last w q (write_of v₁ q); once = E.once; other = E.other }

  at : (b : ClientWord) → v₃ b ≡ last client_words (put op_number 0 ∷ []) b (v₂ b)
  at b = read_after client_words (put op_number 0 ∷ []) v₂ b

  pub none_waits : v₃ op_number ≡ 0
  none_waits = at op_number

  pub slot_now : SlotShown k j slots v₃ (Mv.answered_slot (T k j slots) (P.with_items (T k j slots) y used_items) w)
  slot_now =
      slot_frame k j slots v₂ v₃
      (record { reads = at reads_count; writes = at writes_count; items_read = λ i n. at (item set.Reads i n); items_written = λ i n. at (item set.Writes i n) })
      (Mv.answered_slot (T k j slots) (P.with_items (T k j slots) y used_items) w) (at phase) (at participants) (at prepared) (at applied)
      (slot_written k j slots al v₁ v₂ w rewritten storable inside (P.with_items (T k j slots) y used_items) entering.slot keep)

  pub copies_now : CopiesShown k j slots v₃ f
  copies_now =
      copies_frame k j slots v₂ v₃ f (at meta_states) (at meta_root) (at meta_version) (λ i n. at (item set.Copies i n)) (λ s n. at (vector_word s n))
      (copies_stay set.Writes 11 v₁ v₂ rewritten.other (λ e. absurd (omega arith)) (omega arith) k j slots f
      (copies_stay set.Reads 10 u v₁ entering.other (λ e. absurd (omega arith)) (omega arith) k j slots f copies))
