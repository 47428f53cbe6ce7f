-- Laws of the work step's code: how the walk stopped is what the rule comes to.
use Rattle.std.proofs.Math.Path.{◌≡◌, refl, ap, subst}
use Rattle.std.proofs.Common.{sym, ◌∙◌, arith}
use Rattle.std.specs.Prelude.{Bool, cond, ◌&&◌, not, Option, None, Some, Result, ℕ, ◌+◌, ◌-◌, ◌*◌, ◌/◌, ◌≤◌, ◌<◌, eqb, leb, ltb, length, get_or, replicate}
use Rattle.std.proofs.Math.Bool.{true, false}
use Rattle.std.proofs.lemmas.Bool.{false≢true}
use mathlib.Core.List.{List, []}
use Rattle.std.proofs.Math.Decide.{dec_lt}
use borrow.Author.Tests.{not-true, not-false, lt-ltb, le-ltb, ltb-true, leb-true}
use borrow.Rule.Slice.PartMut.{mid_of}
use Rattle.base.specs.Test.{and_both}
use Rattle.memory.specs.Word.{view}
use Rattle.layout.specs.Step.{Does, silent}
use Rattle.layout.specs.Part.{in_part}
use Rattle.nodes.specs.Name.{server_of, slot_of, name_in_store}
use Rattle.operations.specs.Operation.{all_fit?}
use Rattle.nodes.specs.Object.{object_of}
use Rattle.server.specs.Object.{Has}
use Rattle.operations.specs.Entry.{Entries}
use Rattle.client.specs.declared.part.Set.{Set}
use Rattle.client.specs.declared.part.Set.TheVariants.{Reads, Writes}
use Rattle.client.specs.Layout.{ClientWord, op_number, op_key, op_value, op_server, writes_count, limit}
use Rattle.client.specs.Record.{in_store, object_in_store}
use Rattle.client.specs.Sets.{count}
use Rattle.client.specs.Items.{all_below}
use Rattle.client.specs.Fits.{said_count, number_fits, numbers_fit, list_fits, migrate_fits, op_fits, fit_to_work}
use Rattle.client.specs.Part.{Did, nothing, put_field, put_word}
use Rattle.client.specs.Laws.Steps.{did_then, did_three, did_nothing}
use Rattle.client.specs.Laws.GoodSteps.{good_entries}
use Rattle.client.specs.Laws.Enter.{good_write}
use Rattle.client.specs.Vectors.{vector_fits}
use Rattle.client.specs.Have.{bad_vector, broken}
use Rattle.client.specs.Run.{End, lacks, aborts, gives}
use Rattle.client.specs.Lent.{Entry, used_in, OwnFits, own_list}
use Rattle.client.specs.Enter.{enter_write, enter_entries}
use Rattle.client.specs.Answered.{used_enter, enter_writes, entered, answered}
use Rattle.client.specs.Work.{Worked, refused, fetches, aborted, answers, count_new, versions_there, any_at_last, last_questions, judge, walked, worked}
use Rattle.walk.specs.declared.walk.Stop.{Stop}
use Rattle.walk.specs.declared.walk.Stop.TheVariants.{LacksMeta, LacksNode, LacksVector, Refused, Aborts}
use Rattle.walk.specs.Walk.{Course, Going, Ended, Answered, is_answer, lack}
use Rattle.walk.specs.Stopped.{Waiting, stop_of, Stopped}
use Rattle.walk.specs.declared.operation.Operation.{Operation}
use Rattle.walk.specs.declared.operation.Operation.TheVariants.{Listing, Unknown}
use Rattle.walk.specs.Operation.{operation_of}
use Rattle.walk.specs.Laws.Operation.{not_unknown, lists_number}
use Rattle.walk.specs.Look.{Looks}
use Rattle.walk.specs.Found.{Roomy}
use Rattle.change.specs.declared.single.OneWrite.{OneWrite}
use Rattle.change.specs.declared.single.Single.{Single}
use Rattle.change.specs.Work.{Ready, Enters, Works}
use Rattle.change.specs.Single.{single_entries, WorksSingly}
use Rattle.steps.specs.declared.sizes.Sizes.{Sizes}
use Rattle.steps.specs.declared.outcome.Outcome.{Outcome}
use Rattle.steps.specs.Whole.{Address, client, whole, block, client_at}
use Rattle.steps.specs.Uses.{item_of}
use Rattle.steps.specs.Output.{with_pairs}
use Rattle.steps.specs.Steps.{Did as StepDid, refuse, abort, fetch, after_walk, work}
use Rattle.steps.proofs.Laws.Unlisted.{pairs_of, walk_pairs}
use Rattle.steps.proofs.Laws.There.{in_store_has}
use Rattle.kinds.specs.Parts.{StoreIn, stored_in}
use Rattle.kinds.specs.Laws.Parts.{client_lent}
use Rattle.kinds.specs.Items.{read_item}
use Rattle.kinds.specs.Judge.{of_client}
use Rattle.kinds.specs.Fits.{Known}
use Rattle.kinds.specs.Laws.Known.{work_known}
use Rattle.kinds.specs.Kinds.{Meets}
use Rattle.kinds.specs.Laws.Kinds.{meets_as, meets_refused}
use Rattle.kinds.specs.Fetch.{used_item, known_at, AllKnown, Checking, Fetching}
use Rattle.kinds.specs.Laws.Hand.{good_used_enter}
use Rattle.kinds.specs.Lack.{There}
use Rattle.engine.specs.Laws.Used.{stored_at, used_stored}
use Rattle.engine.specs.Work.{entering, WaitingClient, RoomForList, Leaves, NoPairs}
use Rattle.operations.specs.Object as O
use Rattle.client.specs.Sets as sets
use Rattle.steps.specs.declared.outcome.Outcome.TheVariants as outcome

pub answer_entered : (us : List ℕ) (l : List Entry) (s t v x : List ℕ) → 7223 ≤ length s / 8 → Did (used_enter us) s t → Did (enter_entries l) t v → Did (put_field 1 0) v x
    → Did (entering us l) s x
unfolding entering
answer_entered us l s t v x h p q r = did_three (used_enter us) (enter_entries l) (put_field 1 0) s t v x h (good_used_enter us) (good_entries l) p q r

-- nothing was written
pub seen_entered : (us s t x : List ℕ) → 7223 ≤ length s / 8 → Did (used_enter us) s t → Did (put_field 1 0) t x → Did (entering us []) s x
unfolding enter_entries nothing
seen_entered us s t x h p r = answer_entered us [] s t t x h p (did_nothing (enter_entries []) t refl) r

-- one write, or none
module _ (s t : List ℕ) where
  pub one_entered : (w : OneWrite) → 7223 ≤ length s / 8 → Did (enter_write w.number w.node) s t → Did (enter_entries (single_entries (Some w))) s t
  unfolding enter_entries nothing
  one_entered w h p = did_then (enter_write w.number w.node) nothing s t t h (good_write w.number w.node) p (did_nothing nothing t refl)

  pub none_entered : t ≡ s → Did (enter_entries (single_entries None)) s t
  unfolding enter_entries nothing
  none_entered e = rw e (did_nothing nothing s refl)

pub ruleset single_entered = (one_entered, none_entered)

entering_is : (us : List ℕ) (l : List Entry) (w : O.Writes) → l ≡ entered w → entering us l ≡ answered us w
unfolding entering answered enter_writes put_word
entering_is us l w e = rw e

-- ---- the walk of the part that is lent on
pub works_lent : (z : Sizes) (b : List ℕ) (c k : ℕ) (s : Course) (x₀ u₀ x u : List ℕ) → StoreIn z (length b) → c < z.clients → k ≡ client_at z c
    → Works z.slots (sets.held (mid_of (8 * k) (length b - 8 * k) b)) s x₀ u₀ x u → Works z.slots (of_client z (view b) c) s x₀ u₀ x u
unfolding sets.held
works_lent z b c k s x₀ u₀ x u l h e d = subst (λ (m : ClientWord → ℕ). Works z.slots m s x₀ u₀ x u) (client_lent z c k b h e l.room) d

pub waiting_lent : (z : Sizes) (b : List ℕ) (c k : ℕ) → StoreIn z (length b) → c < z.clients → k ≡ client_at z c → Waiting (of_client z (view b) c)
    → Waiting (sets.held (mid_of (8 * k) (length b - 8 * k) b))
unfolding sets.held
waiting_lent z b c k l h e d = subst Waiting (sym (client_lent z c k b h e l.room)) d

pub looks_lent : (z : Sizes) (b : List ℕ) (c k : ℕ) (s : Course) (u₀ u : List ℕ) (ps : Entries) → StoreIn z (length b) → c < z.clients → k ≡ client_at z c
    → Looks z.slots (sets.held (mid_of (8 * k) (length b - 8 * k) b)) s u₀ u ps → Looks z.slots (of_client z (view b) c) s u₀ u ps
unfolding sets.held
looks_lent z b c k s u₀ u ps l h e d = subst (λ (m : ClientWord → ℕ). Looks z.slots m s u₀ u ps) (client_lent z c k b h e l.room) d

pub room_lent : (z : Sizes) (b : List ℕ) (c k : ℕ) (f : List ℕ) → StoreIn z (length b) → c < z.clients → k ≡ client_at z c
    → Roomy (sets.held (mid_of (8 * k) (length b - 8 * k) b) op_value) f → Roomy (of_client z (view b) c op_value) f
unfolding sets.held
room_lent z b c k f l h e d = subst (λ (m : ClientWord → ℕ). Roomy (m op_value) f) (client_lent z c k b h e l.room) d

-- which operation it is
module _ (z : Sizes) (b : List ℕ) (c k : ℕ) (l : StoreIn z (length b)) (h : c < z.clients) (e : k ≡ client_at z c) (r : Operation) where
  pub operation_lent : r ≡ operation_of (sets.held (mid_of (8 * k) (length b - 8 * k) b) op_number) → r ≡ operation_of (of_client z (view b) c op_number)
  unfolding sets.held
  operation_lent d = subst (λ (m : ClientWord → ℕ). r ≡ operation_of (m op_number)) (client_lent z c k b h e l.room) d

  pub operation_so : operation_of (of_client z (view b) c op_number) ≡ r → operation_of (sets.held (mid_of (8 * k) (length b - 8 * k) b) op_number) ≡ r
  unfolding sets.held
  operation_so d = subst (λ (m : ClientWord → ℕ). operation_of (m op_number) ≡ r) (sym (client_lent z c k b h e l.room)) d

-- one that is none doesn't wait
pub none_unknown : {A : Type 0} (z : Sizes) (b : List ℕ) (c : ℕ) (r : Operation) → WaitingClient z b c → r ≡ operation_of (of_client z (view b) c op_number) → r ≡ Unknown → A
none_unknown z b c r w p q = absurd (not_unknown (of_client z (view b) c op_number) w.waiting.some w.waiting.known (sym p ∙ q))

pub singly_lent : (z : Sizes) (b : List ℕ) (c k : ℕ) (r : Result (Option Single) Stop) (u₀ u : List ℕ) → StoreIn z (length b) → c < z.clients → k ≡ client_at z c
    → WorksSingly z.slots (sets.held (mid_of (8 * k) (length b - 8 * k) b)) r u₀ u → WorksSingly z.slots (of_client z (view b) c) r u₀ u
unfolding sets.held
singly_lent z b c k r u₀ u l h e d = subst (λ (m : ClientWord → ℕ). WorksSingly z.slots m r u₀ u) (client_lent z c k b h e l.room) d

pub ruleset walk_lent = (works_lent, singly_lent, looks_lent, room_lent, waiting_lent, operation_lent, operation_so)

pub ready : Ready (replicate 681 0) (replicate 98 0)
ready = record { own_long = omega arith; own_none = refl; used_long = omega arith; used_none = refl }

-- ---- how the rule ends, by how the walk stopped
pub record Vector (s : ℕ) (W : Worked) : Type 0 where
  pub asks : O.Ask
  pub is : W ≡ fetches asks
  pub lacked : lack asks ≡ LacksVector s

pub record Answering (a b : ℕ) (W : Worked) : Type 0 where
  pub pairs : Entries
  pub writes : O.Writes
  pub is : W ≡ answers (a, b, pairs) writes

abbrev CameTo : Course → Worked → Type 0
CameTo Going W = ⊥
CameTo (Ended LacksMeta) W = W ≡ fetches (O.object O.meta)
CameTo (Ended (LacksNode n)) W = W ≡ fetches (O.object (O.node n))
CameTo (Ended (LacksVector s)) W = Vector s W
CameTo (Ended Refused) W = W ≡ refused
CameTo (Ended (Aborts y)) W = W ≡ aborted y
CameTo (Answered a b) W = Answering a b W

came_to : (W : Worked) → CameTo (stop_of W) W
came_to refused = refl
came_to (fetches (O.object O.meta)) = refl
came_to (fetches (O.object (O.node n))) = refl
came_to (fetches (O.object (O.flag n))) = record { asks = O.object (O.flag n); is = refl; lacked = refl }
came_to (fetches (O.vector s)) = record { asks = O.vector s; is = refl; lacked = refl }
came_to (fetches (O.fetched s)) = record { asks = O.fetched s; is = refl; lacked = refl }
came_to (aborted y) = refl
came_to (answers a w) = record { pairs = a.2; writes = w; is = refl }

-- a flag is fetched with its vector
lack_server : Stop → ℕ
lack_server (LacksVector x) = x
lack_server LacksMeta = 0
lack_server (LacksNode n) = 0
lack_server Refused = 0
lack_server (Aborts y) = 0

vector_same : (z : Sizes) (m : Address → ℕ) (c : ℕ) (us : List ℕ) (s : ℕ) (a : O.Ask) → lack a ≡ LacksVector s → fetch z m c us a ≡ fetch z m c us (O.vector s)
unfolding fetch lack_server
vector_same z m c us s (O.object O.meta) e = let y : ◌≡◌ {A = ℕ} 0 1 = cc in absurd (omega arith)
vector_same z m c us s (O.object (O.node n)) e = let y : ◌≡◌ {A = ℕ} 0 1 = cc in absurd (omega arith)
vector_same z m c us s (O.object (O.flag n)) e = let q : server_of n ≡ s = ap lack_server e in rw (← q)
vector_same z m c us s (O.vector x) e = let q : x ≡ s = ap lack_server e in rw (← q)
vector_same z m c us s (O.fetched x) e = let q : x ≡ s = ap lack_server e in rw (← q)

-- ---- what is fetched is in the store
never : {A : Type 0} (x y : ℕ) → x ≡ 0 → y ≡ 1 → x ≡ y → A
never x y p q e = absurd (omega arith)

abbrev tag : Worked → ℕ
tag refused = 0
tag (fetches a) = 1
tag (aborted y) = 0
tag (answers a w) = 0

asked_of : Worked → O.Ask → O.Ask
asked_of refused d = d
asked_of (fetches a) d = a
asked_of (aborted y) d = d
asked_of (answers a w) d = d

module _ (z : Sizes) (m : ClientWord → ℕ) where
  -- the last questions never fetch
  last_tag : (a : O.Ans) (w : O.Writes) → tag (last_questions z.slots m a w) ≡ 0
  last_tag a w = go (all_fit? w w) (ltb 48 (m writes_count + count_new m (entered w))) (versions_there m (entered w)) (any_at_last m (entered w))
    where
      go : (b c t d : Bool) → tag (cond (not b) (aborted 3) (cond c (aborted 4) (cond (not t) refused (cond d (aborted 8) (answers a w))))) ≡ 0
      go false c t d = refl
      go true true t d = refl
      go true false false d = refl
      go true false true true = refl
      go true false true false = refl

  sound_end : (e : End) (a : O.Ask) → judge z.slots m e ≡ fetches a → broken z.slots m a ≡ false
  unfolding asked_of
  sound_end (lacks x) a p = go (broken z.slots m x) refl
    where
      go : (b : Bool) → broken z.slots m x ≡ b → broken z.slots m a ≡ false
      go true q = let r : refused ≡ fetches a = rw q at p in never 0 1 refl refl (ap tag r)
      go false q = let r : fetches x ≡ fetches a = rw q at p in let y : x ≡ a = ap (λ (W : Worked). asked_of W x) r in rw (← y) q
  sound_end (aborts y) a p = never 0 1 refl refl (ap tag p)
  sound_end (gives x w) a p = never (tag (last_questions z.slots m x w)) 1 (last_tag x w) refl (ap tag p)

  sound_worked : (a : O.Ask) → worked z.slots m ≡ fetches a → broken z.slots m a ≡ false
  unfolding worked
  sound_worked a p = sound_end (walked z.slots m).how a p

  object_there : (o : O.Obj) → broken z.slots m (O.object o) ≡ false → object_in_store z.slots o ≡ true
  unfolding broken
  object_there o p = go (object_in_store z.slots o) refl
    where
      go : (b : Bool) → object_in_store z.slots o ≡ b → object_in_store z.slots o ≡ true
      go true q = q
      go false q = let r : true ≡ false = rw (broken, q) at p in let c : ◌≡◌ {A = ℕ} 0 1 = cc in absurd (omega arith)

  server_there : (s : ℕ) → bad_vector z.slots m s ≡ false → s < 8
  server_there s p =
      ltb-true s 8 (and_both (ltb s 8) (vector_fits m s) (not-false (ltb s 8 && vector_fits m s) p)).0

  home_there : (n : ℕ) → in_store z.slots n ≡ true → (server_of n < 8) × (slot_of n < z.slots)
  unfolding name_in_store
  home_there n h =
      let p = and_both (ltb (server_of n) 8) (ltb (slot_of n) z.slots) h in
      (ltb-true (server_of n) 8 p.0, ltb-true (slot_of n) z.slots p.1)

  pub named_there : (n : ℕ) → worked z.slots m ≡ fetches (O.object (O.node n)) → There z n × (server_of n < 8)
  named_there n p =
      let t = object_there (O.node n) (sound_worked (O.object (O.node n)) p) in
      let h = home_there n t in
      (record { named = t; slot = h.1; small = let a : n / 1024 < 8 = h.0 in omega arith }, h.0)

  pub vector_server : (s : ℕ) → Vector s (worked z.slots m) → s < 8
  unfolding broken lack_server
  vector_server s v = go v.asks v.lacked (sound_worked v.asks v.is)
    where
      go : (a : O.Ask) → lack a ≡ LacksVector s → broken z.slots m a ≡ false → s < 8
      go (O.object O.meta) e p = let c : ◌≡◌ {A = ℕ} 0 1 = cc in absurd (omega arith)
      go (O.object (O.node n)) e p = let c : ◌≡◌ {A = ℕ} 0 1 = cc in absurd (omega arith)
      go (O.object (O.flag n)) e p = let q : server_of n ≡ s = ap lack_server e in rw (← q) (home_there n (object_there (O.flag n) p)).0
      go (O.vector x) e p = let q : x ≡ s = ap lack_server e in rw (← q) (server_there x p)
      go (O.fetched x) e p = let q : x ≡ s = ap lack_server e in rw (← q) (server_there x p)

-- ---- the pairs of an answer
unanswered_none : (X : Worked) → is_answer (stop_of X) ≡ false → pairs_of X ≡ []
unanswered_none refused n = refl
unanswered_none (fetches a) n = refl
unanswered_none (aborted y) n = refl
unanswered_none (answers a w) n = let y : ◌≡◌ {A = ℕ} 0 1 = cc in absurd (omega arith)

-- what follows from any answer
of_answer : {A : Type 0} (X : Worked) → ((a : O.Ans) (w : O.Writes) → X ≡ answers a w → A) → is_answer (stop_of X) ≡ true → A
of_answer refused f n = absurd (false≢true n)
of_answer (fetches a) f n = absurd (false≢true n)
of_answer (aborted y) f n = absurd (false≢true n)
of_answer (answers a w) f n = f a w refl

answered_pairs : (X : Worked) (ps : Entries) → ((a : O.Ans) (w : O.Writes) → X ≡ answers a w → a.2 ≡ ps) → is_answer (stop_of X) ≡ true → pairs_of X ≡ ps
answered_pairs X ps f n = of_answer X (λ a w e. ap pairs_of e ∙ f a w e) n

-- ---- what was read, with the copies in use, is of the store
pub all_known : (z : Sizes) (w : List ℕ) (c : ℕ) → Known z w c → AllKnown z w c (walked z.slots (of_client z w c)).used
unfolding known_at read_item used_item item_of
all_known z w c k = record { known = λ i l. go i l (dec_lt i (count (of_client z w c) Reads)) }
  where
    us : List ℕ
    us = (walked z.slots (of_client z w c)).used

    go : (i : ℕ) → i < count (of_client z w c) Reads + length us → Dec (i < count (of_client z w c) Reads) → Has z.slots (object_of (known_at (of_client z w c) us i).number)
    go i l (yes h) = rw (known_at, lt-ltb i (count (of_client z w c) Reads) h) (k.known i h)
    go i l (no h) =
        let g : count (of_client z w c) Reads ≤ i = omega arith in
        rw (known_at, le-ltb i (count (of_client z w c) Reads) g)
        (in_store_has z.slots (get_or us (i - count (of_client z w c) Reads) 0)
        (stored_at z.slots us (i - count (of_client z w c) Reads) (used_stored z.slots (of_client z w c)) (omega arith)))

module _ (z : Sizes) (b : List ℕ) (c : ℕ) (hold : StoreIn z (length b)) (h : c < z.clients) (known : Known z (view b) c) (wait : Waiting (of_client z (view b) c)) (fit : fit_to_work z.slots (of_client z (view b) c) ≡ true) where
  abbrev W : Worked
  W = worked z.slots (of_client z (view b) c)

  abbrev Comes : Outcome → List ℕ → Type 0
  Comes o w' = Meets z (λ m. work z m c) (view b) o w'

  module _ (s : Course) (u : List ℕ) (k : Stopped z.slots (of_client z (view b) c) s u) where
    end : CameTo s W
    end = subst (λ (t : Course). CameTo t W) (sym k.stop) (came_to W)

    checking : (t : ℕ) → t < 8 → Checking z b c t u
    checking t l = record {
      holds = hold;
      client = h;
      server = l;
      in_use = k.in_use;
      reads = wait.reads;
      known = rw k.used (all_known z (view b) c known);
    }

    pub meta_checking : Fetching z b c u
    meta_checking = checking 0 (omega arith)

    -- what the step comes to
    work_is : work z (stored_in z (view b)) c ≡ after_walk z (stored_in z (view b)) c (used_in u) W
    unfolding work
    work_is = rw (fit, k.used)

    work_pairs : (work z (stored_in z (view b)) c).pairs ≡ pairs_of W
    work_pairs = ap (λ (d : StepDid). d.pairs) work_is ∙ walk_pairs z (stored_in z (view b)) c (used_in u) W

    pub none_written : is_answer s ≡ false → NoPairs z b c
    none_written n = work_pairs ∙ unanswered_none W (subst (λ (t : Course). is_answer t ≡ false) k.stop n)

    pub work_never : s ≡ Going → Comes (outcome.Refused 10) (view b)
    work_never e = absurd (subst (λ (t : Course). CameTo t W) e end)

  -- ---- a walk that ended before its answer
  module _ (s : Stop) (u : List ℕ) (k : Stopped z.slots (of_client z (view b) c) (Ended s) u) where
    ending : (t : Stop) → s ≡ t → CameTo (Ended t) W
    ending t e = subst (λ (t : Stop). CameTo (Ended t) W) e (end (Ended s) u k)

    pub node_checking : (n : ℕ) → s ≡ LacksNode n → Checking z b c (server_of n) u
    node_checking n e = checking (Ended s) u k (server_of n) (named_there z (of_client z (view b) c) n (ending (LacksNode n) e)).1

    pub node_there : (n : ℕ) → s ≡ LacksNode n → There z n
    node_there n e = (named_there z (of_client z (view b) c) n (ending (LacksNode n) e)).0

    pub vector_checking : (t : ℕ) → s ≡ LacksVector t → Checking z b c t u
    vector_checking t e = checking (Ended s) u k t (vector_server z (of_client z (view b) c) t (ending (LacksVector t) e))

    pub work_refused : s ≡ Refused → Meets z (λ m. work z m c) (view b) (outcome.Refused 10) (view b)
    work_refused e =
        let q : W ≡ refused = ending Refused e in
        meets_refused z (view b) 10 (λ m. work z m c) (sym (work_is (Ended s) u k ∙ rw q))

    module _ (o : Outcome) (w' : List ℕ) where
      pub work_aborts : (y : ℕ) → s ≡ Aborts y → Meets z (λ m. abort z m c y (used_in u)) (view b) o w' → Meets z (λ m. work z m c) (view b) o w'
      work_aborts y e d =
          let q : W ≡ aborted y = ending (Aborts y) e in
          meets_as z (view b) o w' (λ m. abort z m c y (used_in u)) (λ m. work z m c) (sym (work_is (Ended s) u k ∙ rw q)) d

      pub work_meta : s ≡ LacksMeta → Meets z (λ m. fetch z m c (used_in u) (O.object O.meta)) (view b) o w' → Meets z (λ m. work z m c) (view b) o w'
      work_meta e d =
          let q : W ≡ fetches (O.object O.meta) = ending LacksMeta e in
          meets_as z (view b) o w' (λ m. fetch z m c (used_in u) (O.object O.meta)) (λ m. work z m c) (sym (work_is (Ended s) u k ∙ rw q)) d

      pub work_node : (n : ℕ) → s ≡ LacksNode n → Meets z (λ m. fetch z m c (used_in u) (O.object (O.node n))) (view b) o w' → Meets z (λ m. work z m c) (view b) o w'
      work_node n e d =
          let q : W ≡ fetches (O.object (O.node n)) = ending (LacksNode n) e in
          meets_as z (view b) o w' (λ m. fetch z m c (used_in u) (O.object (O.node n))) (λ m. work z m c) (sym (work_is (Ended s) u k ∙ rw q)) d

      pub work_vector : (t : ℕ) → s ≡ LacksVector t → Meets z (λ m. fetch z m c (used_in u) (O.vector t)) (view b) o w' → Meets z (λ m. work z m c) (view b) o w'
      work_vector t e d =
          let v : Vector t W = ending (LacksVector t) e in
          let q : W ≡ fetches v.asks = v.is in
          meets_as z (view b) o w' (λ m. fetch z m c (used_in u) (O.vector t)) (λ m. work z m c)
          (sym (work_is (Ended s) u k ∙ rw q (vector_same z (stored_in z (view b)) c (used_in u) t v.asks v.lacked))) d

  -- ---- one that came to its answer: l are the entries of the write set that the code stores
  module _ (i j : ℕ) where
    pairs_written : (u : List ℕ) → Stopped z.slots (of_client z (view b) c) (Answered i j) u → (ps : Entries) → ((a : O.Ans) (w : O.Writes) → W ≡ answers a w → a.2 ≡ ps)
        → (work z (stored_in z (view b)) c).pairs ≡ ps
    pairs_written u k ps f = work_pairs (Answered i j) u k ∙ answered_pairs W ps f (subst (λ (t : Course). is_answer t ≡ true) k.stop refl)

    work_answers : (u : List ℕ) → Stopped z.slots (of_client z (view b) c) (Answered i j) u → (l : List Entry) (w' : List ℕ) → ((a : O.Ans) (w : O.Writes) → W ≡ answers a w → l ≡ entered w)
        → Does whole (block z) (in_part (client c) (entering (used_in u) l)) silent (view b) 0 w' → Meets z (λ m. work z m c) (view b) (outcome.Answered i j) w'
    unfolding in_part
    work_answers u k l w' f p =
        let answering : Answering i j W = end (Answered i j) u k in
        let a : O.Ans = (i, j, answering.pairs) in
        let q : W ≡ answers a answering.writes = answering.is in
        let r : entering (used_in u) l ≡ answered (used_in u) answering.writes = entering_is (used_in u) l answering.writes (f a answering.writes q) in
        let o : Outcome = outcome.Answered i j in
        meets_as z (view b) o w' (λ m. record { outcome = o; stores = in_part (client c) (entering (used_in u) l) m; pairs = answering.pairs }) (λ m. work z m c)
        (sym (work_is (Answered i j) u k ∙ rw (q, ← r))) (record { answer = refl; words = p.words })

    -- an operation that only reads
    pub look_answers : (u₀ u : List ℕ) (ps : Entries) → Looks z.slots (of_client z (view b) c) (Answered i j) u₀ u ps → (w' : List ℕ)
        → Does whole (block z) (in_part (client c) (entering (used_in u) [])) silent (view b) 0 w'
        → Meets z (λ m. work z m c) (view b) (outcome.Answered i j) w' × ((work z (stored_in z (view b)) c).pairs ≡ ps)
    unfolding entered
    look_answers u₀ u ps k w' p = (
      work_answers u k.stopped [] w' (λ a w q. rw (k.none a w q)) p,
      pairs_written u k.stopped ps k.pairs,
    )

    -- one that writes
    pub enters_answers : (u₀ u : List ℕ) (l : List Entry) → Enters z.slots (of_client z (view b) c) (Answered i j) l u₀ u → (w' : List ℕ)
        → Does whole (block z) (in_part (client c) (entering (used_in u) l)) silent (view b) 0 w' → Meets z (λ m. work z m c) (view b) (outcome.Answered i j) w' × NoPairs z b c
    enters_answers u₀ u l k w' p = (work_answers u k.stopped l w' k.own p, pairs_written u k.stopped [] k.unlisted)

    module _ (x₀ u₀ x u : List ℕ) (k : Works z.slots (of_client z (view b) c) (Answered i j) x₀ u₀ x u) where
      pub change_answers : (w' : List ℕ) → Does whole (block z) (in_part (client c) (entering (used_in u) (own_list x))) silent (view b) 0 w'
          → Meets z (λ m. work z m c) (view b) (outcome.Answered i j) w' × NoPairs z b c
      change_answers w' p = enters_answers u₀ u (own_list x) k.enters w' p

  -- with an answer the list of its writes fits
  pub change_fits : (s : Course) (x₀ u₀ x u : List ℕ) → Works z.slots (of_client z (view b) c) s x₀ u₀ x u → is_answer s ≡ true → OwnFits x
  change_fits s x₀ u₀ x u k n = of_answer W k.fits (subst (λ (t : Course). is_answer t ≡ true) k.enters.stopped.stop n)

  -- one that writes one object or none
  pub single_answers : (s : Single) (u₀ u : List ℕ) → Enters z.slots (of_client z (view b) c) (Answered s.answer.a s.answer.b) (single_entries s.write) u₀ u → (w' : List ℕ)
      → Does whole (block z) (in_part (client c) (entering (used_in u) (single_entries s.write))) silent (view b) 0 w'
      → Meets z (λ m. work z m c) (view b) (outcome.Answered s.answer.a s.answer.b) w' × NoPairs z b c
  single_answers s u₀ u k w' p = enters_answers s.answer.a s.answer.b u₀ u (single_entries s.write) k w' p

-- ---- what refusals 9 and 10 have judged
count_within : (t : ℕ) (m : ClientWord → ℕ) (s : Set) → numbers_fit t m s ≡ true → said_count m s ≤ limit s
unfolding numbers_fit
count_within t m s h = leb-true (said_count m s) (limit s) (and_both (leb (said_count m s) (limit s)) (all_below (count m s) (number_fits t m s)) h).0

pub fits_waiting : (t : ℕ) (m : ClientWord → ℕ) → fit_to_work t m ≡ true → (m op_number ≡ 0 → ⊥) → Waiting m
unfolding fit_to_work op_fits
fits_waiting t m h n =
    let a = and_both (op_fits t m) (numbers_fit t m Reads && numbers_fit t m Writes) h in
    let b = and_both (numbers_fit t m Reads) (numbers_fit t m Writes) a.1 in
    let op = cond (eqb (m op_number) 6) (migrate_fits t m) (cond (eqb (m op_number) 7) (list_fits m) true) in
    let p = and_both (leb (m op_number) 7) op a.0 in
    record {
      some = n;
      known = leb-true (m op_number) 7 p.0;
      moved = λ e. ltb-true (m op_server) 8 (and_both (in_store t (m op_key)) (ltb (m op_server) 8) (rw e at p.1)).1;
      listed = λ e.
          let f : list_fits m ≡ true = rw e at p.1 in
          let g = and_both (leb 1 (m op_value)) (leb (m op_value) 32) f in
          (leb-true 1 (m op_value) g.0, leb-true (m op_value) 32 g.1);
      reads = count_within t m Reads b.0;
      writes = count_within t m Writes b.1;
    }

module _ (z : Sizes) (b : List ℕ) (c : ℕ) (d : Bool) (e : d ≡ fit_to_work z.slots (of_client z (view b) c)) where
  pub work_unfit : not d ≡ true → Meets z (λ m. work z m c) (view b) (outcome.Refused 10) (view b) × NoPairs z b c
  unfolding work
  work_unfit t =
      let p : work z (stored_in z (view b)) c ≡ refuse 10 = rw (← e, not-true d t) in
      (meets_refused z (view b) 10 (λ m. work z m c) (sym p), ap (λ (d : StepDid). d.pairs) p)

  pub waiting_client : StoreIn z (length b) → c < z.clients → (of_client z (view b) c op_number ≡ 0 → ⊥) → not d ≡ false → WaitingClient z b c
  waiting_client hold h n t =
      let f = sym e ∙ not-false d t in
      record { store = hold; client = h; fits = f; sets = work_known z (view b) c f; waiting = fits_waiting z.slots (of_client z (view b) c) f n }

-- ---- the lent output
pub unlisted_output : (z : Sizes) (b : List ℕ) (c : ℕ) (out : List ℕ) → NoPairs z b c → Leaves z (λ m. work z m c) b out out
unfolding with_pairs
unlisted_output z b c out e = rw e

pub list_room : (z : Sizes) (b : List ℕ) (c : ℕ) (out : List ℕ) → RoomForList z b c out → operation_of (of_client z (view b) c op_number) ≡ Listing
    → 16 * of_client z (view b) c op_value ≤ length out
list_room z b c out r e = r (lists_number (of_client z (view b) c op_number) e)

pub listed_output : (z : Sizes) (b : List ℕ) (c : ℕ) (out out' : List ℕ) (ps : Entries) → (work z (stored_in z (view b)) c).pairs ≡ ps → view out' ≡ with_pairs ps (view out)
    → Leaves z (λ m. work z m c) b out out'
listed_output z b c out out' ps e p = rw e p
