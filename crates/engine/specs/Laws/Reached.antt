-- A store that was reached: its head names its sizes, so a step on its words is the step of the rules on what they show.
use Rattle.std.specs.Prelude.{◌≡◌, ℕ, ◌/◌, ◌≤◌, ◌<◌, replicate}
use Rattle.std.proofs.Math.Path.{ap, sym, subst}
use Rattle.std.proofs.Common.{◌∙◌, arith}
use mathlib.Core.List.{List, [], ◌∷◌, ◌++◌}
use Rattle.std.proofs.Math.ListN.{length, get_or}
use Rattle.std.proofs.lemmas.List.Edits.{sets}
use Rattle.std.proofs.Math.Seq.{length-sets}
use Rattle.memory.specs.Word.{view}
use Rattle.memory.proofs.Laws.Word.{view_length}
use Rattle.layout.specs.Block.{size, In, offset}
use Rattle.layout.specs.Space.{at, Valid, changed, stored}
use Rattle.layout.proofs.Laws.Space.{mem_at, mem_stored, length_stored}
use Rattle.steps.specs.declared.sizes.Sizes.{Sizes}
use Rattle.steps.specs.declared.step.Step.{Step}
use Rattle.steps.specs.declared.outcome.Outcome.{Outcome}
use Rattle.steps.specs.Whole.{Address, head, whole, block, words_for}
use Rattle.steps.specs.Refusal.{open_refusal}
use Rattle.steps.specs.Output.{with_pairs}
use Rattle.steps.specs.Steps.{Did, step}
use Rattle.steps.specs.Run.{first_stores, opened}
use Rattle.steps.specs.Taken.{Words, Taken, came_to, LeadsBy, Leads}
use Rattle.steps.proofs.Laws.Taken.{leads_on}
use Rattle.kinds.specs.Parts.{StoreIn, head_sizes, stored_in}
use Rattle.kinds.specs.Laws.Refusal.{none_holds}
use Rattle.demand.proofs.Laws.Inside.{step_lies}
use Rattle.demand.proofs.Laws.Opened.{opened_head}
use Rattle.engine.specs.Open.{new_words, words_opened}
use Rattle.engine.specs.Laws.Open.{new_store}
use Rattle.engine.specs.Step.{result_of, outcome_of, words_after, output_after}
use Rattle.engine.specs.Laws.Step.{Stands}
use Rattle.engine.specs.Reached.{Reached, GoesOn}

-- memory of n bytes with the words w, as a store of sizes z
module _ (z : Sizes) (n : ℕ) (ok : open_refusal n z ≡ 0) where
  holds : StoreIn z n
  holds = none_holds n z (sym ok)

  pub record At (h : List Taken) (w : List ℕ) : Type 0 where
    pub long : n / 8 ≤ length w
    pub way : Leads z (opened z) h (stored_in z w)

  -- ---- the sizes in the head
  led_head : (h : List Taken) (m m' : Address → ℕ) → Leads z m h m' → (i : ℕ) → m' (head i) ≡ m (head i)
  unfolding LeadsBy
  led_head [] m m' p i = ap (λ (u : Address → ℕ). u (head i)) p
  led_head (t ∷ h) m m' p i =
      let room = t.room in
      led_head h (changed whole m (step z t.step room m).stores) m' p.3 i ∙ (step_lies z holds.allowed t.step m room).headless m i

  head_valid : (i : ℕ) → i < 8 → Valid whole (block z) (head i)
  unfolding Valid In
  head_valid i l = l

  head_at : (w : List ℕ) (i : ℕ) → i < 8 → stored_in z w (head i) ≡ get_or w i 0
  unfolding at offset
  head_at w i l = mem_at whole (block z) w (head i) (head_valid i l)

  sizes_are : (h : List Taken) (w : List ℕ) → At h w → head_sizes w ≡ z
  unfolding head_sizes
  sizes_are h w a =
      let p = word 0 (omega arith) ∙ (opened_head z).0 in
      let q = word 1 (omega arith) ∙ (opened_head z).1 in
      let r = word 2 (omega arith) ∙ (opened_head z).2 in
      rw (p, q, r)
    where
      word : (i : ℕ) → i < 8 → get_or w i 0 ≡ opened z (head i)
      word i l = sym (head_at w i l) ∙ led_head h (opened z) (stored_in z w) a.way i

  -- ---- a new store
  new_length : (w : List ℕ) → length (new_words z w) ≡ length w
  unfolding new_words
  new_length w = length_stored whole (block z) (first_stores z) (sets w 0 (replicate (words_for z) 0)) ∙ length-sets w 0 (replicate (words_for z) 0)

  pub new_at : (w : List ℕ) → n / 8 ≤ length w → At [] (words_opened n z w)
  unfolding LeadsBy words_for words_opened
  new_at w l = rw ok (record { long = rw (new_length w) l; way = new_store z w holds.allowed (omega (arith, holds.room)) })

  -- ---- one step, lent an output of so many bytes
  module _ (h : List Taken) (w : List ℕ) (a : At h w) (k : Step) (room : ℕ) where
    result_is : result_of n w room k ≡ step z k room (stored_in z w)
    unfolding result_of
    result_is = rw (sizes_are h w a, ok)

    outcome_is : outcome_of n w room k ≡ (step z k room (stored_in z w)).outcome
    unfolding outcome_of
    outcome_is = ap (λ (d : Did). d.outcome) result_is

    words_are : words_after n w room k ≡ stored whole (block z) w (step z k room (stored_in z w)).stores
    unfolding words_after
    words_are = rw (result_is, sizes_are h w a)

    output_is : (out : List ℕ) → output_after n w room k out ≡ with_pairs (step z k room (stored_in z w)).pairs out
    unfolding output_after
    output_is out = ap (λ (d : Did). with_pairs d.pairs out) result_is

    fits : size (block z) ≤ length w
    unfolding words_for
    fits = omega (arith, holds.room, a.long)

    memory : stored_in z (words_after n w room k) ≡ changed whole (stored_in z w) (step z k room (stored_in z w)).stores
    memory = ap (stored_in z) words_are ∙ mem_stored whole (block z) (step z k room (stored_in z w)).stores w fits (step_lies z holds.allowed k (stored_in z w) room).valid

    pub next_at : (lent left : List ℕ) → Words k → left ≡ output_after n w room k lent → At (h ++ came_to k room lent (outcome_of n w room k) left ∷ []) (words_after n w room k)
    unfolding LeadsBy
    next_at lent left words out = record {
      long = subst (λ (u : List ℕ). n / 8 ≤ length u) (sym words_are) (rw (length_stored whole (block z) (step z k room (stored_in z w)).stores w) a.long);
      way = leads_on z h (came_to k room lent (outcome_of n w room k) left ∷ []) (opened z) (stored_in z w) (stored_in z (words_after n w room k)) a.way
          (words, outcome_is, out ∙ output_is lent, memory);
    }

-- ---- bytes
whole_words : (b : List ℕ) → length b / 8 ≤ length (view b)
whole_words b = omega (arith, view_length b)

pub of_bytes : (z : Sizes) (h : List Taken) (b : List ℕ) (r : Reached z h b) → At z (length b) r.accepted h (view b)
of_bytes z h b r = record { long = whole_words b; way = r.way }

pub as_bytes : (z : Sizes) (n : ℕ) (ok : open_refusal n z ≡ 0) (h : List Taken) (w b : List ℕ) → length b ≡ n → view b ≡ w → At z n ok h w → Reached z h b
as_bytes z n ok h w b e q a = record { accepted = rw e ok; way = rw q a.way }

pub new_reached : (z : Sizes) (b b' : List ℕ) → 0 ≡ open_refusal (length b) z → length b' ≡ length b → view b' ≡ words_opened (length b) z (view b) → Reached z [] b'
new_reached z b b' none e q = let ok = sym none in as_bytes z (length b) ok [] (words_opened (length b) z (view b)) b' e q (new_at z (length b) ok (view b) (whole_words b))

pub step_goes_on : (b b' lent left : List ℕ) (k : Step) (o : Outcome) → Words k → length b' ≡ length b → Stands b lent k o b' left
    → GoesOn b (came_to k (length lent) (view lent) o (view left) ∷ []) b'
unfolding GoesOn
step_goes_on b b' lent left k o words e s z h r =
    let room = length lent in
    let t = came_to k room (view lent) (outcome_of (length b) (view b) room k) (view left) in
    rw s.outcome (as_bytes z (length b) r.accepted (h ++ t ∷ []) (words_after (length b) (view b) room k) b' e s.words
    (next_at z (length b) r.accepted h (view b) (of_bytes z h b r) k room (view lent) (view left) words s.output))

-- ---- ways out of the code: what a call ensures besides follows from its first two clauses
module _ (b b' : List ℕ) where
  pub steps : (lent left : List ℕ) (k : Step) (o : Outcome) → Words k → length b' ≡ length b → Stands b lent k o b' left
      → (o ≡ outcome_of (length b) (view b) (length lent) k)
      × ((view b' ≡ words_after (length b) (view b) (length lent) k)
      × ((view left ≡ output_after (length b) (view b) (length lent) k (view lent)) × GoesOn b (came_to k (length lent) (view lent) o (view left) ∷ []) b'))
  steps lent left k o words e s = (s.outcome, (s.words, (s.output, step_goes_on b b' lent left k o words e s)))
