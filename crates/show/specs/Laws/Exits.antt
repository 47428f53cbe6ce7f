-- The ways out of the code: what each returns, printed and stored is what is said, by the tests on the way.
use Rattle.std.specs.Prelude.{◌≡◌, ℕ, zero, suc, ◌+◌, ◌^◌, ◌<◌, List, [], ◌∷◌, ◌++◌, length, take, ◌≢◌, slice_index, Result, Ok, Err}
use Rattle.std.proofs.Math.Path.{refl, ap, subst}
use Rattle.std.proofs.Common.{sym, ◌∙◌, append-nil, add-one, arith, take-suc}
use borrow.Author.Tests.{ne_eqb}
use Rattle.memory.specs.Word.{view}
use Rattle.text.specs.Print.{store_line, refused_line, bad_line, Printed}
use Rattle.text.proofs.Laws.Printing.{then}
use Rattle.steps.specs.Refusal.{open_refusal}
use Rattle.steps.specs.declared.refusal.Refusal.{Refusal}
use Rattle.steps.specs.declared.refusal.Refusal.TheVariants.{NoHead, BadSizes, TooShort, UnknownKind, UnknownClient, UnknownOperation, UnknownServer, UnknownNode, Unfit, Damaged, BadCount, ShortOutput, UnfitServer, SlotTaken, LastMetadata}
use Rattle.steps.specs.Refused.{number_of, refused_by}
use Rattle.engine.specs.Open.{words_opened}
use Rattle.show.specs.declared.Awaited.TheVariants.{FirstLine, StepLine}
use Rattle.show.specs.declared.Show.{Show}
use Rattle.show.specs.declared.Shown.{Shown}
use Rattle.show.specs.Shown.{Effect, sizes_of, shown_in}
use Rattle.show.specs.Feed.{Progress, progress, behind, Showing, bad, awaits, ended, opened, next_byte, finished, fed, whole, Came}
use Rattle.show.specs.Laws.Whole.{whole_shown}
use Rattle.show.specs.Laws.Pieces.{fed_append}

-- ---- how a store is opened, by the number of its refusal
-- a number that refuses is not 0
number_above : (r : Refusal) → (number_of r ≢ 0)
number_above NoHead e = absurd (omega arith)
number_above BadSizes e = absurd (omega arith)
number_above TooShort e = absurd (omega arith)
number_above UnknownKind e = absurd (omega arith)
number_above UnknownClient e = absurd (omega arith)
number_above UnknownOperation e = absurd (omega arith)
number_above UnknownServer e = absurd (omega arith)
number_above UnknownNode e = absurd (omega arith)
number_above Unfit e = absurd (omega arith)
number_above Damaged e = absurd (omega arith)
number_above BadCount e = absurd (omega arith)
number_above ShortOutput e = absurd (omega arith)
number_above UnfitServer e = absurd (omega arith)
number_above SlotTaken e = absurd (omega arith)
number_above LastMetadata e = absurd (omega arith)

-- only sizes out of range are refused by 2
only_sizes : (r : Refusal) → (r ≢ BadSizes) → (number_of r ≢ 2)
only_sizes NoHead k e = absurd (omega arith)
only_sizes BadSizes k e = k refl
only_sizes TooShort k e = absurd (omega arith)
only_sizes UnknownKind k e = absurd (omega arith)
only_sizes UnknownClient k e = absurd (omega arith)
only_sizes UnknownOperation k e = absurd (omega arith)
only_sizes UnknownServer k e = absurd (omega arith)
only_sizes UnknownNode k e = absurd (omega arith)
only_sizes Unfit k e = absurd (omega arith)
only_sizes Damaged k e = absurd (omega arith)
only_sizes BadCount k e = absurd (omega arith)
only_sizes ShortOutput k e = absurd (omega arith)
only_sizes UnfitServer k e = absurd (omega arith)
only_sizes SlotTaken k e = absurd (omega arith)
only_sizes LastMetadata k e = absurd (omega arith)

-- ---- nothing printed
-- nothing is printed
pub nothing_printed : (out : List ℕ) (at : ℕ) → Printed out at [] out at
nothing_printed out at = record { bytes = refl; end = omega arith }

module _ (m out : List ℕ) (at : ℕ) (m' out' : List ℕ) where
  -- t is what is said, and the code comes to it
  came_to : (what : Showing) (t : Progress) → what (length m) (view m) ≡ t → (r : Shown) → r.show ≡ t.show → Printed out at t.printed out' r.at → view m' ≡ t.words
      → Came what m out at r m' out'
  came_to what t q r s p w =
      record {
        state = s ∙ sym (ap (λ (x : Progress). x.show) q);
        printed = subst (λ (x : Progress). Printed out at x.printed out' r.at) (sym q) p;
        words = w ∙ sym (ap (λ (x : Progress). x.words) q);
      }

  -- the same, said otherwise
  came_as : (what other : Showing) → what (length m) (view m) ≡ other (length m) (view m) → (r : Shown) → Came other m out at r m' out' → Came what m out at r m' out'
  came_as what other q r d = came_to what (other (length m) (view m)) q r d.state d.printed d.words

  -- ---- a first line of sizes, which r refuses, or 0 doesn't
  module _ (servers slots clients r : ℕ) (q : r ≡ open_refusal (length m) (sizes_of servers slots clients))
      (w : view m' ≡ words_opened (length m) (sizes_of servers slots clients) (view m)) where
    pub is_opened : (s : Show) (e : ℕ) → r ≡ 0 → s ≡ awaits (StepLine 0) → Printed out at (store_line servers slots clients) out' e
        → Came (opened servers slots clients) m out at (record { show = s; at = e }) m' out'
    unfolding opened
    is_opened s e z a p =
        came_to _ (progress (awaits (StepLine 0)) (store_line servers slots clients) (words_opened (length m) (sizes_of servers slots clients) (view m)))
        (rw (← q, z)) _ a p w

    words_stay : (r ≢ 0) → view m' ≡ view m
    unfolding words_opened
    words_stay n = w ∙ rw (← q, ne_eqb r 0 n)

    pub is_refused : (s : Show) (e : ℕ) → r ≡ 2 → s ≡ ended → Printed out at refused_line out' e
        → Came (opened servers slots clients) m out at (record { show = s; at = e }) m' out'
    unfolding opened
    is_refused s e z a p = came_to _ (progress ended refused_line (view m)) (rw (← q, z)) _ a p (words_stay (λ x. omega arith))

    pub is_too_large : (x : Shown) → (r ≢ 0) → (r ≢ 2) → x.show ≡ ended → Printed out at bad_line out' x.at
        → Came (opened servers slots clients) m out at x m' out'
    unfolding opened
    is_too_large x n k a p = came_to _ (progress ended bad_line (view m)) (rw (← q, ne_eqb r 0 n, ne_eqb r 2 k)) x a p (words_stay n)

  -- the same as the code says it
  module _ (servers slots clients : ℕ) (o : Result (Unit {0}) Refusal) (q : refused_by o ≡ open_refusal (length m) (sizes_of servers slots clients))
      (w : view m' ≡ words_opened (length m) (sizes_of servers slots clients) (view m)) where
    pub so_opened : (u : Unit {0}) (s : Show) (e : ℕ) → o ≡ Ok u → s ≡ awaits (StepLine 0) → Printed out at (store_line servers slots clients) out' e
        → Came (opened servers slots clients) m out at (record { show = s; at = e }) m' out'
    so_opened u s e z a p = is_opened servers slots clients (refused_by o) q w s e (ap refused_by z) a p

    module _ (r : Refusal) (z : o ≡ Err r) where
      number : refused_by o ≡ number_of r
      number = ap refused_by z

      pub so_refused : (s : Show) (e : ℕ) → r ≡ BadSizes → s ≡ ended → Printed out at refused_line out' e
          → Came (opened servers slots clients) m out at (record { show = s; at = e }) m' out'
      so_refused s e t a p = is_refused servers slots clients (refused_by o) q w s e (number ∙ ap number_of t) a p

      pub so_too_large : (x : Shown) → (r ≢ BadSizes) → x.show ≡ ended → Printed out at bad_line out' x.at
          → Came (opened servers slots clients) m out at x m' out'
      so_too_large x k a p =
          is_too_large servers slots clients (refused_by o) q w x (λ h. number_above r (sym number ∙ h)) (λ h. only_sizes r k (sym number ∙ h)) a p

-- ---- the memory stays
module _ (m out : List ℕ) (at : ℕ) where
  -- `bad` is printed
  pub nothing_but_bad : (out' : List ℕ) (x : Shown) → x.show ≡ ended → Printed out at bad_line out' x.at → Came bad m out at x m out'
  nothing_but_bad out' x e p = record { state = e; printed = p; words = refl }

  pub none_fed : (s : Show) → Came (fed s []) m out at (record { show = s; at = at }) m out
  unfolding fed
  none_fed s = record { state = refl; printed = nothing_printed out at; words = refl }

-- ---- some bytes, and then others
module _ (m out : List ℕ) (at : ℕ) (s : Show) (p q : List ℕ) (x y : Shown) (m₁ out₁ m₂ out₂ : List ℕ) (l : length m₁ ≡ length m) (d : Came (fed s p) m out at x m₁ out₁) where
  pub then_fed : Came (fed x.show q) m₁ out₁ x.at y m₂ out₂ → Came (fed s (p ++ q)) m out at y m₂ out₂
  then_fed e =
      let t = fed s p (length m) (view m) in
      let same : fed x.show q (length m₁) (view m₁) ≡ fed t.show q (length m) t.words = rw (d.state, l, d.words) in
      let u : Progress = fed t.show q (length m) t.words in
      came_to m out at m₂ out₂ (fed s (p ++ q)) (behind t.printed u) (fed_append p q s (length m) (view m)) y
      (e.state ∙ ap (λ (v : Progress). v.show) same)
      (then t.printed u.printed out out₁ out₂ at x.at y.at d.printed (subst (λ (v : Progress). Printed out₁ x.at v.printed out₂ y.at) same e.printed))
      (e.words ∙ ap (λ (v : Progress). v.words) same)

one_fed : (m out : List ℕ) (at : ℕ) (m' out' : List ℕ) (s : Show) (b : ℕ) (y : Shown) → Came (next_byte s b) m out at y m' out' → Came (fed s (b ∷ [])) m out at y m' out'
unfolding fed
one_fed m out at m' out' s b y d = came_as m out at m' out' (fed s (b ∷ [])) (next_byte s b) (rw append-nil) y d

-- a loop over the bytes: one more, and none left
module _ (m out : List ℕ) (at : ℕ) (s : Show) (bs : List ℕ) (i : ℕ) (x : Shown) (m₁ out₁ : List ℕ) (d : Came (fed s (take i bs)) m out at x m₁ out₁) where
  pub next_fed : (y : Shown) (m₂ out₂ : List ℕ) → length m₁ ≡ length m → i < length bs → Came (next_byte x.show (slice_index bs i)) m₁ out₁ x.at y m₂ out₂
      → Came (fed s (take (i + 1) bs)) m out at y m₂ out₂
  next_fed y m₂ out₂ l h e =
      rw (add-one i, take-suc bs i 0 h)
      (then_fed m out at s (take i bs) (slice_index bs i ∷ []) x y m₁ out₁ m₂ out₂ l d (one_fed m₁ out₁ x.at m₂ out₂ x.show (slice_index bs i) y e))

-- ---- a whole input
module _ (m out input : List ℕ) (s : Show) (x y : Shown) (m₁ out₁ m₂ out₂ : List ℕ) (start_is : s ≡ awaits FirstLine) (l : length m₁ ≡ length m)
    (d : Came (fed s input) m out 0 x m₁ out₁) (e : Came (finished x.show) m₁ out₁ x.at y m₂ out₂) (small : length input < 2 ^ 64) where
  ends_whole : whole (awaits FirstLine) input (length m) (view m) ≡ shown_in m input
  ends_whole = whole_shown (length m) (view m) input small

  fed_first : Progress
  fed_first = fed (awaits FirstLine) input (length m) (view m)

  same : finished x.show (length m₁) (view m₁) ≡ finished fed_first.show (length m) fed_first.words
  unfolding fed_first
  same = rw (d.state, l, d.words, start_is)

  pub all_printed : Printed out 0 (shown_in m input).printed out₂ y.at
  unfolding fed_first whole
  all_printed =
      let p : Printed out 0 fed_first.printed out₁ x.at = rw start_is at d.printed in
      let q = subst (λ (t : Progress). Printed out₁ x.at t.printed out₂ y.at) same e.printed in
      subst (λ (f : Effect). Printed out 0 f.printed out₂ y.at) ends_whole (then _ _ out out₁ out₂ 0 x.at y.at p q)

  pub all_words : view m₂ ≡ (shown_in m input).words
  unfolding fed_first whole
  all_words = e.words ∙ ap (λ (t : Progress). t.words) same ∙ ap (λ (f : Effect). f.words) ends_whole
