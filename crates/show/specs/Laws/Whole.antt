-- An input fed byte by byte comes to what `Shown` says of it (`whole_shown`).
use Rattle.std.specs.Prelude.{◌≡◌, ℕ, ◌+◌, ◌^◌, ◌<◌, ◌≤◌, Bool, true, false, ◌⊎◌, List, [], ◌∷◌, ◌++◌, map, length, ◌==◌, ◌≢◌, unwrap_or, Option, Some, None}
use Rattle.std.proofs.Math.Path.{refl, sym, ap}
use Rattle.std.proofs.Common.{◌∙◌, inl, inr, mod-eq_of_lt, arith, eqb-true, ne_eqb}
use mathlib.Core.List.{append_assoc, append-nil}
use Rattle.std.proofs.lemmas.Bool.{eqb-false}
use Rattle.std.proofs.Math.ListN.{length-append}
use Rattle.base.proofs.Laws.Test.{bool_cases}
use Rattle.text.specs.declared.read.Line.{Line}
use Rattle.text.specs.declared.read.Line.TheVariants.{Sizes, Step}
use Rattle.text.specs.declared.read.Reader.{Reader}
use Rattle.text.specs.Line.{onto_first, line_of}
use Rattle.text.specs.Reader.{start, next, after}
use Rattle.text.proofs.Laws.Reads.{reads}
use Rattle.steps.specs.Refusal.{open_refusal}
use Rattle.engine.specs.Open.{words_opened}
use Rattle.engine.specs.Step.{words_after}
use Rattle.show.specs.declared.Awaited.{Awaited}
use Rattle.show.specs.declared.Awaited.TheVariants.{FirstLine, StepLine, Nothing}
use Rattle.show.specs.declared.Show.{Show}
use Rattle.show.specs.Shown.{Effect, ends, before, lines, sizes_of, step_of, steps_shown, store_shown, lines_shown, shown}
use Rattle.show.specs.Feed.{Progress, progress, awaits, ended, opened, stepped, first_line, later_line, awaited_line, line_ended, next_byte, finished, fed, whole}

-- ---- a line that has begun: bytes without a newline
abbrev Unbroken : List ℕ → Type 0
Unbroken [] = Unit {0}
Unbroken (b ∷ p) = (b ≢ 10) × Unbroken p

one_more : (p : List ℕ) (b : ℕ) → Unbroken p → (b ≢ 10) → Unbroken (p ++ (b ∷ []))
one_more [] b u d = (d, tt)
one_more (c ∷ p) b u d = (u.0, one_more p b u.1 d)

line_first : (p bs : List ℕ) → Unbroken p → lines (p ++ (10 ∷ bs)) ≡ p ∷ lines bs
unfolding lines
line_first [] bs u = refl
line_first (c ∷ p) bs u = rw (ne_eqb c 10 u.0, line_first p bs u.1)

line_last : (b : ℕ) (p : List ℕ) → Unbroken (b ∷ p) → lines (b ∷ p) ≡ (b ∷ p) ∷ []
unfolding lines
line_last b [] u = rw (ne_eqb b 10 u.0)
line_last b (c ∷ p) u = rw (ne_eqb b 10 u.0) (ap (onto_first b) (line_last c p u.1))

after_more : (p : List ℕ) (r : Reader) (b : ℕ) → after r (p ++ (b ∷ [])) ≡ next (after r p) b
unfolding after
after_more [] r b = refl
after_more (c ∷ p) r b = after_more p (next r c) b

-- ---- on memory of so many bytes
module _ (bytes : ℕ) where
  -- a byte, and then the others
  whole_cons : (w : List ℕ) (s : Show) (b : ℕ) (bs : List ℕ)
      → whole s (b ∷ bs) bytes w ≡ (let t = next_byte s b bytes w in before t.printed (whole t.show bs bytes t.words))
  unfolding whole fed
  whole_cons w s b bs = rw append_assoc

  -- nothing is read after the end
  pub nothing_more : (s : Show) (bs w : List ℕ) → s.awaited ≡ Nothing → whole s bs bytes w ≡ ends [] w
  unfolding whole fed finished next_byte
  nothing_more s [] w z = rw z
  nothing_more s (b ∷ bs) w z =
      let q : next_byte s b bytes w ≡ progress s [] w = rw z in
      whole_cons w s b bs ∙ ap (λ (t : Progress). before t.printed (whole t.show bs bytes t.words)) q ∙ nothing_more s bs w z

  -- the first line is awaited, or another one
  abbrev awaited_of : Bool → ℕ → Awaited
  awaited_of true n = FirstLine
  awaited_of false n = StepLine n

  abbrev rest : Bool → ℕ → List ℕ → List (Option Line) → Effect
  rest true n w ls = lines_shown bytes w ls
  rest false n w ls = steps_shown bytes n w ls

  abbrev said : Bool → ℕ → List ℕ → Option Line → Progress
  said true n w l = first_line l bytes w
  said false n w l = later_line n l bytes w

  -- one line, and what K makes of those that follow
  module _ (K : List ℕ → Show → Effect) (ls : List (Option Line)) (n : ℕ) (small : n + 1 < 2 ^ 64)
      (over : (v : List ℕ) → K v ended ≡ ends [] v) (on : (m : ℕ) (v : List ℕ) → m ≤ n + 1 → K v (awaits (StepLine m)) ≡ steps_shown bytes m v ls) where
    abbrev with_rest : Progress → Effect
    with_rest t = before t.printed (K t.words t.show)

    by_sizes : (w : List ℕ) (a b c : ℕ) → with_rest (opened a b c bytes w) ≡ store_shown bytes w a b c ls
    unfolding opened store_shown
    by_sizes w a b c = go (bool_cases (open_refusal bytes (sizes_of a b c) == 0)) (bool_cases (open_refusal bytes (sizes_of a b c) == 2))
      where
        go : ((open_refusal bytes (sizes_of a b c) == 0) ≡ true) ⊎ ((open_refusal bytes (sizes_of a b c) == 0) ≡ false)
            → ((open_refusal bytes (sizes_of a b c) == 2) ≡ true) ⊎ ((open_refusal bytes (sizes_of a b c) == 2) ≡ false)
            → with_rest (opened a b c bytes w) ≡ store_shown bytes w a b c ls
        go (inl p) q = rw (p, on 0 (words_opened bytes (sizes_of a b c) w) (omega arith))
        go (inr p) (inl q) = rw (p, q, over w)
        go (inr p) (inr q) = rw (p, q, over w)

    by_line : (f : Bool) (w : List ℕ) (l : Option Line) → with_rest (said f n w l) ≡ rest f n w (l ∷ ls)
    unfolding first_line later_line lines_shown steps_shown stepped
    by_line true w (Some (Sizes a b c)) = by_sizes w a b c
    by_line true w (Some (Step a b c d e g)) = rw (over w)
    by_line true w None = rw (over w)
    by_line false w (Some (Sizes a b c)) = rw (over w)
    by_line false w (Some (Step a b c d e g)) = rw (mod-eq_of_lt small, on (n + 1) (words_after bytes w 512 (step_of a b c d e g)) (omega arith))
    by_line false w None = rw (over w)

  -- a line of which p has been read
  abbrev begun : List ℕ → Option Reader
  begun [] = None
  begun (b ∷ p) = Some (after start (b ∷ p))

  abbrev reading : Bool → ℕ → List ℕ → Show
  reading f n p = record { awaited = awaited_of f n; line = begun p }

  read_so_far : (p : List ℕ) → unwrap_or (begun p) start ≡ after start p
  unfolding after
  read_so_far [] = refl
  read_so_far (b ∷ p) = refl

  newline : (f : Bool) (n : ℕ) (w p : List ℕ) → next_byte (reading f n p) 10 bytes w ≡ said f n w (line_of p)
  unfolding next_byte line_ended awaited_line
  newline true n w p = rw (read_so_far p, reads p)
  newline false n w p = rw (read_so_far p, reads p)

  one_byte_more : (p : List ℕ) (b : ℕ) → ◌≡◌ {A = Option Reader} (Some (next (unwrap_or (begun p) start) b)) (begun (p ++ (b ∷ [])))
  unfolding after
  one_byte_more [] b = refl
  one_byte_more (c ∷ p) b = ap (λ (r : Reader). Some r) (sym (after_more (c ∷ p) start b))

  other_byte : (f : Bool) (n : ℕ) (w p : List ℕ) (b : ℕ) → (b ≢ 10) → next_byte (reading f n p) b bytes w ≡ progress (reading f n (p ++ (b ∷ []))) [] w
  unfolding next_byte
  other_byte true n w p b d = rw (ne_eqb b 10 d, one_byte_more p b)
  other_byte false n w p b d = rw (ne_eqb b 10 d, one_byte_more p b)

  at_end : (f : Bool) (n : ℕ) (w : List ℕ) (b : ℕ) (p : List ℕ)
      → whole (reading f n (b ∷ p)) [] bytes w ≡ (let t = said f n w (line_of (b ∷ p)) in before t.printed (ends [] t.words))
  unfolding whole fed finished line_ended awaited_line
  at_end true n w b p = rw (reads (b ∷ p), append-nil)
  at_end false n w b p = rw (reads (b ∷ p), append-nil)

  -- the lines that are left, the first of which begins with p
  abbrev lines_left : Bool → ℕ → List ℕ → List ℕ → Effect
  lines_left f n w bs = rest f n w (map line_of (lines bs))

  abbrev Going : List ℕ → Type 0
  Going bs = (p : List ℕ) (f : Bool) (n : ℕ) (w : List ℕ) → Unbroken p → n + length (p ++ bs) < 2 ^ 64 → whole (reading f n p) bs bytes w ≡ lines_left f n w (p ++ bs)

  no_line : (f : Bool) (n : ℕ) (w : List ℕ) → whole (reading f n []) [] bytes w ≡ lines_left f n w []
  unfolding lines lines_shown steps_shown whole fed finished after
  no_line true n w = refl
  no_line false n w = refl

  goes_on : (bs : List ℕ) → Going bs
  unfolding after steps_shown
  goes_on [] [] f n w u h = no_line f n w
  goes_on [] (b ∷ p) f n w u h =
      at_end f n w b p
      ∙ by_line (λ v s. ends [] v) [] n (omega (arith, length-append (b ∷ p) [])) (λ v. refl) (λ m v l. refl) f w (line_of (b ∷ p))
      ∙ sym (ap (lines_left f n w) (append-nil (b ∷ p)) ∙ ap (λ (ls : List (List ℕ)). rest f n w (map line_of ls)) (line_last b p u))
  goes_on (b ∷ bs) p f n w u h = whole_cons w (reading f n p) b bs ∙ go (goes_on bs) (bool_cases (b == 10))
    where
      then_rest : Progress → Effect
      then_rest t = before t.printed (whole t.show bs bytes t.words)

      go : Going bs → ((b == 10) ≡ true) ⊎ ((b == 10) ≡ false) → then_rest (next_byte (reading f n p) b bytes w) ≡ lines_left f n w (p ++ (b ∷ bs))
      go more (inl e) =
          let d : b ≡ 10 = eqb-true b 10 e in
          ap then_rest (ap (λ (x : ℕ). next_byte (reading f n p) x bytes w) d ∙ newline f n w p)
          ∙ by_line (λ v s. whole s bs bytes v) (map line_of (lines bs)) n (omega (arith, length-append p (b ∷ bs))) (λ v. nothing_more ended bs v refl)
          (λ m v l. more [] false m v tt (omega (arith, length-append p (b ∷ bs)))) f w (line_of p)
          ∙ sym (ap (λ (x : ℕ). lines_left f n w (p ++ (x ∷ bs))) d ∙ ap (λ (ls : List (List ℕ)). rest f n w (map line_of ls)) (line_first p bs u))
      go more (inr e) =
          let d : b ≡ 10 → ⊥ = eqb-false b 10 e in
          ap then_rest (other_byte f n w p b d)
          ∙ more (p ++ (b ∷ [])) f n w (one_more p b u d) (rw append_assoc h)
          ∙ ap (lines_left f n w) (append_assoc p (b ∷ []) bs)

-- the input fed byte by byte comes to what it says
pub whole_shown : (bytes : ℕ) (w bs : List ℕ) → length bs < 2 ^ 64 → whole (awaits FirstLine) bs bytes w ≡ shown bytes w bs
unfolding shown after
whole_shown bytes w bs h = goes_on bytes bs [] true 0 w tt (omega arith)
