-- "Program `stepshow` reads the sizes (servers, slots, clients), then a step a line": what it prints, and the memory's words afterwards,
-- from the whole input and the memory lent.
use Rattle.std.specs.Prelude.{ℕ, ◌+◌, cond, List, [], ◌∷◌, ◌++◌, map, length, replicate, ◌==◌, Option, Some, None}
use Rattle.memory.specs.Word.{view}
use Rattle.text.specs.declared.read.Line.{Line}
use Rattle.text.specs.declared.read.Line.TheVariants.{Sizes, Step}
use Rattle.text.specs.Line.{onto_first, line_of}
use Rattle.text.specs.Print.{step_line, store_line, refused_line, bad_line}
use Rattle.steps.specs.declared.sizes.Sizes as sizes
use Rattle.steps.specs.declared.step.Step as step
use Rattle.steps.specs.Outcome.{line}
use Rattle.steps.specs.Refusal.{open_refusal}
use Rattle.engine.specs.Open.{words_opened}
use Rattle.engine.specs.Step.{outcome_of, words_after}

-- what an input comes to: the bytes printed, and the memory's words afterwards
pub record Effect : Type 0 where
  pub printed : List ℕ
  pub words : List ℕ

-- this line, and the end
abbrev pub ends : List ℕ → List ℕ → Effect
ends l w = record { printed = l; words = w }

-- this line, and then the others
abbrev pub before : List ℕ → Effect → Effect
before l e = record { printed = l ++ e.printed; words = e.words }

-- the input's lines: a newline (byte 10) ends a line, and a last line without one counts
unfoldable pub lines : List ℕ → List (List ℕ)
lines [] = []
lines (b ∷ bs) = cond (b == 10) ([] ∷ lines bs) (onto_first b (lines bs))

abbrev pub sizes_of : ℕ → ℕ → ℕ → sizes.Sizes
sizes_of servers slots clients = record { servers = servers; slots = slots; clients = clients }

abbrev pub step_of : ℕ → ℕ → ℕ → ℕ → ℕ → ℕ → step.Step
step_of kind client op key value server = record { kind = kind; client = client; op = op; key = key; value = value; server = server }

-- "`stepshow` one of 512 bytes": the output that is lent to every step. What a list writes there is not printed
abbrev pub room : ℕ
room = 512

-- on memory of so many bytes
module _ (bytes : ℕ) where
  -- "Fields: step from 0, outcome, a, b."
  abbrev pub line_of_step : ℕ → List ℕ → step.Step → List ℕ
  line_of_step n w k = let o = line (outcome_of bytes w room k) in step_line n o.outcome o.a o.b

  -- "then a step a line": from step n on; "any other .. prints `bad` and ends"
  unfoldable pub steps_shown : ℕ → List ℕ → List (Option Line) → Effect
  steps_shown n w [] = ends [] w
  steps_shown n w (Some (Step kind client op key value server) ∷ ls) =
      let k = step_of kind client op key value server in
      before (line_of_step n w k) (steps_shown (n + 1) (words_after bytes w room k) ls)
  steps_shown n w (Some (Sizes servers slots clients) ∷ ls) = ends bad_line w
  steps_shown n w (None ∷ ls) = ends bad_line w

  -- "Accepted sizes come first."; "Sizes refused by 2 print `store refused 2` and end it."; "allowed sizes beyond the program's buffer, prints
  -- `bad` and ends"
  unfoldable pub store_shown : List ℕ → ℕ → ℕ → ℕ → List (Option Line) → Effect
  store_shown w servers slots clients ls =
      let z = sizes_of servers slots clients in
      let refusal = open_refusal bytes z in
      cond (refusal == 0) (before (store_line servers slots clients) (steps_shown 0 (words_opened bytes z w) ls))
      (cond (refusal == 2) (ends refused_line w) (ends bad_line w))

  -- "reads the sizes .., then a step a line"; "an empty input .. prints `bad` and ends"
  unfoldable pub lines_shown : List ℕ → List (Option Line) → Effect
  lines_shown w [] = ends bad_line w
  lines_shown w (Some (Sizes servers slots clients) ∷ ls) = store_shown w servers slots clients ls
  lines_shown w (Some (Step kind client op key value server) ∷ ls) = ends bad_line w
  lines_shown w (None ∷ ls) = ends bad_line w

-- on memory of so many bytes with these words
unfoldable pub shown : ℕ → List ℕ → List ℕ → Effect
shown bytes w input = lines_shown bytes w (map line_of (lines input))

-- on memory that holds these bytes
abbrev pub shown_in : List ℕ → List ℕ → Effect
shown_in memory input = shown (length memory) (view memory) input

-- memory that nothing was stored in yet
unfoldable pub zeros : ℕ → List ℕ
zeros n = replicate n 0
