-- The input byte by byte, so that it may come in pieces and be longer than any buffer: what has been read of it, what each byte prints, and
-- the memory's words after it.
use Rattle.std.specs.Prelude.{◌≡◌, ℕ, ◌+◌, ◌%◌, ◌^◌, ◌<◌, ◌≤◌, Bool, true, false, cond, List, [], ◌∷◌, ◌++◌, length, ◌==◌, is_some, unwrap_or, Option, Some, None}
use Rattle.memory.specs.Word.{view}
use Rattle.text.specs.declared.read.Line.{Line}
use Rattle.text.specs.declared.read.Line.TheVariants.{Sizes, Step}
use Rattle.text.specs.declared.read.Reader.{Reader}
use Rattle.text.specs.Reader.{start, next, finish}
use Rattle.text.specs.Print.{store_line, refused_line, bad_line, Printed}
use Rattle.steps.specs.declared.step.Step as step
use Rattle.steps.specs.Refusal.{open_refusal}
use Rattle.engine.specs.Open.{words_opened}
use Rattle.engine.specs.Step.{words_after}
use Rattle.show.specs.declared.Awaited.{Awaited}
use Rattle.show.specs.declared.Awaited.TheVariants.{FirstLine, StepLine, Nothing}
use Rattle.show.specs.declared.Show.{Show}
use Rattle.show.specs.declared.Shown.{Shown}
use Rattle.show.specs.Shown.{Effect, ends, before, sizes_of, step_of, room, line_of_step}

-- no byte of the line yet
abbrev pub awaits : Awaited → Show
awaits a = record { awaited = a; line = None }

abbrev pub ended : Show
ended = awaits Nothing

-- whether nothing more is awaited
abbrev pub nothing? : Awaited → Bool
nothing? FirstLine = false
nothing? (StepLine n) = false
nothing? Nothing = true

abbrev pub is_over : Show → Bool
is_over s = nothing? s.awaited

-- the line as far as it has been read
abbrev pub reader_of : Show → Reader
reader_of s = unwrap_or s.line start

-- one byte of the line more
abbrev pub with_byte : Show → ℕ → Show
with_byte s b = record { awaited = s.awaited; line = Some (next (reader_of s) b) }

-- how far some input brings it: what has then been read, the bytes printed for it, and the memory's words
pub record Progress : Type 0 where
  pub show : Show
  pub printed : List ℕ
  pub words : List ℕ

abbrev pub progress : Show → List ℕ → List ℕ → Progress
progress s l w = record { show = s; printed = l; words = w }

-- these bytes were printed before
abbrev pub behind : List ℕ → Progress → Progress
behind l t = progress t.show (l ++ t.printed) t.words

-- what comes of something on memory of so many bytes with these words
abbrev pub Showing : Type 0
Showing = ℕ → List ℕ → Progress

-- "prints `bad` and ends"
abbrev pub bad : Showing
bad bytes w = progress ended bad_line w

-- a first line of sizes
unfoldable pub opened : ℕ → ℕ → ℕ → Showing
opened servers slots clients bytes w =
    let z = sizes_of servers slots clients in
    let refusal = open_refusal bytes z in
    cond (refusal == 0) (progress (awaits (StepLine 0)) (store_line servers slots clients) (words_opened bytes z w))
    (cond (refusal == 2) (progress ended refused_line w) (bad bytes w))

-- a line with step n; the next number is that of 64 bits
unfoldable pub stepped : ℕ → step.Step → Showing
stepped n k bytes w = progress (awaits (StepLine ((n + 1) % 2 ^ 64))) (line_of_step bytes n w k) (words_after bytes w room k)

-- a line that says this, where sizes were awaited, and where step n was
unfoldable pub first_line : Option Line → Showing
first_line (Some (Sizes servers slots clients)) = opened servers slots clients
first_line (Some (Step kind client op key value server)) = bad
first_line None = bad

unfoldable pub later_line : ℕ → Option Line → Showing
later_line n (Some (Step kind client op key value server)) = stepped n (step_of kind client op key value server)
later_line n (Some (Sizes servers slots clients)) = bad
later_line n None = bad

-- nothing is printed, and it ends
abbrev pub no_more : Showing
no_more bytes w = progress ended [] w

-- the same, where this was awaited
unfoldable pub awaited_line : Awaited → Option Line → Showing
awaited_line FirstLine l = first_line l
awaited_line (StepLine n) l = later_line n l
awaited_line Nothing l = no_more

-- the line has ended
unfoldable pub line_ended : Show → Showing
line_ended s = awaited_line s.awaited (finish (reader_of s))

-- one byte: a newline (byte 10) ends the line
unfoldable pub next_byte : Show → ℕ → Showing
next_byte s b bytes w =
    cond (is_over s) (progress s [] w)
    (cond (b == 10) (line_ended s bytes w) (progress (with_byte s b) [] w))

-- the end of the input, where no line has begun: an empty input is bad
abbrev pub no_line : Awaited → Showing
no_line FirstLine = bad
no_line (StepLine n) = no_more
no_line Nothing = no_more

-- the end of the input: a last line without a newline counts
unfoldable pub finished : Show → Showing
finished s bytes w =
    let t = line_ended s bytes w in
    cond (is_over s) (progress s [] w)
    (cond (is_some s.line) (progress ended t.printed t.words) (no_line s.awaited bytes w))

-- some bytes, one after another
unfoldable pub fed : Show → List ℕ → Showing
fed s [] bytes w = progress s [] w
fed s (b ∷ bs) bytes w = let t = next_byte s b bytes w in behind t.printed (fed t.show bs bytes t.words)

-- some bytes, or the input's end if there are none
abbrev pub read_on : Show → List ℕ → Showing
read_on s [] = finished s
read_on s (b ∷ bs) = fed s (b ∷ bs)

-- pieces of the input, one after another; none of them is empty where the input has not ended
abbrev pub joined : List (List ℕ) → List ℕ
joined [] = []
joined (p ∷ ps) = p ++ joined ps

abbrev pub NoneEmpty : List (List ℕ) → Type 0
NoneEmpty [] = Unit {0}
NoneEmpty (p ∷ ps) = (0 < length p) × NoneEmpty ps

unfoldable pub in_pieces : Show → List (List ℕ) → Showing
in_pieces s [] bytes w = progress s [] w
in_pieces s (p ∷ ps) bytes w = let t = read_on s p bytes w in behind t.printed (in_pieces t.show ps bytes t.words)

-- what was printed and stored
abbrev pub effect_of : Progress → Effect
effect_of t = ends t.printed t.words

-- bytes, and then the input's end
unfoldable pub whole : Show → List ℕ → ℕ → List ℕ → Effect
whole s bs bytes w =
    let t = fed s bs bytes w in
    before t.printed (effect_of (finished t.show bytes t.words))

-- code came to what is said: what it printed stands in the buffer from index at on, and the buffer's other bytes are as before
pub record Came (what : Showing) (memory out : List ℕ) (at : ℕ) (r : Shown) (memory' out' : List ℕ) : Type 0 where
  pub state : r.show ≡ (what (length memory) (view memory)).show
  pub printed : Printed out at (what (length memory) (view memory)).printed out' r.at
  pub words : view memory' ≡ (what (length memory) (view memory)).words

-- code read at most so many bytes of an input, none at its end or where the read failed, and came to what they say. Which bytes is left free
pub record ReadsOn (most : ℕ) (s : Show) (memory out : List ℕ) (r : Shown) (memory' out' : List ℕ) : Type 0 where
  pub read : List ℕ
  pub few : length read ≤ most
  pub came : Came (read_on s read) memory out 0 r memory' out'
