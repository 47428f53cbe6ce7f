-- Inputs, and what they print by the definitions.
use Rattle.std.specs.Prelude.{◌≡◌, ℕ, List, [], ◌∷◌, ◌++◌, refl}
use Rattle.layout.specs.Block.{size, offset}
use Rattle.layout.specs.Space.{at, stored}
use Rattle.layout.specs.Part.{over}
use Rattle.server.specs.Fresh.{first_leaf, fresh_stores}
use Rattle.text.specs.Line.{pieces, digits?, value_from, number?, numbers?, of_numbers, line_of}
use Rattle.text.specs.Print.{digits_within, decimal, field, step_line, store_line, refused_line, bad_line}
use Rattle.steps.specs.Whole.{words_for, length_for}
use Rattle.steps.specs.Refusal.{first, allowed?, open_refusal, refusal}
use Rattle.steps.specs.Outcome.{line}
use Rattle.steps.specs.Steps.{at_servers, step, by_rule, lacks_room}
use Rattle.kinds.specs.Parts.{head_sizes}
use Rattle.engine.specs.Open.{new_words, words_opened}
use Rattle.engine.specs.Step.{result_of, outcome_of, words_after}
use Rattle.show.specs.Shown.{lines, steps_shown, store_shown, lines_shown, shown}

-- `stepshow`'s memory, of which these inputs need the head only
abbrev prints : List ℕ → List ℕ
prints input = (shown 4202688 (0 ∷ 0 ∷ 0 ∷ 0 ∷ 0 ∷ 0 ∷ 0 ∷ 0 ∷ []) input).printed

-- an empty input, an empty line, and a step where the sizes are awaited are bad; so are `8 4 1` on 64 bytes. `9 4 1` is refused by 2, with or without
-- a newline. `1 4 1` is accepted; behind it a step of kind 11 is refused by 4, and sizes are bad, and end it.
pub prints_samples : (prints [] ≡ bad_line)
    × (prints (10 ∷ []) ≡ bad_line)
    × (prints (48 ∷ 32 ∷ 48 ∷ 32 ∷ 48 ∷ 32 ∷ 48 ∷ 32 ∷ 48 ∷ 32 ∷ 48 ∷ 10 ∷ []) ≡ bad_line)
    × ((shown 64 [] (56 ∷ 32 ∷ 52 ∷ 32 ∷ 49 ∷ 10 ∷ [])).printed ≡ bad_line)
    × (prints (57 ∷ 32 ∷ 52 ∷ 32 ∷ 49 ∷ 10 ∷ []) ≡ refused_line)
    × (prints (57 ∷ 32 ∷ 52 ∷ 32 ∷ 49 ∷ []) ≡ refused_line)
    × (prints (49 ∷ 32 ∷ 52 ∷ 32 ∷ 49 ∷ 10 ∷ 49 ∷ 49 ∷ 32 ∷ 48 ∷ 32 ∷ 48 ∷ 32 ∷ 48 ∷ 32 ∷ 48 ∷ 32 ∷ 48 ∷ 10 ∷ 49 ∷ 32 ∷ 52 ∷ 32 ∷ 49 ∷ 10 ∷ 10 ∷ [])
    ≡ store_line 1 4 1 ++ step_line 0 0 4 0 ++ bad_line)
unfolding shown lines lines_shown store_shown steps_shown line_of numbers? pieces number? digits? value_from of_numbers open_refusal first allowed? length_for words_for size store_line field decimal digits_within words_opened new_words stored at offset over at_servers fresh_stores first_leaf head_sizes result_of outcome_of words_after refusal step by_rule lacks_room step_line line
prints_samples = (refl, refl, refl, refl, refl, refl, refl)
