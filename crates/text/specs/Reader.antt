-- A line read byte by byte: what each byte does to what has been read, and what that says at the line's end.
use Rattle.std.specs.Prelude.{true, false, cond, ◌&&◌, List, [], ◌∷◌, ℕ, ◌+◌, ◌*◌, ◌-◌, ◌^◌, eqb, ltb, get_or, set, is_some, unwrap_or, Option, Some, None}
use Rattle.text.specs.declared.read.Line.{Line}
use Rattle.text.specs.declared.read.Line.TheVariants.{Sizes, Step}
use Rattle.text.specs.declared.read.Reader.{Reader}
use Rattle.text.specs.Line.{digit?}

-- nothing read
abbrev pub start : Reader
start = record { numbers = 0 ∷ 0 ∷ 0 ∷ 0 ∷ 0 ∷ []; count = 0; value = None; good = true }

-- the line is no good
abbrev pub spoiled : Reader → Reader
spoiled r = record { numbers = r.numbers; count = r.count; value = r.value; good = false }

-- the value of the digits since the last space
abbrev pub so_far : Reader → ℕ
so_far r = unwrap_or r.value 0

-- a digit: the number goes on, if it stays below 2^64
unfoldable pub with_digit : Reader → ℕ → Reader
with_digit r d =
    cond (ltb (10 * so_far r + d) (2 ^ 64))
    (record { numbers = r.numbers; count = r.count; value = Some (10 * so_far r + d); good = r.good })
    (spoiled r)

-- a space: the number ends, if it has a digit and another one may follow
unfoldable pub ended : Reader → Reader
ended r =
    cond (is_some r.value && ltb r.count 5)
    (record { numbers = set r.numbers r.count (so_far r); count = r.count + 1; value = None; good = r.good })
    (spoiled r)

-- one byte more
unfoldable pub next : Reader → ℕ → Reader
next r b = cond (eqb b 32) (ended r) (cond (digit? b) (with_digit r (b - 48)) (spoiled r))

-- the line's end
unfoldable pub finish : Reader → Option Line
finish r =
    let n = r.numbers in
    cond (r.good && is_some r.value)
    (cond (eqb r.count 2) (Some (Sizes (get_or n 0 0) (get_or n 1 0) (so_far r)))
    (cond (eqb r.count 5) (Some (Step (get_or n 0 0) (get_or n 1 0) (get_or n 2 0) (get_or n 3 0) (get_or n 4 0) (so_far r))) None))
    None

-- all bytes, one after another
unfoldable pub after : Reader → List ℕ → Reader
after r [] = r
after r (b ∷ bs) = after (next r b) bs
