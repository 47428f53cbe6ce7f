-- After all bytes of a line the reader says what the line says.
use Rattle.std.specs.Prelude.{◌≡◌, Bool, ◌&&◌, ◌||◌, ◌⊎◌, ℕ, ◌+◌, ◌*◌, ◌-◌, ◌^◌, ◌≤◌, ◌<◌, eqb, ltb, get_or, set, take, is_some, Option, Some, None}
use Rattle.std.proofs.Math.Path.{refl, ap}
use Rattle.std.proofs.Common.{sym, ◌∙◌}
use Rattle.std.proofs.Math.Bool.{true, false, cond}
use mathlib.Core.List.{List, [], ◌∷◌, ◌++◌, map}
use Rattle.std.proofs.Math.Logic.{inl, inr}
use native.Mathlib.Omega.{arith}
use Rattle.std.proofs.Math.Numerals.{add-one}
use borrow.Author.Tests.{ltb-true, ltb-false, lt-ltb, le-ltb, eqb-true, eqb-false, ne_eqb}
use Rattle.std.proofs.Math.ListN.{length, length-append, length-set, get_or-append}
use Rattle.std.proofs.Math.Seq.{take-suc-set, append_snoc, length-take-le, get_or-take, get_or_at}
use Rattle.base.proofs.Laws.Test.{bool_cases}
use Rattle.text.specs.declared.read.Line.{Line}
use Rattle.text.specs.declared.read.Line.TheVariants.{Sizes, Step}
use Rattle.text.specs.declared.read.Reader.{Reader}
use Rattle.text.specs.Line.{pieces, onto_first, digit?, digits?, value_from, value, some?, number?, numbers?, of_numbers, line_of}
use Rattle.text.specs.Reader.{start, spoiled, so_far, with_digit, ended, next, finish, after}

-- the state of a line that may still be good
pub record Fine (r : Reader) : Type 0 where
  pub good : r.good ≡ true
  pub five : length r.numbers ≡ 5
  pub within : r.count ≤ 5
  pub small : so_far r < 2 ^ 64

-- p continues a number whose digits so far have the value v
abbrev first? : Bool → ℕ → List ℕ → Bool
first? begun v p = (begun || some? p) && digits? p && ltb (value_from v p) (2 ^ 64)

-- what the line says where r has been read and these pieces follow, the first as the rest of the number begun
unfoldable rest_of : Reader → List (List ℕ) → Option Line
rest_of r [] = None
rest_of r (p ∷ ps) =
    cond (first? (is_some r.value) (so_far r) p && numbers? ps)
    (of_numbers (take r.count r.numbers ++ (value_from (so_far r) p ∷ map value ps)))
    None

-- nothing makes a bad line good
spoilt : (bs : List ℕ) (r : Reader) → r.good ≡ false → finish (after r bs) ≡ None
unfolding finish after next ended with_digit
spoilt [] r g = rw g
spoilt (b ∷ bs) r g = spoilt bs (next r b) (kept (eqb b 32) (digit? b) (ltb (10 * so_far r + (b - 48)) (2 ^ 64)) (is_some r.value && ltb r.count 5))
  where
    kept : (s d t u : Bool)
        → (cond s (cond u (record { numbers = set r.numbers r.count (so_far r); count = r.count + 1; value = None; good = r.good }) (spoiled r))
        (cond d (cond t (record { numbers = r.numbers; count = r.count; value = Some (10 * so_far r + (b - 48)); good = r.good }) (spoiled r)) (spoiled r))).good ≡ false
    kept true d t true = g
    kept true d t false = refl
    kept false true true u = g
    kept false true false u = refl
    kept false false t u = refl

and_false : (a : Bool) → (a && false) ≡ false
and_false true = refl
and_false false = refl

or_true : (a : Bool) → (a || true) ≡ true
or_true true = refl
or_true false = refl

cond_same : {A : Type 0} (b : Bool) (x : A) → cond b x x ≡ x
cond_same true x = refl
cond_same false x = refl

-- more digits make no number smaller
value_rises : (v : ℕ) (p : List ℕ) → v ≤ value_from v p
unfolding value_from
value_rises v [] = omega arith
value_rises v (b ∷ p) = omega (arith, value_rises (10 * v + (b - 48)) p)

-- a line of more than six numbers is bad
too_many : (n : List ℕ) → 7 ≤ length n → of_numbers n ≡ None
unfolding of_numbers
too_many n h = rw (ne_eqb (length n) 3 (λ e. omega arith), ne_eqb (length n) 6 (λ e. omega arith))

-- the numbers read, and the last one
module _ (n : List ℕ) (v k : ℕ) (within : k ≤ length n) where
  items : List ℕ
  items = take k n ++ (v ∷ [])

  items_count : length items ≡ k + 1
  unfolding items
  items_count = length-append (take k n) (v ∷ []) ∙ rw (length-take-le k n within)

  items_before : (i : ℕ) → i < k → get_or items i 0 ≡ get_or n i 0
  unfolding items
  items_before i h = get_or-append (take k n) (v ∷ []) 0 i (rw (length-take-le k n within) h) ∙ get_or-take k n i 0 h

  items_last : get_or items k 0 ≡ v
  unfolding items
  items_last = get_or_at (take k n) v [] 0 k (length-take-le k n within)

two_read : (n : List ℕ) (v : ℕ) → length n ≡ 5 → of_numbers (take 2 n ++ (v ∷ [])) ≡ Some (Sizes (get_or n 0 0) (get_or n 1 0) v)
unfolding of_numbers items
two_read n v h =
    let w : 2 ≤ length n = omega arith in
    rw (items_count n v 2 w, items_before n v 2 w 0 (omega arith), items_before n v 2 w 1 (omega arith), items_last n v 2 w)

five_read : (n : List ℕ) (v : ℕ) → length n ≡ 5
    → of_numbers (take 5 n ++ (v ∷ [])) ≡ Some (Step (get_or n 0 0) (get_or n 1 0) (get_or n 2 0) (get_or n 3 0) (get_or n 4 0) v)
unfolding of_numbers items
five_read n v h =
    let w : 5 ≤ length n = omega arith in
    let at : (i : ℕ) → i < 5 → get_or (items n v 5 w) i 0 ≡ get_or n i 0 = items_before n v 5 w in
    rw (items_count n v 5 w, at 0 (omega arith), at 1 (omega arith), at 2 (omega arith), at 3 (omega arith), at 4 (omega arith), items_last n v 5 w)

other_read : (n : List ℕ) (v k : ℕ) → k ≤ length n → (k ≡ 2 → ⊥) → (k ≡ 5 → ⊥) → of_numbers (take k n ++ (v ∷ [])) ≡ None
unfolding of_numbers items
other_read n v k w a b = rw (items_count n v k w, ne_eqb (k + 1) 3 (λ e. a (omega arith)), ne_eqb (k + 1) 6 (λ e. b (omega arith)))

-- the line's end
at_end : (r : Reader) → Fine r → finish r ≡ rest_of r ([] ∷ [])
unfolding finish rest_of value_from digits? numbers?
at_end r f = go (is_some r.value) refl (bool_cases (eqb r.count 2)) (bool_cases (eqb r.count 5))
  where
    go : (b : Bool) → is_some r.value ≡ b → (eqb r.count 2 ≡ true) ⊎ (eqb r.count 2 ≡ false) → (eqb r.count 5 ≡ true) ⊎ (eqb r.count 5 ≡ false)
        → finish r ≡ rest_of r ([] ∷ [])
    go false e s t = rw (e, f.good)
    go true e (inl s) t = rw (e, f.good, lt-ltb (so_far r) (2 ^ 64) f.small, eqb-true r.count 2 s) (sym (two_read r.numbers (so_far r) f.five))
    go true e (inr s) (inl t) = rw (e, f.good, lt-ltb (so_far r) (2 ^ 64) f.small, eqb-true r.count 5 t) (sym (five_read r.numbers (so_far r) f.five))
    go true e (inr s) (inr t) =
        rw (e, f.good, lt-ltb (so_far r) (2 ^ 64) f.small, s, t)
        (sym (other_read r.numbers (so_far r) r.count (omega arith) (eqb-false r.count 2 s) (eqb-false r.count 5 t)))

-- there is always a first piece
record First (ps : List (List ℕ)) : Type 0 where
  pub first : List ℕ
  pub others : List (List ℕ)
  pub split : ps ≡ first ∷ others

first_piece : (bs : List ℕ) → First (pieces bs)
unfolding pieces
first_piece [] = record { first = []; others = []; split = refl }
first_piece (b ∷ bs) = go (eqb b 32) (first_piece bs)
  where
    go : (t : Bool) → First (pieces bs) → First (cond t ([] ∷ pieces bs) (onto_first b (pieces bs)))
    go true f = record { first = []; others = pieces bs; split = refl }
    go false f = record { first = b ∷ f.first; others = f.others; split = rw f.split }

-- one byte: a space, a digit, or another one
module _ (r : Reader) (f : Fine r) (b : ℕ) (ps : List (List ℕ)) (s : First ps) where
  -- the line from here on, where the next byte leads to x
  abbrev Leads : Reader → List (List ℕ) → Type 0
  Leads x qs = ((x.good ≡ false) × (rest_of r qs ≡ None)) ⊎ (Fine x × (rest_of r qs ≡ rest_of x ps))

  by_space : Leads (ended r) ([] ∷ ps)
  unfolding ended rest_of value_from digits? number? numbers?
  by_space = go (is_some r.value) refl (bool_cases (ltb r.count 5))
    where
      go : (t : Bool) → is_some r.value ≡ t → (ltb r.count 5 ≡ true) ⊎ (ltb r.count 5 ≡ false) → Leads (ended r) ([] ∷ ps)
      go false e h = inl (rw e, rw e)
      go true e (inl h) =
          let l : r.count < 5 = ltb-true r.count 5 h in
          inr (
            rw (e, h) (record { good = f.good; five = length-set r.numbers r.count (so_far r) ∙ f.five; within = omega arith; small = omega arith }),
            rw (e, h, s.split, lt-ltb (so_far r) (2 ^ 64) f.small, add-one r.count, take-suc-set r.numbers r.count (so_far r) (omega arith), append_snoc),
          )
      go true e (inr h) =
          inl (
            rw (e, h),
            ap (λ (x : Option Line). cond (first? (is_some r.value) (so_far r) [] && numbers? ps) x None) (too_many _ seven) ∙ cond_same (first? (is_some r.value) (so_far r) [] && numbers? ps) None,
          )
        where
          seven : 7 ≤ length (take r.count r.numbers ++ (so_far r ∷ map value ps))
          seven =
              rw (length-append, s.split)
              (omega (arith, length-take-le r.count r.numbers (omega arith), ltb-false r.count 5 h))

  by_digit : digit? b ≡ true → Leads (with_digit r (b - 48)) (onto_first b ps)
  unfolding with_digit rest_of value_from digits?
  by_digit d = go (bool_cases (ltb (10 * so_far r + (b - 48)) (2 ^ 64)))
    where
      go : (ltb (10 * so_far r + (b - 48)) (2 ^ 64) ≡ true) ⊎ (ltb (10 * so_far r + (b - 48)) (2 ^ 64) ≡ false) → Leads (with_digit r (b - 48)) (onto_first b ps)
      go (inl h) =
          let l : 10 * so_far r + (b - 48) < 2 ^ 64 = ltb-true (10 * so_far r + (b - 48)) (2 ^ 64) h in
          inr (
            rw h (record { good = f.good; five = f.five; within = f.within; small = l }),
            rw (h, s.split, d, or_true (is_some r.value)),
          )
      go (inr h) =
          inl (
            rw h,
            rw (s.split, d, or_true (is_some r.value), le-ltb (value_from (10 * so_far r + (b - 48)) s.first) (2 ^ 64) large, and_false (digits? s.first)),
          )
        where
          large : 2 ^ 64 ≤ value_from (10 * so_far r + (b - 48)) s.first
          large = omega (arith, value_rises (10 * so_far r + (b - 48)) s.first, ltb-false (10 * so_far r + (b - 48)) (2 ^ 64) h)

  by_other : digit? b ≡ false → Leads (spoiled r) (onto_first b ps)
  unfolding rest_of digits?
  by_other d = inl (refl, rw (s.split, d, and_false (is_some r.value || true)))

-- after all bytes that follow, the reader says what they make of the line
abbrev Going : List ℕ → Type 0
Going bs = (r : Reader) → Fine r → finish (after r bs) ≡ rest_of r (pieces bs)

goes_on : (bs : List ℕ) → Going bs
unfolding after pieces next
goes_on [] r f = at_end r f
goes_on (b ∷ bs) r f = go (goes_on bs) (bool_cases (eqb b 32)) (bool_cases (digit? b))
  where
    s : First (pieces bs)
    s = first_piece bs

    on : Going bs → (x : Reader) (qs : List (List ℕ)) → Leads r f b (pieces bs) s x qs → finish (after x bs) ≡ rest_of r qs
    on more x qs (inl h) = spoilt bs x h.0 ∙ sym h.1
    on more x qs (inr h) = more x h.0 ∙ sym h.1

    go : Going bs → (eqb b 32 ≡ true) ⊎ (eqb b 32 ≡ false) → (digit? b ≡ true) ⊎ (digit? b ≡ false)
        → finish (after (next r b) bs) ≡ rest_of r (pieces (b ∷ bs))
    go more (inl h) d = rw h (on more (ended r) ([] ∷ pieces bs) (by_space r f b (pieces bs) s))
    go more (inr h) (inl d) = rw (h, d) (on more (with_digit r (b - 48)) (onto_first b (pieces bs)) (by_digit r f b (pieces bs) s d))
    go more (inr h) (inr d) = rw (h, d) (on more (spoiled r) (onto_first b (pieces bs)) (by_other r f b (pieces bs) s d))

-- the reader, after the bytes of a line, says what the line says
pub reads : (bs : List ℕ) → finish (after start bs) ≡ line_of bs
unfolding line_of rest_of numbers? number?
reads bs =
    let s : First (pieces bs) = first_piece bs in
    goes_on bs start (record { good = refl; five = refl; within = omega arith; small = omega arith }) ∙ rw s.split
