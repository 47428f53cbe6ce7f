-- The pairs of a list as words of the lent output.
use Rattle.std.specs.Prelude.{◌≡◌, refl, List, [], ◌∷◌, ◌++◌, ℕ, zero, suc, ◌+◌, ◌-◌, ◌*◌, ◌≤◌, ◌<◌, length, get_or, take, drop}
use Rattle.std.proofs.Common.{sym, ap, ◌∙◌, append_assoc, arith, length-drop, take-suc, get_or-drop, length-take-le}
use borrow.Rule.Slice.PartMut.{mid_of}
use Rattle.std.proofs.lemmas.List.Edits.{sets, sets-eq}
use Rattle.memory.specs.Word.{view}
use Rattle.memory.proofs.Laws.Word.{view_length}
use Rattle.operations.specs.Entry.{Entries}
use Rattle.walk.specs.Found.{pair_in, first_pairs, pairs_in, Roomy}
use Rattle.walk.specs.Laws.Found.{length_pairs}
use Rattle.steps.specs.Output.{pair_words, with_pairs}

words_append : (ps qs : Entries) → pair_words (ps ++ qs) ≡ pair_words ps ++ pair_words qs
words_append [] qs = refl
words_append (e ∷ ps) qs = ap (λ (l : List ℕ). e.0 ∷ e.1 ∷ l) (words_append ps qs)

take_two : (l : List ℕ) (n : ℕ) → n + 1 < length l → take (n + 2) l ≡ take n l ++ (get_or l n 0 ∷ get_or l (n + 1) 0 ∷ [])
take_two l n h =
    let a : take (suc n) l ≡ take n l ++ (get_or l n 0 ∷ []) = take-suc l n 0 (omega arith) in
    let b : take (suc (suc n)) l ≡ take (suc n) l ++ (get_or l (suc n) 0 ∷ []) = take-suc l (suc n) 0 (omega arith) in
    let p : n + 2 ≡ suc (suc n) = omega arith in
    let q : n + 1 ≡ suc n = omega arith in
    rw (p, q, b, a) (append_assoc (take n l) (get_or l n 0 ∷ []) (get_or l (suc n) 0 ∷ []))

-- those found stand as words behind their number
found_words : (f : List ℕ) (n : ℕ) → 2 * n < length f → pair_words (first_pairs f n) ≡ take (2 * n) (drop 1 f)
unfolding first_pairs pair_in
found_words f zero h = refl
found_words f (suc n) h =
    let long : 2 * n + 1 < length (drop 1 f) = rw (length-drop 1 f) (omega arith) in
    let e : 2 * suc n ≡ 2 * n + 2 = omega arith in
    let a : get_or (drop 1 f) (2 * n) 0 ≡ get_or f (2 * n + 1) 0 = get_or-drop 1 f (2 * n) 0 ∙ ap (λ (i : ℕ). get_or f i 0) (omega arith) in
    let b : get_or (drop 1 f) (2 * n + 1) 0 ≡ get_or f (2 * n + 2) 0 = get_or-drop 1 f (2 * n + 1) 0 ∙ ap (λ (i : ℕ). get_or f i 0) (omega arith) in
    words_append (first_pairs f n) (pair_in f n ∷ []) ∙ ap (λ (l : List ℕ). l ++ (get_or f (2 * n + 1) 0 ∷ get_or f (2 * n + 2) 0 ∷ [])) (found_words f n (omega arith))
    ∙ sym (rw e (take_two (drop 1 f) (2 * n) long ∙ rw (a, b)))

all_words : (f : List ℕ) (n : ℕ) → n ≡ get_or f 0 0 → 2 * n < length f → pair_words (pairs_in f) ≡ take (2 * n) (drop 1 f)
unfolding pairs_in
all_words f n e h = rw (← e) (found_words f n h)

-- the words behind the number of pairs found, written from the output's first word on
pub pairs_put : (f out out' : List ℕ) (n : ℕ) → n ≡ get_or f 0 0 → 2 * n < length f → 16 * n ≤ length out → view out' ≡ sets (view out) 0 (mid_of 1 (2 * n + 1 - 1) f)
    → view out' ≡ with_pairs (pairs_in f) (view out)
unfolding with_pairs
pairs_put f out out' n e h room p =
    let vs : List ℕ = take (2 * n) (drop 1 f) in
    let one : 2 * n + 1 - 1 ≡ 2 * n = omega arith in
    let q : view out' ≡ sets (view out) 0 vs = rw one at p in
    let long : length vs ≡ 2 * n = length-take-le (2 * n) (drop 1 f) (rw (length-drop 1 f) (omega arith)) in
    let fits : 0 + length vs ≤ length (view out) = omega (arith, view_length out, long) in
    let words : pair_words (pairs_in f) ≡ vs = all_words f n e h in
    let many : 2 * length (pairs_in f) ≡ 0 + length vs = omega (arith, length_pairs f, long) in
    q ∙ sets-eq vs (view out) 0 fits ∙ sym (rw (words, many))

-- those of a list have room
module _ (wanted : ℕ) (f : List ℕ) (r : Roomy wanted f) where
  pub list_few : get_or f 0 0 ≤ 32
  list_few = omega (arith, r.few, r.within)

  pub list_stands : 2 * get_or f 0 0 < length f
  list_stands = omega (arith, r.long, r.within)

  pub list_written : (out : List ℕ) → 16 * wanted ≤ length out → 16 * get_or f 0 0 ≤ length out
  list_written out h = omega (arith, r.within)

pub ruleset list_within = (list_few, list_stands, list_written)
