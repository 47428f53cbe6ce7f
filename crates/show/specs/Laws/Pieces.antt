-- An input that is read in pieces prints what it prints as a whole: to its end (`pieces_shown`), or up to where nothing more is read (`stopped_shown`).
use Rattle.std.specs.Prelude.{◌≡◌, ℕ, ◌^◌, ◌<◌, List, [], ◌∷◌, ◌++◌, length, refl}
use Rattle.std.proofs.Common.{sym, ap, ◌∙◌, append_assoc, append-nil, arith}
use Rattle.show.specs.declared.Awaited.TheVariants.{FirstLine, Nothing}
use Rattle.show.specs.declared.Show.{Show}
use Rattle.show.specs.Shown.{before, shown}
use Rattle.show.specs.Feed.{behind, awaits, next_byte, fed, joined, NoneEmpty, in_pieces, effect_of, whole}
use Rattle.show.specs.Laws.Whole.{nothing_more, whole_shown}

-- some bytes, and then others
pub fed_append : (xs ys : List ℕ) (s : Show) (bytes : ℕ) (w : List ℕ)
    → fed s (xs ++ ys) bytes w ≡ (let t = fed s xs bytes w in behind t.printed (fed t.show ys bytes t.words))
unfolding fed
fed_append [] ys s bytes w = refl
fed_append (b ∷ xs) ys s bytes w =
    let t = next_byte s b bytes w in
    ap (behind t.printed) (fed_append xs ys t.show bytes t.words) ∙ rw append_assoc

whole_append : (xs ys : List ℕ) (s : Show) (bytes : ℕ) (w : List ℕ)
    → whole s (xs ++ ys) bytes w ≡ (let t = fed s xs bytes w in before t.printed (whole t.show ys bytes t.words))
unfolding whole
whole_append xs ys s bytes w = rw (fed_append xs ys s bytes w, append_assoc)

-- pieces, and then other bytes
pieces_then : (ps : List (List ℕ)) (bs : List ℕ) (s : Show) (bytes : ℕ) (w : List ℕ) → NoneEmpty ps
    → whole s (joined ps ++ bs) bytes w ≡ (let t = in_pieces s ps bytes w in before t.printed (whole t.show bs bytes t.words))
unfolding in_pieces
pieces_then [] bs s bytes w h = refl
pieces_then ([] ∷ ps) bs s bytes w h = absurd (omega arith)
pieces_then ((b ∷ p) ∷ ps) bs s bytes w h =
    let t = fed s (b ∷ p) bytes w in
    ap (λ (x : List ℕ). whole s x bytes w) (append_assoc (b ∷ p) (joined ps) bs)
    ∙ whole_append (b ∷ p) (joined ps ++ bs) s bytes w
    ∙ ap (before t.printed) (pieces_then ps bs t.show bytes t.words h.1)
    ∙ rw append_assoc

-- pieces, and then the end
pieces_end : (ps : List (List ℕ)) (s : Show) (bytes : ℕ) (w : List ℕ) → NoneEmpty ps
    → whole s (joined ps) bytes w ≡ effect_of (in_pieces s (ps ++ ([] ∷ [])) bytes w)
unfolding in_pieces whole fed
pieces_end [] s bytes w h = rw append-nil
pieces_end ([] ∷ ps) s bytes w h = absurd (omega arith)
pieces_end ((b ∷ p) ∷ ps) s bytes w h =
    let t = fed s (b ∷ p) bytes w in
    whole_append (b ∷ p) (joined ps) s bytes w ∙ ap (before t.printed) (pieces_end ps t.show bytes t.words h.1)

module _ (bytes : ℕ) (w : List ℕ) (ps : List (List ℕ)) (none : NoneEmpty ps) where
  -- the input was read to its end
  pub pieces_shown : length (joined ps) < 2 ^ 64 → effect_of (in_pieces (awaits FirstLine) (ps ++ ([] ∷ [])) bytes w) ≡ shown bytes w (joined ps)
  pieces_shown h = sym (pieces_end ps (awaits FirstLine) bytes w none) ∙ whole_shown bytes w (joined ps) h

  -- nothing more is read, whatever follows
  pub stopped_shown : (bs : List ℕ) → length (joined ps ++ bs) < 2 ^ 64 → (in_pieces (awaits FirstLine) ps bytes w).show.awaited ≡ Nothing
      → effect_of (in_pieces (awaits FirstLine) ps bytes w) ≡ shown bytes w (joined ps ++ bs)
  stopped_shown bs h z =
      let t = in_pieces (awaits FirstLine) ps bytes w in
      sym (pieces_then ps bs (awaits FirstLine) bytes w none ∙ ap (before t.printed) (nothing_more bytes t.show bs t.words z) ∙ rw append-nil)
      ∙ whole_shown bytes w (joined ps ++ bs) h
