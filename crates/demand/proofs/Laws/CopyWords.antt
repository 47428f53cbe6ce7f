-- The words of copies, and the one that says which vectors were fetched: stores there leave the transaction. A vector with one flag replaced.
use Rattle.std.specs.Prelude.{◌≡◌, refl, Bool, true, false, ◌||◌, List, [], ◌∷◌, ℕ, ◌+◌, ◌/◌, ◌%◌, eqb, leb, length, get_or, set}
use Rattle.std.proofs.Common.{ap, sym, ◌∙◌, arith, le-leb, get_or-set_same, get_or-set_other}
use Rattle.std.proofs.Math.Decide.{ℕ_discrete}
use Rattle.base.proofs.Laws.Test.{or_left}
use Rattle.memory.specs.Bit.{bit, put_bit}
use Rattle.memory.proofs.Laws.Bit.{bit_put_same, bit_put_other}
use Rattle.layout.specs.Space.{Put, changed}
use Rattle.layout.proofs.Laws.Space.{Only, changed_only, only_puts}
use Rattle.nodes.specs.declared.node.Node.{Node}
use Rattle.nodes.specs.Found.{Found}
use Rattle.std.specs.Prelude.{Some, None}
use Rattle.nodes.specs.Flags.{with_flag}
use Rattle.client.specs.declared.part.Set.TheVariants.{Reads, Writes, Copies}
use Rattle.client.specs.Layout.{ClientWord, client_again, client_words, field, item, vector_word, reads_count, writes_count}
use Rattle.client.specs.Sets.{find}
use Rattle.client.specs.Copies.{to_place, copy_node}
use Rattle.client.specs.Part.{nothing, put_item, put_fields, put_vector}
use Rattle.demand.proofs.Laws.Slots.{SameSets}
use Rattle.nodes.specs.Name as N

abbrev pub of_copies : ClientWord → Bool
of_copies (field i) = leb 12 i || eqb i 8
of_copies (item Reads i n) = false
of_copies (item Writes i n) = false
of_copies (item Copies i n) = true
of_copies (vector_word s n) = true

pub sets_stay : (ps : List (Put ClientWord)) (w : ClientWord → ℕ) → Only client_words of_copies ps → SameSets w (changed client_words w ps)
sets_stay ps w h = record {
  reads = changed_only client_words client_again of_copies ps w reads_count h refl;
  writes = changed_only client_words client_again of_copies ps w writes_count h refl;
  items_read = λ i n. changed_only client_words client_again of_copies ps w (item Reads i n) h refl;
  items_written = λ i n. changed_only client_words client_again of_copies ps w (item Writes i n) h refl;
}

pub sets_refl : (u : ClientWord → ℕ) → SameSets u u
sets_refl u = record { reads = refl; writes = refl; items_read = λ i n. refl; items_written = λ i n. refl }

pub sets_then : (u v w : ClientWord → ℕ) → SameSets u v → SameSets v w → SameSets u w
sets_then u v w a b = record {
  reads = b.reads ∙ a.reads;
  writes = b.writes ∙ a.writes;
  items_read = λ i n. b.items_read i n ∙ a.items_read i n;
  items_written = λ i n. b.items_written i n ∙ a.items_written i n;
}

pub only_copy : (x : ℕ) (r : Node) (w : ClientWord → ℕ) → Only client_words of_copies (copy_node x r w)
unfolding copy_node put_item nothing Only
only_copy x r w = go (find w Copies x) (find w Copies 0)
  where
    go : (a b : Found) → Only client_words of_copies (to_place x r a b w)
    go (Some p) b = only_puts client_words of_copies (item Copies p) _ (λ i. refl)
    go None (Some p) = only_puts client_words of_copies (item Copies p) _ (λ i. refl)
    go None None = tt

pub only_fields : (a b c : ℕ) (w : ClientWord → ℕ) → Only client_words of_copies (put_fields 12 (a ∷ b ∷ c ∷ []) w)
unfolding put_fields
only_fields a b c w = only_puts client_words of_copies (λ i. field (12 + i)) (a ∷ b ∷ c ∷ []) (λ i. above i)
  where
    above : (i : ℕ) → (leb 12 (12 + i) || eqb (12 + i) 8) ≡ true
    above i = or_left (leb 12 (12 + i)) (eqb (12 + i) 8) (le-leb 12 (12 + i) (omega arith))

pub only_vector : (s : ℕ) (ws : List ℕ) (w : ClientWord → ℕ) → Only client_words of_copies (put_vector s ws w)
unfolding put_vector
only_vector s ws w = only_puts client_words of_copies (vector_word s) _ (λ i. refl)

-- a vector with one flag replaced: that flag, and the others
pub flag_same : (ws : List ℕ) (n : ℕ) (b : Bool) → length ws ≡ 16 → bit (get_or (with_flag ws (N.slot_of n) b) (N.slot_of n / 64) 0) (N.slot_of n % 64) ≡ b
unfolding with_flag
flag_same ws n b l =
    ap (λ (x : ℕ). bit x (N.slot_of n % 64))
    (get_or-set_same ws (N.slot_of n / 64) (put_bit b (get_or ws (N.slot_of n / 64) 0) (N.slot_of n % 64)) 0 (omega (arith, l)))
    ∙ bit_put_same b (get_or ws (N.slot_of n / 64) 0) (N.slot_of n % 64)

pub flag_other : (ws : List ℕ) (n q : ℕ) (b : Bool) → length ws ≡ 16 → ¬ (N.slot_of q ≡ N.slot_of n)
    → bit (get_or (with_flag ws (N.slot_of n) b) (N.slot_of q / 64) 0) (N.slot_of q % 64) ≡ bit (get_or ws (N.slot_of q / 64) 0) (N.slot_of q % 64)
unfolding with_flag
flag_other ws n q b l d = go (ℕ_discrete (N.slot_of q / 64) (N.slot_of n / 64))
  where
    x : ℕ
    x = put_bit b (get_or ws (N.slot_of n / 64) 0) (N.slot_of n % 64)

    go : Dec (N.slot_of q / 64 ≡ N.slot_of n / 64)
        → bit (get_or (set ws (N.slot_of n / 64) x) (N.slot_of q / 64) 0) (N.slot_of q % 64) ≡ bit (get_or ws (N.slot_of q / 64) 0) (N.slot_of q % 64)
    go (no e) = ap (λ (y : ℕ). bit y (N.slot_of q % 64)) (get_or-set_other ws (N.slot_of n / 64) (N.slot_of q / 64) x 0 e)
    go (yes e) =
        ap (λ (i : ℕ). bit (get_or (set ws (N.slot_of n / 64) x) i 0) (N.slot_of q % 64)) e
        ∙ ap (λ (y : ℕ). bit y (N.slot_of q % 64)) (get_or-set_same ws (N.slot_of n / 64) x 0 (omega (arith, l)))
        ∙ bit_put_other b (get_or ws (N.slot_of n / 64) 0) (N.slot_of n % 64) (N.slot_of q % 64) (λ z. d (omega (arith, e, z)))
        ∙ ap (λ (i : ℕ). bit (get_or ws i 0) (N.slot_of q % 64)) (sym e)
