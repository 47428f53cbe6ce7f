-- An item that is stored in a set, and what stands in the client's part then.
use Rattle.std.specs.Prelude.{◌≡◌, refl, ℕ, suc, drop}
use Rattle.std.proofs.Math.Path.{ap}
use Rattle.std.proofs.Common.{◌∙◌}
use mathlib.Core.List.{List, ◌∷◌}
use Rattle.std.proofs.Math.ListN.{get_or}
use Rattle.layout.specs.Space.{tab, changed}
use Rattle.layout.proofs.Laws.Space.{puts_other, tab_puts_same, tab_get_or, length_tab}
use Rattle.nodes.specs.declared.node.Node.{Node}
use Rattle.nodes.specs.Stored.{node_of, words_of}
use Rattle.nodes.proofs.Laws.Stored.{Sized, length_words, node_words}
use Rattle.client.specs.declared.part.Set.{Set}
use Rattle.client.specs.declared.part.Set.TheVariants.{Reads, Writes, Copies}
use Rattle.client.specs.Layout.{ClientWord, client_again, client_words, field, item, vector_word}
use Rattle.client.specs.Sets.{record_at}
use Rattle.client.specs.Part.{put_item}

-- a record that was read has whole arrays
pub record_sized : (u : ClientWord → ℕ) (s : Set) (i : ℕ) → Sized (record_at u s i)
unfolding record_at node_of tab
record_sized u s i = record { keys = refl; slots = refl }

-- which family a word is of, which item or vector, and which word of it
abbrev pub family : ClientWord → ℕ
family (field i) = 0
family (item Reads i n) = 1
family (item Writes i n) = 2
family (item Copies i n) = 3
family (vector_word s n) = 4

abbrev pub which : ClientWord → ℕ
which (field i) = 0
which (item s i n) = i
which (vector_word s n) = s

abbrev pub word_in : ClientWord → ℕ
word_in (field i) = 0
word_in (item s i n) = n
word_in (vector_word s n) = n

one_family : (s : Set) (p n : ℕ) → family (item s p n) ≡ family (item s p 0)
one_family Reads p n = refl
one_family Writes p n = refl
one_family Copies p n = refl

module _ (s : Set) (p x : ℕ) (r : Node) (w : Sized r) (u : ClientWord → ℕ) where
  abbrev pub placed : ClientWord → ℕ
  placed = changed client_words u (put_item s p x r u)

  abbrev stored : List ℕ
  stored = tab 34 (λ j. get_or (x ∷ words_of r) j 0)

  stored_is : stored ≡ x ∷ words_of r
  stored_is = tab_get_or 34 (x ∷ words_of r) (ap suc (length_words r w))

  -- the words of the item, the number first
  words_are : tab 34 (λ n. placed (item s p n)) ≡ x ∷ words_of r
  unfolding put_item
  words_are = tab_puts_same client_words client_again 34 stored u (item s p) (length_tab 34 (λ j. get_or (x ∷ words_of r) j 0)) (λ i j e. ap word_in e) ∙ stored_is

  pub placed_number : placed (item s p 0) ≡ x
  unfolding tab
  placed_number = ap (λ (l : List ℕ). get_or l 0 0) words_are

  pub placed_record : record_at placed s p ≡ r
  unfolding record_at tab
  placed_record = ap (λ (l : List ℕ). node_of (drop 1 l)) words_are ∙ node_words r w

  pub placed_beside : (i n : ℕ) → ¬ (i ≡ p) → placed (item s i n) ≡ u (item s i n)
  unfolding put_item
  placed_beside i n d = puts_other client_words client_again stored u (item s p) (item s i n) (λ q l e. d (ap which e))

  pub placed_else : (a : ClientWord) → ¬ (family a ≡ family (item s p 0)) → placed a ≡ u a
  unfolding put_item
  placed_else a d = puts_other client_words client_again stored u (item s p) a (λ q l e. d (ap family e ∙ one_family s p q))
