-- Definitions tried on a small part: the metadata and the leaf 1,025 are read, the leaf is written.
use Rattle.std.specs.Prelude.{◌≡◌, refl, cond, List, [], ◌∷◌, ℕ}
use Rattle.layout.specs.Block.{size, offset}
use Rattle.layout.specs.Space.{at, same, tab}
use Rattle.memory.specs.Bit.{put_bit}
use Rattle.nodes.specs.Stored.{node_of}
use Rattle.std.specs.Prelude.{Some, None}
use Rattle.client.specs.declared.part.Set.TheVariants.{Reads, Writes, Copies}
use Rattle.client.specs.Layout.{ClientWord, client_words, client_block, client_code, item, vector_word}
use Rattle.client.specs.Laws.Layout.{client_size}
use Rattle.client.specs.Sets.{first_of, count, number_at, record_at, find}
use Rattle.client.specs.Commit.{inner_at}
use Rattle.client.specs.Items.{any_below, inner, inner_in, inner_before_after}
use Rattle.client.specs.Participants.{mask, at_home, states_read, participants_of}
use Rattle.client.specs.Renew.{rank, with_inner, inner_below}

-- what stands at some places, and 0 elsewhere
abbrev stands : List (List ℕ × ℕ) → ClientWord → ℕ
stands [] a = 0
stands (e ∷ l) a = cond (same e.0 (client_code a)) e.1 (stands l a)

-- fields 10 and 11, the numbers, the states of three open servers, and the kinds (the first word of a record): the leaf's kind as read 1, as written k
abbrev part_with : ℕ → ClientWord → ℕ
part_with k =
    stands ((0 ∷ 10 ∷ [], 2) ∷ (0 ∷ 11 ∷ [], 1) ∷ (1 ∷ 0 ∷ 1 ∷ [], 1026) ∷ (1 ∷ 1 ∷ 0 ∷ 19 ∷ [], 1799) ∷ (1 ∷ 1 ∷ 1 ∷ 0 ∷ [], 1) ∷ (2 ∷ 0 ∷ 0 ∷ [], 1026) ∷ (2 ∷ 1 ∷ 0 ∷ 0 ∷ [], k) ∷ [])

-- the part has 7,223 words; the sets begin at 15, 3,279, 4,911, their records at 111, 3,327, 4,975, the vectors at 7,087
pub layout_sample : (client_size ≡ 7223) × (at client_words client_block (item Reads 0 0) ≡ 15) × (at client_words client_block (item Reads 0 1) ≡ 111)
    × (at client_words client_block (item Writes 0 0) ≡ 3279) × (at client_words client_block (item Writes 0 1) ≡ 3327)
    × (at client_words client_block (item Copies 0 0) ≡ 4911) × (at client_words client_block (item Copies 0 1) ≡ 4975)
    × (at client_words client_block (item Copies 1 2) ≡ 5009) × (at client_words client_block (vector_word 0 0) ≡ 7087)
unfolding client_size size at offset
layout_sample = (refl, refl, refl, refl, refl, refl, refl, refl, refl)

pub find_sample : (find (part_with 1) Reads 1026 ≡ Some 1) × (find (part_with 1) Writes 0 ≡ None)
unfolding find first_of count number_at
find_sample = (refl, refl)

-- the leaf's home, server 1, takes part; all three servers, where the leaf becomes inner
pub participants_sample : (participants_of (part_with 1) ≡ 2) × (participants_of (part_with 2) ≡ 7)
unfolding participants_of states_read mask at_home any_below inner inner_in inner_before_after find first_of count number_at record_at node_of tab put_bit
participants_sample = (refl, refl)

-- the only written inner node is the first by name; a leaf has no rank
pub rank_sample : (rank (part_with 2) 0 ≡ 1) × (rank (part_with 1) 0 ≡ 0)
unfolding rank with_inner inner_below inner_at count number_at
rank_sample = (refl, refl)
