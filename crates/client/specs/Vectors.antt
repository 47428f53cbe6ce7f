-- A server's vector as a client sees it: its copy, "own frees and takes counted".
use Rattle.std.specs.Prelude.{Bool, cond, ◌&&◌, ◌||◌, not, List, ℕ, zero, suc, ◌-◌, eqb, leb, ltb}
use Rattle.memory.specs.Bit.{bit}
use Rattle.layout.specs.Space.{tab}
use Rattle.nodes.specs.Name.{server_of, slot_of}
use Rattle.nodes.specs.Flags.{with_flag}
use Rattle.client.specs.declared.part.Set.TheVariants.{Writes}
use Rattle.client.specs.Layout.{ClientWord, item, vector_word, fetched_vectors}
use Rattle.client.specs.Sets.{count, number_at}
use Rattle.client.specs.Items.{all_below}
use Rattle.client.specs.Bounds.{first_flag_number}

module _ (m : ClientWord → ℕ) (s : ℕ) where
  -- is there a copy
  unfoldable pub has_vector : Bool
  has_vector = eqb (m (vector_word s 0)) 1

  -- its words
  unfoldable pub vector_copy : List ℕ
  vector_copy = tab 16 (λ j. m (vector_word s (suc j)))

  -- the words with the flag of the name n, if it is of this server: taken where v is 1
  abbrev pub counted_flag : ℕ → ℕ → List ℕ → List ℕ
  counted_flag n v ws = cond (eqb (server_of n) s) (with_flag ws (slot_of n) (eqb v 1)) ws

  -- write item i counted: numbers from 8,193 on are flags, and word 19 (the record's first slot) says whether one is taken
  unfoldable pub counted_one : ℕ → List ℕ → List ℕ
  counted_one i ws = cond (ltb (number_at m Writes i) first_flag_number) ws (counted_flag (number_at m Writes i - first_flag_number) (m (item Writes i 19)) ws)

  -- the first n write items counted
  unfoldable pub counted_words : ℕ → List ℕ → List ℕ
  counted_words zero ws = ws
  counted_words (suc n) ws = counted_one n (counted_words n ws)

  -- the vector as the client sees it: "own frees and takes counted"
  unfoldable pub seen_words : List ℕ
  seen_words = counted_words (count m Writes) vector_copy

  -- refusal 10 for what is counted: write item i is no flag of this server, or 0 or 1
  unfoldable pub flag_fits : ℕ → Bool
  flag_fits i =
      let x = number_at m Writes i in
      (ltb x first_flag_number || not (eqb (server_of (x - first_flag_number)) s)) || leb (m (item Writes i 19)) 1

  -- all of them
  unfoldable pub flags_fit : Bool
  flags_fit = all_below (count m Writes) flag_fits

  -- there is no copy or one, and what is counted is in range
  unfoldable pub vector_fits : Bool
  vector_fits = leb (m (vector_word s 0)) 1 && flags_fit

  -- has this transaction fetched it
  unfoldable pub is_fetched : Bool
  is_fetched = bit (m fetched_vectors) s
