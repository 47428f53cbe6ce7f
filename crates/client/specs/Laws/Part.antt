-- Where the words of a client's part lie, and what reading and writing them means.
use Rattle.std.specs.Prelude.{◌≡◌, refl, Bool, true, false, cond, List, ◌∷◌, ℕ, suc, ◌+◌, ◌-◌, ◌*◌, ◌/◌, ◌≤◌, ◌<◌, leb, length, get_or, take, drop, set}
use Rattle.std.proofs.Common.{sym, ap, ◌∙◌, arith, leb-true}
use Rattle.memory.specs.Word.{view}
use Rattle.memory.proofs.Laws.Word.{view_length}
use Rattle.layout.specs.Block.{size, In, offset}
use Rattle.layout.proofs.Laws.Space.{Run, mem_at, mem_run, stored_run, tab_get_or}
use Rattle.layout.specs.Space.{at, Valid, stored, puts}
use Rattle.layout.specs.Step.{Does, stepped, silent}
use Rattle.nodes.specs.declared.node.Node.{Node}
use Rattle.client.specs.declared.part.Set.{Set}
use Rattle.client.specs.declared.part.Set.TheVariants.{Reads, Writes, Copies}
use Rattle.client.specs.Layout.{ClientWord, client_words, client_block, field, item, vector_word, reads_count, writes_count, limit, base}
use Rattle.nodes.specs.Stored.{node_of, node_at, words_of, put_node}
use Rattle.nodes.proofs.Laws.Stored.{Sized, length_words}
use Rattle.client.specs.Sets.{held, at_most, count, number_at, record_at}
use Rattle.client.specs.Vectors.{vector_copy}
use Rattle.client.specs.Part.{put_field, put_item, put_word}

pub number_spot : (s : Set) (i b : ℕ) → b ≡ base s → b + i ≡ at client_words client_block (item s i 0)
unfolding at offset size base
number_spot Reads i b e = omega arith
number_spot Writes i b e = omega arith
number_spot Copies i b e = omega arith

pub number_within : (s : Set) (i b : ℕ) → b ≡ base s → i < limit s → b + i < 7223
unfolding base
number_within Reads i b e h = omega arith
number_within Writes i b e h = omega arith
number_within Copies i b e h = omega arith

pub record_spot : (s : Set) (i b n : ℕ) → b ≡ base s → n ≡ limit s → b + n + 33 * i ≡ at client_words client_block (item s i 1)
unfolding at offset size base
record_spot Reads i b n e l = omega arith
record_spot Writes i b n e l = omega arith
record_spot Copies i b n e l = omega arith

pub record_within : (s : Set) (i b n : ℕ) → b ≡ base s → n ≡ limit s → i < limit s → b + n + 33 * i + 33 ≤ 7223
unfolding base
record_within Reads i b n e l h = omega arith
record_within Writes i b n e l h = omega arith
record_within Copies i b n e l h = omega arith

pub limit_reads : (s : Set) → s ≡ Reads → 96 ≡ limit s
limit_reads s e = rw e

pub limit_writes : (s : Set) → s ≡ Writes → 48 ≡ limit s
limit_writes s e = rw e

pub limit_copies : (s : Set) → s ≡ Copies → 64 ≡ limit s
limit_copies s e = rw e

pub base_reads : (s : Set) → s ≡ Reads → 15 ≡ base s
unfolding base
base_reads s e = rw e

pub base_writes : (s : Set) → s ≡ Writes → 3279 ≡ base s
unfolding base
base_writes s e = rw e

pub base_copies : (s : Set) → s ≡ Copies → 4911 ≡ base s
unfolding base
base_copies s e = rw e

pub few_items : (s : Set) → limit s ≤ 96
few_items Reads = omega arith
few_items Writes = omega arith
few_items Copies = omega arith

pub items_fit : (s : Set) (b : ℕ) → b ≡ base s → b + 34 * limit s ≤ 7223
unfolding base
items_fit Reads b e = omega arith
items_fit Writes b e = omega arith
items_fit Copies b e = omega arith

-- the words of a record lie one after another
pub record_run : (s : Set) (i : ℕ) → i < limit s → Run client_words client_block (λ j. item s i (suc j)) (at client_words client_block (item s i 1)) 33
unfolding at Valid In offset size
record_run Reads i h = record { good = λ j l. (h, l); spot = λ j l. omega arith }
record_run Writes i h = record { good = λ j l. (h, l); spot = λ j l. omega arith }
record_run Copies i h = record { good = λ j l. (h, l); spot = λ j l. omega arith }

-- a number is one of the part
pub number_good : (s : Set) (i : ℕ) → i < limit s → Valid client_words client_block (item s i 0)
unfolding Valid In
number_good Reads i h = h
number_good Writes i h = h
number_good Copies i h = h

pub vector_run : (s : ℕ) → s < 8 → Run client_words client_block (vector_word s) (at client_words client_block (vector_word s 0)) 17
unfolding at Valid In offset size
vector_run s h = record { good = λ j l. (h, l); spot = λ j l. omega arith }

-- ---- reading
pub got_field : (s : List ℕ) (i r : ℕ) → i < 15 → r ≡ get_or (view s) i 0 → r ≡ held s (field i)
unfolding held at Valid In offset
got_field s i r h e = e ∙ sym (mem_at client_words client_block (view s) (field i) h)

-- a word of a run
got_word : (s : List ℕ) (f : ℕ → ClientWord) (k n j r : ℕ) → Run client_words client_block f k n → j < n → r ≡ get_or (view s) (k + j) 0 → r ≡ held s (f j)
unfolding held
got_word s f k n j r u h e = e ∙ sym (mem_at client_words client_block (view s) (f j) (u.good j h) ∙ ap (λ (a : ℕ). get_or (view s) a 0) (u.spot j h))

pub got_number : (s : List ℕ) (k : Set) (i a r : ℕ) → i < limit k → a ≡ at client_words client_block (item k i 0) → r ≡ get_or (view s) a 0 → r ≡ number_at (held s) k i
unfolding number_at held
got_number s k i a r h p e = e ∙ rw p (sym (mem_at client_words client_block (view s) (item k i 0) (number_good k i h)))

pub got_word_of : (s : List ℕ) (k : Set) (i j a r : ℕ) → i < limit k → 0 < j → j < 34 → a ≡ at client_words client_block (item k i 1) → r ≡ get_or (view s) (a + (j - 1)) 0
    → r ≡ held s (item k i j)
got_word_of s k i j a r h z l p e =
    let q : suc (j - 1) ≡ j = omega arith in
    rw q at (got_word s (λ n. item k i (suc n)) a 33 (j - 1) r (rw p (record_run k i h)) (omega arith) e)

pub got_copy : (s ws : List ℕ) (k a : ℕ) → k < 8 → a ≡ at client_words client_block (vector_word k 0) → a + 17 ≤ 7223 → 7223 ≤ length s / 8
    → ws ≡ take 16 (drop (a + 1) (view s)) → ws ≡ vector_copy (held s) k
unfolding held vector_copy
got_copy s ws k a h p l b e =
    let u : Run client_words client_block (vector_word k) a 17 = rw p (vector_run k h) in
    let v : Run client_words client_block (λ j. vector_word k (suc j)) (a + 1) 16 =
    record { good = λ j g. u.good (suc j) (omega arith); spot = λ j g. u.spot (suc j) (omega arith) ∙ omega arith } in
    e ∙ mem_run client_words client_block 16 (view s) (λ j. vector_word k (suc j)) (a + 1) v (omega (arith, view_length s))

pub got_vector : (s : List ℕ) (k j a r : ℕ) → k < 8 → j < 17 → a ≡ at client_words client_block (vector_word k 0) → r ≡ get_or (view s) (a + j) 0 → r ≡ held s (vector_word k j)
got_vector s k j a r h l p e = got_word s (vector_word k) a 17 j r (rw p (vector_run k h)) l e

pub record_there : (s : List ℕ) (k : Set) (i a : ℕ) → i < limit k → a ≡ at client_words client_block (item k i 1) → a + 33 ≤ 7223 → 7223 ≤ length s / 8
    → node_at (view s) a ≡ record_at (held s) k i
unfolding held record_at node_at
record_there s k i a h p l b =
    ap node_of (mem_run client_words client_block 33 (view s) (λ j. item k i (suc j)) a (rw p (record_run k i h)) (omega (arith, view_length s)))

pub got_record : (s : List ℕ) (k : Set) (i a : ℕ) (r : Node) → i < limit k → a ≡ at client_words client_block (item k i 1) → a + 33 ≤ 7223 → 7223 ≤ length s / 8
    → r ≡ node_at (view s) a → r ≡ record_at (held s) k i
got_record s k i a r h p l b e = e ∙ record_there s k i a h p l b

-- ---- writing
pub field_done : (i v : ℕ) (w w' : List ℕ) → w' ≡ set w i v → Does client_words client_block (put_field i v) silent w 0 w'
unfolding stepped stored put_word at offset
field_done i v w w' e = record { answer = refl; words = e }

pub item_done : (s : Set) (i a c x : ℕ) (r : Node) (w w₁ w' : List ℕ) → i < limit s → Sized r → a ≡ at client_words client_block (item s i 0) → c ≡ at client_words client_block (item s i 1)
    → w₁ ≡ set w a x → w' ≡ put_node w₁ c r → Does client_words client_block (put_item s i x r) silent w 0 w'
unfolding stepped put_item stored put_node words_of puts
item_done s i a c x r w w₁ w' h z p q e f =
    let l : length (words_of r) ≡ 33 = length_words r z in
    record {
      answer = refl;
      words = f ∙ rw (e, p, q, tab_get_or 34 (x ∷ words_of r) (rw l))
          (sym (stored_run client_words client_block (words_of r) (set w (at client_words client_block (item s i 0)) x) (λ j. item s i (suc j)) (at client_words client_block (item s i 1)) (rw l (record_run s i h))));
    }

-- ---- counts
module _ (m : ClientWord → ℕ) (s : Set) where
  pub count_reads : (c r : ℕ) → s ≡ Reads → c ≡ m reads_count → r ≡ at_most 96 c → r ≡ count m s
  unfolding count
  count_reads c r e p q = rw (e, ← p) q

  pub count_writes : (c r : ℕ) → s ≡ Writes → c ≡ m writes_count → r ≡ at_most 48 c → r ≡ count m s
  unfolding count
  count_writes c r e p q = rw (e, ← p) q

  pub count_copies : s ≡ Copies → 64 ≡ count m s
  unfolding count
  count_copies e = rw e

at_most_le : (l c : ℕ) → at_most l c ≤ l
at_most_le l c = go (leb c l) refl
  where
    go : (b : Bool) → leb c l ≡ b → cond b c l ≤ l
    go true e = leb-true c l e
    go false e = omega arith

pub count_limit : (m : ClientWord → ℕ) (s : Set) → count m s ≤ limit s
unfolding count
count_limit m Reads = at_most_le 96 (m reads_count)
count_limit m Writes = at_most_le 48 (m writes_count)
count_limit m Copies = omega arith

pub reads_within : (s : Set) (r : ℕ) → s ≡ Reads → r ≤ 96 → r ≤ limit s
reads_within s r e h = rw e h

pub writes_within : (s : Set) (r : ℕ) → s ≡ Writes → r ≤ 48 → r ≤ limit s
writes_within s r e h = rw e h

pub copies_within : (s : Set) → s ≡ Copies → 64 ≤ limit s
copies_within s e = rw e (omega arith)
