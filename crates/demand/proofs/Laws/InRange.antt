-- A client's part in range stays so while what is stored in it is: the course of a commit, copies dropped, the mark of a lost client.
use Rattle.std.specs.Prelude.{◌≡◌, Bool, true, false, ◌&&◌, List, [], ◌∷◌, ℕ, zero, suc, ◌≤◌, ◌<◌, eqb, get_or}
use Rattle.std.proofs.Math.Path.{refl, ap, subst, fun_ext}
use Rattle.std.proofs.Common.{ap₂, sym, ◌∙◌, arith}
use Rattle.std.proofs.Math.Bool.{cond, true≢false}
use borrow.Author.Tests.{le-leb, leb-true}
use Rattle.std.proofs.Math.Dec.{leb, ltb}
use Rattle.base.specs.Test.{and_both}
use Rattle.layout.specs.Space.{Put, written, changed}
use Rattle.layout.proofs.Laws.Space.{written_same, written_other, decide}
use Rattle.client.specs.declared.part.Set.{Set}
use Rattle.client.specs.declared.part.Set.TheVariants.{Reads, Writes, Copies}
use Rattle.client.specs.Layout.{ClientWord, client_again, client_words, field, item, vector_word, op_number, op_key, op_value, op_server, prepared, applied, reads_count, writes_count}
use Rattle.client.specs.Record.{in_store, number_in_store, record_in_range}
use Rattle.client.specs.Sets.{count, number_at}
use Rattle.client.specs.Commit.{is_at}
use Rattle.client.specs.Items.{all_below}
use Rattle.client.specs.Fits.{op_fits}
use Rattle.client.specs.Laws.Ranges.{bounds, field_fits, has_read, vector_fits, item_fits, client_fits, all_at, fits_field}
use Rattle.client.specs.Part.{put_field, put_word}
use Rattle.client.specs.Copies.{drop_all}
use Rattle.client.specs.Life.{lose_part}
use Rattle.client.specs.Course.{noted, decided}
use Rattle.demand.proofs.Laws.Frame.{Only, only_then, only_mono, only_keeps}
use Rattle.demand.proofs.Laws.Dropped.{Mark, Drop, only_all}
use Rattle.demand.proofs.Laws.Members.{one_more}
use Rattle.demand.proofs.Laws.Slots.{SameSets, count_frame, same_read, record_frame}

pub all_from : (f : ℕ → Bool) (n : ℕ) → ((i : ℕ) → i < n → f i ≡ true) → all_below n f ≡ true
unfolding all_below
all_from f zero h = refl
all_from f (suc n) h = rw (all_from f n (λ i l. h i (omega arith)), h n (omega arith))

-- the fields but the operation's and the counts
abbrev apart_field : ℕ → Bool
apart_field i = get_or (true ∷ false ∷ false ∷ false ∷ false ∷ true ∷ true ∷ true ∷ true ∷ true ∷ false ∷ false ∷ []) i true

-- a store that is in range, and none in the sets or the operation
unfoldable pub Harmless : ClientWord → ℕ → Type 0
Harmless (field i) v = (apart_field i ≡ true) × (v ≤ get_or bounds i 0)
Harmless (item Reads i n) v = ⊥
Harmless (item Writes i n) v = ⊥
Harmless (item Copies i n) v = Unit {0}
Harmless (vector_word s n) v = v ≤ 1

-- what is judged of fields and vectors
unfoldable Within : ClientWord → ℕ → Type 0
Within (field i) w = i < 13 → w ≤ get_or bounds i 0
Within (item s i n) w = Unit {0}
Within (vector_word s n) w = n ≡ 0 → s < 8 → w ≤ 1

harmless_within : (x : ClientWord) (w : ℕ) → Harmless x w → Within x w
unfolding Harmless Within
harmless_within (field i) w h = λ l. h.1
harmless_within (item Reads i n) w h = tt
harmless_within (item Writes i n) w h = tt
harmless_within (item Copies i n) w h = tt
harmless_within (vector_word s n) w h = λ e l. h

module _ (slots : ℕ) (u : ClientWord → ℕ) (fit : client_fits slots u ≡ true) where
  abbrev items : (ClientWord → ℕ) → Set → Bool
  items m s = all_below (count m s) (item_fits slots m s)

  -- what is judged
  pub judged : (op_fits slots u ≡ true) × (items u Reads ≡ true) × (items u Writes ≡ true) × (all_below 8 (vector_fits u) ≡ true)
  unfolding client_fits
  judged =
      let vectors = all_below 8 (vector_fits u) in
      let all = and_both (all_below 13 (field_fits u)) (op_fits slots u && (items u Reads && (items u Writes && vectors))) fit in
      let op = and_both (op_fits slots u) (items u Reads && (items u Writes && vectors)) all.1 in
      let reads = and_both (items u Reads) (items u Writes && vectors) op.1 in
      let writes = and_both (items u Writes) vectors reads.1 in
      (op.0, reads.0, writes.0, writes.1)

  -- the word that says whether there is a copy of a vector
  pub fits_vector : (s : ℕ) → s < 8 → u (vector_word s 0) ≤ 1
  unfolding vector_fits
  fits_vector s l = leb-true (u (vector_word s 0)) 1 (all_at (vector_fits u) 8 s judged.3 l)

  was_within : (x : ClientWord) → Within x (u x)
  unfolding Within
  was_within (field i) = λ l. fits_field slots u fit i l
  was_within (item s i n) = tt
  was_within (vector_word s n) = λ e l. subst (λ (i : ℕ). u (vector_word s i) ≤ 1) (sym e) (fits_vector s l)

  -- one store
  module _ (a : ClientWord) (v : ℕ) (h : Harmless a v) where
    g : ClientWord → ℕ
    g = written client_words u a v

    -- where there is no such store
    kept : (x : ClientWord) → ((w : ℕ) → ¬ (Harmless x w)) → g x ≡ u x
    unfolding g
    kept x n = written_other client_words client_again u a v x (λ q. n v (subst (λ y. Harmless y v) (sym q) h))

    same_sets : SameSets u g
    unfolding Harmless
    same_sets = record {
      reads = kept reads_count (λ w q. true≢false (sym q.0));
      writes = kept writes_count (λ w q. true≢false (sym q.0));
      items_read = λ i n. kept (item Reads i n) (λ w q. q);
      items_written = λ i n. kept (item Writes i n) (λ w q. q);
    }

    -- fields and vectors: as before, or the one stored
    within : (x : ClientWord) → Within x (g x)
    unfolding g
    within x = go (decide client_words client_again x a)
      where
        go : Dec (x ≡ a) → Within x (written client_words u a v x)
        go (yes q) =
            subst (Within x) (sym (subst (λ y. written client_words u a v y ≡ v) (sym q) (written_same client_words u a v)))
            (harmless_within x v (subst (λ y. Harmless y v) (sym q) h))
        go (no n) = subst (Within x) (sym (written_other client_words client_again u a v x n)) (was_within x)

    item_same : (s : Set) (i : ℕ) → ((n : ℕ) → g (item s i n) ≡ u (item s i n)) → has_read g s ≡ has_read u s → item_fits slots g s i ≡ item_fits slots u s i
    unfolding item_fits number_at
    item_same s i e r =
        let c = record_frame u g s i e in
        λ t. number_in_store slots (e 0 t) && (record_in_range slots (e 0 t) (c t) && r t (e 0 t))

    read_same : (s : Set) → has_read g s ≡ has_read u s
    unfolding has_read
    read_same Reads = refl
    read_same Writes = fun_ext (λ x. ap is_at (same_read u g 0 0 0 same_sets x))
    read_same Copies = refl

    items_same : (s : Set) → ((i n : ℕ) → g (item s i n) ≡ u (item s i n)) → items g s ≡ items u s
    items_same s e =
        ap₂ all_below (count_frame u g s same_sets.reads same_sets.writes) (fun_ext (λ i. item_same s i (e i) (read_same s)))

    op_same : op_fits slots g ≡ op_fits slots u
    unfolding op_fits Harmless
    op_same =
        let n = kept op_number (λ w q. true≢false (sym q.0)) in
        let k = kept op_key (λ w q. true≢false (sym q.0)) in
        let s = kept op_server (λ w q. true≢false (sym q.0)) in
        let v = kept op_value (λ w q. true≢false (sym q.0)) in
        λ t. leb (n t) 7 && cond (eqb (n t) 6) (in_store slots (k t) && ltb (s t) 8) (cond (eqb (n t) 7) (leb 1 (v t) && leb (v t) 32) true)

    pub store_fits : client_fits slots (written client_words u a v) ≡ true
    unfolding client_fits field_fits vector_fits Within g
    store_fits =
        let fields = all_from (field_fits g) 13 (λ i l. le-leb (g (field i)) (get_or bounds i 0) (within (field i) l)) in
        let vectors = all_from (vector_fits g) 8 (λ s l. le-leb (g (vector_word s 0)) 1 (within (vector_word s 0) refl l)) in
        let op = op_same ∙ judged.0 in
        let reads = items_same Reads same_sets.items_read ∙ judged.1 in
        let writes = items_same Writes same_sets.items_written ∙ judged.2 in
        rw (fields, op, reads, writes, vectors)

-- a list of such stores
pub stores_fit : (slots : ℕ) (ps : List (Put ClientWord)) (u : ClientWord → ℕ) → Only client_words Harmless ps
    → client_fits slots u ≡ true → client_fits slots (changed client_words u ps) ≡ true
stores_fit slots ps u h fit =
    only_keeps client_words Harmless (λ m. client_fits slots m ≡ true) (λ m a v q f. store_fits slots m f a v q) ps u h fit

-- ---- the steps of a decided transaction
module _ (slots : ℕ) (u : ClientWord → ℕ) (fit : client_fits slots u ≡ true) where
  module _ (s : ℕ) (l : s < 8) where
    pub prepared_fits : client_fits slots (changed client_words u (noted prepared s u)) ≡ true
    unfolding noted Only Harmless
    prepared_fits = stores_fit slots (noted prepared s u) u ((refl, one_more 8 s l (u prepared) (fits_field slots u fit 6 (omega arith))), tt) fit

    pub applied_fits : client_fits slots (changed client_words u (noted applied s u)) ≡ true
    unfolding noted Only Harmless
    applied_fits = stores_fit slots (noted applied s u) u ((refl, one_more 8 s l (u applied) (fits_field slots u fit 7 (omega arith))), tt) fit

  pub decision_fits : client_fits slots (changed client_words u (decided u)) ≡ true
  unfolding decided Only Harmless
  decision_fits = stores_fit slots (decided u) u ((refl, omega arith), tt) fit

  pub loss_fits : client_fits slots (changed client_words u (lose_part u)) ≡ true
  unfolding lose_part put_word Only Harmless Mark
  loss_fits =
      stores_fit slots (lose_part u) u
      (only_then client_words Harmless (put_field 9 1) drop_all u ((refl, omega arith), tt)
      (λ m. only_mono client_words Drop Harmless drop_harmless (drop_all m) (only_all m))) fit
    where
      drop_harmless : (a : ClientWord) (v : ℕ) → Drop a v → Harmless a v
      drop_harmless (field i) v h = (ap apart_field h.0, omega (arith, h.1))
      drop_harmless (item Reads i n) v h = h.0
      drop_harmless (item Writes i n) v h = h.0
      drop_harmless (item Copies i n) v h = tt
      drop_harmless (vector_word s n) v h = omega (arith, h.1)
