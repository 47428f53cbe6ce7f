-- The copies of a client's part stay sound: where they stay, where there are fewer, and where one is made.
use Rattle.std.specs.Prelude.{◌≡◌, refl, Bool, true, false, ltb}
use Rattle.std.proofs.Math.Path.{ap, subst}
use Rattle.std.proofs.Common.{sym, ◌∙◌, arith}
use mathlib.Core.List.{List, [], ◌∷◌}
use Prim.Native.Nat.{ℕ, suc, ◌≤◌, ◌<◌}
use Rattle.std.proofs.Math.Decide.{ℕ_discrete}
use Rattle.std.proofs.Math.ListN.{get_or}
use Rattle.layout.specs.Space.{Put, put, tab, puts, changed}
use Rattle.layout.proofs.Laws.Space.{puts_other, puts_same, Only, changed_only}
use Rattle.layout.specs.Step.{and_then}
use Rattle.nodes.specs.declared.node.Node.{Node}
use Rattle.nodes.specs.Found.{Found}
use Rattle.std.specs.Prelude.{Some, None}
use Rattle.nodes.proofs.Laws.Stored.{Sized}
use Rattle.client.specs.declared.part.Set.{Set}
use Rattle.client.specs.declared.part.Set.TheVariants.{Reads, Writes, Copies}
use Rattle.client.specs.Layout.{ClientWord, client_again, client_words, field, item, vector_word, op_number, reads_count, writes_count, meta_states, meta_root, meta_version}
use Rattle.client.specs.Record.{metadata}
use Rattle.client.specs.Sets.{record_at, find}
use Rattle.client.specs.Part.{nothing, put_field, put_fields, put_vector, put_word}
use Rattle.client.specs.Participants.{committing}
use Rattle.client.specs.Course.{noted, decided}
use Rattle.client.specs.Copies.{to_place, copy_node}
use Rattle.client.specs.Life.{reset, give_part}
use Rattle.client.specs.Fetched.{mark_fetched}
use Rattle.demand.proofs.Laws.Frame.{last, read_after}
use Rattle.demand.proofs.Laws.Slots.{SameSets, record_frame, record_later}
use Rattle.demand.proofs.Laws.Placed.{family, which, word_in, placed, placed_record, placed_beside, placed_else}
use Rattle.demand.proofs.Laws.Dropped.{Mark, Drop, Fewer, fewer, kept_word, still_there}
use Rattle.demand.proofs.Laws.Behind.{Elsewhere, field_same, set_same, vector_same}
use Rattle.ranges.specs.Laws.Sound.{Sound, InnerSound, CopiesSound}
use Rattle.demand.proofs.Laws.Frame as Frame

-- ---- copies that stay, one by one and all
module _ (slots : ℕ) (u v : ClientWord → ℕ) (h : CopiesSound slots u) where
  meta_stays : v meta_states ≡ u meta_states → v meta_root ≡ u meta_root → v meta_version ≡ u meta_version
      → ¬ (v meta_states ≡ 0) → Sound slots 0 (metadata (v meta_version) (v meta_root) (v meta_states))
  meta_stays a b c n = coe 1 0 (t. Sound slots 0 (metadata (c t) (b t) (a t))) (h.meta_copy (λ q. n (a ∙ q)))

  node_stays : (i : ℕ) → ((n : ℕ) → v (item Copies i n) ≡ u (item Copies i n)) → i < 64 → ¬ (v (item Copies i 0) ≡ 0) → InnerSound slots (record_at v Copies i)
  node_stays i e l n = subst (InnerSound slots) (sym (record_frame u v Copies i e)) (h.copies i l (λ q. n (e 0 ∙ q)))

  vector_stays : (s : ℕ) → v (vector_word s 0) ≡ u (vector_word s 0) → s < 8 → v (vector_word s 0) ≤ 1
  vector_stays s e l = subst (λ (x : ℕ). x ≤ 1) (sym e) (h.vectors s l)

  copies_frame : v meta_states ≡ u meta_states → v meta_root ≡ u meta_root → v meta_version ≡ u meta_version
      → ((i n : ℕ) → v (item Copies i n) ≡ u (item Copies i n)) → ((s : ℕ) → v (vector_word s 0) ≡ u (vector_word s 0)) → CopiesSound slots v
  copies_frame a b c d e = record { meta_copy = meta_stays a b c; copies = λ i. node_stays i (d i); vectors = λ s. vector_stays s (e s) }

  -- where only a set and its count change
  copies_elsewhere : (s : Set) (f : ℕ) → ¬ (family (item Copies 0 0) ≡ family (item s 0 0)) → f < 12 → Elsewhere s f u v → CopiesSound slots v
  copies_elsewhere s f c l e =
      copies_frame (field_same s f u v e 12 (λ q. absurd (omega arith))) (field_same s f u v e 13 (λ q. absurd (omega arith)))
      (field_same s f u v e 14 (λ q. absurd (omega arith))) (set_same s f u v e Copies c) (λ t. vector_same s f u v e t 0)

  pub copies_read : Elsewhere Reads 10 u v → CopiesSound slots v
  copies_read = copies_elsewhere Reads 10 (λ e. absurd (omega arith)) (omega arith)

  pub copies_written : Elsewhere Writes 11 u v → CopiesSound slots v
  copies_written = copies_elsewhere Writes 11 (λ e. absurd (omega arith)) (omega arith)

  -- ---- fewer copies
  fewer_sound : Fewer u v → CopiesSound slots v
  unfolding Mark
  fewer_sound w = record {
    meta_copy = λ n. meta_stays (still_there u v w meta_states n) (kept_word u v w meta_root (λ e. absurd (omega (arith, e))))
        (kept_word u v w meta_version (λ e. absurd (omega (arith, e)))) n;
    copies = λ i l n. subst (InnerSound slots) (sym (words i)) (h.copies i l (λ q. n (still_there u v w (item Copies i 0) n ∙ q)));
    vectors = λ s l. of_vector s l (ℕ_discrete (v (vector_word s 0)) 0);
  }
    where
      words : (i : ℕ) → record_at v Copies i ≡ record_at u Copies i
      words i = record_later u v Copies i (λ n. kept_word u v w (item Copies i (suc n)) (λ e. absurd (omega (arith, e))))

      of_vector : (s : ℕ) → s < 8 → Dec (v (vector_word s 0) ≡ 0) → v (vector_word s 0) ≤ 1
      of_vector s l (yes e) = omega (arith, e)
      of_vector s l (no n) = vector_stays s (still_there u v w (vector_word s 0) n) l

module _ (slots : ℕ) (u : ClientWord → ℕ) (h : CopiesSound slots u) where
  pub dropped_copies : (ps : List (Put ClientWord)) → Frame.Only client_words Drop ps → CopiesSound slots (changed client_words u ps)
  dropped_copies ps o = fewer_sound slots u (changed client_words u ps) h (fewer ps u o)

  pub reset_copies : (p : ℕ) → CopiesSound slots (changed client_words u (reset p u))
  unfolding reset put_word put_fields puts and_then
  reset_copies p =
      copies_frame slots u (changed client_words u (reset p u)) h (at meta_states) (at meta_root) (at meta_version)
      (λ i n. at (item Copies i n)) (λ s. at (vector_word s 0))
    where
      at : (a : ClientWord) → changed client_words u (reset p u) a ≡ last client_words (reset p u) a (u a)
      at a = read_after client_words (reset p u) u a

  -- ---- a node's copy
  module _ (x : ℕ) (r : Node) (w : Sized r) (n : InnerSound slots r) where
    -- at place p
    placed_sound : (p : ℕ) → CopiesSound slots (placed Copies p x r w u)
    placed_sound p = record {
      meta_copy = meta_stays slots u v h (at_field 12) (at_field 13) (at_field 14);
      copies = λ i. by_place i (ℕ_discrete i p);
      vectors = λ s. vector_stays slots u v h s (placed_else Copies p x r w u (vector_word s 0) (λ e. absurd (omega (arith, e))));
    }
      where
        v : ClientWord → ℕ
        v = placed Copies p x r w u

        at_field : (i : ℕ) → v (field i) ≡ u (field i)
        at_field i = placed_else Copies p x r w u (field i) (λ e. absurd (omega (arith, e)))

        by_place : (i : ℕ) → Dec (i ≡ p) → i < 64 → ¬ (v (item Copies i 0) ≡ 0) → InnerSound slots (record_at v Copies i)
        by_place i (yes e) l q = subst (InnerSound slots) (sym (ap (record_at v Copies) e ∙ placed_record Copies p x r w u)) n
        by_place i (no d) l q = node_stays slots u v h i (λ j. placed_beside Copies p x r w u i j d) l q

    pub copy_node_sound : CopiesSound slots (changed client_words u (copy_node x r u))
    unfolding copy_node nothing changed
    copy_node_sound = go (find u Copies x) (find u Copies 0)
      where
        go : (a b : Found) → CopiesSound slots (changed client_words u (to_place x r a b u))
        go (Some p) b = placed_sound p
        go None (Some p) = placed_sound p
        go None None = h

  -- ---- the metadata's copy
  pub meta_sound : (root states version : ℕ) → Sound slots 0 (metadata version root states) → CopiesSound slots (changed client_words u (put_fields 12 (states ∷ root ∷ version ∷ []) u))
  unfolding put_fields puts
  meta_sound root states version s = record {
    meta_copy = λ n. coe 1 0 (t. Sound slots 0 (metadata (at meta_version t) (at meta_root t) (at meta_states t))) s;
    copies = λ i. node_stays slots u v h i (λ n. at (item Copies i n));
    vectors = λ t. vector_stays slots u v h t (at (vector_word t 0));
  }
    where
      v : ClientWord → ℕ
      v = changed client_words u (put_fields 12 (states ∷ root ∷ version ∷ []) u)

      at : (a : ClientWord) → v a ≡ last client_words (put_fields 12 (states ∷ root ∷ version ∷ []) u) a (u a)
      at a = read_after client_words (put_fields 12 (states ∷ root ∷ version ∷ []) u) u a

  -- ---- a vector's copy
  pub vector_sound : (s : ℕ) (ws : List ℕ) → CopiesSound slots (changed client_words u (put_vector s ws u))
  unfolding put_vector
  vector_sound s ws = record {
    meta_copy = meta_stays slots u v h (at_field 12) (at_field 13) (at_field 14);
    copies = λ i. node_stays slots u v h i (λ n. elsewhere (item Copies i n) (λ q e. absurd (omega (arith, ap family e))));
    vectors = λ t. by_server t (ℕ_discrete t s);
  }
    where
      words : List ℕ
      words = 1 ∷ tab 16 (λ j. get_or ws j 0)

      v : ClientWord → ℕ
      v = changed client_words u (put_vector s ws u)

      elsewhere : (a : ClientWord) → ((q : ℕ) → ¬ (a ≡ vector_word s q)) → v a ≡ u a
      elsewhere a d = puts_other client_words client_again words u (vector_word s) a (λ q l. d q)

      at_field : (i : ℕ) → v (field i) ≡ u (field i)
      at_field i = elsewhere (field i) (λ q e. absurd (omega (arith, ap family e)))

      one : v (vector_word s 0) ≡ 1
      one = puts_same client_words client_again words u (vector_word s) (λ i j e. ap word_in e) 0 (omega arith)

      by_server : (t : ℕ) → Dec (t ≡ s) → t < 8 → v (vector_word t 0) ≤ 1
      by_server t (yes e) l = omega (arith, ap (λ (x : ℕ). v (vector_word x 0)) e ∙ one)
      by_server t (no d) l = vector_stays slots u v h t (elsewhere (vector_word t 0) (λ q e. d (ap which e))) l

-- ---- stores in the fields before the counts: the copies stay, and the sets
abbrev pub before_counts : ClientWord → Bool
before_counts (field i) = ltb i 10
before_counts (item s i n) = false
before_counts (vector_word s n) = false

module _ (u : ClientWord → ℕ) (ps : List (Put ClientWord)) (o : Only client_words before_counts ps) where
  abbrev v : ClientWord → ℕ
  v = changed client_words u ps

  same : (a : ClientWord) → before_counts a ≡ false → v a ≡ u a
  same a e = changed_only client_words client_again before_counts ps u a o e

  pub fields_copies : (slots : ℕ) → CopiesSound slots u → CopiesSound slots (changed client_words u ps)
  fields_copies slots h =
      copies_frame slots u v h (same meta_states refl) (same meta_root refl) (same meta_version refl) (λ i n. same (item Copies i n) refl) (λ s. same (vector_word s 0) refl)

  pub fields_sets : SameSets u (changed client_words u ps)
  fields_sets = record {
    reads = same reads_count refl;
    writes = same writes_count refl;
    items_read = λ i n. same (item Reads i n) refl;
    items_written = λ i n. same (item Writes i n) refl;
  }

pub only_answered : Only client_words before_counts (put op_number 0 ∷ [])
unfolding Only
only_answered = (refl, tt)

module _ (u : ClientWord → ℕ) where
  pub only_give : (op key value server : ℕ) → Only client_words before_counts (give_part op key value server u)
  unfolding give_part put_fields puts Only
  only_give op key value server = (refl, (refl, (refl, (refl, tt))))

  pub only_committing : Only client_words before_counts (committing u)
  unfolding committing Only
  only_committing = (refl, (refl, tt))

  -- prepared or applied
  pub only_noted : (a : ClientWord) → before_counts a ≡ true → (s : ℕ) → Only client_words before_counts (noted a s u)
  unfolding noted Only
  only_noted a e s = (e, tt)

  pub only_decided : Only client_words before_counts (decided u)
  unfolding decided Only
  only_decided = (refl, tt)

  pub only_lost : Only client_words before_counts (put_field 9 1 u)
  unfolding put_word Only
  only_lost = (refl, tt)

  pub only_marked : (s : ℕ) → Only client_words before_counts (mark_fetched s u)
  unfolding mark_fetched put_word Only
  only_marked s = (refl, tt)
