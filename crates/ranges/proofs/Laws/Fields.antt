-- The fields of a client's part stay in range while what is stored in them is.
use Rattle.std.specs.Prelude.{◌≡◌, refl, Bool, ◌&&◌, ℕ, zero, suc, ◌+◌, ◌≤◌, ◌<◌, eqb, get_or}
use Rattle.std.proofs.Common.{ap, sym, ◌∙◌}
use Rattle.std.proofs.Math.Path.{subst}
use Rattle.std.proofs.Math.Bool.{true, false, cond, true≢false}
use mathlib.Core.List.{List, [], ◌∷◌}
use native.Mathlib.Omega.{arith}
use Rattle.std.proofs.Math.Decide.{ℕ_discrete}
use borrow.Author.Tests.{eqb-true, ne_eqb, le-leb, lt-ltb}
use Rattle.std.proofs.Math.Dec.{leb, ltb}
use Rattle.layout.specs.Space.{Put, put, puts, written, changed}
use Rattle.layout.proofs.Laws.Space.{written_same, written_other, decide, puts_other}
use Rattle.layout.specs.Step.{and_then}
use Rattle.nodes.specs.declared.node.Node.{Node}
use Rattle.nodes.specs.Found.{Found}
use Rattle.std.specs.Prelude.{Some, None}
use Rattle.nodes.specs.States.{present}
use Rattle.operations.specs.Map.{two_to_64}
use Rattle.operations.proofs.Laws.Map.{HIs}
use Rattle.client.specs.declared.part.Set.{Set}
use Rattle.client.specs.declared.part.Set.TheVariants.{Reads, Copies}
use Rattle.client.specs.Layout.{ClientWord, client_code, client_again, client_words, field, item, vector_word, op_number, op_key, op_server, prepared, applied, fetched_vectors, op_value}
use Rattle.client.specs.Record.{in_store}
use Rattle.client.specs.Sets.{count, find}
use Rattle.client.specs.Items.{any_below}
use Rattle.client.specs.Fits.{op_fits, migrate_fits, list_fits}
use Rattle.client.specs.Laws.Ranges.{bounds}
use Rattle.client.specs.Part.{nothing, put_field, put_fields, put_item, put_vector, put_word}
use Rattle.client.specs.Participants.{calls_home, all_take_part, called_homes, states_read, participants_of, committing}
use Rattle.client.specs.Course.{noted, decided}
use Rattle.client.specs.Copies.{to_place, copy_node}
use Rattle.client.specs.Life.{reset, give_part}
use Rattle.client.specs.Fetched.{mark_fetched}
use Rattle.demand.proofs.Laws.Frame.{Only, only_mono, only_keeps, last, read_after}
use Rattle.demand.proofs.Laws.Members.{mask_lt, one_more}
use Rattle.demand.proofs.Laws.Dropped.{Mark, Drop}
use Rattle.demand.proofs.Laws.Behind.{Elsewhere, field_same}
use Rattle.ranges.specs.Laws.Sound.{FieldsSound}

-- the greatest value of a field
abbrev bound : ℕ → ℕ
bound i = get_or bounds i 0

-- a store leaves the operation that waits as it is, or takes it away
abbrev calm : ℕ → ℕ → Bool
calm i v = get_or (true ∷ eqb v 0 ∷ false ∷ false ∷ false ∷ []) i true

-- a store in range
unfoldable pub WithinStore : ClientWord → ℕ → Type 0
WithinStore (field i) v = (calm i v ≡ true) × (i < 13 → v ≤ bound i)
WithinStore (item s i n) v = Unit {0}
WithinStore (vector_word s n) v = Unit {0}

-- ---- one store, and a list of them
module _ (slots : ℕ) (u : ClientWord → ℕ) (a : ClientWord) (v : ℕ) (h : WithinStore a v) (F : FieldsSound slots u) where
  abbrev g : ClientWord → ℕ
  g = written client_words u a v

  now : (i : ℕ) → field i ≡ a → (g (field i) ≡ v) × (calm i v ≡ true) × (i < 13 → v ≤ bound i)
  unfolding WithinStore
  now i e =
      let q : WithinStore (field i) v = subst (λ y. WithinStore y v) (sym e) h in
      (subst (λ y. g y ≡ v) (sym e) (written_same client_words u a v), q.0, q.1)

  kept : (i : ℕ) → ¬ (field i ≡ a) → g (field i) ≡ u (field i)
  kept i n = written_other client_words client_again u a v (field i) n

  within_now : (i : ℕ) → i < 13 → g (field i) ≤ bound i
  within_now i l = go (decide client_words client_again (field i) a)
    where
      go : Dec (field i ≡ a) → g (field i) ≤ bound i
      go (yes e) = let q = now i e in subst (λ (x : ℕ). x ≤ bound i) (sym q.0) (q.2 l)
      go (no n) = subst (λ (x : ℕ). x ≤ bound i) (sym (kept i n)) (F.within i l)

  op_now : op_fits slots g ≡ true
  unfolding op_fits
  op_now = go (decide client_words client_again op_number a)
    where
      go : Dec (op_number ≡ a) → (leb (g op_number) 7 && cond (eqb (g op_number) 6) (migrate_fits slots g) (cond (eqb (g op_number) 7) (list_fits g) true)) ≡ true
      go (yes e) =
          let q = now 1 e in
          let none : g op_number ≡ 0 = q.0 ∙ eqb-true v 0 q.1 in
          rw none
      go (no n) =
          let k : g op_key ≡ u op_key = kept 2 (λ e. true≢false (sym (now 2 e).1)) in
          let s : g op_server ≡ u op_server = kept 4 (λ e. true≢false (sym (now 4 e).1)) in
          let w : g op_value ≡ u op_value = kept 3 (λ e. true≢false (sym (now 3 e).1)) in
          (λ t. leb (kept 1 n t) 7 && cond (eqb (kept 1 n t) 6) (in_store slots (k t) && ltb (s t) 8) (cond (eqb (kept 1 n t) 7) (leb 1 (w t) && leb (w t) 32) true)) ∙ F.op

  store_within : FieldsSound slots (written client_words u a v)
  store_within = record { within = within_now; op = op_now }

pub stores_within : (slots : ℕ) (u : ClientWord → ℕ) (ps : List (Put ClientWord)) → Only client_words WithinStore ps
    → FieldsSound slots u → FieldsSound slots (changed client_words u ps)
stores_within slots u ps h F =
    only_keeps client_words WithinStore (FieldsSound slots) (λ m a v q f. store_within slots m a v q f) ps u h F

-- what is dropped is in range
drop_within : (slots : ℕ) (a : ClientWord) (v : ℕ) → Drop a v → WithinStore a v
unfolding WithinStore Mark
drop_within slots (field i) v h =
    subst (λ (j : ℕ). (calm j v ≡ true) × (j < 13 → v ≤ bound j)) (sym h.0) (refl, λ l. omega (arith, h.1))
drop_within slots (item s i n) v h = tt
drop_within slots (vector_word s n) v h = tt

-- ---- one field changes, and none of the operation's: a count
module _ (slots : ℕ) (u v : ClientWord → ℕ) where
  field_sound : (f : ℕ) → 4 < f → ((i : ℕ) → i < 13 → ¬ (i ≡ f) → v (field i) ≡ u (field i)) → v (field f) ≤ bound f
      → FieldsSound slots u → FieldsSound slots v
  unfolding op_fits
  field_sound f l same b F = record {
    within = λ i q. go i q (ℕ_discrete i f);
    op =
        let n : v op_number ≡ u op_number = same 1 (omega arith) (λ e. absurd (omega arith)) in
        let k : v op_key ≡ u op_key = same 2 (omega arith) (λ e. absurd (omega arith)) in
        let s : v op_server ≡ u op_server = same 4 (omega arith) (λ e. absurd (omega arith)) in
        let w : v op_value ≡ u op_value = same 3 (omega arith) (λ e. absurd (omega arith)) in
        (λ t. leb (n t) 7 && cond (eqb (n t) 6) (in_store slots (k t) && ltb (s t) 8) (cond (eqb (n t) 7) (leb 1 (w t) && leb (w t) 32) true)) ∙ F.op;
  }
    where
      go : (i : ℕ) → i < 13 → Dec (i ≡ f) → v (field i) ≤ bound i
      go i q (yes e) = subst (λ (j : ℕ). v (field j) ≤ bound j) (sym e) b
      go i q (no n) = subst (λ (x : ℕ). x ≤ bound i) (sym (same i q n)) (F.within i q)

  -- only a set and its count change
  pub count_sound : (s : Set) (f : ℕ) → 4 < f → Elsewhere s f u v → v (field f) ≤ bound f → FieldsSound slots u → FieldsSound slots v
  count_sound s f l h = field_sound f l (λ i q n. field_same s f u v h i n)

-- ---- THE STEPS
module _ (slots : ℕ) (u : ClientWord → ℕ) where
  abbrev Stays : List (Put ClientWord) → Type 0
  Stays ps = FieldsSound slots u → FieldsSound slots (changed client_words u ps)

  reset_within : (p : ℕ) → p ≤ 1 → Only client_words WithinStore (reset p u)
  unfolding reset put_word put_fields puts and_then Only WithinStore
  reset_within p l = (
    (refl, λ q. omega arith),
    (
      (refl, λ q. omega arith),
      (
        (refl, λ q. omega arith),
        (
          (refl, λ q. omega arith),
          (
            (refl, λ q. omega arith),
            ((refl, λ q. omega arith), ((refl, λ q. omega arith), ((refl, λ q. omega arith), ((refl, λ q. omega arith), tt)))),
          ),
        ),
      ),
    ),
  )

  pub reset_fields : (p : ℕ) → p ≤ 1 → Stays (reset p u)
  reset_fields p l = stores_within slots u (reset p u) (reset_within p l)

  -- an operation that waits
  pub give_fields : (op key value server : ℕ) → op ≤ 7 → key < two_to_64 → value < two_to_64 → server < two_to_64
      → (op ≡ 6 → (in_store slots key ≡ true) × (server < 8)) → (op ≡ 7 → (1 ≤ value) × (value ≤ 32)) → Stays (give_part op key value server u)
  unfolding give_part put_fields puts op_fits
  give_fields op key value server o k v s m list F = record { within = go; op = fits (ℕ_discrete op 6) (ℕ_discrete op 7) }
    where
      ps : List (Put ClientWord)
      ps = give_part op key value server u

      at : (a : ClientWord) → changed client_words u ps a ≡ last client_words ps a (u a)
      at a = read_after client_words ps u a

      go : (i : ℕ) → i < 13 → changed client_words u ps (field i) ≤ bound i
      go zero l = rw (at (field 0)) (F.within 0 l)
      go (suc zero) l = rw (at (field 1)) o
      go (suc (suc zero)) l = rw (at (field 2)) (omega (arith, k, HIs))
      go (suc (suc (suc zero))) l = rw (at (field 3)) (omega (arith, v, HIs))
      go (suc (suc (suc (suc zero)))) l = rw (at (field 4)) (omega (arith, s, HIs))
      go (suc (suc (suc (suc (suc i))))) l = rw beyond (F.within (suc (suc (suc (suc (suc i))))) l)
        where
          beyond : changed client_words u ps (field (suc (suc (suc (suc (suc i)))))) ≡ u (field (suc (suc (suc (suc (suc i))))))
          beyond =
              puts_other client_words client_again (op ∷ key ∷ value ∷ server ∷ []) u (λ j. field (1 + j)) (field (suc (suc (suc (suc (suc i))))))
              (λ j q e. absurd (let x : suc (suc (suc (suc (suc i)))) ≡ 1 + j = ap (λ (a : ClientWord). get_or (client_code a) 1 0) e in omega arith))

      fits : Dec (op ≡ 6) → Dec (op ≡ 7) → op_fits slots (changed client_words u ps) ≡ true
      fits (yes e) f = rw (at op_number, at op_key, at op_server, (m e).0, lt-ltb server 8 (m e).1, e)
      fits (no n) (yes f) = rw (at op_number, at op_value, le-leb 1 value (list f).0, le-leb value 32 (list f).1, f)
      fits (no n) (no f) = rw (at op_number, le-leb op 7 o, ne_eqb op 6 n, ne_eqb op 7 f)

  -- it is answered
  pub answered_fields : Stays (put op_number 0 ∷ [])
  unfolding Only WithinStore
  answered_fields = stores_within slots u (put op_number 0 ∷ []) ((refl, λ l. omega arith), tt)

  -- ---- the course of a commit
  few_participants : participants_of u ≤ 255
  unfolding participants_of
  few_participants = go (all_take_part u)
    where
      go : (b : Bool) → cond b (present (states_read u)) (called_homes u (count u Reads)) ≤ 255
      go true = omega arith
      go false = omega (arith, mask_lt 8 (λ s. any_below (count u Reads) (calls_home u s)))

  pub committing_fields : Stays (committing u)
  unfolding committing Only WithinStore
  committing_fields = stores_within slots u (committing u) ((refl, λ l. omega arith), ((refl, λ l. few_participants), tt))

  module _ (s : ℕ) (l : s < 8) (F : FieldsSound slots u) where
    pub prepared_fields : FieldsSound slots (changed client_words u (noted prepared s u))
    unfolding noted Only WithinStore
    prepared_fields = stores_within slots u (noted prepared s u) ((refl, λ q. one_more 8 s l (u prepared) (F.within 6 (omega arith))), tt) F

    pub marked_fields : FieldsSound slots (changed client_words u (mark_fetched s u))
    unfolding mark_fetched put_word Only WithinStore
    marked_fields = stores_within slots u (mark_fetched s u) ((refl, λ q. one_more 8 s l (u fetched_vectors) (F.within 8 (omega arith))), tt) F

    pub applied_fields : FieldsSound slots (changed client_words u (noted applied s u))
    unfolding noted Only WithinStore
    applied_fields = stores_within slots u (noted applied s u) ((refl, λ q. one_more 8 s l (u applied) (F.within 7 (omega arith))), tt) F

  pub decided_fields : Stays (decided u)
  unfolding decided Only WithinStore
  decided_fields = stores_within slots u (decided u) ((refl, λ l. omega arith), tt)

  -- a lost client's mark
  pub lost_fields : Stays (put_field 9 1 u)
  unfolding put_word Only WithinStore
  lost_fields = stores_within slots u (put_field 9 1 u) ((refl, λ l. omega arith), tt)

  -- copies are dropped
  pub dropped_fields : (ps : List (Put ClientWord)) → Only client_words Drop ps → Stays ps
  dropped_fields ps h = stores_within slots u ps (only_mono client_words Drop WithinStore (drop_within slots) ps h)

-- ---- words of copies
module _ (slots : ℕ) where
  abbrev Fine : List (Put ClientWord) → Type 0
  Fine = Only client_words WithinStore

  -- a record's words
  pub words_within : (g : ℕ → ClientWord) (vs : List ℕ) → ((i v : ℕ) → WithinStore (g i) v) → Fine (puts client_words g vs)
  unfolding Only puts
  words_within g [] h = tt
  words_within g (v ∷ vs) h = (h 0 v, words_within (λ i. g (suc i)) vs (λ i. h (suc i)))

  copy_within : (x : ℕ) (r : Node) (u : ClientWord → ℕ) → Fine (copy_node x r u)
  unfolding copy_node put_item nothing Only WithinStore
  copy_within x r u = go (find u Copies x) (find u Copies 0)
    where
      go : (a b : Found) → Fine (to_place x r a b u)
      go (Some p) b = words_within (item Copies p) _ (λ i v. tt)
      go None (Some p) = words_within (item Copies p) _ (λ i v. tt)
      go None None = tt

  meta_within : (root states version : ℕ) → states < 65536 → (u : ClientWord → ℕ) → Fine (put_fields 12 (states ∷ root ∷ version ∷ []) u)
  unfolding put_fields puts Only WithinStore
  meta_within root states version few u = ((refl, λ l. omega arith), ((refl, λ l. absurd (omega arith)), ((refl, λ l. absurd (omega arith)), tt)))

  vector_within : (s : ℕ) (ws : List ℕ) (u : ClientWord → ℕ) → Fine (put_vector s ws u)
  unfolding put_vector WithinStore
  vector_within s ws u = words_within (vector_word s) _ (λ i v. tt)

  module _ (u : ClientWord → ℕ) (F : FieldsSound slots u) where
    pub meta_fields : (root states version : ℕ) → states < 65536 → FieldsSound slots (changed client_words u (put_fields 12 (states ∷ root ∷ version ∷ []) u))
    meta_fields root states version few = stores_within slots u (put_fields 12 (states ∷ root ∷ version ∷ []) u) (meta_within root states version few u) F

    pub copied_fields : (x : ℕ) (r : Node) → FieldsSound slots (changed client_words u (copy_node x r u))
    copied_fields x r = stores_within slots u (copy_node x r u) (copy_within x r u) F

    pub vector_fields : (s : ℕ) (ws : List ℕ) → FieldsSound slots (changed client_words u (put_vector s ws u))
    vector_fields s ws = stores_within slots u (put_vector s ws u) (vector_within s ws u) F
