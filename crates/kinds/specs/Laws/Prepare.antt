-- Laws of a prepare's code.
use Rattle.std.specs.Prelude.{◌≡◌, Bool, false, cond, ◌&&◌, ◌||◌, not, List, [], ◌∷◌, ℕ, ◌≤◌, ◌<◌, eqb, ltb, length}
use Rattle.std.proofs.Math.Path.{refl, ap, fun_ext}
use Rattle.std.proofs.Common.{sym, ap₂, ◌∙◌, subst, arith}
use Rattle.std.proofs.Math.Bool.{true}
use borrow.Author.Tests.{eq-eqb, ne_eqb, not-true, not-false}
use Rattle.memory.specs.Word.{view}
use Rattle.memory.proofs.Laws.Word.{view_length}
use Rattle.memory.specs.Bit.{put_bit}
use Rattle.layout.specs.Space.{put, changed, stored}
use Rattle.layout.proofs.Laws.Space.{written_apart, AllValid}
use Rattle.layout.specs.Step.{Does, silent, stepped, and_then}
use Rattle.layout.proofs.Laws.Step.{stored_append, changed_append, does_then, does_mem, valid_append}
use Rattle.layout.specs.Part.{over, in_part}
use Rattle.nodes.specs.declared.node.Node.{Node}
use Rattle.nodes.specs.Found.{Found}
use Rattle.std.specs.Prelude.{Some, None}
use Rattle.client.specs.declared.part.Set.{Set}
use Rattle.client.specs.declared.part.Set.TheVariants.{Reads, Writes, Copies}
use Rattle.client.specs.Layout.{ClientWord, client_words, field, item, vector_word, reads_count, writes_count}
use Rattle.client.specs.Sets.{count, number_at, record_at, find}
use Rattle.client.specs.Items.{all_below, has, of_record, inner, inner_in, inner_before_after}
use Rattle.client.specs.Participants.{at_home}
use Rattle.client.specs.Fits.{is_read, young, read_fits, version_fits, stored_record_fits, write_fits, writes_fit, fit_to_prepare, fit_to_apply}
use Rattle.client.specs.Record.{last_version}
use Rattle.client.specs.Drops.{version_of}
use Rattle.client.specs.Course.{noted, decided}
use Rattle.client.specs.Part.{put_word}
use Rattle.client.specs.Laws.Steps.{Good, good_field}
use Rattle.steps.specs.declared.sizes.Sizes.{Sizes}
use Rattle.steps.specs.declared.outcome.Outcome.{Outcome}
use Rattle.steps.specs.declared.outcome.Outcome.TheVariants.{Refused, Prepared, Decided}
use Rattle.kinds.specs.declared.locks.Change.TheVariants.{Lock}
use Rattle.steps.specs.Whole.{Address, client, whole, block, words_for}
use Rattle.steps.proofs.Laws.Stores.{client_of, client_changed}
use Rattle.steps.specs.Servers.{there}
use Rattle.steps.specs.Steps.{Did, did, then, covers, abort, applied_at, prepared_at, checked_prepare, prepare}
use Rattle.kinds.specs.Parts.{StoreIn, stored_in}
use Rattle.kinds.specs.Items.{read_item}
use Rattle.kinds.specs.Judge.{of_client}
use Rattle.kinds.specs.Fits.{InSet, Known}
use Rattle.kinds.specs.declared.findings.Fault.{Fault}
use Rattle.kinds.specs.Abort.{stops}
use Rattle.kinds.specs.Findings.{fault_number, prepare_found}
use Rattle.kinds.specs.Locks.{rule, passing, upto, changes}
use Rattle.kinds.specs.Kinds.{Meets}
use Rattle.kinds.specs.Laws.Kinds.{meets_did, meets_as, meets_refused, then_client, client_inside}
use Rattle.kinds.specs.Laws.Abort.{changes_apart, stopped}
use Rattle.kinds.specs.Course.{mark}
use Rattle.kinds.specs.Writes.{Storing}
use Rattle.kinds.specs.Laws.Known.{apply_storing}
use Rattle.kinds.specs.Laws.Apply.{good_noted}
use Rattle.kinds.specs.Prepare.{prepares, decides, applies_too}

pub is_prepared : (z : Sizes) (c s : ℕ) (b₀ b b' : List ℕ) → StoreIn z (length b₀) → Known z (view b₀) c → s < 8
    → Does whole (block z) (changes z c s Lock) silent (view b₀) 0 (view b) → Does whole (block z) (in_part (client c) (noted (field 6) s)) silent (view b) 0 (view b')
    → Does whole (block z) (prepares z c s) silent (view b₀) 0 (view b')
unfolding prepares changes rule passing upto read_item in_part
is_prepared z c s b₀ b b' hold known h p q =
    then_client z c (changes z c s Lock) (noted (field 6) s) b₀ b b' hold (changes_apart z c s Lock (view b₀) h known) p q

pub is_decided : (z : Sizes) (c s : ℕ) (w u w' : List ℕ) → Does whole (block z) (prepares z c s) silent w 0 u → Does whole (block z) (in_part (client c) (mark 0 3)) silent u 0 w'
    → Does whole (block z) (decides z c s) silent w 0 w'
unfolding decides prepares decided in_part mark over stepped
is_decided z c s w u w' p q =
    record {
      answer = refl;
      words = q.words ∙ ap (λ (v : List ℕ). stored whole (block z) v (put (client c (field 0)) 3 ∷ [])) p.words
          ∙ sym (stored_append whole (block z) (prepares z c s (stored_in z w)) (put (client c (field 0)) 3 ∷ []) w);
    }

-- ---- what the sets of a client hold depends on items and counts alone
kept_words : (Set → ℕ → ℕ → ℕ) → ℕ → ℕ → ClientWord → ℕ
kept_words h a b (field i) = cond (eqb i 10) a b
kept_words h a b (item s i j) = h s i j
kept_words h a b (vector_word s j) = 0

abbrev kept : (ClientWord → ℕ) → ClientWord → ℕ
kept u = kept_words (λ s i j. u (item s i j)) (u reads_count) (u writes_count)

record_kept : (u : ClientWord → ℕ) (s : Set) (g : Node → Bool) (f : Found) → of_record u s g f ≡ of_record (kept u) s g f
unfolding kept_words record_at
record_kept u s g (Some i) = refl
record_kept u s g None = refl

version_kept : (u : ClientWord → ℕ) (f : Found) → version_of u f ≡ version_of (kept u) f
unfolding kept_words record_at
version_kept u (Some i) = refl
version_kept u None = refl

stores_kept : (t : ℕ) (u : ClientWord → ℕ) (s : ℕ) → writes_fit t u s ≡ writes_fit t (kept u) s
unfolding writes_fit write_fits read_fits is_read stored_record_fits version_fits young inner_before_after inner_in kept_words count number_at record_at find has
stores_kept t u s = ap (all_below (count u Writes)) (fun_ext (λ i. ap (λ (b : Bool). read_fits u i && (stored_record_fits t u s i && b)) (one (number_at u Writes i))))
  where
    one : (x : ℕ) → (not (at_home s x || (of_record u Reads (inner x) (find u Reads x) || of_record u Writes (inner x) (find u Writes x)))
        || (ltb 8192 x || ltb (version_of u (find u Reads x)) last_version))
        ≡ (not (at_home s x || (of_record (kept u) Reads (inner x) (find u Reads x) || of_record (kept u) Writes (inner x) (find u Writes x)))
        || (ltb 8192 x || ltb (version_of (kept u) (find u Reads x)) last_version))
    one x = rw (record_kept u Reads (inner x) (find u Reads x), record_kept u Writes (inner x) (find u Writes x), version_kept u (find u Reads x))

reads_kept : (z : Sizes) (u : ClientWord → ℕ) → InSet z Reads u ≡ InSet z Reads (kept u)
unfolding kept_words count number_at
reads_kept z u = refl

writes_kept : (z : Sizes) (u : ClientWord → ℕ) → InSet z Writes u ≡ InSet z Writes (kept u)
unfolding kept_words count number_at
writes_kept z u = refl

-- one field of the course changes neither
module _ (u : ClientWord → ℕ) (v : ℕ) where
  abbrev with_field : ℕ → ClientWord → ℕ
  with_field i = changed client_words u (put (field i) v ∷ [])

  item_stays : (i : ℕ) (s : Set) (p j : ℕ) → with_field i (item s p j) ≡ u (item s p j)
  unfolding changed
  item_stays i Reads p j = written_apart client_words u (field i) v (item Reads p j) refl
  item_stays i Writes p j = written_apart client_words u (field i) v (item Writes p j) refl
  item_stays i Copies p j = written_apart client_words u (field i) v (item Copies p j) refl

  items_stay : (i : ℕ) → ◌≡◌ {A = Set → ℕ → ℕ → ℕ} (λ s p j. with_field i (item s p j)) (λ s p j. u (item s p j))
  items_stay i = fun_ext (λ s. fun_ext (λ p. fun_ext (λ j. item_stays i s p j)))

  kept_stays : (i : ℕ) → with_field i reads_count ≡ u reads_count → with_field i writes_count ≡ u writes_count → kept (with_field i) ≡ kept u
  kept_stays i e f =
      ap (λ (h : Set → ℕ → ℕ → ℕ). kept_words h (with_field i reads_count) (with_field i writes_count)) (items_stay i)
      ∙ ap₂ (kept_words (λ s p j. u (item s p j))) e f

  kept_prepared : kept (with_field 6) ≡ kept u
  unfolding changed
  kept_prepared = kept_stays 6 (written_apart client_words u (field 6) v (field 10) refl) (written_apart client_words u (field 6) v (field 11) refl)

  kept_phase : kept (with_field 0) ≡ kept u
  unfolding changed
  kept_phase = kept_stays 0 (written_apart client_words u (field 0) v (field 10) refl) (written_apart client_words u (field 0) v (field 11) refl)

-- ---- after a decision
module _ (z : Sizes) (c s : ℕ) (b₀ b : List ℕ) (hold : StoreIn z (length b₀)) (k : c < z.clients) (known : Known z (view b₀) c) (h : s < 8) (p : Does whole (block z) (decides z c s) silent (view b₀) 0 (view b)) where
  abbrev before : Address → ℕ
  before = stored_in z (view b₀)

  abbrev mine : ClientWord → ℕ
  mine = client_of before c

  room : words_for z ≤ length (view b₀)
  room = omega (arith, hold.room, view_length b₀)

  good_decided : Good decided
  unfolding decided put_word
  good_decided = record { all = λ m. (good_field 0 3 (omega arith)).all m }

  decides_inside : AllValid whole (block z) (decides z c s before)
  unfolding decides prepares changes rule passing upto read_item in_part
  decides_inside =
      valid_append whole (block z) (prepares z c s before) (in_part (client c) decided before)
      (valid_append whole (block z) (changes z c s Lock before) (in_part (client c) (noted (field 6) s) before) (changes_apart z c s Lock (view b₀) h known).valid
      (client_inside z c (noted (field 6) s) before k (good_noted 6 s (omega arith))))
      (client_inside z c decided before k good_decided)

  after : stored_in z (view b) ≡ changed whole before (decides z c s before)
  unfolding words_for
  after = does_mem whole (block z) (decides z c s) silent (view b₀) 0 (view b) p room decides_inside

  prepared_words : client_of (changed whole before (prepares z c s before)) c ≡ changed client_words mine (noted (field 6) s mine)
  unfolding prepares changes rule passing upto read_item
  prepared_words =
      let L = changes z c s Lock before in
      ap (λ (u : Address → ℕ). client_of u c) (changed_append whole L (over (client c) (noted (field 6) s mine)) before)
      ∙ client_changed (changed whole before L) c (noted (field 6) s mine)
      ∙ ap (λ (u : ClientWord → ℕ). changed client_words u (noted (field 6) s mine)) (changes_apart z c s Lock (view b₀) h known).stays

  decided_words : client_of (stored_in z (view b)) c ≡ changed client_words (changed client_words mine (noted (field 6) s mine)) (decided mine)
  unfolding decides prepares
  decided_words =
      ap (λ (u : Address → ℕ). client_of u c) after
      ∙ ap (λ (u : Address → ℕ). client_of u c) (changed_append whole (prepares z c s before) (over (client c) (decided mine)) before)
      ∙ client_changed (changed whole before (prepares z c s before)) c (decided mine)
      ∙ ap (λ (u : ClientWord → ℕ). changed client_words u (decided mine)) prepared_words

  kept_same : kept (of_client z (view b) c) ≡ kept (of_client z (view b₀) c)
  unfolding noted decided
  kept_same =
      let v = put_bit true (mine (field 6)) s in
      ap kept decided_words ∙ kept_phase (changed client_words mine (put (field 6) v ∷ [])) 3 ∙ kept_prepared mine v

  as_kept : (F : (ClientWord → ℕ) → Type 0) → ((u : ClientWord → ℕ) → F u ≡ F (kept u)) → F (of_client z (view b₀) c) → F (of_client z (view b) c)
  as_kept F e h = subst (λ (t : Type 0). t) (sym (e (of_client z (view b) c) ∙ ap F kept_same ∙ sym (e (of_client z (view b₀) c)))) h

  pub decided_known : Known z (view b) c
  decided_known = record { known = as_kept (InSet z Reads) (reads_kept z) known.known }

  pub decided_storing : Storing z (view b₀) c s → Storing z (view b) c s
  decided_storing f = record {
    written = as_kept (InSet z Writes) (writes_kept z) f.written;
    fits = as_kept (λ u. writes_fit z.slots u s ≡ true) (λ u. ap (λ (x : Bool). x ≡ true) (stores_kept z.slots u s)) f.fits;
  }

module _ (z : Sizes) (c s : ℕ) (d : Bool) where
  pub too_refused : (w : List ℕ) → d ≡ fit_to_apply z.slots (of_client z w c) s true → not d ≡ true → Meets z (applies_too z c s) w (Refused 10) w
  unfolding applies_too
  too_refused w e t = meets_refused z w 10 (applies_too z c s) (sym (rw (← e, not-true d t)))

  pub too_storing : (b₀ b : List ℕ) → StoreIn z (length b₀) → c < z.clients → Known z (view b₀) c → s < 8 → d ≡ fit_to_apply z.slots (of_client z (view b₀) c) s true → not d ≡ false
      → Does whole (block z) (decides z c s) silent (view b₀) 0 (view b) → Storing z (view b) c s
  too_storing b₀ b hold k known h e t p = decided_storing z c s b₀ b hold k known h p (apply_storing z (view b₀) c d t s true e)

  pub too_applied : (b₀ b b' : List ℕ) (o : Outcome) → StoreIn z (length b₀) → c < z.clients → Known z (view b₀) c → s < 8
      → d ≡ fit_to_apply z.slots (of_client z (view b₀) c) s true → not d ≡ false
      → Does whole (block z) (decides z c s) silent (view b₀) 0 (view b) → Meets z (λ m. applied_at z m c s) (view b) o (view b') → Meets z (applies_too z c s) (view b₀) o (view b')
  unfolding applies_too and_then words_for
  too_applied b₀ b b' o hold k known h e t p q =
      let f : (Address → ℕ) → Did = λ m. applied_at z m c s in
      meets_as z (view b₀) o (view b') (λ m. then m (decides z c s m) f) (applies_too z c s) (sym (rw (← e, not-false d t)))
      (does_then whole (block z) (decides z c s) (λ m. (f m).stores) silent (λ m. (f m).outcome) (view b₀) (view b) (view b') 0 o (room z c s b₀ b hold k known h p)
      (decides_inside z c s b₀ b hold k known h p) p q)

-- ---- no fault
module _ (z : Sizes) (c s : ℕ) (w w' : List ℕ) (last : Bool) (e : last ≡ covers 8 (of_client z w c (field 5)) (put_bit true (of_client z w c (field 6)) s)) where
  pub not_last : not last ≡ true → Does whole (block z) (prepares z c s) silent w 0 w' → Meets z (λ m. prepared_at z m c s) w (Prepared s) w'
  unfolding prepared_at prepares
  not_last t d =
      meets_as z w (Prepared s) w' (λ m. did (Prepared s) (prepares z c s m)) (λ m. prepared_at z m c s) (sym (rw (← e, not-true last t)))
      (meets_did z w (Prepared s) w' (prepares z c s) d)

  module _ (only : Bool) (f : only ≡ eqb (of_client z w c (field 5)) (put_bit true 0 s)) (t : not last ≡ false) where
    pub last_only : (o : Outcome) → only ≡ true → Meets z (applies_too z c s) w o w' → Meets z (λ m. prepared_at z m c s) w o w'
    unfolding prepared_at applies_too decides
    last_only o u d = meets_as z w o w' (applies_too z c s) (λ m. prepared_at z m c s) (sym (rw (← e, not-false last t, ← f, u))) d

    pub last_decides : only ≡ false → Does whole (block z) (decides z c s) silent w 0 w' → Meets z (λ m. prepared_at z m c s) w Decided w'
    unfolding prepared_at decides
    last_decides u d =
        meets_as z w Decided w' (λ m. did Decided (decides z c s m)) (λ m. prepared_at z m c s) (sym (rw (← e, not-false last t, ← f, u)))
        (meets_did z w Decided w' (decides z c s) d)

-- ---- by what is found
module _ (z : Sizes) (c s : ℕ) (w : List ℕ) (o : Outcome) (w' : List ℕ) where
  pub checked_goes : 0 ≡ prepare_found z w c s → Meets z (λ m. prepared_at z m c s) w o w' → Meets z (λ m. checked_prepare z m c s) w o w'
  unfolding prepare_found
  checked_goes e d = meets_as z w o w' (λ m. prepared_at z m c s) (λ m. checked_prepare z m c s) (sym (rw (← e))) d

  pub checked_stops : (f : Fault) → fault_number f ≡ prepare_found z w c s → Meets z (stops z c f []) w o w' → Meets z (λ m. checked_prepare z m c s) w o w'
  unfolding prepare_found
  checked_stops f e d = meets_as z w o w' (stops z c f []) (λ m. checked_prepare z m c s) (stopped z (stored_in z w) c [] f (prepared_at z (stored_in z w) c s) ∙ sym (rw (← e))) d

-- and by number
module _ (z : Sizes) (c s : ℕ) (w : List ℕ) (y : ℕ) (f : y ≡ prepare_found z w c s) (n : y ≡ 0 → ⊥) where
  pub checked_refused : y ≡ 10 → Meets z (λ m. checked_prepare z m c s) w (Refused 10) w
  unfolding prepare_found
  checked_refused u = meets_refused z w 10 (λ m. checked_prepare z m c s) (sym (rw (← f, ne_eqb y 0 n, eq-eqb y 10 u)))

  pub checked_aborts : (o : Outcome) (w' : List ℕ) → (y ≡ 10 → ⊥) → Meets z (λ m. abort z m c y []) w o w' → Meets z (λ m. checked_prepare z m c s) w o w'
  unfolding prepare_found
  checked_aborts o w' u d = meets_as z w o w' (λ m. abort z m c y []) (λ m. checked_prepare z m c s) (sym (rw (← f, ne_eqb y 0 n, ne_eqb y 10 u))) d

-- ---- the whole
module _ (z : Sizes) (c s : ℕ) (w : List ℕ) (b : Bool) (e : b ≡ fit_to_prepare z.slots (of_client z w c)) where
  pub prepare_unfit : not b ≡ true → Meets z (λ m. prepare z m c s) w (Refused 10) w
  unfolding prepare
  prepare_unfit t = meets_refused z w 10 (λ m. prepare z m c s) (sym (rw (← e, not-true b t)))

  module _ (h : Bool) (f : h ≡ there (stored_in z w) s) (t : not b ≡ false) (o : Outcome) (w' : List ℕ) where
    pub prepare_absent : not h ≡ true → Meets z (λ m. abort z m c 1 []) w o w' → Meets z (λ m. prepare z m c s) w o w'
    unfolding prepare
    prepare_absent u d = meets_as z w o w' (λ m. abort z m c 1 []) (λ m. prepare z m c s) (sym (rw (← e, not-false b t, ← f, not-true h u))) d

    pub prepare_checked : not h ≡ false → Meets z (λ m. checked_prepare z m c s) w o w' → Meets z (λ m. prepare z m c s) w o w'
    unfolding prepare
    prepare_checked u d = meets_as z w o w' (λ m. checked_prepare z m c s) (λ m. prepare z m c s) (sym (rw (← e, not-false b t, ← f, not-false h u))) d
