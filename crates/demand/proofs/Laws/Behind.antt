-- An item that comes behind the others of a set: the read set or the write set, with the field that counts its items.
use Rattle.std.specs.Prelude.{◌≡◌, Bool, cond, ◌||◌, [], ◌∷◌, ℕ, zero, suc, ◌+◌, ◌≤◌, ◌<◌, eqb}
use Rattle.std.proofs.Math.Path.{refl, ap, ap₂}
use Rattle.std.proofs.Common.{sym, ◌∙◌, subst, true≢false, arith, le-leb, eq-eqb, ne_eqb}
use Rattle.std.proofs.Math.Bool.{true, false}
use Rattle.std.proofs.Math.Decide.{ℕ_discrete}
use Rattle.layout.specs.Space.{put, changed}
use Rattle.layout.proofs.Laws.Space.{written_same, written_other}
use Rattle.layout.specs.Step.{and_then}
use Rattle.layout.proofs.Laws.Step.{changed_append}
use Rattle.nodes.specs.declared.node.Node.{Node}
use Rattle.nodes.specs.Found.{Found}
use Rattle.std.specs.Prelude.{Some, None}
use Rattle.nodes.proofs.Laws.Stored.{Sized}
use Rattle.client.specs.declared.part.Set.{Set}
use Rattle.client.specs.declared.part.Set.TheVariants.{Reads, Writes, Copies}
use Rattle.client.specs.Layout.{ClientWord, client_again, client_words, field, item, vector_word, reads_count, writes_count}
use Rattle.client.specs.Sets.{or_found, count, record_at, number_at, first_of, find}
use Rattle.client.specs.Commit.{is_at}
use Rattle.client.specs.Items.{has}
use Rattle.client.specs.Part.{put_field, put_item, put_word}
use Rattle.demand.proofs.Laws.Slots.{record_frame}
use Rattle.demand.proofs.Laws.Held.{absent≢at}
use Rattle.demand.proofs.Laws.Placed.{family, placed, placed_number, placed_record, placed_beside, placed_else}

-- ---- counts within their limits
pub reads_within : (u : ClientWord → ℕ) → u reads_count ≤ 96 → count u Reads ≡ u reads_count
unfolding count
reads_within u h = rw (le-leb (u reads_count) 96 h)

pub writes_within : (u : ClientWord → ℕ) → u writes_count ≤ 48 → count u Writes ≡ u writes_count
unfolding count
writes_within u h = rw (le-leb (u writes_count) 48 h)

-- ---- an object that a set has not
module _ (u : ClientWord → ℕ) (s : Set) (x : ℕ) where
  pub absent_has : find u s x ≡ None → has u s x ≡ false
  unfolding has
  absent_has e = ap is_at e

  pub has_absent : has u s x ≡ false → find u s x ≡ None
  unfolding has
  has_absent h = go (find u s x) h
    where
      go : (z : Found) → is_at z ≡ false → z ≡ None
      go (Some i) e = absurd (true≢false e)
      go None e = refl

-- a search looks at the places below n
first_frame : (f g : ℕ → ℕ) (n x : ℕ) → ((i : ℕ) → i < n → g i ≡ f i) → first_of g n x ≡ first_of f n x
unfolding first_of
first_frame f g zero x h = refl
first_frame f g (suc n) x h =
    ap₂ (λ (z : Found) (w : ℕ). or_found z (cond (eqb w x) (Some n) None)) (first_frame f g n x (λ i l. h i (omega arith))) (h n (omega arith))

-- an item's word is no field
pub no_field : (s : Set) (i w f : ℕ) → ¬ (item s i w ≡ field f)
no_field Reads i w f e = absurd (let z : 1 ≡ 0 = ap family e in omega arith)
no_field Writes i w f e = absurd (let z : 2 ≡ 0 = ap family e in omega arith)
no_field Copies i w f e = absurd (let z : 3 ≡ 0 = ap family e in omega arith)

-- ---- all words but those of a set and of the field that counts it are the same
abbrev pub Elsewhere : Set → ℕ → (ClientWord → ℕ) → (ClientWord → ℕ) → Type 0
Elsewhere s f u v = (a : ClientWord) → ¬ (family a ≡ family (item s 0 0)) → ¬ (a ≡ field f) → v a ≡ u a

one_family : (s : Set) (i w : ℕ) → family (item s i w) ≡ family (item s 0 0)
one_family Reads i w = refl
one_family Writes i w = refl
one_family Copies i w = refl

-- no set is the family of fields or of vectors
set_family : (s : Set) → ¬ (0 ≡ family (item s 0 0)) × ¬ (4 ≡ family (item s 0 0))
set_family Reads = (λ e. absurd (omega arith), λ e. absurd (omega arith))
set_family Writes = (λ e. absurd (omega arith), λ e. absurd (omega arith))
set_family Copies = (λ e. absurd (omega arith), λ e. absurd (omega arith))

field_number : ClientWord → ℕ
field_number (field i) = i
field_number (item s i w) = 0
field_number (vector_word t w) = 0

module _ (s : Set) (f : ℕ) (u v : ClientWord → ℕ) (h : Elsewhere s f u v) where
  pub field_same : (i : ℕ) → ¬ (i ≡ f) → v (field i) ≡ u (field i)
  unfolding field_number
  field_same i d = h (field i) (set_family s).0 (λ e. d (ap field_number e))

  pub set_same : (t : Set) → ¬ (family (item t 0 0) ≡ family (item s 0 0)) → (i w : ℕ) → v (item t i w) ≡ u (item t i w)
  set_same t d i w = h (item t i w) (λ e. d (sym (one_family t i w) ∙ e)) (no_field t i w f)

  pub vector_same : (t w : ℕ) → v (vector_word t w) ≡ u (vector_word t w)
  vector_same t w = h (vector_word t w) (set_family s).1 (λ e. absurd (let z : 4 ≡ 0 = ap family e in omega arith))

-- ---- AN ITEM BEHIND THE OTHERS
module _ (s : Set) (f : ℕ) (u v : ClientWord → ℕ) (x : ℕ) (r : Node) where
  abbrev n : ℕ
  n = u (field f)

  -- v is u with the object of number x and its record behind the others; the field f counts
  pub record Behind : Type 0 where
    pub before : count u s ≡ n
    pub after : count v s ≡ suc n
    pub counted : v (field f) ≡ suc n
    pub number_as : number_at v s n ≡ x
    pub record_as : record_at v s n ≡ r
    pub beside : (i w : ℕ) → ¬ (i ≡ n) → v (item s i w) ≡ u (item s i w)
    pub other : Elsewhere s f u v

  module _ (B : Behind) where
    pub find_behind : (q : ℕ) → find v s q ≡ or_found (find u s q) (cond (eqb x q) (Some n) None)
    unfolding find first_of number_at
    find_behind q =
        ap (λ (c : ℕ). first_of (number_at v s) c q) B.after
        ∙ ap₂ (λ (z : Found) (w : ℕ). or_found z (cond (eqb w q) (Some n) None)) (first_frame (number_at u s) (number_at v s) n q (λ i l. B.beside i 0 (λ e. omega arith))) B.number_as
        ∙ ap (λ (c : ℕ). or_found (first_of (number_at u s) c q) (cond (eqb x q) (Some n) None)) (sym B.before)

    pub has_behind : (q : ℕ) → has v s q ≡ (has u s q || eqb x q)
    unfolding has
    has_behind q = ap is_at (find_behind q) ∙ go (find u s q) (eqb x q)
      where
        go : (z : Found) (b : Bool) → is_at (or_found z (cond b (Some n) None)) ≡ (is_at z || b)
        go (Some i) b = refl
        go None true = refl
        go None false = refl

    pub found_new : find u s x ≡ None → find v s x ≡ Some n
    found_new h =
        find_behind x ∙ ap (λ (z : Found). or_found z (cond (eqb x x) (Some n) None)) h ∙ ap (λ (b : Bool). cond b (Some n) None) (eq-eqb x x refl)

    pub found_old : (q : ℕ) → ¬ (q ≡ x) → find v s q ≡ find u s q
    found_old q d =
        find_behind q ∙ ap (λ (b : Bool). or_found (find u s q) (cond b (Some n) None)) (ne_eqb x q (λ e. d (sym e))) ∙ or_absent (find u s q)
      where
        or_absent : (z : Found) → or_found z None ≡ z
        or_absent (Some i) = refl
        or_absent None = refl

    -- no object has two items
    pub one_each : ((i : ℕ) → i < count u s → find u s (number_at u s i) ≡ Some i) → find u s x ≡ None
        → (i : ℕ) → i < count v s → find v s (number_at v s i) ≡ Some i
    unfolding number_at
    one_each each new i l = go (ℕ_discrete i n)
      where
        go : Dec (i ≡ n) → find v s (number_at v s i) ≡ Some i
        go (yes e) = ap (λ (c : ℕ). find v s (number_at v s c)) e ∙ ap (find v s) B.number_as ∙ found_new new ∙ ap Some (sym e)
        go (no d) =
            let same : number_at v s i ≡ number_at u s i = B.beside i 0 d in
            let h = each i (omega (arith, l, B.before, B.after)) in
            ap (find v s) same ∙ found_old (number_at u s i) (λ e. absurd (absent≢at i (sym new ∙ ap (find u s) (sym e) ∙ h))) ∙ h

-- the stores: the item, then the count
pub put_behind : (s : Set) (f x : ℕ) (r : Node) → Sized r → (u : ClientWord → ℕ) → count u s ≡ u (field f)
    → ((v : ClientWord → ℕ) → v (field f) ≡ suc (u (field f)) → count v s ≡ suc (u (field f)))
    → Behind s f u (changed client_words u (and_then client_words (put_item s (u (field f)) x r) (put_field f (u (field f) + 1)) u)) x r
unfolding put_word and_then changed number_at
put_behind s f x r h u before after =
    subst (λ (v : ClientWord → ℕ). Behind s f u v x r) (sym (changed_append client_words (put_item s n x r u) (put (field f) (n + 1) ∷ []) u))
    (record {
      before = before;
      after = after v' now;
      counted = now;
      number_as = word_stays n 0 ∙ placed_number s n x r h u;
      record_as = record_frame p v' s n (word_stays n) ∙ placed_record s n x r h u;
      beside = λ i w d. word_stays i w ∙ placed_beside s n x r h u i w d;
      other = λ a q d. written_other client_words client_again p (field f) (n + 1) a d ∙ placed_else s n x r h u a (λ e. q (e ∙ one_family s n 0));
    })
  where
    n : ℕ
    n = u (field f)

    p : ClientWord → ℕ
    p = placed s n x r h u

    v' : ClientWord → ℕ
    v' = changed client_words p (put (field f) (n + 1) ∷ [])

    now : v' (field f) ≡ suc n
    now = written_same client_words p (field f) (n + 1) ∙ omega arith

    word_stays : (i w : ℕ) → v' (item s i w) ≡ p (item s i w)
    word_stays i w = written_other client_words client_again p (field f) (n + 1) (item s i w) (no_field s i w f)
