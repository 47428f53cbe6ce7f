-- Memory read at an address after stores: at the place stored, and elsewhere.
use Rattle.std.specs.Prelude.{◌≡◌, Bool, true, false, cond, eqb, take, drop, set, replicate}
use Rattle.std.proofs.Math.Path.{refl, sym, ap, fun_ext}
use Rattle.std.proofs.Common.{ap₂, ◌∙◌, subst, true≢false, eqb-true, eq-eqb, get_or-set_same, get_or-set_other, drop-cons, ext_get_or}
use mathlib.Core.HLevel.{Discrete}
use mathlib.Core.List.{List, [], ◌∷◌, ◌++◌}
use Prim.Native.Nat.{ℕ, zero, suc, ◌+◌, ◌≤◌, ◌<◌}
use native.Mathlib.Omega.{arith}
use Rattle.std.proofs.Math.Decide.{ℕ_discrete}
use Rattle.std.proofs.Math.ListN.{length, get_or, length-set, get_or-append}
use Rattle.std.proofs.lemmas.List.{length-replicate, get_or-replicate}
use Rattle.std.proofs.lemmas.List.Edits.{sets, sets-eq}
use Rattle.base.proofs.Laws.Test.{ifd_yes, ifd_no}
use Rattle.base.specs.Test.{and_both, not_both}
use Rattle.base.specs.Update.{upd}
use Rattle.base.proofs.Laws.Update.{upd_same, upd_other}
use Rattle.layout.specs.Block.{Block, In, offset, size}
use Rattle.layout.proofs.Laws.Block.{below, apart}
use Rattle.layout.specs.Space.{same, tab, Coding, ReadsBack, Put, put, written, changed, puts, at, Valid, valid?, mem, stored}

-- a place is the same as itself
pub same_self : (p : List ℕ) → same p p ≡ true
same_self [] = refl
same_self (i ∷ p) = rw (eq-eqb i i refl) (same_self p)

-- places that are the same are equal
pub same_is : (p q : List ℕ) → same p q ≡ true → p ≡ q
same_is [] [] e = refl
same_is [] (j ∷ q) e = absurd (true≢false (sym e))
same_is (i ∷ p) [] e = absurd (true≢false (sym e))
same_is (i ∷ p) (j ∷ q) e =
    let h = and_both (eqb i j) (same p q) e in
    ap₂ (λ (x : ℕ) (y : List ℕ). x ∷ y) (eqb-true i j h.0) (same_is p q h.1)

-- places that are not the same are two
pub places_differ : (p q : List ℕ) → same p q ≡ false → ¬ (p ≡ q)
places_differ p q e s = not_both (same_self p) (ap (λ (y : List ℕ). same p y) s ∙ e)

pub tab_eq : (n : ℕ) (f g : ℕ → ℕ) → ((i : ℕ) → i < n → f i ≡ g i) → tab n f ≡ tab n g
unfolding tab
tab_eq zero f g h = refl
tab_eq (suc n) f g h =
    ap₂ (λ (x : ℕ) (y : List ℕ). x ∷ y) (h 0 (omega arith)) (tab_eq n (λ i. f (suc i)) (λ i. g (suc i)) (λ i l. h (suc i) (omega arith)))

pub tab_get_or : (n : ℕ) (vs : List ℕ) → length vs ≡ n → tab n (λ i. get_or vs i 0) ≡ vs
unfolding tab
tab_get_or zero [] h = refl
tab_get_or zero (v ∷ vs) h = absurd (omega arith)
tab_get_or (suc n) [] h = absurd (omega arith)
tab_get_or (suc n) (v ∷ vs) h = ap (λ (y : List ℕ). v ∷ y) (tab_get_or n vs (omega arith))

pub length_tab : (n : ℕ) (f : ℕ → ℕ) → length (tab n f) ≡ n
unfolding tab
length_tab zero f = refl
length_tab (suc n) f = ap suc (length_tab n (λ i. f (suc i)))

pub get_or_tab : (n : ℕ) (f : ℕ → ℕ) (i : ℕ) → i < n → get_or (tab n f) i 0 ≡ f i
unfolding tab
get_or_tab zero f i h = absurd (omega arith)
get_or_tab (suc n) f zero h = refl
get_or_tab (suc n) f (suc i) h = get_or_tab n (λ j. f (suc j)) i (omega arith)

module _ {A : Type 0} (C : Coding A) where
  -- addresses whose places differ are two
  pub differ : (a x : A) → same (C.code a) (C.code x) ≡ false → ¬ (a ≡ x)
  differ a x e s = places_differ (C.code a) (C.code x) e (ap C.code s)

  -- a store at an address, and at each that has its place
  pub written_there : (m : A → ℕ) (a : A) (v : ℕ) (x : A) → same (C.code x) (C.code a) ≡ true → written C m a v x ≡ v
  unfolding written
  written_there m a v x h = ap (λ (t : Bool). cond t v (m x)) h

  pub written_same : (m : A → ℕ) (a : A) (v : ℕ) → written C m a v a ≡ v
  written_same m a v = written_there m a v a (same_self (C.code a))

  -- a store at an address of another place, found by computation: `simp and_false` proves the premise
  pub written_apart : (m : A → ℕ) (a : A) (v : ℕ) (x : A) → same (C.code x) (C.code a) ≡ false → written C m a v x ≡ m x
  unfolding written
  written_apart m a v x h = ap (λ (t : Bool). cond t v (m x)) h

  -- a record at other places, found by computation: `λ i. simp and_false` proves the premise
  pub puts_apart : (vs : List ℕ) (m : A → ℕ) (f : ℕ → A) (x : A) → ((i : ℕ) → same (C.code x) (C.code (f i)) ≡ false) → changed C m (puts C f vs) x ≡ m x
  unfolding changed puts
  puts_apart [] m f x h = refl
  puts_apart (v ∷ vs) m f x h = puts_apart vs (written C m (f 0) v) (λ i. f (suc i)) x (λ i. h (suc i)) ∙ written_apart m (f 0) v x (h 0)

  -- a list of stores to addresses of some kind alone leaves the others
  unfoldable pub Only : (A → Bool) → List (Put A) → Type 0
  Only f [] = Unit {0}
  Only f (put a v ∷ ps) = (f a ≡ true) × Only f ps

  pub only_puts : (f : A → Bool) (g : ℕ → A) (vs : List ℕ) → ((i : ℕ) → f (g i) ≡ true) → Only f (puts C g vs)
  unfolding Only puts
  only_puts f g [] h = tt
  only_puts f g (v ∷ vs) h = (h 0, only_puts f (λ i. g (suc i)) vs (λ i. h (suc i)))

  pub only_append : (f : A → Bool) (ps qs : List (Put A)) → Only f ps → Only f qs → Only f (ps ++ qs)
  unfolding Only
  only_append f [] qs p q = q
  only_append f (put a v ∷ ps) qs p q = (p.0, only_append f ps qs p.1 q)

  module _ (b : Block) where
    pub at_below : (a : A) → Valid C b a → at C b a < size b
    unfolding at Valid
    at_below a h = below b (C.code a) h

    pub mem_at : (w : List ℕ) (a : A) → Valid C b a → mem C b w a ≡ get_or w (at C b a) 0
    unfolding mem
    mem_at w a h = ifd_yes (valid? C b a) (get_or w (at C b a) 0) 0 h

    pub mem_none : (w : List ℕ) (a : A) → ¬ (Valid C b a) → mem C b w a ≡ 0
    unfolding mem
    mem_none w a h = ifd_no (valid? C b a) (get_or w (at C b a) 0) 0 h

    -- a store is a change of the function at one address
    pub mem_set : (w : List ℕ) (a : A) (v : ℕ) → size b ≤ length w → Valid C b a → mem C b (set w (at C b a) v) ≡ written C (mem C b w) a v
    unfolding at Valid
    mem_set w a v r ok = fun_ext (λ x. go x (same (C.code x) (C.code a)) refl (valid? C b x))
      where
        go : (x : A) (t : Bool) → same (C.code x) (C.code a) ≡ t → Dec (Valid C b x) → mem C b (set w (at C b a) v) x ≡ written C (mem C b w) a v x
        go x true e d =
            let p : C.code x ≡ C.code a = same_is (C.code x) (C.code a) e in
            mem_at (set w (at C b a) v) x (subst (In b) (sym p) ok)
            ∙ ap (λ (q : List ℕ). get_or (set w (at C b a) v) (offset b q) 0) p
            ∙ get_or-set_same w (at C b a) v 0 (omega (arith, at_below a ok))
            ∙ sym (written_there (mem C b w) a v x e)
        go x false e (yes g) =
            mem_at (set w (at C b a) v) x g
            ∙ get_or-set_other w (at C b a) (at C b x) v 0 (λ k. places_differ (C.code x) (C.code a) e (apart b (C.code x) (C.code a) g ok k))
            ∙ sym (mem_at w x g) ∙ sym (written_apart (mem C b w) a v x e)
        go x false e (no g) = mem_none (set w (at C b a) v) x g ∙ sym (mem_none w x g) ∙ sym (written_apart (mem C b w) a v x e)

    unfoldable pub AllValid : List (Put A) → Type 0
    AllValid [] = Unit {0}
    AllValid (put a v ∷ ps) = Valid C b a × AllValid ps

    pub mem_stored : (ps : List (Put A)) (w : List ℕ) → size b ≤ length w → AllValid ps → mem C b (stored C b w ps) ≡ changed C (mem C b w) ps
    unfolding changed stored AllValid
    mem_stored [] w r ok = refl
    mem_stored (put a v ∷ ps) w r ok =
        mem_stored ps (set w (at C b a) v) (rw length-set r) ok.1 ∙ ap (λ (m : A → ℕ). changed C m ps) (mem_set w a v r ok.0)

    pub length_stored : (ps : List (Put A)) (w : List ℕ) → length (stored C b w ps) ≡ length w
    unfolding stored
    length_stored [] w = refl
    length_stored (put a v ∷ ps) w = length_stored ps (set w (at C b a) v) ∙ length-set w (at C b a) v

    -- addresses that lie one after another from word k
    pub record Run (f : ℕ → A) (k n : ℕ) : Type 0 where
      pub good : (i : ℕ) → i < n → Valid C b (f i)
      pub spot : (i : ℕ) → i < n → at C b (f i) ≡ k + i

    run_later : (f : ℕ → A) (k n : ℕ) → Run f k (suc n) → Run (λ i. f (suc i)) (suc k) n
    run_later f k n r = record { good = λ i l. r.good (suc i) (omega arith); spot = λ i l. r.spot (suc i) (omega arith) ∙ omega arith }

    run_first : (f : ℕ → A) (k n : ℕ) → Run f k (suc n) → at C b (f 0) ≡ k
    run_first f k n r = r.spot 0 (omega arith) ∙ omega arith

    -- a record that is written is a list of stores
    pub stored_run : (vs w : List ℕ) (f : ℕ → A) (k : ℕ) → Run f k (length vs) → stored C b w (puts C f vs) ≡ sets w k vs
    unfolding stored puts
    stored_run [] w f k r = refl
    stored_run (v ∷ vs) w f k r =
        ap (λ (j : ℕ). stored C b (set w j v) (puts C (λ i. f (suc i)) vs)) (run_first f k (length vs) r)
        ∙ stored_run vs (set w k v) (λ i. f (suc i)) (suc k) (run_later f k (length vs) r)

    pub valid_run : (vs : List ℕ) (f : ℕ → A) (k : ℕ) → Run f k (length vs) → AllValid (puts C f vs)
    unfolding AllValid puts
    valid_run [] f k r = tt
    valid_run (v ∷ vs) f k r = (r.good 0 (omega arith), valid_run vs (λ i. f (suc i)) (suc k) (run_later f k (length vs) r))

    -- a record that is read
    pub mem_run : (n : ℕ) (w : List ℕ) (f : ℕ → A) (k : ℕ) → Run f k n → k + n ≤ length w → take n (drop k w) ≡ tab n (λ i. mem C b w (f i))
    unfolding tab
    mem_run zero w f k r l = refl
    mem_run (suc n) w f k r l =
        let v : get_or w k 0 ≡ mem C b w (f 0) = sym (mem_at w (f 0) (r.good 0 (omega arith)) ∙ ap (λ (j : ℕ). get_or w j 0) (run_first f k n r)) in
        let s : k < length w = omega arith in
        rw (drop-cons w k 0) (ap₂ (λ (x : ℕ) (y : List ℕ). x ∷ y) v (mem_run n w (λ i. f (suc i)) (suc k) (run_later f k n r) (omega arith)))

    -- a block full of zeros
    pub mem_zeros : (w : List ℕ) → size b ≤ length w → mem C b (sets w 0 (replicate (size b) 0)) ≡ (λ a. 0)
    mem_zeros w r = fun_ext (λ a. go a (valid? C b a))
      where
        zeros : List ℕ
        zeros = replicate (size b) 0

        whole : length zeros ≡ size b
        whole = length-replicate (size b) 0

        go : (a : A) → Dec (Valid C b a) → mem C b (sets w 0 zeros) a ≡ 0
        go a (no h) = mem_none (sets w 0 zeros) a h
        go a (yes h) =
            mem_at (sets w 0 zeros) a h
            ∙ ap (λ (u : List ℕ). get_or u (at C b a) 0) (sets-eq zeros w 0 (omega (arith, whole)))
            ∙ get_or-append zeros (drop (0 + length zeros) w) 0 (at C b a) (omega (arith, whole, at_below a h))
            ∙ get_or-replicate (size b) (at C b a) 0 0 (at_below a h)

-- where each address can be had back from its place
module _ {A : Type 0} (C : Coding A) (r : ReadsBack C) where
  -- addresses with one place are one
  pub code_inj : (a x : A) → C.code a ≡ C.code x → a ≡ x
  code_inj a x e = sym (r a) ∙ ap C.back e ∙ r x

  -- are two addresses one
  pub decide : Discrete A
  decide a x = go (same (C.code a) (C.code x)) refl
    where
      go : (t : Bool) → same (C.code a) (C.code x) ≡ t → Dec (a ≡ x)
      go true e = yes (code_inj a x (same_is (C.code a) (C.code x) e))
      go false e = no (differ C a x e)

  pub written_other : (m : A → ℕ) (a : A) (v : ℕ) (x : A) → ¬ (x ≡ a) → written C m a v x ≡ m x
  written_other m a v x n = go (same (C.code x) (C.code a)) refl
    where
      go : (t : Bool) → same (C.code x) (C.code a) ≡ t → written C m a v x ≡ m x
      go true e = absurd (n (code_inj x a (same_is (C.code x) (C.code a) e)))
      go false e = written_apart C m a v x e

  -- so a store is a change of the function at one address
  pub written_is : (m : A → ℕ) (a : A) (v : ℕ) → written C m a v ≡ upd decide m a v
  written_is m a v = fun_ext (λ x. go x (decide x a))
    where
      go : (x : A) → Dec (x ≡ a) → written C m a v x ≡ upd decide m a v x
      go x (yes e) =
          subst (λ (y : A). written C m a v y ≡ upd decide m a v y) (sym e) (written_same C m a v ∙ sym (upd_same decide m a v))
      go x (no n) = written_other m a v x n ∙ sym (upd_other decide m a v x n)

  -- the same of a change at an address of another place
  pub upd_apart : (m : A → ℕ) (a : A) (v : ℕ) (x : A) → same (C.code x) (C.code a) ≡ false → upd decide m a v x ≡ m x
  upd_apart m a v x h = upd_other decide m a v x (differ C x a h)

  pub puts_other : (vs : List ℕ) (m : A → ℕ) (f : ℕ → A) (x : A) → ((i : ℕ) → i < length vs → ¬ (x ≡ f i)) → changed C m (puts C f vs) x ≡ m x
  unfolding changed puts
  puts_other [] m f x h = refl
  puts_other (v ∷ vs) m f x h =
      puts_other vs (written C m (f 0) v) (λ i. f (suc i)) x (λ i l. h (suc i) (omega arith)) ∙ written_other m (f 0) v x (h 0 (omega arith))

  pub puts_same : (vs : List ℕ) (m : A → ℕ) (f : ℕ → A) → ((i j : ℕ) → f i ≡ f j → i ≡ j) → (i : ℕ) → i < length vs → changed C m (puts C f vs) (f i) ≡ get_or vs i 0
  unfolding changed puts
  puts_same [] m f inj i l = absurd (omega arith)
  puts_same (v ∷ vs) m f inj zero l =
      puts_other vs (written C m (f 0) v) (λ i. f (suc i)) (f 0) (λ i k e. absurd (let z : 0 ≡ suc i = inj 0 (suc i) e in omega arith))
      ∙ written_same C m (f 0) v
  puts_same (v ∷ vs) m f inj (suc i) l =
      puts_same vs (written C m (f 0) v) (λ i. f (suc i)) (λ i j e. let z : suc i ≡ suc j = inj (suc i) (suc j) e in omega arith) i (omega arith)

  pub changed_only : (f : A → Bool) (ps : List (Put A)) (m : A → ℕ) (x : A) → Only C f ps → f x ≡ false → changed C m ps x ≡ m x
  unfolding changed Only
  changed_only f [] m x h e = refl
  changed_only f (put a v ∷ ps) m x h e =
      changed_only f ps (written C m a v) x h.1 e ∙ written_other m a v x (λ s. not_both (ap f s ∙ h.0) e)

  module _ (b : Block) where
    pub at_inj : (a x : A) → Valid C b a → Valid C b x → at C b a ≡ at C b x → a ≡ x
    unfolding at Valid
    at_inj a x h g e = code_inj a x (apart b (C.code a) (C.code x) h g e)

  -- the record that was stored is the record read
  pub tab_puts_same : (n : ℕ) (vs : List ℕ) (m : A → ℕ) (f : ℕ → A) → length vs ≡ n → ((i j : ℕ) → f i ≡ f j → i ≡ j)
      → tab n (λ i. changed C m (puts C f vs) (f i)) ≡ vs
  tab_puts_same n vs m f l inj =
      tab_eq n (λ i. changed C m (puts C f vs) (f i)) (λ i. get_or vs i 0) (λ i h. puts_same vs m f inj i (omega arith)) ∙ tab_get_or n vs l

  -- one word of a record is stored
  pub tab_written : (n : ℕ) (m : A → ℕ) (f : ℕ → A) → ((i j : ℕ) → f i ≡ f j → i ≡ j) → (i v : ℕ) → i < n
      → tab n (λ j. written C m (f i) v (f j)) ≡ set (tab n (λ j. m (f j))) i v
  tab_written n m f inj i v h =
      ext_get_or 0 (tab n u) (set (tab n (λ j. m (f j))) i v)
      (length_tab n u ∙ sym (length-set (tab n (λ j. m (f j))) i v ∙ length_tab n (λ j. m (f j))))
      (λ j l. let k : j < n = omega (arith, length_tab n u) in get_or_tab n u j k ∙ at_word j k (ℕ_discrete j i))
    where
      u : ℕ → ℕ
      u j = written C m (f i) v (f j)

      at_word : (j : ℕ) → j < n → Dec (j ≡ i) → u j ≡ get_or (set (tab n (λ j. m (f j))) i v) j 0
      at_word j k (yes e) =
          rw e (written_same C m (f i) v ∙ sym (get_or-set_same (tab n (λ j. m (f j))) i v 0 (omega (arith, length_tab n (λ j. m (f j))))))
      at_word j k (no d) =
          written_other m (f i) v (f j) (λ e. d (inj j i e))
          ∙ sym (get_or-set_other (tab n (λ j. m (f j))) i j v 0 d ∙ get_or_tab n (λ j. m (f j)) j k)

  pub tab_upd : (n : ℕ) (m : A → ℕ) (f : ℕ → A) → ((i j : ℕ) → f i ≡ f j → i ≡ j) → (i v : ℕ) → i < n
      → tab n (λ j. upd decide m (f i) v (f j)) ≡ set (tab n (λ j. m (f j))) i v
  tab_upd n m f inj i v h =
      ap (λ (u : A → ℕ). tab n (λ j. u (f j))) (sym (written_is m (f i) v)) ∙ tab_written n m f inj i v h

  -- a record elsewhere stays
  pub tab_puts_other : (n : ℕ) (vs : List ℕ) (m : A → ℕ) (f g : ℕ → A) → ((i j : ℕ) → ¬ (g i ≡ f j))
      → tab n (λ i. changed C m (puts C f vs) (g i)) ≡ tab n (λ i. m (g i))
  tab_puts_other n vs m f g d = tab_eq n (λ i. changed C m (puts C f vs) (g i)) (λ i. m (g i)) (λ i h. puts_other vs m f (g i) (λ j l. d i j))
