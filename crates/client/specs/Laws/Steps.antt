-- Laws of steps: their stores lie in the part, and they follow one another.
use Rattle.std.specs.Prelude.{◌≡◌, refl, Bool, true, false, cond, List, [], ◌∷◌, ℕ, zero, suc, ◌+◌, ◌/◌, ◌≤◌, ◌<◌, ltb, eqb, length, get_or, set}
use Rattle.std.proofs.Common.{sym, ◌∙◌, subst, arith, ltb-true, lt-ltb}
use Rattle.std.proofs.Math.Path.{ap}
use Rattle.std.proofs.lemmas.List.Edits.{sets}
use Rattle.memory.specs.Word.{view}
use Rattle.memory.proofs.Laws.Word.{view_length}
use Rattle.layout.specs.Block.{size, In, offset}
use Rattle.layout.specs.Space.{put, tab, at, Valid, mem, changed, stored, puts}
use Rattle.layout.proofs.Laws.Space.{tab_get_or, Run, stored_run, valid_run, AllValid, length_stored}
use Rattle.layout.specs.Step.{Does, silent, stepped, and_then}
use Rattle.layout.proofs.Laws.Step.{does_then, does_mem, valid_append}
use Rattle.layout.specs.Sweep.{sweep}
use Rattle.layout.proofs.Laws.Sweep.{sweep_valid, sweep_none, sweep_next}
use Rattle.nodes.specs.declared.node.Node.{Node}
use Rattle.nodes.specs.Found.{Found}
use Rattle.std.specs.Prelude.{Some, None}
use Rattle.nodes.specs.Found.{Inside}
use Rattle.nodes.proofs.Laws.Found.{at_inside, absent_inside}
use Rattle.nodes.specs.Stored.{words_of}
use Rattle.client.specs.declared.part.Set.{Set}
use Rattle.client.specs.Layout.{ClientWord, client_words, client_block, field, item, vector_word, limit}
use Rattle.client.specs.Sets.{held, or_found, first_of, count, number_at, find}
use Rattle.client.specs.Laws.Part.{record_run, number_good, vector_run, count_limit}
use Rattle.client.specs.Part.{PartStep, Did, ◌then◌, nothing, put_field, put_fields, put_item, put_number, put_vector, drop_vector, put_word}

-- the stores lie in the part, whatever it holds
pub record Good (g : PartStep) : Type 0 where
  pub all : (m : ClientWord → ℕ) → AllValid client_words client_block (g m)

words_fit : (s : List ℕ) → 7223 ≤ length s / 8 → size client_block ≤ length (view s)
unfolding size
words_fit s h = omega (arith, view_length s)

-- ---- one after another
module _ (g h : PartStep) where
  pub did_then : (s t u : List ℕ) → 7223 ≤ length s / 8 → Good g → Did g s t → Did h t u → Did (g then h) s u
  did_then s t u l ok p q = does_then client_words client_block g h silent silent (view s) (view t) (view u) 0 0 (words_fit s l) (ok.all (mem client_words client_block (view s))) p q

  pub good_then : Good g → Good h → Good (g then h)
  unfolding and_then
  good_then p q = record { all = λ m. valid_append client_words client_block (g m) (h (changed client_words m (g m))) (p.all m) (q.all (changed client_words m (g m))) }

  -- a step that is another one on what the part holds
  pub did_as : (s t : List ℕ) → h (held s) ≡ g (held s) → Did g s t → Did h s t
  unfolding held stepped
  did_as s t e p = record { answer = refl; words = p.words ∙ ap (stored client_words client_block (view s)) (sym e) }

fits_after : (g : PartStep) (s t : List ℕ) → Did g s t → size client_block ≤ length (view s) → size client_block ≤ length (view t)
unfolding stepped
fits_after g s t p h = rw (p.words, length_stored client_words client_block (g (mem client_words client_block (view s))) (view s)) h

pub did_three : (g h k : PartStep) (s t u v : List ℕ) → 7223 ≤ length s / 8 → Good g → Good h → Did g s t → Did h t u → Did k u v → Did (g then h then k) s v
did_three g h k s t u v l ok good p q r =
    let f : size client_block ≤ length (view s) = words_fit s l in
    let m : Did (h then k) t v =
    does_then client_words client_block h k silent silent (view t) (view u) (view v) 0 0 (fits_after g s t p f) (good.all (mem client_words client_block (view t))) q r in
    did_then g (h then k) s t v l ok p m

pub did_nothing : (g : PartStep) (s : List ℕ) → g (held s) ≡ [] → Did g s s
unfolding held stepped stored
did_nothing g s e = record { answer = refl; words = rw e }

pub held_after : (g : PartStep) (s t : List ℕ) → 7223 ≤ length s / 8 → Good g → Did g s t → held t ≡ changed client_words (held s) (g (held s))
unfolding held
held_after g s t l ok p = does_mem client_words client_block g silent (view s) 0 (view t) p (words_fit s l) (ok.all (mem client_words client_block (view s)))

-- ---- the smallest steps
field_run : (i n : ℕ) → i + n ≤ 15 → Run client_words client_block (λ j. field (i + j)) i n
unfolding at Valid In offset size
field_run i n h = record { good = λ j l. omega arith; spot = λ j l. refl }

length_tab : (n : ℕ) (f : ℕ → ℕ) → length (tab n f) ≡ n
unfolding tab
length_tab zero f = refl
length_tab (suc n) f = ap suc (length_tab n (λ i. f (suc i)))

pub good_nothing : Good nothing
unfolding nothing AllValid
good_nothing = record { all = λ m. tt }

pub good_field : (i v : ℕ) → i < 15 → Good (put_field i v)
unfolding put_word AllValid Valid In
good_field i v h = record { all = λ m. (h, tt) }

pub good_fields : (i : ℕ) (vs : List ℕ) → i + length vs ≤ 15 → Good (put_fields i vs)
unfolding put_fields
good_fields i vs h = record { all = λ m. valid_run client_words client_block vs (λ j. field (i + j)) i (field_run i (length vs) h) }

pub good_item : (s : Set) (i x : ℕ) (r : Node) → i < limit s → Good (put_item s i x r)
unfolding put_item AllValid puts tab
good_item s i x r h =
    let vs : List ℕ = tab 33 (λ j. get_or (x ∷ words_of r) (suc j) 0) in
    record {
      all = λ m. (
        number_good s i h,
        valid_run client_words client_block vs (λ j. item s i (suc j)) (at client_words client_block (item s i 1)) (rw (length_tab 33 (λ j. get_or (x ∷ words_of r) (suc j) 0)) (record_run s i h)),
      );
    }

pub good_number : (s : Set) (i x : ℕ) → i < limit s → Good (put_number s i x)
unfolding put_number AllValid
good_number s i x h = record { all = λ m. (number_good s i h, tt) }

pub good_vector : (s : ℕ) (ws : List ℕ) → s < 8 → Good (put_vector s ws)
unfolding put_vector
good_vector s ws h =
    record { all = λ m. valid_run client_words client_block (1 ∷ tab 16 (λ j. get_or ws j 0)) (vector_word s) (at client_words client_block (vector_word s 0)) (rw (length_tab 16 (λ j. get_or ws j 0)) (vector_run s h)) }

pub good_drop : (s : ℕ) → Good (drop_vector s)
unfolding drop_vector AllValid
good_drop s = record { all = λ m. go (ltb s 8) refl }
  where
    go : (b : Bool) → ltb s 8 ≡ b → AllValid client_words client_block (cond b (put (vector_word s 0) 0 ∷ []) [])
    go true e = ((vector_run s (ltb-true s 8 e)).good 0 (omega arith), tt)
    go false e = tt

-- ---- done by code
pub fields_done : (i : ℕ) (vs w w' : List ℕ) → i + length vs ≤ 15 → w' ≡ sets w i vs → Does client_words client_block (put_fields i vs) silent w 0 w'
unfolding stepped put_fields
fields_done i vs w w' h e = record { answer = refl; words = e ∙ sym (stored_run client_words client_block vs w (λ j. field (i + j)) i (field_run i (length vs) h)) }

pub number_done : (s : Set) (i a x : ℕ) (w w' : List ℕ) → a ≡ at client_words client_block (item s i 0) → w' ≡ set w a x → Does client_words client_block (put_number s i x) silent w 0 w'
unfolding stepped stored put_number
number_done s i a x w w' e p = record { answer = refl; words = p ∙ rw e }

pub vector_done : (s a : ℕ) (ws us w w' : List ℕ) → s < 8 → length ws ≡ 16 → us ≡ 1 ∷ ws → a ≡ at client_words client_block (vector_word s 0)
    → w' ≡ sets w a us → Does client_words client_block (put_vector s ws) silent w 0 w'
unfolding stepped put_vector
vector_done s a ws us w w' h l q e p =
    let k : length us ≡ 17 = rw q (ap suc l) in
    record {
      answer = refl;
      words = p ∙ rw (tab_get_or 16 ws l, ← q, e) (sym (stored_run client_words client_block us w (vector_word s) (at client_words client_block (vector_word s 0)) (rw k (vector_run s h))));
    }

pub drop_done : (s a : ℕ) (w w' : List ℕ) → s < 8 → a ≡ at client_words client_block (vector_word s 0) → w' ≡ set w a 0 → Does client_words client_block (drop_vector s) silent w 0 w'
unfolding stepped stored drop_vector
drop_done s a w w' h e p = record { answer = refl; words = p ∙ rw (lt-ltb s 8 h, e) }

-- ---- what was found lies in the set
first_inside : (f : ℕ → ℕ) (n x : ℕ) → Inside (first_of f n x) n
unfolding first_of
first_inside f zero x = absent_inside 0
first_inside f (suc n) x = go (first_of f n x) (eqb (f n) x) (first_inside f n x)
  where
    go : (g : Found) (b : Bool) → Inside g n → Inside (or_found g (cond b (Some n) None)) (suc n)
    go (Some j) b h = at_inside (suc n) j (omega (arith, h.inside j refl))
    go None true h = at_inside (suc n) n (omega arith)
    go None false h = absent_inside (suc n)

pub find_limit : (m : ClientWord → ℕ) (s : Set) (x i : ℕ) → find m s x ≡ Some i → i < limit s
unfolding find
find_limit m s x i e = omega (arith, (first_inside (number_at m s) (count m s) x).inside i e, count_limit m s)

-- ---- loops
pub record AllGood (g : ℕ → PartStep) (n : ℕ) : Type 0 where
  pub each : (j : ℕ) → j < n → Good (g j)

pub record EachGood (g : ℕ → PartStep) : Type 0 where
  pub each : (j : ℕ) → Good (g j)

module _ (g : ℕ → PartStep) where
  pub good_loop : (n : ℕ) → EachGood g → Good (sweep client_words g n)
  good_loop n ok = record { all = λ m. sweep_valid client_words client_block g n m (λ j u l. (ok.each j).all u) }

  pub good_sweep : (n : ℕ) → AllGood g n → Good (sweep client_words g n)
  good_sweep n ok = record { all = λ m. sweep_valid client_words client_block g n m (λ j u l. (ok.each j l).all u) }

  pub swept_none : (s : List ℕ) → Did (sweep client_words g 0) s s
  swept_none s = sweep_none client_words client_block g (view s)

  pub swept_next : (n i : ℕ) (s t u : List ℕ) → i < n → AllGood g n → 7223 ≤ length s / 8 → Did (sweep client_words g i) s t → Did (g i) t u → Did (sweep client_words g (i + 1)) s u
  swept_next n i s t u h ok l p q =
      sweep_next client_words client_block g i (view s) (view t) (view u) (words_fit s l) (λ j v k. (ok.each j (omega arith)).all v) p q

  -- where each step is good, however many there are
  pub swept_on : (i : ℕ) (s t u : List ℕ) → EachGood g → 7223 ≤ length s / 8 → Did (sweep client_words g i) s t → Did (g i) t u → Did (sweep client_words g (i + 1)) s u
  swept_on i s t u ok l p q = swept_next (suc i) i s t u (omega arith) (record { each = λ j h. ok.each j }) l p q

  pub swept_all : (n i : ℕ) (s t : List ℕ) → i ≤ n → n ≤ i → Did (sweep client_words g i) s t → Did (sweep client_words g n) s t
  swept_all n i s t a b p = let e : i ≡ n = omega arith in subst (λ (k : ℕ). Did (sweep client_words g k) s t) e p

-- a step chosen by a test
pub good_cond : (g h : PartStep) (b : Bool) → (b ≡ true → Good g) → (b ≡ false → Good h) → Good (cond b g h)
good_cond g h true p q = p refl
good_cond g h false p q = q refl

-- a step chosen by what the part holds
pub good_by : (f : (ClientWord → ℕ) → PartStep) → ((m : ClientWord → ℕ) → Good (f m)) → Good (λ m. f m m)
good_by f p = record { all = λ m. (p m).all m }
