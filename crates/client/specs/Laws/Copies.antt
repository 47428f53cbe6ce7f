-- How copies are put and dropped, and what a fetched object does.
use Rattle.std.specs.Prelude.{◌≡◌, true, cond, List, [], ◌∷◌, ◌++◌, ℕ, ◌+◌, ◌-◌, ◌/◌, ◌≤◌, ◌<◌, eqb, leb, replicate}
use Rattle.std.proofs.Math.Path.{refl, ap, subst}
use Rattle.std.proofs.Common.{sym, ◌∙◌, append_assoc, append-nil, add-one}
use native.Mathlib.Omega.{arith}
use borrow.Author.Tests.{eq-eqb, ne_eqb, le-leb, lt-leb, le-ltb}
use Rattle.std.proofs.Math.ListN.{length, get_or, take}
use Rattle.std.proofs.Math.Seq.{take-suc}
use Rattle.std.proofs.lemmas.List.{take_all}
use Rattle.memory.specs.Bit.{put_bit}
use Rattle.layout.specs.Space.{Put, changed}
use Rattle.layout.specs.Step.{and_then}
use Rattle.layout.proofs.Laws.Step.{changed_append}
use Rattle.layout.specs.Sweep.{sweep}
use Rattle.nodes.specs.Name.{server_of}
use Rattle.nodes.specs.declared.node.Node.{Node}
use Rattle.nodes.specs.Found.{Found}
use Rattle.std.specs.Prelude.{Some, None}
use Rattle.client.specs.declared.part.Set.TheVariants.{Reads, Copies}
use Rattle.client.specs.Layout.{ClientWord, client_words, field}
use Rattle.client.specs.Record.{metadata}
use Rattle.client.specs.Sets.{held, count, number_at, find}
use Rattle.client.specs.Drops.{drop_each, drop_used}
use Rattle.client.specs.Part.{Did, ◌then◌, nothing, put_field, put_fields, put_item, put_number, drop_vector}
use Rattle.client.specs.Laws.Steps.{Good, AllGood, EachGood, did_as, did_nothing, good_nothing, good_field, good_item, good_number, good_drop, good_cond, good_by, good_sweep, good_loop, good_then, did_then, did_three, find_limit, swept_all}
use Rattle.client.specs.Enter.{enter_read}
use Rattle.client.specs.Laws.Enter.{good_read}
use Rattle.client.specs.Copies.{to_empty, to_place, copy_node, drop_at, drop_node, drop_object, drop_read, drop_reads, empty_place, drop_all}
use Rattle.client.specs.Fetched.{copy_inner, mark_fetched, fetched_meta}
use Rattle.client.specs.Life.{reset, abort_part, lose_part}

-- ---- put
module _ (s : List ℕ) (x : ℕ) (n : Node) (g : Found) (f : g ≡ find (held s) Copies x) where
  pub copy_there : (t : List ℕ) (i : ℕ) → g ≡ Some i → Did (put_item Copies i x n) s t → Did (copy_node x n) s t
  unfolding copy_node
  copy_there t i e p = did_as (put_item Copies i x n) (copy_node x n) s t (rw (← f, e)) p

  module _ (h : Found) (a : g ≡ None) (e : h ≡ find (held s) Copies 0) where
    pub copy_empty : (t : List ℕ) (i : ℕ) → h ≡ Some i → Did (put_item Copies i x n) s t → Did (copy_node x n) s t
    unfolding copy_node
    copy_empty t i d p = did_as (put_item Copies i x n) (copy_node x n) s t (rw (← f, a, ← e, d)) p

    pub copy_none : h ≡ None → Did (copy_node x n) s s
    unfolding copy_node nothing
    copy_none d = did_nothing (copy_node x n) s (rw (← f, a, ← e, d))

good_empty_place : (m : ClientWord → ℕ) (x : ℕ) (n : Node) (h : Found) → find m Copies 0 ≡ h → Good (to_empty x n h)
good_empty_place m x n (Some i) e = good_item Copies i x n (find_limit m Copies 0 i e)
good_empty_place m x n None e = good_nothing

good_place : (m : ClientWord → ℕ) (x : ℕ) (n : Node) (g : Found) → find m Copies x ≡ g → Good (to_place x n g (find m Copies 0))
good_place m x n (Some i) e = good_item Copies i x n (find_limit m Copies x i e)
good_place m x n None e = good_empty_place m x n (find m Copies 0) refl

pub good_copy : (x : ℕ) (n : Node) → Good (copy_node x n)
unfolding copy_node
good_copy x n = good_by (λ m. to_place x n (find m Copies x) (find m Copies 0)) (λ m. good_place m x n (find m Copies x) refl)

-- ---- dropped
module _ (s : List ℕ) (x : ℕ) (g : Found) (f : g ≡ find (held s) Copies x) where
  pub drop_there : (t : List ℕ) (i : ℕ) → g ≡ Some i → Did (put_number Copies i 0) s t → Did (drop_node x) s t
  unfolding drop_node
  drop_there t i e p = did_as (put_number Copies i 0) (drop_node x) s t (rw (← f, e)) p

  pub drop_none : g ≡ None → Did (drop_node x) s s
  unfolding drop_node nothing
  drop_none e = did_nothing (drop_node x) s (rw (← f, e))

good_drop_at : (m : ClientWord → ℕ) (x : ℕ) (g : Found) → find m Copies x ≡ g → Good (drop_at g)
good_drop_at m x (Some i) e = good_number Copies i 0 (find_limit m Copies x i e)
good_drop_at m x None e = good_nothing

pub good_drop_node : (x : ℕ) → Good (drop_node x)
unfolding drop_node
good_drop_node x = good_by (λ m. drop_at (find m Copies x)) (λ m. good_drop_at m x (find m Copies x) refl)

module _ (s : List ℕ) (x : ℕ) where
  pub object_meta : (t : List ℕ) → x ≡ 0 → Did (put_field 12 0) s t → Did (drop_object x) s t
  unfolding drop_object
  object_meta t e p = did_as (put_field 12 0) (drop_object x) s t (rw e) p

  module _ (d : x ≡ 0 → ⊥) where
    pub object_node : (t : List ℕ) → x ≤ 8192 → Did (drop_node x) s t → Did (drop_object x) s t
    unfolding drop_object
    object_node t h p = did_as (drop_node x) (drop_object x) s t (rw (ne_eqb _ _ d, le-leb _ _ h)) p

    module _ (h : 8192 < x) (k : ℕ) (o : k ≡ server_of (x - 8193)) where
      pub object_flag : (t : List ℕ) → Did (drop_vector k) s t → Did (drop_object x) s t
      unfolding drop_object
      object_flag t p = did_as (drop_vector k) (drop_object x) s t (rw (ne_eqb _ _ d, lt-leb _ _ h, ← o)) p

      pub object_none : 8 ≤ k → Did (drop_object x) s s
      unfolding drop_object drop_vector
      object_none l = did_nothing (drop_object x) s (rw (ne_eqb _ _ d, lt-leb _ _ h, ← o, le-ltb _ _ l))

good_object : (x : ℕ) → Good (drop_object x)
unfolding drop_object
good_object x =
    good_cond (put_field 12 0) (cond (leb x 8192) (drop_node x) (drop_vector ((x - 8193) / 1024))) (eqb x 0) (λ e. good_field 12 0 (omega arith))
    (λ e. good_cond (drop_node x) (drop_vector ((x - 8193) / 1024)) (leb x 8192) (λ h. good_drop_node x) (λ h. good_drop ((x - 8193) / 1024)))

pub read_dropped : (s t : List ℕ) (i q : ℕ) → q ≡ number_at (held s) Reads i → Did (drop_object q) s t → Did (drop_read i) s t
unfolding drop_read
read_dropped s t i q e p = did_as (drop_object q) (drop_read i) s t (rw e) p

pub good_drop_read : EachGood drop_read
unfolding drop_read
good_drop_read = record { each = λ j. good_by (λ m. drop_object (number_at m Reads j)) (λ m. good_object (number_at m Reads j)) }

pub reads_dropped : (s t : List ℕ) (n i : ℕ) → n ≡ count (held s) Reads → i ≤ n → n ≤ i → Did (sweep client_words drop_read i) s t → Did drop_reads s t
unfolding drop_reads
reads_dropped s t n i e a b p = did_as (sweep client_words drop_read n) drop_reads s t (rw e) (swept_all drop_read n i s t a b p)

pub good_drop_reads : Good drop_reads
unfolding drop_reads
good_drop_reads = good_by (λ m. sweep client_words drop_read (count m Reads)) (λ m. good_loop drop_read (count m Reads) good_drop_read)

-- ---- dropped, of objects in use
each_more : (xs : List ℕ) (x : ℕ) (m : ClientWord → ℕ) → drop_each (xs ++ (x ∷ [])) m ≡ (drop_each xs then drop_object x) m
unfolding drop_each and_then changed
each_more [] x m = append-nil (drop_object x m)
each_more (y ∷ xs) x m =
    let a = drop_object y m in
    let u = changed client_words m a in
    ap (λ (ps : List (Put ClientWord)). a ++ ps) (each_more xs x u)
    ∙ sym (append_assoc a (drop_each xs u) (drop_object x (changed client_words u (drop_each xs u))))
    ∙ ap (λ (v : ClientWord → ℕ). (a ++ drop_each xs u) ++ drop_object x v) (sym (changed_append client_words a (drop_each xs u) m))

pub good_each : (us : List ℕ) → Good (drop_each us)
unfolding drop_each nothing
good_each [] = good_nothing
good_each (x ∷ us) = good_then (drop_object x) (drop_each us) (good_object x) (good_each us)

-- the first i of them
module _ (xs : List ℕ) where
  pub each_none : (s : List ℕ) → Did (drop_each (take 0 xs)) s s
  unfolding drop_each
  each_none s = did_nothing (drop_each []) s refl

  pub each_next : (i : ℕ) (s t v : List ℕ) → i < length xs → 7223 ≤ length s / 8 → Did (drop_each (take i xs)) s t → Did (drop_object (get_or xs i 0)) t v
      → Did (drop_each (take (i + 1) xs)) s v
  each_next i s t v h l p q =
      let y : take (i + 1) xs ≡ take i xs ++ (get_or xs i 0 ∷ []) = ap (λ (j : ℕ). take j xs) (add-one i) ∙ take-suc xs i 0 h in
      did_as (drop_each (take i xs) then drop_object (get_or xs i 0)) (drop_each (take (i + 1) xs)) s v
      (rw y (each_more (take i xs) (get_or xs i 0) (held s)))
      (did_then (drop_each (take i xs)) (drop_object (get_or xs i 0)) s t v l (good_each (take i xs)) p q)

  pub each_all : (i : ℕ) (us s t : List ℕ) → length xs ≤ i → xs ≡ us → Did (drop_each (take i xs)) s t → Did (drop_each us) s t
  each_all i us s t a e p = let z : take i xs ≡ us = take_all i xs a ∙ e in subst (λ (l : List ℕ). Did (drop_each l) s t) z p

pub good_drop_used : (us : List ℕ) → Good (drop_used us)
unfolding drop_used
good_drop_used us = good_then drop_reads (drop_each us) good_drop_reads (good_each us)

pub used_dropped : (us s t u : List ℕ) → 7223 ≤ length s / 8 → Did drop_reads s t → Did (drop_each us) t u → Did (drop_used us) s u
unfolding drop_used
used_dropped us s t u l p q = did_then drop_reads (drop_each us) s t u l good_drop_reads p q

pub place_emptied : (s t : List ℕ) (i : ℕ) → Did (put_number Copies i 0) s t → Did (empty_place i) s t
unfolding empty_place
place_emptied s t i p = p

pub good_empty : AllGood empty_place 64
unfolding empty_place
good_empty = record { each = λ j h. good_number Copies j 0 h }

pub good_vectors : EachGood drop_vector
good_vectors = record { each = λ j. good_drop j }

-- ---- fetched
module _ (s : List ℕ) (x : ℕ) (n : Node) where
  pub inner_copied : (t : List ℕ) → n.kind ≡ 2 → Did (copy_node x n) s t → Did (copy_inner x n) s t
  unfolding copy_inner
  inner_copied t e p = did_as (copy_node x n) (copy_inner x n) s t (rw (eq-eqb _ _ e)) p

  pub inner_not : (n.kind ≡ 2 → ⊥) → Did (copy_inner x n) s s
  unfolding copy_inner nothing
  inner_not d = did_nothing (copy_inner x n) s (rw (ne_eqb _ _ d))

pub vector_marked : (s t : List ℕ) (k q r : ℕ) → q ≡ held s (field 8) → r ≡ put_bit true q k → Did (put_field 8 r) s t → Did (mark_fetched k) s t
unfolding mark_fetched
vector_marked s t k q r e f p = did_as (put_field 8 r) (mark_fetched k) s t (rw (← e, ← f)) p

pub meta_fetched : (s t u : List ℕ) (root states version : ℕ) (n : Node) → n ≡ metadata version root states → 7223 ≤ length s / 8
    → Did (enter_read 0 n) s t → Did (put_fields 12 (states ∷ root ∷ version ∷ [])) t u → Did (fetched_meta root states version) s u
unfolding fetched_meta
meta_fetched s t u root states version n e l p q = rw (← e) (did_then (enter_read 0 n) (put_fields 12 (states ∷ root ∷ version ∷ [])) s t u l (good_read 0 n) p q)

-- ---- the life of a transaction
pub all_dropped : (s t u v : List ℕ) → 7223 ≤ length s / 8 → Did (put_field 12 0) s t → Did (sweep client_words empty_place 64) t u → Did (sweep client_words drop_vector 8) u v → Did drop_all s v
unfolding drop_all
all_dropped s t u v l p q r =
    did_three (put_field 12 0) (sweep client_words empty_place 64) (sweep client_words drop_vector 8) s t u v l (good_field 12 0 (omega arith)) (good_sweep empty_place 64 good_empty) p q r

pub was_reset : (s t u v : List ℕ) (phase : ℕ) → 7223 ≤ length s / 8 → Did (put_field 0 phase) s t → Did (put_field 1 0) t u → Did (put_fields 5 (replicate 7 0)) u v → Did (reset phase) s v
unfolding reset
was_reset s t u v phase l p q r =
    did_three (put_field 0 phase) (put_field 1 0) (put_fields 5 (replicate 7 0)) s t u v l (good_field 0 phase (omega arith)) (good_field 1 0 (omega arith)) p q r

pub was_aborted : (us s t u : List ℕ) → 7223 ≤ length s / 8 → Did (drop_used us) s t → Did (reset 0) t u → Did (abort_part us) s u
was_aborted us s t u l p q = did_then (drop_used us) (reset 0) s t u l (good_drop_used us) p q

pub was_lost : (s t u : List ℕ) → 7223 ≤ length s / 8 → Did (put_field 9 1) s t → Did drop_all t u → Did lose_part s u
unfolding lose_part
was_lost s t u l p q = did_then (put_field 9 1) drop_all s t u l (good_field 9 1 (omega arith)) p q
