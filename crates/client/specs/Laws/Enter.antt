-- How objects enter the sets.
use Rattle.std.specs.Prelude.{◌≡◌, refl, cond, List, [], ◌∷◌, ◌++◌, ℕ, zero, suc, ◌+◌, ◌*◌, ◌/◌, ◌≤◌, ◌<◌, ltb, length, get_or, take, drop}
use Rattle.std.proofs.Common.{sym, ◌∙◌, subst, append_assoc, append-nil, arith, one-add, get_or-take, get_or-drop}
use borrow.Author.Tests.{ltb-true, lt-ltb, le-ltb}
use Rattle.layout.specs.Space.{changed}
use Rattle.layout.specs.Step.{and_then}
use Rattle.layout.proofs.Laws.Step.{changed_append}
use Rattle.layout.specs.Sweep.{sweep}
use Rattle.nodes.specs.declared.node.Node.{Node}
use Rattle.nodes.specs.Found.{Found}
use Rattle.std.specs.Prelude.{Some, None}
use Rattle.client.specs.declared.part.Set.TheVariants.{Reads, Writes}
use Rattle.client.specs.Layout.{ClientWord, client_words}
use Rattle.client.specs.Sets.{held, count, find}
use Rattle.client.specs.Part.{PartStep, Did, ◌then◌, nothing, put_field, put_item}
use Rattle.client.specs.Laws.Steps.{Good, EachGood, did_then, did_as, did_nothing, good_then, good_nothing, good_field, good_item, good_cond, good_by, find_limit, swept_all}
use Rattle.client.specs.Have.{copied}
use Rattle.client.specs.Lent.{Entry, InUse, used_in, own_count, own_number, own_record, own_first, own_list}
use Rattle.client.specs.Laws.Lent.{length_used}
use Rattle.client.specs.Answered.{used_enter}
use Rattle.client.specs.Enter.{read_behind, enter_read, enter_copy, enter_nth, enter_used, written_behind, enter_at, enter_write, write_nth, enter_entries}

module _ (s : List ℕ) (x c : ℕ) (n : Node) (e : c ≡ count (held s) Reads) where
  pub read_full : 96 ≤ c → Did (enter_read x n) s s
  unfolding enter_read nothing
  read_full h = did_nothing (enter_read x n) s (rw (← e, le-ltb _ _ h))

  pub read_entered : (t u : List ℕ) → c < 96 → 7223 ≤ length s / 8 → Did (put_item Reads c x n) s t → Did (put_field 10 (c + 1)) t u → Did (enter_read x n) s u
  unfolding enter_read
  read_entered t u h l p q =
      did_as (read_behind c x n) (enter_read x n) s u (rw (← e, lt-ltb _ _ h))
      (did_then (put_item Reads c x n) (put_field 10 (c + 1)) s t u l (good_item Reads c x n h) p q)

pub good_read : (x : ℕ) (n : Node) → Good (enter_read x n)
unfolding enter_read
good_read x n =
    good_by (λ m. cond (ltb (count m Reads) 96) (read_behind (count m Reads) x n) nothing)
    (λ m. good_cond (read_behind (count m Reads) x n) nothing (ltb (count m Reads) 96)
    (λ h. good_then (put_item Reads (count m Reads) x n) (put_field 10 (count m Reads + 1)) (good_item Reads (count m Reads) x n (ltb-true _ _ h)) (good_field 10 (count m Reads + 1) (omega arith)))
    (λ h. good_nothing))

pub copy_entered : (s t : List ℕ) (x : ℕ) (r : Node) → r ≡ (copied (held s) x).node → Did (enter_read x r) s t → Did (enter_copy x) s t
unfolding enter_copy
copy_entered s t x r e p = did_as (enter_read x r) (enter_copy x) s t (rw e) p

pub good_nth : (u : List ℕ) → EachGood (enter_nth u)
unfolding enter_nth enter_copy
good_nth u = record { each = λ j. good_by (λ m. enter_read (get_or u (j + 1) 0) (copied m (get_or u (j + 1) 0)).node) (λ m. good_read (get_or u (j + 1) 0) (copied m (get_or u (j + 1) 0)).node) }

pub nth_entered : (u s t : List ℕ) (i : ℕ) → Did (enter_copy (get_or u (i + 1) 0)) s t → Did (enter_nth u i) s t
unfolding enter_nth
nth_entered u s t i p = p

-- the numbers of a list, one after another
pub numbers_entered : (xs us s t : List ℕ) (i : ℕ) → xs ≡ us → i ≤ length xs → length xs ≤ i → Did (sweep client_words (enter_nth (length xs ∷ xs)) i) s t → Did (used_enter us) s t
unfolding used_enter enter_used
numbers_entered xs us s t i e a b p =
    let q = swept_all (enter_nth (length xs ∷ xs)) (length xs) i s t a b p in
    subst (λ (l : List ℕ). Did (used_enter l) s t) e (unfold used_enter enter_used in q)

-- and those in the lent list itself
sweep_same : (g h : ℕ → PartStep) (n : ℕ) (m : ClientWord → ℕ) → ((i : ℕ) → i < n → g i ≡ h i) → sweep client_words g n m ≡ sweep client_words h n m
unfolding sweep and_then
sweep_same g h zero m e = refl
sweep_same g h (suc n) m e = rw (sweep_same g h n m (λ i l. e i (omega arith)), e n (omega arith))

nth_same : (u : List ℕ) (i : ℕ) → i < get_or u 0 0 → enter_nth u i ≡ enter_nth (length (used_in u) ∷ used_in u) i
unfolding enter_nth used_in
nth_same u i h =
    let e : get_or (take (get_or u 0 0) (drop 1 u)) i 0 ≡ get_or u (1 + i) 0 = get_or-take (get_or u 0 0) (drop 1 u) i 0 h ∙ get_or-drop 1 u i 0 in
    let z : i + 1 ≡ 1 + i = omega arith in
    rw (z, one-add i, e, one-add i)

pub used_entered : (u s t : List ℕ) (n i : ℕ) → InUse u → n ≡ get_or u 0 0 → i ≤ n → n ≤ i → Did (sweep client_words (enter_nth u) i) s t → Did (used_enter (used_in u)) s t
unfolding used_enter enter_used
used_entered u s t n i f e a b p =
    let l : length (used_in u) ≡ n = length_used u f ∙ sym e in
    let q : sweep client_words (enter_nth (length (used_in u) ∷ used_in u)) n (held s) ≡ sweep client_words (enter_nth u) n (held s) =
    sym (sweep_same (enter_nth u) (enter_nth (length (used_in u) ∷ used_in u)) n (held s) (λ j h. nth_same u j (omega arith))) in
    did_as (sweep client_words (enter_nth u) n) (used_enter (used_in u)) s t (rw (used_enter, enter_used, l) (rw l at q)) (swept_all (enter_nth u) n i s t a b p)

-- ---- writes
module _ (s : List ℕ) (x : ℕ) (n : Node) (g : Found) (f : g ≡ find (held s) Writes x) where
  pub write_replaced : (t : List ℕ) (i : ℕ) → g ≡ Some i → Did (put_item Writes i x n) s t → Did (enter_write x n) s t
  unfolding enter_write
  write_replaced t i e p = did_as (put_item Writes i x n) (enter_write x n) s t (rw (← f, e)) p

  module _ (c : ℕ) (a : g ≡ None) (e : c ≡ count (held s) Writes) where
    pub write_full : 48 ≤ c → Did (enter_write x n) s s
    unfolding enter_write nothing
    write_full h = did_nothing (enter_write x n) s (rw (← f, a, ← e, le-ltb _ _ h))

    pub write_entered : (t u : List ℕ) → c < 48 → 7223 ≤ length s / 8 → Did (put_item Writes c x n) s t → Did (put_field 11 (c + 1)) t u → Did (enter_write x n) s u
    unfolding enter_write
    write_entered t u h l p q =
        did_as (written_behind c x n) (enter_write x n) s u (rw (← f, a, ← e, lt-ltb _ _ h))
        (did_then (put_item Writes c x n) (put_field 11 (c + 1)) s t u l (good_item Writes c x n h) p q)

good_at : (m : ClientWord → ℕ) (x : ℕ) (n : Node) (g : Found) → find m Writes x ≡ g → Good (enter_at x n (count m Writes) g)
good_at m x n (Some i) e = good_item Writes i x n (find_limit m Writes x i e)
good_at m x n None e =
    good_cond (written_behind (count m Writes) x n) nothing (ltb (count m Writes) 48)
    (λ h. good_then (put_item Writes (count m Writes) x n) (put_field 11 (count m Writes + 1)) (good_item Writes (count m Writes) x n (ltb-true _ _ h)) (good_field 11 (count m Writes + 1) (omega arith)))
    (λ h. good_nothing)

pub good_write : (x : ℕ) (n : Node) → Good (enter_write x n)
unfolding enter_write
good_write x n = good_by (λ m. enter_at x n (count m Writes) (find m Writes x)) (λ m. good_at m x n (find m Writes x) refl)

pub good_writes : (w : List ℕ) → EachGood (write_nth w)
unfolding write_nth
good_writes w = record { each = λ j. good_write (own_number w j) (own_record w j) }

pub nth_written : (w s t : List ℕ) (i : ℕ) (n : Node) → n ≡ own_record w i → Did (enter_write (get_or w (34 * i + 1) 0) n) s t → Did (write_nth w i) s t
unfolding write_nth own_number
nth_written w s t i n e p = rw (← e) p

-- the loop over the lent list is its entries, one after another
entries_append : (l k : List Entry) (m : ClientWord → ℕ) → enter_entries (l ++ k) m ≡ (enter_entries l then enter_entries k) m
unfolding enter_entries and_then nothing changed
entries_append [] k m = refl
entries_append (e ∷ l) k m =
    let n = changed client_words m (enter_write e.0 e.1 m) in
    rw (entries_append l k n, changed_append client_words (enter_write e.0 e.1 m) (enter_entries l n) m)
    (sym (append_assoc (enter_write e.0 e.1 m) (enter_entries l n) (enter_entries k (changed client_words n (enter_entries l n)))))

none_entered : (m : ClientWord → ℕ) → [] ≡ enter_entries [] m
unfolding enter_entries nothing
none_entered m = refl

one_entered : (e : Entry) (m : ClientWord → ℕ) → enter_entries (e ∷ []) m ≡ enter_write e.0 e.1 m
unfolding enter_entries and_then nothing
one_entered e m = append-nil (enter_write e.0 e.1 m)

first_entered : (w : List ℕ) (n : ℕ) (m : ClientWord → ℕ) → sweep client_words (write_nth w) n m ≡ enter_entries (own_first w n) m
unfolding sweep own_first and_then write_nth
first_entered w zero m = none_entered m
first_entered w (suc n) m =
    let e : Entry = (own_number w n, own_record w n) in
    rw (first_entered w n m)
    (sym (entries_append (own_first w n) (e ∷ []) m ∙ rw (and_then, one_entered e (changed client_words m (enter_entries (own_first w n) m)))))

pub writes_entered : (w s t : List ℕ) (n i : ℕ) → n ≡ get_or w 0 0 → i ≤ n → n ≤ i → Did (sweep client_words (write_nth w) i) s t → Did (enter_entries (own_list w)) s t
unfolding own_list
writes_entered w s t n i e a b p =
    did_as (sweep client_words (write_nth w) n) (enter_entries (own_first w (own_count w))) s t (sym (rw (← e) (first_entered w n (held s)))) (swept_all (write_nth w) n i s t a b p)
