-- Laws of the last questions.
use Rattle.std.specs.Prelude.{◌≡◌, Bool, ◌&&◌, ◌||◌, eqb, leb, ltb, get_or}
use Rattle.std.proofs.Math.Path.{refl, sym, ap}
use Rattle.std.proofs.Common.{◌∙◌, add-one}
use Rattle.std.proofs.Math.Bool.{true, false, cond, not}
use mathlib.Core.List.{List, [], ◌∷◌, ◌++◌}
use Prim.Native.Nat.{ℕ, zero, suc, ◌+◌, ◌*◌, ◌≤◌, ◌<◌}
use native.Mathlib.Omega.{arith}
use borrow.Author.Tests.{lt-ltb, le-ltb, le-leb, lt-leb}
use Rattle.nodes.specs.declared.node.Node.{Node}
use Rattle.nodes.specs.Found.{Found}
use Rattle.std.specs.Prelude.{Some, None}
use Rattle.nodes.specs.Place.{rises}
use Rattle.nodes.specs.Node.{keys_of}
use Rattle.nodes.specs.Stored.{node_of}
use Rattle.layout.specs.Space.{tab}
use Rattle.client.specs.declared.part.Set.{Set}
use Rattle.client.specs.Layout.{ClientWord, item, writes_count}
use Rattle.client.specs.Items.{all_below, has}
use Rattle.client.specs.Sets.{find, record_at}
use Rattle.client.specs.Have.{copied}
use Rattle.client.specs.Lent.{Entry, OwnFits, own_count, own_number, own_record, own_first, own_list}
use Rattle.client.specs.Work.{version_in, version_there, at_last_version, count_new, versions_there, any_at_last}
use Rattle.client.specs.Laws.Commit.{Sofar, so_next, so_all, so_fails}
use Rattle.walk.specs.declared.walk.Stop.TheVariants.{Refused, Aborts}
use Rattle.walk.specs.Walk.{Course, Going, Ended}
use Rattle.walk.specs.Ask.{OwnKept}
use Rattle.walk.specs.Laws.Own.{own_entry}
use Rattle.change.specs.Fit.{record_fits, entries_fit}
use Rattle.change.specs.Laws.Fit.{fit_append}
use Rattle.change.specs.Work.{judged}
use Rattle.change.specs.Last.{new_one, stays_below, there, reason_of, last_reason}
use Rattle.client.specs.declared.part.Set.TheVariants as set

-- ---- reason 3
module _ (n : Node) (b : Bool) (e : b ≡ rises (keys_of n)) where
  pub own_astray : b ≡ false → false ≡ record_fits n
  unfolding record_fits
  own_astray t = rw (← e, t)

  pub own_by_level : b ≡ true → leb n.level 4 ≡ record_fits n
  unfolding record_fits
  own_by_level t = rw (← e, t)

pub ruleset own_exits = (own_astray, own_by_level)

-- own write i
abbrev pub fits_at : List ℕ → ℕ → Bool
fits_at x i = record_fits (own_record x i)

and_true : (b : Bool) → (b && true) ≡ b
and_true true = refl
and_true false = refl

list_fits : (x : List ℕ) (n : ℕ) → all_below n (fits_at x) ≡ entries_fit (own_first x n)
unfolding all_below entries_fit own_first
list_fits x zero = refl
list_fits x (suc n) = rw (list_fits x n, fit_append (own_first x n) (own_entry x n ∷ [])) (rw (and_true (record_fits (own_record x n))))

module _ (x : List ℕ) (n i : ℕ) (c : n ≡ get_or x 0 0) (s : Sofar (fits_at x) n i) where
  pub all_fitting : n ≤ i → true ≡ entries_fit (own_list x)
  unfolding own_list
  all_fitting h = so_all (fits_at x) n (own_count x) i c h s ∙ list_fits x (own_count x)

  module _ (h : i < n) (r : Node) (p : r ≡ own_record x i) where
    pub few_keys : OwnKept x → r.count ≤ 14
    few_keys k = let j : i < get_or x 0 0 = omega arith in rw p (k.few i j)

    module _ (b : Bool) (e : b ≡ record_fits r) where
      here : b ≡ record_fits (own_record x i)
      here = rw p at e

      pub one_fitting : not b ≡ false → Sofar (fits_at x) n (i + 1)
      one_fitting t = so_next (fits_at x) n i b h here t s

      pub one_astray : not b ≡ true → false ≡ entries_fit (own_list x)
      unfolding own_list
      one_astray t = so_fails (fits_at x) n (own_count x) i b c h here t s ∙ list_fits x (own_count x)

pub ruleset fit_exits = (all_fitting, few_keys, one_fitting, one_astray)

-- ---- reason 4
module _ (m : ClientWord → ℕ) (y : ℕ) (b : Bool) (p : b ≡ has m set.Writes y) where
  pub not_new : b ≡ true → 0 ≡ new_one m y
  unfolding new_one
  not_new e = rw (← p, e)

  pub is_new : b ≡ false → 1 ≡ new_one m y
  unfolding new_one
  is_new e = rw (← p, e)

module _ (m : ClientWord → ℕ) (x : List ℕ) where
  count_append : (l k : List Entry) → count_new m (l ++ k) ≡ count_new m l + count_new m k
  unfolding count_new
  count_append [] k = omega arith
  count_append (e ∷ l) k = go (has m set.Writes e.0) (count_append l k)
    where
      go : (b : Bool) → count_new m (l ++ k) ≡ count_new m l + count_new m k → cond b (count_new m (l ++ k)) (suc (count_new m (l ++ k))) ≡ cond b (count_new m l) (suc (count_new m l)) + count_new m k
      go true h = h
      go false h = omega arith

  -- the new ones among the first i
  pub record Counted (n i c : ℕ) : Type 0 where
    pub within : (i ≤ n) × (c ≤ i)
    pub is : c ≡ count_new m (own_first x i)

  pub counted_none : (n : ℕ) → Counted n 0 0
  unfolding count_new own_first
  counted_none n = record { within = (omega arith, omega arith); is = refl }

  pub counted_next : (n i c r : ℕ) → i < n → r ≤ 1 → r ≡ new_one m (get_or x (34 * i + 1) 0) → Counted n i c → Counted n (i + 1) (c + r)
  unfolding new_one count_new own_first own_number
  counted_next n i c r h b p s = record {
    within = (omega arith, omega (arith, s.within));
    is = rw (add-one i, count_append (own_first x i) (own_entry x i ∷ []), ← s.is, p);
  }

  pub counted_all : (n i c : ℕ) → n ≡ get_or x 0 0 → n ≤ i → Counted n i c → c ≡ count_new m (own_list x)
  unfolding own_list
  counted_all n i c e h s = let z : i ≡ own_count x = omega (arith, s.within) in s.is ∙ rw z

  pub counted_few : (n i c : ℕ) → n ≡ get_or x 0 0 → OwnFits x → Counted n i c → c ≤ 20
  counted_few n i c e f s = omega (arith, f.few, s.within)

pub ruleset new_exits = (not_new, is_new)

pub ruleset counting = (counted_none, counted_next, counted_all, counted_few)

-- ---- reason 8
-- a record's third word
pub version_word : (m : ClientWord → ℕ) (s : Set) (i v : ℕ) → v ≡ m (item s i 3) → v ≡ (record_at m s i).version
unfolding record_at node_of tab
version_word m s i v e = e

module _ (m : ClientWord → ℕ) (y : ℕ) (f : Found) (p : f ≡ find m set.Reads y) where
  pub version_read : (j v : ℕ) → f ≡ Some j → v ≡ (record_at m set.Reads j).version → v ≡ version_in m y (find m set.Reads y)
  version_read j v e q = rw (← p, e, q)

  pub version_copied : (l : Node) → f ≡ None → l ≡ (copied m y).node → l.version ≡ version_in m y (find m set.Reads y)
  version_copied l e q = rw (← p, e, q)

pub ruleset version_exits = (version_read, version_copied)

module _ (m : ClientWord → ℕ) (y : ℕ) where
  pub flag_below : 8192 < y → true ≡ stays_below m y
  unfolding stays_below
  flag_below h = rw (lt-leb _ _ h)

  pub version_below : (v : ℕ) → y ≤ 8192 → v ≡ version_in m y (find m set.Reads y) → not (eqb v 4294967295) ≡ stays_below m y
  unfolding stays_below
  version_below v h e = rw (le-leb _ _ h, ← e)

-- own write i
abbrev pub below_at : (ClientWord → ℕ) → List ℕ → ℕ → Bool
below_at m x i = stays_below m (get_or x (34 * i + 1) 0)

module _ (m : ClientWord → ℕ) (x : List ℕ) where
  any_append : (l k : List Entry) → any_at_last m (l ++ k) ≡ (any_at_last m l || any_at_last m k)
  unfolding any_at_last
  any_append [] k = refl
  any_append (e ∷ l) k = go (at_last_version m e.0) (any_append l k)
    where
      go : (b : Bool) → any_at_last m (l ++ k) ≡ (any_at_last m l || any_at_last m k) → (b || any_at_last m (l ++ k)) ≡ ((b || any_at_last m l) || any_at_last m k)
      go true h = refl
      go false h = h

  list_below : (n : ℕ) → all_below n (below_at m x) ≡ not (any_at_last m (own_first x n))
  unfolding all_below stays_below any_at_last own_first own_number
  list_below zero = refl
  list_below (suc n) = rw (list_below n, any_append (own_first x n) (own_entry x n ∷ [])) (go (any_at_last m (own_first x n)) (at_last_version m (own_number x n)))
    where
      go : (a b : Bool) → (not a && not b) ≡ not (a || (b || false))
      go true b = refl
      go false true = refl
      go false false = refl

  module _ (n i : ℕ) (c : n ≡ get_or x 0 0) (s : Sofar (below_at m x) n i) where
    pub all_staying : n ≤ i → true ≡ not (any_at_last m (own_list x))
    unfolding own_list
    all_staying h = so_all (below_at m x) n (own_count x) i c h s ∙ list_below (own_count x)

    pub one_at_last : (b : Bool) → i < n → b ≡ below_at m x i → not b ≡ true → false ≡ not (any_at_last m (own_list x))
    unfolding own_list
    one_at_last b h e t = so_fails (below_at m x) n (own_count x) i b c h e t s ∙ list_below (own_count x)

pub ruleset below_exits = (flag_below, version_below)

pub ruleset staying = (all_staying, one_at_last)

-- ---- refusal 10
module _ (m : ClientWord → ℕ) (y : ℕ) where
  pub read_there : (f : Found) → f ≡ find m set.Reads y → (j v : ℕ) → f ≡ Some j → v ≡ (record_at m set.Reads j).version → leb v 4294967295 ≡ version_there m y (find m set.Reads y)
  read_there f p j v e q = rw (← p, e, q)

  pub used_there : (f : Found) → f ≡ find m set.Reads y → (b : Bool) → f ≡ None → b ≡ has m set.Writes y → not b ≡ version_there m y (find m set.Reads y)
  used_there f p b e q = rw (← p, e, q)

  pub flag_there : 8192 < y → true ≡ there m y
  unfolding there
  flag_there h = rw (lt-ltb _ _ h)

  pub node_there : (b : Bool) → y ≤ 8192 → b ≡ version_there m y (find m set.Reads y) → b ≡ there m y
  unfolding there
  node_there b h e = e ∙ rw (le-ltb _ _ h)

-- own write i
abbrev pub there_at : (ClientWord → ℕ) → List ℕ → ℕ → Bool
there_at m x i = there m (get_or x (34 * i + 1) 0)

module _ (m : ClientWord → ℕ) (x : List ℕ) where
  there_append : (l k : List Entry) → versions_there m (l ++ k) ≡ (versions_there m l && versions_there m k)
  unfolding versions_there
  there_append [] k = refl
  there_append (e ∷ l) k = go (ltb 8192 e.0 || version_there m e.0 (find m set.Reads e.0)) (there_append l k)
    where
      go : (b : Bool) → versions_there m (l ++ k) ≡ (versions_there m l && versions_there m k) → (b && versions_there m (l ++ k)) ≡ ((b && versions_there m l) && versions_there m k)
      go true h = h
      go false h = refl

  list_there : (n : ℕ) → all_below n (there_at m x) ≡ versions_there m (own_first x n)
  unfolding all_below there versions_there own_first own_number
  list_there zero = refl
  list_there (suc n) = rw (list_there n, there_append (own_first x n) (own_entry x n ∷ [])) (go (versions_there m (own_first x n)) (there_at m x n))
    where
      go : (a b : Bool) → (a && b) ≡ (a && (b && true))
      go true true = refl
      go true false = refl
      go false b = refl

  module _ (n i : ℕ) (c : n ≡ get_or x 0 0) (s : Sofar (there_at m x) n i) where
    pub all_are_there : n ≤ i → true ≡ versions_there m (own_list x)
    unfolding own_list
    all_are_there h = so_all (there_at m x) n (own_count x) i c h s ∙ list_there (own_count x)

    pub one_is_not : (b : Bool) → i < n → b ≡ there_at m x i → not b ≡ true → false ≡ versions_there m (own_list x)
    unfolding own_list
    one_is_not b h e t = so_fails (there_at m x) n (own_count x) i b c h e t s ∙ list_there (own_count x)

pub ruleset there_exits = (read_there, used_there, flag_there, node_there, all_are_there, one_is_not)

-- ---- all of them
module _ (m : ClientWord → ℕ) (fit : Bool) (new : ℕ) (there below : Bool) where
  abbrev Reason : ℕ → Type 0
  Reason r = r ≡ reason_of m fit new there below

  pub reason_3 : not fit ≡ true → Reason 3
  unfolding reason_of
  reason_3 t = rw t

  module _ (t : not fit ≡ false) (w : ℕ) (pw : w ≡ m writes_count) where
    pub reason_4 : 48 < w + new → Reason 4
    unfolding reason_of
    reason_4 h = rw (t, ← pw, lt-ltb _ _ h)

    module _ (h : w + new ≤ 48) where
      pub reason_10 : not there ≡ true → Reason 10
      unfolding reason_of
      reason_10 u = rw (t, ← pw, le-ltb _ _ h, u)

      pub reason_8 : not there ≡ false → not below ≡ true → Reason 8
      unfolding reason_of
      reason_8 u v = rw (t, ← pw, le-ltb _ _ h, u, v)

      pub no_reason : not there ≡ false → not below ≡ false → Reason 0
      unfolding reason_of
      no_reason u v = rw (t, ← pw, le-ltb _ _ h, u, v)
      -- as the code says it

  pub ends_by_3 : not fit ≡ true → Ended (Aborts 3) ≡ judged Going (reason_of m fit new there below)
  unfolding judged
  ends_by_3 t = ap (judged Going) (reason_3 t)

  module _ (t : not fit ≡ false) (w : ℕ) (pw : w ≡ m writes_count) where
    pub ends_by_4 : 48 < w + new → Ended (Aborts 4) ≡ judged Going (reason_of m fit new there below)
    unfolding judged
    ends_by_4 h = ap (judged Going) (reason_4 t w pw h)

    module _ (h : w + new ≤ 48) where
      pub ends_by_10 : not there ≡ true → Ended Refused ≡ judged Going (reason_of m fit new there below)
      unfolding judged
      ends_by_10 u = ap (judged Going) (reason_10 t w pw h u)

      pub ends_by_8 : not there ≡ false → not below ≡ true → Ended (Aborts 8) ≡ judged Going (reason_of m fit new there below)
      unfolding judged
      ends_by_8 u v = ap (judged Going) (reason_8 t w pw h u v)

      pub ends_by_none : not there ≡ false → not below ≡ false → Going ≡ judged Going (reason_of m fit new there below)
      unfolding judged
      ends_by_none u v = ap (judged Going) (no_reason t w pw h u v)

or_false : (b : Bool) → (b || false) ≡ b
or_false true = refl
or_false false = refl

pub ruleset reason_exits = (ends_by_3, ends_by_4, ends_by_10, ends_by_8, ends_by_none)

module _ (m : ClientWord → ℕ) (a : Bool) (c : ℕ) (d b : Bool) (r : ℕ) (pr : r ≡ reason_of m a c d b) where
  pub reason_of_all : (l : List Entry) → a ≡ entries_fit l → c ≡ count_new m l → d ≡ versions_there m l → b ≡ not (any_at_last m l) → r ≡ last_reason m l
  unfolding last_reason
  reason_of_all l pa pc pd pb = rw (← pa, ← pc, ← pd, ← pb) pr

  -- of one entry
  pub reason_of_one : (k : ℕ) (n : Node) → a ≡ record_fits n → c ≡ new_one m k → d ≡ there m k → b ≡ stays_below m k → r ≡ last_reason m ((k, n) ∷ [])
  unfolding entries_fit count_new versions_there any_at_last new_one there stays_below
  reason_of_one k n pa pc pd pb = reason_of_all ((k, n) ∷ []) (pa ∙ sym (and_true (record_fits n))) pc (pd ∙ sym (and_true (ltb 8192 k || version_there m k (find m set.Reads k)))) (pb ∙ ap not (sym (or_false (at_last_version m k))))

-- what is judged by it
module _ (m : ClientWord → ℕ) (a : Bool) (c : ℕ) (d b : Bool) (r : Course) (pr : r ≡ judged Going (reason_of m a c d b)) where
  pub judged_by_all : (l : List Entry) → a ≡ entries_fit l → c ≡ count_new m l → d ≡ versions_there m l → b ≡ not (any_at_last m l) → r ≡ judged Going (last_reason m l)
  judged_by_all l pa pc pd pb = pr ∙ ap (judged Going) (reason_of_all m a c d b (reason_of m a c d b) refl l pa pc pd pb)

  pub judged_by_one : (k : ℕ) (n : Node) → a ≡ record_fits n → c ≡ new_one m k → d ≡ there m k → b ≡ stays_below m k → r ≡ judged Going (last_reason m ((k, n) ∷ []))
  judged_by_one k n pa pc pd pb = pr ∙ ap (judged Going) (reason_of_one m a c d b (reason_of m a c d b) refl k n pa pc pd pb)

pub ruleset one_exits = (judged_by_one, judged_by_all)
