-- The tests that the machine computes over a list of items, and what they say of every object.
use Rattle.std.specs.Prelude.{◌≡◌, Bool, true, ◌&&◌, ◌||◌, not, ◌⊎◌}
use Rattle.std.proofs.Math.Path.{refl, subst}
use Rattle.std.proofs.Common.{ap, sym, ◌∙◌, inl, inr}
use Rattle.std.proofs.Math.Bool.{false}
use Rattle.std.proofs.lemmas.Bool.{false≢true, not-true}
use mathlib.Core.List.{List, [], ◌∷◌}
use Rattle.std.proofs.Math.Option.{Option, none, some, none-ne-some, some-injective}
use Rattle.std.proofs.Math.Decide.{ℕ_discrete}
use Rattle.base.proofs.Laws.Test.{bool_cases, cond_true, or_left, or_right, or_cases, yes_of, of_yes}
use Rattle.base.specs.Test.{not_both, and_both, yes?}
use Rattle.protocol.specs.Setting.{Setting}
use Rattle.protocol.specs.Lists.{Among, all, any}
use Rattle.protocol.proofs.Laws.Lists.{all_among, any_among, any_in}
use Rattle.protocol.specs.System.{there, Homeless, inner_before_after, Checked, ReadLock, LockedAt, WriteLock, Parts}
use Rattle.protocol.specs.Machine.{Item, find, says, test, Slot, Lock, shared, owned, Machine, seen}
use Rattle.protocol.specs.Moves.{item_inner, for_all, for_home, participants, home_there, homeless, homed, first_of, all_parts, check, to_write, to_read, grants}

module _ (T : Setting) where
  open T use {Obj, Server, Client, eq_obj, eq_val, eq_server, eq_client, servers, servers_all, home, inner, by_value, meta}

  -- the item that is found is in the list, and is the object's
  pub find_item : (is : List (Item T)) (o : Obj) (i : Item T) → find T is o ≡ some i → Among i is × (i.obj ≡ o)
  unfolding find Among
  find_item [] o i e = absurd (none-ne-some i e)
  find_item (j ∷ is) o i e = go (eq_obj j.obj o) refl (find_item is o i)
    where
      go : (d : Dec (j.obj ≡ o)) → eq_obj j.obj o ≡ d → (find T is o ≡ some i → Among i is × (i.obj ≡ o)) → Among i (j ∷ is) × (i.obj ≡ o)
      go (yes p) q rec =
          let same : j ≡ i = some-injective j i (rw (q, find) at e) in
          (inl (sym same), subst (λ k. k.obj ≡ o) same p)
      go (no n) q rec = let r = rec (rw (q, find) at e) in (inr r.0, r.1)

  -- what a test that fails without an item says: there is one
  pub found : (f : Item T → Bool) (is : List (Item T)) (o : Obj) → test T f is o ≡ true → (i : Item T) × (find T is o ≡ some i)
  found f is o h = go (find T is o) refl
    where
      go : (z : Option (Item T)) → find T is o ≡ z → (i : Item T) × (find T is o ≡ some i)
      go none e = absurd (false≢true (sym (ap (says T f false) e) ∙ h))
      go (some i) e = (i, e)

  -- a statement on an object may be proved at its item
  pub at_item : (is : List (Item T)) (o : Obj) (i : Item T) → find T is o ≡ some i → (P : Obj → Type 0)
      → (find T is i.obj ≡ some i → P i.obj) → P o
  at_item is o i q P h = let e = (find_item is o i q).1 in subst P e (h (ap (find T is) e ∙ q))

  -- a statement on what is found: without an item, and at each item's object
  pub by_item : (is : List (Item T)) (P : Obj → Option (Item T) → Type 0) → ((o : Obj) → P o none) → ((i : Item T) → P i.obj (some i))
      → (o : Obj) → P o (find T is o)
  by_item is P without with_item o = go (find T is o) refl
    where
      go : (z : Option (Item T)) → find T is o ≡ z → P o z
      go none q = without o
      go (some i) q = subst (λ o. P o (some i)) (find_item is o i q).1 (with_item i)

  -- PARTICIPANTS: those computed are those of the rules
  first_none : (p : Server → Bool) (ss : List Server) → p (first_of T p ss) ≡ false → (s : Server) → Among s ss → p s ≡ false
  unfolding first_of Among
  first_none p [] h s a = absurd a
  first_none p (t ∷ ss) h s a = go (bool_cases (p t)) (λ q. first_none p ss q s) a
    where
      go : (p t ≡ true) ⊎ (p t ≡ false) → (p (first_of T p ss) ≡ false → Among s ss → p s ≡ false) → (s ≡ t) ⊎ Among s ss → p s ≡ false
      go (inl b) rec _ = absurd (not_both b (subst (λ u. p u ≡ false) (cond_true t (first_of T p ss) b) h))
      go (inr n) rec (inl e) = subst (λ u. p u ≡ false) (sym e) n
      go (inr n) rec (inr i) = rec (rw n at h) i

  pub participants_right : (y : Slot T) → homed T y.items ≡ true
      → Parts T (seen T y) (participants T y.items) (first_of T (participants T y.items) servers)
  participants_right y H = record {
    homes = λ o r n. let f = found (λ i. true) y.items o r in by_all (bool_cases (any (for_all T) y.items)) o f.0 f.1 n;
    everywhere = λ o s w b a. let f = found (λ i. i.written) y.items o w in rw (for_some o f.0 f.1 w b) a;
    one_of_them = λ h s. first_none (participants T y.items) servers h s (servers_all s);
  }
    where
      homes : (o : Obj) (i : Item T) → find T y.items o ≡ some i → inner o ((seen T y).value_read o) ≡ false → any (for_home T (home o)) y.items ≡ true
      homes o i q = at_item y.items o i q (λ o. inner o ((seen T y).value_read o) ≡ false → any (for_home T (home o)) y.items ≡ true)
          (λ q n. let h = home i.obj in
          any_among (for_home T h) y.items i (rw (rw q at n) (of_yes (eq_server h h) refl)) (find_item y.items i.obj i q).0)

      for_some : (o : Obj) (i : Item T) → find T y.items o ≡ some i → (seen T y).written o ≡ true
          → inner_before_after T (seen T y) o ≡ true → any (for_all T) y.items ≡ true
      for_some o i q = at_item y.items o i q
          (λ o. (seen T y).written o ≡ true → inner_before_after T (seen T y) o ≡ true → any (for_all T) y.items ≡ true)
          (λ q w b. let h : i.written ≡ true = rw q at w in
          any_among (for_all T) y.items i (rw h (rw (q, h) at b)) (find_item y.items i.obj i q).0)

      p : Server → Bool
      p = participants T y.items

      HomelessHere : Type 0
      HomelessHere = Homeless T (seen T y).read (λ o. inner o ((seen T y).value_read o)) (there T (seen T y)) p (first_of T p servers)

      -- an inner node whose home isn't there
      without : (i : Item T) → homeless T y.items i ≡ true → (test T (λ i. true) y.items meta && p (first_of T p servers)) ≡ true → HomelessHere
      without i h k =
          let a = and_both (test T (λ j. inner j.obj j.old) y.items i.obj) (not (yes? (eq_obj i.obj meta)) && not (home_there T y.items i)) h in
          let b = and_both (not (yes? (eq_obj i.obj meta))) (not (home_there T y.items i)) a.1 in
          let c = and_both (test T (λ i. true) y.items meta) (p (first_of T p servers)) k in
          let f = found (λ j. inner j.obj j.old) y.items i.obj a.0 in (
            c.1,
            c.0,
            (
              i.obj,
              rw f.1 refl,
              inner_there i.obj f.0 f.1 a.0,
              λ e. not_both (of_yes (eq_obj i.obj meta) e) (not-true _ b.0),
              not-true _ b.1,
            ),
          )
        where
          inner_there : (o : Obj) (j : Item T) → find T y.items o ≡ some j → test T (λ j. inner j.obj j.old) y.items o ≡ true
              → inner o ((seen T y).value_read o) ≡ true
          inner_there o j q = at_item y.items o j q (λ o. test T (λ j. inner j.obj j.old) y.items o ≡ true → inner o ((seen T y).value_read o) ≡ true)
              (λ q h. rw q (rw q at h))

      -- the home is there, if those of all outer objects are
      with_home : all (λ i. inner i.obj i.old || home_there T y.items i) y.items ≡ true → (o : Obj) (i : Item T) → find T y.items o ≡ some i
          → inner o ((seen T y).value_read o) ≡ false → there T (seen T y) (home o) ≡ true
      with_home h o i q = at_item y.items o i q (λ o. inner o ((seen T y).value_read o) ≡ false → there T (seen T y) (home o) ≡ true)
          (λ q n. rw (rw q at n) at (all_among (λ i. inner i.obj i.old || home_there T y.items i) y.items i h (find_item y.items i.obj i q).0))

      by_all : (any (for_all T) y.items ≡ true) ⊎ (any (for_all T) y.items ≡ false) → (o : Obj) (i : Item T) → find T y.items o ≡ some i
          → inner o ((seen T y).value_read o) ≡ false → (p (home o) ≡ true) ⊎ HomelessHere
      by_all (inr n) o i q e = inl (rw n (homes o i q e))
      by_all (inl b) o i q e = go (or_cases (not (any (for_all T) y.items)) _ H)
        where
          last : (all (λ i. inner i.obj i.old || home_there T y.items i) y.items ≡ true)
              ⊎ ((any (homeless T y.items) y.items && (test T (λ i. true) y.items meta && p (first_of T p servers))) ≡ true)
              → (p (home o) ≡ true) ⊎ HomelessHere
          last (inl h) = inl (rw b (with_home h o i q e))
          last (inr h) =
              let a = and_both (any (homeless T y.items) y.items) _ h in
              let j = any_in (homeless T y.items) y.items a.0 in
              inr (without j.0 j.2 a.1)

          go : (not (any (for_all T) y.items) ≡ true)
              ⊎ ((all (λ i. inner i.obj i.old || home_there T y.items i) y.items
              || (any (homeless T y.items) y.items && (test T (λ i. true) y.items meta && p (first_of T p servers)))) ≡ true)
              → (p (home o) ≡ true) ⊎ HomelessHere
          go (inl h) = absurd (not_both b (not-true _ h))
          go (inr h) = last (or_cases (all (λ i. inner i.obj i.old || home_there T y.items i) y.items) _ h)

  -- all participants have done it
  pub each_part : (p done : Server → Bool) → all_parts T p done ≡ true → (s : Server) → p s ≡ true → done s ≡ true
  each_part p done h s e = rw e at (all_among (λ s. not (p s) || done s) servers s h (servers_all s))

  -- LOCKS: what the protocol locks for writing and for reading the items ask for
  pub asks_write : (y : Slot T) (s : Server) (o : Obj) → WriteLock T (seen T y) s o → test T (to_write T s) y.items o ≡ true
  asks_write y s o w = go (found (λ i. i.written) y.items o w.0) w
    where
      by : (i : Item T) → i.written ≡ true → (s ≡ home i.obj) ⊎ (item_inner T i ≡ true) → to_write T s i ≡ true
      by i h (inl e) = rw h (or_left (yes? (eq_server s (home i.obj))) (item_inner T i) (of_yes (eq_server s (home i.obj)) e))
      by i h (inr b) = rw h (or_right (yes? (eq_server s (home i.obj))) (item_inner T i) b)

      locked : (i : Item T) → i.written ≡ true → find T y.items i.obj ≡ some i → LockedAt T (seen T y) s i.obj
          → (s ≡ home i.obj) ⊎ (item_inner T i ≡ true)
      locked i h q (inl e) = inl e
      locked i h q (inr b) = inr (rw (q, h) at b)

      go : (i : Item T) × (find T y.items o ≡ some i) → WriteLock T (seen T y) s o → test T (to_write T s) y.items o ≡ true
      go (i, q) = at_item y.items o i q (λ o. WriteLock T (seen T y) s o → test T (to_write T s) y.items o ≡ true)
          (λ q w. let h : i.written ≡ true = rw q at w.0 in rw q (by i h (locked i h q w.1)))

  pub asks_read : (y : Slot T) (s : Server) (o : Obj) → ReadLock T (seen T y) s o → test T (to_read T y.lowest s) y.items o ≡ true
  asks_read y s o r = go (found (λ i. true) y.items o r.0) r.1
    where
      Asks : Obj → Type 0
      Asks o = test T (to_read T y.lowest s) y.items o ≡ true

      by : (i : Item T) → find T y.items i.obj ≡ some i → Checked T (seen T y) s i.obj → Asks i.obj
      by i q (inl (n, inl e)) = rw (q, rw q at n) (or_left (yes? (eq_server y.lowest s)) i.written (of_yes (eq_server y.lowest s) e))
      by i q (inl (n, inr w)) = rw (q, rw q at n) (or_right (yes? (eq_server y.lowest s)) i.written (rw q at w))
      by i q (inr (n, e)) = rw (q, rw q at n) (of_yes (eq_server s (home i.obj)) e)

      go : (i : Item T) × (find T y.items o ≡ some i) → Checked T (seen T y) s o → Asks o
      go (i, q) = at_item y.items o i q (λ o. Checked T (seen T y) s o → Asks o) (λ q. by i q)

  -- an object without an item asks for nothing, so the test of the items is one of all objects
  none_asked : (c : Client) (l : Lock T) → grants T c false false l ≡ true
  none_asked c (shared q) = refl
  none_asked c (owned d) = or_right (yes? (eq_client d c)) true refl

  pub granted_all : (c : Client) (y : Slot T) (s : Server) (locks : Obj → Lock T)
      → all (λ i. grants T c (to_write T s i) (to_read T y.lowest s i) (locks i.obj)) y.items ≡ true
      → (o : Obj) → grants T c (test T (to_write T s) y.items o) (test T (to_read T y.lowest s) y.items o) (locks o) ≡ true
  granted_all c y s locks h o = go (find T y.items o) refl
    where
      w : Item T → Bool
      w = to_write T s

      r : Item T → Bool
      r = to_read T y.lowest s

      go : (z : Option (Item T)) → find T y.items o ≡ z → grants T c (says T w false z) (says T r false z) (locks o) ≡ true
      go none q = none_asked c (locks o)
      go (some i) q =
          let k = find_item y.items o i q in
          subst (λ p. grants T c (w i) (r i) (locks p) ≡ true) k.1 (all_among (λ i. grants T c (w i) (r i) (locks i.obj)) y.items i h k.0)

  -- CHECKS: what the check of an item says
  pub check_table : (m : Machine T) (l s : Server) (i : Item T) → check T m l s i ≡ true → inner i.obj i.old ≡ true
      → (l ≡ s) ⊎ (i.written ≡ true) → m.table s i.obj ≡ i.version
  check_table m l s i h n w = yes_of (ℕ_discrete (m.table s i.obj) i.version) (rw (n, asked w) at h)
    where
      asked : (l ≡ s) ⊎ (i.written ≡ true) → (yes? (eq_server l s) || i.written) ≡ true
      asked (inl e) = or_left (yes? (eq_server l s)) i.written (of_yes (eq_server l s) e)
      asked (inr e) = or_right (yes? (eq_server l s)) i.written e

  pub check_version : (m : Machine T) (l s : Server) (i : Item T) → check T m l s i ≡ true → inner i.obj i.old ≡ false
      → s ≡ home i.obj → by_value i.obj ≡ false → m.version s i.obj ≡ i.version
  check_version m l s i h n e b = yes_of (ℕ_discrete (m.version s i.obj) i.version) (rw (n, of_yes (eq_server s (home i.obj)) e, b) at h)

  pub check_value : (m : Machine T) (l s : Server) (i : Item T) → check T m l s i ≡ true → inner i.obj i.old ≡ false
      → s ≡ home i.obj → by_value i.obj ≡ true → m.value s i.obj ≡ i.old
  check_value m l s i h n e b = yes_of (eq_val (m.value s i.obj) i.old) (rw (n, of_yes (eq_server s (home i.obj)) e, b) at h)
