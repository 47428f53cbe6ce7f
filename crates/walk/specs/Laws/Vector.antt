-- Laws of a look at one server.
use Rattle.std.specs.Prelude.{◌≡◌, Bool, not, length, drop, get_or}
use Rattle.std.proofs.Math.Path.{refl, sym}
use Rattle.std.proofs.Common.{◌∙◌, arith, length-take, length-drop, length-set}
use Rattle.std.proofs.Math.Bool.{true, false, cond}
use mathlib.Core.List.{List, [], ◌∷◌}
use Rattle.std.proofs.Math.Option.{Option, none, some}
use Prim.Native.Nat.{ℕ, suc, ◌+◌, ◌≤◌, ◌<◌}
use borrow.Author.Tests.{lt-ltb, not-true, not-false}
use Rattle.nodes.specs.Found.{Found}
use Rattle.std.specs.Prelude.{Some, None}
use Rattle.nodes.specs.Found.{found, Inside}
use Rattle.nodes.proofs.Laws.Found.{found_some, absent_inside}
use Rattle.nodes.specs.Vector.{shifted, lowest_free, or_else, free_from, first_free}
use Rattle.nodes.proofs.Laws.Bits.{length_flags}
use Rattle.operations.specs.Object.{vector, fetched, Val, Writes}
use Rattle.operations.specs.Slot.{free_slot, search}
use Rattle.operations.specs.Path.{TreePlan}
use Rattle.walk.specs.declared.walk.Stop.TheVariants.{LacksVector, Refused, Aborts}
use Rattle.client.specs.Layout.{ClientWord}
use Rattle.client.specs.Vectors.{has_vector, seen_words, is_fetched, vector_fits}
use Rattle.client.specs.Have.{have, broken}
use Rattle.client.specs.Run.{run}
use Rattle.client.specs.Lent.{own_count, used_in}
use Rattle.walk.specs.Walk.{Course, Going, Ended, goes, told, over, worked, walked, carry}
use Rattle.walk.specs.Laws.Walk.{full_ask}
use Rattle.walk.specs.Ask.{HoldsWrites, Noted, popped}
use Rattle.walk.specs.Laws.Ask.{popped_used, popped_noted, over_some, over_long}
use Rattle.walk.specs.Laws.Down.{stops_not}
use Rattle.walk.specs.Counted.{counts}
use Rattle.walk.specs.Laws.Counted.{length_counts, counted_is}
use Rattle.walk.specs.Vector.{seen_vector, VectorAsked, passes, slot_in, Looked}
use Rattle.plans.specs.Plan as P
use Rattle.nodes.specs.Flags as N

-- ---- the question for a vector
module _ (m : ClientWord → ℕ) (u : List ℕ) (s : ℕ) (b : Bool) (e : b ≡ over m (used_in u)) (h : Noted m u) (l : s < 8) where
  pub vector_over : (u' : List ℕ) → b ≡ true → u' ≡ popped u → VectorAsked m u s (Ended (Aborts 4)) u'
  vector_over u' t p =
      let c : get_or u 0 0 ≤ 97 = omega arith in
      rw p (record {
        asks = λ slots k. rw (full_ask slots m (used_in u) (vector s) k (sym e ∙ t), popped_used u h.long c);
        again = λ g. stops_not (Ended (Aborts 4)) refl g;
        noted = popped_noted m u h;
        long = simp length-set;
      })

  module _ (t : b ≡ false) where
    under : over m (used_in u) ≡ false
    under = sym e ∙ t

    module _ (r : Bool) (pr : r ≡ vector_fits m s) where
      pub vector_unfit : not r ≡ true → VectorAsked m u s (Ended Refused) u
      unfolding walked worked run have broken
      vector_unfit nr =
          let f : vector_fits m s ≡ false = sym pr ∙ not-true r nr in
          record {
            asks = λ slots k. rw (walked, worked, under, run, have, lt-ltb s 8 l, f, broken, lt-ltb s 8 l, f);
            again = λ g. stops_not (Ended Refused) refl g;
            noted = h;
            long = refl;
          }

    module _ (r : Bool) (pr : r ≡ vector_fits m s) (nr : not r ≡ false) (c : Bool) (pc : c ≡ has_vector m s) where
      f : vector_fits m s ≡ true
      f = sym pr ∙ not-false r nr

      pub vector_lacks : not c ≡ true → VectorAsked m u s (Ended (LacksVector s)) u
      unfolding walked worked run have broken
      vector_lacks nc =
          let q : has_vector m s ≡ false = sym pc ∙ not-true c nc in
          record {
            asks = λ slots k. rw (walked, worked, under, run, have, lt-ltb s 8 l, f, q, broken, lt-ltb s 8 l, f);
            again = λ g. stops_not (Ended (LacksVector s)) refl g;
            noted = h;
            long = refl;
          }

      pub vector_there : not c ≡ false → VectorAsked m u s Going u
      unfolding walked worked run have broken
      vector_there nc =
          let q : has_vector m s ≡ true = sym pc ∙ not-false c nc in
          record {
            asks = λ slots k. rw (walked, worked, under, run, have, lt-ltb s 8 l, f, q);
            again = λ _ slots k. go slots k (is_fetched m s) refl q;
            noted = h;
            long = refl;
          }
        where
          go : (slots : ℕ) (k : Val → TreePlan) (f : Bool) → is_fetched m s ≡ f → has_vector m s ≡ true
              → walked slots m (P.ask (fetched s) k) (used_in u)
              ≡ cond (is_fetched m s) (walked slots m (k (seen_vector slots m s)) (used_in u)) (told (Ended (LacksVector s)) (used_in u))
          go slots k true p q = rw (walked, worked, under, run, have, p, lt-ltb s 8 l, f, q)
          go slots k false p q = rw (walked, worked, under, run, have, p, broken, lt-ltb s 8 l, f)

pub ruleset vector_exits = (over_some, over_long, vector_over, vector_unfit, vector_lacks, vector_there)

-- ---- a look at a server
-- a slot that is found is one of the words' flags
lowest_near : (l : List Bool) (i : ℕ) → lowest_free l ≡ some i → i < length l
lowest_near [] i e = let z : ◌≡◌ {A = ℕ} 0 1 = cc in absurd (omega arith)
lowest_near (false ∷ l) i e = let z : 0 ≡ i = cc in omega arith
lowest_near (true ∷ l) i e = go (lowest_free l) refl (lowest_near l) e
  where
    go : (o : Option ℕ) → lowest_free l ≡ o → ((j : ℕ) → lowest_free l ≡ some j → j < length l) → shifted 1 o ≡ some i → i < suc (length l)
    go none p ih q = let z : ◌≡◌ {A = ℕ} 0 1 = cc in absurd (omega arith)
    go (some j) p ih q = let z : 1 + j ≡ i = cc in omega (arith, ih j p)

free_near : (a : ℕ) (l : List Bool) (i : ℕ) → free_from a l ≡ some i → i < length l
free_near a l i e = go (lowest_free (drop a l)) refl e
  where
    go : (o : Option ℕ) → lowest_free (drop a l) ≡ o → shifted a o ≡ some i → i < length l
    go none p q = let z : ◌≡◌ {A = ℕ} 0 1 = cc in absurd (omega arith)
    go (some j) p q = let z : a + j ≡ i = cc in omega (arith, lowest_near (drop a l) j p, length-drop a l)

first_near : (slot : ℕ) (l : List Bool) (i : ℕ) → first_free slot l ≡ some i → i < length l
unfolding first_free
first_near slot l i e = go (free_from (suc slot) l) refl e
  where
    go : (o : Option ℕ) → free_from (suc slot) l ≡ o → or_else o (lowest_free l) ≡ some i → i < length l
    go none p q = lowest_near l i q
    go (some j) p q = free_near (suc slot) l i (p ∙ q)

pub slots_near : (slots slot : ℕ) (ws : List ℕ) (f : Found) → length ws ≡ 16 → f ≡ found (first_free slot (N.flags_in slots ws)) → Inside f 1024
unfolding N.flags_in
slots_near slots slot ws f l e = record {
  inside = λ i p.
      let a : i < length (N.flags_in slots ws) = first_near slot (N.flags_in slots ws) i (found_some (first_free slot (N.flags_in slots ws)) i (sym e ∙ p)) in
      omega (arith, length-take slots (N.all_flags ws), length_flags ws);
}

slot_found : (o : Option ℕ) (f : Found) → f ≡ found o → slot_in f ≡ o
unfolding found
slot_found none f e = rw e
slot_found (some i) f e = rw e

module _ (slots : ℕ) (m : ClientWord → ℕ) (x u : List ℕ) (s slot : ℕ) (u' : List ℕ) where
  pub look_stops : (t : Course) → goes t ≡ false → VectorAsked m u s t u' → Looked slots m x u s slot t None u'
  look_stops t halts h = record { asks = λ w hold ss k. rw (h.asks slots, halts); near = absent_inside 1024; noted = h.noted; long = h.long }

  module _ (h : VectorAsked m u s Going u') (there : s < 8) (seen ws : List ℕ) (ls : length seen ≡ 16) (ps : seen ≡ seen_words m s) (pw : ws ≡ counts x s (get_or x 0 0) seen) (f : Found)
      (pf : f ≡ found (first_free slot (N.flags_in slots ws))) where
    sixteen : length ws ≡ 16
    sixteen = rw pw (length_counts x s (own_count x) seen ∙ ls)

    found_free : (w : Writes) → HoldsWrites slots x w → free_slot slots w slot s (seen_vector slots m s) ≡ slot_in f
    found_free w hold =
        rw (← ps, ← counted_is slots x w hold s there seen ls, ← pw) (sym (slot_found (first_free slot (N.flags_in slots ws)) f pf))

    near : Inside f 1024
    near = slots_near slots slot ws f sixteen pf

    pub look_chooses : (i : ℕ) → f ≡ Some i → Looked slots m x u s slot Going (Some i) u'
    look_chooses i pi = record { asks = λ w hold ss k. rw (h.asks slots, found_free w hold, pi); near = rw pi at near; noted = h.noted; long = h.long }

    pub look_passes : (p : Course) → f ≡ None → p ≡ passes m s → Looked slots m x u s slot p None u'
    unfolding passes
    look_passes p pi pp = record {
      asks = λ w hold ss k. rw (h.asks slots, found_free w hold, pi, pp, h.again refl slots, found_free w hold, pi) (go (is_fetched m s) ss k w);
      near = absent_inside 1024;
      noted = h.noted;
      long = h.long;
    }
      where
        go : (c : Bool) (ss : List ℕ) (k : ℕ → TreePlan) (w : Writes)
            → cond c (walked slots m (search slots w slot ss k) (used_in u')) (told (Ended (LacksVector s)) (used_in u'))
            ≡ carry (cond c Going (Ended (LacksVector s))) (used_in u') (λ us. walked slots m (search slots w slot ss k) us)
        go true ss k w = refl
        go false ss k w = refl

pub ruleset look_exits = (look_stops, look_chooses, look_passes)

module _ (m : ClientWord → ℕ) (s : ℕ) (b : Bool) (e : b ≡ is_fetched m s) where
  pub is_passed : not b ≡ false → Going ≡ passes m s
  unfolding passes
  is_passed h = rw (← e, not-false b h)

  pub not_passed : not b ≡ true → Ended (LacksVector s) ≡ passes m s
  unfolding passes
  not_passed h = rw (← e, not-true b h)

pub ruleset passed_exits = (is_passed, not_passed)
