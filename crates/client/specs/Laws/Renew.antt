-- The ways out of the renewal of copies.
use Rattle.std.specs.Prelude.{◌≡◌, Bool, cond, ◌&&◌, not, List, [], ◌∷◌, ℕ, ◌+◌, ◌-◌, ◌/◌, ◌%◌, ◌≤◌, ◌<◌, eqb, leb, ltb, length}
use Rattle.std.proofs.Math.Path.{refl, sym}
use Rattle.std.proofs.Common.{◌∙◌, arith, add-one}
use Rattle.std.proofs.Math.Bool.{true, false}
use borrow.Author.Tests.{eq-eqb, ne_eqb, le-leb, lt-leb, lt-ltb, le-ltb, ltb-true, not-true, not-false}
use Rattle.base.specs.Test.{and_both}
use Rattle.layout.specs.Sweep.{sweep}
use Rattle.nodes.specs.declared.node.Node as node
use Rattle.nodes.specs.Found.{Found}
use Rattle.std.specs.Prelude.{Some, None}
use Rattle.nodes.specs.Flags.{with_flag}
use Rattle.nodes.specs.declared.name.Name.{Name}
use Rattle.nodes.specs.Name.{server_of, slot_of}
use Rattle.client.specs.declared.part.Set.TheVariants.{Reads, Writes}
use Rattle.nodes.specs.declared.object.Object.{Object}
use Rattle.nodes.specs.declared.object.Object.TheVariants.{Metadata, Node, Flag}
use Rattle.nodes.specs.Object.{NumberOf}
use Rattle.client.specs.Layout.{ClientWord, client_words, field, item}
use Rattle.client.specs.Sets.{held, count, number_at, record_at, find}
use Rattle.client.specs.Vectors.{has_vector, vector_copy}
use Rattle.client.specs.Commit.{inner_at}
use Rattle.client.specs.Laws.Find.{Searched, none_searched, not_here, found_here, all_searched}
use Rattle.client.specs.Part.{PartStep, Did, ◌then◌, nothing, put_fields, put_vector}
use Rattle.client.specs.Laws.Steps.{Good, EachGood, did_as, did_nothing, did_then, did_three, good_then, good_nothing, good_fields, good_vector, good_cond, good_by, good_loop, swept_all}
use Rattle.client.specs.Copies.{copy_node, drop_node}
use Rattle.client.specs.Laws.Copies.{good_copy, good_drop_node}
use Rattle.client.specs.Life.{reset}
use Rattle.client.specs.Renew.{drop_outer, versioned, new_version, with_inner, inner_below, rank, ranked, renewed, renew_found, renew_nth, meta_found, renew_meta, renew_in, renew_flag, for_writes, renew_written, renew, renew_kept, finish}
use Rattle.client.specs.Drops.{version_of, next_version}

-- ---- nodes no longer inner
module _ (s : List ℕ) (i x : ℕ) (e : x ≡ number_at (held s) Writes i) where
  pub outer_meta : x ≡ 0 → Did (drop_outer i) s s
  unfolding drop_outer nothing
  outer_meta d = did_nothing (drop_outer i) s (rw (← e, eq-eqb _ _ d))

  module _ (d : x ≡ 0 → ⊥) where
    pub outer_flag : 8192 < x → Did (drop_outer i) s s
    unfolding drop_outer nothing
    outer_flag h = did_nothing (drop_outer i) s (rw (← e, ne_eqb _ _ d, lt-leb _ _ h))

    module _ (b : Bool) (h : x ≤ 8192) (p : b ≡ inner_at (held s) Writes i) where
      pub outer_inner : b ≡ true → Did (drop_outer i) s s
      unfolding drop_outer nothing
      outer_inner t = let z : inner_at (held s) Writes i ≡ true = sym p ∙ t in did_nothing (drop_outer i) s (rw (← e, ne_eqb _ _ d, le-leb _ _ h, z))

      pub outer_dropped : (t : List ℕ) → b ≡ false → Did (drop_node x) s t → Did (drop_outer i) s t
      unfolding drop_outer
      outer_dropped t q r =
          let z : inner_at (held s) Writes i ≡ false = sym p ∙ q in
          did_as (drop_node x) (drop_outer i) s t (rw (← e, ne_eqb _ _ d, le-leb _ _ h, z)) r

  pub outer_other : (o : Object) → NumberOf o x → ((n : Name) → o ≡ Node n → ⊥) → Did (drop_outer i) s s
  outer_other Metadata b d = outer_meta b
  outer_other (Node n) b d = absurd (d n refl)
  outer_other (Flag n) b d = outer_flag b.0 b.1

pub good_outer : EachGood drop_outer
unfolding drop_outer
good_outer =
    record {
      each = λ i. good_by (λ m. cond (eqb (number_at m Writes i) 0) nothing (cond (leb (number_at m Writes i) 8192) (cond (inner_at m Writes i) nothing (drop_node (number_at m Writes i))) nothing))
          (λ m. good_cond nothing (cond (leb (number_at m Writes i) 8192) (cond (inner_at m Writes i) nothing (drop_node (number_at m Writes i))) nothing) (eqb (number_at m Writes i) 0) (λ e. good_nothing)
          (λ e. good_cond (cond (inner_at m Writes i) nothing (drop_node (number_at m Writes i))) nothing (leb (number_at m Writes i) 8192)
          (λ h. good_cond nothing (drop_node (number_at m Writes i)) (inner_at m Writes i) (λ k. good_nothing) (λ k. good_drop_node (number_at m Writes i))) (λ h. good_nothing)));
    }

-- ---- versions and ranks
module _ (m : ClientWord → ℕ) (x v : ℕ) (p : v ≡ version_of m (find m Reads x)) where
  pub version_next : v < 4294967295 → v + 1 ≡ new_version m x
  unfolding new_version next_version
  version_next h = rw (← p, lt-ltb _ _ h, add-one)

  pub version_last : 4294967295 ≤ v → 0 ≡ new_version m x
  unfolding new_version
  version_last h = rw (← p, le-ltb _ _ h)

module _ (m : ClientWord → ℕ) (x i c : ℕ) (b : Bool) (p : b ≡ inner_at m Writes i) where
  pub inner_other : not b ≡ true → c ≡ with_inner m x i c
  unfolding with_inner
  inner_other t = let z : inner_at m Writes i ≡ false = sym p ∙ not-true b t in rw z

  module _ (y : ℕ) (t : not b ≡ false) (q : y ≡ number_at m Writes i) where
    pub inner_one : y < x → c + 1 ≡ with_inner m x i c
    unfolding with_inner
    inner_one h = let z : inner_at m Writes i ≡ true = sym p ∙ not-false b t in rw (z, ← q, lt-ltb _ _ h)

    pub inner_above : x ≤ y → c ≡ with_inner m x i c
    unfolding with_inner
    inner_above h = let z : inner_at m Writes i ≡ true = sym p ∙ not-false b t in rw (z, ← q, le-ltb _ _ h)

-- i of the n write items are looked at
pub record Ranking (m : ClientWord → ℕ) (x n c i : ℕ) : Type 0 where
  pub within : i ≤ n
  pub is : n ≡ count m Writes
  pub most : n ≤ 48
  pub few : c ≤ i
  pub so_far : c ≡ inner_below m x i

module _ (m : ClientWord → ℕ) (x n : ℕ) where
  pub ranking_none : n ≡ count m Writes → n ≤ 48 → Ranking m x n 0 0
  unfolding inner_below
  ranking_none e l = record { within = omega arith; is = e; most = l; few = omega arith; so_far = refl }

  pub ranking_next : (c c' i : ℕ) → i < n → c' ≤ i + 1 → c' ≡ with_inner m x i c → Ranking m x n c i → Ranking m x n c' (i + 1)
  unfolding inner_below
  ranking_next c c' i h l e r = record { within = omega arith; is = r.is; most = r.most; few = l; so_far = rw (add-one, inner_below, ← r.so_far) e }

  pub ranking_all : (c i : ℕ) → n ≤ i → Ranking m x n c i → c ≡ inner_below m x (count m Writes)
  ranking_all c i h r = let z : i ≡ n = omega (arith, r.within) in rw (← r.is, ← z) r.so_far

  pub ranking_few : (c i : ℕ) → Ranking m x n c i → c ≤ 48
  ranking_few c i r = omega (arith, r.within, r.most, r.few)

module _ (m : ClientWord → ℕ) (i : ℕ) (b : Bool) (p : b ≡ inner_at m Writes i) where
  pub rank_none : not b ≡ true → 0 ≡ rank m i
  unfolding rank
  rank_none t = let z : inner_at m Writes i ≡ false = sym p ∙ not-true b t in rw z

  pub rank_of : (x c : ℕ) → not b ≡ false → x ≡ number_at m Writes i → c ≡ inner_below m x (count m Writes) → c + 1 ≡ rank m i
  unfolding rank
  rank_of x c t q r = let z : inner_at m Writes i ≡ true = sym p ∙ not-false b t in rw (z, ← q, ← r)

module _ (m : ClientWord → ℕ) (n k : ℕ) where
  pub ranked_none : Searched (rank m) n k 0
  ranked_none = none_searched (rank m) n k

  module _ (i q : ℕ) (h : i < n) (e : q ≡ rank m i) (t : Searched (rank m) n k i) where
    pub ranked_next : (q ≡ k → ⊥) → Searched (rank m) n k (i + 1)
    ranked_next d = not_here (rank m) n k i h (λ g. d (e ∙ g)) t

    pub ranked_here : n ≡ count m Writes → q ≡ k → Some i ≡ ranked m k
    unfolding ranked
    ranked_here c d = rw (← c) (found_here (rank m) n k i h (sym e ∙ d) t)

  pub ranked_absent : (i : ℕ) → n ≡ count m Writes → n ≤ i → Searched (rank m) n k i → None ≡ ranked m k
  unfolding ranked
  ranked_absent i c h t = rw (← c) (all_searched (rank m) n k i h t)

pub renewed_is : (m : ClientWord → ℕ) (i x v : ℕ) (n r : node.Node) → n ≡ record_at m Writes i → x ≡ number_at m Writes i → v ≡ new_version m x → r ≡ versioned n v → r ≡ renewed m i
unfolding renewed
renewed_is m i x v n r p q e f = rw (← p, ← q, ← e) f

-- ---- inner nodes, metadata, flags
module _ (s : List ℕ) (k : ℕ) (g : Found) (f : g ≡ ranked (held s) (k + 1)) where
  pub nth_renewed : (t : List ℕ) (i x : ℕ) (n : node.Node) → g ≡ Some i → x ≡ number_at (held s) Writes i → n ≡ renewed (held s) i → Did (copy_node x n) s t → Did (renew_nth k) s t
  unfolding renew_nth
  nth_renewed t i x n e p q r = did_as (copy_node x n) (renew_nth k) s t (rw (← f, e, ← p, ← q)) r

  pub nth_none : g ≡ None → Did (renew_nth k) s s
  unfolding renew_nth nothing
  nth_none e = did_nothing (renew_nth k) s (rw (← f, e))

good_found : (m : ClientWord → ℕ) (g : Found) → Good (renew_found m g)
good_found m (Some i) = good_copy (number_at m Writes i) (renewed m i)
good_found m None = good_nothing

pub good_renew_nth : EachGood renew_nth
unfolding renew_nth
good_renew_nth = record { each = λ k. good_by (λ m. renew_found m (ranked m (k + 1))) (λ m. good_found m (ranked m (k + 1))) }

module _ (s : List ℕ) (g : Found) (f : g ≡ find (held s) Writes 0) where
  pub meta_renewed : (t : List ℕ) (i y x v : ℕ) → g ≡ Some i → x ≡ held s (item Writes i 19) → v ≡ new_version (held s) 0 → y ≡ held s (item Writes i 20)
      → Did (put_fields 12 (y ∷ x ∷ v ∷ [])) s t → Did renew_meta s t
  unfolding renew_meta
  meta_renewed t i y x v e p q h r = did_as (put_fields 12 (y ∷ x ∷ v ∷ [])) renew_meta s t (rw (← f, e, ← p, ← q, ← h)) r

  pub meta_kept : g ≡ None → Did renew_meta s s
  unfolding renew_meta nothing
  meta_kept e = did_nothing renew_meta s (rw (← f, e))

good_meta_found : (m : ClientWord → ℕ) (g : Found) → Good (meta_found m g)
good_meta_found m (Some i) = good_fields 12 (m (item Writes i 20) ∷ m (item Writes i 19) ∷ new_version m 0 ∷ []) (omega arith)
good_meta_found m None = good_nothing

good_renew_meta : Good renew_meta
unfolding renew_meta
good_renew_meta = good_by (λ m. meta_found m (find m Writes 0)) (λ m. good_meta_found m (find m Writes 0))

module _ (s : List ℕ) (n v k : ℕ) (o : k ≡ server_of n) where
  pub flag_beyond : 8 ≤ k → Did (renew_in (held s) n v) s s
  unfolding renew_in nothing
  flag_beyond h = did_nothing (renew_in (held s) n v) s (rw (← o, le-ltb _ _ h))

  module _ (b : Bool) (h : k < 8) (p : b ≡ has_vector (held s) k) where
    pub flag_uncopied : not b ≡ true → Did (renew_in (held s) n v) s s
    unfolding renew_in nothing
    flag_uncopied t = let z : has_vector (held s) k ≡ false = sym p ∙ not-true b t in did_nothing (renew_in (held s) n v) s (rw (← o, lt-ltb _ _ h, z))

    pub flag_renewed : (t ws us : List ℕ) (l : ℕ) → not b ≡ false → ws ≡ vector_copy (held s) k → l ≡ slot_of n → us ≡ with_flag ws l (eqb v 1)
        → Did (put_vector k us) s t → Did (renew_in (held s) n v) s t
    unfolding renew_in
    flag_renewed t ws us l q e a f r =
        let z : has_vector (held s) k ≡ true = sym p ∙ not-false b q in
        did_as (put_vector k us) (renew_in (held s) n v) s t (rw (← o, lt-ltb _ _ h, z, ← e, ← a, ← f)) r

good_in : (m : ClientWord → ℕ) (n v : ℕ) → Good (renew_in m n v)
unfolding renew_in
good_in m n v =
    good_cond (put_vector (n / 1024) (with_flag (vector_copy m (n / 1024)) (n % 1024) (eqb v 1))) nothing (ltb (n / 1024) 8 && has_vector m (n / 1024))
    (λ h. good_vector (n / 1024) (with_flag (vector_copy m (n / 1024)) (n % 1024) (eqb v 1)) (ltb-true _ _ (and_both (ltb (n / 1024) 8) (has_vector m (n / 1024)) h).0)) (λ h. good_nothing)

module _ (s : List ℕ) (i x : ℕ) (e : x ≡ number_at (held s) Writes i) where
  pub flag_not : x < 8193 → Did (renew_flag i) s s
  unfolding renew_flag nothing
  flag_not h = did_nothing (renew_flag i) s (rw (← e, lt-ltb _ _ h))

  pub flag_other : (o : Object) → NumberOf o x → ((n : Name) → o ≡ Flag n → ⊥) → Did (renew_flag i) s s
  flag_other Metadata b d = flag_not (omega arith)
  flag_other (Node n) b d = flag_not (omega arith)
  flag_other (Flag n) b d = absurd (d n refl)

  pub flag_put : (t : List ℕ) (v : ℕ) → 8193 ≤ x → v ≡ held s (item Writes i 19) → Did (renew_in (held s) (x - 8193) v) s t → Did (renew_flag i) s t
  unfolding renew_flag
  flag_put t v h p r = did_as (renew_in (held s) (x - 8193) v) (renew_flag i) s t (rw (← e, le-ltb _ _ h, ← p)) r

pub good_renew_flag : EachGood renew_flag
unfolding renew_flag
good_renew_flag =
    record {
      each = λ i. good_by (λ m. cond (ltb (number_at m Writes i) 8193) nothing (renew_in m (number_at m Writes i - 8193) (m (item Writes i 19))))
          (λ m. good_cond nothing (renew_in m (number_at m Writes i - 8193) (m (item Writes i 19))) (ltb (number_at m Writes i) 8193) (λ h. good_nothing)
          (λ h. good_in m (number_at m Writes i - 8193) (m (item Writes i 19))));
    }

-- ---- all write items, and all in order
pub all_writes : (g : ℕ → PartStep) (s t : List ℕ) (n i : ℕ) → n ≡ count (held s) Writes → i ≤ n → n ≤ i → Did (sweep client_words g i) s t → Did (for_writes g) s t
unfolding for_writes
all_writes g s t n i e a b p = did_as (sweep client_words g n) (for_writes g) s t (rw e) (swept_all g n i s t a b p)

good_for : (g : ℕ → PartStep) → EachGood g → Good (for_writes g)
unfolding for_writes
good_for g ok = good_by (λ m. sweep client_words g (count m Writes)) (λ m. good_loop g (count m Writes) ok)

pub written_renewed : (s t u v : List ℕ) → 7223 ≤ length s / 8 → Did (for_writes renew_nth) s t → Did renew_meta t u → Did (for_writes renew_flag) u v → Did renew_written s v
unfolding renew_written
written_renewed s t u v l p q r = did_three (for_writes renew_nth) renew_meta (for_writes renew_flag) s t u v l (good_for renew_nth good_renew_nth) good_renew_meta p q r

good_written : Good renew_written
unfolding renew_written
good_written =
    good_then (for_writes renew_nth) (renew_meta then for_writes renew_flag) (good_for renew_nth good_renew_nth)
    (good_then renew_meta (for_writes renew_flag) good_renew_meta (good_for renew_flag good_renew_flag))

pub was_renewed : (s t u : List ℕ) → 7223 ≤ length s / 8 → Did (for_writes drop_outer) s t → Did renew_written t u → Did renew s u
unfolding renew
was_renewed s t u l p q = did_then (for_writes drop_outer) renew_written s t u l (good_for drop_outer good_outer) p q

good_renew : Good renew
unfolding renew
good_renew = good_then (for_writes drop_outer) renew_written (good_for drop_outer good_outer) good_written

module _ (s : List ℕ) (q : ℕ) (e : q ≡ held s (field 9)) where
  pub lost_kept : q ≡ 1 → Did renew_kept s s
  unfolding renew_kept nothing
  lost_kept d = did_nothing renew_kept s (rw (← e, eq-eqb _ _ d))

  pub kept_renewed : (t : List ℕ) → (q ≡ 1 → ⊥) → Did renew s t → Did renew_kept s t
  unfolding renew_kept
  kept_renewed t d p = did_as renew renew_kept s t (rw (← e, ne_eqb _ _ d)) p

pub good_kept : Good renew_kept
unfolding renew_kept
good_kept = good_by (λ m. cond (eqb (m (field 9)) 1) nothing renew) (λ m. good_cond nothing renew (eqb (m (field 9)) 1) (λ h. good_nothing) (λ h. good_renew))

pub was_finished : (s t u : List ℕ) → 7223 ≤ length s / 8 → Did renew_kept s t → Did (reset 0) t u → Did finish s u
unfolding finish
was_finished s t u l p q = did_then renew_kept (reset 0) s t u l good_kept p q
