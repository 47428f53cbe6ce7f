-- Copies that are dropped leave the others as they are, and touch nothing else of a client's part.
use Rattle.std.specs.Prelude.{◌≡◌, refl, Bool, true, false, cond, List, [], ◌∷◌, ◌⊎◌, ℕ, suc, ◌-◌, ◌/◌, ◌%◌, eqb, leb, ltb}
use Rattle.std.proofs.Common.{ap, sym, ◌∙◌, subst, inl, inr, arith}
use Rattle.std.proofs.Math.Option.{Option}
use Rattle.memory.specs.Bit.{bit}
use Rattle.layout.specs.Space.{Put, put, written, changed}
use Rattle.layout.proofs.Laws.Space.{written_same, written_other, decide}
use Rattle.layout.specs.Step.{and_then}
use Rattle.layout.specs.Sweep.{sweep}
use Rattle.nodes.specs.declared.node.Node.{Node}
use Rattle.nodes.specs.Found.{Found}
use Rattle.std.specs.Prelude.{Some, None}
use Rattle.operations.specs.Object.{Obj, node, taken}
use Rattle.client.specs.declared.part.Set.TheVariants.{Reads, Writes, Copies}
use Rattle.client.specs.Layout.{ClientWord, client_again, client_words, field, item, vector_word, reads_count, writes_count, meta_states, meta_root, meta_version}
use Rattle.client.specs.Record.{value_of}
use Rattle.client.specs.Sets.{count, record_at, number_at, find}
use Rattle.client.specs.Part.{nothing, put_field, put_number, drop_vector, put_word}
use Rattle.client.specs.Copies.{drop_at, drop_node, drop_object, drop_read, drop_reads, empty_place, drop_all}
use Rattle.client.specs.Commit.{inner_at}
use Rattle.client.specs.Drops.{drop_each, drop_used}
use Rattle.client.specs.Renew.{drop_outer}
use Rattle.demand.proofs.Laws.Frame.{Only, only_then, only_sweep}
use Rattle.demand.proofs.Laws.Shows.{T, copy, CopiesShown}
use Rattle.demand.proofs.Laws.Slots.{SameSets, record_later, meta_stays}
use Rattle.nodes.specs.Name as N
use Rattle.protocol.specs.Machine as P

-- the words that say whether there is a copy
unfoldable pub Mark : ClientWord → Type 0
Mark (field i) = i ≡ 12
Mark (item Reads i n) = ⊥
Mark (item Writes i n) = ⊥
Mark (item Copies i n) = n ≡ 0
Mark (vector_word s n) = n ≡ 0

abbrev pub Drop : ClientWord → ℕ → Type 0
Drop a v = Mark a × (v ≡ 0)

-- each word is as before, or says now that there is no copy
abbrev pub Fewer : (ClientWord → ℕ) → (ClientWord → ℕ) → Type 0
Fewer f g = (a : ClientWord) → (g a ≡ f a) ⊎ (Mark a × (g a ≡ 0))

pub fewer : (ps : List (Put ClientWord)) (f : ClientWord → ℕ) → Only client_words Drop ps → Fewer f (changed client_words f ps)
unfolding Only changed
fewer [] f h a = inl refl
fewer (put b v ∷ ps) f h a = go (decide client_words client_again a b) (fewer ps (written client_words f b v) h.1 a)
  where
    g : ClientWord → ℕ
    g = written client_words f b v

    go : Dec (a ≡ b) → (changed client_words g ps a ≡ g a) ⊎ (Mark a × (changed client_words g ps a ≡ 0))
        → (changed client_words g ps a ≡ f a) ⊎ (Mark a × (changed client_words g ps a ≡ 0))
    go d (inr q) = inr q
    go (yes e) (inl q) =
        inr (subst Mark (sym e) h.0.0, q ∙ subst (λ (x : ClientWord). g x ≡ 0) (sym e) (written_same client_words f b v ∙ h.0.1))
    go (no n) (inl q) = inl (q ∙ written_other client_words client_again f b v a n)

-- a word that says nothing of the kind is as before
pub kept_word : (f g : ClientWord → ℕ) → Fewer f g → (a : ClientWord) → ¬ (Mark a) → g a ≡ f a
kept_word f g h a n = go (h a)
  where
    go : (g a ≡ f a) ⊎ (Mark a × (g a ≡ 0)) → g a ≡ f a
    go (inl e) = e
    go (inr q) = absurd (n q.0)

-- and one that says that there is a copy
pub still_there : (f g : ClientWord → ℕ) → Fewer f g → (a : ClientWord) → ¬ (g a ≡ 0) → g a ≡ f a
still_there f g h a n = go (h a)
  where
    go : (g a ≡ f a) ⊎ (Mark a × (g a ≡ 0)) → g a ≡ f a
    go (inl e) = e
    go (inr q) = absurd (n q.1)

pub fewer_copies : (k j slots : ℕ) (f g : ClientWord → ℕ) (c : Obj → Option (P.Copy (T k j slots))) → Fewer f g → CopiesShown k j slots f c → CopiesShown k j slots g c
unfolding Mark
fewer_copies k j slots f g c w h = record {
  meta_as = λ q. meta_stays k j slots f g c c h (still_there f g w meta_states q) (kept_word f g w meta_root (λ z. absurd (omega (arith, z)))) (kept_word f g w meta_version (λ z. absurd (omega (arith, z)))) refl q;
  node_as = λ i n l q. h.node_as i n l (sym (still_there f g w (item Copies i 0) (λ z. absurd (omega (arith, z, q)))) ∙ q)
      ∙ ap (λ (r : Node). copy k j slots f (value_of (node n) r) r.version) (sym (words i));
  flag_as = λ n i q. h.flag_as n i (sym (still_there f g w (vector_word (N.server_of n) 0) (λ z. absurd (omega (arith, z, q)))) ∙ q)
      ∙ ap (λ (x : ℕ). copy k j slots f (taken (bit x (N.slot_of n % 64))) 0)
      (sym (kept_word f g w (vector_word (N.server_of n) (suc (N.slot_of n / 64))) (λ z. absurd (omega (arith, z)))));
  apart = λ i n l r q z. h.apart i n l r
      (sym (still_there f g w (item Copies i 0) z) ∙ q ∙ still_there f g w (item Copies n 0) (λ e. z (q ∙ e)))
      (λ e. z (still_there f g w (item Copies i 0) z ∙ e));
}
  where
    words : (i : ℕ) → record_at g Copies i ≡ record_at f Copies i
    words i = record_later f g Copies i (λ n. kept_word f g w (item Copies i (suc n)) (λ z. absurd (omega (arith, z))))

-- the sets stay
pub fewer_sets : (f g : ClientWord → ℕ) → Fewer f g → SameSets f g
unfolding Mark
fewer_sets f g w = record {
  reads = kept_word f g w reads_count (λ z. absurd (omega (arith, z)));
  writes = kept_word f g w writes_count (λ z. absurd (omega (arith, z)));
  items_read = λ i n. kept_word f g w (item Reads i n) (λ z. z);
  items_written = λ i n. kept_word f g w (item Writes i n) (λ z. z);
}

-- ---- the steps that drop
dropped_at : (f : Found) (u : ClientWord → ℕ) → Only client_words Drop (drop_at f u)
unfolding Only Mark put_number nothing
dropped_at (Some i) u = ((refl, refl), tt)
dropped_at None u = tt

dropped_vector : (s : ℕ) (u : ClientWord → ℕ) → Only client_words Drop (drop_vector s u)
unfolding drop_vector Only Mark
dropped_vector s u = go (ltb s 8)
  where
    go : (b : Bool) → Only client_words Drop (cond b (put (vector_word s 0) 0 ∷ []) [])
    go true = ((refl, refl), tt)
    go false = tt

pub only_object : (x : ℕ) (f : ClientWord → ℕ) → Only client_words Drop (drop_object x f)
unfolding drop_object drop_node put_word Only Mark
only_object x f = go (eqb x 0) (leb x 8192)
  where
    go : (a b : Bool) → Only client_words Drop (cond a (put_field 12 0) (cond b (drop_node x) (drop_vector (N.server_of (x - 8193)))) f)
    go true b = ((refl, refl), tt)
    go false true = dropped_at (find f Copies x) f
    go false false = dropped_vector (N.server_of (x - 8193)) f

-- a node that is written and not inner
pub only_outer : (i : ℕ) (f : ClientWord → ℕ) → Only client_words Drop (drop_outer i f)
unfolding drop_outer drop_node nothing Only
only_outer i f = go (eqb x 0) (leb x 8192) (inner_at f Writes i)
  where
    x : ℕ
    x = number_at f Writes i

    go : (a b d : Bool) → Only client_words Drop (cond a nothing (cond b (cond d nothing (drop_node x)) nothing) f)
    go true b d = tt
    go false true true = tt
    go false true false = dropped_at (find f Copies x) f
    go false false d = tt

only_each : (xs : List ℕ) (f : ClientWord → ℕ) → Only client_words Drop (drop_each xs f)
unfolding drop_each Only
only_each [] f = tt
only_each (x ∷ xs) f = only_then client_words Drop (drop_object x) (drop_each xs) f (only_object x f) (only_each xs)

pub only_used : (xs : List ℕ) (f : ClientWord → ℕ) → Only client_words Drop (drop_used xs f)
unfolding drop_used drop_reads drop_read
only_used xs f =
    only_then client_words Drop drop_reads (drop_each xs) f
    (only_sweep client_words Drop drop_read (count f Reads) f (λ i u. only_object (number_at u Reads i) u)) (only_each xs)

pub only_all : (f : ClientWord → ℕ) → Only client_words Drop (drop_all f)
unfolding drop_all put_word empty_place put_number Only Mark
only_all f =
    only_then client_words Drop (put_field 12 0) (and_then client_words (sweep client_words empty_place 64) (sweep client_words drop_vector 8)) f ((refl, refl), tt)
    (λ g. only_then client_words Drop (sweep client_words empty_place 64) (sweep client_words drop_vector 8) g
    (only_sweep client_words Drop empty_place 64 g (λ i u. ((refl, refl), tt)))
    (λ h. only_sweep client_words Drop drop_vector 8 h dropped_vector))
