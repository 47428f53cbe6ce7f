-- Laws of the code for a change of the servers.
use Rattle.std.specs.Prelude.{◌≡◌, Bool, cond, ◌&&◌, ◌||◌, length}
use Rattle.std.proofs.Math.Path.{refl, sym, ap, subst}
use Rattle.std.proofs.Common.{◌∙◌}
use Rattle.std.proofs.Math.Bool.{true, false, not}
use Rattle.std.proofs.lemmas.Bool.{false≢true}
use mathlib.Core.List.{List, [], ◌∷◌, ◌++◌}
use Prim.Native.Nat.{ℕ, zero, suc, ◌+◌, ◌-◌, ◌*◌, ◌≤◌, ◌<◌}
use native.Mathlib.Omega.{arith}
use Rattle.std.proofs.Math.Numerals.{add-one}
use Rattle.std.proofs.Math.Decide.{ℕ_discrete, dec_lt}
use borrow.Author.Tests.{eq-eqb, ne_eqb, lt-ltb, le-ltb, le-leb, lt-leb, leb-false, not-true, not-false}
use borrow.Rule.Slice.PartMut.{put_mid, mid_of}
use Rattle.std.proofs.Math.Dec.{eqb, leb, ltb}
use Rattle.memory.specs.Word.{view}
use Rattle.memory.proofs.Laws.Word.{view_length}
use Rattle.memory.specs.Bit.{put_bit}
use Rattle.layout.specs.Block.{In}
use Rattle.layout.specs.Space.{Put, put, Valid, changed, stored}
use Rattle.layout.proofs.Laws.Space.{AllValid, Only, changed_only, only_append}
use Rattle.layout.specs.Step.{Does, silent, stepped}
use Rattle.layout.proofs.Laws.Step.{stored_append, changed_append, valid_append, does_as, does_mem}
use Rattle.layout.specs.Part.{over, in_part}
use Rattle.layout.proofs.Laws.Part.{good_all, over_append}
use Rattle.server.specs.declared.hand_out.Metadata.{Metadata}
use Rattle.server.specs.declared.place.Place.{Place}
use Rattle.server.specs.declared.place.Place.TheVariants.{Root, Version, States, MetadataLock, Vector, Node, FlagLock, Table, NodeLock}
use Rattle.server.specs.HandOut.{metadata_at, metadata_sound}
use Rattle.server.specs.Layout.{place_again, places, server_block, put_step}
use Rattle.server.specs.Store.{metadata_step, versions_row, versions_step}
use Rattle.server.specs.Laws.Leaves.{metadata_inside}
use Rattle.nodes.specs.States.{is_present, with_added, with_closed, with_removed}
use Rattle.client.specs.Items.{all_below}
use Rattle.client.specs.Layout.{phase, decided_phase}
use Rattle.steps.specs.declared.sizes.Sizes.{Sizes}
use Rattle.steps.specs.declared.step.ServerChange.{ServerChange}
use Rattle.steps.specs.declared.step.ServerChange.TheVariants.{Add, Close, Remove}
use Rattle.steps.specs.declared.outcome.Outcome.TheVariants.{Refused, Done}
use Rattle.steps.specs.Whole.{Address, client, server, whole, block, words_for, server_at}
use Rattle.steps.proofs.Laws.Whole.{server_part}
use Rattle.steps.proofs.Laws.Stores.{server_of, server_changed, server_else}
use Rattle.steps.specs.Servers.{there, lowest_there, version_ends, larger, largest, largest_version, is_add, changed_states}
use Rattle.steps.specs.Steps.{at_servers, did, change_fits, change_servers}
use Rattle.kinds.specs.Parts.{StoreIn, stored_in}
use Rattle.kinds.specs.Laws.Parts.{server_back}
use Rattle.kinds.specs.Judge.{of_server}
use Rattle.kinds.specs.Kinds.{Meets}
use Rattle.kinds.specs.Laws.Kinds.{meets_did, meets_as, meets_refused}
use Rattle.kinds.specs.Change.{TableIn, Lowest, Rising, phase_fits, with_largest, version_fits, row_fits, added_fits, version_put, row_put, added, tell_one, told, changing}

-- ---- judged
pub table_valid : (z : Sizes) (t k : ℕ) → TableIn z t k → Valid places (server_block z.slots) (Table t k)
unfolding Valid In
table_valid z t k h = (h.slot, h.server)

module _ (a b : ℕ) where
  pub larger_second : a ≤ b → b ≡ larger a b
  unfolding larger
  larger_second h = rw (le-leb a b h)

  pub larger_first : b < a → a ≡ larger a b
  unfolding larger
  larger_first h = rw (lt-leb a b h)

module _ (m : Address → ℕ) (u t k best : ℕ) (h : Bool) (e : h ≡ there m u) where
  pub largest_there : (v r : ℕ) → h ≡ true → v ≡ m (server u (Table t k)) → r ≡ larger best v → r ≡ with_largest m u t k best
  unfolding with_largest
  largest_there v r p q f = f ∙ rw (← e, p, q)

  pub largest_absent : h ≡ false → best ≡ with_largest m u t k best
  unfolding with_largest
  largest_absent p = rw (← e, p)

module _ (m : Address → ℕ) (s t k : ℕ) where
  abbrev tables : ℕ → ℕ
  tables u = m (server u (Table t k))

  abbrev pub SoFar : ℕ → ℕ → Type 0
  SoFar u best = (u ≤ 8) × (best ≡ largest (there m) tables u (tables s))

  pub largest_starts : (r : ℕ) → r ≡ tables s → SoFar 0 r
  unfolding largest
  largest_starts r e = (omega arith, e)

  pub largest_next : (u best r : ℕ) → SoFar u best → u < 8 → r ≡ with_largest m u t k best → SoFar (u + 1) r
  unfolding largest with_largest
  largest_next u best r f l e = (omega arith, e ∙ rw (f.1, add-one u))

  pub largest_ends : (u best : ℕ) → SoFar u best → 8 ≤ u → best ≡ largest_version m s t k
  unfolding largest_version
  largest_ends u best f l = let q : u ≡ 8 = omega (arith, f.0) in f.1 ∙ ap (λ (n : ℕ). largest (there m) tables n (tables s)) q

pub row_by : (m : Address → ℕ) (s k : ℕ) (r : Bool) → r ≡ all_below 8 (version_fits m s k) → r ≡ row_fits m s k
unfolding row_fits
row_by m s k r h = h

module _ (x : ServerChange) where
  module _ (z : Sizes) (m : Address → ℕ) (s : ℕ) (b : Bool) (e : b ≡ is_add x) where
    pub added_by : (r : Bool) → b ≡ true → r ≡ all_below z.slots (row_fits m s) → r ≡ added_fits z m x s
    unfolding added_fits
    added_by r t h = h ∙ rw (← e, t)

    pub none_added : b ≡ false → true ≡ added_fits z m x s
    unfolding added_fits
    none_added t = rw (← e, t)

-- all that a change reads
module _ (z : Sizes) (b₀ : List ℕ) (x : ServerChange) (s : ℕ) (p : Bool) (ep : p ≡ all_below z.clients (phase_fits z (view b₀))) where
  abbrev m : Address → ℕ
  m = stored_in z (view b₀)

  pub phases_unfit : not p ≡ true → false ≡ change_fits z m x s
  unfolding change_fits
  phases_unfit t = rw (← ep, not-true p t)

  module _ (low : ℕ) (e : Lowest z b₀ low) (np : not p ≡ false) (q : Bool) (eq : q ≡ metadata_sound z.slots (of_server z (view b₀) low)) where
    pub metadata_unfit : not q ≡ true → false ≡ change_fits z m x s
    unfolding change_fits
    metadata_unfit t = rw (← ep, not-false p np, ← e.lowest, lt-ltb _ _ e.server, ← eq, not-true q t)

    pub change_by : (r : Bool) → not q ≡ false → r ≡ added_fits z m x s → r ≡ change_fits z m x s
    unfolding change_fits added_fits row_fits
    change_by r t h = h ∙ rw (← ep, not-false p np, ← e.lowest, lt-ltb _ _ e.server, ← eq, not-false q t)

pub ruleset fit_exits = (phases_unfit, metadata_unfit, change_by)

-- ---- one store after another
module _ (z : Sizes) (F g : (Address → ℕ) → List (Put Address)) (w₀ w w' : List ℕ) where
  -- more stores, which are the same by what was there before
  does_more : (G : (Address → ℕ) → List (Put Address)) → Does whole (block z) F silent w₀ 0 w → Does whole (block z) G silent w 0 w'
      → G (stored_in z w) ≡ g (stored_in z w₀) → Does whole (block z) (λ m. F m ++ g m) silent w₀ 0 w'
  unfolding stepped
  does_more G d e q = record {
    answer = refl;
    words = e.words ∙ ap (stored whole (block z) w) q ∙ ap (λ (u : List ℕ). stored whole (block z) u (g (stored_in z w₀))) d.words
        ∙ sym (stored_append whole (block z) (F (stored_in z w₀)) (g (stored_in z w₀)) w₀);
  }

  no_more : (G : (Address → ℕ) → List (Put Address)) → Does whole (block z) F silent w₀ 0 w → ((m : Address → ℕ) → F m ≡ G m) → Does whole (block z) G silent w₀ 0 w
  no_more G d q = does_as whole (block z) F G silent w₀ 0 w (q (stored_in z w₀)) d

mem_after : (z : Sizes) (F : (Address → ℕ) → List (Put Address)) (b₀ b : List ℕ) → StoreIn z (length b₀) → Does whole (block z) F silent (view b₀) 0 (view b)
    → AllValid whole (block z) (F (stored_in z (view b₀))) → stored_in z (view b) ≡ changed whole (stored_in z (view b₀)) (F (stored_in z (view b₀)))
unfolding words_for
mem_after z F b₀ b hold d ok = does_mem whole (block z) F silent (view b₀) 0 (view b) d (omega (arith, hold.room, view_length b₀)) ok

-- ---- stores in the part of one server leave alone what they don't store
module _ (m : Address → ℕ) (s : ℕ) (f : Place → Bool) (ps : List (Put Place)) (only : Only places f ps) where
  kept : (u : ℕ) (a : Place) → f a ≡ false → changed whole m (over (server s) ps) (server u a) ≡ m (server u a)
  kept u a e = go (ℕ_discrete u s)
    where
      go : Dec (u ≡ s) → changed whole m (over (server s) ps) (server u a) ≡ m (server u a)
      go (yes q) =
          subst (λ (t : ℕ). changed whole m (over (server s) ps) (server t a) ≡ m (server t a)) (sym q)
          (ap (λ (p : Place → ℕ). p a) (server_changed m s ps) ∙ changed_only places place_again f ps (server_of m s) a only e)
      go (no n) = ap (λ (p : Place → ℕ). p a) (server_else m s ps u n)

  there_kept : f States ≡ false → (u : ℕ) → there (changed whole m (over (server s) ps)) u ≡ there m u
  unfolding there
  there_kept e u = rw (kept u States e)

  largest_kept : f States ≡ false → (r t k : ℕ) → f (Table t k) ≡ false → largest_version (changed whole m (over (server s) ps)) r t k ≡ largest_version m r t k
  unfolding largest_version largest
  largest_kept e r t k g = go 8 ∙ ap (largest (there m) (λ u. m (server u (Table t k))) 8) (kept r (Table t k) g)
    where
      u : Address → ℕ
      u = changed whole m (over (server s) ps)

      go : (n : ℕ) → largest (there u) (λ q. u (server q (Table t k))) n (u (server r (Table t k))) ≡ largest (there m) (λ q. m (server q (Table t k))) n (u (server r (Table t k)))
      go zero = refl
      go (suc n) = rw (there_kept e n, kept n (Table t k) g, go n)

-- ---- the versions of an added server
module _ (v : ℕ → ℕ → ℕ) where
  only_row : (f : Place → Bool) (k n : ℕ) → ((t : ℕ) → t < n → f (Table t k) ≡ true) → Only places f (versions_row v k n)
  unfolding versions_row Only
  only_row f k zero h = tt
  only_row f k (suc n) h = only_append places f (versions_row v k n) (put (Table n k) (v n k) ∷ []) (only_row f k n (λ t l. h t (omega arith))) (h n (omega arith), tt)

  only_step : (f : Place → Bool) (n : ℕ) → ((t k : ℕ) → k < n → f (Table t k) ≡ true) → Only places f (versions_step v n)
  unfolding versions_step Only
  only_step f zero h = tt
  only_step f (suc n) h =
      only_append places f (versions_step v n) (versions_row v n 8) (only_step f n (λ t k l. h t k (omega arith))) (only_row f n 8 (λ t l. h t n (omega arith)))

  row_valid : (slots k n : ℕ) → k < slots → n ≤ 8 → AllValid places (server_block slots) (versions_row v k n)
  unfolding versions_row AllValid Valid In
  row_valid slots k zero h l = tt
  row_valid slots k (suc n) h l = valid_append places (server_block slots) (versions_row v k n) (put (Table n k) (v n k) ∷ []) (row_valid slots k n h (omega arith)) ((h, omega arith), tt)

  step_valid : (slots n : ℕ) → n ≤ slots → AllValid places (server_block slots) (versions_step v n)
  unfolding versions_step AllValid
  step_valid slots zero h = tt
  step_valid slots (suc n) h =
      valid_append places (server_block slots) (versions_step v n) (versions_row v n 8) (step_valid slots n (omega arith)) (row_valid slots n 8 (omega arith) (omega arith))

row_same : (v u : ℕ → ℕ → ℕ) (k n : ℕ) → ((t : ℕ) → v t k ≡ u t k) → versions_row v k n ≡ versions_row u k n
unfolding versions_row
row_same v u k zero h = refl
row_same v u k (suc n) h = rw (row_same v u k n h, h n)

-- those of a slot number and the first n servers; those of the first n slots
abbrev in_row : ℕ → ℕ → Place → Bool
in_row k n (Table t i) = eqb i k && ltb t n
in_row k n Root = false
in_row k n Version = false
in_row k n States = false
in_row k n MetadataLock = false
in_row k n (Vector i) = false
in_row k n (Node i j) = false
in_row k n (FlagLock i) = false
in_row k n (NodeLock t i) = false

abbrev in_step : ℕ → Place → Bool
in_step n (Table t i) = ltb i n
in_step n Root = false
in_step n Version = false
in_step n States = false
in_step n MetadataLock = false
in_step n (Vector i) = false
in_step n (Node i j) = false
in_step n (FlagLock i) = false
in_step n (NodeLock t i) = false

-- so far: a row, the table, the metadata
abbrev pub RowUpto : Sizes → ℕ → ℕ → List ℕ → ℕ → List ℕ → Type 0
RowUpto z s k b₀ n b = (n ≤ 8) × (length b ≡ length b₀) × Does whole (block z) (row_put s k n) silent (view b₀) 0 (view b)

abbrev pub TableUpto : Sizes → ℕ → List ℕ → ℕ → ℕ → List ℕ → Type 0
TableUpto z s b₀ slots n b = (slots ≡ z.slots) × (n ≤ slots) × (length b ≡ length b₀) × Does whole (block z) (added s n) silent (view b₀) 0 (view b)

abbrev pub ToldUpto : Sizes → ℕ → Metadata → List ℕ → ℕ → List ℕ → Type 0
ToldUpto z s x b₀ n b = (n ≤ 8) × (length b ≡ length b₀) × Does whole (block z) (told s x n) silent (view b₀) 0 (view b)

module _ (z : Sizes) (s : ℕ) (h : s < 8) where
  inside_part : (ps : List (Put Place)) → AllValid places (server_block z.slots) ps → AllValid whole (block z) (over (server s) ps)
  inside_part ps ok = good_all places (server_block z.slots) whole (block z) (server s) (server_at z s) (server_part z s h) ps ok

  pub version_stored : (k t i v : ℕ) (b x : List ℕ) → k ≡ server_at z s → StoreIn z (length b) → v ≡ largest_version (stored_in z (view b)) s t i
      → Does places (server_block z.slots) (put_step (Table t i) v) silent (view (mid_of (8 * k) (length b - 8 * k) b)) 0 (view x)
      → Does whole (block z) (version_put s i t) silent (view b) 0 (view (put_mid (8 * k) (length b - 8 * k) b x))
  unfolding put_step in_part over
  version_stored k t i v b x e hold q d =
      does_as whole (block z) (in_part (server s) (put_step (Table t i) v)) (version_put s i t) silent (view b) 0 (view (put_mid (8 * k) (length b - 8 * k) b x)) (rw q)
      (server_back z s k (put_step (Table t i) v) b x h e hold.room d)

  -- a row, one version after another
  module _ (k : ℕ) (b₀ : List ℕ) (hold : StoreIn z (length b₀)) where
    abbrev m₀ : Address → ℕ
    m₀ = stored_in z (view b₀)

    pub row_none : RowUpto z s k b₀ 0 b₀
    unfolding row_put versions_row over stepped stored
    row_none = (omega arith, refl, record { answer = refl; words = refl })

    pub row_next : (n : ℕ) (b b' : List ℕ) → k < z.slots → RowUpto z s k b₀ n b → n < 8 → length b' ≡ length b → Does whole (block z) (version_put s k n) silent (view b) 0 (view b') → RowUpto z s k b₀ (n + 1) b'
    unfolding row_put versions_row over
    row_next n b b' lk r l e d = (
      omega arith,
      e ∙ r.1,
      subst (λ (j : ℕ). Does whole (block z) (row_put s k j) silent (view b₀) 0 (view b')) (sym (add-one n))
          (no_more z _ (version_put s k n) (view b₀) (view b') [] (row_put s k (suc n))
          (does_more z (row_put s k n) (version_put s k n) (view b₀) (view b) (view b') (version_put s k n) r.2 d same)
          (λ m. sym (over_append (server s) (versions_row (largest_version m s) k n) (put (Table n k) (largest_version m s n k) ∷ [])))),
    )
      where
        after : stored_in z (view b) ≡ changed whole m₀ (row_put s k n m₀)
        after = mem_after z (row_put s k n) b₀ b hold r.2 (inside_part (versions_row (largest_version m₀ s) k n) (row_valid (largest_version m₀ s) z.slots k n lk (omega arith)))

        same : version_put s k n (stored_in z (view b)) ≡ version_put s k n m₀
        same =
            let v = largest_version m₀ s in
            let only = only_row v (in_row k n) k n (λ t q. rw (eq-eqb k k refl, lt-ltb t n q)) in
            ap (λ (x : ℕ). put (server s (Table n k)) x ∷ [])
            (ap (λ (m : Address → ℕ). largest_version m s n k) after
            ∙ largest_kept m₀ s (in_row k n) (versions_row v k n) only refl s n k (rw (eq-eqb k k refl, le-ltb n n (omega arith))))

    pub row_ends : (n : ℕ) (b : List ℕ) → RowUpto z s k b₀ n b → 8 ≤ n → Does whole (block z) (row_put s k 8) silent (view b₀) 0 (view b)
    row_ends n b r l = let q : n ≡ 8 = omega (arith, r.0) in subst (λ (j : ℕ). Does whole (block z) (row_put s k j) silent (view b₀) 0 (view b)) q r.2

  -- the table, one row after another
  module _ (b₀ : List ℕ) (hold : StoreIn z (length b₀)) where
    abbrev m₁ : Address → ℕ
    m₁ = stored_in z (view b₀)

    pub table_none : (slots : ℕ) → slots ≡ z.slots → TableUpto z s b₀ slots 0 b₀
    unfolding added versions_step over stepped stored
    table_none slots e = (e, omega arith, refl, record { answer = refl; words = refl })

    pub table_next : (slots n : ℕ) (b b' : List ℕ) → TableUpto z s b₀ slots n b → n < slots → length b' ≡ length b → Does whole (block z) (row_put s n 8) silent (view b) 0 (view b') → TableUpto z s b₀ slots (n + 1) b'
    unfolding added versions_step row_put
    table_next slots n b b' r l e d = (
      r.0,
      omega arith,
      e ∙ r.2,
      subst (λ (j : ℕ). Does whole (block z) (added s j) silent (view b₀) 0 (view b')) (sym (add-one n))
          (no_more z _ (row_put s n 8) (view b₀) (view b') [] (added s (suc n))
          (does_more z (added s n) (row_put s n 8) (view b₀) (view b) (view b') (row_put s n 8) r.3 d same)
          (λ m. sym (over_append (server s) (versions_step (largest_version m s) n) (versions_row (largest_version m s) n 8)) ∙ unfolded m)),
    )
      where
        after : stored_in z (view b) ≡ changed whole m₁ (added s n m₁)
        after = mem_after z (added s n) b₀ b hold r.3 (inside_part (versions_step (largest_version m₁ s) n) (step_valid (largest_version m₁ s) z.slots n (omega (arith, r.0, r.1))))

        only : Only places (in_step n) (versions_step (largest_version m₁ s) n)
        only = only_step (largest_version m₁ s) (in_step n) n (λ t k q. lt-ltb k n q)

        same : row_put s n 8 (stored_in z (view b)) ≡ row_put s n 8 m₁
        same =
            ap (row_put s n 8) after
            ∙ ap (over (server s)) (row_same (largest_version (changed whole m₁ (added s n m₁)) s) (largest_version m₁ s) n 8
            (λ t. largest_kept m₁ s (in_step n) (versions_step (largest_version m₁ s) n) only refl s t n (le-ltb n n (omega arith))))

        unfolded : (m : Address → ℕ) → over (server s) (versions_step (largest_version m s) (suc n)) ≡ added s (suc n) m
        unfolded m = refl

    pub table_ends : (slots n : ℕ) (b : List ℕ) → TableUpto z s b₀ slots n b → slots ≤ n → Does whole (block z) (added s z.slots) silent (view b₀) 0 (view b)
    table_ends slots n b r l =
        let q : n ≡ z.slots = omega (arith, r.0, r.1) in subst (λ (j : ℕ). Does whole (block z) (added s j) silent (view b₀) 0 (view b)) q r.3

pub ruleset row_exits = (row_none, row_next, row_ends)

pub ruleset table_exits = (table_none, table_next, table_ends)

-- ---- the new metadata
pub metadata_back : (z : Sizes) (s k r st v : ℕ) (b t : List ℕ) → s < 8 → k ≡ server_at z s → StoreIn z (length b)
    → Does places (server_block z.slots) (metadata_step r st (v + 1)) silent (view (mid_of (8 * k) (length b - 8 * k) b)) 0 (view t)
    → Does whole (block z) (in_part (server s) (metadata_step r st (suc v))) silent (view b) 0 (view (put_mid (8 * k) (length b - 8 * k) b t))
metadata_back z s k r st v b t h e hold d =
    subst (λ (n : ℕ). Does whole (block z) (in_part (server s) (metadata_step r st n)) silent (view b) 0 (view (put_mid (8 * k) (length b - 8 * k) b t))) (add-one v)
    (server_back z s k (metadata_step r st (v + 1)) b t h e hold.room d)

module _ (z : Sizes) (s : ℕ) (x : Metadata) where
  abbrev news : List (Put Place)
  news = metadata_step x.root x.states (suc x.version) (λ a. 0)

  -- at one server
  module _ (t : ℕ) (h : Bool) (b b' : List ℕ) (e : h ≡ there (stored_in z (view b)) t) where
    pub tell_there : h ≡ true → Does whole (block z) (in_part (server t) (metadata_step x.root x.states (suc x.version))) silent (view b) 0 (view b') → Does whole (block z) (tell_one s x t) silent (view b) 0 (view b')
    unfolding tell_one in_part metadata_step
    tell_there q d = does_as whole (block z) (in_part (server t) (metadata_step x.root x.states (suc x.version))) (tell_one s x t) silent (view b) 0 (view b') (sym (rw (← e, q))) d

    pub tell_changed : h ≡ false → t ≡ s → Does whole (block z) (in_part (server t) (metadata_step x.root x.states (suc x.version))) silent (view b) 0 (view b') → Does whole (block z) (tell_one s x t) silent (view b) 0 (view b')
    unfolding tell_one in_part metadata_step
    tell_changed q i d = does_as whole (block z) (in_part (server t) (metadata_step x.root x.states (suc x.version))) (tell_one s x t) silent (view b) 0 (view b') (sym (rw (← e, q, eq-eqb t s i))) d

  pub tell_not : (t : ℕ) (h : Bool) (b : List ℕ) → h ≡ there (stored_in z (view b)) t → h ≡ false → (t ≡ s → ⊥) → Does whole (block z) (tell_one s x t) silent (view b) 0 (view b)
  unfolding tell_one stepped stored
  tell_not t h b e q n = record { answer = refl; words = rw (← e, q, ne_eqb t s n) }

  -- at those below n, whose own metadata in m says whether they are there
  one_valid : (m : Address → ℕ) (t : ℕ) → t < 8 → AllValid whole (block z) (tell_one s x t m)
  unfolding tell_one AllValid
  one_valid m t l = go (there m t || eqb t s)
    where
      go : (b : Bool) → AllValid whole (block z) (cond b (over (server t) news) [])
      go true = inside_part z t l news (metadata_inside z.slots (λ a. 0) x.root x.states (suc x.version))
      go false = tt

  told_valid : (m : Address → ℕ) (n : ℕ) → n ≤ 8 → AllValid whole (block z) (told s x n m)
  unfolding told at_servers AllValid
  told_valid m zero l = tt
  told_valid m (suc n) l = valid_append whole (block z) (told s x n m) (tell_one s x n m) (told_valid m n (omega arith)) (one_valid m n (omega arith))

  told_kept : (m u : Address → ℕ) (n r : ℕ) → n ≤ r → server_of (changed whole u (told s x n m)) r ≡ server_of u r
  unfolding told at_servers changed tell_one
  told_kept m u zero r l = refl
  told_kept m u (suc n) r l =
      ap (λ (y : Address → ℕ). server_of y r) (changed_append whole (told s x n m) (tell_one s x n m) u)
      ∙ go (there m n || eqb n s) (changed whole u (told s x n m)) ∙ told_kept m u n r (omega arith)
    where
      go : (b : Bool) (y : Address → ℕ) → server_of (changed whole y (cond b (over (server n) news) [])) r ≡ server_of y r
      go true y = server_else y n news r (λ q. omega arith)
      go false y = refl

  one_same : (m u : Address → ℕ) (t : ℕ) → there u t ≡ there m t → tell_one s x t u ≡ tell_one s x t m
  unfolding tell_one
  one_same m u t e = rw e

  module _ (b₀ : List ℕ) (hold : StoreIn z (length b₀)) where
    abbrev m₂ : Address → ℕ
    m₂ = stored_in z (view b₀)

    pub told_none : ToldUpto z s x b₀ 0 b₀
    unfolding told at_servers stepped stored
    told_none = (omega arith, refl, record { answer = refl; words = refl })

    pub told_next : (n : ℕ) (b b' : List ℕ) → ToldUpto z s x b₀ n b → n < 8 → length b' ≡ length b → Does whole (block z) (tell_one s x n) silent (view b) 0 (view b') → ToldUpto z s x b₀ (n + 1) b'
    unfolding told at_servers there
    told_next n b b' r l e d = (
      omega arith,
      e ∙ r.1,
      subst (λ (j : ℕ). Does whole (block z) (told s x j) silent (view b₀) 0 (view b')) (sym (add-one n))
          (does_more z (told s x n) (tell_one s x n) (view b₀) (view b) (view b') (tell_one s x n) r.2 d same),
    )
      where
        after : stored_in z (view b) ≡ changed whole m₂ (told s x n m₂)
        after = mem_after z (told s x n) b₀ b hold r.2 (told_valid m₂ n (omega arith))

        same : tell_one s x n (stored_in z (view b)) ≡ tell_one s x n m₂
        same =
            one_same m₂ (stored_in z (view b)) n
            (ap (λ (y : Address → ℕ). there y n) after ∙ ap (λ (p : Place → ℕ). is_present (p States) n) (told_kept m₂ m₂ n n (omega arith)))

    pub told_ends : (n : ℕ) (b : List ℕ) → ToldUpto z s x b₀ n b → 8 ≤ n → Does whole (block z) (told s x 8) silent (view b₀) 0 (view b)
    told_ends n b r l = let q : n ≡ 8 = omega (arith, r.0) in subst (λ (j : ℕ). Does whole (block z) (told s x j) silent (view b₀) 0 (view b)) q r.2

pub ruleset tell_exits = (tell_there, tell_changed, tell_not)

pub ruleset told_exits = (told_none, told_next, told_ends)

-- ---- the table, and then the metadata
told_same : (s : ℕ) (x : Metadata) (m u : Address → ℕ) (n : ℕ) → ((t : ℕ) → there u t ≡ there m t) → told s x n u ≡ told s x n m
unfolding told at_servers tell_one
told_same s x m u zero h = refl
told_same s x m u (suc n) h = rw (told_same s x m u n h, h n)

module _ (z : Sizes) (c : ServerChange) (s : ℕ) (x : Metadata) (b : Bool) (e : b ≡ is_add c) where
  pub change_added : (b₀ b₁ b₂ : List ℕ) → StoreIn z (length b₀) → s < 8 → b ≡ true → Does whole (block z) (added s z.slots) silent (view b₀) 0 (view b₁)
      → Does whole (block z) (told s x 8) silent (view b₁) 0 (view b₂) → Does whole (block z) (changing z c s x) silent (view b₀) 0 (view b₂)
  unfolding changing added
  change_added b₀ b₁ b₂ hold l t d q =
      does_as whole (block z) (λ m. added s z.slots m ++ told s x 8 m) (changing z c s x) silent (view b₀) 0 (view b₂) (sym (rw (← e, t)))
      (does_more z (added s z.slots) (told s x 8) (view b₀) (view b₁) (view b₂) (told s x 8) d q same)
    where
      m₃ : Address → ℕ
      m₃ = stored_in z (view b₀)

      v : ℕ → ℕ → ℕ
      v = largest_version m₃ s

      after : stored_in z (view b₁) ≡ changed whole m₃ (added s z.slots m₃)
      after = mem_after z (added s z.slots) b₀ b₁ hold d (inside_part z s l (versions_step v z.slots) (step_valid v z.slots z.slots (omega arith)))

      same : told s x 8 (stored_in z (view b₁)) ≡ told s x 8 m₃
      same =
          told_same s x m₃ (stored_in z (view b₁)) 8
          (λ t. ap (λ (y : Address → ℕ). there y t) after
          ∙ there_kept m₃ s (in_step z.slots) (versions_step v z.slots) (only_step v (in_step z.slots) z.slots (λ t k q. lt-ltb k z.slots q)) refl t)

  pub change_told : (b₀ b₂ : List ℕ) → b ≡ false → Does whole (block z) (told s x 8) silent (view b₀) 0 (view b₂) → Does whole (block z) (changing z c s x) silent (view b₀) 0 (view b₂)
  unfolding changing
  change_told b₀ b₂ t q = does_as whole (block z) (told s x 8) (changing z c s x) silent (view b₀) 0 (view b₂) (sym (rw (← e, t))) q

pub ruleset changing_exits = (change_added, change_told)

-- ---- the states
module _ (c : ServerChange) (states s : ℕ) where
  pub states_added : (a r : ℕ) → c ≡ Add → a ≡ put_bit true states s → r ≡ put_bit true a (8 + s) → r ≡ changed_states c states s
  unfolding changed_states with_added
  states_added a r e p q = q ∙ rw (e, p)

  pub states_closed : (r : ℕ) → c ≡ Close → r ≡ put_bit false states (8 + s) → r ≡ changed_states c states s
  unfolding changed_states with_closed
  states_closed r e q = q ∙ rw e

  pub states_removed : (r : ℕ) → c ≡ Remove → r ≡ put_bit false states s → r ≡ changed_states c states s
  unfolding changed_states with_removed
  states_removed r e q = q ∙ rw e

pub ruleset states_exits = (states_added, states_closed, states_removed)

-- ---- the whole: nobody is there
pub nobody_there : (z : Sizes) (c : ServerChange) (s low : ℕ) (m : Address → ℕ) → low ≡ lowest_there m → 8 ≤ low → false ≡ change_fits z m c s
unfolding change_fits
nobody_there z c s low m e l = sym (rw (← e, le-ltb low 8 l) (go (all_below z.clients (λ i. leb (m (client i phase)) decided_phase))))
  where
    go : (b : Bool) → (b && false) ≡ false
    go true = refl
    go false = refl

pub nobody_changed : (z : Sizes) (c : ServerChange) (s : ℕ) (w : List ℕ) → 8 ≡ lowest_there (stored_in z w) → Meets z (λ m. change_servers z m c s) w (Refused 10) w
unfolding change_servers
nobody_changed z c s w e = meets_refused z w 10 (λ m. change_servers z m c s) (sym (rw (← nobody_there z c s 8 (stored_in z w) e (omega arith))))

-- by the lowest server there
module _ (z : Sizes) (b₀ : List ℕ) (low : ℕ) (e : Lowest z b₀ low) where
  -- refusal 15 has passed
  pub not_last : (r : Metadata) → Rising z b₀ → r ≡ metadata_at (of_server z (view b₀) low) → r.version < 4294967295
  unfolding version_ends metadata_at
  not_last r h q =
      let g : leb 4294967295 (stored_in z (view b₀) (server low Version)) ≡ false = rw (← e.lowest, lt-ltb low 8 e.server) at h in
      subst (λ (y : Metadata). y.version < 4294967295) (sym q) (leb-false 4294967295 (stored_in z (view b₀) (server low Version)) g)

-- by what is judged: where all of it fits, somebody is there
module _ (z : Sizes) (b₀ : List ℕ) (c : ServerChange) (s : ℕ) (f : Bool) (ef : f ≡ change_fits z (stored_in z (view b₀)) c s) where
  pub change_unfit : not f ≡ true → Meets z (λ m. change_servers z m c s) (view b₀) (Refused 10) (view b₀)
  unfolding change_servers
  change_unfit t = meets_refused z (view b₀) 10 (λ m. change_servers z m c s) (sym (rw (← ef, not-true f t)))

  module _ (low : ℕ) (e : low ≡ lowest_there (stored_in z (view b₀))) (t : not f ≡ false) where
    pub low_there : low < 8
    low_there = go (dec_lt low 8)
      where
        go : Dec (low < 8) → low < 8
        go (yes l) = l
        go (no d) = absurd (false≢true (nobody_there z c s low (stored_in z (view b₀)) e (omega (arith, d)) ∙ sym ef ∙ not-false f t))

    pub change_done : (old : Metadata) (st : ℕ) (b₂ : List ℕ) → old ≡ metadata_at (of_server z (view b₀) low) → st ≡ changed_states c old.states s
        → Does whole (block z) (changing z c s (record { root = old.root; version = old.version; states = st })) silent (view b₀) 0 (view b₂)
        → Meets z (λ m. change_servers z m c s) (view b₀) Done (view b₂)
    unfolding change_servers changing added told tell_one
    change_done old st b₂ q r d =
        meets_as z (view b₀) Done (view b₂) (λ m. did Done (changing z c s (record { root = old.root; version = old.version; states = st }) m)) (λ m. change_servers z m c s)
        (sym (rw (← ef, not-false f t, ← e, ← q, ← r))) (meets_did z (view b₀) Done (view b₂) (changing z c s (record { root = old.root; version = old.version; states = st })) d)

pub ruleset change_exits = (not_last, change_unfit, low_there, change_done)
