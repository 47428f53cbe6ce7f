-- Laws of the pairs found in leaves.
use Rattle.std.specs.Prelude.{◌≡◌, Bool, true, false, leb, ltb, length, take, drop, set}
use Rattle.std.proofs.Math.Path.{refl}
use Rattle.std.proofs.Common.{sym, ap, ◌∙◌, arith, length-append, length-take, length-drop, take-append-drop, get_or-take, get_or-drop, take-suc, take_all, length-take-le, le-ltb, ltb-true, ltb-false, le-leb}
use mathlib.Core.List.{List, [], ◌∷◌, ◌++◌, reverse, reverse-cons, append_assoc}
use Prim.Native.Nat.{ℕ, zero, suc, ◌+◌, ◌-◌, ◌*◌, ◌≤◌, ◌<◌}
use Rattle.std.proofs.Math.Numerals.{add-one}
use Rattle.std.proofs.Math.Decide.{ℕ_discrete}
use Rattle.std.proofs.Math.ListN.{get_or, length-set, get_or-append, get_or-map}
use Rattle.std.proofs.lemmas.List.{length-reverse, take-append-le}
use Rattle.std.proofs.Math.Seq.{get_or-set_same, get_or-set_other, get_or-append_seam}
use Rattle.std.proofs.lemmas.Bool.{lt-leb}
use Rattle.nodes.specs.declared.node.Node.{Node}
use Rattle.nodes.specs.Place.{place}
use Rattle.nodes.specs.Node.{keys_of}
use Rattle.nodes.specs.Entries.{entries_of, entries}
use Rattle.nodes.specs.Stored.{node_at}
use Rattle.memory.specs.Word.{view}
use Rattle.nodes.proofs.Laws.Kept.{length_entries_of}
use Rattle.operations.specs.Entry.{Entries, keys, under}
use Rattle.walk.specs.declared.found.Sought.{Sought}
use Rattle.walk.specs.declared.found.Sought.TheVariants.{Higher, Lower, AtLeast}
use Rattle.walk.specs.declared.found.Wish.{Wish}
use Rattle.walk.specs.Laws.Entries.{Leaf, open_leaf, leaf_keys, extra_leaf, entry_slot}
use Rattle.walk.specs.Found.{pair_in, first_pairs, pairs_in, Roomy, pushed_pair, to_right, sought_in, start_in, many_from, index_from, with_one, LeafAt}

-- ---- keys below a key
under_zero : (ks : List ℕ) → under ks 0 ≡ 0
unfolding under
under_zero [] = refl
under_zero (x ∷ ks) = let e : ltb x 0 ≡ false = le-ltb x 0 (omega arith) in rw (e, under_zero ks)

ltb_leb : (x k : ℕ) → (k ≡ 0 → ⊥) → ltb x k ≡ leb x (k - 1)
ltb_leb x k h = go (ltb x k) refl
  where
    go : (t : Bool) → ltb x k ≡ t → ltb x k ≡ leb x (k - 1)
    go true e = let a : x < k = ltb-true x k e in let b : x ≤ k - 1 = omega arith in rw (e, le-leb x (k - 1) b)
    go false e = let a : k ≤ x = ltb-false x k e in let b : k - 1 < x = omega arith in rw (e, lt-leb x (k - 1) b)

under_place : (ks : List ℕ) (k : ℕ) → (k ≡ 0 → ⊥) → under ks k ≡ place ks (k - 1)
unfolding under place
under_place [] k h = refl
under_place (x ∷ ks) k h = rw (ltb_leb x k h, under_place ks k h)

pub under_none : (ks : List ℕ) (k : ℕ) → k ≡ 0 → 0 ≡ under ks k
under_none ks k e = rw e (sym (under_zero ks))

pub under_some : (ks : List ℕ) (k r : ℕ) → (k ≡ 0 → ⊥) → r ≡ place ks (k - 1) → r ≡ under ks k
under_some ks k r z e = e ∙ sym (under_place ks k z)

pub ruleset under_exits = (under_none, under_some)

-- ---- the ways out of the code, by what is sought
module _ (s : Sought) where
  pub right_higher : s ≡ Higher → true ≡ to_right s
  right_higher e = rw e

  pub right_lower : s ≡ Lower → false ≡ to_right s
  right_lower e = rw e

  pub right_least : s ≡ AtLeast → true ≡ to_right s
  right_least e = rw e

  pub start_higher : (ks : List ℕ) (key r : ℕ) → s ≡ Higher → r ≡ place ks key → r ≡ start_in s ks key
  start_higher ks key r e h = rw e h

  pub start_lower : (ks : List ℕ) (key r : ℕ) → s ≡ Lower → r ≡ under ks key → r ≡ start_in s ks key
  start_lower ks key r e h = rw e h

  pub start_least : (ks : List ℕ) (key r : ℕ) → s ≡ AtLeast → r ≡ under ks key → r ≡ start_in s ks key
  start_least ks key r e h = rw e h

  pub many_higher : (start count : ℕ) → s ≡ Higher → count - start ≡ many_from s start count
  many_higher start count e = rw e

  pub many_lower : (start count : ℕ) → s ≡ Lower → start ≡ many_from s start count
  many_lower start count e = rw e

  pub many_least : (start count : ℕ) → s ≡ AtLeast → count - start ≡ many_from s start count
  many_least start count e = rw e

  module _ (start count j : ℕ) (h : j < many_from s start count) (g : start ≤ count) where
    pub index_higher : s ≡ Higher → start + j ≡ index_from s start j
    index_higher e = rw e

    pub index_lower : s ≡ Lower → start - 1 - j ≡ index_from s start j
    index_lower e = rw e

    pub index_least : s ≡ AtLeast → start + j ≡ index_from s start j
    index_least e = rw e

    pub least_inside : s ≡ AtLeast → start + j < count
    least_inside e = let k : j < count - start = rw e at h in omega arith

    pub higher_inside : s ≡ Higher → start + j < count
    higher_inside e = let k : j < count - start = rw e at h in omega arith

    pub lower_inside : s ≡ Lower → start - 1 - j < count
    lower_inside e = let k : j < start = rw e at h in omega arith

pub ruleset sought_exits = (
  right_higher,
  right_lower,
  right_least,
  start_higher,
  start_lower,
  start_least,
  many_higher,
  many_lower,
  many_least,
  index_higher,
  index_lower,
  index_least,
  higher_inside,
  lower_inside,
  least_inside,
)

-- ---- one pair more
pub length_first : (f : List ℕ) (n : ℕ) → length (first_pairs f n) ≡ n
unfolding first_pairs
length_first f zero = refl
length_first f (suc n) = rw (length-append (first_pairs f n) (pair_in f n ∷ []), length_first f n) (omega arith)

pub length_pairs : (f : List ℕ) → length (pairs_in f) ≡ get_or f 0 0
unfolding pairs_in
length_pairs f = length_first f (get_or f 0 0)

module _ (f : List ℕ) (k v : ℕ) (room : 2 * get_or f 0 0 + 2 < length f) where
  abbrev n : ℕ
  n = get_or f 0 0

  abbrev f₁ : List ℕ
  f₁ = set f (2 * n + 1) k

  abbrev f₂ : List ℕ
  f₂ = set f₁ (2 * n + 2) v

  long₁ : length f₁ ≡ length f
  long₁ = length-set f (2 * n + 1) k

  long₂ : length f₂ ≡ length f
  long₂ = length-set f₁ (2 * n + 2) v ∙ long₁

  pub pushed_count : get_or (pushed_pair f k v) 0 0 ≡ n + 1
  unfolding pushed_pair
  pushed_count = get_or-set_same f₂ 0 (n + 1) 0 (omega (arith, long₂))

  pub pushed_length : length (pushed_pair f k v) ≡ length f
  unfolding pushed_pair
  pushed_length = length-set f₂ 0 (n + 1) ∙ long₂

  other : (i : ℕ) → (i ≡ 0 → ⊥) → i < 2 * n + 1 → get_or (pushed_pair f k v) i 0 ≡ get_or f i 0
  unfolding pushed_pair
  other i z h =
      get_or-set_other f₂ 0 i (n + 1) 0 z ∙ get_or-set_other f₁ (2 * n + 2) i v 0 (λ e. absurd (omega arith)) ∙ get_or-set_other f (2 * n + 1) i k 0 (λ e. absurd (omega arith))

  kept : (i : ℕ) → i ≤ n → first_pairs (pushed_pair f k v) i ≡ first_pairs f i
  unfolding first_pairs pair_in
  kept zero h = refl
  kept (suc i) h = rw (kept i (omega arith), other (2 * i + 1) (λ e. absurd (omega arith)) (omega arith), other (2 * i + 2) (λ e. absurd (omega arith)) (omega arith))

  last : pair_in (pushed_pair f k v) n ≡ (k, v)
  unfolding pair_in pushed_pair
  last = rw (
    get_or-set_other f₂ 0 (2 * n + 1) (n + 1) 0 (λ e. absurd (omega arith)),
    get_or-set_other f₁ (2 * n + 2) (2 * n + 1) v 0 (λ e. absurd (omega arith)),
    get_or-set_same f (2 * n + 1) k 0 (omega arith),
    get_or-set_other f₂ 0 (2 * n + 2) (n + 1) 0 (λ e. absurd (omega arith)),
    get_or-set_same f₁ (2 * n + 2) v 0 (omega (arith, long₁)),
  )

  pub pushed_pairs : pairs_in (pushed_pair f k v) ≡ pairs_in f ++ ((k, v) ∷ [])
  unfolding pairs_in first_pairs
  pushed_pairs = rw (pushed_count, add-one, kept n (omega arith), last)

-- ---- a leaf's pairs by their indices
reverse_at : {A : Type 0} (l : List A) (j : ℕ) (d : A) → j < length l → get_or (reverse l) j d ≡ get_or l (length l - 1 - j) d
reverse_at [] j d h = absurd (omega arith)
reverse_at (x ∷ l) j d h = rw (reverse-cons x l) (go (ℕ_discrete j (length l)) (reverse_at l j d))
  where
    go : Dec (j ≡ length l) → (j < length l → get_or (reverse l) j d ≡ get_or l (length l - 1 - j) d) → get_or (reverse l ++ (x ∷ [])) j d ≡ get_or (x ∷ l) (suc (length l) - 1 - j) d
    go (yes e) rec =
        let i : suc (length l) - 1 - j ≡ 0 = omega arith in
        let r : j ≡ length (reverse l) = e ∙ sym (length-reverse l) in
        rw (i, r) (get_or-append_seam (reverse l) x [] d)
    go (no e) rec =
        let i : suc (length l) - 1 - j ≡ suc (length l - 1 - j) = omega arith in
        let g : j < length (reverse l) = rw (length-reverse l) (omega arith) in
        rw (i, get_or-append (reverse l) (x ∷ []) d j g) (rec (omega arith))

pub leaf_from : (n : Node) (lo : ℕ) → Leaf n → entries_of n lo ≡ entries_of n 0
unfolding entries_of entries
leaf_from n lo l = rw (extra_leaf n l)

module _ (n : Node) (h : LeafAt n) where
  leaf : Leaf n
  leaf = open_leaf n h.opened h.level

  abbrev E : Entries
  E = entries_of n 0

  long : length E ≡ n.count
  long = let x = extra_leaf n leaf in omega (arith, length_entries_of n 0 h.whole)

  pair_at : (i : ℕ) → i < n.count → get_or E i (0, 0) ≡ (get_or n.keys i 0, get_or n.slots i 0)
  unfolding keys_of
  pair_at i g =
      let a : get_or (keys E) i 0 ≡ (get_or E i (0, 0)).0 = get_or-map (λ (e : ℕ × ℕ). e.0) E i (0, 0) in
      let b : (get_or E i (0, 0)).1 ≡ get_or n.slots i 0 = entry_slot n 0 h.whole i (omega arith) in
      let c : get_or (keys E) i 0 ≡ get_or n.keys i 0 = rw (leaf_keys n 0 0 h.whole leaf) (get_or-take n.count n.keys i 0 g) in
      pair_is (get_or E i (0, 0)) (get_or n.keys i 0) (get_or n.slots i 0) (sym a ∙ c) b
    where
      pair_is : (p : ℕ × ℕ) (x y : ℕ) → p.0 ≡ x → p.1 ≡ y → p ≡ (x, y)
      pair_is p x y e g = rw (← e, ← g)

  module _ (s : Sought) (key start : ℕ) (ps : start ≡ start_in s (keys_of n) key) (le : start ≤ n.count) where
    abbrev L : Entries
    L = sought_in s key E

    start_is : (t : Sought) → s ≡ t → start ≡ start_in t (keys E) key
    start_is t e = ps ∙ rw (e, leaf_keys n 0 0 h.whole leaf)

    pub many_are : length L ≡ many_from s start n.count
    many_are = go s refl
      where
        go : (t : Sought) → s ≡ t → length (sought_in t key E) ≡ many_from t start n.count
        go Higher e = rw (← start_is Higher e) (length-drop start E ∙ rw long)
        go AtLeast e = rw (← start_is AtLeast e) (length-drop start E ∙ rw long)
        go Lower e = rw (← start_is Lower e) (length-reverse (take start E) ∙ length-take-le start E (omega (arith, long)))

    pub sought_at : (j : ℕ) → j < many_from s start n.count → get_or L j (0, 0) ≡ (get_or n.keys (index_from s start j) 0, get_or n.slots (index_from s start j) 0)
    sought_at j g = go s refl
      where
        go : (t : Sought) → s ≡ t → get_or (sought_in t key E) j (0, 0) ≡ (get_or n.keys (index_from t start j) 0, get_or n.slots (index_from t start j) 0)
        go Higher e =
            let k : j < n.count - start = rw e at g in
            rw (← start_is Higher e, get_or-drop start E j (0, 0)) (pair_at (start + j) (omega arith))
        go AtLeast e =
            let k : j < n.count - start = rw e at g in
            rw (← start_is AtLeast e, get_or-drop start E j (0, 0)) (pair_at (start + j) (omega arith))
        go Lower e =
            let k : j < start = rw e at g in
            let m : length (take start E) ≡ start = length-take-le start E (omega (arith, long)) in
            let i : start - 1 - j < start = omega arith in
            rw (← start_is Lower e, reverse_at (take start E) j (0, 0) (omega arith), m, get_or-take start E (start - 1 - j) (0, 0) i) (pair_at (start - 1 - j) (omega arith))

-- ---- the pairs gathered: how far the loop has come
pub record Gathering (w : ℕ) (L got : Entries) (f : List ℕ) (j : ℕ) : Type 0 where
  pub same : pairs_in f ≡ take w (got ++ take j L)
  pub room : Roomy w f
  pub within : j ≤ length L

pub full_take : {A : Type 0} (w : ℕ) (l : List A) → w ≤ length (take w l) → w ≤ length l
full_take w l h = omega (arith, length-take w l)

pub short_take : {A : Type 0} (w : ℕ) (l : List A) → length (take w l) < w → take w l ≡ l
short_take zero l h = absurd (omega arith)
short_take (suc w) [] h = refl
short_take (suc w) (x ∷ l) h = ap (λ t. x ∷ t) (short_take w l (omega arith))

module _ (w : ℕ) (L got : Entries) (f : List ℕ) where
  pub gather_start : Roomy w f → pairs_in f ≡ got → Gathering w L got f 0
  gather_start r e = record { same = e ∙ sym (ap (take w) (nothing got) ∙ take_all w got (rw (← e, length_pairs f) r.within)); room = r; within = omega arith }
    where
      nothing : (l : Entries) → l ++ take 0 L ≡ l
      nothing [] = refl
      nothing (x ∷ l) = ap (λ t. x ∷ t) (nothing l)

  module _ (j : ℕ) (g : Gathering w L got f j) where
    whole : got ++ L ≡ got ++ take j L ++ drop j L
    whole = ap (λ t. got ++ t) (sym (take-append-drop j L)) ∙ sym (append_assoc got (take j L) (drop j L))

    held : length (take w (got ++ take j L)) ≡ get_or f 0 0
    held = ap length (sym g.same) ∙ length_pairs f

    pub gather_full : get_or f 0 0 ≡ w → pairs_in f ≡ take w (got ++ L)
    gather_full e = g.same ∙ sym (ap (take w) whole ∙ take-append-le w (got ++ take j L) (drop j L) (full_take w (got ++ take j L) (omega (arith, held))))

    pub gather_all : length L ≤ j → pairs_in f ≡ take w (got ++ L)
    gather_all h = g.same ∙ ap (λ t. take w (got ++ t)) (take_all j L h)

    module _ (less : get_or f 0 0 ≡ w → ⊥) where
      pub gather_room : (get_or f 0 0 < 32) × (2 * get_or f 0 0 + 2 < length f)
      gather_room = (omega (arith, g.room.few, g.room.within), omega (arith, g.room.long, g.room.within))

      pub gather_more : j < length L → (k v : ℕ) → get_or L j (0, 0) ≡ (k, v) → Gathering w L got (pushed_pair f k v) (j + 1)
      gather_more h k v e = record { same = grown; room = roomy; within = omega arith }
        where
          roomy : Roomy w (pushed_pair f k v)
          roomy = record {
            some = g.room.some;
            few = g.room.few;
            long = rw (pushed_length f k v gather_room.1) g.room.long;
            within = rw (pushed_count f k v gather_room.1) (omega (arith, g.room.within));
          }

          short : take w (got ++ take j L) ≡ got ++ take j L
          short = short_take w (got ++ take j L) (omega (arith, held, g.room.within))

          one_more : got ++ take (j + 1) L ≡ got ++ take j L ++ ((k, v) ∷ [])
          one_more = rw (add-one, take-suc L j (0, 0) h, e) (sym (append_assoc got (take j L) ((k, v) ∷ [])))

          few : length (got ++ take j L ++ ((k, v) ∷ [])) ≤ w
          few =
              let a : length (got ++ take j L) ≡ get_or f 0 0 = ap length (sym short) ∙ held in
              let b : length (got ++ take j L ++ ((k, v) ∷ [])) ≡ length (got ++ take j L) + 1 = length-append (got ++ take j L) ((k, v) ∷ []) in
              omega (arith, g.room.within)

          grown : pairs_in (pushed_pair f k v) ≡ take w (got ++ take (j + 1) L)
          grown = pushed_pairs f k v gather_room.1 ∙ ap (λ t. t ++ ((k, v) ∷ [])) (g.same ∙ short) ∙ sym (ap (take w) one_more ∙ take_all w (got ++ take j L ++ ((k, v) ∷ [])) few)

-- ---- the same over what the code has, in a part of the bytes b
-- what it has found of the leaf before the loop
pub record Begun (b : List ℕ) (leaf : ℕ) (w : Wish) (start count many : ℕ) : Type 0 where
  pub stands : LeafAt (node_at (view b) leaf)
  pub begins : start ≡ start_in w.sought (keys_of (node_at (view b) leaf)) w.key
  pub within : start ≤ (node_at (view b) leaf).count
  pub counted : count ≡ (node_at (view b) leaf).count
  pub sought : many ≡ many_from w.sought start count

abbrev pub Gathers : List ℕ → ℕ → Wish → List ℕ → ℕ → ℕ → ℕ → List ℕ → ℕ → Type 0
Gathers b leaf w f₀ start count many f j =
    Begun b leaf w start count many × Gathering w.wanted (sought_in w.sought w.key (entries_of (node_at (view b) leaf) 0)) (pairs_in f₀) f j

module _ (b : List ℕ) (leaf : ℕ) (w : Wish) (f₀ : List ℕ) (start count many : ℕ) where
  abbrev at_leaf : Node
  at_leaf = node_at (view b) leaf

  abbrev those : Entries
  those = sought_in w.sought w.key (entries_of at_leaf 0)

  pub gathers_start : LeafAt at_leaf → start ≡ start_in w.sought (keys_of at_leaf) w.key → start ≤ at_leaf.count → count ≡ at_leaf.count → many ≡ many_from w.sought start count → Roomy w.wanted f₀
      → Gathers b leaf w f₀ start count many f₀ 0
  gathers_start h ps le pc pm r =
      (record { stands = h; begins = ps; within = le; counted = pc; sought = pm }, gather_start w.wanted those (pairs_in f₀) f₀ r refl)

  module _ (f : List ℕ) (j : ℕ) (g : Gathers b leaf w f₀ start count many f j) where
    long_are : length those ≡ many
    long_are = many_are at_leaf g.0.stands w.sought w.key start g.0.begins g.0.within ∙ sym (g.0.sought ∙ rw g.0.counted)

    pub gathers_room : Roomy w.wanted f
    gathers_room = g.1.room

    pub gathers_full : get_or f 0 0 ≡ w.wanted → pairs_in f ≡ take w.wanted (pairs_in f₀ ++ those)
    gathers_full e = gather_full w.wanted those (pairs_in f₀) f j g.1 e

    pub gathers_all : many ≤ j → pairs_in f ≡ take w.wanted (pairs_in f₀ ++ those)
    gathers_all e = gather_all w.wanted those (pairs_in f₀) f j g.1 (omega (arith, long_are))

    pub gathers_at : j < many → j < many_from w.sought start count
    gathers_at m = rw g.0.sought at m

    pub gathers_push : (get_or f 0 0 ≡ w.wanted → ⊥) → (get_or f 0 0 < 32) × (2 * get_or f 0 0 + 2 < length f)
    gathers_push less = gather_room w.wanted those (pairs_in f₀) f j g.1 less

    pub gathers_more : j < many → (get_or f 0 0 ≡ w.wanted → ⊥) → (f' : List ℕ) → f' ≡ with_one at_leaf w.sought start j f → Gathers b leaf w f₀ start count many f' (j + 1)
    unfolding with_one
    gathers_more m less f' e =
        let k : ℕ = get_or at_leaf.keys (index_from w.sought start j) 0 in
        let v : ℕ = get_or at_leaf.slots (index_from w.sought start j) 0 in
        let at : j < many_from w.sought start at_leaf.count = rw (g.0.sought, g.0.counted) at m in
        rw e (
          g.0,
          gather_more w.wanted those (pairs_in f₀) f j g.1 less (omega (arith, long_are)) k v (sought_at at_leaf g.0.stands w.sought w.key start g.0.begins g.0.within j at),
        )

pub one_taken : (n : Node) (s : Sought) (start j i k v : ℕ) (f f' : List ℕ) → i ≡ index_from s start j → k ≡ get_or n.keys i 0 → v ≡ get_or n.slots i 0 → f' ≡ pushed_pair f k v → f' ≡ with_one n s start j f
unfolding with_one
one_taken n s start j i k v f f' pi pk pv e = rw (e, pk, pv, pi)

pub ruleset gather_exits = (gathers_start, gathers_room, gathers_full, gathers_all, gathers_at, gathers_push, gathers_more)
