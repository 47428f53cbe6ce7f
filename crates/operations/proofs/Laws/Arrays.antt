-- Entries beside the keys and slots that a node stores: what each step of a plan is on the two lists, for leaves and inner nodes together.
use Rattle.std.specs.Prelude.{◌≡◌, refl, get_or, set}
use Rattle.std.proofs.Math.Path.{ap, sym}
use Rattle.std.proofs.Common.{◌∙◌, arith, length-append, length-take-le, take_at, drop_at}
use mathlib.Core.List.{List, [], ◌∷◌, ◌++◌, tail, map-append}
use Prim.Native.Nat.{ℕ, zero, suc, ◌+◌, ◌<◌, ◌≤◌}
use Rattle.std.proofs.Math.ListN.{length, take, drop}
use Rattle.std.proofs.lemmas.List.{length-map, set_at}
use Rattle.std.proofs.Math.Seq.{append_snoc, set-append_seam}
use Rattle.nodes.specs.Node.{extra}
use Rattle.nodes.specs.Lists.{insert_at, remove_at}
use Rattle.nodes.specs.Place.{place}
use Rattle.operations.specs.Object.{body}
use Rattle.operations.specs.Entry.{Entries, keys, vals, zip, node_value, fewest_entries, most_entries, first_key_or, cut_at, cut, kind}

-- the entries of a node of level l that holds keys from lo on
abbrev pub entries : ℕ → ℕ → List ℕ → List ℕ → Entries
entries zero lo ks vs = zip ks vs
entries (suc l) lo ks vs = zip (lo ∷ ks) vs

-- "14 values (leaf) or one child more than keys (inner)"
abbrev pub Sized : ℕ → List ℕ → List ℕ → Type 0
Sized zero ks vs = length vs ≡ length ks
Sized (suc l) ks vs = length vs ≡ suc (length ks)

-- the entry of key number i
abbrev pub at : ℕ → ℕ → ℕ
at zero i = i
at (suc l) i = suc i

pub at_is : (l i : ℕ) → at l i ≡ i + extra (kind l)
unfolding extra
at_is zero i = omega arith
at_is (suc l) i = omega arith

-- ZIPPED LISTS
zip_take : (n : ℕ) (ks vs : List ℕ) → take n (zip ks vs) ≡ zip (take n ks) (take n vs)
zip_take zero ks vs = refl
zip_take (suc n) [] vs = refl
zip_take (suc n) (k ∷ ks) [] = refl
zip_take (suc n) (k ∷ ks) (v ∷ vs) = ap (λ r. (k, v) ∷ r) (zip_take n ks vs)

zip_nil : (ks : List ℕ) → zip ks [] ≡ []
zip_nil [] = refl
zip_nil (k ∷ ks) = refl

zip_drop : (n : ℕ) (ks vs : List ℕ) → drop n (zip ks vs) ≡ zip (drop n ks) (drop n vs)
zip_drop zero ks vs = refl
zip_drop (suc n) [] vs = refl
zip_drop (suc n) (k ∷ ks) [] = sym (zip_nil (drop n ks))
zip_drop (suc n) (k ∷ ks) (v ∷ vs) = zip_drop n ks vs

zip_append : (ks js vs us : List ℕ) → length vs ≡ length ks → zip (ks ++ js) (vs ++ us) ≡ zip ks vs ++ zip js us
zip_append [] js [] us h = refl
zip_append [] js (v ∷ vs) us h = absurd (omega (arith, h))
zip_append (k ∷ ks) js [] us h = absurd (omega (arith, h))
zip_append (k ∷ ks) js (v ∷ vs) us h = ap (λ r. (k, v) ∷ r) (zip_append ks js vs us (omega (arith, h)))

zip_set : (i k v : ℕ) (ks vs : List ℕ) → set (zip ks vs) i (k, v) ≡ zip (set ks i k) (set vs i v)
zip_set i k v [] vs = refl
zip_set zero k v (x ∷ ks) [] = refl
zip_set (suc i) k v (x ∷ ks) [] = refl
zip_set zero k v (x ∷ ks) (y ∷ vs) = refl
zip_set (suc i) k v (x ∷ ks) (y ∷ vs) = ap (λ r. (x, y) ∷ r) (zip_set i k v ks vs)

zip_length : (ks vs : List ℕ) → length vs ≡ length ks → length (zip ks vs) ≡ length ks
zip_length [] vs h = refl
zip_length (k ∷ ks) [] h = absurd (omega (arith, h))
zip_length (k ∷ ks) (v ∷ vs) h = ap suc (zip_length ks vs (omega (arith, h)))

zip_keys_of : (ks vs : List ℕ) → length vs ≡ length ks → keys (zip ks vs) ≡ ks
zip_keys_of [] vs h = refl
zip_keys_of (k ∷ ks) [] h = absurd (omega (arith, h))
zip_keys_of (k ∷ ks) (v ∷ vs) h = ap (λ r. k ∷ r) (zip_keys_of ks vs (omega (arith, h)))

zip_vals_of : (ks vs : List ℕ) → length vs ≡ length ks → vals (zip ks vs) ≡ vs
zip_vals_of [] [] h = refl
zip_vals_of [] (v ∷ vs) h = absurd (omega (arith, h))
zip_vals_of (k ∷ ks) [] h = absurd (omega (arith, h))
zip_vals_of (k ∷ ks) (v ∷ vs) h = ap (λ r. v ∷ r) (zip_vals_of ks vs (omega (arith, h)))

-- both lists are taken apart at the same place
same_take : (n : ℕ) (ks vs : List ℕ) → length vs ≡ length ks → n ≤ length ks → length (take n vs) ≡ length (take n ks)
same_take n ks vs h i = length-take-le n vs (omega (arith, h, i)) ∙ sym (length-take-le n ks i)

-- one more pair, or one less, at the same place
zip_put : (i k v : ℕ) (ks vs : List ℕ) → length vs ≡ length ks → i ≤ length ks → take i (zip ks vs) ++ (k, v) ∷ drop i (zip ks vs) ≡ zip (take i ks ++ k ∷ drop i ks) (take i vs ++ v ∷ drop i vs)
zip_put i k v ks vs h j =
    ap (λ r. r ++ (k, v) ∷ drop i (zip ks vs)) (zip_take i ks vs) ∙ ap (λ r. zip (take i ks) (take i vs) ++ (k, v) ∷ r) (zip_drop i ks vs)
    ∙ sym (zip_append (take i ks) (k ∷ drop i ks) (take i vs) (v ∷ drop i vs) (same_take i ks vs h j))

zip_out : (i j : ℕ) (ks vs : List ℕ) → length vs ≡ length ks → i ≤ length ks → take i (zip ks vs) ++ drop j (zip ks vs) ≡ zip (take i ks ++ drop j ks) (take i vs ++ drop j vs)
zip_out i j ks vs h n =
    ap (λ r. r ++ drop j (zip ks vs)) (zip_take i ks vs) ∙ ap (λ r. zip (take i ks) (take i vs) ++ r) (zip_drop j ks vs)
    ∙ sym (zip_append (take i ks) (drop j ks) (take i vs) (drop j vs) (same_take i ks vs h n))

-- A NODE and its entries: there and back
pub stored_back : (l lo : ℕ) (ks vs : List ℕ) → Sized l ks vs → node_value l (entries l lo ks vs) ≡ body (kind l) l ks vs
stored_back zero lo ks vs h = ap (λ z. body 1 0 z (vals (zip ks vs))) (zip_keys_of ks vs h) ∙ ap (body 1 0 ks) (zip_vals_of ks vs h)
stored_back (suc l) lo ks [] h = absurd (omega (arith, h))
stored_back (suc l) lo ks (v ∷ vs) h =
    let n : length vs ≡ length ks = omega (arith, h) in
    ap (λ z. body 2 (suc l) z (v ∷ vals (zip ks vs))) (zip_keys_of ks vs n) ∙ ap (λ z. body 2 (suc l) ks (v ∷ z)) (zip_vals_of ks vs n)

-- as many entries as 7 keys, as 14 keys have
pub fewest_is : (l : ℕ) → fewest_entries l ≡ at l 7
fewest_is zero = refl
fewest_is (suc l) = refl

pub most_is : (l : ℕ) → most_entries l ≡ at l 14
most_is zero = refl
most_is (suc l) = refl

pub entries_length : (l lo : ℕ) (ks vs : List ℕ) → Sized l ks vs → length (entries l lo ks vs) ≡ at l (length ks)
entries_length zero lo ks vs h = zip_length ks vs h
entries_length (suc l) lo ks vs h = zip_length (lo ∷ ks) vs h

-- SPLIT before key number i: the left half, and the right half with that key
pub left_half : (l lo i : ℕ) (ks vs : List ℕ) → take (at l i) (entries l lo ks vs) ≡ entries l lo (take i ks) (take (at l i) vs)
left_half zero lo i ks vs = zip_take i ks vs
left_half (suc l) lo i ks vs = zip_take (suc i) (lo ∷ ks) vs

drop_next : (i : ℕ) (ks : List ℕ) → i < length ks → drop i ks ≡ get_or ks i 0 ∷ drop (suc i) ks
drop_next i [] h = absurd (omega (arith, h))
drop_next zero (k ∷ ks) h = refl
drop_next (suc i) (k ∷ ks) h = drop_next i ks (omega (arith, h))

pub right_half : (l lo i : ℕ) (ks vs : List ℕ) → i < length ks → drop (at l i) (entries l lo ks vs) ≡ entries l (get_or ks i 0) (drop (at l i) ks) (drop (at l i) vs)
right_half zero lo i ks vs h = zip_drop i ks vs
right_half (suc l) lo i ks vs h = zip_drop (suc i) (lo ∷ ks) vs ∙ ap (λ z. zip z (drop (suc i) vs)) (drop_next i ks h)

zip_first : (ks vs : List ℕ) → 0 < length ks → 0 < length vs → first_key_or (zip ks vs) 0 ≡ get_or ks 0 0
zip_first [] vs h g = absurd (omega (arith, h))
zip_first (k ∷ ks) [] h g = absurd (omega (arith, g))
zip_first (k ∷ ks) (v ∷ vs) h g = refl

zip_nth : (i : ℕ) (ks vs : List ℕ) → i < length ks → i < length vs → first_key_or (drop i (zip ks vs)) 0 ≡ get_or ks i 0
zip_nth zero ks vs h g = zip_first ks vs h g
zip_nth (suc i) [] vs h g = absurd (omega (arith, h))
zip_nth (suc i) (k ∷ ks) [] h g = absurd (omega (arith, g))
zip_nth (suc i) (k ∷ ks) (v ∷ vs) h g = zip_nth i ks vs (omega (arith, h)) (omega (arith, g))

pub separator : (l lo i : ℕ) (ks vs : List ℕ) → Sized l ks vs → i < length ks → first_key_or (drop (at l i) (entries l lo ks vs)) 0 ≡ get_or ks i 0
separator zero lo i ks vs h g = zip_nth i ks vs g (omega (arith, h, g))
separator (suc l) lo i ks vs h g = zip_nth (suc i) (lo ∷ ks) vs (omega (arith, g)) (omega (arith, h, g))

-- JOINED: "in inner nodes through the parent", the separator comes between the keys
abbrev pub between : ℕ → ℕ → List ℕ
between zero sep = []
between (suc l) sep = sep ∷ []

pub joined : (l lo sep : ℕ) (ks vs js us : List ℕ) → Sized l ks vs
    → entries l lo ks vs ++ entries l sep js us ≡ entries l lo (ks ++ (between l sep ++ js)) (vs ++ us)
joined zero lo sep ks vs js us h = sym (zip_append ks js vs us h)
joined (suc l) lo sep ks vs js us h = sym (zip_append (lo ∷ ks) (sep ∷ js) vs us h)

-- ONE MORE before key number i, ONE LESS at it, ANOTHER in its place
pub put_in : (l lo i k s : ℕ) (ks vs : List ℕ) → Sized l ks vs → i ≤ length ks
    → insert_at (at l i) (k, s) (entries l lo ks vs) ≡ entries l lo (insert_at i k ks) (insert_at (at l i) s vs)
unfolding insert_at
put_in zero lo i k s ks vs h j = zip_put i k s ks vs h j
put_in (suc l) lo i k s ks vs h j = zip_put (suc i) k s (lo ∷ ks) vs h (omega (arith, j))

pub taken_out : (l lo i : ℕ) (ks vs : List ℕ) → Sized l ks vs → i ≤ length ks
    → remove_at (at l i) (entries l lo ks vs) ≡ entries l lo (remove_at i ks) (remove_at (at l i) vs)
unfolding remove_at
taken_out zero lo i ks vs h j = zip_out i (i + 1) ks vs h j
taken_out (suc l) lo i ks vs h j =
    let e : suc i + 1 ≡ suc (i + 1) = omega arith in
    zip_out (suc i) (suc i + 1) (lo ∷ ks) vs h (omega (arith, j))
    ∙ ap (λ n. zip ((lo ∷ take i ks) ++ drop n (lo ∷ ks)) (take (suc i) vs ++ drop (suc i + 1) vs)) e

pub replaced : (l lo i k s : ℕ) (ks vs : List ℕ) → set (entries l lo ks vs) (at l i) (k, s) ≡ entries l lo (set ks i k) (set vs (at l i) s)
replaced zero lo i k s ks vs = zip_set i k s ks vs
replaced (suc l) lo i k s ks [] = refl
replaced (suc l) lo i k s ks (v ∷ vs) = ap (λ r. (lo, v) ∷ r) (zip_set i k s ks vs)

-- A CHILD and the entries round it: the index of the child that a key leads to is the key's place
module _ (lo v : ℕ) (ks vs : List ℕ) (h : length vs ≡ length ks) where
  pub cut_index : (key : ℕ) → cut key (lo, v) (zip ks vs) ≡ cut_at (place ks key) (lo, v) (zip ks vs)
  cut_index key = ap (λ z. cut_at (place z key) (lo, v) (zip ks vs)) (zip_keys_of ks vs h)

pub cut_parts : {A : Type 0} (i : ℕ) (e : ℕ × A) (es : List (ℕ × A)) → i ≤ length es
    → ((cut_at i e es).0 ≡ take i (e ∷ es)) × ((cut_at i e es).1 ≡ get_or (e ∷ es) i e) × ((cut_at i e es).2 ≡ drop (suc i) (e ∷ es))
cut_parts zero e es h = (refl, refl, refl)
cut_parts (suc i) e [] h = absurd (omega (arith, h))
cut_parts (suc i) e (f ∷ es) h =
    let r = cut_parts i f es (omega (arith, h)) in
    (ap (λ z. e ∷ z) r.0, r.1 ∙ default i f e (f ∷ es) (omega (arith, h)), r.2)
  where
    default : {A : Type 0} (i : ℕ) (d x : A) (l : List A) → i < length l → get_or l i d ≡ get_or l i x
    default i d x [] h = absurd (omega (arith, h))
    default zero d x (y ∷ l) h = refl
    default (suc i) d x (y ∷ l) h = default i d x l (omega (arith, h))

-- THE PARENT: its entries with the child c between pre and post
module _ (l lo : ℕ) (ks vs : List ℕ) (h : Sized (suc l) ks vs) (pre post : Entries) (k c : ℕ) (e : entries (suc l) lo ks vs ≡ pre ++ (k, c) ∷ post) where
  abbrev front : Entries
  front = pre ++ (k, c) ∷ []

  front_length : length front ≡ suc (length pre)
  front_length = length-append pre ((k, c) ∷ []) ∙ omega arith

  whole : entries (suc l) lo ks vs ≡ front ++ post
  whole = e ∙ sym (append_snoc pre (k, c) post)

  up_to : take (suc (length pre)) (entries (suc l) lo ks vs) ≡ front
  up_to = ap (take (suc (length pre))) whole ∙ take_at front post (suc (length pre)) front_length

  beyond : drop (suc (length pre)) (entries (suc l) lo ks vs) ≡ post
  beyond = ap (drop (suc (length pre))) whole ∙ drop_at front post (suc (length pre)) front_length

  pre_short : length pre ≤ length ks
  pre_short = omega (arith, entries_length (suc l) lo ks vs h, ap length e ∙ length-append pre ((k, c) ∷ post))

  -- a new child right of c, with the separator between them
  pub child_added : (sep d : ℕ) → pre ++ (k, c) ∷ (sep, d) ∷ post ≡ entries (suc l) lo (insert_at (length pre) sep ks) (insert_at (suc (length pre)) d vs)
  unfolding insert_at
  child_added sep d =
      sym (append_snoc pre (k, c) ((sep, d) ∷ post))
      ∙ ap (λ z. z ++ (sep, d) ∷ post) (sym up_to) ∙ ap (λ z. take (suc (length pre)) (entries (suc l) lo ks vs) ++ (sep, d) ∷ z) (sym beyond)
      ∙ put_in (suc l) lo (length pre) sep d ks vs h pre_short

  -- another child in the place of c
  pub child_replaced : (d : ℕ) → pre ++ (k, d) ∷ post ≡ entries (suc l) lo ks (set vs (length pre) d)
  child_replaced d =
      sym (set-append_seam pre (k, c) post (k, d)) ∙ ap (λ z. set z (length pre) (k, d)) (sym e) ∙ zip_set (length pre) k d (lo ∷ ks) vs
      ∙ ap (λ z. zip z (set vs (length pre) d)) kept
    where
      parts : lo ∷ ks ≡ keys pre ++ k ∷ keys post
      parts = sym (zip_keys_of (lo ∷ ks) vs h) ∙ ap keys e ∙ map-append (λ e. e.0) pre ((k, c) ∷ post)

      kept : set (lo ∷ ks) (length pre) k ≡ lo ∷ ks
      kept = ap (λ z. set z (length pre) k) parts ∙ ap (λ n. set (keys pre ++ k ∷ keys post) n k) (sym (length-map pre (λ e. e.0)))
          ∙ set-append_seam (keys pre) k (keys post) k ∙ sym parts

-- the same with the next child beside it
module _ (l lo : ℕ) (ks vs : List ℕ) (h : Sized (suc l) ks vs) (pre post : Entries) (k c k2 c2 : ℕ) (e : entries (suc l) lo ks vs ≡ pre ++ (k, c) ∷ (k2, c2) ∷ post) where
  -- the right one of two goes, and the separator left of it
  pub child_dropped : pre ++ (k, c) ∷ post ≡ entries (suc l) lo (remove_at (length pre) ks) (remove_at (suc (length pre)) vs)
  unfolding remove_at
  child_dropped =
      sym (append_snoc pre (k, c) post)
      ∙ ap (λ z. z ++ post) (sym (up_to l lo ks vs h pre ((k2, c2) ∷ post) k c e))
      ∙ ap (λ z. take (suc (length pre)) (entries (suc l) lo ks vs) ++ z) (sym (next (suc (length pre)) (suc (length pre) + 1) (entries (suc l) lo ks vs) (omega arith) (beyond l lo ks vs h pre ((k2, c2) ∷ post) k c e)))
      ∙ taken_out (suc l) lo (length pre) ks vs h (pre_short l lo ks vs h pre ((k2, c2) ∷ post) k c e)
    where
      next : (n m : ℕ) (es : Entries) → m ≡ suc n → drop n es ≡ (k2, c2) ∷ post → drop m es ≡ post
      next n m es e q = ap (λ m. drop m es) e ∙ by n es q
        where
          by : (n : ℕ) (es : Entries) → drop n es ≡ (k2, c2) ∷ post → drop (suc n) es ≡ post
          by zero [] q = absurd (omega (arith, ap length q))
          by zero (x ∷ es) q = ap tail q
          by (suc n) [] q = absurd (omega (arith, ap length q))
          by (suc n) (x ∷ es) q = by n es q

  -- another separator between the two
  pub separator_replaced : (x : ℕ) → pre ++ (k, c) ∷ (x, c2) ∷ post ≡ entries (suc l) lo (set ks (length pre) x) vs
  separator_replaced x =
      sym (set_at (pre ++ (k, c) ∷ []) (k2, c2) post (x, c2) (suc (length pre)) n ∙ append_snoc pre (k, c) ((x, c2) ∷ post))
      ∙ ap (λ z. set z (suc (length pre)) (x, c2)) (append_snoc pre (k, c) ((k2, c2) ∷ post) ∙ sym e)
      ∙ replaced (suc l) lo (length pre) x c2 ks vs ∙ ap (λ z. entries (suc l) lo (set ks (length pre) x) z) kept
    where
      n : length (pre ++ (k, c) ∷ []) ≡ suc (length pre)
      n = length-append pre ((k, c) ∷ []) ∙ omega arith

      parts : vs ≡ vals pre ++ (c ∷ []) ++ c2 ∷ vals post
      parts = sym (zip_vals_of (lo ∷ ks) vs h) ∙ ap vals e ∙ map-append (λ e. e.1) pre ((k, c) ∷ (k2, c2) ∷ post) ∙ sym (append_snoc (vals pre) c (c2 ∷ vals post))

      kept : set vs (suc (length pre)) c2 ≡ vs
      kept = ap (λ z. set z (suc (length pre)) c2) parts
          ∙ set_at (vals pre ++ (c ∷ [])) c2 (vals post) c2 (suc (length pre)) (length-append (vals pre) (c ∷ []) ∙ (let m = length-map pre (λ e. e.1) in omega (arith, m)))
          ∙ sym parts
