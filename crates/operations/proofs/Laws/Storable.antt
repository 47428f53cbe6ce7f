-- What a plan asks for and writes, where everything read can be stored: every question is about something of the store; a node written is in range,
-- has no more keys than its arrays hold, and as many values, or one child more; it points to names of the store. The sizes, the way down, and slots.
use Rattle.std.specs.Prelude.{◌≡◌, refl, Bool, true, false, cond, ◌⊎◌, length, take, drop}
use Rattle.std.proofs.Common.{subst, inl, inr, arith}
use Rattle.std.proofs.lemmas.Bool.{false≢true}
use mathlib.Core.List.{List, [], ◌∷◌, ◌++◌}
use Rattle.std.proofs.Math.Option.{Option, none, some}
use Prim.Native.Nat.{ℕ, zero, suc, ◌+◌, ◌≤◌, ◌<◌}
use Rattle.std.proofs.Math.Decide.{ℕ_discrete, dec_le}
use Rattle.std.proofs.Math.ListN.{length-map}
use Rattle.base.specs.Test.{ifd}
use Rattle.base.proofs.Laws.Test.{ifd_all}
use Rattle.plans.specs.Walk.{Every}
use Rattle.nodes.specs.Node.{extra}
use Rattle.nodes.specs.Name.{name}
use Rattle.nodes.specs.Place.{place}
use Rattle.nodes.specs.States.{states_fit}
use Rattle.operations.specs.Object.{Obj, meta, node, flag, Ask, object, vector, fetched, Val, root, body, taken, flags, free, states_of, flags_of, Why, no_tree, Ans, Writes, hit}
use Rattle.operations.specs.Entry.{Entries, keys, vals, zip, node_value, fewest_entries, most_entries, cut_at, cut}
use Rattle.operations.specs.Path.{TreePlan, see, when_root, open_node, kid, Branch, Cont, to_leaf, down, at_root, from_root}
use Rattle.operations.specs.Slot.{counted, free_slot, chosen, search, open_ones, when_free_flag, take_flag, take_on, when_free_node, take_node, release}
use Rattle.operations.proofs.Laws.Arrays.{entries_length}
use Rattle.operations.proofs.Laws.Slots.{Each, Open, open_slot, open_servers}
use Rattle.operations.proofs.Laws.Along.{Along, Ended}
use Rattle.operations.proofs.Laws.Hit.{hit_eq}
use Rattle.plans.specs.Plan as P
use Rattle.plans.proofs.Laws.Walk as W

-- ---- what can be stored. "0 free, 1 leaf, 2 inner"; "0 for a leaf, 1 to 4 for an inner node"; a free node keeps neither level nor keys
abbrev pub Shape : ℕ → ℕ → List ℕ → Type 0
Shape zero l ks = (l ≡ 0) × (length ks ≡ 0)
Shape (suc zero) l ks = l ≡ 0
Shape (suc (suc zero)) l ks = 1 ≤ l
Shape (suc (suc (suc k))) l ks = ⊥

-- N: the names of the store. "at most 14 keys", "14 values (leaf) or one child more than keys (inner)"
pub record Kept (N : ℕ → Type 0) (k l : ℕ) (ks vs : List ℕ) : Type 0 where
  pub few : length ks ≤ 14
  pub beside : length vs ≡ length ks + extra k
  pub shape : Shape k l ks
  pub children : k ≡ 2 → Every N vs

module _ (N : ℕ → Type 0) where
  -- what an object's record can hold: the root's name, a node, a flag
  abbrev pub Storable : Obj → Val → Type 0
  Storable meta (root r st) = N r × (states_fit st ≡ true)
  Storable meta (body k l ks vs) = ⊥
  Storable meta (taken b) = ⊥
  Storable meta (flags fs) = ⊥
  Storable (node n) (root r st) = ⊥
  Storable (node n) (body k l ks vs) = Kept N k l ks vs
  Storable (node n) (taken b) = ⊥
  Storable (node n) (flags fs) = ⊥
  Storable (flag n) (root r st) = ⊥
  Storable (flag n) (body k l ks vs) = ⊥
  Storable (flag n) (taken b) = Unit {0}
  Storable (flag n) (flags fs) = ⊥

  -- an object of the store
  abbrev pub Named : Obj → Type 0
  Named meta = Unit {0}
  Named (node n) = N n
  Named (flag n) = N n

  abbrev pub AllStorable : Writes → Type 0
  AllStorable [] = Unit {0}
  AllStorable (e ∷ w) = Named e.0 × Storable e.0 e.1 × AllStorable w

  -- a question about something of the store
  abbrev pub Inside : Ask → Type 0
  Inside (object o) = Named o
  Inside (vector s) = s < 8
  Inside (fetched s) = s < 8

-- ---- every entry of a list
module _ {A : Type 0} (P : A → Type 0) where
  pub every_any : ((a : A) → P a) → (l : List A) → Every P l
  unfolding Every
  every_any h [] = tt
  every_any h (a ∷ l) = (h a, every_any h l)

  pub every_append : (l m : List A) → Every P l → Every P m → Every P (l ++ m)
  unfolding Every
  every_append [] m h g = g
  every_append (a ∷ l) m h g = (h.0, every_append l m h.1 g)

  pub every_take : (n : ℕ) (l : List A) → Every P l → Every P (take n l)
  unfolding Every
  every_take zero l h = tt
  every_take (suc n) [] h = tt
  every_take (suc n) (a ∷ l) h = (h.0, every_take n l h.1)

  pub every_drop : (n : ℕ) (l : List A) → Every P l → Every P (drop n l)
  unfolding Every
  every_drop zero l h = h
  every_drop (suc n) [] h = tt
  every_drop (suc n) (a ∷ l) h = every_drop n l h.1

every_zip : (P : ℕ → Type 0) (ks vs : List ℕ) → Every P vs → Every (λ e. P e.1) (zip ks vs)
unfolding Every
every_zip P [] vs h = tt
every_zip P (k ∷ ks) [] h = tt
every_zip P (k ∷ ks) (v ∷ vs) h = (h.0, every_zip P ks vs h.1)

every_vals : (P : ℕ → Type 0) (es : Entries) → Every (λ e. P e.1) es → Every P (vals es)
unfolding Every
every_vals P [] h = tt
every_vals P (e ∷ es) h = (h.0, every_vals P es h.1)

-- ---- what is supposed of a plan
pub record Scope : Type 1 where
  -- the sizes and the names of the store; every slot has one
  pub slots : ℕ
  pub N : ℕ → Type 0
  pub new : (s i : ℕ) → s < 8 → i < slots → N (name s i)
  -- holds of every object asked for
  pub R : Obj → Type 0
  -- says that what is read can be stored
  pub Z : Type 0
  -- holds of the answer
  pub A : Ans → Type 0

abbrev pub least : ℕ → ℕ
least zero = 0
least (suc l) = 1

module _ (T : Scope) where
  abbrev N : ℕ → Type 0
  N = T.N

  abbrev Z : Type 0
  Z = T.Z

  -- ---- a node's entries: an inner node has a child, and its children are in the store
  abbrev Child : ℕ → ℕ → Type 0
  Child zero n = Unit {0}
  Child (suc l) n = N n

  abbrev pub Children : ℕ → Entries → Type 0
  Children l es = Every (λ e. Child l e.1) es

  pub record Within (m l : ℕ) (es : Entries) : Type 0 where
    pub some_child : least l ≤ length es
    pub few : length es ≤ m
    pub children : Children l es

  -- no more than a node holds
  abbrev pub Sized : ℕ → Entries → Type 0
  Sized l es = Within (most_entries l) l es

  pub mk_storable : (l n : ℕ) (es : Entries) → Sized l es → Storable N (node n) (node_value l es)
  unfolding extra Every
  mk_storable zero n es h =
      let a = length-map es (λ e. e.0) in
      let b = length-map es (λ e. e.1) in
      record { few = omega (arith, h.few, a); beside = omega (arith, a, b); shape = refl; children = λ e. absurd (omega (arith, e)) }
  mk_storable (suc l) n [] h = absurd (omega (arith, h.some_child))
  mk_storable (suc l) n (e ∷ es) h =
      let a = length-map es (λ e. e.0) in
      let b = length-map es (λ e. e.1) in
      record { few = omega (arith, h.few, a); beside = omega (arith, a, b); shape = omega arith; children = λ _. every_vals N (e ∷ es) h.children }

  free_storable : (n : ℕ) → Storable N (node n) free
  unfolding extra
  free_storable n = record { few = omega arith; beside = refl; shape = (refl, refl); children = λ e. absurd (omega (arith, e)) }

  leaf_sized : (lo l : ℕ) (ks vs : List ℕ) → Kept N 1 l ks vs → Sized 0 (zip ks vs)
  unfolding extra
  leaf_sized lo l ks vs h =
      let e = entries_length 0 lo ks vs (omega (arith, h.beside)) in
      record { some_child = omega arith; few = omega (arith, h.few, e); children = every_any _ (λ _. tt) (zip ks vs) }

  inner_sized : (lo l : ℕ) (ks vs : List ℕ) → Kept N 2 (suc l) ks vs → Sized (suc l) (zip (lo ∷ ks) vs)
  unfolding extra
  inner_sized lo l ks vs h =
      let e = entries_length (suc l) lo ks vs (omega (arith, h.beside)) in
      record { some_child = omega (arith, e); few = omega (arith, h.few, e); children = every_zip N (lo ∷ ks) vs (h.children refl) }

  -- ---- what a plan asks for and writes
  abbrev pub Asks : Ask → Type 0
  Asks q = Z → Inside N q

  abbrev pub Read : Ask → Val → Type 0
  Read (object o) v = T.R o × (Z → Storable N o v)
  Read (vector s) v = Unit {0}
  Read (fetched s) v = Unit {0}

  -- an object that was asked for, with a value that can be stored there
  abbrev pub Well : Obj → Val → Type 0
  Well o v = T.R o × (Z → Named N o × Storable N o v)

  abbrev pub AllWell : Writes → Type 0
  AllWell [] = Unit {0}
  AllWell (e ∷ w) = Well e.0 e.1 × AllWell w

  -- an answer with what is written
  abbrev pub Ends : Ans → Writes → Type 0
  Ends a w = T.A a × AllWell w

  abbrev pub Ok : TreePlan → Type 0
  Ok p = Along Asks Read Ends p

  -- and what it comes to
  abbrev pub Comes : W.Met Ask (Ans × Writes) Why → Type 0
  Comes m = Ended Asks Read Ends m

  -- a node that was asked for
  abbrev pub Met : ℕ → Type 0
  Met n = T.R (node n) × (Z → N n)

  pub mk_well : (l n : ℕ) (es : Entries) → Met n → (Z → Sized l es) → Well (node n) (node_value l es)
  mk_well l n es m s = (m.0, λ z. (m.1 z, mk_storable l n es (s z)))

  pub see_ok : (w : Writes) (o : Obj) (k : Val → TreePlan) → AllWell w → (Z → Named N o) → ((v : Val) → Well o v → Ok (k v)) → Ok (see w o k)
  see_ok [] o k h n g = (n, λ v a. g v (a.0, λ z. (n z, a.1 z)))
  see_ok (e ∷ w) o k h n g = go (hit e.0 o) refl (see_ok w o k h.1 n g)
    where
      go : (b : Bool) → hit e.0 o ≡ b → Ok (see w o k) → Ok (cond b (k e.1) (see w o k))
      go true q r = g e.1 (subst (λ o. Well o e.1) (hit_eq e.0 o q) h.0)
      go false q r = r

  pub if_ok : {P : Type 0} (d : Dec P) (p q : TreePlan) → (P → Ok p) → ((P → ⊥) → Ok q) → Ok (ifd d p q)
  if_ok d p q h g = ifd_all d p q Ok h g

  open_ok : (lo n : ℕ) (v : Val) (k : ℕ → Entries → TreePlan) → Well (node n) v → ((l : ℕ) (es : Entries) → Met n → (Z → Sized l es) → Ok (k l es)) → Ok (open_node lo v k)
  open_ok lo n (root r st) k s h = tt
  open_ok lo n (taken t) k s h = tt
  open_ok lo n (flags fs) k s h = tt
  open_ok lo n (body zero l ks vs) k s h = tt
  open_ok lo n (body (suc zero) zero ks vs) k s h = h 0 (zip ks vs) (s.0, λ z. (s.1 z).0) (λ z. leaf_sized lo 0 ks vs (s.1 z).1)
  open_ok lo n (body (suc zero) (suc l) ks vs) k s h = tt
  open_ok lo n (body (suc (suc zero)) zero ks vs) k s h = tt
  open_ok lo n (body (suc (suc zero)) (suc l) ks vs) k s h = h (suc l) (zip (lo ∷ ks) vs) (s.0, λ z. (s.1 z).0) (λ z. inner_sized lo l ks vs (s.1 z).1)
  open_ok lo n (body (suc (suc (suc j))) l ks vs) k s h = tt

  pub kid_ok : (w : Writes) (l lo n : ℕ) (k : Entries → TreePlan) → AllWell w → (Z → N n)
      → ((es : Entries) → Met n → (Z → Sized l es) → fewest_entries l ≤ length es → Ok (k es)) → Ok (kid w l lo n k)
  kid_ok w l lo n k h i g =
      see_ok w (node n) _ h i (λ v s. open_ok lo n v _ s (λ j es m f.
      if_ok (ℕ_discrete j l) _ (P.fail no_tree)
      (λ e. if_ok (dec_le (fewest_entries l) (length es)) (k es) (P.fail no_tree) (g es m (λ z. subst (λ l. Sized l es) e (f z))) (λ _. tt)) (λ _. tt)))

  -- THE WAY DOWN: a branch is an inner node; the entries beside the one followed
  pub record Beside (pre post : Entries) : Type 0 where
    pub few : length pre + length post ≤ 14
    pub before : Children 1 pre
    pub after : Children 1 post

  abbrev pub Branched : Branch → Type 0
  Branched f = Met f.nm × (Z → Beside f.pre f.post)

  abbrev pub Path : List Branch → Type 0
  Path [] = Unit {0}
  Path (f ∷ fs) = Branched f × Path fs

  -- the entries of an inner node, cut at one of them
  pub cut_beside : (i : ℕ) (e : ℕ × ℕ) (es : Entries) → length es ≤ 14 → Children 1 (e ∷ es)
      → Beside (cut_at i e es).0 (cut_at i e es).2 × N (cut_at i e es).1.1 × (length (cut_at i e es).0 + length (cut_at i e es).2 ≡ length es)
  unfolding Every
  cut_beside zero e es s h = (record { few = omega arith; before = tt; after = h.1 }, h.0, omega arith)
  cut_beside (suc i) e [] s h = (record { few = omega arith; before = tt; after = tt }, h.0, omega arith)
  cut_beside (suc i) e (f ∷ es) s h =
      let r = cut_beside i f es (omega arith) h.1 in
      (record { few = omega (arith, r.2); before = (h.0, r.0.before); after = r.0.after }, r.1, omega (arith, r.2))

  pub cut_ok : (key l : ℕ) (e : ℕ × ℕ) (es : Entries) → Sized (suc l) (e ∷ es) → Beside (cut key e es).0 (cut key e es).2 × N (cut key e es).1.1
  cut_ok key l e es s = let r = cut_beside (place (keys es) key) e es (omega (arith, s.few)) s.children in (r.0, r.1)

  -- where a way down ends
  abbrev pub Stops : (ℕ → Bool) → ℕ → Type 0
  Stops stop l = (l ≡ 0) ⊎ (stop l ≡ true)

  pub down_ok : (stop : ℕ → Bool) (key : ℕ) (k : Cont)
      → ((l : ℕ) (fs : List Branch) (n : ℕ) (es : Entries) → Path fs → Met n → (Z → Sized l es) → Stops stop l → Ok (k l fs n es))
      → (l : ℕ) (fs : List Branch) (n : ℕ) (es : Entries) → Path fs → Met n → (Z → Sized l es) → Ok (down stop key k l fs n es)
  down_ok stop key k hk zero fs n es h m s = hk zero fs n es h m s (inl refl)
  down_ok stop key k hk (suc l) fs n [] h m s = tt
  down_ok stop key k hk (suc l) fs n (e ∷ es) h m s =
      let c = cut key e es in
      let f : Branch = record { nm = n; key = c.1.0; pre = c.0; post = c.2 } in
      either (stop (suc l)) refl (k (suc l) fs n (e ∷ es)) (kid [] l c.1.0 c.1.1 (λ es'. down stop key k l (f ∷ fs) c.1.1 es'))
      (λ q. hk (suc l) fs n (e ∷ es) h m s (inr q))
      (kid_ok [] l c.1.0 c.1.1 (λ es'. down stop key k l (f ∷ fs) c.1.1 es') tt (λ z. (cut_ok key l e es (s z)).1)
      (λ es' m' g _. down_ok stop key k hk l (f ∷ fs) c.1.1 es' ((m, λ z. (cut_ok key l e es (s z)).0), h) m' g))
    where
      either : (b : Bool) → stop (suc l) ≡ b → (p q : TreePlan) → (stop (suc l) ≡ true → Ok p) → Ok q → Ok (cond b p q)
      either true e p q h g = h e
      either false e p q h g = g

  pub root_ok : (v : Val) (k : ℕ → TreePlan) → Well meta v → ((r : ℕ) → (Z → N r) → (Z → states_fit (states_of v) ≡ true) → Ok (k r)) → Ok (when_root v k)
  root_ok (root r st) k s h = h r (λ z. (s.1 z).1.0) (λ z. (s.1 z).1.1)
  root_ok (body j l ks vs) k s h = tt
  root_ok (taken b) k s h = tt
  root_ok (flags fs) k s h = tt

  pub at_root_ok : (r : ℕ) (k : ℕ → Entries → TreePlan) → (Z → N r) → ((l : ℕ) (es : Entries) → Met r → (Z → Sized l es) → Ok (k l es)) → Ok (at_root r k)
  at_root_ok r k i h = see_ok [] (node r) (λ u. open_node 0 u k) tt i (λ u s. open_ok 0 r u k s h)

  -- to a leaf
  pub leaf_ok : (key : ℕ) (k : List Branch → ℕ → Entries → TreePlan)
      → ((fs : List Branch) (n : ℕ) (es : Entries) → Path fs → Met n → (Z → Sized 0 es) → Ok (k fs n es)) → Ok (from_root key k)
  leaf_ok key k hk =
      see_ok [] meta (λ v. when_root v (λ r. at_root r (on r))) tt (λ _. tt) (λ v s. root_ok v (λ r. at_root r (on r)) s (λ r i _.
      at_root_ok r (on r) i (λ l es m s. down_ok to_leaf key (λ _ fs n es. k fs n es) end l [] r es tt m s)))
    where
      on : ℕ → ℕ → Entries → TreePlan
      on r l es = down to_leaf key (λ _ fs n es. k fs n es) l [] r es

      end : (l : ℕ) (fs : List Branch) (n : ℕ) (es : Entries) → Path fs → Met n → (Z → Sized l es) → Stops to_leaf l → Ok (k fs n es)
      end zero fs n es p m s e = hk fs n es p m s
      end (suc l) fs n es p m s (inl e) = absurd (omega (arith, e))
      end (suc l) fs n es p m s (inr e) = absurd (false≢true e)

  -- SLOTS
  flag_ok : (w : Writes) (d : ℕ) (k : Writes → TreePlan) → AllWell w → (Z → N d) → ((u : Writes) → AllWell u → Ok (k u)) → Ok (take_flag w d k)
  flag_ok w d k h i g =
      see_ok w (flag d) (λ v. when_free_flag v (k ((flag d, taken true) ∷ w))) h i (λ v s. go v (g ((flag d, taken true) ∷ w) ((s.0, λ z. (i z, tt)), h)))
    where
      go : (v : Val) → Ok (k ((flag d, taken true) ∷ w)) → Ok (when_free_flag v (k ((flag d, taken true) ∷ w)))
      go (root r st) q = tt
      go (body j l ks vs) q = tt
      go (taken true) q = tt
      go (taken false) q = q
      go (flags fs) q = tt

  pub node_ok : (w : Writes) (d : ℕ) (k : TreePlan) → AllWell w → (Z → N d) → (Met d → Ok k) → Ok (take_node w d k)
  node_ok w d k h i g = see_ok w (node d) (λ v. when_free_node v k) h i (λ v s. go v (g (s.0, i)))
    where
      go : (v : Val) → Ok k → Ok (when_free_node v k)
      go (root r st) q = tt
      go (body zero l ks vs) q = q
      go (body (suc j) l ks vs) q = tt
      go (taken b) q = tt
      go (flags fs) q = tt

  pub release_ok : (w : Writes) (n : ℕ) (k : Writes → TreePlan) → AllWell w → Met n → ((u : Writes) → AllWell u → Ok (k u)) → Ok (release w n k)
  release_ok w n k h m g =
      see_ok w (flag n) (λ _. k ((node n, free) ∷ (flag n, taken false) ∷ w)) h m.1
      (λ v s. g ((node n, free) ∷ (flag n, taken false) ∷ w) ((m.0, λ z. (m.1 z, free_storable n)), ((s.0, λ z. (m.1 z, tt)), h)))

  search_ok : (w : Writes) (slot : ℕ) (ss : List ℕ) (k : ℕ → TreePlan) → Every (λ s. s < 8) ss → ((d : ℕ) → (Z → N d) → Ok (k d)) → Ok (search T.slots w slot ss k)
  unfolding Every
  search_ok w slot [] k i h = tt
  search_ok w slot (s ∷ ss) k i h =
      (λ _. i.0, λ v _. go v _ (λ _. i.0, λ u _. go u (search T.slots w slot ss k) (search_ok w slot ss k i.1 h)))
    where
      go : (v : Val) (p : TreePlan) → Ok p → Ok (chosen s (free_slot T.slots w slot s v) k p)
      go v p q = by (free_slot T.slots w slot s v) (open_slot T.slots w slot s v)
        where
          by : (o : Option ℕ) → Each (λ j. (j < T.slots) × Open (counted w s (flags_of v)) j) o → Ok (chosen s o k p)
          by none u = q
          by (some j) u = h (name s j) (λ _. T.new s j i.0 u.0)

  pub take_ok : (ss : List ℕ) (slot : ℕ) (w : Writes) (k : ℕ → Writes → TreePlan) → AllWell w
      → ((d : ℕ) (u : Writes) → (Z → N d) → AllWell u → Ok (k d u)) → Ok (take_on T.slots ss slot w k)
  take_ok ss slot w k h g =
      see_ok [] meta (λ v. search T.slots w slot (open_ones (states_of v) ss) (λ d. take_flag w d (λ u. k d u))) tt (λ _. tt)
      (λ v _. search_ok w slot (open_ones (states_of v) ss) (λ d. take_flag w d (λ u. k d u)) (open_servers (states_of v) ss) (λ d n. flag_ok w d (λ u. k d u) h n (λ u a. g d u n a)))
