-- What one write of an apply does to each object that a server stores.
use Rattle.std.specs.Prelude.{◌≡◌, Bool, ◌⊎◌}
use Rattle.std.proofs.Math.Path.{refl, ap, ap₂, subst, fun_ext}
use Rattle.std.proofs.Common.{sym, ◌∙◌, inr, arith}
use Rattle.std.proofs.Math.Bool.{and-false, true, false, cond}
use Rattle.std.proofs.lemmas.Bool.{false≢true}
use mathlib.Core.List.{List, [], ◌∷◌, ◌++◌}
use Rattle.std.proofs.Math.Logic.{inl}
use Prim.Native.Nat.{ℕ, suc, ◌+◌, ◌*◌, ◌/◌, ◌%◌}
use Rattle.std.proofs.Math.Decide.{ℕ_discrete}
use Rattle.memory.specs.Bit.{bit, put_bit}
use Rattle.memory.proofs.Laws.Bit.{bit_put_same, bit_put_other}
use Rattle.layout.specs.Space.{Coding, same, Put, put, puts, tab, written, changed}
use Rattle.layout.proofs.Laws.Space.{written_same, written_other, written_apart, puts_apart, tab_puts_same}
use Rattle.layout.proofs.Laws.Step.{changed_append}
use Rattle.operations.specs.Object.{Obj, meta, node, flag, Val, root, taken}
use Rattle.server.specs.declared.place.Place.{Place}
use Rattle.server.specs.declared.place.Place.TheVariants.{Root, Version, States, MetadataLock, Vector, Node, FlagLock, Table, NodeLock}
use Rattle.server.specs.Layout.{place_again, places}
use Rattle.nodes.specs.Object.{named}
use Rattle.server.specs.Store.{metadata_step, flag_step}
use Rattle.nodes.specs.Stored.{node_of, words_of}
use Rattle.nodes.proofs.Laws.Stored.{Sized, length_words, node_words}
use Rattle.client.specs.Record.{value_of}
use Rattle.steps.specs.Steps.{node_at}
use Rattle.demand.proofs.Laws.Numbers.{by_object}
use Rattle.demand.proofs.Laws.Servers.{is_lock}
use Rattle.demand.proofs.Laws.Shows.{value_at, version_at, table_at}
use Rattle.demand.proofs.Laws.Frame.{read_after, Only, only_append, only_other}
use Rattle.nodes.specs.declared.node.Node as Record

-- which word a place is; 0 for the metadata's
unfoldable pub sort : Place → ℕ
sort Root = 0
sort Version = 0
sort States = 0
sort MetadataLock = 2
sort (Vector i) = 3
sort (Node k i) = 4
sort (FlagLock k) = 5
sort (Table s k) = 6
sort (NodeLock s k) = 7

slot_in : Place → ℕ
slot_in Root = 0
slot_in Version = 0
slot_in States = 0
slot_in MetadataLock = 0
slot_in (Vector i) = i
slot_in (Node k i) = k
slot_in (FlagLock k) = 0
slot_in (Table s k) = s * 1024 + k
slot_in (NodeLock s k) = 0

word_in : Place → ℕ
word_in Root = 0
word_in Version = 0
word_in States = 0
word_in MetadataLock = 0
word_in (Vector i) = 0
word_in (Node k i) = i
word_in (FlagLock k) = 0
word_in (Table s k) = 0
word_in (NodeLock s k) = 0

-- the metadata's words are no locks
pub unlocked : (a : Place) → sort a ≡ 0 → is_lock a ≡ false
unfolding sort
unlocked Root e = refl
unlocked Version e = refl
unlocked States e = refl
unlocked MetadataLock e = absurd (omega (arith, e))
unlocked (Vector i) e = refl
unlocked (Node k i) e = refl
unlocked (FlagLock k) e = absurd (omega (arith, e))
unlocked (Table s k) e = refl
unlocked (NodeLock s k) e = absurd (omega (arith, e))

abbrev Same : ℕ → ℕ → Type 0
Same a b = a ≡ b

-- one store is what stands there
put_same : {A : Type 0} (C : Coding A) (f : A → ℕ) (a : A) (v : ℕ) → changed C f (put a v ∷ []) a ≡ v
unfolding changed
put_same C f a v = written_same C f a v

put_other : {A : Type 0} (C : Coding A) (f : A → ℕ) (a : A) (v : ℕ) (x : A) → same (C.code x) (C.code a) ≡ false → changed C f (put a v ∷ []) x ≡ f x
unfolding changed
put_other C f a v x e = written_apart C f a v x e

-- at a server s a name is known by its slot
at_one_server : (s x n : ℕ) → x / 1024 ≡ s → n / 1024 ≡ s → x % 1024 ≡ n % 1024 → x ≡ n
at_one_server s x n a b e = omega arith

-- a node or a flag is at home at the server s
abbrev pub AtHome : ℕ → Obj → Type 0
AtHome s meta = Unit {0}
AtHome s (node n) = n / 1024 ≡ s
AtHome s (flag n) = n / 1024 ≡ s

-- a node's words, and its entry in the table
abbrev pub node_puts : ℕ → Record.Node → List (Put Place)
node_puts n r = puts places (Node (n % 1024)) (words_of r)

abbrev pub table_puts : ℕ → ℕ → List (Put Place)
table_puts n version = put (Table (n / 1024) (n % 1024)) version ∷ []

-- h: the object is at home here; b: a node inner before or after; version: the one read plus 1; r: the node with it; first, second, t: the root's name,
-- the servers' states, a flag
module _ (k j slots : ℕ) (h b t : Bool) (version first second : ℕ) (r : Record.Node) (w : Sized r) where
  abbrev pub write_of : Obj → (Place → ℕ) → List (Put Place)
  write_of o q =
      by_object o (metadata_step first second version q) (λ n. cond h (node_puts n r) [] ++ cond b (table_puts n version) []) (λ n. cond h (flag_step (named n) t q) [])

  -- the places that it stores at
  unfoldable pub Touches : Obj → Place → Type 0
  Touches meta a = sort a ≡ 0
  Touches (node n) a = ((h ≡ true) × (i : ℕ) × (a ≡ Node (n % 1024) i)) ⊎ (a ≡ Table (n / 1024) (n % 1024))
  Touches (flag n) a = (h ≡ true) × (a ≡ Vector (n % 1024 / 64))

  puts_touch : (n : ℕ) (f : ℕ → Place) (vs : List ℕ) → ((i : ℕ) → Touches (node n) (f i)) → Only places (λ a v. Touches (node n) a) (puts places f vs)
  unfolding Only puts
  puts_touch n f [] g = tt
  puts_touch n f (v ∷ vs) g = (g 0, puts_touch n (λ i. f (suc i)) vs (λ i. g (suc i)))

  only_touches : (o : Obj) (q : Place → ℕ) → Only places (λ a v. Touches o a) (write_of o q)
  unfolding Only Touches metadata_step flag_step sort
  only_touches meta q = (refl, (refl, (refl, tt)))
  only_touches (node n) q = only_append places (λ a v. Touches (node n) a) (cond h (node_puts n r) []) (cond b (table_puts n version) []) (at_home h refl) (in_table b)
    where
      at_home : (x : Bool) → h ≡ x → Only places (λ a v. Touches (node n) a) (cond x (node_puts n r) [])
      at_home true e = puts_touch n (Node (n % 1024)) (words_of r) (λ i. inl (e, i, refl))
      at_home false e = tt

      in_table : (x : Bool) → Only places (λ a v. Touches (node n) a) (cond x (table_puts n version) [])
      in_table true = (inr refl, tt)
      in_table false = tt
  only_touches (flag n) q = at_home h refl
    where
      at_home : (x : Bool) → h ≡ x → Only places (λ a v. Touches (flag n) a) (cond x (flag_step (named n) t q) [])
      at_home true e = ((e, refl), tt)
      at_home false e = tt

  pub untouched : (o : Obj) (q : Place → ℕ) (a : Place) → ¬ (Touches o a) → changed places q (write_of o q) a ≡ q a
  untouched o q a n =
      only_other places place_again (λ a v. Touches o a) a (λ x v g e. n (subst (Touches o) (sym e) g)) (write_of o q) q (only_touches o q)

  pub no_lock : (o : Obj) (a : Place) → is_lock a ≡ true → ¬ (Touches o a)
  unfolding Touches
  no_lock meta a h e = absurd (false≢true (sym (unlocked a e) ∙ h))
  no_lock (node n) a h (inl e) = absurd (false≢true (ap is_lock (sym e.2) ∙ h))
  no_lock (node n) a h (inr e) = absurd (false≢true (ap is_lock (sym e) ∙ h))
  no_lock (flag n) a h e = absurd (false≢true (ap is_lock (sym e.1) ∙ h))

  -- ---- what no write of another object changes
  module _ (q : Place → ℕ) where
    abbrev pub q' : Obj → Place → ℕ
    q' o = changed places q (write_of o q)

    keeps_root : (o : Obj) → ¬ (o ≡ meta) → (a : Place) → sort a ≡ 0 → q' o a ≡ q a
    unfolding Touches sort
    keeps_root meta n a e = absurd (n refl)
    keeps_root (node x) n a e = untouched (node x) q a no
      where
        no : ¬ (Touches (node x) a)
        no (inl g) = let z : sort a ≡ 4 = ap sort g.2 in absurd (omega (arith, e))
        no (inr g) = let z : sort a ≡ 6 = ap sort g in absurd (omega (arith, e))
    keeps_root (flag x) n a e = untouched (flag x) q a (λ g. let z : sort a ≡ 3 = ap sort g.1 in absurd (omega (arith, e)))

    -- a node's words, where both are at home at one server
    keeps_node : (s n : ℕ) → n / 1024 ≡ s → (o : Obj) → ¬ (o ≡ node n) → ((x : ℕ) → o ≡ node x → h ≡ true → x / 1024 ≡ s) → (i : ℕ) → q' o (Node (n % 1024) i) ≡ q (Node (n % 1024) i)
    unfolding Touches sort slot_in
    keeps_node s n at meta d f i = untouched meta q (Node (n % 1024) i) (λ e. let z : Same 4 0 = e in absurd (omega arith))
    keeps_node s n at (node x) d f i = untouched (node x) q (Node (n % 1024) i) no
      where
        no : ¬ (Touches (node x) (Node (n % 1024) i))
        no (inl g) = d (ap node (at_one_server s x n (f x refl g.0) at (sym (ap slot_in g.2))))
        no (inr e) = let z : Same 4 6 = ap sort e in absurd (omega arith)
    keeps_node s n at (flag x) d f i = untouched (flag x) q (Node (n % 1024) i) (λ g. let z : Same 4 3 = ap sort g.1 in absurd (omega arith))

    -- a table's entry
    keeps_table : (n : ℕ) (o : Obj) → ¬ (o ≡ node n) → q' o (Table (n / 1024) (n % 1024)) ≡ q (Table (n / 1024) (n % 1024))
    unfolding Touches sort slot_in
    keeps_table n meta d = untouched meta q (Table (n / 1024) (n % 1024)) (λ e. let z : Same 6 0 = e in absurd (omega arith))
    keeps_table n (node x) d = untouched (node x) q (Table (n / 1024) (n % 1024)) no
      where
        no : ¬ (Touches (node x) (Table (n / 1024) (n % 1024)))
        no (inl g) = let z : Same 6 4 = ap sort g.2 in absurd (omega arith)
        no (inr e) = d (ap node (let z : n / 1024 * 1024 + n % 1024 ≡ x / 1024 * 1024 + x % 1024 = ap slot_in e in omega arith))
    keeps_table n (flag x) d = untouched (flag x) q (Table (n / 1024) (n % 1024)) (λ g. let z : Same 6 3 = ap sort g.1 in absurd (omega arith))

    -- a flag's bit, where both are at home at one server
    keeps_bit : (s n : ℕ) → n / 1024 ≡ s → (o : Obj) → ¬ (o ≡ flag n) → ((x : ℕ) → o ≡ flag x → h ≡ true → x / 1024 ≡ s)
        → bit (q' o (Vector (n % 1024 / 64))) (n % 1024 % 64) ≡ bit (q (Vector (n % 1024 / 64))) (n % 1024 % 64)
    unfolding Touches sort changed flag_step slot_in
    keeps_bit s n at meta d f = ap (λ (x : ℕ). bit x (n % 1024 % 64)) (untouched meta q (Vector (n % 1024 / 64)) (λ e. let z : Same 3 0 = e in absurd (omega arith)))
    keeps_bit s n at (node x) d f = ap (λ (x : ℕ). bit x (n % 1024 % 64)) (untouched (node x) q (Vector (n % 1024 / 64)) no)
      where
        no : ¬ (Touches (node x) (Vector (n % 1024 / 64)))
        no (inl g) = let z : Same 3 4 = ap sort g.2 in absurd (omega arith)
        no (inr e) = let z : Same 3 6 = ap sort e in absurd (omega arith)
    keeps_bit s n at (flag x) d f = go h refl
      where
        go : (y : Bool) → h ≡ y → bit (changed places q (cond y (flag_step (named x) t q) []) (Vector (n % 1024 / 64))) (n % 1024 % 64)
            ≡ bit (q (Vector (n % 1024 / 64))) (n % 1024 % 64)
        go false e = refl
        go true e = by_word (ℕ_discrete (n % 1024 / 64) (x % 1024 / 64))
          where
            differ : ¬ (x % 1024 ≡ n % 1024)
            differ z = d (ap flag (at_one_server s x n (f x refl e) at z))

            by_word : Dec (n % 1024 / 64 ≡ x % 1024 / 64)
                → bit (written places q (Vector (x % 1024 / 64)) (put_bit t (q (Vector (x % 1024 / 64))) (x % 1024 % 64)) (Vector (n % 1024 / 64))) (n % 1024 % 64)
                ≡ bit (q (Vector (n % 1024 / 64))) (n % 1024 % 64)
            by_word (no g) =
                ap (λ (v : ℕ). bit v (n % 1024 % 64))
                (written_other places place_again q (Vector (x % 1024 / 64)) (put_bit t (q (Vector (x % 1024 / 64))) (x % 1024 % 64)) (Vector (n % 1024 / 64)) (λ z. g (ap slot_in z)))
            by_word (yes g) =
                subst (λ (i : ℕ). bit (written places q (Vector (x % 1024 / 64)) (put_bit t (q (Vector (x % 1024 / 64))) (x % 1024 % 64)) (Vector i)) (n % 1024 % 64)
                ≡ bit (q (Vector i)) (n % 1024 % 64)) (sym g)
                (ap (λ (v : ℕ). bit v (n % 1024 % 64)) (written_same places q (Vector (x % 1024 / 64)) (put_bit t (q (Vector (x % 1024 / 64))) (x % 1024 % 64)))
                ∙ bit_put_other t (q (Vector (x % 1024 / 64))) (x % 1024 % 64) (n % 1024 % 64) (λ z. differ (omega arith)))

    -- ---- of another object
    module _ (s : ℕ) (o x : Obj) (here : AtHome s o) (d : ¬ (x ≡ o)) (there : h ≡ true → AtHome s x) where
      pub other_value : value_at k j slots (q' x) o ≡ value_at k j slots q o
      unfolding node_at sort
      other_value = go o x here d there
        where
          go : (o x : Obj) → AtHome s o → ¬ (x ≡ o) → (h ≡ true → AtHome s x) → value_at k j slots (q' x) o ≡ value_at k j slots q o
          go meta x at d f = ap₂ root (keeps_root x d Root refl) (keeps_root x d States refl)
          go (node n) x at d f =
              ap (λ (g : ℕ → ℕ). value_of (node n) (node_of (tab 33 g))) (fun_ext (keeps_node s n at x d (λ y e z. subst (AtHome s) e (f z))))
          go (flag n) x at d f = ap taken (keeps_bit s n at x d (λ y e z. subst (AtHome s) e (f z)))

      pub other_version : version_at k j slots (q' x) o ≡ version_at k j slots q o
      unfolding node_at sort
      other_version = go o x here d there
        where
          go : (o x : Obj) → AtHome s o → ¬ (x ≡ o) → (h ≡ true → AtHome s x) → version_at k j slots (q' x) o ≡ version_at k j slots q o
          go meta x at d f = keeps_root x d Version refl
          go (node n) x at d f =
              ap (λ (g : ℕ → ℕ). (node_of (tab 33 g)).version) (fun_ext (keeps_node s n at x d (λ y e z. subst (AtHome s) e (f z))))
          go (flag n) x at d f = refl

    pub other_table : (o x : Obj) → ¬ (x ≡ o) → table_at k j slots (q' x) o ≡ table_at k j slots q o
    unfolding sort
    other_table meta x d = keeps_root x d Version refl
    other_table (node n) x d = keeps_table n x d
    other_table (flag n) x d = refl

    -- ---- of the object itself
    own_node : h ≡ true → (n : ℕ) → node_at (q' (node n)) n ≡ r
    unfolding node_at word_in sort
    own_node e n =
        ap (λ (y : Bool). node_of (tab 33 (λ i. changed places q (cond y (node_puts n r) [] ++ cond b (table_puts n version) []) (Node (n % 1024) i)))) e
        ∙ ap (λ (g : ℕ → ℕ). node_of (tab 33 g)) (fun_ext words)
        ∙ ap node_of (tab_puts_same places place_again 33 (words_of r) q (Node (n % 1024)) (length_words r w) (λ i l z. ap word_in z))
        ∙ node_words r w
      where
        words : (i : ℕ) → changed places q (node_puts n r ++ cond b (table_puts n version) []) (Node (n % 1024) i) ≡ changed places q (node_puts n r) (Node (n % 1024) i)
        words i = ap (λ (f : Place → ℕ). f (Node (n % 1024) i)) (changed_append places (node_puts n r) (cond b (table_puts n version) []) q) ∙ table b
          where
            table : (y : Bool) → changed places (changed places q (node_puts n r)) (cond y (table_puts n version) []) (Node (n % 1024) i) ≡ changed places q (node_puts n r) (Node (n % 1024) i)
            table true = put_other places (changed places q (node_puts n r)) (Table (n / 1024) (n % 1024)) version (Node (n % 1024) i) (simp and-false)
            table false = nothing (changed places q (node_puts n r))
              where
                nothing : (f : Place → ℕ) → changed places f [] (Node (n % 1024) i) ≡ f (Node (n % 1024) i)
                nothing f = read_after places [] f (Node (n % 1024) i)

    -- the metadata's words
    abbrev meta_puts : List (Put Place)
    meta_puts = put Root first ∷ put Version version ∷ put States second ∷ []

    -- the value that it gets
    abbrev pub given_value : Obj → Val
    given_value o = by_object o (root first second) (λ n. value_of (node n) r) (λ n. taken t)

    pub own_value : (o : Obj) → h ≡ true → value_at k j slots (q' o) o ≡ given_value o
    unfolding metadata_step flag_step changed
    own_value meta e = ap₂ root (read_after places meta_puts q Root) (read_after places meta_puts q States)
    own_value (node n) e = ap (value_of (node n)) (own_node e n)
    own_value (flag n) e =
        ap (λ (y : Bool). taken (bit (changed places q (cond y (flag_step (named n) t q) []) (Vector (n % 1024 / 64))) (n % 1024 % 64))) e
        ∙ ap (λ (v : ℕ). taken (bit v (n % 1024 % 64))) (written_same places q (Vector (n % 1024 / 64)) (put_bit t (q (Vector (n % 1024 / 64))) (n % 1024 % 64)))
        ∙ ap taken (bit_put_same t (q (Vector (n % 1024 / 64))) (n % 1024 % 64))

    abbrev pub given_version : Obj → ℕ
    given_version o = by_object o version (λ n. r.version) (λ n. 0)

    pub own_version : (o : Obj) → h ≡ true → version_at k j slots (q' o) o ≡ given_version o
    unfolding metadata_step
    own_version meta e = read_after places meta_puts q Version
    own_version (node n) e = ap (λ (x : Record.Node). x.version) (own_node e n)
    own_version (flag n) e = refl

    abbrev pub given_table : Obj → ℕ
    given_table o = by_object o version (λ n. cond b version (table_at k j slots q (node n))) (λ n. 0)

    pub own_table : (o : Obj) → table_at k j slots (q' o) o ≡ given_table o
    unfolding metadata_step Touches sort
    own_table meta = read_after places meta_puts q Version
    own_table (flag n) = refl
    own_table (node n) =
        ap (λ (f : Place → ℕ). f (Table (n / 1024) (n % 1024))) (changed_append places (cond h (node_puts n r) []) (cond b (table_puts n version) []) q)
        ∙ table b (changed places q (cond h (node_puts n r) [])) before
      where
        before : changed places q (cond h (node_puts n r) []) (Table (n / 1024) (n % 1024)) ≡ q (Table (n / 1024) (n % 1024))
        before = go h
          where
            go : (y : Bool) → changed places q (cond y (node_puts n r) []) (Table (n / 1024) (n % 1024)) ≡ q (Table (n / 1024) (n % 1024))
            go true = puts_apart places (words_of r) q (Node (n % 1024)) (Table (n / 1024) (n % 1024)) (λ i. simp and-false)
            go false = read_after places [] q (Table (n / 1024) (n % 1024))

        table : (y : Bool) (f : Place → ℕ) → f (Table (n / 1024) (n % 1024)) ≡ q (Table (n / 1024) (n % 1024))
            → changed places f (cond y (table_puts n version) []) (Table (n / 1024) (n % 1024)) ≡ cond y version (q (Table (n / 1024) (n % 1024)))
        table true f e = only_one f
          where
            only_one : (f : Place → ℕ) → changed places f (table_puts n version) (Table (n / 1024) (n % 1024)) ≡ version
            only_one f = put_same places f (Table (n / 1024) (n % 1024)) version
        table false f e = read_after places [] f (Table (n / 1024) (n % 1024)) ∙ e
