-- How a lookup in a client's part comes to its answer.
use Rattle.std.specs.Prelude.{Bool, ◌&&◌, ◌||◌, not, List, ℕ, ◌+◌, ◌-◌, ◌/◌, ◌%◌, ◌≤◌, ◌<◌, ◌≡◌, eqb, leb, length, get_or}
use Rattle.std.proofs.Math.Bool.{true, false}
use Rattle.std.proofs.Math.Path.{refl, sym}
use Rattle.std.proofs.Common.{ap, ◌∙◌}
use native.Mathlib.Omega.{arith}
use borrow.Author.Tests.{eq-eqb, ne_eqb, le-leb, lt-leb, not-true, not-false}
use Rattle.memory.specs.Word.{view}
use Rattle.memory.specs.Bit.{bit}
use Rattle.layout.specs.Space.{at}
use Rattle.nodes.specs.Name.{server_of, slot_of, name_in_store}
use Rattle.nodes.specs.declared.node.Node.{Node}
use Rattle.nodes.specs.Found.{Found}
use Rattle.std.specs.Prelude.{Some, None}
use Rattle.nodes.specs.Stored.{node_at}
use Rattle.nodes.specs.Range.{node_in_range}
pub use Rattle.nodes.proofs.Laws.Found.{found_inside}
use Rattle.nodes.specs.States.{metadata_fits, states_fit}
use Rattle.nodes.specs.Lists.{pad}
use Rattle.nodes.specs.Node.{made}
use Rattle.base.specs.Test.{one_if}
use mir.Val.{bool_byte as from_bool}
use Rattle.client.specs.declared.answer.Have.{Have}
use Rattle.client.specs.declared.answer.Have.TheVariants as code
use Rattle.client.specs.declared.answer.Short.{Short}
use Rattle.client.specs.Layout.{ClientWord, client_words, client_block, field, item, vector_word, limit}
use Rattle.client.specs.declared.part.Set.TheVariants.{Reads, Writes, Copies}
use Rattle.client.specs.Sets.{held, record_at, find}
use Rattle.client.specs.Record.{first_slot, second_slot, single, metadata, record_in_range}
use Rattle.client.specs.Have.{How, Here, Copied, Lacking, Look, here, copy, lacking, known_as, how, is_found, is_copied, short_of, short_as, short, short_in, metadata_of, IsNode, source, copied_meta, copied_node, copied_flag, copied, copy_fits, node_usable, stand_usable, meta_usable, flag_usable, look_fits}
use Rattle.client.specs.Laws.Part.{record_there}

-- copies
module _ (m : ClientWord → ℕ) where
  module _ (q : ℕ) (e : q ≡ m (field 12)) where
    pub meta_lacking : q ≡ 0 → lacking ≡ copied_meta m
    unfolding copied_meta
    meta_lacking d = rw (← e, eq-eqb _ _ d)

    pub meta_there : (v x : ℕ) → (q ≡ 0 → ⊥) → v ≡ m (field 14) → x ≡ m (field 13) → copy (metadata v x q) ≡ copied_meta m
    unfolding copied_meta
    meta_there v x d a b = rw (← e, ne_eqb _ _ d, ← a, ← b)

  module _ (n s q : ℕ) (o : s ≡ server_of n) (e : q ≡ m (vector_word s 0)) where
    pub flag_lacking : q ≡ 0 → lacking ≡ copied_flag m n
    unfolding copied_flag
    flag_lacking d = rw (← o, ← e, eq-eqb _ _ d)

    pub flag_there : (k w v : ℕ) (b : Bool) → (q ≡ 0 → ⊥) → k ≡ slot_of n → w ≡ m (vector_word s (1 + k / 64)) → b ≡ bit w (k % 64) → v ≡ from_bool b → copy (single 0 v) ≡ copied_flag m n
    unfolding copied_flag
    flag_there k w v b d l a f h = rw (← o, ← e, ne_eqb _ _ d, ← l, ← a, ← f, h, from_is b)
      where
        from_is : (b : Bool) → from_bool b ≡ one_if b
        from_is true = refl
        from_is false = refl

  module _ (x : ℕ) (r : Look) where
    pub copied_0 : x ≡ 0 → r ≡ copied_meta m → r ≡ copied m x
    unfolding copied
    copied_0 e p = rw e p

    pub copied_1 : (x ≡ 0 → ⊥) → x ≤ 8192 → r ≡ copied_node m x → r ≡ copied m x
    unfolding copied
    copied_1 d h p = rw (ne_eqb _ _ d, le-leb _ _ h) p

    pub copied_2 : (x ≡ 0 → ⊥) → 8192 < x → r ≡ copied_flag m (x - 8193) → r ≡ copied m x
    unfolding copied
    copied_2 d h p = rw (ne_eqb _ _ d, lt-leb _ _ h) p

pub ruleset copied_exits = (copied_0, copied_1, copied_2)

module _ (m : ClientWord → ℕ) (r : Look) (x : ℕ) (g : Found) (e : g ≡ find m Copies x) where
  pub node_lacking : g ≡ None → r ≡ lacking → r ≡ copied_node m x
  unfolding copied_node
  node_lacking d p = rw (← e, d) p

  pub node_there : (i : ℕ) (n : Node) → g ≡ Some i → n ≡ record_at m Copies i → r ≡ copy n → r ≡ copied_node m x
  unfolding copied_node
  node_there i n d q p = rw (← e, d, ← q) p

module _ (b : List ℕ) (l : 7223 ≤ length b / 8) (x : ℕ) (g : Found) where
  -- where a copy stands
  pub node_stood : g ≡ find (held b) Copies x → (i a : ℕ) → i < limit Copies → g ≡ Some i → a ≡ at client_words client_block (item Copies i 1) → a + 33 ≤ 7223
      → copy (node_at (view b) a) ≡ copied_node (held b) x
  node_stood e i a h d p w = node_there (held b) (copy (node_at (view b) a)) x g e i (node_at (view b) a) d (record_there b Copies i a h p w l) refl

  -- where an object stands in the sets
  module _ (e : g ≡ find (held b) Writes x) where
    pub sets_written : (i a : ℕ) → i < limit Writes → g ≡ Some i → a ≡ at client_words client_block (item Writes i 1) → a + 33 ≤ 7223 → here (node_at (view b) a) ≡ source (held b) x
    unfolding source
    sets_written i a h d p w = rw (← e, d, record_there b Writes i a h p w l)

    module _ (f : Found) (q : g ≡ None) (o : f ≡ find (held b) Reads x) where
      pub sets_read : (i a : ℕ) → i < limit Reads → f ≡ Some i → a ≡ at client_words client_block (item Reads i 1) → a + 33 ≤ 7223 → here (node_at (view b) a) ≡ source (held b) x
      unfolding source
      sets_read i a h d p w = rw (← e, q, ← o, d, record_there b Reads i a h p w l)

      pub sets_neither : f ≡ None → source (held b) x ≡ copied (held b) x
      unfolding source
      sets_neither d = rw (← e, q, ← o, d)

pub ruleset node_copies = (node_lacking, node_stood, found_inside)

pub ruleset sets_exits = (sets_written, sets_read, sets_neither, found_inside)

-- a node in neither set
pub stands_copied : (m : ClientWord → ℕ) (x : ℕ) (r : Look) → IsNode x → source m x ≡ copied m x → r ≡ copied_node m x → r ≡ source m x
stands_copied m x r k a e = copied_1 m x r k.some k.most e ∙ sym a

-- the metadata and flags: the version and the value
pub short_here : (s : Short) (r : Node) (l : Look) → s ≡ short_of r → here r ≡ l → code.Here s ≡ short l
short_here s r l e h = rw (← h, e)

pub short_read : (n : Node) (v x y : ℕ) → v ≡ n.version → x ≡ get_or n.slots 0 0 → y ≡ get_or n.slots 1 0
    → ◌≡◌ {A = Have Short} (code.Here (record { version = v; value = x; states = y })) (short (here n))
short_read n v x y p q h = rw (p, q, h)

short_metadata : (s : Short) → short_of (metadata_of s) ≡ s
unfolding metadata made pad
short_metadata s = refl

pub short_single : (v : ℕ) → short_of (single 0 v) ≡ (let s : Short = record { version = 0; value = v; states = 0 } in s)
unfolding single made pad
short_single v = refl

module _ (m : ClientWord → ℕ) (x : ℕ) (a : source m x ≡ copied m x) where
  short_copied : (l : Look) → l ≡ copied m x → short l ≡ short (source m x)
  short_copied l e = ap short (e ∙ sym a)

  pub short_meta : (s : Short) → x ≡ 0 → copy (metadata_of s) ≡ copied_meta m → code.Copied s ≡ short (source m x)
  short_meta s z e = ap code.Copied (sym (short_metadata s)) ∙ short_copied (copy (metadata_of s)) (copied_0 m x (copy (metadata_of s)) z e)

  pub short_meta_lacking : x ≡ 0 → lacking ≡ copied_meta m → ◌≡◌ {A = Have Short} code.Lacking (short (source m x))
  short_meta_lacking z e = short_copied lacking (copied_0 m x lacking z e)

  module _ (n : ℕ) (z : x ≡ 8193 + n) where
    pub short_flag : (r : Have Short) → r ≡ short (copied_flag m n) → r ≡ short (source m x)
    short_flag r e =
        let d : x - 8193 ≡ n = omega arith in
        e ∙ short_copied (copied_flag m n) (copied_2 m x (copied_flag m n) (λ q. omega arith) (omega arith) (ap (copied_flag m) (sym d)))

    pub short_flag_copy : (v : ℕ) → copy (single 0 v) ≡ copied_flag m n → ◌≡◌ {A = Have Short} (code.Copied (record { version = 0; value = v; states = 0 })) (short (source m x))
    short_flag_copy v e = short_flag (code.Copied (record { version = 0; value = v; states = 0 })) (ap code.Copied (sym (short_single v)) ∙ ap short e)

    pub short_flag_lacking : lacking ≡ copied_flag m n → ◌≡◌ {A = Have Short} code.Lacking (short (source m x))
    short_flag_lacking e = short_flag code.Lacking (ap short e)

pub ruleset short_exits = (short_here, short_meta, short_meta_lacking, short_flag_copy, short_flag_lacking)

-- may what was found be used
module _ (h : How) (r : Node) (b : Bool) (p : b ≡ node_in_range r) where
  pub node_unfit : not b ≡ true → false ≡ node_usable h r
  unfolding node_usable
  node_unfit t = rw (← p, not-true b t)

  module _ (c : Bool) (t : not b ≡ false) (q : c ≡ is_copied h) where
    pub node_copy : (k : ℕ) → c ≡ true → k ≡ r.kind → eqb k 2 ≡ node_usable h r
    unfolding node_usable
    node_copy k u e = rw (← p, not-false b t, ← q, u, e)

    pub node_here : c ≡ false → true ≡ node_usable h r
    unfolding node_usable
    node_here u = rw (← p, not-false b t, ← q, u)

module _ (w : List ℕ) (at : ℕ) (b : Bool) (p : b ≡ node_in_range (node_at w at)) where
  pub stand_here : b ≡ stand_usable w (code.Here at)
  unfolding stand_usable
  stand_here = go b p
    where
      go : (c : Bool) → c ≡ node_in_range (node_at w at) → c ≡ stand_usable w (code.Here at)
      go true e = node_here Here (node_at w at) true e false refl refl refl
      go false e = node_unfit Here (node_at w at) false e refl

  pub stand_unfit : b ≡ false → false ≡ stand_usable w (code.Copied at)
  unfolding stand_usable
  stand_unfit t = node_unfit Copied (node_at w at) b p (rw t)

  pub stand_copy : (k : ℕ) → b ≡ true → k ≡ (node_at w at).kind → eqb k 2 ≡ stand_usable w (code.Copied at)
  unfolding stand_usable
  stand_copy k t e = node_copy Copied (node_at w at) b p true (rw t) refl k refl e

pub stand_lacking : (w : List ℕ) → false ≡ stand_usable w code.Lacking
unfolding stand_usable
stand_lacking w = refl

pub ruleset stand_exits = (stand_here, stand_unfit, stand_copy, stand_lacking)

and_true : (a : Bool) → (a && true) ≡ a
and_true true = refl
and_true false = refl

and_false : (a : Bool) → (a && false) ≡ false
and_false true = refl
and_false false = refl

module _ (m : ClientWord → ℕ) (n : ℕ) (h : How) (s : Short) where
  pub flag_wide : 1 < s.value → false ≡ flag_usable m n h s
  unfolding flag_usable
  flag_wide w = rw (lt-leb _ _ w)

  -- no copy, whatever its value
  pub flag_no_copy : (c : Bool) → c ≡ is_copied h → c ≡ false → leb s.value 1 ≡ flag_usable m n h s
  unfolding flag_usable
  flag_no_copy c q u = rw (← q, u) (sym (and_true (leb s.value 1)))

  module _ (c : Bool) (w : s.value ≤ 1) (q : c ≡ is_copied h) where
    pub flag_copy : (k y : ℕ) → c ≡ true → k ≡ server_of n → y ≡ m (vector_word k 0) → eqb y 1 ≡ flag_usable m n h s
    unfolding flag_usable
    flag_copy k y u o e = rw (le-leb _ _ w, ← q, u, ← o, ← e)

    pub flag_here : c ≡ false → true ≡ flag_usable m n h s
    flag_here u = sym (le-leb _ _ w) ∙ flag_no_copy c q u

pub ruleset flag_exits = (flag_wide, flag_copy, flag_here, flag_no_copy)

-- the numbers of no metadata: there is no server
pub meta_none : (slots : ℕ) → false ≡ meta_usable slots (short_in code.Lacking)
unfolding meta_usable metadata_fits states_fit
meta_none slots = sym (and_false (name_in_store slots 0))

never : true ≡ false → ⊥
never e = let z : ◌≡◌ {A = ℕ} 0 1 = cc in omega arith

-- so a plan may use it
module _ (slots : ℕ) (m : ClientWord → ℕ) where
  pub node_usable_is : (x : ℕ) (l : Look) → IsNode x → look_fits slots m x l ≡ node_usable l.how l.node
  unfolding look_fits record_in_range copy_fits node_usable
  node_usable_is x l k = rw (ne_eqb _ _ k.some, le-leb _ _ k.most)

  pub meta_usable_is : (l : Look) → look_fits slots m 0 l ≡ meta_usable slots (short_of l.node)
  unfolding look_fits record_in_range copy_fits meta_usable
  meta_usable_is l = go (metadata_fits slots (first_slot l.node) (second_slot l.node) l.node.version) (not (is_copied l.how))
    where
      go : (a b : Bool) → (a && (b || true)) ≡ a
      go false b = refl
      go true true = refl
      go true false = refl

  pub flag_usable_is : (n : ℕ) (l : Look) → look_fits slots m (8193 + n) l ≡ flag_usable m n l.how (short_of l.node)
  unfolding look_fits record_in_range copy_fits flag_usable
  flag_usable_is n l =
      let d : 8193 + n ≡ 0 → ⊥ = λ e. omega arith in
      let h : 8192 < 8193 + n = omega arith in
      let q : 8193 + n - 8193 ≡ n = omega arith in
      rw (ne_eqb _ _ d, lt-leb _ _ h, q)

  -- with the numbers that the code has of a record that is there
  pub meta_fits_is : (l : Look) → is_found l.how ≡ true → look_fits slots m 0 l ≡ meta_usable slots (short_in (short l))
  meta_fits_is l t = go l.how t
    where
      go : (h : How) → is_found h ≡ true → look_fits slots m 0 (known_as h l.node) ≡ meta_usable slots (short_in (short_as h l.node))
      go Here t = meta_usable_is (here l.node)
      go Copied t = meta_usable_is (copy l.node)
      go Lacking t = absurd (never (sym t))

  pub flag_fits_is : (n : ℕ) (l : Look) → is_found l.how ≡ true → look_fits slots m (8193 + n) l ≡ flag_usable m n (how (short l)) (short_in (short l))
  flag_fits_is n l t = go l.how t
    where
      go : (h : How) → is_found h ≡ true → look_fits slots m (8193 + n) (known_as h l.node) ≡ flag_usable m n (how (short_as h l.node)) (short_in (short_as h l.node))
      go Here t = flag_usable_is n (here l.node)
      go Copied t = flag_usable_is n (copy l.node)
      go Lacking t = absurd (never (sym t))
