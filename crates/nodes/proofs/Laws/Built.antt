-- What the functions on nodes build is what their definitions say.
use Rattle.std.specs.Prelude.{ℕ, ◌+◌, ◌-◌, ◌≤◌, ◌<◌, ◌≡◌, refl, List, [], ◌∷◌, ◌++◌, take, drop, get_or, set}
use Rattle.std.proofs.Math.Path.{sym, ap}
use Rattle.std.proofs.Common.{◌∙◌, append_assoc, length-append, length-set, length-take-le, get_or-take}
use native.Mathlib.Omega.{arith}
use Rattle.std.proofs.Math.ListN.{length, length-drop}
use Rattle.std.proofs.Math.Seq.{take-take}
use Rattle.nodes.specs.declared.node.Node.{Node}
use Rattle.nodes.specs.declared.change.Wide.{Wide}
use Rattle.nodes.specs.declared.change.Halves.{Halves}
use Rattle.nodes.specs.Lists.{pad, insert_at, remove_at}
use Rattle.nodes.proofs.Laws.Lists.{drop_take, take_pad, set_pad, length_insert, length_remove}
use Rattle.nodes.specs.Node.{extra, keys_of, slots_of, made}
use Rattle.nodes.proofs.Laws.Node.{extra_le, length_keysOf, length_slotsOf, node_eq}
use Rattle.nodes.specs.Change.{wide, wide_keys, wide_slots, put_in, without, take_out, with_version, with_key, with_slot, part, narrow, cut_at, joined_keys, join, merged, from_right, from_left, Cuttable}

wide_eq : (k l v : ℕ) {c d : ℕ} {ks ks' ss ss' : List ℕ} → c ≡ d → ks ≡ ks' → ss ≡ ss'
    → ◌≡◌ {A = Wide} (record { kind = k; level = l; version = v; count = c; keys = ks; slots = ss })
    (record { kind = k; level = l; version = v; count = d; keys = ks'; slots = ss' })
wide_eq k l v p q r = λ i. record { kind = k; level = l; version = v; count = p i; keys = q i; slots = r i }

halves_eq : {a a' b b' : Node} {s s' : ℕ} → a ≡ a' → b ≡ b' → s ≡ s'
    → ◌≡◌ {A = Halves} (record { left = a; right = b; sep = s }) (record { left = a'; right = b'; sep = s' })
halves_eq p q r = λ i. record { left = p i; right = q i; sep = r i }

module _ (n : Node) (lk : length n.keys ≡ 14) (ls : length n.slots ≡ 15) (h : n.count ≤ 14) where
  long : length (take n.count n.keys) ≡ n.count
  long = length-take-le n.count n.keys (omega arith)

  module _ (e : ℕ) (pe : e ≡ extra n.kind) where
    pub put_built : (at k s : ℕ) (ks ss : List ℕ) → at ≤ n.count
        → ks ≡ pad 32 (insert_at at k (take n.count n.keys))
        → ss ≡ pad 32 (insert_at (at + e) s (take (n.count + e) n.slots))
        → ◌≡◌ {A = Wide} (record { kind = n.kind; level = n.level; version = n.version; count = n.count + 1; keys = ks; slots = ss }) (put_in n at k s)
    unfolding put_in wide keys_of slots_of
    put_built at k s ks ss g pk ps =
        let c : n.count + 1 ≡ length (insert_at at k (take n.count n.keys)) =
        sym (length_insert at k (take n.count n.keys) (omega (arith, long)) ∙ ap (λ (m : ℕ). m + 1) long) in
        wide_eq n.kind n.level n.version c pk (rw (← pe) ps)

    pub without_built : (at : ℕ) (ks ss : List ℕ) → at < n.count
        → ks ≡ pad 32 (remove_at at (take n.count n.keys))
        → ss ≡ pad 32 (remove_at (at + e) (take (n.count + e) n.slots))
        → ◌≡◌ {A = Wide} (record { kind = n.kind; level = n.level; version = n.version; count = n.count - 1; keys = ks; slots = ss }) (without n at)
    unfolding without wide keys_of slots_of
    without_built at ks ss g pk ps =
        let c : n.count - 1 ≡ length (remove_at at (take n.count n.keys)) =
        sym (length_remove at (take n.count n.keys) (omega (arith, long)) ∙ ap (λ (m : ℕ). m - 1) long) in
        wide_eq n.kind n.level n.version c pk (rw (← pe) ps)

    pub version_built : (v : ℕ) (ks ss : List ℕ) → ks ≡ pad 14 (take n.count n.keys) → ss ≡ pad 15 (take (n.count + e) n.slots)
        → ◌≡◌ {A = Node} (record { kind = n.kind; level = n.level; version = v; count = n.count; keys = ks; slots = ss }) (with_version n v)
    unfolding with_version made keys_of slots_of
    version_built v ks ss pk ps = node_eq n.kind n.level v (sym long) pk (rw (← pe) ps)

  module _ (m : Node) (p : m ≡ with_version n n.version) where
    pub key_built : (i k : ℕ) → i < n.count
        → ◌≡◌ {A = Node} (record { kind = m.kind; level = m.level; version = m.version; count = m.count; keys = set m.keys i k; slots = m.slots }) (with_key n i k)
    unfolding with_key with_version made keys_of
    key_built i k g =
        let a : i < length (take n.count n.keys) = omega (arith, long) in
        rw (p, set_pad 14 (take n.count n.keys) i k a, length-set)

    pub slot_built : (i s : ℕ) → i < n.count + extra n.kind
        → ◌≡◌ {A = Node} (record { kind = m.kind; level = m.level; version = m.version; count = m.count; keys = m.keys; slots = set m.slots i s }) (with_slot n i s)
    unfolding with_slot with_version made
    slot_built i s g =
        let a : i < length (slots_of n) = omega (arith, length_slotsOf n ls h) in
        rw (p, set_pad 15 (slots_of n) i s a)

module _ (w : Wide) (lk : length w.keys ≡ 32) where
  pub part_built : (from count v e : ℕ) (ks ss : List ℕ) → from + count ≤ 31 → e ≡ extra w.kind
      → ks ≡ pad 14 (take count (drop from w.keys)) → ss ≡ pad 15 (take (count + e) (drop from w.slots))
      → ◌≡◌ {A = Node} (record { kind = w.kind; level = w.level; version = v; count = count; keys = ks; slots = ss }) (part w from count v)
  unfolding part made
  part_built from count v e ks ss h pe pk ps =
      let l : length (drop from w.keys) ≡ length w.keys - from = length-drop from w.keys in
      node_eq w.kind w.level v (sym (length-take-le count (drop from w.keys) (omega arith))) pk (rw (← pe) ps)

  pub cut_built : (i v e : ℕ) (a b : Node) → Cuttable w i → e ≡ extra w.kind → a ≡ part w 0 i w.version → b ≡ part w (i + e) (w.count - i - e) v
      → ◌≡◌ {A = Halves} (record { left = a; right = b; sep = get_or w.keys i 0 }) (cut_at w i v)
  unfolding cut_at part wide_keys wide_slots
  cut_built i v e a b pre pe p q =
      let m = w.count in
      let le : i ≤ m = omega (arith, pre.inside) in
      let le₂ : i + e ≤ m + e = omega arith in
      let a₁ : m - i - e ≡ m - (i + e) = omega arith in
      let a₂ : m - i - e + e ≡ m + e - (i + e) = omega (arith, pre.inside, extra_le w.kind) in
      halves_eq
      (p ∙ rw (← pe, take-take i m w.keys le, take-take (i + e) (m + e) w.slots le₂))
      (q ∙ rw (← pe, drop_take (i + e) m w.keys, drop_take (i + e) (m + e) w.slots, a₂, a₁))
      (sym (get_or-take m w.keys i 0 pre.inside))

pub length_joined : (a b : Node) (sep : ℕ) → length (keys_of a) ≡ a.count → length (keys_of b) ≡ b.count
    → length (joined_keys a sep b) ≡ a.count + extra a.kind + b.count
unfolding joined_keys
length_joined a b sep la lb =
    let o : length (take (extra a.kind) (sep ∷ [])) ≡ extra a.kind = length-take-le (extra a.kind) (sep ∷ []) (extra_le a.kind) in
    simp length-append (omega arith)

pub keys_fit : (l : List ℕ) (m : ℕ) → length l ≡ 14 → m ≤ 14 → 0 + m ≤ length l
keys_fit l m p h = omega arith

pub keys_joined : (a b : Node) (sep e : ℕ) (k r : List ℕ) → length a.keys ≡ 14 → (a.count ≤ 14) × (b.count ≤ 14) → e ≡ extra a.kind
    → k ≡ pad 32 (take a.count a.keys ++ take e (sep ∷ []))
    → r ≡ pad 32 (take (a.count + e) k ++ take b.count b.keys)
    → r ≡ pad 32 (joined_keys a sep b)
unfolding joined_keys keys_of
keys_joined a b sep e k r la pre pe p q =
    let front = take a.count a.keys ++ take e (sep ∷ []) in
    let t : length (take a.count a.keys) ≡ a.count = length-take-le a.count a.keys (omega arith) in
    let o : length (take e (sep ∷ [])) ≡ e = length-take-le e (sep ∷ []) (omega (arith, extra_le a.kind)) in
    let l : length front ≡ a.count + e = simp length-append (omega arith) in
    rw (q, p, take_pad 32 front (a.count + e) l, append_assoc, pe)

pub join_built : (a b : Node) (sep e f : ℕ) (ks ss : List ℕ) → length a.keys ≡ 14 → length b.keys ≡ 14 → (a.count ≤ 14) × (b.count ≤ 14)
    → e ≡ extra a.kind → f ≡ extra b.kind
    → ks ≡ pad 32 (joined_keys a sep b)
    → ss ≡ pad 32 (take (a.count + e) a.slots ++ take (b.count + f) b.slots)
    → ◌≡◌ {A = Wide} (record { kind = a.kind; level = a.level; version = a.version; count = a.count + e + b.count; keys = ks; slots = ss }) (join a sep b)
unfolding join wide slots_of
join_built a b sep e f ks ss la lb pre pe pf p q =
    let c : a.count + e + b.count ≡ length (joined_keys a sep b) = omega (arith, length_joined a b sep (length_keysOf a la pre.0) (length_keysOf b lb pre.1)) in
    wide_eq a.kind a.level a.version c p (rw (← pe, ← pf) q)

-- ---- what was made wide is read back, and made narrow again
pub wide_keys_made : (k l v : ℕ) (ks ss : List ℕ) → wide_keys (wide k l v ks ss) ≡ ks
unfolding wide_keys wide
wide_keys_made k l v ks ss = take_pad 32 ks (length ks) refl

pub wide_slots_made : (k l v : ℕ) (ks ss : List ℕ) → length ss ≡ length ks + extra k → wide_slots (wide k l v ks ss) ≡ ss
unfolding wide_slots wide
wide_slots_made k l v ks ss e = take_pad 32 ss (length ks + extra k) e

narrow_wide : (k l v : ℕ) (ks ss : List ℕ) → length ss ≡ length ks + extra k → narrow (wide k l v ks ss) ≡ made k l v ks ss
unfolding narrow wide wide_keys wide_slots
narrow_wide k l v ks ss e = rw (take_pad 32 ks (length ks) refl, take_pad 32 ss (length ks + extra k) e)

-- ---- one function after another
pub take_out_is : (n r : Node) (w : Wide) (at : ℕ) → length n.keys ≡ 14 → length n.slots ≡ 15 → (n.count ≤ 14) × (at < n.count) → w ≡ without n at → r ≡ narrow w
    → r ≡ take_out n at
unfolding take_out without
take_out_is n r w at lk ls pre p q =
    let a : length (remove_at at (keys_of n)) ≡ length (keys_of n) - 1 = length_remove at (keys_of n) (omega (arith, length_keysOf n lk pre.0)) in
    let b : length (remove_at (at + extra n.kind) (slots_of n)) ≡ length (slots_of n) - 1 =
    length_remove (at + extra n.kind) (slots_of n) (omega (arith, length_slotsOf n ls pre.0)) in
    let e : length (remove_at (at + extra n.kind) (slots_of n)) ≡ length (remove_at at (keys_of n)) + extra n.kind =
    omega (arith, length_keysOf n lk pre.0, length_slotsOf n ls pre.0) in
    rw (q, p) (narrow_wide n.kind n.level n.version (remove_at at (keys_of n)) (remove_at (at + extra n.kind) (slots_of n)) e)

module _ (a b : Node) (w : Wide) (sep : ℕ) (p : w ≡ join a sep b) where
  pub merged_is : (r : Node) → r ≡ narrow w → r ≡ merged a sep b
  unfolding merged
  merged_is r q = rw (q, p)

  pub right_moved : (r : Halves) → r ≡ cut_at w (a.count + 1) b.version → r ≡ from_right a sep b
  unfolding from_right
  right_moved r q = rw (q, p)

  pub left_moved : (r : Halves) → r ≡ cut_at w (a.count - 1) b.version → r ≡ from_left a sep b
  unfolding from_left
  left_moved r q = rw (q, p)
