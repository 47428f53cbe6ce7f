-- Values and the records that hold them: what is at hand can be stored, and what can be stored is read back. N: the names of the store.
use Rattle.std.specs.Prelude.{◌≡◌, Bool, false, cond, ◌&&◌, [], ◌∷◌, ◌⊎◌, ℕ, zero, suc, ◌≤◌, eqb, ltb, length}
use Rattle.std.proofs.Math.Path.{refl, subst}
use Rattle.std.proofs.Common.{sym, ◌∙◌, inl, inr, arith}
use Rattle.std.proofs.Math.Bool.{true}
use Rattle.std.proofs.Math.Option.{Option, some}
use Rattle.std.proofs.Math.Dec.{leb}
use Rattle.base.specs.Test.{and_both, one_if}
use Rattle.plans.specs.Walk.{Every}
use Rattle.nodes.specs.declared.node.Node.{Node}
use Rattle.nodes.specs.Found.{Found}
use Rattle.std.specs.Prelude.{Some, None}
use Rattle.nodes.specs.Lists.{pad}
use Rattle.nodes.specs.Node.{keys_of, slots_of, made}
use Rattle.nodes.proofs.Laws.Node.{length_keysOf, length_slotsOf, keys_made, slots_made, extra_le}
use Rattle.nodes.specs.Range.{node_in_range}
use Rattle.nodes.specs.States.{states_fit, metadata_fits}
use Rattle.nodes.proofs.Laws.Range.{range_count, range_cases}
use Rattle.nodes.proofs.Laws.Stored.{Sized, made_sized}
use Rattle.operations.specs.Object.{Obj, meta, node, flag, object, Val, root, body, taken, flags}
use Rattle.operations.proofs.Laws.Storable.{Shape, Storable, every_any}
use Rattle.operations.proofs.Laws.Storing.{Names}
use Rattle.client.specs.declared.part.Set.TheVariants.{Reads, Writes}
use Rattle.client.specs.Layout.{ClientWord, op_number, op_key, op_value, op_server}
use Rattle.client.specs.Record.{number, first_slot, second_slot, value_of, single, metadata, record_of, in_store, last_version, record_in_range}
use Rattle.client.specs.Sets.{find}
use Rattle.client.specs.Fits.{migrate_fits, list_fits, op_fits}
use Rattle.client.specs.Laws.Ranges.{client_fits, fits_field}
use Rattle.client.specs.Have.{or_copied, or_read, source, have}
use Rattle.client.specs.Work.{op_of, waiting}
use Rattle.demand.proofs.Laws.Numbers.{by_object, by_number_of}
use Rattle.demand.proofs.Laws.Shows.{T, InStore, SlotShown, CopiesShown}
use Rattle.demand.proofs.Laws.Placed.{record_sized}
use Rattle.demand.proofs.Laws.AtHand.{Had, had}
use Rattle.demand.proofs.Laws.Used.{copied_sized}
use Rattle.demand.proofs.Laws.InRange.{judged}
use Rattle.protocol.specs.Machine as P

-- ---- stored and read back
bit_back : (b : Bool) → value_of (flag 0) (single 0 (one_if b)) ≡ taken b
unfolding single made pad
bit_back true = refl
bit_back false = refl

pub read_back : (N : ℕ → Type 0) (o : Obj) (v : Val) → Storable N o v → value_of o (record_of 0 v) ≡ v
unfolding record_of single metadata made pad
read_back N meta (root r st) h = refl
read_back N (node n) (body k l ks vs) h = λ t. body k l (keys_made k l 0 ks vs t) (slots_made k l 0 ks vs h.beside t)
read_back N (flag n) (taken b) h = bit_back b
read_back N meta (body k l ks vs) h = absurd h
read_back N meta (taken b) h = absurd h
read_back N meta (flags fs) h = absurd h
read_back N (node n) (root r st) h = absurd h
read_back N (node n) (taken b) h = absurd h
read_back N (node n) (flags fs) h = absurd h
read_back N (flag n) (root r st) h = absurd h
read_back N (flag n) (body k l ks vs) h = absurd h
read_back N (flag n) (flags fs) h = absurd h

pub record_whole : (N : ℕ → Type 0) (o : Obj) (v : Val) → Storable N o v → Sized (record_of 0 v)
unfolding record_of single metadata
record_whole N o (root r st) h = made_sized 0 0 0 [] (r ∷ st ∷ []) (omega arith) (omega arith)
record_whole N o (taken b) h = made_sized 0 0 0 [] (one_if b ∷ []) (omega arith) (omega arith)
record_whole N o (flags fs) h = made_sized 0 0 0 [] [] (omega arith) (omega arith)
record_whole N (node n) (body k l ks vs) h = made_sized k l 0 ks vs h.few (omega (arith, h.few, h.beside, extra_le k))
record_whole N meta (body k l ks vs) h = absurd h
record_whole N (flag n) (body k l ks vs) h = absurd h

-- ---- what is at hand
pub source_whole : (u : ClientWord → ℕ) (x : ℕ) → Sized (source u x).node
unfolding source
source_whole u x = go (find u Writes x) (find u Reads x) refl
  where
    go : (w r : Found) → find u Reads x ≡ r → Sized (or_read u x w).node
    go (Some i) r e = record_sized u Writes i
    go None (Some i) e = subst (λ z. Sized (or_copied u x z).node) (sym e) (record_sized u Reads i)
    go None None e = subst (λ z. Sized (or_copied u x z).node) (sym e) (copied_sized u x)

-- what an object's record points to is in the store
abbrev pub Points : (ℕ → Type 0) → Obj → Node → Type 0
Points N meta r = N (first_slot r)
Points N (node n) r = r.kind ≡ 2 → Every N (slots_of r)
Points N (flag n) r = Unit {0}

-- where names are not looked at
abbrev pub Any : ℕ → Type 0
Any n = Unit {0}

pub points_any : (o : Obj) (r : Node) → Points Any o r
points_any meta r = tt
points_any (node n) r = λ _. every_any Any (λ _. tt) (slots_of r)
points_any (flag n) r = tt

-- a record in range
pub record_storable : (N : ℕ → Type 0) (o : Obj) (r : Node) → Sized r → by_object o (states_fit (second_slot r)) (λ n. node_in_range r) (λ n. true) ≡ true → Points N o r → Storable N o (value_of o r)
unfolding keys_of
record_storable N meta r s h p = (p, h)
record_storable N (flag n) r s h p = tt
record_storable N (node n) r s h p =
    let c = range_count r h in
    let k = length_keysOf r s.keys c in
    let l = length_slotsOf r s.slots c in
    record { few = omega (arith, k); beside = omega (arith, k, l); shape = shaped k (range_cases r h); children = p }
  where
    shaped : length (keys_of r) ≡ r.count
        → ((r.kind ≡ 0) × (r.level ≡ 0) × (r.count ≡ 0)) ⊎ ((r.kind ≡ 1) × (r.level ≡ 0)) ⊎ ((r.kind ≡ 2) × (1 ≤ r.level) × (r.level ≤ 4))
        → Shape r.kind r.level (keys_of r)
    shaped k (inl q) = rw q.0 (q.1, k ∙ q.2)
    shaped k (inr (inl q)) = rw q.0 q.1
    shaped k (inr (inr q)) = rw q.0 q.1

-- what the waiting operation names
pub op_names : (N : ℕ → Type 0) (slots : ℕ) → ((n : ℕ) → in_store slots n ≡ true → N n) → (u : ClientWord → ℕ) → client_fits slots u ≡ true → Names N (waiting u)
unfolding op_fits
op_names N slots there u fit =
    go (u op_number) (fits_field slots u fit 1 (omega arith))
    (and_both (leb (u op_number) 7) (cond (eqb (u op_number) 6) (migrate_fits slots u) (cond (eqb (u op_number) 7) (list_fits u) true)) (judged slots u fit).0).1
  where
    go : (q : ℕ) → q ≤ 7 → cond (eqb q 6) (migrate_fits slots u) (cond (eqb q 7) (list_fits u) true) ≡ true → Names N (op_of q (u op_key) (u op_value) (u op_server))
    go zero l h = tt
    go (suc zero) l h = tt
    go (suc (suc zero)) l h = tt
    go (suc (suc (suc zero))) l h = tt
    go (suc (suc (suc (suc zero)))) l h = tt
    go (suc (suc (suc (suc (suc zero))))) l h = tt
    go (suc (suc (suc (suc (suc (suc zero)))))) l h =
        there (u op_key) (and_both (in_store slots (u op_key)) (ltb (u op_server) 8) h).0
    go (suc (suc (suc (suc (suc (suc (suc q))))))) l h = tt

module _ (k j slots : ℕ) (al : slots ≤ 1024) (u : ClientWord → ℕ) (f : Obj → Option (P.Copy (T k j slots))) (copies : CopiesShown k j slots u f) (fit : client_fits slots u ≡ true) (y : P.Slot (T k j slots)) (shown : SlotShown k j slots u y) where
  pub have_storable : (N : ℕ → Type 0) → ((o : Obj) (v : Val) → Had k j slots al u f copies fit y shown o v → Points N o (source u (number o)).node)
      → (o : Obj) (v : Val) → have slots u (object o) ≡ some v → Storable N o v
  unfolding record_in_range metadata_fits
  have_storable N points o v e =
      let h = had k j slots al u f copies fit y shown o v e in
      let r = (source u (number o)).node in
      subst (Storable N o) (sym h.value_as) (record_storable N o r (source_whole u (number o)) (ranged o r h.in_store h.fitting) (points o v h))
    where
      ranged : (o : Obj) (r : Node) → InStore k j slots o → record_in_range slots (number o) r ≡ true → by_object o (states_fit (second_slot r)) (λ n. node_in_range r) (λ n. true) ≡ true
      ranged o r i q = by o (sym (by_number_of slots al o i (metadata_fits slots (first_slot r) (second_slot r) r.version) (λ n. node_in_range r) (λ n. leb (first_slot r) 1)) ∙ q)
        where
          by : (o : Obj) → by_object o (metadata_fits slots (first_slot r) (second_slot r) r.version) (λ n. node_in_range r) (λ n. leb (first_slot r) 1) ≡ true
              → by_object o (states_fit (second_slot r)) (λ n. node_in_range r) (λ n. true) ≡ true
          by meta h =
              let f = and_both (in_store slots (first_slot r)) (leb r.version last_version && states_fit (second_slot r)) h in
              (and_both (leb r.version last_version) (states_fit (second_slot r)) f.1).1
          by (node n) h = h
          by (flag n) h = refl
