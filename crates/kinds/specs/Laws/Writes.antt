-- Laws of the code that stores a write set at one server.
use Rattle.std.specs.Prelude.{◌≡◌, Bool, true, false, ◌&&◌, ◌||◌, List, ℕ, ◌+◌, ◌-◌, ◌≤◌, ◌<◌, eqb, ltb, length}
use Rattle.std.proofs.Math.Path.{refl, subst}
use Rattle.std.proofs.Common.{sym, ◌∙◌, add-one}
use native.Mathlib.Omega.{arith}
use borrow.Author.Tests.{eq-eqb, ne_eqb, le-leb, lt-leb, le-ltb, ltb-true}
use Rattle.base.specs.Test.{and_both}
use Rattle.base.proofs.Laws.Test.{or_neither}
use Rattle.memory.specs.Word.{view}
use Rattle.memory.proofs.Laws.Word.{view_length}
use Rattle.layout.specs.Space.{stored}
use Rattle.layout.specs.Step.{Does, silent, stepped}
use Rattle.layout.proofs.Laws.Step.{does_as}
use Rattle.layout.specs.Part.{over, in_part}
use Rattle.layout.specs.Sweep.{sweep}
use Rattle.layout.proofs.Laws.Sweep.{sweep_valid}
use Rattle.nodes.specs.declared.node.Node.{Node}
use Rattle.nodes.specs.Name.{server_of}
use Rattle.server.specs.declared.place.Place.{Place}
use Rattle.nodes.specs.Object.{object_of, named}
use Rattle.server.specs.Object.{Has}
use Rattle.server.specs.Store.{metadata_step, flag_step, home_step, table_step, node_step}
use Rattle.client.specs.declared.part.Set.TheVariants.{Reads, Writes}
use Rattle.client.specs.Layout.{ClientWord}
use Rattle.client.specs.Record.{first_slot, second_slot}
use Rattle.client.specs.Sets.{count, number_at, record_at, find}
use Rattle.client.specs.Items.{inner_before_after}
use Rattle.client.specs.Participants.{at_home}
use Rattle.client.specs.Drops.{version_of, next_version}
use Rattle.client.specs.Fits.{young, read_fits, version_fits, stored_record_fits, write_fits, writes_fit}
use Rattle.client.specs.Laws.Ranges.{all_at}
use Rattle.steps.specs.declared.sizes.Sizes.{Sizes}
use Rattle.steps.specs.Whole.{server, whole, block, words_for}
use Rattle.steps.specs.Steps.{store_write}
use Rattle.steps.proofs.Laws.Writes.{write_inside}
use Rattle.kinds.specs.Parts.{StoreIn}
use Rattle.kinds.specs.Judge.{of_client}
use Rattle.kinds.specs.Fits.{InSet}
use Rattle.kinds.specs.Locks.{Done}
use Rattle.kinds.specs.Laws.Locks.{Inside, done_as, done_then, clients_stay}
use Rattle.kinds.specs.Writes.{write_nth, write_step, stores_some, Storable, Writable, Storing, StoredNth, stores}
use Rattle.server.specs.Layout as Srv
use Rattle.kinds.specs.declared.writes.Write as code

pub same_write : (m : ClientWord → ℕ) (s i : ℕ) (p : Place → ℕ) → write_step s (write_nth m i) p ≡ store_write m s i p
unfolding write_step write_nth next_version
same_write m s i p = rw (add-one (version_of m (find m Reads (number_at m Writes i))))

pub storable_meta : (s : ℕ) (w : code.Write) → Storable s w → w.number ≡ 0 → w.read < 4294967295
unfolding at_home
storable_meta s w h e = h.low (omega arith) (rw (eq-eqb w.number 0 e))

pub storable_node : (s : ℕ) (w : code.Write) (b : Bool) → Storable s w → w.number ≤ 8192 → b ≡ stores_some s w → b ≡ true → w.read < 4294967295
storable_node s w b h l e t = h.low l (sym e ∙ t)

module _ (s : ℕ) (w : code.Write) (a : Bool) (p : a ≡ at_home s w.number) where
  pub some_home : a ≡ true → true ≡ stores_some s w
  some_home t = rw (← p, t)

  pub some_inner : a ≡ false → w.inner ≡ stores_some s w
  some_inner t = rw (← p, t)

-- ---- a write by value
pub write_made : (m : ClientWord → ℕ) (i x v : ℕ) (n : Node) (b : Bool) → x ≡ number_at m Writes i → n ≡ record_at m Writes i → v ≡ version_of m (find m Reads x)
    → b ≡ inner_before_after m x → ◌≡◌ {A = code.Write} (record { number = x; node = n; read = v; inner = b }) (write_nth m i)
unfolding write_nth
write_made m i x v n b e p q r = rw (q, r, p, e)

-- ---- stored in the server's part
module _ (n s : ℕ) (w : code.Write) (k : ℕ) (f : k ≡ first_slot w.node) (p p' : List ℕ) where
  pub meta_written : (st : ℕ) → w.number ≡ 0 → st ≡ second_slot w.node → Does Srv.places (Srv.server_block n) (metadata_step k st (w.read + 1)) silent p 0 p'
      → Does Srv.places (Srv.server_block n) (write_step s w) silent p 0 p'
  unfolding write_step
  meta_written st e q d = does_as Srv.places (Srv.server_block n) (metadata_step k st (w.read + 1)) (write_step s w) silent p 0 p' (sym (rw (eq-eqb w.number 0 e, ← f, ← q))) d

  pub flag_written : (b : Bool) → (w.number ≡ 0 → ⊥) → 8192 < w.number → b ≡ at_home s w.number → b ≡ true
      → Does Srv.places (Srv.server_block n) (flag_step (named (w.number - 8193)) (eqb k 1)) silent p 0 p' → Does Srv.places (Srv.server_block n) (write_step s w) silent p 0 p'
  unfolding write_step
  flag_written b e h q t d =
      does_as Srv.places (Srv.server_block n) (flag_step (named (w.number - 8193)) (eqb k 1)) (write_step s w) silent p 0 p'
      (sym (rw (ne_eqb w.number 0 e, lt-leb w.number 8192 h, ← q, t, ← f))) d

module _ (n s : ℕ) (w : code.Write) (p p' : List ℕ) where
  pub node_written : (w.number ≡ 0 → ⊥) → w.number ≤ 8192 → Does Srv.places (Srv.server_block n) (node_step s (named (w.number - 1)) w.node (w.read + 1) w.inner) silent p 0 p'
      → Does Srv.places (Srv.server_block n) (write_step s w) silent p 0 p'
  unfolding write_step
  node_written e h d =
      does_as Srv.places (Srv.server_block n) (node_step s (named (w.number - 1)) w.node (w.read + 1) w.inner) (write_step s w) silent p 0 p'
      (sym (rw (ne_eqb w.number 0 e, le-leb w.number 8192 h))) d

-- a node that the server stores nothing of
pub node_elsewhere : (n s : ℕ) (w : code.Write) (p : List ℕ) (b : Bool) → (w.number ≡ 0 → ⊥) → w.number ≤ 8192 → b ≡ stores_some s w → b ≡ false
    → Does Srv.places (Srv.server_block n) (write_step s w) silent p 0 p
unfolding write_step node_step home_step table_step at_home stepped stored
node_elsewhere n s w p b e h q t =
    let o = or_neither (at_home s w.number) w.inner (sym q ∙ t) in
    let away : eqb (server_of (w.number - 1)) s ≡ false = sym (rw (ne_eqb w.number 0 e, le-leb w.number 8192 h)) ∙ o.0 in
    record { answer = refl; words = rw (ne_eqb w.number 0 e, le-leb w.number 8192 h, away, o.1) }

pub flag_elsewhere : (n s : ℕ) (w : code.Write) (p : List ℕ) (b : Bool) → (w.number ≡ 0 → ⊥) → 8192 < w.number → b ≡ at_home s w.number → b ≡ false
    → Does Srv.places (Srv.server_block n) (write_step s w) silent p 0 p
unfolding write_step stepped stored
flag_elsewhere n s w p b e h q t = record { answer = refl; words = rw (ne_eqb w.number 0 e, lt-leb w.number 8192 h, ← q, t) }

pub ruleset write_exits = (storable_meta, storable_node, meta_written, flag_written, node_written, node_elsewhere, flag_elsewhere)

pub writable_has : (z : Sizes) (m : ClientWord → ℕ) (s i : ℕ) (t : code.Write) → Writable z m s i → t ≡ write_nth m i → Has z.slots (object_of t.number)
unfolding write_nth
writable_has z m s i t h e = subst (λ (u : code.Write). Has z.slots (object_of u.number)) (sym e) h.has

pub writable_stores : (z : Sizes) (m : ClientWord → ℕ) (s i : ℕ) (t : code.Write) → Writable z m s i → t ≡ write_nth m i → Storable s t
unfolding write_nth version_fits young
writable_stores z m s i t h e = subst (Storable s) (sym e) (record { low = λ l b. go l (sym (rw b) ∙ h.fits) })
  where
    x : ℕ
    x = number_at m Writes i

    go : x ≤ 8192 → (ltb 8192 x || ltb (version_of m (find m Reads x)) 4294967295) ≡ true → version_of m (find m Reads x) < 4294967295
    go l f = ltb-true (version_of m (find m Reads x)) 4294967295 (sym (rw (le-ltb 8192 x l)) ∙ f)

pub nth_stored : (z : Sizes) (c s i : ℕ) (w w' : List ℕ) (t : code.Write) → t ≡ write_nth (of_client z w c) i → Does whole (block z) (in_part (server s) (write_step s t)) silent w 0 w'
    → StoredNth z c s i w w'
unfolding StoredNth
nth_stored z c s i w w' t e d =
    done_as z s (write_step s (write_nth (of_client z w c) i)) (store_write (of_client z w c) s i) w w' (same_write (of_client z w c) s i)
    (subst (λ (u : code.Write). Done z s (write_step s u) w w') e d)

-- ---- the loop over the write set
unfoldable pub StoredUpto : Sizes → ℕ → ℕ → List ℕ → ℕ → List ℕ → Type 0
StoredUpto z c s w i w' = Done z s (sweep Srv.places (store_write (of_client z w c) s) i) w w'

pub writes_inside : (z : Sizes) (c s : ℕ) (w : List ℕ) (i : ℕ) → InSet z Writes (of_client z w c) → i ≤ count (of_client z w c) Writes → Inside z (sweep Srv.places (store_write (of_client z w c) s) i)
writes_inside z c s w i written h =
    record { all = λ u. sweep_valid Srv.places (Srv.server_block z.slots) (store_write (of_client z w c) s) i u (λ j v l. write_inside z.slots (of_client z w c) s j v (written j (omega arith))) }

module _ (z : Sizes) (c s : ℕ) where
  pub stored_none : (w : List ℕ) → StoredUpto z c s w 0 w
  unfolding StoredUpto stepped stored in_part over sweep
  stored_none w = record { answer = refl; words = refl }

  module _ (b₀ b : List ℕ) (n i : ℕ) (hold : StoreIn z (length b₀)) (storing : Storing z (view b₀) c s) (en : n ≡ count (of_client z (view b₀) c) Writes) (ok : s < 8) (l : i < n) (so : StoredUpto z c s (view b₀) i (view b)) where
    room : words_for z ≤ length (view b₀)
    room = omega (arith, hold.room, view_length b₀)

    stay : of_client z (view b) c ≡ of_client z (view b₀) c
    unfolding StoredUpto
    stay =
        clients_stay z s ok (sweep Srv.places (store_write (of_client z (view b₀) c) s) i) (view b₀) (view b) c room
        (writes_inside z c s (view b₀) i storing.written (omega arith)) so

    pub stored_writable : Writable z (of_client z (view b) c) s i
    unfolding writes_fit write_fits
    stored_writable =
        let m = of_client z (view b₀) c in
        let t = z.slots in
        let one = all_at (write_fits t m s) (count m Writes) i storing.fits (omega arith) in
        subst (λ (m : ClientWord → ℕ). Writable z m s i) (sym stay)
        (record {
          has = storing.written i (omega arith);
          fits = (and_both (stored_record_fits t m s i) (version_fits m s i) (and_both (read_fits m i) (stored_record_fits t m s i && version_fits m s i) one).1).1;
        })

    pub stored_next : (b' : List ℕ) → StoredNth z c s i (view b) (view b') → StoredUpto z c s (view b₀) (i + 1) (view b')
    unfolding StoredUpto StoredNth sweep
    stored_next b' d =
        let g = store_write (of_client z (view b₀) c) s in
        let d' : Done z s (g i) (view b) (view b') = subst (λ (m : ClientWord → ℕ). Done z s (store_write m s i) (view b) (view b')) stay d in
        subst (λ (j : ℕ). StoredUpto z c s (view b₀) j (view b')) (sym (add-one i))
        (done_then z s ok (sweep Srv.places g i) (g i) (view b₀) (view b) (view b') room (writes_inside z c s (view b₀) i storing.written (omega arith)) so d')

  pub stored_all : (n i : ℕ) (w w' : List ℕ) → i ≤ n → n ≤ i → n ≡ count (of_client z w c) Writes → StoredUpto z c s w i w' → Does whole (block z) (stores z c s) silent w 0 w'
  unfolding StoredUpto stores in_part
  stored_all n i w w' a b en d =
      let e : i ≡ count (of_client z w c) Writes = omega arith in
      does_as whole (block z) (in_part (server s) (sweep Srv.places (store_write (of_client z w c) s) i)) (stores z c s) silent w 0 w' (rw e) d

pub ruleset stored_exits = (writable_has, writable_stores, nth_stored)
