-- WORK THAT FETCHES: what is checked at the server is in range, and what is handed over is sound.
use Rattle.std.specs.Prelude.{◌≡◌, Bool, cond, ◌&&◌, List, [], map, leb, ltb, length}
use Rattle.std.proofs.Math.Path.{refl, subst}
use Rattle.std.proofs.Common.{ap, sym, ◌∙◌, inl, arith, le-leb, lt-ltb, ltb-true}
use Rattle.std.proofs.Math.Bool.{true, false}
use Rattle.std.proofs.lemmas.Bool.{false≢true, not-false}
use Rattle.std.proofs.Math.Option.{none}
use Prim.Native.Nat.{ℕ, suc, ◌+◌, ◌-◌, ◌%◌, ◌≤◌, ◌<◌, Fin}
use Rattle.std.proofs.Math.Dec.{eqb}
use Rattle.base.specs.Test.{and_both}
use Rattle.layout.specs.Space.{Put, changed, tab}
use Rattle.layout.specs.Step.{and_then}
use Rattle.layout.proofs.Laws.Step.{changed_append}
use Rattle.nodes.specs.declared.node.Node.{Node}
use Rattle.nodes.specs.Stored.{node_of}
use Rattle.operations.specs.Object.{Obj, meta, node, flag, Ask, object, vector, fetched}
use Rattle.operations.proofs.Laws.Storable.{every_append}
use Rattle.server.specs.declared.lock.Use.TheVariants.{Fetch}
use Rattle.nodes.specs.Object.{object_of}
use Rattle.server.specs.Check.{can_check, held, checked, finding_number}
use Rattle.server.specs.HandOut.{metadata_at, metadata_sound, vector_at}
use Rattle.client.specs.declared.part.Set.TheVariants.{Reads}
use Rattle.client.specs.Layout.{ClientWord, client_words, phase, reads_count}
use Rattle.client.specs.Record.{number, object_in_store, number_in_store, node_fits}
use Rattle.client.specs.Sets.{count, record_at, number_at}
use Rattle.client.specs.Items.{inner}
use Rattle.client.specs.Vectors.{vector_fits}
use Rattle.client.specs.Laws.Ranges.{client_fits}
use Rattle.client.specs.Have.{copied, have, bad_vector, broken}
use Rattle.client.specs.Participants.{at_home}
use Rattle.client.specs.Work.{walked, worked, new}
use Rattle.client.specs.Answered.{used_enter}
use Rattle.client.specs.Fetched.{fetched_node, fetched_vector}
use Rattle.steps.specs.declared.sizes.Sizes.{Sizes}
use Rattle.steps.specs.declared.step.Step.{Step}
use Rattle.steps.specs.declared.outcome.Outcome.{Outcome}
use Rattle.steps.specs.declared.outcome.Outcome.TheVariants.{Fetched}
use Rattle.steps.specs.Whole.{Address}
use Rattle.steps.specs.Judge.{lock_fits}
use Rattle.steps.specs.Uses.{Item, item_of, read_item, read_items, used_items, deciding}
use Rattle.steps.specs.Servers.{there, metadata_source}
use Rattle.steps.specs.Steps.{Did, did, handed, full, fetch_object, hand_over, fetch_items, fetch_reason, fetch_finding, Wanted, node_at, checked_fetch, fetch_from}
use Rattle.steps.proofs.Laws.Stores.{client_of, server_of}
use Rattle.demand.proofs.Laws.Lacking.{asked, lacks_object}
use Rattle.demand.specs.Ledger.{Ledger}
use Rattle.demand.proofs.Laws.Members.{kept_home, name_server}
use Rattle.demand.proofs.Laws.Numbers.{obj_of, as_flag, number_obj, store_obj, name_lt, object_number, number_inside}
use Rattle.demand.proofs.Laws.Ran.{all_used}
use Rattle.demand.proofs.Laws.Shows.{T, InStore, lock_kept, Related}
use Rattle.demand.proofs.Laws.Store.{keeps}
use Rattle.demand.proofs.Laws.Turns.{one_of, store}
use Rattle.demand.proofs.Laws.Used.{after_used}
use Rattle.ranges.specs.Laws.Sound.{Sound, PartSound, SoundStore}
use Rattle.ranges.proofs.Laws.Checks.{metadata_judged, fetch_judged, mark_judged, deciding_judged}
use Rattle.ranges.proofs.Laws.Lists.{every_map, every_each}
use Rattle.ranges.proofs.Laws.Sets.{part_fits, copied_sound, AllCopied}
use Rattle.ranges.proofs.Laws.Judged.{kind_judged}
use Rattle.ranges.proofs.Laws.Attended.{source_there}
use Rattle.ranges.proofs.Laws.Hand.{used_copied}
use Rattle.ranges.proofs.Laws.Entries.{object_sound}
use Rattle.ranges.proofs.Laws.Part.{used_part, meta_part, node_part, vector_part}
use Rattle.ranges.proofs.Laws.Locks.{early_stored}
use Rattle.ranges.proofs.Laws.Held.{number_judged}
use Rattle.ranges.proofs.Laws.Whole.{by_10, accepted, Kept, if_kept, finding_kept, client_sound}
use Rattle.ranges.proofs.Laws.Undecided.{abort_kept}
use Rattle.nodes.specs.Name as N
use Rattle.protocol.specs.Machine as P
use Rattle.client.specs.Run as Run
use Rattle.client.specs.Work as Work
use Rattle.steps.specs.Steps as Steps
use Rattle.demand.proofs.Laws.Fetches as F

module _ (k j slots : ℕ) (al : slots ≤ 1024) (few : suc j ≤ 16) (m : Address → ℕ) (S : SoundStore k j slots m) (L : Ledger) (M : P.Machine (T k j slots)) (R : Related k j slots m L M) (c : Fin (suc j)) (now : client_of m c.0 phase ≡ 1) where
  abbrev z : Sizes
  z = store k j slots

  abbrev Fine : Did → Type 0
  Fine = Kept k j slots m

  abbrev u : ClientWord → ℕ
  u = client_of m c.0

  abbrev part : PartSound slots u
  part = S.parts c

  fit : client_fits slots u ≡ true
  fit = part_fits slots u part

  -- what is lacking doesn't depend on the step's words
  abbrev n : Step
  n = record { kind = 0; client = c.0; op = 0; key = 0; value = 0; server = 0 }

  abbrev us : List ℕ
  us = (walked slots u).used

  -- ---- FETCH
  module _ (a : Ask) (e : worked slots u ≡ Work.fetches a) where
    lacking : (have slots u a ≡ none) × (us ≡ all_used (new u) (asked slots u) []) × (length us ≤ 96 - u reads_count)
    lacking = F.walk k j slots al few m L M c R fit now n refl [] a e

    all_copied : AllCopied slots u us
    all_copied = used_copied k j slots al u part (M.copy c) (R.clients c).copies (M.slots c) (R.clients c).slot us lacking.1

    abbrev v : ClientWord → ℕ
    v = after_used u us

    used : PartSound slots v
    used = used_part slots u part us all_copied

    -- what is checked at a server is in range
    module _ (s : Fin 8) where
      -- a flag is checked at home
      flag_home : (n : ℕ) → InStore k j slots (flag n) → (b : Bool) → can_check s.0 (object_of (number (flag n))) b ≡ true → keeps k j slots s (flag n) ≡ true
      unfolding can_check at_home
      flag_home n hi b h =
          kept_home k j slots al s (flag n) hi ∙ as_flag true (λ i. eqb (N.server_of i) s.0) (λ i. eqb (N.server_of i) s.0) n
          ∙ subst (λ o. can_check s.0 o b ≡ true) (object_number slots al (flag n) hi) h

      -- what is found of an object that was read, or is in use, is no refusal
      abbrev Passes : Item → Type 0
      Passes i = eqb (fetch_reason z m c.0 us s.0 i) 10 ≡ false

      at_server : (x : ℕ) (r : Node) → number_in_store slots x ≡ true → Sound slots x r → Passes (item_of u x r)
      unfolding item_of
      at_server x r h sound = rw (kind_judged slots x r sound) (go (can_check s.0 (object_of x) (inner x r)) refl)
        where
          found : ℕ
          found = finding_number (checked (object_of x) (inner x r) (item_of u x r).mark c.0 Fetch (server_of m s.0))

          kept : can_check s.0 (object_of x) (inner x r) ≡ true → (o : Obj) → obj_of x ≡ o → lock_kept k j slots (server_of m s.0) s o ≡ true
          kept b meta q = refl
          kept b (node n) q = refl
          kept b (flag n) q =
              flag_home n (sym (ap (object_in_store slots) q) ∙ sym (store_obj slots x) ∙ h) (inner x r)
              (subst (λ (y : ℕ). can_check s.0 (object_of y) (inner x r) ≡ true) (sym (number_obj x) ∙ ap number q) b)

          go : (b : Bool) → can_check s.0 (object_of x) (inner x r) ≡ b → eqb (cond b (cond (lock_fits z m s.0 x) found 10) 0) 10 ≡ false
          go false e = refl
          go true e =
              rw (number_judged k j slots few m S s x h (kept e (obj_of x) refl))
              (fetch_judged slots s.0 (server_of m s.0) (S.servers s) x (inner x r) (item_of u x r).mark c.0 Fetch h
              (mark_judged slots u x r sound) e)

      found_judged : eqb (deciding (map (fetch_finding z m c.0 us s.0) (fetch_items z m c.0 us))) 10 ≡ false
      unfolding read_items used_items number_at
      found_judged =
          deciding_judged (map (fetch_finding z m c.0 us s.0) (fetch_items z m c.0 us))
          (every_map Passes (λ f. eqb f.1 10 ≡ false) (fetch_finding z m c.0 us s.0) (λ i h. h) (fetch_items z m c.0 us)
          (every_append Passes (read_items u) (used_items u us)
          (every_each Passes (count u Reads) (read_item u) (λ i l. let I = part.sets.read i l in at_server (number_at u Reads i) (record_at u Reads i) I.inside I.sound))
          (every_map _ Passes (λ x. item_of u x (copied u x).node)
          (λ x h. at_server x (copied u x).node h.0 (copied_sound slots u part.copies x h.1)) us all_copied)))

      -- what is handed over, once the copies in use have become items
      handed_kept : (o : Outcome) → by_10 o ≡ false → (g : (ClientWord → ℕ) → List (Put ClientWord))
          → PartSound slots (changed client_words v (g v)) → Fine (did o (handed z m c.0 us g))
      unfolding and_then
      handed_kept o h g Q = record {
        passes = accepted o h;
        sound = client_sound k j slots m S c (and_then client_words (used_enter us) g u)
            (subst (PartSound slots) (sym (changed_append client_words (used_enter us u) (g v) u)) Q)
            (early_stored k j slots m c.0 (and_then client_words (used_enter us) g u) S.locks (omega (arith, now)));
      }

      aborts : (y : ℕ) → Fine (Steps.abort z m c.0 y us)
      aborts y = abort_kept k j slots m S c al few L M R (inl now) y us

      object_kept : (x p q : ℕ) (ok : Bool) (g : (ClientWord → ℕ) → List (Put ClientWord)) → number_in_store slots x ≡ true → x ≤ 8192 → ok ≡ true
          → PartSound slots (changed client_words v (g v)) → Fine (fetch_object z m c.0 us s.0 x (Fetched p q) ok g)
      unfolding obj_of
      object_kept x p q ok g hi l fine Q =
          if_kept k j slots m (lock_fits z m s.0 x) _ (number_judged k j slots few m S s x hi (lock_there x l))
          (one_of Fine (held (object_of x) c.0 Fetch (server_of m s.0)) _ _ (λ _. aborts 2)
          (λ _. one_of Fine (full z m c.0 us) _ _ (λ _. aborts 4) (λ _. if_kept k j slots m ok _ fine (handed_kept (Fetched p q) refl g Q))))
        where
          lock_there : (x : ℕ) → x ≤ 8192 → lock_kept k j slots (server_of m s.0) s (obj_of x) ≡ true
          lock_there x l = go (eqb x 0) (leb x 8192) (le-leb x 8192 l)
            where
              go : (a b : Bool) → b ≡ true → lock_kept k j slots (server_of m s.0) s (cond a meta (cond b (node (x - 1)) (flag (x - 8193)))) ≡ true
              go true b h = refl
              go false true h = refl
              go false false h = absurd (false≢true h)

      checked_kept : (w : Wanted) → w.from ≡ s.0 → Fine (hand_over z m c.0 us a w.from (Fetched w.what w.which))
          → Fine (checked_fetch z m c.0 us a w)
      checked_kept w h K =
          let found = deciding (map (fetch_finding z m c.0 us w.from) (fetch_items z m c.0 us)) in
          finding_kept k j slots m found (hand_over z m c.0 us a w.from (Fetched w.what w.which)) (λ y. Steps.abort z m c.0 y us)
          (subst (λ (t : ℕ). eqb (deciding (map (fetch_finding z m c.0 us t) (fetch_items z m c.0 us))) 10 ≡ false) (sym h) found_judged)
          (λ _. K) (aborts found)

    -- "A fetch .. at an absent server aborts with 1"
    from_kept : (w : Wanted) → w.from < 8 → Fine (hand_over z m c.0 us a w.from (Fetched w.what w.which)) → Fine (fetch_from z m c.0 us a w)
    from_kept w l K =
        let s : Fin 8 = (w.from, l) in
        if_kept k j slots m (ltb w.from 8) _ (lt-ltb w.from 8 l)
        (one_of Fine (there m w.from) _ _ (λ _. checked_kept s w refl K) (λ _. aborts s 1))

    -- ---- "Metadata is fetched from the first server not absent", "a node from its home, a vector from its server."
    meta_kept : (s : Fin 8) → Fine (hand_over z m c.0 us (object meta) s.0 (Fetched 0 0))
    unfolding number_in_store metadata_at
    meta_kept s =
        object_kept s 0 0 0 (metadata_sound slots (server_of m s.0)) _ refl (omega arith)
        (metadata_judged slots s.0 (server_of m s.0) (S.servers s))
        (meta_part slots v used _ _ _ (S.servers s).metadata)

    node_kept : (x : ℕ) → InStore k j slots (node x) → (s : Fin 8) → N.server_of x ≡ s.0 → Fine (hand_over z m c.0 us (object (node x)) s.0 (Fetched 1 x))
    unfolding node_at node_of tab node_fits
    node_kept x hi s home =
        let N = (S.servers s).nodes x hi home in
        object_kept s (1 + x) 1 x (node_fits slots (node_at (server_of m s.0) x)) (fetched_node x (node_at (server_of m s.0) x))
        (number_inside slots al (node x) hi)
        (omega (arith, name_lt slots al x hi)) (rw (N.range, N.children))
        (node_part slots v used x (node_at (server_of m s.0) x) (record { keys = refl; slots = refl })
        (object_sound slots al (node x) (node_at (server_of m s.0) x) hi N.range N.children) N)

    vector_kept : (s : Fin 8) (p q : ℕ) → Fine (did (Fetched p q) (handed z m c.0 us (fetched_vector s.0 (vector_at (server_of m s.0)))))
    vector_kept s p q =
        handed_kept s (Fetched p q) refl (fetched_vector s.0 (vector_at (server_of m s.0)))
        (vector_part slots v used s.0 (vector_at (server_of m s.0)) s.1)

    -- what is lacking is of the store
    lacks : ((walked slots u).how ≡ Run.lacks a) × (broken slots u a ≡ false)
    lacks = F.lacks k j slots al few m L M c R fit now n refl [] a e

    lacked : (o : Obj) → a ≡ object o → InStore k j slots o
    lacked o is_o =
        (lacks_object slots u o (subst (λ (x : Ask). have slots u x ≡ none) is_o lacking.0)
        (subst (λ (x : Ask). broken slots u x ≡ false) is_o lacks.1)).inside

    server_there : (s : ℕ) → bad_vector slots u s ≡ false → s < 8
    server_there s h = ltb-true s 8 (and_both (ltb s 8) (vector_fits u s) (not-false (ltb s 8 && vector_fits u s) h)).0

  pub fetch_kept : (a : Ask) → worked slots u ≡ Work.fetches a → Fine (Steps.fetch z m c.0 us a)
  unfolding Steps.fetch broken metadata_source
  fetch_kept (object meta) e =
      let l = source_there k j slots al m L M R (c.0 % suc k) in from_kept (object meta) e _ l (meta_kept (object meta) e (metadata_source m z c.0, l))
  fetch_kept (object (node x)) e =
      let hi = lacked (object (node x)) e (node x) refl in
      let s : Fin 8 = (N.server_of x, name_server k j slots x hi) in
      from_kept (object (node x)) e _ s.1 (node_kept (object (node x)) e x hi s refl)
  fetch_kept (object (flag x)) e =
      let s : Fin 8 = (N.server_of x, name_server k j slots x (lacked (object (flag x)) e (flag x) refl)) in
      from_kept (object (flag x)) e _ s.1 (vector_kept (object (flag x)) e s 2 (N.server_of x))
  fetch_kept (vector s) e =
      let t : Fin 8 = (s, server_there (vector s) e s (lacks (vector s) e).1) in from_kept (vector s) e _ t.1 (vector_kept (vector s) e t 2 s)
  fetch_kept (fetched s) e =
      let t : Fin 8 = (s, server_there (fetched s) e s (lacks (fetched s) e).1) in from_kept (fetched s) e _ t.1 (vector_kept (fetched s) e t 2 s)
