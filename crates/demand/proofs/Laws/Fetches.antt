-- WORK THAT FETCHES: "A work step that lacks an object fetches the first one lacking and does no more". The copies in use become items, and then
-- the object is one, or a vector's flags are copies; else the step is refused or aborts.
use Rattle.steps.specs.Output.{with_pairs}
use Rattle.std.specs.Prelude.{◌≡◌, Bool, ◌||◌, ◌⊎◌, ltb}
use Rattle.std.proofs.Math.Path.{refl, ap, sym, subst, fun_ext}
use Rattle.std.proofs.Common.{ap₂, ◌∙◌, arith}
use Rattle.std.proofs.Math.Bool.{true, false, cond}
use Rattle.std.proofs.lemmas.Bool.{false≢true}
use mathlib.Core.List.{List, [], ◌∷◌, map}
use Rattle.std.proofs.Math.Logic.{inl, inr}
use Rattle.std.proofs.Math.Option.{none, some, none-ne-some, some-injective}
use Prim.Native.Nat.{ℕ, suc, ◌+◌, ◌-◌, ◌≤◌, ◌<◌, Fin}
use Rattle.std.proofs.Math.Decide.{Fin-discrete}
use borrow.Author.Tests.{eqb-true, eq-eqb, leb-false, ltb-true}
use Rattle.std.proofs.Math.Dec.{eqb}
use Rattle.std.proofs.Math.ListN.{length}
use Rattle.base.proofs.Laws.Test.{or_cases}
use Rattle.base.proofs.Laws.Update.{upd_same}
use Rattle.layout.specs.Space.{Put, changed}
use Rattle.layout.specs.Step.{and_then}
use Rattle.layout.proofs.Laws.Step.{changed_append}
use Rattle.nodes.specs.declared.node.Node.{Node}
use Rattle.nodes.specs.Found.{Found}
use Rattle.std.specs.Prelude.{Some, None}
use Rattle.operations.specs.Object.{Obj, meta, node, flag, Ask, object, vector, fetched, states_of}
use Rattle.nodes.specs.States.{is_present}
use Rattle.operations.proofs.Laws.Seen.{Hint, hint_of}
use Rattle.protocol.specs.Lists.{Among}
use Rattle.protocol.proofs.Laws.Claim.{same_version}
use Rattle.protocol.proofs.Laws.Changed.{upd_none}
use Rattle.protocol.proofs.Laws.Hints.{objects}
use Rattle.protocol.specs.State.{opened, is_decided}
use Rattle.server.specs.declared.lock.Use.TheVariants.{Fetch}
use Rattle.nodes.specs.Object.{object_of}
use Rattle.server.specs.Check.{held}
use Rattle.server.specs.HandOut.{metadata_at, metadata_sound, vector_at}
use Rattle.client.specs.declared.part.Set.TheVariants.{Reads}
use Rattle.client.specs.Layout.{ClientWord, client_words, phase, reads_count}
use Rattle.client.specs.Record.{number, value_of, node_fits, kind_in_range}
use Rattle.client.specs.Sets.{count, record_at, find}
use Rattle.client.specs.Commit.{is_at}
use Rattle.client.specs.Items.{has}
use Rattle.client.specs.Laws.Ranges.{client_fits, fits_field}
use Rattle.client.specs.Have.{copied, have, broken}
use Rattle.client.specs.Participants.{at_home}
use Rattle.client.specs.Run.{among}
use Rattle.client.specs.Work.{walked, worked}
use Rattle.client.specs.Answered.{used_enter}
use Rattle.client.specs.Fetched.{fetched_meta, fetched_node, fetched_vector}
use Rattle.steps.specs.declared.sizes.Sizes.{Sizes}
use Rattle.steps.specs.declared.step.Step.{Step}
use Rattle.steps.specs.declared.outcome.Outcome.TheVariants.{Fetched, Aborted}
use Rattle.steps.specs.Whole.{Address, whole}
use Rattle.steps.specs.Servers.{there, metadata_source}
use Rattle.steps.specs.Judge.{lock_fits, abort_fits}
use Rattle.steps.specs.Uses.{deciding}
use Rattle.steps.specs.Steps.{Did, did, refuse, if_fit, by_finding, abort, aborting, handed, full, fetch_object, hand_over, fetch_items, fetch_finding, Wanted, wanted, node_at, checked_fetch, fetch_from, fetch}
use Rattle.steps.proofs.Laws.Stores.{client_of, server_of}
use Rattle.demand.specs.Ledger.{Ledger, clears, note}
use Rattle.demand.proofs.Laws.Store.{keeps, meaning}
use Rattle.demand.proofs.Laws.Stays.{Asks, gathered}
use Rattle.demand.proofs.Laws.Housed.{PlacedAt}
use Rattle.demand.proofs.Laws.Numbers.{as_node, name_lt}
use Rattle.demand.proofs.Laws.Shows.{phase_of, T, InStore, item_from, item_of, SlotShown, CopiesShown, Related}
use Rattle.demand.proofs.Laws.There.{there_same}
use Rattle.demand.proofs.Laws.Held.{found_at}
use Rattle.demand.proofs.Laws.Members.{server_is, kept_home, name_server}
use Rattle.demand.proofs.Laws.Checked.{none_found, found_same, among_more, among_later, among_each, among_image}
use Rattle.demand.proofs.Laws.Behind.{absent_has, has_absent}
use Rattle.demand.proofs.Laws.Entered.{found_written}
use Rattle.demand.proofs.Laws.Ran.{all_used}
use Rattle.demand.proofs.Laws.Used.{after_used, Entering, ItemsOf, item_known, servers, asked_orderly, lacking_orderly, copies_used, copies_stay}
use Rattle.demand.proofs.Laws.Turns.{store, Turns, abort_turns}
use Rattle.demand.proofs.Laws.Stage.{said_else, Stage, stage_turns}
use Rattle.demand.proofs.Laws.Lacking.{fetch_lacks, plan, asked, lacking, lacking_walk, Lacks, lacks_object, unused}
use Rattle.demand.proofs.Laws.Handed.{Unread, meta_handed, node_handed, vector_handed}
use Rattle.plans.proofs.Laws.Walk as W
use Rattle.nodes.specs.Name as N
use Rattle.operations.specs.Object as O
use Rattle.protocol.specs.Machine as P
use Rattle.protocol.specs.Moves as Mv
use Rattle.protocol.proofs.Laws.Work as PW
use Rattle.client.specs.Run as Run
use Rattle.client.specs.Work as Work
use Rattle.client.specs.Items as I
use Rattle.server.specs.Check as Chk
use Rattle.nodes.specs.declared.object.Object.TheVariants as object
use Rattle.server.specs.declared.place.Place.TheVariants as place
use Rattle.steps.specs.Uses as U

among_in : (x : ℕ) (us : List ℕ) → among x us ≡ true → Among x us
unfolding among Among
among_in x [] h = absurd (false≢true h)
among_in x (y ∷ us) h = go (or_cases (eqb y x) (among x us) h) (among_in x us)
  where
    go : (eqb y x ≡ true) ⊎ (among x us ≡ true) → (among x us ≡ true → Among x us) → (x ≡ y) ⊎ Among x us
    go (inl e) rec = inl (sym (eqb-true y x e))
    go (inr e) rec = inr (rec e)

module _ (k j slots : ℕ) (al : slots ≤ 1024) (few : suc j ≤ 16) (m : Address → ℕ) (L : Ledger) (M : P.Machine (T k j slots)) (c : Fin (suc j)) (R : Related k j slots m L M) (fit : client_fits slots (client_of m c.0) ≡ true) (now : client_of m c.0 phase ≡ 1) where
  abbrev u : ClientWord → ℕ
  u = client_of m c.0

  abbrev z : Sizes
  z = store k j slots

  abbrev us : List ℕ
  us = (walked slots u).used

  abbrev y : P.Slot (T k j slots)
  y = M.slots c

  abbrev shown : SlotShown k j slots u y
  shown = (R.clients c).slot

  abbrev copies : CopiesShown k j slots u (M.copy c)
  copies = (R.clients c).copies

  open_now : y.phase ≡ opened
  unfolding phase_of
  open_now = sym shown.phase_as ∙ ap phase_of now

  -- ---- the step refused, aborted, or one of these
  module _ (n : Step) (mine : n.client ≡ c.0) (lent : List ℕ) where
    abbrev Good : Did → Type 0
    Good d = Turns k j slots m (changed whole m d.stores) (note L n (with_pairs d.pairs lent) d.outcome) M c

    refused : Good (refuse 10)
    unfolding changed
    refused = record { machine = M; shows = R; values_same = refl; undecided = ap is_decided open_now; others = λ d h. refl }

    aborted : (x : ℕ) → Good (abort z m c.0 x us)
    unfolding abort
    aborted x = go (abort_fits z m c.0)
      where
        go : (b : Bool) → Good (if_fit b (did (Aborted x) (aborting z m c.0 us)))
        go true =
            subst (λ (d : ℕ). Turns k j slots m (changed whole m (aborting z m c.0 us)) (clears L d) M c) (sym mine)
            (abort_turns k j slots al few m L M c R fit us (inl now))
        go false = refused

    -- ---- what is lacking, and the copies in use
    module _ (a : Ask) (e : worked slots u ≡ Work.fetches a) where
      pub lacks : ((walked slots u).how ≡ Run.lacks a) × (broken slots u a ≡ false)
      lacks = fetch_lacks slots u a e

      pub walk : (have slots u a ≡ none) × (us ≡ all_used (Work.new u) (asked slots u) []) × (length us ≤ 96 - u reads_count)
      walk = lacking slots u a lacks.0

      -- vectors are no objects: any will do for the hint
      no_hint : Hint
      no_hint = record { copied = λ s. O.taken false; fetched_one = λ s. O.taken false }

      os : List Obj
      os = objects (hint_of no_hint) (asked slots u)

      pub is : List (P.Item (T k j slots))
      is = PW.absorb (T k j slots) (M.copy c) os y.items

      entered : Entering k j slots al u fit y shown (M.copy c) copies (all_used (Work.new u) (asked slots u) []) is × ItemsOf k j slots al u fit y shown (M.copy c) copies is
          (gathered slots (servers k j slots al u fit y shown (M.copy c) copies) [] (asked slots u))
      unfolding is os
      entered =
          copies_used k j slots al u fit y shown (M.copy c) copies no_hint (asked slots u) (W.used_had (plan slots u) (have slots u))
          (asked_orderly k j slots al u fit y shown (M.copy c) copies (Work.waiting u))
          (subst (λ (l : List ℕ). u reads_count + length l ≤ 96) walk.1 (omega (arith, walk.2, fits_field slots u fit 10 (omega arith))))

      pub E : Entering k j slots al u fit y shown (M.copy c) copies us is
      E = subst (λ (l : List ℕ). Entering k j slots al u fit y shown (M.copy c) copies l is) (sym walk.1) entered.0

      abbrev v : ClientWord → ℕ
      v = after_used u us

      stage : Stage k j slots m L M c R v
      unfolding is
      stage = record {
        slot = P.with_items (T k j slots) y is;
        copies = M.copy c;
        reached = subst (λ F. Mv.Reached (T k j slots) (P.with_copies (T k j slots) (P.with_slot (T k j slots) M c (P.with_items (T k j slots) y is)) F))
            (sym (fun_ext (upd_none (Fin-discrete (suc j)) M.copy c (M.copy c) refl))) (PW.copies_enter (T k j slots) M c os R.reached open_now);
        open_still = open_now;
        shows = record {
          slot = E.slot;
          copies = copies_stay Reads 10 u v E.other (λ e. absurd (omega arith)) (omega arith) k j slots (M.copy c) copies;
          says = said_else k j slots u v E.other (L.given c.0) (L.undecided c.0) (M.said c) (R.clients c).says;
        };
      }

      -- the stores, once the copies in use have become items
      handed_turns : (g : (ClientWord → ℕ) → List (Put ClientWord)) → Stage k j slots m L M c R (changed client_words v (g v))
          → Turns k j slots m (changed whole m (handed z m c.0 us g)) L M c
      unfolding and_then
      handed_turns g G =
          stage_turns k j slots m L M c R (and_then client_words (used_enter us) g u)
          (subst (Stage k j slots m L M c R) (sym (changed_append client_words (used_enter us u) (g v) u)) G)

      -- ---- the object fetched: neither set has it, and there is room
      unread : (s : Fin 8) (o : Obj) → a ≡ object o → full z m c.0 us ≡ false → Unread k j slots al m L M c R s v o
      unfolding among
      unread s o is_o room = record {
        room = omega (arith, E.counted, leb-false 96 (u reads_count + length us) room);
        unread = has_absent v Reads (number o) (E.has_now (number o) ∙ rw (absent_has u Reads (number o) object_lacks.unread, not_used) refl);
        unwritten = found_written u v E.other (number o) ∙ object_lacks.unwritten;
      }
        where
          lack : have slots u (object o) ≡ none
          lack = subst (λ (x : Ask). have slots u x ≡ none) is_o walk.0

          object_lacks : Lacks slots u o
          object_lacks = lacks_object slots u o lack (subst (λ (x : Ask). broken slots u x ≡ false) is_o lacks.1)

          not_used : among (number o) us ≡ false
          not_used =
              subst (λ (l : List ℕ). among (number o) l ≡ false) (sym walk.1)
              (unused k j slots al u fit y shown (M.copy c) copies o object_lacks.inside lack (asked slots u)
              (W.used_had (plan slots u) (have slots u)) [] refl)

      -- what speaks against a fetch: refusal 10, an object read that differs or is busy, a writer, the limit of 96
      object_good : (s x p q : ℕ) (ok : Bool) (g : (ClientWord → ℕ) → List (Put ClientWord))
          → (full z m c.0 us ≡ false → Stage k j slots m L M c R (changed client_words v (g v))) → Good (fetch_object z m c.0 us s x (Fetched p q) ok g)
      object_good s x p q ok g h =
          go (lock_fits z m s x) (held (object_of x) c.0 Fetch (server_of m s)) (full z m c.0 us) ok h
        where
          go : (a b f ok : Bool) → (f ≡ false → Stage k j slots m L M c R (changed client_words v (g v)))
              → Good (if_fit a (cond b (abort z m c.0 2 us) (cond f (abort z m c.0 4 us) (if_fit ok (did (Fetched p q) (handed z m c.0 us g))))))
          go false b f ok h = refused
          go true true f ok h = aborted 2
          go true false true ok h = aborted 4
          go true false false false h = refused
          go true false false true h = handed_turns g (h refl)

      -- nothing was found that speaks against it
      abbrev Fine : ℕ → Type 0
      Fine s = deciding (map (fetch_finding z m c.0 us s) (fetch_items z m c.0 us)) ≡ 0

      checked : (w : Wanted) → (Fine w.from → Good (hand_over z m c.0 us a w.from (Fetched w.what w.which))) → Good (checked_fetch z m c.0 us a w)
      checked w h = go (deciding (map (fetch_finding z m c.0 us w.from) (fetch_items z m c.0 us))) h
        where
          go : (x : ℕ) → (x ≡ 0 → Good (hand_over z m c.0 us a w.from (Fetched w.what w.which)))
              → Good (by_finding x (hand_over z m c.0 us a w.from (Fetched w.what w.which)) (λ y. abort z m c.0 y us))
          go x h = by (eqb x 0) refl (eqb x 10)
            where
              by : (t : Bool) → eqb x 0 ≡ t → (r : Bool) → Good (cond t (hand_over z m c.0 us a w.from (Fetched w.what w.which)) (cond r (refuse 10) (abort z m c.0 x us)))
              by true e r = h (eqb-true x 0 e)
              by false e true = refused
              by false e false = aborted x

      -- "A fetch .. at an absent server aborts with 1"
      from_there : (w : Wanted) → (w.from < 8 → there m w.from ≡ true → Good (checked_fetch z m c.0 us a w)) → Good (fetch_from z m c.0 us a w)
      from_there w h = go (ltb w.from 8) refl (there m w.from) refl
        where
          go : (l : Bool) → ltb w.from 8 ≡ l → (t : Bool) → there m w.from ≡ t → Good (if_fit l (cond t (checked_fetch z m c.0 us a w) (abort z m c.0 1 us)))
          go false e t q = refused
          go true e false q = aborted 1
          go true e true q = h (ltb-true w.from 8 e) q

      -- a name at hand or lacking is one of the store
      lacked : (o : Obj) → a ≡ object o → InStore k j slots o
      lacked o is_o =
          (lacks_object slots u o (subst (λ (x : Ask). have slots u x ≡ none) is_o walk.0)
          (subst (λ (x : Ask). broken slots u x ≡ false) is_o lacks.1)).inside

      -- ---- where nothing was found, the metadata read has the version that stands at the server
      module _ (s : Fin 8) (fine : Fine s.0) where
        meta_found : (r : Node) → Among (U.item_of u 0 r) (fetch_items z m c.0 us) → server_of m s.0 place.Version ≡ r.version
        unfolding U.item_of kind_in_range object_of Chk.can_check Chk.standing Chk.mark_in Chk.mark_place
        meta_found r i =
            (found_same object.Metadata (I.inner 0 r) r.version c.0 Fetch (server_of m s.0)
            (past (lock_fits z m s.0 0) _ (none_found (fetch_finding z m c.0 us s.0) (fetch_items z m c.0 us) fine (U.item_of u 0 r) i))).1
          where
            past : (t : Bool) (y : ℕ) → cond t y 10 ≡ 0 → y ≡ 0
            past true y e = e
            past false y e = absurd (omega (arith, e))

        checked_version : (it : P.Item (T k j slots)) → P.find (T k j slots) is meta ≡ some it → server_of m s.0 place.Version ≡ it.version
        unfolding item_of U.read_items U.used_items has
        checked_version it e = go (E.origin meta it refl e)
          where
            read_one : (f : Found) → find u Reads 0 ≡ f → item_from k j slots u meta f ≡ some it → server_of m s.0 place.Version ≡ it.version
            read_one None q h = absurd (none-ne-some it h)
            read_one (Some i) q h =
                let f = found_at u Reads 0 i q in
                meta_found (record_at u Reads i) (among_more (U.read_items u) (U.used_items u us) _
                (subst (λ (x : ℕ). Among (U.item_of u x (record_at u Reads i)) (U.read_items u)) f.1 (among_each (count u Reads) (U.read_item u) i f.0)))
                ∙ ap (λ (x : P.Item (T k j slots)). x.version) (some-injective _ it h)

            now_read : (f : Found) → find v Reads 0 ≡ f → item_from k j slots v meta f ≡ some it → has v Reads 0 ≡ true
            now_read None q h = absurd (none-ne-some it h)
            now_read (Some i) q h = ap is_at q

            go : (P.find (T k j slots) y.items meta ≡ some it) ⊎ ((find u Reads 0 ≡ None) × (it.version ≡ (copied u 0).node.version)) → server_of m s.0 place.Version ≡ it.version
            go (inl q) = read_one (find u Reads 0) refl (sym (shown.item_as meta refl) ∙ q)
            go (inr q) =
                let used : among 0 us ≡ true = subst (λ (b : Bool). (b || among 0 us) ≡ true) (absent_has u Reads 0 q.0)
                (sym (E.has_now 0) ∙ now_read (find v Reads 0) refl (sym (E.slot.item_as meta refl) ∙ e)) in
                meta_found (copied u 0).node (among_later (U.read_items u) (U.used_items u us) _ (among_image (λ x. U.item_of u x (copied u x).node) us 0 (among_in 0 us used)))
                ∙ sym q.1

      -- ---- "Metadata is fetched from the first server not absent", "a node from its home, a vector from its server."
      meta_good : a ≡ object meta → (s : ℕ) → s < 8 → Good (hand_over z m c.0 us (object meta) s (Fetched 0 0))
      meta_good is_o s l =
          let p = metadata_at (server_of m s) in
          object_good s 0 0 0 (metadata_sound slots (server_of m s)) (fetched_meta p.root p.states p.version)
          (λ r. meta_handed k j slots al m L M c R (s, l) v stage (unread (s, l) meta is_o r))

      module _ (x : ℕ) (is_o : a ≡ object (node x)) (here : there m (N.server_of x) ≡ true) (fine : Fine (N.server_of x)) where
        abbrev s : Fin 8
        s = (N.server_of x, name_server k j slots x (lacked (node x) is_o))

        kept : keeps k j slots s (node x) ≡ true
        unfolding at_home
        kept =
            kept_home k j slots al s (node x) (lacked (node x) is_o)
            ∙ as_node true (λ i. eqb (N.server_of i) s.0) (λ i. eqb (N.server_of i) s.0) x (name_lt slots al x (lacked (node x) is_o))
            ∙ eq-eqb (N.server_of x) (N.server_of x) refl

        -- the metadata was read before
        meta_item : (it : P.Item (T k j slots)) × (P.find (T k j slots) is meta ≡ some it)
        meta_item =
            item_known k j slots al u fit y shown (M.copy c) copies is _ entered.1 meta
            (subst (λ (q : Ask). Asks slots (servers k j slots al u fit y shown (M.copy c) copies) (λ q. Among q (gathered slots (servers k j slots al u fit y shown (M.copy c) copies) [] (asked slots u))) q) is_o
            (lacking_orderly k j slots al u fit y shown (M.copy c) copies (Work.waiting u) a (lacking_walk slots u a lacks.0)))

        -- and is this server's, which is there
        placed : PlacedAt k j slots is (node x) (value_of (node x) (node_at (server_of m s.0) x))
        unfolding stage
        placed = record {
          known = inr meta_item;
          there = λ _. inl (ap₂ is_present
              (ap states_of (ap (P.says (T k j slots) (λ i. i.old) ((T k j slots).init meta)) meta_item.1 ∙ sym same))
              (server_is k j slots (N.server_of x) s.1)
              ∙ sym (there_same k j slots m L M R s) ∙ here);
        }
          where
            same : M.value s meta ≡ meta_item.0.old
            same =
                same_version (T k j slots) (meaning k j slots al) stage.reached c s meta meta_item.0 refl refl
                (ap (λ (y : P.Slot (T k j slots)). P.find (T k j slots) y.items meta) (upd_same (Fin-discrete (suc j)) M.slots c (P.with_items (T k j slots) y is)) ∙ meta_item.1)
                ((R.servers s).version_as meta refl refl ∙ checked_version s fine meta_item.0 meta_item.1)

        node_good : Good (hand_over z m c.0 us (object (node x)) (N.server_of x) (Fetched 1 x))
        unfolding stage
        node_good =
            object_good (N.server_of x) (1 + x) 1 x (node_fits slots (node_at (server_of m (N.server_of x)) x)) (fetched_node x (node_at (server_of m (N.server_of x)) x))
            (λ r. node_handed k j slots al m L M c R s x (lacked (node x) is_o) kept v stage placed (unread s (node x) is_o r))

      vector_turns : (s : ℕ) → s < 8 → Turns k j slots m (changed whole m (handed z m c.0 us (fetched_vector s (vector_at (server_of m s))))) L M c
      vector_turns s l = handed_turns (fetched_vector s (vector_at (server_of m s))) (vector_handed k j slots al m L M c R (s, l) v stage)

    -- THE FETCH
    pub fetch_turns : (a : Ask) → worked slots u ≡ Work.fetches a → Turns k j slots m (changed whole m (fetch z m c.0 us a).stores) (note L n (with_pairs (fetch z m c.0 us a).pairs lent) (fetch z m c.0 us a).outcome) M c
    unfolding fetch
    fetch_turns a e = from_there a e w (λ l h. checked a e w (λ f. by a refl l h f))
      where
        w : Wanted
        w = wanted (metadata_source m z c.0) a

        by : (q : Ask) → a ≡ q → let w = wanted (metadata_source m z c.0) q in w.from < 8 → there m w.from ≡ true → Fine a e w.from
            → Good (hand_over z m c.0 us q w.from (Fetched w.what w.which))
        by (object meta) i l h f = meta_good a e i (metadata_source m z c.0) l
        by (object (node x)) i l h f = node_good a e x i h f
        by (object (flag x)) i l h f = vector_turns a e (N.server_of x) l
        by (vector s) i l h f = vector_turns a e s l
        by (fetched s) i l h f = vector_turns a e s l
