-- PREPARE at a server, where nothing is found against it: the machine's move.
use Rattle.std.specs.Prelude.{◌≡◌, Bool, false, cond, ◌&&◌, ◌||◌, List, map}
use Rattle.std.proofs.Math.Path.{refl, ap, sym, subst}
use Rattle.std.proofs.Common.{ap₂, ◌∙◌, arith}
use Rattle.std.proofs.Math.Bool.{true}
use Rattle.std.proofs.Math.Option.{Option, none}
use Prim.Native.Nat.{ℕ, suc, ◌≤◌, ◌<◌, Fin}
use Rattle.std.proofs.Math.Decide.{Fin-discrete}
use Rattle.base.proofs.Laws.Test.{or_left, or_neither}
use Rattle.base.specs.Update.{upd}
use Rattle.base.proofs.Laws.Update.{upd_same, upd_other}
use Rattle.memory.specs.Bit.{bit}
use Rattle.layout.specs.Space.{Put, changed}
use Rattle.nodes.specs.Found.{Found}
use Rattle.std.specs.Prelude.{Some, None}
use Rattle.operations.specs.Object.{Obj}
use Rattle.operations.proofs.Laws.Object.{inner}
use Rattle.server.specs.declared.lock.Use.TheVariants.{Read, Write}
use Rattle.server.specs.declared.place.Place.{Place}
use Rattle.server.specs.Layout.{places}
use Rattle.nodes.specs.Object.{object_of}
use Rattle.server.specs.Object.{lock_of}
use Rattle.server.specs.Lock.{busy, locked}
use Rattle.server.specs.Store.{lock_step}
use Rattle.client.specs.declared.part.Set.TheVariants.{Reads, Writes}
use Rattle.client.specs.Layout.{ClientWord, client_words, phase, participants, prepared, applied}
use Rattle.client.specs.Record.{number, value_of}
use Rattle.client.specs.Sets.{count, record_at, number_at, find}
use Rattle.client.specs.Laws.Ranges.{client_fits}
use Rattle.client.specs.Participants.{lowest_of}
use Rattle.client.specs.Course.{noted}
use Rattle.steps.specs.declared.sizes.Sizes.{Sizes}
use Rattle.steps.specs.Whole.{Address}
use Rattle.steps.specs.Servers.{there}
use Rattle.steps.specs.Judge.{lowest_participant, lock_fits}
use Rattle.steps.specs.Steps.{lock_each, prepare_reason, prepare_finding}
use Rattle.demand.specs.Ledger.{Ledger}
use Rattle.steps.proofs.Laws.Stores.{client_of, server_of}
use Rattle.demand.proofs.Laws.Frame.{last, read_after, Only}
use Rattle.demand.proofs.Laws.Numbers.{obj_of, inner_of, server_object, object_number}
use Rattle.demand.proofs.Laws.There.{there_same}
use Rattle.demand.proofs.Laws.Shows.{phase_of, T, InStore, Recorded, lock_kept, item_from, item_of, SlotShown, ServerShown, ClientShown, Related}
use Rattle.demand.proofs.Laws.Course.{else_same, course_shown}
use Rattle.demand.proofs.Laws.Held.{found_at, read_in, item_at, all_items}
use Rattle.demand.proofs.Laws.Locking.{asked, held, read_same, write_same, after, here, lk, by_object, here_kept, lock_place, none_swept, one_swept, not_swept, the_object}
use Rattle.demand.proofs.Laws.Recorded.{write_recorded, read_recorded, grants_write, grants_read, grants_none}
use Rattle.demand.proofs.Laws.Servers.{both, both_client, both_other, both_server, both_else, is_lock, lock_stays, value_frame, version_frame, table_frame, noted_bit}
use Rattle.demand.proofs.Laws.Checked.{all_found, found_same, mark_of, mark_is, check_passes}
use Rattle.demand.proofs.Laws.Kept.{away, related}
use Rattle.protocol.specs.Machine as P
use Rattle.protocol.specs.Moves as Mv
use Rattle.server.specs.Check as Chk
use Rattle.client.specs.Items as I
use Rattle.steps.specs.Uses as U

-- ---- a finding without a reason
module _ (z : Sizes) (m : Address → ℕ) (c s : ℕ) (x : U.Item) (h : (prepare_finding z m c s x).1 ≡ 0) (b : U.locked_at (lowest_participant z m c) s x ≡ true) where
  abbrev whole_check : ℕ
  whole_check = Chk.finding_number (Chk.checked (U.item_object x) x.inner_read x.mark c (U.use_of x) (server_of m s))

  abbrev lock_check : ℕ
  lock_check = cond (Chk.held (U.item_object x) c (U.use_of x) (server_of m s)) 2 0

  -- its kinds and its lock fit, so it is the check of the object that found nothing
  reason_none : cond (U.checked_at (lowest_participant z m c) s x) whole_check lock_check ≡ 0
  reason_none = past (lock_fits z m s x.number) _ (subst (λ (t : Bool). cond t (prepare_reason z m c s x) 0 ≡ 0) b (past (x.read_fits && x.written_fits) _ h))
    where
      past : (t : Bool) (y : ℕ) → cond t y 10 ≡ 0 → y ≡ 0
      past true y e = e
      past false y e = absurd (omega (arith, e))

  pub free_of_others : Chk.held (U.item_object x) c (U.use_of x) (server_of m s) ≡ false
  free_of_others = go (U.checked_at (lowest_participant z m c) s x) reason_none
    where
      none : (t : Bool) → ◌≡◌ {A = ℕ} (cond t 2 0) 0 → t ≡ false
      none true e = absurd (omega (arith, e))
      none false e = refl

      go : (t : Bool) → cond t whole_check lock_check ≡ 0 → Chk.held (U.item_object x) c (U.use_of x) (server_of m s) ≡ false
      go true e = (found_same (U.item_object x) x.inner_read x.mark c (U.use_of x) (server_of m s) e).0
      go false e = none (Chk.held (U.item_object x) c (U.use_of x) (server_of m s)) e

  pub as_it_stands : U.checked_at (lowest_participant z m c) s x ≡ true → Chk.standing (U.item_object x) x.inner_read (server_of m s) ≡ x.mark
  as_it_stands q =
      (found_same (U.item_object x) x.inner_read x.mark c (U.use_of x) (server_of m s)
      (subst (λ (t : Bool). cond t whole_check lock_check ≡ 0) q reason_none)).1

-- ---- the step
module _ (k j slots : ℕ) (al : slots ≤ 1024) (few : suc j ≤ 16) (m : Address → ℕ) (L : Ledger) (M : P.Machine (T k j slots)) (c : Fin (suc j)) (R : Related k j slots m L M) (fit : client_fits slots (client_of m c.0) ≡ true) (s : Fin 8) (now : client_of m c.0 phase ≡ 2) (new : bit (client_of m c.0 prepared) s.0 ≡ false) (attends : there m s.0 ≡ true) where
  abbrev z : Sizes
  z = record { servers = suc k; slots = slots; clients = suc j }

  abbrev u : ClientWord → ℕ
  u = client_of m c.0

  abbrev p : Place → ℕ
  p = server_of m s.0

  abbrev y : P.Slot (T k j slots)
  y = M.slots c

  abbrev shown : SlotShown k j slots u y
  shown = (R.clients c).slot

  abbrev S : ServerShown k j slots p s (M.value s) (M.version s) (M.table s) (M.lock s)
  S = R.servers s

  abbrev low : ℕ
  low = lowest_participant z m c.0

  pub el : y.lowest.0 ≡ low
  el = shown.lowest_as (omega (arith, now))

  module _ (fine : U.deciding (map (prepare_finding z m c.0 s.0) (U.read_items u)) ≡ 0) where
    module _ (i : ℕ) (l : i < count u Reads) where
      o : Obj
      o = obj_of (number_at u Reads i)

      o_is : o ≡ obj_of (number_at u Reads i)
      unfolding o
      o_is = refl

      hi : InStore k j slots o
      unfolding o
      hi = read_in k j slots al u fit i l

      no_reason : (prepare_finding z m c.0 s.0 (U.read_item u i)).1 ≡ 0
      unfolding U.read_items count
      no_reason = all_found (prepare_finding z m c.0 s.0) (count u Reads) (U.read_item u) fine i l

      -- the object by which place i is asked about
      item_is : U.read_item u i ≡ asked k j slots al u y s low el o i hi
      unfolding o
      item_is = by_object k j slots al u fit y shown s low el p i

      free_of : U.locked_at low s.0 (asked k j slots al u y s low el o i hi) ≡ true
          → busy (U.use_of (asked k j slots al u y s low el o i hi)) c.0 (p (lock_of (object_of (number o)))) ≡ false
      unfolding Chk.held o U.item_of
      free_of b =
          subst (λ (x : U.Item). Chk.held (U.item_object x) c.0 (U.use_of x) p ≡ false) item_is
          (free_of_others z m c.0 s.0 (U.read_item u i) no_reason (subst (λ (x : U.Item). U.locked_at low s.0 x ≡ true) (sym item_is) b))

      stands : U.checked_at low s.0 (asked k j slots al u y s low el o i hi) ≡ true
          → Chk.standing (server_object o) (inner o (value_of o (record_at u Reads i))) p ≡ mark_of k j slots al u y M s low el p S o i
      unfolding o U.locked_at U.item_of
      stands b =
          let q = subst (λ (x : U.Item). U.checked_at low s.0 x ≡ true) (sym item_is) b in
          let here = or_left (U.checked_at low s.0 (U.read_item u i)) ((U.read_item u i).written && (U.read_item u i).becomes) q in
          let f = subst (λ (x : U.Item). Chk.standing (U.item_object x) x.inner_read p ≡ x.mark) item_is (as_it_stands z m c.0 s.0 (U.read_item u i) no_reason here q) in
          sym (ap₂ (λ (a : _) (b : Bool). Chk.standing a b p) (object_number slots al o hi) (inner_of slots al o hi (record_at u Reads i)))
          ∙ f ∙ mark_is k j slots al u y M s low el p S o i hi

      checks_at : Mv.check (T k j slots) M y.lowest s (item_at k j slots al u fit i) ≡ true
      unfolding o
      checks_at = check_passes k j slots al u y M s low el p S o i hi stands

      -- what is asked for is granted
      grants_at : Mv.grants (T k j slots) c (Mv.to_write (T k j slots) s (item_at k j slots al u fit i)) (Mv.to_read (T k j slots) y.lowest s (item_at k j slots al u fit i))
          (M.lock s o) ≡ true
      unfolding o U.locked_at U.item_of
      grants_at =
          subst (λ (w : Bool). Mv.grants (T k j slots) c w (Mv.to_read (T k j slots) y.lowest s (item_at k j slots al u fit i)) (M.lock s o) ≡ true)
          (write_same k j slots al u y s low el o i hi)
          (subst (λ (r : Bool). Mv.grants (T k j slots) c (I.has u Writes (number o) && U.locked_at low s.0 a) r (M.lock s o) ≡ true)
          (read_same k j slots al u y s low el o i hi)
          (go (U.locked_at low s.0 a) refl (I.has u Writes (number o)) refl))
        where
          a : U.Item
          a = asked k j slots al u y s low el o i hi

          word : ℕ
          word = p (lock_of (object_of (number o)))

          recorded : U.locked_at low s.0 a ≡ true → Recorded k j slots (M.lock s o) word
          recorded e =
              S.lock_as o hi (here_kept k j slots al u fit y shown s low el p i l (subst (λ (x : U.Item). U.locked_at low s.0 x ≡ true) (sym item_is) e))

          go : (b : Bool) → U.locked_at low s.0 a ≡ b → (w : Bool) → I.has u Writes (number o) ≡ w
              → Mv.grants (T k j slots) c (w && b) (U.checked_at low s.0 a) (M.lock s o) ≡ true
          go false e w q =
              subst (λ (r : Bool). Mv.grants (T k j slots) c (w && false) r (M.lock s o) ≡ true)
              (sym (or_neither (U.checked_at low s.0 a) (a.written && a.becomes) e).0) (none w)
            where
              none : (w : Bool) → Mv.grants (T k j slots) c (w && false) false (M.lock s o) ≡ true
              none true = grants_none k j slots few c (M.lock s o)
              none false = grants_none k j slots few c (M.lock s o)
          go true e true q =
              grants_write k j slots few c (M.lock s o) word (U.checked_at low s.0 a) (recorded e)
              (subst (λ (w : Bool). busy (cond w Write Read) c.0 word ≡ false) q (free_of e))
          go true e false q =
              grants_read k j slots few c (M.lock s o) word (U.checked_at low s.0 a) (recorded e)
              (subst (λ (w : Bool). busy (cond w Write Read) c.0 word ≡ false) q (free_of e))

    -- the machine after it
    abbrev pub M₁ : P.Machine (T k j slots)
    M₁ = P.turned (T k j slots) M (upd (Fin-discrete (suc j)) M.slots c (Mv.prepared_slot (T k j slots) y s))
        (upd (Fin-discrete 8) M.lock s (Mv.granted_row (T k j slots) c (Mv.to_write (T k j slots) s) (Mv.to_read (T k j slots) y.lowest s) y.items (M.lock s)))
        M.said M.log

    pub reached₁ : Mv.Reached (T k j slots) M₁
    unfolding phase_of
    reached₁ =
        Mv.moved R.reached
        (Mv.prepares c s (sym (there_same k j slots m L M R s) ∙ attends) (sym shown.phase_as ∙ ap phase_of now) (shown.prepared_as s ∙ new)
        (all_items k j slots al u fit y shown (Mv.check (T k j slots) M y.lowest s) checks_at)
        (all_items k j slots al u fit y shown (λ i. Mv.grants (T k j slots) c (Mv.to_write (T k j slots) s i) (Mv.to_read (T k j slots) y.lowest s i) (M.lock s i.obj)) grants_here))
      where
        grants_here : (i : ℕ) → i < count u Reads
            → Mv.grants (T k j slots) c (Mv.to_write (T k j slots) s (item_at k j slots al u fit i)) (Mv.to_read (T k j slots) y.lowest s (item_at k j slots al u fit i))
            (M.lock s (obj_of (number_at u Reads i))) ≡ true
        grants_here i l = subst (λ (q : Obj). Mv.grants (T k j slots) c (Mv.to_write (T k j slots) s (item_at k j slots al u fit i))
            (Mv.to_read (T k j slots) y.lowest s (item_at k j slots al u fit i)) (M.lock s q) ≡ true) (o_is i l) (grants_at i l)

    -- ---- the words of this server
    abbrev ps : List (Put Place)
    ps = lock_each u c.0 low s.0 p

    F : ℕ → ℕ → ℕ
    F i w = locked (U.read_item u i).written c.0 w

    abbrev p' : Place → ℕ
    p' = changed places p ps

    swept_is : p' ≡ after (here k j slots al u fit y shown s low el p) (lk k j slots al u fit y shown s low el p) F p (count u Reads)
    unfolding F lock_step count number_at U.item_of
    swept_is = refl

    -- words that are no locks stay
    stays : (a : Place) → is_lock a ≡ false → p' a ≡ p a
    stays a h = lock_stays u low s.0 p a h c.0

    -- locks as the machine has them are recorded
    recorded_at : (o : Obj) → InStore k j slots o → lock_kept k j slots p s o ≡ true
        → Recorded k j slots (Mv.granted_row (T k j slots) c (Mv.to_write (T k j slots) s) (Mv.to_read (T k j slots) y.lowest s) y.items (M.lock s) o) (p' (lock_of (object_of (number o))))
    unfolding item_of count F Chk.held U.locked_at U.item_of
    recorded_at o hi kept =
        subst (λ (w : ℕ). Recorded k j slots (Mv.granted_row (T k j slots) c (Mv.to_write (T k j slots) s) (Mv.to_read (T k j slots) y.lowest s) y.items (M.lock s) o) w)
        (sym (ap (λ (f : Place → ℕ). f (lock_of (object_of (number o)))) swept_is
        ∙ ap (λ (x : _). after (here k j slots al u fit y shown s low el p) (lk k j slots al u fit y shown s low el p) F p (count u Reads) (lock_of x)) (object_number slots al o hi)))
        (by_found (find u Reads (number o)) refl)
      where
        l : P.Lock (T k j slots)
        l = M.lock s o

        old : Recorded k j slots l (p (lock_place k j slots al o))
        old = subst (λ (x : _). Recorded k j slots l (p (lock_of x))) (object_number slots al o hi) (S.lock_as o hi kept)

        W : ℕ
        W = after (here k j slots al u fit y shown s low el p) (lk k j slots al u fit y shown s low el p) F p (count u Reads) (lock_place k j slots al o)

        Row : Option (P.Item (T k j slots)) → P.Lock (T k j slots)
        Row f = Mv.grant (T k j slots) c (P.says (T k j slots) (Mv.to_write (T k j slots) s) false f) (P.says (T k j slots) (Mv.to_read (T k j slots) y.lowest s) false f) l

        by_found : (f : Found) → find u Reads (number o) ≡ f → Recorded k j slots (Row (P.find (T k j slots) y.items o)) W
        by_found f e =
            subst (λ (x : Option (P.Item (T k j slots))). Recorded k j slots (Row x) W) (sym (shown.item_as o hi ∙ ap (item_from k j slots u o) e)) (go f e)
          where
            go : (f : Found) → find u Reads (number o) ≡ f → Recorded k j slots (Row (item_from k j slots u o f)) W
            go None e = subst (Recorded k j slots l) (sym (none_swept k j slots al u fit y shown s low el p F o hi kept e)) old
            go (Some i) e =
                subst (λ (w : Bool). Recorded k j slots (Mv.grant (T k j slots) c w (Mv.to_read (T k j slots) y.lowest s (held k j slots al u y s low el o i hi)) l) W)
                (write_same k j slots al u y s low el o i hi)
                (subst (λ (r : Bool). Recorded k j slots (Mv.grant (T k j slots) c (I.has u Writes (number o) && U.locked_at low s.0 a) r l) W)
                (read_same k j slots al u y s low el o i hi)
                (by_lock (U.locked_at low s.0 a) refl (I.has u Writes (number o)) refl))
              where
                a : U.Item
                a = asked k j slots al u y s low el o i hi

                w₀ : ℕ
                w₀ = p (lock_place k j slots al o)

                at_i : i < count u Reads
                at_i = (found_at u Reads (number o) i e).0

                item_is' : U.read_item u i ≡ a
                item_is' =
                    by_object k j slots al u fit y shown s low el p i
                    ∙ ap (λ (q : Obj). U.item_of u (number q) (record_at u Reads i)) (the_object k j slots al u fit y shown s low el p F o hi kept i e)

                here_is : here k j slots al u fit y shown s low el p i ≡ U.locked_at low s.0 a
                here_is = ap (U.locked_at low s.0) item_is'

                unheld : U.locked_at low s.0 a ≡ true → busy (U.use_of a) c.0 w₀ ≡ false
                unheld b =
                    subst (λ (x : _). busy (U.use_of a) c.0 (p (lock_of x)) ≡ false) (object_number slots al o hi)
                    (subst (λ (x : U.Item). Chk.held (U.item_object x) c.0 (U.use_of x) p ≡ false) item_is'
                    (free_of_others z m c.0 s.0 (U.read_item u i) (no_reason i at_i) (here_is ∙ b)))

                locked_now : U.locked_at low s.0 a ≡ true → (w : Bool) → I.has u Writes (number o) ≡ w → W ≡ locked w c.0 w₀
                locked_now b w q =
                    one_swept k j slots al u fit y shown s low el p F o hi kept i e (here_is ∙ b)
                    ∙ ap (λ (x : Bool). locked x c.0 w₀) (ap (λ (x : U.Item). x.written) item_is' ∙ q)

                only_read : (U.checked_at low s.0 a || (false && a.becomes)) ≡ true → U.checked_at low s.0 a ≡ true
                only_read r = in_read (U.checked_at low s.0 a) r
                  where
                    in_read : (x : Bool) → (x || false) ≡ true → x ≡ true
                    in_read true r = refl
                    in_read false r = r

                by_lock : (b : Bool) → U.locked_at low s.0 a ≡ b → (w : Bool) → I.has u Writes (number o) ≡ w
                    → Recorded k j slots (Mv.grant (T k j slots) c (w && b) (U.checked_at low s.0 a) l) W
                by_lock true b true q = subst (Recorded k j slots (P.owned c)) (sym (locked_now b true q)) (write_recorded k j slots few c w₀)
                by_lock true b false q =
                    subst (Recorded k j slots (cond (U.checked_at low s.0 a) (Mv.share (T k j slots) c l) l)) (sym (locked_now b false q))
                    (subst (λ (x : Bool). Recorded k j slots (cond x (Mv.share (T k j slots) c l) l) (locked false c.0 w₀))
                    (sym (only_read (subst (λ (x : Bool). (U.checked_at low s.0 a || (x && a.becomes)) ≡ true) q b)))
                    (read_recorded k j slots few c l w₀ old (subst (λ (x : Bool). busy (cond x Write Read) c.0 w₀ ≡ false) q (unheld b))))
                by_lock false b w q =
                    subst (Recorded k j slots (Mv.grant (T k j slots) c (w && false) (U.checked_at low s.0 a) l))
                    (sym (not_swept k j slots al u fit y shown s low el p F o hi kept i e (here_is ∙ b)))
                    (subst (λ (x : Bool). Recorded k j slots (Mv.grant (T k j slots) c (w && false) x l) w₀)
                    (sym (or_neither (U.checked_at low s.0 a) (a.written && a.becomes) b).0) (none w))
                  where
                    none : (w : Bool) → Recorded k j slots (Mv.grant (T k j slots) c (w && false) false l) w₀
                    none true = old
                    none false = old

    -- ---- the client's part, and the whole
    abbrev qs : List (Put ClientWord)
    qs = noted prepared s.0 u

    abbrev v : ClientWord → ℕ
    v = changed client_words u qs

    at : (a : ClientWord) → v a ≡ last client_words qs a (u a)
    at a = read_after client_words qs u a

    own_shown : ClientShown k j slots v (L.given c.0) (L.undecided c.0) (Mv.prepared_slot (T k j slots) y s) (M.copy c) (M.said c)
    unfolding noted Only
    own_shown =
        course_shown k j slots u v (else_same qs u (refl, tt))
        (L.given c.0) (L.undecided c.0) (L.undecided c.0) y (M.copy c) (M.said c) y.phase y.participant y.lowest (upd (Fin-discrete 8) y.prepared s true) y.applied
        (λ _. (R.clients c).says.said_as (omega (arith, now), omega (arith, now))) (ap phase_of (at phase) ∙ shown.phase_as)
        (λ t. shown.participant_as t ∙ ap (λ (w : ℕ). bit w t.0) (sym (at participants)))
        (λ t. noted_bit y.prepared (u prepared) s t shown.prepared_as ∙ ap (λ (w : ℕ). bit w t.0) (sym (at prepared)))
        (λ t. shown.applied_as t ∙ ap (λ (w : ℕ). bit w t.0) (sym (at applied)))
        (omega (arith, at phase, now)) (el ∙ ap (lowest_of 8) (sym (at participants))) (R.clients c)

    server_shown : ServerShown k j slots p' s (M.value s) (M.version s) (M.table s)
        (Mv.granted_row (T k j slots) c (Mv.to_write (T k j slots) s) (Mv.to_read (T k j slots) y.lowest s) y.items (M.lock s))
    server_shown = record {
      value_as = λ o i q. S.value_as o i q ∙ sym (value_frame k j slots p p' stays o);
      version_as = λ o i q. S.version_as o i q ∙ sym (version_frame k j slots p p' stays o);
      table_as = λ o i q. S.table_as o i q ∙ sym (table_frame k j slots p p' stays o);
      lock_as = recorded_at;
    }

    pub prepare_kept : Related k j slots (both m s.0 c.0 ps qs) L M₁
    prepare_kept =
        related k j slots m (both m s.0 c.0 ps qs) L L M M₁ c R reached₁
        (record {
          part = λ d n. both_other m s.0 c.0 ps qs d.0 (away k j slots c d n);
          given = λ d n. refl;
          undecided = λ d n. refl;
          slots_same = λ d n. upd_other (Fin-discrete (suc j)) M.slots c (Mv.prepared_slot (T k j slots) y s) d n;
          copy_same = λ d n. refl;
          said_same = λ d n. refl;
        })
        (coe 1 0 (t. ClientShown k j slots (both_client m s.0 c.0 ps qs t) (L.given c.0) (L.undecided c.0)
        (upd_same (Fin-discrete (suc j)) M.slots c (Mv.prepared_slot (T k j slots) y s) t) (M.copy c) (M.said c)) own_shown)
        (λ t. go t (Fin-discrete 8 t s))
        R.log_as
      where
        row : Obj → P.Lock (T k j slots)
        row = Mv.granted_row (T k j slots) c (Mv.to_write (T k j slots) s) (Mv.to_read (T k j slots) y.lowest s) y.items (M.lock s)

        ShownAt : Fin 8 → Type 0
        ShownAt t = ServerShown k j slots (server_of (both m s.0 c.0 ps qs) t.0) t (M.value t) (M.version t) (M.table t) (upd (Fin-discrete 8) M.lock s row t)

        go : (t : Fin 8) → Dec (t ≡ s) → ShownAt t
        go t (yes e) =
            subst ShownAt (sym e)
            (coe 1 0 (i. ServerShown k j slots (both_server m s.0 c.0 ps qs i) s (M.value s) (M.version s) (M.table s) (upd_same (Fin-discrete 8) M.lock s row i)) server_shown)
        go t (no n) =
            coe 1 0 (i. ServerShown k j slots (both_else m s.0 c.0 ps qs t.0 (λ q. n (native.Mathlib.Fin.val_path q)) i) t (M.value t) (M.version t) (M.table t)
            (upd_other (Fin-discrete 8) M.lock s row t n i)) (R.servers t)
