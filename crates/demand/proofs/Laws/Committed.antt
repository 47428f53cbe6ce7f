-- COMMIT: the machine's move, and with no participant the decision and the end.
use Rattle.std.specs.Prelude.{◌≡◌, Bool, ◌&&◌, not}
use Rattle.std.proofs.Math.Path.{refl, ap, ap₂, sym, subst}
use Rattle.std.proofs.Common.{◌∙◌}
use Rattle.std.proofs.Math.Bool.{true, false, cond, ◌||◌}
use Rattle.std.proofs.lemmas.Bool.{false≢true}
use mathlib.Core.List.{List, [], ◌∷◌}
use Rattle.std.proofs.Math.Option.{Option}
use Prim.Native.Nat.{ℕ, zero, suc, ◌≤◌, ◌<◌, Fin}
use native.Mathlib.Omega.{arith}
use Rattle.std.proofs.Math.Decide.{Fin-discrete, ℕ_discrete}
use Rattle.base.specs.Test.{and_both}
use Rattle.base.specs.Update.{upd}
use Rattle.base.proofs.Laws.Update.{upd_same, upd_other}
use Rattle.memory.specs.Bit.{bit}
use Rattle.memory.proofs.Laws.Bit.{zero_bit}
use Rattle.layout.specs.Space.{changed}
use Rattle.layout.specs.Part.{over}
use Rattle.operations.specs.Object.{Obj, meta, Val, states_of}
use Rattle.operations.proofs.Laws.Object.{inner}
use Rattle.nodes.specs.States.{present, is_present, states_fit}
use Rattle.nodes.specs.Found.{Found}
use Rattle.std.specs.Prelude.{Some, None}
use Rattle.protocol.specs.Lists.{any}
use Rattle.protocol.proofs.Laws.Lists.{all_in}
use Rattle.protocol.specs.State.{idle, opened}
use Rattle.client.specs.declared.part.Set.TheVariants.{Reads, Writes, Copies}
use Rattle.client.specs.Layout.{ClientWord, client_words, phase, op_number, op_key, op_value, op_server, participants, prepared, applied, item, vector_word, reads_count, writes_count, meta_states, meta_root, meta_version}
use Rattle.client.specs.Record.{number, value_of}
use Rattle.client.specs.Sets.{count, record_at, number_at, find}
use Rattle.client.specs.Fits.{servers_known}
use Rattle.client.specs.Laws.Ranges.{client_fits}
use Rattle.client.specs.Life.{reset}
use Rattle.client.specs.Work.{op_of, waiting}
use Rattle.operations.specs.Operation.{Legal}
use Rattle.steps.specs.Whole.{Address, client, whole}
use Rattle.demand.specs.Ledger.{Told, Ledger, notes_decision}
use Rattle.demand.proofs.Laws.Store.{init, fins}
use Rattle.steps.proofs.Laws.Stores.{client_of}
use Rattle.demand.proofs.Laws.Frame.{last, read_after}
use Rattle.demand.proofs.Laws.Numbers.{obj_of, number_obj, inner_of}
use Rattle.demand.proofs.Laws.Shows.{phase_of, T, InStore, new_value, item_from, item_of, SlotShown, Related}
use Rattle.demand.proofs.Laws.Slots.{SameSets, item_frame, read_frame, write_frame, copies_frame}
use Rattle.demand.proofs.Laws.Held.{any_at, any_one, same_test, found_at, has_at, at_has, read_in, written_in, item_at, any_items}
use Rattle.demand.proofs.Laws.Members.{mask_bit, mask_lt, member, lowest_same, kept_home, outer_home}
use Rattle.demand.proofs.Laws.Kept.{cleared_shown, client_related, away}
use Rattle.protocol.specs.Machine as P
use Rattle.protocol.specs.Moves as Mv
use Rattle.client.specs.Items as I
use Rattle.client.specs.Participants as K

pub both_true : (a b : Bool) → a ≡ true → b ≡ true → (a && b) ≡ true
both_true a b p q = rw (p, q)

any_eq : (n : ℕ) (f g : ℕ → Bool) → ((i : ℕ) → i < n → f i ≡ g i) → I.any_below n f ≡ I.any_below n g
unfolding I.any_below
any_eq zero f g h = refl
any_eq (suc n) f g h = ap₂ ◌||◌ (any_eq n f g (λ i l. h i (omega arith))) (h n (omega arith))

module _ (k j slots : ℕ) (al : slots ≤ 1024) (u : ClientWord → ℕ) (fit : client_fits slots u ≡ true) where
  -- "inner before or after" of an object that is read and written
  pub both_ways : (o : Obj) (i w : ℕ) → InStore k j slots o → find u Reads (number o) ≡ Some i → find u Writes (number o) ≡ Some w
      → I.inner_before_after u (number o) ≡ (inner o (value_of o (record_at u Reads i)) || inner o (value_of o (record_at u Writes w)))
  unfolding I.inner_before_after I.inner_in
  both_ways o i w h r e =
      ap₂ ◌||◌ (ap (I.of_record u Reads (I.inner (number o))) r ∙ inner_of slots al o h (record_at u Reads i))
      (ap (I.of_record u Writes (I.inner (number o))) e ∙ inner_of slots al o h (record_at u Writes w))

  module _ (y : P.Slot (T k j slots)) (h : SlotShown k j slots u y) where
    -- the objects read that make their homes take part
    homes_same : (s : Fin 8) → any (Mv.for_home (T k j slots) s) y.items ≡ I.any_below (count u Reads) (K.calls_home u s.0)
    homes_same s = any_items k j slots al u fit y h (Mv.for_home (T k j slots) s) ∙ any_eq (count u Reads) _ _ at
      where
        at : (i : ℕ) → i < count u Reads → Mv.for_home (T k j slots) s (item_at k j slots al u fit i) ≡ K.calls_home u s.0 i
        at i l =
            let o = obj_of (number_at u Reads i) in
            let r = record_at u Reads i in
            let e = number_obj (number_at u Reads i) in
            outer_home k j slots s o (value_of o r)
            ∙ ap₂ (λ (a b : Bool). not a && b) (sym (inner_of slots al o (read_in k j slots al u fit i l) r) ∙ ap (λ (x : ℕ). I.inner x r) e)
            (kept_home k j slots al s o (read_in k j slots al u fit i l) ∙ ap (K.at_home s.0) e)

    -- the objects written that make all take part
    pub all_same : any (Mv.for_all (T k j slots)) y.items ≡ I.any_below (count u Writes) (K.calls_all u)
    unfolding count
    all_same = any_items k j slots al u fit y h (Mv.for_all (T k j slots)) ∙ same_test _ _ there back
      where
        there : I.any_below (count u Reads) (λ i. Mv.for_all (T k j slots) (item_at k j slots al u fit i)) ≡ true → I.any_below (count u Writes) (K.calls_all u) ≡ true
        there e =
            let r = any_one (count u Reads) (λ i. Mv.for_all (T k j slots) (item_at k j slots al u fit i)) e in
            let o = obj_of (number_at u Reads r.0) in
            let t = and_both (I.has u Writes (number o)) (Mv.item_inner (T k j slots) (item_at k j slots al u fit r.0)) r.2 in
            let w = has_at u Writes (number o) t.0 in
            let f = found_at u Writes (number o) w.0 w.1 in
            let i = ap (find u Reads) (number_obj (number_at u Reads r.0)) ∙ h.read_found r.0 r.1 in
            any_at (count u Writes) (K.calls_all u) w.0 f.0
            (ap (I.inner_before_after u) f.1 ∙ both_ways o r.0 w.0 (read_in k j slots al u fit r.0 r.1) i w.1
            ∙ ap (λ v. inner o (value_of o (record_at u Reads r.0)) || inner o v) (sym (ap (new_of o r.0) w.1)) ∙ t.1)
          where
            new_of : Obj → ℕ → Found → Val
            new_of o i = new_value k j slots u o (value_of o (record_at u Reads i))

        back : I.any_below (count u Writes) (K.calls_all u) ≡ true → I.any_below (count u Reads) (λ i. Mv.for_all (T k j slots) (item_at k j slots al u fit i)) ≡ true
        back e =
            let r = any_one (count u Writes) (K.calls_all u) e in
            let x = number_at u Writes r.0 in
            let i = has_at u Reads x (written_in k j slots al u fit r.0 r.1).1 in
            let f = found_at u Reads x i.0 i.1 in
            let o = obj_of (number_at u Reads i.0) in
            let q : number o ≡ x = number_obj (number_at u Reads i.0) ∙ f.1 in
            let w : find u Writes (number o) ≡ Some r.0 = ap (find u Writes) q ∙ h.write_found r.0 r.1 in
            any_at (count u Reads) (λ i. Mv.for_all (T k j slots) (item_at k j slots al u fit i)) i.0 f.0
            (both_true (I.has u Writes (number o)) (Mv.item_inner (T k j slots) (item_at k j slots al u fit i.0)) (at_has u Writes (number o) r.0 w)
            (ap (λ v. inner o (value_of o (record_at u Reads i.0)) || inner o v) (ap (new_value k j slots u o (value_of o (record_at u Reads i.0))) w)
            ∙ sym (both_ways o i.0 r.0 (read_in k j slots al u fit i.0 f.0) (ap (find u Reads) q ∙ i.1) w)
            ∙ ap (I.inner_before_after u) q ∙ r.2))

    -- "Participants are the homes .. or all servers": the machine's are those that the client computes
    module _ (known : servers_known u ≡ true) where
      -- who writes what all servers take part for has read the metadata
      meta_read : K.all_take_part u ≡ true → (i : ℕ) × (find u Reads 0 ≡ Some i)
      unfolding servers_known K.states_read states_fit
      meta_read e = go (find u Reads 0) refl (subst (λ (b : Bool). (not b || states_fit (K.states_read u)) ≡ true) e known)
        where
          go : (f : Found) → find u Reads 0 ≡ f → states_fit (K.states_in u f) ≡ true → (i : ℕ) × (find u Reads 0 ≡ Some i)
          go (Some i) q h = (i, q)
          go None q h = absurd (false≢true h)

      -- by its states
      states_same : K.all_take_part u ≡ true → states_of (Mv.meta_read (T k j slots) y.items) ≡ K.states_read u
      unfolding K.states_read item_of
      states_same e =
          let i = meta_read e in
          ap (λ (o : Option (P.Item (T k j slots))). states_of (P.says (T k j slots) (λ i. i.old) (init k j slots meta) o)) (h.item_as meta refl ∙ ap (item_from k j slots u meta) i.1)
          ∙ sym (ap (K.states_in u) i.1)

      pub participants_same : (s : Fin 8) → Mv.participants (T k j slots) y.items s ≡ bit (K.participants_of u) s.0
      unfolding K.participants_of is_present count
      participants_same s = ap (λ (b : Bool). cond b (is_present (states_of (Mv.meta_read (T k j slots) y.items)) s.0) (any (Mv.for_home (T k j slots) s) y.items)) all_same
          ∙ go (K.all_take_part u) refl
        where
          go : (b : Bool) → K.all_take_part u ≡ b
              → cond b (is_present (states_of (Mv.meta_read (T k j slots) y.items)) s.0) (any (Mv.for_home (T k j slots) s) y.items)
              ≡ bit (cond b (present (K.states_read u)) (K.called_homes u (count u Reads))) s.0
          go true e = ap (λ (x : ℕ). bit (present x) s.0) (states_same e)
          go false e = homes_same s ∙ sym (mask_bit 8 (λ t. I.any_below (count u Reads) (K.calls_home u t)) s.0 s.1)

    -- the participants are servers of the store
    pub few_parts : K.participants_of u < 256
    unfolding K.participants_of
    few_parts = go (K.all_take_part u)
      where
        go : (b : Bool) → cond b (present (K.states_read u)) (K.called_homes u (count u Reads)) < 256
        go true = omega arith
        go false = mask_lt 8 (λ t. I.any_below (count u Reads) (K.calls_home u t))

    -- the slot after the commit
    abbrev committed_words : ClientWord → ℕ
    committed_words = changed client_words u (K.committing u)

    at : (a : ClientWord) → committed_words a ≡ last client_words (K.committing u) a (u a)
    at a = read_after client_words (K.committing u) u a

    sets : SameSets u committed_words
    unfolding K.committing
    sets = record { reads = at reads_count; writes = at writes_count; items_read = λ i n. at (item Reads i n); items_written = λ i n. at (item Writes i n) }

    pub commit_slot : servers_known u ≡ true → ¬ (K.participants_of u ≡ 0) → SlotShown k j slots committed_words (Mv.committed_slot (T k j slots) y)
    unfolding K.committing phase_of
    commit_slot known some =
        let p = at participants in
        let i = member 8 (K.participants_of u) few_parts some in
        record {
          phase_as = ap phase_of (at phase);
          item_as = λ o q. h.item_as o q ∙ sym (item_frame u committed_words k j slots sets o);
          read_found = read_frame k j slots u committed_words sets h.read_found;
          write_found = write_frame k j slots u committed_words sets h.write_found;
          inside = h.inside;
          unique = h.unique;
          participant_as = λ s. participants_same known s ∙ ap (λ (w : ℕ). bit w s.0) (sym p);
          prepared_as = λ s. h.prepared_as s ∙ ap (λ (w : ℕ). bit w s.0) (sym (at prepared));
          applied_as = λ s. h.applied_as s ∙ ap (λ (w : ℕ). bit w s.0) (sym (at applied));
          calm = λ l. absurd (omega (arith, at phase, l));
          lowest_as = λ _. lowest_same k j slots (Mv.participants (T k j slots) y.items) (K.participants_of u) (participants_same known) i.0 i.1 i.2
              ∙ ap (K.lowest_of 8) (sym p);
          housed = h.housed;
        }

module _ (k j slots : ℕ) (al : slots ≤ 1024) (m : Address → ℕ) (L : Ledger) (M : P.Machine (T k j slots)) (c : Fin (suc j)) (R : Related k j slots m L M) (fit : client_fits slots (client_of m c.0) ≡ true) (open_now : client_of m c.0 phase ≡ 1) (known : servers_known (client_of m c.0) ≡ true) (homed : Mv.homed (T k j slots) (M.slots c).items ≡ true) where
  abbrev u : ClientWord → ℕ
  u = client_of m c.0

  abbrev y : P.Slot (T k j slots)
  y = M.slots c

  -- the machine after the commit
  abbrev pub M₁ : P.Machine (T k j slots)
  M₁ = P.with_slot (T k j slots) M c (Mv.committed_slot (T k j slots) y)

  opened_at : y.phase ≡ opened
  unfolding phase_of
  opened_at = sym (R.clients c).slot.phase_as ∙ ap phase_of open_now

  pub reached₁ : Mv.Reached (T k j slots) M₁
  reached₁ = Mv.moved R.reached (Mv.commits c opened_at homed)

  slot₁ : M₁.slots c ≡ Mv.committed_slot (T k j slots) y
  slot₁ = upd_same (Fin-discrete (suc j)) M.slots c (Mv.committed_slot (T k j slots) y)

  pub commit_kept : ¬ (K.participants_of u ≡ 0) → Related k j slots (changed whole m (over (client c.0) (K.committing u))) L M₁
  unfolding K.committing
  commit_kept some =
      let v = changed client_words u (K.committing u) in
      client_related k j slots m L L M M₁ c (K.committing u) R reached₁
      (record {
        value_same = refl;
        version_same = refl;
        table_same = refl;
        lock_same = refl;
        given = λ d n. refl;
        undecided = λ d n. refl;
        slots_same = λ d n. upd_other (Fin-discrete (suc j)) M.slots c (Mv.committed_slot (T k j slots) y) d n;
        copy_same = λ d n. refl;
        said_same = λ d n. refl;
      })
      (record {
        slot = subst (SlotShown k j slots v) (sym slot₁) (commit_slot k j slots al u fit y (R.clients c).slot known some);
        copies = copies_frame k j slots u v (M.copy c) (at meta_states) (at meta_root) (at meta_version) (λ i n. at (item Copies i n)) (λ s n. at (vector_word s n))
            (R.clients c).copies;
        says = record {
          said_as = λ _. (R.clients c).says.said_as (omega (arith, open_now), omega (arith, open_now));
          given_as = λ n. (R.clients c).says.given_as (λ e. n (at op_number ∙ e)) ∙ sym waits;
          legal = λ n. subst Legal (sym waits) ((R.clients c).says.legal (λ e. n (at op_number ∙ e)));
        };
      })
      R.log_as
    where
      at : (a : ClientWord) → changed client_words u (K.committing u) a ≡ last client_words (K.committing u) a (u a)
      at a = read_after client_words (K.committing u) u a

      waits : waiting (changed client_words u (K.committing u)) ≡ waiting u
      waits t = op_of (at op_number t) (at op_key t) (at op_value t) (at op_server t)

  -- with no participant the transaction is decided and ended
  module _ (nobody : K.participants_of u ≡ 0) where
    abbrev pub M₂ : P.Machine (T k j slots)
    M₂ = P.turned (T k j slots) M₁ (upd (Fin-discrete (suc j)) M₁.slots c (Mv.decided_slot (T k j slots) (M₁.slots c))) M₁.lock M₁.said (M₁.said c ∷ M₁.log)

    abbrev pub M₃ : P.Machine (T k j slots)
    M₃ = Mv.cleared (T k j slots) M₂ c idle

    none_takes_part : (s : Fin 8) → (M₁.slots c).participant s ≡ false
    none_takes_part s =
        ap (λ (z : P.Slot (T k j slots)). z.participant s) slot₁ ∙ participants_same k j slots al u fit y (R.clients c).slot known s
        ∙ ap (λ (w : ℕ). bit w s.0) nobody ∙ zero_bit s.0

    no_parts : (done : Fin 8 → Bool) → Mv.all_parts (T k j slots) (M₁.slots c).participant done ≡ true
    no_parts done = all_in (λ s. not ((M₁.slots c).participant s) || done s) (fins 8) (λ s _. ap (λ (b : Bool). not b || done s) (none_takes_part s))

    slot₂ : M₂.slots c ≡ Mv.decided_slot (T k j slots) (M₁.slots c)
    slot₂ = upd_same (Fin-discrete (suc j)) M₁.slots c (Mv.decided_slot (T k j slots) (M₁.slots c))

    pub reached₃ : Mv.Reached (T k j slots) M₃
    reached₃ =
        Mv.moved (Mv.moved reached₁ (Mv.decides c (ap (λ (z : P.Slot (T k j slots)). z.phase) slot₁) (no_parts (M₁.slots c).prepared)))
        (Mv.ends c (ap (λ (z : P.Slot (T k j slots)). z.phase) slot₂)
        (ap (λ (z : P.Slot (T k j slots)). Mv.all_parts (T k j slots) z.participant z.applied) slot₂ ∙ no_parts (M₁.slots c).applied))

    pub commit_ends : Related k j slots (changed whole m (over (client c.0) (reset 0 u))) (notes_decision L c.0) M₃
    unfolding phase_of
    commit_ends =
        client_related k j slots m L (notes_decision L c.0) M M₃ c (reset 0 u) R reached₃
        (record {
          value_same = refl;
          version_same = refl;
          table_same = refl;
          lock_same = refl;
          given = λ d n. refl;
          undecided = λ d n. upd_other ℕ_discrete L.undecided c.0 [] d.0 (away k j slots c d n);
          slots_same = λ d n. upd_other (Fin-discrete (suc j)) M₂.slots c (P.blank (T k j slots) idle) d n
              ∙ upd_other (Fin-discrete (suc j)) M₁.slots c (Mv.decided_slot (T k j slots) (M₁.slots c)) d n
              ∙ upd_other (Fin-discrete (suc j)) M.slots c (Mv.committed_slot (T k j slots) y) d n;
          copy_same = λ d n. refl;
          said_same = λ d n. upd_other (Fin-discrete (suc j)) M.said c [] d n;
        })
        (cleared_shown k j slots M₂ c 0 (omega arith) (L.given c.0) ((notes_decision L c.0).undecided c.0) u (R.clients c).copies (λ n. absurd (n refl)))
        (ap₂ (λ (t : List Told) (l : List (List Told)). t ∷ l) ((R.clients c).says.said_as (omega (arith, open_now), omega (arith, open_now))) R.log_as)
