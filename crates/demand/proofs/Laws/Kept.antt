-- A step changes what one client's part shows, and perhaps servers' parts; begin and give.
use Rattle.std.specs.Prelude.{◌≡◌, refl, List, [], map}
use Rattle.std.proofs.Math.Path.{ap, sym, subst}
use Rattle.std.proofs.Common.{◌∙◌, arith}
use Rattle.std.proofs.Math.Option.{Option}
use Prim.Native.Nat.{ℕ, suc, ◌<◌, Fin}
use Rattle.std.proofs.Math.Decide.{ℕ_discrete, Fin-discrete}
use Rattle.base.proofs.Laws.Update.{upd_same, upd_other}
use Rattle.layout.specs.Space.{Put, changed, puts}
use Rattle.layout.specs.Part.{over}
use Rattle.operations.specs.Object.{Obj}
use Rattle.operations.specs.Map.{Op}
use Rattle.operations.specs.Operation.{Legal}
use Rattle.protocol.specs.State.{Phase, opened}
use Rattle.client.specs.Layout.{ClientWord, client_words, phase, op_number, op_key, op_value, op_server, participants, prepared, applied, reads_count, writes_count, item, vector_word, meta_states, meta_root, meta_version}
use Rattle.client.specs.declared.part.Set.TheVariants.{Reads, Writes, Copies}
use Rattle.client.specs.Life.{reset, give_part}
use Rattle.client.specs.Part.{put_fields, put_word}
use Rattle.layout.specs.Step.{and_then}
use Rattle.client.specs.Work.{op_of, waiting}
use Rattle.steps.specs.Whole.{Address, client, whole}
use Rattle.demand.specs.Ledger.{Told, Ledger, clears, notes_op}
use Rattle.steps.proofs.Laws.Stores.{client_of, server_of, client_changed, client_else, client_servers}
use Rattle.demand.proofs.Laws.Frame.{last, read_after}
use Rattle.demand.proofs.Laws.Shows.{phase_of, T, told, SlotShown, CopiesShown, ServerShown, ClientShown, Related, Running}
use Rattle.demand.proofs.Laws.Slots.{slot_frame, copies_frame, blank_shown}
use Rattle.protocol.specs.Machine as P
use Rattle.protocol.specs.Moves as Mv

module _ (k j slots : ℕ) where
  abbrev Client : Type 0
  Client = Fin (suc j)

  -- different clients have different numbers
  pub away : (c d : Client) → ¬ (d ≡ c) → ¬ (d.0 ≡ c.0)
  away c d n e = n (native.Mathlib.Fin.val_path e)

  module _ (m m' : Address → ℕ) (L L' : Ledger) (M M' : P.Machine (T k j slots)) (c : Client) where
    -- nothing changes for another client
    pub record Others : Type 0 where
      pub part : (d : Client) → ¬ (d ≡ c) → client_of m' d.0 ≡ client_of m d.0
      pub given : (d : Client) → ¬ (d ≡ c) → L'.given d.0 ≡ L.given d.0
      pub undecided : (d : Client) → ¬ (d ≡ c) → L'.undecided d.0 ≡ L.undecided d.0
      pub slots_same : (d : Client) → ¬ (d ≡ c) → M'.slots d ≡ M.slots d
      pub copy_same : (d : Client) → ¬ (d ≡ c) → M'.copy d ≡ M.copy d
      pub said_same : (d : Client) → ¬ (d ≡ c) → M'.said d ≡ M.said d

    pub related : Related k j slots m L M → Mv.Reached (T k j slots) M' → Others
        → ClientShown k j slots (client_of m' c.0) (L'.given c.0) (L'.undecided c.0) (M'.slots c) (M'.copy c) (M'.said c)
        → ((s : Fin 8) → ServerShown k j slots (server_of m' s.0) s (M'.value s) (M'.version s) (M'.table s) (M'.lock s))
        → L'.decided ≡ map (map (told k j slots)) M'.log
        → Related k j slots m' L' M'
    related R reach O own servers log = record { reached = reach; clients = λ d. go d (Fin-discrete (suc j) d c); servers = servers; log_as = log }
      where
        ShownOf : Client → Type 0
        ShownOf d = ClientShown k j slots (client_of m' d.0) (L'.given d.0) (L'.undecided d.0) (M'.slots d) (M'.copy d) (M'.said d)

        go : (d : Client) → Dec (d ≡ c) → ShownOf d
        go d (yes e) = subst ShownOf (sym e) own
        go d (no n) =
            coe 1 0 (t. ClientShown k j slots (O.part d n t) (O.given d n t) (O.undecided d n t) (O.slots_same d n t) (O.copy_same d n t) (O.said_same d n t))
            (R.clients d)

  -- ---- fields of a client's part after a reset
  module _ (u : ClientWord → ℕ) (p : ℕ) where
    abbrev pub cleared : ClientWord → ℕ
    cleared = changed client_words u (reset p u)

    pub reset_slot : p < 2 → SlotShown k j slots cleared (P.blank (T k j slots) (phase_of p))
    unfolding reset put_word put_fields puts and_then
    reset_slot l =
        subst (λ (q : ℕ). SlotShown k j slots cleared (P.blank (T k j slots) (phase_of q))) (read_after client_words (reset p u) u phase)
        (blank_shown k j slots cleared (subst (λ (q : ℕ). q < 2) (sym (read_after client_words (reset p u) u phase)) l)
        (read_after client_words (reset p u) u reads_count) (read_after client_words (reset p u) u writes_count) (read_after client_words (reset p u) u participants)
        (read_after client_words (reset p u) u prepared) (read_after client_words (reset p u) u applied))

    pub reset_copies : (f : Obj → Option (P.Copy (T k j slots))) → CopiesShown k j slots u f → CopiesShown k j slots cleared f
    unfolding reset put_word put_fields puts and_then
    reset_copies f h =
        copies_frame k j slots u cleared f (at meta_states) (at meta_root) (at meta_version) (λ i n. at (item Copies i n)) (λ s n. at (vector_word s n)) h
      where
        at : (a : ClientWord) → cleared a ≡ last client_words (reset p u) a (u a)
        at a = read_after client_words (reset p u) u a

    pub reset_waits : cleared op_number ≡ 0
    unfolding reset put_word put_fields puts and_then
    reset_waits = read_after client_words (reset p u) u op_number

    pub reset_phase : cleared phase ≡ p
    unfolding reset put_word put_fields puts and_then
    reset_phase = read_after client_words (reset p u) u phase

  -- ---- a step whose stores are all in one client's part
  module _ (m : Address → ℕ) (L L' : Ledger) (M M' : P.Machine (T k j slots)) (c : Client) (ps : List (Put ClientWord)) (R : Related k j slots m L M) where
    abbrev m' : Address → ℕ
    m' = changed whole m (over (client c.0) ps)

    -- the machine's servers stay, and the others' transactions
    pub record Stays : Type 0 where
      pub value_same : M'.value ≡ M.value
      pub version_same : M'.version ≡ M.version
      pub table_same : M'.table ≡ M.table
      pub lock_same : M'.lock ≡ M.lock
      pub given : (d : Client) → ¬ (d ≡ c) → L'.given d.0 ≡ L.given d.0
      pub undecided : (d : Client) → ¬ (d ≡ c) → L'.undecided d.0 ≡ L.undecided d.0
      pub slots_same : (d : Client) → ¬ (d ≡ c) → M'.slots d ≡ M.slots d
      pub copy_same : (d : Client) → ¬ (d ≡ c) → M'.copy d ≡ M.copy d
      pub said_same : (d : Client) → ¬ (d ≡ c) → M'.said d ≡ M.said d

    pub client_related : Mv.Reached (T k j slots) M' → Stays
        → ClientShown k j slots (changed client_words (client_of m c.0) ps) (L'.given c.0) (L'.undecided c.0) (M'.slots c) (M'.copy c) (M'.said c)
        → L'.decided ≡ map (map (told k j slots)) M'.log
        → Related k j slots m' L' M'
    client_related reach S own log =
        related m m' L L' M M' c R reach
        (record {
          part = λ d n. client_else m c.0 ps d.0 (away c d n);
          given = S.given;
          undecided = S.undecided;
          slots_same = S.slots_same;
          copy_same = S.copy_same;
          said_same = S.said_same;
        })
        (subst (λ u. ClientShown k j slots u (L'.given c.0) (L'.undecided c.0) (M'.slots c) (M'.copy c) (M'.said c)) (sym (client_changed m c.0 ps)) own)
        (λ s. coe 1 0 (t. ServerShown k j slots (client_servers m c.0 ps s.0 t) s (S.value_same t s) (S.version_same t s) (S.table_same t s) (S.lock_same t s))
        (R.servers s))
        log

  -- the slot of a client that is cleared
  pub cleared_shown : (M : P.Machine (T k j slots)) (c : Client) (p : ℕ) → p < 2 → (given : Op) (undecided : List Told)
      (v : ClientWord → ℕ) → CopiesShown k j slots v (M.copy c) → (¬ (p ≡ 0) → undecided ≡ [])
      → ClientShown k j slots (cleared v p) given undecided ((Mv.cleared (T k j slots) M c (phase_of p)).slots c)
      (M.copy c) ((Mv.cleared (T k j slots) M c (phase_of p)).said c)
  cleared_shown M c p l given undecided v h e =
      let slot_at = upd_same (Fin-discrete (suc j)) M.slots c (P.blank (T k j slots) (phase_of p)) in
      let SaidAt = upd_same (Fin-discrete (suc j)) M.said c [] in
      coe 1 0 (t. ClientShown k j slots (cleared v p) given undecided (slot_at t) (M.copy c) (SaidAt t))
      (record {
        slot = reset_slot v p l;
        copies = reset_copies v p (M.copy c) h;
        says = record {
          said_as = λ n. e (λ z. absurd (omega (arith, n.0, reset_phase v p, z)));
          given_as = λ n. absurd (n (reset_waits v p));
          legal = λ n. absurd (n (reset_waits v p));
        };
      })

  -- ---- BEGIN
  module _ (m : Address → ℕ) (L : Ledger) (M : P.Machine (T k j slots)) (c : Client) (R : Related k j slots m L M) where
    abbrev u : ClientWord → ℕ
    u = client_of m c.0

    -- nothing but one client's slot and what it said is cleared
    pub cleared_stays : (p : Phase) (ps : List (Put ClientWord))
        → Stays m L (clears L c.0) M (Mv.cleared (T k j slots) M c p) c ps R
    cleared_stays p ps = record {
      value_same = refl;
      version_same = refl;
      table_same = refl;
      lock_same = refl;
      given = λ d n. refl;
      undecided = λ d n. upd_other ℕ_discrete L.undecided c.0 [] d.0 (away c d n);
      slots_same = λ d n. upd_other (Fin-discrete (suc j)) M.slots c (P.blank (T k j slots) p) d n;
      copy_same = λ d n. refl;
      said_same = λ d n. upd_other (Fin-discrete (suc j)) M.said c [] d n;
    }

    pub begin_kept : u phase ≡ 0
        → Related k j slots (changed whole m (over (client c.0) (reset 1 u))) (clears L c.0) (Mv.cleared (T k j slots) M c opened)
    unfolding phase_of
    begin_kept e =
        let idle_at = sym (R.clients c).slot.phase_as ∙ ap phase_of e in
        client_related m L (clears L c.0) M (Mv.cleared (T k j slots) M c opened) c (reset 1 u) R
        (Mv.moved R.reached (Mv.begins c idle_at)) (cleared_stays opened (reset 1 u))
        (cleared_shown M c 1 (omega arith) (L.given c.0) ((clears L c.0).undecided c.0) u (R.clients c).copies
        (λ _. upd_same ℕ_discrete L.undecided c.0 []))
        R.log_as

    -- ---- GIVE: no move
    module _ (op key value server : ℕ) where
      abbrev ps : List (Put ClientWord)
      ps = give_part op key value server u

      abbrev v : ClientWord → ℕ
      v = changed client_words u ps

      at : (a : ClientWord) → v a ≡ last client_words ps a (u a)
      at a = read_after client_words ps u a

      now_waits : waiting v ≡ op_of op key value server
      unfolding give_part put_fields puts
      now_waits t = op_of (at op_number t) (at op_key t) (at op_value t) (at op_server t)

      pub give_kept : Legal (op_of op key value server)
          → Related k j slots (changed whole m (over (client c.0) ps)) (notes_op L c.0 (op_of op key value server)) M
      unfolding give_part put_fields puts
      give_kept legal =
          let L' = notes_op L c.0 (op_of op key value server) in
          client_related m L L' M M c ps R R.reached
          (record {
            value_same = refl;
            version_same = refl;
            table_same = refl;
            lock_same = refl;
            given = λ d n. upd_other ℕ_discrete L.given c.0 (op_of op key value server) d.0 (away c d n);
            undecided = λ d n. refl;
            slots_same = λ d n. refl;
            copy_same = λ d n. refl;
            said_same = λ d n. refl;
          })
          (record {
            slot = slot_frame k j slots u v
                (record { reads = at reads_count; writes = at writes_count; items_read = λ i n. at (item Reads i n); items_written = λ i n. at (item Writes i n) })
                (M.slots c) (at phase) (at participants) (at prepared) (at applied) (R.clients c).slot;
            copies = copies_frame k j slots u v (M.copy c) (at meta_states) (at meta_root) (at meta_version) (λ i n. at (item Copies i n)) (λ s n. at (vector_word s n))
                (R.clients c).copies;
            says = record {
              said_as = λ n. (R.clients c).says.said_as (subst Running (at phase) n);
              given_as = λ n. upd_same ℕ_discrete L.given c.0 (op_of op key value server) ∙ sym now_waits;
              legal = λ n. subst Legal (sym now_waits) legal;
            };
          })
          R.log_as
