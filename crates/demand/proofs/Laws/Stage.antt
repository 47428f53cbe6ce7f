-- A client's part in the middle of a work step: the machine has moved as far, and the part shows it. A fetch is some such stages.
use Rattle.std.specs.Prelude.{◌≡◌, refl, true, false, List}
use Rattle.std.proofs.Math.Path.{ap, subst, fun_ext}
use Rattle.std.proofs.Common.{sym, ◌∙◌, arith}
use Rattle.std.proofs.Math.Option.{Option, none}
use Prim.Native.Nat.{ℕ, suc, ◌≤◌, ◌<◌, Fin}
use Rattle.std.proofs.Math.Decide.{Fin-discrete}
use Rattle.base.specs.Update.{upd}
use Rattle.base.proofs.Laws.Update.{upd_same, upd_other}
use Rattle.layout.specs.Space.{Put, changed}
use Rattle.layout.proofs.Laws.Space.{Only, changed_only}
use Rattle.layout.specs.Part.{over}
use Rattle.nodes.specs.declared.node.Node.{Node}
use Rattle.std.specs.Prelude.{None}
use Rattle.nodes.proofs.Laws.Stored.{Sized}
use Rattle.operations.specs.Object.{Obj}
use Rattle.operations.proofs.Laws.Object.{ObjDiscrete}
use Rattle.operations.specs.Operation.{Legal}
use Rattle.operations.specs.Map.{Op}
use Rattle.protocol.proofs.Laws.Changed.{upd_twice}
use Rattle.protocol.specs.State.{opened, is_decided}
use Rattle.protocol.specs.Meaning.{Shown}
use Rattle.client.specs.declared.part.Set.TheVariants.{Reads, Writes}
use Rattle.client.specs.Layout.{ClientWord, client_again, client_words, field, phase, op_number, op_key, op_value, op_server, participants, prepared, applied, reads_count}
use Rattle.client.specs.Record.{number, value_of}
use Rattle.client.specs.Sets.{find}
use Rattle.client.specs.Enter.{enter_read}
use Rattle.client.specs.Work.{op_of, waiting}
use Rattle.steps.specs.Whole.{Address, client, whole}
use Rattle.steps.proofs.Laws.Stores.{client_of, client_else}
use Rattle.demand.specs.Ledger.{Told, Ledger}
use Rattle.demand.proofs.Laws.Housed.{PlacedAt}
use Rattle.demand.proofs.Laws.Shows.{T, InStore, item_from, item_of, CopiesShown, SaidShown, ClientShown, Related, Running}
use Rattle.demand.proofs.Laws.Slots.{slot_frame}
use Rattle.demand.proofs.Laws.Kept.{away, client_related}
use Rattle.demand.proofs.Laws.CopyWords.{of_copies, sets_stay}
use Rattle.demand.proofs.Laws.Copied.{one_copy, copies_moved}
use Rattle.demand.proofs.Laws.Behind.{field_same}
use Rattle.demand.proofs.Laws.Entered.{ElseSame, ReadEntered, read_entered, slot_entered}
use Rattle.demand.proofs.Laws.Used.{copies_stay}
use Rattle.demand.proofs.Laws.Turns.{Turns}
use Rattle.protocol.specs.Machine as P
use Rattle.protocol.specs.Moves as Mv
use Rattle.demand.proofs.Laws.Store as Store

-- what was given and answered, where the phase and the operation are the same
pub said_frame : (k j slots : ℕ) (u v : ClientWord → ℕ) (given : Op) (undecided : List Told) (said : List (Shown (T k j slots)))
    → v phase ≡ u phase → v op_number ≡ u op_number → v op_key ≡ u op_key → v op_value ≡ u op_value → v op_server ≡ u op_server
    → SaidShown k j slots u given undecided said → SaidShown k j slots v given undecided said
said_frame k j slots u v given undecided said p a b d e h =
    let same : waiting v ≡ waiting u = λ t. op_of (a t) (b t) (d t) (e t) in
    record {
      said_as = λ n. h.said_as (subst Running p n);
      given_as = λ n. h.given_as (λ z. n (a ∙ z)) ∙ sym same;
      legal = λ n. subst Legal (sym same) (h.legal (λ z. n (a ∙ z)));
    }

-- as where only the read set grows
pub said_else : (k j slots : ℕ) (u v : ClientWord → ℕ) → ElseSame u v → (given : Op) (undecided : List Told) (said : List (Shown (T k j slots)))
    → SaidShown k j slots u given undecided said → SaidShown k j slots v given undecided said
said_else k j slots u v h given undecided said =
    let at : (i : ℕ) → ¬ (i ≡ 10) → v (field i) ≡ u (field i) = field_same Reads 10 u v h in
    said_frame k j slots u v given undecided said (at 0 (λ e. absurd (omega arith))) (at 1 (λ e. absurd (omega arith))) (at 2 (λ e. absurd (omega arith)))
    (at 3 (λ e. absurd (omega arith))) (at 4 (λ e. absurd (omega arith)))

module _ (k j slots : ℕ) (m : Address → ℕ) (L : Ledger) (M : P.Machine (T k j slots)) (c : Fin (suc j)) (R : Related k j slots m L M) where
  abbrev Copy : Type 0
  Copy = Option (P.Copy (T k j slots))

  -- the machine with another slot and other copies of the client
  abbrev pub machine : P.Slot (T k j slots) → (Obj → Copy) → P.Machine (T k j slots)
  machine y f = P.with_copies (T k j slots) (P.with_slot (T k j slots) M c y) (upd (Fin-discrete (suc j)) M.copy c f)

  pub record Stage (v : ClientWord → ℕ) : Type 0 where
    pub slot : P.Slot (T k j slots)
    pub copies : Obj → Copy
    pub reached : Mv.Reached (T k j slots) (machine slot copies)
    pub open_still : slot.phase ≡ opened
    pub shows : ClientShown k j slots v (L.given c.0) (L.undecided c.0) slot copies (M.said c)

  -- a step that ends at a stage
  pub stage_turns : (ps : List (Put ClientWord)) → Stage (changed client_words (client_of m c.0) ps) → Turns k j slots m (changed whole m (over (client c.0) ps)) L M c
  stage_turns ps G = record {
    machine = N;
    shows = client_related k j slots m L L M N c ps R G.reached
        (record {
          value_same = refl;
          version_same = refl;
          table_same = refl;
          lock_same = refl;
          given = λ d n. refl;
          undecided = λ d n. refl;
          slots_same = λ d n. upd_other D M.slots c G.slot d n;
          copy_same = λ d n. upd_other D M.copy c G.copies d n;
          said_same = λ d n. refl;
        })
        (coe 1 0 (t. ClientShown k j slots (changed client_words (client_of m c.0) ps) (L.given c.0) (L.undecided c.0)
        (upd_same D M.slots c G.slot t) (upd_same D M.copy c G.copies t) (M.said c)) G.shows)
        R.log_as;
    values_same = refl;
    undecided = ap (λ (y : P.Slot (T k j slots)). is_decided y.phase) (upd_same D M.slots c G.slot) ∙ ap is_decided G.open_still;
    others = λ d n. client_else m c.0 ps d.0 (away k j slots c d n);
  }
    where
      D : (a b : Fin (suc j)) → Dec (a ≡ b)
      D = Fin-discrete (suc j)

      N : P.Machine (T k j slots)
      N = machine G.slot G.copies

  -- ---- the moves
  module _ (y : P.Slot (T k j slots)) (f : Obj → Copy) (reached : Mv.Reached (T k j slots) (machine y f)) where
    -- a fetch
    pub fetches_on : y.phase ≡ opened → (s : Fin 8) (o : Obj) → Store.keeps k j slots s o ≡ true → P.find (T k j slots) y.items o ≡ none
        → Mv.Reached (T k j slots) (machine (P.with_item (T k j slots) y o (M.value s o) (M.version s o)) f)
    fetches_on open_now s o kept lacking =
        subst (Mv.Reached (T k j slots)) path
        (Mv.moved reached (Mv.fetches c s o (ap (λ (z : P.Slot (T k j slots)). z.phase) here ∙ open_now)
        (ap (λ (z : P.Slot (T k j slots)). P.find (T k j slots) z.items o) here ∙ lacking) kept))
      where
        D : (a b : Fin (suc j)) → Dec (a ≡ b)
        D = Fin-discrete (suc j)

        here : upd D M.slots c y c ≡ y
        here = upd_same D M.slots c y

        more : P.Slot (T k j slots) → P.Slot (T k j slots)
        more z = P.with_item (T k j slots) z o (M.value s o) (M.version s o)

        slots_are : upd D (upd D M.slots c y) c (more (upd D M.slots c y c)) ≡ upd D M.slots c (more y)
        slots_are = fun_ext (λ d. ap (λ z. upd D (upd D M.slots c y) c (more z) d) here ∙ upd_twice D M.slots c y (more y) d)

        path : P.with_slot (T k j slots) (machine y f) c (more (upd D M.slots c y c)) ≡ machine (more y) f
        path t = P.with_copies (T k j slots) (P.turned (T k j slots) M (slots_are t) M.lock M.said M.log) (upd D M.copy c f)

    -- other copies
    pub copies_on : (g : Obj → Copy) → ((q : Obj) → Mv.Copied (T k j slots) (machine y f) c q (g q)) → Mv.Reached (T k j slots) (machine y g)
    copies_on g h =
        subst (λ F. Mv.Reached (T k j slots) (P.with_copies (T k j slots) (P.with_slot (T k j slots) M c y) F))
        (fun_ext (λ d. upd_twice (Fin-discrete (suc j)) M.copy c f g d))
        (copies_moved k j slots (machine y f) c g reached h)

    -- the machine's copies of the client are f
    own_copies : (machine y f).copy c ≡ f
    own_copies = upd_same (Fin-discrete (suc j)) M.copy c f

    pub as_before : (q : Obj) → Mv.Copied (T k j slots) (machine y f) c q (f q)
    as_before q = subst (λ (h : Obj → Copy). Mv.Copied (T k j slots) (machine y f) c q (h q)) own_copies Mv.as_before

    -- one copy more
    pub copy_on : (o : Obj) (z : Copy) → Mv.Copied (T k j slots) (machine y f) c o z → Mv.Reached (T k j slots) (machine y (upd ObjDiscrete f o z))
    copy_on o z h =
        copies_on (upd ObjDiscrete f o z)
        (subst (λ (g : Obj → Copy). (q : Obj) → Mv.Copied (T k j slots) (machine y f) c q (upd ObjDiscrete g o z q)) own_copies (one_copy k j slots (machine y f) c o z h))

  -- ---- stores at words of copies: the transaction stays
  pub copies_stored : (v : ClientWord → ℕ) (ps : List (Put ClientWord)) → Only client_words of_copies ps → (G : Stage v) (g : Obj → Copy)
      → Mv.Reached (T k j slots) (machine G.slot g) → CopiesShown k j slots (changed client_words v ps) g → Stage (changed client_words v ps)
  copies_stored v ps h G g r shown = record {
    slot = G.slot;
    copies = g;
    reached = r;
    open_still = G.open_still;
    shows = record {
      slot = slot_frame k j slots v w (sets_stay ps v h) G.slot (at phase refl) (at participants refl) (at prepared refl) (at applied refl) G.shows.slot;
      copies = shown;
      says = said_frame k j slots v w (L.given c.0) (L.undecided c.0) (M.said c) (at phase refl) (at op_number refl) (at op_key refl) (at op_value refl) (at op_server refl) G.shows.says;
    };
  }
    where
      w : ClientWord → ℕ
      w = changed client_words v ps

      at : (a : ClientWord) → of_copies a ≡ false → w a ≡ v a
      at a e = changed_only client_words client_again of_copies ps v a h e

  -- ---- an object that a server hands out is read
  module _ (al : slots ≤ 1024) (s : Fin 8) (o : Obj) (r : Node) (sized : Sized r) (hi : InStore k j slots o) (kept : Store.keeps k j slots s o ≡ true) (value : value_of o r ≡ M.value s o) (version : r.version ≡ M.version s o) where
    pub read_stage : (v : ClientWord → ℕ) (G : Stage v) → PlacedAt k j slots G.slot.items o (value_of o r) → v reads_count < 96 → find v Reads (number o) ≡ None → find v Writes (number o) ≡ None
        → Stage (changed client_words v (enter_read (number o) r v))
    unfolding item_of
    read_stage v G placed room unread unwritten = record {
      slot = P.with_item (T k j slots) y o (value_of o r) r.version;
      copies = G.copies;
      reached = subst (λ (z : P.Slot (T k j slots)). Mv.Reached (T k j slots) (machine z G.copies)) (λ t. P.with_item (T k j slots) y o (sym value t) (sym version t))
          (fetches_on y G.copies G.reached G.open_still s o kept (G.shows.slot.item_as o hi ∙ ap (item_from k j slots v o) unread));
      open_still = G.open_still;
      shows = record {
        slot = slot_entered k j slots al v w o r E y G.shows.slot hi unread unwritten placed;
        copies = copies_stay Reads 10 v w E.other (λ e. absurd (omega arith)) (omega arith) k j slots G.copies G.shows.copies;
        says = said_else k j slots v w E.other (L.given c.0) (L.undecided c.0) (M.said c) G.shows.says;
      };
    }
      where
        y : P.Slot (T k j slots)
        y = G.slot

        w : ClientWord → ℕ
        w = changed client_words v (enter_read (number o) r v)

        E : ReadEntered v w (number o) r
        E = read_entered v (number o) r sized room
