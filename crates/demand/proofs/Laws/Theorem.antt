-- What holds in a good state: the answers of the decided transactions are the map's, and where no apply is due the tree that the servers store
-- holds it. A newly opened store is in one; that every step leads to one (`ByKind.step_after`) is put together in `ranges`.
use Rattle.std.specs.Prelude.{◌≡◌, Bool}
use Rattle.std.proofs.Math.Path.{refl, ap, sym}
use Rattle.std.proofs.Common.{◌∙◌, inl}
use Rattle.std.proofs.Math.Bool.{true, false, false≢true}
use Prim.Native.Nat.{ℕ, zero, suc, ◌≤◌, ◌<◌, Fin}
use Rattle.base.specs.Test.{not_both}
use Rattle.base.proofs.Laws.Test.{ifd_yes, ifd_no}
use Rattle.nodes.specs.Name as N
use Rattle.operations.specs.Object.{Obj, meta, node, flag, Val, root_of, taken, is_taken}
use Rattle.operations.specs.Tree.{HoldsTree}
use Rattle.operations.proofs.Laws.Object.{ObjDiscrete}
use Rattle.operations.proofs.Laws.Reading.{read_is}
use Rattle.protocol.specs.State.{is_decided}
use Rattle.protocol.specs.Machine as P
use Rattle.protocol.proofs.Laws.Claim.{Applied, claim, none_due}
use Rattle.protocol.specs.Meaning.{Meaning}
use Rattle.protocol.specs.Claim.{due_in, there_now, seat}
use Rattle.server.specs.declared.place.Place.TheVariants.{Root}
use Rattle.client.specs.Record.{in_store, value_of}
use Rattle.steps.specs.Whole.{Address, server}
use Rattle.steps.specs.Servers.{there}
use Rattle.steps.proofs.Laws.Stores.{server_of}
use Rattle.steps.specs.Steps.{node_at}
use Rattle.steps.specs.Run.{opened}
use Rattle.demand.specs.Ledger.{Ledger, blank, map_all, RightAll}
use Rattle.demand.specs.Demand as D
use Rattle.demand.proofs.Laws.Store.{no_node, no_flag, home, keeps_home, init, meaning}
use Rattle.demand.proofs.Laws.There.{there_same}
use Rattle.demand.proofs.Laws.Members.{server_is, name_server}
use Rattle.demand.proofs.Laws.Numbers.{zeroth_there}
use Rattle.demand.proofs.Laws.Shows.{T}
use Rattle.demand.proofs.Laws.Answers.{answers_right, quiet_tree}
use Rattle.demand.proofs.Laws.Opened.{opened_related}
use Rattle.demand.proofs.Laws.Turns.{decided_word, store, Good, Explained}
use Rattle.demand.proofs.Laws.Settled.{NoneDue, settled_applied}

module _ (k j slots : ℕ) (al : slots ≤ 1024) (few : suc j ≤ 16) where
  -- ---- where no apply is due, the tree
  module _ (some_slot : 1 ≤ slots) (m : Address → ℕ) (L : Ledger) (M : P.Machine (T k j slots)) (G : Good k j slots m L M) (done : Applied (T k j slots) (meaning k j slots al) M) where
    abbrev Z : Meaning (T k j slots)
    Z = meaning k j slots al

    -- a server that is there
    pub manned : (s : Fin 8) × (there_now (T k j slots) M s ≡ true)
    manned = (claim (T k j slots) Z G.shown.reached).manned

    -- what the servers store, each object at its home, and the metadata there
    abbrev Stored : Obj → Val
    Stored o = M.value (seat (T k j slots) manned.0 o) o

    holds : HoldsTree Stored (map_all L.decided)
    holds = (quiet_tree k j slots al m L M G.shown done manned.0 manned.1).0

    -- nodes and flags are at home
    at_home : (o : Obj) → ¬ (o ≡ meta) → Stored o ≡ M.value (home k j slots o) o
    at_home o n = ap (λ (s : Fin 8). M.value s o) (ifd_no (ObjDiscrete o meta) manned.0 (home k j slots o) n)

    -- "the root that all servers' metadata then name"
    abbrev pub the_root : ℕ
    the_root = root_of (Stored meta)

    pub root_named : (s : ℕ) → s < 8 → there m s ≡ true → m (server s Root) ≡ the_root
    root_named s l h =
        let t : Fin 8 = (s, l) in
        let here : there_now (T k j slots) M t ≡ true = sym (there_same k j slots m L M G.shown t) ∙ h in
        let stored : (q : Fin 8) → there_now (T k j slots) M q ≡ true → due_in (T k j slots) M q meta ≡ M.value q meta = λ q e. none_due (T k j slots) Z G.shown.reached done q meta refl (inl e) in
        ap root_of (sym ((G.shown.servers t).value_as meta refl refl) ∙ sym (stored t here) ∙ (claim (T k j slots) Z G.shown.reached).agree t manned.0 here manned.1 ∙ stored manned.0 manned.1
        ∙ ap (λ (q : Fin 8). M.value q meta) (sym (ifd_yes (ObjDiscrete meta meta) manned.0 (home k j slots meta) refl)))

    -- a taken slot is one of the store's, and its node is read at its home
    node_read : (x : ℕ) → Stored (flag x) ≡ taken true → D.node_in m x ≡ Stored (node x)
    unfolding D.node_in
    node_read x e = go (in_store slots x) refl
      where
        go : (b : Bool) → in_store slots x ≡ b → D.node_in m x ≡ Stored (node x)
        go true i =
            sym (at_home (node x) (no_node x) ∙ (G.shown.servers (home k j slots (node x))).value_as (node x) i (keeps_home k j slots (node x))
            ∙ ap (λ (q : ℕ). value_of (node x) (node_at (server_of m q) x)) (server_is k j slots (N.server_of x) (name_server k j slots x i)))
        go false i = absurd (first_flag x i (sym (G.outside (home k j slots (flag x)) (flag x) i) ∙ sym (at_home (flag x) (no_flag x)) ∙ e))
          where
            first_flag : (x : ℕ) → in_store slots x ≡ false → ¬ (init k j slots (flag x) ≡ taken true)
            first_flag zero i e = not_both (zeroth_there slots some_slot) i
            first_flag (suc x) i e = false≢true (ap is_taken e)

    pub pairs_read : D.pairs_under m the_root ≡ map_all L.decided
    pairs_read = read_is Stored (map_all L.decided) holds (D.node_in m) node_read

  -- ---- a newly opened store
  first_good : Good k j slots (opened (store k j slots)) blank (P.first_machine (T k j slots))
  first_good = record {
    shown = opened_related k j slots;
    decided_fits = λ c l. absurd (not_both (sym (ap is_decided ((opened_related k j slots).clients c).slot.phase_as) ∙ decided_word _ l) refl);
    outside = λ s o h. refl;
  }

  pub opened_explained : Explained k j slots (opened (store k j slots)) blank
  opened_explained = record { machine = P.first_machine (T k j slots); good = first_good }

  -- ---- WHAT IS CLAIMED: the answers, and where no apply is due the tree
  module _ (m : Address → ℕ) (L : Ledger) (e : Explained k j slots m L) where
    pub answers : RightAll L.decided
    answers = answers_right k j slots al m L e.machine e.good.shown

    pub tree : 1 ≤ slots → NoneDue (store k j slots) m → D.Tree m (map_all L.decided)
    tree some_slot none =
        let done = settled_applied k j slots al L m e.machine e.good none in
        record {
          root = the_root some_slot m L e.machine e.good done;
          named = root_named some_slot m L e.machine e.good done;
          attended = let w = manned some_slot m L e.machine e.good done in (w.0.0, w.0.1, there_same k j slots m L e.machine e.good.shown w.0 ∙ w.1);
          holds = pairs_read some_slot m L e.machine e.good done;
        }
