-- An APPLY that is due leads from a good state to a good one.
use Rattle.std.specs.Prelude.{◌≡◌, refl, Bool, true, false, cond, ◌&&◌, ◌++◌}
use Rattle.std.proofs.Common.{ap, sym, ◌∙◌, subst, arith}
use Rattle.std.proofs.Math.Option.{Option, none, some}
use Prim.Native.Nat.{ℕ, suc, ◌≤◌, Fin}
use Rattle.std.proofs.Math.Decide.{Fin-discrete}
use Rattle.base.specs.Test.{not_both}
use Rattle.base.proofs.Laws.Update.{upd_all}
use Rattle.memory.specs.Bit.{bit}
use Rattle.layout.specs.Space.{changed}
use Rattle.operations.specs.Object.{Obj, Val}
use Rattle.protocol.specs.Lists.{Among}
use Rattle.protocol.proofs.Laws.Items.{find_item}
use Rattle.client.specs.Layout.{client_words, phase, applied, participants}
use Rattle.client.specs.Record.{object_in_store}
use Rattle.client.specs.Laws.Ranges.{client_fits}
use Rattle.client.specs.Course.{noted}
use Rattle.steps.specs.Whole.{Address, whole}
use Rattle.steps.proofs.Laws.Stores.{client_of}
use Rattle.steps.specs.Steps.{in_client, applying}
use Rattle.demand.specs.Ledger.{Ledger}
use Rattle.demand.proofs.Laws.Store.{init, keeps}
use Rattle.demand.proofs.Laws.Shows.{T, InStore}
use Rattle.demand.proofs.Laws.Servers.{both_client, both_other}
use Rattle.demand.proofs.Laws.Kept.{away}
use Rattle.demand.proofs.Laws.InRange.{applied_fits}
use Rattle.demand.proofs.Laws.Turns.{store, Good, still_fits}
use Rattle.protocol.specs.Machine as P
use Rattle.protocol.specs.Moves as Mv
use Rattle.demand.proofs.Laws.Applied as A

module _ (k j slots : ℕ) where
  -- a row takes in only what is in the store
  row_outside : (y : P.Slot (T k j slots)) → ((i : P.Item (T k j slots)) → Among i y.items → InStore k j slots i.obj)
      → (new? : P.Item (T k j slots) → Bool) (f : Obj → Val) (o : Obj) → object_in_store slots o ≡ false
      → Mv.row (T k j slots) y.items new? (λ i. i.new) f o ≡ f o
  row_outside y inside new? f o h = go (P.find (T k j slots) y.items o) refl
    where
      go : (x : Option (P.Item (T k j slots))) → P.find (T k j slots) y.items o ≡ x → Mv.row (T k j slots) y.items new? (λ i. i.new) f o ≡ f o
      go none e = ap (P.says (T k j slots) (λ i. cond (new? i) i.new (f o)) (f o)) e
      go (some i) e =
          let q = find_item (T k j slots) y.items o i e in
          absurd (not_both (subst (InStore k j slots) q.1 (inside i q.0)) h)

  module _ (al : slots ≤ 1024) (few : suc j ≤ 16) (m : Address → ℕ) (L : Ledger) (M : P.Machine (T k j slots)) (c : Fin (suc j)) (G : Good k j slots m L M) (s : Fin 8) (now : client_of m c.0 phase ≡ 3) (part : bit (client_of m c.0 participants) s.0 ≡ true) (new : bit (client_of m c.0 applied) s.0 ≡ false) where
    abbrev fit : client_fits slots (client_of m c.0) ≡ true
    fit = G.decided_fits c (omega (arith, now))

    -- the memory and the machine after it
    abbrev pub m₁ : Address → ℕ
    m₁ = changed whole m (applying (store k j slots) m c.0 s.0 ++ in_client (store k j slots) m c.0 (noted applied s.0))

    abbrev pub M₁ : P.Machine (T k j slots)
    M₁ = A.M₁ k j slots al few m L M c G.shown fit s now part new

    own : client_of m₁ c.0 ≡ changed client_words (client_of m c.0) (noted applied s.0 (client_of m c.0))
    own = both_client m s.0 c.0 _ _

    pub apply_good : Good k j slots m₁ L M₁
    apply_good = record {
      shown = A.apply_kept k j slots al few m L M c G.shown fit s now part new;
      decided_fits = still_fits k j slots m m₁ L L M c G
          (λ _. subst (λ u. client_fits slots u ≡ true) (sym own) (applied_fits slots (client_of m c.0) fit s.0 s.1))
          (λ d n. both_other m s.0 c.0 _ _ d.0 (away k j slots c d n));
      outside = upd_all (Fin-discrete 8) M.value s _ (λ t f. (o : Obj) → object_in_store slots o ≡ false → f o ≡ init k j slots o)
          (λ o h. row_outside (M.slots c) (G.shown.clients c).slot.inside (λ i. i.written && keeps k j slots s i.obj) (M.value s) o h ∙ G.outside s o h) (λ t _. G.outside t);
    }
