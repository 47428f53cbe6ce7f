-- The machine's apply is the system's: the rows that it computes from the items are those that the rules name.
use Rattle.std.specs.Prelude.{◌≡◌, refl, Bool, true, false, cond, ◌&&◌, ◌||◌, not, List, ℕ, suc}
use Rattle.std.proofs.Common.{ap, sym, ◌∙◌, subst}
use Rattle.std.proofs.Math.Path.{fun_ext}
use Rattle.base.specs.Update.{upd}
use Rattle.protocol.proofs.Laws.Changed.{upd_zip}
use Rattle.protocol.specs.Setting.{Setting}
use Rattle.protocol.specs.State.{decided, Transaction, State}
use Rattle.protocol.specs.System.{inner_before_after, after_apply, apply, Reach, after}
use Rattle.protocol.specs.Machine.{Item, says, Machine}
use Rattle.protocol.specs.Moves.{row, for_all, applied_slot, applied_at}
use Rattle.protocol.proofs.Laws.Items.{by_item}
use Rattle.protocol.proofs.Laws.Ghosts.{Ghost, item_version, transaction_of, state_of, clients_put}

-- one cell of each row, by the tests: written (w), kept (k), checked by value (b), inner (f)
value_cell : {A : Type 0} (w k : Bool) (new d v : A) → cond (w && k) new v ≡ cond w (cond k (cond w new d) v) v
value_cell true k new d v = refl
value_cell false k new d v = refl

version_cell : (b w k : Bool) (st n a v : ℕ) → cond b (cond w (cond k (suc (cond b st n)) a) a) (cond (not b && w && k) (suc n) v)
    ≡ cond w (cond k (suc (cond b st n)) (cond b a v)) (cond b a v)
version_cell true w k st n a v = refl
version_cell false true true st n a v = refl
version_cell false true false st n a v = refl
version_cell false false k st n a v = refl

table_cell : {A : Type 0} (w b : Bool) (f : A → Bool) (old new d : A) (st n v : ℕ) → (b ≡ true → (a : A) → f a ≡ false)
    → cond (w && (f old || f new)) (suc n) v ≡ cond w (cond (f old || f (cond w new d)) (suc (cond b st n)) v) v
table_cell true true f old new d st n v h = rw (h refl old, h refl new) refl
table_cell true false f old new d st n v h = refl
table_cell false b f old new d st n v h = refl

module _ (T : Setting) where
  open T use {Obj, Server, Client, eq_server, eq_client, keeps, inner, by_value, by_value_outer, init}

  module _ (m : Machine T) (g : Ghost T) (c : Client) (s : Server) where
    abbrev x : Transaction T
    x = transaction_of T (m.slots c) (g.own c)

    abbrev is : List (Item T)
    is = (m.slots c).items

    abbrev pub applied_ghost : Ghost T
    applied_ghost = record {
      own = upd eq_client g.own c (g.own c);
      versions = upd eq_server g.versions s (λ o. cond (x.written o) (cond (keeps s o) (suc (x.version_read o)) (g.versions s o)) (g.versions s o));
      current = g.current;
      history = g.history;
      log = g.log;
    }

    abbrev σ : State T
    σ = state_of T m g

    value_row : (o : Obj) → row T is (λ i. i.written && keeps s i.obj) (λ i. i.new) (m.value s) o
        ≡ cond (x.written o) (cond (keeps s o) (x.value_written o) (m.value s o)) (m.value s o)
    value_row = by_item T is (λ o z. says T (λ i. cond (i.written && keeps s i.obj) i.new (m.value s o)) (m.value s o) z
        ≡ cond (says T (λ i. i.written) false z)
        (cond (keeps s o) (says T (λ i. cond i.written i.new (init o)) (init o) z) (m.value s o)) (m.value s o))
        (λ o. refl) (λ i. value_cell i.written (keeps s i.obj) i.new (init i.obj) (m.value s i.obj))

    version_row : (o : Obj) → cond (by_value o) (cond (x.written o) (cond (keeps s o) (suc (x.version_read o)) (g.versions s o)) (g.versions s o))
        (row T is (λ i. not (by_value i.obj) && i.written && keeps s i.obj) (λ i. suc i.version) (m.version s) o)
        ≡ cond (x.written o) (cond (keeps s o) (suc (x.version_read o)) (σ.version s o)) (σ.version s o)
    version_row = by_item T is (λ o z.
        cond (by_value o) (cond (says T (λ i. i.written) false z) (cond (keeps s o) (suc (item_version T (g.own c) o z)) (g.versions s o)) (g.versions s o))
        (says T (λ i. cond (not (by_value i.obj) && i.written && keeps s i.obj) (suc i.version) (m.version s o)) (m.version s o) z)
        ≡ cond (says T (λ i. i.written) false z) (cond (keeps s o) (suc (item_version T (g.own c) o z)) (σ.version s o)) (σ.version s o))
        (λ o. refl) (λ i. version_cell (by_value i.obj) i.written (keeps s i.obj) ((g.own c).stamps i.obj) i.version
        (g.versions s i.obj) (m.version s i.obj))

    table_row : (o : Obj) → row T is (for_all T) (λ i. suc i.version) (m.table s) o
        ≡ cond (x.written o) (cond (inner_before_after T x o) (suc (x.version_read o)) (m.table s o)) (m.table s o)
    table_row = by_item T is (λ o z. says T (λ i. cond (for_all T i) (suc i.version) (m.table s o)) (m.table s o) z
        ≡ cond (says T (λ i. i.written) false z) (cond (inner o (says T (λ i. i.old) (init o) z)
        || inner o (says T (λ i. cond i.written i.new (init o)) (init o) z)) (suc (item_version T (g.own c) o z)) (m.table s o)) (m.table s o))
        (λ o. refl) (λ i. table_cell i.written (by_value i.obj) (inner i.obj) i.old i.new (init i.obj) ((g.own c).stamps i.obj)
        i.version (m.table s i.obj) (by_value_outer i.obj))

    versions_path : (state_of T (applied_at T m c s) applied_ghost).version ≡ (after_apply T σ c s).version
    versions_path = fun_ext (λ t.
        upd_zip eq_server (λ a b o. cond (by_value o) (a o) (b o)) g.versions m.version s _ _ t
        ∙ ap (λ f. upd eq_server σ.version s f t) (fun_ext version_row))

    path : state_of T (applied_at T m c s) applied_ghost ≡ after_apply T σ c s
    path i = record {
      clients = clients_put T m g c (applied_slot T (m.slots c) s) (g.own c) _ refl i;
      value = upd eq_server m.value s (fun_ext value_row i);
      version = versions_path i;
      table = upd eq_server m.table s (fun_ext table_row i);
      current = g.current;
      history = g.history;
      log = g.log;
    }

    pub apply_reach : Reach T (state_of T m g) → (m.slots c).phase ≡ decided → (m.slots c).participant s ≡ true → (m.slots c).applied s ≡ false
        → Reach T (state_of T (applied_at T m c s) applied_ghost)
    apply_reach r hp hs ha = subst (λ σ. Reach T σ) (sym path) (after r (apply c s hp hs ha))
