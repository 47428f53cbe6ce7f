-- The copies that a work step uses are of objects of the store.
use Rattle.std.proofs.Math.Path.{◌≡◌, refl}
use Rattle.std.specs.Prelude.{Bool, length, get_or}
use Rattle.std.proofs.Math.Bool.{true, false}
use mathlib.Core.List.{List, [], ◌∷◌, ◌++◌}
use Rattle.std.proofs.Math.Option.{Option, none, some}
use Prim.Native.Nat.{ℕ, zero, suc, ◌+◌, ◌-◌, ◌≤◌, ◌<◌}
use native.Mathlib.Omega.{arith}
use Rattle.std.proofs.Math.Dec.{ltb}
use borrow.Author.Tests.{ne_eqb, le-leb, lt-leb}
use Rattle.operations.specs.Object.{Obj, meta, node, flag, object, vector, fetched, Val}
use Rattle.operations.specs.Path.{TreePlan}
use Rattle.client.specs.Layout.{ClientWord}
use Rattle.client.specs.Record.{number, object_in_store, number_in_store}
use Rattle.client.specs.Have.{have}
use Rattle.client.specs.Run.{among, judged, run}
use Rattle.client.specs.Work.{walked}
use Rattle.walk.specs.Laws.Ask.{name_below}
use Rattle.plans.specs.Plan as P

module _ (slots : ℕ) where
  -- all of these numbers are of objects of the store
  unfoldable pub Stored : List ℕ → Type 0
  Stored [] = Unit {0}
  Stored (x ∷ us) = (number_in_store slots x ≡ true) × Stored us

  stored_more : (us : List ℕ) (x : ℕ) → Stored us → number_in_store slots x ≡ true → Stored (us ++ (x ∷ []))
  unfolding Stored
  stored_more [] x h t = (t, tt)
  stored_more (y ∷ us) x h t = (h.0, stored_more us x h.1 t)

  pub stored_at : (us : List ℕ) (i : ℕ) → Stored us → i < length us → number_in_store slots (get_or us i 0) ≡ true
  unfolding Stored
  stored_at [] i h l = absurd (omega arith)
  stored_at (x ∷ us) zero h l = h.0
  stored_at (x ∷ us) (suc i) h l = stored_at us i h.1 (omega arith)

  number_there : (o : Obj) → object_in_store slots o ≡ true → number_in_store slots (number o) ≡ true
  unfolding number_in_store
  number_there meta t = refl
  number_there (node n) t =
      let b = name_below slots n t in
      let d : 1 + n ≡ 0 → ⊥ = λ q. omega arith in
      let l : 1 + n ≤ 8192 = omega arith in
      let e : 1 + n - 1 ≡ n = omega arith in
      rw (ne_eqb (1 + n) 0 d, le-leb (1 + n) 8192 l, e) t
  number_there (flag n) t =
      let d : 8193 + n ≡ 0 → ⊥ = λ q. omega arith in
      let l : 8192 < 8193 + n = omega arith in
      let e : 8193 + n - 8193 ≡ n = omega arith in
      rw (ne_eqb (8193 + n) 0 d, lt-leb (8193 + n) 8192 l, e) t

  had_there : (m : ClientWord → ℕ) (o : Obj) (v : Val) → have slots m (object o) ≡ some v → number_in_store slots (number o) ≡ true
  unfolding have
  had_there m o v e = go (object_in_store slots o) refl
    where
      go : (b : Bool) → object_in_store slots o ≡ b → number_in_store slots (number o) ≡ true
      go true p = number_there o p
      go false p = let q : none ≡ some v = rw (have, p) at e in let c : ◌≡◌ {A = ℕ} 0 1 = cc in absurd (omega arith)

  judged_stored : (p : TreePlan) (x : ℕ) (us : List ℕ) → Stored us → number_in_store slots x ≡ true → Stored (judged p x us).used
  judged_stored (P.ask a k) x us h t = h
  judged_stored (P.done r) x us h t = h
  judged_stored (P.fail y) x us h t = stored_more us x h t

  module _ (m : ClientWord → ℕ) (new : ℕ → Bool) (room : ℕ) where
    run_stored : (p : TreePlan) (us : List ℕ) → Stored us → Stored (run (have slots m) new room p us).used
    unfolding run
    run_stored (P.ask (object o) k) us h =
        go (have slots m (object o)) refl (new (number o)) refl (among (number o) us) refl (ltb (length us) room) refl (λ v. run_stored (k v))
      where
        go : (f : Option Val) → have slots m (object o) ≡ f → (a : Bool) → new (number o) ≡ a → (b : Bool) → among (number o) us ≡ b → (d : Bool) → ltb (length us) room ≡ d
            → ((v : Val) (vs : List ℕ) → Stored vs → Stored (run (have slots m) new room (k v) vs).used) → Stored (run (have slots m) new room (P.ask (object o) k) us).used
        go none e a pa b pb d pd ih = rw (run, e) h
        go (some v) e true pa true pb d pd ih = rw (run, e, pa, pb) (ih v us h)
        go (some v) e true pa false pb true pd ih = rw (run, e, pa, pb, pd) (ih v (us ++ (number o ∷ [])) (stored_more us (number o) h (had_there m o v e)))
        go (some v) e true pa false pb false pd ih = rw (run, e, pa, pb, pd) (judged_stored (k v) (number o) us h (had_there m o v e))
        go (some v) e false pa b pb d pd ih = rw (run, e, pa) (ih v us h)
    run_stored (P.ask (vector s) k) us h = go (have slots m (vector s)) refl (λ v. run_stored (k v) us h)
      where
        go : (f : Option Val) → have slots m (vector s) ≡ f → ((v : Val) → Stored (run (have slots m) new room (k v) us).used) → Stored (run (have slots m) new room (P.ask (vector s) k) us).used
        go none e ih = rw (run, e) h
        go (some v) e ih = rw (run, e) (ih v)
    run_stored (P.ask (fetched s) k) us h = go (have slots m (fetched s)) refl (λ v. run_stored (k v) us h)
      where
        go : (f : Option Val) → have slots m (fetched s) ≡ f → ((v : Val) → Stored (run (have slots m) new room (k v) us).used) → Stored (run (have slots m) new room (P.ask (fetched s) k) us).used
        go none e ih = rw (run, e) h
        go (some v) e ih = rw (run, e) (ih v)
    run_stored (P.done r) us h = h
    run_stored (P.fail y) us h = h

  -- of a work step
  pub used_stored : (m : ClientWord → ℕ) → Stored (walked slots m).used
  unfolding walked Stored
  used_stored m = run_stored m _ _ _ [] tt
