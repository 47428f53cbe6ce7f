-- An object of the store is one that every server has a lock for.
use Rattle.std.specs.Prelude.{◌≡◌, true, ℕ, ◌-◌, ◌≤◌, ◌<◌, ltb}
use Rattle.std.proofs.Common.{sym, ◌∙◌, arith, eq-eqb, ne_eqb, le-leb, ltb-true}
use Rattle.std.proofs.Math.Decide.{ℕ_discrete, dec_le}
use Rattle.std.proofs.lemmas.Bool.{lt-leb}
use Rattle.base.specs.Test.{and_both}
use Rattle.layout.specs.Block.{In}
use Rattle.layout.specs.Space.{Valid}
use Rattle.nodes.specs.Name.{server_of, slot_of, name_in_store}
use Rattle.nodes.specs.Object.{object_of}
use Rattle.server.specs.Object.{lock_of, Has}
use Rattle.client.specs.Record.{in_store, number_in_store}

pub named_in : (slots n : ℕ) → in_store slots n ≡ true → (server_of n < 8) × (slot_of n < slots)
unfolding name_in_store
named_in slots n h =
    let p = and_both (ltb (server_of n) 8) (ltb (slot_of n) slots) h in
    (ltb-true (server_of n) 8 p.0, ltb-true (slot_of n) slots p.1)

pub in_store_has : (slots x : ℕ) → number_in_store slots x ≡ true → Has slots (object_of x)
unfolding number_in_store object_of lock_of Valid In
in_store_has slots x h = go (ℕ_discrete x 0) (dec_le x 8192)
  where
    go : Dec (x ≡ 0) → Dec (x ≤ 8192) → Has slots (object_of x)
    go (yes e) d = rw (eq-eqb x 0 e) (omega arith)
    go (no e) (yes l) =
        let q : in_store slots (x - 1) ≡ true = sym (rw (ne_eqb x 0 e, le-leb x 8192 l)) ∙ h in
        let p = named_in slots (x - 1) q in
        rw (ne_eqb x 0 e, le-leb x 8192 l) (p.1, omega (arith, p.0))
    go (no e) (no l) =
        let g : 8192 < x = omega arith in
        let q : in_store slots (x - 8193) ≡ true = sym (rw (ne_eqb x 0 e, lt-leb x 8192 g)) ∙ h in
        let p = named_in slots (x - 8193) q in
        let k : x - 1 - 8192 ≡ x - 8193 = omega arith in
        rw (ne_eqb x 0 e, lt-leb x 8192 g, k) (p.1, omega arith)
