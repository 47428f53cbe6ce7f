-- A step that no row of the table refuses has passed every test.
use Rattle.std.specs.Prelude.{◌≡◌, refl, Bool, true, false, cond, ◌&&◌, ◌||◌, not, ℕ, ◌<◌, ◌≤◌, eqb, leb, ltb}
use Rattle.std.proofs.Common.{true≢false, arith, eq-eqb, le-leb, ltb-false, leb-false, leb-true}
use Rattle.std.proofs.lemmas.Bool.{false≢true, lt-leb}
use Rattle.base.specs.Test.{and_both}
use Rattle.client.specs.Record.{in_store}
use Rattle.steps.specs.declared.sizes.Sizes.{Sizes}
use Rattle.steps.specs.declared.step.Step.{Step}
use Rattle.steps.specs.Whole.{Address, client}
use Rattle.steps.specs.Servers.{change_of, state_suits, any_taken, version_ends, quiet}
use Rattle.steps.specs.Refusal.{first, kind_of, between, state_fits, refusal}
use Rattle.steps.specs.Passed.{Passed}

-- a row that does not hold, and those behind it
peel : (n : ℕ) (b : Bool) (r : ℕ) → 0 < n → cond b n r ≡ 0 → (b ≡ false) × (r ≡ 0)
peel n true r l e = absurd (omega arith)
peel n false r l e = (refl, e)

not_so : (b : Bool) → not b ≡ false → b ≡ true
not_so true e = refl
not_so false e = absurd (true≢false e)

-- of a test that fails, with its first half
given_half : (a b : Bool) → (a && b) ≡ false → a ≡ true → b ≡ false
given_half true b e h = e
given_half false b e h = absurd (false≢true h)

pub passed : (z : Sizes) (k : Step) (m : Address → ℕ) → refusal z k m ≡ 0 → Passed z k m
unfolding refusal first
passed z k m e =
    let gives = eqb k.kind 1 in
    let migrates = gives && eqb k.op 6 in
    let changes = leb 8 k.kind in
    let sited = migrates || between 4 5 k.kind || changes in
    let fits = state_fits (λ a. m (client k.client a)) k.server (kind_of k.kind) in
    let suits = state_suits m k.server (change_of k.kind) in
    let p4 = peel 4 (ltb 10 k.kind) _ (omega arith) e in
    let p5 = peel 5 (not changes && leb z.clients k.client) _ (omega arith) p4.1 in
    let p6 = peel 6 (gives && not (between 1 7 k.op)) _ (omega arith) p5.1 in
    let p11 = peel 11 (gives && eqb k.op 7 && not (between 1 32 k.value)) _ (omega arith) p6.1 in
    let p7 = peel 7 (sited && leb 8 k.server) _ (omega arith) p11.1 in
    let p13 = peel 13 (changes && not suits) _ (omega arith) p7.1 in
    let p14 = peel 14 (eqb k.kind 10 && any_taken m k.server) _ (omega arith) p13.1 in
    let p15 = peel 15 (changes && version_ends m) _ (omega arith) p14.1 in
    let p8 = peel 8 (migrates && not (in_store z.slots k.key)) _ (omega arith) p15.1 in
    let p9 = peel 9 (cond changes (not (quiet z m)) (not fits)) 0 (omega arith) p8.1 in
    let at : sited ≡ true → k.server < 8 = λ t. leb-false 8 k.server (given_half sited (leb 8 k.server) p7.0 t) in
    record {
      known_kind = ltb-false 10 k.kind p4.0;
      known_client = λ h. leb-false z.clients k.client (given_half (not changes) (leb z.clients k.client) p5.0 (rw (unchanged h)));
      known_op = λ h.
          let r = and_both (leb 1 k.op) (leb k.op 7) (not_so (between 1 7 k.op) (given_half gives (not (between 1 7 k.op)) p6.0 (eq-eqb k.kind 1 h))) in
          (leb-true 1 k.op r.0, leb-true k.op 7 r.1);
      known_count = λ h o.
          let lists : (gives && eqb k.op 7) ≡ true = rw (eq-eqb k.kind 1 h, eq-eqb k.op 7 o) in
          let r = and_both (leb 1 k.value) (leb k.value 32) (not_so (between 1 32 k.value) (given_half (gives && eqb k.op 7) (not (between 1 32 k.value)) p11.0 lists)) in
          (leb-true 1 k.value r.0, leb-true k.value 32 r.1);
      known_server = λ h o. at (rw (eq-eqb k.kind 1 h, eq-eqb k.op 6 o));
      known_participant = λ l h. at (rw (either migrates (between 4 5 k.kind) (rw (le-leb 4 k.kind l, le-leb k.kind 5 h))));
      known_changed = λ l. at (either (migrates || between 4 5 k.kind) changes (le-leb 8 k.kind l));
      known_node = λ h o. not_so (in_store z.slots k.key) (given_half migrates (not (in_store z.slots k.key)) p8.0 (rw (eq-eqb k.kind 1 h, eq-eqb k.op 6 o)));
      fitting = λ h. not_so fits (rw (unchanged h) at p9.0);
      suiting = λ l. not_so suits (given_half changes (not suits) p13.0 (le-leb 8 k.kind l));
      untaken = λ h. given_half (eqb k.kind 10) (any_taken m k.server) p14.0 (eq-eqb k.kind 10 h);
      rising = λ l. given_half changes (version_ends m) p15.0 (le-leb 8 k.kind l);
      quiet_now = λ l. not_so (quiet z m) (rw (le-leb 8 k.kind l) at p9.0);
    }
  where
    unchanged : k.kind ≤ 7 → leb 8 k.kind ≡ false
    unchanged h = lt-leb 8 k.kind (omega arith)

    either : (a b : Bool) → b ≡ true → (a || b) ≡ true
    either true b h = refl
    either false b h = h
