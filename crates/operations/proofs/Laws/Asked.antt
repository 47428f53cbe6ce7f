-- Everything written was asked for, whatever was read.
use Rattle.std.specs.Prelude.{◌≡◌, refl, Bool, true, false, cond, [], ◌∷◌, ℕ}
use Rattle.std.proofs.Common.{subst}
use Rattle.std.proofs.lemmas.Bool.{false≢true}
use Rattle.operations.specs.Object.{Obj, Ask, object, vector, fetched, Val, Ans, Writes, hit}
use Rattle.operations.proofs.Laws.Object.{written}
use Rattle.operations.specs.Map.{Op}
use Rattle.operations.specs.Operation.{reading, plan}
use Rattle.operations.proofs.Laws.Hit.{hit_eq}
use Rattle.operations.proofs.Laws.Storable.{Ends, Scope, Asks, Read, AllWell, Comes}
use Rattle.operations.proofs.Laws.Storing.{reading_ok}
use Rattle.operations.proofs.Laws.Along.{along_exec, along_checked}
use Rattle.plans.specs.Plan as P
use Rattle.plans.proofs.Laws.Walk as W

well_written : (T : Scope) (w : Writes) → AllWell T w → (o : Obj) → written w o ≡ true → T.R o
well_written T [] h o e = absurd (false≢true e)
well_written T (x ∷ w) h o e = go (hit x.0 o) refl (well_written T w h.1 o) e
  where
    go : (b : Bool) → hit x.0 o ≡ b → (written w o ≡ true → T.R o) → cond b true (written w o) ≡ true → T.R o
    go true q r z = subst T.R (hit_eq x.0 o q) h.0.0
    go false q r z = r z

-- EVERYTHING WRITTEN WAS ASKED FOR
pub written_asked : (slots : ℕ) (op : Op) (rd : Ask → Bool) (S : Ask → Val) (a : Ans) (w : Writes)
    → P.Asked (plan slots op) rd S → P.exec (plan slots op) S ≡ P.gives (a, w) → (o : Obj) → written w o ≡ true → rd (object o) ≡ true
written_asked slots op rd S a w g e =
    let Q : Ans → Writes → Type 0 = Ends T in
    let h = along_checked (Asks T) (Read T) Q (reading slots op) (reading_ok T op (λ z. absurd z) (λ a h. tt)) in
    well_written T w (subst (λ r. Comes T (W.ends r)) e (along_exec (Asks T) (Read T) Q rd S read (plan slots op) h g)).1
  where
    -- whether what is read can be stored is left open
    T : Scope
    T = record { slots = slots; N = λ n. Unit {0}; new = λ s i _ _. tt; R = λ o. rd (object o) ≡ true; Z = ⊥; A = λ a. Unit {0} }

    read : (q : Ask) → rd q ≡ true → Read T q (S q)
    read (object o) h = (h, λ z. absurd z)
    read (vector s) h = tt
    read (fetched s) h = tt
