-- How a walk stopped is how the run of its plan ends.
use Rattle.std.specs.Prelude.{◌≡◌, refl, Bool, true, false, List, [], ◌∷◌, ℕ, ◌-◌, ◌≤◌, length, drop}
use Rattle.std.proofs.Common.{sym, ◌∙◌, arith, length-take, take-append-drop, le-leb}
use Rattle.std.proofs.Math.Path.{ap}
use Rattle.operations.specs.Object.{Ans, Writes}
use Rattle.operations.specs.Entry.{Entries}
use Rattle.operations.specs.Operation.{reading}
use Rattle.walk.specs.declared.walk.Stop.TheVariants.{Refused, Aborts}
use Rattle.client.specs.declared.part.Set.TheVariants.{Reads}
use Rattle.client.specs.Layout.{ClientWord, reads_count}
use Rattle.client.specs.Sets.{count}
use Rattle.client.specs.Items.{has}
use Rattle.client.specs.Have.{broken}
use Rattle.client.specs.Run.{End, lacks, aborts, gives, Ran}
use Rattle.client.specs.Lent.{InUse, used_in}
use Rattle.client.specs.Work.{waiting}
use Rattle.walk.specs.Walk.{Course, Ended, Answered, Told, is_answer, lack, room, tell, walked}
use Rattle.walk.specs.Ask.{Noted}
use Rattle.walk.specs.Laws.Begin.{walk_begins}
use Rattle.walk.specs.Lookup.{ended}
use Rattle.walk.specs.Stopped.{stop_of, Filled}
use Rattle.client.specs.Work as C

pub noted_in_use : (m : ClientWord → ℕ) (u : List ℕ) → Noted m u → InUse u
noted_in_use m u n = record { long = n.long; few = omega (arith, n.few); small = n.each }

-- a list behind whose count enough is left
pub is_filled : (u₀ items u : List ℕ) → InUse u → used_in u ≡ items → length u ≡ length u₀ → Filled u₀ items u
unfolding used_in
is_filled u₀ items [] f e k = absurd (omega (arith, f.long))
is_filled u₀ items (c ∷ v) f e k =
    let l : length items ≡ c = omega (arith, ap length e, length-take c v, f.long, f.few) in
    record { rest = drop c v; is = rw (l, ← e) (ap (λ (r : List ℕ). c ∷ r) (sym (take-append-drop c v))); kept = k }

-- ---- the walk is the client's run of the plan
reads_are : (m : ClientWord → ℕ) → m reads_count ≤ 96 → count m Reads ≡ m reads_count
unfolding count
reads_are m h = rw (le-leb (m reads_count) 96 h)

module _ (slots : ℕ) (m : ClientWord → ℕ) (h : m reads_count ≤ 96) where
  abbrev pub R : Ran
  R = C.walked slots m

  pub run_is : walked slots m (reading slots (waiting m)) [] ≡ tell slots m R.how R.used
  unfolding C.walked has
  run_is = let e : room m ≡ 96 - m reads_count = ap (λ (c : ℕ). 96 - c) (reads_are m h) in walk_begins slots m (reading slots (waiting m)) ∙ rw e

-- ---- what the walk told
pub never : {A : Type 0} (s s' : Course) → s ≡ s' → is_answer s ≡ false → is_answer s' ≡ true → A
never s s' e p q = let y : false ≡ true = sym p ∙ ap is_answer e ∙ q in let c : ◌≡◌ {A = ℕ} 0 1 = cc in absurd (omega arith)

module _ (slots : ℕ) (m : ClientWord → ℕ) where
  pub told_used : (e : End) (us : List ℕ) → (tell slots m e us).used ≡ us
  told_used (lacks a) us = refl
  told_used (aborts y) us = refl
  told_used (gives a w) us = refl

  pub record Given (e : End) (s : Course) (w : Writes) (ps : Entries) : Type 0 where
    pub answer : Ans
    pub is : e ≡ gives answer w
    pub stop : s ≡ Answered answer.0 answer.1
    pub pairs : answer.2 ≡ ps

  module _ (s : Course) (us us' : List ℕ) (w : Writes) (ps : Entries) where
    pub stops : (e : End) → tell slots m e us ≡ ended s us' w ps → is_answer s ≡ false → s ≡ stop_of (C.judge slots m e)
    stops (lacks a) t n = go (broken slots m a) refl
      where
        go : (b : Bool) → broken slots m a ≡ b → s ≡ stop_of (C.judge slots m (lacks a))
        go true p = sym (ap (λ (k : Told). k.course) t) ∙ rw p
        go false p = sym (ap (λ (k : Told). k.course) t) ∙ rw p
    stops (aborts y) t n = sym (ap (λ (k : Told). k.course) t)
    stops (gives a v) t n =
        never s (Answered a.0 a.1) (sym (ap (λ (k : Told). k.course) t)) n refl

    pub given : (e : End) → tell slots m e us ≡ ended s us' w ps → is_answer s ≡ true → Given e s w ps
    given (lacks a) t n = go (broken slots m a) refl
      where
        go : (b : Bool) → broken slots m a ≡ b → Given (lacks a) s w ps
        go true p = never (Ended Refused) s (rw p at (ap (λ (k : Told). k.course) t)) refl n
        go false p = never (Ended (lack a)) s (rw p at (ap (λ (k : Told). k.course) t)) refl n
    given (aborts y) t n = never (Ended (Aborts y)) s (ap (λ (k : Told). k.course) t) refl n
    given (gives a v) t n =
        let p : Answered a.0 a.1 ≡ s = ap (λ (k : Told). k.course) t in
        let q : v ≡ w = ap (λ (k : Told). k.writes) t ∙ rw (← p) in
        record { answer = a; is = rw q; stop = sym p; pairs = ap (λ (k : Told). k.pairs) t ∙ rw (← p) }
