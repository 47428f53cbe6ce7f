-- Two wrong engines don't meet demand 3: a short schedule, run by each, breaks what is claimed.
use Rattle.std.specs.Prelude.{◌≡◌, refl, true, List, [], ◌∷◌, ◌++◌, ℕ, length}
use Rattle.std.proofs.Common.{ap, sym, ◌∙◌, subst, arith}
use Rattle.std.proofs.Math.Decide.{ℕ_discrete, dec_lt}
use Rattle.operations.specs.Object.{Ans}
use Rattle.operations.specs.Map.{Map, insert, lookup}
use Rattle.server.specs.declared.place.Place.TheVariants.{Root}
use Rattle.steps.specs.declared.step.Step.{Step}
use Rattle.steps.specs.Outcome as Outcome
use Rattle.steps.specs.Whole.{Address, server, Allowed}
use Rattle.steps.specs.Servers.{there}
use Rattle.steps.specs.Run.{opened}
use Rattle.steps.specs.Taken.{Engine, Taken}
use Rattle.demand.specs.Ledger.{decided_in, map_all, RightAll}
use Rattle.demand.specs.Demand.{pairs_under, Tree, Demand, MeetsDemand3}
use Rattle.demand.specs.Wrong.{finds_none, feigns_later, ShutOut}
use Rattle.demand.proofs.Laws.Example.{taken_by, memory_by, all_small?, unlisted?, leads_there, computes, sizes, line, every_apply, all_apply, inserted}

-- begin; insert 5 with value 70, for which metadata and root are fetched; another operation; commit, prepare
abbrev steps : ℕ → ℕ → ℕ → List Step
steps op key value =
    line 0 0 0 0 ∷ line 1 1 5 70 ∷ line 2 0 0 0 ∷ line 2 0 0 0 ∷ line 2 0 0 0 ∷ line 1 op key value ∷ line 2 0 0 0 ∷ line 3 0 0 0 ∷ line 4 0 0 0 ∷ []

allowed : Allowed sizes
allowed = record { servers = (omega arith, omega arith); slots = (omega arith, omega arith); clients = (omega arith, omega arith) }

-- what is claimed of such steps
met : (f : Engine) → MeetsDemand3 f → (ks : List Step) → all_small? ks ≡ true → unlisted? f sizes (opened sizes) ks ≡ true
    → Demand sizes (taken_by f sizes (opened sizes) ks) (memory_by f sizes (opened sizes) ks)
met f claim ks t n = claim sizes allowed (taken_by f sizes (opened sizes) ks) (memory_by f sizes (opened sizes) ks) (leads_there f sizes (opened sizes) ks t n)

-- key 5 is looked up and not found
not_found : decided_in (taken_by finds_none sizes (opened sizes) (steps 2 5 0)) ≡ (record { op = lookup 5; ans = (0, 0, []) } ∷ inserted ∷ []) ∷ []
unfolding computes Outcome.line
not_found = refl

unlisted_one : unlisted? finds_none sizes (opened sizes) (steps 2 5 0) ≡ true
unfolding computes Outcome.line
unlisted_one = refl

finding_none : ¬ MeetsDemand3 finds_none
unfolding ℕ_discrete
finding_none claim =
    let wrong : ◌≡◌ {A = Ans} (0, 0, []) (1, 70, []) = (subst RightAll not_found (met finds_none claim (steps 2 5 0) refl unlisted_one).answers).1.1 refl in
    let a : ◌≡◌ {A = ℕ} 0 1 = ap (λ (p : Ans). p.0) wrong in
    omega arith

-- key 6 is inserted too, by the answer; no apply is due, and the tree has only key 5
abbrev before_applies : List Taken
before_applies = taken_by feigns_later sizes (opened sizes) (steps 1 6 60)

abbrev between : Address → ℕ
between = memory_by feigns_later sizes (opened sizes) (steps 1 6 60)

abbrev after_all : Address → ℕ
after_all = memory_by feigns_later sizes (opened sizes) (steps 1 6 60 ++ every_apply)

both_answered : decided_in before_applies ≡ (record { op = insert 6 60; ans = (1, 0, []) } ∷ inserted ∷ []) ∷ []
unfolding computes Outcome.line
both_answered = refl

one_there : (after_all (server 0 Root) ≡ 0) × (pairs_under after_all 0 ≡ (5, 70) ∷ [])
unfolding computes Outcome.line
one_there = (refl, refl)

there_still : there after_all 0 ≡ true
unfolding computes Outcome.line
there_still = refl

unlisted_both : unlisted? feigns_later sizes (opened sizes) (steps 1 6 60 ++ every_apply) ≡ true
unfolding computes Outcome.line
unlisted_both = refl

-- a tree of one pair is none of two
one_not_two : (m : Address → ℕ) (pairs : Map) → Tree m pairs → there m 0 ≡ true → m (server 0 Root) ≡ 0 → pairs_under m 0 ≡ (5, 70) ∷ [] → length pairs ≡ 2 → ⊥
one_not_two m pairs tree here root one two =
    let n : 1 ≡ length pairs = ap length (sym one ∙ ap (pairs_under m) (sym (sym (tree.named 0 (omega arith) here) ∙ root)) ∙ tree.holds) in
    omega (arith, n, two)

feigning_later : ¬ MeetsDemand3 feigns_later
unfolding ℕ_discrete dec_lt
feigning_later claim =
    one_not_two after_all (map_all (decided_in before_applies))
    ((met feigns_later claim (steps 1 6 60 ++ every_apply) refl unlisted_both).tree before_applies (taken_by feigns_later sizes between every_apply) refl all_apply)
    there_still one_there.0 one_there.1 (ap (λ l. length (map_all l)) both_answered)

pub shut_out : ShutOut
shut_out = record { finding_none = finding_none; feigning_later = feigning_later }
