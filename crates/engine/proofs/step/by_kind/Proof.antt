use mathlib.Core.Path.{refl}
use Rattle.steps.specs.declared.step.Kind.TheVariants.{Begin, Give, Commit, Prepare, Apply, GiveUp, Lost, Unknown}
use Rattle.engine.specs.Laws.Step.{kinds, kind_leaves, change_leaves, work_leaves, list_roomy, asked, at_work}
use borrow.Author.Rules.{rules}
use Rattle.engine.proofs.step.by_kind.Statement.{statement}
use Rattle.engine.proofs.step.by_kind.Tie as tie

pub by_kind_spec : {M : Type 1} → statement M
by_kind_spec = tie.close (tie.spec
    (λ c. search rules)  -- enum-told
    (λ c κs. search (asked, rules))  -- begin-requires
    (λ c. search rules)  -- enum-told-2
    (λ c κs. search (asked, rules))  -- give-requires
    (λ c. search rules)  -- enum-told-3
    (λ c κs. (record { store = search rules; client = search (asked, rules) }, (search (at_work, rules), search (list_roomy, rules))))  -- work-requires
    (λ c. search rules)  -- enum-told-4
    (λ c κs. search (asked, rules))  -- commit-requires
    (λ c. search rules)  -- enum-told-5
    (λ c κs. record { store = search rules; client = search (asked, rules); server = search (asked, rules) })  -- prepare-requires
    (λ c. search rules)  -- enum-told-6
    (λ c κs. record { store = search rules; client = search (asked, rules); server = search (asked, rules) })  -- apply-requires
    (λ c. search rules)  -- enum-told-7
    (λ c κs. search (asked, rules))  -- give-up-requires
    (λ c. search rules)  -- enum-told-8
    (λ c κs. search (asked, rules))  -- lose-requires
    (λ c. search rules)  -- enum-known-kind
    (λ c κs. search (asked, rules))  -- change-servers-requires
    (λ c. search rules)  -- enum-told-9
    (λ c. search rules)  -- same-length
    (λ c. (search (kinds, rules), kind_leaves _ _ _ _ _ _ Begin refl (search rules)))  -- returns
    (λ c. search rules)  -- same-length-2
    (λ c. (search (kinds, rules), kind_leaves _ _ _ _ _ _ Give refl (search rules)))  -- returns-2
    (λ c. search rules)  -- same-length-3
    (λ c. search rules)  -- same-length-4
    (λ c. (search (kinds, rules), search (work_leaves, rules)))  -- returns-3
    (λ c. search rules)  -- same-length-5
    (λ c. (search (kinds, rules), kind_leaves _ _ _ _ _ _ Commit refl (search rules)))  -- returns-4
    (λ c. search rules)  -- same-length-6
    (λ c. (search (kinds, rules), kind_leaves _ _ _ _ _ _ Prepare refl (search rules)))  -- returns-5
    (λ c. search rules)  -- same-length-7
    (λ c. (search (kinds, rules), kind_leaves _ _ _ _ _ _ Apply refl (search rules)))  -- returns-6
    (λ c. search rules)  -- same-length-8
    (λ c. (search (kinds, rules), kind_leaves _ _ _ _ _ _ GiveUp refl (search rules)))  -- returns-7
    (λ c. search rules)  -- same-length-9
    (λ c. (search (kinds, rules), kind_leaves _ _ _ _ _ _ Lost refl (search rules)))  -- returns-8
    (λ c. search rules)  -- same-length-10
    (λ c. (search (kinds, rules), search (change_leaves, rules)))  -- returns-9
    (λ c. (search (kinds, rules), kind_leaves _ _ _ _ _ _ Unknown refl (search rules)))  -- returns-10
    )
