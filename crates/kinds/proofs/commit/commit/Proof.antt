use Rattle.kinds.specs.Laws.Commit.{commit_unfit, commit_ends, commit_waits}
use borrow.Author.Rules.{rules}
use Rattle.kinds.proofs.commit.commit.Statement.{statement}
use Rattle.kinds.proofs.commit.commit.Tie as tie

pub commit_spec : {M : Type 1} → statement M
commit_spec = tie.close (tie.spec
    (λ c κs. search rules)  -- fit-to-commit-requires
    (λ c. search rules)  -- same-length
    (λ c. let a = c.args in commit_unfit a.sizes a.client _ _ c.fit_to_commit.ensures (search rules))  -- returns
    (λ c κs. search rules)  -- participants-of-requires
    (λ c κs. search rules)  -- reset-at-requires
    (λ c. search rules)  -- same-length-2
    (λ c. let a = c.args in commit_ends a.sizes a.client _ _ _ c.participants_of-servers.ensures _ c.fit_to_commit.ensures (search rules) (search rules) c.reset_at.ensures)  -- returns-2
    (λ c κs. search rules)  -- await-servers-requires
    (λ c. search rules)  -- same-length-3
    (λ c. let a = c.args in commit_waits a.sizes a.client _ _ _ c.participants_of-servers.ensures _ c.fit_to_commit.ensures (search rules) (search rules) c.await_servers.ensures)  -- returns-3
    )
