use Rattle.server.specs.Store.{unlock_step}
use Rattle.kinds.specs.Laws.Locks.{rule_back}
use Rattle.kinds.specs.Laws.Judge.{has_as}
use borrow.Author.Rules.{rules}
use Rattle.kinds.proofs.locks.unlock_at.Statement.{statement}
use Rattle.kinds.proofs.locks.unlock_at.Tie as tie

pub unlock_at_spec : {M : Type 1} → statement M
unlock_at_spec = tie.close (tie.spec
    (λ c κs. search rules)  -- server-at-requires
    (λ c. search rules)  -- mul-at
    (λ c κs. search rules)  -- numbered-requires
    (λ c. search rules)  -- sub-unlock
    (λ c. search rules)  -- part-unlock-start
    (λ c. search rules)  -- part-unlock-end
    (λ c. search rules)  -- cast-unlock
    (λ c κs. search (has_as, rules))  -- unlock-requires
    (λ c. search rules)  -- same-length
    (λ c. let a = c.args in let k = c.server_at-at in rule_back a.sizes a.server k.result a.number _ (λ o. unlock_step o a.client) _ _ (search rules) (search rules) (search rules) (search rules) c.unlock.ensures)  -- returns
    )
