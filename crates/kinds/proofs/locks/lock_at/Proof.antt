use Rattle.server.specs.Store.{lock_step}
use Rattle.kinds.specs.Laws.Locks.{rule_back}
use Rattle.kinds.specs.Laws.Judge.{has_as}
use borrow.Author.Rules.{rules}
use Rattle.kinds.proofs.locks.lock_at.Statement.{statement}
use Rattle.kinds.proofs.locks.lock_at.Tie as tie

pub lock_at_spec : {M : Type 1} → statement M
lock_at_spec = tie.close (tie.spec
    (λ c κs. search rules)  -- server-at-requires
    (λ c. search rules)  -- mul-at
    (λ c κs. search rules)  -- numbered-requires
    (λ c. search rules)  -- sub-lock
    (λ c. search rules)  -- part-lock-start
    (λ c. search rules)  -- part-lock-end
    (λ c. search rules)  -- cast-lock
    (λ c κs. search (has_as, rules))  -- lock-requires
    (λ c. search rules)  -- same-length
    (λ c. let a = c.args in let k = c.server_at-at in rule_back a.sizes a.server k.result a.number _ (λ o. lock_step o a.writing a.client) _ _ (search rules) (search rules) (search rules) (search rules) c.lock.ensures)  -- returns
    )
