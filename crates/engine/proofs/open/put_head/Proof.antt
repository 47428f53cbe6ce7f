use Rattle.engine.specs.Laws.Open.{head_put}
use borrow.Author.Rules.{rules}
use Rattle.engine.proofs.open.put_head.Statement.{statement}
use Rattle.engine.proofs.open.put_head.Tie as tie

pub put_head_spec : {M : Type 1} → statement M
put_head_spec = tie.close (tie.spec
    (λ c κs. search rules)  -- write-word-requires
    (λ c κs. search rules)  -- write-word-requires-2
    (λ c κs. search rules)  -- write-word-requires-3
    (λ c. search rules)  -- same-length
    (λ c. search (head_put, rules))  -- returns
    )
