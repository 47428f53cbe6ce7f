use Rattle.kinds.specs.Laws.Commit.{now_committing}
use borrow.Author.Rules.{rules}
use Rattle.kinds.proofs.commit.await_servers.Statement.{statement}
use Rattle.kinds.proofs.commit.await_servers.Tie as tie

pub await_servers_spec : {M : Type 1} → statement M
await_servers_spec = tie.close (tie.spec
    (λ c κs. search rules)  -- put-field-requires
    (λ c κs. search rules)  -- put-field-requires-2
    (λ c. search rules)  -- same-length
    (λ c. let a = c.args in now_committing a.sizes a.client a.servers _ _ (search rules) _ c.put_field.ensures c.put_field-2.ensures)  -- returns
    )
