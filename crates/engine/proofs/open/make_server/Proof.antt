use Rattle.server.specs.Laws.Layout.{states_valid}
use Rattle.server.specs.Laws.Fresh.{first_node_valid, first_flag_valid}
use Rattle.engine.specs.Laws.Open.{server_exits}
use borrow.Author.Rules.{rules}
use Rattle.engine.proofs.open.make_server.Statement.{statement}
use Rattle.engine.proofs.open.make_server.Tie as tie

pub make_server_spec : {M : Type 1} → statement M
make_server_spec = tie.close (tie.spec
    (λ c κs. search rules)  -- first-states-requires
    (λ c κs. search (states_valid, rules))  -- put-word-requires
    (λ c κs. search (first_node_valid, rules))  -- put-word-requires-2
    (λ c κs. search (first_flag_valid, rules))  -- put-word-requires-3
    (λ c. search rules)  -- same-length
    (λ c. search (server_exits, rules))  -- returns
    (λ c. search rules)  -- same-length-2
    (λ c. search (server_exits, rules))  -- returns-2
    )
