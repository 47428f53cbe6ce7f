use Rattle.kinds.specs.Laws.Change.{metadata_back}
use borrow.Author.Rules.{rules}
use Rattle.kinds.proofs.change.store_at.Statement.{statement}
use Rattle.kinds.proofs.change.store_at.Tie as tie

pub store_at_spec : {M : Type 1} → statement M
store_at_spec = tie.close (tie.spec
    (λ c κs. search rules)  -- server-at-requires
    (λ c. search rules)  -- mul-at
    (λ c. search rules)  -- sub-store-metadata
    (λ c. search rules)  -- part-store-metadata-start
    (λ c. search rules)  -- part-store-metadata-end
    (λ c κs. search rules)  -- store-metadata-requires
    (λ c. search rules)  -- same-length
    (λ c. let a = c.args in metadata_back a.sizes a.server c.server_at-at.result a.m.root a.m.states a.m.version _ _ (search rules) (search rules) (search rules) c.store_metadata.ensures)  -- returns
    )
