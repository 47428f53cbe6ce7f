use Rattle.std.proofs.Common.{refl, rules}
use Rattle.kinds.specs.Laws.Kinds.{client_as}
use Rattle.engine.proofs.operate.store_seen.Goals as goal

pub returns : goal.returns
returns c =
    let a = c.args in let k = c.client_at-at in
    client_as a.sizes a.client k.result _ _ _ _ (search rules) (search rules) (search rules) (λ m. refl) c.enter_seen.ensures
