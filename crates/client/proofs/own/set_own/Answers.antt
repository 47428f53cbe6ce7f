use Rattle.std.proofs.Common.{◌+◌, ◌*◌, ◌∙◌, ap, rules, arith}
use Rattle.std.proofs.Math.Seq.{paste}
use Rattle.std.proofs.lemmas.Slice.{put_mid-paste}
use Rattle.client.specs.Lent.{own_at}
use Rattle.client.proofs.own.set_own.Goals as goal

pub returns : goal.returns
unfolding own_at
returns c =
    put_mid-paste _ _ _ _ c.item_words.result 34 c.copy_from_slice.ensures.after (omega arith) (search rules)
    ∙ ap (λ ws. paste c.args.own.now (34 * c.args.i + 1) ws 34) c.item_words.ensures
