use Rattle.std.proofs.Common.{rules}
use Rattle.client.specs.Laws.Fits.{kind_of_meta, kind_of_node, kind_of_flag}
use Rattle.client.proofs.fits.kind_fits.Goals as goal

pub returns-in-Node : goal.returns-in-Node
returns-in-Node c =
    let b = c.in-Node.ensures.bounds in
    kind_of_node _ _ _ _ c.number_at.ensures _ b.0 b.1 c.item_word.ensures

pub returns-in_default : goal.returns-in_default
returns-in_default c = search (kind_of_meta, kind_of_flag, rules)
