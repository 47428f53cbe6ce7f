use Rattle.std.proofs.Common.{rules, inl, inr}
use Rattle.client.specs.Have.{meta_usable}
use Rattle.client.specs.Laws.Look.{meta_none}
use Rattle.client.proofs.lookup.meta_fits.Goals as goal

pub returns-in-Here : goal.returns-in-Here
unfolding meta_usable
returns-in-Here c = elim c.in-Here.is [ inl e ↦ rw e c.metadata_fits.ensures | inr e ↦ rw e c.metadata_fits.ensures ]

pub returns-in-Lacking : goal.returns-in-Lacking
returns-in-Lacking c = search (meta_none, rules)
