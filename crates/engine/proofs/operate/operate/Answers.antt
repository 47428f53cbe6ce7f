use Rattle.std.proofs.Common.{refl, sym}
use Rattle.engine.specs.Laws.Work.{none_unknown, unlisted_output, list_room}
use Rattle.engine.proofs.operate.operate.Goals as goal

pub list-requires-clause-lists : goal.list-requires-clause-lists
list-requires-clause-lists c = let e = sym c.in-Listing.ensures in (e, list_room c.args.sizes _ c.args.client _ c.requires.room e)

pub returns-in-Read-clause-output : goal.returns-in-Read-clause-output
returns-in-Read-clause-output c = unlisted_output _ _ _ _ c.look.ensures.pairs

pub returns-in-Write-clause-output : goal.returns-in-Write-clause-output
returns-in-Write-clause-output c = unlisted_output _ _ _ _ c.change.ensures.pairs

pub returns-in-Unknown-clause-comes : goal.returns-in-Unknown-clause-comes
returns-in-Unknown-clause-comes c = none_unknown c.args.sizes _ c.args.client _ c.requires.waiting_client c.in-Unknown.ensures refl

pub returns-in-Unknown-clause-output : goal.returns-in-Unknown-clause-output
returns-in-Unknown-clause-output c = none_unknown c.args.sizes _ c.args.client _ c.requires.waiting_client c.in-Unknown.ensures refl
