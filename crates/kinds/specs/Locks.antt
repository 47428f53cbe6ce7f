-- The locks at a server, changed object by object.
use Rattle.std.specs.Prelude.{Bool, cond, List, [], ℕ}
use Rattle.layout.specs.Space.{Put}
use Rattle.layout.specs.Step.{Does, silent}
use Rattle.layout.specs.Part.{in_part}
use Rattle.layout.specs.Sweep.{sweep}
use Rattle.server.specs.declared.place.Place.{Place}
use Rattle.nodes.specs.Object.{object_of}
use Rattle.server.specs.Object.{Has}
use Rattle.server.specs.Store.{lock_step, unlock_step}
use Rattle.client.specs.declared.part.Set.TheVariants.{Reads}
use Rattle.client.specs.Sets.{count, number_at}
use Rattle.steps.specs.declared.sizes.Sizes.{Sizes}
use Rattle.kinds.specs.declared.locks.Change.{Change}
use Rattle.kinds.specs.declared.locks.Change.TheVariants.{Lock, Unlock}
use Rattle.steps.specs.Whole.{Address, server, client, whole, block}
use Rattle.steps.specs.Uses.{Item, item_object, locked_at}
use Rattle.steps.specs.Judge.{lowest_participant}
use Rattle.steps.specs.Steps.{in_server}
use Rattle.kinds.specs.Items.{read_item}
use Rattle.kinds.specs.Judge.{of_client}
use Rattle.server.specs.Layout as Srv

abbrev pub Rule : Type 0
Rule = (Place → ℕ) → List (Put Place)

-- what a change does to an object's lock
unfoldable pub rule : Change → ℕ → Item → Rule
rule Lock c i = lock_step (item_object i) i.written c
rule Unlock c i = unlock_step (item_object i) c

-- a rule where the test holds
unfoldable pub passing : (Item → Bool) → (Item → Rule) → Item → Rule
passing t g i m = cond (t i) (g i m) []

-- a change of an item's lock at s, if it is locked there
abbrev pub change_step : Change → ℕ → ℕ → ℕ → Item → Rule
change_step k c low s i = passing (locked_at low s) (rule k c) i

-- the rule at those of the first n items that pass the test
unfoldable pub upto : (Item → Rule) → (Item → Bool) → (ℕ → Item) → ℕ → Rule
upto g t h n m = sweep Srv.places (λ i. passing t g (h i)) n m

-- the objects read that are locked at s, in the order of the read set
unfoldable pub changes : Sizes → ℕ → ℕ → Change → (Address → ℕ) → List (Put Address)
changes z c s k m =
    in_server z m c s (upto (rule k c) (locked_at (lowest_participant z m c) s) (read_item (λ a. m (client c a))) (count (λ a. m (client c a)) Reads))

-- what code did in a server's part of the whole
abbrev pub Done : Sizes → ℕ → Rule → List ℕ → List ℕ → Type 0
Done z s f w w' = Does whole (block z) (in_part (server s) f) silent w 0 w'

-- item i of the read set: its object is one of the store, and its lock is changed
unfoldable pub Knows : Sizes → List ℕ → ℕ → ℕ → Type 0
Knows z w c i = Has z.slots (object_of (number_at (of_client z w c) Reads i))

unfoldable pub Turn : Sizes → ℕ → ℕ → Change → ℕ → ℕ → List ℕ → List ℕ → Type 0
Turn z c s k low i w w' = Done z s (change_step k c low s (read_item (of_client z w c) i)) w w'
