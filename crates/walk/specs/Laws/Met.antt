-- What a question meets, told apart further than a lookup does: a copy that would be object 97, and what is out of range.
use Rattle.std.specs.Prelude.{Bool, true, false, cond, List, ℕ, ◌+◌, ltb, length}
use Rattle.nodes.specs.declared.node.Node.{Node}
use Rattle.nodes.specs.Found.{Found}
use Rattle.std.specs.Prelude.{Some, None}
use Rattle.nodes.specs.Node.{free_node}
use Rattle.client.specs.declared.part.Set.TheVariants.{Reads}
use Rattle.client.specs.Layout.{ClientWord}
use Rattle.client.specs.Sets.{count}
use Rattle.client.specs.Have.{Look, is_found, is_copied, source, look_fits}
use Rattle.client.specs.Run.{among}
use Rattle.client.specs.Lent.{own_find, own_record, used_in, pushed}

-- Here: in a set, or a copy already in use. Copied: a copy that is not in use yet. Full: a copy that would be object 97. Lacking: to be fetched.
-- Broken: out of range.
pub data Way : Type 0 where
  Here : Way
  Copied : Way
  Full : Way
  Lacking : Way
  Broken : Way

-- with the object's record
pub record Met : Type 0 where
  pub how : Way
  pub node : Node

abbrev pub here : Node → Met
here r = record { how = Here; node = r }

abbrev pub copy : Node → Met
copy r = record { how = Copied; node = r }

abbrev pub full : Node → Met
full r = record { how = Full; node = r }

abbrev pub lacking : Met
lacking = record { how = Lacking; node = free_node 0 }

abbrev pub unfit : Met
unfit = record { how = Broken; node = free_node 0 }

-- a copy that comes into use
abbrev pub is_new : Way → Bool
is_new Here = false
is_new Copied = true
is_new Full = false
is_new Lacking = false
is_new Broken = false

-- a copy that is in use already is at hand; "object 97 would be read"
unfoldable pub taken_up : (ClientWord → ℕ) → List ℕ → ℕ → Node → Met
taken_up m u x r = cond (among x (used_in u)) (here r) (cond (ltb (count m Reads + length (used_in u)) 96) (copy r) (full r))

module _ (slots : ℕ) (m : ClientWord → ℕ) (w u : List ℕ) where
  abbrev pub in_part : ℕ → Look → Met
  in_part x l = cond (is_found l.how) (cond (look_fits slots m x l) (cond (is_copied l.how) (taken_up m u x l.node) (here l.node)) unfit) lacking

  abbrev pub or_in_part : ℕ → Found → Met
  or_in_part x (Some i) = here (own_record w i)
  or_in_part x None = in_part x (source m x)

  -- the object with the number x: w are the own writes, u the copies in use
  unfoldable pub looked : ℕ → Met
  looked x = or_in_part x (own_find w x)

-- a copy that comes into use is at hand, and is one of those used
unfoldable pub at_hand : Met → Met
at_hand l = cond (is_new l.how) (here l.node) l

unfoldable pub used_after : Met → List ℕ → ℕ → List ℕ
used_after l u x = cond (is_new l.how) (pushed u x) u
