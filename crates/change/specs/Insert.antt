-- Insert: the pair in the leaf for the key.
use Rattle.std.specs.Prelude.{cond, ℕ, ◌-◌}
use Rattle.nodes.specs.declared.node.Node.{Node}
use Rattle.nodes.specs.declared.standing.KeyPlace.{KeyPlace}
use Rattle.nodes.specs.Place.{key_place}
use Rattle.nodes.specs.Node.{keys_of}
use Rattle.nodes.specs.Change.{put_in, with_slot}
use Rattle.change.specs.declared.insert.Paired.{Paired}
use Rattle.change.specs.Rise.{widened}

-- the leaf's new content
abbrev pub paired_at : Node → ℕ → ℕ → KeyPlace → Paired
paired_at n key v p = cond p.there (record { content = widened (with_slot n (p.place - 1) v); a = 0 }) (record { content = put_in n p.place key v; a = 1 })

unfoldable pub paired : Node → ℕ → ℕ → Paired
paired n key v = paired_at n key v (key_place (keys_of n) key)
