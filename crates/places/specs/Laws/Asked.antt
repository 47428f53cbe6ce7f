-- What was asked and answered, as a number.
use Rattle.std.specs.Prelude.{ℕ, ◌+◌, ◌*◌, ◌≤◌, ◌<◌, ◌≡◌, List}
use Rattle.std.proofs.Math.Path.{ap}
use Rattle.std.proofs.Common.{◌∙◌, arith, lt-ltb, le-ltb}
use Rattle.base.specs.Test.{one_if}
use Rattle.nodes.specs.declared.standing.KeyPlace.{KeyPlace}
use Rattle.nodes.specs.Node.{keys_of}
use Rattle.nodes.specs.Place.{key_place}
use Rattle.nodes.specs.Stored.{node_at}
use Rattle.places.specs.Asked.{asked, numbered}

pub as_number : (p : KeyPlace) (o : ℕ) → o ≡ one_if p.there → 2 * p.place + o ≡ numbered p
unfolding numbered
as_number p o e = rw e

module _ (w : List ℕ) (key c : ℕ) (e : c ≡ (node_at w 0).count) where
  pub out_of_range : 14 < c → 0 ≡ asked w key
  unfolding asked
  out_of_range h = rw (lt-ltb 14 (node_at w 0).count (omega arith))

  pub in_range : (p : KeyPlace) (r : ℕ) → c ≤ 14 → p ≡ key_place (keys_of (node_at w 0)) key → r ≡ numbered p → r ≡ asked w key
  unfolding asked
  in_range p r h a b = rw (le-ltb 14 (node_at w 0).count (omega arith)) (b ∙ ap numbered a)
