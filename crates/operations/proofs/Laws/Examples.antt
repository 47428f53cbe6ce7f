-- The further runs come out so, by computation.
use Rattle.std.specs.Prelude.{refl}
use Rattle.plans.specs.Walk.{used}
use Rattle.operations.proofs.Laws.Cases.{computes}
use Rattle.operations.specs.Examples.{asked, Examples}

pub examples : Examples
unfolding computes asked used
examples = record {
  root_split = refl;
  root_split_asks = refl;
  leaf_split = refl;
  inner_split = refl;
  collapse_asks = refl;
  merged_left = refl;
  inner_moved_left = refl;
  inner_moved_right = refl;
  inner_collapse = refl;
  found = refl;
  next_leaf = refl;
  previous_leaf = refl;
  next_again = (refl, refl);
  listed_across = refl;
  listed_fewer = refl;
  listed_none = refl;
  listed_enough = (refl, refl);
  leaf_moves = refl;
  leaf_moves_asks = refl;
  inner_moves = refl;
  root_moves = refl;
  unmoved = (refl, refl);
  goes_round = refl;
  passed_over = refl;
  nowhere = refl;
  closed_over = refl;
  moves_nowhere = (refl, refl);
  taken_meanwhile = refl;
  wrong_level = refl;
  own_neighbour = refl;
  not_rising = refl;
}
