use Rattle.std.proofs.Common.{◌*◌, ◌≤◌, take}
use Rattle.show.specs.Feed.{fed, Came}
use Rattle.show.proofs.feed.Given as goal

abbrev pub invariant-loop-b : goal.invariant-loop-b
invariant-loop-b l = record {
  short : l.shown.at ≤ 84 * l.b-index;
  came : Came (fed l.fn.show (take l.b-index l.input)) l.fn.mem l.fn.out 0 l.shown l.mem l.out;
}
