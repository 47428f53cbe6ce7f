use Rattle.std.proofs.Common.{◌≡◌, ◌∙◌, ◌-◌, drop, length, length-drop, get_or-drop, arith}
use Rattle.memory.specs.Word.{view}
use Rattle.memory.proofs.Laws.Word.{view_length}
use Rattle.memory.proofs.Laws.Run.{read_step}
use Rattle.memory.proofs.read_words.Goals as goal

pub loop-i-preserved : goal.loop-i-preserved
loop-i-preserved c =
    let v = view c.args.s.now in
    let e : length (drop c.args.at v) ≡ length v - c.args.at = length-drop c.args.at v in
    read_step (drop c.args.at v) c.loop-i.out c.loop-i.i c.read_word.result (omega arith) (omega (arith, view_length c.args.s.now))
    c.loop-i.invariant (c.read_word.ensures ∙ rw get_or-drop)
