use Rattle.std.proofs.Common.{rules}
use Rattle.show.specs.Laws.Exits.{all_printed, all_words}
use Rattle.show.proofs.show_all.Goals as goal

pub returns-clause-printed : goal.returns-clause-printed
returns-clause-printed c =
    all_printed _ _ _ _ _ _ _ _ _ _ (search rules) (search rules) c.feed-fed.ensures.came c.finish.ensures.came (search rules)

pub returns-clause-words : goal.returns-clause-words
returns-clause-words c =
    all_words _ _ _ _ _ _ _ _ _ _ (search rules) (search rules) c.feed-fed.ensures.came c.finish.ensures.came (search rules)
