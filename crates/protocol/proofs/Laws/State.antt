-- A transaction behind its commit.
use Rattle.std.specs.Prelude.{Bool, true, false}
use Rattle.protocol.specs.State.{Phase, idle, opened, committing, decided}

abbrev pub after_commit : Phase → Bool
after_commit idle = false
after_commit opened = false
after_commit committing = true
after_commit decided = true
