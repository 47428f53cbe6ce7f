-- "Outcomes: 0 refused (a number); 1 done; 2 fetched (a 0 metadata, 1 node, 2 vector; b name or server); 3 answered;
-- 4 prepared (a server); 5 decided; 6 applied (a server); 7 committed; 8 aborted (a reason). Unused are 0."
use Rattle.std.specs.Prelude.{ℕ}
use Rattle.steps.specs.declared.outcome.Outcome.{Outcome}
use Rattle.steps.specs.declared.outcome.Outcome.TheVariants.{Refused, Done, Fetched, Answered, Prepared, Decided, Applied, Committed, Aborted}
use Rattle.steps.specs.declared.outcome.Line.{Line}

-- an outcome's number, a and b
abbrev pub three : ℕ → ℕ → ℕ → Line
three n a b = record { outcome = n; a = a; b = b }

-- the number and values of each outcome; "Unused are 0."
unfoldable pub line : Outcome → Line
line (Refused n) = three 0 n 0
line Done = three 1 0 0
line (Fetched what which) = three 2 what which
line (Answered a b) = three 3 a b
line (Prepared s) = three 4 s 0
line Decided = three 5 0 0
line (Applied s) = three 6 s 0
line Committed = three 7 0 0
line (Aborted y) = three 8 y 0
