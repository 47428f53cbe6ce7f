-- "Steps refused": the number of each refusal.
use Rattle.std.specs.Prelude.{ℕ, Result, Ok, Err}
use Rattle.steps.specs.declared.refusal.Refusal.{Refusal}
use Rattle.steps.specs.declared.refusal.Refusal.TheVariants.{NoHead, BadSizes, TooShort, UnknownKind, UnknownClient, UnknownOperation, UnknownServer, UnknownNode, Unfit, Damaged, BadCount, ShortOutput, UnfitServer, SlotTaken, LastMetadata}

-- "A refused step returns the first number that holds"
abbrev pub number_of : Refusal → ℕ
number_of NoHead = 1
number_of BadSizes = 2
number_of TooShort = 3
number_of UnknownKind = 4
number_of UnknownClient = 5
number_of UnknownOperation = 6
number_of UnknownServer = 7
number_of UnknownNode = 8
number_of Unfit = 9
number_of Damaged = 10
number_of BadCount = 11
number_of ShortOutput = 12
number_of UnfitServer = 13
number_of SlotTaken = 14
number_of LastMetadata = 15

-- the number by which something is refused; 0 if it isn't
abbrev pub refused_by : Result (Unit {0}) Refusal → ℕ
refused_by (Ok x) = 0
refused_by (Err r) = number_of r
