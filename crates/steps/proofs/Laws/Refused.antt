-- Laws of the refusals' numbers.
use Rattle.std.specs.Prelude.{◌≡◌, refl, ℕ, ◌-◌, [], ◌∷◌, get_or}
use Rattle.std.proofs.Common.{sym, ◌∙◌, ap, arith}
use Rattle.steps.specs.declared.refusal.Refusal.{Refusal}
use Rattle.steps.specs.declared.refusal.Refusal.TheVariants.{NoHead, BadSizes, TooShort, UnknownKind, UnknownClient, UnknownOperation, UnknownServer, UnknownNode, Unfit, Damaged, BadCount, ShortOutput, UnfitServer, SlotTaken, LastMetadata}
use Rattle.steps.specs.Refused.{number_of}

-- 0 is none of them
pub some_number : (r : Refusal) → number_of r ≡ 0 → ⊥
some_number NoHead h = omega arith
some_number BadSizes h = omega arith
some_number TooShort h = omega arith
some_number UnknownKind h = omega arith
some_number UnknownClient h = omega arith
some_number UnknownOperation h = omega arith
some_number UnknownServer h = omega arith
some_number UnknownNode h = omega arith
some_number Unfit h = omega arith
some_number Damaged h = omega arith
some_number BadCount h = omega arith
some_number ShortOutput h = omega arith
some_number UnfitServer h = omega arith
some_number SlotTaken h = omega arith
some_number LastMetadata h = omega arith

-- the refusal of a number
named : ℕ → Refusal
named n = get_or (NoHead ∷ BadSizes ∷ TooShort ∷ UnknownKind ∷ UnknownClient ∷ UnknownOperation ∷ UnknownServer ∷ UnknownNode ∷ Unfit ∷ Damaged ∷ BadCount ∷ ShortOutput ∷ UnfitServer ∷ SlotTaken ∷ LastMetadata ∷ []) (n - 1) NoHead

named_again : (r : Refusal) → named (number_of r) ≡ r
unfolding named
named_again NoHead = refl
named_again BadSizes = refl
named_again TooShort = refl
named_again UnknownKind = refl
named_again UnknownClient = refl
named_again UnknownOperation = refl
named_again UnknownServer = refl
named_again UnknownNode = refl
named_again Unfit = refl
named_again Damaged = refl
named_again BadCount = refl
named_again ShortOutput = refl
named_again UnfitServer = refl
named_again SlotTaken = refl
named_again LastMetadata = refl

-- no two have one number
pub one_refusal : (r s : Refusal) → number_of r ≡ number_of s → r ≡ s
one_refusal r s e = sym (named_again r) ∙ ap named e ∙ named_again s
