-- A part within the whole: "Each server's part of the memory is lent on by itself to be written."
use Rattle.std.specs.Prelude.{List, [], ◌∷◌, ℕ}
use Rattle.layout.specs.Space.{Put, put}

-- stores in a part as stores in the whole
unfoldable pub over : {A B : Type 0} → (A → B) → List (Put A) → List (Put B)
over e [] = []
over e (put a v ∷ ps) = put (e a) v ∷ over e ps

-- a step of a part, and its answer, as one of the whole
unfoldable pub in_part : {A B : Type 0} → (A → B) → ((A → ℕ) → List (Put A)) → (B → ℕ) → List (Put B)
in_part e g m = over e (g (λ a. m (e a)))
