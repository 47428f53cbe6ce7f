-- Lists with an element put in or taken out, and the arrays that hold lists of numbers.
use Rattle.std.specs.Prelude.{ℕ, ◌+◌, ◌-◌, List, ◌∷◌, ◌++◌, length, take, drop, replicate}

-- l with v put in before the element at i
unfoldable pub insert_at : {A : Type 0} → ℕ → A → List A → List A
insert_at i v l = take i l ++ v ∷ drop i l

-- l without the element at i
unfoldable pub remove_at : {A : Type 0} → ℕ → List A → List A
remove_at i l = take i l ++ drop (i + 1) l

-- the array of w places that holds l at its front, and 0 after it; l has at most w (a node that is written has up to 14 keys)
unfoldable pub pad : ℕ → List ℕ → List ℕ
pad w l = l ++ replicate (w - length l) 0
