-- A part of a block.
use Rattle.std.specs.Prelude.{◌≡◌, ℕ, ◌+◌, ◌≤◌}
use Rattle.layout.specs.Block.{Block, size}
use Rattle.layout.specs.Space.{Coding, at, Valid}

-- the block b lies in d from word k; address a of the part is address e a of the whole
pub record Part {A B : Type 0} (C : Coding A) (b : Block) (D : Coding B) (d : Block) (e : A → B) (k : ℕ) : Type 0 where
  pub good : (a : A) → Valid C b a → Valid D d (e a)
  pub only : (a : A) → Valid D d (e a) → Valid C b a
  pub spot : (a : A) → at D d (e a) ≡ k + at C b a
  pub room : k + size b ≤ size d
