-- Laws that open boolean tests and decisions.
use Rattle.std.specs.Prelude.{◌≡◌, refl, Bool, true, false, cond, ◌||◌, ◌⊎◌, ◌≤◌, eqb}
use Rattle.std.proofs.Common.{true≢false, inl, inr, arith}
use Rattle.std.proofs.lemmas.Bool.{false≢true}
use Rattle.base.specs.Test.{yes?, ifd, one_if}

-- a test is true or false, with the equation
pub bool_cases : (b : Bool) → (b ≡ true) ⊎ (b ≡ false)
bool_cases true = inl refl
bool_cases false = inr refl

pub cond_true : {A : Type 0} {b : Bool} (x y : A) → b ≡ true → cond b x y ≡ x
cond_true x y h = rw h

pub cond_false : {A : Type 0} {b : Bool} (x y : A) → b ≡ false → cond b x y ≡ y
cond_false x y h = rw h

pub or_left : (a b : Bool) → a ≡ true → (a || b) ≡ true
or_left a b h = rw h

pub or_right : (a b : Bool) → b ≡ true → (a || b) ≡ true
or_right true b h = refl
or_right false b h = h

pub or_neither : (a b : Bool) → (a || b) ≡ false → (a ≡ false) × (b ≡ false)
or_neither true b h = absurd (true≢false h)
or_neither false b h = (refl, h)

pub or_cases : (a b : Bool) → (a || b) ≡ true → (a ≡ true) ⊎ (b ≡ true)
or_cases true b h = inl refl
or_cases false b h = inr h

pub yes_of : {P : Type 0} (d : Dec P) → yes? d ≡ true → P
yes_of (yes p) h = p
yes_of (no q) h = absurd (false≢true h)

pub of_yes : {P : Type 0} (d : Dec P) → P → yes? d ≡ true
of_yes (yes p) a = refl
of_yes (no q) a = absurd (q a)

pub of_no : {P : Type 0} (d : Dec P) → (P → ⊥) → yes? d ≡ false
of_no (yes p) h = absurd (h p)
of_no (no q) h = refl

pub ifd_yes : {P A : Type 0} (d : Dec P) (x y : A) → P → ifd d x y ≡ x
ifd_yes (yes p) x y h = refl
ifd_yes (no q) x y h = absurd (q h)

pub ifd_no : {P A : Type 0} (d : Dec P) (x y : A) → (P → ⊥) → ifd d x y ≡ y
ifd_no (yes p) x y h = absurd (h p)
ifd_no (no q) x y h = refl

-- what holds of both holds of the one taken, and each may use the decision
pub ifd_all : {P A : Type 0} (d : Dec P) (x y : A) (Q : A → Type 0) → (P → Q x) → ((P → ⊥) → Q y) → Q (ifd d x y)
ifd_all (yes p) x y Q f g = f p
ifd_all (no q) x y Q f g = g q

-- a test as a number
pub one_if_small : (b : Bool) → one_if b ≤ 1
one_if_small true = omega arith
one_if_small false = omega arith

pub one_if_is : (b : Bool) → eqb (one_if b) 1 ≡ b
one_if_is true = refl
one_if_is false = refl
