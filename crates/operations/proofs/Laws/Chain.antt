-- Chains of entries put together and taken apart, with their counts of names and gathered pairs.
use Rattle.std.specs.Prelude.{◌≡◌, refl, Bool, true, ◌&&◌, List, [], ◌∷◌, ◌++◌, ℕ, zero, suc, ◌+◌, ◌<◌, ◌≤◌, length, take, drop}
use Rattle.std.proofs.Common.{ap, sym, ◌∙◌, subst, append_assoc, arith, lt-ltb}
use Rattle.std.proofs.lemmas.Simd.{map-map}
use Rattle.std.proofs.lemmas.List.{map-append, length-map}
use Rattle.std.proofs.Math.Decide.{ℕ_discrete}
use Rattle.base.proofs.Laws.Test.{ifd_yes, ifd_no}
use Rattle.nodes.specs.Place.{first_above}
use Rattle.operations.specs.Entry.{keys, first_key_or}
use Rattle.operations.specs.Chain.{one, Chain, tally, gather, ren}

pub one_same : (n : ℕ) → one n n ≡ 1
one_same n = ifd_yes (ℕ_discrete n n) 1 0 refl

pub one_other : (n x : ℕ) → ¬ (x ≡ n) → one n x ≡ 0
one_other n x h = ifd_no (ℕ_discrete x n) 1 0 h

-- keys that rise, from a up to z
abbrev pub Rising : ℕ → ℕ → List ℕ → Type 0
Rising a z [] = a ≤ z
Rising a z (k ∷ ks) = (a ≤ k) × Rising (suc k) z ks

pub rising_from : (a c z : ℕ) (ks : List ℕ) → a ≤ c → Rising c z ks → Rising a z ks
rising_from a c z [] h g = omega arith
rising_from a c z (k ∷ ks) h g = (omega (arith, g.0), g.1)

-- each is above a key below a
pub above_of : (key a z : ℕ) (ks : List ℕ) → key < a → Rising a z ks → first_above key ks ≡ true
above_of key a z [] h r = refl
above_of key a z (k ∷ ks) h r = ap (λ (b : Bool). b && first_above k ks) (lt-ltb key k (omega (arith, r.0))) ∙ above_of k (suc k) z ks (omega arith) r.1

pub rising_le : (a z : ℕ) (ks : List ℕ) → Rising a z ks → a ≤ z
rising_le a z [] h = h
rising_le a z (k ∷ ks) h = omega (arith, h.0, rising_le (suc k) z ks h.1)

pub rising_upto : (a b z : ℕ) (ks : List ℕ) → b ≤ z → Rising a b ks → Rising a z ks
rising_upto a b z [] i h = omega (arith, i, h)
rising_upto a b z (k ∷ ks) i h = (h.0, rising_upto (suc k) b z ks i h.1)

module _ {A : Type 0} where
  pub nxt_app : (xs ys : List (ℕ × A)) (b : ℕ) → first_key_or (xs ++ ys) b ≡ first_key_or xs (first_key_or ys b)
  nxt_app [] ys b = refl
  nxt_app (x ∷ xs) ys b = refl

  pub chain_app : (P : ℕ → ℕ → A → Type 0) (b : ℕ) (xs ys : List (ℕ × A)) → Chain P (first_key_or ys b) xs → Chain P b ys → Chain P b (xs ++ ys)
  chain_app P b [] ys h k = k
  chain_app P b (x ∷ xs) ys h k = (subst (λ c. P x.0 c x.1) (sym (nxt_app xs ys b)) h.0, chain_app P b xs ys h.1 k)

  pub chain_left : (P : ℕ → ℕ → A → Type 0) (b : ℕ) (xs ys : List (ℕ × A)) → Chain P b (xs ++ ys) → Chain P (first_key_or ys b) xs
  chain_left P b [] ys h = tt
  chain_left P b (x ∷ xs) ys h = (subst (λ c. P x.0 c x.1) (nxt_app xs ys b) h.0, chain_left P b xs ys h.1)

  pub chain_right : (P : ℕ → ℕ → A → Type 0) (b : ℕ) (xs ys : List (ℕ × A)) → Chain P b (xs ++ ys) → Chain P b ys
  chain_right P b [] ys h = h
  chain_right P b (x ∷ xs) ys h = chain_right P b xs ys h.1

  -- where every entry rises, so does the chain
  pub chain_le : (P : ℕ → ℕ → A → Type 0) → ((k b : ℕ) (s : A) → P k b s → k < b) → (b : ℕ) (xs : List (ℕ × A)) → Chain P b xs → first_key_or xs b ≤ b
  chain_le P r b [] h = omega arith
  chain_le P r b (x ∷ xs) h = omega (arith, r x.0 (first_key_or xs b) x.1 h.0, chain_le P r b xs h.1)

  pub chain_lt : (P : ℕ → ℕ → A → Type 0) → ((k b : ℕ) (s : A) → P k b s → k < b) → (b : ℕ) (xs : List (ℕ × A)) → Chain P b xs → 0 < length xs → first_key_or xs b < b
  chain_lt P r b [] h n = omega arith
  chain_lt P r b (x ∷ xs) h n = omega (arith, r x.0 (first_key_or xs b) x.1 h.0, chain_le P r b xs h.1)

  pub tally_app : (c : A → ℕ → ℕ) (xs ys : List (ℕ × A)) (x : ℕ) → tally c (xs ++ ys) x ≡ tally c xs x + tally c ys x
  tally_app c [] ys x = omega arith
  tally_app c (e ∷ es) ys x = omega (arith, tally_app c es ys x)

  pub gather_app : {B : Type 0} (f : ℕ → A → List B) (xs ys : List (ℕ × A)) → gather f (xs ++ ys) ≡ gather f xs ++ gather f ys
  gather_app f [] ys = refl
  gather_app f (e ∷ es) ys = ap (λ r. f e.0 e.1 ++ r) (gather_app f es ys) ∙ sym (append_assoc (f e.0 e.1) (gather f es) (gather f ys))

  -- what holds of a chain in one memory holds in another that agrees where the chain's things are
  pub chain_frame : {Z : Type 0} (P R : ℕ → ℕ → A → Type 0) (c : A → ℕ → ℕ) (N O : ℕ → Z)
      → ((k b : ℕ) (s : A) → ((x : ℕ) → 1 ≤ c s x → N x ≡ O x) → P k b s → R k b s)
      → (b : ℕ) (es : List (ℕ × A)) → ((x : ℕ) → 1 ≤ tally c es x → N x ≡ O x) → Chain P b es → Chain R b es
  chain_frame P R c N O f b [] g h = tt
  chain_frame P R c N O f b (e ∷ es) g h =
      (f e.0 (first_key_or es b) e.1 (λ x i. g x (omega arith)) h.0, chain_frame P R c N O f b es (λ x i. g x (omega arith)) h.1)

  -- the keys of a chain rise
  pub chain_rising : (P : ℕ → ℕ → A → Type 0) → ((k b : ℕ) (s : A) → P k b s → k < b) → (b : ℕ) (xs : List (ℕ × A)) → Chain P b xs → Rising (first_key_or xs b) b (keys xs)
  chain_rising P r b [] h = omega arith
  chain_rising P r b (x ∷ xs) h =
      (omega arith, rising_from (suc x.0) (first_key_or xs b) b (keys xs) (r x.0 (first_key_or xs b) x.1 h.0) (chain_rising P r b xs h.1))

module _ {A B : Type 0} (w : A → B) where
  pub ren_app : (xs ys : List (ℕ × A)) → ren w (xs ++ ys) ≡ ren w xs ++ ren w ys
  ren_app xs ys = map-append (λ e. (e.0, w e.1)) xs ys

  pub ren_length : (xs : List (ℕ × A)) → length (ren w xs) ≡ length xs
  ren_length xs = length-map xs (λ e. (e.0, w e.1))

  pub ren_keys : (xs : List (ℕ × A)) → keys (ren w xs) ≡ keys xs
  ren_keys xs = map-map (λ e. e.0) (λ e. (e.0, w e.1)) xs

  pub ren_take : (n : ℕ) (xs : List (ℕ × A)) → take n (ren w xs) ≡ ren w (take n xs)
  ren_take zero xs = refl
  ren_take (suc n) [] = refl
  ren_take (suc n) (x ∷ xs) = ap (λ r. (x.0, w x.1) ∷ r) (ren_take n xs)

  pub ren_drop : (n : ℕ) (xs : List (ℕ × A)) → drop n (ren w xs) ≡ ren w (drop n xs)
  ren_drop zero xs = refl
  ren_drop (suc n) [] = refl
  ren_drop (suc n) (x ∷ xs) = ren_drop n xs

  pub ren_nxt : (xs : List (ℕ × A)) (b : ℕ) → first_key_or (ren w xs) b ≡ first_key_or xs b
  ren_nxt [] b = refl
  ren_nxt (x ∷ xs) b = refl
