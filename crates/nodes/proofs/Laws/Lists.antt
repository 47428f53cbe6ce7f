-- Lengths and parts of lists with an element put in or taken out, and of the arrays that hold them.
use Rattle.std.specs.Prelude.{ℕ, zero, suc, ◌+◌, ◌-◌, ◌≤◌, ◌<◌, ◌≡◌, refl, List, [], ◌∷◌, ◌++◌, length, take, drop, get_or, set, replicate}
use Rattle.std.proofs.Common.{sym, ◌∙◌, append-nil, arith, add-one, length-append, length-drop, length-set, take_at, length-take-le, take-take, get_or-drop}
use Rattle.std.proofs.Math.Nat.{sub-zero}
use Rattle.std.proofs.lemmas.List.{length-replicate, set-append_left}
use Rattle.std.proofs.Math.Seq.{paste, paste-zero, paste-suc, drop-append-add, take-nil, append_snoc}
use Rattle.nodes.specs.Lists.{insert_at, remove_at, pad}

-- ---- laws
pub length_insert : {A : Type 0} (i : ℕ) (v : A) (l : List A) → i ≤ length l → length (insert_at i v l) ≡ length l + 1
unfolding insert_at
length_insert i v l h = simp (length-append, length-take-le i l h, length-drop) (omega arith)

pub length_remove : {A : Type 0} (i : ℕ) (l : List A) → i < length l → length (remove_at i l) ≡ length l - 1
unfolding remove_at
length_remove i l h = let le : i ≤ length l = omega arith in simp (length-append, length-take-le i l le, length-drop) (omega arith)

pub drop_take : {A : Type 0} (k n : ℕ) (l : List A) → drop k (take n l) ≡ take (n - k) (drop k l)
drop_take zero n l = simp sub-zero
drop_take (suc k) zero l = let e : 0 - suc k ≡ 0 = omega arith in rw e
drop_take (suc k) (suc n) [] = sym (take-nil (suc n - suc k))
drop_take (suc k) (suc n) (x ∷ l) = let e : suc n - suc k ≡ n - k = omega arith in rw e (drop_take k n l)

drop_replicate : (n k v : ℕ) → drop k (replicate n v) ≡ replicate (n - k) v
drop_replicate n zero v = simp sub-zero
drop_replicate zero (suc k) v = let e : 0 - suc k ≡ 0 = omega arith in rw e
drop_replicate (suc n) (suc k) v = let e : suc n - suc k ≡ n - k = omega arith in rw e (drop_replicate n k v)

pub take_pad : (w : ℕ) (l : List ℕ) (n : ℕ) → length l ≡ n → take n (pad w l) ≡ l
unfolding pad
take_pad w l n e = take_at l _ n e

pub length_pad : (w : ℕ) (l : List ℕ) → length l ≤ w → length (pad w l) ≡ w
unfolding pad
length_pad w l h = simp (length-append, length-replicate) (omega arith)

pub pad_full : (w : ℕ) (l : List ℕ) → length l ≡ w → pad w l ≡ l
unfolding pad
pad_full w l e = let z : w - length l ≡ 0 = omega arith in rw (z, append-nil)

pub set_pad : (w : ℕ) (l : List ℕ) (i v : ℕ) → i < length l → set (pad w l) i v ≡ pad w (set l i v)
unfolding pad
set_pad w l i v h = rw (length-set l i v) (set-append_left l _ i v h)

-- ---- what the functions on arrays leave
-- i of the n elements are copied
pub record Copied (d₀ : List ℕ) (at : ℕ) (s : List ℕ) (from n : ℕ) (d : List ℕ) (i : ℕ) : Type 0 where
  pub within : i ≤ n
  pub long : length d ≡ length d₀
  pub is : d ≡ paste d₀ at (drop from s) i

module _ (d₀ : List ℕ) (at : ℕ) (s : List ℕ) (from n : ℕ) where
  pub copied_none : Copied d₀ at s from n d₀ 0
  copied_none = record { within = omega arith; long = refl; is = paste-zero d₀ at (drop from s) }

  pub copied_more : (d : List ℕ) (i : ℕ) → (at + n ≤ length d₀) × (from + n ≤ length s) → i < n → Copied d₀ at s from n d i
      → Copied d₀ at s from n (set d (at + i) (get_or s (from + i) 0)) (i + 1)
  copied_more d i pre h c =
      let l : length (drop from s) ≡ length s - from = length-drop from s in
      let hd : at + i < length d₀ = omega arith in
      let hs : i < length (drop from s) = omega arith in
      record {
        within = omega arith;
        long = simp length-set c.long;
        is = rw (c.is, add-one, ← get_or-drop from s i 0) (paste-suc d₀ at (drop from s) i 0 hd hs);
      }

  pub copied_all : (d : List ℕ) (i : ℕ) → n ≤ i → Copied d₀ at s from n d i → d ≡ paste d₀ at (drop from s) n
  copied_all d i h c = let e : i ≡ n = omega arith in rw (← e) c.is

-- a copy behind what an array holds
paste_pad : (w : ℕ) (l s : List ℕ) (k n : ℕ) → length l ≡ k → k + n ≤ w → n ≤ length s → paste (pad w l) k s n ≡ pad w (l ++ take n s)
unfolding pad
paste_pad w l s k n e h hs =
    let z : List ℕ = replicate (w - length l) 0 in
    let e₂ : length (l ++ take n s) ≡ k + n = simp (length-append, length-take-le n s hs) (omega arith) in
    let e₃ : w - length (l ++ take n s) ≡ w - length l - n = omega arith in
    let d : drop (k + n) (l ++ z) ≡ replicate (w - length (l ++ take n s)) 0 =
    rw (e₃, ← e) (drop-append-add l z n ∙ drop_replicate (w - length l) n 0) in
    rw (take_at l z k e, d)

-- what one copy into zeros leaves
pub part_is : (w : ℕ) (a z r : List ℕ) (from m : ℕ) → (m ≤ w) × (from + m ≤ length a) → z ≡ replicate w 0 → r ≡ paste z 0 (drop from a) m
    → r ≡ pad w (take m (drop from a))
unfolding pad
part_is w a z r from m h p q =
    let hm : m ≤ length (drop from a) = simp length-drop (omega arith) in
    let e : w - 0 ≡ w = sub-zero w in
    rw (q, p) (rw e at (paste_pad w [] (drop from a) 0 m refl (omega arith) hm))

-- what two leave
pub joined_is : (w : ℕ) (a b z t r : List ℕ) (n from m : ℕ) → (n + m ≤ w) × (n ≤ length a) × (from + m ≤ length b)
    → z ≡ replicate w 0 → t ≡ paste z 0 (drop 0 a) n → r ≡ paste t n (drop from b) m
    → r ≡ pad w (take n a ++ take m (drop from b))
joined_is w a b z t r n from m h p q s =
    let hm : m ≤ length (drop from b) = simp length-drop (omega arith) in
    let e : length (take n a) ≡ n = length-take-le n a (omega arith) in
    rw (s, part_is w a z t 0 n (omega arith, omega arith) p q) (paste_pad w (take n a) (drop from b) n m e (omega arith) hm)

pub inserted_is : (a t r : List ℕ) (n at v : ℕ) → (at ≤ n) × (n < 32) × (n ≤ length a)
    → t ≡ pad 32 (take at a ++ (v ∷ [])) → r ≡ pad 32 (take (at + 1) t ++ take (n - at) (drop at a)) → r ≡ pad 32 (insert_at at v (take n a))
unfolding insert_at
inserted_is a t r n at v h p q =
    let e : length (take at a) ≡ at = length-take-le at a (omega arith) in
    let e₂ : length (take at a ++ (v ∷ [])) ≡ at + 1 = simp length-append (omega arith) in
    rw (q, p, take_pad 32 (take at a ++ (v ∷ [])) (at + 1) e₂, append_snoc, ← take-take at n a h.0, ← drop_take at n a)

pub removed_is : (a r : List ℕ) (n at : ℕ) → (at < n) × (n ≤ 32) × (n ≤ length a)
    → r ≡ pad 32 (take at a ++ take (n - at - 1) (drop (at + 1) a)) → r ≡ pad 32 (remove_at at (take n a))
unfolding remove_at
removed_is a r n at h p =
    let e : n - at - 1 ≡ n - (at + 1) = omega arith in
    let le : at ≤ n = omega arith in
    rw (p, e, ← drop_take (at + 1) n a, ← take-take at n a le)
