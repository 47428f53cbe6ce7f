-- Laws of the lent lists.
use Rattle.std.specs.Prelude.{◌≡◌, Bool, true, false, ◌||◌, List, [], ◌∷◌, ◌++◌, eqb, drop, set}
use Rattle.std.proofs.Math.Path.{refl, sym}
use Rattle.std.proofs.Common.{◌∙◌, one-add, get_or-take, length-set, take-suc-set, get_or-set_same, get_or-set_other, drop-set-lt, length-take-le}
use Prim.Native.Nat.{ℕ, zero, suc, ◌+◌, ◌-◌, ◌*◌, ◌<◌}
use native.Mathlib.Omega.{arith}
use Rattle.std.proofs.Math.Decide.{ℕ_discrete}
use Rattle.std.proofs.Math.ListN.{length, get_or, length-drop}
use Rattle.std.specs.List.{list_any}
use Rattle.std.proofs.Math.Seq.{get_or-drop, paste}
use Rattle.std.proofs.lemmas.List.{drop-set-add}
use Rattle.nodes.specs.declared.node.Node.{Node}
use Rattle.nodes.specs.Found.{Found}
use Rattle.std.specs.Prelude.{Some, None}
use Rattle.nodes.specs.Stored.{words_of}
use Rattle.nodes.proofs.Laws.Standing.{slot_there}
use Rattle.client.specs.Record.{first_slot}
use Rattle.client.specs.Run.{among}
use Rattle.client.specs.Lent.{Lent, InUse, used_in, pushed, OwnFits, own_record, own_find, own_at, own_put}

-- ---- the copies in use
pub among_append : (x : ℕ) (l m : List ℕ) → among x (l ++ m) ≡ (among x l || among x m)
unfolding among
among_append x [] m = refl
among_append x (y ∷ l) m = go (eqb y x) (among_append x l m)
  where
    go : (b : Bool) → among x (l ++ m) ≡ (among x l || among x m) → (b || among x (l ++ m)) ≡ ((b || among x l) || among x m)
    go true e = refl
    go false e = e

-- as the library's search of a slice says it
among_any : (x : ℕ) (l : List ℕ) → list_any (λ y. eqb y x) l ≡ among x l
unfolding among
among_any x [] = refl
among_any x (y ∷ l) = rw (among_any x l)

pub asked_among : (x : ℕ) (l us : List ℕ) (b : Bool) → b ≡ list_any (λ y. eqb y x) l → l ≡ us → b ≡ among x us
asked_among x l us b e q = e ∙ among_any x l ∙ rw q

-- one more in use
pub pushed_used : (u : List ℕ) (x : ℕ) → Lent u → used_in (pushed u x) ≡ used_in u ++ (x ∷ [])
unfolding used_in pushed
pushed_used u x f =
    let c : ℕ = get_or u 0 0 in
    let a : 0 < length (set u (c + 1) x) = rw (length-set u (c + 1) x) (omega (arith, f.long)) in
    let l : length (drop 1 u) ≡ length u - 1 = length-drop 1 u in
    let g : c < length (drop 1 u) = omega (arith, f.long, f.few) in
    let z : c + 1 ≡ 1 + c = omega arith in
    let o : 0 < 1 = omega arith in
    rw (get_or-set_same (set u (c + 1) x) 0 (c + 1) 0 a, drop-set-lt 1 (set u (c + 1) x) 0 (c + 1) o)
    (rw (z, drop-set-add 1 u c x, one-add) (take-suc-set (drop 1 u) c x g))

pub pushed_lent : (u : List ℕ) (x : ℕ) → x < 16385 → Lent u → get_or u 0 0 < 96 → Lent (pushed u x)
unfolding pushed
pushed_lent u x b f h =
    record {
      long = rw (length-set (set u (c + 1) x) 0 (c + 1), length-set u (c + 1) x) f.long;
      few = rw first (omega arith);
      small = λ i l. rw (get_or-set_other (set u (c + 1) x) 0 (i + 1) (c + 1) 0 (λ e. absurd (omega arith))) (go i (ℕ_discrete i c) (rw first at l));
    }
  where
    c : ℕ
    c = get_or u 0 0

    a : 0 < length (set u (c + 1) x)
    a = rw (length-set u (c + 1) x) (omega (arith, f.long))

    first : get_or (set (set u (c + 1) x) 0 (c + 1)) 0 0 ≡ c + 1
    first = get_or-set_same (set u (c + 1) x) 0 (c + 1) 0 a

    go : (i : ℕ) → Dec (i ≡ c) → i < c + 1 → get_or (set u (c + 1) x) (i + 1) 0 < 16385
    go i (yes e) l = rw (e, get_or-set_same u (c + 1) x 0 (omega (arith, f.long, f.few))) b
    go i (no d) l = rw (get_or-set_other u (c + 1) (i + 1) x 0 (λ e. d (omega arith))) (f.small i (omega arith))

pub lent_in_use : (u : List ℕ) → Lent u → InUse u
lent_in_use u f = record { long = f.long; few = omega (arith, f.few); small = f.small }

pub length_used : (u : List ℕ) → InUse u → length (used_in u) ≡ get_or u 0 0
unfolding used_in
length_used u f =
    let l : length (drop 1 u) ≡ length u - 1 = length-drop 1 u in
    length-take-le (get_or u 0 0) (drop 1 u) (omega (arith, f.long, f.few))

-- ---- the own writes
first_pasted : (d s : List ℕ) (a n : ℕ) → 0 < a → 0 < length d → get_or (paste d a s n) 0 0 ≡ get_or d 0 0
first_pasted [] s a n h g = absurd (omega arith)
first_pasted (y ∷ d) s zero n h g = absurd (omega arith)
first_pasted (y ∷ d) s (suc a) n h g = refl

at_first : (w : List ℕ) (x i : ℕ) (n : Node) → OwnFits w → get_or (own_at w x n i) 0 0 ≡ get_or w 0 0
unfolding own_at
at_first w x i n f = first_pasted w (x ∷ words_of n) (34 * i + 1) 34 (omega arith) (omega (arith, f.long))

module _ (w : List ℕ) (x : ℕ) (n : Node) where
  module _ (w' : List ℕ) (i : ℕ) (p : w' ≡ own_at w x n i) where
    pub own_replaced : (g : Found) → g ≡ own_find w x → g ≡ Some i → w' ≡ own_put w x n
    unfolding own_put
    own_replaced g e q = let z : own_find w x ≡ Some i = sym e ∙ q in p ∙ rw z

    pub replaced_fits : OwnFits w → length w' ≡ length w → OwnFits w'
    replaced_fits f l = record { long = omega (arith, f.long); few = rw (p, at_first w x i n f) f.few }

  module _ (w₁ : List ℕ) (p : w₁ ≡ own_at w x n (get_or w 0 0)) where
    pub own_appended : (g : Found) → g ≡ own_find w x → g ≡ None → set w₁ 0 (get_or w 0 0 + 1) ≡ own_put w x n
    unfolding own_put
    own_appended g e q = let z : own_find w x ≡ None = sym e ∙ q in rw (z, p)

    pub appended_fits : OwnFits w → get_or w 0 0 < 20 → length w₁ ≡ length w → OwnFits (set w₁ 0 (get_or w 0 0 + 1))
    appended_fits f h l =
        let a : 0 < length w₁ = omega (arith, f.long) in
        record { long = rw (length-set w₁ 0 (get_or w 0 0 + 1)) (omega (arith, f.long)); few = rw (get_or-set_same w₁ 0 (get_or w 0 0 + 1) 0 a) (omega arith) }

pub own_set : (w words w' : List ℕ) (x i : ℕ) (n : Node) → words ≡ x ∷ words_of n → w' ≡ paste w (34 * i + 1) words 34 → w' ≡ own_at w x n i
unfolding own_at
own_set w words w' x i n e p = p ∙ rw e

pub small_nth : (u xs : List ℕ) (i : ℕ) → InUse u → xs ≡ used_in u → i < length xs → get_or xs i 0 < 16385
unfolding used_in
small_nth u xs i f e h =
    let k : i < get_or u 0 0 = omega (arith, rw e at h, length_used u f) in
    let z : i + 1 ≡ 1 + i = omega arith in
    rw (e, get_or-take (get_or u 0 0) (drop 1 u) i 0 k, get_or-drop 1 u i 0, ← z) (f.small i k)

-- the value of an own write of the metadata or a flag
pub own_value_there : (w : List ℕ) (i r : ℕ) → r ≡ get_or w (34 * i + 20) 0 → r ≡ first_slot (own_record w i)
unfolding own_record
own_value_there w i r e = let z : 34 * i + 2 + 18 + 0 ≡ 34 * i + 20 = omega arith in slot_there w (34 * i + 2) r 0 (omega arith) (rw z e)
