-- A step of a part, as a step of the whole.
use Rattle.std.specs.Prelude.{◌≡◌, refl, ℕ, suc, ◌+◌, ◌-◌, ◌*◌, ◌/◌, ◌≤◌, get_or, take, drop}
use Rattle.std.proofs.Math.Path.{sym, ap, fun_ext}
use Rattle.std.proofs.Common.{◌∙◌, subst, get_or-drop, take_at}
use mathlib.Core.List.{List, [], ◌∷◌, ◌++◌}
use native.Mathlib.Omega.{arith}
use Rattle.std.proofs.Math.ListN.{length, set, length-set, take-append-drop}
use Rattle.std.proofs.Math.Seq.{take-set-le, drop-set-add, drop_at, length-take-le}
use borrow.Rule.Slice.PartMut.{put_mid, mid_of}
use Rattle.memory.specs.Word.{view}
use Rattle.memory.proofs.Laws.Word.{view_length}
use Rattle.memory.proofs.Laws.Part.{from, lent_from, back_from}
use Rattle.layout.specs.Block.{Block, size}
use Rattle.layout.specs.Space.{Coding, Put, put, puts, at, Valid, valid?, mem, stored}
use Rattle.layout.proofs.Laws.Space.{mem_at, mem_none, AllValid}
use Rattle.layout.specs.Step.{Does, stepped}
use Rattle.layout.specs.Part.{over, in_part}
use Rattle.layout.specs.Laws.Part.{Part}

unfoldable pub of_part : {A B R : Type 0} → (A → B) → ((A → ℕ) → R) → (B → ℕ) → R
of_part e ans m = ans (λ a. m (e a))

-- a record's stores in a part are that record's stores in the whole
pub over_puts : {A B : Type 0} (C : Coding A) (D : Coding B) (e : A → B) (vs : List ℕ) (f : ℕ → A) → over e (puts C f vs) ≡ puts D (λ i. e (f i)) vs
unfolding over puts
over_puts C D e [] f = refl
over_puts C D e (v ∷ vs) f = ap (λ (ps : List (Put _)). put (e (f 0)) v ∷ ps) (over_puts C D e vs (λ i. f (suc i)))

module _ {A B : Type 0} (C : Coding A) (b : Block) (D : Coding B) (d : Block) (e : A → B) (k : ℕ) (P : Part C b D d e k) where
  -- what the part holds
  pub part_mem : (w : List ℕ) → mem C b (drop k w) ≡ (λ a. mem D d w (e a))
  part_mem w = fun_ext (λ a. go a (valid? C b a))
    where
      go : (a : A) → Dec (Valid C b a) → mem C b (drop k w) a ≡ mem D d w (e a)
      go a (yes h) =
          mem_at C b (drop k w) a h ∙ get_or-drop k w (at C b a) 0 ∙ ap (λ (j : ℕ). get_or w j 0) (sym (P.spot a)) ∙ sym (mem_at D d w (e a) (P.good a h))
      go a (no h) = mem_none C b (drop k w) a h ∙ sym (mem_none D d w (e a) (λ g. h (P.only a g)))

  -- a store in the part is a store in the whole
  from_set : (w : List ℕ) (a : A) (v : ℕ) → from k (λ l. set l (at C b a) v) w ≡ set w (at D d (e a)) v
  unfolding from
  from_set w a v =
      let h : k ≤ k + at C b a = omega arith in
      rw (P.spot a, ← drop-set-add k w (at C b a) v, ← take-set-le k w (k + at C b a) v h) (take-append-drop k (set w (k + at C b a) v))

  from_after : (w : List ℕ) (f g : List ℕ → List ℕ) → k ≤ length w → from k (λ l. g (f l)) w ≡ from k g (from k f w)
  unfolding from
  from_after w f g h =
      let t : length (take k w) ≡ k = length-take-le k w h in
      rw (take_at (take k w) (f (drop k w)) k t, drop_at (take k w) (f (drop k w)) k t)

  pub from_stored : (ps : List (Put A)) (w : List ℕ) → k ≤ length w → from k (λ l. stored C b l ps) w ≡ stored D d w (over e ps)
  unfolding from stored over
  from_stored [] w h = take-append-drop k w
  from_stored (put a v ∷ ps) w h =
      from_after w (λ l. set l (at C b a) v) (λ l. stored C b l ps) h
      ∙ rw (from_set w a v) (from_stored ps (set w (at D d (e a)) v) (rw length-set h))

  pub good_all : (ps : List (Put A)) → AllValid C b ps → AllValid D d (over e ps)
  unfolding AllValid over
  good_all [] ok = ok
  good_all (put a v ∷ ps) ok = (P.good a ok.0, good_all ps ok.1)

  -- `&s[8 * k..]` is lent to be read
  pub lent_mem : (s : List ℕ) → size d ≤ length s / 8 → mem C b (view (mid_of (8 * k) (length s - 8 * k) s)) ≡ (λ a. mem D d (view s) (e a))
  lent_mem s l =
      let f : 8 * k ≤ length s = omega (arith, P.room) in
      ap (mem C b) (lent_from k s (length s - 8 * k) f refl) ∙ part_mem (view s)

  module _ {R : Type 0} (g : (A → ℕ) → List (Put A)) (ans : (A → ℕ) → R) where
    -- a step of the part is a step of the whole
    pub from_stepped : (w : List ℕ) → k ≤ length w → from k (stepped C b g) w ≡ stepped D d (in_part e g) w
    unfolding from stepped in_part
    from_stepped w h =
        from_stored (g (mem C b (drop k w))) w h
        ∙ ap (λ (m : A → ℕ). stored D d w (over e (g m))) (part_mem w)

    -- and leaves in the whole what it leaves in the part
    pub part_after : (w : List ℕ) → k ≤ length w → (λ a. mem D d (stepped D d (in_part e g) w) (e a)) ≡ mem C b (stepped C b g (drop k w))
    unfolding from
    part_after w h =
        let t : length (take k w) ≡ k = length-take-le k w h in
        ap (λ (u : List ℕ). (λ (a : A). mem D d u (e a))) (sym (from_stepped w h))
        ∙ sym (part_mem (from k (stepped C b g) w))
        ∙ ap (mem C b) (drop_at (take k w) (stepped C b g (drop k w)) k t)

    pub part_does : (w : List ℕ) (r : R) (p' w' : List ℕ) → k ≤ length w → Does C b g ans (drop k w) r p' → w' ≡ from k (stepped C b g) w
        → Does D d (in_part e g) (of_part e ans) w r w'
    unfolding of_part
    part_does w r p' w' h did back =
        record { answer = did.answer ∙ ap ans (part_mem w); words = back ∙ from_stepped w h }

    -- `&mut s[8 * k..]` was lent and came back as t
    pub back_does : (s t : List ℕ) (r : R) → size d ≤ length s / 8
        → Does C b g ans (view (mid_of (8 * k) (length s - 8 * k) s)) r (view t)
        → Does D d (in_part e g) (of_part e ans) (view s) r (view (put_mid (8 * k) (length s - 8 * k) s t))
    back_does s t r l did =
        let f : 8 * k ≤ length s = omega (arith, P.room) in
        let q : view (mid_of (8 * k) (length s - 8 * k) s) ≡ drop k (view s) = lent_from k s (length s - 8 * k) f refl in
        part_does (view s) r (view t) (view (put_mid (8 * k) (length s - 8 * k) s t)) (omega (arith, view_length s))
        (subst (λ (p : List ℕ). Does C b g ans p r (view t)) q did)
        (back_from k s (stepped C b g) (length s - 8 * k) t f refl did.words)

-- stores one after another, as stores of the whole
pub over_append : {A B : Type 0} (e : A → B) (ps qs : List (Put A)) → over e (ps ++ qs) ≡ over e ps ++ over e qs
unfolding over
over_append e [] qs = refl
over_append e (put a v ∷ ps) qs = ap (λ (t : List (Put _)). put (e a) v ∷ t) (over_append e ps qs)
