-- Slots taken and freed on a snapshot with a tree: whatever the vectors show, the name that a search chooses is below 8 times 1,024, and
-- the slot is taken only if its flag is free.
use Rattle.std.specs.Prelude.{◌≡◌, refl, Bool, true, false, cond, ◌⊎◌, ℕ, zero, suc, ◌+◌, ◌<◌, ◌≤◌, length, take, drop, get_or, set}
use Rattle.std.proofs.Common.{ap, sym, ◌∙◌, subst, true≢false, inl, inr, arith, length-drop, length-set, get_or-drop, get_or-take, get_or-set_same, get_or-set_other}
use mathlib.Core.List.{List, [], ◌∷◌}
use Rattle.std.proofs.Math.Option.{Option, none, some}
use Rattle.std.proofs.Math.Decide.{ℕ_discrete}
use Rattle.base.specs.Test.{ifd, yes?}
use Rattle.base.proofs.Laws.Test.{ifd_all}
use Rattle.plans.specs.Walk.{Every}
use Rattle.nodes.specs.Name.{name, server_of, slot_of}
use Rattle.nodes.specs.Placement.{row}
use Rattle.nodes.specs.States.{is_open}
use Rattle.nodes.proofs.Laws.States.{open_below}
use Rattle.nodes.specs.Vector.{shifted, lowest_free, or_else, first_free}
use Rattle.operations.specs.Object.{Obj, meta, node, flag, Val, taken, free, states_of, is_taken, flags_of, not_free, no_slot, Ans, Writes, with_value, over}
use Rattle.operations.specs.Path.{TreePlan}
use Rattle.operations.specs.Slot.{count_one, counted, free_slot, chosen, search, open_ones, when_free_flag, take_flag, take_on, take_for, when_free_node, take_node, release}
use Rattle.operations.proofs.Laws.Ensures.{Terms, Ok, see_ok}
use Rattle.operations.specs.Tree.{room, Mark, TrueOf}
use Rattle.operations.proofs.Laws.Tree.{room_is}

-- P holds of the index, if there is one
abbrev pub Each : (ℕ → Type 0) → Option ℕ → Type 0
Each P none = Unit {0}
Each P (some i) = P i

each_map : (P R : ℕ → Type 0) → ((i : ℕ) → P i → R i) → (o : Option ℕ) → Each P o → Each R o
each_map P R f none h = tt
each_map P R f (some i) h = f i h

each_shifted : (P R : ℕ → Type 0) (k : ℕ) → ((i : ℕ) → P i → R (k + i)) → (o : Option ℕ) → Each P o → Each R (shifted k o)
each_shifted P R k f none h = tt
each_shifted P R k f (some i) h = f i h

each_else : (P : ℕ → Type 0) (x y : Option ℕ) → Each P x → Each P y → Each P (or_else x y)
each_else P none y h g = g
each_else P (some x) y h g = h

-- the slot is in the vector, and free there
abbrev pub Open : List Bool → ℕ → Type 0
Open fs i = (i < length fs) × (get_or fs i true ≡ false)

open_lowest : (fs : List Bool) → Each (Open fs) (lowest_free fs)
open_lowest [] = tt
open_lowest (false ∷ fs) = (omega arith, refl)
open_lowest (true ∷ fs) = each_shifted (Open fs) (Open (true ∷ fs)) 1
    (λ i h. let e : 1 + i ≡ suc i = omega arith in (omega (arith, h.0), ap (λ n. get_or (true ∷ fs) n true) e ∙ h.1)) (lowest_free fs) (open_lowest fs)

open_first : (slot : ℕ) (fs : List Bool) → Each (Open fs) (first_free slot fs)
unfolding first_free
open_first slot fs =
    each_else (Open fs) (shifted (suc slot) (lowest_free (drop (suc slot) fs))) (lowest_free fs)
    (each_shifted (Open (drop (suc slot) fs)) (Open fs) (suc slot)
    (λ i h. (omega (arith, h.0, length-drop (suc slot) fs), sym (get_or-drop (suc slot) fs i true) ∙ h.1)) (lowest_free (drop (suc slot) fs)) (open_lowest (drop (suc slot) fs)))
    (open_lowest fs)

take_short : {A : Type 0} (n : ℕ) (l : List A) → length (take n l) ≤ n
take_short zero l = omega arith
take_short (suc n) [] = omega arith
take_short (suc n) (x ∷ l) = omega (arith, take_short n l)

take_longer : {A : Type 0} (n : ℕ) (l : List A) → length (take n l) ≤ length l
take_longer zero l = omega arith
take_longer (suc n) [] = omega arith
take_longer (suc n) (x ∷ l) = omega (arith, take_longer n l)

pub open_slot : (slots : ℕ) (w : Writes) (slot s : ℕ) (v : Val) → Each (λ i. (i < slots) × Open (counted w s (flags_of v)) i) (free_slot slots w slot s v)
open_slot slots w slot s v =
    let n = slots in
    let fs = counted w s (flags_of v) in
    each_map (Open (take n fs)) (λ i. (i < n) × Open fs i)
    (λ i h. let a : i < n = omega (arith, h.0, take_short n fs) in (a, (omega (arith, h.0, take_longer n fs), sym (get_or-take n fs i true a) ∙ h.1)))
    (first_free slot (take n fs)) (open_first slot (take n fs))

counted_length : (w : Writes) (s : ℕ) (fs : List Bool) → length (counted w s fs) ≡ length fs
counted_length [] s fs = refl
counted_length (e ∷ w) s fs = go e.0 (counted_length w s fs)
  where
    go : (o : Obj) → length (counted w s fs) ≡ length fs → length (count_one o e.1 s (counted w s fs)) ≡ length fs
    go meta h = h
    go (node n) h = h
    go (flag n) h = ifd_all (ℕ_discrete (server_of n) s) (set (counted w s fs) (slot_of n) (is_taken e.1)) (counted w s fs) (λ z. length z ≡ length fs)
        (λ _. length-set (counted w s fs) (slot_of n) (is_taken e.1) ∙ h) (λ _. h)

-- own frees and takes counted, they show the flags of the snapshot with the writes
pub counted_true : (M : Obj → Val) (w : Writes) (s : ℕ) (fs : List Bool) → TrueOf M s fs → TrueOf (over w M) s (counted w s fs)
counted_true M [] s fs h = h
counted_true M (e ∷ w) s fs h = go e.0 (counted_true M w s fs h)
  where
    cs : List Bool
    cs = counted w s fs

    x : Bool
    x = is_taken e.1

    -- the slot i, where the flag of n is written
    by : (n i : ℕ) → i < 1024 → TrueOf (over w M) s cs → (d : Dec (server_of n ≡ s)) (c : Dec (name s i ≡ n)) → i < length (ifd d (set cs (slot_of n) x) cs)
        → get_or (ifd d (set cs (slot_of n) x) cs) i true ≡ is_taken (cond (yes? c) e.1 (over w M (flag (name s i))))
    by n i small t (yes p) (yes q) j =
        let k : slot_of n ≡ i = omega (arith, q, small) in
        ap (λ z. get_or (set cs z x) i true) k ∙ get_or-set_same cs i x true (omega (arith, j, length-set cs (slot_of n) x))
    by n i small t (yes p) (no q) j =
        get_or-set_other cs (slot_of n) i x true (λ z. q (omega (arith, p, z, small))) ∙ t i small (omega (arith, j, length-set cs (slot_of n) x))
    by n i small t (no p) (yes q) j = absurd (p (omega (arith, q, small)))
    by n i small t (no p) (no q) j = t i small j

    go : (o : Obj) → TrueOf (over w M) s (counted w s fs) → TrueOf (with_value o e.1 (over w M)) s (count_one o e.1 s (counted w s fs))
    go meta t = t
    go (node n) t = t
    go (flag n) t = λ i small. by n i small t (ℕ_discrete (server_of n) s) (ℕ_discrete (name s i) n)

-- of servers those that are open are below 8
pub open_servers : (states : ℕ) (ss : List ℕ) → Every (λ s. s < 8) (open_ones states ss)
unfolding Every
open_servers states [] = tt
open_servers states (s ∷ ss) = go (is_open states s) (open_below states s) (open_servers states ss)
  where
    go : (b : Bool) → (b ≡ true → s < 8) → Every (λ s. s < 8) (open_ones states ss) → Every (λ s. s < 8) (cond b (s ∷ open_ones states ss) (open_ones states ss))
    go true h rest = (h refl, rest)
    go false h rest = rest

module _ (F : Terms) (Q : Ans → Writes → Type 0) (M : Obj → Val) where
  pub take_node_ok : (w : Writes) (d : ℕ) (k : TreePlan) → over w M (node d) ≡ free → Ok F Q M k → Ok F Q M (take_node w d k)
  take_node_ok w d k e h = see_ok F Q M w (node d) (λ v. when_free_node v k) (subst (λ v. Ok F Q M (when_free_node v k)) (sym e) h)

  pub release_ok : (w : Writes) (n : ℕ) (k : Writes → TreePlan) → Ok F Q M (k ((node n, free) ∷ (flag n, taken false) ∷ w)) → Ok F Q M (release w n k)
  release_ok w n k h = see_ok F Q M w (flag n) (λ _. k ((node n, free) ∷ (flag n, taken false) ∷ w)) h

-- THE SUPPLY OF SLOTS: a slot that is chosen is free, or to fail for it is allowed; to find none is allowed
pub record Supply (F : Terms) (M : Obj → Val) (slots : ℕ) : Type 0 where
  pub chosen_free : (w : Writes) (s i : ℕ) (v : Val) → F.shows s v → i < 1024 → Open (counted w s (flags_of v)) i
      → F.fails not_free ⊎ (is_taken (over w M (flag (name s i))) ≡ false)
  pub none_left : F.fails no_slot

module _ (F : Terms) (Q : Ans → Writes → Type 0) (M : Obj → Val) (slots : ℕ) (al : slots ≤ 1024) (supply : Supply F M slots) where
  abbrev FreeOr : Writes → ℕ → Type 0
  FreeOr w d = F.fails not_free ⊎ (is_taken (over w M (flag d)) ≡ false)

  -- a slot is taken only if its flag is free
  take_flag_ok : (w : Writes) (d n : ℕ) (k : Writes → TreePlan) → Mark (over w M (flag d)) (over w M (node d)) n → FreeOr w d
      → (over w M (flag d) ≡ taken false → Ok F Q M (k ((flag d, taken true) ∷ w))) → Ok F Q M (take_flag w d k)
  take_flag_ok w d n k t u h = see_ok F Q M w (flag d) (λ v. when_free_flag v (k ((flag d, taken true) ∷ w))) (go t u)
    where
      at : Val → Type 0
      at v = Ok F Q M (when_free_flag v (k ((flag d, taken true) ∷ w)))

      go : Mark (over w M (flag d)) (over w M (node d)) n → FreeOr w d → at (over w M (flag d))
      go (inl q) (inl x) = subst at (sym q.1) x
      go (inl q) (inr x) = absurd (true≢false (sym (ap is_taken q.1) ∙ x))
      go (inr q) u = subst at (sym q.1) (h q.1)

  -- what may follow a search
  abbrev Follows : Writes → (ℕ → TreePlan) → Type 0
  Follows w k = (d : ℕ) → d < room → FreeOr w d → Ok F Q M (k d)

  chosen_ok : (w : Writes) (slot s : ℕ) (v : Val) (k : ℕ → TreePlan) (p : TreePlan) → s < 8 → F.shows s v → Follows w k → Ok F Q M p
      → Ok F Q M (chosen s (free_slot slots w slot s v) k p)
  chosen_ok w slot s v k p i t h g = go (free_slot slots w slot s v) (open_slot slots w slot s v)
    where
      go : (o : Option ℕ) → Each (λ j. (j < slots) × Open (counted w s (flags_of v)) j) o → Ok F Q M (chosen s o k p)
      go none u = g
      go (some j) u =
          let small : j < 1024 = omega (arith, u.0, al) in h (name s j) (omega (arith, i, small, room_is)) (supply.chosen_free w s j v t small u.1)

  search_ok : (w : Writes) (slot : ℕ) (ss : List ℕ) (k : ℕ → TreePlan) → Every (λ s. s < 8) ss → Follows w k → Ok F Q M (search slots w slot ss k)
  unfolding Every
  search_ok w slot [] k i h = supply.none_left
  search_ok w slot (s ∷ ss) k i h = λ v t. chosen_ok w slot s v k _ i.0 t h (λ u t. chosen_ok w slot s u k _ i.0 t h (search_ok w slot ss k i.1 h))

  -- whichever slot is chosen, what follows is well where that slot is free
  abbrev Takes : Writes → (ℕ → Writes → TreePlan) → Type 0
  Takes w k = (d : ℕ) → d < room → over w M (flag d) ≡ taken false → Ok F Q M (k d ((flag d, taken true) ∷ w))

  abbrev Marked : Writes → (ℕ → ℕ) → Type 0
  Marked w t = (x : ℕ) → Mark (over w M (flag x)) (over w M (node x)) (t x)

  pub take_on_ok : (ss : List ℕ) (slot : ℕ) (w : Writes) (k : ℕ → Writes → TreePlan) (t : ℕ → ℕ) → Marked w t → Takes w k → Ok F Q M (take_on slots ss slot w k)
  take_on_ok ss slot w k t g h =
      let states = states_of (M meta) in
      search_ok w slot (open_ones states ss) (λ d. take_flag w d (λ w'. k d w')) (open_servers states ss) (λ d sm u. take_flag_ok w d (t d) (λ w'. k d w') (g d) u (h d sm))

  pub take_for_ok : (n : ℕ) (w : Writes) (k : ℕ → Writes → TreePlan) (t : ℕ → ℕ) → Marked w t → Takes w k → Ok F Q M (take_for slots n w k)
  take_for_ok n w k t g h = take_on_ok (row (server_of n)) (slot_of n) w k t g h
