-- Laws of a node moved.
use Rattle.std.specs.Prelude.{◌≡◌, refl, true, false, List, [], ◌∷◌, ℕ, ◌<◌, length, get_or, take, Option, None, Some, Result, Ok, Err}
use Rattle.std.proofs.Common.{◌∙◌, arith}
use Rattle.nodes.specs.declared.node.Node.{Node}
use Rattle.nodes.specs.Lists.{pad}
use Rattle.nodes.specs.Name.{slot_of}
use Rattle.nodes.specs.Node.{made}
use Rattle.nodes.specs.Placement.{row}
use Rattle.operations.specs.Object.{meta, node, flag, Val, root, taken, free, Writes}
use Rattle.operations.specs.Slot.{take_on, take_node, release}
use Rattle.operations.specs.Path.{TreePlan}
use Rattle.operations.specs.Migrate.{moved}
use Rattle.walk.specs.declared.walk.Stop.{Stop}
use Rattle.client.specs.Layout.{ClientWord}
use Rattle.client.specs.Record.{in_store, value_of, metadata, record_of}
use Rattle.client.specs.Lent.{OwnFits, own_put, used_in}
use Rattle.walk.specs.Walk.{Course, Going, Ended, course, goes, stands, walked, carry}
use Rattle.walk.specs.Laws.Down.{stops_not}
use Rattle.walk.specs.Ask.{SmallNode, OwnGood, HoldsWrites}
use Rattle.walk.specs.Laws.Ask.{name_below}
use Rattle.walk.specs.Take.{NodeTaken, Released, Wrote}
use Rattle.walk.specs.Laws.Take.{wrote}
use Rattle.walk.specs.Search.{TakenOn}
use Rattle.walk.specs.Laws.Search.{row_is}
use Rattle.change.specs.Rise.{NodeWritten}
use Rattle.change.specs.Laws.Rise.{never}
use Rattle.change.specs.Move.{beside, Beside, Placed, Left, moves, Moved}

-- what ends a move is no answer
pub moved_stops : (slots : ℕ) (m : ClientWord → ℕ) (x u : List ℕ) (nm s : ℕ) (n : Node) (b : Option ℕ) (r : Result ℕ Stop) (x' u' : List ℕ) → Moved slots m x u nm s n b r x' u'
    → HoldsWrites slots x [] → goes (course r) ≡ false → stands (course r) ≡ false
moved_stops slots m x u nm s n b (Ok d) x' u' h hold q = q
moved_stops slots m x u nm s n b (Err e) x' u' h hold q = refl

-- ---- the metadata
root_value : (d states : ℕ) → value_of meta (metadata 0 d states) ≡ root d states
unfolding metadata made pad
root_value d states = refl

root_record : (d states : ℕ) → metadata 0 d states ≡ record_of 0 (root d states)
unfolding record_of
root_record d states = refl

metadata_small : (d states : ℕ) → SmallNode (metadata 0 d states)
unfolding metadata made
metadata_small d states = record { keys = omega arith; level = omega arith }

module _ (x : List ℕ) (d : ℕ) (g : OwnGood x) where
  pub nothing_beside : Beside x None d x
  nothing_beside = record { holds = λ slots w hold. hold; good = g; few = omega arith }

  pub root_beside : (states : ℕ) (q : Node) (x' : List ℕ) → get_or x 0 0 < 20 → q ≡ metadata 0 d states → length q.keys ≡ 14 → length q.slots ≡ 15
      → x' ≡ own_put x 0 q → OwnFits x' → Beside x (Some states) d x'
  root_beside states q x' few pq lk ls px f =
      let h : Wrote x meta (root d states) x' = wrote x g few 0 q x' px f lk ls meta (root d states) refl (rw pq (root_value d states)) (pq ∙ root_record d states) (rw pq (metadata_small d states)) in
      record { holds = λ slots w hold. h.holds slots w refl hold; good = h.good; few = h.few }

pub ruleset beside_exits = (nothing_beside, root_beside)

-- ---- a slot of the server
module _ (slots : ℕ) (m : ClientWord → ℕ) (x u : List ℕ) (s slot : ℕ) (near : s < 8) (x₁ u₁ : List ℕ) where
  pub place_none : (e : Stop) → TakenOn slots m x u (take 1 (row s)) slot (Err e) x₁ u₁ → Placed slots m x u s slot (Err e) x₁ u₁
  place_none e on =
      let one : TakenOn slots m x u (s ∷ []) slot (Err e) x₁ u₁ = rw (← (row_is s near).1) on in
      record {
        asks = λ w hold k. one.asks w hold (λ d w'. take_node w' d (k d w'));
        holds = one.holds;
        good = one.good;
        few = one.few;
        inside = one.inside;
        noted = one.noted;
      }

  module _ (d : ℕ) (on : TakenOn slots m x u (take 1 (row s)) slot (Ok d) x₁ u₁) where
    one : TakenOn slots m x u (s ∷ []) slot (Ok d) x₁ u₁
    one = rw (← (row_is s near).1) on

    pub place_good : OwnGood x₁
    place_good = one.good refl

    place_asks : (t : Course) (u₂ : List ℕ) → NodeTaken slots m x₁ u₁ d t u₂ → (w : Writes) → HoldsWrites slots x w → (k : ℕ → Writes → TreePlan)
        → walked slots m (take_on slots (s ∷ []) slot w (λ d w'. take_node w' d (k d w'))) (used_in u) ≡ carry t (used_in u₂) (λ us. walked slots m (k d ((flag d, taken true) ∷ w)) us)
    place_asks t u₂ e w hold k =
        one.asks w hold (λ d w'. take_node w' d (k d w')) ∙ e.asks ((flag d, taken true) ∷ w) (one.holds refl w hold) (k d ((flag d, taken true) ∷ w))

    pub place_unfree : (e : Stop) (u₂ : List ℕ) → NodeTaken slots m x₁ u₁ d (Ended e) u₂ → Placed slots m x u s slot (Err e) x₁ u₂
    place_unfree e u₂ v = record {
      asks = place_asks (Ended e) u₂ v;
      holds = λ t. never t;
      good = λ t. never t;
      few = one.few;
      inside = λ t. never t;
      noted = v.noted;
    }

    pub place_taken : (u₂ : List ℕ) → NodeTaken slots m x₁ u₁ d Going u₂ → Placed slots m x u s slot (Ok d) x₁ u₂
    place_taken u₂ v = record {
      asks = place_asks Going u₂ v;
      holds = one.holds;
      good = one.good;
      few = one.few;
      inside = one.inside;
      noted = v.noted;
    }

pub ruleset place_exits = (place_none, place_good, place_unfree, place_taken)

-- ---- the old slot
module _ (x : List ℕ) (b : Option ℕ) (d : ℕ) (x₁ : List ℕ) (f : Beside x b d x₁) where
  pub leave_good : OwnGood x₁
  leave_good = f.good

  module _ (few : get_or x 0 0 < 16) where
    pub leave_room : get_or x₁ 0 0 < 19
    leave_room = omega (arith, f.few)

    pub leave_last_room : (slots : ℕ) (m : ClientWord → ℕ) (u : List ℕ) (nm : ℕ) (s : Course) (x₂ u₂ : List ℕ) → Released slots m x₁ u nm s x₂ u₂ → get_or x₂ 0 0 < 20
    leave_last_room slots m u nm s x₂ u₂ h = omega (arith, f.few, h.few)

module _ (slots : ℕ) (m : ClientWord → ℕ) (x u : List ℕ) (nm d : ℕ) (n : Node) (b : Option ℕ) (few : get_or x 0 0 < 16) (x₁ : List ℕ) (f : Beside x b d x₁) (x₂ u₂ : List ℕ) where
  freed : (s : Course) → Released slots m x₁ u nm s x₂ u₂ → (w : Writes) → HoldsWrites slots x w → (k : Writes → TreePlan)
      → walked slots m (release (beside b d w) nm (λ w'. k ((node d, value_of (node nm) n) ∷ w'))) (used_in u)
      ≡ carry s (used_in u₂) (λ us. walked slots m (k ((node d, value_of (node nm) n) ∷ (node nm, free) ∷ (flag nm, taken false) ∷ beside b d w)) us)
  freed s h w hold k = h.asks (beside b d w) (f.holds slots w hold) (λ w'. k ((node d, value_of (node nm) n) ∷ w'))

  pub leave_stops : (s : Course) → goes s ≡ false → Released slots m x₁ u nm s x₂ u₂ → Left slots m x u nm d n b s x₂ u₂
  leave_stops s halts h = record { asks = freed s h; holds = λ g. stops_not s halts g; good = λ g. stops_not s halts g; few = λ g. stops_not s halts g; noted = h.noted }

  pub leave_done : Released slots m x₁ u nm Going x₂ u₂ → (x₃ : List ℕ) → in_store slots d ≡ true → SmallNode n → NodeWritten x₂ d n x₃ → Left slots m x u nm d n b Going x₃ u₂
  leave_done h x₃ there small q =
      let y : Wrote x₂ (node d) (value_of (node d) n) x₃ = q.wrote small.level in
      record {
        asks = freed Going h;
        holds = λ _ w hold. y.holds slots ((node nm, free) ∷ (flag nm, taken false) ∷ beside b d w) there (h.holds refl (beside b d w) (f.holds slots w hold));
        good = λ _. y.good;
        few = λ _. omega (arith, f.few, h.few, y.few);
        noted = h.noted;
      }

pub leave_last_good : (slots : ℕ) (m : ClientWord → ℕ) (x u : List ℕ) (nm : ℕ) (x' u' : List ℕ) → Released slots m x u nm Going x' u' → OwnGood x'
leave_last_good slots m x u nm x' u' h = h.good refl

pub ruleset leave_exits = (leave_room, leave_good, leave_stops, leave_last_room, leave_last_good, leave_done, name_below)

-- ---- the whole move
pub move_room : (slots : ℕ) (m : ClientWord → ℕ) (x u : List ℕ) (s slot : ℕ) (r : Result ℕ Stop) (x₁ u₁ : List ℕ) → Placed slots m x u s slot r x₁ u₁ → get_or x 0 0 ≡ 0 → get_or x₁ 0 0 < 16
move_room slots m x u s slot r x₁ u₁ a empty = omega (arith, a.few)

module _ (slots : ℕ) (m : ClientWord → ℕ) (x u : List ℕ) (s slot d : ℕ) (x₁ u₁ : List ℕ) (a : Placed slots m x u s slot (Ok d) x₁ u₁) where
  pub move_good : OwnGood x₁
  move_good = a.good refl

  pub move_there : in_store slots d ≡ true
  move_there = a.inside refl

module _ (slots : ℕ) (m : ClientWord → ℕ) (x u : List ℕ) (nm s : ℕ) (n : Node) (b : Option ℕ) (empty : get_or x 0 0 ≡ 0) (i : ℕ) (l : i ≡ slot_of nm) (x₁ u₁ : List ℕ) where
  abbrev v : Val
  v = value_of (node nm) n

  pub move_no_place : (e : Stop) → Placed slots m x u s i (Err e) x₁ u₁ → Moved slots m x u nm s n b (Err e) x₁ u₁
  move_no_place e placed =
      let a : Placed slots m x u s (slot_of nm) (Err e) x₁ u₁ = rw (← l) placed in
      record {
        asks = λ hold k. a.asks [] hold (λ d w. release (beside b d w) nm (λ w'. k d ((node d, v) ∷ w')));
        holds = λ g. never g;
        good = λ g. never g;
        few = λ g. never g;
        noted = a.noted;
      }

  module _ (d : ℕ) (placed : Placed slots m x u s i (Ok d) x₁ u₁) (x₂ u₂ : List ℕ) where
    a : Placed slots m x u s (slot_of nm) (Ok d) x₁ u₁
    a = rw (← l) placed

    move_asks : (t : Course) → Left slots m x₁ u₁ nm d n b t x₂ u₂ → HoldsWrites slots x [] → (k : ℕ → Writes → TreePlan)
        → walked slots m (moved slots nm s (value_of (node nm) n) (beside b) k) (used_in u) ≡ carry t (used_in u₂) (λ us. walked slots m (k d (moves nm (value_of (node nm) n) b d)) us)
    move_asks t h hold k =
        a.asks [] hold (λ d w. release (beside b d w) nm (λ w'. k d ((node d, v) ∷ w'))) ∙ h.asks ((flag d, taken true) ∷ []) (a.holds refl [] hold) (λ w'. k d w')

    pub move_stays : (e : Stop) → Left slots m x₁ u₁ nm d n b (Ended e) x₂ u₂ → Moved slots m x u nm s n b (Err e) x₂ u₂
    move_stays e h = record {
      asks = move_asks (Ended e) h;
      holds = λ g. never g;
      good = λ g. never g;
      few = λ g. never g;
      noted = h.noted;
    }

    pub moved_all : Left slots m x₁ u₁ nm d n b Going x₂ u₂ → Moved slots m x u nm s n b (Ok d) x₂ u₂
    moved_all h = record {
      asks = move_asks Going h;
      holds = λ on hold. h.holds on ((flag d, taken true) ∷ []) (a.holds refl [] hold);
      good = h.good;
      few = λ on. omega (arith, a.few, h.few on);
      noted = h.noted;
    }

pub ruleset move_exits = (move_no_place, move_room, move_good, move_there, move_stays, moved_all)
