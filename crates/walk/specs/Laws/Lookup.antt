-- Laws of a lookup's walk.
use Rattle.std.specs.Prelude.{◌≡◌, refl, Bool, true, false, cond, List, [], ℕ, ◌-◌, ◌≤◌, ◌<◌, get_or}
use Rattle.std.proofs.Common.{sym, ap, ◌∙◌, arith}
use Rattle.std.proofs.Math.Option.{none, some}
use Rattle.nodes.specs.declared.node.Node.{Node}
use Rattle.nodes.specs.declared.standing.KeyPlace.{KeyPlace}
use Rattle.nodes.specs.Place.{place, key_place, Within}
use Rattle.nodes.proofs.Laws.Place.{yes_behind}
use Rattle.nodes.specs.Node.{keys_of}
use Rattle.nodes.specs.Entries.{entries_of}
use Rattle.nodes.specs.Kept.{Whole}
use Rattle.operations.specs.Object.{Writes}
use Rattle.operations.specs.Map.{said}
use Rattle.operations.specs.Entry.{Entries, value_in}
use Rattle.operations.specs.Path.{TreePlan, Branch, from_root}
use Rattle.operations.specs.Look.{lookup_plan}
use Rattle.walk.specs.declared.walk.Answer.{Answer}
use Rattle.walk.specs.declared.walk.Stop.TheVariants.{Aborts}
use Rattle.client.specs.Layout.{ClientWord}
use Rattle.client.specs.Lent.{used_in}
use Rattle.walk.specs.Laws.Entries.{Leaf, open_leaf, leaf_value}
use Rattle.walk.specs.Walk.{Course, Going, Ended, Answered, told, goes, stands, over}
use Rattle.walk.specs.Laws.Walk.{walked_done, full_done}
use Rattle.walk.specs.Ask.{Noted, popped}
use Rattle.walk.specs.Laws.Ask.{popped_used, popped_noted}
use Rattle.walk.specs.Down.{Arrival, low, trail, Reached, ToLeaf}
use Rattle.walk.specs.Lookup.{ended, Ends, Walks, pair_at, look_in}
use Rattle.plans.specs.Plan as P

module _ (m : ClientWord → ℕ) (u : List ℕ) (c : Bool) (e : c ≡ over m (used_in u)) (h : Noted m u) (a b : ℕ) where
  pub ends_over : (u' : List ℕ) → c ≡ true → u' ≡ popped u → Ends m u a b (Ended (Aborts 4)) u'
  ends_over u' t p =
      let few : get_or u 0 0 ≤ 97 = omega arith in
      rw p (record { same = λ slots w ps. rw (full_done slots m (used_in u) ((a, b, ps), w) (sym e ∙ t), popped_used u h.long few); noted = popped_noted m u h })

  pub ends_here : c ≡ false → Ends m u a b (Answered a b) u
  ends_here t = record { same = λ slots w ps. walked_done slots m (used_in u) ((a, b, ps), w) (sym e ∙ t); noted = h }

pub ruleset answer_ends = (ends_over, ends_here)

pub ended_nothing : (s : Course) (us : List ℕ) → ended s us [] [] ≡ told s us
ended_nothing Going us = refl
ended_nothing (Ended s) us = refl
ended_nothing (Answered a b) us = refl

-- what has stopped without an answer comes with nothing
pub told_ended : (s : Course) (us : List ℕ) (w : Writes) (ps : Entries) → goes s ≡ false → stands s ≡ false → told s us ≡ ended s us w ps
told_ended Going us w ps g h = refl
told_ended (Ended s) us w ps g h = refl
told_ended (Answered a b) us w ps g h = let z : ◌≡◌ {A = ℕ} 0 1 = cc in absurd (omega arith)

module _ (n : Node) (key : ℕ) (p : KeyPlace) (e : p ≡ key_place (keys_of n) key) where
  pub look_there : (v : ℕ) → p.there ≡ true → v ≡ get_or n.slots (p.place - 1) 0 → ◌≡◌ {A = Answer} (record { a = 1; b = v }) (look_in n key)
  unfolding look_in
  look_there v t q = rw (← e, t, q)

  pub look_not_there : p.there ≡ false → ◌≡◌ {A = Answer} (record { a = 0; b = 0 }) (look_in n key)
  unfolding look_in
  look_not_there t = rw (← e, t)

pub slot_inside : (p : KeyPlace) (n : ℕ) → Within p n → n ≤ 14 → p.place - 1 < 15
slot_inside p n h l = omega (arith, h.most)

pub ruleset look_in_exits = (look_there, look_not_there, slot_inside, yes_behind)

leaf_said : (n : Node) (lo key : ℕ) → Whole n → Leaf n → said (value_in key (entries_of n lo)) ≡ ((look_in n key).a, (look_in n key).b, [])
unfolding look_in key_place
leaf_said n lo key f l = ap said (leaf_value n lo key f l) ∙ go (key_place (keys_of n) key).there
  where
    go : (t : Bool) → said (cond t (some (get_or n.slots (place (keys_of n) key - 1) 0)) none) ≡ (let p : KeyPlace = record { place = place (keys_of n) key; there = t } in ((pair_at n p).a, (pair_at n p).b, []))
    go true = refl
    go false = refl

module _ (slots : ℕ) (m : ClientWord → ℕ) (u : List ℕ) (key : ℕ) (r : Node) (u₁ : List ℕ) where
  pub look_stops : (s : Course) (k : List Branch → ℕ → Entries → TreePlan) → goes s ≡ false → ToLeaf slots m u key s r u₁ → Walks slots m u (from_root key k) s u₁ []
  look_stops s k halts h = record { same = rw (h.descends.asks k, h.course, halts) (sym (ended_nothing s (used_in u₁))); noted = h.descends.noted }

  module _ (h : ToLeaf slots m u key Going r u₁) where
    on : goes h.come.course ≡ true
    on = rw h.course

    end : Reached 0 h.come
    end = h.descends.reached on

    pub leaf_small : r.count ≤ 14
    leaf_small = rw h.node at end.small.keys

    pub look_ends : (q : Answer) (s : Course) (u₂ : List ℕ) → q ≡ look_in r key → Ends m u₁ q.a q.b s u₂ → Walks slots m u (lookup_plan key) s u₂ []
    look_ends q s u₂ pp e =
        let d : Arrival = h.come in
        let lo : ℕ = low (trail d.path 0 (d.top - 0)) in
        let v : said (value_in key (entries_of d.node lo)) ≡ (q.a, q.b, []) = rw (pp, ← h.node) (leaf_said d.node lo key end.whole (open_leaf d.node end.opened end.level)) in
        record { same = rw (h.descends.asks (λ fs n es. P.done (said (value_in key es), [])), on, v) (e.same slots [] []); noted = e.noted }

pub ruleset look_exits = (look_stops, leaf_small, look_ends)
