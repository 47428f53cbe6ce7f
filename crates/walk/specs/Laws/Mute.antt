-- Plans that never come to an answer: what stops the walk of one is no answer. Every question is one, up to what follows it.
use Rattle.std.specs.Prelude.{◌≡◌, Bool, cond, ℕ, zero, suc, length}
use Rattle.std.proofs.Math.Path.{refl}
use Rattle.std.proofs.Common.{sym, ap, ◌∙◌}
use Rattle.std.proofs.Math.Bool.{true, false}
use mathlib.Core.List.{List, [], ◌∷◌, ◌++◌}
use Rattle.std.proofs.Math.Option.{Option, none, some}
use Rattle.std.proofs.Math.Decide.{ℕ_discrete, dec_le}
use Rattle.std.proofs.Math.Dec.{ltb}
use Rattle.base.specs.Test.{ifd}
use Rattle.nodes.specs.Name.{server_of, slot_of}
use Rattle.nodes.specs.Placement.{row}
use Rattle.operations.specs.Object.{Obj, node, flag, Ask, object, vector, fetched, Val, root, body, taken, flags, states_of, no_tree, Writes, hit}
use Rattle.operations.specs.Slot.{chosen, free_slot, search, open_ones, when_free_flag, take_flag, take_on, take_for, when_free_node, take_node, release}
use Rattle.operations.specs.Entry.{Entries, fewest_entries, cut}
use Rattle.operations.specs.Path.{TreePlan, see, when_root, open_node, kid, Branch, Cont, down, at_root, to_leaf, from_root}
use Rattle.client.specs.Layout.{ClientWord}
use Rattle.client.specs.Record.{number}
use Rattle.client.specs.Have.{have}
use Rattle.client.specs.Run.{End, lacks, aborts, gives, among, judged, run}
use Rattle.walk.specs.Walk.{Course, Told, told, goes, stands, over_run, fresh, room, over, worked, tell, walked}
use Rattle.nodes.specs.declared.node.Node.{Node}
use Rattle.client.specs.Lent.{used_in}
use Rattle.walk.specs.Ask.{nothing}
use Rattle.walk.specs.Laws.Ask.{none_held}
use Rattle.walk.specs.Down.{Kid, Arrival, Descends}
use Rattle.plans.specs.Plan as P

unfoldable pub Mute : TreePlan → Type 0
Mute (P.ask a k) = (v : Val) → Mute (k v)
Mute (P.done r) = ⊥
Mute (P.fail y) = Unit {0}

abbrev given : End → Bool
given (lacks a) = false
given (aborts r) = false
given (gives a w) = true

judged_mute : (p : TreePlan) → Mute p → (x : ℕ) (us : List ℕ) → given (judged p x us).how ≡ false
unfolding Mute
judged_mute (P.ask a k) q x us = refl
judged_mute (P.done r) q x us = absurd q
judged_mute (P.fail y) q x us = refl

over_mute : (p : TreePlan) → Mute p → (us : List ℕ) → given (over_run p us).how ≡ false
unfolding Mute
over_mute (P.ask a k) q us = refl
over_mute (P.done r) q us = absurd q
over_mute (P.fail y) q us = refl

module _ (H : Ask → Option Val) (f : ℕ → Bool) (r : ℕ) where
  run_mute : (p : TreePlan) → Mute p → (us : List ℕ) → given (run H f r p us).how ≡ false
  unfolding run Mute
  run_mute (P.done a) q us = absurd q
  run_mute (P.fail y) q us = refl
  run_mute (P.ask (vector s) k) q us = go (H (vector s)) refl (λ v us. run_mute (k v) (q v) us)
    where
      go : (h : Option Val) → H (vector s) ≡ h → ((v : Val) (us : List ℕ) → given (run H f r (k v) us).how ≡ false) → given (run H f r (P.ask (vector s) k) us).how ≡ false
      go none e ih = rw (run, e)
      go (some v) e ih = rw (run, e) (ih v us)
  run_mute (P.ask (fetched s) k) q us = go (H (fetched s)) refl (λ v us. run_mute (k v) (q v) us)
    where
      go : (h : Option Val) → H (fetched s) ≡ h → ((v : Val) (us : List ℕ) → given (run H f r (k v) us).how ≡ false) → given (run H f r (P.ask (fetched s) k) us).how ≡ false
      go none e ih = rw (run, e)
      go (some v) e ih = rw (run, e) (ih v us)
  run_mute (P.ask (object o) k) q us = go (H (object o)) (f (number o)) (among (number o) us) (ltb (length us) r) refl refl refl refl (λ v us. run_mute (k v) (q v) us)
    where
      go : (h : Option Val) (a b c : Bool) → H (object o) ≡ h → f (number o) ≡ a → among (number o) us ≡ b → ltb (length us) r ≡ c
          → ((v : Val) (us : List ℕ) → given (run H f r (k v) us).how ≡ false) → given (run H f r (P.ask (object o) k) us).how ≡ false
      go none a b c e ea eb ec ih = rw (run, e)
      go (some v) false b c e ea eb ec ih = rw (run, e, ea) (ih v us)
      go (some v) true true c e ea eb ec ih = rw (run, e, ea, eb) (ih v us)
      go (some v) true false true e ea eb ec ih = rw (run, e, ea, eb, ec) (ih v (us ++ (number o ∷ [])))
      go (some v) true false false e ea eb ec ih = rw (run, e, ea, eb, ec) (judged_mute (k v) (q v) (number o) us)

module _ (slots : ℕ) (m : ClientWord → ℕ) where
  tell_mute : (e : End) (us : List ℕ) → given e ≡ false → stands (tell slots m e us).course ≡ false
  tell_mute (lacks a) us h = refl
  tell_mute (aborts r) us h = refl
  tell_mute (gives a w) us h = h

  pub walked_mute : (p : TreePlan) → Mute p → (us : List ℕ) → stands (walked slots m p us).course ≡ false
  unfolding walked worked
  walked_mute p q us = tell_mute (worked slots m p us).how (worked slots m p us).used (go (over m us) refl)
    where
      go : (b : Bool) → over m us ≡ b → given (worked slots m p us).how ≡ false
      go true e = rw (worked, e) (over_mute p q us)
      go false e = rw (worked, e) (run_mute (have slots m) (fresh m) (room m) p q us)

-- ---- questions, with what follows them
cond_mute : (b : Bool) (p q : TreePlan) → Mute p → Mute q → Mute (cond b p q)
cond_mute true p q f g = f
cond_mute false p q f g = g

pub see_mute : (w : Writes) (o : Obj) (k : Val → TreePlan) → ((v : Val) → Mute (k v)) → Mute (see w o k)
unfolding Mute
see_mute [] o k h = h
see_mute (e ∷ w) o k h = cond_mute (hit e.0 o) (k e.1) (see w o k) (h e.1) (see_mute w o k h)

flag_mute : (v : Val) (k : TreePlan) → Mute k → Mute (when_free_flag v k)
unfolding Mute
flag_mute (root r st) k h = tt
flag_mute (body j l ks vs) k h = tt
flag_mute (taken true) k h = tt
flag_mute (taken false) k h = h
flag_mute (flags fs) k h = tt

pub take_flag_mute : (w : Writes) (d : ℕ) (k : Writes → TreePlan) → ((w : Writes) → Mute (k w)) → Mute (take_flag w d k)
take_flag_mute w d k h = see_mute w (flag d) (λ v. when_free_flag v (k ((flag d, taken true) ∷ w))) (λ v. flag_mute v (k ((flag d, taken true) ∷ w)) (h ((flag d, taken true) ∷ w)))

chosen_mute : (s : ℕ) (o : Option ℕ) (k : ℕ → TreePlan) (p : TreePlan) → ((d : ℕ) → Mute (k d)) → Mute p → Mute (chosen s o k p)
chosen_mute s none k p h g = g
chosen_mute s (some i) k p h g = h _

search_mute : (slots : ℕ) (w : Writes) (slot : ℕ) (ss : List ℕ) (k : ℕ → TreePlan) → ((d : ℕ) → Mute (k d)) → Mute (search slots w slot ss k)
unfolding Mute
search_mute slots w slot [] k h = tt
search_mute slots w slot (s ∷ ss) k h =
    λ v. chosen_mute s (free_slot slots w slot s v) k _ h (λ u. chosen_mute s (free_slot slots w slot s u) k _ h (search_mute slots w slot ss k h))

pub take_on_mute : (slots : ℕ) (ss : List ℕ) (slot : ℕ) (w : Writes) (k : ℕ → Writes → TreePlan) → ((d : ℕ) (w : Writes) → Mute (k d w)) → Mute (take_on slots ss slot w k)
unfolding Mute
take_on_mute slots ss slot w k h = λ v. search_mute slots w slot (open_ones (states_of v) ss) _ (λ d. take_flag_mute w d (λ w'. k d w') (h d))

pub take_for_mute : (slots n : ℕ) (w : Writes) (k : ℕ → Writes → TreePlan) → ((d : ℕ) (w : Writes) → Mute (k d w)) → Mute (take_for slots n w k)
take_for_mute slots n w k h = take_on_mute slots (row (server_of n)) (slot_of n) w k h

node_mute : (v : Val) (k : TreePlan) → Mute k → Mute (when_free_node v k)
unfolding Mute
node_mute (root r st) k h = tt
node_mute (body zero l ks vs) k h = h
node_mute (body (suc j) l ks vs) k h = tt
node_mute (taken b) k h = tt
node_mute (flags fs) k h = tt

pub take_node_mute : (w : Writes) (d : ℕ) (k : TreePlan) → Mute k → Mute (take_node w d k)
take_node_mute w d k h = see_mute w (node d) (λ v. when_free_node v k) (λ v. node_mute v k h)

pub release_mute : (w : Writes) (n : ℕ) (k : Writes → TreePlan) → ((w : Writes) → Mute (k w)) → Mute (release w n k)
release_mute w n k h = see_mute w (flag n) _ (λ v. h _)

open_mute : (lo : ℕ) (v : Val) (k : ℕ → Entries → TreePlan) → ((l : ℕ) (es : Entries) → Mute (k l es)) → Mute (open_node lo v k)
unfolding Mute
open_mute lo (root r st) k h = tt
open_mute lo (taken b) k h = tt
open_mute lo (flags fs) k h = tt
open_mute lo (body zero l ks vs) k h = tt
open_mute lo (body (suc zero) zero ks vs) k h = h _ _
open_mute lo (body (suc zero) (suc l) ks vs) k h = tt
open_mute lo (body (suc (suc zero)) zero ks vs) k h = tt
open_mute lo (body (suc (suc zero)) (suc l) ks vs) k h = h _ _
open_mute lo (body (suc (suc (suc j))) l ks vs) k h = tt

ifd_mute : {A : Type 0} (d : Dec A) (p q : TreePlan) → Mute p → Mute q → Mute (ifd d p q)
ifd_mute (yes a) p q f g = f
ifd_mute (no a) p q f g = g

pub kid_mute : (w : Writes) (l lo n : ℕ) (k : Entries → TreePlan) → ((es : Entries) → Mute (k es)) → Mute (kid w l lo n k)
unfolding Mute
kid_mute w l lo n k h =
    see_mute w (node n) _ (λ v. open_mute lo v _ (λ j es. ifd_mute (ℕ_discrete j l) _ _ (ifd_mute (dec_le (fewest_entries l) (length es)) _ _ (h es) tt) tt))

-- ---- the way down
down_mute : (stop : ℕ → Bool) (key : ℕ) (k : Cont) → ((l : ℕ) (fs : List Branch) (n : ℕ) (es : Entries) → Mute (k l fs n es)) → (l : ℕ) (fs : List Branch) (n : ℕ) (es : Entries) → Mute (down stop key k l fs n es)
unfolding Mute
down_mute stop key k h zero fs n es = h zero fs n es
down_mute stop key k h (suc l) fs n [] = tt
down_mute stop key k h (suc l) fs n (e ∷ es) =
    let c = cut key e es in
    let next : Entries → TreePlan = λ es'. down stop key k l (record { nm = n; key = c.1.0; pre = c.0; post = c.2 } ∷ fs) c.1.1 es' in
    cond_mute (stop (suc l)) (k (suc l) fs n (e ∷ es)) (kid [] l c.1.0 c.1.1 next) (h (suc l) fs n (e ∷ es))
    (kid_mute [] l c.1.0 c.1.1 next (λ es'. down_mute stop key k h l (record { nm = n; key = c.1.0; pre = c.0; post = c.2 } ∷ fs) c.1.1 es'))

root_mute : (key : ℕ) → Mute (from_root key (λ fs n es. P.fail no_tree))
unfolding Mute
root_mute key = λ v. go v
  where
    go : (v : Val) → Mute (when_root v (λ r. at_root r (λ l es. down to_leaf key (λ _ fs n es. P.fail no_tree) l [] r es)))
    go (root r st) = λ u. open_mute 0 u (λ l es. down to_leaf key (λ _ fs n es. P.fail no_tree) l [] r es) (λ l es. down_mute to_leaf key (λ _ fs n es. P.fail no_tree) (λ l fs n es. tt) l [] r es)
    go (body j l ks vs) = tt
    go (taken b) = tt
    go (flags fs) = tt

-- what stops the walk at a child, or on the way down
pub kid_silent : (slots : ℕ) (m : ClientWord → ℕ) (u : List ℕ) (l n : ℕ) (s : Course) (r : Node) (u' : List ℕ) → Kid slots m nothing u l n s r u' → goes s ≡ false → stands s ≡ false
unfolding Mute
kid_silent slots m u l n s r u' h halts =
    let e : walked slots m (kid [] l 0 n (λ es. P.fail no_tree)) (used_in u) ≡ told s (used_in u') = h.asks [] (none_held slots) 0 (λ es. P.fail no_tree) ∙ rw halts in
    sym (ap (λ (t : Told). stands t.course) e) ∙ walked_mute slots m (kid [] l 0 n (λ es. P.fail no_tree)) (kid_mute [] l 0 n (λ es. P.fail no_tree) (λ es. tt)) (used_in u)

pub way_silent : (slots : ℕ) (m : ClientWord → ℕ) (u : List ℕ) (key : ℕ) (d : Arrival) (u' : List ℕ) → Descends slots m u key d u' → goes d.course ≡ false → stands d.course ≡ false
way_silent slots m u key d u' h halts =
    let e : walked slots m (from_root key (λ fs n es. P.fail no_tree)) (used_in u) ≡ told d.course (used_in u') = h.asks (λ fs n es. P.fail no_tree) ∙ rw halts in
    sym (ap (λ (t : Told). stands t.course) e) ∙ walked_mute slots m (from_root key (λ fs n es. P.fail no_tree)) (root_mute key) (used_in u)
