-- A work step as moves of the machine: the plan is walked over items and copies, the copies used become items, and then the object lacking
-- is fetched or the operation is answered.
use Rattle.std.specs.Prelude.{◌≡◌, Bool, false, cond, ℕ}
use Rattle.std.proofs.Math.Path.{refl, ap, fun_ext}
use Rattle.std.proofs.Common.{sym, ◌∙◌, subst}
use Rattle.std.proofs.Math.Bool.{true}
use mathlib.Core.List.{List, [], ◌∷◌}
use Rattle.std.proofs.Math.Option.{Option, none, some, none-ne-some, some-ne-none}
use Rattle.base.specs.Update.{upd}
use Rattle.base.proofs.Laws.Update.{upd_same}
use Rattle.plans.specs.Plan.{gives, exec, Asked}
use Rattle.plans.proofs.Laws.Walk.{ends, Shows, walk, used_had, walk_exec, walk_asked}
use Rattle.plans.specs.Walk.{Every, used}
use Rattle.protocol.proofs.Laws.Changed.{upd_none, upd_twice}
use Rattle.protocol.specs.Setting.{Setting}
use Rattle.protocol.specs.State.{opened, Entry, Transaction, view}
use Rattle.protocol.specs.Meaning.{shown_of}
use Rattle.protocol.specs.Machine.{Item, find, says, test, Slot, Copy, Machine, seen, item, with_items, turned, with_slot}
use Rattle.protocol.specs.Moves.{answered_slot, uses_copy, fetches, answers, Reached, moved}
use Rattle.protocol.proofs.Laws.Items.{found}

every_map : {A : Type 0} (P R : A → Type 0) → ((a : A) → P a → R a) → (l : List A) → Every P l → Every R l
unfolding Every
every_map P R f [] h = tt
every_map P R f (a ∷ l) h = (f a h.0, every_map P R f l h.1)

module _ (T : Setting) where
  open T use {Obj, Server, Client, Val, Op, Res, eq_obj, eq_client, keeps, init, plan, writes}

  -- "An object is read from the write set, else the read set, else the client's copies"
  abbrev pub at_hand : Option (Item T) → Option (Copy T) → Option Val
  at_hand (some i) z = some (cond i.written i.new i.old)
  at_hand none (some k) = some k.value
  at_hand none none = none

  abbrev pub have : (Obj → Option (Copy T)) → List (Item T) → Obj → Option Val
  have copy is o = at_hand (find T is o) (copy o)

  -- "what is used enters the read set"
  abbrev pub enter : List (Item T) → Obj → Option (Item T) → Option (Copy T) → List (Item T)
  enter is o (some i) z = is
  enter is o none (some k) = item T o k.value k.version ∷ is
  enter is o none none = is

  unfoldable pub absorb : (Obj → Option (Copy T)) → List Obj → List (Item T) → List (Item T)
  absorb copy [] is = is
  absorb copy (o ∷ os) is = absorb copy os (enter is o (find T is o) (copy o))

  abbrev pub has_item : List (Item T) → Obj → Bool
  has_item = test T (λ i. true)

  -- that changes nothing of what is at hand, and loses no item
  pub have_enter : (copy : Obj → Option (Copy T)) (is : List (Item T)) (o q : Obj) (z : Option (Item T)) (k : Option (Copy T)) → find T is o ≡ z → copy o ≡ k
      → have copy (enter is o z k) q ≡ have copy is q
  unfolding find
  have_enter copy is o q (some i) k e c = refl
  have_enter copy is o q none none e c = refl
  have_enter copy is o q none (some k) e c = go (eq_obj o q) refl
    where
      go : (d : Dec (o ≡ q)) → eq_obj o q ≡ d → have copy (item T o k.value k.version ∷ is) q ≡ have copy is q
      go (yes p) h = rw (h, find) (subst (λ q. some k.value ≡ have copy is q) p (rw (e, c) refl))
      go (no n) h = rw (h, find) refl

  item_enter : (is : List (Item T)) (o q : Obj) (z : Option (Item T)) (k : Option (Copy T)) → has_item is q ≡ true → has_item (enter is o z k) q ≡ true
  unfolding find
  item_enter is o q (some i) k r = r
  item_enter is o q none none r = r
  item_enter is o q none (some k) r = go (eq_obj o q) refl
    where
      go : (d : Dec (o ≡ q)) → eq_obj o q ≡ d → has_item (item T o k.value k.version ∷ is) q ≡ true
      go (yes p) h = rw (h, find) refl
      go (no n) h = rw (h, find) r

  -- and what was at hand has an item now
  item_new : (is : List (Item T)) (o : Obj) (z : Option (Item T)) (k : Option (Copy T)) (v : Val) → find T is o ≡ z
      → at_hand z k ≡ some v → has_item (enter is o z k) o ≡ true
  unfolding find
  item_new is o (some i) k v e h = ap (says T (λ i. true) false) e
  item_new is o none none v e h = absurd (none-ne-some v h)
  item_new is o none (some k) v e h = go (eq_obj o o) refl
    where
      go : (d : Dec (o ≡ o)) → eq_obj o o ≡ d → has_item (item T o k.value k.version ∷ is) o ≡ true
      go (yes p) q = rw (q, find) refl
      go (no n) q = absurd (n refl)

  have_absorb : (copy : Obj → Option (Copy T)) (os : List Obj) (is : List (Item T)) (q : Obj) → have copy (absorb copy os is) q ≡ have copy is q
  unfolding absorb
  have_absorb copy [] is q = refl
  have_absorb copy (o ∷ os) is q =
      have_absorb copy os (enter is o (find T is o) (copy o)) q ∙ have_enter copy is o q (find T is o) (copy o) refl refl

  item_absorb : (copy : Obj → Option (Copy T)) (os : List Obj) (is : List (Item T)) (q : Obj) → has_item is q ≡ true → has_item (absorb copy os is) q ≡ true
  unfolding absorb
  item_absorb copy [] is q r = r
  item_absorb copy (o ∷ os) is q r = item_absorb copy os (enter is o (find T is o) (copy o)) q (item_enter is o q (find T is o) (copy o) r)

  all_read : (copy : Obj → Option (Copy T)) (os : List Obj) (is : List (Item T)) → Every (λ o. (v : Val) × (have copy is o ≡ some v)) os
      → Every (λ o. has_item (absorb copy os is) o ≡ true) os
  unfolding absorb Every
  all_read copy [] is h = tt
  all_read copy (o ∷ os) is h =
      let is' = enter is o (find T is o) (copy o) in (
        item_absorb copy os is' o (item_new is o (find T is o) (copy o) h.0.0 refl h.0.1),
        all_read copy os is' (every_map (λ o. (v : Val) × (have copy is o ≡ some v)) (λ o. (v : Val) × (have copy is' o ≡ some v))
            (λ q w. (w.0, have_enter copy is o q (find T is o) (copy o) refl refl ∙ w.1)) os h.1),
      )

  -- what an item gives is what the transaction's view shows
  have_view : (y : Slot T) (copy : Obj → Option (Copy T)) (o : Obj) → has_item y.items o ≡ true → have copy y.items o ≡ some (view T (seen T y) o)
  have_view y copy o r = let f = found T (λ i. true) y.items o r in rw f.1 (ap some (same f.0.written f.0.new (init o) f.0.old))
    where
      same : (b : Bool) (n i d : Val) → cond b n d ≡ cond b (cond b n i) d
      same true n i d = refl
      same false n i d = refl

  module _ (m : Machine T) (c : Client) where
    abbrev y : Slot T
    y = m.slots c

    -- the machine with other items for c
    abbrev pub having : List (Item T) → Machine T
    having is = with_slot T m c (with_items T (m.slots c) is)

    here : (is : List (Item T)) → (having is).slots c ≡ with_items T y is
    here is = upd_same eq_client m.slots c (with_items T y is)

    -- a change of c's slot after a change of c's slot
    slot_path : (F : Slot T → Slot T) (is : List (Item T))
        → upd eq_client (having is).slots c (F ((having is).slots c)) ≡ upd eq_client m.slots c (F (with_items T y is))
    slot_path F is = fun_ext (λ d.
        ap (λ z. upd eq_client (having is).slots c (F z) d) (here is)
        ∙ upd_twice eq_client m.slots c (with_items T y is) (F (with_items T y is)) d)

    -- the steps that make an item of what is read, where c has the items is
    grown : (is : List (Item T)) (o : Obj) (v : Val) (n : ℕ)
        → with_slot T (having is) c (with_items T ((having is).slots c) (item T o v n ∷ ((having is).slots c).items)) ≡ having (item T o v n ∷ is)
    grown is o v n j = turned T m (slot_path (λ z. with_items T z (item T o v n ∷ z.items)) is j) m.lock m.said m.log

    is_open : (is : List (Item T)) → (m.slots c).phase ≡ opened → ((having is).slots c).phase ≡ opened
    is_open is hp = ap (λ z. z.phase) (here is) ∙ hp

    no_item : (is : List (Item T)) (o : Obj) → find T is o ≡ none → find T ((having is).slots c).items o ≡ none
    no_item is o e = ap (λ z. find T z.items o) (here is) ∙ e

    enter_reached : (is : List (Item T)) (o : Obj) (z : Option (Item T)) (k : Option (Copy T)) → (m.slots c).phase ≡ opened
        → find T is o ≡ z → m.copy c o ≡ k → Reached T (having is) → Reached T (having (enter is o z k))
    enter_reached is o (some i) k hp e q r = r
    enter_reached is o none none hp e q r = r
    enter_reached is o none (some k) hp e q r =
        subst (λ n. Reached T n) (grown is o k.value k.version) (moved r (uses_copy c o k (is_open is hp) (no_item is o e) q))

    absorb_reached : (os : List Obj) (is : List (Item T)) → (m.slots c).phase ≡ opened → Reached T (having is)
        → Reached T (having (absorb (m.copy c) os is))
    unfolding absorb
    absorb_reached [] is hp r = r
    absorb_reached (o ∷ os) is hp r =
        absorb_reached os (enter is o (find T is o) (m.copy c o)) hp (enter_reached is o (find T is o) (m.copy c o) hp refl refl r)

    -- COPIES USED: the objects os are read from the copies, those that are there and not in the sets
    pub copies_enter : (os : List Obj) → Reached T m → (m.slots c).phase ≡ opened → Reached T (having (absorb (m.copy c) os (m.slots c).items))
    copies_enter os r hp = absorb_reached os y.items hp (subst (λ n. Reached T n) self r)
      where
        self : m ≡ having y.items
        self j = turned T m (λ d. sym (upd_none eq_client m.slots c y refl d) j) m.lock m.said m.log

    -- WORK THAT FETCHES "the first one lacking and does no more": o, which is not at hand, after os were used
    pub work_fetches : (os : List Obj) (s : Server) (o : Obj) → Reached T m → (m.slots c).phase ≡ opened
        → have (m.copy c) (m.slots c).items o ≡ none → keeps s o ≡ true
        → Reached T (having (item T o (m.value s o) (m.version s o) ∷ absorb (m.copy c) os (m.slots c).items))
    work_fetches os s o r hp w k =
        subst (λ n. Reached T n) (grown is o (m.value s o) (m.version s o))
        (moved (copies_enter os r hp) (fetches c s o (is_open is hp) (no_item is o (lacking (find T is o) refl)) k))
      where
        is : List (Item T)
        is = absorb (m.copy c) os y.items

        lacking : (z : Option (Item T)) → find T is o ≡ z → find T is o ≡ none
        lacking none q = q
        lacking (some i) q =
            absurd (some-ne-none _ (sym (ap (λ z. at_hand z (m.copy c o)) q) ∙ have_absorb (m.copy c) os y.items o ∙ w))

    -- the items after a walk of p, whose copies have entered
    abbrev pub items_used : Op → List (Item T)
    items_used p = absorb (m.copy c) (used (plan p) (have (m.copy c) (m.slots c).items)) (m.slots c).items

    -- WORK THAT ANSWERS: the writes enter, and the answer is said
    pub work_answers : (p : Op) (res : Res) → Reached T m → (m.slots c).phase ≡ opened
        → walk (plan p) (have (m.copy c) (m.slots c).items) ≡ ends (gives res)
        → Reached T (turned T m (upd eq_client m.slots c (answered_slot T (with_items T (m.slots c) (items_used p)) (writes res))) m.lock
        (upd eq_client m.said c (shown_of T (record { op = p; result = res }) ∷ m.said c)) m.log)
    work_answers p res r hp walked =
        subst (λ n. Reached T n) path (moved (copies_enter os r hp) (answers c e (is_open is hp) asked ran))
      where
        e : Entry T
        e = record { op = p; result = res }

        look : Obj → Option Val
        look = have (m.copy c) y.items

        os : List Obj
        os = used (plan p) look

        is : List (Item T)
        is = items_used p

        x : Transaction T
        x = seen T (with_items T y is)

        read : Every (λ o. has_item is o ≡ true) os
        read = all_read (m.copy c) os y.items (used_had (plan p) look)

        shows : Shows look (view T x) os
        shows = every_map (λ o. has_item is o ≡ true) (λ o. look o ≡ some (view T x o))
            (λ o q. sym (have_absorb (m.copy c) os y.items o) ∙ have_view (with_items T y is) (m.copy c) o q) os read

        asked : Asked (plan p) (seen T ((having is).slots c)).read (view T (seen T ((having is).slots c)))
        asked = subst (λ z. Asked (plan p) (seen T z).read (view T (seen T z))) (sym (here is))
            (walk_asked (plan p) look (view T x) x.read (gives res) walked shows read)

        ran : exec (plan p) (view T (seen T ((having is).slots c))) ≡ gives res
        ran = subst (λ z. exec (plan p) (view T (seen T z)) ≡ gives res) (sym (here is)) (walk_exec (plan p) look (view T x) (gives res) shows walked)

        path : turned T (having is) (upd eq_client (having is).slots c (answered_slot T ((having is).slots c) (writes res))) m.lock
            (upd eq_client m.said c (shown_of T e ∷ m.said c)) m.log
            ≡ turned T m (upd eq_client m.slots c (answered_slot T (with_items T y is) (writes res))) m.lock
            (upd eq_client m.said c (shown_of T e ∷ m.said c)) m.log
        path j = turned T m (slot_path (λ z. answered_slot T z (writes res)) is j) m.lock (upd eq_client m.said c (shown_of T e ∷ m.said c)) m.log
