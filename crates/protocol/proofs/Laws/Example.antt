-- A store small enough to be run by computation: two servers, the root on both, a leaf on each. The leaf of server true is checked by value,
-- as flags are. The root is the metadata: by the numbers 8 and 18 server false is absent, by 9 server true, by others both are there. The closed
-- examples stand on it.
use Rattle.std.specs.Prelude.{◌≡◌, refl, Bool, true, false, ◌&&◌, ◌||◌, not, List, [], ◌∷◌, ◌⊎◌, ℕ}
use Rattle.std.proofs.Common.{ap, sym, ◌∙◌, subst, true≢false, inl, inr, arith}
use Rattle.std.proofs.Math.Bool.{Bool-discrete}
use Rattle.std.proofs.lemmas.Bool.{false≢true}
use Rattle.std.proofs.Math.Decide.{ℕ_discrete}
use Rattle.base.specs.Test.{and_both, yes?}
use Rattle.base.proofs.Laws.Test.{yes_of, of_yes}
use Rattle.base.specs.Update.{upd}
use Rattle.base.proofs.Laws.Update.{upd_other}
use Rattle.plans.specs.Plan.{Plan, ask, done, fail, Out, gives, fails, exec, Asked}
use Rattle.plans.specs.Walk.{Every}
use Rattle.protocol.specs.Setting.{Setting}
use Rattle.protocol.specs.Lists.{Among}
use Rattle.protocol.specs.Writes.{writes?, latest}
use Rattle.protocol.specs.Meaning.{Meaning, Shown}
use Rattle.protocol.proofs.Laws.Shape.{SeesOuter, outer_asked, WritesAsked, written_asked}

-- the leaf of a server
pub data Obj : Type 0 where
  root : Obj
  leaf : Bool → Obj
  deriving Discrete as ObjDiscrete

-- look at an object; put a number into a leaf, having looked at another; give the root another number, of the same servers
pub data Op : Type 0 where
  look : Obj → Op
  put : (seen to : Bool) → ℕ → Op
  turn : ℕ → Op

-- the answer, and the writes
abbrev pub Res : Type 0
Res = ℕ × List (Obj × ℕ)

-- which servers are there by the root's number: not server false by 8 and 18, not server true by 9
abbrev pub present : ℕ → Bool → Bool
present v false = not (yes? (ℕ_discrete v 8) || yes? (ℕ_discrete v 18))
present v true = not (yes? (ℕ_discrete v 9))

-- the same servers are there
abbrev pub same : Bool → Bool → Bool
same true b = b
same false b = not b

abbrev pub same_servers : ℕ → ℕ → Bool
same_servers v n = same (present v false) (present n false) && same (present v true) (present n true)

abbrev pub turning : Bool → ℕ → ℕ → Plan Obj ℕ Res (Unit {0})
turning true v n = done (v, (root, n) ∷ [])
turning false v n = fail tt

abbrev pub plan : Op → Plan Obj ℕ Res (Unit {0})
plan (look o) = ask o (λ v. done (v, []))
plan (put a b n) = ask root (λ _. ask (leaf a) (λ v. ask (leaf b) (λ u. done (v, (leaf b, n) ∷ []))))
plan (turn n) = ask root (λ v. turning (same_servers v n) v n)

abbrev pub inner : Obj → ℕ → Bool
inner root v = true
inner (leaf a) v = false

abbrev pub compared : Op → Bool
compared (look root) = false
compared (look (leaf a)) = true
compared (put a b n) = true
compared (turn n) = false

pub sees : (p : Op) → compared p ≡ true → SeesOuter inner (plan p) false
unfolding SeesOuter
sees (look root) h = absurd (false≢true h)
sees (look (leaf a)) h = λ v. refl
sees (put a b n) h = λ _ v u. refl
sees (turn n) h = absurd (false≢true h)

pub within : (p : Op) → WritesAsked (ObjDiscrete Bool-discrete) (λ r. r.1) (plan p) []
unfolding WritesAsked Every Among
within (look o) = λ v. tt
within (put a b n) = λ _ v u. (inl refl, tt)
within (turn n) = λ v. go (same_servers v n) v
  where
    go : (b : Bool) (v : ℕ) → WritesAsked (ObjDiscrete Bool-discrete) (λ r. r.1) (turning b v n) (root ∷ [])
    go true v = (inl refl, tt)
    go false v = tt

abbrev pub by_value : Obj → Bool
by_value root = false
by_value (leaf a) = a

pub by_value_outer : (o : Obj) → by_value o ≡ true → (v : ℕ) → inner o v ≡ false
by_value_outer root h v = absurd (false≢true h)
by_value_outer (leaf a) h v = refl

abbrev pub keeps : Bool → Obj → Bool
keeps s root = true
keeps s (leaf a) = yes? (Bool-discrete s a)

abbrev pub home : Obj → Bool
home root = false
home (leaf a) = a

pub keeps_home : (o : Obj) → keeps (home o) o ≡ true
keeps_home root = refl
keeps_home (leaf a) = of_yes (Bool-discrete a a) refl

pub keeps_where : (s : Bool) (o : Obj) → keeps s o ≡ true → (s ≡ home o) ⊎ (o ≡ root)
keeps_where s root h = inr refl
keeps_where s (leaf a) h = inl (yes_of (Bool-discrete s a) h)

pub both : (b : Bool) → Among b (false ∷ true ∷ [])
unfolding Among
both true = inr (inl refl)
both false = inl refl

abbrev result : Res → Out Res (Unit {0}) → Res
result r (gives q) = q
result r (fails y) = r

pub writes_know : (p : Op) (asked : Obj → Bool) (M : Obj → ℕ) (r : Res) → Asked (plan p) asked M → exec (plan p) M ≡ gives r
    → (o : Obj) → writes? (ObjDiscrete Bool-discrete) r.1 o ≡ true → asked root ≡ true
unfolding Asked exec writes?
writes_know (look q) asked M r a e o h = absurd (false≢true (ap (λ r. writes? (ObjDiscrete Bool-discrete) r.1 o) (ap (result r) e) ∙ h))
writes_know (put b c n) asked M r a e o h = a.0
writes_know (turn n) asked M r a e o h = a.0

abbrev gives? : Out Res (Unit {0}) → Bool
gives? (gives q) = true
gives? (fails y) = false

same_is : (a b : Bool) → same a b ≡ true → b ≡ a
same_is true b h = h
same_is false true h = absurd (false≢true h)
same_is false false h = refl

same_there : (v n : ℕ) → same_servers v n ≡ true → (s : Bool) → present n s ≡ present v s
same_there v n h true = same_is (present v true) (present n true) (and_both (same (present v false) (present n false)) (same (present v true) (present n true)) h).1
same_there v n h false = same_is (present v false) (present n false) (and_both (same (present v false) (present n false)) (same (present v true) (present n true)) h).0

pub servers_stay : (p : Op) (M : Obj → ℕ) (r : Res) → exec (plan p) M ≡ gives r → (s : Bool)
    → present (latest (ObjDiscrete Bool-discrete) r.1 root (M root)) s ≡ present (M root) s
unfolding exec latest
servers_stay (look q) M r e s = subst (λ r. present (latest (ObjDiscrete Bool-discrete) r.1 root (M root)) s ≡ present (M root) s) (ap (result r) e) refl
servers_stay (put a b n) M r e s = subst (λ r. present (latest (ObjDiscrete Bool-discrete) r.1 root (M root)) s ≡ present (M root) s) (ap (result r) e) refl
servers_stay (turn n) M r e s = go (same_servers (M root) n) refl e
  where
    go : (b : Bool) → same_servers (M root) n ≡ b → exec (turning b (M root) n) M ≡ gives r
        → present (latest (ObjDiscrete Bool-discrete) r.1 root (M root)) s ≡ present (M root) s
    go true h e =
        subst (λ r. present (latest (ObjDiscrete Bool-discrete) r.1 root (M root)) s ≡ present (M root) s) (ap (result r) e)
        (same_there (M root) n h s)
    go false h e = absurd (false≢true (ap gives? e))

pub init_manned : present 1 false ≡ true
unfolding ℕ_discrete
init_manned = refl

pub init_homed : (o : Obj) → ¬ (o ≡ root) → inner o 1 ≡ true → present 1 (home o) ≡ true
init_homed root ne h = absurd (ne refl)
init_homed (leaf a) ne h = absurd (false≢true h)

abbrev pub tiny : Setting
tiny = record {
  Obj = Obj;
  Val = ℕ;
  Server = Bool;
  Client = Bool;
  eq_obj = ObjDiscrete Bool-discrete;
  eq_val = ℕ_discrete;
  eq_server = Bool-discrete;
  eq_client = Bool-discrete;
  servers = false ∷ true ∷ [];
  servers_all = both;
  some_server = false;
  clients = false ∷ true ∷ [];
  clients_all = both;
  inner = inner;
  home = home;
  meta = root;
  meta_inner = λ v. refl;
  present = present;
  keeps = keeps;
  keeps_home = keeps_home;
  keeps_where = keeps_where;
  keeps_meta = λ s. refl;
  by_value = by_value;
  by_value_outer = by_value_outer;
  init = λ o. 1;
  init_manned = init_manned;
  init_homed = init_homed;
  Alike = λ v u. Unit {0};
  Op = Op;
  Res = Res;
  Why = Unit {0};
  plan = plan;
  writes = λ r. r.1;
  Ask = Op;
  Ans = ℕ;
  public = λ p. p;
  answer_of = λ r. r.0;
  compared = compared;
  asks_outer = λ p asked M r h. outer_asked inner (plan p) asked M r (sees p h);
  writes_asked = λ p asked M r. written_asked (ObjDiscrete Bool-discrete) (λ r. r.1) (plan p) asked M r (within p);
  writes_know = writes_know;
  servers_stay = servers_stay;
}

-- THE MEANING: the map is what the leaves hold
abbrev pub map_answer : Op → (Bool → ℕ) → ℕ
map_answer (look root) m = 0
map_answer (look (leaf a)) m = m a
map_answer (put a b n) m = m a
map_answer (turn n) m = 0

abbrev pub map_after : Op → (Bool → ℕ) → Bool → ℕ
map_after (look o) m = m
map_after (put a b n) m = upd Bool-discrete m b n
map_after (turn n) m = m

abbrev pub HoldsMap : (Obj → ℕ) → (Bool → ℕ) → Type 0
HoldsMap M m = (a : Bool) → M (leaf a) ≡ m a

pub uncompared_after : (q : Op) (m : Bool → ℕ) → compared q ≡ false → map_after q m ≡ m
uncompared_after (look o) m h = refl
uncompared_after (put a b n) m h = absurd (true≢false h)
uncompared_after (turn n) m h = refl

Sound : (p : Op) (M : Obj → ℕ) (m : Bool → ℕ) (r : Res) → Type 0
Sound p M m r = (compared p ≡ true → r.0 ≡ map_answer p m) × HoldsMap (λ o. latest (ObjDiscrete Bool-discrete) r.1 o (M o)) (map_after p m)

put_holds : (M : Obj → ℕ) (m : Bool → ℕ) (b : Bool) (n : ℕ) → HoldsMap M m
    → HoldsMap (λ o. latest (ObjDiscrete Bool-discrete) ((leaf b, n) ∷ []) o (M o)) (upd Bool-discrete m b n)
unfolding latest upd
put_holds M m true n h true = refl
put_holds M m true n h false = h false
put_holds M m false n h true = h true
put_holds M m false n h false = refl

pub sound : (p : Op) (M : Obj → ℕ) (m : Bool → ℕ) (r : Res) → HoldsMap M m → exec (plan p) M ≡ gives r
    → (compared p ≡ true → r.0 ≡ map_answer p m) × HoldsMap (λ o. latest (ObjDiscrete Bool-discrete) r.1 o (M o)) (map_after p m)
unfolding exec latest Sound
sound (look root) M m r h e = subst (Sound (look root) M m) (ap (result r) e) (λ q. absurd (false≢true q), h)
sound (look (leaf a)) M m r h e = subst (Sound (look (leaf a)) M m) (ap (result r) e) (λ q. h a, h)
sound (put a b n) M m r h e = subst (Sound (put a b n) M m) (ap (result r) e) (λ q. h a, put_holds M m b n h)
sound (turn n) M m r h e = go (same_servers (M root) n) e
  where
    go : (b : Bool) → exec (turning b (M root) n) M ≡ gives r → Sound (turn n) M m r
    go true e = subst (Sound (turn n) M m) (ap (result r) e) (λ q. absurd (false≢true q), h)
    go false e = absurd (false≢true (ap gives? e))

pub leaf≢root : (a : Bool) → ¬ (leaf a ≡ root)
leaf≢root a e = true≢false (ap leaf? e)
  where
    leaf? : Obj → Bool
    leaf? root = false
    leaf? (leaf a) = true

abbrev pub leaves : Meaning tiny
leaves = record {
  Map = Bool → ℕ;
  map_answer = map_answer;
  map_after = map_after;
  uncompared_after = uncompared_after;
  HoldsMap = HoldsMap;
  first_map = λ a. 1;
  first_holds = λ a. refl;
  alike_holds = λ M m v h _ a. upd_other (ObjDiscrete Bool-discrete) M root v (leaf a) (leaf≢root a) ∙ h a;
  sound = sound;
}

-- what a transaction with one operation shows
abbrev pub one : Op → ℕ → List (Shown tiny)
one p n = record { asked = p; answered = n } ∷ []

pub one≢seven : ◌≡◌ {A = ℕ} 1 7 → ⊥
one≢seven e = omega (arith, e)
