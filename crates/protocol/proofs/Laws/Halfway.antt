-- "No transaction is prepared": at no server. To read it as "at all its participants" is a trap. Three servers, c absent at first. Client true
-- flips the switch, an inner node, with participants a and b, and has prepared at a, where the metadata was checked. Now c is added. Client true
-- prepares at b, where it checks the switch but not the metadata, is decided and applied at a and b: the table of c has not heard of it. Client
-- false, which looked at the switch before and has the new metadata, passes its checks at c, and answers 0.
use Rattle.std.specs.Prelude.{◌≡◌, refl, Bool, true, false, ◌&&◌, List, [], ◌∷◌, ◌⊎◌, ℕ, suc}
use Rattle.std.proofs.Common.{ap, ◌∙◌, subst, true≢false, inl, inr, arith}
use Rattle.std.proofs.Math.Bool.{Bool-discrete}
use Rattle.std.proofs.lemmas.Bool.{false≢true}
use Rattle.std.proofs.Math.Decide.{ℕ_discrete, dec_lt}
use Rattle.base.specs.Test.{yes?}
use Rattle.base.proofs.Laws.Test.{yes_of, of_yes}
use Rattle.base.specs.Update.{upd}
use Rattle.base.proofs.Laws.Update.{upd_other}
use Rattle.plans.specs.Plan.{Plan, ask, done, Out, gives, fails, exec, Asked}
use Rattle.plans.specs.Walk.{Every}
use Rattle.protocol.specs.Setting.{Setting}
use Rattle.protocol.specs.Lists.{Among, all, any}
use Rattle.protocol.specs.Writes.{writes?, latest}
use Rattle.protocol.specs.State.{Entry, is_decided}
use Rattle.protocol.proofs.Laws.State.{after_commit}
use Rattle.protocol.specs.Meaning.{Meaning, Shown, map_of, map_all, Right, RightAll}
use Rattle.protocol.specs.Machine.{Machine, find}
use Rattle.protocol.specs.Moves.{all_parts, first_of, begins, fetches, answers, commits, prepares, decides, applies, reconfigured_by, Reached}
use Rattle.protocol.proofs.Laws.Largest.{largest, added_table}
use Rattle.protocol.proofs.Laws.Shape.{SeesOuter, outer_asked, WritesAsked, written_asked}
use Rattle.protocol.proofs.Laws.Variant.{ReachedWith, at_start, by_rule, also, never}

pub data Server : Type 0 where
  a b c : Server
  deriving Discrete as ServerDiscrete

pub data Obj : Type 0 where
  meta switch : Obj
  leaf : Server → Obj
  deriving Discrete as ObjDiscrete

pub data Op : Type 0 where
  look : Op
  flip : ℕ → Op

abbrev pub Res : Type 0
Res = ℕ × List (Obj × ℕ)

abbrev pub eq_obj : (o q : Obj) → Dec (o ≡ q)
eq_obj = ObjDiscrete ServerDiscrete

-- both look at a leaf, so that they have a participant
abbrev pub plan : Op → Plan Obj ℕ Res (Unit {0})
plan look = ask meta (λ _. ask switch (λ v. ask (leaf c) (λ _. done (v, []))))
plan (flip n) = ask meta (λ _. ask switch (λ v. ask (leaf b) (λ _. done (v, (switch, n) ∷ []))))

abbrev pub inner : Obj → ℕ → Bool
inner meta v = true
inner switch v = true
inner (leaf s) v = false

abbrev pub home : Obj → Server
home meta = a
home switch = a
home (leaf s) = s

abbrev pub keeps : Server → Obj → Bool
keeps s meta = true
keeps s switch = yes? (ServerDiscrete s a)
keeps s (leaf t) = yes? (ServerDiscrete s t)

-- c is there by the metadata 1
abbrev pub present : ℕ → Server → Bool
present v a = true
present v b = true
present v c = yes? (ℕ_discrete v 1)

pub sees : (p : Op) → SeesOuter inner (plan p) false
unfolding SeesOuter
sees look = λ _ v u. refl
sees (flip n) = λ _ v u. refl

pub within : (p : Op) → WritesAsked eq_obj (λ r. r.1) (plan p) []
unfolding WritesAsked Every Among
within look = λ _ v u. tt
within (flip n) = λ _ v u. (inr (inl refl), tt)

pub keeps_home : (o : Obj) → keeps (home o) o ≡ true
keeps_home meta = refl
keeps_home switch = of_yes (ServerDiscrete a a) refl
keeps_home (leaf s) = of_yes (ServerDiscrete s s) refl

pub keeps_where : (s : Server) (o : Obj) → keeps s o ≡ true → (s ≡ home o) ⊎ (o ≡ meta)
keeps_where s meta h = inr refl
keeps_where s switch h = inl (yes_of (ServerDiscrete s a) h)
keeps_where s (leaf t) h = inl (yes_of (ServerDiscrete s t) h)

pub init_homed : (o : Obj) → ¬ (o ≡ meta) → inner o 0 ≡ true → present 0 (home o) ≡ true
init_homed meta ne h = absurd (ne refl)
init_homed switch ne h = refl
init_homed (leaf s) ne h = absurd (false≢true h)

pub writes_know : (p : Op) (asked : Obj → Bool) (M : Obj → ℕ) → Asked (plan p) asked M → asked meta ≡ true
unfolding Asked
writes_know look asked M h = h.0
writes_know (flip n) asked M h = h.0

abbrev result : Res → Out Res (Unit {0}) → Res
result r (gives q) = q
result r (fails y) = r

pub servers_stay : (p : Op) (M : Obj → ℕ) (r : Res) → exec (plan p) M ≡ gives r → latest eq_obj r.1 meta (M meta) ≡ M meta
unfolding exec latest
servers_stay look M r e = subst (λ r. latest eq_obj r.1 meta (M meta) ≡ M meta) (ap (result r) e) refl
servers_stay (flip n) M r e = subst (λ r. latest eq_obj r.1 meta (M meta) ≡ M meta) (ap (result r) e) refl

pub every : (s : Server) → Among s (a ∷ b ∷ c ∷ [])
unfolding Among
every a = inl refl
every b = inr (inl refl)
every c = inr (inr (inl refl))

pub both : (d : Bool) → Among d (false ∷ true ∷ [])
unfolding Among
both true = inr (inl refl)
both false = inl refl

abbrev pub trio : Setting
trio = record {
  Obj = Obj;
  Val = ℕ;
  Server = Server;
  Client = Bool;
  eq_obj = eq_obj;
  eq_val = ℕ_discrete;
  eq_server = ServerDiscrete;
  eq_client = Bool-discrete;
  servers = a ∷ b ∷ c ∷ [];
  servers_all = every;
  some_server = a;
  clients = false ∷ true ∷ [];
  clients_all = both;
  inner = inner;
  home = home;
  meta = meta;
  meta_inner = λ v. refl;
  present = present;
  keeps = keeps;
  keeps_home = keeps_home;
  keeps_where = keeps_where;
  keeps_meta = λ s. refl;
  by_value = λ o. false;
  by_value_outer = λ o h. absurd (false≢true h);
  init = λ o. 0;
  init_manned = refl;
  init_homed = init_homed;
  Alike = λ v u. Unit {0};
  Op = Op;
  Res = Res;
  Why = Unit {0};
  plan = plan;
  writes = λ r. r.1;
  Ask = Op;
  Ans = ℕ;
  public = λ p. p;
  answer_of = λ r. r.0;
  compared = λ p. true;
  asks_outer = λ p asked M r _. outer_asked inner (plan p) asked M r (sees p);
  writes_asked = λ p asked M r. written_asked eq_obj (λ r. r.1) (plan p) asked M r (within p);
  writes_know = λ p asked M r h _ o _. writes_know p asked M h;
  servers_stay = λ p M r e s. ap (λ v. present v s) (servers_stay p M r e);
}

-- THE MEANING: the map is the switch
abbrev pub map_after : Op → ℕ → ℕ
map_after look m = m
map_after (flip n) m = n

pub sound : (p : Op) (M : Obj → ℕ) (m : ℕ) (r : Res) → M switch ≡ m → exec (plan p) M ≡ gives r
    → (true ≡ true → r.0 ≡ m) × (latest eq_obj r.1 switch (M switch) ≡ map_after p m)
unfolding exec latest
sound look M m r h e = subst (λ (r : Res). (true ≡ true → r.0 ≡ m) × (latest eq_obj r.1 switch (M switch) ≡ m)) (ap (result r) e) (λ _. h, h)
sound (flip n) M m r h e = subst (λ (r : Res). (true ≡ true → r.0 ≡ m) × (latest eq_obj r.1 switch (M switch) ≡ n)) (ap (result r) e) (λ _. h, refl)

pub switch≢meta : ¬ (switch ≡ meta)
switch≢meta e = true≢false (ap switch? e)
  where
    switch? : Obj → Bool
    switch? meta = false
    switch? switch = true
    switch? (leaf s) = false

abbrev pub switched : Meaning trio
switched = record {
  Map = ℕ;
  map_answer = λ p m. m;
  map_after = map_after;
  uncompared_after = λ q m h. absurd (true≢false h);
  HoldsMap = λ M m. M switch ≡ m;
  first_map = 0;
  first_holds = refl;
  alike_holds = λ M m v h _. upd_other eq_obj M meta v switch switch≢meta ∙ h;
  sound = sound;
}

-- a change of the servers as the rules have it, but for transactions that are prepared at some participants and not at all
data Early (m : Machine trio) : Machine trio → Type 0 where
  reconfigures_early : (s : Server) (v : ℕ) → ((d : Bool) → is_decided (m.slots d).phase ≡ false)
      → ((d : Bool) → (after_commit (m.slots d).phase && all_parts trio (m.slots d).participant (m.slots d).prepared) ≡ false)
      → Early m (reconfigured_by trio (m.value s meta) (suc (m.version s meta)) v (added_table trio m.table (present (m.value s meta))) m)

abbrev flipped : Entry trio
flipped = record { op = flip 7; result = (0, (switch, 7) ∷ []) }

abbrev looked : Entry trio
looked = record { op = look; result = (0, []) }

abbrev pub outcome : List (List (Shown trio))
outcome = (record { asked = look; answered = 0 } ∷ []) ∷ (record { asked = flip 7; answered = 0 } ∷ []) ∷ []

abbrev Goes : Machine trio → Type 0
Goes = ReachedWith trio Early

each : (P : Bool → Type 0) → P true → P false → (d : Bool) → P d
each P p q true = p
each P p q false = q

missed : (m : Machine trio) × Goes m × (m.log ≡ outcome)
unfolding upd exec Asked writes? latest find all any first_of largest ℕ_discrete dec_lt
missed =
    let r1 : Goes _ = by_rule at_start (begins true refl) in
    let r2 : Goes _ = by_rule r1 (fetches true a meta refl refl refl) in
    let r3 : Goes _ = by_rule r2 (fetches true a switch refl refl refl) in
    let r4 : Goes _ = by_rule r3 (fetches true b (leaf b) refl refl refl) in
    let r5 : Goes _ = by_rule r4 (answers true flipped refl (refl, (refl, (refl, tt))) refl) in
    let r6 : Goes _ = by_rule r5 (commits true refl refl) in
    let r7 : Goes _ = by_rule r6 (prepares true a refl refl refl refl refl) in
    let r8 : Goes _ = also r7 (reconfigures_early a 1 (each _ refl refl) (each _ refl refl)) in
    let r9 : Goes _ = by_rule r8 (begins false refl) in
    let r10 : Goes _ = by_rule r9 (fetches false c meta refl refl refl) in
    let r11 : Goes _ = by_rule r10 (fetches false a switch refl refl refl) in
    let r12 : Goes _ = by_rule r11 (fetches false c (leaf c) refl refl refl) in
    let r13 : Goes _ = by_rule r12 (prepares true b refl refl refl refl refl) in
    let r14 : Goes _ = by_rule r13 (decides true refl refl) in
    let r15 : Goes _ = by_rule r14 (applies true a refl refl refl) in
    let r16 : Goes _ = by_rule r15 (applies true b refl refl refl) in
    let r17 : Goes _ = by_rule r16 (answers false looked refl (refl, (refl, (refl, tt))) refl) in
    let r18 : Goes _ = by_rule r17 (commits false refl refl) in
    let r19 : Goes _ = by_rule r18 (prepares false c refl refl refl refl refl) in
    let r20 : Goes _ = by_rule r19 (decides false refl refl) in
    (_, r20, refl)

-- the last one should have answered 7
wrong : RightAll trio switched outcome → ⊥
unfolding RightAll Right map_all map_of
wrong h = absurd (zero≢seven (h.1.1 refl))
  where
    zero≢seven : ◌≡◌ {A = ℕ} 0 7 → ⊥
    zero≢seven e = omega (arith, e)

-- so it is no run by the rules
pub needed : (m : Machine trio) → Reached trio m → m.log ≡ outcome → ⊥
needed = never trio switched outcome wrong
