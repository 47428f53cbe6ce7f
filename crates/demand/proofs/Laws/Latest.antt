-- An operation's writes as entries, each object once: the one that was written last.
use Rattle.std.specs.Prelude.{◌≡◌, Bool, cond, ◌||◌, ℕ, ◌≤◌}
use Rattle.std.proofs.Math.Path.{refl, ap}
use Rattle.std.proofs.Common.{sym, ◌∙◌, subst, eqb-true, eq-eqb, ne_eqb}
use Rattle.std.proofs.Math.Bool.{true, false}
use mathlib.Core.List.{List, [], ◌∷◌}
use Rattle.std.proofs.Math.Option.{Option, none, some}
use Rattle.std.proofs.lemmas.Bool.{eqb-false}
use Rattle.std.proofs.Math.Dec.{eqb}
use Rattle.base.proofs.Laws.Test.{or_neither}
use Rattle.base.specs.Test.{yes?, ifd}
use Rattle.plans.specs.Walk.{Every}
use Rattle.nodes.specs.declared.node.Node.{Node}
use Rattle.nodes.proofs.Laws.Stored.{Sized}
use Rattle.operations.specs.Object.{Obj, Val, Writes, hit}
use Rattle.operations.proofs.Laws.Object.{ObjDiscrete, written}
use Rattle.operations.proofs.Laws.Hit.{hit_self}
use Rattle.operations.proofs.Laws.Storable.{Storable, AllStorable}
use Rattle.protocol.specs.Writes.{writes?, latest}
use Rattle.client.specs.Record.{number, value_of, record_of}
use Rattle.client.specs.Lent.{Entry}
use Rattle.client.specs.Answered.{put_entry, entered}
use Rattle.demand.proofs.Laws.Numbers.{obj_of, obj_number}
use Rattle.demand.proofs.Laws.Shows.{InStore}
use Rattle.demand.proofs.Laws.Records.{Any, read_back, record_whole}

-- what is written under the number q: by one entry, else d
abbrev pub with_entry : Entry → ℕ → Option Node → Option Node
with_entry e q d = cond (eqb e.0 q) (some e.1) d

-- by entries that are entered one after another, and by the first that has the number
unfoldable pub by_entries : List Entry → ℕ → Option Node → Option Node
by_entries [] q d = d
by_entries (e ∷ l) q d = by_entries l q (with_entry e q d)

unfoldable first : List Entry → ℕ → Option Node → Option Node
first [] q d = d
first (e ∷ l) q d = with_entry e q (first l q d)

-- by an operation's writes, the last first
abbrev pub entry_of : Obj × Val → Entry
entry_of e = (number e.0, record_of 0 e.1)

unfoldable pub by_writes : Writes → ℕ → Option Node → Option Node
by_writes [] q d = d
by_writes (e ∷ w) q d = with_entry (entry_of e) q (by_writes w q d)

-- ---- each number once
unfoldable pub there : ℕ → List Entry → Bool
there x [] = false
there x (f ∷ l) = eqb f.0 x || there x l

unfoldable pub Apart : List Entry → Type 0
Apart [] = Unit {0}
Apart (e ∷ l) = (there e.0 l ≡ false) × Apart l

put_there : (e : Entry) (l : List Entry) (x : ℕ) → eqb e.0 x ≡ false → there x l ≡ false → there x (put_entry e l) ≡ false
unfolding there put_entry
put_there e [] x a b = rw a refl
put_there e (f ∷ l) x a b = let h = or_neither (eqb f.0 x) (there x l) b in go (eqb f.0 e.0) h (put_there e l x a h.1)
  where
    go : (c : Bool) → (eqb f.0 x ≡ false) × (there x l ≡ false) → there x (put_entry e l) ≡ false → there x (cond c (e ∷ l) (f ∷ put_entry e l)) ≡ false
    go true h rec = rw (a, h.1) refl
    go false h rec = rw (h.0, rec) refl

put_apart : (e : Entry) (l : List Entry) → Apart l → Apart (put_entry e l)
unfolding Apart there put_entry
put_apart e [] h = (refl, tt)
put_apart e (f ∷ l) h = go (eqb f.0 e.0) refl (put_apart e l h.1)
  where
    go : (c : Bool) → eqb f.0 e.0 ≡ c → Apart (put_entry e l) → Apart (cond c (e ∷ l) (f ∷ put_entry e l))
    go true q rec = (subst (λ (x : ℕ). there x l ≡ false) (eqb-true f.0 e.0 q) h.0, h.1)
    go false q rec = (put_there e l f.0 (ne_eqb e.0 f.0 (λ z. eqb-false f.0 e.0 q (sym z))) h.0, rec)

pub entered_apart : (w : Writes) → Apart (entered w)
unfolding entered Apart
entered_apart [] = tt
entered_apart (e ∷ w) = put_apart (entry_of e) (entered w) (entered_apart w)

-- an entry is put in, and the others of its number are gone: what holds of it and of the others
module _ (P Q : Entry → Type 0) (e : Entry) (f : (g : Entry) → eqb g.0 e.0 ≡ false → P g → Q g) where
  others : (l : List Entry) → there e.0 l ≡ false → Every P l → Every Q l
  unfolding Every there
  others [] a h = tt
  others (g ∷ l) a h = let n = or_neither (eqb g.0 e.0) (there e.0 l) a in (f g n.0 h.0, others l n.1 h.1)

  pub put_every : Q e → (l : List Entry) → Apart l → Every P l → Every Q (put_entry e l)
  unfolding Every Apart put_entry
  put_every q [] a h = (q, tt)
  put_every q (g ∷ l) a h = go (eqb g.0 e.0) refl (put_every q l a.1 h.1)
    where
      go : (b : Bool) → eqb g.0 e.0 ≡ b → Every Q (put_entry e l) → Every Q (cond b (e ∷ l) (g ∷ put_entry e l))
      go true t rec = (q, others l (subst (λ (x : ℕ). there x l ≡ false) (eqb-true g.0 e.0 t) a.0) h.1)
      go false t rec = (f g t h.0, rec)

-- what holds of every write holds of every entry
pub entered_every : (P : Entry → Type 0) (w : Writes) → Every (λ (e : Obj × Val). P (entry_of e)) w → Every P (entered w)
unfolding entered Every
entered_every P [] h = tt
entered_every P (e ∷ w) h = put_every P P (entry_of e) (λ g _ p. p) h.0 (entered w) (entered_apart w) (entered_every P w h.1)

-- and what holds of every object that is written, of every write
pub every_written : (Q : Obj → Type 0) (w : Writes) → ((o : Obj) → written w o ≡ true → Q o) → Every (λ (e : Obj × Val). Q e.0) w
unfolding Every
every_written Q [] h = tt
every_written Q (e ∷ w) h =
    (h e.0 (ap (λ (b : Bool). cond b true (written w e.0)) (hit_self e.0)), every_written Q w (λ o q. h o (later (hit e.0 o) (written w o) q)))
  where
    later : (b c : Bool) → c ≡ true → cond b true c ≡ true
    later true c h = refl
    later false c h = h

first_missing : (l : List Entry) (q : ℕ) (d : Option Node) → there q l ≡ false → first l q d ≡ d
unfolding first there
first_missing [] q d h = refl
first_missing (e ∷ l) q d h = let g = or_neither (eqb e.0 q) (there q l) h in rw g.0 (first_missing l q d g.1)

-- entries apart, one after another: the first is the only one
in_turn : (l : List Entry) (q : ℕ) (d : Option Node) → Apart l → by_entries l q d ≡ first l q d
unfolding by_entries first Apart
in_turn [] q d h = refl
in_turn (e ∷ l) q d h = in_turn l q (with_entry e q d) h.1 ∙ go (eqb e.0 q) refl
  where
    go : (b : Bool) → eqb e.0 q ≡ b → first l q (cond b (some e.1) d) ≡ cond b (some e.1) (first l q d)
    go true t = first_missing l q (some e.1) (subst (λ (x : ℕ). there x l ≡ false) (eqb-true e.0 q t) h.0)
    go false t = refl

put_first : (e : Entry) (l : List Entry) (q : ℕ) (d : Option Node) → first (put_entry e l) q d ≡ with_entry e q (first l q d)
unfolding first put_entry
put_first e [] q d = refl
put_first e (f ∷ l) q d = go (eqb f.0 e.0) refl (eqb e.0 q) refl (eqb f.0 q) refl (put_first e l q d)
  where
    go : (a : Bool) → eqb f.0 e.0 ≡ a → (b : Bool) → eqb e.0 q ≡ b → (c : Bool) → eqb f.0 q ≡ c → first (put_entry e l) q d ≡ with_entry e q (first l q d)
        → first (cond a (e ∷ l) (f ∷ put_entry e l)) q d ≡ cond b (some e.1) (cond c (some f.1) (first l q d))
    go true p true t c s rec = rw t refl
    go true p false t true s rec = absurd (eqb-false e.0 q t (sym (eqb-true f.0 e.0 p) ∙ eqb-true f.0 q s))
    go true p false t false s rec = rw t refl
    go false p b t true s rec = rw s (only_one b t)
      where
        only_one : (b : Bool) → eqb e.0 q ≡ b → some f.1 ≡ cond b (some e.1) (some f.1)
        only_one true t = absurd (eqb-false f.0 e.0 p (eqb-true f.0 q s ∙ sym (eqb-true e.0 q t)))
        only_one false t = refl
    go false p b t false s rec = rw s (rec ∙ ap (λ (z : Bool). cond z (some e.1) (first l q d)) t)

entered_first : (w : Writes) (q : ℕ) (d : Option Node) → first (entered w) q d ≡ by_writes w q d
unfolding entered first by_writes
entered_first [] q d = refl
entered_first (e ∷ w) q d = put_first (entry_of e) (entered w) q d ∙ ap (with_entry (entry_of e) q) (entered_first w q d)

-- THE LAST WRITE of each object
pub entered_last : (w : Writes) (q : ℕ) (d : Option Node) → by_entries (entered w) q d ≡ by_writes w q d
entered_last w q d = in_turn (entered w) q d (entered_apart w) ∙ entered_first w q d

-- ---- records of what can be stored
abbrev pub AllWhole : List Entry → Type 0
AllWhole = Every (λ (e : Entry). Sized e.1)

pub entered_whole : (w : Writes) → AllStorable Any w → AllWhole (entered w)
unfolding Every
entered_whole w h = entered_every (λ (e : Entry). Sized e.1) w (whole w h)
  where
    whole : (w : Writes) → AllStorable Any w → Every (λ (e : Obj × Val). Sized (record_of 0 e.1)) w
    whole [] h = tt
    whole (e ∷ w) h = (record_whole Any e.0 e.1 h.1, whole w h.2)

-- ---- as the machine has it
abbrev pub is_there : Option Node → Bool
is_there none = false
is_there (some r) = true

-- the value of what is written, else a
abbrev pub value_in : Obj → Val → Option Node → Val
value_in o a none = a
value_in o a (some r) = value_of o r

module _ (k j slots : ℕ) (al : slots ≤ 1024) where
  abbrev pub AllInside : Writes → Type 0
  AllInside = Every (λ (e : Obj × Val). InStore k j slots e.0)

  same_number : (o q : Obj) → InStore k j slots o → InStore k j slots q → (d : Dec (o ≡ q)) → eqb (number q) (number o) ≡ yes? d
  same_number o q h g (yes p) = eq-eqb (number q) (number o) (ap number (sym p))
  same_number o q h g (no n) =
      ne_eqb (number q) (number o) (λ e. n (sym (obj_number slots al o h) ∙ ap obj_of (sym e) ∙ obj_number slots al q g))

  module _ (o : Obj) (h : InStore k j slots o) where
    pub last_there : (w : Writes) → AllInside w → (d : Option Node) → is_there (by_writes w (number o) d) ≡ (writes? ObjDiscrete w o || is_there d)
    unfolding by_writes writes? Every
    last_there [] g d = refl
    last_there (e ∷ w) g d =
        let x = ObjDiscrete o e.0 in
        ap (λ (b : Bool). is_there (cond b (some (record_of 0 e.1)) (by_writes w (number o) d))) (same_number o e.0 h g.0 x)
        ∙ go (yes? x) (last_there w g.1 d)
      where
        go : (b : Bool) → is_there (by_writes w (number o) d) ≡ (writes? ObjDiscrete w o || is_there d)
            → is_there (cond b (some (record_of 0 e.1)) (by_writes w (number o) d)) ≡ ((b || writes? ObjDiscrete w o) || is_there d)
        go true rec = refl
        go false rec = rec

    pub last_value : (w : Writes) → AllStorable Any w → AllInside w → (a : Val) (d : Option Node)
        → value_in o a (by_writes w (number o) d) ≡ latest ObjDiscrete w o (value_in o a d)
    unfolding by_writes latest Every
    last_value [] s g a d = refl
    last_value (e ∷ w) s g a d =
        let x = ObjDiscrete o e.0 in
        ap (λ (b : Bool). value_in o a (cond b (some (record_of 0 e.1)) (by_writes w (number o) d))) (same_number o e.0 h g.0 x)
        ∙ go x (last_value w s.2 g.1 a d)
      where
        go : (x : Dec (o ≡ e.0)) → value_in o a (by_writes w (number o) d) ≡ latest ObjDiscrete w o (value_in o a d)
            → value_in o a (cond (yes? x) (some (record_of 0 e.1)) (by_writes w (number o) d)) ≡ ifd x e.1 (latest ObjDiscrete w o (value_in o a d))
        go (yes p) rec = read_back Any o e.1 (subst (λ q. Storable Any q e.1) (sym p) s.1)
        go (no n) rec = rec
