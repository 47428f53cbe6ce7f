-- "only then do its writes enter the write set": entries, one after another, each in its object's place, else behind the others.
use Rattle.std.specs.Prelude.{◌≡◌, Bool, false, List, [], ◌∷◌, ℕ, suc, ◌+◌, ◌≤◌, ◌<◌, eqb}
use Rattle.std.proofs.Math.Path.{refl, ap, sym}
use Rattle.std.proofs.Common.{◌∙◌, subst, arith, lt-ltb, eq-eqb, ne_eqb}
use Rattle.std.proofs.Math.Bool.{true, cond}
use Rattle.std.proofs.Math.Option.{Option, none, some}
use Rattle.std.proofs.Math.Decide.{ℕ_discrete}
use Rattle.base.specs.Test.{not_both}
use Rattle.layout.specs.Space.{changed}
use Rattle.layout.specs.Step.{and_then}
use Rattle.layout.proofs.Laws.Step.{changed_append}
use Rattle.plans.specs.Walk.{Every}
use Rattle.nodes.specs.declared.node.Node.{Node}
use Rattle.nodes.specs.Found.{Found}
use Rattle.std.specs.Prelude.{Some, None}
use Rattle.nodes.proofs.Laws.Stored.{Sized}
use Rattle.client.specs.declared.part.Set.TheVariants.{Writes}
use Rattle.client.specs.Layout.{ClientWord, client_words, item, writes_count}
use Rattle.client.specs.Sets.{at_most, count, record_at, number_at, find}
use Rattle.client.specs.Commit.{is_at}
use Rattle.client.specs.Items.{has}
use Rattle.client.specs.Part.{nothing}
use Rattle.client.specs.Lent.{Entry}
use Rattle.client.specs.Enter.{enter_at, enter_write, enter_entries}
use Rattle.client.specs.Work.{count_new}
use Rattle.demand.proofs.Laws.Slots.{find_frame, record_frame}
use Rattle.demand.proofs.Laws.Held.{found_at, at_has}
use Rattle.demand.proofs.Laws.Placed.{family, placed, placed_number, placed_record, placed_beside, placed_else}
use Rattle.demand.proofs.Laws.Behind.{writes_within, absent_has, Behind, found_new, found_old, one_each, put_behind}
use Rattle.demand.proofs.Laws.Latest.{with_entry, by_entries, AllWhole, is_there}

-- the record that the write set has of the object with number x
abbrev pub written_at : (ClientWord → ℕ) → Found → Option Node
written_at u (Some i) = some (record_at u Writes i)
written_at u None = none

unfoldable pub write_of : (ClientWord → ℕ) → ℕ → Option Node
write_of u x = written_at u (find u Writes x)

pub has_write : (u : ClientWord → ℕ) (x : ℕ) → has u Writes x ≡ is_there (write_of u x)
unfolding has write_of
has_write u x = go (find u Writes x)
  where
    go : (z : Found) → is_at z ≡ is_there (written_at u z)
    go (Some i) = refl
    go None = refl

-- no object has two items
abbrev pub EachOnce : (ClientWord → ℕ) → Type 0
EachOnce u = (i : ℕ) → i < count u Writes → find u Writes (number_at u Writes i) ≡ Some i

-- v is u with other writes, as g says of each number; everything but the write set is the same
pub record Rewritten (u v : ClientWord → ℕ) (g : ℕ → Option Node → Option Node) : Type 0 where
  pub looked : (q : ℕ) → write_of v q ≡ g q (write_of u q)
  pub once : EachOnce u → EachOnce v
  pub other : (a : ClientWord) → ¬ (family a ≡ 2) → ¬ (a ≡ writes_count) → v a ≡ u a

-- ---- ONE WRITE
module _ (u v : ClientWord → ℕ) (x : ℕ) (r : Node) where
  abbrev RewrittenAt : Type 0
  RewrittenAt = Rewritten u v (with_entry (x, r)) × (v writes_count ≡ cond (has u Writes x) (u writes_count) (suc (u writes_count)))

  -- where x is found as the record r, and the others as they were
  looks : (i : ℕ) → find v Writes x ≡ Some i → record_at v Writes i ≡ r
      → ((q : ℕ) → ¬ (q ≡ x) → (find v Writes q ≡ find u Writes q) × ((n : ℕ) → find u Writes q ≡ Some n → record_at v Writes n ≡ record_at u Writes n))
      → (q : ℕ) → write_of v q ≡ with_entry (x, r) q (write_of u q)
  unfolding write_of
  looks i e s h q = go (ℕ_discrete q x)
    where
      old : (z : Found) → ((n : ℕ) → z ≡ Some n → record_at v Writes n ≡ record_at u Writes n) → written_at v z ≡ written_at u z
      old (Some n) f = ap some (f n refl)
      old None f = refl

      go : Dec (q ≡ x) → written_at v (find v Writes q) ≡ cond (eqb x q) (some r) (written_at u (find u Writes q))
      go (yes p) =
          ap (λ (w : ℕ). written_at v (find v Writes w)) p ∙ ap (written_at v) e ∙ ap some s
          ∙ ap (λ (b : Bool). cond b (some r) (written_at u (find u Writes q))) (sym (eq-eqb x q (sym p)))
      go (no d) =
          let f = h q d in
          ap (written_at v) f.0 ∙ old (find u Writes q) f.1
          ∙ ap (λ (b : Bool). cond b (some r) (written_at u (find u Writes q))) (sym (ne_eqb x q (λ z. d (sym z))))

-- in its object's place
module _ (u : ClientWord → ℕ) (x i : ℕ) (r : Node) (w : Sized r) (e : find u Writes x ≡ Some i) where
  abbrev v : ClientWord → ℕ
  v = placed Writes i x r w u

  number_same : (n : ℕ) → v (item Writes n 0) ≡ u (item Writes n 0)
  unfolding number_at
  number_same n = go (ℕ_discrete n i)
    where
      go : Dec (n ≡ i) → v (item Writes n 0) ≡ u (item Writes n 0)
      go (yes p) = ap (λ (m : ℕ). v (item Writes m 0)) p ∙ placed_number Writes i x r w u ∙ sym (found_at u Writes x i e).1 ∙ ap (λ (m : ℕ). u (item Writes m 0)) (sym p)
      go (no d) = placed_beside Writes i x r w u n 0 d

  count_stays : v writes_count ≡ u writes_count
  count_stays = placed_else Writes i x r w u writes_count (λ z. absurd (omega arith))

  as_many : count v Writes ≡ count u Writes
  unfolding count
  as_many = ap (at_most 48) count_stays

  find_same : (q : ℕ) → find v Writes q ≡ find u Writes q
  find_same q = find_frame u v Writes as_many number_same q

  replaced : RewrittenAt u v x r
  unfolding number_at
  replaced = (
    record {
      looked = looks u v x r i (find_same x ∙ e) (placed_record Writes i x r w u)
          (λ q d. (
            find_same q,
            λ n f. record_frame u v Writes n (λ m. placed_beside Writes i x r w u n m
                (λ z. d (sym (found_at u Writes q n f).1 ∙ ap (number_at u Writes) z ∙ (found_at u Writes x i e).1))),
          ));
      once = λ h n l. ap (find v Writes) (number_same n) ∙ find_same (number_at u Writes n) ∙ h n (subst (λ (c : ℕ). n < c) as_many l);
      other = λ a p q. placed_else Writes i x r w u a p;
    },
    count_stays ∙ ap (λ (b : Bool). cond b (u writes_count) (suc (u writes_count))) (sym there),
  )
    where
      there : has u Writes x ≡ true
      there = at_has u Writes x i e

-- behind the others
module _ (u v : ClientWord → ℕ) (x : ℕ) (r : Node) (B : Behind Writes 11 u v x r) (e : find u Writes x ≡ None) where
  added : RewrittenAt u v x r
  added = (
    record {
      looked = looks u v x r (u writes_count) (found_new Writes 11 u v x r B e) B.record_as
          (λ q d. (
            found_old Writes 11 u v x r B q d,
            λ n f. record_frame u v Writes n (λ m. B.beside n m
                (λ z. absurd (omega (arith, (found_at u Writes q n f).0, B.before, z)))),
          ));
      once = λ h. one_each Writes 11 u v x r B h e;
      other = B.other;
    },
    B.counted ∙ ap (λ (b : Bool). cond b (u writes_count) (suc (u writes_count))) (sym (absent_has u Writes x e)),
  )

pub one_entered : (u : ClientWord → ℕ) (x : ℕ) (r : Node) → Sized r → cond (has u Writes x) (u writes_count) (suc (u writes_count)) ≤ 48
    → RewrittenAt u (changed client_words u (enter_write x r u)) x r
unfolding enter_write has
one_entered u x r w l = go (find u Writes x) refl
  where
    go : (z : Found) → find u Writes x ≡ z → RewrittenAt u (changed client_words u (enter_at x r (count u Writes) (find u Writes x) u)) x r
    go (Some i) e = subst (λ z. RewrittenAt u (changed client_words u (enter_at x r (count u Writes) z u)) x r) (sym e) (replaced u x i r w e)
    go None e =
        let room : suc (u writes_count) ≤ 48 = subst (λ (b : Bool). cond b (u writes_count) (suc (u writes_count)) ≤ 48) (ap is_at e) l in
        let c = writes_within u (omega arith) in
        let t = lt-ltb (u writes_count) 48 (omega arith) in
        subst (λ z. RewrittenAt u (changed client_words u (enter_at x r (count u Writes) z u)) x r) (sym e)
        (rw (c, t) (added u _ x r (put_behind Writes 11 x r w u c (λ v q. writes_within v (omega (arith, q)) ∙ q)) e))

-- ---- ALL OF THEM
-- with more objects written, fewer are new
pub fewer_new : (u v : ClientWord → ℕ) → ((x : ℕ) → has u Writes x ≡ true → has v Writes x ≡ true) → (l : List Entry) → count_new v l ≤ count_new u l
unfolding count_new
fewer_new u v h [] = omega arith
fewer_new u v h (e ∷ l) = go (has u Writes e.0) refl (has v Writes e.0) refl (fewer_new u v h l)
  where
    go : (a : Bool) → has u Writes e.0 ≡ a → (b : Bool) → has v Writes e.0 ≡ b → count_new v l ≤ count_new u l
        → cond b (count_new v l) (suc (count_new v l)) ≤ cond a (count_new u l) (suc (count_new u l))
    go true p true q rec = rec
    go true p false q rec = absurd (not_both (h e.0 p) q)
    go false p true q rec = omega arith
    go false p false q rec = omega arith

pub all_entered : (l : List Entry) → AllWhole l → (u : ClientWord → ℕ) → u writes_count + count_new u l ≤ 48
    → Rewritten u (changed client_words u (enter_entries l u)) (by_entries l)
unfolding enter_entries nothing and_then changed by_entries count_new Every
all_entered [] h u l = record { looked = λ q. refl; once = λ g. g; other = λ a p q. refl }
all_entered (e ∷ es) h u l =
    let o = one_entered u e.0 e.1 h.0 (room (has u Writes e.0) l) in
    let rest = all_entered es h.1 v (left (has u Writes e.0) l o.1 (fewer_new u v (λ x t. still x t o.0) es)) in
    subst (λ w. Rewritten u w (by_entries (e ∷ es))) (sym (changed_append client_words (enter_write e.0 e.1 u) (enter_entries es v) u))
    (record {
      looked = λ q. rest.looked q ∙ ap (by_entries es q) (o.0.looked q);
      once = λ g. rest.once (o.0.once g);
      other = λ a p q. rest.other a p q ∙ o.0.other a p q;
    })
  where
    v : ClientWord → ℕ
    v = changed client_words u (enter_write e.0 e.1 u)

    room : (b : Bool) → u writes_count + cond b (count_new u es) (suc (count_new u es)) ≤ 48 → cond b (u writes_count) (suc (u writes_count)) ≤ 48
    room true l = omega arith
    room false l = omega arith

    left : (b : Bool) → u writes_count + cond b (count_new u es) (suc (count_new u es)) ≤ 48 → v writes_count ≡ cond b (u writes_count) (suc (u writes_count))
        → count_new v es ≤ count_new u es → v writes_count + count_new v es ≤ 48
    left true l c f = omega arith
    left false l c f = omega arith

    still : (x : ℕ) → has u Writes x ≡ true → Rewritten u v (with_entry (e.0, e.1)) → has v Writes x ≡ true
    still x t W = has_write v x ∙ ap is_there (W.looked x) ∙ go (eqb e.0 x) (write_of u x) (sym (has_write u x) ∙ t)
      where
        go : (b : Bool) (d : Option Node) → is_there d ≡ true → is_there (cond b (some e.1) d) ≡ true
        go true d h = refl
        go false d h = h
