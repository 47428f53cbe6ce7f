-- What all writes of an apply do to each object that a server stores.
use Rattle.std.specs.Prelude.{◌≡◌, Bool, false, ◌⊎◌}
use Rattle.std.proofs.Math.Path.{refl, ap, subst}
use Rattle.std.proofs.Common.{sym, ◌∙◌, true≢false, inl, inr, arith, eqb-true}
use Rattle.std.proofs.Math.Bool.{true, cond}
use mathlib.Core.List.{List, [], ◌++◌}
use Prim.Native.Nat.{ℕ, zero, suc, ◌-◌, ◌≤◌, ◌<◌, Fin}
use Rattle.std.proofs.Math.Decide.{ℕ_discrete}
use Rattle.std.proofs.Math.Dec.{eqb, leb}
use Rattle.layout.specs.Space.{Put, changed}
use Rattle.layout.specs.Step.{and_then}
use Rattle.layout.proofs.Laws.Step.{changed_append}
use Rattle.layout.specs.Sweep.{sweep}
use Rattle.nodes.specs.declared.node.Node.{Node}
use Rattle.std.specs.Prelude.{Some, None}
use Rattle.nodes.specs.Node.{extra, keys_of, slots_of, made, free_node}
use Rattle.nodes.specs.Range.{node_in_range}
use Rattle.nodes.proofs.Laws.Range.{range_cases}
use Rattle.operations.specs.Object.{Obj, meta, node, flag}
use Rattle.server.specs.declared.place.Place.{Place}
use Rattle.server.specs.Layout.{places}
use Rattle.nodes.specs.Object.{named}
use Rattle.server.specs.Store.{metadata_step, flag_step, kept_of, home_step, table_step, node_step}
use Rattle.client.specs.declared.part.Set.TheVariants.{Writes}
use Rattle.client.specs.Layout.{ClientWord}
use Rattle.nodes.proofs.Laws.Stored.{Sized}
use Rattle.nodes.specs.States.{metadata_fits}
use Rattle.client.specs.Record.{number, by_number, first_slot, second_slot, value_of, record_in_range}
use Rattle.client.specs.Sets.{count, record_at, number_at, find}
use Rattle.client.specs.Participants.{at_home}
use Rattle.client.specs.Drops.{next_version}
use Rattle.steps.specs.Steps.{store_write, store_all}
use Rattle.steps.proofs.Laws.Writes.{kept_sized}
use Rattle.demand.proofs.Laws.Store.{keeps, by_value}
use Rattle.demand.proofs.Laws.Numbers.{by_object, obj_of, number_obj, obj_number}
use Rattle.demand.proofs.Laws.Shows.{T, InStore, value_at, version_at, table_at, SlotShown}
use Rattle.demand.proofs.Laws.Held.{absent≢at, at_same, found_at}
use Rattle.demand.proofs.Laws.Members.{kept_at, kept_home}
use Rattle.demand.proofs.Laws.Servers.{is_lock}
use Rattle.demand.proofs.Laws.Placed.{record_sized}
use Rattle.nodes.specs.Name as N
use Rattle.protocol.specs.Machine as P
use Rattle.client.specs.Items as I
use Rattle.demand.proofs.Laws.Writing as W

-- ---- something that is observed of the words, over a sweep
module _ {A : Type 0} (Ob : (Place → ℕ) → A) (g : ℕ → (Place → ℕ) → List (Put Place)) (p : Place → ℕ) where
  abbrev after : ℕ → Place → ℕ
  after n = changed places p (sweep places g n p)

  more : (n : ℕ) → after (suc n) ≡ changed places (after n) (g n (after n))
  unfolding sweep and_then
  more n = changed_append places (sweep places g n p) (g n (after n)) p

  pub seen_none : (n : ℕ) → ((i : ℕ) → i < n → (q : Place → ℕ) → Ob (changed places q (g i q)) ≡ Ob q) → Ob (after n) ≡ Ob p
  unfolding sweep changed
  seen_none zero h = refl
  seen_none (suc n) h = ap Ob (more n) ∙ h n (omega arith) (after n) ∙ seen_none n (λ i l. h i (omega arith))

  pub seen_one : (X : A → A) (n i : ℕ) → i < n → ((t : ℕ) → t < n → ¬ (t ≡ i) → (q : Place → ℕ) → Ob (changed places q (g t q)) ≡ Ob q)
      → ((q : Place → ℕ) → Ob (changed places q (g i q)) ≡ X (Ob q)) → Ob (after n) ≡ X (Ob p)
  seen_one X zero i l h f = absurd (omega arith)
  seen_one X (suc n) i l h f = ap Ob (more n) ∙ go (ℕ_discrete i n) (λ q. seen_one X n i q (λ t r. h t (omega arith)) f)
    where
      go : Dec (i ≡ n) → (i < n → Ob (after n) ≡ X (Ob p)) → Ob (changed places (after n) (g n (after n))) ≡ X (Ob p)
      go (yes e) rec =
          subst (λ (x : ℕ). Ob (changed places (after n) (g x (after n))) ≡ X (Ob p)) e
          (f (after n) ∙ ap X (seen_none n (λ t r. h t (omega arith) (λ z. absurd (omega (arith, z, e))))))
      go (no d) rec = h n (omega arith) (λ z. d (sym z)) (after n) ∙ rec (omega arith)

-- ---- by number is by object
pub by_obj : {A : Type 0} (x : ℕ) (a : A) (f g : ℕ → A) → by_number x a f g ≡ by_object (obj_of x) a f g
unfolding obj_of
by_obj x a f g = go (eqb x 0) (leb x 8192)
  where
    go : (s t : Bool) → cond s a (cond t (f (x - 1)) (g (x - 8193))) ≡ by_object (cond s meta (cond t (node (x - 1)) (flag (x - 8193)))) a f g
    go true t = refl
    go false true = refl
    go false false = refl

-- a node that is stored has whole arrays, the version that it gets, and the value that it had
abbrev stored_node : (ClientWord → ℕ) → ℕ → Node
stored_node u i = kept_of (record_at u Writes i) (next_version u (number_at u Writes i))

record_whole : (u : ClientWord → ℕ) (i : ℕ) → Sized (stored_node u i)
record_whole u i = kept_sized (record_at u Writes i) (next_version u (number_at u Writes i)) (record_sized u Writes i)

kept_version : (r : Node) (v : ℕ) → (kept_of r v).version ≡ v
unfolding kept_of free_node made
kept_version r v = go (eqb r.kind 0)
  where
    go : (b : Bool) → (cond b (free_node v) (record { kind = r.kind; level = r.level; version = v; count = r.count; keys = r.keys; slots = r.slots })).version ≡ v
    go true = refl
    go false = refl

kept_value : (r : Node) (v n : ℕ) → node_in_range r ≡ true → value_of (node n) (kept_of r v) ≡ value_of (node n) r
unfolding kept_of free_node made keys_of slots_of extra
kept_value r v n h = go (range_cases r h)
  where
    go : ((r.kind ≡ 0) × (r.level ≡ 0) × (r.count ≡ 0)) ⊎ ((r.kind ≡ 1) × (r.level ≡ 0)) ⊎ ((r.kind ≡ 2) × (1 ≤ r.level) × (r.level ≤ 4))
        → value_of (node n) (kept_of r v) ≡ value_of (node n) r
    go (inl (k, l, c)) = rw (k, l, c)
    go (inr (inl (k, l))) = rw k
    go (inr (inr (k, l, m))) = rw k

module _ (k j slots : ℕ) (al : slots ≤ 1024) (u : ClientWord → ℕ) (y : P.Slot (T k j slots)) (shown : SlotShown k j slots u y) (s : Fin 8) where
  -- write i
  abbrev x : ℕ → ℕ
  x i = number_at u Writes i

  abbrev o : ℕ → Obj
  o i = obj_of (x i)

  abbrev r : ℕ → Node
  r i = record_at u Writes i

  abbrev H : ℕ → Bool
  H i = at_home s.0 (x i)

  abbrev B : ℕ → Bool
  B i = I.inner_before_after u (x i)

  abbrev F : ℕ → Bool
  F i = eqb (first_slot (r i)) 1

  abbrev Next : ℕ → ℕ
  Next i = next_version u (x i)

  abbrev A : ℕ → ℕ
  A i = first_slot (r i)

  abbrev C : ℕ → ℕ
  C i = second_slot (r i)

  abbrev write : ℕ → (Place → ℕ) → List (Put Place)
  write i = W.write_of k j slots (H i) (B i) (F i) (Next i) (A i) (C i) (stored_node u i) (record_whole u i) (o i)

  at_home_obj : (i : ℕ) → H i ≡ by_object (o i) true (λ n. eqb (N.server_of n) s.0) (λ n. eqb (N.server_of n) s.0)
  unfolding at_home
  at_home_obj i = by_obj (x i) true (λ n. eqb (N.server_of n) s.0) (λ n. eqb (N.server_of n) s.0)

  write_is : (i : ℕ) (q : Place → ℕ) → store_write u s.0 i q ≡ write i q
  unfolding node_step home_step table_step
  write_is i q = by_obj (x i) _ _ _ ∙ go (o i) (at_home_obj i)
    where
      go : (v : Obj) → H i ≡ by_object v true (λ n. eqb (N.server_of n) s.0) (λ n. eqb (N.server_of n) s.0)
          → by_object v (metadata_step (A i) (C i) (Next i) q) (λ n. node_step s.0 (named n) (r i) (Next i) (B i) q) (λ n. cond (H i) (flag_step (named n) (F i) q) [])
          ≡ W.write_of k j slots (H i) (B i) (F i) (Next i) (A i) (C i) (stored_node u i) (record_whole u i) v q
      go meta e = refl
      go (node n) e = ap (λ (b : Bool). cond b (W.node_puts n (stored_node u i)) [] ++ cond (B i) (W.table_puts n (Next i)) []) (sym e)
      go (flag n) e = refl

  -- a write that is stored here is of an object that is at home here
  homed : (i : ℕ) → at_home s.0 (x i) ≡ true → W.AtHome s.0 (o i)
  homed i h = go (o i) (sym (at_home_obj i) ∙ h)
    where
      go : (q : Obj) → by_object q true (λ n. eqb (N.server_of n) s.0) (λ n. eqb (N.server_of n) s.0) ≡ true → W.AtHome s.0 q
      go meta e = tt
      go (node n) e = eqb-true (N.server_of n) s.0 e
      go (flag n) e = eqb-true (N.server_of n) s.0 e

  pub kept_here : (q : Obj) → InStore k j slots q → keeps k j slots s q ≡ true → W.AtHome s.0 q
  kept_here meta i h = tt
  kept_here (node n) i h = kept_at k j slots s n i h
  kept_here (flag n) i h = kept_at k j slots s n i h

  module _ (q : Obj) (hi : InStore k j slots q) where
    -- the writes of other objects
    not_it : (i : ℕ) → i < count u Writes → o i ≡ q → find u Writes (number q) ≡ Some i
    not_it i l e = ap (find u Writes) (ap number (sym e) ∙ number_obj (x i)) ∙ shown.write_found i l

    none_of : find u Writes (number q) ≡ None → (i : ℕ) → i < count u Writes → ¬ (o i ≡ q)
    none_of e i l z = absent≢at i (sym e ∙ not_it i l z)

    others_of : (w : ℕ) → find u Writes (number q) ≡ Some w → (i : ℕ) → i < count u Writes → ¬ (i ≡ w) → ¬ (o i ≡ q)
    others_of w e i l d z = d (at_same i w (sym (not_it i l z) ∙ e))

    module _ (w : ℕ) (e : find u Writes (number q) ≡ Some w) where
      pub within : w < count u Writes
      unfolding count
      within = (found_at u Writes (number q) w e).0

      number_is : x w ≡ number q
      number_is = (found_at u Writes (number q) w e).1

      it_is : o w ≡ q
      it_is = ap obj_of number_is ∙ obj_number slots al q hi

    abbrev p₁ : (Place → ℕ) → Place → ℕ
    p₁ p = changed places p (store_all u s.0 p)

    -- one write, observed
    other_of : {A : Type 0} (Ob : (Place → ℕ) → A) (i : ℕ) → ((p : Place → ℕ) → Ob (changed places p (write i p)) ≡ Ob p) → (p : Place → ℕ)
        → Ob (changed places p (store_write u s.0 i p)) ≡ Ob p
    other_of Ob i h p = ap (λ (ps : List (Put Place)). Ob (changed places p ps)) (write_is i p) ∙ h p

    -- ---- values and versions, of what is kept here
    module _ (kept : keeps k j slots s q ≡ true) (p : Place → ℕ) where
      pub value_none : find u Writes (number q) ≡ None → value_at k j slots (p₁ p) q ≡ value_at k j slots p q
      value_none e =
          seen_none (λ f. value_at k j slots f q) (store_write u s.0) p (count u Writes)
          (λ i l. other_of (λ f. value_at k j slots f q) i (λ f. W.other_value k j slots (H i) (B i) (F i) (Next i) (A i) (C i) (stored_node u i) (record_whole u i) f s.0 q (o i) (kept_here q hi kept) (none_of e i l) (homed i)))

      pub version_none : find u Writes (number q) ≡ None → version_at k j slots (p₁ p) q ≡ version_at k j slots p q
      version_none e =
          seen_none (λ f. version_at k j slots f q) (store_write u s.0) p (count u Writes)
          (λ i l. other_of (λ f. version_at k j slots f q) i (λ f. W.other_version k j slots (H i) (B i) (F i) (Next i) (A i) (C i) (stored_node u i) (record_whole u i) f s.0 q (o i) (kept_here q hi kept) (none_of e i l) (homed i)))

      module _ (w : ℕ) (e : find u Writes (number q) ≡ Some w) where
        home_here : at_home s.0 (x w) ≡ true
        home_here = ap (at_home s.0) (number_is w e) ∙ sym (kept_home k j slots al s q hi) ∙ kept

        pub value_one : record_in_range slots (x w) (r w) ≡ true → value_at k j slots (p₁ p) q ≡ value_of q (r w)
        unfolding record_in_range
        value_one ok =
            seen_one (λ f. value_at k j slots f q) (store_write u s.0) p (λ _. value_of q (r w)) (count u Writes) w (within w e)
            (λ i l d. other_of (λ f. value_at k j slots f q) i (λ f. W.other_value k j slots (H i) (B i) (F i) (Next i) (A i) (C i) (stored_node u i) (record_whole u i) f s.0 q (o i) (kept_here q hi kept) (others_of w e i l d) (homed i)))
            (λ f. ap (λ (ps : List (Put Place)). value_at k j slots (changed places f ps) q) (write_is w f)
            ∙ subst (λ (z : Obj). value_at k j slots (changed places f (write w f)) z ≡ value_of z (r w)) (it_is w e)
            (W.own_value k j slots (H w) (B w) (F w) (Next w) (A w) (C w) (stored_node u w) (record_whole u w) f (o w) home_here ∙ same (o w) (sym (by_obj (x w) _ _ _) ∙ ok)))
          where
            same : (z : Obj) → by_object z (metadata_fits slots (A w) (C w) (r w).version) (λ n. node_in_range (r w)) (λ n. leb (A w) 1) ≡ true
                → W.given_value k j slots (H w) (B w) (F w) (Next w) (A w) (C w) (stored_node u w) (record_whole u w) p z ≡ value_of z (r w)
            same meta e = refl
            same (node n) e = kept_value (r w) (Next w) n e
            same (flag n) e = refl

        pub version_one : by_value k j slots q ≡ false → version_at k j slots (p₁ p) q ≡ next_version u (x w)
        version_one nf =
            seen_one (λ f. version_at k j slots f q) (store_write u s.0) p (λ _. next_version u (x w)) (count u Writes) w (within w e)
            (λ i l d. other_of (λ f. version_at k j slots f q) i (λ f. W.other_version k j slots (H i) (B i) (F i) (Next i) (A i) (C i) (stored_node u i) (record_whole u i) f s.0 q (o i) (kept_here q hi kept) (others_of w e i l d) (homed i)))
            (λ f. ap (λ (ps : List (Put Place)). version_at k j slots (changed places f ps) q) (write_is w f)
            ∙ subst (λ (z : Obj). by_value k j slots z ≡ false → version_at k j slots (changed places f (write w f)) z ≡ next_version u (x w)) (it_is w e)
            (λ g. W.own_version k j slots (H w) (B w) (F w) (Next w) (A w) (C w) (stored_node u w) (record_whole u w) f (o w) home_here ∙ same (o w) g) nf)
          where
            same : (z : Obj) → by_value k j slots z ≡ false
                → W.given_version k j slots (H w) (B w) (F w) (Next w) (A w) (C w) (stored_node u w) (record_whole u w) p z ≡ next_version u (x w)
            same meta g = refl
            same (node n) g = kept_version (r w) (Next w)
            same (flag n) g = absurd (true≢false g)

    -- ---- tables
    module _ (p : Place → ℕ) where
      pub table_none : find u Writes (number q) ≡ None → table_at k j slots (p₁ p) q ≡ table_at k j slots p q
      table_none e =
          seen_none (λ f. table_at k j slots f q) (store_write u s.0) p (count u Writes)
          (λ i l. other_of (λ f. table_at k j slots f q) i (λ f. W.other_table k j slots (H i) (B i) (F i) (Next i) (A i) (C i) (stored_node u i) (record_whole u i) f q (o i) (none_of e i l)))

      pub table_one : (w : ℕ) (e : find u Writes (number q) ≡ Some w) → by_value k j slots q ≡ false → (q ≡ meta → B w ≡ true)
          → table_at k j slots (p₁ p) q ≡ cond (B w) (Next w) (table_at k j slots p q)
      table_one w e nf m =
          seen_one (λ f. table_at k j slots f q) (store_write u s.0) p (λ a. cond (B w) (Next w) a) (count u Writes) w (within w e)
          (λ i l d. other_of (λ f. table_at k j slots f q) i (λ f. W.other_table k j slots (H i) (B i) (F i) (Next i) (A i) (C i) (stored_node u i) (record_whole u i) f q (o i) (others_of w e i l d)))
          (λ f. ap (λ (ps : List (Put Place)). table_at k j slots (changed places f ps) q) (write_is w f)
          ∙ subst (λ (z : Obj). by_value k j slots z ≡ false → (z ≡ meta → B w ≡ true)
          → table_at k j slots (changed places f (write w f)) z ≡ cond (B w) (Next w) (table_at k j slots f z))
          (it_is w e) (λ g n. W.own_table k j slots (H w) (B w) (F w) (Next w) (A w) (C w) (stored_node u w) (record_whole u w) f (o w) ∙ same f (o w) g n) nf m)
        where
          same : (f : Place → ℕ) (z : Obj) → by_value k j slots z ≡ false → (z ≡ meta → B w ≡ true)
              → W.given_table k j slots (H w) (B w) (F w) (Next w) (A w) (C w) (stored_node u w) (record_whole u w) f z ≡ cond (B w) (Next w) (table_at k j slots f z)
          same f meta g n = sym (ap (λ (b : Bool). cond b (Next w) (table_at k j slots f meta)) (n refl))
          same f (node n) g m = refl
          same f (flag n) g m = absurd (true≢false g)

-- locks are no part of it
module _ (k j slots : ℕ) (al : slots ≤ 1024) (u : ClientWord → ℕ) (y : P.Slot (T k j slots)) (shown : SlotShown k j slots u y) (s : Fin 8) (p : Place → ℕ) where
  pub locks_stay : (a : Place) → is_lock a ≡ true → changed places p (store_all u s.0 p) a ≡ p a
  locks_stay a h =
      seen_none (λ f. f a) (store_write u s.0) p (count u Writes)
      (λ i l f. ap (λ (ps : List (Put Place)). changed places f ps a) (write_is k j slots al u y shown s i f)
      ∙ W.untouched k j slots (H k j slots al u y shown s i) (B k j slots al u y shown s i) (F k j slots al u y shown s i) (Next k j slots al u y shown s i)
      (A k j slots al u y shown s i) (C k j slots al u y shown s i) (stored_node u i) (record_whole u i) (o k j slots al u y shown s i) f a
      (W.no_lock k j slots (H k j slots al u y shown s i) (B k j slots al u y shown s i) (F k j slots al u y shown s i) (Next k j slots al u y shown s i)
      (A k j slots al u y shown s i) (C k j slots al u y shown s i) (stored_node u i) (record_whole u i) (o k j slots al u y shown s i) a h))
