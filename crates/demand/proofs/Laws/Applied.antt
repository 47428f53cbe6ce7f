-- APPLY at a server: the machine's move.
use Rattle.std.specs.Prelude.{◌≡◌, true, ◌&&◌, ◌||◌, List}
use Rattle.std.proofs.Math.Path.{refl, ap, ap₂, sym, subst}
use Rattle.std.proofs.Common.{◌∙◌, arith}
use Rattle.std.proofs.Math.Bool.{and-false, Bool, false, cond, not}
use Rattle.std.proofs.lemmas.Bool.{false≢true}
use Prim.Native.Nat.{ℕ, suc, ◌≤◌, Fin}
use Rattle.std.proofs.Math.Decide.{Fin-discrete}
use Rattle.base.specs.Update.{upd}
use Rattle.base.proofs.Laws.Update.{upd_same, upd_other}
use Rattle.memory.specs.Bit.{bit}
use Rattle.layout.specs.Space.{Put, changed}
use Rattle.layout.specs.Step.{and_then}
use Rattle.layout.proofs.Laws.Step.{changed_append}
use Rattle.nodes.specs.Found.{Found}
use Rattle.std.specs.Prelude.{Some, None}
use Rattle.operations.specs.Object.{Obj, meta, node, flag, Val}
use Rattle.operations.proofs.Laws.Object.{inner}
use Rattle.server.specs.declared.place.Place.{Place}
use Rattle.server.specs.Layout.{places}
use Rattle.nodes.specs.Object.{object_of}
use Rattle.server.specs.Object.{lock_of}
use Rattle.client.specs.declared.part.Set.TheVariants.{Reads, Writes}
use Rattle.client.specs.Layout.{ClientWord, client_words, phase, participants, prepared, applied}
use Rattle.client.specs.Record.{number, value_of}
use Rattle.client.specs.Commit.{is_at}
use Rattle.client.specs.Sets.{count, record_at, number_at, find}
use Rattle.client.specs.Laws.Ranges.{client_fits}
use Rattle.client.specs.Participants.{lowest_of}
use Rattle.client.specs.Drops.{version_of, next_version}
use Rattle.client.specs.Course.{noted}
use Rattle.steps.specs.declared.sizes.Sizes.{Sizes}
use Rattle.steps.specs.Whole.{Address}
use Rattle.steps.specs.Judge.{lowest_participant}
use Rattle.steps.specs.Steps.{unlock_each, store_all}
use Rattle.demand.specs.Ledger.{Ledger}
use Rattle.demand.proofs.Laws.Store.{keeps, by_value}
use Rattle.steps.proofs.Laws.Stores.{client_of, server_of}
use Rattle.demand.proofs.Laws.Frame.{last, read_after, Only}
use Rattle.demand.proofs.Laws.Shows.{phase_of, T, InStore, Recorded, lock_kept, new_value, item_from, item_of, value_at, version_at, table_at, SlotShown, ServerShown, ClientShown, Related}
use Rattle.demand.proofs.Laws.Course.{else_same, course_shown}
use Rattle.demand.proofs.Laws.Held.{absent≢at, found_at, has_at, written_in, written_fits}
use Rattle.demand.proofs.Laws.Recorded.{unlock_recorded}
use Rattle.demand.proofs.Laws.Servers.{both, both_client, both_other, both_server, both_else, is_lock, a_lock, unlock_stays, value_frame, version_frame, table_frame, noted_bit}
use Rattle.demand.proofs.Laws.Committed.{both_ways}
use Rattle.demand.proofs.Laws.Written.{value_none, value_one, version_none, version_one, table_none, table_one, locks_stay}
use Rattle.demand.proofs.Laws.Kept.{away, related}
use Rattle.protocol.specs.Machine as P
use Rattle.protocol.specs.Moves as Mv
use Rattle.client.specs.Items as I

module _ (k j slots : ℕ) (al : slots ≤ 1024) (few : suc j ≤ 16) (m : Address → ℕ) (L : Ledger) (M : P.Machine (T k j slots)) (c : Fin (suc j)) (R : Related k j slots m L M) (fit : client_fits slots (client_of m c.0) ≡ true) (s : Fin 8) (now : client_of m c.0 phase ≡ 3) (part : bit (client_of m c.0 participants) s.0 ≡ true) (new : bit (client_of m c.0 applied) s.0 ≡ false) where
  abbrev z : Sizes
  z = record { servers = suc k; slots = slots; clients = suc j }

  abbrev u : ClientWord → ℕ
  u = client_of m c.0

  abbrev p : Place → ℕ
  p = server_of m s.0

  abbrev y : P.Slot (T k j slots)
  y = M.slots c

  abbrev shown : SlotShown k j slots u y
  shown = (R.clients c).slot

  abbrev S : ServerShown k j slots p s (M.value s) (M.version s) (M.table s) (M.lock s)
  S = R.servers s

  abbrev low : ℕ
  low = lowest_participant z m c.0

  el : y.lowest.0 ≡ low
  el = shown.lowest_as (omega (arith, now))

  abbrev locks : Obj → P.Lock (T k j slots)
  locks o = Mv.drop (T k j slots) c (M.lock s o)

  -- the writes, and then the locks given back
  abbrev M₀ : P.Machine (T k j slots)
  M₀ = Mv.applied_at (T k j slots) M c s

  abbrev pub M₁ : P.Machine (T k j slots)
  M₁ = P.turned (T k j slots) M₀ M₀.slots (upd (Fin-discrete 8) M.lock s locks) M.said M.log

  pub reached₁ : Mv.Reached (T k j slots) M₁
  unfolding phase_of
  reached₁ =
      Mv.moved (Mv.moved R.reached (Mv.applies c s (sym shown.phase_as ∙ ap phase_of now) (shown.participant_as s ∙ part) (shown.applied_as s ∙ new)))
      (Mv.releases (upd (Fin-discrete 8) M.lock s locks) (λ t o. go t o (Fin-discrete 8 t s)))
    where
      applied_now : ((M₀.slots c).prepared s && not ((M₀.slots c).applied s)) ≡ false
      applied_now =
          ap (λ (w : P.Slot (T k j slots)). w.prepared s && not (w.applied s)) (upd_same (Fin-discrete (suc j)) M.slots c (Mv.applied_slot (T k j slots) y s))
          ∙ ap (λ (b : Bool). y.prepared s && not b) (upd_same (Fin-discrete 8) y.applied s true) ∙ and-false (y.prepared s)

      Free : Fin 8 → Obj → P.Lock (T k j slots) → Type 0
      Free t o l = Mv.Released (T k j slots) M₀ t o l

      go : (t : Fin 8) (o : Obj) → Dec (t ≡ s) → Free t o (upd (Fin-discrete 8) M.lock s locks t o)
      go t o (yes e) =
          subst (λ (x : Fin 8). Free x o (upd (Fin-discrete 8) M.lock s locks x o)) (sym e)
          (subst (Free s o) (sym (ap (λ (f : Obj → P.Lock (T k j slots)). f o) (upd_same (Fin-discrete 8) M.lock s locks))) (Mv.given_back c applied_now))
      go t o (no n) = subst (Free t o) (sym (ap (λ (f : Obj → P.Lock (T k j slots)). f o) (upd_other (Fin-discrete 8) M.lock s locks t n))) Mv.unchanged

  -- ---- the words of this server: the writes, then the locks
  abbrev p₁ : Place → ℕ
  p₁ = changed places p (store_all u s.0 p)

  abbrev ps : List (Put Place)
  ps = and_then places (store_all u s.0) (unlock_each u c.0 low s.0) p

  abbrev p₂ : Place → ℕ
  p₂ = changed places p ps

  then_unlocked : p₂ ≡ changed places p₁ (unlock_each u c.0 low s.0 p₁)
  unfolding and_then
  then_unlocked = changed_append places (store_all u s.0 p) (unlock_each u c.0 low s.0 p₁) p

  stays : (a : Place) → is_lock a ≡ false → p₂ a ≡ p₁ a
  stays a h = ap (λ (f : Place → ℕ). f a) then_unlocked ∙ unlock_stays u low s.0 p₁ a h c.0

  module _ (o : Obj) (hi : InStore k j slots o) where
    -- what is not read is not written
    unread : find u Reads (number o) ≡ None → find u Writes (number o) ≡ None
    unfolding count
    unread e = go (find u Writes (number o)) refl
      where
        go : (f : Found) → find u Writes (number o) ≡ f → find u Writes (number o) ≡ None
        go None q = q
        go (Some w) q =
            let f = found_at u Writes (number o) w q in
            let r = has_at u Reads (number_at u Writes w) (written_in k j slots al u fit w f.0).1 in
            absurd (absent≢at r.0 (sym e ∙ ap (find u Reads) (sym f.1) ∙ r.1))

    -- a row of the machine's, by what the sets have of the object
    row_is : {A : Type 0} (test : P.Item (T k j slots) → Bool) (given : P.Item (T k j slots) → A) (old : Obj → A) (f : Found) → find u Reads (number o) ≡ f
        → Mv.row (T k j slots) y.items test given old o ≡ P.says (T k j slots) (λ i. cond (test i) (given i) (old o)) (old o) (item_from k j slots u o f)
    unfolding item_of
    row_is test given old f e = ap (P.says (T k j slots) (λ i. cond (test i) (given i) (old o)) (old o)) (shown.item_as o hi ∙ ap (item_from k j slots u o) e)

    next_is : (i w : ℕ) → find u Reads (number o) ≡ Some i → find u Writes (number o) ≡ Some w → next_version u (number_at u Writes w) ≡ suc (record_at u Reads i).version
    unfolding next_version
    next_is i w e q = ap (λ (f : Found). suc (version_of u f)) (ap (find u Reads) (found_at u Writes (number o) w q).1 ∙ e)

    value_after : keeps k j slots s o ≡ true
        → Mv.row (T k j slots) y.items (λ i. i.written && keeps k j slots s i.obj) (λ i. i.new) (M.value s) o ≡ value_at k j slots p₂ o
    unfolding I.has
    value_after kept = by (find u Reads (number o)) refl (find u Writes (number o)) refl ∙ sym (value_frame k j slots p₁ p₂ stays o)
      where
        by : (f : Found) → find u Reads (number o) ≡ f → (g : Found) → find u Writes (number o) ≡ g
            → Mv.row (T k j slots) y.items (λ i. i.written && keeps k j slots s i.obj) (λ i. i.new) (M.value s) o ≡ value_at k j slots p₁ o
        by None e g q =
            row_is (λ i. i.written && keeps k j slots s i.obj) (λ i. i.new) (M.value s) None e ∙ S.value_as o hi kept
            ∙ sym (value_none k j slots al u y shown s o hi kept p (unread e))
        by (Some i) e None q =
            row_is (λ i. i.written && keeps k j slots s i.obj) (λ i. i.new) (M.value s) (Some i) e
            ∙ ap (λ (g : Found). cond (is_at g && keeps k j slots s o) (new_value k j slots u o (value_of o (record_at u Reads i)) g) (M.value s o)) q
            ∙ S.value_as o hi kept ∙ sym (value_none k j slots al u y shown s o hi kept p q)
        by (Some i) e (Some w) q =
            row_is (λ i. i.written && keeps k j slots s i.obj) (λ i. i.new) (M.value s) (Some i) e
            ∙ ap₂ (λ (g : Found) (b : Bool). cond (is_at g && b) (new_value k j slots u o (value_of o (record_at u Reads i)) g) (M.value s o)) q kept
            ∙ sym (value_one k j slots al u y shown s o hi kept p w q (written_fits k j slots al u fit w (found_at u Writes (number o) w q).0))

    version_after : keeps k j slots s o ≡ true
        → Mv.row (T k j slots) y.items (λ i. not (by_value k j slots i.obj) && i.written && keeps k j slots s i.obj) (λ i. suc i.version) (M.version s) o ≡ version_at k j slots p₂ o
    unfolding I.has
    version_after kept = by (by_value k j slots o) refl (find u Reads (number o)) refl (find u Writes (number o)) refl ∙ sym (version_frame k j slots p₁ p₂ stays o)
      where
        test : P.Item (T k j slots) → Bool
        test i = not (by_value k j slots i.obj) && i.written && keeps k j slots s i.obj

        flag_version : (o : Obj) → by_value k j slots o ≡ true → (q : Place → ℕ) → version_at k j slots q o ≡ 0
        flag_version meta h q = absurd (false≢true h)
        flag_version (node n) h q = absurd (false≢true h)
        flag_version (flag n) h q = refl

        by : (b : Bool) → by_value k j slots o ≡ b → (f : Found) → find u Reads (number o) ≡ f → (g : Found) → find u Writes (number o) ≡ g
            → Mv.row (T k j slots) y.items test (λ i. suc i.version) (M.version s) o ≡ version_at k j slots p₁ o
        by b d None e g q =
            row_is test (λ i. suc i.version) (M.version s) None e ∙ S.version_as o hi kept ∙ sym (version_none k j slots al u y shown s o hi kept p (unread e))
        by b d (Some i) e None q =
            row_is test (λ i. suc i.version) (M.version s) (Some i) e
            ∙ ap₂ (λ (g : Found) (b : Bool). cond (not b && is_at g && keeps k j slots s o) (suc (record_at u Reads i).version) (M.version s o)) q d
            ∙ unwritten b ∙ S.version_as o hi kept ∙ sym (version_none k j slots al u y shown s o hi kept p q)
          where
            unwritten : (b : Bool) → cond (not b && false && keeps k j slots s o) (suc (record_at u Reads i).version) (M.version s o) ≡ M.version s o
            unwritten true = refl
            unwritten false = refl
        by true d (Some i) e (Some w) q =
            row_is test (λ i. suc i.version) (M.version s) (Some i) e
            ∙ ap (λ (b : Bool). cond (not b && I.has u Writes (number o) && keeps k j slots s o) (suc (record_at u Reads i).version) (M.version s o)) d
            ∙ S.version_as o hi kept ∙ flag_version o d p ∙ sym (flag_version o d p₁)
        by false d (Some i) e (Some w) q =
            row_is test (λ i. suc i.version) (M.version s) (Some i) e
            ∙ ap₂ (λ (g : Found) (b : Bool). cond (not b && is_at g && keeps k j slots s o) (suc (record_at u Reads i).version) (M.version s o)) q d
            ∙ ap (λ (b : Bool). cond b (suc (record_at u Reads i).version) (M.version s o)) kept
            ∙ sym (version_one k j slots al u y shown s o hi kept p w q d ∙ next_is i w e q)

    table_after : by_value k j slots o ≡ false
        → Mv.row (T k j slots) y.items (Mv.for_all (T k j slots)) (λ i. suc i.version) (M.table s) o ≡ table_at k j slots p₂ o
    unfolding I.has
    table_after d = by (find u Reads (number o)) refl (find u Writes (number o)) refl ∙ sym (table_frame k j slots p₁ p₂ stays o)
      where
        by : (f : Found) → find u Reads (number o) ≡ f → (g : Found) → find u Writes (number o) ≡ g
            → Mv.row (T k j slots) y.items (Mv.for_all (T k j slots)) (λ i. suc i.version) (M.table s) o ≡ table_at k j slots p₁ o
        by None e g q =
            row_is (Mv.for_all (T k j slots)) (λ i. suc i.version) (M.table s) None e ∙ S.table_as o hi d ∙ sym (table_none k j slots al u y shown s o hi p (unread e))
        by (Some i) e None q =
            row_is (Mv.for_all (T k j slots)) (λ i. suc i.version) (M.table s) (Some i) e
            ∙ ap (λ (g : Found). cond (is_at g && (inner o (value_of o (record_at u Reads i)) || inner o (new_value k j slots u o (value_of o (record_at u Reads i)) g)))
            (suc (record_at u Reads i).version) (M.table s o)) q
            ∙ S.table_as o hi d ∙ sym (table_none k j slots al u y shown s o hi p q)
        by (Some i) e (Some w) q =
            let same : I.inner_before_after u (number_at u Writes w) ≡ (inner o (value_of o (record_at u Reads i)) || inner o (value_of o (record_at u Writes w)))
            = ap (I.inner_before_after u) (found_at u Writes (number o) w q).1 ∙ both_ways k j slots al u fit o i w hi e q in
            row_is (Mv.for_all (T k j slots)) (λ i. suc i.version) (M.table s) (Some i) e
            ∙ ap (λ (g : Found). cond (is_at g && (inner o (value_of o (record_at u Reads i)) || inner o (new_value k j slots u o (value_of o (record_at u Reads i)) g)))
            (suc (record_at u Reads i).version) (M.table s o)) q
            ∙ ap₂ (λ (b : Bool) (a : ℕ). cond b (suc (record_at u Reads i).version) a) (sym same) (S.table_as o hi d)
            ∙ ap (λ (n : ℕ). cond (I.inner_before_after u (number_at u Writes w)) n (table_at k j slots p o)) (sym (next_is i w e q))
            ∙ sym (table_one k j slots al u y shown s o hi p w q d
            (λ is_meta. same ∙ subst (λ (v : Obj). (inner v (value_of o (record_at u Reads i)) || inner v (value_of o (record_at u Writes w))) ≡ true) (sym is_meta) refl))

    lock_after : lock_kept k j slots p s o ≡ true → Recorded k j slots (Mv.drop (T k j slots) c (M.lock s o)) (p₂ (lock_of (object_of (number o))))
    lock_after kept =
        let a = lock_of (object_of (number o)) in
        subst (Recorded k j slots (Mv.drop (T k j slots) c (M.lock s o))) (sym (ap (λ (f : Place → ℕ). f a) then_unlocked))
        (unlock_recorded k j slots al few c u fit y shown s low el p₁ o hi kept (M.lock s o)
        (subst (Recorded k j slots (M.lock s o)) (sym (locks_stay k j slots al u y shown s p a (a_lock (object_of (number o))))) (S.lock_as o hi kept)))

  -- ---- the client's part, and the whole
  abbrev qs : List (Put ClientWord)
  qs = noted applied s.0 u

  abbrev v : ClientWord → ℕ
  v = changed client_words u qs

  at : (a : ClientWord) → v a ≡ last client_words qs a (u a)
  at a = read_after client_words qs u a

  own_shown : ClientShown k j slots v (L.given c.0) (L.undecided c.0) (Mv.applied_slot (T k j slots) y s) (M.copy c) (M.said c)
  unfolding noted Only
  own_shown =
      course_shown k j slots u v (else_same qs u (refl, tt))
      (L.given c.0) (L.undecided c.0) (L.undecided c.0) y (M.copy c) (M.said c) y.phase y.participant y.lowest y.prepared (upd (Fin-discrete 8) y.applied s true)
      (λ n. absurd (omega (arith, now, at phase, n.1))) (ap phase_of (at phase) ∙ shown.phase_as)
      (λ t. shown.participant_as t ∙ ap (λ (w : ℕ). bit w t.0) (sym (at participants)))
      (λ t. shown.prepared_as t ∙ ap (λ (w : ℕ). bit w t.0) (sym (at prepared)))
      (λ t. noted_bit y.applied (u applied) s t shown.applied_as ∙ ap (λ (w : ℕ). bit w t.0) (sym (at applied)))
      (omega (arith, at phase, now)) (el ∙ ap (lowest_of 8) (sym (at participants))) (R.clients c)

  abbrev values : Obj → Val
  values = Mv.row (T k j slots) y.items (λ i. i.written && keeps k j slots s i.obj) (λ i. i.new) (M.value s)

  abbrev versions : Obj → ℕ
  versions = Mv.row (T k j slots) y.items (λ i. not (by_value k j slots i.obj) && i.written && keeps k j slots s i.obj) (λ i. suc i.version) (M.version s)

  abbrev tables : Obj → ℕ
  tables = Mv.row (T k j slots) y.items (Mv.for_all (T k j slots)) (λ i. suc i.version) (M.table s)

  server_shown : ServerShown k j slots p₂ s values versions tables locks
  server_shown = record {
    value_as = λ o i q. value_after o i q;
    version_as = λ o i q. version_after o i q;
    table_as = λ o i q. table_after o i q;
    lock_as = λ o i q. lock_after o i q;
  }

  pub apply_kept : Related k j slots (both m s.0 c.0 ps qs) L M₁
  apply_kept =
      related k j slots m (both m s.0 c.0 ps qs) L L M M₁ c R reached₁
      (record {
        part = λ d n. both_other m s.0 c.0 ps qs d.0 (away k j slots c d n);
        given = λ d n. refl;
        undecided = λ d n. refl;
        slots_same = λ d n. upd_other (Fin-discrete (suc j)) M.slots c (Mv.applied_slot (T k j slots) y s) d n;
        copy_same = λ d n. refl;
        said_same = λ d n. refl;
      })
      (coe 1 0 (t. ClientShown k j slots (both_client m s.0 c.0 ps qs t) (L.given c.0) (L.undecided c.0)
      (upd_same (Fin-discrete (suc j)) M.slots c (Mv.applied_slot (T k j slots) y s) t) (M.copy c) (M.said c)) own_shown)
      (λ t. go t (Fin-discrete 8 t s))
      R.log_as
    where
      D : (a b : Fin 8) → Dec (a ≡ b)
      D = Fin-discrete 8

      ShownAt : Fin 8 → Type 0
      ShownAt t = ServerShown k j slots (server_of (both m s.0 c.0 ps qs) t.0) t (upd D M.value s values t) (upd D M.version s versions t)
          (upd D M.table s tables t) (upd D M.lock s locks t)

      go : (t : Fin 8) → Dec (t ≡ s) → ShownAt t
      go t (yes e) =
          subst ShownAt (sym e)
          (coe 1 0 (i. ServerShown k j slots (both_server m s.0 c.0 ps qs i) s (upd_same D M.value s values i) (upd_same D M.version s versions i)
          (upd_same D M.table s tables i) (upd_same D M.lock s locks i)) server_shown)
      go t (no n) =
          coe 1 0 (i. ServerShown k j slots (both_else m s.0 c.0 ps qs t.0 (λ q. n (native.Mathlib.Fin.val_path q)) i) t (upd_other D M.value s values t n i)
          (upd_other D M.version s versions t n i) (upd_other D M.table s tables t n i) (upd_other D M.lock s locks t n i)) (R.servers t)
