-- What a client's part shows once an operation's writes have entered: the machine's items with the writes.
use Rattle.std.specs.Prelude.{◌≡◌, Bool, ◌||◌, List, [], ◌∷◌, map, ℕ, ◌≤◌, ◌<◌}
use Rattle.std.proofs.Math.Path.{refl, ap}
use Rattle.std.proofs.Common.{sym, ◌∙◌, subst, inl, inr, arith}
use Rattle.std.proofs.Math.Option
use Rattle.std.proofs.Math.Option.{some}
use Rattle.nodes.specs.Found.{Found}
use Rattle.std.specs.Prelude.{Some, None}
use Rattle.operations.specs.Object.{Obj, meta, Val, states_of, Writes}
use Rattle.operations.proofs.Laws.Object.{ObjDiscrete}
use Rattle.operations.proofs.Laws.Storable.{AllStorable}
use Rattle.protocol.specs.Lists.{Among}
use Rattle.protocol.specs.Writes.{writes?, latest}
use Rattle.protocol.proofs.Laws.Ghosts.{find_wrote}
use Rattle.client.specs.Layout.{ClientWord, item}
use Rattle.client.specs.Record.{number, value_of}
use Rattle.client.specs.Sets.{at_most, count, record_at, number_at, find}
use Rattle.demand.proofs.Laws.Stays.{AllKeep}
use Rattle.demand.proofs.Laws.Housed.{wrote_housed}
use Rattle.demand.proofs.Laws.Shows.{T, InStore, new_value, item_from, item_of, SlotShown}
use Rattle.demand.proofs.Laws.Slots.{find_frame, record_frame}
use Rattle.demand.proofs.Laws.Behind.{field_same, set_same}
use Rattle.demand.proofs.Laws.Entered.{slot_with}
use Rattle.demand.proofs.Laws.Records.{Any}
use Rattle.demand.proofs.Laws.Latest.{by_writes, is_there, value_in, AllInside, last_there, last_value}
use Rattle.demand.proofs.Laws.Rewritten.{written_at, write_of, has_write, Rewritten}
use Rattle.protocol.specs.Machine as P
use Rattle.protocol.specs.Moves as Mv
use Rattle.client.specs.declared.part.Set.TheVariants as set

-- an element of a list that was changed throughout
among_changed : {A B : Type 0} (f : A → B) (l : List A) (b : B) → Among b (map f l) → (a : A) × Among a l × (b ≡ f a)
unfolding Among
among_changed f [] b h = absurd h
among_changed f (a ∷ l) b (inl e) = (a, inl refl, e)
among_changed f (a ∷ l) b (inr h) = let r = among_changed f l b h in (r.0, inr r.1, r.2)

-- the new value of an item is that of its write, else the old one
new_write : (k j slots : ℕ) (u : ClientWord → ℕ) (o : Obj) (a : Val) → new_value k j slots u o a (find u set.Writes (number o)) ≡ value_in o a (write_of u (number o))
unfolding write_of
new_write k j slots u o a = go (find u set.Writes (number o))
  where
    go : (z : Found) → new_value k j slots u o a z ≡ value_in o a (written_at u z)
    go (Some i) = refl
    go None = refl

module _ (k j slots : ℕ) (al : slots ≤ 1024) (u v : ClientWord → ℕ) (w : Writes) (R : Rewritten u v (by_writes w)) (kept : AllStorable Any w) (within : AllInside k j slots al w) (y : P.Slot (T k j slots)) (S : SlotShown k j slots u y) where
  abbrev wrote : P.Item (T k j slots) → P.Item (T k j slots)
  wrote = Mv.wrote (T k j slots) w

  -- the read set stays
  read_same : (i n : ℕ) → v (item set.Reads i n) ≡ u (item set.Reads i n)
  read_same = set_same set.Writes 11 u v R.other set.Reads (λ e. absurd (omega arith))

  reads_same : count v set.Reads ≡ count u set.Reads
  unfolding count
  reads_same = ap (at_most 96) (field_same set.Writes 11 u v R.other 10 (λ e. absurd (omega arith)))

  found_read : (x : ℕ) → find v set.Reads x ≡ find u set.Reads x
  found_read x = find_frame u v set.Reads reads_same (λ i. read_same i 0) x

  -- an item with the writes
  item_written : (o : Obj) → InStore k j slots o → (i : ℕ) → Option.map wrote (item_from k j slots u o (Some i)) ≡ item_from k j slots v o (Some i)
  item_written o h i =
      let r = sym (record_frame u v set.Reads i (read_same i)) in
      let a = value_of o (record_at u set.Reads i) in
      let x = number o in
      let is = ap (λ (b : Bool). writes? ObjDiscrete w o || b) (has_write u x) ∙ sym (has_write v x ∙ ap is_there (R.looked x) ∙ last_there k j slots al o h w within (write_of u x)) in
      let now = ap (latest ObjDiscrete w o) (new_write k j slots u o a) ∙ sym (ap (value_in o a) (R.looked x) ∙ last_value k j slots al o h w kept within a (write_of u x))
      ∙ ap (λ (b : Val). value_in o b (write_of v x)) (ap (value_of o) r) ∙ sym (new_write k j slots v o (value_of o (record_at v set.Reads i))) in
      λ t. some (record { obj = o; old = value_of o (r t); version = (r t).version; written = is t; new = now t })

  -- THE WRITES ENTERED
  pub slot_written : ((x : P.Item (T k j slots)) → P.find (T k j slots) y.items meta ≡ some x → AllKeep (states_of x.old) w) → SlotShown k j slots v (Mv.answered_slot (T k j slots) y w)
  unfolding number_at item_of
  slot_written keep =
      let at : (i : ℕ) → _ = field_same set.Writes 11 u v R.other in
      slot_with k j slots u v y S (map wrote y.items) (at 0 (λ e. absurd (omega arith))) (at 5 (λ e. absurd (omega arith))) (at 6 (λ e. absurd (omega arith))) (at 7 (λ e. absurd (omega arith)))
      item_as
      (λ i l. ap (find v set.Reads) (read_same i 0) ∙ found_read (number_at u set.Reads i) ∙ S.read_found i (subst (λ (c : ℕ). i < c) reads_same l))
      (R.once S.write_found) inside unique (wrote_housed k j slots y.items w S.housed keep)
    where
      item_as : (o : Obj) → InStore k j slots o → P.find (T k j slots) (map wrote y.items) o ≡ item_of k j slots v o
      item_as o h =
          find_wrote (T k j slots) w y.items o ∙ ap (Option.map wrote) (S.item_as o h) ∙ go (find u set.Reads (number o))
          ∙ ap (item_from k j slots v o) (sym (found_read (number o)))
        where
          go : (z : Found) → Option.map wrote (item_from k j slots u o z) ≡ item_from k j slots v o z
          go (Some i) = item_written o h i
          go None = refl

      inside : (i : P.Item (T k j slots)) → Among i (map wrote y.items) → InStore k j slots i.obj
      inside i h = let r = among_changed wrote y.items i h in subst (λ (i : P.Item (T k j slots)). InStore k j slots i.obj) (sym r.2) (S.inside r.0 r.1)

      unique : (i : P.Item (T k j slots)) → Among i (map wrote y.items) → P.find (T k j slots) (map wrote y.items) i.obj ≡ some i
      unique i h =
          let r = among_changed wrote y.items i h in
          subst (λ (i : P.Item (T k j slots)). P.find (T k j slots) (map wrote y.items) i.obj ≡ some i) (sym r.2)
          (find_wrote (T k j slots) w y.items r.0.obj ∙ ap (Option.map wrote) (S.unique r.0 r.1))
