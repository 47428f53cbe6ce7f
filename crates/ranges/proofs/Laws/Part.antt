-- A client's part stays sound: the stores of each kind of step.
use Rattle.std.specs.Prelude.{◌≡◌, refl, Bool, cond, ltb}
use Rattle.std.proofs.Common.{sym, arith}
use Rattle.std.proofs.Math.Path.{subst}
use Rattle.std.proofs.Math.Bool.{true, false}
use mathlib.Core.List.{List, [], ◌∷◌}
use Prim.Native.Nat.{ℕ, ◌+◌, ◌≤◌, ◌<◌}
use borrow.Author.Tests.{eqb-true, ltb-true}
use Rattle.std.proofs.Math.Dec.{eqb}
use Rattle.layout.specs.Space.{Put, put, puts, changed}
use Rattle.layout.specs.Step.{and_then}
use Rattle.layout.proofs.Laws.Step.{changed_append}
use Rattle.plans.specs.Walk.{Every}
use Rattle.nodes.specs.declared.node.Node.{Node}
use Rattle.nodes.specs.Found.{Found}
use Rattle.std.specs.Prelude.{Some, None}
use Rattle.nodes.proofs.Laws.Stored.{Sized, made_sized}
use Rattle.operations.specs.Object.{Writes}
use Rattle.operations.specs.Map.{two_to_64}
use Rattle.client.specs.Layout.{ClientWord, client_words, item, op_number, prepared, applied, reads_count, writes_count}
use Rattle.client.specs.Record.{number_in_store, in_store, metadata}
use Rattle.client.specs.Laws.Part.{count_limit}
use Rattle.client.specs.Sets.{count, number_at, find}
use Rattle.client.specs.Have.{copied}
use Rattle.client.specs.Lent.{Entry}
use Rattle.client.specs.Part.{nothing, put_field, put_fields, put_item, put_vector, put_word}
use Rattle.client.specs.Participants.{committing}
use Rattle.client.specs.Course.{noted, decided}
use Rattle.client.specs.Copies.{copy_node, drop_all}
use Rattle.client.specs.Drops.{drop_used}
use Rattle.client.specs.Enter.{enter_read, written_behind, enter_at, enter_write, enter_entries}
use Rattle.client.specs.Fetched.{fetched_meta, copy_inner, mark_fetched, fetched_node, fetched_vector}
use Rattle.client.specs.Answered.{used_enter, entered, enter_writes, answered}
use Rattle.client.specs.Life.{reset, give_part, lose_part, abort_part}
use Rattle.demand.proofs.Laws.Frame.{Only, only_then, then_keeps, read_after}
use Rattle.demand.proofs.Laws.CopyWords.{sets_stay, only_copy, only_fields, only_vector}
use Rattle.demand.proofs.Laws.Dropped.{Drop, fewer, fewer_sets, only_used, only_outer, only_all}
use Rattle.demand.proofs.Laws.Renewed.{Renews, renew_keeps}
use Rattle.demand.proofs.Laws.Latest.{AllWhole}
use Rattle.demand.proofs.Laws.Entered.{ReadEntered}
use Rattle.demand.proofs.Laws.Used.{after_used}
use Rattle.ranges.specs.Laws.Sound.{Sound, NodeSound, InnerSound, ItemSound, FieldsSound, PartSound}
use Rattle.ranges.proofs.Laws.Sets.{sets_frame, no_sets, read_sound, read_or_not, copied_sound, MayWrite, AllCopied, used_keeps}
use Rattle.ranges.proofs.Laws.Stored.{few_states}
use Rattle.ranges.proofs.Laws.Entries.{written_sound}
use Rattle.ranges.proofs.Laws.Renewing.{renewed_node, renewed_meta}
use Rattle.layout.proofs.Laws.Space as Space
use Rattle.client.specs.declared.part.Set.TheVariants as set
use Rattle.client.specs.Renew as Rn
use Rattle.ranges.proofs.Laws.Fields as F
use Rattle.ranges.proofs.Laws.Copies as C

-- an object that enters the read set
entered_part : (slots : ℕ) (u v : ClientWord → ℕ) (x : ℕ) (r : Node) → ReadEntered u v x r → ItemSound slots x r → PartSound slots u → PartSound slots v
unfolding count
entered_part slots u v x r E I P = record {
  fields = F.count_sound slots u v set.Reads 10 (omega arith) E.other (omega (arith, E.counted, E.after, count_limit v set.Reads)) P.fields;
  sets = read_sound slots u v x r E I P.sets;
  copies = C.copies_read slots u v P.copies E.other;
}

module _ (slots : ℕ) (u : ClientWord → ℕ) (P : PartSound slots u) where
  -- stores in the fields before the counts
  few_fields : (ps : List (Put ClientWord)) → Space.Only client_words C.before_counts ps → FieldsSound slots (changed client_words u ps)
      → PartSound slots (changed client_words u ps)
  few_fields ps h f =
      record { fields = f; sets = sets_frame slots u (changed client_words u ps) (C.fields_sets u ps h) P.sets; copies = C.fields_copies u ps h slots P.copies }

  pub give_part_sound : (op key value server : ℕ) → op ≤ 7 → key < two_to_64 → value < two_to_64 → server < two_to_64 → (op ≡ 6 → (in_store slots key ≡ true) × (server < 8))
      → (op ≡ 7 → (1 ≤ value) × (value ≤ 32))
      → PartSound slots (changed client_words u (give_part op key value server u))
  give_part_sound op key value server l k v s there listed =
      few_fields (give_part op key value server u) (C.only_give u op key value server) (F.give_fields slots u op key value server l k v s there listed P.fields)

  pub commit_part : PartSound slots (changed client_words u (committing u))
  commit_part = few_fields (committing u) (C.only_committing u) (F.committing_fields slots u P.fields)

  pub decided_part : PartSound slots (changed client_words u (decided u))
  decided_part = few_fields (decided u) (C.only_decided u) (F.decided_fields slots u P.fields)

  pub prepared_part : (s : ℕ) → s < 8 → PartSound slots (changed client_words u (noted prepared s u))
  prepared_part s l = few_fields (noted prepared s u) (C.only_noted u prepared refl s) (F.prepared_fields slots u s l P.fields)

  pub applied_part : (s : ℕ) → s < 8 → PartSound slots (changed client_words u (noted applied s u))
  applied_part s l = few_fields (noted applied s u) (C.only_noted u applied refl s) (F.applied_fields slots u s l P.fields)

  answered_part : PartSound slots (changed client_words u (put op_number 0 ∷ []))
  answered_part = few_fields (put op_number 0 ∷ []) C.only_answered (F.answered_fields slots u P.fields)

  -- ---- a transaction begins anew, or ends: both sets are empty
  pub reset_part : (p : ℕ) → p ≤ 1 → PartSound slots (changed client_words u (reset p u))
  unfolding reset put_word put_fields puts and_then
  reset_part p l = record {
    fields = F.reset_fields slots u p l P.fields;
    sets = no_sets slots (changed client_words u (reset p u)) (read_after client_words (reset p u) u reads_count) (read_after client_words (reset p u) u writes_count);
    copies = C.reset_copies slots u P.copies p;
  }

  -- ---- copies are dropped
  dropped_part : (ps : List (Put ClientWord)) → Only client_words Drop ps → PartSound slots (changed client_words u ps)
  dropped_part ps h = record {
    fields = F.dropped_fields slots u ps h P.fields;
    sets = sets_frame slots u (changed client_words u ps) (fewer_sets u (changed client_words u ps) (fewer ps u h)) P.sets;
    copies = C.dropped_copies slots u P.copies ps h;
  }

  lost_part : PartSound slots (changed client_words u (put_field 9 1 u))
  lost_part = few_fields (put_field 9 1 u) (C.only_lost u) (F.lost_fields slots u P.fields)

  -- ---- a fetch: the copies in use enter the read set, then the object
  pub used_part : (us : List ℕ) → AllCopied slots u us → PartSound slots (after_used u us)
  used_part us h =
      (used_keeps u _ (PartSound slots)
      (λ x q m v same E. entered_part slots m v x (copied u x).node E (record { inside = q.0; sound = copied_sound slots u P.copies x q.1 })) us h P).0

  read_part : (x : ℕ) (r : Node) → Sized r → ItemSound slots x r → PartSound slots (changed client_words u (enter_read x r u))
  read_part x r w I = read_or_not u x r w (PartSound slots) (λ v E. entered_part slots u v x r E I P) P

  -- ---- a copy is made
  node_copied : (x : ℕ) (r : Node) → Sized r → InnerSound slots r → PartSound slots (changed client_words u (copy_node x r u))
  node_copied x r w s = record {
    fields = F.copied_fields slots u P.fields x r;
    sets = sets_frame slots u _ (sets_stay (copy_node x r u) u (only_copy x r u)) P.sets;
    copies = C.copy_node_sound slots u P.copies x r w s;
  }

  meta_copied : (root states version : ℕ) → Sound slots 0 (metadata version root states) → PartSound slots (changed client_words u (put_fields 12 (states ∷ root ∷ version ∷ []) u))
  meta_copied root states version s = record {
    fields = F.meta_fields slots u P.fields root states version (few_states slots version root states s);
    sets = sets_frame slots u _ (sets_stay (put_fields 12 (states ∷ root ∷ version ∷ []) u) u (only_fields states root version u)) P.sets;
    copies = C.meta_sound slots u P.copies root states version s;
  }

  vector_copied : (s : ℕ) (ws : List ℕ) → PartSound slots (changed client_words u (put_vector s ws u))
  vector_copied s ws = record {
    fields = F.vector_fields slots u P.fields s ws;
    sets = sets_frame slots u _ (sets_stay (put_vector s ws u) u (only_vector s ws u)) P.sets;
    copies = C.vector_sound slots u P.copies s ws;
  }

-- copies are renewed
renews : (slots : ℕ) → Renews (PartSound slots)
renews slots = record {
  outer_drops = λ i w Q. dropped_part slots w Q (Rn.drop_outer i w) (only_outer i w);
  node_renews = λ i w Q l h. let n = renewed_node slots w Q.sets i l h in node_copied slots w Q (number_at w set.Writes i) (Rn.renewed w i) n.0 n.1;
  meta_renews = λ i w Q e. meta_copied slots w Q _ _ _ (renewed_meta slots w Q.sets i e);
  flag_renews = λ i w x Q _ _ _ _. vector_copied slots w Q _ _;
}

-- the writes of an operation keep their count within its limit
module _ (slots : ℕ) where
  abbrev Fine : List (Put ClientWord) → Type 0
  Fine = Only client_words F.WithinStore

  item_within : (i x : ℕ) (r : Node) (u : ClientWord → ℕ) → Fine (put_item set.Writes i x r u)
  unfolding put_item F.WithinStore
  item_within i x r u = F.words_within slots (item set.Writes i) _ (λ q v. tt)

  entries_within : (l : List Entry) (u : ClientWord → ℕ) → Fine (enter_entries l u)
  unfolding enter_entries enter_write nothing put_word Only F.WithinStore
  entries_within [] u = tt
  entries_within (e ∷ l) u =
      only_then client_words F.WithinStore (enter_write e.0 e.1) (enter_entries l) u (one (find u set.Writes e.0)) (entries_within l)
    where
      n : ℕ
      n = count u set.Writes

      behind : (b : Bool) → ltb n 48 ≡ b → Fine (cond b (written_behind n e.0 e.1) nothing u)
      behind true h =
          only_then client_words F.WithinStore (put_item set.Writes n e.0 e.1) (put_field 11 (n + 1)) u (item_within n e.0 e.1 u)
          (λ v. ((refl, λ _. omega (arith, ltb-true n 48 h)), tt))
      behind false h = tt

      one : (f : Found) → Fine (enter_at e.0 e.1 n f u)
      one (Some i) = item_within i e.0 e.1 u
      one None = behind (ltb n 48) refl

module _ (slots : ℕ) (u : ClientWord → ℕ) (P : PartSound slots u) where
  -- a transaction ends: "An abort .. drops copies of all objects read"; "The last apply ends the transaction and renews its copies"
  pub abort_part_sound : (us : List ℕ) → PartSound slots (changed client_words u (abort_part us u))
  abort_part_sound us =
      then_keeps client_words (PartSound slots) (drop_used us) (reset 0) u (dropped_part slots u P (drop_used us u) (only_used us u)) (λ w Q. reset_part slots w Q 0 (omega arith))

  pub finish_part : PartSound slots (changed client_words u (Rn.finish u))
  unfolding Rn.finish
  finish_part = then_keeps client_words (PartSound slots) Rn.renew_kept (reset 0) u (renew_keeps (PartSound slots) u (λ _. renews slots) P) (λ w Q. reset_part slots w Q 0 (omega arith))

  -- "loss drops all copies"
  pub forget_part : PartSound slots (changed client_words u (drop_all u))
  forget_part = dropped_part slots u P (drop_all u) (only_all u)

  pub lose_part_sound : PartSound slots (changed client_words u (lose_part u))
  unfolding lose_part
  lose_part_sound = then_keeps client_words (PartSound slots) (put_field 9 1) drop_all u (lost_part slots u P) (λ w Q. dropped_part slots w Q (drop_all w) (only_all w))

  -- ---- what is handed over
  pub meta_part : (root states version : ℕ) → Sound slots 0 (metadata version root states) → PartSound slots (changed client_words u (fetched_meta root states version u))
  unfolding fetched_meta number_in_store metadata
  meta_part root states version s =
      then_keeps client_words (PartSound slots) (enter_read 0 (metadata version root states)) (put_fields 12 (states ∷ root ∷ version ∷ [])) u
      (read_part slots u P 0 (metadata version root states) (made_sized 0 0 version [] (root ∷ states ∷ []) (omega arith) (omega arith)) (record { inside = refl; sound = s }))
      (λ v Q. meta_copied slots v Q root states version s)

  pub node_part : (n : ℕ) (r : Node) → Sized r → ItemSound slots (1 + n) r → NodeSound slots r → PartSound slots (changed client_words u (fetched_node n r u))
  unfolding fetched_node copy_inner nothing changed
  node_part n r w I s =
      then_keeps client_words (PartSound slots) (enter_read (1 + n) r) (copy_inner (1 + n) r) u (read_part slots u P (1 + n) r w I) (λ v Q. inner v Q (eqb r.kind 2) refl)
    where
      -- "an inner node is copied too"
      inner : (v : ClientWord → ℕ) → PartSound slots v → (b : Bool) → eqb r.kind 2 ≡ b → PartSound slots (changed client_words v (cond b (copy_node (1 + n) r) nothing v))
      inner v Q true e = node_copied slots v Q (1 + n) r w (record { inner = eqb-true r.kind 2 e; sound = s })
      inner v Q false e = Q

  pub vector_part : (s : ℕ) (ws : List ℕ) → s < 8 → PartSound slots (changed client_words u (fetched_vector s ws u))
  unfolding fetched_vector
  vector_part s ws l =
      then_keeps client_words (PartSound slots) (put_vector s ws) (mark_fetched s) u (vector_copied slots u P s ws)
      (λ v Q. few_fields slots v Q (mark_fetched s v) (C.only_marked v s) (F.marked_fields slots v s l Q.fields))

  -- ---- an answer: the writes enter the write set
  writes_part : (l : List Entry) → Every (λ e. ItemSound slots e.0 e.1) l → AllWhole l → Every (λ e. MayWrite u e.0) l
      → PartSound slots (changed client_words u (enter_entries l u))
  writes_part l I w h =
      let W = written_sound slots l I w u h P.sets in record {
        fields = F.stores_within slots u (enter_entries l u) (entries_within slots l u) P.fields;
        sets = W.0;
        copies = C.copies_written slots u _ P.copies W.1;
      }

module _ (slots : ℕ) (u : ClientWord → ℕ) (P : PartSound slots u) where
  pub answer_part : (us : List ℕ) (w : Writes) → AllCopied slots u us → Every (λ e. ItemSound slots e.0 e.1) (entered w) → AllWhole (entered w)
      → Every (λ e. MayWrite (after_used u us) e.0) (entered w) → PartSound slots (changed client_words u (answered us w u))
  unfolding answered enter_writes and_then
  answer_part us w c I h m =
      let v = after_used u us in
      subst (PartSound slots) (sym (changed_append client_words (used_enter us u) (and_then client_words (enter_writes w) (λ x. put op_number 0 ∷ []) v) u))
      (then_keeps client_words (PartSound slots) (enter_writes w) (λ x. put op_number 0 ∷ []) v
      (writes_part slots v (used_part slots u P us c) (entered w) I h m) (λ x Q. answered_part slots x Q))
