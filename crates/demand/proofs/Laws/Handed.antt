-- What a fetch hands over: metadata, a node, a vector, each as a stage of the step.
use Rattle.std.specs.Prelude.{◌≡◌, Bool, cond, ◌&&◌, [], ◌∷◌, ◌⊎◌, eqb}
use Rattle.std.proofs.Math.Path.{refl, ap}
use Rattle.std.proofs.Common.{sym, ◌∙◌, true≢false, inr, arith, eq-eqb}
use Rattle.std.proofs.Math.Bool.{true, false}
use Rattle.std.proofs.Math.Logic.{inl}
use Rattle.std.proofs.Math.Option.{Option}
use Prim.Native.Nat.{ℕ, suc, ◌+◌, ◌/◌, ◌%◌, ◌≤◌, ◌<◌, Fin}
use Rattle.base.proofs.Laws.Test.{bool_cases, cond_true, cond_false}
use Rattle.base.specs.Test.{and_both}
use Rattle.memory.specs.Bit.{bit}
use Rattle.layout.proofs.Laws.Space.{Only, get_or_tab}
use Rattle.layout.specs.Space.{changed, tab}
use Rattle.nodes.specs.declared.node.Node.{Node}
use Rattle.std.specs.Prelude.{None}
use Rattle.nodes.specs.Lists.{pad}
use Rattle.nodes.specs.Node.{made}
use Rattle.nodes.specs.Stored.{node_of}
use Rattle.nodes.proofs.Laws.Stored.{Sized}
use Rattle.operations.specs.Object.{Obj, meta, node, flag, root, taken}
use Rattle.server.specs.declared.place.Place.{Place}
use Rattle.server.specs.HandOut.{metadata_at, vector_at}
use Rattle.client.specs.declared.part.Set.TheVariants.{Reads, Writes, Copies}
use Rattle.client.specs.Layout.{ClientWord, client_words, item, vector_word, reads_count, meta_states, meta_root, meta_version}
use Rattle.client.specs.Record.{number, value_of, metadata, object_in_store}
use Rattle.client.specs.Sets.{find}
use Rattle.client.specs.Participants.{at_home}
use Rattle.client.specs.Part.{nothing, put_field, put_fields, put_vector, put_word}
use Rattle.client.specs.Copies.{copy_node}
use Rattle.client.specs.Enter.{enter_read}
use Rattle.client.specs.Fetched.{fetched_meta, copy_inner, fetched_node, mark_fetched, fetched_vector}
use Rattle.steps.specs.Whole.{Address}
use Rattle.steps.specs.Steps.{node_at}
use Rattle.steps.proofs.Laws.Stores.{server_of}
use Rattle.demand.specs.Ledger.{Ledger}
use Rattle.demand.proofs.Laws.Store.{keeps}
use Rattle.demand.proofs.Laws.Frame.{then_keeps, last, read_after}
use Rattle.demand.proofs.Laws.Numbers.{as_flag, by_object}
use Rattle.demand.proofs.Laws.Housed.{PlacedAt}
use Rattle.demand.proofs.Laws.Shows.{T, InStore, copy, value_at, version_at, ServerShown, CopiesShown, Related}
use Rattle.demand.proofs.Laws.Slots.{copies_frame}
use Rattle.demand.proofs.Laws.Members.{kept_at, kept_home}
use Rattle.demand.proofs.Laws.CopyWords.{only_copy, only_fields, only_vector}
use Rattle.demand.proofs.Laws.Copied.{sort, given, copied_node, meta_put, Taken, vector_put}
use Rattle.demand.proofs.Laws.Stage.{machine, Stage, as_before, copy_on, copies_on, copies_stored, read_stage}
use Rattle.nodes.specs.Name as N
use Rattle.protocol.specs.Machine as P
use Rattle.protocol.specs.Moves as Mv
use Rattle.server.specs.declared.place.Place.TheVariants as place

module _ (k j slots : ℕ) (al : slots ≤ 1024) (m : Address → ℕ) (L : Ledger) (M : P.Machine (T k j slots)) (c : Fin (suc j)) (R : Related k j slots m L M) (s : Fin 8) where
  abbrev p : Place → ℕ
  p = server_of m s.0

  abbrev S : ServerShown k j slots p s (M.value s) (M.version s) (M.table s) (M.lock s)
  S = R.servers s

  abbrev Some : (ClientWord → ℕ) → Type 0
  Some = Stage k j slots m L M c R

  -- the read set has room, and neither set has the object
  pub record Unread (v : ClientWord → ℕ) (o : Obj) : Type 0 where
    pub room : v reads_count < 96
    pub unread : find v Reads (number o) ≡ None
    pub unwritten : find v Writes (number o) ≡ None

  -- "a fetch copies what the server stores"
  handed_legal : (w : ClientWord → ℕ) (H : Some w) (o : Obj) → InStore k j slots o → keeps k j slots s o ≡ true
      → Mv.Copied (T k j slots) (machine k j slots m L M c R H.slot H.copies) c o (copy k j slots w (value_at k j slots p o) (version_at k j slots p o))
  handed_legal w H o hi kept =
      coe 0 1 (t. Mv.Copied (T k j slots) (machine k j slots m L M c R H.slot H.copies) c o (copy k j slots w (S.value_as o hi kept t) (S.version_as o hi kept t)))
      (Mv.fetched s kept)

  -- ---- metadata
  pub meta_handed : (v : ClientWord → ℕ) (G : Some v) → Unread v meta → Some (changed client_words v (fetched_meta (metadata_at p).root (metadata_at p).states (metadata_at p).version v))
  unfolding fetched_meta metadata_at metadata made pad
  meta_handed v G h =
      then_keeps client_words Some (enter_read 0 (metadata (p place.Version) (p place.Root) (p place.States))) (put_fields 12 (p place.States ∷ p place.Root ∷ p place.Version ∷ [])) v
      (read_stage k j slots m L M c R al s meta (metadata (p place.Version) (p place.Root) (p place.States)) (record { keys = refl; slots = refl }) refl refl
      (sym (S.value_as meta refl refl)) (sym (S.version_as meta refl refl)) v G (record { known = inl refl; there = λ n. absurd (true≢false n) }) h.room h.unread h.unwritten)
      (λ w H. copies_stored k j slots m L M c R w (put_fields 12 (p place.States ∷ p place.Root ∷ p place.Version ∷ []) w) (only_fields (p place.States) (p place.Root) (p place.Version) w) H _
      (copy_on k j slots m L M c R H.slot H.copies H.reached meta (copy k j slots w (root (p place.Root) (p place.States)) (p place.Version))
      (handed_legal w H meta refl refl))
      (meta_put k j slots w H.copies H.shows.copies (p place.Root) (p place.States) (p place.Version)))

  -- ---- a node; "an inner node is copied too"
  module _ (n : ℕ) (hi : InStore k j slots (node n)) (kept : keeps k j slots s (node n) ≡ true) where
    abbrev r : Node
    r = node_at p n

    sized : Sized r
    unfolding node_at node_of tab
    sized = record { keys = refl; slots = refl }

    inner_copied : (w : ClientWord → ℕ) → Some w → Some (changed client_words w (copy_node (1 + n) r w))
    inner_copied w H = go (copied_node k j slots w H.copies H.shows.copies n r sized)
      where
        v : ClientWord → ℕ
        v = changed client_words w (copy_node (1 + n) r w)

        go : CopiesShown k j slots v H.copies ⊎ CopiesShown k j slots v (given k j slots w H.copies H.shows.copies n r sized) → Some v
        go (inl h) = copies_stored k j slots m L M c R w (copy_node (1 + n) r w) (only_copy (1 + n) r w) H H.copies H.reached h
        go (inr h) =
            copies_stored k j slots m L M c R w (copy_node (1 + n) r w) (only_copy (1 + n) r w) H (given k j slots w H.copies H.shows.copies n r sized)
            (copy_on k j slots m L M c R H.slot H.copies H.reached (node n) (copy k j slots w (value_of (node n) r) r.version)
            (handed_legal w H (node n) hi kept)) h

    pub node_handed : (v : ClientWord → ℕ) (G : Some v) → PlacedAt k j slots G.slot.items (node n) (value_of (node n) r) → Unread v (node n) → Some (changed client_words v (fetched_node n r v))
    unfolding fetched_node copy_inner nothing changed
    node_handed v G placed h =
        then_keeps client_words Some (enter_read (1 + n) r) (copy_inner (1 + n) r) v
        (read_stage k j slots m L M c R al s (node n) r sized hi kept (sym (S.value_as (node n) hi kept)) (sym (S.version_as (node n) hi kept)) v G placed h.room h.unread h.unwritten)
        (λ w H. go w H (eqb r.kind 2))
      where
        go : (w : ClientWord → ℕ) → Some w → (b : Bool) → Some (changed client_words w (cond b (copy_node (1 + n) r) nothing w))
        go w H true = inner_copied w H
        go w H false = H

  -- ---- a vector: all flags of this server; "a vector is no object: it enters no set"
  module _ (w : ClientWord → ℕ) (H : Some w) where
    -- a flag of this server
    abbrev ours? : ℕ → Bool
    ours? n = keeps k j slots s (flag n) && object_in_store slots (flag n)

    abbrev g : Obj → Option (P.Copy (T k j slots))
    g o = by_object o (H.copies meta) (λ n. H.copies (node n))
        (λ n. cond (ours? n) (copy k j slots w (value_at k j slots p (flag n)) (version_at k j slots p (flag n))) (H.copies (flag n)))

    abbrev Fine : Obj → Option (P.Copy (T k j slots)) → Type 0
    Fine = Mv.Copied (T k j slots) (machine k j slots m L M c R H.slot H.copies) c

    flags_legal : (q : Obj) → Fine q (g q)
    flags_legal meta = as_before k j slots m L M c R H.slot H.copies H.reached meta
    flags_legal (node n) = as_before k j slots m L M c R H.slot H.copies H.reached (node n)
    flags_legal (flag n) = go (ours? n) refl
      where
        go : (b : Bool) → ours? n ≡ b
            → Fine (flag n) (cond b (copy k j slots w (value_at k j slots p (flag n)) (version_at k j slots p (flag n))) (H.copies (flag n)))
        go true e = let h = and_both (keeps k j slots s (flag n)) (object_in_store slots (flag n)) e in handed_legal w H (flag n) h.1 h.0
        go false e = as_before k j slots m L M c R H.slot H.copies H.reached (flag n)

    flags_are : Taken k j slots w H.copies H.shows.copies s.0 (vector_at p) g
    unfolding vector_at at_home
    flags_are = record {
      same = λ o d. same o d;
      others = λ n d. cond_false _ _ (not_ours n d (bool_cases (ours? n)));
      ours = λ n h e. cond_true _ _ (is_ours n h e)
          ∙ ap (λ (x : ℕ). copy k j slots w (taken (bit x (N.slot_of n % 64))) 0) (sym (get_or_tab 16 (λ i. p (place.Vector i)) (N.slot_of n / 64) (omega arith)));
    }
      where
        same : (o : Obj) → ¬ (sort o ≡ 2) → g o ≡ H.copies o
        same meta d = refl
        same (node n) d = refl
        same (flag n) d = absurd (d refl)

        not_ours : (n : ℕ) → ¬ (N.server_of n ≡ s.0) → (ours? n ≡ true) ⊎ (ours? n ≡ false) → ours? n ≡ false
        not_ours n d (inr e) = e
        not_ours n d (inl e) =
            let h = and_both (keeps k j slots s (flag n)) (object_in_store slots (flag n)) e in absurd (d (kept_at k j slots s n h.1 h.0))

        is_ours : (n : ℕ) → InStore k j slots (flag n) → N.server_of n ≡ s.0 → ours? n ≡ true
        is_ours n h e =
            let kept : keeps k j slots s (flag n) ≡ true
            = kept_home k j slots al s (flag n) h ∙ as_flag true (λ x. eqb (N.server_of x) s.0) (λ x. eqb (N.server_of x) s.0) n ∙ eq-eqb (N.server_of n) s.0 e in
            rw (kept, h) refl

    -- the note that this transaction has fetched it says nothing of copies
    mark_copies : (v : ClientWord → ℕ) (x : ℕ) (f : Obj → Option (P.Copy (T k j slots))) → CopiesShown k j slots v f → CopiesShown k j slots (changed client_words v (put_field 8 x v)) f
    unfolding put_word
    mark_copies v x f h =
        copies_frame k j slots v (changed client_words v (put_field 8 x v)) f (at meta_states) (at meta_root) (at meta_version) (λ i n. at (item Copies i n)) (λ q n. at (vector_word q n)) h
      where
        at : (a : ClientWord) → changed client_words v (put_field 8 x v) a ≡ last client_words (put_field 8 x v) a (v a)
        at a = read_after client_words (put_field 8 x v) v a

    pub vector_handed : Some (changed client_words w (fetched_vector s.0 (vector_at p) w))
    unfolding fetched_vector mark_fetched put_word Only
    vector_handed =
        then_keeps client_words Some (put_vector s.0 (vector_at p)) (mark_fetched s.0) w
        (copies_stored k j slots m L M c R w (put_vector s.0 (vector_at p) w) (only_vector s.0 (vector_at p) w) H g
        (copies_on k j slots m L M c R H.slot H.copies H.reached g flags_legal)
        (vector_put k j slots w H.copies H.shows.copies s.0 (vector_at p) g flags_are))
        (λ v G. copies_stored k j slots m L M c R v (mark_fetched s.0 v) (refl, tt) G G.copies G.reached
        (mark_copies v _ G.copies G.shows.copies))
