-- Copies that are stored: of a node, of the metadata, of a vector. What the client's part shows then.
use Rattle.std.specs.Prelude.{◌≡◌, List, [], ◌∷◌, ◌⊎◌}
use Rattle.std.proofs.Math.Path.{refl, ap, ap₂, sym}
use Rattle.std.proofs.Common.{◌∙◌, subst, arith}
use Rattle.std.proofs.Math.Logic.{inl, inr}
use Rattle.std.proofs.Math.Option.{Option}
use Prim.Native.Nat.{ℕ, suc, ◌+◌, ◌/◌, ◌%◌, ◌<◌, Fin}
use Rattle.std.proofs.Math.Decide.{ℕ_discrete, Fin-discrete}
use Rattle.std.proofs.Math.ListN.{get_or}
use Rattle.base.specs.Update.{upd}
use Rattle.base.proofs.Laws.Update.{upd_same, upd_other}
use Rattle.memory.specs.Bit.{bit}
use Rattle.layout.specs.Space.{changed, puts, tab}
use Rattle.layout.proofs.Laws.Space.{puts_other, puts_same, get_or_tab, length_tab}
use Rattle.nodes.specs.declared.node.Node.{Node}
use Rattle.nodes.specs.Found.{Found}
use Rattle.std.specs.Prelude.{Some, None}
use Rattle.nodes.proofs.Laws.Stored.{Sized}
use Rattle.operations.specs.Object.{Obj, meta, node, flag, root, taken}
use Rattle.operations.proofs.Laws.Object.{ObjDiscrete}
use Rattle.client.specs.declared.part.Set.TheVariants.{Copies}
use Rattle.client.specs.Layout.{ClientWord, client_again, client_words, field, item, vector_word, meta_states, meta_root, meta_version}
use Rattle.client.specs.Record.{value_of}
use Rattle.client.specs.Sets.{count, number_at, record_at, find}
use Rattle.client.specs.Part.{nothing, put_fields, put_vector}
use Rattle.client.specs.Copies.{to_place, copy_node}
use Rattle.demand.proofs.Laws.Shows.{T, InStore, copy, CopiesShown}
use Rattle.demand.proofs.Laws.Held.{found_at, none_at}
use Rattle.demand.proofs.Laws.Slots.{meta_stays, node_stays, flag_stays}
use Rattle.demand.proofs.Laws.Frame.{last, read_after}
use Rattle.demand.proofs.Laws.Placed.{family, which, word_in, placed, placed_number, placed_record, placed_beside, placed_else}
use Rattle.nodes.specs.Name as N
use Rattle.protocol.specs.Machine as P
use Rattle.protocol.specs.Moves as Mv

-- objects of different kinds, and names
abbrev pub sort : Obj → ℕ
sort meta = 0
sort (node n) = 1
sort (flag n) = 2

name_of : Obj → ℕ
name_of meta = 0
name_of (node n) = n
name_of (flag n) = n

word_below : (n : ℕ) → N.slot_of n / 64 < 16
word_below n = omega arith

pub other_kind : (a b : Obj) → ¬ (sort a ≡ sort b) → ¬ (a ≡ b)
other_kind a b n e = n (ap sort e)

pub flag_name : (q n : ℕ) → flag q ≡ flag n → q ≡ n
unfolding name_of
flag_name q n e = ap name_of e

module _ (k j slots : ℕ) (u : ClientWord → ℕ) (f : Obj → Option (P.Copy (T k j slots))) (h : CopiesShown k j slots u f) where
  -- ---- a node's copy at place p, where no other place has that node
  module _ (p n : ℕ) (r : Node) (w : Sized r) (l : p < 64) (free : (i : ℕ) → i < 64 → ¬ (i ≡ p) → ¬ (u (item Copies i 0) ≡ 1 + n)) where
    abbrev v : ClientWord → ℕ
    v = placed Copies p (1 + n) r w u

    abbrev g : Obj → Option (P.Copy (T k j slots))
    g = upd ObjDiscrete f (node n) (copy k j slots u (value_of (node n) r) r.version)

    else : (o : Obj) → ¬ (o ≡ node n) → g o ≡ f o
    else o d = upd_other ObjDiscrete f (node n) (copy k j slots u (value_of (node n) r) r.version) o d

    at_field : (i : ℕ) → v (field i) ≡ u (field i)
    at_field i = placed_else Copies p (1 + n) r w u (field i) (λ e. absurd (omega (arith, e)))

    here : v (item Copies p 0) ≡ 1 + n
    here = placed_number Copies p (1 + n) r w u

    beside : (i q : ℕ) → ¬ (i ≡ p) → v (item Copies i q) ≡ u (item Copies i q)
    beside = placed_beside Copies p (1 + n) r w u

    pub node_copied : CopiesShown k j slots v g
    unfolding name_of
    node_copied = record {
      meta_as = meta_stays k j slots u v f g h (at_field 12) (at_field 13) (at_field 14) (else meta (other_kind meta (node n) (λ e. absurd (omega (arith, e)))));
      node_as = λ i q. by_place i q (ℕ_discrete i p);
      flag_as = λ q. flag_stays k j slots u v f g h q (λ x. placed_else Copies p (1 + n) r w u (vector_word (N.server_of q) x) (λ e. absurd (omega (arith, e))))
          (else (flag q) (other_kind (flag q) (node n) (λ e. absurd (omega (arith, e)))));
      apart = λ i q a b. by_places i q a b (ℕ_discrete i p) (ℕ_discrete q p);
    }
      where
        by_place : (i q : ℕ) → Dec (i ≡ p) → i < 64 → v (item Copies i 0) ≡ 1 + q
            → g (node q) ≡ copy k j slots v (value_of (node q) (record_at v Copies i)) (record_at v Copies i).version
        by_place i q (yes e) a z =
            let same : q ≡ n = omega (arith, sym z ∙ ap (λ (x : ℕ). v (item Copies x 0)) e ∙ here) in
            ap (λ (x : ℕ). g (node x)) same
            ∙ upd_same ObjDiscrete f (node n) (copy k j slots u (value_of (node n) r) r.version)
            ∙ ap₂ (λ (x : ℕ) (y : Node). copy k j slots u (value_of (node x) y) y.version) (sym same)
            (sym (ap (record_at v Copies) e ∙ placed_record Copies p (1 + n) r w u))
        by_place i q (no d) a z =
            node_stays k j slots u v f g h i q (λ x. beside i x d)
            (else (node q) (λ e. free i a d (sym (beside i 0 d) ∙ z ∙ ap (λ (x : ℕ). 1 + x) (ap name_of e)))) a z

        by_places : (i q : ℕ) → i < 64 → q < 64 → Dec (i ≡ p) → Dec (q ≡ p) → v (item Copies i 0) ≡ v (item Copies q 0) → ¬ (v (item Copies i 0) ≡ 0) → i ≡ q
        by_places i q a b (yes e) (yes d) z t = e ∙ sym d
        by_places i q a b (yes e) (no d) z t = absurd (free q b d (sym (beside q 0 d) ∙ sym z ∙ ap (λ (x : ℕ). v (item Copies x 0)) e ∙ here))
        by_places i q a b (no e) (yes d) z t = absurd (free i a e (sym (beside i 0 e) ∙ z ∙ ap (λ (x : ℕ). v (item Copies x 0)) d ∙ here))
        by_places i q a b (no e) (no d) z t = h.apart i q a b (sym (beside i 0 e) ∙ z ∙ beside q 0 d) (λ y. t (beside i 0 e ∙ y))

  -- "a node's copy goes to its own place", else to an empty one; "when full, a node isn't copied"
  module _ (n : ℕ) (r : Node) (w : Sized r) where
    abbrev pub given : Obj → Option (P.Copy (T k j slots))
    given = upd ObjDiscrete f (node n) (copy k j slots u (value_of (node n) r) r.version)

    abbrev After : Found → Found → Type 0
    After a b = let v = changed client_words u (to_place (1 + n) r a b u) in CopiesShown k j slots v f ⊎ CopiesShown k j slots v given

    pub copied_node : let v = changed client_words u (copy_node (1 + n) r u) in CopiesShown k j slots v f ⊎ CopiesShown k j slots v given
    unfolding copy_node count number_at nothing changed
    copied_node = go (find u Copies (1 + n)) refl (find u Copies 0) refl
      where
        go : (a : Found) → find u Copies (1 + n) ≡ a → (b : Found) → find u Copies 0 ≡ b → After a b
        go (Some p) e b d =
            let at = found_at u Copies (1 + n) p e in
            inr (node_copied p n r w at.0 (λ i l z q. z (h.apart i p l at.0 (q ∙ sym at.1) (λ y. absurd (omega (arith, y, q))))))
        go None e (Some p) d = inr (node_copied p n r w (found_at u Copies 0 p d).0 (λ i l z q. none_at u Copies (1 + n) e i l q))
        go None e None d = inl h

  -- ---- the metadata's copy
  module _ (r st n : ℕ) where
    abbrev vm : ClientWord → ℕ
    vm = changed client_words u (put_fields 12 (st ∷ r ∷ n ∷ []) u)

    abbrev gm : Obj → Option (P.Copy (T k j slots))
    gm = upd ObjDiscrete f meta (copy k j slots u (root r st) n)

    at : (a : ClientWord) → vm a ≡ last client_words (put_fields 12 (st ∷ r ∷ n ∷ []) u) a (u a)
    at a = read_after client_words (put_fields 12 (st ∷ r ∷ n ∷ []) u) u a

    else_meta : (o : Obj) → ¬ (sort o ≡ 0) → gm o ≡ f o
    else_meta o d = upd_other ObjDiscrete f meta (copy k j slots u (root r st) n) o (other_kind o meta d)

    pub meta_put : CopiesShown k j slots vm gm
    unfolding put_fields puts
    meta_put = record {
      meta_as = λ _. upd_same ObjDiscrete f meta (copy k j slots u (root r st) n)
          ∙ sym (λ t. copy k j slots u (root (at meta_root t) (at meta_states t)) (at meta_version t));
      node_as = λ i q. node_stays k j slots u vm f gm h i q (λ x. at (item Copies i x)) (else_meta (node q) (λ e. absurd (omega (arith, e))));
      flag_as = λ q. flag_stays k j slots u vm f gm h q (λ x. at (vector_word (N.server_of q) x)) (else_meta (flag q) (λ e. absurd (omega (arith, e))));
      apart = λ i q a b z t. h.apart i q a b (sym (at (item Copies i 0)) ∙ z ∙ at (item Copies q 0)) (λ y. t (at (item Copies i 0) ∙ y));
    }

  -- ---- a vector's copy; g: the copies afterwards
  module _ (s : ℕ) (ws : List ℕ) (g : Obj → Option (P.Copy (T k j slots))) where
    abbrev vv : ClientWord → ℕ
    vv = changed client_words u (put_vector s ws u)

    elsewhere : (a : ClientWord) → ((q : ℕ) → ¬ (a ≡ vector_word s q)) → vv a ≡ u a
    unfolding put_vector
    elsewhere a d = puts_other client_words client_again (1 ∷ tab 16 (λ j. get_or ws j 0)) u (vector_word s) a (λ q l. d q)

    within : (q : ℕ) → q < 16 → vv (vector_word s (suc q)) ≡ get_or ws q 0
    unfolding put_vector
    within q l =
        puts_same client_words client_again (1 ∷ tab 16 (λ j. get_or ws j 0)) u (vector_word s) (λ i j e. ap word_in e) (suc q) (omega (arith, length_tab 16 (λ j. get_or ws j 0)))
        ∙ get_or_tab 16 (λ j. get_or ws j 0) q l

    -- the flags of other servers and all other objects are as before, and this server's are the words' bits
    pub record Taken : Type 0 where
      pub same : (o : Obj) → ¬ (sort o ≡ 2) → g o ≡ f o
      pub others : (n : ℕ) → ¬ (N.server_of n ≡ s) → g (flag n) ≡ f (flag n)
      pub ours : (n : ℕ) → InStore k j slots (flag n) → N.server_of n ≡ s → g (flag n) ≡ copy k j slots u (taken (bit (get_or ws (N.slot_of n / 64) 0) (N.slot_of n % 64))) 0

    pub vector_put : Taken → CopiesShown k j slots vv g
    vector_put t = record {
      meta_as = meta_stays k j slots u vv f g h (at_field 12) (at_field 13) (at_field 14) (t.same meta (λ e. absurd (omega (arith, e))));
      node_as = λ i q. node_stays k j slots u vv f g h i q (at_copy i) (t.same (node q) (λ e. absurd (omega (arith, e))));
      flag_as = λ q. by_server q (ℕ_discrete (N.server_of q) s);
      apart = λ i q a b z y. h.apart i q a b (sym (at_copy i 0) ∙ z ∙ at_copy q 0) (λ e. y (at_copy i 0 ∙ e));
    }
      where
        at_field : (i : ℕ) → vv (field i) ≡ u (field i)
        at_field i = elsewhere (field i) (λ q e. absurd (omega (arith, ap family e)))

        at_copy : (i q : ℕ) → vv (item Copies i q) ≡ u (item Copies i q)
        at_copy i q = elsewhere (item Copies i q) (λ x e. absurd (omega (arith, ap family e)))

        by_server : (q : ℕ) → Dec (N.server_of q ≡ s) → InStore k j slots (flag q) → vv (vector_word (N.server_of q) 0) ≡ 1
            → g (flag q) ≡ copy k j slots vv (taken (bit (vv (vector_word (N.server_of q) (suc (N.slot_of q / 64)))) (N.slot_of q % 64))) 0
        by_server q (no d) = flag_stays k j slots u vv f g h q (λ x. elsewhere (vector_word (N.server_of q) x) (λ y e. d (ap which e))) (t.others q d)
        by_server q (yes e) = λ i _.
            t.ours q i e
            ∙ ap (λ (x : ℕ). copy k j slots u (taken (bit x (N.slot_of q % 64))) 0)
            (sym (ap (λ (x : ℕ). vv (vector_word x (suc (N.slot_of q / 64)))) e ∙ within (N.slot_of q / 64) (word_below q)))

-- ---- the machine's copies of one client
module _ (k j slots : ℕ) (M : P.Machine (T k j slots)) (c : Fin (suc j)) where
  abbrev Copy : Type 0
  Copy = Option (P.Copy (T k j slots))

  abbrev Fine : Fin (suc j) → Obj → Copy → Type 0
  Fine = Mv.Copied (T k j slots) M

  -- a copy of o, beside those that are there
  pub one_copy : (o : Obj) (z : Copy) → Fine c o z → (q : Obj) → Fine c q (upd ObjDiscrete (M.copy c) o z q)
  one_copy o z h q = go (ObjDiscrete q o)
    where
      g : Obj → Copy
      g = upd ObjDiscrete (M.copy c) o z

      go : Dec (q ≡ o) → Fine c q (g q)
      go (yes e) = subst (λ (x : Obj). Fine c x (g x)) (sym e) (subst (Fine c o) (sym (upd_same ObjDiscrete (M.copy c) o z)) h)
      go (no n) = subst (Fine c q) (sym (upd_other ObjDiscrete (M.copy c) o z q n)) Mv.as_before

  pub copies_moved : (g : Obj → Copy) → Mv.Reached (T k j slots) M → ((q : Obj) → Fine c q (g q))
      → Mv.Reached (T k j slots) (P.with_copies (T k j slots) M (upd (Fin-discrete (suc j)) M.copy c g))
  copies_moved g r h = Mv.moved r (Mv.copies F (λ d q. go d q (Fin-discrete (suc j) d c)))
    where
      F : Fin (suc j) → Obj → Copy
      F = upd (Fin-discrete (suc j)) M.copy c g

      go : (d : Fin (suc j)) (q : Obj) → Dec (d ≡ c) → Fine d q (F d q)
      go d q (yes e) =
          subst (λ (x : Fin (suc j)). Fine x q (F x q)) (sym e)
          (subst (Fine c q) (sym (ap (λ (f : Obj → Copy). f q) (upd_same (Fin-discrete (suc j)) M.copy c g))) (h q))
      go d q (no n) = subst (Fine d q) (sym (ap (λ (f : Obj → Copy). f q) (upd_other (Fin-discrete (suc j)) M.copy c g d n))) Mv.as_before
