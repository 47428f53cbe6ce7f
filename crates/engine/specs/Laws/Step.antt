-- Laws of a step's code: the rule of a kind, and the ways out.
use Rattle.std.specs.Prelude.{◌≡◌, refl, Bool, not, List, [], ℕ, zero, suc, ◌*◌, ◌/◌, ◌≤◌, ◌<◌, leb, ltb, length}
use Rattle.std.proofs.Math.Path.{sym, ap, subst}
use Rattle.std.proofs.Common.{◌∙◌, arith}
use Rattle.std.proofs.Math.Bool.{true, false}
use Rattle.std.proofs.Math.Decide.{dec_lt}
use borrow.Author.Tests.{ne_eqb, eqb-false, not-true, lt-ltb, le-ltb, ltb-false, leb-true}
use Rattle.std.proofs.Math.Dec.{eqb}
use Rattle.memory.specs.Word.{view}
use Rattle.base.specs.Test.{and_both}
use Rattle.layout.specs.Space.{stored}
use Rattle.layout.specs.Step.{stepped}
use Rattle.client.specs.Layout.{ClientWord, phase, op_number, op_value}
use Rattle.steps.specs.declared.sizes.Sizes.{Sizes}
use Rattle.steps.specs.declared.step.Step.{Step}
use Rattle.steps.specs.declared.step.Kind.{Kind}
use Rattle.steps.specs.declared.step.Kind.TheVariants.{Begin, Give, Work, Commit, Prepare, Apply, GiveUp, Lost, Servers, Unknown}
use Rattle.steps.specs.declared.step.ServerChange.{ServerChange}
use Rattle.steps.specs.declared.step.ServerChange.TheVariants.{Add, Close, Remove}
use Rattle.steps.specs.declared.outcome.Outcome.{Outcome}
use Rattle.steps.specs.declared.outcome.Outcome.TheVariants.{Refused}
use Rattle.steps.specs.Whole.{Address, client, whole, block}
use Rattle.steps.specs.Refusal.{kind_of, state_fits, open_refusal, refusal}
use Rattle.steps.specs.Servers.{version_ends}
use Rattle.steps.specs.Passed.{Passed}
use Rattle.steps.proofs.Laws.Passed.{passed}
use Rattle.steps.specs.Output.{with_pairs}
use Rattle.steps.specs.Steps.{Did, refuse, begin, give, work, commit, prepare, apply, abort, lose, change_servers, by_kind, by_rule, short_output, lacks_room, step}
use Rattle.steps.proofs.Laws.Unlisted.{works?, kind_unlisted}
use Rattle.kinds.specs.Parts.{head_sizes, stored_in}
use Rattle.kinds.specs.Judge.{of_client}
use Rattle.kinds.specs.Laws.Refusal.{too_short}
use Rattle.kinds.specs.Kinds.{Meets}
use Rattle.kinds.specs.Laws.Kinds.{meets_as, meets_refused}
use Rattle.engine.specs.Work.{RoomForList, Leaves}
use Rattle.engine.specs.Step.{rule_of, Ruled, result_of, outcome_of, words_after, output_after}

module _ (z : Sizes) (c : ℕ) (k : Step) (x : Kind) (w : List ℕ) (o : Outcome) (w' : List ℕ) where
  of_kind : (y : Kind) → x ≡ y → Meets z (λ m. by_kind z m c k y) w o w' → Meets z (rule_of z c k x) w o w'
  unfolding rule_of
  of_kind y q h = subst (λ (v : Kind). Meets z (λ m. by_kind z m c k v) w o w') (sym q) h

  pub is_begin : x ≡ Begin → Meets z (λ m. begin z m c) w o w' → Meets z (rule_of z c k x) w o w'
  is_begin q h = of_kind Begin q h

  pub is_give : x ≡ Give → Meets z (λ m. give z m c k) w o w' → Meets z (rule_of z c k x) w o w'
  is_give q h = of_kind Give q h

  pub is_work : x ≡ Work → Meets z (λ m. work z m c) w o w' → Meets z (rule_of z c k x) w o w'
  is_work q h = of_kind Work q h

  pub is_commit : x ≡ Commit → Meets z (λ m. commit z m c) w o w' → Meets z (rule_of z c k x) w o w'
  is_commit q h = of_kind Commit q h

  pub is_prepare : x ≡ Prepare → Meets z (λ m. prepare z m c k.server) w o w' → Meets z (rule_of z c k x) w o w'
  is_prepare q h = of_kind Prepare q h

  pub is_apply : x ≡ Apply → Meets z (λ m. apply z m c k.server) w o w' → Meets z (rule_of z c k x) w o w'
  is_apply q h = of_kind Apply q h

  pub is_give_up : x ≡ GiveUp → Meets z (λ m. abort z m c 6 []) w o w' → Meets z (rule_of z c k x) w o w'
  is_give_up q h = of_kind GiveUp q h

  pub is_lost : x ≡ Lost → Meets z (λ m. lose z m c) w o w' → Meets z (rule_of z c k x) w o w'
  is_lost q h = of_kind Lost q h

  pub is_change : (y : ServerChange) → x ≡ Servers y → Meets z (λ m. change_servers z m y k.server) w o w' → Meets z (rule_of z c k x) w o w'
  is_change y q h = of_kind (Servers y) q h

  pub is_none : x ≡ Unknown → o ≡ Refused 4 → w' ≡ w → Meets z (rule_of z c k x) w o w'
  unfolding stepped stored
  is_none q p r = of_kind Unknown q (record { answer = p; words = r })

pub ruleset kinds = (is_begin, is_give, is_work, is_commit, is_prepare, is_apply, is_give_up, is_lost, is_change, is_none)

-- the number of a kind
abbrev number_of : Kind → ℕ
number_of Begin = 0
number_of Give = 1
number_of Work = 2
number_of Commit = 3
number_of Prepare = 4
number_of Apply = 5
number_of GiveUp = 6
number_of Lost = 7
number_of (Servers Add) = 8
number_of (Servers Close) = 9
number_of (Servers Remove) = 10
number_of Unknown = 11

numbered : (n : ℕ) → n ≤ 10 → n ≡ number_of (kind_of n)
unfolding kind_of
numbered zero l = refl
numbered (suc zero) l = refl
numbered (suc (suc zero)) l = refl
numbered (suc (suc (suc zero))) l = refl
numbered (suc (suc (suc (suc zero)))) l = refl
numbered (suc (suc (suc (suc (suc zero))))) l = refl
numbered (suc (suc (suc (suc (suc (suc zero)))))) l = refl
numbered (suc (suc (suc (suc (suc (suc (suc zero))))))) l = refl
numbered (suc (suc (suc (suc (suc (suc (suc (suc zero)))))))) l = refl
numbered (suc (suc (suc (suc (suc (suc (suc (suc (suc zero))))))))) l = refl
numbered (suc (suc (suc (suc (suc (suc (suc (suc (suc (suc zero)))))))))) l = refl
numbered (suc (suc (suc (suc (suc (suc (suc (suc (suc (suc (suc n))))))))))) l = absurd (omega arith)

-- a change of the servers has a number from 8 on
changes_last : (y : ServerChange) → 8 ≤ number_of (Servers y)
changes_last Add = omega arith
changes_last Close = omega arith
changes_last Remove = omega arith

-- what the kinds' functions ask for
module _ (z : Sizes) (c : ℕ) (k : Step) (w : List ℕ) (e : c ≡ k.client) (h : Passed z k (stored_in z w)) (x : Kind) (ek : x ≡ kind_of k.kind) where
  number_is : (y : Kind) → x ≡ y → k.kind ≡ number_of y
  number_is y q = numbered k.kind h.known_kind ∙ ap number_of (sym ek ∙ q)

  -- any other kind has a client
  pub known_client : (y : Kind) → leb (number_of y) 7 ≡ true → x ≡ y → c < z.clients
  known_client y l q = rw e (h.known_client (rw (number_is y q) (leb-true (number_of y) 7 l)))

  pub at_prepare : x ≡ Prepare → k.server < 8
  at_prepare q = let r = number_is Prepare q in h.known_participant (omega arith) (omega arith)

  pub at_apply : x ≡ Apply → k.server < 8
  at_apply q = let r = number_is Apply q in h.known_participant (omega arith) (omega arith)

  pub at_change : (y : ServerChange) → x ≡ Servers y → k.server < 8
  at_change y q = h.known_changed (rw (number_is (Servers y) q) (changes_last y))

  pub change_rises : (y : ServerChange) → x ≡ Servers y → version_ends (stored_in z w) ≡ false
  change_rises y q = h.rising (rw (number_is (Servers y) q) (changes_last y))

pub ruleset asked = (known_client, at_prepare, at_apply, at_change, change_rises)

-- a work step has an operation that waits
pub at_work : (z : Sizes) (c : ℕ) (k : Step) (w : List ℕ) (x : Kind) → x ≡ Work → c ≡ k.client → x ≡ kind_of k.kind → Passed z k (stored_in z w) → of_client z w c op_number ≡ 0 → ⊥
unfolding state_fits
at_work z c k w x q e ek h p =
    let m = of_client z w k.client in
    let g : state_fits m k.server Work ≡ true = subst (λ (y : Kind). state_fits m k.server y ≡ true) (sym ek ∙ q) (h.fitting (omega (arith, number_is z c k w e h x ek Work q))) in
    let n : not (eqb (m op_number) 0) ≡ true = (and_both (eqb (m phase) 1) (not (eqb (m op_number) 0)) g).1 in
    eqb-false (m op_number) 0 (not-true (eqb (m op_number) 0) n) (subst (λ (d : ℕ). of_client z w d op_number ≡ 0) e p)

-- ---- refusals 4 to 9 and 11 to 15, then the rule
module _ (z : Sizes) (k : Step) (room : ℕ) (m : Address → ℕ) where
  refused_is : (r : ℕ) → r ≡ refusal z k m → (r ≡ 0 → ⊥) → step z k room m ≡ refuse r
  unfolding step by_rule lacks_room
  refused_is r e n = let q : eqb (refusal z k m) 0 ≡ false = rw (← e, ne_eqb r 0 n) in rw q (rw e)

  module _ (none : 0 ≡ refusal z k m) where
    short_is : short_output k.kind room (λ a. m (client k.client a)) ≡ true → step z k room m ≡ refuse 12
    unfolding step lacks_room
    short_is s = rw (← none, s)

    ruled_is : short_output k.kind room (λ a. m (client k.client a)) ≡ false → step z k room m ≡ by_kind z m k.client k (kind_of k.kind)
    unfolding step by_rule lacks_room
    ruled_is s = rw (← none, s)

module _ (z : Sizes) (k : Step) (b out : List ℕ) where
  abbrev m : Address → ℕ
  m = stored_in z (view b)

  refused_by : (n : ℕ) → step z k (length out) m ≡ refuse n → Meets z (step z k (length out)) (view b) (Refused n) (view b) × Leaves z (step z k (length out)) b out out
  unfolding with_pairs
  refused_by n p = (meets_refused z (view b) n (step z k (length out)) (sym p), rw p)

  pub is_refused : (r : ℕ) → r ≡ refusal z k m → (r ≡ 0 → ⊥) → Meets z (step z k (length out)) (view b) (Refused r) (view b) × Leaves z (step z k (length out)) b out out
  is_refused r e n = refused_by r (refused_is z k (length out) m r e n)

  pub passes : 0 ≡ refusal z k m → Passed z k m
  passes q = passed z k m (sym q)

  pub client_there : (c : ℕ) → 0 ≡ refusal z k m → c ≡ k.client → k.kind ≡ 2 → c < z.clients
  client_there c q ec work = rw ec ((passes q).known_client (omega arith))

  module _ (c : ℕ) (ec : c ≡ k.client) (none : 0 ≡ refusal z k m) (d : Bool) (ed : d ≡ short_output k.kind (length out) (of_client z (view b) c)) where
    short_so : (t : Bool) → d ≡ t → short_output k.kind (length out) (λ a. m (client k.client a)) ≡ t
    short_so t q = subst (λ (i : ℕ). short_output k.kind (length out) (of_client z (view b) i) ≡ t) ec (sym ed ∙ q)

    pub is_short : d ≡ true → Meets z (step z k (length out)) (view b) (Refused 12) (view b) × Leaves z (step z k (length out)) b out out
    is_short q = refused_by 12 (short_is z k (length out) m none (short_so true q))

    pub is_ruled : (x : Kind) (o : Outcome) (w' out' : List ℕ) → x ≡ kind_of k.kind → d ≡ false → Meets z (rule_of z c k x) (view b) o w'
        → Leaves z (rule_of z c k x) b out out' → Meets z (step z k (length out)) (view b) o w' × Leaves z (step z k (length out)) b out out'
    unfolding rule_of
    is_ruled x o w' out' ek q h g =
        let p : step z k (length out) m ≡ rule_of z c k x m = ruled_is z k (length out) m none (short_so false q) ∙ sym (rw (ec, ek)) in
        (meets_as z (view b) o w' (rule_of z c k x) (step z k (length out)) (sym p) h, rw p g)

-- ---- 12, as the code asks for it: a step of any other kind may have no client
pub work_client : (kind c n : ℕ) → (kind ≡ 2 → c < n) → kind ≡ 2 → c < n
work_client kind c n h = h

module _ (kind room : ℕ) (m : ClientWord → ℕ) where
  pub not_work : (kind ≡ 2 → ⊥) → false ≡ short_output kind room m
  not_work n = sym (rw (ne_eqb kind 2 n))

  pub no_list : (op : ℕ) → op ≡ m op_number → kind ≡ 2 → (op ≡ 7 → ⊥) → false ≡ short_output kind room m
  no_list op e q n = sym (rw (q, ← e, ne_eqb op 7 n))

  pub list_short : (op value : ℕ) → op ≡ m op_number → value ≡ m op_value → kind ≡ 2 → op ≡ 7 → ltb (room / 16) value ≡ short_output kind room m
  list_short op value e f q s = let short : short_output kind room m ≡ ltb room (16 * value) = rw (q, ← e, s, ← f) in sym (short ∙ same)
    where
      same : ltb room (16 * value) ≡ ltb (room / 16) value
      same = go (dec_lt (room / 16) value)
        where
          go : Dec (room / 16 < value) → ltb room (16 * value) ≡ ltb (room / 16) value
          go (yes l) = rw (lt-ltb (room / 16) value l) (lt-ltb room (16 * value) (omega arith))
          go (no l) = rw (le-ltb (room / 16) value (omega arith)) (le-ltb room (16 * value) (omega arith))

-- the list that waits has room
pub list_roomy : (z : Sizes) (b : List ℕ) (room c : ℕ) (k : Step) (x : Kind) (out : List ℕ) → Ruled z b room c k x → room ≡ length out → x ≡ Work → RoomForList z b c out
list_roomy z b room c k x out h e q l =
    let s : k.kind ≡ 2 = numbered k.kind h.passed.known_kind ∙ ap number_of (sym h.kind ∙ q) in
    let p : ltb (length out) (16 * of_client z (view b) c op_value) ≡ false = rw (s, l, e) at h.roomy in
    ltb-false (length out) (16 * of_client z (view b) c op_value) p

-- no step of another kind writes to the output
module _ (z : Sizes) (c : ℕ) (k : Step) (x : Kind) (b out : List ℕ) where
  pub kind_leaves : (y : Kind) → works? y ≡ false → x ≡ y → Leaves z (rule_of z c k x) b out out
  unfolding rule_of with_pairs
  kind_leaves y n q = rw (q, (kind_unlisted z (stored_in z (view b)) c k y n).none)

  pub change_leaves : (y : ServerChange) → x ≡ Servers y → Leaves z (rule_of z c k x) b out out
  change_leaves y q = kind_leaves (Servers y) refl q

  pub work_leaves : (out' : List ℕ) → x ≡ Work → Leaves z (λ m. work z m c) b out out' → Leaves z (rule_of z c k x) b out out'
  unfolding rule_of
  work_leaves out' q h = rw q h

module _ (bytes : ℕ) (w : List ℕ) (room : ℕ) (k : Step) where
  -- ---- ways out of the code
  pub short_result : bytes < 64 → result_of bytes w room k ≡ refuse 1
  unfolding result_of
  short_result h = let q = too_short bytes (head_sizes w) h in rw (← q)

  module _ (z : Sizes) (ez : z ≡ head_sizes w) where
    refusal_is : (r : ℕ) → r ≡ open_refusal bytes z → r ≡ open_refusal bytes (head_sizes w)
    refusal_is r e = e ∙ ap (open_refusal bytes) ez

    pub shut_result : (r : ℕ) → r ≡ open_refusal bytes z → (r ≡ 0 → ⊥) → result_of bytes w room k ≡ refuse r
    unfolding result_of
    shut_result r e n = let q = refusal_is r e in rw (← q, ne_eqb r 0 n)

    open_result : 0 ≡ open_refusal bytes z → result_of bytes w room k ≡ step z k room (stored_in z w)
    unfolding result_of
    open_result e = let q = refusal_is 0 e in rw (← q, ← ez)

-- the three clauses of a step's contract
module _ (b out : List ℕ) (k : Step) where
  pub record Stands (o : Outcome) (b' out' : List ℕ) : Type 0 where
    pub outcome : o ≡ outcome_of (length b) (view b) (length out) k
    pub words : view b' ≡ words_after (length b) (view b) (length out) k
    pub output : view out' ≡ output_after (length b) (view b) (length out) k (view out)

  refused_so : (n : ℕ) → result_of (length b) (view b) (length out) k ≡ refuse n → Stands (Refused n) b out
  unfolding outcome_of words_after output_after stored with_pairs
  refused_so n p = record {
    outcome = sym (ap (λ (d : Did). d.outcome) p);
    words = sym (ap (λ (d : Did). stored whole (block (head_sizes (view b))) (view b) d.stores) p);
    output = sym (ap (λ (d : Did). with_pairs d.pairs (view out)) p);
  }

  pub short_stands : length b < 64 → Stands (Refused 1) b out
  short_stands h = refused_so 1 (short_result (length b) (view b) (length out) k h)

  module _ (z : Sizes) (ez : z ≡ head_sizes (view b)) where
    pub shut_stands : (r : ℕ) → r ≡ open_refusal (length b) z → (r ≡ 0 → ⊥) → Stands (Refused r) b out
    shut_stands r e n = refused_so r (shut_result (length b) (view b) (length out) k z ez r e n)

    pub open_stands : (o : Outcome) (b' out' : List ℕ) → 0 ≡ open_refusal (length b) z → Meets z (step z k (length out)) (view b) o (view b') → Leaves z (step z k (length out)) b out out' → Stands o b' out'
    unfolding outcome_of words_after output_after stepped
    open_stands o b' out' e h g =
        let p = open_result (length b) (view b) (length out) k z ez e in
        record {
          outcome = h.answer ∙ sym (ap (λ (d : Did). d.outcome) p);
          words = h.words ∙ ap (λ (y : Sizes). stored whole (block y) (view b) (step z k (length out) (stored_in z (view b))).stores) ez
              ∙ sym (ap (λ (d : Did). stored whole (block (head_sizes (view b))) (view b) d.stores) p);
          output = g ∙ sym (ap (λ (d : Did). with_pairs d.pairs (view out)) p);
        }
