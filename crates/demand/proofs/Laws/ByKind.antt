-- EVERY STEP, of whatever kind, refused ones included, leads from a good state to a good one.
use Rattle.operations.specs.Object.{Ans}
use Rattle.steps.specs.Output.{with_pairs}
use Rattle.std.specs.Prelude.{◌≡◌, Bool, false, cond, ◌&&◌, ◌||◌, not, ◌⊎◌, eqb, leb}
use Rattle.std.proofs.Math.Path.{refl, subst}
use Rattle.std.proofs.Common.{ap, sym, ◌∙◌, inl, inr, arith}
use Rattle.std.proofs.Math.Bool.{true}
use Rattle.std.proofs.lemmas.Bool.{false≢true}
use mathlib.Core.List.{List, [], map}
use Prim.Native.Nat.{ℕ, zero, suc, ◌≤◌, ◌<◌, Fin}
use Rattle.std.proofs.Math.Decide.{dec_le}
use borrow.Author.Tests.{eqb-true, eqb-false, eq-eqb, ne_eqb, leb-true, not-false}
use Rattle.base.specs.Test.{and_both}
use Rattle.base.proofs.Laws.Test.{cond_true}
use Rattle.memory.specs.Bit.{bit, put_bit}
use Rattle.layout.specs.Space.{changed}
use Rattle.layout.proofs.Laws.Step.{changed_append}
use Rattle.layout.specs.Part.{over}
use Rattle.operations.specs.Map.{two_to_64}
use Rattle.client.specs.Layout.{ClientWord, phase, op_number, participants, prepared}
use Rattle.client.specs.Sets.{count}
use Rattle.client.specs.Items.{all_below}
use Rattle.client.specs.declared.part.Set.TheVariants.{Reads, Writes}
use Rattle.client.specs.Fits.{kind_fits, is_read, servers_known, sets_fit, fit_to_work, fit_to_commit, fit_to_prepare, fit_to_apply}
use Rattle.client.specs.Laws.Ranges.{client_fits, fits_field}
use Rattle.client.specs.Participants.{participants_of}
use Rattle.client.specs.Life.{lose_part}
use Rattle.client.specs.Work.{Worked, refused, fetches, aborted, answers, walked, worked, op_of}
use Rattle.steps.specs.declared.sizes.Sizes.{Sizes}
use Rattle.steps.specs.declared.step.Step.{Step}
use Rattle.steps.specs.declared.step.Kind.TheVariants.{Begin, Give, Work, Commit, Apply, GiveUp}
use Rattle.steps.specs.declared.outcome.Outcome.TheVariants.{Decided, Applied, Committed, Aborted}
use Rattle.steps.specs.Whole.{Address, client, whole}
use Rattle.steps.proofs.Laws.Stores.{client_of, client_changed, client_else}
use Rattle.steps.specs.declared.step.Kind.{Kind}
use Rattle.steps.specs.Servers.{change_of, there}
use Rattle.steps.specs.Refusal.{kind_of, state_fits, refusal}
use Rattle.steps.specs.Passed.{Passed}
use Rattle.steps.proofs.Laws.Passed.{passed}
use Rattle.steps.specs.Judge.{abort_fits, unlock_fits}
use Rattle.steps.specs.Steps.{Did, did, refuse, if_fit, by_finding}
use Rattle.demand.specs.Ledger.{Ledger, clears, notes_op, notes_decision, note, note_done, note_decided, notes_answer}
use Rattle.demand.proofs.Laws.Shows.{T, Related}
use Rattle.demand.proofs.Laws.Kept.{away}
use Rattle.demand.proofs.Laws.Homed.{homed_now}
use Rattle.demand.proofs.Laws.Forgotten.{lost_kept}
use Rattle.demand.proofs.Laws.InRange.{loss_fits}
use Rattle.demand.proofs.Laws.Turns.{one_of, store, Good, still_fits, Explained, Turns, turns_good, abort_turns}
use Rattle.demand.proofs.Laws.Answering.{answer_turns, answer_seen}
use Rattle.demand.proofs.Laws.Fetches.{fetch_turns}
use Rattle.demand.proofs.Laws.Undecided.{either, undecided_word, given_legal, begin_turns, give_turns, forget_turns, commit_turns, end_turns, lost_turns}
use Rattle.demand.proofs.Laws.Coming.{a_change, removes, change_explained}
use Rattle.demand.proofs.Laws.Settled.{unfinished, due_now}
use Rattle.demand.proofs.Laws.Applies.{young_kept, fit_young, applied_outcome, apply_explained}
use Rattle.protocol.specs.Machine as P
use Rattle.steps.specs.Uses as U
use Rattle.steps.specs.Steps as S
use Rattle.demand.proofs.Laws.Decides as D

-- what a commit reads is in range: so the metadata read says which servers there are, where all take part
commit_known : (slots : ℕ) (u : ClientWord → ℕ) → fit_to_commit slots u ≡ true → servers_known u ≡ true
unfolding fit_to_commit
commit_known slots u h =
    let a = all_below (count u Reads) (kind_fits u Reads) in
    let b = all_below (count u Writes) (kind_fits u Writes) in
    let c = all_below (count u Writes) (is_read u) in
    (and_both c (servers_known u) (and_both b (c && servers_known u) (and_both a (b && (c && servers_known u)) (and_both (sets_fit slots u) (a && (b && (c && servers_known u))) h).1).1).1).1

module _ (k j slots : ℕ) (size : suc k ≤ 8) (al : slots ≤ 1024) (few : suc j ≤ 16) (m : Address → ℕ) (L : Ledger) (M : P.Machine (T k j slots)) (G : Good k j slots m L M) (n : Step) (lent : List ℕ) where
  abbrev z : Sizes
  z = store k j slots

  -- the state after what a step did
  abbrev pub After : Did → Type 0
  After d = Explained k j slots (changed whole m d.stores) (note L n (with_pairs d.pairs lent) d.outcome)

  -- "refused steps do nothing"
  pub refused_after : (x : ℕ) → After (refuse x)
  unfolding changed
  refused_after x = record { machine = M; good = G }

  if_after : (b : Bool) (d : Did) → (b ≡ true → After d) → After (if_fit b d)
  if_after true d f = f refl
  if_after false d f = refused_after 10

  finding_after : (y : ℕ) (d : Did) (aborts : ℕ → Did) → (y ≡ 0 → After d) → After (aborts y) → After (by_finding y d aborts)
  finding_after y d aborts on off =
      one_of After (eqb y 0) _ _ (λ q. on (eqb-true y 0 q)) (λ _. one_of After (eqb y 10) _ _ (λ _. refused_after 10) (λ _. off))

  module _ (h : n.client < suc j) (fit : client_fits slots (client_of m n.client) ≡ true) where
    abbrev c : Fin (suc j)
    c = (n.client, h)

    abbrev u : ClientWord → ℕ
    u = client_of m n.client

    abbrev R : Related k j slots m L M
    R = G.shown

    abbrev turned : {m' : Address → ℕ} {L' : Ledger} → Turns k j slots m m' L' M c → Explained k j slots m' L'
    turned {m'} {L'} t = turns_good k j slots m m' L L' M c G t

    abort_after : (y : ℕ) (us : List ℕ) → (u phase ≡ 1) ⊎ (u phase ≡ 2) → After (S.abort z m n.client y us)
    unfolding S.abort
    abort_after y us e = if_after (abort_fits z m n.client) (did (Aborted y) (S.aborting z m n.client us)) (λ _. turned (abort_turns k j slots al few m L M c R fit us e))

    -- what an outcome without a number notes, by the kind
    done_is : (x : ℕ) → n.kind ≡ x
        → note_done L n ≡ cond (eqb x 0) (clears L n.client) (cond (eqb x 1) (notes_op L n.client (op_of n.op n.key n.value n.server)) L)
    done_is x e = ap (λ (y : ℕ). cond (eqb y 0) (clears L n.client) (cond (eqb y 1) (notes_op L n.client (op_of n.op n.key n.value n.server)) L)) e

    decided_is : (x : ℕ) → n.kind ≡ x → note_decided L n ≡ cond (eqb x 3 || eqb x 4) (notes_decision L n.client) L
    decided_is x e = ap (λ (y : ℕ). cond (eqb y 3 || eqb y 4) (notes_decision L n.client) L) e

    -- ---- 0 begin, 1 give
    begin_after : n.kind ≡ 0 → state_fits u n.server Begin ≡ true → After (S.begin z m n.client)
    unfolding S.begin state_fits
    begin_after e f = subst (Explained k j slots _) (sym (done_is 0 e)) (turned (begin_turns k j slots al few m L M c R (eqb-true (u phase) 0 f)))

    give_after : n.kind ≡ 1 → n.key < two_to_64 → state_fits u n.server Give ≡ true → After (S.give z m n.client n)
    unfolding S.give state_fits
    give_after e w f =
        let open_now = eqb-true (u phase) 1 (and_both (eqb (u phase) 1) (eqb (u op_number) 0) f).0 in
        subst (Explained k j slots _) (sym (done_is 1 e))
        (turned (give_turns k j slots al few m L M c R n.op n.key n.value n.server open_now (given_legal n.op n.key n.value n.server w)))

    -- ---- 2 work
    work_after : state_fits u n.server Work ≡ true → After (S.work z m n.client)
    unfolding S.work state_fits
    work_after f = if_after (fit_to_work slots u) _ (λ _. go (worked slots u) refl)
      where
        us : List ℕ
        us = (walked slots u).used

        both : (eqb (u phase) 1 ≡ true) × (not (eqb (u op_number) 0) ≡ true)
        both = and_both (eqb (u phase) 1) (not (eqb (u op_number) 0)) f

        open_now : u phase ≡ 1
        open_now = eqb-true (u phase) 1 both.0

        waits : ¬ (u op_number ≡ 0)
        waits e = false≢true (ap not (sym (eq-eqb (u op_number) 0 e)) ∙ both.1)

        go : (w : Worked) → worked slots u ≡ w → After (S.after_walk z m n.client us w)
        go refused e = refused_after 10
        go (fetches a) e = turned (fetch_turns k j slots al few m L M c R fit open_now n refl lent a e)
        go (aborted y) e = abort_after y us (inl open_now)
        go (answers a w) e = subst (λ (b : Ans). Explained k j slots (changed whole m (S.after_walk z m n.client us (answers a w)).stores) (notes_answer L n.client b)) (sym (answer_seen k j slots al m L M c R fit open_now waits a w e lent))
            (turned (answer_turns k j slots al m L M c R fit open_now waits a w e))

    -- ---- 3 commit
    commit_after : n.kind ≡ 3 → state_fits u n.server Commit ≡ true → After (S.commit z m n.client)
    unfolding S.commit state_fits
    commit_after e f =
        let open_now = eqb-true (u phase) 1 (and_both (eqb (u phase) 1) (eqb (u op_number) 0) f).0 in
        if_after (fit_to_commit slots u) _
        (λ fits. let known = commit_known slots u fits in let homed = homed_now k j slots al u fit (M.slots c) (R.clients c).slot known in one_of After (eqb (participants_of u) 0) _ _
        (λ q. subst (Explained k j slots _) (sym (decided_is 3 e)) (turned (end_turns k j slots al few m L M c R fit open_now known homed (eqb-true (participants_of u) 0 q))))
        (λ q. subst (Explained k j slots _) (sym (done_is 3 e)) (turned (commit_turns k j slots al few m L M c R fit open_now known homed (eqb-false (participants_of u) 0 q)))))

    -- ---- 6 give up, 7 lost
    give_up_after : state_fits u n.server GiveUp ≡ true → After (S.abort z m n.client 6 [])
    unfolding state_fits
    give_up_after f =
        let b = and_both (leb 1 (u phase)) (leb (u phase) 2) f in
        abort_after 6 [] (either (u phase) (leb-true 1 (u phase) b.0) (leb-true (u phase) 2 b.1))

    -- a decided transaction of a lost client
    lost_later : Explained k j slots (changed whole m (over (client n.client) (lose_part u))) L
    lost_later = record {
      machine = M;
      good = record {
        shown = lost_kept k j slots m L M c R;
        decided_fits = still_fits k j slots m (changed whole m (over (client n.client) (lose_part u))) L L M c G
            (λ _. subst (λ (v : ClientWord → ℕ). client_fits slots v ≡ true) (sym (client_changed m n.client (lose_part u))) (loss_fits slots u fit))
            (λ d q. client_else m n.client (lose_part u) d.0 (away k j slots c d q));
        outside = G.outside;
      };
    }

    lose_after : n.kind ≡ 7 → After (S.lose z m n.client)
    unfolding S.lose
    lose_after e =
        one_of After (eqb (u phase) 0) _ _
        (λ q. subst (Explained k j slots _) (sym (done_is 7 e)) (turned (forget_turns k j slots al few m L M c R (eqb-true (u phase) 0 q))))
        (λ q. one_of After (eqb (u phase) 3) _ _ (λ _. subst (Explained k j slots _) (sym (done_is 7 e)) lost_later)
        (λ r. if_after (leb (u phase) 3 && abort_fits z m n.client) _
        (λ _. turned (lost_turns k j slots al few m L M c R fit (undecided_word (u phase) q r (fits_field slots u fit 0 (omega arith)))))))

    -- ---- 4 prepare, at the server s
    module _ (l : n.server < 8) where
      abbrev s : Fin 8
      s = (n.server, l)

      module _ (e : n.kind ≡ 4) (now : u phase ≡ 2) (new : bit (u prepared) n.server ≡ false) where
        module _ (attends : there m n.server ≡ true) where
          abbrev Fine : Type 0
          Fine = U.deciding (map (S.prepare_finding z m n.client n.server) (U.read_items u)) ≡ 0

          -- the decision; with one participant it also applies
          decided_after : Fine → S.all_prepared z m n.client n.server ≡ true → After (did Decided (S.deciding_stores z m n.client n.server))
          decided_after fine all =
              subst (Explained k j slots _) (sym (decided_is 4 e))
              (record { machine = D.M₂ k j slots al few m L M c G fit s now new attends fine all; good = D.decide_good k j slots al few m L M c G fit s now new attends fine all })

          alone_after : Fine → S.all_prepared z m n.client n.server ≡ true → S.only z m n.client n.server ≡ true → fit_to_apply slots u n.server true ≡ true
              → After (S.then m (S.deciding_stores z m n.client n.server) (λ m₂. S.applied_at z m₂ n.client n.server))
          alone_after fine all one fits =
              let ps = S.deciding_stores z m n.client n.server in
              let m₂ = changed whole m ps in
              let done = D.only_applied k j slots al few m L M c G fit s now new attends fine all (eqb-true (u participants) (put_bit true 0 n.server) one) in
              let ends : note L n (with_pairs [] lent) (S.applied_at z m₂ n.client n.server).outcome ≡ notes_decision L n.client
              = ap (note L n (with_pairs [] lent)) (applied_outcome z m₂ n.client n.server ∙ cond_true Committed (Applied n.server) done) ∙ decided_is 4 e in
              coe 1 0 (t. Explained k j slots (changed_append whole ps (S.applied_at z m₂ n.client n.server).stores m t) (ends t))
              (apply_explained k j slots al few m₂ (notes_decision L n.client) (D.M₂ k j slots al few m L M c G fit s now new attends fine all) c
              (D.decide_good k j slots al few m L M c G fit s now new attends fine all) s
              (D.now₂ k j slots al few m L M c G fit s now new attends fine all)
              (D.part₂ k j slots al few m L M c G fit s now new attends fine all (eqb-true (u participants) (put_bit true 0 n.server) one)) (D.new₂ k j slots al few m L M c G fit s now new attends fine all)
              (λ _. young_kept u (client_of m₂ n.client) (D.same_sets₂ k j slots al few m L M c G fit s now new attends fine all)
              (D.lost₂ k j slots al few m L M c G fit s now new attends fine all) (fit_young slots u n.server fits)))

          prepared_after : Fine → After (S.prepared_at z m n.client n.server)
          unfolding S.prepared_at
          prepared_after fine =
              one_of After (not (S.all_prepared z m n.client n.server)) _ _ (λ _. turned (D.prepare_turns k j slots al few m L M c G fit s now new attends fine))
              (λ q. one_of After (S.only z m n.client n.server) _ _
              (λ one. if_after (fit_to_apply slots u n.server true) _ (alone_after fine (not-false (S.all_prepared z m n.client n.server) q) one))
              (λ _. decided_after fine (not-false (S.all_prepared z m n.client n.server) q)))

        -- "prepare at an absent server aborts with 1"
        prepare_after : After (S.prepare z m n.client n.server)
        unfolding S.prepare
        prepare_after =
            let found = U.deciding (map (S.prepare_finding z m n.client n.server) (U.read_items u)) in
            if_after (fit_to_prepare slots u) _
            (λ _. one_of After (there m n.server) _ _
            (λ t. finding_after found (S.prepared_at z m n.client n.server) (λ y. S.abort z m n.client y []) (prepared_after t) (abort_after found [] (inr now)))
            (λ _. abort_after 1 [] (inr now)))

      -- ---- 5 apply
      apply_after : n.kind ≡ 5 → state_fits u n.server Apply ≡ true → After (S.apply z m n.client n.server)
      unfolding S.apply
      apply_after e f =
          let d = due_now u n.server f in
          if_after (S.apply_fits z m n.client n.server) (S.applied_at z m n.client n.server)
          (λ q. subst (Explained k j slots _) (sym (applied_is e))
          (apply_explained k j slots al few m L M c G s d.0 d.1 d.2
          (λ all. fit_young slots u n.server
          (subst (λ (b : Bool). fit_to_apply slots u n.server b ≡ true) all
          (and_both (fit_to_apply slots u n.server (S.all_applied z m n.client n.server)) (unlock_fits z m n.client n.server) q).0))))
        where
          out : List ℕ
          out = with_pairs (S.applied_at z m n.client n.server).pairs lent

          applied_is : n.kind ≡ 5 → note L n out (S.applied_at z m n.client n.server).outcome ≡ L
          applied_is e = ap (note L n out) (applied_outcome z m n.client n.server) ∙ go (S.all_applied z m n.client n.server)
            where
              go : (b : Bool) → note L n out (cond b Committed (Applied n.server)) ≡ L
              go true = decided_is 5 e
              go false = refl

    -- ---- whatever the kind, of those that have a client
    kind_after : Passed z n m → n.key < two_to_64 → n.kind ≤ 7 → After (S.by_kind z m n.client n (kind_of n.kind))
    unfolding kind_of state_fits
    kind_after p w l = go n.kind refl l (p.fitting l)
      where
        go : (x : ℕ) → n.kind ≡ x → x ≤ 7 → state_fits u n.server (kind_of x) ≡ true → After (S.by_kind z m n.client n (kind_of x))
        go zero e l f = begin_after e f
        go (suc zero) e l f = give_after e w f
        go (suc (suc zero)) e l f = work_after f
        go (suc (suc (suc zero))) e l f = commit_after e f
        go (suc (suc (suc (suc zero)))) e l f =
            let q = unfinished u n.server prepared 2 f in prepare_after (p.known_participant (omega (arith, e)) (omega (arith, e))) e q.0 q.2
        go (suc (suc (suc (suc (suc zero))))) e l f = apply_after (p.known_participant (omega (arith, e)) (omega (arith, e))) e f
        go (suc (suc (suc (suc (suc (suc zero)))))) e l f = give_up_after f
        go (suc (suc (suc (suc (suc (suc (suc zero))))))) e l f = lose_after e
        go (suc (suc (suc (suc (suc (suc (suc (suc x)))))))) e l f = absurd (omega arith)

  -- ---- 8 add, 9 close, 10 remove
  change_after : Passed z n m → 8 ≤ n.kind → After (S.by_kind z m n.client n (kind_of n.kind))
  unfolding S.change_servers
  change_after p l =
      subst (λ (x : Kind). After (S.by_kind z m n.client n x)) (sym (a_change n.kind l p.known_kind))
      (if_after (S.change_fits z m (change_of n.kind) n.server) _
      (λ fits. subst (Explained k j slots _) (sym noted)
      (change_explained k j slots size al m L M G (change_of n.kind) n.server (p.known_changed l) (p.suiting l) (λ e. p.untaken (removes n.kind l p.known_kind e)) (p.quiet_now l) fits)))
    where
      -- it notes nothing
      noted : note_done L n ≡ L
      noted =
          let a : ¬ (n.kind ≡ 0) = λ e. absurd (omega (arith, l, e)) in
          let b : ¬ (n.kind ≡ 1) = λ e. absurd (omega (arith, l, e)) in
          rw (ne_eqb n.kind 0 a, ne_eqb n.kind 1 b) refl

  -- THE STEP of a client whose part is in range, as of every client that steps lead to (`ranges`)
  pub step_after : (room : ℕ) → n.key < two_to_64 → (n.client < suc j → client_fits slots (client_of m n.client) ≡ true) → After (S.step z n room m)
  unfolding S.step S.by_rule
  step_after room w fit =
      one_of After (S.lacks_room z n room m) _ _ (λ _. refused_after 12) (λ _.
      one_of After (eqb (refusal z n m) 0) _ _ (λ q. by_kind (passed z n m (eqb-true (refusal z n m) 0 q)) (dec_le n.kind 7)) (λ _. refused_after (refusal z n m)))
    where
      by_kind : Passed z n m → Dec (n.kind ≤ 7) → After (S.by_kind z m n.client n (kind_of n.kind))
      by_kind p (yes l) = kind_after (p.known_client l) (fit (p.known_client l)) p w l
      by_kind p (no l) = change_after p (omega (arith, l))
