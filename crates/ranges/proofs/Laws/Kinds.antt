-- EVERY STEP from a sound store, of whatever kind, is not refused by 10 and leaves a sound store.
use Rattle.std.specs.Prelude.{◌≡◌, Bool, false, cond, ◌&&◌, not, eqb, leb}
use Rattle.std.proofs.Math.Path.{refl}
use Rattle.std.proofs.Common.{sym, subst, inl, arith}
use Rattle.std.proofs.Math.Bool.{true}
use mathlib.Core.List.{List, [], ◌∷◌}
use Prim.Native.Nat.{ℕ, zero, suc, ◌≤◌, ◌<◌, Fin}
use Rattle.std.proofs.Math.Decide.{dec_le}
use borrow.Author.Tests.{eqb-true, eqb-false, leb-true, ne_eqb, not-true}
use Rattle.base.specs.Test.{and_both}
use Rattle.layout.specs.Space.{changed}
use Rattle.plans.specs.Walk.{Every}
use Rattle.protocol.specs.Machine as P
use Rattle.client.specs.Layout.{ClientWord, phase, op_number, prepared, applied}
use Rattle.client.specs.Fits.{fit_to_work}
use Rattle.client.specs.Work as Work
use Rattle.client.specs.Work.{Worked, walked, worked}
use Rattle.steps.specs.declared.sizes.Sizes.{Sizes}
use Rattle.steps.specs.declared.step.Step.{Step}
use Rattle.steps.specs.declared.step.Kind.{Kind}
use Rattle.steps.specs.declared.step.Kind.TheVariants.{Work}
use Rattle.steps.specs.Whole.{Address}
use Rattle.steps.specs.Refusal.{Row, first, kind_of, state_fits, of_step, refusal}
use Rattle.steps.specs.Servers.{change_of}
use Rattle.steps.specs.Passed.{Passed}
use Rattle.steps.proofs.Laws.Passed.{passed}
use Rattle.steps.specs.Steps as Steps
use Rattle.steps.proofs.Laws.Stores.{client_of}
use Rattle.steps.specs.Taken.{Words}
use Rattle.demand.specs.Ledger.{Ledger}
use Rattle.demand.proofs.Laws.Settled.{unfinished}
use Rattle.demand.proofs.Laws.Shows.{T}
use Rattle.demand.proofs.Laws.Turns.{one_of, store, Good}
use Rattle.demand.proofs.Laws.Undecided.{either}
use Rattle.demand.proofs.Laws.Coming.{a_change, removes}
use Rattle.ranges.specs.Laws.Sound.{SoundStore}
use Rattle.ranges.proofs.Laws.Judged.{fits_to_work}
use Rattle.ranges.proofs.Laws.Whole.{accepted, Kept, if_kept}
use Rattle.ranges.proofs.Laws.Undecided.{begin_kept, give_kept, commit_kept, abort_kept, loss_kept}
use Rattle.ranges.proofs.Laws.Applying.{apply_kept}
use Rattle.ranges.proofs.Laws.Preparing.{prepare_kept}
use Rattle.ranges.proofs.Laws.Hand.{never_refused}
use Rattle.ranges.proofs.Laws.Changing.{change_kept}
use Rattle.ranges.proofs.Laws.Fetching.{fetch_kept}
use Rattle.ranges.proofs.Laws.Answering.{answer_kept}

-- 10 is no number of the table
first_not_10 : (rs : List Row) → Every (λ (r : Row). ¬ (r.number ≡ 10)) rs → ¬ (first rs ≡ 10)
unfolding first Every
first_not_10 [] h = λ e. absurd (omega (arith, e))
first_not_10 (r ∷ rs) h = go r.holds (first_not_10 rs h.1)
  where
    go : (b : Bool) → ¬ (first rs ≡ 10) → ¬ (cond b r.number (first rs) ≡ 10)
    go true l = h.0
    go false l = l

-- are they all other numbers
abbrev none_10 : List Row → Bool
none_10 [] = true
none_10 (r ∷ rs) = not (eqb r.number 10) && none_10 rs

none_is_10 : (rs : List Row) → none_10 rs ≡ true → Every (λ (r : Row). ¬ (r.number ≡ 10)) rs
unfolding Every
none_is_10 [] h = tt
none_is_10 (r ∷ rs) h =
    let b = and_both (not (eqb r.number 10)) (none_10 rs) h in
    (eqb-false r.number 10 (not-true (eqb r.number 10) b.0), none_is_10 rs b.1)

not_10 : (z : Sizes) (n : Step) (m : Address → ℕ) → ¬ (refusal z n m ≡ 10)
unfolding refusal
not_10 z n m = first_not_10 (of_step z n m) (none_is_10 (of_step z n m) refl)

module _ (k j slots : ℕ) (size : suc k ≤ 8) (al : slots ≤ 1024) (few : suc j ≤ 16) (m : Address → ℕ) (S : SoundStore k j slots m) (L : Ledger) (M : P.Machine (T k j slots))
    (G : Good k j slots m L M) (n : Step) (words : Words n) where
  abbrev z : Sizes
  z = store k j slots

  abbrev Fine : Steps.Did → Type 0
  Fine = Kept k j slots m

  -- refused by another number: nothing is stored
  refused_kept : (x : ℕ) → ¬ (x ≡ 10) → Fine (Steps.refuse x)
  unfolding changed
  refused_kept x l = record { passes = accepted _ (ne_eqb x 10 l); sound = S }

  module _ (h : n.client < suc j) where
    abbrev c : Fin (suc j)
    c = (n.client, h)

    abbrev u : ClientWord → ℕ
    u = client_of m n.client

    work_kept : state_fits u n.server Work ≡ true → Fine (Steps.work z m n.client)
    unfolding Steps.work state_fits
    work_kept f = if_kept k j slots m (fit_to_work slots u) _ (fits_to_work slots u (S.parts c)) (go (worked slots u) refl)
      where
        now : u phase ≡ 1
        now = eqb-true (u phase) 1 (and_both (eqb (u phase) 1) (not (eqb (u op_number) 0)) f).0

        go : (w : Worked) → worked slots u ≡ w → Fine (Steps.after_walk z m n.client (walked slots u).used w)
        go Work.refused e = absurd (never_refused k j slots al u (S.parts c) (M.copy c) (G.shown.clients c).copies (M.slots c) (G.shown.clients c).slot e)
        go (Work.fetches a) e = fetch_kept k j slots al few m S L M G.shown c now a e
        go (Work.aborted y) e = abort_kept k j slots m S c al few L M G.shown (inl now) y (walked slots u).used
        go (Work.answers a w) e = let q = answer_kept k j slots al few m S L M G.shown c now a w e in record { passes = q.passes; sound = q.sound }

    kind_kept : Passed z n m → n.kind ≤ 7 → Fine (Steps.by_kind z m n.client n (kind_of n.kind))
    unfolding kind_of state_fits
    kind_kept p l = go n.kind refl l (p.fitting l)
      where
        go : (x : ℕ) → n.kind ≡ x → x ≤ 7 → state_fits u n.server (kind_of x) ≡ true → Fine (Steps.by_kind z m n.client n (kind_of x))
        go zero e l f = begin_kept k j slots m S c (eqb-true (u phase) 0 f)
        go (suc zero) e l f =
            give_kept k j slots m S c n (eqb-true (u phase) 1 (and_both (eqb (u phase) 1) (eqb (u op_number) 0) f).0) (p.known_op e)
            words.key words.value words.server (λ o. (p.known_node e o, p.known_server e o)) (p.known_count e)
        go (suc (suc zero)) e l f = work_kept f
        go (suc (suc (suc zero))) e l f = commit_kept k j slots m S c (eqb-true (u phase) 1 (and_both (eqb (u phase) 1) (eqb (u op_number) 0) f).0)
        go (suc (suc (suc (suc zero)))) e l f =
            let q = unfinished u n.server prepared 2 f in
            prepare_kept k j slots al few m S L M G c (n.server, p.known_participant (omega (arith, e)) (omega (arith, e))) q.0 q.1 q.2
        go (suc (suc (suc (suc (suc zero))))) e l f =
            let q = unfinished u n.server applied 3 f in
            apply_kept k j slots al few m S L M G.shown c (n.server, p.known_participant (omega (arith, e)) (omega (arith, e))) q.0
        go (suc (suc (suc (suc (suc (suc zero)))))) e l f =
            let b = and_both (leb 1 (u phase)) (leb (u phase) 2) f in
            abort_kept k j slots m S c al few L M G.shown (either (u phase) (leb-true 1 (u phase) b.0) (leb-true (u phase) 2 b.1)) 6 []
        go (suc (suc (suc (suc (suc (suc (suc zero))))))) e l f = loss_kept k j slots al few m S c L M G.shown ((S.parts c).fields.within 0 (omega arith))
        go (suc (suc (suc (suc (suc (suc (suc (suc x)))))))) e l f = absurd (omega arith)

  -- a change of the servers
  changed_kept : Passed z n m → 8 ≤ n.kind → Fine (Steps.by_kind z m n.client n (kind_of n.kind))
  changed_kept p l =
      let x = change_of n.kind in
      subst (λ (y : Kind). Fine (Steps.by_kind z m n.client n y)) (sym (a_change n.kind l p.known_kind))
      (change_kept k j slots size al m S L M G x n.server (p.known_changed l) (p.suiting l) (λ e. p.untaken (removes n.kind l p.known_kind e)) (p.rising l) (p.quiet_now l))

  any_kept : Passed z n m → Fine (Steps.by_kind z m n.client n (kind_of n.kind))
  any_kept p = go (dec_le n.kind 7)
    where
      go : Dec (n.kind ≤ 7) → Fine (Steps.by_kind z m n.client n (kind_of n.kind))
      go (yes l) = kind_kept (p.known_client l) p l
      go (no l) = changed_kept p (omega arith)

  -- THE STEP
  pub step_kept : (room : ℕ) → Fine (Steps.step z n room m)
  unfolding Steps.step Steps.by_rule
  step_kept room =
      one_of Fine (Steps.lacks_room z n room m) _ _ (λ _. refused_kept 12 (λ e. absurd (omega (arith, e)))) (λ _.
      one_of Fine (eqb (refusal z n m) 0) _ _
      (λ q. any_kept (passed z n m (eqb-true (refusal z n m) 0 q)))
      (λ _. refused_kept (refusal z n m) (not_10 z n m)))
