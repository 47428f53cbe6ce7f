-- APPLIES ONE AFTER ANOTHER: each is refused or applied; they note nothing; and what is not due any more stays so.
use Rattle.std.specs.Prelude.{◌≡◌, Bool, ◌&&◌, ◌||◌, ◌⊎◌, ℕ, ◌<◌}
use Rattle.std.proofs.Math.Path.{refl, ap, subst}
use Rattle.std.proofs.Common.{sym, ◌∙◌, true≢false, inl, inr, arith}
use Rattle.std.proofs.Math.Bool.{true, false, cond, not}
use mathlib.Core.List.{List, [], ◌∷◌, ◌++◌}
use Rattle.std.proofs.Math.Decide.{ℕ_discrete}
use borrow.Author.Tests.{eq-eqb, lt-leb}
use Rattle.std.proofs.Math.Dec.{eqb}
use Rattle.base.proofs.Laws.Test.{bool_cases}
use Rattle.memory.specs.Bit.{bit}
use Rattle.layout.specs.Space.{changed}
use Rattle.layout.specs.Step.{and_then}
use Rattle.layout.proofs.Laws.Step.{changed_append}
use Rattle.plans.specs.Walk.{Every}
use Rattle.client.specs.Layout.{ClientWord, client_words, phase, participants, applied}
use Rattle.client.specs.Course.{noted}
use Rattle.client.specs.Life.{reset}
use Rattle.client.specs.Renew.{finish, renew_kept}
use Rattle.steps.specs.declared.sizes.Sizes.{Sizes}
use Rattle.steps.specs.declared.step.Step.{Step}
use Rattle.steps.specs.declared.step.Kind.{Kind}
use Rattle.steps.specs.declared.step.Kind.TheVariants.{Apply}
use Rattle.steps.specs.declared.outcome.Outcome.TheVariants.{Refused, Applied, Committed}
use Rattle.steps.specs.Whole.{Address, whole}
use Rattle.steps.proofs.Laws.Stores.{client_of}
use Rattle.steps.specs.Refusal.{first, state_fits, kind_of, refusal}
use Rattle.steps.specs.Steps.{Did, did, refuse, if_fit, in_client, applying, all_applied, applied_at, apply_fits, apply, by_kind, step, by_rule, lacks_room}
use Rattle.steps.specs.Run.{after}
use Rattle.steps.specs.Taken.{Taken, steps_of, LeadsBy, Leads}
use Rattle.demand.specs.Ledger.{Ledger, notes_decision, note, ledger_from}
use Rattle.demand.specs.Demand.{Some}
use Rattle.demand.proofs.Laws.Kept.{reset_phase}
use Rattle.demand.proofs.Laws.Servers.{both_client, both_other}
use Rattle.demand.proofs.Laws.Settled.{noted_done, noted_else}
use Rattle.demand.proofs.Laws.Applies.{applied_outcome}
use Rattle.demand.proofs.Laws.Turns.{one_of}

-- ---- a client's part after an apply at s
module _ (u : ClientWord → ℕ) (s : ℕ) where
  -- after the last one the transaction has ended
  ended_phase : changed client_words u (and_then client_words (noted applied s) finish u) phase ≡ 0
  unfolding and_then finish
  ended_phase =
      let v = changed client_words u (noted applied s u) in
      let w = changed client_words v (renew_kept v) in
      ap (λ (f : ClientWord → ℕ). f phase) (changed_append client_words (noted applied s u) (renew_kept v ++ reset 0 w) u ∙ changed_append client_words (renew_kept v) (reset 0 w) v)
      ∙ reset_phase 0 0 0 w 0

  ended_done : (t : ℕ) → state_fits (changed client_words u (and_then client_words (noted applied s) finish u)) t Apply ≡ false
  unfolding state_fits
  ended_done t =
      let v = changed client_words u (and_then client_words (noted applied s) finish u) in
      ap (λ (p : ℕ). eqb p 3 && (bit (v participants) t && not (bit (v applied) t))) ended_phase

  once_noted : (t : ℕ) → (state_fits u t Apply ≡ false) ⊎ (t ≡ s) → state_fits (changed client_words u (noted applied s u)) t Apply ≡ false
  once_noted t (inr e) = subst (λ (x : ℕ). state_fits (changed client_words u (noted applied s u)) x Apply ≡ false) (sym e) (noted_done u s)
  once_noted t (inl h) = go (ℕ_discrete t s)
    where
      go : Dec (t ≡ s) → state_fits (changed client_words u (noted applied s u)) t Apply ≡ false
      go (yes e) = subst (λ (x : ℕ). state_fits (changed client_words u (noted applied s u)) x Apply ≡ false) (sym e) (noted_done u s)
      go (no n) = noted_else u s t n ∙ h

-- ---- what an apply of client c at server s leaves
module _ (z : Sizes) (m : Address → ℕ) (c s : ℕ) where
  last_one : Did
  last_one = did Committed (applying z m c s ++ in_client z m c (and_then client_words (noted applied s) finish))

  one_more : Did
  one_more = did (Applied s) (applying z m c s ++ in_client z m c (noted applied s))

  abbrev left_of : Did → ℕ → ClientWord → ℕ
  left_of d = client_of (changed whole m d.stores)

  applied_own : (t : ℕ) → (state_fits (client_of m c) t Apply ≡ false) ⊎ (t ≡ s) → state_fits (left_of (applied_at z m c s) c) t Apply ≡ false
  unfolding applied_at last_one one_more
  applied_own t h =
      one_of (λ (d : Did). state_fits (left_of d c) t Apply ≡ false) (all_applied z m c s) last_one one_more
      (λ _. ap (λ (w : ClientWord → ℕ). state_fits w t Apply) (both_client m s c _ _) ∙ ended_done (client_of m c) s t)
      (λ _. ap (λ (w : ClientWord → ℕ). state_fits w t Apply) (both_client m s c _ _) ∙ once_noted (client_of m c) s t h)

  applied_else : (d : ℕ) → ¬ (d ≡ c) → left_of (applied_at z m c s) d ≡ client_of m d
  unfolding applied_at last_one one_more
  applied_else d n =
      one_of (λ (x : Did). left_of x d ≡ client_of m d) (all_applied z m c s) last_one one_more (λ _. both_other m s c _ _ d n) (λ _. both_other m s c _ _ d n)

  applied_stays : (d t : ℕ) → state_fits (client_of m d) t Apply ≡ false → state_fits (left_of (applied_at z m c s) d) t Apply ≡ false
  applied_stays d t h = go (ℕ_discrete d c)
    where
      go : Dec (d ≡ c) → state_fits (left_of (applied_at z m c s) d) t Apply ≡ false
      go (yes e) =
          subst (λ (x : ℕ). state_fits (left_of (applied_at z m c s) x) t Apply ≡ false) (sym e)
          (applied_own t (inl (subst (λ (x : ℕ). state_fits (client_of m x) t Apply ≡ false) e h)))
      go (no n) = ap (λ (w : ClientWord → ℕ). state_fits w t Apply) (applied_else d n) ∙ h

-- ---- an apply as a step
module _ (z : Sizes) (m : Address → ℕ) (n : Step) (five : n.kind ≡ 5) where
  abbrev u : ClientWord → ℕ
  u = client_of m n.client

  abbrev done : Did
  done = applied_at z m n.client n.server

  kind_is : kind_of n.kind ≡ Apply
  unfolding kind_of
  kind_is = rw five

  -- what comes of it where refusals 4 to 9 and 11 don't hold
  abbrev judged : Did
  judged = if_fit (apply_fits z m n.client n.server) done

  judged_is : by_kind z m n.client n (kind_of n.kind) ≡ judged
  unfolding apply
  judged_is = ap (λ (x : Kind). by_kind z m n.client n x) kind_is

  refused_or : (P : Did → Type 0) → ((x : ℕ) → P (refuse x)) → P done → P (by_rule z n m)
  unfolding by_rule
  refused_or P no_step yes_step =
      one_of P (eqb (refusal z n m) 0) _ _
      (λ _. subst P (sym judged_is) (one_of P (apply_fits z m n.client n.server) _ _ (λ _. yes_step) (λ _. no_step 10)))
      (λ _. no_step (refusal z n m))

  -- it notes nothing
  pub apply_notes : (L : Ledger) (out : List ℕ) → note L n out (by_rule z n m).outcome ≡ L
  apply_notes L out = refused_or (λ (d : Did). note L n out d.outcome ≡ L) (λ x. refl)
      (ap (note L n out) (applied_outcome z m n.client n.server) ∙ go (all_applied z m n.client n.server))
    where
      go : (b : Bool) → note L n out (cond b Committed (Applied n.server)) ≡ L
      go true = ap (λ (y : ℕ). cond (eqb y 3 || eqb y 4) (notes_decision L n.client) L) five
      go false = refl

  pub apply_stays : (d t : ℕ) → state_fits (client_of m d) t Apply ≡ false → state_fits (client_of (after z m n) d) t Apply ≡ false
  unfolding changed
  apply_stays d t h =
      refused_or (λ (x : Did). state_fits (client_of (changed whole m x.stores) d) t Apply ≡ false) (λ x. h) (applied_stays z m n.client n.server d t h)

  -- one that is due is applied, if what it reads is in range
  module _ (c : n.client < z.clients) (s : n.server < 8) (fit : state_fits u n.server Apply ≡ true) where
    pub due_passes : refusal z n m ≡ 0
    unfolding refusal first
    due_passes = rw (kind_is, fit, five, lt-leb z.clients n.client c, lt-leb 8 n.server s)

    step_is : by_rule z n m ≡ judged
    unfolding by_rule
    step_is =
        ap (λ (b : Bool). cond b (by_kind z m n.client n (kind_of n.kind)) (refuse (refusal z n m))) (eq-eqb (refusal z n m) 0 due_passes)
        ∙ judged_is

    pub due_applied : ¬ ((by_rule z n m).outcome ≡ Refused 10) → by_rule z n m ≡ done
    due_applied fine = step_is ∙ go (apply_fits z m n.client n.server) (λ e. fine (ap (λ (d : Did). d.outcome) step_is ∙ e))
      where
        go : (b : Bool) → ¬ ((if_fit b done).outcome ≡ Refused 10) → if_fit b done ≡ done
        go true f = refl
        go false f = absurd (f refl)

  pub apply_done : n.client < z.clients → n.server < 8 → ¬ ((by_rule z n m).outcome ≡ Refused 10) → state_fits (client_of (after z m n) n.client) n.server Apply ≡ false
  apply_done c s fine = go (bool_cases (state_fits u n.server Apply))
    where
      go : (state_fits u n.server Apply ≡ true) ⊎ (state_fits u n.server Apply ≡ false) → state_fits (client_of (after z m n) n.client) n.server Apply ≡ false
      go (inl f) =
          subst (λ (d : Did). state_fits (client_of (changed whole m d.stores) n.client) n.server Apply ≡ false) (sym (due_applied c s f fine))
          (applied_own z m n.client n.server n.server (inr refl))
      go (inr f) = apply_stays n.client n.server f

  -- an apply needs no room
  pub apply_roomy : (room : ℕ) → step z n room m ≡ by_rule z n m
  unfolding step lacks_room
  apply_roomy room = ap (λ (b : Bool). cond b (refuse 12) (by_rule z n m)) (none (eqb (refusal z n m) 0) (eqb n.kind 2) _ (ap (λ (x : ℕ). eqb x 2) five))
    where
      none : (a b c : Bool) → b ≡ false → (a && (b && c)) ≡ false
      none true false c e = refl
      none false b c e = refl
      none true true c e = absurd (true≢false e)

-- ---- a list of applies
abbrev pub Kind5 : Step → Type 0
Kind5 k = k.kind ≡ 5

module _ (z : Sizes) where
  roomy : (t : Taken) (m : Address → ℕ) → t.step.kind ≡ 5 → step z t.step t.room m ≡ by_rule z t.step m
  roomy t m five = apply_roomy z m t.step five t.room

  rest : (t : Taken) (ts : List Taken) (m m' : Address → ℕ) → Leads z m (t ∷ ts) m' → t.step.kind ≡ 5 → Leads z (after z m t.step) ts m'
  unfolding LeadsBy
  rest t ts m m' p five = subst (λ (d : Did). Leads z (changed whole m d.stores) ts m') (roomy t m five) p.3

  pub applies_note : (ts : List Taken) (m m' : Address → ℕ) (L : Ledger) → Leads z m ts m' → Every Kind5 (steps_of ts) → ledger_from L ts ≡ L
  unfolding LeadsBy Every ledger_from
  applies_note [] m m' L p five = refl
  applies_note (t ∷ ts) m m' L p five =
      ap (λ (x : Ledger). ledger_from x ts) (ap (note L t.step t.left) (p.1 ∙ ap (λ (d : Did). d.outcome) (roomy t m five.0)) ∙ apply_notes z m t.step five.0 L t.left)
      ∙ applies_note ts (after z m t.step) m' L (rest t ts m m' p five.0) five.1

  applies_stay : (ts : List Taken) (m m' : Address → ℕ) → Leads z m ts m' → Every Kind5 (steps_of ts) → (c s : ℕ) → state_fits (client_of m c) s Apply ≡ false → state_fits (client_of m' c) s Apply ≡ false
  unfolding LeadsBy Every
  applies_stay [] m m' p five c s h = subst (λ (u : Address → ℕ). state_fits (client_of u c) s Apply ≡ false) (sym p) h
  applies_stay (t ∷ ts) m m' p five c s h =
      applies_stay ts (after z m t.step) m' (rest t ts m m' p five.0) five.1 c s (apply_stays z m t.step five.0 c s h)

  -- what was taken is not due
  pub applies_done : (ts : List Taken) (m m' : Address → ℕ) → Leads z m ts m' → Every Kind5 (steps_of ts) → Every (λ (t : Taken). ¬ (t.outcome ≡ Refused 10)) ts → (c s : ℕ) → c < z.clients → s < 8
      → Some (λ (k : Step). (k.client ≡ c) × (k.server ≡ s)) (steps_of ts) → state_fits (client_of m' c) s Apply ≡ false
  unfolding LeadsBy Every Some
  applies_done [] m m' p five fine c s l r e = absurd e
  applies_done (t ∷ ts) m m' p five fine c s l r (inl e) =
      applies_stay ts (after z m t.step) m' (rest t ts m m' p five.0) five.1 c s
      (subst (λ (d : ℕ). state_fits (client_of (after z m t.step) d) s Apply ≡ false) e.0
      (subst (λ (x : ℕ). state_fits (client_of (after z m t.step) t.step.client) x Apply ≡ false) e.1
      (apply_done z m t.step five.0 (omega (arith, e.0)) (omega (arith, e.1)) (λ q. fine.0 (p.1 ∙ ap (λ (d : Did). d.outcome) (roomy t m five.0) ∙ q)))))
  applies_done (t ∷ ts) m m' p five fine c s l r (inr e) =
      applies_done ts (after z m t.step) m' (rest t ts m m' p five.0) five.1 fine.1 c s l r e
