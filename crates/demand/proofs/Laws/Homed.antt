-- At the commit, where all servers take part, the homes of what was read are among them; or the transaction is lost.
use Rattle.std.specs.Prelude.{◌≡◌, refl, Bool, false, ◌&&◌, ◌||◌, ◌⊎◌, eqb, ltb}
use Rattle.std.proofs.Math.Path.{ap, subst}
use Rattle.std.proofs.Common.{sym, ◌∙◌, inl, inr, eq-eqb}
use Rattle.std.proofs.Math.Bool.{true, not, true≢false}
use Rattle.std.proofs.Math.Option.{some}
use Prim.Native.Nat.{ℕ, ◌≤◌, Fin}
use Rattle.base.specs.Test.{not_both, and_both, yes?}
use Rattle.base.proofs.Laws.Test.{bool_cases, or_left, or_right, of_no}
use Rattle.nodes.specs.States.{present, states_fit}
use Rattle.operations.specs.Object.{Obj, meta}
use Rattle.operations.proofs.Laws.Object.{ObjDiscrete, inner}
use Rattle.protocol.specs.Lists.{Among, all, any}
use Rattle.protocol.proofs.Laws.Lists.{all_in, any_in, any_among}
use Rattle.protocol.proofs.Laws.Items.{find_item}
use Rattle.client.specs.Layout.{ClientWord}
use Rattle.client.specs.Fits.{servers_known}
use Rattle.client.specs.Laws.Ranges.{client_fits}
use Rattle.demand.proofs.Laws.Store.{home, fins, fins_all}
use Rattle.demand.proofs.Laws.Housed.{HomeThere, Lost}
use Rattle.demand.proofs.Laws.Shows.{T, SlotShown}
use Rattle.demand.proofs.Laws.Members.{member, fins_rising, first_least}
use Rattle.demand.proofs.Laws.Committed.{both_true, all_same, participants_same, few_parts}
use Rattle.protocol.specs.Machine as P
use Rattle.protocol.specs.Moves as Mv
use Rattle.client.specs.Participants as K
use Rattle.demand.proofs.Laws.Store as Store

module _ (k j slots : ℕ) (al : slots ≤ 1024) (u : ClientWord → ℕ) (fit : client_fits slots u ≡ true) (y : P.Slot (T k j slots)) (h : SlotShown k j slots u y) (known : servers_known u ≡ true) where
  abbrev parts : Fin 8 → Bool
  parts = Mv.participants (T k j slots) y.items

  -- the three that a commit asks for: not all servers take part; or every home is there; or the transaction is lost
  abbrev all_part : Bool
  all_part = any (Mv.for_all (T k j slots)) y.items

  abbrev all_home : Bool
  all_home = all (λ i. inner i.obj i.old || Mv.home_there (T k j slots) y.items i) y.items

  abbrev lost : Bool
  lost = any (Mv.homeless (T k j slots) y.items) y.items && (P.test (T k j slots) (λ i. true) y.items meta && parts (Mv.first_of (T k j slots) parts (fins 8)))

  -- a node whose home isn't there
  lost_any : Lost k j slots y.items → any (Mv.homeless (T k j slots) y.items) y.items ≡ true
  lost_any l =
      let f = find_item (T k j slots) y.items l.object l.item l.found in
      let q : P.find (T k j slots) y.items l.item.obj ≡ some l.item = ap (P.find (T k j slots) y.items) f.1 ∙ l.found in
      let a : inner l.item.obj l.item.old ≡ true = ap (λ (o : Obj). inner o l.item.old) f.1 ∙ l.inner_read in
      let b : yes? (ObjDiscrete l.item.obj meta) ≡ false = of_no (ObjDiscrete l.item.obj meta) (λ e. l.other (sym f.1 ∙ e)) in
      let c : Store.present (Mv.meta_read (T k j slots) y.items) (home k j slots l.item.obj) ≡ false
      = ap (λ (o : Obj). Store.present (Mv.meta_read (T k j slots) y.items) (home k j slots o)) f.1 ∙ l.gone in
      any_among (Mv.homeless (T k j slots) y.items) y.items l.item (rw (q, a, b, c) refl) f.0

  -- some server is there by the metadata read
  some_part : K.all_take_part u ≡ true → (s : Fin 8) × (parts s ≡ true)
  unfolding servers_known states_fit K.participants_of
  some_part e =
      let fits : states_fit (K.states_read u) ≡ true = subst (λ (b : Bool). (not b || states_fit (K.states_read u)) ≡ true) e known in
      let some_there = (and_both (ltb (K.states_read u) 65536) (not (eqb (present (K.states_read u)) 0)) fits).1 in
      let i = member 8 (K.participants_of u) (few_parts k j slots al u fit y h)
      (λ z. true≢false (sym some_there ∙ ap not (eq-eqb (present (K.states_read u)) 0 (sym (rw e) ∙ z)))) in
      ((i.0, i.1), participants_same k j slots al u fit y h known (i.0, i.1) ∙ i.2)

  pub homed_now : Mv.homed (T k j slots) y.items ≡ true
  homed_now = go (bool_cases (any (Mv.for_all (T k j slots)) y.items))
    where
      all_there : any (Mv.homeless (T k j slots) y.items) y.items ≡ false → (i : P.Item (T k j slots)) → Among i y.items
          → (inner i.obj i.old || Mv.home_there (T k j slots) y.items i) ≡ true
      all_there n i a = by (bool_cases (inner i.obj i.old))
        where
          there : HomeThere k j slots y.items i.obj ⊎ Lost k j slots y.items → Mv.home_there (T k j slots) y.items i ≡ true
          there (inl e) = e
          there (inr l) = absurd (not_both (lost_any l) n)

          by : (inner i.obj i.old ≡ true) ⊎ (inner i.obj i.old ≡ false) → (inner i.obj i.old || Mv.home_there (T k j slots) y.items i) ≡ true
          by (inl e) = or_left (inner i.obj i.old) _ e
          by (inr e) = or_right (inner i.obj i.old) _ (there (h.housed.at_home i.obj i (h.unique i a) e))

      by_lost : any (Mv.for_all (T k j slots)) y.items ≡ true → (any (Mv.homeless (T k j slots) y.items) y.items ≡ true) ⊎ (any (Mv.homeless (T k j slots) y.items) y.items ≡ false)
          → Mv.homed (T k j slots) y.items ≡ true
      by_lost a (inr n) = or_right (not all_part) (all_home || lost) (or_left all_home lost (all_in (λ i. inner i.obj i.old || Mv.home_there (T k j slots) y.items i) y.items (all_there n)))
      by_lost a (inl l) =
          let i = any_in (Mv.for_all (T k j slots)) y.items a in
          let x = h.housed.knows i.0.obj i.0 (h.unique i.0 i.1) in
          let s = some_part (sym (all_same k j slots al u fit y h) ∙ a) in
          let f = (first_least k j slots parts (fins 8) (fins_rising 8) s.0 (fins_all 8 s.0) s.1).0 in
          or_right (not all_part) (all_home || lost) (or_right all_home lost (both_true _ _ l (both_true _ _ (ap (P.says (T k j slots) (λ i. true) false) x.1) f)))

      go : (any (Mv.for_all (T k j slots)) y.items ≡ true) ⊎ (any (Mv.for_all (T k j slots)) y.items ≡ false) → Mv.homed (T k j slots) y.items ≡ true
      go (inl a) = by_lost a (bool_cases (any (Mv.homeless (T k j slots) y.items) y.items))
      go (inr n) = or_left (not all_part) (all_home || lost) (ap not n)
