-- A work step that lacks something: what it lacks is in neither set, and the copies in use before it become items.
use Rattle.std.specs.Prelude.{◌≡◌, Bool, cond, ◌&&◌, not, ℕ, ◌-◌, ◌≤◌, ltb, length}
use Rattle.std.proofs.Math.Path.{refl, ap, subst}
use Rattle.std.proofs.Common.{sym, ◌∙◌, true≢false, arith}
use Rattle.std.proofs.Math.Bool.{true, false}
use mathlib.Core.List.{List, [], ◌∷◌, ◌++◌}
use Rattle.std.proofs.Math.Option.{Option, none, some, none-ne-some, some-ne-none, some-injective}
use borrow.Author.Tests.{ne_eqb}
use Rattle.nodes.specs.Found.{Found}
use Rattle.std.specs.Prelude.{Some, None}
use Rattle.operations.specs.Object.{Obj, Ask, object, vector, fetched, Val, Ans}
use Rattle.operations.specs.Operation.{reading, all_fit?}
use Rattle.operations.specs.Path.{TreePlan}
use Rattle.client.specs.Have.{Look}
use Rattle.client.specs.declared.part.Set.TheVariants.{Reads, Writes}
use Rattle.client.specs.Layout.{ClientWord, reads_count}
use Rattle.client.specs.Record.{number, value_of, object_in_store}
use Rattle.client.specs.Sets.{find}
use Rattle.client.specs.Laws.Ranges.{client_fits}
use Rattle.client.specs.Run.{among}
use Rattle.client.specs.Have.{is_found, or_copied, or_read, source, look_fits, valued, have, unusable, broken}
use Rattle.client.specs.Answered.{entered}
use Rattle.client.specs.Work.{Worked, walked, worked}
use Rattle.demand.proofs.Laws.Numbers.{obj_of, obj_number}
use Rattle.demand.proofs.Laws.Shows.{T, InStore, SlotShown, CopiesShown}
use Rattle.demand.proofs.Laws.AtHand.{had}
use Rattle.demand.proofs.Laws.Ran.{Follows, with_used, all_used, run_follows}
use Rattle.demand.proofs.Laws.Used.{among_more, AtHand}
use Rattle.plans.specs.Walk as W
use Rattle.plans.proofs.Laws.Walk as WLaws
use Rattle.operations.specs.Object as O
use Rattle.protocol.specs.Machine as P
use Rattle.client.specs.Run as Run
use Rattle.client.specs.Work as Work

-- ---- the object that is fetched: the first one lacking
abbrev fetched_ask : Worked → Option Ask
fetched_ask Work.refused = none
fetched_ask (Work.fetches a) = some a
fetched_ask (Work.aborted y) = none
fetched_ask (Work.answers a w) = none

module _ (slots : ℕ) (u : ClientWord → ℕ) where
  -- the last questions fetch nothing
  no_fetch : (a : Ans) (w : O.Writes) → fetched_ask (Work.last_questions slots u a w) ≡ none
  no_fetch a w = go (not (all_fit? w w)) (ltb 48 (Work.writes_after u w)) (not (Work.versions_there u (entered w))) (Work.any_at_last u (entered w))
    where
      go : (p q r s : Bool) → fetched_ask (cond p (Work.aborted 3) (cond q (Work.aborted 4) (cond r Work.refused (cond s (Work.aborted 8) (Work.answers a w))))) ≡ none
      go true q r s = refl
      go false true r s = refl
      go false false true s = refl
      go false false false true = refl
      go false false false false = refl

  pub fetch_lacks : (a : Ask) → worked slots u ≡ Work.fetches a → ((walked slots u).how ≡ Run.lacks a) × (broken slots u a ≡ false)
  unfolding worked
  fetch_lacks a e = go (walked slots u).how refl (ap fetched_ask e)
    where
      go : (h : Run.End) → (walked slots u).how ≡ h → fetched_ask (Work.judge slots u h) ≡ some a → ((walked slots u).how ≡ Run.lacks a) × (broken slots u a ≡ false)
      go (Run.aborts y) p q = absurd (none-ne-some a q)
      go (Run.gives b w) p q = absurd (none-ne-some a (sym (no_fetch b w) ∙ q))
      go (Run.lacks b) p q = by (broken slots u b) refl q
        where
          by : (t : Bool) → broken slots u b ≡ t → fetched_ask (cond t Work.refused (Work.fetches b)) ≡ some a → ((walked slots u).how ≡ Run.lacks a) × (broken slots u a ≡ false)
          by true r q = absurd (none-ne-some a q)
          by false r q = let s = some-injective b a q in (p ∙ ap Run.lacks s, subst (λ (x : Ask). broken slots u x ≡ false) s r)

  -- the plan that is walked, and what it used
  abbrev pub plan : TreePlan
  plan = reading slots (Work.waiting u)

  abbrev pub asked : List Ask
  asked = W.used plan (have slots u)

  follows : (a : Ask) → (walked slots u).how ≡ Run.lacks a
      → Follows (WLaws.walk plan (have slots u)) (all_used (Work.new u) asked []) [] (96 - u reads_count) (Run.lacks a) (walked slots u).used
  unfolding walked
  follows a e =
      subst (λ (h : Run.End). Follows (WLaws.walk plan (have slots u)) (all_used (Work.new u) asked []) [] (96 - u reads_count) h (walked slots u).used) e
      (run_follows (have slots u) (Work.new u) (96 - u reads_count) plan [])

  pub lacking_walk : (a : Ask) → (walked slots u).how ≡ Run.lacks a → WLaws.walk plan (have slots u) ≡ WLaws.lacks a
  lacking_walk a e = (follows a e).0

  pub lacking : (a : Ask) → (walked slots u).how ≡ Run.lacks a
      → (have slots u a ≡ none) × ((walked slots u).used ≡ all_used (Work.new u) asked []) × (length (walked slots u).used ≤ 96 - u reads_count)
  lacking a e = let g = follows a e in (WLaws.lacks_none plan (have slots u) a g.0, g.1, g.2 (omega arith))

-- ---- an object that is lacking
pub record Lacks (slots : ℕ) (u : ClientWord → ℕ) (o : Obj) : Type 0 where
  pub inside : object_in_store slots o ≡ true
  pub unwritten : find u Writes (number o) ≡ None
  pub unread : find u Reads (number o) ≡ None

pub lacks_object : (slots : ℕ) (u : ClientWord → ℕ) (o : Obj) → have slots u (object o) ≡ none → broken slots u (object o) ≡ false → Lacks slots u o
unfolding have broken source
lacks_object slots u o h b = in_store? (object_in_store slots o) refl h b
  where
    l : Look
    l = source u (number o)

    not_found : (x t : Bool) → cond (x && t) (some (value_of o l.node)) none ≡ none → (x && not t) ≡ false → x ≡ false
    not_found false t h b = refl
    not_found true true h b = absurd (some-ne-none (value_of o l.node) h)
    not_found true false h b = absurd (true≢false b)

    sets : (w : Found) → find u Writes (number o) ≡ w → (r : Found) → find u Reads (number o) ≡ r → is_found (or_read u (number o) w).how ≡ false
        → (find u Writes (number o) ≡ None) × (find u Reads (number o) ≡ None)
    sets (Some i) p r q e = absurd (true≢false e)
    sets None p None q e = (p, q)
    sets None p (Some i) q e = absurd (true≢false (sym (ap (λ (f : Found). is_found (or_copied u (number o) f).how) q) ∙ e))

    in_store? : (s : Bool) → object_in_store slots o ≡ s → cond s (valued slots u o l) none ≡ none → cond s (unusable slots u (number o) l) true ≡ false → Lacks slots u o
    in_store? false e h b = absurd (true≢false b)
    in_store? true e h b =
        let p = sets (find u Writes (number o)) refl (find u Reads (number o)) refl (not_found (is_found l.how) (look_fits slots u (number o) l) h b) in
        record { inside = e; unwritten = p.0; unread = p.1 }

module _ (k j slots : ℕ) (al : slots ≤ 1024) (u : ClientWord → ℕ) (fit : client_fits slots u ≡ true) (y : P.Slot (T k j slots)) (shown : SlotShown k j slots u y) (f : Obj → Option (P.Copy (T k j slots))) (copies : CopiesShown k j slots u f) (o : Obj) (hi : InStore k j slots o) (lack : have slots u (object o) ≡ none) where
  -- it is none of those at hand
  apart : (q : Obj) (v : Val) → have slots u (object q) ≡ some v → ¬ (number q ≡ number o)
  apart q v h e =
      let inside = (had k j slots al u f copies fit y shown q v h).in_store in
      let same : q ≡ o = sym (obj_number slots al q inside) ∙ ap obj_of e ∙ obj_number slots al o hi in
      some-ne-none v (sym h ∙ ap (λ (x : Obj). have slots u (object x)) same ∙ lack)

  pub unused : (qs : List Ask) → AtHand k j slots al u fit y shown f copies qs → (us : List ℕ) → among (number o) us ≡ false
      → among (number o) (all_used (Work.new u) qs us) ≡ false
  unfolding all_used with_used W.Every
  unused [] h us e = e
  unused (vector s ∷ qs) h us e = unused qs h.1 us e
  unused (fetched s ∷ qs) h us e = unused qs h.1 us e
  unused (object q ∷ qs) h us e = unused qs h.1 (with_used (Work.new u) us (object q)) (go (Work.new u (number q)) (among (number q) us))
    where
      go : (a b : Bool) → among (number o) (cond a (cond b us (us ++ (number q ∷ []))) us) ≡ false
      go false b = e
      go true true = e
      go true false = among_more (number o) (number q) us ∙ rw (e, ne_eqb (number q) (number o) (apart q h.0.0 h.0.1)) refl
