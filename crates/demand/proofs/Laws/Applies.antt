-- APPLY as a step: what it stores is applied, and the last one ends the transaction.
use Rattle.std.specs.Prelude.{◌≡◌, true, false, cond, ◌&&◌, ◌||◌, leb, ltb}
use Rattle.std.proofs.Math.Path.{refl, ap, ap₂, subst, fun_ext}
use Rattle.std.proofs.Common.{sym, ◌∙◌, arith}
use Rattle.std.proofs.Math.Bool.{Bool, not}
use Rattle.std.proofs.lemmas.Bool.{false≢true}
use mathlib.Core.List.{List, ◌++◌, append_assoc}
use Prim.Native.Nat.{ℕ, suc, ◌≤◌, Fin}
use Rattle.std.proofs.Math.Dec.{eqb}
use Rattle.base.specs.Test.{and_both}
use Rattle.memory.specs.Bit.{bit}
use Rattle.layout.specs.Space.{Put, changed}
use Rattle.layout.specs.Step.{and_then}
use Rattle.layout.proofs.Laws.Step.{changed_append}
use Rattle.layout.specs.Part.{over}
use Rattle.nodes.specs.Found.{Found}
use Rattle.std.specs.Prelude.{Some, None}
use Rattle.client.specs.declared.part.Set.TheVariants.{Reads, Writes}
use Rattle.client.specs.Layout.{ClientWord, client_words, phase, participants, applied, lost}
use Rattle.client.specs.Record.{last_version, whole_in_range}
use Rattle.client.specs.Sets.{count, record_at, number_at, find}
use Rattle.client.specs.Items.{all_below, inner}
use Rattle.client.specs.Fits.{young, servers_fit, numbers_fit, fit_to_unlock, writes_fit, inner_renewal_fits, renewal_fits, fit_to_renew, fit_to_apply}
use Rattle.client.specs.Drops.{version_of}
use Rattle.client.specs.Renew.{finish}
use Rattle.client.specs.Course.{noted}
use Rattle.steps.specs.declared.sizes.Sizes.{Sizes}
use Rattle.steps.specs.Whole.{Address, client, whole}
use Rattle.steps.proofs.Laws.Stores.{client_of}
use Rattle.steps.specs.Steps.{Did, did, in_client, covers, applying, all_applied, applied_at}
use Rattle.steps.specs.declared.outcome.Outcome.TheVariants.{Applied, Committed}
use Rattle.demand.specs.Ledger.{Ledger}
use Rattle.demand.proofs.Laws.Frame.{last, read_after, Only}
use Rattle.demand.proofs.Laws.Shows.{T}
use Rattle.demand.proofs.Laws.Slots.{SameSets, count_frame, number_frame, same_read, record_frame}
use Rattle.demand.proofs.Laws.Course.{else_same}
use Rattle.demand.proofs.Laws.Held.{all_at, every_below}
use Rattle.demand.proofs.Laws.Servers.{both_client}
use Rattle.demand.proofs.Laws.Turns.{store, Good, Explained, turns_good}
use Rattle.demand.proofs.Laws.Renewed.{renews_young}
use Rattle.demand.proofs.Laws.Ended.{finish_turns}
use Rattle.demand.proofs.Laws.Due.{m₁, M₁, apply_good}
use Rattle.protocol.specs.Machine as P
use Rattle.layout.proofs.Laws.Part.{over_append}

-- ---- versions of what is written, as the sets have them
module _ (u v : ClientWord → ℕ) (S : SameSets u v) where
  version_frame : (f : Found) → version_of v f ≡ version_of u f
  version_frame (Some i) = ap (λ r. r.version) (record_frame u v Reads i (S.items_read i))
  version_frame None = refl

  version_same : (x : ℕ) → version_of v (find v Reads x) ≡ version_of u (find u Reads x)
  version_same x = ap (version_of v) (same_read u v 0 0 0 S x) ∙ version_frame (find u Reads x)

  pub young_kept : v lost ≡ u lost → renews_young u ≡ true → renews_young v ≡ true
  unfolding renews_young young
  young_kept l h =
      ap₂ (λ (x : ℕ) (b : Bool). eqb x 1 || b) l (ap₂ all_below (count_frame u v Writes S.reads S.writes) (fun_ext same)) ∙ h
    where
      one : (ClientWord → ℕ) → ℕ → Bool
      one m i = not (inner (number_at m Writes i) (record_at m Writes i)) || young m (number_at m Writes i)

      same : (i : ℕ) → one v i ≡ one u i
      same i =
          let n = number_frame 0 0 0 u v S Writes i (S.items_written i 0) in
          let r = record_frame u v Writes i (S.items_written i) in
          let old = ap (λ (x : ℕ). version_of v (find v Reads x)) n ∙ version_same (number_at u Writes i) in
          λ t. not (inner (n t) (r t)) || (ltb 8192 (n t) || ltb (old t) last_version)

-- what an apply that ends the transaction reads of them is in range
pub fit_young : (slots : ℕ) (u : ClientWord → ℕ) (s : ℕ) → fit_to_apply slots u s true ≡ true → renews_young u ≡ true
unfolding fit_to_apply fit_to_renew renews_young renewal_fits inner_renewal_fits young
fit_young slots u s h = go (eqb (u lost) 1) renews
  where
    renews : (eqb (u lost) 1 || all_below (count u Writes) (renewal_fits slots u)) ≡ true
    renews =
        (and_both (leb (u lost) 1) (eqb (u lost) 1 || all_below (count u Writes) (renewal_fits slots u))
        (and_both (writes_fit slots u s) (fit_to_renew slots u) (and_both (fit_to_unlock slots u) (writes_fit slots u s && fit_to_renew slots u)
        (and_both (servers_fit u applied && numbers_fit slots u Reads) (fit_to_unlock slots u && (writes_fit slots u s && fit_to_renew slots u)) h).1).1).1).1

    one : (i : ℕ) → renewal_fits slots u i ≡ true → (not (inner (number_at u Writes i) (record_at u Writes i)) || young u (number_at u Writes i)) ≡ true
    one i = by (ltb 8192 (number_at u Writes i)) (inner (number_at u Writes i) (record_at u Writes i)) (whole_in_range slots (number_at u Writes i) (record_at u Writes i)) _ _
      where
        by : (f b w y g : Bool) → cond f g (not b || (w && (f || y))) ≡ true → (not b || (f || y)) ≡ true
        by f false w y g h = refl
        by true true w y g h = refl
        by false true true y g h = h
        by false true false y g h = absurd (false≢true h)

    go : (b : Bool) → (b || all_below (count u Writes) (renewal_fits slots u)) ≡ true
        → (b || all_below (count u Writes) (λ i. not (inner (number_at u Writes i) (record_at u Writes i)) || young u (number_at u Writes i))) ≡ true
    go true h = refl
    go false h = every_below (count u Writes) _ (λ i l. one i (all_at (count u Writes) (renewal_fits slots u) h i l))

-- what comes of an apply
pub applied_outcome : (z : Sizes) (m : Address → ℕ) (c s : ℕ) → (applied_at z m c s).outcome ≡ cond (all_applied z m c s) Committed (Applied s)
unfolding applied_at
applied_outcome z m c s = go (all_applied z m c s) _ _
  where
    go : (b : Bool) (ps qs : List (Put Address)) → (cond b (did Committed ps) (did (Applied s) qs)).outcome ≡ cond b Committed (Applied s)
    go true ps qs = refl
    go false ps qs = refl

module _ (k j slots : ℕ) where
  -- the stores of the end, after those of the last apply
  pub end_stores : (m : Address → ℕ) (c s : ℕ)
      → let z = store k j slots in
      let u = client_of m c in
      changed whole m (applying z m c s ++ in_client z m c (and_then client_words (noted applied s) finish))
      ≡ changed whole (changed whole m (applying z m c s ++ in_client z m c (noted applied s))) (over (client c) (finish (changed client_words u (noted applied s u))))
  unfolding and_then
  end_stores m c s =
      let u = client_of m c in
      let v = changed client_words u (noted applied s u) in
      let ps = applying (store k j slots) m c s in
      let qs = over (client c) (noted applied s u) in
      ap (λ (l : List (Put Address)). changed whole m (ps ++ l)) (over_append (client c) (noted applied s u) (finish v))
      ∙ ap (changed whole m) (sym (append_assoc ps qs (over (client c) (finish v)))) ∙ changed_append whole (ps ++ qs) (over (client c) (finish v)) m

  module _ (al : slots ≤ 1024) (few : suc j ≤ 16) (m : Address → ℕ) (L : Ledger) (M : P.Machine (T k j slots)) (c : Fin (suc j)) (G : Good k j slots m L M) (s : Fin 8) (now : client_of m c.0 phase ≡ 3) (part : bit (client_of m c.0 participants) s.0 ≡ true) (new : bit (client_of m c.0 applied) s.0 ≡ false) (early : all_applied (store k j slots) m c.0 s.0 ≡ true → renews_young (client_of m c.0) ≡ true) where
    abbrev u : ClientWord → ℕ
    u = client_of m c.0

    abbrev v : ClientWord → ℕ
    v = changed client_words u (noted applied s.0 u)

    abbrev n₁ : Address → ℕ
    n₁ = m₁ k j slots al few m L M c G s now part new

    own : client_of n₁ c.0 ≡ v
    own = both_client m s.0 c.0 _ _

    good₁ : Good k j slots n₁ L (M₁ k j slots al few m L M c G s now part new)
    good₁ = apply_good k j slots al few m L M c G s now part new

    same_sets : SameSets u (client_of n₁ c.0)
    unfolding noted Only
    same_sets = subst (SameSets u) (sym own) (else_same (noted applied s.0 u) u (refl, tt)).sets

    word : (a : ClientWord) → client_of n₁ c.0 a ≡ last client_words (noted applied s.0 u) a (u a)
    word a = ap (λ (f : ClientWord → ℕ). f a) own ∙ read_after client_words (noted applied s.0 u) u a

    -- "The last apply ends the transaction and renews its copies": the end, on what the apply left
    ends : all_applied (store k j slots) m c.0 s.0 ≡ true → Explained k j slots (changed whole n₁ (over (client c.0) (finish (client_of n₁ c.0)))) L
    unfolding noted
    ends all =
        let g : client_of n₁ c.0 phase ≡ 3 = word phase ∙ now in
        turns_good k j slots n₁ _ L L _ c good₁
        (finish_turns k j slots al n₁ L _ c good₁.shown (good₁.decided_fits c (omega (arith, g))) g
        (ap₂ (covers 8) (word participants) (word applied) ∙ all)
        (young_kept u (client_of n₁ c.0) same_sets (word lost) (early all)))

    stores_end : changed whole m (applying (store k j slots) m c.0 s.0 ++ in_client (store k j slots) m c.0 (and_then client_words (noted applied s.0) finish))
        ≡ changed whole n₁ (over (client c.0) (finish (client_of n₁ c.0)))
    stores_end = end_stores m c.0 s.0 ∙ ap (λ (w : ClientWord → ℕ). changed whole n₁ (over (client c.0) (finish w))) (sym own)

    pub apply_explained : Explained k j slots (changed whole m (applied_at (store k j slots) m c.0 s.0).stores) L
    unfolding applied_at
    apply_explained = go (all_applied (store k j slots) m c.0 s.0) refl
      where
        last_one : Did
        last_one = did Committed (applying (store k j slots) m c.0 s.0 ++ in_client (store k j slots) m c.0 (and_then client_words (noted applied s.0) finish))

        one_more : Did
        one_more = did (Applied s.0) (applying (store k j slots) m c.0 s.0 ++ in_client (store k j slots) m c.0 (noted applied s.0))

        go : (b : Bool) → all_applied (store k j slots) m c.0 s.0 ≡ b → Explained k j slots (changed whole m (cond b last_one one_more).stores) L
        go true e = subst (λ (f : Address → ℕ). Explained k j slots f L) (sym stores_end) (ends e)
        go false e = record { machine = M₁ k j slots al few m L M c G s now part new; good = good₁ }
