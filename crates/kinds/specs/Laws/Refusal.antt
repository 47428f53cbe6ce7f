-- Laws of the refusals' code: a row of the table at a time, in order.
use Rattle.std.specs.Prelude.{◌≡◌, Bool, true, cond, ◌&&◌, ◌||◌, not, List, eqb, leb, ltb}
use Rattle.std.proofs.Math.Path.{refl, sym, subst}
use Rattle.std.proofs.Common.{ap, ◌∙◌}
use Rattle.std.proofs.Math.Bool.{false}
use Prim.Native.Nat.{ℕ, zero, suc, ◌*◌, ◌/◌, ◌≤◌, ◌<◌}
use native.Mathlib.Omega.{arith}
use borrow.Author.Tests.{eq-eqb, ne_eqb, lt-ltb, le-ltb, le-leb, lt-leb, leb-false, ltb-false, not-true, not-false}
use Rattle.memory.specs.Bit.{bit}
use Rattle.client.specs.Layout.{ClientWord, field, phase, op_number, participants}
use Rattle.client.specs.Record.{in_store}
use Rattle.steps.specs.declared.sizes.Sizes.{Sizes}
use Rattle.steps.proofs.Laws.Refused.{some_number}
use Rattle.steps.specs.declared.step.Step.{Step}
use Rattle.steps.specs.declared.step.Kind.{Kind}
use Rattle.steps.specs.declared.step.Kind.TheVariants.{Begin, Give, Work, Commit, Prepare, Apply, GiveUp, Lost, Servers, Unknown}
use Rattle.steps.specs.declared.step.ServerChange.{ServerChange}
use Rattle.steps.specs.declared.step.ServerChange.TheVariants.{Add, Close, Remove}
use Rattle.steps.specs.Servers.{change_of, state_suits, any_taken, version_ends, quiet}
use Rattle.steps.specs.Whole.{Address, words_for, length_for}
use Rattle.steps.specs.Refusal.{between, allowed?, first, kind_of, open_refusal, refusal, state_fits}
use Rattle.kinds.specs.Parts.{StoreIn, stored_in}
use Rattle.kinds.specs.Laws.Parts.{are_allowed}
use Rattle.kinds.specs.Judge.{of_client}
use Rattle.kinds.specs.Refusal.{first_refusal, server_refusal, node_refusal, count_refusal, give_refusal, field_refusal, known_refusal, left, due, fitting, unfit, taken_yet, change_refusal, Sited}

pub ruleset tests = (eq-eqb, ne_eqb, lt-ltb, le-ltb, le-leb, lt-leb)

-- ---- 1 to 3
long_room : (z : Sizes) (bytes : ℕ) → length_for z ≤ bytes → words_for z ≤ bytes / 8
unfolding length_for
long_room z bytes l = omega arith

module _ (bytes : ℕ) (z : Sizes) where
  pub too_short : bytes < 64 → 1 ≡ open_refusal bytes z
  unfolding open_refusal first
  too_short h = sym (rw (lt-ltb bytes 64 h))

  module _ (b : Bool) (l : 64 ≤ bytes) (e : b ≡ allowed? z) where
    pub not_allowed : not b ≡ true → 2 ≡ open_refusal bytes z
    unfolding open_refusal first
    not_allowed t = sym (rw (le-ltb bytes 64 l, ← e, t))

    module _ (n : ℕ) (t : not b ≡ false) (q : n ≡ words_for z) where
      pub shorter : bytes < 8 * n → 3 ≡ open_refusal bytes z
      unfolding open_refusal first length_for
      shorter h = sym (rw (le-ltb bytes 64 l, ← e, t, ← q, lt-ltb bytes (8 * n) h))

      pub long_enough : 8 * n ≤ bytes → 0 ≡ open_refusal bytes z
      unfolding open_refusal first length_for
      long_enough h = sym (rw (le-ltb bytes 64 l, ← e, t, ← q, le-ltb bytes (8 * n) h))

-- where none holds, there is a store
pub none_holds : (bytes : ℕ) (z : Sizes) → 0 ≡ open_refusal bytes z → StoreIn z bytes
unfolding open_refusal first
none_holds bytes z e = go (ltb bytes 64) (allowed? z) (ltb bytes (length_for z)) refl refl (sym e)
  where
    go : (a b c : Bool) → b ≡ allowed? z → c ≡ ltb bytes (length_for z) → ◌≡◌ {A = ℕ} (cond a 1 (cond (not b) 2 (cond c 3 0))) 0 → StoreIn z bytes
    go true b c p t h = absurd (omega arith)
    go false false c p t h = absurd (omega arith)
    go false true true p t h = absurd (omega arith)
    go false true false p t h =
        let l : length_for z ≤ bytes = ltb-false bytes (length_for z) (sym t) in
        record { allowed = are_allowed z true p refl; room = long_room z bytes l }

pub ruleset memory_exits = (too_short, not_allowed, shorter, long_enough)

-- ---- kinds
fits_fitting : (m : ClientWord → ℕ) (s : ℕ) (k : Kind) → fitting k (m phase) (m op_number) (due m s k) ≡ state_fits m s k
unfolding state_fits fitting due left
fits_fitting m s Begin = refl
fits_fitting m s Give = refl
fits_fitting m s Work = refl
fits_fitting m s Commit = refl
fits_fitting m s Prepare = refl
fits_fitting m s Apply = refl
fits_fitting m s GiveUp = refl
fits_fitting m s Lost = refl
fits_fitting m s (Servers x) = refl
fits_fitting m s Unknown = refl

pub fits_by : (m : ClientWord → ℕ) (s p o : ℕ) (k : Kind) (d r : Bool) → p ≡ m phase → o ≡ m op_number → d ≡ due m s k → r ≡ fitting k p o d → r ≡ state_fits m s k
fits_by m s p o k d r ep eo ed h = h ∙ rw (ep, eo, ed) (fits_fitting m s k)

pub kind_fitting : (k k' : Kind) (p o : ℕ) (d r : Bool) → k ≡ k' → r ≡ fitting k' p o d → r ≡ fitting k p o d
kind_fitting k k' p o d r e h = rw e h

pub kind_due : (m : ClientWord → ℕ) (s : ℕ) (k k' : Kind) (r : Bool) → k ≡ k' → r ≡ due m s k' → r ≡ due m s k
kind_due m s k k' r e h = rw e h

module _ (m : ClientWord → ℕ) (f s p : ℕ) (b : Bool) (ep : p ≡ m participants) (eb : b ≡ bit p s) where
  pub no_participant : b ≡ false → false ≡ left m (field f) s
  unfolding left
  no_participant t = sym (rw (← ep, ← eb, t))

  pub by_done : (d : ℕ) (c : Bool) → b ≡ true → d ≡ m (field f) → c ≡ bit d s → not c ≡ left m (field f) s
  unfolding left
  by_done d c t ed ec = sym (rw (← ep, ← eb, t, ← ed, ← ec))

module _ (k : Kind) (s : ℕ) (h : Sited k s) where
  pub prepare_sited : k ≡ Prepare → s < 8
  unfolding Sited
  prepare_sited e = subst (λ (x : Kind). Sited x s) e h

  pub apply_sited : k ≡ Apply → s < 8
  unfolding Sited
  apply_sited e = subst (λ (x : Kind). Sited x s) e h

-- what the client's part holds is what the memory has of the client
pub client_unfit : (z : Sizes) (k : Step) (w : List ℕ) (i : Kind) (m : ClientWord → ℕ) (t : Bool) → m ≡ of_client z w k.client → t ≡ state_fits m k.server i → not t ≡ unfit z k i w
unfolding unfit
client_unfit z k w i m t e q = ap not (q ∙ ap (λ (m : ClientWord → ℕ). state_fits m k.server i) e)

-- ---- 6 to 8
pub some_first : (r a b : ℕ) → r ≡ a → (r ≡ 0 → ⊥) → r ≡ first_refusal a b
some_first r a b e d = rw (← e, ne_eqb r 0 d) refl

pub none_first : (r a b : ℕ) → 0 ≡ a → r ≡ b → r ≡ first_refusal a b
none_first r a b e h = h ∙ rw (← e) refl

within_servers : (s : ℕ) → server_refusal s ≡ 0 → s < 8
unfolding server_refusal
within_servers s h = go (leb 8 s) refl h
  where
    go : (b : Bool) → leb 8 s ≡ b → ◌≡◌ {A = ℕ} (cond b 7 0) 0 → s < 8
    go true p h = absurd (omega arith)
    go false p h = leb-false 8 s p

pub server_out : (n : ℕ) → 8 ≤ n → 7 ≡ server_refusal n
unfolding server_refusal
server_out n h = sym (rw (le-leb _ _ h))

pub server_in : (n : ℕ) → n < 8 → 0 ≡ server_refusal n
unfolding server_refusal
server_in n h = sym (rw (lt-leb _ _ h))

module _ (z : Sizes) (n : ℕ) where
  module _ (b : Bool) (e : b ≡ in_store z.slots n) where
    pub node_in : b ≡ true → 0 ≡ node_refusal z n
    unfolding node_refusal
    node_in t = sym (rw (← e, t))

    pub node_out : b ≡ false → 8 ≡ node_refusal z n
    unfolding node_refusal
    node_out t = sym (rw (← e, t))

module _ (z : Sizes) (k : Step) where
  pub op_none : k.op ≡ 0 → 6 ≡ give_refusal z k
  unfolding give_refusal
  op_none e = sym (rw e)

  pub op_other : (k.op ≡ 0 → ⊥) → k.op < 6 → 0 ≡ give_refusal z k
  unfolding give_refusal
  op_other d h = sym (rw (le-leb 1 k.op (omega arith), le-leb k.op 5 (omega arith)))

  pub op_above : (k.op ≡ 6 → ⊥) → (k.op ≡ 7 → ⊥) → 6 ≤ k.op → 6 ≡ give_refusal z k
  unfolding give_refusal
  op_above d f h = sym (rw (le-leb 1 k.op (omega arith), lt-leb k.op 5 (omega arith), ne_eqb k.op 6 d, ne_eqb k.op 7 f))

  pub op_list : (r : ℕ) → k.op ≡ 7 → r ≡ count_refusal k.value → r ≡ give_refusal z k
  unfolding give_refusal
  op_list r e h = rw (e, ← h)

  pub op_migrate : (r : ℕ) → k.op ≡ 6 → r ≡ first_refusal (server_refusal k.server) (node_refusal z k.key) → r ≡ give_refusal z k
  unfolding give_refusal
  op_migrate r e h = h ∙ rw e refl

module _ (n : ℕ) (b : Bool) (e : b ≡ between 1 32 n) where
  pub count_in : b ≡ true → 0 ≡ count_refusal n
  unfolding count_refusal
  count_in t = sym (rw (← e, t))

  pub count_out : b ≡ false → 11 ≡ count_refusal n
  unfolding count_refusal
  count_out t = sym (rw (← e, t))

pub ruleset field_exits = (some_first, some_number, none_first, server_out, server_in, node_in, node_out, count_in, count_out, op_none, op_other, op_above, op_migrate, op_list)

pub kind_fields : (z : Sizes) (k : Step) (i j : Kind) (r : ℕ) → i ≡ j → r ≡ field_refusal z k j → r ≡ field_refusal z k i
kind_fields z k i j r e h = rw e h

-- where 7 doesn't hold
pub is_sited : (z : Sizes) (k : Step) (i : Kind) → 0 ≡ field_refusal z k i → Sited i k.server
unfolding field_refusal Sited server_refusal
is_sited z k Begin e = tt
is_sited z k Give e = tt
is_sited z k Work e = tt
is_sited z k Commit e = tt
is_sited z k Prepare e = within_servers k.server (sym e)
is_sited z k Apply e = within_servers k.server (sym e)
is_sited z k GiveUp e = tt
is_sited z k Lost e = tt
is_sited z k (Servers x) e = tt
is_sited z k Unknown e = tt

-- ---- 5 to 9, of a kind that is known
module _ (z : Sizes) (k : Step) (i : Kind) (w : List ℕ) where
  pub no_client : z.clients ≤ k.client → 5 ≡ known_refusal z k i w
  unfolding known_refusal
  no_client h = sym (rw (le-leb _ _ h))

  module _ (h : k.client < z.clients) where
    pub asked_first : (r : ℕ) → r ≡ field_refusal z k i → (r ≡ 0 → ⊥) → r ≡ known_refusal z k i w
    unfolding known_refusal
    asked_first r e d = sym (rw (lt-leb _ _ h, ← e, ne_eqb r 0 d))

    module _ (e : 0 ≡ field_refusal z k i) (b : Bool) (p : b ≡ unfit z k i w) where
      pub state_unfit : b ≡ true → 9 ≡ known_refusal z k i w
      unfolding known_refusal
      state_unfit u = sym (rw (lt-leb _ _ h, ← e, ← p, u))

      pub state_fit : b ≡ false → 0 ≡ known_refusal z k i w
      unfolding known_refusal
      state_fit u = sym (rw (lt-leb _ _ h, ← e, ← p, u))

pub ruleset known_exits = (is_sited, no_client, asked_first, some_number, state_unfit, state_fit)

-- ---- 4 to 9 and 11: the table is what its kinds ask
-- the table's rows 6, 11, 7 and 8 of a give, then x
abbrev rows : (o : ℕ) (s d c : Bool) (x : ℕ) → ℕ
rows o s d c x = cond (not (between 1 7 o)) 6 (cond (eqb o 7 && not c) 11 (cond (((eqb o 6 || false) || false) && s) 7 (cond (eqb o 6 && not d) 8 x)))

abbrev given : (o : ℕ) (s d c : Bool) → ℕ
given o s d c = cond (between 1 5 o) 0 (cond (eqb o 6) (first_refusal (cond s 7 0) (cond d 0 8)) (cond (eqb o 7) (cond c 0 11) 6))

above_7 : (o : ℕ) (s d c : Bool) (x : ℕ) → 7 < o → first_refusal (given o s d c) x ≡ rows o s d c x
above_7 o s d c x h = rw (le-leb 1 o (omega arith), lt-leb o 5 (omega arith), lt-leb o 7 h, ne_eqb o 6 (λ e. absurd (omega arith)), ne_eqb o 7 (λ e. absurd (omega arith)))

by_op : (o : ℕ) (s d c : Bool) (x : ℕ) → first_refusal (given o s d c) x ≡ rows o s d c x
by_op zero s d c x = refl
by_op (suc zero) s d c x = refl
by_op (suc (suc zero)) s d c x = refl
by_op (suc (suc (suc zero))) s d c x = refl
by_op (suc (suc (suc (suc zero)))) s d c x = refl
by_op (suc (suc (suc (suc (suc zero))))) s d c x = refl
by_op (suc (suc (suc (suc (suc (suc zero)))))) true d c x = refl
by_op (suc (suc (suc (suc (suc (suc zero)))))) false true c x = refl
by_op (suc (suc (suc (suc (suc (suc zero)))))) false false c x = refl
by_op (suc (suc (suc (suc (suc (suc (suc zero))))))) s d true x = refl
by_op (suc (suc (suc (suc (suc (suc (suc zero))))))) s d false x = refl
by_op (suc (suc (suc (suc (suc (suc (suc (suc o)))))))) s d c x = above_7 (suc (suc (suc (suc (suc (suc (suc (suc o)))))))) s d c x (omega arith)

-- its row 7 of a prepare or an apply, then x
by_site : (s : Bool) (x : ℕ) → first_refusal (cond s 7 0) x ≡ cond s 7 x
by_site true x = refl
by_site false x = refl

-- rows 13 to 15 and 9 of a change of the servers
rows_9 : (s f t v q : Bool)
    → ◌≡◌ {A = ℕ} (cond s 7 (cond (not f) 13 (cond t 14 (cond v 15 (cond q 0 9))))) (cond s 7 (cond (not f) 13 (cond t 14 (cond v 15 (cond (not q) 9 0)))))
rows_9 true f t v q = refl
rows_9 false false t v q = refl
rows_9 false true true v q = refl
rows_9 false true false true q = refl
rows_9 false true false false true = refl
rows_9 false true false false false = refl

-- ---- a change of the servers, a row at a time
module _ (z : Sizes) (x : ServerChange) (s : ℕ) (m : Address → ℕ) where
  pub change_nowhere : 8 ≤ s → 7 ≡ change_refusal z x s m
  unfolding change_refusal
  change_nowhere h = sym (rw (le-leb _ _ h))

  module _ (l : s < 8) (f : Bool) (e : f ≡ state_suits m s x) where
    pub change_unsuited : not f ≡ true → 13 ≡ change_refusal z x s m
    unfolding change_refusal
    change_unsuited t = sym (rw (lt-leb _ _ l, ← e, not-true f t))

    module _ (t : Bool) (nf : not f ≡ false) (q : t ≡ taken_yet m x s) where
      pub change_taken : t ≡ true → 14 ≡ change_refusal z x s m
      unfolding change_refusal
      change_taken u = sym (rw (lt-leb _ _ l, ← e, not-false f nf, ← q, u))

      module _ (v : Bool) (nt : t ≡ false) (p : v ≡ version_ends m) where
        pub change_ended : v ≡ true → 15 ≡ change_refusal z x s m
        unfolding change_refusal
        change_ended u = sym (rw (lt-leb _ _ l, ← e, not-false f nf, ← q, nt, ← p, u))

        module _ (b : Bool) (nv : v ≡ false) (h : b ≡ quiet z m) where
          pub change_passes : b ≡ true → 0 ≡ change_refusal z x s m
          unfolding change_refusal
          change_passes u = sym (rw (lt-leb _ _ l, ← e, not-false f nf, ← q, nt, ← p, nv, ← h, u))

          pub change_loud : b ≡ false → 9 ≡ change_refusal z x s m
          unfolding change_refusal
          change_loud u = sym (rw (lt-leb _ _ l, ← e, not-false f nf, ← q, nt, ← p, nv, ← h, u))

pub ruleset change_exits = (change_nowhere, change_unsuited, change_taken, change_ended, change_passes, change_loud)

-- 14 of a removal
pub not_removed : (m : Address → ℕ) (s : ℕ) (x y : ServerChange) (r : Bool) → x ≡ y → r ≡ taken_yet m y s → r ≡ taken_yet m x s
not_removed m s x y r e h = rw e h

module _ (z : Sizes) (k : Step) (w : List ℕ) where
  -- the same step with a kind's number
  abbrev kinded : ℕ → Step
  kinded n = record { kind = n; client = k.client; op = k.op; key = k.key; value = k.value; server = k.server }

  abbrev nine : Kind → ℕ
  nine i = cond (unfit z k i w) 9 0

  by_kind : (n : ℕ) → n < 8 → known_refusal z (kinded n) (kind_of n) w ≡ refusal z (kinded n) (stored_in z w)
  unfolding refusal first known_refusal field_refusal unfit give_refusal server_refusal node_refusal count_refusal kind_of
  by_kind zero h = refl
  by_kind (suc zero) h = rw (by_op k.op (leb 8 k.server) (in_store z.slots k.key) (between 1 32 k.value) (nine Give))
  by_kind (suc (suc zero)) h = refl
  by_kind (suc (suc (suc zero))) h = refl
  by_kind (suc (suc (suc (suc zero)))) h = rw (by_site (leb 8 k.server) (nine Prepare))
  by_kind (suc (suc (suc (suc (suc zero))))) h = rw (by_site (leb 8 k.server) (nine Apply))
  by_kind (suc (suc (suc (suc (suc (suc zero)))))) h = refl
  by_kind (suc (suc (suc (suc (suc (suc (suc zero))))))) h = refl
  by_kind (suc (suc (suc (suc (suc (suc (suc (suc n)))))))) h = absurd (omega arith)

  pub kind_above : (k.kind ≡ 8 → ⊥) → (k.kind ≡ 9 → ⊥) → (k.kind ≡ 10 → ⊥) → 8 ≤ k.kind → 4 ≡ refusal z k (stored_in z w)
  unfolding refusal first
  kind_above a b c h = let l : 10 < k.kind = omega arith in sym (rw (lt-ltb 10 k.kind l))

  pub kind_known : (i : Kind) (r : ℕ) → k.kind < 8 → i ≡ kind_of k.kind → r ≡ known_refusal z k i w → r ≡ refusal z k (stored_in z w)
  kind_known i r h e p = p ∙ rw e (by_kind k.kind h)

  -- of a change of the servers
  by_change : (n : ℕ) → 8 ≤ n → n < 11 → change_refusal z (change_of n) k.server (stored_in z w) ≡ refusal z (kinded n) (stored_in z w)
  unfolding refusal first change_refusal taken_yet change_of
  by_change (suc (suc (suc (suc (suc (suc (suc (suc zero)))))))) l h = rows_9 (leb 8 k.server) (state_suits (stored_in z w) k.server Add) false (version_ends (stored_in z w)) (quiet z (stored_in z w))
  by_change (suc (suc (suc (suc (suc (suc (suc (suc (suc zero))))))))) l h = rows_9 (leb 8 k.server) (state_suits (stored_in z w) k.server Close) false (version_ends (stored_in z w)) (quiet z (stored_in z w))
  by_change (suc (suc (suc (suc (suc (suc (suc (suc (suc (suc zero)))))))))) l h = rows_9 (leb 8 k.server) (state_suits (stored_in z w) k.server Remove) (any_taken (stored_in z w) k.server) (version_ends (stored_in z w)) (quiet z (stored_in z w))
  by_change (suc (suc (suc (suc (suc (suc (suc (suc (suc (suc (suc n))))))))))) l h = absurd (omega arith)
  by_change zero l h = absurd (omega arith)
  by_change (suc zero) l h = absurd (omega arith)
  by_change (suc (suc zero)) l h = absurd (omega arith)
  by_change (suc (suc (suc zero))) l h = absurd (omega arith)
  by_change (suc (suc (suc (suc zero)))) l h = absurd (omega arith)
  by_change (suc (suc (suc (suc (suc zero))))) l h = absurd (omega arith)
  by_change (suc (suc (suc (suc (suc (suc zero)))))) l h = absurd (omega arith)
  by_change (suc (suc (suc (suc (suc (suc (suc zero))))))) l h = absurd (omega arith)

  pub kind_changes : (n : ℕ) (x : ServerChange) (r : ℕ) → k.kind ≡ n → 8 ≤ n → n < 11 → x ≡ change_of n → r ≡ change_refusal z x k.server (stored_in z w) → r ≡ refusal z k (stored_in z w)
  kind_changes n x r e l h q p = p ∙ rw (q, ← e) (by_change k.kind (omega arith) (omega arith))
