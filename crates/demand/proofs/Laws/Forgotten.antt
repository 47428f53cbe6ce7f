-- Copies forgotten at a loss: no move of the machine's.
use Rattle.std.specs.Prelude.{◌≡◌, refl, List}
use Rattle.std.proofs.Common.{ap, sym, ◌∙◌, subst, arith}
use Prim.Native.Nat.{ℕ, suc, Fin}
use Rattle.layout.specs.Space.{Put, changed}
use Rattle.layout.proofs.Laws.Space.{written_other}
use Rattle.layout.specs.Step.{and_then}
use Rattle.layout.proofs.Laws.Step.{changed_append}
use Rattle.layout.specs.Part.{over}
use Rattle.operations.specs.Operation.{Legal}
use Rattle.client.specs.declared.part.Set.TheVariants.{Reads, Writes, Copies}
use Rattle.client.specs.Layout.{ClientWord, client_again, client_words, field, lost, phase, op_number, item, vector_word, reads_count, writes_count, meta_states, meta_root, meta_version}
use Rattle.client.specs.Copies.{drop_all}
use Rattle.client.specs.Part.{put_field, put_word}
use Rattle.client.specs.Life.{lose_part}
use Rattle.client.specs.Work.{op_of, waiting}
use Rattle.steps.specs.Whole.{Address, client, whole}
use Rattle.demand.specs.Ledger.{Ledger}
use Rattle.steps.proofs.Laws.Stores.{client_of}
use Rattle.demand.proofs.Laws.Shows.{T, CopiesShown, Related, Running}
use Rattle.demand.proofs.Laws.Slots.{SameSets, slot_frame, copies_frame}
use Rattle.demand.proofs.Laws.Dropped.{Mark, Fewer, fewer, kept_word, fewer_copies, only_all}
use Rattle.demand.proofs.Laws.Kept.{client_related}
use Rattle.protocol.specs.Machine as P

-- one store, at the word that says that a client is lost
lost_only : (u : ClientWord → ℕ) (a : ClientWord) → ¬ (a ≡ lost) → changed client_words u (put_field 9 1 u) a ≡ u a
unfolding changed put_word
lost_only u a n = written_other client_words client_again u lost 1 a n

-- ---- copies forgotten: no move
module _ (k j slots : ℕ) (m : Address → ℕ) (L : Ledger) (M : P.Machine (T k j slots)) (c : Fin (suc j)) (R : Related k j slots m L M) where
  -- a client's part that is the same but for copies, which are fewer, and for the word that says that it is lost
  module _ (ps : List (Put ClientWord)) (v : ClientWord → ℕ) (w : Fewer v (changed client_words (client_of m c.0) ps)) (e : (a : ClientWord) → ¬ (a ≡ lost) → v a ≡ client_of m c.0 a) where
    abbrev u : ClientWord → ℕ
    u = client_of m c.0

    abbrev g : ClientWord → ℕ
    g = changed client_words u ps

    is_lost : ClientWord → ℕ
    is_lost (field i) = i
    is_lost (item s i n) = 0
    is_lost (vector_word s n) = 0

    at : (a : ClientWord) → ¬ (Mark a) → ¬ (is_lost a ≡ 9) → g a ≡ u a
    unfolding is_lost
    at a n l = kept_word v g w a n ∙ e a (λ z. l (ap is_lost z))

    same_sets : SameSets u g
    unfolding Mark is_lost
    same_sets = record {
      reads = at reads_count (λ z. absurd (omega (arith, z))) (λ z. absurd (omega (arith, z)));
      writes = at writes_count (λ z. absurd (omega (arith, z))) (λ z. absurd (omega (arith, z)));
      items_read = λ i n. at (item Reads i n) (λ z. z) (λ z. absurd (omega (arith, z)));
      items_written = λ i n. at (item Writes i n) (λ z. z) (λ z. absurd (omega (arith, z)));
    }

    field_at : (i : ℕ) → ¬ (i ≡ 12) → ¬ (i ≡ 9) → g (field i) ≡ u (field i)
    unfolding Mark is_lost
    field_at i n l = at (field i) n l

    before : CopiesShown k j slots v (M.copy c)
    unfolding is_lost
    before = copies_frame k j slots u v (M.copy c) (e meta_states (other 12 (λ z. absurd (omega (arith, z))))) (e meta_root (other 13 (λ z. absurd (omega (arith, z)))))
        (e meta_version (other 14 (λ z. absurd (omega (arith, z))))) (λ i n. e (item Copies i n) (λ z. not_item (ap is_lost z))) (λ s n. e (vector_word s n) (λ z. not_item (ap is_lost z)))
        (R.clients c).copies
      where
        other : (i : ℕ) → ¬ (i ≡ 9) → ¬ (field i ≡ lost)
        other i n z = n (ap is_lost z)

        not_item : ¬ (◌≡◌ {A = ℕ} 0 9)
        not_item z = absurd (omega (arith, z))

    waits : waiting g ≡ waiting u
    waits t = op_of (field_at 1 (λ z. absurd (omega (arith, z))) (λ z. absurd (omega (arith, z))) t) (field_at 2 (λ z. absurd (omega (arith, z))) (λ z. absurd (omega (arith, z))) t)
        (field_at 3 (λ z. absurd (omega (arith, z))) (λ z. absurd (omega (arith, z))) t) (field_at 4 (λ z. absurd (omega (arith, z))) (λ z. absurd (omega (arith, z))) t)

    op_at : g op_number ≡ u op_number
    op_at = field_at 1 (λ z. absurd (omega (arith, z))) (λ z. absurd (omega (arith, z)))

    phase_at : g phase ≡ u phase
    phase_at = field_at 0 (λ z. absurd (omega (arith, z))) (λ z. absurd (omega (arith, z)))

    pub forget_kept : Related k j slots (changed whole m (over (client c.0) ps)) L M
    forget_kept =
        client_related k j slots m L L M M c ps R R.reached
        (record {
          value_same = refl;
          version_same = refl;
          table_same = refl;
          lock_same = refl;
          given = λ d n. refl;
          undecided = λ d n. refl;
          slots_same = λ d n. refl;
          copy_same = λ d n. refl;
          said_same = λ d n. refl;
        })
        (record {
          slot = slot_frame k j slots u g same_sets (M.slots c) phase_at (field_at 5 (λ z. absurd (omega (arith, z))) (λ z. absurd (omega (arith, z))))
              (field_at 6 (λ z. absurd (omega (arith, z))) (λ z. absurd (omega (arith, z)))) (field_at 7 (λ z. absurd (omega (arith, z))) (λ z. absurd (omega (arith, z)))) (R.clients c).slot;
          copies = fewer_copies k j slots v g (M.copy c) w before;
          says = record {
            said_as = λ n. (R.clients c).says.said_as (subst Running phase_at n);
            given_as = λ n. (R.clients c).says.given_as (λ q. n (op_at ∙ q)) ∙ sym waits;
            legal = λ n. subst Legal (sym waits) ((R.clients c).says.legal (λ q. n (op_at ∙ q)));
          };
        })
        R.log_as

  -- "loss drops all copies"
  pub loss_kept : Related k j slots (changed whole m (over (client c.0) (drop_all (client_of m c.0)))) L M
  loss_kept = forget_kept (drop_all (client_of m c.0)) (client_of m c.0) (fewer (drop_all (client_of m c.0)) (client_of m c.0) (only_all (client_of m c.0))) (λ a n. refl)

  -- a decided transaction stays, and notes that its client is lost
  pub lost_kept : Related k j slots (changed whole m (over (client c.0) (lose_part (client_of m c.0)))) L M
  unfolding and_then lose_part
  lost_kept =
      forget_kept (lose_part u₀) v₀
      (subst (Fewer v₀) (sym (changed_append client_words (put_field 9 1 u₀) (drop_all v₀) u₀)) (fewer (drop_all v₀) v₀ (only_all v₀))) other
    where
      u₀ : ClientWord → ℕ
      u₀ = client_of m c.0

      v₀ : ClientWord → ℕ
      v₀ = changed client_words u₀ (put_field 9 1 u₀)

      other : (a : ClientWord) → ¬ (a ≡ lost) → v₀ a ≡ u₀ a
      other a n = lost_only u₀ a n
