-- What a rule's test of its client's own part says: the objects of its sets are objects of the store.
use Rattle.std.specs.Prelude.{◌≡◌, Bool, true, false, ◌&&◌, ◌||◌, not, List, ℕ, leb}
use Rattle.std.proofs.Common.{sym, ◌∙◌}
use borrow.Author.Tests.{not-false}
use Rattle.base.specs.Test.{and_both}
use Rattle.memory.specs.Word.{view}
use Rattle.client.specs.declared.part.Set.{Set}
use Rattle.client.specs.declared.part.Set.TheVariants.{Reads, Writes}
use Rattle.client.specs.Layout.{ClientWord, limit, participants, prepared, applied}
use Rattle.client.specs.Sets.{count, number_at}
use Rattle.client.specs.Items.{all_below}
use Rattle.client.specs.Fits.{said_count, servers_fit, number_fits, numbers_fit, op_fits, fit_to_work, fit_to_prepare, fit_to_abort, fit_to_unlock, writes_fit, fit_to_renew, fit_to_apply}
use Rattle.client.specs.Laws.Ranges.{all_at}
use Rattle.steps.specs.declared.sizes.Sizes.{Sizes}
use Rattle.steps.specs.Judge.{abort_fits}
use Rattle.steps.proofs.Laws.There.{in_store_has}
use Rattle.kinds.specs.Parts.{stored_in}
use Rattle.kinds.specs.Judge.{of_client}
use Rattle.kinds.specs.Fits.{InSet, Known, FitToPrepare}
use Rattle.kinds.specs.Writes.{Storing}

-- ---- the objects of a set
module _ (z : Sizes) (m : ClientWord → ℕ) where
  pub in_set : (s : Set) → numbers_fit z.slots m s ≡ true → InSet z s m
  unfolding numbers_fit number_fits
  in_set s h i l =
      in_store_has z.slots (number_at m s i)
      (all_at (number_fits z.slots m s) (count m s) i (and_both (leb (said_count m s) (limit s)) (all_below (count m s) (number_fits z.slots m s)) h).1 l)

module _ (z : Sizes) (w : List ℕ) (c : ℕ) where
  abbrev t : ℕ
  t = z.slots

  abbrev m : ClientWord → ℕ
  m = of_client z w c

  known_by : numbers_fit t m Reads ≡ true → Known z w c
  known_by h = record { known = in_set z m Reads h }

  sets : (numbers_fit t m Reads && numbers_fit t m Writes) ≡ true → (numbers_fit t m Reads ≡ true) × (numbers_fit t m Writes ≡ true)
  sets h = and_both (numbers_fit t m Reads) (numbers_fit t m Writes) h

  pub work_known : fit_to_work t m ≡ true → Known z w c
  unfolding fit_to_work
  work_known h = known_by (sets (and_both (op_fits t m) (numbers_fit t m Reads && numbers_fit t m Writes) h).1).0

  module _ (b : Bool) (n : not b ≡ false) where
    pub prepare_known : b ≡ fit_to_prepare t m → Known z w c
    unfolding fit_to_prepare
    prepare_known e =
        known_by (sets (and_both (servers_fit m participants && servers_fit m prepared) (numbers_fit t m Reads && numbers_fit t m Writes) (sym e ∙ not-false b n)).1).0

    pub abort_known : b ≡ fit_to_abort t m → Known z w c
    unfolding fit_to_abort
    abort_known e = known_by (and_both (servers_fit m prepared) (numbers_fit t m Reads) (sym e ∙ not-false b n)).1

    module _ (s : ℕ) (last : Bool) (e : b ≡ fit_to_apply t m s last) where
      parts : ((servers_fit m applied && numbers_fit t m Reads) ≡ true) × ((fit_to_unlock t m && (writes_fit t m s && (not last || fit_to_renew t m))) ≡ true)
      unfolding fit_to_apply
      parts =
          and_both (servers_fit m applied && numbers_fit t m Reads) (fit_to_unlock t m && (writes_fit t m s && (not last || fit_to_renew t m))) (sym e ∙ not-false b n)

      behind : (fit_to_unlock t m ≡ true) × ((writes_fit t m s && (not last || fit_to_renew t m)) ≡ true)
      behind = and_both (fit_to_unlock t m) (writes_fit t m s && (not last || fit_to_renew t m)) parts.1

      pub apply_known : Known z w c
      apply_known = known_by (and_both (servers_fit m applied) (numbers_fit t m Reads) parts.0).1

      pub apply_storing : Storing z w c s
      unfolding fit_to_unlock
      apply_storing = record {
        written = in_set z m Writes (and_both (servers_fit m participants) (numbers_fit t m Writes) behind.0).1;
        fits = (and_both (writes_fit t m s) (not last || fit_to_renew t m) behind.1).0;
      }

  pub abort_judged : (b : Bool) → b ≡ true → b ≡ abort_fits z (stored_in z w) c → Known z w c
  unfolding abort_fits fit_to_abort
  abort_judged b q e = known_by (and_both (servers_fit m prepared) (numbers_fit t m Reads) (and_both (fit_to_abort t m) _ (sym e ∙ q)).0).1

pub fit_prepared : (z : Sizes) (b : List ℕ) (c : ℕ) (r : Bool) → not r ≡ false → r ≡ fit_to_prepare z.slots (of_client z (view b) c) → FitToPrepare z b c
fit_prepared z b c r n e = record { fit = sym e ∙ not-false r n }

pub ruleset knows = (fit_prepared, prepare_known, abort_known, apply_known, apply_storing, abort_judged)
