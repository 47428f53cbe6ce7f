-- The servers' states in a word.
use Rattle.std.specs.Prelude.{◌≡◌, refl, Bool, true, not, ℕ, ◌≤◌, ◌<◌, ◌/◌, eqb}
use Rattle.std.proofs.Math.Path.{sym}
use Rattle.std.proofs.Common.{◌∙◌, arith}
use Rattle.std.proofs.Math.Bool.{false}
use borrow.Author.Tests.{lt-ltb, le-ltb, lt-leb, le-leb}
use Rattle.base.specs.Test.{and_both}
use Rattle.memory.specs.Bit.{bit, put_bit}
use Rattle.memory.proofs.Laws.Bit.{bit_below}
use Rattle.nodes.specs.Name.{name_in_store}
use Rattle.nodes.specs.States.{present, is_present, is_open, is_closing, states_fit, metadata_fits, first_states, with_added, with_closed, with_removed}

-- of eight servers three are opened; the fourth is added, the second closed and removed
pub states_sample : (first_states 3 ≡ 1799) × (with_added 1799 3 ≡ 3855) × (with_closed 1799 1 ≡ 1287) × (with_removed 1287 1 ≡ 1285)
unfolding first_states with_added with_closed with_removed put_bit
states_sample = (refl, refl, refl, refl)

pub present_below : (states s : ℕ) → is_present states s ≡ true → s < 8
unfolding is_present
present_below states s h = bit_below 8 (present states) s (omega arith) h

pub open_below : (states s : ℕ) → is_open states s ≡ true → s < 8
unfolding is_open
open_below states s h = present_below states s (and_both (is_present states s) (bit (states / 256) s) h).0

-- ---- the ways out of the code
pub by_bit : (states s x : ℕ) (b : Bool) → x ≡ present states → b ≡ bit x s → b ≡ is_present states s
unfolding is_present
by_bit states s x b e h = h ∙ rw e

module _ (states s : ℕ) (b : Bool) (e : b ≡ is_present states s) where
  pub open_absent : b ≡ false → false ≡ is_open states s
  unfolding is_open
  open_absent t = rw (← e, t)

  pub open_bit : (c : Bool) → b ≡ true → c ≡ bit (states / 256) s → c ≡ is_open states s
  unfolding is_open
  open_bit c t h = h ∙ rw (← e, t)

  pub closing_absent : b ≡ false → false ≡ is_closing states s
  unfolding is_closing
  closing_absent t = rw (← e, t)

  pub closing_bit : (c : Bool) → b ≡ true → c ≡ bit (states / 256) s → not c ≡ is_closing states s
  unfolding is_closing
  closing_bit c t h = rw (← e, t, h)

pub fit_wide : (states : ℕ) → 65536 ≤ states → false ≡ states_fit states
unfolding states_fit
fit_wide states h = rw (le-ltb _ _ h)

pub fit_by_present : (states x : ℕ) → states < 65536 → x ≡ present states → not (eqb x 0) ≡ states_fit states
unfolding states_fit
fit_by_present states x h e = rw (lt-ltb _ _ h, e)

-- what states compute with, where examples do
unfoldable pub computes : Type 0
unfolding is_open is_present bit first_states with_closed put_bit
computes = Unit {0}

module _ (slots root states version : ℕ) (b : Bool) (p : b ≡ name_in_store slots root) where
  pub root_astray : b ≡ false → false ≡ metadata_fits slots root states version
  unfolding metadata_fits
  root_astray t = let q : name_in_store slots root ≡ false = sym p ∙ t in rw q

  module _ (t : b ≡ true) where
    named : name_in_store slots root ≡ true
    named = sym p ∙ t

    pub version_wide : 4294967295 < version → false ≡ metadata_fits slots root states version
    unfolding metadata_fits
    version_wide w = rw (named, lt-leb _ _ w)

    pub by_states : (c : Bool) → version ≤ 4294967295 → c ≡ states_fit states → c ≡ metadata_fits slots root states version
    unfolding metadata_fits
    by_states c w q = q ∙ rw (named, le-leb _ _ w)
