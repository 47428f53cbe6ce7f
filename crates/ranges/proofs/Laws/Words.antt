-- A lock's word once a client has locked it, and once it has unlocked it: whom it names then.
use Rattle.std.specs.Prelude.{◌≡◌, refl, Bool, ◌⊎◌, ℕ, ◌+◌, ◌≤◌, ◌<◌}
use Rattle.std.proofs.Common.{sym, ◌∙◌, subst, inr, arith, eqb-true, ne_eqb, lt-ltb, le-ltb}
use Rattle.std.proofs.Math.Bool.{true, false}
use Rattle.std.proofs.Math.Logic.{inl}
use Rattle.std.proofs.Math.Decide.{dec_lt, ℕ_discrete}
use Rattle.base.specs.Test.{not_both}
use Rattle.memory.specs.Bit.{put_bit}
use Rattle.memory.proofs.Laws.Bit.{put_lt}
use Rattle.server.specs.Lock.{locked, unlocked}
use Rattle.server.specs.Laws.Lock.{reads, writes, read_locked_other, unlocked_reads, unlocked_writes, unlocked_reads_other, unlocked_writes_other}

-- does the word w name client d, as its writer or as a reader
abbrev pub names : Bool → ℕ → ℕ → Bool
names true d w = writes d w
names false d w = reads d w

-- a writer's word names nobody else, a set of readers no writer
writer_alone : (c d : ℕ) → (reads d (65536 + c) ≡ false) × (writes d (65536 + c) ≡ true → d ≡ c)
unfolding reads writes
writer_alone c d =
    let h : 65536 ≤ 65536 + c = omega arith in
    (rw (le-ltb (65536 + c) 65536 h), λ e. let q = eqb-true (65536 + c) (65536 + d) e in omega arith)

no_writer : (d w : ℕ) → w < 65536 → writes d w ≡ false
unfolding writes
no_writer d w h = ne_eqb w (65536 + d) (λ e. omega arith)

module _ (c w : ℕ) (l : c < 16) where
  -- once c has locked it, for writing or for reading: c is named, as a writer only if it writes; others as before
  pub locked_names : (b role : Bool) (d : ℕ) → names role d (locked b c w) ≡ true → ((d ≡ c) × (role ≡ true → b ≡ true)) ⊎ (names role d w ≡ true)
  unfolding locked
  locked_names true true d e = inl ((writer_alone c d).1 e, λ q. refl)
  locked_names true false d e = absurd (not_both e (writer_alone c d).0)
  locked_names false role d e = go (dec_lt w 65536) (ℕ_discrete d c) role e
    where
      as_set : w < 65536 → locked false c w ≡ put_bit true w c
      as_set h = rw (lt-ltb w 65536 h)

      as_it_was : 65536 ≤ w → locked false c w ≡ w
      as_it_was h = rw (le-ltb w 65536 h)

      go : Dec (w < 65536) → Dec (d ≡ c) → (role : Bool) → names role d (locked false c w) ≡ true → ((d ≡ c) × (role ≡ true → false ≡ true)) ⊎ (names role d w ≡ true)
      go (yes h) q true e = absurd (not_both (subst (λ (x : ℕ). writes d x ≡ true) (as_set h) e) (no_writer d (put_bit true w c) (put_lt true 16 w c l h)))
      go (yes h) (yes q) false e = inl (q, λ z. z)
      go (yes h) (no q) false e = inr (sym (read_locked_other c w l h d q) ∙ e)
      go (no h) q role e = inr (subst (λ (x : ℕ). names role d x ≡ true) (as_it_was (omega arith)) e)

  -- once c has unlocked it: c isn't named, and others as before
  pub unlocked_names : (role : Bool) (d : ℕ) → names role d (unlocked c w) ≡ true → (¬ (d ≡ c)) × (names role d w ≡ true)
  unlocked_names role d e = (other role e, was role e (other role e))
    where
      other : (role : Bool) → names role d (unlocked c w) ≡ true → ¬ (d ≡ c)
      other true e q = not_both (subst (λ (x : ℕ). writes x (unlocked c w) ≡ true) q e) (unlocked_writes c w l)
      other false e q = not_both (subst (λ (x : ℕ). reads x (unlocked c w) ≡ true) q e) (unlocked_reads c w l)

      was : (role : Bool) → names role d (unlocked c w) ≡ true → ¬ (d ≡ c) → names role d w ≡ true
      was true e n = sym (unlocked_writes_other c w l d n) ∙ e
      was false e n = sym (unlocked_reads_other c w l d n) ∙ e
