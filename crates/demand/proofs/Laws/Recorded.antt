-- A lock of the machine's that is recorded in its word stays so when it is granted, and when it is given back; and what the word does not hold
-- against a use, the machine grants.
use Rattle.std.specs.Prelude.{◌≡◌, refl, Bool, cond, ◌&&◌, ◌||◌, not, ◌⊎◌, eqb}
use Rattle.std.proofs.Common.{ap, ap₂, ◌∙◌, inl, inr, eqb-true, le-ltb}
use Rattle.std.proofs.Math.Path.{sym, subst}
use Rattle.std.proofs.Math.Bool.{true, false}
use Rattle.std.proofs.lemmas.Bool.{false≢true, not-false}
use Prim.Native.Nat.{ℕ, suc, ◌+◌, ◌≤◌, ◌<◌, Fin}
use native.Mathlib.Omega.{arith}
use Rattle.std.proofs.Math.Decide.{dec_lt, Fin-discrete}
use Rattle.base.proofs.Laws.Test.{bool_cases, or_left, or_right}
use Rattle.base.specs.Test.{not_both, and_both, yes?}
use Rattle.layout.specs.Space.{changed}
use Rattle.operations.specs.Object.{Obj}
use Rattle.protocol.specs.Lists.{any}
use Rattle.server.specs.declared.lock.Use.{Use}
use Rattle.server.specs.declared.lock.Use.TheVariants.{Read, Write}
use Rattle.server.specs.declared.place.Place.{Place}
use Rattle.server.specs.Layout.{places}
use Rattle.nodes.specs.Object.{object_of}
use Rattle.server.specs.Object.{lock_of}
use Rattle.server.specs.Lock.{busy, locked, unlocked}
use Rattle.server.specs.Laws.Lock.{reads, writes, no_other_writer, no_other_reader, write_locked, read_locked, read_locked_other, unlocked_reads_other, unlocked_writes_other}
use Rattle.client.specs.Layout.{ClientWord}
use Rattle.client.specs.Record.{number}
use Rattle.client.specs.Laws.Ranges.{client_fits}
use Rattle.steps.specs.Steps.{unlock_each}
use Rattle.demand.proofs.Laws.Store.{fins}
use Rattle.protocol.proofs.Laws.Lists.{any_in}
use Rattle.demand.proofs.Laws.Locking.{Swept, unlocked_swept}
use Rattle.demand.proofs.Laws.Shows.{T, InStore, lock_kept, SlotShown, Recorded}
use Rattle.protocol.specs.Machine as P
use Rattle.protocol.specs.Moves as Mv

-- one of two, where the other is not
first : (a b : Bool) → (a || b) ≡ true → b ≡ false → a ≡ true
first true b h e = refl
first false b h e = absurd (not_both h e)

-- a writer's word is no set
writer_word : (d w : ℕ) → writes d w ≡ true → w ≡ 65536 + d
unfolding writes
writer_word d w h = eqb-true w (65536 + d) h

set_no_writer : (d w : ℕ) → w < 65536 → writes d w ≡ false
unfolding writes
set_no_writer d w l = go (bool_cases (writes d w))
  where
    go : (writes d w ≡ true) ⊎ (writes d w ≡ false) → writes d w ≡ false
    go (inl e) = absurd (omega (arith, writer_word d w e))
    go (inr e) = e

-- a word that is not busy for reading: a set, or the client's own
own_word : (c w : ℕ) → busy Read c w ≡ false → 65536 ≤ w → w ≡ 65536 + c
unfolding busy
own_word c w h l = eqb-true w (65536 + c) (not-false (eqb w (65536 + c)) (sym (rw (le-ltb w 65536 l)) ∙ h))

word_stays : (c w : ℕ) → 65536 ≤ w → locked false c w ≡ w
unfolding locked
word_stays c w l = rw (le-ltb w 65536 l)

module _ (k j slots : ℕ) (few : suc j ≤ 16) (c : Fin (suc j)) where
  abbrev Client : Type 0
  Client = Fin (suc j)

  own : c.0 < 16
  own = omega (arith, c.1)

  holds : Client → ℕ → Bool
  holds d w = reads d.0 w || writes d.0 w

  away : (d : Client) → ¬ (d ≡ c) → ¬ (d.0 ≡ c.0)
  away d n e = n (native.Mathlib.Fin.val_path e)

  -- ---- granted for writing, for reading
  pub write_recorded : (w : ℕ) → Recorded k j slots (P.owned c) (locked true c.0 w)
  write_recorded w = write_locked c.0 w

  pub read_recorded : (l : P.Lock (T k j slots)) (w : ℕ) → Recorded k j slots l w → busy Read c.0 w ≡ false → Recorded k j slots (Mv.share (T k j slots) c l) (locked false c.0 w)
  unfolding holds
  read_recorded (P.owned d) w h b =
      let e = writer_word d.0 w h in
      subst (λ (x : ℕ). writes d.0 x ≡ true) (sym (word_stays c.0 w (omega arith))) h
  read_recorded (P.shared q) w h b = λ d r. go d (Fin-discrete (suc j) d c) r (dec_lt w 65536)
    where
      go : (d : Client) → (z : Dec (d ≡ c)) → (yes? z || q d) ≡ true → Dec (w < 65536) → holds d (locked false c.0 w) ≡ true
      go d (yes e) r (yes l) =
          subst (λ (x : Client). holds x (locked false c.0 w) ≡ true) (sym e)
          (or_left (reads c.0 (locked false c.0 w)) (writes c.0 (locked false c.0 w)) (read_locked c.0 w own l))
      go d (yes e) r (no n) =
          let l : 65536 ≤ w = omega arith in
          subst (λ (x : Client). holds x (locked false c.0 w) ≡ true) (sym e)
          (or_right (reads c.0 (locked false c.0 w)) (writes c.0 (locked false c.0 w))
          (subst (λ (x : ℕ). writes c.0 x ≡ true) (sym (word_stays c.0 w l)) (mine (own_word c.0 w b l))))
        where
          mine : w ≡ 65536 + c.0 → writes c.0 w ≡ true
          mine e = own_writes e
            where
              own_writes : w ≡ 65536 + c.0 → writes c.0 w ≡ true
              own_writes e = subst (λ (x : ℕ). writes c.0 x ≡ true) (locked_word ∙ sym e) (write_locked c.0 w)
                where
                  locked_word : locked true c.0 w ≡ 65536 + c.0
                  locked_word = writer_word c.0 (locked true c.0 w) (write_locked c.0 w)
      go d (no n) r (yes l) =
          or_left (reads d.0 (locked false c.0 w)) (writes d.0 (locked false c.0 w))
          (read_locked_other c.0 w own l d.0 (away d n) ∙ first (reads d.0 w) (writes d.0 w) (h d r) (set_no_writer d.0 w l))
      go d (no n) r (no x) = subst (λ (v : ℕ). holds d v ≡ true) (sym (word_stays c.0 w (omega arith))) (h d r)

  -- ---- given back, whether or not it was held
  pub drop_kept : (l : P.Lock (T k j slots)) (w : ℕ) → Recorded k j slots l w → Recorded k j slots (Mv.drop (T k j slots) c l) w
  drop_kept (P.shared q) w h = λ d r. h d (and_both (not (yes? (Fin-discrete (suc j) d c))) (q d) r).1
  drop_kept (P.owned d) w h = go (Fin-discrete (suc j) d c)
    where
      go : (z : Dec (d ≡ c)) → Recorded k j slots (cond (yes? z) (P.unlocked (T k j slots)) (P.owned d)) w
      go (yes e) = λ x r. absurd (false≢true r)
      go (no n) = h

  pub drop_recorded : (l : P.Lock (T k j slots)) (w : ℕ) → Recorded k j slots l w → Recorded k j slots (Mv.drop (T k j slots) c l) (unlocked c.0 w)
  drop_recorded (P.shared q) w h = λ d r. go d (Fin-discrete (suc j) d c) r
    where
      go : (d : Client) (z : Dec (d ≡ c)) → (not (yes? z) && q d) ≡ true → (reads d.0 (unlocked c.0 w) || writes d.0 (unlocked c.0 w)) ≡ true
      go d (yes e) r = absurd (false≢true r)
      go d (no n) r = ap₂ ◌||◌ (unlocked_reads_other c.0 w own d.0 (away d n)) (unlocked_writes_other c.0 w own d.0 (away d n)) ∙ h d r
  drop_recorded (P.owned d) w h = go (Fin-discrete (suc j) d c)
    where
      go : (z : Dec (d ≡ c)) → Recorded k j slots (cond (yes? z) (P.unlocked (T k j slots)) (P.owned d)) (unlocked c.0 w)
      go (yes e) = λ x r. absurd (false≢true r)
      go (no n) = unlocked_writes_other c.0 w own d.0 (away d n) ∙ h

  -- ---- what is not busy is granted
  owner : (u : Use) (d : Client) (w : ℕ) → writes d.0 w ≡ true → busy u c.0 w ≡ false → yes? (Fin-discrete (suc j) d c) ≡ true
  owner u d w h b = go (Fin-discrete (suc j) d c)
    where
      go : (z : Dec (d ≡ c)) → yes? z ≡ true
      go (yes e) = refl
      go (no n) = absurd (not_both h (no_other_writer u c.0 d.0 w b (away d n)))

  alone : (q : Client → Bool) (w : ℕ) → Recorded k j slots (P.shared q) w → busy Write c.0 w ≡ false
      → any (λ d. not (yes? (Fin-discrete (suc j) d c)) && q d) (fins (suc j)) ≡ false
  alone q w h b = go (bool_cases (any (λ d. not (yes? (Fin-discrete (suc j) d c)) && q d) (fins (suc j))))
    where
      nobody : (d : Client) (z : Dec (d ≡ c)) → (not (yes? z) && q d) ≡ true → ⊥
      nobody d (yes e) r = false≢true r
      nobody d (no n) r =
          not_both (h d r) (ap₂ ◌||◌ (no_other_reader c.0 d.0 w b (away d n)) (no_other_writer Write c.0 d.0 w b (away d n)))

      go : (any (λ d. not (yes? (Fin-discrete (suc j) d c)) && q d) (fins (suc j)) ≡ true) ⊎ (any (λ d. not (yes? (Fin-discrete (suc j) d c)) && q d) (fins (suc j)) ≡ false)
          → any (λ d. not (yes? (Fin-discrete (suc j) d c)) && q d) (fins (suc j)) ≡ false
      go (inr e) = e
      go (inl e) = let r = any_in (λ d. not (yes? (Fin-discrete (suc j) d c)) && q d) (fins (suc j)) e in absurd (nobody r.0 (Fin-discrete (suc j) r.0 c) r.2)

  pub grants_write : (l : P.Lock (T k j slots)) (w : ℕ) (r : Bool) → Recorded k j slots l w → busy Write c.0 w ≡ false → Mv.grants (T k j slots) c true r l ≡ true
  grants_write (P.shared q) w r h b = ap not (alone q w h b)
  grants_write (P.owned d) w r h b = or_left (yes? (Fin-discrete (suc j) d c)) (not (true || r)) (owner Write d w h b)

  pub grants_read : (l : P.Lock (T k j slots)) (w : ℕ) (r : Bool) → Recorded k j slots l w → busy Read c.0 w ≡ false → Mv.grants (T k j slots) c false r l ≡ true
  grants_read (P.shared q) w r h b = refl
  grants_read (P.owned d) w r h b = or_left (yes? (Fin-discrete (suc j) d c)) (not (false || r)) (owner Read d w h b)

  pub grants_none : (l : P.Lock (T k j slots)) → Mv.grants (T k j slots) c false false l ≡ true
  grants_none (P.shared q) = refl
  grants_none (P.owned d) = or_right (yes? (Fin-discrete (suc j) d c)) true refl

-- what is unlocked at a server, at an apply or an abort
pub unlock_recorded : (k j slots : ℕ) (al : slots ≤ 1024) (few : suc j ≤ 16) (c : Fin (suc j)) (u : ClientWord → ℕ)
    (fit : client_fits slots u ≡ true) (y : P.Slot (T k j slots)) (shown : SlotShown k j slots u y) (s : Fin 8) (low : ℕ)
    (el : y.lowest.0 ≡ low) (p : Place → ℕ) (o : Obj) (hi : InStore k j slots o) → lock_kept k j slots p s o ≡ true → (l : P.Lock (T k j slots)) → Recorded k j slots l (p (lock_of (object_of (number o))))
    → Recorded k j slots (Mv.drop (T k j slots) c l) (changed places p (unlock_each u c.0 low s.0 p) (lock_of (object_of (number o))))
unlock_recorded k j slots al few c u fit y shown s low el p o hi kept l h = go (unlocked_swept k j slots al u fit y shown s low el p c.0 o hi kept)
  where
    now : ℕ
    now = changed places p (unlock_each u c.0 low s.0 p) (lock_of (object_of (number o)))

    old : ℕ
    old = p (lock_of (object_of (number o)))

    go : Swept k j slots al u fit y shown s low el p (λ i. unlocked c.0) o hi kept now → Recorded k j slots (Mv.drop (T k j slots) c l) now
    go (inl q) = subst (Recorded k j slots (Mv.drop (T k j slots) c l)) (sym q.2) (drop_recorded k j slots few c l old h)
    go (inr q) = subst (Recorded k j slots (Mv.drop (T k j slots) c l)) (sym q.1) (drop_kept k j slots few c l old h)
