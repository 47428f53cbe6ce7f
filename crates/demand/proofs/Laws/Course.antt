-- A client's part in which only the course of the commit changes: phase, participants, prepared, applied.
use Rattle.std.specs.Prelude.{◌≡◌, refl, Bool, true, false, ◌||◌, List, map, eqb}
use Rattle.std.proofs.Common.{ap, sym, ◌∙◌, subst, arith}
use Rattle.std.proofs.Math.Option.{Option}
use Prim.Native.Nat.{ℕ, ◌≤◌, Fin}
use Rattle.base.specs.Test.{not_both}
use Rattle.memory.specs.Bit.{bit}
use Rattle.layout.specs.Space.{Put, changed}
use Rattle.operations.specs.Object.{Obj}
use Rattle.operations.specs.Map.{Op}
use Rattle.operations.specs.Operation.{Legal}
use Rattle.protocol.specs.State.{Phase}
use Rattle.protocol.specs.Meaning.{Shown}
use Rattle.client.specs.declared.part.Set.TheVariants.{Reads, Writes, Copies}
use Rattle.client.specs.Layout.{ClientWord, client_again, client_words, field, phase, op_number, op_key, op_value, op_server, participants, prepared, applied, item, vector_word, reads_count, writes_count, meta_states, meta_root, meta_version}
use Rattle.client.specs.Participants.{lowest_of}
use Rattle.client.specs.Work.{op_of, waiting}
use Rattle.demand.specs.Ledger.{Told}
use Rattle.demand.proofs.Laws.Frame.{Only, only_other}
use Rattle.demand.proofs.Laws.Shows.{phase_of, T, ClientShown, Running, told}
use Rattle.demand.proofs.Laws.Slots.{SameSets, item_frame, read_frame, write_frame, copies_frame}
use Rattle.protocol.specs.Machine as P

-- every word that says nothing of the course
pub record Else (u v : ClientWord → ℕ) : Type 0 where
  pub sets : SameSets u v
  pub op_number_same : v op_number ≡ u op_number
  pub op_key_same : v op_key ≡ u op_key
  pub op_value_same : v op_value ≡ u op_value
  pub op_server_same : v op_server ≡ u op_server
  pub copied_same : v meta_states ≡ u meta_states
  pub root_same : v meta_root ≡ u meta_root
  pub version_same : v meta_version ≡ u meta_version
  pub copies_same : (i n : ℕ) → v (item Copies i n) ≡ u (item Copies i n)
  pub vectors_same : (s n : ℕ) → v (vector_word s n) ≡ u (vector_word s n)

-- the words of the course
abbrev pub is_course : ClientWord → Bool
is_course (field i) = eqb i 0 || eqb i 5 || eqb i 6 || eqb i 7
is_course (item s i n) = false
is_course (vector_word s n) = false

abbrev pub OfCourse : ClientWord → ℕ → Type 0
OfCourse a v = is_course a ≡ true

-- stores at those alone leave everything else
pub else_same : (ps : List (Put ClientWord)) (u : ClientWord → ℕ) → Only client_words OfCourse ps → Else u (changed client_words u ps)
else_same ps u h = record {
  sets = record {
    reads = at reads_count refl;
    writes = at writes_count refl;
    items_read = λ i n. at (item Reads i n) refl;
    items_written = λ i n. at (item Writes i n) refl;
  };
  op_number_same = at op_number refl;
  op_key_same = at op_key refl;
  op_value_same = at op_value refl;
  op_server_same = at op_server refl;
  copied_same = at meta_states refl;
  root_same = at meta_root refl;
  version_same = at meta_version refl;
  copies_same = λ i n. at (item Copies i n) refl;
  vectors_same = λ s n. at (vector_word s n) refl;
}
  where
    at : (a : ClientWord) → is_course a ≡ false → changed client_words u ps a ≡ u a
    at a e = only_other client_words client_again OfCourse a (λ x v c q. not_both (ap is_course q ∙ c) e) ps u h

module _ (k j slots : ℕ) (u v : ClientWord → ℕ) (E : Else u v) where
  waits : waiting v ≡ waiting u
  waits t = op_of (E.op_number_same t) (E.op_key_same t) (E.op_value_same t) (E.op_server_same t)

  -- the machine's slot with another course
  pub course_shown : (given : Op) (undecided undecided' : List Told) (y : P.Slot (T k j slots)) (f : Obj → Option (P.Copy (T k j slots))) (said : List (Shown (T k j slots)))
      → (p : Phase) (q : Fin 8 → Bool) (l : Fin 8) (r a : Fin 8 → Bool)
      → (Running (v phase) → undecided' ≡ map (told k j slots) said) → phase_of (v phase) ≡ p → ((s : Fin 8) → q s ≡ bit (v participants) s.0) → ((s : Fin 8) → r s ≡ bit (v prepared) s.0)
      → ((s : Fin 8) → a s ≡ bit (v applied) s.0) → 2 ≤ v phase → l.0 ≡ lowest_of 8 (v participants)
      → ClientShown k j slots u given undecided y f said → ClientShown k j slots v given undecided' (P.with_course (T k j slots) y p q l r a) f said
  course_shown given undecided undecided' y f said p q l r a said_now hp hq hr ha late hl h = record {
    slot = record {
      phase_as = hp;
      item_as = λ o i. h.slot.item_as o i ∙ sym (item_frame u v k j slots E.sets o);
      read_found = read_frame k j slots u v E.sets h.slot.read_found;
      write_found = write_frame k j slots u v E.sets h.slot.write_found;
      inside = h.slot.inside;
      unique = h.slot.unique;
      participant_as = hq;
      prepared_as = hr;
      applied_as = ha;
      calm = λ z. absurd (omega arith);
      lowest_as = λ _. hl;
      housed = h.slot.housed;
    };
    copies = copies_frame k j slots u v f E.copied_same E.root_same E.version_same E.copies_same E.vectors_same h.copies;
    says = record {
      said_as = said_now;
      given_as = λ n. h.says.given_as (λ e. n (E.op_number_same ∙ e)) ∙ sym waits;
      legal = λ n. subst Legal (sym waits) (h.says.legal (λ e. n (E.op_number_same ∙ e)));
    };
  }
