-- Steps that decide and apply nothing: begin, give, commit, give up, and loss.
use Rattle.std.specs.Prelude.{◌≡◌, Bool, true, false, cond, ◌&&◌, ◌⊎◌, eqb, leb}
use Rattle.std.proofs.Math.Path.{refl, subst}
use Rattle.std.proofs.Common.{sym, arith, eqb-true, le-leb}
use mathlib.Core.List.{List, []}
use Prim.Native.Nat.{ℕ, suc, ◌≤◌, ◌<◌, Fin}
use Rattle.memory.specs.Bit.{bit}
use Rattle.layout.specs.Space.{Put, changed}
use Rattle.layout.specs.Part.{over}
use Rattle.layout.proofs.Laws.Step.{changed_append}
use Rattle.operations.specs.Map.{two_to_64}
use Rattle.server.specs.declared.place.Place.{Place}
use Rattle.server.specs.Layout.{places}
use Rattle.client.specs.Layout.{ClientWord, client_words, phase, prepared}
use Rattle.client.specs.Record.{in_store}
use Rattle.client.specs.Copies.{drop_all}
use Rattle.client.specs.Participants.{participants_of, committing}
use Rattle.client.specs.Fits.{fit_to_commit}
use Rattle.steps.specs.declared.sizes.Sizes.{Sizes}
use Rattle.steps.specs.declared.step.Step.{Step}
use Rattle.steps.specs.declared.outcome.Outcome.{Outcome}
use Rattle.steps.specs.declared.outcome.Outcome.TheVariants.{Done, Committed, Aborted}
use Rattle.steps.specs.Whole.{Address, client, whole}
use Rattle.steps.specs.Judge.{lowest_participant, abort_fits}
use Rattle.steps.specs.Steps.{Did, did, if_fit, unlock_each, aborting}
use Rattle.steps.proofs.Laws.Stores.{client_of, server_of}
use Rattle.demand.proofs.Laws.Aborted.{given_back, aborted, aborted_client, aborted_others, aborted_server}
use Rattle.demand.proofs.Laws.Kept.{away}
use Rattle.demand.specs.Ledger.{Ledger}
use Rattle.demand.proofs.Laws.Shows.{T, Related}
use Rattle.demand.proofs.Laws.Turns.{one_of, store}
use Rattle.demand.proofs.Laws.Undecided.{undecided_word}
use Rattle.ranges.specs.Laws.Sound.{PartSound, ServerSound, SoundStore}
use Rattle.ranges.proofs.Laws.Part.{reset_part, give_part_sound, commit_part, lose_part_sound, forget_part, abort_part_sound}
use Rattle.ranges.proofs.Laws.Servers.{unlock_each_sound}
use Rattle.ranges.proofs.Laws.Sets.{part_fits}
use Rattle.ranges.proofs.Laws.Judged.{fits_to_commit}
use Rattle.ranges.proofs.Laws.Locks.{early_stored, lost_locks}
use Rattle.ranges.proofs.Laws.Unlocks.{abort_locks, abort_phase}
use Rattle.ranges.proofs.Laws.Held.{abort_judged}
use Rattle.ranges.proofs.Laws.Whole.{by_10, accepted, Kept, if_kept, parts_sound, client_sound}
use Rattle.protocol.specs.Machine as P
use Rattle.client.specs.Life as Life
use Rattle.steps.specs.Steps as Steps

module _ (k j slots : ℕ) (m : Address → ℕ) (S : SoundStore k j slots m) (c : Fin (suc j)) where
  abbrev z : Sizes
  z = store k j slots

  abbrev Fine : Did → Type 0
  Fine = Kept k j slots m

  abbrev u : ClientWord → ℕ
  u = client_of m c.0

  abbrev part : PartSound slots u
  part = S.parts c

  -- stores in c's part, while it holds no lock
  early : (o : Outcome) → by_10 o ≡ false → (ps : List (Put ClientWord)) → u phase < 2 → PartSound slots (changed client_words u ps)
      → Fine (did o (over (client c.0) ps))
  early o h ps l own = record { passes = accepted o h; sound = client_sound k j slots m S c ps own (early_stored k j slots m c.0 ps S.locks l) }

  pub begin_kept : u phase ≡ 0 → Fine (Steps.begin z m c.0)
  unfolding Steps.begin
  begin_kept e = early Done refl (Life.reset 1 u) (omega (arith, e)) (reset_part slots u part 1 (omega arith))

  pub give_kept : (n : Step) → u phase ≡ 1 → (1 ≤ n.op) × (n.op ≤ 7) → n.key < two_to_64 → n.value < two_to_64 → n.server < two_to_64
      → (n.op ≡ 6 → (in_store slots n.key ≡ true) × (n.server < 8)) → (n.op ≡ 7 → (1 ≤ n.value) × (n.value ≤ 32)) → Fine (Steps.give z m c.0 n)
  unfolding Steps.give
  give_kept n e o key value home there listed =
      early Done refl (Life.give_part n.op n.key n.value n.server u) (omega (arith, e))
      (give_part_sound slots u part n.op n.key n.value n.server o.1 key value home there listed)

  pub commit_kept : u phase ≡ 1 → Fine (Steps.commit z m c.0)
  unfolding Steps.commit
  commit_kept e =
      if_kept k j slots m (fit_to_commit slots u) _ (fits_to_commit slots u part)
      (one_of Fine (eqb (participants_of u) 0) _ _
      (λ _. early Committed refl (Life.reset 0 u) (omega (arith, e)) (reset_part slots u part 0 (omega arith)))
      (λ _. early Done refl (committing u) (omega (arith, e)) (commit_part slots u part)))

  -- loss without a transaction, and after the decision
  forget_kept : u phase ≡ 0 → Fine (Steps.forgetting z m c.0 m)
  forget_kept e = early Done refl (drop_all u) (omega (arith, e)) (forget_part slots u part)

  lose_kept : Fine (did Done (over (client c.0) (Life.lose_part u)))
  lose_kept = record {
    passes = accepted Done refl;
    sound = client_sound k j slots m S c (Life.lose_part u) (lose_part_sound slots u part) (lost_locks k j slots m c.0 S.locks);
  }

  -- ---- ABORT, of an undecided transaction
  module _ (al : slots ≤ 1024) (few : suc j ≤ 16) (L : Ledger) (M : P.Machine (T k j slots)) (R : Related k j slots m L M) (open_still : (u phase ≡ 1) ⊎ (u phase ≡ 2)) where
    module _ (us : List ℕ) where
      abbrev m' : Address → ℕ
      m' = aborted k j slots m c.0 us

      still : (s : Fin 8) → ServerSound slots s.0 (changed places (server_of m s.0) (given_back k j slots m c.0 us s.0))
      unfolding changed
      still s = go (bit (u prepared) s.0)
        where
          p : Place → ℕ
          p = server_of m s.0

          go : (b : Bool)
              → ServerSound slots s.0 (changed places p (cond b (unlock_each u c.0 (lowest_participant z m c.0) s.0 p) []))
          go true = unlock_each_sound slots s.0 u c.0 (lowest_participant z m c.0) s.0 p (S.servers s)
          go false = S.servers s

      abort_sound : SoundStore k j slots m'
      abort_sound = record {
        parts = parts_sound k j slots m S m' c
            (subst (PartSound slots) (sym (aborted_client k j slots m c.0 us)) (abort_part_sound slots u part us))
            (λ d n. aborted_others k j slots m c.0 us d.0 (away k j slots c d n));
        servers = λ s. subst (ServerSound slots s.0) (sym (aborted_server k j slots m c.0 us s.0 s.1)) (still s);
        locks = abort_locks k j slots al few m L M c R (part_fits slots u part) S.locks us open_still;
      }

    pub abort_kept : (y : ℕ) (us : List ℕ) → Fine (Steps.abort z m c.0 y us)
    unfolding Steps.abort
    abort_kept y us =
        if_kept k j slots m (abort_fits z m c.0) _
        (abort_judged k j slots few m S al c (M.slots c) (R.clients c).slot open_still)
        (record { passes = accepted (Aborted y) refl; sound = abort_sound us })

-- ---- LOSS: before the decision an abort, and then all copies go
module _ (k j slots : ℕ) (al : slots ≤ 1024) (few : suc j ≤ 16) (m : Address → ℕ) (S : SoundStore k j slots m) (c : Fin (suc j)) (L : Ledger) (M : P.Machine (T k j slots)) (R : Related k j slots m L M) where
  abbrev z₁ : Sizes
  z₁ = store k j slots

  abbrev u₁ : ClientWord → ℕ
  u₁ = client_of m c.0

  pub loss_kept : (u₁ phase ≤ 3) → Kept k j slots m (Steps.lose z₁ m c.0)
  unfolding Steps.lose
  loss_kept l =
      one_of (Kept k j slots m) (eqb (u₁ phase) 0) _ _ (λ q. forget_kept k j slots m S c (eqb-true (u₁ phase) 0 q))
      (λ q. one_of (Kept k j slots m) (eqb (u₁ phase) 3) _ _ (λ _. lose_kept k j slots m S c)
      (λ r. now (undecided_word (u₁ phase) q r l)))
    where
      now : (u₁ phase ≡ 1) ⊎ (u₁ phase ≡ 2)
          → Kept k j slots m (if_fit (leb (u₁ phase) 3 && abort_fits z₁ m c.0) (Steps.lose_undecided z₁ m c.0))
      now e =
          let fit = part_fits slots u₁ (S.parts c) in
          let b = abort_judged k j slots few m S al c (M.slots c) (R.clients c).slot e in
          let m₁ = changed whole m (aborting z₁ m c.0 []) in
          let S₁ = abort_sound k j slots m S c al few L M R e [] in
          let F = forget_kept k j slots m₁ S₁ c (abort_phase k j slots al few m L M c R fit S.locks [] e) in
          if_kept k j slots m (leb (u₁ phase) 3 && abort_fits z₁ m c.0) _ (rw (le-leb (u₁ phase) 3 l, b))
          (record {
            passes = accepted (Aborted 7) refl;
            sound = subst (SoundStore k j slots)
                (sym (changed_append whole (aborting z₁ m c.0 []) (over (client c.0) (drop_all (client_of m₁ c.0))) m)) F.sound;
          })
