-- Laws of an apply's code.
use Rattle.std.specs.Prelude.{◌≡◌, Bool, true, false, not, List, ◌++◌, ℕ, ◌≤◌, ◌<◌, length}
use Rattle.std.proofs.Math.Path.{refl}
use Rattle.std.proofs.Common.{sym, ap, ◌∙◌, arith}
use borrow.Author.Tests.{not-true, not-false}
use Rattle.memory.specs.Word.{view}
use Rattle.memory.proofs.Laws.Word.{view_length}
use Rattle.memory.specs.Bit.{put_bit}
use Rattle.layout.specs.Space.{Put, changed}
use Rattle.layout.specs.Step.{Does, silent, and_then}
use Rattle.layout.proofs.Laws.Step.{does_as, valid_append}
use Rattle.layout.specs.Part.{over, in_part}
use Rattle.server.specs.declared.place.Place.{Place}
use Rattle.client.specs.declared.part.Set.TheVariants.{Reads, Writes}
use Rattle.client.specs.Layout.{ClientWord, client_words, field}
use Rattle.client.specs.Sets.{count}
use Rattle.client.specs.Participants.{lowest_of}
use Rattle.client.specs.Course.{noted}
use Rattle.client.specs.Renew.{finish}
use Rattle.client.specs.Fits.{fit_to_apply}
use Rattle.client.specs.Laws.Steps.{Good, good_field}
use Rattle.client.specs.Part.{put_word}
use Rattle.steps.specs.declared.sizes.Sizes.{Sizes}
use Rattle.steps.specs.declared.outcome.Outcome.{Outcome}
use Rattle.steps.specs.declared.outcome.Outcome.TheVariants.{Refused, Applied, Committed}
use Rattle.kinds.specs.declared.locks.Change.TheVariants.{Unlock}
use Rattle.steps.specs.Whole.{server, client, whole, block, words_for}
use Rattle.steps.proofs.Laws.Stores.{server_clients}
use Rattle.steps.specs.Uses.{item_of, locked_at}
use Rattle.steps.specs.Judge.{unlock_fits}
use Rattle.steps.specs.Steps.{did, covers, store_all, all_applied, applied_at, apply}
use Rattle.kinds.specs.Parts.{StoreIn, stored_in}
use Rattle.kinds.specs.Items.{read_item}
use Rattle.kinds.specs.Judge.{of_client}
use Rattle.kinds.specs.Fits.{Known}
use Rattle.kinds.specs.Laws.Fits.{known_same}
use Rattle.kinds.specs.Kinds.{Meets}
use Rattle.kinds.specs.Laws.Kinds.{meets_did, meets_as, meets_refused, Apart, then_client, client_both}
use Rattle.kinds.specs.Locks.{rule, passing, upto, changes, Done}
use Rattle.kinds.specs.Laws.Locks.{Inside, in_whole, done_then, clients_stay, upto_inside, rule_inside}
use Rattle.kinds.specs.Writes.{Storing, stores}
use Rattle.kinds.specs.Laws.Writes.{writes_inside}
use Rattle.kinds.specs.Apply.{applies}
use Rattle.server.specs.Layout as Srv

abbrev Rule : Type 0
Rule = (Place → ℕ) → List (Put Place)

inside_then : (z : Sizes) (f g : Rule) → Inside z f → Inside z g → Inside z (and_then Srv.places f g)
unfolding and_then
inside_then z f g p q = record { all = λ u. valid_append Srv.places (Srv.server_block z.slots) (f u) (g (changed Srv.places u (f u))) (p.all u) (q.all (changed Srv.places u (f u))) }

module _ (z : Sizes) (c s : ℕ) (w : List ℕ) (known : Known z w c) (storing : Storing z w c s) where
  -- the writes, and the locks, as rules of the server
  abbrev writing : Rule
  writing = store_all (of_client z w c) s

  abbrev unlocking : (ClientWord → ℕ) → Rule
  unlocking m = upto (rule Unlock c) (locked_at (lowest_of 8 (m (field 5))) s) (read_item m) (count m Reads)

  writing_inside : Inside z writing
  writing_inside = writes_inside z c s w (count (of_client z w c) Writes) storing.written (omega arith)

  unlocking_inside : Inside z (unlocking (of_client z w c))
  unfolding read_item item_of
  unlocking_inside =
      let m = of_client z w c in
      upto_inside z (rule Unlock c) (locked_at (lowest_of 8 (m (field 5))) s) (read_item m) (count m Reads) (λ j l. rule_inside z c Unlock (read_item m j) (known.known j l))

pub applies_apart : (z : Sizes) (c s : ℕ) (w : List ℕ) → s < 8 → Known z w c → Storing z w c s → Apart z c (applies z c s) (stored_in z w)
unfolding applies rule passing upto read_item in_part
applies_apart z c s w h known storing =
    let f : Rule = and_then Srv.places (writing z c s w known storing) (unlocking z c s w known storing (of_client z w c)) in
    record {
      valid = in_whole z s h f (stored_in z w) (inside_then z (writing z c s w known storing) (unlocking z c s w known storing (of_client z w c)) (writing_inside z c s w known storing) (unlocking_inside z c s w known storing));
      stays = server_clients (stored_in z w) s (f (λ a. stored_in z w (server s a))) c;
    }

-- the client's part stays while its writes are stored
module _ (z : Sizes) (c s : ℕ) (b₀ b : List ℕ) (hold : StoreIn z (length b₀)) (known : Known z (view b₀) c) (storing : Storing z (view b₀) c s) (h : s < 8) (p : Does whole (block z) (stores z c s) silent (view b₀) 0 (view b)) where
  room : words_for z ≤ length (view b₀)
  room = omega (arith, hold.room, view_length b₀)

  done : Done z s (writing z c s (view b₀) known storing) (view b₀) (view b)
  unfolding stores in_part
  done = does_as whole (block z) (stores z c s) (in_part (server s) (writing z c s (view b₀) known storing)) silent (view b₀) 0 (view b) refl p

  stay : of_client z (view b) c ≡ of_client z (view b₀) c
  stay = clients_stay z s h (writing z c s (view b₀) known storing) (view b₀) (view b) c room (writing_inside z c s (view b₀) known storing) done

  pub still_known : Known z (view b) c
  still_known = known_same z c (view b₀) (view b) stay known

  pub is_applied : (b' : List ℕ) → Does whole (block z) (changes z c s Unlock) silent (view b) 0 (view b') → Does whole (block z) (applies z c s) silent (view b₀) 0 (view b')
  unfolding applies changes in_part rule passing upto read_item
  is_applied b' q =
      let f = writing z c s (view b₀) known storing in
      let g = unlocking z c s (view b₀) known storing in
      let q' : Done z s (g (of_client z (view b₀) c)) (view b) (view b') =
      does_as whole (block z) (changes z c s Unlock) (in_part (server s) (g (of_client z (view b₀) c))) silent (view b) 0 (view b')
      (ap (λ (m : ClientWord → ℕ). over (server s) (g m (λ a. stored_in z (view b) (server s a)))) stay) q in
      does_as whole (block z) (in_part (server s) (and_then Srv.places f (g (of_client z (view b₀) c)))) (applies z c s) silent (view b₀) 0 (view b') refl
      (done_then z s h f (g (of_client z (view b₀) c)) (view b₀) (view b) (view b') room (writing_inside z c s (view b₀) known storing) done q')

-- ---- the note, and the end
pub good_noted : (i s : ℕ) → i < 15 → Good (noted (field i) s)
unfolding noted put_word
good_noted i s h = record { all = λ m. (good_field i (put_bit true (m (field i)) s) h).all m }

module _ (z : Sizes) (c s : ℕ) (b₀ b b₁ : List ℕ) (hold : StoreIn z (length b₀)) (known : Known z (view b₀) c) (storing : Storing z (view b₀) c s) (h : s < 8) (last : Bool) (e : last ≡ covers 8 (of_client z (view b₀) c (field 5)) (put_bit true (of_client z (view b₀) c (field 7)) s)) (p : Does whole (block z) (applies z c s) silent (view b₀) 0 (view b)) (q : Does whole (block z) (in_part (client c) (noted (field 7) s)) silent (view b) 0 (view b₁)) where
  pub applied_one : last ≡ false → Meets z (λ m. applied_at z m c s) (view b₀) (Applied s) (view b₁)
  unfolding applied_at applies in_part
  applied_one t =
      meets_as z (view b₀) (Applied s) (view b₁) (λ m. did (Applied s) (applies z c s m ++ in_part (client c) (noted (field 7) s) m)) (λ m. applied_at z m c s) (sym (rw (← e, t)))
      (meets_did z (view b₀) (Applied s) (view b₁) (λ m. applies z c s m ++ in_part (client c) (noted (field 7) s) m)
      (then_client z c (applies z c s) (noted (field 7) s) b₀ b b₁ hold (applies_apart z c s (view b₀) h known storing) p q))

  pub applied_last : (b₂ : List ℕ) → c < z.clients → length b ≡ length b₀ → last ≡ true → Does whole (block z) (in_part (client c) finish) silent (view b₁) 0 (view b₂)
      → Meets z (λ m. applied_at z m c s) (view b₀) Committed (view b₂)
  unfolding applied_at applies in_part
  applied_last b₂ k l t r =
      let g = and_then client_words (noted (field 7) s) finish in
      meets_as z (view b₀) Committed (view b₂) (λ m. did Committed (applies z c s m ++ in_part (client c) g m)) (λ m. applied_at z m c s) (sym (rw (← e, t)))
      (meets_did z (view b₀) Committed (view b₂) (λ m. applies z c s m ++ in_part (client c) g m)
      (then_client z c (applies z c s) g b₀ b b₂ hold (applies_apart z c s (view b₀) h known storing) p
      (client_both z c (noted (field 7) s) finish b b₁ b₂ (record { allowed = hold.allowed; room = rw l hold.room }) k (good_noted 7 s (omega arith)) q r)))

-- ---- judged first
pub last_is : (z : Sizes) (c s : ℕ) (w : List ℕ) (last : Bool) → last ≡ covers 8 (of_client z w c (field 5)) (put_bit true (of_client z w c (field 7)) s)
    → last ≡ all_applied z (stored_in z w) c s
last_is z c s w last e = e

module _ (z : Sizes) (c s : ℕ) (w : List ℕ) (last b : Bool) (l : last ≡ all_applied z (stored_in z w) c s) (e : b ≡ fit_to_apply z.slots (of_client z w c) s last) where
  judged : b ≡ fit_to_apply z.slots (of_client z w c) s (all_applied z (stored_in z w) c s)
  judged = e ∙ ap (fit_to_apply z.slots (of_client z w c) s) l

  pub apply_unfit : not b ≡ true → Meets z (λ m. apply z m c s) w (Refused 10) w
  unfolding apply
  apply_unfit t = meets_refused z w 10 (λ m. apply z m c s) (sym (rw (← judged, not-true b t)))

  module _ (d : Bool) (f : d ≡ unlock_fits z (stored_in z w) c s) (t : not b ≡ false) where
    pub apply_locked : not d ≡ true → Meets z (λ m. apply z m c s) w (Refused 10) w
    unfolding apply
    apply_locked u = meets_refused z w 10 (λ m. apply z m c s) (sym (rw (← judged, not-false b t, ← f, not-true d u)))

    pub apply_fits : (o : Outcome) (w' : List ℕ) → not d ≡ false → Meets z (λ m. applied_at z m c s) w o w' → Meets z (λ m. apply z m c s) w o w'
    unfolding apply
    apply_fits o w' u r = meets_as z w o w' (λ m. applied_at z m c s) (λ m. apply z m c s) (sym (rw (← judged, not-false b t, ← f, not-false d u))) r
