-- Laws of the steps' code: a client's part that is lent on, and what a kind of step comes to.
use Rattle.std.specs.Prelude.{◌≡◌, refl, ℕ, ◌-◌, ◌*◌, ◌/◌, ◌≤◌, ◌<◌, length}
use Rattle.std.proofs.Math.Path.{sym, ap}
use Rattle.std.proofs.Common.{◌∙◌, arith}
use mathlib.Core.List.{List, ◌++◌}
use borrow.Rule.Slice.PartMut.{put_mid, mid_of}
use Rattle.memory.specs.Word.{view}
use Rattle.memory.proofs.Laws.Word.{view_length}
use Rattle.layout.specs.Space.{Put, changed, stored}
use Rattle.layout.proofs.Laws.Space.{AllValid}
use Rattle.layout.specs.Step.{Does, silent, stepped, and_then}
use Rattle.layout.proofs.Laws.Step.{stored_append, does_then, does_as, does_mem}
use Rattle.layout.specs.Part.{in_part, over}
use Rattle.layout.proofs.Laws.Part.{good_all, over_append}
use Rattle.client.specs.Layout.{ClientWord, client_words, client_block}
use Rattle.client.specs.Laws.Steps.{Good}
use Rattle.steps.specs.declared.sizes.Sizes.{Sizes}
use Rattle.steps.specs.declared.step.Step.{Step}
use Rattle.steps.specs.declared.outcome.Outcome.{Outcome}
use Rattle.steps.specs.declared.outcome.Outcome.TheVariants.{Refused, Done}
use Rattle.steps.specs.Whole.{Address, client, whole, block, words_for, client_at}
use Rattle.steps.proofs.Laws.Whole.{client_part}
use Rattle.steps.proofs.Laws.Stores.{client_of, client_changed}
use Rattle.steps.specs.Steps.{Did, did, refuse, begin, give}
use Rattle.kinds.specs.Parts.{StoreIn, stored_in}
use Rattle.kinds.specs.Laws.Parts.{client_back}
use Rattle.kinds.specs.Kinds.{Meets}
use Rattle.client.specs.Life as L

abbrev Rule : Type 0
Rule = (ClientWord → ℕ) → List (Put ClientWord)

-- the same stores in a client's part
pub client_as : (z : Sizes) (c k : ℕ) (f g : Rule) (b t : List ℕ) → c < z.clients → k ≡ client_at z c → words_for z ≤ length b / 8 → ((m : ClientWord → ℕ) → f m ≡ g m)
    → Does client_words client_block f silent (view (mid_of (8 * k) (length b - 8 * k) b)) 0 (view t)
    → Does whole (block z) (in_part (client c) g) silent (view b) 0 (view (put_mid (8 * k) (length b - 8 * k) b t))
unfolding in_part
client_as z c k f g b t h e l s d =
    does_as whole (block z) (in_part (client c) f) (in_part (client c) g) silent (view b) 0 (view (put_mid (8 * k) (length b - 8 * k) b t))
    (ap (over (client c)) (s (λ a. stored_in z (view b) (client c a)))) (client_back z c k f b t h e l d)

-- ---- what a kind comes to
module _ (z : Sizes) (w : List ℕ) (o : Outcome) (w' : List ℕ) where
  -- code that stores what the rule says and then answers
  pub meets_did : (g : (Address → ℕ) → List (Put Address)) → Does whole (block z) g silent w 0 w' → Meets z (λ m. did o (g m)) w o w'
  meets_did g d = record { answer = refl; words = d.words }

  -- the same rule on what is there
  pub meets_as : (f g : (Address → ℕ) → Did) → f (stored_in z w) ≡ g (stored_in z w) → Meets z f w o w' → Meets z g w o w'
  unfolding stepped
  meets_as f g e d =
      record { answer = d.answer ∙ ap (λ (x : Did). x.outcome) e; words = d.words ∙ ap (λ (x : Did). stored whole (block z) w x.stores) e }

-- "changes no byte"
pub meets_refused : (z : Sizes) (w : List ℕ) (n : ℕ) (g : (Address → ℕ) → Did) → refuse n ≡ g (stored_in z w) → Meets z g w (Refused n) w
unfolding stepped stored
meets_refused z w n g e = meets_as z w (Refused n) w (λ m. refuse n) g e (record { answer = refl; words = refl })

module _ (z : Sizes) (c : ℕ) where
  -- stores that lie in the whole and leave the client's part alone
  pub record Apart (f : (Address → ℕ) → List (Put Address)) (m : Address → ℕ) : Type 0 where
    pub valid : AllValid whole (block z) (f m)
    pub stays : client_of (changed whole m (f m)) c ≡ client_of m c

  -- and then stores in the client's part
  pub then_client : (f : (Address → ℕ) → List (Put Address)) (g : Rule) (b₀ b b' : List ℕ) → StoreIn z (length b₀) → Apart f (stored_in z (view b₀))
      → Does whole (block z) f silent (view b₀) 0 (view b) → Does whole (block z) (in_part (client c) g) silent (view b) 0 (view b')
      → Does whole (block z) (λ m. f m ++ in_part (client c) g m) silent (view b₀) 0 (view b')
  unfolding stepped in_part words_for
  then_client f g b₀ b b' hold ok p q =
      let m = stored_in z (view b₀) in
      let e : stored_in z (view b) ≡ changed whole m (f m) = does_mem whole (block z) f silent (view b₀) 0 (view b) p (omega (arith, hold.room, view_length b₀)) ok.valid in
      let h : client_of (stored_in z (view b)) c ≡ client_of m c = ap (λ (u : Address → ℕ). client_of u c) e ∙ ok.stays in
      record {
        answer = refl;
        words = q.words ∙ ap (λ (u : ClientWord → ℕ). stored whole (block z) (view b) (over (client c) (g u))) h
            ∙ ap (λ (u : List ℕ). stored whole (block z) u (over (client c) (g (client_of m c)))) p.words
            ∙ sym (stored_append whole (block z) (f m) (over (client c) (g (client_of m c))) (view b₀));
      }

  -- two steps in the client's part
  in_then : (f g : Rule) (m : Address → ℕ) → in_part (client c) (and_then client_words f g) m ≡ and_then whole (in_part (client c) f) (in_part (client c) g) m
  unfolding in_part and_then
  in_then f g m =
      let u = client_of m c in
      over_append (client c) (f u) (g (changed client_words u (f u)))
      ∙ ap (λ (v : ClientWord → ℕ). over (client c) (f u) ++ over (client c) (g v)) (sym (client_changed m c (f u)))

  -- stores in the client's part lie in the whole
  pub client_inside : (g : Rule) (m : Address → ℕ) → c < z.clients → Good g → AllValid whole (block z) (in_part (client c) g m)
  unfolding in_part
  client_inside g m h ok =
      good_all client_words client_block whole (block z) (client c) (client_at z c) (client_part z c h) (g (client_of m c)) (ok.all (client_of m c))

  pub client_both : (f g : Rule) (b₀ b b' : List ℕ) → StoreIn z (length b₀) → c < z.clients → Good f
      → Does whole (block z) (in_part (client c) f) silent (view b₀) 0 (view b) → Does whole (block z) (in_part (client c) g) silent (view b) 0 (view b')
      → Does whole (block z) (in_part (client c) (and_then client_words f g)) silent (view b₀) 0 (view b')
  unfolding words_for
  client_both f g b₀ b b' hold h ok p q =
      let m = stored_in z (view b₀) in
      let d = does_then whole (block z) (in_part (client c) f) (in_part (client c) g) silent silent (view b₀) (view b) (view b') 0 0
      (omega (arith, hold.room, view_length b₀)) (client_inside f m h ok) p q in
      does_as whole (block z) (and_then whole (in_part (client c) f) (in_part (client c) g)) (in_part (client c) (and_then client_words f g)) silent (view b₀) 0 (view b')
      (sym (in_then f g m)) (record { answer = refl; words = d.words })

-- ---- begin, give
module _ (z : Sizes) (c : ℕ) (w w' : List ℕ) where
  pub begun : Does whole (block z) (in_part (client c) (L.reset 1)) silent w 0 w' → Meets z (λ m. begin z m c) w Done w'
  unfolding begin in_part
  begun d = record { answer = refl; words = d.words }

  pub was_given : (k : Step) → Does whole (block z) (in_part (client c) (L.give_part k.op k.key k.value k.server)) silent w 0 w'
      → Meets z (λ m. give z m c k) w Done w'
  unfolding give in_part
  was_given k d = record { answer = refl; words = d.words }
