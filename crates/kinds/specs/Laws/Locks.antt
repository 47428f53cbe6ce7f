-- Laws of the locks' code: one rule at each object read that passes a test, one after another, in one server's part.
use Rattle.std.specs.Prelude.{◌≡◌, Bool, cond, List, [], ◌++◌, ℕ, suc, ◌+◌, ◌-◌, ◌*◌, ◌/◌, ◌≤◌, ◌<◌, length}
use Rattle.std.proofs.Math.Path.{refl, sym, ap, subst}
use Rattle.std.proofs.Common.{◌∙◌, add-one}
use Rattle.std.proofs.Math.Bool.{true, false}
use native.Mathlib.Omega.{arith}
use borrow.Rule.Slice.PartMut.{put_mid, mid_of}
use Rattle.memory.specs.Word.{view}
use Rattle.memory.proofs.Laws.Word.{view_length}
use Rattle.layout.specs.Space.{changed, stored}
use Rattle.layout.proofs.Laws.Space.{AllValid}
use Rattle.layout.specs.Step.{Does, silent, stepped, and_then}
use Rattle.layout.proofs.Laws.Step.{does_then, does_as, does_mem}
use Rattle.layout.specs.Part.{over, in_part}
use Rattle.layout.proofs.Laws.Part.{good_all, over_append}
use Rattle.layout.specs.Sweep.{sweep}
use Rattle.layout.proofs.Laws.Sweep.{sweep_valid}
use Rattle.server.specs.declared.place.Place.{Place}
use Rattle.nodes.specs.declared.object.Object.{Object}
use Rattle.nodes.specs.Object.{object_of}
use Rattle.server.specs.Object.{Has}
use Rattle.server.specs.Store.{lock_step, unlock_step}
use Rattle.client.specs.declared.part.Set.TheVariants.{Reads}
use Rattle.client.specs.Layout.{ClientWord}
use Rattle.client.specs.Sets.{count, number_at}
use Rattle.steps.specs.declared.sizes.Sizes.{Sizes}
use Rattle.kinds.specs.declared.locks.Change.{Change}
use Rattle.kinds.specs.declared.locks.Change.TheVariants.{Lock, Unlock}
use Rattle.steps.specs.Whole.{Address, server, client, whole, block, words_for, server_at}
use Rattle.steps.proofs.Laws.Whole.{server_part}
use Rattle.steps.proofs.Laws.Stores.{server_changed, server_clients}
use Rattle.steps.specs.Uses.{Item, item_object, item_of, locked_at}
use Rattle.steps.specs.Judge.{lowest_participant}
use Rattle.kinds.specs.Parts.{StoreIn, stored_in}
use Rattle.kinds.specs.Laws.Parts.{server_back}
use Rattle.kinds.specs.Items.{as_item, read_item}
use Rattle.kinds.specs.Judge.{of_client}
use Rattle.kinds.specs.Fits.{Known}
use Rattle.kinds.specs.Locks.{Rule, rule, passing, upto, changes, Done, Knows, Turn}
use Rattle.server.specs.Layout as Srv
use Rattle.kinds.specs.declared.items.Item as code

-- ---- in the whole
in_then : (s : ℕ) (f g : Rule) (m : Address → ℕ) → in_part (server s) (and_then Srv.places f g) m ≡ and_then whole (in_part (server s) f) (in_part (server s) g) m
unfolding in_part and_then
in_then s f g m =
    let p : Place → ℕ = λ a. m (server s a) in
    over_append (server s) (f p) (g (changed Srv.places p (f p)))
    ∙ ap (λ (u : Place → ℕ). over (server s) (f p) ++ over (server s) (g u)) (sym (server_changed m s (f p)))

pub done_as : (z : Sizes) (s : ℕ) (f g : Rule) (w w' : List ℕ) → ((m : Place → ℕ) → f m ≡ g m) → Done z s f w w' → Done z s g w w'
unfolding in_part
done_as z s f g w w' e d =
    does_as whole (block z) (in_part (server s) f) (in_part (server s) g) silent w 0 w' (ap (over (server s)) (e (λ a. stored_in z w (server s a)))) d

-- stores that lie in the part, whatever it holds
pub record Inside (z : Sizes) (f : Rule) : Type 0 where
  pub all : (u : Place → ℕ) → AllValid Srv.places (Srv.server_block z.slots) (f u)

module _ (z : Sizes) (s : ℕ) (h : s < 8) where
  pub in_whole : (f : Rule) (m : Address → ℕ) → Inside z f → AllValid whole (block z) (in_part (server s) f m)
  unfolding in_part
  in_whole f m ok =
      good_all Srv.places (Srv.server_block z.slots) whole (block z) (server s) (server_at z s) (server_part z s h) (f (λ a. m (server s a))) (ok.all (λ a. m (server s a)))

  pub done_then : (f g : Rule) (w w₁ w₂ : List ℕ) → words_for z ≤ length w → Inside z f → Done z s f w w₁ → Done z s g w₁ w₂ → Done z s (and_then Srv.places f g) w w₂
  unfolding words_for
  done_then f g w w₁ w₂ l ok p q =
      let m = stored_in z w in
      let d = does_then whole (block z) (in_part (server s) f) (in_part (server s) g) silent silent w w₁ w₂ 0 0 l (in_whole f m ok) p q in
      does_as whole (block z) (and_then whole (in_part (server s) f) (in_part (server s) g)) (in_part (server s) (and_then Srv.places f g)) silent w 0 w₂
      (sym (in_then s f g m)) (record { answer = refl; words = d.words })

  -- clients' parts stay
  pub clients_stay : (f : Rule) (w w₁ : List ℕ) (c : ℕ) → words_for z ≤ length w → Inside z f → Done z s f w w₁ → of_client z w₁ c ≡ of_client z w c
  unfolding words_for in_part
  clients_stay f w w₁ c l ok p =
      let m = stored_in z w in
      let e : stored_in z w₁ ≡ changed whole m (over (server s) (f (λ a. m (server s a)))) = does_mem whole (block z) (in_part (server s) f) silent w 0 w₁ p l (in_whole f m ok) in
      ap (λ (u : Address → ℕ). λ a. u (client c a)) e ∙ server_clients m s (f (λ a. m (server s a))) c

-- ---- one object; the part was lent and came back
pub rule_back : (z : Sizes) (s k x : ℕ) (o : Object) (f : Object → Rule) (b t : List ℕ) → s < 8 → k ≡ server_at z s → words_for z ≤ length b / 8 → o ≡ object_of x
    → Does Srv.places (Srv.server_block z.slots) (f o) silent (view (mid_of (8 * k) (length b - 8 * k) b)) 0 (view t)
    → Done z s (f (object_of x)) (view b) (view (put_mid (8 * k) (length b - 8 * k) b t))
rule_back z s k x o f b t h e l p d =
    subst (λ (y : Object). Done z s (f y) (view b) (view (put_mid (8 * k) (length b - 8 * k) b t))) p (server_back z s k (f o) b t h e l d)

module _ (z : Sizes) (s c : ℕ) (w w' : List ℕ) where
  pub now_lock : (i : code.Item) (k : Change) → k ≡ Lock → Done z s (lock_step (object_of i.number) i.written c) w w' → Done z s (rule k c (as_item i)) w w'
  unfolding rule
  now_lock i k e d = subst (λ (x : Change). Done z s (rule x c (as_item i)) w w') (sym e) d

  pub now_unlock : (i : code.Item) (k : Change) → k ≡ Unlock → Done z s (unlock_step (object_of i.number) c) w w' → Done z s (rule k c (as_item i)) w w'
  unfolding rule
  now_unlock i k e d = subst (λ (x : Change). Done z s (rule x c (as_item i)) w w') (sym e) d

  module _ (low : ℕ) (i : code.Item) (k : Change) (b : Bool) (e : b ≡ locked_at low s (as_item i)) where
    pub is_passing : b ≡ true → Done z s (rule k c (as_item i)) w w' → Done z s (passing (locked_at low s) (rule k c) (as_item i)) w w'
    unfolding passing
    is_passing t d =
        let q : locked_at low s (as_item i) ≡ true = sym e ∙ t in
        done_as z s (rule k c (as_item i)) (passing (locked_at low s) (rule k c) (as_item i)) w w' (λ m. sym (rw q)) d

  pub not_passing : (low : ℕ) (i : code.Item) (k : Change) (b : Bool) → b ≡ locked_at low s (as_item i) → b ≡ false → Done z s (passing (locked_at low s) (rule k c) (as_item i)) w w
  unfolding stepped stored in_part over passing
  not_passing low i k b e t = record { answer = refl; words = rw (← e, t) }

-- ---- the loop over the objects read
unfoldable pub Changed : Sizes → ℕ → ℕ → Change → ℕ → List ℕ → ℕ → List ℕ → Type 0
Changed z c s k low w i w' = Done z s (upto (rule k c) (locked_at low s) (read_item (of_client z w c)) i) w w'

pub nth_known : (z : Sizes) (w : List ℕ) (c i : ℕ) (t : code.Item) → Knows z w c i → as_item t ≡ read_item (of_client z w c) i → Has z.slots (object_of t.number)
unfolding Knows read_item item_of
nth_known z w c i t h q = subst (λ (x : ℕ). Has z.slots (object_of x)) (sym (ap (λ (u : Item). u.number) q)) h

pub nth_turn : (z : Sizes) (c s low i : ℕ) (k : Change) (w w' : List ℕ) (t : code.Item) → as_item t ≡ read_item (of_client z w c) i
    → Done z s (passing (locked_at low s) (rule k c) (as_item t)) w w' → Turn z c s k low i w w'
unfolding Turn
nth_turn z c s low i k w w' t q d = subst (λ (u : Item). Done z s (passing (locked_at low s) (rule k c) u) w w') q d

pub rule_inside : (z : Sizes) (c : ℕ) (k : Change) (i : Item) → Has z.slots (item_object i) → Inside z (rule k c i)
unfolding rule lock_step unlock_step AllValid
rule_inside z c Lock i h = record { all = λ u. (h, tt) }
rule_inside z c Unlock i h = record { all = λ u. (h, tt) }

module _ (z : Sizes) (g : Item → Rule) (t : Item → Bool) where
  passing_inside : (i : Item) → Inside z (g i) → Inside z (passing t g i)
  unfolding passing AllValid
  passing_inside i ok = record { all = λ u. go (t i) u }
    where
      go : (b : Bool) (u : Place → ℕ) → AllValid Srv.places (Srv.server_block z.slots) (cond b (g i u) [])
      go true u = ok.all u
      go false u = tt

  pub upto_inside : (h : ℕ → Item) (n : ℕ) → ((j : ℕ) → j < n → Inside z (g (h j))) → Inside z (upto g t h n)
  unfolding upto
  upto_inside h n ok =
      record { all = λ u. sweep_valid Srv.places (Srv.server_block z.slots) (λ i. passing t g (h i)) n u (λ j v l. (passing_inside (h j) (ok j l)).all v) }

module _ (z : Sizes) (c s low : ℕ) (k : Change) where
  pub changed_none : (w : List ℕ) → Changed z c s k low w 0 w
  unfolding Changed stepped stored in_part over upto sweep
  changed_none w = record { answer = refl; words = refl }

  module _ (b₀ b : List ℕ) (n i : ℕ) (hold : StoreIn z (length b₀)) (known : Known z (view b₀) c) (en : n ≡ count (of_client z (view b₀) c) Reads) (ok : s < 8) (l : i < n) (so : Changed z c s k low (view b₀) i (view b)) where
    room : words_for z ≤ length (view b₀)
    room = omega (arith, hold.room, view_length b₀)

    inside : Inside z (upto (rule k c) (locked_at low s) (read_item (of_client z (view b₀) c)) i)
    unfolding read_item item_of
    inside =
        upto_inside z (rule k c) (locked_at low s) (read_item (of_client z (view b₀) c)) i
        (λ j h. rule_inside z c k (read_item (of_client z (view b₀) c) j) (known.known j (omega arith)))

    stay : of_client z (view b) c ≡ of_client z (view b₀) c
    unfolding Changed
    stay = clients_stay z s ok (upto (rule k c) (locked_at low s) (read_item (of_client z (view b₀) c)) i) (view b₀) (view b) c room inside so

    pub changed_known : Knows z (view b) c i
    unfolding Knows
    changed_known = subst (λ (m : ClientWord → ℕ). Has z.slots (object_of (number_at m Reads i))) (sym stay) (known.known i (omega arith))

    pub changed_next : (b' : List ℕ) → Turn z c s k low i (view b) (view b') → Changed z c s k low (view b₀) (i + 1) (view b')
    unfolding Changed Turn upto sweep
    changed_next b' d =
        let f = upto (rule k c) (locked_at low s) (read_item (of_client z (view b₀) c)) i in
        let g = passing (locked_at low s) (rule k c) (read_item (of_client z (view b₀) c) i) in
        let d' : Done z s g (view b) (view b') = subst (λ (m : ClientWord → ℕ). Done z s (passing (locked_at low s) (rule k c) (read_item m i)) (view b) (view b')) stay d in
        subst (λ (j : ℕ). Changed z c s k low (view b₀) j (view b')) (sym (add-one i))
        (done_as z s (and_then Srv.places f g) (upto (rule k c) (locked_at low s) (read_item (of_client z (view b₀) c)) (suc i)) (view b₀) (view b')
        (λ m. refl) (done_then z s ok f g (view b₀) (view b) (view b') room inside so d'))

  pub changed_all : (n i : ℕ) (w w' : List ℕ) → i ≤ n → n ≤ i → n ≡ count (of_client z w c) Reads → low ≡ lowest_participant z (stored_in z w) c → Changed z c s k low w i w'
      → Does whole (block z) (changes z c s k) silent w 0 w'
  unfolding Changed changes in_part
  changed_all n i w w' a b en el d =
      let e : i ≡ count (of_client z w c) Reads = omega arith in
      does_as whole (block z) (in_part (server s) (upto (rule k c) (locked_at low s) (read_item (of_client z w c)) i)) (changes z c s k) silent w 0 w' (rw (e, el)) d

pub ruleset change_exits = (now_lock, now_unlock, is_passing, not_passing, nth_known, nth_turn)
