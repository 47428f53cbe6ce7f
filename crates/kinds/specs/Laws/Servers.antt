-- Laws of the code that asks which servers there are.
use Rattle.std.specs.Prelude.{◌≡◌, Bool, List, eqb, get_or}
use Rattle.std.proofs.Math.Path.{refl, sym, ap}
use Rattle.std.proofs.Common.{◌∙◌, mod-lt}
use Rattle.std.proofs.Math.Bool.{true, false, not}
use Prim.Native.Nat.{ℕ, zero, suc, ◌+◌, ◌-◌, ◌%◌, ◌≤◌, ◌<◌}
use native.Mathlib.Omega.{arith}
use borrow.Author.Tests.{eq-eqb, ne_eqb, lt-ltb, le-ltb}
use Rattle.std.proofs.Math.Dec.{leb}
use Rattle.layout.proofs.Laws.Space.{get_or_tab}
use Rattle.nodes.specs.Name.{slot_of}
use Rattle.nodes.specs.States.{is_present, is_open, is_closing}
use Rattle.nodes.specs.declared.node.Node.{Node}
use Rattle.server.specs.declared.hand_out.Metadata.{Metadata}
use Rattle.server.specs.declared.place.Place.{Place}
use Rattle.server.specs.declared.place.Place.TheVariants.{States, Vector}
use Rattle.server.specs.HandOut.{metadata_at, vector_at, node_here}
use Rattle.client.specs.Layout.{ClientWord, field}
use Rattle.client.specs.Items.{all_below, any_below}
use Rattle.client.specs.Laws.Commit.{any_next, any_here}
use Rattle.steps.specs.declared.sizes.Sizes.{Sizes}
use Rattle.steps.specs.declared.step.ServerChange.{ServerChange}
use Rattle.steps.specs.declared.step.ServerChange.TheVariants.{Add, Close, Remove}
use Rattle.steps.specs.Whole.{Address, server}
use Rattle.steps.specs.Servers.{first_from, there, lowest_there, metadata_source, other_open, another_open, state_suits, any_taken, version_ends, unended, quiet}
use Rattle.steps.specs.Steps.{node_at}
use Rattle.kinds.specs.Parts.{StoreIn, stored_in}
use Rattle.kinds.specs.Judge.{of_client, of_server}
use Rattle.kinds.specs.Servers.{nonzero}

-- ---- a node read where m is what its server's part holds
pub node_there : (m q : Place → ℕ) (n k : ℕ) (r : Node) → m ≡ q → k ≡ slot_of n → r ≡ node_here k m → r ≡ node_at q n
unfolding node_here node_at
node_there m q n k r e p h = h ∙ rw (p, e) refl

-- ---- a server's state
pub states_there : (z : Sizes) (w : List ℕ) (s : ℕ) (r : Metadata) → r ≡ metadata_at (of_server z w s) → r.states ≡ stored_in z w (server s States)
unfolding metadata_at
states_there z w s r e = ap (λ (x : Metadata). x.states) e

module _ (m : Address → ℕ) (s x : ℕ) (e : x ≡ m (server s States)) (r : Bool) where
  pub by_present : r ≡ is_present x s → r ≡ there m s
  unfolding there
  by_present h = h ∙ rw e

  pub other_by : (t : ℕ) → ¬ (s ≡ t) → r ≡ is_open x s → r ≡ other_open m t s
  unfolding other_open
  other_by t n h = h ∙ rw (e, ne_eqb s t n)

pub other_same : (m : Address → ℕ) (s t : ℕ) → s ≡ t → false ≡ other_open m t s
unfolding other_open
other_same m s t e = rw (eq-eqb s t e)

-- ---- the first server not absent
pub record Counting (f : ℕ → Bool) (first i : ℕ) : Type 0 where
  pub same : first_from f 8 first ≡ first_from f (8 - i) (first + i)

module _ (f : ℕ → Bool) (first : ℕ) where
  pub count_starts : Counting f first 0
  count_starts = let e : first + 0 ≡ first = omega arith in record { same = rw e refl }

  module _ (i : ℕ) (c : Counting f first i) (l : i < 8) (b : Bool) (e : b ≡ f ((first + i) % 8)) where
    next : first_from f (8 - i) (first + i) ≡ first_from f (suc (8 - (i + 1))) (first + i)
    next = let q : 8 - i ≡ suc (8 - (i + 1)) = omega arith in ap (λ (n : ℕ). first_from f n (first + i)) q

    pub count_finds : b ≡ true → (first + i) % 8 ≡ first_from f 8 first
    unfolding first_from
    count_finds t = sym (c.same ∙ next ∙ rw (← e, t))

    pub count_goes_on : b ≡ false → Counting f first (i + 1)
    unfolding first_from
    count_goes_on t = let q : first + (i + 1) ≡ suc (first + i) = omega arith in record { same = c.same ∙ next ∙ rw (← e, t, q) }

  pub count_ends : (i : ℕ) → Counting f first i → 8 ≤ i → 8 ≡ first_from f 8 first
  unfolding first_from
  count_ends i c l = let q : 8 - i ≡ 0 = omega arith in sym (c.same ∙ ap (λ (n : ℕ). first_from f n (first + i)) q)

pub ruleset counting = (count_starts, count_finds, count_goes_on, count_ends)

pub by_lowest : (m : Address → ℕ) (r : ℕ) → r ≡ first_from (there m) 8 0 → r ≡ lowest_there m
unfolding lowest_there
by_lowest m r h = h

-- the old one is one of eight
pub old_one : (z : Sizes) (n c : ℕ) → StoreIn z n → c % z.servers < 8
old_one z n c h = omega (arith, h.allowed.servers, mod-lt c {m = z.servers} (omega (arith, h.allowed.servers)))

pub by_source : (m : Address → ℕ) (z : Sizes) (c r : ℕ) → r ≡ first_from (there m) 8 (c % z.servers) → r ≡ metadata_source m z c
unfolding metadata_source
by_source m z c r h = h

-- ---- 13
pub another_by : (m : Address → ℕ) (s : ℕ) (r : Bool) → r ≡ any_below 8 (other_open m s) → r ≡ another_open m s
unfolding another_open
another_by m s r h = h

module _ (m : Address → ℕ) (s x : ℕ) (e : x ≡ m (server s States)) (c : ServerChange) where
  pub add_suits : (r : Bool) → c ≡ Add → r ≡ is_present x s → not r ≡ state_suits m s c
  unfolding state_suits there
  add_suits r q h = rw (q, h, e)

  pub close_shut : (r : Bool) → c ≡ Close → r ≡ is_open x s → r ≡ false → r ≡ state_suits m s c
  unfolding state_suits
  close_shut r q h t = t ∙ rw (q, ← e, ← h, t)

  pub close_suits : (r a : Bool) → c ≡ Close → r ≡ is_open x s → r ≡ true → a ≡ another_open m s → a ≡ state_suits m s c
  unfolding state_suits
  close_suits r a q h t k = k ∙ rw (q, ← e, ← h, t)

  pub remove_suits : (r : Bool) → c ≡ Remove → r ≡ is_closing x s → r ≡ state_suits m s c
  unfolding state_suits
  remove_suits r q h = h ∙ rw (q, e)

pub ruleset suits_exits = (add_suits, close_shut, close_suits, remove_suits)

-- ---- 14
same_any : (f g : ℕ → Bool) (n : ℕ) → ((i : ℕ) → i < n → f i ≡ g i) → any_below n f ≡ any_below n g
unfolding any_below
same_any f g zero h = refl
same_any f g (suc n) h = rw (same_any f g n (λ i l. h i (omega arith)), h n (omega arith))

pub taken_by : (m : Address → ℕ) (s : ℕ) (ws : List ℕ) (r : Bool) → ws ≡ vector_at (λ a. m (server s a)) → r ≡ any_below 16 (nonzero ws) → r ≡ any_taken m s
unfolding any_taken vector_at
taken_by m s ws r e h =
    h ∙ same_any (nonzero ws) (λ i. not (eqb (m (server s (Vector i))) 0)) 16
    (λ i l. ap (λ (x : ℕ). not (eqb x 0)) (ap (λ (v : List ℕ). get_or v i 0) e ∙ get_or_tab 16 (λ j. m (server s (Vector j))) i l))

module _ (ws : List ℕ) (i : ℕ) where
  pub word_free : any_below i (nonzero ws) ≡ false → get_or ws i 0 ≡ 0 → any_below (i + 1) (nonzero ws) ≡ false
  word_free h q = any_next (nonzero ws) i false h (sym (ap (λ (y : ℕ). not (eqb y 0)) q)) refl

  pub word_taken : i < 16 → (get_or ws i 0 ≡ 0 → ⊥) → true ≡ any_below 16 (nonzero ws)
  word_taken l n = any_here (nonzero ws) i 16 true l (sym (rw (ne_eqb (get_or ws i 0) 0 n))) refl

-- ---- 15
module _ (z : Sizes) (w : List ℕ) (s : ℕ) (e : s ≡ lowest_there (stored_in z w)) where
  pub none_ends : 8 ≤ s → false ≡ version_ends (stored_in z w)
  unfolding version_ends
  none_ends l = rw (← e, le-ltb _ _ l)

  pub ends_by : (r : Metadata) → s < 8 → r ≡ metadata_at (of_server z w s) → leb 4294967295 r.version ≡ version_ends (stored_in z w)
  unfolding version_ends metadata_at
  ends_by r l q = rw (← e, lt-ltb _ _ l) (ap (λ (x : Metadata). leb 4294967295 x.version) q)

-- ---- 9
module _ (m : ClientWord → ℕ) (p : ℕ) (e : p ≡ m (field 0)) where
  pub loud_decided : p ≡ 3 → false ≡ not (unended m)
  unfolding unended
  loud_decided q = rw (← e, eq-eqb p 3 q)

  module _ (n : ¬ (p ≡ 3)) where
    pub quiet_open : ¬ (p ≡ 2) → true ≡ not (unended m)
    unfolding unended
    quiet_open q = rw (← e, ne_eqb p 3 n, ne_eqb p 2 q)

    pub quiet_unprepared : (x : ℕ) → p ≡ 2 → x ≡ m (field 6) → eqb x 0 ≡ not (unended m)
    unfolding unended
    quiet_unprepared x q h = rw (← e, ne_eqb p 3 n, eq-eqb p 2 q, ← h) (twice (eqb x 0))
      where
        twice : (b : Bool) → b ≡ not (not b)
        twice true = refl
        twice false = refl

pub ruleset quiet_exits = (loud_decided, quiet_open, quiet_unprepared)

abbrev pub ended_at : Sizes → List ℕ → ℕ → Bool
ended_at z w c = not (unended (of_client z w c))

pub quiet_by : (z : Sizes) (w : List ℕ) (n : ℕ) (r : Bool) → n ≡ z.clients → r ≡ all_below n (ended_at z w) → r ≡ quiet z (stored_in z w)
unfolding quiet
quiet_by z w n r e h = h ∙ rw e
