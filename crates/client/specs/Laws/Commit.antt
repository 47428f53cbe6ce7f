-- The ways out of the functions on a commit.
use Rattle.std.specs.Prelude.{◌≡◌, Bool, cond, not, ◌||◌, eqb, leb}
use Rattle.std.proofs.Math.Path.{refl, sym, ap, fun_ext}
use Rattle.std.proofs.Common.{◌∙◌, true≢false, add-one}
use Rattle.std.proofs.Math.Bool.{true, false}
use Prim.Native.Nat.{ℕ, zero, suc, ◌+◌, ◌-◌, ◌≤◌, ◌<◌}
use Rattle.std.proofs.Math.Decide.{dec_lt}
use native.Mathlib.Omega.{arith}
use borrow.Author.Tests.{eq-eqb, ne_eqb, le-leb, lt-leb, not-true, not-false}
use Rattle.memory.specs.Bit.{put_bit}
use Rattle.memory.proofs.Laws.Bit.{put_twice, put_swap, put_none}
use Rattle.nodes.specs.Name.{server_of}
use Rattle.nodes.specs.States.{present}
use Rattle.nodes.specs.declared.node.Node.{Node}
use Rattle.nodes.specs.Found.{Found}
use Rattle.std.specs.Prelude.{Some, None}
use Rattle.client.specs.declared.part.Set.{Set}
use Rattle.client.specs.declared.part.Set.TheVariants.{Reads, Writes}
use Rattle.client.specs.Layout.{ClientWord, item}
use Rattle.client.specs.Record.{by_number, second_slot}
use Rattle.client.specs.Sets.{count, number_at, record_at, find}
use Rattle.client.specs.Commit.{inner_at}
use Rattle.client.specs.Items.{all_below, any_below, inner, inner_before_after}
use Rattle.client.specs.Participants.{mask, at_home, calls_home, calls_all, called_homes, all_take_part, states_in, states_read, participants_of}

-- ---- all below a number
pub record Sofar (f : ℕ → Bool) (n i : ℕ) : Type 0 where
  pub within : i ≤ n
  pub true_yet : all_below i f ≡ true

module _ (f : ℕ → Bool) where
  pub so_none : (n : ℕ) → Sofar f n 0
  unfolding all_below
  so_none n = record { within = omega arith; true_yet = refl }

  pub so_next : (n i : ℕ) (b : Bool) → i < n → b ≡ f i → not b ≡ false → Sofar f n i → Sofar f n (i + 1)
  unfolding all_below
  so_next n i b h e t s = let z : f i ≡ true = sym e ∙ not-false b t in record { within = omega arith; true_yet = rw (add-one, all_below, s.true_yet, z) }

  pub so_all : (n k i : ℕ) → n ≡ k → n ≤ i → Sofar f n i → true ≡ all_below k f
  so_all n k i e h s = let z : i ≡ k = omega (arith, s.within) in rw (← z) (sym s.true_yet)

  stays_false : (i k : ℕ) → all_below i f ≡ false → all_below (i + k) f ≡ false
  unfolding all_below
  stays_false i zero e = let z : i + 0 ≡ i = omega arith in rw z e
  stays_false i (suc k) e = let z : i + suc k ≡ suc (i + k) = omega arith in rw (z, all_below, stays_false i k e)

  pub so_fails : (n k i : ℕ) (b : Bool) → n ≡ k → i < n → b ≡ f i → not b ≡ true → Sofar f n i → false ≡ all_below k f
  unfolding all_below
  so_fails n k i b c h e t s =
      let y : f i ≡ false = sym e ∙ not-true b t in
      let a : all_below (suc i) f ≡ false = rw (all_below, s.true_yet, y) in
      let z : k ≡ suc i + (k - suc i) = omega arith in
      sym (rw z (stays_false (suc i) (k - suc i) a))

-- ---- inner nodes
module _ (m : ClientWord → ℕ) (s : Set) (i x : ℕ) (e : x ≡ number_at m s i) where
  pub inner_meta : x ≡ 0 → false ≡ inner_at m s i
  unfolding inner_at
  inner_meta d = rw (← e, eq-eqb _ _ d)

  pub inner_node : (k : ℕ) → (x ≡ 0 → ⊥) → x ≤ 8192 → k ≡ m (item s i 1) → eqb k 2 ≡ inner_at m s i
  unfolding inner_at
  inner_node k d h p = rw (← e, ne_eqb _ _ d, le-leb _ _ h, ← p)

  pub inner_flag : (x ≡ 0 → ⊥) → 8192 < x → false ≡ inner_at m s i
  unfolding inner_at
  inner_flag d h = rw (← e, ne_eqb _ _ d, lt-leb _ _ h)

-- ---- any below a number
module _ (f : ℕ → Bool) where
  pub any_none : any_below 0 f ≡ false
  unfolding any_below
  any_none = refl

  pub any_next : (i : ℕ) (b : Bool) → any_below i f ≡ false → b ≡ f i → b ≡ false → any_below (i + 1) f ≡ false
  unfolding any_below
  any_next i b h e t = let q : f i ≡ false = sym e ∙ t in rw (add-one i, h, q)

  stays_true : (i k : ℕ) → f i ≡ true → any_below (suc i + k) f ≡ true
  unfolding any_below
  stays_true i zero h = let e : suc i + 0 ≡ suc i = omega arith in rw (e, h) (go (any_below i f))
    where
      go : (b : Bool) → (b || true) ≡ true
      go true = refl
      go false = refl
  stays_true i (suc k) h = let e : suc i + suc k ≡ suc (suc i + k) = omega arith in rw (e, stays_true i k h)

  pub any_here : (i n : ℕ) (b : Bool) → i < n → b ≡ f i → b ≡ true → true ≡ any_below n f
  any_here i n b l e t = let q : n ≡ suc i + (n - suc i) = omega arith in sym (rw q (stays_true i (n - suc i) (sym e ∙ t)))

  pub any_absent : (i n : ℕ) → i ≤ n → n ≤ i → any_below i f ≡ false → false ≡ any_below n f
  any_absent i n l g h = let e : n ≡ i = omega arith in sym (rw e h)

-- ---- a set of servers with one more
mask_none : (n : ℕ) → mask n (λ s. false) ≡ 0
unfolding mask
mask_none zero = refl
mask_none (suc n) = rw (mask_none n) (put_none n)

or_false : (b : Bool) → (b || false) ≡ b
or_false true = refl
or_false false = refl

or_true : (b : Bool) → (b || true) ≡ true
or_true true = refl
or_true false = refl

mask_out : (f : ℕ → Bool) (h n : ℕ) → n ≤ h → mask n (λ s. f s || eqb h s) ≡ mask n f
unfolding mask
mask_out f h zero l = refl
mask_out f h (suc n) l = rw (mask_out f h n (omega arith), ne_eqb h n (λ e. omega arith), or_false (f n))

mask_in : (f : ℕ → Bool) (h n : ℕ) → h < n → mask n (λ s. f s || eqb h s) ≡ put_bit true (mask n f) h
unfolding mask
mask_in f h zero l = absurd (omega arith)
mask_in f h (suc n) l = go (dec_lt h n) (λ p. mask_in f h n p)
  where
    go : Dec (h < n) → (h < n → mask n (λ s. f s || eqb h s) ≡ put_bit true (mask n f) h)
        → put_bit (f n || eqb h n) (mask n (λ s. f s || eqb h s)) n ≡ put_bit true (put_bit (f n) (mask n f) n) h
    go (yes p) more =
        rw (more p, ne_eqb h n (λ e. omega arith), or_false (f n)) (put_swap (f n) true (mask n f) h n (λ e. omega arith))
    go (no q) more =
        let e : h ≡ n = omega arith in
        rw (mask_out f h n (omega arith), eq-eqb h n e, or_true (f n), e) (sym (put_twice true (f n) (mask n f) n))

-- ---- who takes part
pub one_calls : (n : ℕ) (r : Bool) (f : ℕ → Bool) (k : ℕ) → n ≡ k → r ≡ any_below n f → r ≡ any_below k f
one_calls n r f k e h = h ∙ rw e

-- the home of an object that is not inner
at_home_by : (s x h : ℕ) (n : Node) → h ≡ by_number x 0 server_of server_of → inner x n ≡ false → at_home s x ≡ eqb h s
unfolding at_home inner
at_home_by s x h n p e = go (eqb x 0) (leb x 8192) e p
  where
    go : (t l : Bool) → cond t true (cond l (eqb n.kind 2) false) ≡ false → h ≡ cond t 0 (cond l (server_of (x - 1)) (server_of (x - 8193)))
        → cond t true (cond l (eqb (server_of (x - 1)) s) (eqb (server_of (x - 8193)) s)) ≡ eqb h s
    go true l e q = absurd (true≢false e)
    go false true e q = rw q
    go false false e q = rw q

module _ (m : ClientWord → ℕ) where
  pub all_called : (i x : ℕ) (r : Bool) → x ≡ number_at m Writes i → r ≡ inner_before_after m x → r ≡ calls_all m i
  all_called i x r e h = h ∙ ap (inner_before_after m) e

  -- the homes called by the first i read items, and by the next
  module _ (i x w : ℕ) (r : Node) (b : Bool) (before : w ≡ called_homes m i) (e : x ≡ number_at m Reads i) (q : r ≡ record_at m Reads i) (k : b ≡ inner x r) where
    same_inner : b ≡ inner (number_at m Reads i) (record_at m Reads i)
    same_inner = k ∙ rw (e, q)

    called_next : (f : ℕ → Bool) → ((s : ℕ) → calls_home m s i ≡ f s) → called_homes m (i + 1) ≡ mask 8 (λ s. any_below i (calls_home m s) || f s)
    unfolding any_below
    called_next f c = ap (mask 8) (fun_ext (λ s. rw (add-one i, c s)))

    pub home_inner : b ≡ true → w ≡ called_homes m (i + 1)
    home_inner t =
        before ∙ sym (called_next (λ s. false) (λ s. rw (← same_inner, t)) ∙ ap (mask 8) (fun_ext (λ s. or_false (any_below i (calls_home m s)))))

    module _ (h : ℕ) (t : b ≡ false) (p : h ≡ by_number x 0 server_of server_of) where
      calls_it : (s : ℕ) → calls_home m s i ≡ eqb h s
      calls_it s = rw (← same_inner, t, ← e) (at_home_by s x h r p (sym k ∙ t))

      pub home_added : (y : ℕ) → h < 8 → y ≡ put_bit true w h → y ≡ called_homes m (i + 1)
      home_added y l z = z ∙ rw before (sym (called_next (eqb h) calls_it ∙ mask_in (λ s. any_below i (calls_home m s)) h 8 l))

      pub home_outside : 8 ≤ h → w ≡ called_homes m (i + 1)
      home_outside l = before ∙ sym (called_next (eqb h) calls_it ∙ mask_out (λ s. any_below i (calls_home m s)) h 8 l)

  pub homes_none : 0 ≡ called_homes m 0
  unfolding any_below
  homes_none = sym (mask_none 8)

  pub homes_all : (i k w : ℕ) → i ≤ k → k ≤ i → k ≡ count m Reads → w ≡ called_homes m i → w ≡ called_homes m (count m Reads)
  homes_all i k w l g e h = let q : i ≡ count m Reads = omega arith in h ∙ rw q

  -- the states in the metadata read
  module _ (f : Found) (e : f ≡ find m Reads 0) where
    pub states_there : (i x : ℕ) (r : Node) → f ≡ Some i → r ≡ record_at m Reads i → x ≡ second_slot r → x ≡ states_read m
    unfolding states_read
    states_there i x r h q l = l ∙ ap second_slot q ∙ ap (states_in m) (sym h ∙ e)

    pub states_unread : f ≡ None → 0 ≡ states_read m
    unfolding states_read
    states_unread h = ap (states_in m) (sym h ∙ e)

  module _ (all : Bool) (w : ℕ) (a : all ≡ all_take_part m) where
    abbrev by_all : Bool → ℕ
    by_all b = cond b (present (states_read m)) (called_homes m (count m Reads))

    pub taking_all : (x : ℕ) → all ≡ true → x ≡ states_read m → w ≡ present x → w ≡ participants_of m
    unfolding participants_of
    taking_all x t e h = h ∙ ap present e ∙ ap by_all (sym t ∙ a)

    pub taking_homes : all ≡ false → w ≡ called_homes m (count m Reads) → w ≡ participants_of m
    unfolding participants_of
    taking_homes t h = h ∙ ap by_all (sym t ∙ a)
