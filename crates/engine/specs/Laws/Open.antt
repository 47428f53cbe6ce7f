-- Laws of opening's code.
use Rattle.std.specs.Prelude.{◌≡◌, Bool, true, false, cond, List, [], ◌∷◌, eqb, length, set, replicate}
use Rattle.std.proofs.Math.Path.{refl, sym, subst}
use Rattle.std.proofs.Common.{ap, ◌∙◌, add-one, pow_pos}
use Prim.Native.Nat.{ℕ, zero, suc, ◌+◌, ◌-◌, ◌*◌, ◌%◌, ◌^◌, ◌≤◌, ◌<◌}
use native.Mathlib.Omega.{arith}
use borrow.Author.Tests.{ne_eqb}
use Rattle.std.proofs.Math.Pow.{pow-lt}
use Rattle.std.proofs.lemmas.List.Edits.{sets}
use Rattle.std.proofs.Math.Seq.{length-sets}
use Rattle.layout.specs.Block.{In, offset, size}
use Rattle.memory.specs.Word.{view}
use Rattle.memory.proofs.Laws.Bit.{one_shifted}
use Rattle.layout.specs.Space.{put, at, Valid, changed, stored}
use Rattle.layout.proofs.Laws.Space.{AllValid, mem_zeros, mem_stored}
use Rattle.layout.specs.Step.{Does, silent, stepped}
use Rattle.layout.proofs.Laws.Step.{does_as, does_both, valid_append}
use Rattle.layout.specs.Part.{over, in_part}
use Rattle.layout.proofs.Laws.Part.{good_all}
use Rattle.server.specs.declared.place.Place.TheVariants.{States, Vector, Node}
use Rattle.nodes.specs.States.{first_states}
use Rattle.server.specs.Layout.{places, server_block, put_step}
use Rattle.server.specs.Laws.Layout.{states_valid}
use Rattle.server.specs.Fresh.{first_leaf}
use Rattle.server.specs.Laws.Fresh.{first_node_valid, first_flag_valid}
use Rattle.steps.specs.declared.sizes.Sizes.{Sizes}
use Rattle.steps.specs.Whole.{Allowed, Address, server, whole, block, words_for, server_at}
use Rattle.steps.proofs.Laws.Whole.{server_part}
use Rattle.steps.specs.Steps.{at_servers}
use Rattle.steps.specs.Refusal.{open_refusal}
use Rattle.steps.specs.Run.{first_stores, opened}
use Rattle.kinds.specs.Parts.{stored_in}
use Rattle.engine.specs.Open.{with_head, new_server, new_servers, new_words, words_opened}
use Rattle.server.specs.Fresh as Fresh

-- ---- the servers, one after another
module _ (z : Sizes) where
  abbrev pub ServersUpto : List ℕ → ℕ → List ℕ → Type 0
  ServersUpto b₀ n b = (n ≤ 8) × (length b ≡ length b₀) × Does whole (block z) (new_servers z n) silent (view b₀) 0 (view b)

  module _ (s : ℕ) where
    -- a server's stores are the states alone, or at server 0 the leaf's too
    pub server_blank : (v : ℕ) (b b' : List ℕ) → v ≡ first_states z.servers → (s ≡ 0 → ⊥) → Does whole (block z) (in_part (server s) (put_step States v)) silent (view b) 0 (view b')
        → Does whole (block z) (new_server z s) silent (view b) 0 (view b')
    unfolding Fresh.fresh_stores first_leaf in_part put_step over
    server_blank v b b' e n d =
        does_as whole (block z) (in_part (server s) (put_step States v)) (new_server z s) silent (view b) 0 (view b') (sym (rw (← e, ne_eqb s 0 n))) d

    pub server_first : (v : ℕ) (b b₁ b₂ b₃ : List ℕ) → v ≡ first_states z.servers → s ≡ 0 → Does whole (block z) (in_part (server s) (put_step States v)) silent (view b) 0 (view b₁)
        → Does whole (block z) (in_part (server s) (put_step (Node 0 0) 1)) silent (view b₁) 0 (view b₂)
        → Does whole (block z) (in_part (server s) (put_step (Vector 0) 1)) silent (view b₂) 0 (view b₃)
        → Does whole (block z) (new_server z s) silent (view b) 0 (view b₃)
    unfolding Fresh.fresh_stores first_leaf in_part put_step over stepped stored
    server_first v b b₁ b₂ b₃ e q d f g = record { answer = refl; words = g.words ∙ rw (f.words, d.words, e, q, q) }

  module _ (b₀ : List ℕ) where
    pub servers_none : ServersUpto b₀ 0 b₀
    unfolding at_servers stepped stored
    servers_none = (omega arith, refl, record { answer = refl; words = refl })

    pub servers_next : (n : ℕ) (b b' : List ℕ) → ServersUpto b₀ n b → n < 8 → length b' ≡ length b → Does whole (block z) (new_server z n) silent (view b) 0 (view b')
        → ServersUpto b₀ (n + 1) b'
    unfolding at_servers
    servers_next n b b' r l e d = (
      omega arith,
      e ∙ r.1,
      subst (λ (j : ℕ). Does whole (block z) (new_servers z j) silent (view b₀) 0 (view b')) (sym (add-one n))
          (does_both whole (block z) (new_servers z n (λ a. 0)) (new_server z n (λ a. 0)) (view b₀) (view b) (view b') r.2 d),
    )

    pub servers_end : (n : ℕ) (b : List ℕ) → ServersUpto b₀ n b → 8 ≤ n → Does whole (block z) (new_servers z 8) silent (view b₀) 0 (view b)
    servers_end n b r l = let q : n ≡ 8 = omega (arith, r.0) in subst (λ (j : ℕ). Does whole (block z) (new_servers z j) silent (view b₀) 0 (view b)) q r.2

pub ruleset server_exits = (server_blank, server_first)

pub ruleset servers_exits = (servers_none, servers_next, servers_end)

-- the states fit a word
module _ (n : ℕ) (h : n ≤ 8) where
  shifted : 1 * 2 ^ n % 18446744073709551616 ≡ 2 ^ n
  shifted = one_shifted n (omega arith)

  few_states : 2 ^ n ≤ 512
  few_states = let p : 2 ^ n < 2 ^ 9 = pow-lt {i = n} {j = 9} (omega arith) in omega arith

  some_states : 1 ≤ 2 ^ n
  some_states = pow_pos n

  pub shift_some : 1 ≤ 1 * 2 ^ n % 18446744073709551616
  shift_some = rw shifted some_states

  pub shift_few : 257 * (1 * 2 ^ n % 18446744073709551616 - 1) < 18446744073709551616
  shift_few = let f = few_states in rw shifted (omega arith)

  pub states_first : 257 * (1 * 2 ^ n % 18446744073709551616 - 1) ≡ first_states n
  unfolding first_states
  states_first = rw shifted

pub ruleset first_word = (shift_some, shift_few, states_first)

-- what then stands at the addresses
fresh_valid : (z : Sizes) (s : ℕ) → 0 < z.slots → AllValid places (server_block z.slots) (Fresh.fresh_stores z.servers s)
unfolding Fresh.fresh_stores first_leaf AllValid
fresh_valid z s h = (states_valid z.slots, go (eqb s 0))
  where
    go : (b : Bool) → AllValid places (server_block z.slots) (cond b (put (Node 0 0) 1 ∷ put (Vector 0) 1 ∷ []) [])
    go true = (first_node_valid z.slots h, (first_flag_valid z.slots, tt))
    go false = tt

servers_valid : (z : Sizes) (n : ℕ) → n ≤ 8 → 0 < z.slots → AllValid whole (block z) (new_servers z n (λ a. 0))
unfolding at_servers AllValid
servers_valid z zero l h = tt
servers_valid z (suc n) l h =
    valid_append whole (block z) (new_servers z n (λ a. 0)) (new_server z n (λ a. 0)) (servers_valid z n (omega arith) h)
    (good_all places (server_block z.slots) whole (block z) (server n) (server_at z n) (server_part z n (omega arith)) (Fresh.fresh_stores z.servers n) (fresh_valid z n h))

first_valid : (z : Sizes) → Allowed z → AllValid whole (block z) (first_stores z)
unfolding AllValid Valid In
first_valid z f = (omega arith, (omega arith, (omega arith, servers_valid z 8 (omega arith) f.slots.0)))

pub new_store : (z : Sizes) (w : List ℕ) → Allowed z → words_for z ≤ length w → stored_in z (new_words z w) ≡ opened z
unfolding new_words words_for opened
new_store z w f l =
    mem_stored whole (block z) (first_stores z) (sets w 0 (replicate (size (block z)) 0)) (rw length-sets l) (first_valid z f)
    ∙ ap (λ (m : Address → ℕ). changed whole m (first_stores z)) (mem_zeros whole (block z) w l)

-- ---- ways out of the code
module _ (z : Sizes) (bytes : ℕ) (w : List ℕ) where
  pub stays_shut : (r : ℕ) → r ≡ open_refusal bytes z → (r ≡ 0 → ⊥) → w ≡ words_opened bytes z w
  unfolding words_opened
  stays_shut r q n = sym (rw (← q, ne_eqb r 0 n))

  pub is_open : (w₁ : List ℕ) → 0 ≡ open_refusal bytes z → w₁ ≡ new_words z w → w₁ ≡ words_opened bytes z w
  unfolding words_opened
  is_open w₁ q n = n ∙ sym (rw (← q))

pub head_put : (z : Sizes) (w w₁ w₂ w₃ : List ℕ) → w₁ ≡ set w 0 z.servers → w₂ ≡ set w₁ 1 z.slots → w₃ ≡ set w₂ 2 z.clients → w₃ ≡ with_head z w
unfolding with_head
head_put z w w₁ w₂ w₃ a b c = c ∙ rw (b, a)

pub made_new : (z : Sizes) (n : ℕ) (w w₁ w₂ w₃ : List ℕ) → n ≡ words_for z → w₁ ≡ sets w 0 (replicate n 0) → w₂ ≡ with_head z w₁
    → Does whole (block z) (new_servers z 8) silent w₂ 0 w₃
    → w₃ ≡ new_words z w
unfolding new_words with_head stored stepped at offset
made_new z n w w₁ w₂ w₃ e a b p = p.words ∙ rw (b, a, e)
