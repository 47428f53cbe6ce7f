-- The whole memory as code is lent it: sizes, offsets, and parts that are lent on.
use Rattle.std.specs.Prelude.{◌≡◌, Bool, true, false, ◌&&◌, List, ℕ, ◌+◌, ◌-◌, ◌*◌, ◌/◌, ◌≤◌, ◌<◌, leb, length, get_or}
use Rattle.std.proofs.Math.Path.{sym}
use Rattle.std.proofs.Common.{◌∙◌, subst, mul-le-mul_right, arith, leb-true}
use borrow.Rule.Slice.PartMut.{put_mid, mid_of}
use Rattle.base.specs.Test.{and_both}
use Rattle.memory.specs.Word.{view}
use Rattle.layout.specs.Block.{size}
use Rattle.layout.specs.Space.{Put, mem}
use Rattle.layout.specs.Step.{Does, silent}
use Rattle.layout.proofs.Laws.Part.{of_part, lent_mem, back_does}
use Rattle.layout.specs.Laws.Part.{Part}
use Rattle.layout.specs.Part.{in_part}
use Rattle.server.specs.declared.place.Place.{Place}
use Rattle.client.specs.Layout.{ClientWord, client_words, client_block}
use Rattle.steps.specs.declared.sizes.Sizes.{Sizes}
use Rattle.steps.specs.declared.refusal.Refusal.TheVariants.{BadSizes}
use Rattle.std.specs.Prelude.{Ok, Err}
use Rattle.steps.specs.Whole.{Allowed, server, client, whole, block, words_for, length_for, server_at, client_at}
use Rattle.steps.proofs.Laws.Whole.{server_part, client_part}
use Rattle.steps.specs.Refusal.{between, allowed?}
use Rattle.kinds.specs.Parts.{head_sizes, length_answer, StoreIn}
use Rattle.server.specs.Layout as Srv

pub holds_as : (z : Sizes) (n k : ℕ) → n ≡ k → StoreIn z k → StoreIn z n
holds_as z n k e h = subst (StoreIn z) (sym e) h

-- ---- sizes
pub head_read : (w : List ℕ) (s n c : ℕ) → s ≡ get_or w 0 0 → n ≡ get_or w 1 0 → c ≡ get_or w 2 0
    → ◌≡◌ {A = Sizes} (record { servers = s; slots = n; clients = c }) (head_sizes w)
unfolding head_sizes
head_read w s n c a b d = rw (a, b, d)

within_range : (a b n : ℕ) → between a b n ≡ true → (a ≤ n) × (n ≤ b)
within_range a b n e =
    let h = and_both (leb a n) (leb n b) e in
    (leb-true a n h.0, leb-true n b h.1)

-- the range of each size is looked at in turn
module _ (z : Sizes) where
  pub servers_out : (b : Bool) → b ≡ between 1 8 z.servers → b ≡ false → false ≡ allowed? z
  unfolding allowed?
  servers_out b e t = sym (rw (← e, t))

  pub slots_out : (b d : Bool) → b ≡ between 1 8 z.servers → b ≡ true → d ≡ between 1 1024 z.slots → d ≡ false → false ≡ allowed? z
  unfolding allowed?
  slots_out b d e t f u = sym (rw (← e, t, ← f, u))

  pub by_clients : (b d r : Bool) → b ≡ between 1 8 z.servers → b ≡ true → d ≡ between 1 1024 z.slots → d ≡ true → r ≡ between 1 16 z.clients
      → r ≡ allowed? z
  unfolding allowed?
  by_clients b d r e t f u g = g ∙ sym (rw (← e, t, ← f, u))

  pub are_allowed : (b : Bool) → b ≡ allowed? z → b ≡ true → Allowed z
  unfolding allowed?
  are_allowed b e t =
      let h = and_both (between 1 8 z.servers && between 1 1024 z.slots) (between 1 16 z.clients) (sym e ∙ t) in
      let g = and_both (between 1 8 z.servers) (between 1 1024 z.slots) h.0 in
      record {
        servers = within_range 1 8 z.servers g.0;
        slots = within_range 1 1024 z.slots g.1;
        clients = within_range 1 16 z.clients h.1;
      }

  -- ---- the length
  pub length_found : (b : Bool) (n : ℕ) → b ≡ allowed? z → b ≡ true → n ≡ words_for z → Ok (8 * n) ≡ length_answer z
  unfolding length_answer length_for
  length_found b n e t q = sym (rw (← e, t, q))

  pub length_refused : (b : Bool) → b ≡ allowed? z → b ≡ false → Err BadSizes ≡ length_answer z
  unfolding length_answer
  length_refused b e t = sym (rw (← e, t))

pub ruleset size_exits = (servers_out, slots_out, by_clients, are_allowed, length_found, length_refused)

-- ---- offsets: of products of two variables only these
pub server_row : (p s : ℕ) → p ≤ 51220 → s < 8 → s * p ≤ 409760
server_row p s g h = let l : s ≤ 8 = omega arith in omega (arith, mul-le-mul_right p l)

pub words_few : (z : Sizes) (p : ℕ) → Allowed z → p ≤ 51220 → 8 + 8 * p + 7223 * z.clients ≤ 525336
words_few z p f g = omega (arith, f.clients)

pub server_few : (p s : ℕ) → p ≤ 51220 → s < 8 → 8 + s * p ≤ 525336
server_few p s g h = omega (arith, server_row p s g h)

pub client_few : (z : Sizes) (p c : ℕ) → Allowed z → p ≤ 51220 → c < z.clients → 8 + 8 * p + 7223 * c ≤ 525336
client_few z p c f g h = omega (arith, f.clients)

module _ (z : Sizes) (p : ℕ) (e : p ≡ Srv.part_words z.slots) where
  pub words_sum : 8 + 8 * p + 7223 * z.clients ≡ words_for z
  unfolding words_for size Srv.part_words
  words_sum = omega (arith, e)

  pub server_sum : (s : ℕ) → 8 + s * p ≡ server_at z s
  unfolding server_at Srv.part_words
  server_sum s = rw e

  pub client_sum : (c : ℕ) → 8 + 8 * p + 7223 * c ≡ client_at z c
  unfolding client_at size Srv.part_words
  client_sum c = omega (arith, e)

module _ (z : Sizes) where
  pub server_room : (s k : ℕ) → s < 8 → k ≡ server_at z s → k + Srv.part_words z.slots ≤ words_for z
  unfolding words_for Srv.part_words
  server_room s k h e = rw e (server_part z s h).room

  pub client_room : (c k : ℕ) → c < z.clients → k ≡ client_at z c → k + 7223 ≤ words_for z
  unfolding words_for size
  client_room c k h e = rw e (client_part z c h).room

-- ---- a part that is lent on as `mem[8 * k..]`: what is read of it is read of the whole; what is done in it is done in the whole
module _ (z : Sizes) where
  server_here : (s k : ℕ) → s < 8 → k ≡ server_at z s → Part Srv.places (Srv.server_block z.slots) whole (block z) (server s) k
  server_here s k h e = subst (Part Srv.places (Srv.server_block z.slots) whole (block z) (server s)) (sym e) (server_part z s h)

  client_here : (c k : ℕ) → c < z.clients → k ≡ client_at z c → Part client_words client_block whole (block z) (client c) k
  client_here c k h e = subst (Part client_words client_block whole (block z) (client c)) (sym e) (client_part z c h)

  pub server_lent : (s k : ℕ) (b : List ℕ) → s < 8 → k ≡ server_at z s → words_for z ≤ length b / 8
      → mem Srv.places (Srv.server_block z.slots) (view (mid_of (8 * k) (length b - 8 * k) b)) ≡ (λ a. mem whole (block z) (view b) (server s a))
  unfolding words_for
  server_lent s k b h e l = lent_mem Srv.places (Srv.server_block z.slots) whole (block z) (server s) k (server_here s k h e) b l

  pub client_lent : (c k : ℕ) (b : List ℕ) → c < z.clients → k ≡ client_at z c → words_for z ≤ length b / 8
      → mem client_words client_block (view (mid_of (8 * k) (length b - 8 * k) b)) ≡ (λ a. mem whole (block z) (view b) (client c a))
  unfolding words_for
  client_lent c k b h e l = lent_mem client_words client_block whole (block z) (client c) k (client_here c k h e) b l

  pub server_back : (s k : ℕ) (g : (Place → ℕ) → List (Put Place)) (b t : List ℕ)
      → s < 8 → k ≡ server_at z s → words_for z ≤ length b / 8
      → Does Srv.places (Srv.server_block z.slots) g silent (view (mid_of (8 * k) (length b - 8 * k) b)) 0 (view t)
      → Does whole (block z) (in_part (server s) g) silent (view b) 0 (view (put_mid (8 * k) (length b - 8 * k) b t))
  unfolding words_for of_part
  server_back s k g b t h e l did = back_does Srv.places (Srv.server_block z.slots) whole (block z) (server s) k (server_here s k h e) g silent b t 0 l did

  pub client_back : (c k : ℕ) (g : (ClientWord → ℕ) → List (Put ClientWord)) (b t : List ℕ)
      → c < z.clients → k ≡ client_at z c → words_for z ≤ length b / 8
      → Does client_words client_block g silent (view (mid_of (8 * k) (length b - 8 * k) b)) 0 (view t)
      → Does whole (block z) (in_part (client c) g) silent (view b) 0 (view (put_mid (8 * k) (length b - 8 * k) b t))
  unfolding words_for of_part
  client_back c k g b t h e l did = back_does client_words client_block whole (block z) (client c) k (client_here c k h e) g silent b t 0 l did
