-- The parts of the whole, and lengths tried on closed examples.
use Rattle.std.specs.Prelude.{◌≡◌, refl, ℕ, ◌≤◌, ◌<◌}
use Rattle.std.proofs.Common.{arith}
use Rattle.layout.specs.Block.{size, In, offset}
use Rattle.layout.proofs.Laws.Block.{row_fits}
use Rattle.layout.specs.Space.{at, Valid}
use Rattle.layout.specs.Laws.Part.{Part}
use Rattle.client.specs.Layout.{client_again, client_words, client_block}
use Rattle.steps.specs.declared.sizes.Sizes.{Sizes}
use Rattle.steps.specs.Whole.{Allowed, Address, head, server, client, block, code, back, whole, words_for, server_at, client_at}
use Rattle.server.specs.Layout as Srv

-- each word is had back
pub again : (a : Address) → back (code a) ≡ a
again (head i) = refl
again (server s a) = rw (Srv.place_again a)
again (client c a) = rw (client_again a)

-- ---- laws
module _ (z : Sizes) where
  -- the parts lie in the whole
  pub server_part : (s : ℕ) → s < 8 → Part Srv.places (Srv.server_block z.slots) whole (block z) (server s) (server_at z s)
  unfolding at Valid In offset size server_at
  server_part s h = record {
    good = λ a ok. (h, ok);
    only = λ a ok. ok.1;
    spot = λ a. omega arith;
    room = omega (arith, row_fits s 8 (size (Srv.server_block z.slots)) h);
  }

  pub client_part : (c : ℕ) → c < z.clients → Part client_words client_block whole (block z) (client c) (client_at z c)
  unfolding at Valid In offset size client_at
  client_part c h = record {
    good = λ a ok. (h, ok);
    only = λ a ok. ok.1;
    spot = λ a. omega arith;
    room = omega (arith, row_fits c z.clients (size client_block) h);
  }

  -- the whole is never large
  pub words_within : Allowed z → words_for z ≤ 525336
  unfolding words_for size
  words_within f =
      omega (arith, f.slots, f.clients)

-- the smallest store, and the largest
abbrev sized : ℕ → ℕ → ℕ → Sizes
sized s n c = record { servers = s; slots = n; clients = c }

pub words_samples : (words_for (sized 1 1 1) ≡ 7791) × (words_for (sized 8 1024 16) ≡ 525336)
unfolding words_for size
words_samples = (refl, refl)
