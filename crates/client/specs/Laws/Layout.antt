-- The length of a client's part.
use Rattle.std.specs.Prelude.{ℕ}
use Rattle.layout.specs.Block.{size}
use Rattle.client.specs.Layout.{client_block}

-- "the length that given sizes call for": a client's part has the same for all sizes
unfoldable pub client_size : ℕ
client_size = size client_block
