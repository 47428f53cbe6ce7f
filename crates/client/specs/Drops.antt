-- Copies dropped at an abort, those that came into use in the step included; and the version that is written.
use Rattle.std.specs.Prelude.{List, [], ◌∷◌, ℕ, suc}
use Rattle.layout.specs.Space.{Put}
use Rattle.layout.specs.Step.{and_then}
use Rattle.nodes.specs.Found.{Found}
use Rattle.std.specs.Prelude.{Some, None}
use Rattle.client.specs.declared.part.Set.TheVariants.{Reads}
use Rattle.client.specs.Layout.{ClientWord, client_words}
use Rattle.client.specs.Copies.{drop_object, drop_reads}
use Rattle.client.specs.Sets.{record_at, find}

-- of objects that came into use in this step
unfoldable pub drop_each : List ℕ → (ClientWord → ℕ) → List (Put ClientWord)
drop_each [] m = []
drop_each (x ∷ xs) m = and_then client_words (drop_object x) (drop_each xs) m

-- "drops copies of all objects read (for a flag, its vector)"
unfoldable pub drop_used : List ℕ → (ClientWord → ℕ) → List (Put ClientWord)
drop_used us m = and_then client_words drop_reads (drop_each us) m

-- the version of an object that was read; a rule that uses it has judged that it is there (`Fits.read_fits`)
abbrev pub version_of : (ClientWord → ℕ) → Found → ℕ
version_of m (Some i) = (record_at m Reads i).version
version_of m None = 0

-- "a written version becomes the one read plus 1"
unfoldable pub next_version : (ClientWord → ℕ) → ℕ → ℕ
next_version m x = suc (version_of m (find m Reads x))
