-- Items that enter the sets: "what is used enters the read set"; with the answer, "its writes enter the write set".
use Rattle.std.specs.Prelude.{cond, List, [], ◌∷◌, ℕ, eqb, length}
use Rattle.layout.specs.Space.{Put, put}
use Rattle.layout.specs.Step.{and_then}
use Rattle.operations.specs.Object.{Writes}
use Rattle.client.specs.Layout.{ClientWord, client_words, op_number}
use Rattle.client.specs.Record.{number, record_of}
use Rattle.client.specs.Lent.{Entry}
use Rattle.client.specs.Enter.{enter_used, enter_entries}

-- the copies that came into use, in order, as the client takes them: their count, then their numbers
unfoldable pub used_enter : List ℕ → (ClientWord → ℕ) → List (Put ClientWord)
used_enter us = enter_used (length us ∷ us)

-- a write: in its object's place, else behind the others
unfoldable pub put_entry : Entry → List Entry → List Entry
put_entry e [] = e ∷ []
put_entry e (f ∷ l) = cond (eqb f.0 e.0) (e ∷ l) (f ∷ put_entry e l)

-- an operation's writes, the oldest first, each object once. A written record has version 0: its version is the one read plus 1
unfoldable pub entered : Writes → List Entry
entered [] = []
entered (e ∷ w) = put_entry (number e.0, record_of 0 e.1) (entered w)

-- an operation's writes enter the write set
unfoldable pub enter_writes : Writes → (ClientWord → ℕ) → List (Put ClientWord)
enter_writes w = enter_entries (entered w)

-- the answering step: "otherwise it answers the operation, and only then do its writes enter the write set"
unfoldable pub answered : List ℕ → Writes → (ClientWord → ℕ) → List (Put ClientWord)
answered us w = and_then client_words (used_enter us) (and_then client_words (enter_writes w) (λ m. put op_number 0 ∷ []))
