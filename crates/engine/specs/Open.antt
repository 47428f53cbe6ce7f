-- Opening: the words of a new store.
use Rattle.std.specs.Prelude.{cond, List, ℕ, eqb, length, set, replicate}
use Rattle.std.proofs.lemmas.List.Edits.{sets}
use Rattle.memory.specs.Word.{view}
use Rattle.layout.specs.Space.{Put, stored}
use Rattle.layout.specs.Part.{over}
use Rattle.client.specs.Lent.{LentMut}
use Rattle.steps.specs.declared.sizes.Sizes.{Sizes}
use Rattle.steps.specs.Whole.{Address, server, whole, block, words_for}
use Rattle.steps.specs.Steps.{at_servers}
use Rattle.steps.specs.Run.{first_stores}
use Rattle.steps.specs.Refusal.{open_refusal}
use Rattle.server.specs.Fresh as Fresh

-- "a 64-byte head holding the three sizes": the words with them
unfoldable pub with_head : Sizes → List ℕ → List ℕ
with_head z w = set (set (set w 0 z.servers) 1 z.slots) 2 z.clients

-- every server's first stores, in any memory
abbrev pub new_server : Sizes → ℕ → (Address → ℕ) → List (Put Address)
new_server z s m = over (server s) (Fresh.fresh_stores z.servers s)

-- those of the servers below n
abbrev pub new_servers : Sizes → ℕ → (Address → ℕ) → List (Put Address)
new_servers z n m = at_servers n (λ s. new_server z s m)

-- the words of a new store: zeros, then the first stores; words behind it stay
unfoldable pub new_words : Sizes → List ℕ → List ℕ
new_words z w = stored whole (block z) (sets w 0 (replicate (words_for z) 0)) (first_stores z)

-- "A refused step .. changes no byte; opening checks 1 to 3 only."
unfoldable pub words_opened : ℕ → Sizes → List ℕ → List ℕ
words_opened bytes z w = cond (eqb (open_refusal bytes z) 0) (new_words z w) w

-- over the lent memory
abbrev pub opened_in : LentMut → Sizes → List ℕ
opened_in mem z = words_opened (length mem.entry.now) z (view mem.entry.now)
