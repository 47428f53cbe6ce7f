-- The steps of a client's part: fields, items, vectors' copies; one after another.
use Rattle.std.specs.Prelude.{cond, List, [], ◌∷◌, ℕ, ◌+◌, ltb, get_or}
use Rattle.memory.specs.Word.{view}
use Rattle.layout.specs.Space.{Put, put, puts, tab}
use Rattle.layout.specs.Step.{Does, silent, and_then}
use Rattle.nodes.specs.declared.node.Node.{Node}
use Rattle.nodes.specs.Stored.{words_of}
use Rattle.client.specs.declared.part.Set.{Set}
use Rattle.client.specs.Layout.{ClientWord, client_words, client_block, field, item, vector_word, item_words}
use Rattle.client.specs.Bounds.{most_servers}

-- a step is its stores, as a function of what the part holds
abbrev pub PartStep : Type 0
PartStep = (ClientWord → ℕ) → List (Put ClientWord)

-- code with bytes s before and t after does the step
abbrev pub Did : PartStep → List ℕ → List ℕ → Type 0
Did g s t = Does client_words client_block g silent (view s) 0 (view t)

infixr 20 ◌then◌
-- one step, and then another
abbrev pub ◌then◌ : PartStep → PartStep → PartStep
g then h = and_then client_words g h

-- nothing is stored
unfoldable pub nothing : PartStep
nothing m = []

-- a word becomes v; field i becomes v
unfoldable pub put_word : ClientWord → ℕ → PartStep
put_word a v m = put a v ∷ []

abbrev pub put_field : ℕ → ℕ → PartStep
put_field i v = put_word (field i) v

-- the fields from i on become vs
unfoldable pub put_fields : ℕ → List ℕ → PartStep
put_fields i vs m = puts client_words (λ j. field (i + j)) vs

-- item i of a set (34 words) becomes the object of number x with the record r
unfoldable pub put_item : Set → ℕ → ℕ → Node → PartStep
put_item s i x r m = puts client_words (item s i) (tab item_words (λ j. get_or (x ∷ words_of r) j 0))

-- the number of item i becomes x
unfoldable pub put_number : Set → ℕ → ℕ → PartStep
put_number s i x m = put (item s i 0) x ∷ []

-- the copy of a server's vector (sixteen words) becomes ws
unfoldable pub put_vector : ℕ → List ℕ → PartStep
put_vector s ws m = puts client_words (vector_word s) (1 ∷ tab 16 (λ j. get_or ws j 0))

-- there is no copy of the vector of server s; s is a server's number, so always below 8
unfoldable pub drop_vector : ℕ → PartStep
drop_vector s m = cond (ltb s most_servers) (put (vector_word s 0) 0 ∷ []) []
