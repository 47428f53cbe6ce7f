-- The whole memory as code is lent it: its sizes, and what stands in it.
use Rattle.std.specs.Prelude.{cond, List, ◌<◌, ℕ, ◌/◌, ◌≤◌, get_or, Result, Ok, Err}
use Rattle.layout.specs.Space.{mem, Put}
use Rattle.steps.specs.declared.sizes.Sizes.{Sizes}
use Rattle.steps.specs.declared.refusal.Refusal.{Refusal}
use Rattle.steps.specs.declared.refusal.Refusal.TheVariants.{BadSizes}
use Rattle.steps.specs.Whole.{Allowed, Address, whole, block, words_for, length_for, client, server}
use Rattle.steps.specs.Refusal.{allowed?}
use Rattle.nodes.specs.Object.{object_of}
use Rattle.server.specs.Object.{Has}
use Rattle.layout.specs.Step.{Does, silent}
use Rattle.layout.specs.Part.{in_part}
use Rattle.client.specs.Layout.{ClientWord}
use Rattle.server.specs.declared.place.Place.{Place}
use Rattle.memory.specs.Word.{view}
use Rattle.client.specs.Bounds.{most_servers}

-- "a 64-byte head holding the three sizes"
unfoldable pub head_sizes : List ℕ → Sizes
head_sizes w = record { servers = get_or w 0 0; slots = get_or w 1 0; clients = get_or w 2 0 }

-- its words
abbrev pub head_words : ℕ
head_words = 8

-- no sizes call for more words: the head, 8 servers' parts of 1,024 slots, 16 clients' parts
abbrev pub most_words : ℕ
most_words = 525336

-- "the length that given sizes call for", refused by 2
unfoldable pub length_answer : Sizes → Result ℕ Refusal
length_answer z = cond (allowed? z) (Ok (length_for z)) (Err BadSizes)

-- memory of n bytes that holds a store of these sizes
pub record StoreIn (z : Sizes) (n : ℕ) : Type 0 where
  pub allowed : Allowed z
  pub room : words_for z ≤ n / 8

-- what stands at the addresses of a store of these sizes
abbrev pub stored_in : Sizes → List ℕ → Address → ℕ
stored_in z w = mem whole (block z) w

-- memory of n bytes that holds a store of these sizes, with a client of it; with a server; with both
pub record AtClient (z : Sizes) (n c : ℕ) : Type 0 where
  pub store : StoreIn z n
  pub client : c < z.clients

pub record AtServer (z : Sizes) (n s : ℕ) : Type 0 where
  pub store : StoreIn z n
  pub server : s < most_servers

pub record ClientAt (z : Sizes) (n c s : ℕ) : Type 0 where
  pub store : StoreIn z n
  pub client : c < z.clients
  pub server : s < most_servers

-- with a server and an object of the store, by its number; and a client who asks for it
pub record ObjectAt (z : Sizes) (n s x : ℕ) : Type 0 where
  pub store : StoreIn z n
  pub server : s < most_servers
  pub object : Has z.slots (object_of x)

pub record ObjectFor (z : Sizes) (n c s x : ℕ) : Type 0 where
  pub store : StoreIn z n
  pub client : c < z.clients
  pub server : s < most_servers
  pub object : Has z.slots (object_of x)

-- code with the bytes b before and b' after has made these stores: in the whole, in a client's part, in a server's part
abbrev pub InWhole : Sizes → ((Address → ℕ) → List (Put Address)) → List ℕ → List ℕ → Type 0
InWhole z g b b' = Does whole (block z) g silent (view b) 0 (view b')

abbrev pub InClient : Sizes → ℕ → ((ClientWord → ℕ) → List (Put ClientWord)) → List ℕ → List ℕ → Type 0
InClient z c g b b' = InWhole z (in_part (client c) g) b b'

abbrev pub InServer : Sizes → ℕ → ((Place → ℕ) → List (Put Place)) → List ℕ → List ℕ → Type 0
InServer z s g b b' = InWhole z (in_part (server s) g) b b'
