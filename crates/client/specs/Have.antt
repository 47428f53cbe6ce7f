-- "An object is read from the write set, else the read set, else the client's copies"
use Rattle.std.specs.Prelude.{Bool, true, false, cond, ◌&&◌, ◌||◌, not, List, ◌≡◌, ℕ, ◌+◌, ◌/◌, ◌%◌, ◌≤◌, eqb, ltb, leb}
use Rattle.std.proofs.Math.Option.{Option, none, some}
use Rattle.base.specs.Test.{one_if}
use Rattle.memory.specs.Word.{view}
use Rattle.memory.specs.Bit.{bit}
use Rattle.nodes.specs.declared.node.Node.{Node}
use Rattle.nodes.specs.Found.{Found}
use Rattle.std.specs.Prelude.{Some, None}
use Rattle.std.specs.Prelude as std
use Rattle.std.specs.Prelude.{IfSome}
use Rattle.nodes.specs.Node.{free_node}
use Rattle.nodes.specs.Stored.{node_at}
use Rattle.nodes.specs.Range.{node_in_range}
use Rattle.nodes.specs.Name.{server_of, slot_of}
use Rattle.nodes.specs.States.{metadata_fits}
use Rattle.operations.specs.Object.{Obj, Ask, object, vector, fetched, Val, flags}
use Rattle.client.specs.declared.answer.Have.{Have}
use Rattle.client.specs.declared.answer.Have.TheVariants as code
use Rattle.client.specs.declared.answer.Short.{Short}
use Rattle.client.specs.declared.part.Set.TheVariants.{Reads, Writes, Copies}
use Rattle.client.specs.Layout.{ClientWord, vector_word, meta_states, meta_root, meta_version, record_words, client_length}
use Rattle.client.specs.Bounds.{last_node_number, most_servers}
use Rattle.client.specs.Record.{number, by_number, first_slot, second_slot, value_of, single, metadata, object_in_store, record_in_range}
use Rattle.client.specs.Sets.{held, record_at, find}
use Rattle.client.specs.Vectors.{has_vector, seen_words, vector_fits, is_fetched}
use Rattle.nodes.specs.Flags as N

-- how an object is known: it is in a set, there is a copy of it, or it is to be fetched
pub data How : Type 0 where
  Here : How
  Copied : How
  Lacking : How

-- what is known of an object: how, and its record
pub record Look : Type 0 where
  pub how : How
  pub node : Node

-- known so, with that record
abbrev pub known_as : How → Node → Look
known_as h r = record { how = h; node = r }

-- what a lookup says: the object is in a set, with its record
abbrev pub here : Node → Look
here r = known_as Here r

-- it is a copy, and in neither set, with its record
abbrev pub copy : Node → Look
copy r = known_as Copied r

-- there is neither: it is to be fetched, and the record is not looked at
abbrev pub lacking : Look
lacking = known_as Lacking (free_node 0)

-- is there a record
abbrev pub is_found : How → Bool
is_found Here = true
is_found Copied = true
is_found Lacking = false

-- is it a copy, and in neither set
abbrev pub is_copied : How → Bool
is_copied Here = false
is_copied Copied = true
is_copied Lacking = false

-- ---- what the code has of an object: with Here and Copied something stands for its record
abbrev pub how : {A : Type 0} → Have A → How
how (code.Here x) = Here
how (code.Copied x) = Copied
how code.Lacking = Lacking

-- it has x
abbrev pub Has : {A : Type 0} → Have A → A → Type 0
Has (code.Here y) x = y ≡ x
Has (code.Copied y) x = y ≡ x
Has code.Lacking x = ⊥

-- P of what it has, if it has anything
abbrev pub IfThere : {A : Type 0} → Have A → (A → Type 0) → Type 0
IfThere (code.Here x) P = P x
IfThere (code.Copied x) P = P x
IfThere code.Lacking P = Unit {0}

-- of a node: from which word on its record stands, among the words w of the part
abbrev pub stood : List ℕ → Have ℕ → Look
stood w (code.Here at) = here (node_at w at)
stood w (code.Copied at) = copy (node_at w at)
stood w code.Lacking = lacking

-- the record has room in the part
abbrev pub StandsInPart : Have ℕ → Type 0
StandsInPart f = IfThere f (λ at. at + record_words ≤ client_length)

abbrev pub OptionInPart : Found → Type 0
OptionInPart o = IfSome o (λ at. at + record_words ≤ client_length)

-- of the metadata or a flag: its version and its value, and of the metadata the servers' states
abbrev pub short_of : Node → Short
short_of r = record { version = r.version; value = first_slot r; states = second_slot r }

abbrev pub short_as : How → Node → Have Short
short_as Here r = code.Here (short_of r)
short_as Copied r = code.Copied (short_of r)
short_as Lacking r = code.Lacking

abbrev pub short : Look → Have Short
short l = short_as l.how l.node

-- its numbers as the code has them, and 0 where it has nothing
abbrev pub short_in : Have Short → Short
short_in (code.Here s) = s
short_in (code.Copied s) = s
short_in code.Lacking = record { version = 0; value = 0; states = 0 }

-- back to a record of the metadata
abbrev pub metadata_of : Short → Node
metadata_of s = metadata s.version s.value s.states

-- of a copy: its record, if there is one
abbrev pub copy_or_lacking : std.Option Node → Look
copy_or_lacking (Some r) = copy r
copy_or_lacking None = lacking

-- the number of a node
pub record IsNode (x : ℕ) : Type 0 where
  pub some : x ≡ 0 → ⊥
  pub most : x ≤ last_node_number

module _ (m : ClientWord → ℕ) where
  -- "Copies: metadata, one vector a server, 64 inner nodes": there is one of the metadata unless its states are 0
  unfoldable pub copied_meta : Look
  copied_meta = cond (eqb (m meta_states) 0) lacking (copy (metadata (m meta_version) (m meta_root) (m meta_states)))

  -- the copy of an inner node at its place, if it has one
  abbrev pub copied_item : Found → Look
  copied_item (Some i) = copy (record_at m Copies i)
  copied_item None = lacking

  -- the copy of the inner node with the number x
  unfoldable pub copied_node : ℕ → Look
  copied_node x = copied_item (find m Copies x)

  -- the flag of a name is in its server's vector: bit i % 64 of word i / 64 for slot i
  unfoldable pub copied_flag : ℕ → Look
  copied_flag n =
      let i = slot_of n in
      cond (eqb (m (vector_word (server_of n) 0)) 0) lacking
      (copy (single 0 (one_if (bit (m (vector_word (server_of n) (1 + i / 64))) (i % 64)))))

  -- the copy of the object with the number x
  unfoldable pub copied : ℕ → Look
  copied x = by_number x copied_meta (λ n. copied_node x) copied_flag

  -- refusal 10 for a copy that is used: what is copied of nodes is an inner one, and the word that says that there is a vector is 1
  unfoldable pub copy_fits : ℕ → Node → Bool
  copy_fits x r = by_number x true (λ n. eqb r.kind 2) (λ n. eqb (m (vector_word (server_of n) 0)) 1)

  -- "else the read set, else the client's copies": x was looked for in the read set
  abbrev pub or_copied : ℕ → Found → Look
  or_copied x (Some i) = here (record_at m Reads i)
  or_copied x None = copied x

  -- "An object is read from the write set, else the read set": x was looked for in the write set
  abbrev pub or_read : ℕ → Found → Look
  or_read x (Some i) = here (record_at m Writes i)
  or_read x None = or_copied x (find m Reads x)

  -- the object with the number x
  unfoldable pub source : ℕ → Look
  source x = or_read x (find m Writes x)

-- x was looked for in both sets, in a part of the bytes b: its record stands there, or what there is of it is a copy
abbrev pub InSets : List ℕ → ℕ → Found → Type 0
InSets b x (Some at) = (here (node_at (view b) at) ≡ source (held b) x) × (at + record_words ≤ client_length)
InSets b x None = source (held b) x ≡ copied (held b) x

-- may a node known in that way be used: it is in range, and a copy is inner
unfoldable pub node_usable : How → Node → Bool
node_usable h r = node_in_range r && (not (is_copied h) || eqb r.kind 2)

-- as the code has it, among the words w of the part
unfoldable pub stand_usable : List ℕ → Have ℕ → Bool
stand_usable w f = is_found (how f) && node_usable (how f) (stood w f).node

-- may the metadata be used, as the code has it
unfoldable pub meta_usable : ℕ → Short → Bool
meta_usable slots s = metadata_fits slots s.value s.states s.version

-- may the flag of that name be used, known in that way, as the code has it
unfoldable pub flag_usable : (ClientWord → ℕ) → ℕ → How → Short → Bool
flag_usable m n h s = leb s.value 1 && (not (is_copied h) || eqb (m (vector_word (server_of n) 0)) 1)

module _ (slots : ℕ) (m : ClientWord → ℕ) where
  -- the record is in range, and where it is a copy, so is that
  unfoldable pub look_fits : ℕ → Look → Bool
  look_fits x l = record_in_range slots x l.node && (not (is_copied l.how) || copy_fits m x l.node)

  -- there is a record, and it is in range
  abbrev pub usable : ℕ → Look → Bool
  usable x l = is_found l.how && look_fits x l

  -- the object's value, if its record can be used
  abbrev pub valued : Obj → Look → Option Val
  valued o l = cond (usable (number o) l) (some (value_of o l.node)) none

  -- the vector of server s, if there is a copy, "own frees and takes counted"
  abbrev pub have_vector : ℕ → Option Val
  have_vector s =
      cond (ltb s most_servers && (vector_fits m s && has_vector m s)) (some (flags (N.flags_in slots (seen_words m s)))) none

  -- what is at hand for a plan. "a server is passed over only by a vector that this transaction fetched"
  unfoldable pub have : Ask → Option Val
  have (object o) = cond (object_in_store slots o) (valued o (source m (number o))) none
  have (vector s) = have_vector s
  have (fetched s) = cond (is_fetched m s) (have_vector s) none

  -- there is a record, and it is out of range
  abbrev pub unusable : ℕ → Look → Bool
  unusable x l = is_found l.how && not (look_fits x l)

  -- there is no such vector, or it is out of range
  abbrev pub bad_vector : ℕ → Bool
  bad_vector s = not (ltb s most_servers && vector_fits m s)

  -- what is not at hand can't be fetched either: refusal 10. Vectors are only asked of servers of the store
  unfoldable pub broken : Ask → Bool
  broken (object o) = cond (object_in_store slots o) (unusable (number o) (source m (number o))) true
  broken (vector s) = bad_vector s
  broken (fetched s) = bad_vector s
