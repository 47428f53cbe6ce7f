-- Servers come and go, on closed examples.
use Rattle.std.specs.Prelude.{◌≡◌, refl, true, false, [], ◌∷◌, ℕ, get_or}
use Rattle.memory.specs.Bit.{bit}
use Rattle.nodes.specs.States.{is_present, is_open, is_closing}
use Rattle.server.specs.declared.place.Place.TheVariants.{Root, Version, States, MetadataLock, Vector, Node, FlagLock, Table, NodeLock}
use Rattle.client.specs.Layout.{ClientWord, field, item, vector_word}
use Rattle.client.specs.Items.{any_below}
use Rattle.steps.specs.declared.sizes.Sizes.{Sizes}
use Rattle.steps.specs.declared.step.ServerChange.TheVariants.{Add, Close, Remove}
use Rattle.steps.specs.Whole.{Address, head, server, client}
use Rattle.steps.specs.Servers.{first_from, larger, largest, there, lowest_there, metadata_source, other_open, another_open, state_suits, largest_version, unended}

-- of four servers, what server s has of a node's versions
abbrev versions : ℕ → ℕ
versions s = get_or (5 ∷ 4 ∷ 3 ∷ 9 ∷ []) s 0

-- all servers' metadata has these states, and the tables these versions
abbrev with_states : ℕ → Address → ℕ
with_states st (head i) = 0
with_states st (server s Root) = 0
with_states st (server s Version) = 0
with_states st (server s States) = st
with_states st (server s MetadataLock) = 0
with_states st (server s (Vector i)) = 0
with_states st (server s (Node k i)) = 0
with_states st (server s (FlagLock k)) = 0
with_states st (server s (Table t k)) = versions s
with_states st (server s (NodeLock t k)) = 0
with_states st (client c a) = 0

-- servers 0 and 1 open; server 0 open and 1 closing; server 1 alone, and open
abbrev both_open : Address → ℕ
both_open = with_states 771

abbrev one_closing : Address → ℕ
one_closing = with_states 259

abbrev second_alone : Address → ℕ
second_alone = with_states 514

-- an absent server is added, an open one closed, a closing one removed; and the last open one stays open
pub suits_samples : (state_suits both_open 2 Add ≡ true) × (state_suits both_open 1 Add ≡ false) × (state_suits both_open 1 Close ≡ true) × (state_suits both_open 1 Remove ≡ false)
    × (state_suits one_closing 0 Close ≡ false) × (state_suits one_closing 1 Remove ≡ true) × (state_suits one_closing 2 Remove ≡ false)
unfolding state_suits there another_open other_open any_below is_present is_open is_closing bit
suits_samples = (refl, refl, refl, refl, refl, refl, refl)

-- clients 0 and 3 of a store opened with two servers; the lowest server that is there
pub source_samples : let z : Sizes = record { servers = 2; slots = 1; clients = 4 } in
    (metadata_source both_open z 0 ≡ 0) × (metadata_source both_open z 3 ≡ 1) × (metadata_source second_alone z 0 ≡ 1) × (lowest_there second_alone ≡ 1)
    × (metadata_source (with_states 0) z 0 ≡ 8)
unfolding metadata_source lowest_there first_from there is_present bit
source_samples = (refl, refl, refl, refl, refl)

-- "the largest number in its own earlier table or in those of servers not absent": server 3, with 9, is absent
pub largest_samples : (largest_version both_open 2 0 0 ≡ 5) × (largest_version second_alone 2 0 0 ≡ 4) × (largest_version both_open 3 0 0 ≡ 9)
unfolding largest_version largest larger there is_present bit
largest_samples = (refl, refl, refl)

-- a client in that phase, prepared at these servers
abbrev in_phase : ℕ → ℕ → ClientWord → ℕ
in_phase p w (field i) = get_or (p ∷ 0 ∷ 0 ∷ 0 ∷ 0 ∷ 3 ∷ w ∷ []) i 0
in_phase p w (item s i n) = 0
in_phase p w (vector_word s n) = 0

-- open; committing, and prepared nowhere; prepared at one of two servers; decided
pub unended_samples : (unended (in_phase 1 0) ≡ false) × (unended (in_phase 2 0) ≡ false) × (unended (in_phase 2 1) ≡ true) × (unended (in_phase 3 3) ≡ true)
unfolding unended
unended_samples = (refl, refl, refl, refl)
