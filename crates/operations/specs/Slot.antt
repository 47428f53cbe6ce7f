-- Slots taken and freed: the search in placement order, the flags, and the taken slots' nodes.
use Rattle.std.specs.Prelude.{Bool, true, false, cond, List, [], ◌∷◌, ℕ, zero, suc, take, set}
use Rattle.std.proofs.Math.Option.{Option, none, some}
use Rattle.std.proofs.Math.Decide.{ℕ_discrete}
use Rattle.base.specs.Test.{ifd}
use Rattle.nodes.specs.Name.{name, server_of, slot_of}
use Rattle.nodes.specs.Placement.{row}
use Rattle.nodes.specs.States.{is_open}
use Rattle.nodes.specs.Vector.{first_free}
use Rattle.operations.specs.Object.{Obj, meta, node, flag, object, vector, fetched, Val, root, body, taken, flags, free, states_of, is_taken, flags_of, not_free, no_slot, Writes}
use Rattle.operations.specs.Path.{TreePlan, see}
use Rattle.plans.specs.Plan as P

-- one write counted in a vector of the server s: a flag of that server is set
abbrev pub count_one : Obj → Val → ℕ → List Bool → List Bool
count_one meta v s fs = fs
count_one (node n) v s fs = fs
count_one (flag n) v s fs = ifd (ℕ_discrete (server_of n) s) (set fs (slot_of n) (is_taken v)) fs

-- "own frees and takes counted": a vector of the server s with what the operation has written
abbrev pub counted : Writes → ℕ → List Bool → List Bool
counted [] s fs = fs
counted (e ∷ w) s fs = count_one e.0 e.1 s (counted w s fs)

-- "On a server it takes the first free slot above the split node's slot number, going round."
abbrev pub free_slot : ℕ → Writes → ℕ → ℕ → Val → Option ℕ
free_slot slots w slot s v = first_free slot (take slots (counted w s (flags_of v)))

-- on with the name of the slot found on server s, else with the plan p
abbrev pub chosen : ℕ → Option ℕ → (ℕ → TreePlan) → TreePlan → TreePlan
chosen s none k p = p
chosen s (some i) k p = k (name s i)

-- "vectors in placement order": the first free slot on these servers; "a server is passed over only by a vector that this
-- transaction fetched". Of all passed over: "no slot is free".
abbrev pub search : ℕ → Writes → ℕ → List ℕ → (ℕ → TreePlan) → TreePlan
search slots w slot [] k = P.fail no_slot
search slots w slot (s ∷ ss) k =
    P.ask (vector s) (λ v. chosen s (free_slot slots w slot s v) k
    (P.ask (fetched s) (λ u. chosen s (free_slot slots w slot s u) k
    (search slots w slot ss k))))

-- "absent servers are skipped", and those closing too: "closes an open one to new nodes"
abbrev pub open_ones : ℕ → List ℕ → List ℕ
open_ones states [] = []
open_ones states (s ∷ ss) = cond (is_open states s) (s ∷ open_ones states ss) (open_ones states ss)

-- the flag of a slot to be taken must be free; a flag has no other value than the first two
abbrev pub when_free_flag : Val → TreePlan → TreePlan
when_free_flag (taken false) k = k
when_free_flag (taken true) k = P.fail not_free
when_free_flag (root r st) k = P.fail not_free
when_free_flag (body j l ks vs) k = P.fail not_free
when_free_flag (flags fs) k = P.fail not_free

-- the flag of slot d is read, must be free, and is written as taken
abbrev pub take_flag : Writes → ℕ → (Writes → TreePlan) → TreePlan
take_flag w d k = see w (flag d) (λ v. when_free_flag v (k ((flag d, taken true) ∷ w)))

-- a slot above a slot number on one of these servers that is open, "by the metadata it read, as in placement": chosen, and its flag taken. Where
-- none is open, so no vector is read: "a migration to a server not open, with 5 where its vector would be read"
abbrev pub take_on : ℕ → List ℕ → ℕ → Writes → (ℕ → Writes → TreePlan) → TreePlan
take_on slots ss slot w k = P.ask (object meta) (λ v. search slots w slot (open_ones (states_of v) ss) (λ d. take_flag w d (λ w'. k d w')))

-- "a new node looks on servers in the order s xor 0, s xor 1, .. s xor 7, where s is the home of the node being split"
abbrev pub take_for : ℕ → ℕ → Writes → (ℕ → Writes → TreePlan) → TreePlan
take_for slots n w k = take_on slots (row (server_of n)) (slot_of n) w k

-- "A taken slot's node is read too, and must be free." A node has no other value than the first two
abbrev pub when_free_node : Val → TreePlan → TreePlan
when_free_node (body zero l ks vs) k = k
when_free_node (body (suc j) l ks vs) k = P.fail not_free
when_free_node (root r st) k = P.fail not_free
when_free_node (taken b) k = P.fail not_free
when_free_node (flags fs) k = P.fail not_free

-- the node of the taken slot d is read, and must be free
abbrev pub take_node : Writes → ℕ → TreePlan → TreePlan
take_node w d k = see w (node d) (λ v. when_free_node v k)

-- a node freed: "a freed slot's vector", i.e. its flag, is read
abbrev pub release : Writes → ℕ → (Writes → TreePlan) → TreePlan
release w n k = see w (flag n) (λ _. k ((node n, free) ∷ (flag n, taken false) ∷ w))
