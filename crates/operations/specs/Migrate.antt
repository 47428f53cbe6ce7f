-- "Migrate moves a node to a named server (search there as above), frees the old slot and changes the parent, or the metadata
-- for the root. A free node, else one already there, is answered and not moved, and its path isn't read."
use Rattle.std.specs.Prelude.{Bool, List, [], ◌∷◌, ◌++◌, ℕ, zero, suc, length}
use Rattle.std.proofs.Math.Decide.{ℕ_discrete, dec_lt, dec_le}
use Rattle.base.specs.Test.{ifd, yes?}
use Rattle.nodes.specs.Name.{server_of, slot_of}
use Rattle.operations.specs.Object.{meta, node, object, Val, root, body, taken, flags, states_of, no_tree, Writes}
use Rattle.operations.specs.Entry.{node_value, cut}
use Rattle.operations.specs.Path.{TreePlan, when_root, Cont, down, at_root}
use Rattle.operations.specs.Slot.{take_on, take_node, release}
use Rattle.plans.specs.Plan as P

-- the node n with the value v goes to a slot of the server s: the slot is taken, its node read, the old slot freed. Beside
-- that x is written
abbrev pub moved : ℕ → ℕ → ℕ → Val → (ℕ → Writes → Writes) → (ℕ → Writes → TreePlan) → TreePlan
moved slots n s v x k = take_on slots (s ∷ []) (slot_of n) [] (λ d w. take_node w d (release (x d w) n (λ w'. k d ((node d, v) ∷ w'))))

-- the root moves: the metadata names its new slot d, which is the answer's b, and keeps the servers' states
abbrev pub move_root : ℕ → ℕ → ℕ → ℕ → Val → TreePlan
move_root slots st n s v = moved slots n s v (λ d w. (meta, root d st) ∷ w) (λ d w. P.done ((1, d, []), w))

-- "a migrated node other than the root isn't met at its level going down from the root by its first key": at the level above. Level 0 and
-- [] are not reached: the path stops above the node, and an inner node has a child
abbrev pub move_at : ℕ → ℕ → ℕ → Val → ℕ → Cont
move_at slots n s v key zero fs m es = P.fail no_tree
move_at slots n s v key (suc l) fs m [] = P.fail no_tree
move_at slots n s v key (suc l) fs m (e ∷ es) =
    let c = cut key e es in
    ifd (ℕ_discrete c.1.1 n)
    (moved slots n s v (λ d w. w) (λ d w. P.done ((1, d, []), (node m, node_value (suc l) (c.0 ++ (c.1.0, d) ∷ c.2)) ∷ w)))
    (P.fail no_tree)

-- the path stops at the level s
abbrev pub to_level : ℕ → ℕ → Bool
to_level s l = yes? (ℕ_discrete l s)

-- on with the first key; 7 keys were asked for before (`move_node`), so [] is not reached
abbrev pub first_key : List ℕ → (ℕ → TreePlan) → TreePlan
first_key [] k = P.fail no_tree
first_key (x ∷ xs) k = k x

-- the path from the root r to the parent of the node n of level l
abbrev pub move_below : ℕ → ℕ → ℕ → ℕ → Val → ℕ → ℕ → TreePlan
move_below slots r n s v l key = at_root r (λ j es. ifd (dec_lt l j) (down (to_level (suc l)) key (move_at slots n s v key) j [] r es) (P.fail no_tree))

-- "a node used below the root has under 7 keys"
abbrev pub move_node : ℕ → ℕ → ℕ → ℕ → ℕ → Val → ℕ → List ℕ → TreePlan
move_node slots st r n s v l ks =
    ifd (ℕ_discrete n r) (move_root slots st n s v)
    (ifd (dec_le 7 (length ks)) (first_key ks (move_below slots r n s v l)) (P.fail no_tree))

-- "for an unmoved node 0 if free, 1 if there already"; a node has no other value than the last two
abbrev pub move_if : ℕ → ℕ → ℕ → ℕ → ℕ → Val → TreePlan
move_if slots st r n s (root q t) = P.fail no_tree
move_if slots st r n s (taken b) = P.fail no_tree
move_if slots st r n s (flags fs) = P.fail no_tree
move_if slots st r n s (body zero l ks vs) = P.done ((0, 0, []), [])
move_if slots st r n s (body (suc j) l ks vs) =
    ifd (ℕ_discrete (server_of n) s) (P.done ((0, 1, []), [])) (move_node slots st r n s (body (suc j) l ks vs) l ks)

-- "in the order metadata, a migrated node, the path downward"
abbrev pub migrate_plan : ℕ → ℕ → ℕ → TreePlan
migrate_plan slots n s = P.ask (object meta) (λ v. when_root v (λ r. P.ask (object (node n)) (λ u. move_if slots (states_of v) r n s u)))
