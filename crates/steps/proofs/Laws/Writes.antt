-- The stores of one write at an apply lie in the server's part.
use Rattle.std.specs.Prelude.{◌≡◌, refl, Bool, true, false, cond, [], ℕ, ◌-◌, ◌≤◌, eqb}
use Rattle.std.proofs.Common.{sym, subst, arith, eq-eqb, ne_eqb, le-leb}
use Rattle.std.proofs.Math.Decide.{ℕ_discrete, dec_le}
use Rattle.std.proofs.lemmas.Bool.{lt-leb}
use Rattle.layout.proofs.Laws.Space.{AllValid}
use Rattle.layout.specs.Space.{tab}
use Rattle.nodes.specs.declared.node.Node.{Node}
use Rattle.nodes.specs.Node.{free_node, made}
use Rattle.nodes.specs.Lists.{pad}
use Rattle.nodes.specs.Stored.{node_of}
use Rattle.nodes.proofs.Laws.Stored.{Sized}
use Rattle.server.specs.declared.place.Place.{Place}
use Rattle.server.specs.Layout.{places, server_block}
use Rattle.nodes.specs.Object.{object_of, named}
use Rattle.server.specs.Object.{Has}
use Rattle.nodes.proofs.Laws.Object.{is_node}
use Rattle.server.specs.Store.{kept_of, flag_step}
use Rattle.server.specs.Laws.Leaves.{metadata_inside, flag_inside, node_inside}
use Rattle.client.specs.declared.part.Set.{Set}
use Rattle.client.specs.declared.part.Set.TheVariants.{Writes}
use Rattle.client.specs.Layout.{ClientWord}
use Rattle.client.specs.Record.{first_slot, second_slot}
use Rattle.client.specs.Sets.{number_at, record_at}
use Rattle.client.specs.Items.{inner_before_after}
use Rattle.client.specs.Participants.{at_home}
use Rattle.client.specs.Drops.{next_version}
use Rattle.steps.specs.Steps.{store_write}
use Rattle.nodes.specs.declared.object.Object.TheVariants as object

-- a record of a set has whole arrays, and so has what is kept of it
record_sized : (m : ClientWord → ℕ) (s : Set) (i : ℕ) → Sized (record_at m s i)
unfolding record_at node_of tab
record_sized m s i = record { keys = refl; slots = refl }

pub kept_sized : (r : Node) (v : ℕ) → Sized r → Sized (kept_of r v)
unfolding kept_of free_node made pad
kept_sized r v h = go (eqb r.kind 0)
  where
    go : (b : Bool) → Sized (cond b (free_node v) (record { kind = r.kind; level = r.level; version = v; count = r.count; keys = r.keys; slots = r.slots }))
    go true = record { keys = refl; slots = refl }
    go false = record { keys = h.keys; slots = h.slots }

pub node_has : (n x : ℕ) → ¬ (x ≡ 0) → x ≤ 8192 → Has n (object_of x) → Has n (object.Node (named (x - 1)))
node_has n x d l h = subst (Has n) (sym (is_node x d l)) h

pub write_inside : (n : ℕ) (m : ClientWord → ℕ) (s i : ℕ) (p : Place → ℕ) → Has n (object_of (number_at m Writes i)) → AllValid places (server_block n) (store_write m s i p)
unfolding AllValid
write_inside n m s i p h = go (ℕ_discrete x 0) (dec_le x 8192)
  where
    x : ℕ
    x = number_at m Writes i

    r : Node
    r = record_at m Writes i

    flag_there : (b : Bool) → AllValid places (server_block n) (cond b (flag_step (named (x - 8193)) (eqb (first_slot r) 1) p) [])
    flag_there true = flag_inside n p (named (x - 8193)) (eqb (first_slot r) 1)
    flag_there false = tt

    go : Dec (x ≡ 0) → Dec (x ≤ 8192) → AllValid places (server_block n) (store_write m s i p)
    go (yes e) d = rw (eq-eqb x 0 e) (metadata_inside n p (first_slot r) (second_slot r) (next_version m x))
    go (no e) (yes l) =
        rw (ne_eqb x 0 e, le-leb x 8192 l)
        (node_inside n p s (named (x - 1)) r (next_version m x) (inner_before_after m x) (kept_sized r (next_version m x) (record_sized m Writes i)) (node_has n x e l h))
    go (no e) (no l) = rw (ne_eqb x 0 e, lt-leb x 8192 (omega arith)) (flag_there (at_home s x))
