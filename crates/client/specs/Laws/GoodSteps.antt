-- The stores of each step lie in the part, whatever it holds: for those who put steps together.
use Rattle.std.specs.Prelude.{true, List, [], ◌∷◌, ℕ, ◌+◌, ◌<◌, eqb, get_or, replicate}
use Rattle.std.proofs.Common.{arith}
use Rattle.memory.specs.Bit.{put_bit}
use Rattle.layout.specs.Sweep.{sweep}
use Rattle.nodes.specs.declared.node.Node.{Node}
use Rattle.client.specs.Layout.{client_words, fetched_vectors}
use Rattle.client.specs.Record.{metadata}
use Rattle.client.specs.Part.{◌then◌, nothing, put_field, put_fields, put_vector, drop_vector}
use Rattle.client.specs.Laws.Steps.{Good, good_then, good_nothing, good_field, good_fields, good_vector, good_cond, good_by, good_sweep, good_loop}
use Rattle.client.specs.Lent.{Entry}
use Rattle.client.specs.Enter.{enter_read, enter_nth, enter_used, enter_write, enter_entries}
use Rattle.client.specs.Laws.Enter.{good_read, good_nth, good_write}
use Rattle.client.specs.Copies.{copy_node, empty_place, drop_all}
use Rattle.client.specs.Drops.{drop_used}
use Rattle.client.specs.Laws.Copies.{good_copy, good_empty, good_vectors, good_drop_used}
use Rattle.client.specs.Fetched.{fetched_meta, copy_inner, fetched_node, mark_fetched, fetched_vector}
use Rattle.client.specs.Life.{reset, give_part, abort_part, lose_part}
use Rattle.client.specs.Renew.{renew_kept, finish}
use Rattle.client.specs.Laws.Renew.{good_kept}

pub good_used : (u : List ℕ) → Good (enter_used u)
unfolding enter_used
good_used u = good_loop (enter_nth u) (get_or u 0 0) (good_nth u)

pub good_entries : (l : List Entry) → Good (enter_entries l)
unfolding enter_entries
good_entries [] = good_nothing
good_entries (e ∷ l) = good_then (enter_write e.0 e.1) (enter_entries l) (good_write e.0 e.1) (good_entries l)

pub good_fetched_meta : (root states version : ℕ) → Good (fetched_meta root states version)
unfolding fetched_meta
good_fetched_meta root states version =
    let r = metadata version root states in
    let fields = states ∷ root ∷ version ∷ [] in
    good_then (enter_read 0 r) (put_fields 12 fields) (good_read 0 r) (good_fields 12 fields (omega arith))

good_inner : (x : ℕ) (n : Node) → Good (copy_inner x n)
unfolding copy_inner
good_inner x n = good_cond (copy_node x n) nothing (eqb n.kind 2) (λ e. good_copy x n) (λ e. good_nothing)

pub good_fetched_node : (name : ℕ) (n : Node) → Good (fetched_node name n)
unfolding fetched_node
good_fetched_node name n = good_then (enter_read (1 + name) n) (copy_inner (1 + name) n) (good_read (1 + name) n) (good_inner (1 + name) n)

good_mark : (s : ℕ) → Good (mark_fetched s)
unfolding mark_fetched
good_mark s = good_by (λ m. put_field 8 (put_bit true (m fetched_vectors) s)) (λ m. good_field 8 (put_bit true (m fetched_vectors) s) (omega arith))

pub good_fetched_vector : (s : ℕ) (ws : List ℕ) → s < 8 → Good (fetched_vector s ws)
unfolding fetched_vector
good_fetched_vector s ws h = good_then (put_vector s ws) (mark_fetched s) (good_vector s ws h) (good_mark s)

pub good_drop_all : Good drop_all
unfolding drop_all
good_drop_all =
    good_then (put_field 12 0) (sweep client_words empty_place 64 then sweep client_words drop_vector 8) (good_field 12 0 (omega arith))
    (good_then (sweep client_words empty_place 64) (sweep client_words drop_vector 8) (good_sweep empty_place 64 good_empty) (good_loop drop_vector 8 good_vectors))

pub good_reset : (phase : ℕ) → Good (reset phase)
unfolding reset
good_reset phase =
    good_then (put_field 0 phase) (put_field 1 0 then put_fields 5 (replicate 7 0)) (good_field 0 phase (omega arith))
    (good_then (put_field 1 0) (put_fields 5 (replicate 7 0)) (good_field 1 0 (omega arith)) (good_fields 5 (replicate 7 0) (omega arith)))

pub good_give : (op key value server : ℕ) → Good (give_part op key value server)
unfolding give_part
good_give op key value server = good_fields 1 (op ∷ key ∷ value ∷ server ∷ []) (omega arith)

pub good_abort : (us : List ℕ) → Good (abort_part us)
good_abort us = good_then (drop_used us) (reset 0) (good_drop_used us) (good_reset 0)

pub good_lose : Good lose_part
unfolding lose_part
good_lose = good_then (put_field 9 1) drop_all (good_field 9 1 (omega arith)) good_drop_all

pub good_finish : Good finish
unfolding finish
good_finish = good_then renew_kept (reset 0) good_kept (good_reset 0)
