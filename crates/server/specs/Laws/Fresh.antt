-- What stands in a newly opened server's part.
use Rattle.std.specs.Prelude.{◌≡◌, ℕ, ◌<◌, replicate}
use Rattle.std.proofs.Math.Path.{refl, ap}
use Rattle.std.proofs.Common.{◌∙◌, arith, ne_eqb}
use mathlib.Core.List.{List, [], ◌∷◌}
use Rattle.std.proofs.Math.Decide.{ℕ_discrete}
use Rattle.std.proofs.Math.ListN.{get_or, set}
use Rattle.layout.specs.Block.{In}
use Rattle.layout.specs.Space.{Valid, written, changed, tab}
use Rattle.layout.proofs.Laws.Space.{written_same, written_other, written_apart, tab_written, tab_eq}
use Rattle.server.specs.declared.place.Place.{Place}
use Rattle.server.specs.declared.place.Place.TheVariants.{States, Vector, Node}
use Rattle.server.specs.Layout.{place_again, places, server_block, place_code}
use Rattle.server.specs.HandOut.{vector_at, node_here}
use Rattle.nodes.specs.Node.{made}
use Rattle.nodes.specs.Lists.{pad}
use Rattle.nodes.specs.States.{first_states}
use Rattle.nodes.specs.Stored.{node_of}
use Rattle.server.specs.Fresh.{first_leaf, fresh_stores}

-- what stands at the places of a newly opened server s, of which the first n are open
unfoldable pub fresh : ℕ → ℕ → Place → ℕ
fresh n s = changed places (λ a. 0) (fresh_stores n s)

pub fresh_sample : (fresh 1 0 (Node 0 0) ≡ 1) × (fresh 1 0 (Vector 0) ≡ 1) × (fresh 1 0 (Node 1 0) ≡ 0) × (fresh 1 1 (Node 0 0) ≡ 0) × (fresh 1 1 States ≡ 257)
unfolding fresh fresh_stores first_leaf first_states changed written
fresh_sample = (refl, refl, refl, refl, refl)

-- the words after opening hold that
pub first_node_valid : (n : ℕ) → 0 < n → Valid places (server_block n) (Node 0 0)
unfolding Valid In
first_node_valid n h = (h, omega arith)

pub first_flag_valid : (n : ℕ) → Valid places (server_block n) (Vector 0)
unfolding Valid In
first_flag_valid n = omega arith

-- ---- the same, as it is handed out
module _ (n : ℕ) where
  -- with the states alone, as all servers but the first have them
  abbrev blank : Place → ℕ
  blank = written places (λ b. 0) States (first_states n)

  pub fresh_other : (s : ℕ) (a : Place) → ¬ (s ≡ 0) → fresh n s a ≡ blank a
  unfolding fresh fresh_stores first_leaf changed
  fresh_other s a h = rw (ne_eqb s 0 h)

  -- at server 0, all but the kind of the node in slot 0 and its flag
  at_first : (a : Place) → fresh n 0 a ≡ written places (written places blank (Node 0 0) 1) (Vector 0) 1 a
  unfolding fresh fresh_stores first_leaf changed
  at_first a = refl

  pub fresh_root : node_here 0 (fresh n 0) ≡ made 1 0 0 [] []
  unfolding node_here made pad node_of tab
  fresh_root =
      ap node_of
      (tab_eq 33 (λ j. fresh n 0 (Node 0 j)) (λ j. written places blank (Node 0 0) 1 (Node 0 j))
      (λ j l. at_first (Node 0 j) ∙ written_apart places (written places blank (Node 0 0) 1) (Vector 0) 1 (Node 0 j) refl)
      ∙ tab_written places place_again 33 blank (Node 0) (λ i j e. ap (λ (a : Place). get_or (place_code a) 3 0) e) 0 1 (omega arith)
      ∙ ap (λ (l : List ℕ). set l 0 1) (tab_eq 33 (λ j. blank (Node 0 j)) (λ j. 0) (λ j l. written_apart places (λ b. 0) States (first_states n) (Node 0 j) refl)))

  pub fresh_vector : vector_at (fresh n 0) ≡ 1 ∷ replicate 15 0
  unfolding vector_at tab
  fresh_vector =
      tab_eq 16 (λ i. fresh n 0 (Vector i)) (λ i. written places (written places blank (Node 0 0) 1) (Vector 0) 1 (Vector i)) (λ i l. at_first (Vector i))
      ∙ tab_written places place_again 16 (written places blank (Node 0 0) 1) Vector (λ i j e. ap (λ (a : Place). get_or (place_code a) 1 0) e) 0 1 (omega arith)
      ∙ ap (λ (l : List ℕ). set l 0 1) (tab_eq 16 (λ i. written places blank (Node 0 0) 1 (Vector i)) (λ i. 0)
      (λ i l. written_apart places blank (Node 0 0) 1 (Vector i) refl ∙ written_apart places (λ b. 0) States (first_states n) (Vector i) refl))

  -- beside the states everything else is 0
  pub fresh_zero : (s : ℕ) (a : Place) → ¬ (a ≡ Node 0 0) → ¬ (a ≡ Vector 0) → ¬ (a ≡ States) → fresh n s a ≡ 0
  fresh_zero s a p q r = go (ℕ_discrete s 0)
    where
      none : blank a ≡ 0
      none = written_other places place_again (λ b. 0) States (first_states n) a r

      go : Dec (s ≡ 0) → fresh n s a ≡ 0
      go (no h) = fresh_other s a h ∙ none
      go (yes e) =
          rw e (at_first a ∙ written_other places place_again (written places blank (Node 0 0) 1) (Vector 0) 1 a q ∙ written_other places place_again blank (Node 0 0) 1 a p ∙ none)

  -- every server has the states
  pub fresh_states : (s : ℕ) → fresh n s States ≡ first_states n
  fresh_states s = go (ℕ_discrete s 0)
    where
      stand : blank States ≡ first_states n
      stand = written_same places (λ b. 0) States (first_states n)

      go : Dec (s ≡ 0) → fresh n s States ≡ first_states n
      go (no h) = fresh_other s States h ∙ stand
      go (yes e) = rw e (at_first States ∙ written_apart places (written places blank (Node 0 0) 1) (Vector 0) 1 States refl ∙ written_apart places blank (Node 0 0) 1 States refl ∙ stand)
