-- "The last apply ends the transaction and renews its copies": what is copied then comes from the write set, and is sound as its items are.
use Rattle.std.specs.Prelude.{◌≡◌, refl, Bool, true, false, cond, ℕ, ◌≤◌, ◌<◌, suc, eqb, leb, ltb}
use Rattle.std.proofs.Common.{subst, arith, eqb-true, ltb-true}
use Rattle.std.proofs.lemmas.Bool.{false≢true}
use Rattle.layout.specs.Space.{tab}
use Rattle.nodes.specs.declared.node.Node.{Node}
use Rattle.std.specs.Prelude.{Some}
use Rattle.nodes.specs.Range.{node_in_range}
use Rattle.nodes.specs.Stored.{node_of}
use Rattle.nodes.proofs.Laws.Stored.{Sized}
use Rattle.nodes.specs.States.{metadata_fits}
use Rattle.client.specs.declared.part.Set.TheVariants.{Reads, Writes}
use Rattle.client.specs.Layout.{ClientWord, item}
use Rattle.client.specs.Record.{metadata, by_number, first_slot, second_slot, last_version, record_in_range, children_there}
use Rattle.client.specs.Sets.{count, record_at, number_at, find}
use Rattle.client.specs.Commit.{inner_at}
use Rattle.demand.proofs.Laws.Held.{found_at}
use Rattle.demand.proofs.Laws.Placed.{record_sized}
use Rattle.ranges.specs.Laws.Sound.{NodeSound, InnerSound, Sound, SetsSound}
use Rattle.ranges.proofs.Laws.Stored.{root_and_states, metadata_of, versioned_sound}
use Rattle.client.specs.Renew as Rn
use Rattle.client.specs.Drops.{version_of, next_version}

-- the record of an object whose number names a node
node_record : (slots : ℕ) (x : ℕ) (r : Node) (b : Bool) → by_number x false (λ n. b) (λ n. false) ≡ true → Sound slots x r → NodeSound slots r
unfolding record_in_range
node_record slots x r b h s = go (eqb x 0) (leb x 8192) h s.fitting s.children
  where
    go : (c d : Bool) → cond c false (cond d b false) ≡ true
        → cond c (metadata_fits slots (first_slot r) (second_slot r) r.version) (cond d (node_in_range r) (leb (first_slot r) 1)) ≡ true
        → cond c true (cond d (children_there slots r) true) ≡ true → NodeSound slots r
    go true d h f g = absurd (false≢true h)
    go false true h f g = record { range = f; children = g }
    go false false h f g = absurd (false≢true h)

-- an item that is an inner node's
inner_kind : (k : ℕ) (a b : Bool) → cond a false (cond b (eqb k 2) false) ≡ true → k ≡ 2
inner_kind k true b h = absurd (false≢true h)
inner_kind k false true h = eqb-true k 2 h
inner_kind k false false h = absurd (false≢true h)

-- "a 32-bit version"
new_within : (w : ClientWord → ℕ) (x : ℕ) → Rn.new_version w x ≤ last_version
unfolding Rn.new_version next_version
new_within w x = next (version_of w (find w Reads x)) (ltb (version_of w (find w Reads x)) last_version) refl
  where
    next : (v : ℕ) (b : Bool) → ltb v last_version ≡ b → cond b (suc v) 0 ≤ last_version
    next v true e = omega (arith, ltb-true v last_version e)
    next v false e = omega arith

module _ (slots : ℕ) (w : ClientWord → ℕ) (S : SetsSound slots w) where
  -- "then written inner nodes by name"
  pub renewed_node : (i : ℕ) → i < count w Writes → inner_at w Writes i ≡ true → Sized (Rn.renewed w i) × InnerSound slots (Rn.renewed w i)
  unfolding Rn.renewed Rn.versioned inner_at record_at node_of tab
  renewed_node i l h =
      let x = number_at w Writes i in
      let r = record_at w Writes i in
      let whole : Sized r = record_sized w Writes i in (
        record { keys = whole.keys; slots = whole.slots },
        record {
          inner = inner_kind (w (item Writes i 1)) (eqb x 0) (leb x 8192) h;
          sound = versioned_sound slots r (Rn.new_version w x) (new_within w x) (node_record slots x r (eqb (w (item Writes i 1)) 2) h (S.written i l).sound);
        },
      )

  -- "metadata"
  pub renewed_meta : (i : ℕ) → find w Writes 0 ≡ Some i → Sound slots 0 (metadata (Rn.new_version w 0) (w (item Writes i 19)) (w (item Writes i 20)))
  unfolding record_at node_of tab
  renewed_meta i e =
      let at = found_at w Writes 0 i e in
      metadata_of slots (Rn.new_version w 0) (w (item Writes i 19)) (w (item Writes i 20)) (new_within w 0)
      (root_and_states slots (record_at w Writes i) (subst (λ (x : ℕ). Sound slots x (record_at w Writes i)) at.1 (S.written i at.0).sound))
