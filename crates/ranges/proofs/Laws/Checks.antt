-- What a fetch hands over and what a check reads at a sound server is in range.
use Rattle.std.specs.Prelude.{◌≡◌, Bool, ◌||◌, List, [], ◌∷◌, ℕ, ◌-◌, ◌%◌, ◌≤◌, leb}
use Rattle.std.proofs.Math.Path.{refl}
use Rattle.std.proofs.Common.{subst}
use Rattle.std.proofs.Math.Bool.{true, false, cond}
use Rattle.std.proofs.Math.Option.{Option, none, some}
use native.Mathlib.Omega.{arith}
use borrow.Author.Tests.{eqb-true, le-leb}
use Rattle.std.proofs.Math.Dec.{eqb}
use Rattle.base.specs.Test.{one_if}
use Rattle.base.proofs.Laws.Test.{or_right}
use Rattle.memory.specs.Bit.{bit}
use Rattle.layout.specs.Space.{tab}
use Rattle.plans.specs.Walk.{Every}
use Rattle.nodes.specs.declared.node.Node.{Node}
use Rattle.nodes.specs.Range.{node_in_range}
use Rattle.nodes.proofs.Laws.Range.{range_version}
use Rattle.nodes.specs.Stored.{node_of}
use Rattle.nodes.specs.States.{metadata_fits}
use Rattle.server.specs.declared.place.Place.{Place}
use Rattle.server.specs.declared.place.Place.TheVariants.{Root, Version, States}
use Rattle.nodes.specs.Object.{object_of, named}
use Rattle.server.specs.declared.check.Finding.TheVariants.{Same, Differs, Busy}
use Rattle.server.specs.declared.lock.Use.{Use}
use Rattle.server.specs.Check.{can_check, mark_place, mark_in, standing, held, mark_fits, mark_finding, checked, finding_number}
use Rattle.server.specs.HandOut.{metadata_sound}
use Rattle.client.specs.Layout.{ClientWord}
use Rattle.client.specs.Record.{first_slot, second_slot, in_store, number_in_store, last_version, record_in_range}
use Rattle.client.specs.Participants.{at_home}
use Rattle.steps.specs.Steps.{node_at}
use Rattle.ranges.specs.Laws.Sound.{Sound, ServerSound}
use Rattle.ranges.proofs.Laws.Stored.{fits_parts, metadata_parts}
use Rattle.nodes.specs.Name as N
use Rattle.nodes.specs.declared.object.Object.TheVariants as object
use Rattle.steps.specs.Uses as U

module _ (slots : ℕ) (s : ℕ) (p : Place → ℕ) (good : ServerSound slots s p) where
  -- ---- a fetch of the metadata
  pub metadata_judged : metadata_sound slots p ≡ true
  unfolding metadata_sound metadata_fits N.name_in_store
  metadata_judged = let q = metadata_parts slots (p Version) (p Root) (p States) good.metadata in rw (q.0, le-leb (p Version) last_version q.1, q.2)

  -- ---- the mark that stands here: of what is checked by the table, or at home here
  digit_fits : (b : Bool) → leb (one_if b) 1 ≡ true
  digit_fits true = refl
  digit_fits false = refl

  node_standing : (n : ℕ) (inner : Bool) → in_store slots n ≡ true → (inner || eqb (N.server_of n) s) ≡ true → standing (object.Node (named n)) inner p ≤ last_version
  unfolding standing mark_in mark_place node_at node_of tab
  node_standing n true there h = good.tables n there
  node_standing n false there h = range_version (node_at p n) (good.nodes n there (eqb-true (N.server_of n) s h)).range

  standing_judged : (x : ℕ) (inner : Bool) → number_in_store slots x ≡ true → (inner || at_home s x) ≡ true → mark_fits (object_of x) (standing (object_of x) inner p) ≡ true
  unfolding number_in_store at_home object_of standing mark_in mark_place mark_fits
  standing_judged x inner = go (eqb x 0) (leb x 8192)
    where
      go : (a b : Bool) → cond a true (cond b (in_store slots (x - 1)) (in_store slots (x - 8193))) ≡ true
          → (inner || cond a true (cond b (eqb (N.server_of (x - 1)) s) (eqb (N.server_of (x - 8193)) s))) ≡ true
          → let o = cond a object.Metadata (cond b (object.Node (named (x - 1))) (object.Flag (named (x - 1 - 8192)))) in mark_fits o (standing o inner p) ≡ true
      go true b there h = le-leb (p Version) last_version (metadata_parts slots (p Version) (p Root) (p States) good.metadata).1
      go false true there h = le-leb (standing (object.Node (named (x - 1))) inner p) last_version (node_standing (x - 1) inner there h)
      go false false there h = digit_fits (bit (p (mark_place (object.Flag (named (x - 1 - 8192))) inner)) (N.slot_of (x - 1 - 8192) % 64))

  -- so a check of a mark in range finds none that is not
  checked_judged : (x : ℕ) (inner : Bool) (mark c : ℕ) (w : Use) → number_in_store slots x ≡ true → mark_fits (object_of x) mark ≡ true → (inner || at_home s x) ≡ true
      → eqb (finding_number (checked (object_of x) inner mark c w p)) 10 ≡ false
  unfolding checked mark_finding
  checked_judged x inner mark c w there fits h =
      rw (standing_judged x inner there h, fits) (go (held (object_of x) c w p) (eqb (standing (object_of x) inner p) mark))
    where
      go : (b y : Bool) → eqb (finding_number (cond b Busy (cond y Same Differs))) 10 ≡ false
      go true y = refl
      go false true = refl
      go false false = refl

  -- at a fetch
  pub fetch_judged : (x : ℕ) (inner : Bool) (mark c : ℕ) (w : Use) → number_in_store slots x ≡ true → mark_fits (object_of x) mark ≡ true → can_check s (object_of x) inner ≡ true
      → eqb (finding_number (checked (object_of x) inner mark c w p)) 10 ≡ false
  unfolding can_check at_home object_of
  fetch_judged x inner mark c w there fits h = checked_judged x inner mark c w there fits (go (eqb x 0) (leb x 8192) h)
    where
      go : (a b : Bool) → can_check s (cond a object.Metadata (cond b (object.Node (named (x - 1))) (object.Flag (named (x - 1 - 8192))))) inner ≡ true
          → (inner || cond a true (cond b (eqb (N.server_of (x - 1)) s) (eqb (N.server_of (x - 8193)) s))) ≡ true
      go true b h = or_right inner true refl
      go false true h = h
      go false false h =
          let e : x - 1 - 8192 ≡ x - 8193 = omega arith in
          or_right inner (eqb (N.server_of (x - 8193)) s) (subst (λ (n : ℕ). eqb (N.server_of n) s ≡ true) e h)

  -- at a prepare
  pub prepare_judged : (i : U.Item) (low c : ℕ) → number_in_store slots i.number ≡ true → mark_fits (U.item_object i) i.mark ≡ true → U.checked_at low s i ≡ true
      → eqb (finding_number (checked (U.item_object i) i.inner_read i.mark c (U.use_of i) p)) 10 ≡ false
  unfolding U.checked_at
  prepare_judged i low c there fits h =
      checked_judged i.number i.inner_read i.mark c (U.use_of i) there fits (go i.inner_read (eqb s low || i.written) (at_home s i.number) h)
    where
      go : (inner a b : Bool) → cond inner a b ≡ true → (inner || b) ≡ true
      go true a b h = refl
      go false a b h = h

-- the mark of a sound record that was read
pub mark_judged : (slots : ℕ) (u : ClientWord → ℕ) (x : ℕ) (r : Node) → Sound slots x r → mark_fits (object_of x) (U.item_of u x r).mark ≡ true
unfolding U.item_of record_in_range object_of mark_fits
mark_judged slots u x r h = go (eqb x 0) (leb x 8192) h.fitting
  where
    go : (a b : Bool) → cond a (metadata_fits slots (first_slot r) (second_slot r) r.version) (cond b (node_in_range r) (leb (first_slot r) 1)) ≡ true
        → mark_fits (cond a object.Metadata (cond b (object.Node (named (x - 1))) (object.Flag (named (x - 1 - 8192)))))
        (cond a r.version (cond b r.version (first_slot r))) ≡ true
    go true b q = le-leb r.version last_version (fits_parts slots r.version (first_slot r) (second_slot r) q).1
    go false true q = le-leb r.version last_version (range_version r q)
    go false false q = q

-- ---- where no finding is the refusal, none decides for it
abbrev Not10 : ℕ × ℕ → Type 0
Not10 f = eqb f.1 10 ≡ false

abbrev MayDecide : Option (ℕ × ℕ) → Type 0
MayDecide none = Unit {0}
MayDecide (some f) = Not10 f

least_judged : (fs : List (ℕ × ℕ)) → Every Not10 fs → MayDecide (U.least fs)
unfolding U.least Every
least_judged [] h = tt
least_judged (f ∷ fs) h = go (eqb f.1 0) (U.least fs) (least_judged fs h.1)
  where
    go : (b : Bool) (o : Option (ℕ × ℕ)) → MayDecide o → MayDecide (cond b o (U.lesser f o))
    go true o q = q
    go false none q = h.0
    go false (some g) q = by (leb f.0 g.0)
      where
        by : (b : Bool) → MayDecide (cond b (some f) (some g))
        by true = h.0
        by false = q

pub deciding_judged : (fs : List (ℕ × ℕ)) → Every Not10 fs → eqb (U.deciding fs) 10 ≡ false
unfolding U.deciding
deciding_judged fs h = go (U.least fs) (least_judged fs h)
  where
    go : (o : Option (ℕ × ℕ)) → MayDecide o → eqb (U.reason_of o) 10 ≡ false
    go none q = refl
    go (some f) q = q
