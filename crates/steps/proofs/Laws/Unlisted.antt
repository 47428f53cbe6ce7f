-- Only the answer of a list writes to the lent output.
use Rattle.std.specs.Prelude.{◌≡◌, Bool, true, false, cond, ◌&&◌, not, ℕ, ◌+◌, eqb, leb, ltb}
use Rattle.std.proofs.Math.Path.{refl}
use Rattle.std.proofs.Common.{true≢false}
use mathlib.Core.List.{List, [], map}
use Rattle.layout.specs.Space.{Put}
use Rattle.operations.specs.Entry.{Entries}
use Rattle.server.specs.declared.lock.Use.TheVariants.{Fetch}
use Rattle.server.specs.declared.place.Place.{Place}
use Rattle.nodes.specs.Object.{object_of}
use Rattle.server.specs.Check.{held}
use Rattle.client.specs.Layout.{ClientWord, phase}
use Rattle.client.specs.Participants.{participants_of}
use Rattle.client.specs.Record.{node_fits}
use Rattle.client.specs.Fetched.{fetched_meta, fetched_node}
use Rattle.server.specs.HandOut.{metadata_at, metadata_sound}
use Rattle.client.specs.Work.{Worked, refused, fetches, aborted, answers}
use Rattle.client.specs.Fits.{fit_to_commit, fit_to_prepare, fit_to_apply}
use Rattle.steps.specs.declared.sizes.Sizes.{Sizes}
use Rattle.steps.specs.declared.step.Step.{Step}
use Rattle.steps.specs.declared.step.Kind.{Kind}
use Rattle.steps.specs.declared.step.Kind.TheVariants.{Begin, Give, Work, Commit, Prepare, Apply, GiveUp, Lost, Servers, Unknown}
use Rattle.steps.specs.declared.step.ServerChange.{ServerChange}
use Rattle.steps.specs.declared.outcome.Outcome.{Outcome}
use Rattle.steps.specs.declared.outcome.Outcome.TheVariants.{Refused, Done, Fetched, Prepared, Decided, Applied, Committed, Aborted}
use Rattle.steps.specs.Whole.{Address, server, client}
use Rattle.steps.specs.Servers.{there, metadata_source}
use Rattle.steps.specs.Judge.{lock_fits, abort_fits}
use Rattle.steps.specs.Uses as U
use Rattle.steps.specs.Steps as S
use Rattle.operations.specs.Object as O

pub record Unlisted (d : S.Did) : Type 0 where
  pub none : d.pairs ≡ []

plain : (o : Outcome) (ps : List (Put Address)) → Unlisted (S.did o ps)
plain o ps = record { none = refl }

either : (b : Bool) (d e : S.Did) → Unlisted d → Unlisted e → Unlisted (cond b d e)
either true d e h g = h
either false d e h g = g

by_finding : (y : ℕ) (d : S.Did) (f : ℕ → S.Did) → Unlisted d → Unlisted (f y) → Unlisted (S.by_finding y d f)
by_finding y d f h g = either (eqb y 0) d _ h (either (eqb y 10) (S.refuse 10) (f y) (plain _ _) g)

-- the kind that may answer
abbrev pub works? : Kind → Bool
works? Begin = false
works? Give = false
works? Work = true
works? Commit = false
works? Prepare = false
works? Apply = false
works? GiveUp = false
works? Lost = false
works? (Servers x) = false
works? Unknown = false

-- the pairs of the answer
abbrev pub pairs_of : Worked → Entries
pairs_of refused = []
pairs_of (fetches a) = []
pairs_of (aborted y) = []
pairs_of (answers a w) = a.2

module _ (z : Sizes) (m : Address → ℕ) (c : ℕ) where
  abbrev mine : ClientWord → ℕ
  mine a = m (client c a)

  pub abort_unlisted : (y : ℕ) (us : List ℕ) → Unlisted (S.abort z m c y us)
  unfolding S.abort
  abort_unlisted y us = either (abort_fits z m c) _ _ (plain (Aborted y) (S.aborting z m c us)) (plain (Refused 10) [])

  fetch_object : (us : List ℕ) (s x : ℕ) (out : Outcome) (ok : Bool) (g : (ClientWord → ℕ) → List (Put ClientWord)) → Unlisted (S.fetch_object z m c us s x out ok g)
  fetch_object us s x out ok g =
      either (lock_fits z m s x) _ _
      (either (held (object_of x) c Fetch (λ a. m (server s a))) _ _ (abort_unlisted 2 us)
      (either (S.full z m c us) _ _ (abort_unlisted 4 us) (either ok _ _ (plain out (S.handed z m c us g)) (plain (Refused 10) [])))) (plain (Refused 10) [])

  hand_over : (us : List ℕ) (a : O.Ask) (s : ℕ) (out : Outcome) → Unlisted (S.hand_over z m c us a s out)
  hand_over us (O.object O.meta) s out =
      let p : Place → ℕ = λ a. m (server s a) in
      fetch_object us s 0 out (metadata_sound z.slots p) (fetched_meta (metadata_at p).root (metadata_at p).states (metadata_at p).version)
  hand_over us (O.object (O.node n)) s out =
      let r = S.node_at (λ a. m (server s a)) n in
      fetch_object us s (1 + n) out (node_fits z.slots r) (fetched_node n r)
  hand_over us (O.object (O.flag n)) s out = record { none = refl }
  hand_over us (O.vector t) s out = record { none = refl }
  hand_over us (O.fetched t) s out = record { none = refl }

  pub fetch_unlisted : (us : List ℕ) (a : O.Ask) → Unlisted (S.fetch z m c us a)
  unfolding S.fetch
  fetch_unlisted us a =
      let w = S.wanted (metadata_source m z c) a in
      let y = U.deciding (map (S.fetch_finding z m c us w.from) (S.fetch_items z m c us)) in
      either (ltb w.from 8) _ _ (either (there m w.from) _ _ (by_finding y (S.hand_over z m c us a w.from (Fetched w.what w.which)) (λ y. S.abort z m c y us) (hand_over us a w.from (Fetched w.what w.which)) (abort_unlisted y us)) (abort_unlisted 1 us)) (plain (Refused 10) [])

  pub walk_pairs : (us : List ℕ) (w : Worked) → (S.after_walk z m c us w).pairs ≡ pairs_of w
  walk_pairs us refused = refl
  walk_pairs us (fetches a) = (fetch_unlisted us a).none
  walk_pairs us (aborted y) = (abort_unlisted y us).none
  walk_pairs us (answers a w) = refl

  applied_unlisted : (s : ℕ) → Unlisted (S.applied_at z m c s)
  unfolding S.applied_at
  applied_unlisted s = either (S.all_applied z m c s) _ _ (plain Committed _) (plain (Applied s) _)

  apply_unlisted : (s : ℕ) → Unlisted (S.apply z m c s)
  unfolding S.apply
  apply_unlisted s = either (S.apply_fits z m c s) _ _ (applied_unlisted s) (plain (Refused 10) [])

  prepared_unlisted : (s : ℕ) → Unlisted (S.prepared_at z m c s)
  unfolding S.prepared_at
  prepared_unlisted s =
      either (not (S.all_prepared z m c s)) _ _ (plain (Prepared s) _)
      (either (S.only z m c s) _ _ (either (fit_to_apply z.slots mine s true) _ _ (record { none = refl }) (plain (Refused 10) [])) (plain Decided _))

  prepare_unlisted : (s : ℕ) → Unlisted (S.prepare z m c s)
  unfolding S.prepare
  prepare_unlisted s =
      let y = U.deciding (map (S.prepare_finding z m c s) (U.read_items mine)) in
      either (fit_to_prepare z.slots mine) _ _
      (either (there m s) _ _ (by_finding y (S.prepared_at z m c s) (λ y. S.abort z m c y []) (prepared_unlisted s) (abort_unlisted y [])) (abort_unlisted 1 [])) (plain (Refused 10) [])

  commit_unlisted : Unlisted (S.commit z m c)
  unfolding S.commit
  commit_unlisted =
      either (fit_to_commit z.slots mine) _ _ (either (eqb (participants_of mine) 0) _ _ (plain Committed _) (plain Done _)) (plain (Refused 10) [])

  lose_unlisted : Unlisted (S.lose z m c)
  unfolding S.lose
  lose_unlisted =
      either (eqb (mine phase) 0) _ _ (plain Done _)
      (either (eqb (mine phase) 3) _ _ (plain Done _) (either (leb (mine phase) 3 && abort_fits z m c) _ _ (plain (Aborted 7) _) (plain (Refused 10) [])))

  change_unlisted : (x : ServerChange) (s : ℕ) → Unlisted (S.change_servers z m x s)
  unfolding S.change_servers
  change_unlisted x s = either (S.change_fits z m x s) _ _ (plain Done _) (plain (Refused 10) [])

  -- a step of any kind but work
  pub kind_unlisted : (k : Step) (x : Kind) → works? x ≡ false → Unlisted (S.by_kind z m c k x)
  unfolding S.begin S.give
  kind_unlisted k Begin e = record { none = refl }
  kind_unlisted k Give e = record { none = refl }
  kind_unlisted k Work e = absurd (true≢false e)
  kind_unlisted k Commit e = commit_unlisted
  kind_unlisted k Prepare e = prepare_unlisted k.server
  kind_unlisted k Apply e = apply_unlisted k.server
  kind_unlisted k GiveUp e = abort_unlisted 6 []
  kind_unlisted k Lost e = lose_unlisted
  kind_unlisted k (Servers x) e = change_unlisted x k.server
  kind_unlisted k Unknown e = record { none = refl }
