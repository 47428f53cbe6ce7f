-- Steps that store in one server's part and in one client's; what a server shows stays where only locks change.
use Rattle.std.specs.Prelude.{◌≡◌, refl, Bool, cond}
use Rattle.std.proofs.Math.Path.{ap, fun_ext}
use Rattle.std.proofs.Common.{ap₂, sym, ◌∙◌, subst}
use Rattle.std.proofs.Math.Bool.{true, false}
use mathlib.Core.List.{List, [], ◌++◌}
use Prim.Native.Nat.{ℕ, ◌/◌, ◌%◌, Fin}
use Rattle.std.proofs.Math.Decide.{Fin-discrete}
use Rattle.base.specs.Test.{not_both}
use Rattle.base.specs.Update.{upd}
use Rattle.base.proofs.Laws.Update.{upd_same, upd_other}
use Rattle.memory.specs.Bit.{bit, put_bit}
use Rattle.memory.proofs.Laws.Bit.{bit_put_same, bit_put_other}
use Rattle.layout.specs.Space.{Put, tab, changed}
use Rattle.layout.proofs.Laws.Step.{changed_append}
use Rattle.layout.specs.Part.{over}
use Rattle.layout.specs.Sweep.{sweep}
use Rattle.operations.specs.Object.{Obj, meta, node, flag, root, taken}
use Rattle.nodes.specs.declared.object.Object.{Object}
use Rattle.server.specs.declared.place.Place.{Place}
use Rattle.server.specs.Layout.{place_again, places}
use Rattle.server.specs.Object.{lock_of}
use Rattle.server.specs.Store.{lock_step, unlock_step}
use Rattle.client.specs.declared.part.Set.TheVariants.{Reads}
use Rattle.client.specs.Layout.{ClientWord, client_words}
use Rattle.nodes.specs.Stored.{node_of}
use Rattle.client.specs.Record.{value_of}
use Rattle.client.specs.Sets.{count}
use Rattle.steps.specs.Whole.{Address, server, client, whole}
use Rattle.steps.specs.Steps.{lock_each, unlock_each, node_at}
use Rattle.steps.proofs.Laws.Stores.{client_of, server_of, client_changed, client_else, client_servers, server_changed, server_else, server_clients}
use Rattle.demand.proofs.Laws.Frame.{Only, only_sweep, only_other}
use Rattle.demand.proofs.Laws.Shows.{value_at, version_at, table_at}
use Rattle.nodes.specs.Name as N
use Rattle.nodes.specs.declared.object.Object.TheVariants as object
use Rattle.server.specs.declared.place.Place.TheVariants as place
use Rattle.steps.specs.Uses as U

-- ---- stores at server s, then at client c
module _ (m : Address → ℕ) (s c : ℕ) (ps : List (Put Place)) (qs : List (Put ClientWord)) where
  abbrev pub both : Address → ℕ
  both = changed whole m (over (server s) ps ++ over (client c) qs)

  first : Address → ℕ
  first = changed whole m (over (server s) ps)

  split : both ≡ changed whole first (over (client c) qs)
  unfolding first
  split = changed_append whole (over (server s) ps) (over (client c) qs) m

  pub both_client : client_of both c ≡ changed client_words (client_of m c) qs
  unfolding first
  both_client =
      ap (λ (f : Address → ℕ). client_of f c) split ∙ client_changed first c qs ∙ ap (λ (u : ClientWord → ℕ). changed client_words u qs) (server_clients m s ps c)

  pub both_other : (d : ℕ) → ¬ (d ≡ c) → client_of both d ≡ client_of m d
  unfolding first
  both_other d n = ap (λ (f : Address → ℕ). client_of f d) split ∙ client_else first c qs d n ∙ server_clients m s ps d

  pub both_server : server_of both s ≡ changed places (server_of m s) ps
  unfolding first
  both_server = ap (λ (f : Address → ℕ). server_of f s) split ∙ client_servers first c qs s ∙ server_changed m s ps

  pub both_else : (t : ℕ) → ¬ (t ≡ s) → server_of both t ≡ server_of m t
  unfolding first
  both_else t n = ap (λ (f : Address → ℕ). server_of f t) split ∙ client_servers first c qs t ∙ server_else m s ps t n

-- ---- places of locks and others
abbrev pub is_lock : Place → Bool
is_lock place.Root = false
is_lock place.Version = false
is_lock place.States = false
is_lock place.MetadataLock = true
is_lock (place.Vector i) = false
is_lock (place.Node k j) = false
is_lock (place.FlagLock k) = true
is_lock (place.Table s k) = false
is_lock (place.NodeLock s k) = true

pub a_lock : (o : Object) → is_lock (lock_of o) ≡ true
unfolding lock_of
a_lock object.Metadata = refl
a_lock (object.Node x) = refl
a_lock (object.Flag x) = refl

-- locking and unlocking what is read changes locks alone
module _ (u : ClientWord → ℕ) (low t : ℕ) (p : Place → ℕ) (a : Place) (h : is_lock a ≡ false) where
  abbrev AtLocks : List (Put Place) → Type 0
  AtLocks = Only places (λ x v. is_lock x ≡ true)

  abbrev each : (U.Item → (Place → ℕ) → List (Put Place)) → ℕ → (Place → ℕ) → List (Put Place)
  each f n q = cond (U.locked_at low t (U.read_item u n)) (f (U.read_item u n) q) []

  stays : (f : U.Item → (Place → ℕ) → List (Put Place)) → ((i : U.Item) (q : Place → ℕ) → AtLocks (f i q))
      → changed places p (sweep places (each f) (count u Reads) p) a ≡ p a
  unfolding Only
  stays f at =
      only_other places place_again (λ x v. is_lock x ≡ true) a (λ x v l e. not_both (ap is_lock e ∙ l) h) (sweep places (each f) (count u Reads) p) p
      (only_sweep places (λ x v. is_lock x ≡ true) (each f) (count u Reads) p (λ n q. tested (U.locked_at low t (U.read_item u n)) _ (at (U.read_item u n) q)))
    where
      tested : (b : Bool) (ps : List (Put Place)) → AtLocks ps → AtLocks (cond b ps [])
      tested true ps g = g
      tested false ps g = tt

  pub lock_stays : (c : ℕ) → changed places p (lock_each u c low t p) a ≡ p a
  unfolding lock_step Only
  lock_stays c = stays (λ i q. lock_step (U.item_object i) i.written c q) (λ i q. (a_lock (U.item_object i), tt))

  pub unlock_stays : (c : ℕ) → changed places p (unlock_each u c low t p) a ≡ p a
  unfolding unlock_step Only
  unlock_stays c = stays (λ i q. unlock_step (U.item_object i) c q) (λ i q. (a_lock (U.item_object i), tt))

-- what a server stores but its locks
module _ (k j slots : ℕ) (p q : Place → ℕ) (h : (a : Place) → is_lock a ≡ false → q a ≡ p a) where
  pub node_frame : (n : ℕ) → node_at q n ≡ node_at p n
  unfolding node_at
  node_frame n = ap (λ (f : ℕ → ℕ). node_of (tab 33 f)) (fun_ext (λ i. h (place.Node (N.slot_of n) i) refl))

  pub value_frame : (o : Obj) → value_at k j slots q o ≡ value_at k j slots p o
  value_frame meta = ap₂ root (h place.Root refl) (h place.States refl)
  value_frame (node n) = ap (value_of (node n)) (node_frame n)
  value_frame (flag n) = ap (λ (w : ℕ). taken (bit w (N.slot_of n % 64))) (h (place.Vector (N.slot_of n / 64)) refl)

  pub version_frame : (o : Obj) → version_at k j slots q o ≡ version_at k j slots p o
  version_frame meta = h place.Version refl
  version_frame (node n) = ap (λ r. r.version) (node_frame n)
  version_frame (flag n) = refl

  pub table_frame : (o : Obj) → table_at k j slots q o ≡ table_at k j slots p o
  table_frame meta = h place.Version refl
  table_frame (node n) = h (place.Table (N.server_of n) (N.slot_of n)) refl
  table_frame (flag n) = refl

-- a server more in a set of servers
pub noted_bit : {n : ℕ} (f : Fin n → Bool) (w : ℕ) (s t : Fin n) → ((t : Fin n) → f t ≡ bit w t.0)
    → upd (Fin-discrete n) f s true t ≡ bit (put_bit true w s.0) t.0
noted_bit {n} f w s t h = go (Fin-discrete n t s)
  where
    go : Dec (t ≡ s) → upd (Fin-discrete n) f s true t ≡ bit (put_bit true w s.0) t.0
    go (yes e) =
        subst (λ (x : Fin n). upd (Fin-discrete n) f s true x ≡ bit (put_bit true w s.0) x.0) (sym e)
        (upd_same (Fin-discrete n) f s true ∙ sym (bit_put_same true w s.0))
    go (no d) = upd_other (Fin-discrete n) f s true t d ∙ h t ∙ sym (bit_put_other true w s.0 t.0 (λ e. d (native.Mathlib.Fin.val_path e)))
