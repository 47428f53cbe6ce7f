-- What servers store stays sound where only locks change; and A NEW STORE IS SOUND.
use Rattle.std.specs.Prelude.{◌≡◌, true, false}
use Rattle.std.proofs.Math.Path.{refl, subst}
use Rattle.std.proofs.Common.{ap, sym, ◌∙◌, arith, ne_eqb}
use Prim.Native.Nat.{ℕ, zero, suc, ◌+◌, ◌≤◌, Fin}
use Rattle.base.specs.Test.{not_both}
use Rattle.memory.proofs.Laws.Bit.{zero_bit}
use Rattle.layout.specs.Space.{changed, tab}
use Rattle.nodes.specs.Lists.{pad}
use Rattle.nodes.specs.Node.{made}
use Rattle.nodes.specs.Range.{node_in_range}
use Rattle.nodes.specs.States.{states_fit, first_states, metadata_fits}
use Rattle.nodes.specs.Stored.{node_of}
use Rattle.nodes.specs.declared.object.Object.{Object}
use Rattle.server.specs.declared.place.Place.{Place}
use Rattle.server.specs.declared.place.Place.TheVariants.{Root, Version, States, MetadataLock, FlagLock, Table, NodeLock}
use Rattle.server.specs.Layout.{places}
use Rattle.nodes.specs.Object.{object_of}
use Rattle.server.specs.Object.{lock_of}
use Rattle.server.specs.Laws.Lock.{reads, writes, free_range}
use Rattle.server.specs.Laws.Fresh.{fresh, fresh_states}
use Rattle.client.specs.Layout.{ClientWord}
use Rattle.client.specs.Record.{number, metadata, in_store, record_in_range, last_version, children_there}
use Rattle.client.specs.Sets.{count}
use Rattle.client.specs.Fits.{op_fits}
use Rattle.steps.specs.Whole.{Address}
use Rattle.steps.proofs.Laws.Stores.{client_of, server_of}
use Rattle.steps.specs.Steps.{lock_each, unlock_each, node_at}
use Rattle.steps.specs.Run.{opened}
use Rattle.demand.proofs.Laws.Servers.{is_lock, lock_stays, unlock_stays, node_frame}
use Rattle.demand.proofs.Laws.Numbers.{zeroth_there}
use Rattle.demand.proofs.Laws.Opened.{zero_at, empty_node, root_node, no_client, server_fresh}
use Rattle.demand.proofs.Laws.Turns.{store}
use Rattle.ranges.specs.Laws.Sound.{NodeSound, Sound, PartSound, ServerSound, LockSound, LocksSound, SoundStore}
use Rattle.nodes.specs.Name as N
use Rattle.nodes.specs.declared.object.Object.TheVariants as object

-- ---- locks are no part of it
module _ (slots : ℕ) (s : ℕ) where
  server_frame : (p q : Place → ℕ) → ((a : Place) → is_lock a ≡ false → q a ≡ p a) → ServerSound slots s p → ServerSound slots s q
  server_frame p q h sound = record {
    metadata = subst (Sound slots 0) (sym (λ i. metadata (h Version refl i) (h Root refl i) (h States refl i))) sound.metadata;
    nodes = λ n i e. subst (NodeSound slots) (sym (node_frame 0 0 0 p q h n)) (sound.nodes n i e);
    tables = λ n i. subst (λ (v : ℕ). v ≤ last_version) (sym (h (Table (N.server_of n) (N.slot_of n)) refl)) (sound.tables n i);
  }

  module _ (u : ClientWord → ℕ) (c low t : ℕ) (p : Place → ℕ) where
    pub lock_each_sound : ServerSound slots s p → ServerSound slots s (changed places p (lock_each u c low t p))
    lock_each_sound = server_frame p (changed places p (lock_each u c low t p)) (λ a h. lock_stays u low t p a h c)

    pub unlock_each_sound : ServerSound slots s p → ServerSound slots s (changed places p (unlock_each u c low t p))
    unlock_each_sound = server_frame p (changed places p (unlock_each u c low t p)) (λ a h. unlock_stays u low t p a h c)

-- ---- A NEW SERVER
lock_zero : (n s : ℕ) (o : Object) → fresh n s (lock_of o) ≡ 0
unfolding lock_of
lock_zero n s object.Metadata = zero_at n s MetadataLock refl
lock_zero n s (object.Node x) = zero_at n s (NodeLock (N.server_of x.number) (N.slot_of x.number)) refl
lock_zero n s (object.Flag x) = zero_at n s (FlagLock (N.slot_of x.number)) refl

-- "those past the opened size absent at first", the others open
first_fit : (n : ℕ) → suc n ≤ 8 → states_fit (first_states (suc n)) ≡ true
unfolding states_fit first_states
first_fit zero l = refl
first_fit (suc zero) l = refl
first_fit (suc (suc zero)) l = refl
first_fit (suc (suc (suc zero))) l = refl
first_fit (suc (suc (suc (suc zero)))) l = refl
first_fit (suc (suc (suc (suc (suc zero))))) l = refl
first_fit (suc (suc (suc (suc (suc (suc zero)))))) l = refl
first_fit (suc (suc (suc (suc (suc (suc (suc zero))))))) l = refl
first_fit (suc (suc (suc (suc (suc (suc (suc (suc n)))))))) l = absurd (omega arith)

module _ (slots k : ℕ) where
  new_node : (s n : ℕ) → N.server_of n ≡ s → NodeSound slots (node_at (fresh (suc k) s) n)
  unfolding made pad node_of tab node_in_range children_there
  new_node s zero e = subst (λ (t : ℕ). NodeSound slots (node_at (fresh (suc k) t) 0)) e (subst (NodeSound slots) (sym (root_node (suc k))) (record { range = refl; children = refl }))
  new_node s (suc n) e = subst (NodeSound slots) (sym (empty_node (suc k) s (suc n) e (λ q. absurd (omega arith)))) (record { range = refl; children = refl })

  new_server : in_store slots 0 ≡ true → suc k ≤ 8 → (s : ℕ) → ServerSound slots s (fresh (suc k) s)
  unfolding metadata made pad record_in_range metadata_fits
  new_server there size s = record {
    metadata = subst (Sound slots 0)
        (sym (λ i. metadata (zero_at (suc k) s Version refl i) (zero_at (suc k) s Root refl i) (fresh_states (suc k) s i)))
        (record { fitting = rw (there, first_fit k size); children = refl });
    nodes = λ n i e. new_node s n e;
    tables = λ n i. omega (arith, zero_at (suc k) s (Table (N.server_of n) (N.slot_of n)) refl);
  }

-- ---- A NEW CLIENT'S PART
new_part : (slots : ℕ) → PartSound slots (λ a. 0)
unfolding op_fits count
new_part slots = record {
  fields = record { within = λ i l. omega arith; op = refl };
  sets = record {
    read = λ i l. absurd (omega arith);
    written = λ i l. absurd (omega arith);
    written_read = λ i l. absurd (omega arith);
    rooted = λ i l. absurd (omega arith);
    young = λ i l. absurd (omega arith);
  };
  copies = record {
    meta_copy = λ n. absurd (n refl);
    copies = λ i l n. absurd (n refl);
    vectors = λ s l. omega arith;
  };
}

-- ---- A NEW STORE
module _ (k j slots : ℕ) where
  abbrev first : Address → ℕ
  first = opened (store k j slots)

  opened_part : (c : ℕ) → PartSound slots (client_of first c)
  opened_part c = subst (PartSound slots) (sym (no_client (store k j slots) c)) (new_part slots)

  -- no client reads or writes
  opened_locks : (s : Fin 8) → LocksSound k j slots first s
  unfolding reads writes
  opened_locks s o i kept =
      subst (LockSound (store k j slots) first s.0 (number o))
      (sym (ap (λ (p : Place → ℕ). p (lock_of (object_of (number o)))) (server_fresh (store k j slots) s.0 s.1) ∙ lock_zero (suc k) s.0 (object_of (number o))))
      (record {
        range = free_range (suc j);
        readers = λ d l h. absurd (not_both h (zero_bit d));
        writer = λ d l h. absurd (not_both h (ne_eqb 0 (65536 + d) (λ e. omega arith)));
      })

  module _ (some_slot : 1 ≤ slots) (size : suc k ≤ 8) where
    opened_sound : (s : Fin 8) → ServerSound slots s.0 (server_of first s.0)
    opened_sound s =
        subst (ServerSound slots s.0) (sym (server_fresh (store k j slots) s.0 s.1))
        (new_server slots k (zeroth_there slots some_slot) size s.0)

    pub first_sound : SoundStore k j slots first
    first_sound = record { parts = λ c. opened_part c.0; servers = opened_sound; locks = opened_locks }
