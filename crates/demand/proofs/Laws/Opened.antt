-- A NEW STORE shows the machine's first state.
use Rattle.std.specs.Prelude.{◌≡◌, Bool, true, false, List, [], ◌∷◌, get_or}
use Rattle.std.proofs.Math.Path.{refl, ap, ap₂, sym, subst, fun_ext}
use Rattle.std.proofs.Common.{◌∙◌, arith}
use Rattle.std.proofs.lemmas.Bool.{false≢true}
use Prim.Native.Nat.{ℕ, zero, suc, ◌/◌, ◌%◌, Fin, ◌<◌}
use Rattle.std.proofs.Math.Decide.{ℕ_discrete}
use Rattle.base.specs.Test.{not_both}
use Rattle.memory.specs.Bit.{bit}
use Rattle.memory.proofs.Laws.Bit.{zero_bit}
use Rattle.layout.specs.Space.{Put, put, changed, tab}
use Rattle.layout.proofs.Laws.Space.{written_other}
use Rattle.layout.specs.Part.{over}
use Rattle.client.specs.Layout.{ClientWord}
use Rattle.nodes.specs.Lists.{pad}
use Rattle.nodes.specs.Node.{made, keys_of, slots_of, extra}
use Rattle.nodes.specs.Stored.{node_of}
use Rattle.nodes.specs.States.{first_states}
use Rattle.operations.specs.Object.{Obj, meta, node, flag, root, taken}
use Rattle.server.specs.declared.place.Place.{Place}
use Rattle.server.specs.declared.place.Place.TheVariants.{Root, Version, States, MetadataLock, Vector, Node, FlagLock, Table, NodeLock}
use Rattle.server.specs.Layout.{place_code, place_again, places}
use Rattle.server.specs.HandOut.{node_here}
use Rattle.server.specs.Fresh.{first_leaf, fresh_stores}
use Rattle.server.specs.Laws.Fresh.{fresh, fresh_other, fresh_root, fresh_zero, fresh_states}
use Rattle.client.specs.Record.{value_of}
use Rattle.demand.proofs.Laws.Writing.{AtHome}
use Rattle.steps.specs.declared.sizes.Sizes.{Sizes}
use Rattle.steps.specs.Whole.{Address, head, server, client, whole}
use Rattle.steps.specs.Run.{opened}
use Rattle.demand.specs.Ledger.{blank}
use Rattle.steps.specs.Steps.{at_servers, node_at}
use Rattle.steps.proofs.Laws.Stores.{client_of, server_of}
use Rattle.demand.proofs.Laws.Everywhere.{every_client, every_server, every_head}
use Rattle.demand.proofs.Laws.Frame.{last, read_after}
use Rattle.demand.proofs.Laws.Shows.{phase_of, T, InStore, value_at, version_at, table_at, ClientShown, ServerShown, Related}
use Rattle.demand.proofs.Laws.Store.{init, keeps}
use Rattle.demand.proofs.Laws.Members.{kept_at}
use Rattle.demand.proofs.Laws.Slots.{blank_shown}
use Rattle.protocol.specs.Machine as P
use Rattle.protocol.specs.Moves as Mv

-- of 1 only the lowest bit is set
one_bit : (i : ℕ) → ¬ (i ≡ 0) → bit 1 i ≡ false
unfolding bit
one_bit zero n = absurd (n refl)
one_bit (suc i) n = zero_bit i

-- what a place is: 1 a word of flags, 2 one of a slot; and which of them, or of which slot
abbrev kind_in : Place → ℕ
kind_in a = get_or (place_code a) 0 0

abbrev slot_in : Place → ℕ
slot_in a = get_or (place_code a) 1 0

-- nodes, flags and the servers' states apart, everything is 0
abbrev pub of_node : Place → Bool
of_node Root = false
of_node Version = false
of_node States = true
of_node MetadataLock = false
of_node (Vector i) = true
of_node (Node k i) = true
of_node (FlagLock k) = false
of_node (Table s k) = false
of_node (NodeLock s k) = false

-- n: how many servers are open
module _ (n : ℕ) where
  pub zero_at : (s : ℕ) (a : Place) → of_node a ≡ false → fresh n s a ≡ 0
  zero_at s a h = fresh_zero n s a (λ e. not_both (ap of_node e) h) (λ e. not_both (ap of_node e) h) (λ e. not_both (ap of_node e) h)

  -- at all servers but the first only the states are not 0
  pub zero_else : (s : ℕ) (a : Place) → ¬ (s ≡ 0) → ¬ (a ≡ States) → fresh n s a ≡ 0
  zero_else s a h r = fresh_other n s a h ∙ written_other places place_again (λ b. 0) States (first_states n) a r

  -- all nodes but the root are free
  empty_word : (s x i : ℕ) → x / 1024 ≡ s → ¬ (x ≡ 0) → fresh n s (Node (x % 1024) i) ≡ 0
  empty_word s x i e d = go (ℕ_discrete s 0)
    where
      other : ¬ (Node (x % 1024) i ≡ States)
      other q = absurd (omega (arith, ap kind_in q))

      go : Dec (s ≡ 0) → fresh n s (Node (x % 1024) i) ≡ 0
      go (no h) = zero_else s (Node (x % 1024) i) h other
      go (yes h) =
          fresh_zero n s (Node (x % 1024) i) (λ q. d (let r : x % 1024 ≡ 0 = ap slot_in q in omega arith)) (λ q. absurd (omega (arith, ap kind_in q))) other

  pub empty_node : (s x : ℕ) → x / 1024 ≡ s → ¬ (x ≡ 0) → node_at (fresh n s) x ≡ node_of (tab 33 (λ i. 0))
  unfolding node_at
  empty_node s x e d = ap (λ (f : ℕ → ℕ). node_of (tab 33 f)) (fun_ext (λ i. empty_word s x i e d))

  pub root_node : node_at (fresh n 0) 0 ≡ made 1 0 0 [] []
  unfolding node_at node_here
  root_node = fresh_root n

-- ---- the stores of an opening: the head, then every server
module _ (z : Sizes) where
  heads : Address → ℕ
  heads = changed whole (λ a. 0) (put (head 0) z.servers ∷ put (head 1) z.slots ∷ put (head 2) z.clients ∷ [])

  in_servers : ℕ → List (Put Address)
  in_servers s = over (server s) (fresh_stores z.servers s)

  opened_is : opened z ≡ changed whole heads (at_servers 8 in_servers)
  unfolding opened heads in_servers changed
  opened_is = refl

  at_head : (a : Address) → heads a ≡ last whole (put (head 0) z.servers ∷ put (head 1) z.slots ∷ put (head 2) z.clients ∷ []) a 0
  unfolding heads
  at_head a = read_after whole (put (head 0) z.servers ∷ put (head 1) z.slots ∷ put (head 2) z.clients ∷ []) (λ _. 0) a

  in_parts : (s : ℕ) → in_servers s ≡ over (server s) (fresh_stores z.servers s)
  unfolding in_servers
  in_parts s = refl

  head_is : (i : ℕ) → opened z (head i) ≡ heads (head i)
  head_is i = ap (λ (f : Address → ℕ). f (head i)) opened_is ∙ every_head heads in_servers (fresh_stores z.servers) in_parts 8 i

  -- the head of a new store: "the three sizes"
  pub opened_head : (opened z (head 0) ≡ z.servers) × (opened z (head 1) ≡ z.slots) × (opened z (head 2) ≡ z.clients)
  opened_head = (head_is 0 ∙ at_head (head 0), head_is 1 ∙ at_head (head 1), head_is 2 ∙ at_head (head 2))

  -- a client's part is empty
  pub no_client : (c : ℕ) → client_of (opened z) c ≡ (λ a. 0)
  no_client c =
      ap (λ (f : Address → ℕ). client_of f c) opened_is ∙ every_client heads in_servers (fresh_stores z.servers) in_parts 8 c ∙ fun_ext (λ a. at_head (client c a))

  pub server_fresh : (s : ℕ) → s < 8 → server_of (opened z) s ≡ fresh z.servers s
  unfolding fresh
  server_fresh s l =
      ap (λ (f : Address → ℕ). server_of f s) opened_is ∙ every_server heads in_servers (fresh_stores z.servers) in_parts 8 s l
      ∙ ap (λ (f : Place → ℕ). changed places f (fresh_stores z.servers s)) (fun_ext (λ a. at_head (server s a)))

module _ (k j slots : ℕ) where
  abbrev z : Sizes
  z = record { servers = suc k; slots = slots; clients = suc j }

  pub client_opened : (c : Fin (suc j)) → ClientShown k j slots (client_of (opened z) c.0) (blank.given c.0) (blank.undecided c.0)
      ((P.first_machine (T k j slots)).slots c) ((P.first_machine (T k j slots)).copy c) ((P.first_machine (T k j slots)).said c)
  unfolding phase_of
  client_opened c =
      subst (λ (u : ClientWord → ℕ). ClientShown k j slots u (blank.given c.0) (blank.undecided c.0) ((P.first_machine (T k j slots)).slots c)
      ((P.first_machine (T k j slots)).copy c) ((P.first_machine (T k j slots)).said c)) (sym (no_client z c.0))
      (record {
        slot = blank_shown k j slots (λ a. 0) (omega arith) refl refl refl refl refl;
        copies = record {
          meta_as = λ e. absurd (omega (arith, e));
          node_as = λ i n l e. absurd (omega (arith, e));
          flag_as = λ n i e. absurd (omega (arith, e));
          apart = λ i n l r e d. absurd (d refl);
        };
        says = record {
          said_as = λ n. let z : 0 < 0 = n.0 in absurd (omega (arith, z));
          given_as = λ n. absurd (n refl);
          legal = λ n. absurd (n refl);
        };
      })

  -- ---- servers
  abbrev born : ℕ → Place → ℕ
  born = fresh (suc k)

  first_word : born 0 (Vector 0) ≡ 1
  unfolding fresh fresh_stores first_leaf
  first_word = read_after places (fresh_stores (suc k) 0) (λ a. 0) (Vector 0)

  empty_bit : (s n : ℕ) → n / 1024 ≡ s → ¬ (n ≡ 0) → bit (born s (Vector (n % 1024 / 64))) (n % 1024 % 64) ≡ false
  empty_bit s n e d = go (ℕ_discrete s 0) (ℕ_discrete (n % 1024 / 64) 0)
    where
      none : born s (Vector (n % 1024 / 64)) ≡ 0 → bit (born s (Vector (n % 1024 / 64))) (n % 1024 % 64) ≡ false
      none q = ap (λ (w : ℕ). bit w (n % 1024 % 64)) q ∙ zero_bit (n % 1024 % 64)

      go : Dec (s ≡ 0) → Dec (n % 1024 / 64 ≡ 0) → bit (born s (Vector (n % 1024 / 64))) (n % 1024 % 64) ≡ false
      go (no h) q = none (zero_else (suc k) s (Vector (n % 1024 / 64)) h (λ w. absurd (omega (arith, ap kind_in w))))
      go (yes h) (no q) =
          none (fresh_zero (suc k) s (Vector (n % 1024 / 64)) (λ w. absurd (omega (arith, ap kind_in w))) (λ w. q (ap slot_in w)) (λ w. absurd (omega (arith, ap kind_in w))))
      go (yes h) (yes q) =
          ap (λ (w : ℕ). bit w (n % 1024 % 64)) (ap₂ (λ (x i : ℕ). born x (Vector i)) h q ∙ first_word) ∙ one_bit (n % 1024 % 64) (λ r. d (omega arith))

  value_first : (s : ℕ) (o : Obj) → AtHome s o → init k j slots o ≡ value_at k j slots (born s) o
  unfolding made pad keys_of slots_of extra node_of tab bit
  value_first s meta h = ap₂ root (sym (zero_at (suc k) s Root refl)) (sym (fresh_states (suc k) s))
  value_first s (node zero) h = subst (λ (x : ℕ). init k j slots (node 0) ≡ value_at k j slots (born x) (node 0)) h (ap (value_of (node 0)) (sym (root_node (suc k))))
  value_first s (node (suc n)) h = ap (value_of (node (suc n))) (sym (empty_node (suc k) s (suc n) h (λ q. absurd (omega arith))))
  value_first s (flag zero) h =
      subst (λ (x : ℕ). init k j slots (flag 0) ≡ value_at k j slots (born x) (flag 0)) h (ap (λ (w : ℕ). taken (bit w 0)) (sym first_word))
  value_first s (flag (suc n)) h = ap taken (sym (empty_bit s (suc n) h (λ q. absurd (omega arith))))

  -- versions, tables and locks: all 0
  version_first : (s : ℕ) (o : Obj) → AtHome s o → 0 ≡ version_at k j slots (born s) o
  unfolding made node_of tab
  version_first s meta h = sym (zero_at (suc k) s Version refl)
  version_first s (node zero) h = subst (λ (x : ℕ). 0 ≡ version_at k j slots (born x) (node 0)) h (ap (λ r. r.version) (sym (root_node (suc k))))
  version_first s (node (suc n)) h = ap (λ r. r.version) (sym (empty_node (suc k) s (suc n) h (λ q. absurd (omega arith))))
  version_first s (flag n) h = refl

  table_first : (s : ℕ) (o : Obj) → 0 ≡ table_at k j slots (born s) o
  table_first s meta = sym (zero_at (suc k) s Version refl)
  table_first s (node n) = sym (zero_at (suc k) s (Table (n / 1024) (n % 1024)) refl)
  table_first s (flag n) = refl

  pub server_opened : (s : Fin 8) → ServerShown k j slots (server_of (opened z) s.0) s ((P.first_machine (T k j slots)).value s)
      ((P.first_machine (T k j slots)).version s) ((P.first_machine (T k j slots)).table s) ((P.first_machine (T k j slots)).lock s)
  server_opened s =
      subst (λ (p : Place → ℕ). ServerShown k j slots p s ((P.first_machine (T k j slots)).value s) ((P.first_machine (T k j slots)).version s)
      ((P.first_machine (T k j slots)).table s) ((P.first_machine (T k j slots)).lock s)) (sym (server_fresh z s.0 s.1))
      (record {
        value_as = λ o i q. value_first s.0 o (home_of o i q);
        version_as = λ o i q. version_first s.0 o (home_of o i q);
        table_as = λ o i q. table_first s.0 o;
        lock_as = λ o i q d e. absurd (false≢true e);
      })
    where
      home_of : (o : Obj) → InStore k j slots o → keeps k j slots s o ≡ true → AtHome s.0 o
      home_of meta i q = tt
      home_of (node n) i q = kept_at k j slots s n i q
      home_of (flag n) i q = kept_at k j slots s n i q

  -- A NEW STORE
  pub opened_related : Related k j slots (opened z) blank (P.first_machine (T k j slots))
  opened_related = record { reached = Mv.at_first; clients = client_opened; servers = server_opened; log_as = refl }
