-- The ways out of refusal 10's tests of a client's own part.
use Rattle.std.specs.Prelude.{◌≡◌, Bool, ◌&&◌, not, ℕ, ◌-◌, ◌≤◌, ◌<◌, leb}
use Rattle.std.proofs.Math.Path.{refl, sym}
use Rattle.std.proofs.Common.{◌∙◌}
use Rattle.std.proofs.Math.Bool.{true, false}
use native.Mathlib.Omega.{arith}
use borrow.Author.Tests.{eq-eqb, ne_eqb, le-leb, lt-leb, lt-ltb, le-ltb, ltb-true, ltb-false, not-true, not-false}
use Rattle.std.proofs.Math.Dec.{ltb}
use Rattle.base.specs.Test.{and_both}
use Rattle.nodes.specs.declared.node.Node.{Node}
use Rattle.client.specs.declared.part.Set.{Set}
use Rattle.client.specs.declared.part.Set.TheVariants.{Reads, Writes, Copies}
use Rattle.nodes.specs.Name.{server_of}
use Rattle.nodes.specs.States.{states_fit}
use Rattle.nodes.specs.Stored.{node_of}
use Rattle.layout.specs.Space.{tab}
use Rattle.client.specs.Layout.{ClientWord, field, item, vector_word, limit}
use Rattle.client.specs.Record.{in_store, number_in_store, whole_in_range, kind_in_range}
use Rattle.client.specs.Sets.{count, number_at, record_at, find}
use Rattle.client.specs.Items.{all_below, has, inner, inner_before_after}
use Rattle.client.specs.Participants.{at_home, all_take_part, states_read}
use Rattle.client.specs.Drops.{version_of}
use Rattle.client.specs.Fits.{said_count, kind_fits, is_read, young, stored_at, read_fits, version_fits, servers_fit, servers_known, number_fits, numbers_fit, migrate_fits, list_fits, op_fits, fit_to_work, fit_to_commit, fit_to_prepare, fit_to_abort, fit_to_unlock, stored_record_fits, write_fits, writes_fit, flag_renewal_fits, inner_renewal_fits, renewal_fits, fit_to_renew, fit_to_apply}

and_more : (a b : Bool) → ((a && true) && b) ≡ (a && b)
and_more true b = refl
and_more false b = refl

-- ---- one test, and then another
module _ (a b c : Bool) (p : c ≡ a) where
  pub first_fails : not c ≡ true → false ≡ (a && b)
  first_fails t = rw (← p, not-true c t)

  pub second_says : (r : Bool) → not c ≡ false → r ≡ b → r ≡ (a && b)
  second_says r t q = rw (← p, not-false c t) q

module _ (slots : ℕ) (x : ℕ) where
  pub number_meta : x ≡ 0 → true ≡ number_in_store slots x
  unfolding number_in_store
  number_meta e = rw (eq-eqb _ _ e)

  pub number_node : (r : Bool) → (x ≡ 0 → ⊥) → x ≤ 8192 → r ≡ in_store slots (x - 1) → r ≡ number_in_store slots x
  unfolding number_in_store
  number_node r d h p = rw (ne_eqb _ _ d, le-leb _ _ h) p

  pub number_flag : (r : Bool) → (x ≡ 0 → ⊥) → 8192 < x → r ≡ in_store slots (x - 8193) → r ≡ number_in_store slots x
  unfolding number_in_store
  number_flag r d h p = rw (ne_eqb _ _ d, lt-leb _ _ h) p

-- ---- sets of servers, counts, kinds
module _ (m : ClientWord → ℕ) where
  pub servers_asked : (i q : ℕ) → q ≡ m (field i) → ltb q 256 ≡ servers_fit m (field i)
  unfolding servers_fit
  servers_asked i q e = rw e

  module _ (a : Bool) (p : a ≡ all_take_part m) where
    pub known_unasked : not a ≡ true → true ≡ servers_known m
    unfolding servers_known
    known_unasked t = rw (← p, not-true a t)

    pub known_asked : (x : ℕ) (r : Bool) → not a ≡ false → x ≡ states_read m → r ≡ states_fit x → r ≡ servers_known m
    unfolding servers_known
    known_asked x r t e h = h ∙ rw (← p, not-false a t, e)

  module _ (s : Set) where
    pub reads_counted : (q : ℕ) → s ≡ Reads → q ≡ m (field 10) → leb q 96 ≡ leb (said_count m s) (limit s)
    reads_counted q e p = rw (e, p)

    pub writes_counted : (q : ℕ) → s ≡ Writes → q ≡ m (field 11) → leb q 48 ≡ leb (said_count m s) (limit s)
    writes_counted q e p = rw (e, p)

    pub copies_counted : s ≡ Copies → true ≡ leb (said_count m s) (limit s)
    copies_counted e = rw e

    module _ (i x : ℕ) (e : x ≡ number_at m s i) where
      pub kind_of_meta : x ≡ 0 → true ≡ kind_fits m s i
      unfolding kind_fits kind_in_range
      kind_of_meta d = rw (← e, eq-eqb _ _ d)

      pub kind_of_node : (k : ℕ) → (x ≡ 0 → ⊥) → x ≤ 8192 → k ≡ m (item s i 1) → leb k 2 ≡ kind_fits m s i
      unfolding kind_fits kind_in_range record_at node_of tab
      kind_of_node k d h p = rw (← e, ne_eqb _ _ d, le-leb _ _ h, p)

      pub kind_of_flag : 8192 < x → true ≡ kind_fits m s i
      unfolding kind_fits kind_in_range
      kind_of_flag h = rw (← e, ne_eqb x 0 (λ q. absurd (omega (arith, q))), lt-leb _ _ h)

  pub read_there : (i x : ℕ) (b : Bool) → x ≡ number_at m Writes i → b ≡ has m Reads x → b ≡ is_read m i
  unfolding is_read
  read_there i x b e p = p ∙ rw e

  -- ---- versions
  pub young_flag : (x : ℕ) → 8192 < x → true ≡ young m x
  unfolding young
  young_flag x h = rw (lt-ltb _ _ h)

  pub young_version : (x v : ℕ) → x ≤ 8192 → v ≡ version_of m (find m Reads x) → ltb v 4294967295 ≡ young m x
  unfolding young
  young_version x v h e = rw (le-ltb _ _ h, e)

  module _ (s x : ℕ) (a : Bool) (p : a ≡ at_home s x) where
    pub stored_home : a ≡ true → true ≡ stored_at m s x
    stored_home t = rw (← p, t)

    pub stored_inner : (b : Bool) → a ≡ false → b ≡ inner_before_after m x → b ≡ stored_at m s x
    stored_inner b t q = q ∙ rw (← p, t)

  -- ---- a write item
  module _ (i x : ℕ) (e : x ≡ number_at m Writes i) where
    pub flag_unread : 8192 < x → true ≡ read_fits m i
    unfolding read_fits
    flag_unread h = rw (← e, lt-ltb _ _ h)

    pub node_read : (b : Bool) → x ≤ 8192 → b ≡ is_read m i → b ≡ read_fits m i
    unfolding read_fits
    node_read b h p = p ∙ rw (← e, le-ltb _ _ h)

    module _ (s : ℕ) (a : Bool) (p : a ≡ stored_at m s x) where
      pub version_used : (b : Bool) → a ≡ true → b ≡ young m x → b ≡ version_fits m s i
      unfolding version_fits
      version_used b t q = q ∙ rw (← e, ← p, t)

      pub version_unused : a ≡ false → true ≡ version_fits m s i
      unfolding version_fits
      version_unused t = rw (← e, ← p, t)

    module _ (slots : ℕ) where
      module _ (s : ℕ) (a : Bool) (p : a ≡ at_home s x) where
        pub record_used : (r : Node) (b : Bool) → a ≡ true → r ≡ record_at m Writes i → b ≡ whole_in_range slots x r → b ≡ stored_record_fits slots m s i
        unfolding stored_record_fits
        record_used r b t q f = f ∙ rw (← e, ← p, t, q)

        pub record_unused : a ≡ false → true ≡ stored_record_fits slots m s i
        unfolding stored_record_fits
        record_unused t = rw (← e, ← p, t)

      -- ---- renewal
      module _ (s : ℕ) (o : s ≡ server_of (x - 8193)) where
        pub flag_outside : 8 ≤ s → false ≡ flag_renewal_fits slots m i
        unfolding flag_renewal_fits
        flag_outside h = rw (← e, ← o, le-ltb _ _ h)

        module _ (w : ℕ) (h : s < 8) (q : w ≡ m (vector_word s 0)) where
          pub flag_unmarked : 1 < w → false ≡ flag_renewal_fits slots m i
          unfolding flag_renewal_fits
          flag_unmarked l = rw (← e, ← o, lt-ltb _ _ h, ← q, lt-leb _ _ l)

          pub flag_renewed : (r : Node) (b : Bool) → w ≤ 1 → r ≡ record_at m Writes i → b ≡ whole_in_range slots x r → b ≡ flag_renewal_fits slots m i
          unfolding flag_renewal_fits
          flag_renewed r b l p f = f ∙ rw (← e, ← o, lt-ltb _ _ h, ← q, le-leb _ _ l, p)

      module _ (r : Node) (a : Bool) (p : r ≡ record_at m Writes i) (q : a ≡ inner x r) where
        pub not_renewed : not a ≡ true → true ≡ inner_renewal_fits slots m i
        unfolding inner_renewal_fits
        not_renewed t = rw (← e, ← p, ← q, not-true a t)

        module _ (b : Bool) (t : not a ≡ false) (f : b ≡ whole_in_range slots x r) where
          pub inner_unfit : not b ≡ true → false ≡ inner_renewal_fits slots m i
          unfolding inner_renewal_fits
          inner_unfit u = rw (← e, ← p, ← q, not-false a t, ← f, not-true b u)

          pub inner_renewed : (d : Bool) → not b ≡ false → d ≡ young m x → d ≡ inner_renewal_fits slots m i
          unfolding inner_renewal_fits
          inner_renewed d u g = g ∙ rw (← e, ← p, ← q, not-false a t, ← f, not-false b u)

      pub renewal_of_flag : (b : Bool) → 8192 < x → b ≡ flag_renewal_fits slots m i → b ≡ renewal_fits slots m i
      unfolding renewal_fits
      renewal_of_flag b h p = p ∙ rw (← e, lt-ltb _ _ h)

      pub renewal_of_inner : (b : Bool) → x ≤ 8192 → b ≡ inner_renewal_fits slots m i → b ≡ renewal_fits slots m i
      unfolding renewal_fits
      renewal_of_inner b h p = p ∙ rw (← e, le-ltb _ _ h)

-- ---- what a rule reads, one test after another
pub migrates_there : (slots : ℕ) (m : ClientWord → ℕ) (key v : ℕ) (b : Bool) → key ≡ m (field 2) → b ≡ in_store slots key → not b ≡ false → v ≡ m (field 4) → ltb v 8 ≡ migrate_fits slots m
migrates_there slots m key v b a p t f = rw (← a, ← p, not-false b t, ← f)

module _ (m : ClientWord → ℕ) (v : ℕ) (e : v ≡ m (field 3)) where
  pub lists_none : v < 1 → false ≡ list_fits m
  lists_none h = rw (← e, lt-leb 1 v h)

  pub lists_some : 1 ≤ v → leb v 32 ≡ list_fits m
  lists_some h = rw (← e, le-leb 1 v h)

module _ (slots : ℕ) (m : ClientWord → ℕ) where
  pub migrates_astray : (key : ℕ) (b : Bool) → key ≡ m (field 2) → b ≡ in_store slots key → not b ≡ true → false ≡ migrate_fits slots m
  migrates_astray key b a p t = rw (← a, ← p, not-true b t)

  module _ (q : ℕ) (e : q ≡ m (field 1)) where
    pub op_migrates : (r : Bool) → q ≡ 6 → r ≡ migrate_fits slots m → r ≡ op_fits slots m
    unfolding op_fits
    op_migrates r d p = p ∙ rw (← e, d)

    pub op_lists : (r : Bool) → q ≡ 7 → r ≡ list_fits m → r ≡ op_fits slots m
    unfolding op_fits
    op_lists r d p = p ∙ rw (← e, d)

    pub op_others : (q ≡ 6 → ⊥) → (q ≡ 7 → ⊥) → ltb q 7 ≡ op_fits slots m
    unfolding op_fits
    op_others d f = go (ltb q 7) refl
      where
        go : (b : Bool) → ltb q 7 ≡ b → ltb q 7 ≡ op_fits slots m
        go true t = let l : q < 7 = ltb-true q 7 t in let k : q ≤ 7 = omega arith in rw (t, ← e, le-leb q 7 k, ne_eqb q 6 d, ne_eqb q 7 f)
        go false t = let l : 7 ≤ q = ltb-false q 7 t in let k : 7 < q = omega (arith, f) in rw (t, ← e, lt-leb q 7 k)

  pub number_asked : (s : Set) (i x : ℕ) (b : Bool) → x ≡ number_at m s i → b ≡ number_in_store slots x → b ≡ number_fits slots m s i
  unfolding number_fits
  number_asked s i x b e p = p ∙ rw e

  module _ (s : Set) (b : Bool) (p : b ≡ leb (said_count m s) (limit s)) where
    pub too_many : not b ≡ true → false ≡ numbers_fit slots m s
    unfolding numbers_fit
    too_many t = rw (← p, not-true b t)

    pub numbers_asked : (r : Bool) → not b ≡ false → r ≡ all_below (count m s) (number_fits slots m s) → r ≡ numbers_fit slots m s
    unfolding numbers_fit
    numbers_asked r t q = q ∙ rw (← p, not-false b t)

  -- work
  module _ (b : Bool) (p : b ≡ op_fits slots m) where
    pub work_no_op : not b ≡ true → false ≡ fit_to_work slots m
    unfolding fit_to_work
    work_no_op t = rw (← p, not-true b t)

    pub work_by_sets : (r : Bool) → not b ≡ false → r ≡ (numbers_fit slots m Reads && numbers_fit slots m Writes) → r ≡ fit_to_work slots m
    unfolding fit_to_work
    work_by_sets r t q = q ∙ rw (← p, not-false b t)

  -- commit
  module _ (b : Bool) (p : b ≡ (numbers_fit slots m Reads && numbers_fit slots m Writes)) where
    pub commit_no_sets : not b ≡ true → false ≡ fit_to_commit slots m
    unfolding fit_to_commit
    commit_no_sets t = rw (← p, not-true b t)

    module _ (c : Bool) (t : not b ≡ false) (q : c ≡ all_below (count m Reads) (kind_fits m Reads)) where
      pub commit_no_kinds : not c ≡ true → false ≡ fit_to_commit slots m
      unfolding fit_to_commit
      commit_no_kinds u = rw (← p, not-false b t, ← q, not-true c u)

      module _ (d : Bool) (u : not c ≡ false) (f : d ≡ all_below (count m Writes) (kind_fits m Writes)) where
        pub commit_unkind : not d ≡ true → false ≡ fit_to_commit slots m
        unfolding fit_to_commit
        commit_unkind v = rw (← p, not-false b t, ← q, not-false c u, ← f, not-true d v)

        module _ (e : Bool) (v : not d ≡ false) (g : e ≡ all_below (count m Writes) (is_read m)) where
          pub commit_unread : not e ≡ true → false ≡ fit_to_commit slots m
          unfolding fit_to_commit
          commit_unread x = rw (← p, not-false b t, ← q, not-false c u, ← f, not-false d v, ← g, not-true e x)

          pub commit_by_states : (r : Bool) → not e ≡ false → r ≡ servers_known m → r ≡ fit_to_commit slots m
          unfolding fit_to_commit
          commit_by_states r x h = h ∙ rw (← p, not-false b t, ← q, not-false c u, ← f, not-false d v, ← g, not-false e x)

  -- prepare, and unlock
  module _ (b : Bool) (p : b ≡ servers_fit m (field 5)) where
    pub prepare_astray : not b ≡ true → false ≡ fit_to_prepare slots m
    unfolding fit_to_prepare
    prepare_astray t = rw (← p, not-true b t)

    pub unlock_astray : not b ≡ true → false ≡ fit_to_unlock slots m
    unfolding fit_to_unlock
    unlock_astray t = rw (← p, not-true b t)

    module _ (t : not b ≡ false) where
      pub unlock_by_writes : (r : Bool) → r ≡ numbers_fit slots m Writes → r ≡ fit_to_unlock slots m
      unfolding fit_to_unlock
      unlock_by_writes r q = q ∙ rw (← p, not-false b t)

      module _ (c : Bool) (q : c ≡ servers_fit m (field 6)) where
        pub prepared_astray : not c ≡ true → false ≡ fit_to_prepare slots m
        unfolding fit_to_prepare
        prepared_astray u = rw (← p, not-false b t, ← q, not-true c u)

        pub prepare_by_sets : (r : Bool) → not c ≡ false → r ≡ (numbers_fit slots m Reads && numbers_fit slots m Writes) → r ≡ fit_to_prepare slots m
        unfolding fit_to_prepare
        prepare_by_sets r u f = f ∙ rw (← p, not-false b t, ← q, not-false c u)

  -- abort
  module _ (b : Bool) (p : b ≡ servers_fit m (field 6)) where
    pub abort_astray : not b ≡ true → false ≡ fit_to_abort slots m
    unfolding fit_to_abort
    abort_astray t = rw (← p, not-true b t)

    pub abort_by_reads : (r : Bool) → not b ≡ false → r ≡ numbers_fit slots m Reads → r ≡ fit_to_abort slots m
    unfolding fit_to_abort
    abort_by_reads r t q = q ∙ rw (← p, not-false b t)

  -- what a server stores
  module _ (s i : ℕ) (b : Bool) (p : b ≡ read_fits m i) where
    pub write_unread : not b ≡ true → false ≡ write_fits slots m s i
    unfolding write_fits
    write_unread t = rw (← p, not-true b t)

    module _ (c : Bool) (t : not b ≡ false) (q : c ≡ stored_record_fits slots m s i) where
      pub write_unfit : not c ≡ true → false ≡ write_fits slots m s i
      unfolding write_fits
      write_unfit u = rw (← p, not-false b t, ← q, not-true c u)

      pub write_by_version : (r : Bool) → not c ≡ false → r ≡ version_fits m s i → r ≡ write_fits slots m s i
      unfolding write_fits
      write_by_version r u f = f ∙ rw (← p, not-false b t, ← q, not-false c u)

  pub writes_all : (s : ℕ) (r : Bool) → r ≡ all_below (count m Writes) (write_fits slots m s) → r ≡ writes_fit slots m s
  unfolding writes_fit
  writes_all s r q = q

  -- renewal
  module _ (q : ℕ) (e : q ≡ m (field 9)) where
    pub renew_kept : (r : Bool) → q ≤ 1 → (q ≡ 1 → ⊥) → r ≡ all_below (count m Writes) (renewal_fits slots m) → r ≡ fit_to_renew slots m
    unfolding fit_to_renew
    renew_kept r l d f = f ∙ rw (← e, le-leb _ _ l, ne_eqb _ _ d)

    pub renew_lost : q ≡ 1 → true ≡ fit_to_renew slots m
    unfolding fit_to_renew
    renew_lost d = rw (← e, d)

    pub renew_astray : 1 < q → false ≡ fit_to_renew slots m
    unfolding fit_to_renew
    renew_astray l = rw (← e, lt-leb _ _ l)

  -- apply
  module _ (s : ℕ) (last b : Bool) (p : b ≡ servers_fit m (field 7)) where
    pub apply_astray : not b ≡ true → false ≡ fit_to_apply slots m s last
    unfolding fit_to_apply
    apply_astray t = rw (← p, not-true b t)

    module _ (c : Bool) (t : not b ≡ false) (q : c ≡ numbers_fit slots m Reads) where
      pub apply_no_reads : not c ≡ true → false ≡ fit_to_apply slots m s last
      unfolding fit_to_apply
      apply_no_reads u = rw (← p, not-false b t, ← q, not-true c u)

      module _ (d : Bool) (u : not c ≡ false) (f : d ≡ fit_to_unlock slots m) where
        pub apply_no_unlock : not d ≡ true → false ≡ fit_to_apply slots m s last
        unfolding fit_to_apply
        apply_no_unlock v = rw (← p, not-false b t, ← q, not-false c u, ← f, not-true d v)

        module _ (g : Bool) (v : not d ≡ false) (h : g ≡ writes_fit slots m s) where
          pub apply_no_writes : not g ≡ true → false ≡ fit_to_apply slots m s last
          unfolding fit_to_apply
          apply_no_writes w = rw (← p, not-false b t, ← q, not-false c u, ← f, not-false d v, ← h, not-true g w)

          module _ (w : not g ≡ false) where
            pub apply_last : (r : Bool) → last ≡ true → r ≡ fit_to_renew slots m → r ≡ fit_to_apply slots m s last
            unfolding fit_to_apply
            apply_last r a k = k ∙ rw (← p, not-false b t, ← q, not-false c u, ← f, not-false d v, ← h, not-false g w, a)

            pub apply_first : last ≡ false → true ≡ fit_to_apply slots m s last
            unfolding fit_to_apply
            apply_first a = rw (← p, not-false b t, ← q, not-false c u, ← f, not-false d v, ← h, not-false g w, a)

  -- the last apply, after a prepare that was fit
  module _ (s : ℕ) (f : fit_to_prepare slots m ≡ true) where
    pub left_to_apply : (servers_fit m (field 7) && (writes_fit slots m s && fit_to_renew slots m)) ≡ fit_to_apply slots m s true
    unfolding fit_to_apply fit_to_prepare fit_to_unlock
    left_to_apply =
        let h = and_both (servers_fit m (field 5) && servers_fit m (field 6)) (numbers_fit slots m Reads && numbers_fit slots m Writes) f in
        let p = and_both (servers_fit m (field 5)) (servers_fit m (field 6)) h.0 in
        let n = and_both (numbers_fit slots m Reads) (numbers_fit slots m Writes) h.1 in
        sym (rw (p.0, n.0, n.1) (and_more (servers_fit m (field 7)) (writes_fit slots m s && fit_to_renew slots m)))

    module _ (b : Bool) (p : b ≡ servers_fit m (field 7)) where
      pub too_astray : not b ≡ true → false ≡ fit_to_apply slots m s true
      too_astray t = first_fails (servers_fit m (field 7)) (writes_fit slots m s && fit_to_renew slots m) b p t ∙ left_to_apply

      module _ (c : Bool) (t : not b ≡ false) (q : c ≡ writes_fit slots m s) where
        pub too_no_writes : not c ≡ true → false ≡ fit_to_apply slots m s true
        too_no_writes u = second_says (servers_fit m (field 7)) (writes_fit slots m s && fit_to_renew slots m) b p false t (first_fails (writes_fit slots m s) (fit_to_renew slots m) c q u) ∙ left_to_apply

        pub too_by_renewal : (r : Bool) → not c ≡ false → r ≡ fit_to_renew slots m → r ≡ fit_to_apply slots m s true
        too_by_renewal r u k = second_says (servers_fit m (field 7)) (writes_fit slots m s && fit_to_renew slots m) b p r t (second_says (writes_fit slots m s) (fit_to_renew slots m) c q r u k) ∙ left_to_apply

pub ruleset rule_exits = (
  first_fails,
  second_says,
  work_no_op,
  work_by_sets,
  commit_no_sets,
  commit_no_kinds,
  commit_unkind,
  commit_unread,
  commit_by_states,
  prepare_astray,
  unlock_astray,
  unlock_by_writes,
  prepared_astray,
  prepare_by_sets,
  abort_astray,
  abort_by_reads,
  write_unread,
  write_unfit,
  write_by_version,
  writes_all,
  renew_kept,
  renew_lost,
  renew_astray,
  apply_astray,
  apply_no_reads,
  apply_no_unlock,
  apply_no_writes,
  apply_last,
  apply_first,
  too_astray,
  too_no_writes,
  too_by_renewal,
)

pub ruleset op_exits = (migrates_there, migrates_astray, lists_none, lists_some, op_migrates, op_lists, op_others)

pub ruleset fit_exits = (
  servers_asked,
  reads_counted,
  writes_counted,
  copies_counted,
  kind_of_meta,
  kind_of_node,
  kind_of_flag,
  read_there,
  young_flag,
  young_version,
  stored_home,
  stored_inner,
  flag_unread,
  node_read,
  version_used,
  version_unused,
  record_used,
  record_unused,
  flag_outside,
  flag_unmarked,
  flag_renewed,
  not_renewed,
  inner_unfit,
  inner_renewed,
  renewal_of_flag,
  renewal_of_inner,
  too_many,
  numbers_asked,
)
