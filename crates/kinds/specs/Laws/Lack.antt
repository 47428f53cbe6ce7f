-- Laws of a fetch: what is lacking comes from its server, once what was read is checked there.
use Rattle.std.specs.Prelude.{◌≡◌, Bool, not, List, eqb, leb}
use Rattle.std.proofs.Math.Path.{refl}
use Rattle.std.proofs.Common.{sym, ap, ◌∙◌, subst, arith}
use Rattle.std.proofs.Math.Bool.{true, false, cond}
use Prim.Native.Nat.{ℕ, ◌+◌, ◌-◌, ◌≤◌, ◌<◌}
use borrow.Author.Tests.{not-true, not-false, ne_eqb, le-leb, lt-ltb, le-ltb}
use Rattle.std.proofs.Math.ListN.{length}
use Rattle.layout.specs.Space.{Put}
use Rattle.layout.specs.Step.{Does, silent}
use Rattle.layout.specs.Part.{in_part}
use Rattle.nodes.specs.declared.node.Node.{Node}
use Rattle.server.specs.declared.hand_out.Metadata.{Metadata}
use Rattle.server.specs.declared.lock.Use.TheVariants.{Fetch}
use Rattle.nodes.specs.Object.{object_of}
use Rattle.server.specs.Object.{Has}
use Rattle.server.specs.Check.{held}
use Rattle.server.specs.HandOut.{metadata_at, metadata_sound, vector_at}
use Rattle.client.specs.Layout.{ClientWord, reads_count}
use Rattle.client.specs.Record.{number_in_store, node_fits}
use Rattle.client.specs.Part.{◌then◌}
use Rattle.client.specs.Answered.{used_enter}
use Rattle.client.specs.Fetched.{fetched_meta, fetched_node, fetched_vector}
use Rattle.steps.specs.declared.sizes.Sizes.{Sizes}
use Rattle.steps.specs.declared.outcome.Outcome.{Outcome}
use Rattle.steps.specs.declared.outcome.Outcome.TheVariants.{Refused, Fetched}
use Rattle.kinds.specs.declared.findings.Fault.{Fault}
use Rattle.steps.specs.Whole.{Address, server, client, whole, block}
use Rattle.steps.specs.Servers.{there, metadata_source}
use Rattle.steps.specs.Steps.{Wanted, Did, did, refuse, if_fit, by_finding, abort, wanted, node_at, handed, fetch_object, hand_over, fetch}
use Rattle.steps.specs.Judge.{lock_fits}
use Rattle.kinds.specs.Parts.{stored_in}
use Rattle.kinds.specs.Judge.{of_client, of_server}
use Rattle.steps.proofs.Laws.There.{in_store_has}
use Rattle.kinds.specs.Kinds.{Meets}
use Rattle.kinds.specs.Laws.Kinds.{meets_did, meets_as, meets_refused}
use Rattle.kinds.specs.Abort.{stops}
use Rattle.kinds.specs.Laws.Abort.{stopped}
use Rattle.kinds.specs.Findings.{fault_number}
use Rattle.kinds.specs.Fetch.{Fetching, Checking, items_found, reached, gate_of}
use Rattle.kinds.specs.Lack.{There}
use Rattle.operations.specs.Object as O

module _ (z : Sizes) (w : List ℕ) (c : ℕ) (us : List ℕ) where
  abbrev m : Address → ℕ
  m = stored_in z w

  -- the check of what was read, and then the object; s is the source of metadata
  fetch_is : (a : O.Ask) → let t = wanted (metadata_source m z c) a in t.from < 8
      → fetch z m c us a ≡ by_finding (reached z w c t.from us) (hand_over z m c us a t.from (Fetched t.what t.which)) (λ y. abort z m c y us)
  unfolding fetch items_found reached
  fetch_is a l = rw (lt-ltb _ _ l) (near (there m (wanted (metadata_source m z c) a).from))
    where
      from : ℕ
      from = (wanted (metadata_source m z c) a).from

      on : Did
      on = hand_over z m c us a from (Fetched (wanted (metadata_source m z c) a).what (wanted (metadata_source m z c) a).which)

      near : (b : Bool) → cond b (by_finding (items_found z w c from us) on (λ y. abort z m c y us)) (abort z m c 1 us)
          ≡ by_finding (cond b (items_found z w c from us) 1) on (λ y. abort z m c y us)
      near true = refl
      near false = refl

  -- the object: it is not busy, there is room for it, and what the server has of it is in range
  object_is : (s x : ℕ) (out : Outcome) (ok : Bool) (g : (ClientWord → ℕ) → List (Put ClientWord))
      → fetch_object z m c us s x out ok g ≡ by_finding (gate_of z w c s x us) (if_fit ok (did out (handed z m c us g))) (λ y. abort z m c y us)
  unfolding gate_of
  object_is s x out ok g = go (lock_fits z m s x) (held (object_of x) c Fetch (of_server z w s)) (leb 96 (of_client z w c reads_count + length us))
    where
      go : (b d e : Bool) → cond b (cond d (abort z m c 2 us) (cond e (abort z m c 4 us) (if_fit ok (did out (handed z m c us g))))) (refuse 10)
          ≡ by_finding (cond b (cond d 2 (cond e 4 0)) 10) (if_fit ok (did out (handed z m c us g))) (λ y. abort z m c y us)
      go false d e = refl
      go true true e = refl
      go true false true = refl
      go true false false = refl

-- the server by its number
pub checking_as : (z : Sizes) (b : List ℕ) (c s t : ℕ) (u : List ℕ) → s ≡ t → Checking z b c t u → Checking z b c s u
checking_as z b c s t u e h = subst (λ (x : ℕ). Checking z b c x u) (sym e) h

-- the server asked is one of eight
pub reaches : (z : Sizes) (b : List ℕ) (c s : ℕ) (u : List ℕ) → Checking z b c s u → s < 8
reaches z b c s u h = h.server

-- any server
pub checking_at : (z : Sizes) (b : List ℕ) (c s : ℕ) (u : List ℕ) → Fetching z b c u → s < 8 → Checking z b c s u
checking_at z b c s u h l = record { holds = h.holds; client = h.client; server = l; in_use = h.in_use; reads = h.reads; known = h.known }

-- "all absent: 10"
pub no_source : (z : Sizes) (w : List ℕ) (c s : ℕ) (us : List ℕ) → s ≡ metadata_source (stored_in z w) z c → 8 ≤ s → Meets z (λ m. fetch z m c us (O.object O.meta)) w (Refused 10) w
unfolding fetch
no_source z w c s us e l = meets_refused z w 10 (λ m. fetch z m c us (O.object O.meta)) (sym (rw (← e, le-ltb _ _ l)))

-- ---- what the code comes to; s is the server asked
module _ (z : Sizes) (w : List ℕ) (c : ℕ) (us : List ℕ) (a : O.Ask) (s : ℕ) (es : s ≡ (wanted (metadata_source (stored_in z w) z c) a).from) (l : s < 8) where
  abbrev t : Wanted
  t = wanted (metadata_source (stored_in z w) z c) a

  is_by : (n : ℕ) → n ≡ reached z w c s us → fetch z (stored_in z w) c us a ≡ by_finding n (hand_over z (stored_in z w) c us a t.from (Fetched t.what t.which)) (λ y. abort z (stored_in z w) c y us)
  is_by n e =
      fetch_is z w c us a (subst (λ (x : ℕ). x < 8) es l)
      ∙ ap (λ (n : ℕ). by_finding n (hand_over z (stored_in z w) c us a t.from (Fetched t.what t.which)) (λ y. abort z (stored_in z w) c y us))
      (sym (e ∙ ap (λ (t : ℕ). reached z w c t us) es))

  -- by number
  module _ (y : ℕ) (e : y ≡ reached z w c s us) where
    pub fetch_unfit : y ≡ 10 → Meets z (λ m. fetch z m c us a) w (Refused 10) w
    fetch_unfit p = meets_refused z w 10 (λ m. fetch z m c us a) (sym (is_by y e ∙ rw p))

    pub fetch_aborts : (y ≡ 0 → ⊥) → (y ≡ 10 → ⊥) → (o : Outcome) (w' : List ℕ) → Meets z (λ m. abort z m c y us) w o w' → Meets z (λ m. fetch z m c us a) w o w'
    fetch_aborts n p o w' d =
        meets_as z w o w' (λ m. abort z m c y us) (λ m. fetch z m c us a) (sym (is_by y e ∙ rw (ne_eqb y 0 n, ne_eqb y 10 p))) d

  module _ (o : Outcome) (w' : List ℕ) where
    pub fetch_stops : (f : Fault) → fault_number f ≡ reached z w c s us → Meets z (stops z c f us) w o w' → Meets z (λ m. fetch z m c us a) w o w'
    fetch_stops f e d =
        meets_as z w o w' (stops z c f us) (λ m. fetch z m c us a)
        (stopped z (stored_in z w) c us f (hand_over z (stored_in z w) c us a t.from (Fetched t.what t.which)) ∙ sym (is_by (fault_number f) e)) d

    pub fetch_hands : 0 ≡ reached z w c s us → Meets z (λ m. hand_over z m c us a s (Fetched (wanted 0 a).what (wanted 0 a).which)) w o w'
        → Meets z (λ m. fetch z m c us a) w o w'
    fetch_hands e d =
        meets_as z w o w' (λ m. hand_over z m c us a s (Fetched (wanted 0 a).what (wanted 0 a).which)) (λ m. fetch z m c us a)
        (sym (is_by 0 e ∙ rw es (named a (metadata_source (stored_in z w) z c)))) d
      where
        named : (a : O.Ask) (q : ℕ) → hand_over z (stored_in z w) c us a (wanted q a).from (Fetched (wanted q a).what (wanted q a).which)
            ≡ hand_over z (stored_in z w) c us a (wanted q a).from (Fetched (wanted 0 a).what (wanted 0 a).which)
        named (O.object O.meta) q = refl
        named (O.object (O.node n)) q = refl
        named (O.object (O.flag n)) q = refl
        named (O.vector t) q = refl
        named (O.fetched t) q = refl

-- ---- the object handed over
module _ (z : Sizes) (w : List ℕ) (c : ℕ) (us : List ℕ) (s x : ℕ) (out : Outcome) (g : (Address → ℕ) → (ClientWord → ℕ) → List (Put ClientWord)) (ok : (Address → ℕ) → Bool) where
  abbrev D : (Address → ℕ) → Did
  D m = fetch_object z m c us s x out (ok m) (g m)

  object_by : (n : ℕ) → n ≡ gate_of z w c s x us → D (stored_in z w) ≡ by_finding n (if_fit (ok (stored_in z w)) (did out (handed z (stored_in z w) c us (g (stored_in z w))))) (λ y. abort z (stored_in z w) c y us)
  object_by n e = object_is z w c us s x out (ok (stored_in z w)) (g (stored_in z w)) ∙ rw (← e) refl

  object_unfit : (y : ℕ) → y ≡ gate_of z w c s x us → y ≡ 10 → Meets z D w (Refused 10) w
  object_unfit y e p = meets_refused z w 10 D (sym (object_by y e ∙ rw p))

  object_aborts : (y : ℕ) → y ≡ gate_of z w c s x us → (y ≡ 0 → ⊥) → (y ≡ 10 → ⊥) → (o : Outcome) (w' : List ℕ) → Meets z (λ m. abort z m c y us) w o w' → Meets z D w o w'
  object_aborts y e n p o w' d = meets_as z w o w' (λ m. abort z m c y us) D (sym (object_by y e ∙ rw (ne_eqb y 0 n, ne_eqb y 10 p))) d

  object_stops : (f : Fault) (o : Outcome) (w' : List ℕ) → fault_number f ≡ gate_of z w c s x us → Meets z (stops z c f us) w o w' → Meets z D w o w'
  object_stops f o w' e d =
      meets_as z w o w' (stops z c f us) D
      (stopped z (stored_in z w) c us f (if_fit (ok (stored_in z w)) (did out (handed z (stored_in z w) c us (g (stored_in z w))))) ∙ sym (object_by (fault_number f) e)) d

  module _ (e : 0 ≡ gate_of z w c s x us) (b : Bool) (pb : b ≡ ok (stored_in z w)) where
    object_unsound : not b ≡ true → Meets z D w (Refused 10) w
    object_unsound nb =
        let t : b ≡ false = not-true b nb in
        meets_refused z w 10 D (sym (object_by 0 e ∙ rw (← pb, t)))

    object_handed : (w' : List ℕ) → not b ≡ false → Does whole (block z) (in_part (client c) (used_enter us then g (stored_in z w))) silent w 0 w' → Meets z D w out w'
    unfolding in_part
    object_handed w' nb d =
        let t : b ≡ true = not-false b nb in
        meets_as z w out w' (λ m. did out (in_part (client c) (used_enter us then g (stored_in z w)) m)) D
        (sym (object_by 0 e ∙ rw (← pb, t)))
        (meets_did z w out w' (in_part (client c) (used_enter us then g (stored_in z w))) d)

-- ---- the metadata
pub meta_has : (z : Sizes) (b : List ℕ) (c s : ℕ) (u : List ℕ) → Checking z b c s u → Has z.slots (object_of 0)
unfolding number_in_store
meta_has z b c s u h = in_store_has z.slots 0 refl

module _ (z : Sizes) (w : List ℕ) (c : ℕ) (us : List ℕ) (s : ℕ) (out : Outcome) where
  abbrev sound? : (Address → ℕ) → Bool
  sound? m = metadata_sound z.slots (λ a. m (server s a))

  abbrev taken : (Address → ℕ) → (ClientWord → ℕ) → List (Put ClientWord)
  taken m = let x = metadata_at (λ a. m (server s a)) in fetched_meta x.root x.states x.version

  abbrev HandMeta : Outcome → List ℕ → Type 0
  HandMeta o w' = Meets z (λ m. hand_over z m c us (O.object O.meta) s out) w o w'

  pub meta_unfit : (y : ℕ) → y ≡ gate_of z w c s 0 us → y ≡ 10 → HandMeta (Refused 10) w
  meta_unfit = object_unfit z w c us s 0 out taken sound?

  pub meta_aborts : (y : ℕ) → y ≡ gate_of z w c s 0 us → (y ≡ 0 → ⊥) → (y ≡ 10 → ⊥) → (o : Outcome) (w' : List ℕ) → Meets z (λ m. abort z m c y us) w o w' → HandMeta o w'
  meta_aborts = object_aborts z w c us s 0 out taken sound?

  pub meta_stops : (f : Fault) (o : Outcome) (w' : List ℕ) → fault_number f ≡ gate_of z w c s 0 us → Meets z (stops z c f us) w o w' → HandMeta o w'
  meta_stops = object_stops z w c us s 0 out taken sound?

  module _ (e : 0 ≡ gate_of z w c s 0 us) (b : Bool) (pb : b ≡ metadata_sound z.slots (of_server z w s)) where
    pub meta_unsound : not b ≡ true → HandMeta (Refused 10) w
    meta_unsound t = object_unsound z w c us s 0 out taken sound? e b pb t

    pub meta_handed : (w' : List ℕ) (x : Metadata) → not b ≡ false → x ≡ metadata_at (of_server z w s)
        → Does whole (block z) (in_part (client c) (used_enter us then fetched_meta x.root x.states x.version)) silent w 0 w' → HandMeta out w'
    meta_handed w' x t k d = object_handed z w c us s 0 out taken sound? e b pb w' t (rw (← k) d)

pub node_has : (z : Sizes) (b : List ℕ) (c s n x : ℕ) (u : List ℕ) → Checking z b c s u → There z n → x ≡ 1 + n → Has z.slots (object_of x)
unfolding number_in_store
node_has z b c s n x u h t e =
    let d : 1 + n ≡ 0 → ⊥ = λ q. omega arith in
    let l : 1 + n ≤ 8192 = omega (arith, t.small) in
    let k : 1 + n - 1 ≡ n = omega arith in
    rw e (in_store_has z.slots (1 + n) (rw (ne_eqb (1 + n) 0 d, le-leb (1 + n) 8192 l, k) t.named))

module _ (z : Sizes) (w : List ℕ) (c : ℕ) (us : List ℕ) (s n : ℕ) (out : Outcome) (x : ℕ) (px : x ≡ 1 + n) where
  abbrev fits? : (Address → ℕ) → Bool
  fits? m = node_fits z.slots (node_at (λ a. m (server s a)) n)

  abbrev copied : (Address → ℕ) → (ClientWord → ℕ) → List (Put ClientWord)
  copied m = fetched_node n (node_at (λ a. m (server s a)) n)

  abbrev HandNode : Outcome → List ℕ → Type 0
  HandNode o w' = Meets z (λ m. hand_over z m c us (O.object (O.node n)) s out) w o w'

  gate_is : (n' : ℕ) → n' ≡ gate_of z w c s x us → n' ≡ gate_of z w c s (1 + n) us
  gate_is n' e = e ∙ rw px

  pub node_unfit : (y : ℕ) → y ≡ gate_of z w c s x us → y ≡ 10 → HandNode (Refused 10) w
  node_unfit y e p = object_unfit z w c us s (1 + n) out copied fits? y (gate_is y e) p

  pub node_aborts : (y : ℕ) → y ≡ gate_of z w c s x us → (y ≡ 0 → ⊥) → (y ≡ 10 → ⊥) → (o : Outcome) (w' : List ℕ) → Meets z (λ m. abort z m c y us) w o w' → HandNode o w'
  node_aborts y e = object_aborts z w c us s (1 + n) out copied fits? y (gate_is y e)

  pub node_stops : (f : Fault) (o : Outcome) (w' : List ℕ) → fault_number f ≡ gate_of z w c s x us → Meets z (stops z c f us) w o w' → HandNode o w'
  node_stops f o w' e d = object_stops z w c us s (1 + n) out copied fits? f o w' (gate_is (fault_number f) e) d

  module _ (e : 0 ≡ gate_of z w c s x us) (r : Node) (pr : r ≡ node_at (of_server z w s) n) (b : Bool) (pb : b ≡ node_fits z.slots r) where
    in_order : b ≡ fits? (stored_in z w)
    in_order = pb ∙ ap (node_fits z.slots) pr

    pub node_unsound : not b ≡ true → HandNode (Refused 10) w
    node_unsound t = object_unsound z w c us s (1 + n) out copied fits? (gate_is 0 e) b in_order t

    pub node_handed : (w' : List ℕ) → not b ≡ false → Does whole (block z) (in_part (client c) (used_enter us then fetched_node n r)) silent w 0 w' → HandNode out w'
    node_handed w' t d = object_handed z w c us s (1 + n) out copied fits? (gate_is 0 e) b in_order w' t (rw (← pr) d)

-- ---- a vector
pub vector_handed : (z : Sizes) (w : List ℕ) (c : ℕ) (us : List ℕ) (s : ℕ) → s < 8 → (ws w' : List ℕ) → 0 ≡ reached z w c s us
    → ws ≡ vector_at (of_server z w s) → Does whole (block z) (in_part (client c) (used_enter us then fetched_vector s ws)) silent w 0 w'
    → Meets z (λ m. fetch z m c us (O.vector s)) w (Fetched 2 s) w'
unfolding in_part
vector_handed z w c us s l ws w' e k d =
    fetch_hands z w c us (O.vector s) s refl l (Fetched 2 s) w' e
    (meets_as z w (Fetched 2 s) w' (λ m. did (Fetched 2 s) (in_part (client c) (used_enter us then fetched_vector s ws) m)) (λ m. hand_over z m c us (O.vector s) s (Fetched 2 s)) (rw k)
    (meets_did z w (Fetched 2 s) w' (in_part (client c) (used_enter us then fetched_vector s ws)) d))
