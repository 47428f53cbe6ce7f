-- Laws of an abort's code: "An abort unlocks everywhere".
use Rattle.std.specs.Prelude.{◌≡◌, Bool, length, replicate}
use Rattle.std.proofs.Math.Path.{refl, sym, ap, ap₂, subst}
use Rattle.std.proofs.Common.{◌∙◌, add-one}
use Rattle.std.proofs.Math.Bool.{true, false, cond}
use mathlib.Core.List.{List, []}
use Prim.Native.Nat.{ℕ, zero, suc, ◌+◌, ◌≤◌, ◌<◌}
use native.Mathlib.Omega.{arith}
use Rattle.memory.specs.Word.{view}
use Rattle.memory.proofs.Laws.Word.{view_length}
use Rattle.memory.specs.Bit.{bit}
use Rattle.layout.specs.Space.{Put, changed, stored}
use Rattle.layout.proofs.Laws.Space.{AllValid}
use Rattle.layout.specs.Step.{Does, silent, stepped}
use Rattle.layout.proofs.Laws.Step.{changed_append, stored_append, does_as, does_mem, valid_append}
use Rattle.layout.specs.Part.{over, in_part}
use Rattle.server.specs.declared.place.Place.{Place}
use Rattle.client.specs.declared.part.Set.TheVariants.{Reads}
use Rattle.client.specs.Layout.{ClientWord, field}
use Rattle.client.specs.Sets.{count}
use Rattle.steps.specs.declared.sizes.Sizes.{Sizes}
use Rattle.steps.specs.declared.outcome.Outcome.{Outcome}
use Rattle.steps.specs.declared.outcome.Outcome.TheVariants.{Refused, Aborted}
use Rattle.kinds.specs.declared.locks.Change.{Change}
use Rattle.kinds.specs.declared.locks.Change.TheVariants.{Unlock}
use Rattle.steps.specs.Whole.{Address, server, client, whole, block, words_for}
use Rattle.steps.proofs.Laws.Stores.{client_of, server_of, server_clients, server_else}
use Rattle.steps.specs.Uses.{item_of, locked_at}
use Rattle.steps.specs.Judge.{lowest_participant, abort_fits}
use Rattle.client.specs.Participants.{lowest_of}
use Rattle.client.specs.Lent.{InUse, used_in}
use Rattle.client.specs.Laws.GoodSteps.{good_abort}
use Rattle.steps.specs.Steps.{Did, by_finding, at_servers, did, abort}
use Rattle.kinds.specs.Parts.{StoreIn, stored_in}
use Rattle.kinds.specs.Items.{read_item}
use Rattle.kinds.specs.Judge.{of_client}
use Rattle.kinds.specs.Fits.{Known}
use Rattle.kinds.specs.Laws.Fits.{known_same}
use Rattle.kinds.specs.Kinds.{Meets}
use Rattle.kinds.specs.Laws.Kinds.{meets_did, meets_as, meets_refused, Apart, then_client, client_inside}
use Rattle.kinds.specs.Locks.{rule, passing, upto, changes}
use Rattle.kinds.specs.Laws.Locks.{upto_inside, rule_inside, in_whole}
use Rattle.kinds.specs.declared.findings.Fault.{Fault}
use Rattle.kinds.specs.declared.findings.Fault.TheVariants.{Damaged, Differs, Busy, TooMany}
use Rattle.kinds.specs.Findings.{fault_number}
use Rattle.kinds.specs.Abort.{stops, freeing, unlocking, Freed, aborts}
use Rattle.client.specs.Life as L

-- ---- stores at some servers, which are those of a set p, leave clients and the servers behind
module _ (p : ℕ) (ps : ℕ → List (Put Place)) where
  abbrev at_those : ℕ → List (Put Address)
  at_those n = at_servers n (λ s. cond (bit p s) (over (server s) (ps s)) [])

  clients_kept : (n : ℕ) (m : Address → ℕ) (c : ℕ) → client_of (changed whole m (at_those n)) c ≡ client_of m c
  unfolding at_servers changed
  clients_kept zero m c = refl
  clients_kept (suc n) m c =
      ap (λ (u : Address → ℕ). client_of u c) (changed_append whole (at_those n) (cond (bit p n) (over (server n) (ps n)) []) m)
      ∙ go (bit p n) (changed whole m (at_those n)) ∙ clients_kept n m c
    where
      go : (b : Bool) (u : Address → ℕ) → client_of (changed whole u (cond b (over (server n) (ps n)) [])) c ≡ client_of u c
      go true u = server_clients u n (ps n) c
      go false u = refl

  servers_kept : (n : ℕ) (m : Address → ℕ) (s : ℕ) → n ≤ s → server_of (changed whole m (at_those n)) s ≡ server_of m s
  unfolding at_servers changed
  servers_kept zero m s h = refl
  servers_kept (suc n) m s h =
      ap (λ (u : Address → ℕ). server_of u s) (changed_append whole (at_those n) (cond (bit p n) (over (server n) (ps n)) []) m)
      ∙ go (bit p n) (changed whole m (at_those n)) ∙ servers_kept n m s (omega arith)
    where
      go : (b : Bool) (u : Address → ℕ) → server_of (changed whole u (cond b (over (server n) (ps n)) [])) s ≡ server_of u s
      go true u = server_else u n (ps n) s (λ e. omega arith)
      go false u = refl

-- ---- what a change of locks at s depends on
module _ (z : Sizes) (c : ℕ) where
  changes_frame : (s : ℕ) (k : Change) (m u : Address → ℕ) → client_of u c ≡ client_of m c → server_of u s ≡ server_of m s → changes z c s k u ≡ changes z c s k m
  unfolding changes
  changes_frame s k m u e f =
      ap₂ (λ (x : ClientWord → ℕ) (y : Place → ℕ). over (server s) (upto (rule k c) (locked_at (lowest_of 8 (x (field 5))) s) (read_item x) (count x Reads) y)) e f

  pub changes_inside : (s : ℕ) (k : Change) (w : List ℕ) → s < 8 → Known z w c → AllValid whole (block z) (changes z c s k (stored_in z w))
  unfolding changes in_part read_item item_of
  changes_inside s k w h known =
      in_whole z s h (upto (rule k c) (locked_at (lowest_participant z (stored_in z w) c) s) (read_item (of_client z w c)) (count (of_client z w c) Reads)) (stored_in z w)
      (upto_inside z (rule k c) (locked_at (lowest_participant z (stored_in z w) c) s) (read_item (of_client z w c)) (count (of_client z w c) Reads)
      (λ j l. rule_inside z c k (read_item (of_client z w c) j) (known.known j l)))

  pub changes_apart : (s : ℕ) (k : Change) (w : List ℕ) → s < 8 → Known z w c → Apart z c (changes z c s k) (stored_in z w)
  unfolding changes
  changes_apart s k w h known =
      record { valid = changes_inside s k w h known; stays = server_clients (stored_in z w) s _ c }

unfoldable pub FreedUpto : Sizes → ℕ → ℕ → ℕ → List ℕ → List ℕ → Type 0
FreedUpto z c p n w w' = Does whole (block z) (λ m. at_servers n (λ s. unlocking z c p s m)) silent w 0 w'

-- where they lie, and what they leave alone
module _ (z : Sizes) (c p : ℕ) (w : List ℕ) (known : Known z w c) where
  abbrev here : ℕ → List (Put Place)
  here s =
      let m = stored_in z w in
      upto (rule Unlock c) (locked_at (lowest_participant z m c) s) (read_item (of_client z w c)) (count (of_client z w c) Reads) (server_of m s)

  stores_inside : (k : ℕ) → k ≤ 8 → AllValid whole (block z) (at_servers k (λ s. unlocking z c p s (stored_in z w)))
  unfolding at_servers unlocking AllValid
  stores_inside zero h = tt
  stores_inside (suc k) h =
      let m = stored_in z w in
      valid_append whole (block z) (at_servers k (λ s. unlocking z c p s m)) (unlocking z c p k m) (stores_inside k (omega arith))
      (go (bit p k) (changes_inside z c k Unlock w (omega arith) known))
    where
      go : (t : Bool) → AllValid whole (block z) (changes z c k Unlock (stored_in z w)) → AllValid whole (block z) (cond t (changes z c k Unlock (stored_in z w)) [])
      go true ok = ok
      go false ok = tt

pub freeing_apart : (z : Sizes) (c : ℕ) (w : List ℕ) → Known z w c → Apart z c (freeing z c) (stored_in z w)
unfolding freeing unlocking changes rule passing upto read_item
freeing_apart z c w known =
    let p = of_client z w c (field 6) in
    record { valid = stores_inside z c p w known 8 (omega arith); stays = clients_kept p (here z c p w known) 8 (stored_in z w) c }

module _ (z : Sizes) (c p : ℕ) where
  pub freed_here : (s : ℕ) (b : Bool) (w w' : List ℕ) → b ≡ bit p s → b ≡ true → Does whole (block z) (changes z c s Unlock) silent w 0 w' → Freed z c p s w w'
  unfolding Freed unlocking
  freed_here s b w w' e t d =
      let q : bit p s ≡ true = sym e ∙ t in
      does_as whole (block z) (changes z c s Unlock) (λ m. cond (bit p s) (changes z c s Unlock m) []) silent w 0 w' (sym (rw q)) d

  pub freed_not : (s : ℕ) (b : Bool) (w : List ℕ) → b ≡ bit p s → b ≡ false → Freed z c p s w w
  unfolding Freed unlocking stepped stored
  freed_not s b w e t = let q : bit p s ≡ false = sym e ∙ t in record { answer = refl; words = rw q }

  pub freed_none : (w : List ℕ) → FreedUpto z c p 0 w w
  unfolding FreedUpto at_servers stepped stored
  freed_none w = record { answer = refl; words = refl }

  -- after those below i: the client's part and the part of server i are as before
  module _ (b₀ b : List ℕ) (n i : ℕ) (hold : StoreIn z (length b₀)) (known : Known z (view b₀) c) (en : n ≡ 8) (l : i < n) (so : FreedUpto z c p i (view b₀) (view b)) where
    abbrev before : Address → ℕ
    before = stored_in z (view b₀)

    after : stored_in z (view b) ≡ changed whole before (at_servers i (λ s. unlocking z c p s before))
    unfolding FreedUpto words_for
    after =
        does_mem whole (block z) (λ m. at_servers i (λ s. unlocking z c p s m)) silent (view b₀) 0 (view b) so (omega (arith, hold.room, view_length b₀)) (stores_inside z c p (view b₀) known i (omega arith))

    client_stays : client_of (stored_in z (view b)) c ≡ client_of before c
    unfolding unlocking changes
    client_stays = ap (λ (u : Address → ℕ). client_of u c) after ∙ clients_kept p (here z c p (view b₀) known) i before c

    server_stays : server_of (stored_in z (view b)) i ≡ server_of before i
    unfolding unlocking changes
    server_stays = ap (λ (u : Address → ℕ). server_of u i) after ∙ servers_kept p (here z c p (view b₀) known) i before i (omega arith)

    pub freed_known : Known z (view b) c
    freed_known = known_same z c (view b₀) (view b) client_stays known

    pub freed_next : (b' : List ℕ) → Freed z c p i (view b) (view b') → FreedUpto z c p (i + 1) (view b₀) (view b')
    unfolding Freed FreedUpto stepped unlocking at_servers
    freed_next b' d =
        let e : changes z c i Unlock (stored_in z (view b)) ≡ changes z c i Unlock before = changes_frame z c i Unlock before (stored_in z (view b)) client_stays server_stays in
        subst (λ (j : ℕ). FreedUpto z c p j (view b₀) (view b')) (sym (add-one i))
        (record {
          answer = refl;
          words = d.words ∙ ap (λ (ps : List (Put Address)). stored whole (block z) (view b) (cond (bit p i) ps [])) e
              ∙ ap (λ (u : List ℕ). stored whole (block z) u (unlocking z c p i before)) so.words
              ∙ sym (at_next i);
        })
      where
        at_next : (k : ℕ) → stored whole (block z) (view b₀) (at_servers (suc k) (λ s. unlocking z c p s before))
            ≡ stored whole (block z) (stored whole (block z) (view b₀) (at_servers k (λ s. unlocking z c p s before))) (unlocking z c p k before)
        at_next k = stored_append whole (block z) (at_servers k (λ s. unlocking z c p s before)) (unlocking z c p k before) (view b₀)

  pub freed_all : (n i : ℕ) (w w' : List ℕ) → i ≤ n → n ≤ i → n ≡ 8 → p ≡ of_client z w c (field 6) → FreedUpto z c p i w w'
      → Does whole (block z) (freeing z c) silent w 0 w'
  unfolding freeing FreedUpto unlocking changes rule passing upto read_item
  freed_all n i w w' a b en ep d =
      let e : i ≡ 8 = omega arith in
      does_as whole (block z) (λ m. at_servers i (λ s. unlocking z c p s m)) (freeing z c) silent w 0 w' (rw (e, ep)) d

pub is_aborted : (z : Sizes) (c : ℕ) (us b₀ b b' : List ℕ) → StoreIn z (length b₀) → Known z (view b₀) c
    → Does whole (block z) (freeing z c) silent (view b₀) 0 (view b) → Does whole (block z) (in_part (client c) (L.abort_part us)) silent (view b) 0 (view b')
    → Does whole (block z) (aborts z c us) silent (view b₀) 0 (view b')
unfolding aborts freeing in_part
is_aborted z c us b₀ b b' hold known p q = then_client z c (freeing z c) (L.abort_part us) b₀ b b' hold (freeing_apart z c (view b₀) known) p q

pub aborts_inside : (z : Sizes) (c : ℕ) (us w : List ℕ) → c < z.clients → Known z w c → AllValid whole (block z) (aborts z c us (stored_in z w))
unfolding aborts freeing in_part
aborts_inside z c us w h known =
    let m = stored_in z w in
    valid_append whole (block z) (freeing z c m) (in_part (client c) (L.abort_part us) m) (freeing_apart z c w known).valid (client_inside z c (L.abort_part us) m h (good_abort us))

module _ (z : Sizes) (c y : ℕ) (us w : List ℕ) (b : Bool) (e : b ≡ abort_fits z (stored_in z w) c) where
  pub abort_done : (w' : List ℕ) → b ≡ true → Does whole (block z) (aborts z c us) silent w 0 w' → Meets z (λ m. abort z m c y us) w (Aborted y) w'
  unfolding abort aborts
  abort_done w' t d =
      meets_as z w (Aborted y) w' (λ m. did (Aborted y) (aborts z c us m)) (λ m. abort z m c y us) (sym (rw (← e, t)))
      (meets_did z w (Aborted y) w' (aborts z c us) d)

  pub abort_refused : b ≡ false → Meets z (λ m. abort z m c y us) w (Refused 10) w
  unfolding abort
  abort_refused t = meets_refused z w 10 (λ m. abort z m c y us) (sym (rw (← e, t)))

pub ruleset abort_exits = (is_aborted, abort_done, abort_refused)

-- ---- by a fault: what a fault comes to, whatever would go on without it
pub stopped : (z : Sizes) (m : Address → ℕ) (c : ℕ) (us : List ℕ) (f : Fault) (on : Did) → stops z c f us m ≡ by_finding (fault_number f) on (λ y. abort z m c y us)
unfolding stops
stopped z m c us Damaged on = refl
stopped z m c us Differs on = refl
stopped z m c us Busy on = refl
stopped z m c us TooMany on = refl

module _ (z : Sizes) (c : ℕ) (us : List ℕ) (f : Fault) (w : List ℕ) where
  pub stop_damaged : f ≡ Damaged → Meets z (stops z c f us) w (Refused 10) w
  unfolding stops
  stop_damaged e = meets_refused z w 10 (stops z c f us) (rw e refl)

  module _ (o : Outcome) (w' : List ℕ) where
    pub stop_differs : f ≡ Differs → Meets z (λ m. abort z m c 1 us) w o w' → Meets z (stops z c f us) w o w'
    unfolding stops
    stop_differs e d = meets_as z w o w' (λ m. abort z m c 1 us) (stops z c f us) (rw e refl) d

    pub stop_busy : f ≡ Busy → Meets z (λ m. abort z m c 2 us) w o w' → Meets z (stops z c f us) w o w'
    unfolding stops
    stop_busy e d = meets_as z w o w' (λ m. abort z m c 2 us) (stops z c f us) (rw e refl) d

    pub stop_full : f ≡ TooMany → Meets z (λ m. abort z m c 4 us) w o w' → Meets z (stops z c f us) w o w'
    unfolding stops
    stop_full e d = meets_as z w o w' (λ m. abort z m c 4 us) (stops z c f us) (rw e refl) d

pub ruleset stop_exits = (stop_damaged, stop_differs, stop_busy, stop_full)

-- ---- of a step that uses no copies
pub none_in_use : InUse (replicate 98 0)
none_in_use = record { long = omega arith; few = omega arith; small = λ i h. absurd (omega arith) }

pub abort_unused : (z : Sizes) (c y : ℕ) (w : List ℕ) (o : Outcome) (w' : List ℕ) → Meets z (λ m. abort z m c y (used_in (replicate 98 0))) w o w' → Meets z (λ m. abort z m c y []) w o w'
unfolding used_in
abort_unused z c y w o w' d = d

pub stop_unused : (z : Sizes) (c : ℕ) (f : Fault) (w : List ℕ) (o : Outcome) (w' : List ℕ) → Meets z (stops z c f (used_in (replicate 98 0))) w o w' → Meets z (stops z c f []) w o w'
unfolding used_in
stop_unused z c f w o w' d = d
