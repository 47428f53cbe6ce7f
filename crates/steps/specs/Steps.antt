-- The kinds of steps: what each comes to, and what it stores. What a rule reads is judged (refusal 10) where it reads it, in document 01's
-- order, and before anything is stored; a rule that has ended has read no further.
use Rattle.std.specs.Prelude.{Bool, true, cond, ◌&&◌, ◌||◌, not, List, [], ◌++◌, map, ℕ, zero, suc, ◌+◌, ◌*◌, eqb, leb, ltb, length}
use Rattle.memory.specs.Bit.{bit, put_bit}
use Rattle.layout.specs.Space.{Put, tab, changed}
use Rattle.layout.specs.Step.{and_then}
use Rattle.layout.specs.Part.{over}
use Rattle.layout.specs.Sweep.{sweep}
use Rattle.nodes.specs.declared.node.Node.{Node}
use Rattle.operations.specs.Entry.{Entries}
use Rattle.nodes.specs.Name.{server_of, slot_of}
use Rattle.server.specs.declared.place.Place.{Place}
use Rattle.server.specs.declared.lock.Use.TheVariants.{Fetch}
use Rattle.server.specs.declared.hand_out.Metadata.{Metadata}
use Rattle.server.specs.Layout.{places}
use Rattle.nodes.specs.Object.{object_of, named}
use Rattle.server.specs.Check.{can_check, held, checked, finding_number}
use Rattle.server.specs.Store.{lock_step, unlock_step, metadata_step, flag_step, versions_step, node_step}
use Rattle.server.specs.HandOut.{metadata_at, metadata_sound, vector_at}
use Rattle.client.specs.declared.part.Set.TheVariants.{Reads, Writes}
use Rattle.client.specs.Layout.{ClientWord, client_words, phase, op_number, op_value, participants, prepared, applied, reads_count, no_transaction, decided_phase}
use Rattle.nodes.specs.Stored.{node_of}
use Rattle.nodes.specs.Bounds.{most_servers, last_version}
use Rattle.client.specs.Record.{by_number, first_slot, second_slot, node_fits}
use Rattle.client.specs.Sets.{count, record_at, number_at}
use Rattle.client.specs.Items.{all_below, inner_before_after}
use Rattle.client.specs.Fits.{fit_to_work, fit_to_commit, fit_to_prepare, fit_to_apply}
use Rattle.client.specs.Answered.{used_enter, answered}
use Rattle.client.specs.Fetched.{fetched_meta, fetched_node, fetched_vector}
use Rattle.client.specs.Participants.{participants_of, committing, at_home}
use Rattle.client.specs.Drops.{next_version}
use Rattle.client.specs.Renew.{finish}
use Rattle.client.specs.Copies.{drop_all}
use Rattle.client.specs.Course.{noted, decided}
use Rattle.client.specs.Work.{Worked, refused, fetches, aborted, answers, walked, worked}
use Rattle.steps.specs.declared.sizes.Sizes.{Sizes}
use Rattle.steps.specs.declared.step.Step.{Step}
use Rattle.steps.specs.declared.step.Kind.{Kind}
use Rattle.steps.specs.declared.step.Kind.TheVariants.{Begin, Give, Work, Commit, Prepare, Apply, GiveUp, Lost, Servers, Unknown}
use Rattle.steps.specs.declared.step.ServerChange.{ServerChange}
use Rattle.steps.specs.declared.outcome.Outcome.{Outcome}
use Rattle.steps.specs.declared.outcome.Outcome.TheVariants.{Refused, Done, Fetched, Answered, Prepared, Decided, Applied, Committed, Aborted}
use Rattle.steps.specs.Whole.{Address, server, client, whole}
use Rattle.steps.specs.Servers.{there, lowest_there, metadata_source, largest_version, is_add, changed_states}
use Rattle.steps.specs.Refusal.{kind_of, refusal}
use Rattle.steps.specs.Uses.{Item, read_item, read_items, used_items, item_object, checked_at, locked_at, use_of, deciding}
use Rattle.steps.specs.Judge.{lock_fits, lowest_participant, unlock_fits, abort_fits}
use Rattle.operations.specs.Object as O
use Rattle.server.specs.declared.place.Place.TheVariants as place
use Rattle.client.specs.Life as Life

-- what comes of a step: its outcome, what it stores, and the pairs that it writes to the lent output
pub record Did : Type 0 where
  pub outcome : Outcome
  pub stores : List (Put Address)
  pub pairs : Entries

-- an outcome with its stores, and no pairs
abbrev pub did : Outcome → List (Put Address) → Did
did o ps = record { outcome = o; stores = ps; pairs = [] }

-- "A refused step returns the first number that holds and changes no byte"
abbrev pub refuse : ℕ → Did
refuse n = did (Refused n) []

-- where what the rule reads is in range
abbrev pub if_fit : Bool → Did → Did
if_fit ok d = cond ok d (refuse 10)

-- by what a check has found: nothing, and the step goes on; refusal 10; or a reason to abort
abbrev pub by_finding : ℕ → Did → (ℕ → Did) → Did
by_finding y on aborts = cond (eqb y 0) on (cond (eqb y 10) (refuse 10) (aborts y))

-- at the server s, the objects read that are locked there, in the order of the read set: locked by client c
abbrev pub lock_each : (ClientWord → ℕ) → ℕ → ℕ → ℕ → (Place → ℕ) → List (Put Place)
lock_each m c lowest_participant s =
    sweep places (λ n p. let i = read_item m n in cond (locked_at lowest_participant s i) (lock_step (item_object i) i.written c p) []) (count m Reads)

-- the same objects, unlocked by client c
abbrev pub unlock_each : (ClientWord → ℕ) → ℕ → ℕ → ℕ → (Place → ℕ) → List (Put Place)
unlock_each m c lowest_participant s =
    sweep places (λ n p. let i = read_item m n in cond (locked_at lowest_participant s i) (unlock_step (item_object i) c p) []) (count m Reads)

-- stores at every server below n
unfoldable pub at_servers : ℕ → (ℕ → List (Put Address)) → List (Put Address)
at_servers zero f = []
at_servers (suc n) f = at_servers n f ++ f n

-- what server s stores of write i at an apply: the value at home, with its version; the table's entry of a node inner before or after
abbrev pub store_write : (ClientWord → ℕ) → ℕ → ℕ → (Place → ℕ) → List (Put Place)
store_write m s i p =
    let x = number_at m Writes i in
    let r = record_at m Writes i in
    by_number x (metadata_step (first_slot r) (second_slot r) (next_version m x) p)
    (λ n. node_step s (named n) r (next_version m x) (inner_before_after m x) p)
    (λ n. cond (at_home s x) (flag_step (named n) (eqb (first_slot r) 1) p) [])

-- "Apply writes and unlocks": the write set's objects in order, then the locks
abbrev pub store_all : (ClientWord → ℕ) → ℕ → (Place → ℕ) → List (Put Place)
store_all m s = sweep places (store_write m s) (count m Writes)

-- all of a set of servers are in another
unfoldable pub covers : ℕ → ℕ → ℕ → Bool
covers n p q = all_below n (λ t. not (bit p t) || bit q t)

-- a fetch: from which server, what the outcome names
pub record Wanted : Type 0 where
  pub from : ℕ
  pub what : ℕ
  pub which : ℕ

-- "Metadata is fetched from the first server not absent", s; "a node from its home, a vector from its server."
abbrev pub wanted : ℕ → O.Ask → Wanted
wanted s (O.object O.meta) = record { from = s; what = 0; which = 0 }
wanted s (O.object (O.node n)) = record { from = server_of n; what = 1; which = n }
wanted s (O.object (O.flag n)) = record { from = server_of n; what = 2; which = server_of n }
wanted s (O.vector t) = record { from = t; what = 2; which = t }
wanted s (O.fetched t) = record { from = t; what = 2; which = t }

-- the node that a server has in the slot of a name
unfoldable pub node_at : (Place → ℕ) → ℕ → Node
node_at p n = node_of (tab 33 (λ j. p (place.Node (slot_of n) j)))

module _ (z : Sizes) (m : Address → ℕ) (c : ℕ) where
  -- what stands in the part of client c
  abbrev mine : ClientWord → ℕ
  mine a = m (client c a)

  -- what stands in the part of server s
  abbrev theirs : ℕ → Place → ℕ
  theirs s a = m (server s a)

  -- what is done in the client's part, as stores in the whole
  abbrev pub in_client : ((ClientWord → ℕ) → List (Put ClientWord)) → List (Put Address)
  in_client g = over (client c) (g mine)

  -- what is done in the part of server s, as stores in the whole
  abbrev pub in_server : ℕ → ((Place → ℕ) → List (Put Place)) → List (Put Address)
  in_server s g = over (server s) (g (theirs s))

  -- ---- ABORT: "An abort unlocks everywhere and drops copies of all objects read"; us came into use in this step
  abbrev pub unlocked_everywhere : List (Put Address)
  unlocked_everywhere =
      at_servers most_servers (λ s. cond (bit (mine prepared) s) (in_server s (unlock_each mine c (lowest_participant z m c) s)) [])

  -- the stores of an abort: locks, copies, and the transaction's end
  abbrev pub aborting : List ℕ → List (Put Address)
  aborting us = unlocked_everywhere ++ in_client (Life.abort_part us)

  -- an abort for the reason y
  unfoldable pub abort : ℕ → List ℕ → Did
  abort y us = if_fit (abort_fits z m c) (did (Aborted y) (aborting us))

  -- ---- BEGIN AND GIVE: "Begin, give .. are done"
  unfoldable pub begin : Did
  begin = did Done (in_client (Life.reset 1))

  -- the operation waits in the client's part
  unfoldable pub give : Step → Did
  give k = did Done (in_client (Life.give_part k.op k.key k.value k.server))

  -- ---- WORK: what a fetch hands over, and whether it is in range
  module _ (us : List ℕ) where
    -- "A fetch checks at that server what the transaction has read": the read set and the copies in use
    abbrev pub fetch_items : List Item
    fetch_items = read_items mine ++ used_items mine us

    -- of one of them at server s, in the order of reading: its kind, which says whether s can check it; its lock; 2 before 1
    abbrev pub fetch_reason : ℕ → Item → ℕ
    fetch_reason s i =
        cond i.read_fits
        (cond (can_check s (item_object i) i.inner_read)
        (cond (lock_fits z m s i.number) (finding_number (checked (item_object i) i.inner_read i.mark c Fetch (theirs s))) 10) 0) 10

    -- what is found of it
    abbrev pub fetch_finding : ℕ → Item → ℕ × ℕ
    fetch_finding s i = (i.number, fetch_reason s i)

    -- the stores, once the copies in use have become read items
    abbrev pub handed : ((ClientWord → ℕ) → List (Put ClientWord)) → List (Put Address)
    handed g = in_client (and_then client_words (used_enter us) g)

    -- "object 97 would be read": 96 are read or came into use
    abbrev pub full : Bool
    full = leb 96 (mine reads_count + length us)

    -- "then the object fetched; a vector fetched is never busy"; then the limit of 96, and only then the object itself
    abbrev pub fetch_object : ℕ → ℕ → Outcome → Bool → ((ClientWord → ℕ) → List (Put ClientWord)) → Did
    fetch_object s x out ok g =
        if_fit (lock_fits z m s x)
        (cond (held (object_of x) c Fetch (theirs s)) (abort 2 us) (cond full (abort 4 us) (if_fit ok (did out (handed g)))))

    -- what server s hands over for what is lacking, judged whole; for a flag its vector
    abbrev pub hand_over : O.Ask → ℕ → Outcome → Did
    hand_over (O.object O.meta) s out =
        fetch_object s 0 out (metadata_sound z.slots (theirs s))
        (fetched_meta (metadata_at (theirs s)).root (metadata_at (theirs s)).states (metadata_at (theirs s)).version)
    hand_over (O.object (O.node n)) s out =
        fetch_object s (1 + n) out (node_fits z.slots (node_at (theirs s) n)) (fetched_node n (node_at (theirs s) n))
    hand_over (O.object (O.flag n)) s out = did out (handed (fetched_vector s (vector_at (theirs s))))
    hand_over (O.vector s') s out = did out (handed (fetched_vector s (vector_at (theirs s))))
    hand_over (O.fetched s') s out = did out (handed (fetched_vector s (vector_at (theirs s))))

    -- "A fetch checks at that server what the transaction has read, .. then the object fetched"
    abbrev pub checked_fetch : O.Ask → Wanted → Did
    checked_fetch a w =
        by_finding (deciding (map (fetch_finding w.from) fetch_items)) (hand_over a w.from (Fetched w.what w.which)) (λ y. abort y us)

    -- "A fetch .. at an absent server aborts with 1", before all else; "all absent: 10"
    abbrev pub fetch_from : O.Ask → Wanted → Did
    fetch_from a w = if_fit (ltb w.from most_servers) (cond (there m w.from) (checked_fetch a w) (abort 1 us))

    -- "A work step that lacks an object fetches the first one lacking and does no more"
    unfoldable pub fetch : O.Ask → Did
    fetch a = fetch_from a (wanted (metadata_source m z c) a)

  -- how the walk ends the step; us came into use in it
  abbrev pub after_walk : List ℕ → Worked → Did
  after_walk us refused = refuse 10
  after_walk us (fetches a) = fetch us a
  after_walk us (aborted y) = abort y us
  after_walk us (answers a w) = record { outcome = Answered a.0 a.1; stores = in_client (answered us w); pairs = a.2 }

  -- "otherwise it answers the operation": the waiting operation is walked over what the client has
  unfoldable pub work : Did
  work = if_fit (fit_to_work z.slots mine) (after_walk (walked z.slots mine).used (worked z.slots mine))

  -- ---- COMMIT: "commit with a participant .. done"; "with none the commit step decides and ends"
  unfoldable pub commit : Did
  commit =
      if_fit (fit_to_commit z.slots mine)
      (cond (eqb (participants_of mine) 0) (did Committed (in_client (Life.reset 0))) (did Done (in_client committing)))

  -- ---- APPLY at the server s: "Apply writes and unlocks"
  abbrev pub applying : ℕ → List (Put Address)
  applying s = in_server s (and_then places (store_all mine s) (unlock_each mine c (lowest_participant z m c) s))

  -- is s the last participant to apply
  abbrev pub all_applied : ℕ → Bool
  all_applied s = covers most_servers (mine participants) (put_bit true (mine applied) s)

  -- "The last apply ends the transaction and renews its copies (.. a lost client gets none)."
  unfoldable pub applied_at : ℕ → Did
  applied_at s =
      cond (all_applied s)
      (did Committed (applying s ++ in_client (and_then client_words (noted applied s) finish)))
      (did (Applied s) (applying s ++ in_client (noted applied s)))

  -- is what an apply at s reads in range: in the client's part, and the locks given back
  abbrev pub apply_fits : ℕ → Bool
  apply_fits s = fit_to_apply z.slots mine s (all_applied s) && unlock_fits z m c s

  -- the apply at s
  unfoldable pub apply : ℕ → Did
  apply s = if_fit (apply_fits s) (applied_at s)

  -- ---- PREPARE at the server s
  -- of an object that is locked there: its lock, then what is checked, else who holds it
  abbrev pub prepare_reason : ℕ → Item → ℕ
  prepare_reason s i =
      cond (lock_fits z m s i.number)
      (cond (checked_at (lowest_participant z m c) s i) (finding_number (checked (item_object i) i.inner_read i.mark c (use_of i) (theirs s)))
      (cond (held (item_object i) c (use_of i) (theirs s)) 2 0)) 10

  -- what is found of an object read, in the order of reading: its kinds, which say whether it is locked at s; then the rest
  abbrev pub prepare_finding : ℕ → Item → ℕ × ℕ
  prepare_finding s i =
      (i.number, cond (i.read_fits && i.written_fits) (cond (locked_at (lowest_participant z m c) s i) (prepare_reason s i) 0) 10)

  -- the locks, and the note that this server has prepared
  abbrev pub preparing : ℕ → List (Put Address)
  preparing s = in_server s (lock_each mine c (lowest_participant z m c) s) ++ in_client (noted prepared s)

  -- is s the last participant to prepare
  abbrev pub all_prepared : ℕ → Bool
  all_prepared s = covers most_servers (mine participants) (put_bit true (mine prepared) s)

  -- is s the only participant
  abbrev pub only : ℕ → Bool
  only s = eqb (mine participants) (put_bit true 0 s)

-- the stores of one step, and then those of another on what the first left
abbrev pub then : (Address → ℕ) → List (Put Address) → ((Address → ℕ) → Did) → Did
then m ps f = let d = f (changed whole m ps) in did d.outcome (ps ++ d.stores)

-- ---- KINDS 8 TO 10, at the server s
module _ (z : Sizes) (m : Address → ℕ) where
  -- the metadata of the lowest server not absent
  abbrev pub metadata_now : Metadata
  metadata_now = metadata_at (λ a. m (server (lowest_there m) a))

  -- "writes the new metadata, its version raised, alike on all servers, an added or removed one included"
  abbrev pub metadata_stores : ℕ → ℕ → List (Put Address)
  metadata_stores s states =
      at_servers most_servers (λ t. cond (there m t || eqb t s) (over (server t) (metadata_step metadata_now.root states (suc metadata_now.version) (λ a. 0))) [])

  -- "An added server's version table takes, slot by slot, the largest number"
  abbrev pub added_stores : ServerChange → ℕ → List (Put Address)
  added_stores x s = cond (is_add x) (over (server s) (versions_step (largest_version m s) z.slots)) []

  -- what a change reads is in range: every client's phase, the metadata that it goes by, the versions of an added server's table. "all absent: 10"
  unfoldable pub change_fits : ServerChange → ℕ → Bool
  change_fits x s =
      all_below z.clients (λ c. leb (m (client c phase)) decided_phase)
      && (ltb (lowest_there m) most_servers && (metadata_sound z.slots (λ a. m (server (lowest_there m) a))
      && (not (is_add x) || all_below z.slots (λ k. all_below most_servers (λ t. leb (largest_version m s t k) last_version)))))

  -- "Each is done and writes the new metadata"
  unfoldable pub change_servers : ServerChange → ℕ → Did
  change_servers x s = if_fit (change_fits x s) (did Done (added_stores x s ++ metadata_stores s (changed_states x metadata_now.states s)))

module _ (z : Sizes) (m : Address → ℕ) (c : ℕ) where
  -- "The last prepare is the decision"; "With one participant the prepare also applies"
  abbrev pub deciding_stores : ℕ → List (Put Address)
  deciding_stores s = preparing z m c s ++ in_client z m c decided

  -- nothing was found: prepared, or with the last one decided, or with the only one applied too
  unfoldable pub prepared_at : ℕ → Did
  prepared_at s =
      cond (not (all_prepared z m c s)) (did (Prepared s) (preparing z m c s))
      (cond (only z m c s)
      (if_fit (fit_to_apply z.slots (λ a. m (client c a)) s true) (then m (deciding_stores s) (λ u. applied_at z u c s)))
      (did Decided (deciding_stores s)))

  -- by what is found at s
  abbrev pub checked_prepare : ℕ → Did
  checked_prepare s = by_finding (deciding (map (prepare_finding z m c s) (read_items (λ a. m (client c a))))) (prepared_at s) (λ y. abort z m c y [])

  -- "Prepare checks and locks"; "prepare at an absent server aborts with 1", before all else
  unfoldable pub prepare : ℕ → Did
  prepare s = if_fit (fit_to_prepare z.slots (λ a. m (client c a))) (cond (there m s) (checked_prepare s) (abort z m c 1 []))

  -- ---- LOSS: "A decided transaction of a lost client is still applied"; "loss drops all copies"
  abbrev pub forgetting : (Address → ℕ) → Did
  forgetting u = did Done (in_client z u c drop_all)

  -- the abort of an undecided transaction, after which all copies go too
  abbrev pub lose_undecided : Did
  lose_undecided = did (Aborted 7) (then m (aborting z m c []) forgetting).stores

  -- "a loss that aborts nothing": without a transaction or with a decided one; else "7 lost, and undecided". A phase above is none of these
  unfoldable pub lose : Did
  lose =
      cond (eqb (m (client c phase)) no_transaction) (forgetting m)
      (cond (eqb (m (client c phase)) decided_phase) (did Done (in_client z m c Life.lose_part))
      (if_fit (leb (m (client c phase)) decided_phase && abort_fits z m c) lose_undecided))

  -- ---- by kind; an unknown one is refused by 4 before
  abbrev pub by_kind : Step → Kind → Did
  by_kind k Begin = begin z m c
  by_kind k Give = give z m c k
  by_kind k Work = work z m c
  by_kind k Commit = commit z m c
  by_kind k Prepare = prepare k.server
  by_kind k Apply = apply z m c k.server
  by_kind k GiveUp = abort z m c 6 []
  by_kind k Lost = lose
  by_kind k (Servers x) = change_servers z m x k.server
  by_kind k Unknown = refuse 4

-- refusals 4 to 9, 11 and 13 to 15, then the rule of its kind, with refusal 10 where it reads
unfoldable pub by_rule : Sizes → Step → (Address → ℕ) → Did
by_rule z k m = cond (eqb (refusal z k m) 0) (by_kind z m k.client k (kind_of k.kind)) (refuse (refusal z k m))

-- "12: at work, output shorter than 16 times the count": of a step of that kind, lent an output of so many bytes, where m is the client's part
abbrev pub short_output : ℕ → ℕ → (ClientWord → ℕ) → Bool
short_output kind room m = eqb kind 2 && (eqb (m op_number) 7 && ltb room (16 * m op_value))

-- ".. after 9": at every work step of a list
unfoldable pub lacks_room : Sizes → Step → ℕ → (Address → ℕ) → Bool
lacks_room z k room m = eqb (refusal z k m) 0 && short_output k.kind room (λ a. m (client k.client a))

-- THE STEP, to which an output of that many bytes is lent
unfoldable pub step : Sizes → Step → ℕ → (Address → ℕ) → Did
step z k room m = cond (lacks_room z k room m) (refuse 12) (by_rule z k m)
