-- Document 01's example of a schedule, run by the definitions: sizes 1 4 1; a transaction that inserts key 5 with value 70.
use Rattle.std.specs.Prelude.{◌≡◌, refl, Bool, true, ◌&&◌, false, List, [], ◌∷◌, ◌++◌, ℕ, zero, suc, ◌<◌, ltb}
use Rattle.std.proofs.Common.{ap, sym, inl, inr, arith, ltb-true}
use Rattle.std.proofs.lemmas.Bool.{false≢true}
use Rattle.std.proofs.Math.Decide.{dec_le, ℕ_discrete}
use Rattle.base.specs.Test.{and_both}
use Rattle.operations.specs.Map.{insert}
use Rattle.steps.specs.declared.sizes.Sizes.{Sizes}
use Rattle.steps.specs.declared.step.Step.{Step}
use Rattle.steps.specs.declared.outcome.Outcome.TheVariants.{Refused, Done, Fetched, Answered, Committed}
use Rattle.plans.specs.Walk.{Every}
use Rattle.steps.specs.Taken.{Words, Taken, steps_of, came_to, Engine, LeadsBy, Leads}
use Rattle.steps.proofs.Laws.Taken.{fields_are_words}
use Rattle.demand.specs.Ledger.{Told, ledger_from, decided_in}
use Rattle.demand.specs.Demand.{Some, Applies, node_in, pairs_under}
use Rattle.base.specs.Update as Update
use Rattle.memory.specs.Bit as Bit
use Rattle.layout.specs.Part as LayoutPart
use Rattle.layout.specs.Space as Space
use Rattle.layout.specs.Step as LayoutStep
use Rattle.layout.specs.Sweep as Sweep
use Rattle.nodes.specs.Lists as Lists
use Rattle.nodes.specs.Name as Name
use Rattle.nodes.specs.Node as Node
use Rattle.nodes.specs.Place as Place
use Rattle.nodes.specs.Range as NodesRange
use Rattle.nodes.specs.Stored as Stored
use Rattle.operations.specs.Entry as Entry
use Rattle.server.specs.Check as Check
use Rattle.nodes.specs.States as States
use Rattle.server.specs.Fresh as Fresh
use Rattle.server.specs.HandOut as HandOut
use Rattle.server.specs.Lock as Lock
use Rattle.server.specs.Object as Object
use Rattle.nodes.specs.Object as NodesObject
use Rattle.server.specs.Store as Store
use Rattle.client.specs.Answered as Answered
use Rattle.client.specs.Commit as Commit
use Rattle.client.specs.Copies as Copies
use Rattle.client.specs.Course as Course
use Rattle.client.specs.Drops as Drops
use Rattle.client.specs.Enter as Enter
use Rattle.client.specs.Fetched as Fetched
use Rattle.client.specs.Fits as Fits
use Rattle.client.specs.Have as Have
use Rattle.client.specs.Items as Items
use Rattle.client.specs.Life as Life
use Rattle.client.specs.Part as ClientPart
use Rattle.client.specs.Participants as Participants
use Rattle.client.specs.Record as Record
use Rattle.client.specs.Renew as Renew
use Rattle.client.specs.Run as ClientRun
use Rattle.client.specs.Sets as Sets
use Rattle.client.specs.Work as Work
use Rattle.steps.specs.Judge as Judge
use Rattle.steps.specs.Refusal as Refusal
use Rattle.steps.specs.Run as Run
use Rattle.steps.specs.Servers as Servers
use Rattle.steps.specs.Steps as Steps
use Rattle.steps.specs.Output as Output
use Rattle.operations.specs.Entry.{Entries}
use Rattle.steps.specs.Uses as Uses
use Rattle.steps.specs.Whole.{Address, whole}

-- ---- SCHEDULES THAT COMPUTE
-- the steps with the outcomes to which an engine brings them, lent no output, and the memory after them
abbrev pub taken_by : Engine → Sizes → (Address → ℕ) → List Step → List Taken
taken_by f z m [] = []
taken_by f z m (k ∷ ks) = came_to k 0 [] (f z k 0 m).outcome [] ∷ taken_by f z (Space.changed whole m (f z k 0 m).stores) ks

abbrev pub memory_by : Engine → Sizes → (Address → ℕ) → List Step → Address → ℕ
memory_by f z m [] = m
memory_by f z m (k ∷ ks) = memory_by f z (Space.changed whole m (f z k 0 m).stores) ks

-- small numbers, so machine words
abbrev small? : Step → Bool
small? k = ltb k.kind 100 && (ltb k.client 100 && (ltb k.op 100 && (ltb k.key 100 && (ltb k.value 100 && ltb k.server 100))))

abbrev pub all_small? : List Step → Bool
all_small? [] = true
all_small? (k ∷ ks) = small? k && all_small? ks

small_words : (k : Step) → small? k ≡ true → Words k
small_words k t =
    let a = and_both (ltb k.kind 100) _ t in
    let b = and_both (ltb k.client 100) _ a.1 in
    let c = and_both (ltb k.op 100) _ b.1 in
    let d = and_both (ltb k.key 100) _ c.1 in
    let e = and_both (ltb k.value 100) (ltb k.server 100) d.1 in
    let below : (n : ℕ) → ltb n 100 ≡ true → n < 18446744073709551616 = λ n h. omega (arith, ltb-true n 100 h) in
    fields_are_words k (below k.kind a.0) (below k.client b.0) (below k.op c.0) (below k.key d.0) (below k.value e.0) (below k.server e.1)

-- no step writes to the output
abbrev none? : Entries → Bool
none? [] = true
none? (e ∷ ps) = false

none_is : (ps : Entries) → none? ps ≡ true → ps ≡ []
none_is [] e = refl
none_is (x ∷ ps) e = absurd (false≢true e)

abbrev pub unlisted? : Engine → Sizes → (Address → ℕ) → List Step → Bool
unlisted? f z m [] = true
unlisted? f z m (k ∷ ks) = none? (f z k 0 m).pairs && unlisted? f z (Space.changed whole m (f z k 0 m).stores) ks

pub leads_there : (f : Engine) (z : Sizes) (m : Address → ℕ) (ks : List Step) → all_small? ks ≡ true → unlisted? f z m ks ≡ true → LeadsBy f z m (taken_by f z m ks) (memory_by f z m ks)
unfolding LeadsBy Output.with_pairs
leads_there f z m [] t n = refl
leads_there f z m (k ∷ ks) t n =
    let p = and_both (small? k) (all_small? ks) t in
    let q = and_both (none? (f z k 0 m).pairs) (unlisted? f z (Space.changed whole m (f z k 0 m).stores) ks) n in (
      small_words k p.0,
      refl,
      ap (λ (ps : Entries). Output.with_pairs ps []) (sym (none_is (f z k 0 m).pairs q.0)),
      leads_there f z (Space.changed whole m (f z k 0 m).stores) ks p.1 q.1,
    )

-- all that steps compute with on a small store
unfoldable pub computes : Type 0
unfolding Update.upd Bit.bit Bit.put_bit LayoutPart.over Space.changed Space.written Space.puts Space.tab LayoutStep.and_then Sweep.sweep Lists.insert_at Lists.pad Node.extra Node.free_node Node.keys_of Node.made Node.slots_of Place.place Place.there_at Place.key_place Place.rises NodesRange.node_in_range Stored.node_of Stored.words_of Entry.under Check.can_check Check.checked Check.mark_finding Check.held Check.mark_fits Check.mark_in Check.mark_place Check.standing Fresh.first_leaf Fresh.fresh_stores States.is_present States.states_fit States.metadata_fits States.first_states HandOut.metadata_at HandOut.metadata_sound Lock.busy Lock.lock_in_range Lock.locked Lock.unlocked Object.lock_of NodesObject.object_of Store.home_step Store.kept_of Store.lock_step Store.node_step Store.table_step Store.unlock_step Answered.answered Answered.enter_writes Answered.entered Answered.put_entry Answered.used_enter Commit.inner_at Copies.drop_node Course.decided Course.noted Drops.next_version Enter.enter_entries Enter.enter_read Enter.enter_used Enter.enter_write Fetched.copy_inner Fetched.fetched_meta Fetched.fetched_node Fits.fit_to_apply Fits.fit_to_commit Fits.fit_to_prepare Fits.fit_to_renew Fits.fit_to_unlock Fits.fit_to_work Fits.inner_renewal_fits Fits.is_read Fits.kind_fits Fits.number_fits Fits.numbers_fit Fits.op_fits Fits.read_fits Fits.renewal_fits Fits.servers_fit Fits.servers_known Fits.stored_record_fits Fits.version_fits Fits.write_fits Fits.writes_fit Fits.young Have.broken Have.copied Have.copied_meta Have.copied_node Have.have Have.look_fits Have.source Items.all_below Items.any_below Items.has Items.inner Items.inner_before_after Items.inner_in Life.give_part Life.reset ClientPart.nothing ClientPart.put_word ClientPart.put_fields ClientPart.put_item Participants.at_home Participants.committing Participants.lowest_of Participants.mask Participants.participants_of Participants.states_read Record.children_there Record.kind_in_range Record.node_fits Record.record_in_range Record.whole_in_range Name.name_in_store Record.number_in_store Record.record_of Record.single Record.metadata Renew.drop_outer Renew.finish Renew.for_writes Renew.rank Renew.ranked Renew.renew Renew.renew_flag Renew.renew_kept Renew.renew_meta Renew.renew_nth Renew.renew_written ClientRun.among ClientRun.run Sets.count Sets.find Sets.first_of Sets.number_at Sets.record_at Work.any_at_last Work.count_new Work.versions_there Work.walked Work.worked Judge.holders_fit Judge.lock_fits Refusal.first Refusal.state_fits Refusal.kind_of Refusal.refusal Run.opened Steps.at_servers Servers.there Servers.first_from Servers.metadata_source Steps.applied_at Steps.begin Steps.commit Steps.covers Steps.fetch Steps.give Steps.node_at Steps.prepare Steps.prepared_at Steps.step Steps.by_rule Steps.lacks_room Steps.work Uses.checked_at Uses.deciding Uses.each Uses.item_of Uses.least Uses.locked_at Uses.read_items Uses.used_items ledger_from Every Some node_in dec_le ℕ_discrete
computes = Unit {0}

-- one server of 4 slots, one client
abbrev pub sizes : Sizes
sizes = record { servers = 1; slots = 4; clients = 1 }

abbrev pub line : ℕ → ℕ → ℕ → ℕ → Step
line kind op key value = record { kind = kind; client = 0; op = op; key = key; value = value; server = 0 }

-- the applies of the one client at every server
abbrev pub apply_at : ℕ → Step
apply_at s = record { kind = 5; client = 0; op = 0; key = 0; value = 0; server = s }

abbrev pub every_apply : List Step
every_apply = apply_at 0 ∷ apply_at 1 ∷ apply_at 2 ∷ apply_at 3 ∷ apply_at 4 ∷ apply_at 5 ∷ apply_at 6 ∷ apply_at 7 ∷ []

pub all_apply : Applies sizes every_apply
unfolding Every Some
all_apply = record { only = (refl, (refl, (refl, (refl, (refl, (refl, (refl, (refl, tt)))))))); each = λ c s l r. at c s l r }
  where
    at : (c s : ℕ) → c < 1 → s < 8 → Some (λ (k : Step). (k.client ≡ c) × (k.server ≡ s)) every_apply
    at c zero l r = inl (omega arith, refl)
    at c (suc zero) l r = inr (inl (omega arith, refl))
    at c (suc (suc zero)) l r = inr (inr (inl (omega arith, refl)))
    at c (suc (suc (suc zero))) l r = inr (inr (inr (inl (omega arith, refl))))
    at c (suc (suc (suc (suc zero)))) l r = inr (inr (inr (inr (inl (omega arith, refl)))))
    at c (suc (suc (suc (suc (suc zero))))) l r = inr (inr (inr (inr (inr (inl (omega arith, refl))))))
    at c (suc (suc (suc (suc (suc (suc zero)))))) l r = inr (inr (inr (inr (inr (inr (inl (omega arith, refl)))))))
    at c (suc (suc (suc (suc (suc (suc (suc zero))))))) l r = inr (inr (inr (inr (inr (inr (inr (inl (omega arith, refl))))))))
    at c (suc (suc (suc (suc (suc (suc (suc (suc s)))))))) l r = absurd (omega arith)

-- ---- THE EXAMPLE
-- begin, give, work three times, commit, prepare, with the outcomes that stepshow prints
abbrev story : List Taken
story =
    came_to (line 0 0 0 0) 0 [] Done [] ∷ came_to (line 1 1 5 70) 0 [] Done [] ∷ came_to (line 2 0 0 0) 0 [] (Fetched 0 0) [] ∷ came_to (line 2 0 0 0) 0 [] (Fetched 1 0) []
    ∷ came_to (line 2 0 0 0) 0 [] (Answered 1 0) [] ∷ came_to (line 3 0 0 0) 0 [] Done [] ∷ came_to (line 4 0 0 0) 0 [] Committed [] ∷ []

-- with one participant the prepare has also applied: no apply is due
abbrev refused_at : ℕ → Taken
refused_at s = came_to (apply_at s) 0 [] (Refused 9) []

abbrev applies : List Taken
applies = refused_at 0 ∷ refused_at 1 ∷ refused_at 2 ∷ refused_at 3 ∷ refused_at 4 ∷ refused_at 5 ∷ refused_at 6 ∷ refused_at 7 ∷ []

abbrev after_all : Address → ℕ
after_all = memory_by Steps.step sizes (Run.opened sizes) (steps_of (story ++ applies))

abbrev pub inserted : Told
inserted = record { op = insert 5 70; ans = (1, 0, []) }

-- The steps come to these outcomes; one transaction is decided, with its answer; and the tree then holds its pair.
pub example : Leads sizes (Run.opened sizes) (story ++ applies) after_all
    × (decided_in story ≡ (inserted ∷ []) ∷ []) × Applies sizes (steps_of applies) × (pairs_under after_all 0 ≡ (5, 70) ∷ [])
unfolding computes
example = (leads_there Steps.step sizes (Run.opened sizes) (steps_of (story ++ applies)) refl refl, refl, all_apply, refl)
