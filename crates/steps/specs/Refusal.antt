-- "Steps refused": 1 to 9, 11 and 13 to 15 as a table of tests, in the documents' order. "A refused step returns the first number that holds and
-- changes no byte; opening checks 1 to 3 only."
use Rattle.std.specs.Prelude.{Bool, true, cond, ◌&&◌, ◌||◌, not, List, [], ◌∷◌, ℕ, eqb, leb, ltb, get_or}
use Rattle.memory.specs.Bit.{bit}
use Rattle.client.specs.Layout.{ClientWord, phase, op_number, participants, prepared, applied, no_transaction, open_phase, commit_phase, decided_phase}
use Rattle.nodes.specs.Bounds.{most_servers}
use Rattle.client.specs.Record.{in_store}
use Rattle.steps.specs.declared.sizes.Sizes.{Sizes}
use Rattle.steps.specs.declared.step.Step.{Step}
use Rattle.steps.specs.declared.step.Kind.{Kind}
use Rattle.steps.specs.declared.step.Kind.TheVariants.{Begin, Give, Work, Commit, Prepare, Apply, GiveUp, Lost, Servers, Unknown}
use Rattle.steps.specs.declared.step.ServerChange.TheVariants.{Add, Close, Remove}
use Rattle.steps.specs.Whole.{Address, client, length_for}
use Rattle.steps.specs.Servers.{change_of, state_suits, any_taken, version_ends, quiet}

-- a row of the table: its number, and whether it holds
pub record Row : Type 0 where
  pub number : ℕ
  pub holds : Bool

-- the row of the number n, which holds if b does
abbrev pub refused_if : ℕ → Bool → Row
refused_if n b = record { number = n; holds = b }

-- the first number that holds; 0 if none does
unfoldable pub first : List Row → ℕ
first [] = 0
first (r ∷ rs) = cond r.holds r.number (first rs)

-- "Kinds: 0 begin. 1 give an operation .. 7 client lost."; 8 to 10 are changes of the servers; above 10 Unknown
unfoldable pub kind_of : ℕ → Kind
kind_of n = get_or (Begin ∷ Give ∷ Work ∷ Commit ∷ Prepare ∷ Apply ∷ GiveUp ∷ Lost ∷ Servers Add ∷ Servers Close ∷ Servers Remove ∷ []) n Unknown

-- is n from a to b
abbrev pub between : ℕ → ℕ → ℕ → Bool
between a b n = leb a n && leb n b

-- "Servers 1 to 8, slots on each 1 to 1,024, clients 1 to 16."
unfoldable pub allowed? : Sizes → Bool
allowed? z = between 1 8 z.servers && between 1 1024 z.slots && between 1 16 z.clients

-- the memory of that many bytes, for the sizes given or in the head
abbrev pub of_memory : ℕ → Sizes → List Row
of_memory bytes z =
    -- "1. The lent memory is shorter than 64 bytes."
    refused_if 1 (ltb bytes 64)
    -- "2. A size, given or in the head, is outside its range."
    ∷ refused_if 2 (not (allowed? z))
    -- "3. The memory is shorter than the sizes call for."
    ∷ refused_if 3 (ltb bytes (length_for z))
    ∷ []

-- "begin needs no transaction; give and commit need one not yet committing with no operation waiting; work a waiting one; prepare,
-- after commit, a participant not yet prepared; apply, after the decision, one not yet applied; give up an undecided transaction;
-- lost fits always"
module _ (m : ClientWord → ℕ) (s : ℕ) where
  -- server s takes part and is not yet in the set of those done: prepared, or applied
  abbrev pub unfinished : ClientWord → Bool
  unfinished done = bit (m participants) s && not (bit (m done) s)

  -- does the client's state fit a step of that kind at server s; a change of the servers has no client, and an unknown kind is refused by 4 before
  unfoldable pub state_fits : Kind → Bool
  state_fits Begin = eqb (m phase) no_transaction
  state_fits Give = eqb (m phase) open_phase && eqb (m op_number) 0
  state_fits Work = eqb (m phase) open_phase && not (eqb (m op_number) 0)
  state_fits Commit = eqb (m phase) open_phase && eqb (m op_number) 0
  state_fits Prepare = eqb (m phase) commit_phase && unfinished prepared
  state_fits Apply = eqb (m phase) decided_phase && unfinished applied
  state_fits GiveUp = between open_phase commit_phase (m phase)
  state_fits Lost = true
  state_fits (Servers x) = true
  state_fits Unknown = true

-- the step, where m holds the memory
abbrev pub of_step : Sizes → Step → (Address → ℕ) → List Row
of_step z k m =
    let gives = eqb k.kind 1 in
    let migrates = gives && eqb k.op 6 in
    let changes = leb 8 k.kind in
    -- "4. The kind is above 7.", and now above 10
    refused_if 4 (ltb 10 k.kind)
    -- "5. The client is not in the store."; "Fields that a kind doesn't use are not looked at"
    ∷ refused_if 5 (not changes && leb z.clients k.client)
    -- "6. A given op is not 1 to 6", and "Operations now run to 7"
    ∷ refused_if 6 (gives && not (between 1 7 k.op))
    -- "11: count outside 1 to 32, after 6"
    ∷ refused_if 11 (gives && eqb k.op 7 && not (between 1 32 k.value))
    -- "7. The server of a migrate, prepare or apply is not in the store.", now "for a number above 7", of a change of the servers too
    ∷ refused_if 7 ((migrates || between 4 5 k.kind || changes) && leb most_servers k.server)
    -- "13: the server's state doesn't fit, or the last open one would close, after 7"
    ∷ refused_if 13 (changes && not (state_suits m k.server (change_of k.kind)))
    -- "14: removal with a slot still taken, after 13"
    ∷ refused_if 14 (eqb k.kind 10 && any_taken m k.server)
    -- "15: the metadata's version is at its largest, after 14"
    ∷ refused_if 15 (changes && version_ends m)
    -- "8. A migrated node's name is not in the store."
    ∷ refused_if 8 (migrates && not (in_store z.slots k.key))
    -- "9. The client's state doesn't fit"; "All three need that no transaction is prepared or decided without being ended, else refusal 9."
    ∷ refused_if 9 (cond changes (not (quiet z m)) (not (state_fits (λ a. m (client k.client a)) k.server (kind_of k.kind))))
    ∷ []

-- by which of 1 to 3 an opening or a step is refused; 0 if by none
unfoldable pub open_refusal : ℕ → Sizes → ℕ
open_refusal bytes z = first (of_memory bytes z)

-- by which of 4 to 9, 11 and 13 to 15 a step is refused; 0 if by none
unfoldable pub refusal : Sizes → Step → (Address → ℕ) → ℕ
refusal z k m = first (of_step z k m)
