-- Refusals 5 to 9, 11 and 13 to 15 as the code asks for them: which of 6 to 8 and 11, by the kind; of a change of the servers 7, 13 to 15 and 9.
use Rattle.std.specs.Prelude.{Bool, true, false, cond, ◌&&◌, not, List, ℕ, ◌<◌, eqb, leb}
use Rattle.memory.specs.Bit.{bit}
use Rattle.client.specs.Layout.{ClientWord, participants, prepared, applied}
use Rattle.client.specs.Record.{in_store}
use Rattle.steps.specs.declared.sizes.Sizes.{Sizes}
use Rattle.steps.specs.declared.step.Step.{Step}
use Rattle.steps.specs.declared.step.Kind.{Kind}
use Rattle.steps.specs.declared.step.Kind.TheVariants.{Begin, Give, Work, Commit, Prepare, Apply, GiveUp, Lost, Servers, Unknown}
use Rattle.steps.specs.declared.step.ServerChange.{ServerChange}
use Rattle.steps.specs.declared.step.ServerChange.TheVariants.{Add, Close, Remove}
use Rattle.steps.specs.Whole.{Address, client}
use Rattle.steps.specs.Servers.{state_suits, any_taken, version_ends, quiet}
use Rattle.steps.specs.Refusal.{between, state_fits}
use Rattle.kinds.specs.Parts.{stored_in}
use Rattle.client.specs.Bounds.{most_servers, most_listed}

-- the first of two refusals, where 0 is none
abbrev pub first_refusal : ℕ → ℕ → ℕ
first_refusal a b = cond (eqb a 0) b a

-- 7 of a migrate, a prepare or an apply
unfoldable pub server_refusal : ℕ → ℕ
server_refusal s = cond (leb most_servers s) 7 0

-- 8 of a migrate
unfoldable pub node_refusal : Sizes → ℕ → ℕ
node_refusal z n = cond (in_store z.slots n) 0 8

-- 11 of a list
unfoldable pub count_refusal : ℕ → ℕ
count_refusal n = cond (between 1 most_listed n) 0 11

-- 6 of a give, 7 and 8 where it gives a migrate, and 11 where it gives a list
unfoldable pub give_refusal : Sizes → Step → ℕ
give_refusal z k =
    cond (between 1 5 k.op) 0
    (cond (eqb k.op 6) (first_refusal (server_refusal k.server) (node_refusal z k.key))
    (cond (eqb k.op 7) (count_refusal k.value) 6))

-- a participant that is not yet in the set of servers that the field has
unfoldable pub left : (ClientWord → ℕ) → ClientWord → ℕ → Bool
left m done s = bit (m participants) s && not (bit (m done) s)

-- what a kind needs: the phase, the operation that waits, the server's turn
unfoldable pub due : (ClientWord → ℕ) → ℕ → Kind → Bool
due m s Begin = false
due m s Give = false
due m s Work = false
due m s Commit = false
due m s Prepare = left m prepared s
due m s Apply = left m applied s
due m s GiveUp = false
due m s Lost = false
due m s (Servers x) = false
due m s Unknown = false

unfoldable pub fitting : Kind → ℕ → ℕ → Bool → Bool
fitting Begin p o d = eqb p 0
fitting Give p o d = eqb p 1 && eqb o 0
fitting Work p o d = eqb p 1 && not (eqb o 0)
fitting Commit p o d = eqb p 1 && eqb o 0
fitting Prepare p o d = eqb p 2 && d
fitting Apply p o d = eqb p 3 && d
fitting GiveUp p o d = between 1 2 p
fitting Lost p o d = true
fitting (Servers x) p o d = true
fitting Unknown p o d = true

-- 9: the state does not fit a step of that kind, where the memory has these words
unfoldable pub unfit : Sizes → Step → Kind → List ℕ → Bool
unfit z k i w = not (state_fits (λ a. stored_in z w (client k.client a)) k.server i)

-- 6 to 8: what a kind asks of the step's fields
unfoldable pub field_refusal : Sizes → Step → Kind → ℕ
field_refusal z k Begin = 0
field_refusal z k Give = give_refusal z k
field_refusal z k Work = 0
field_refusal z k Commit = 0
field_refusal z k Prepare = server_refusal k.server
field_refusal z k Apply = server_refusal k.server
field_refusal z k GiveUp = 0
field_refusal z k Lost = 0
field_refusal z k (Servers x) = 0
field_refusal z k Unknown = 0

-- 5 to 9: a step of that kind, from 0 to 7, where the memory has these words
unfoldable pub known_refusal : Sizes → Step → Kind → List ℕ → ℕ
known_refusal z k i w = cond (leb z.clients k.client) 5 (first_refusal (field_refusal z k i) (cond (unfit z k i w) 9 0))

-- 14: is it a removal, with a slot still taken
unfoldable pub taken_yet : (Address → ℕ) → ServerChange → ℕ → Bool
taken_yet m Add s = false
taken_yet m Close s = false
taken_yet m Remove s = any_taken m s

-- 7, 13 to 15 and 9: a change of the servers, where m holds the memory
unfoldable pub change_refusal : Sizes → ServerChange → ℕ → (Address → ℕ) → ℕ
change_refusal z x s m =
    cond (leb most_servers s) 7
    (cond (not (state_suits m s x)) 13
    (cond (taken_yet m x s) 14
    (cond (version_ends m) 15
    (cond (quiet z m) 0 9))))

-- the server of a prepare or an apply is one of eight
unfoldable pub Sited : Kind → ℕ → Type 0
Sited Begin s = Unit {0}
Sited Give s = Unit {0}
Sited Work s = Unit {0}
Sited Commit s = Unit {0}
Sited Prepare s = s < most_servers
Sited Apply s = s < most_servers
Sited GiveUp s = Unit {0}
Sited Lost s = Unit {0}
Sited (Servers x) s = Unit {0}
Sited Unknown s = Unit {0}
