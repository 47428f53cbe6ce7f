-- An operation walked to its end.
use Rattle.std.specs.Prelude.{◌≡◌, true, false, List, [], ℕ}
use Rattle.std.proofs.Math.Option.{none}
use Rattle.operations.specs.Object.{Obj, Writes}
use Rattle.operations.specs.Path.{TreePlan}
use Rattle.client.specs.Layout.{ClientWord}
use Rattle.client.specs.Record.{object_in_store}
use Rattle.client.specs.Lent.{LentList, LentMut, Entry, used_in}
use Rattle.client.specs.Answered.{entered}
use Rattle.walk.specs.Walk.{Course, stands, walked}
use Rattle.walk.specs.Ask.{OwnKept, HoldsWrites, write_of, Noted, over_lent}
use Rattle.walk.specs.Lookup.{ended}

-- from an empty lent list; with an answer the list holds the operation's writes
pub record Operated (slots : ℕ) (m : ClientWord → ℕ) (x u : List ℕ) (p : TreePlan) (s : Course) (x' u' : List ℕ) : Type 0 where
  pub writes : Writes
  pub same : HoldsWrites slots x [] → walked slots m p (used_in u) ≡ ended s (used_in u') writes []
  pub holds : stands s ≡ true → HoldsWrites slots x [] → HoldsWrites slots x' writes
  pub kept : stands s ≡ true → HoldsWrites slots x [] → OwnKept x'
  pub noted : Noted m u'

-- as a contract promises it, over what the walk is lent
abbrev pub Operates : ℕ → LentList → LentMut → LentMut → TreePlan → Course → Type 0
Operates slots part own used p s = over_lent Operated slots part own used p s own.exit.now used.exit.now

-- the same without the list: with an answer l are the entries of the operation's writes, all of objects of the store
pub record Written (slots : ℕ) (m : ClientWord → ℕ) (u : List ℕ) (p : TreePlan) (s : Course) (l : List Entry) (u' : List ℕ) : Type 0 where
  pub writes : Writes
  pub same : walked slots m p (used_in u) ≡ ended s (used_in u') writes []
  pub entries : stands s ≡ true → l ≡ entered writes
  pub out : stands s ≡ true → (o : Obj) → object_in_store slots o ≡ false → write_of writes o ≡ none
  pub noted : Noted m u'
