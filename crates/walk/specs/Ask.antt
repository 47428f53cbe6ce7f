-- What comes of a question: an own write of the operation, else what the part has.
use Rattle.std.specs.Prelude.{◌≡◌, Bool, true, false, cond, List, [], ◌∷◌, ℕ, eqb, ◌+◌, ◌-◌, ◌≤◌, ◌<◌, length, get_or, set, Result, Ok, Err, IfOk}
use Rattle.std.proofs.Math.Option.{Option, none, some}
use Rattle.nodes.specs.declared.node.Node.{Node}
use Rattle.nodes.specs.Found.{Found}
use Rattle.std.specs.Prelude.{Some, None}
use Rattle.nodes.specs.Name.{server_of}
use Rattle.nodes.specs.Node.{free_node}
use Rattle.nodes.specs.Stored.{node_at}
use Rattle.memory.specs.Word.{view}
use Rattle.operations.specs.Object.{Obj, meta, node, flag, object, Val, Writes, hit}
use Rattle.operations.specs.Path.{TreePlan, see}
use Rattle.walk.specs.declared.walk.Meta.{Meta}
use Rattle.walk.specs.declared.walk.Stop.{Stop}
use Rattle.walk.specs.declared.walk.Stop.TheVariants.{LacksNode, LacksVector}
use Rattle.client.specs.declared.part.Set.TheVariants.{Reads}
use Rattle.client.specs.Layout.{ClientWord, ClientPart, record_words, client_length}
use Rattle.client.specs.Record.{number, object_in_store, first_slot, value_of, single, metadata}
use Rattle.client.specs.Sets.{count, held}
use Rattle.client.specs.Have.{How, is_found, is_copied, source, look_fits}
use Rattle.client.specs.Run.{among}
use Rattle.client.specs.Lent.{LentList, LentMut, OwnFits, own_find, own_record, own_count, own_list, used_in, pushed}
use Rattle.client.specs.Answered.{entered}
use Rattle.client.specs.Bounds.{end_of_numbers, first_flag_number, used_room, most_keys, highest_level, used_most}
use Rattle.walk.specs.Walk.{Course, Ended, course, ok_or, goes, lack, walked, carry}
use Rattle.base.specs.Test.{one_if}

-- ---- a node at hand has at most 14 keys, and a level of at most 4
pub record SmallNode (r : Node) : Type 0 where
  pub keys : r.count ≤ most_keys
  pub level : r.level ≤ highest_level

abbrev pub Small : Obj → Node → Type 0
Small meta r = Unit {0}
Small (node n) r = SmallNode r
Small (flag n) r = Unit {0}

-- ---- own writes
-- what the operation has written of an object
abbrev pub write_of : Writes → Obj → Option Val
write_of [] o = none
write_of (e ∷ w) o = cond (hit e.0 o) (some e.1) (write_of w o)

abbrev pub own_value : List ℕ → Obj → Found → Option Val
own_value x o (Some i) = some (value_of o (own_record x i))
own_value x o None = none

-- no own write has more than 14 keys
abbrev pub Few : List ℕ → Type 0
Few x = (i : ℕ) → i < own_count x → (own_record x i).count ≤ most_keys

-- what the answer finds in the lent list: a split root of level 4 is written too, with level 5, and judged only then
pub record OwnKept (x : List ℕ) : Type 0 where
  pub fit : OwnFits x
  pub few : Few x

-- a lent list of own writes whose nodes are small
pub record OwnGood (x : List ℕ) : Type 0 where
  pub fit : OwnFits x
  pub few : Few x
  pub small : (o : Obj) (i : ℕ) → own_find x (number o) ≡ Some i → Small o (own_record x i)

-- it holds the writes w: by object, and entry for entry
pub record HoldsWrites (slots : ℕ) (x : List ℕ) (w : Writes) : Type 0 where
  pub entries : own_list x ≡ entered w
  pub same : (o : Obj) → object_in_store slots o ≡ true → own_value x o (own_find x (number o)) ≡ write_of w o
  pub out : (o : Obj) → object_in_store slots o ≡ false → write_of w o ≡ none

-- that of a walk to which none is lent
abbrev pub nothing : List ℕ
nothing = 0 ∷ []

-- ---- the copies in use: object 97 may be among them
pub record Noted (m : ClientWord → ℕ) (u : List ℕ) : Type 0 where
  pub long : used_room ≤ length u
  pub few : count m Reads + get_or u 0 0 ≤ used_most
  pub each : (i : ℕ) → i < get_or u 0 0 → get_or u (i + 1) 0 < end_of_numbers

-- ---- what a question comes to
-- for every way on, the walk of the plan is what was told, or goes on with the record's value
pub record Asks (slots : ℕ) (m : ClientWord → ℕ) (w : Writes) (o : Obj) (u : List ℕ) (s : Course) (r : Node) (u' : List ℕ) : Type 0 where
  pub same : (k : Val → TreePlan) → walked slots m (see w o k) (used_in u) ≡ carry s (used_in u') (λ us. walked slots m (k (value_of o r)) us)

-- an object that is in the store, by its number; l says what is lacking
pub record Numbered (slots : ℕ) (m : ClientWord → ℕ) (x u : List ℕ) (n : ℕ) (l : Stop) (s : Course) (r : Node) (u' : List ℕ) : Type 0 where
  pub asks : (o : Obj) → number o ≡ n → object_in_store slots o ≡ true → lack (object o) ≡ l → (w : Writes) → HoldsWrites slots x w → Asks slots m w o u s r u'
  pub noted : Noted m u'
  pub long : length u' ≡ length u
  pub small : (o : Obj) → number o ≡ n → object_in_store slots o ≡ true → Small o r

-- an object that is not in the store: it ends every walk
pub record Outside (m : ClientWord → ℕ) (u : List ℕ) (s : Stop) (u' : List ℕ) : Type 0 where
  pub asks : (slots : ℕ) (x : List ℕ) (o : Obj) → object_in_store slots o ≡ false → (w : Writes) → HoldsWrites slots x w → (r : Node) → Asks slots m w o u (Ended s) r u'
  pub noted : Noted m u'
  pub long : length u' ≡ length u

-- any object, over whatever writes the lent list holds
pub record Asked (slots : ℕ) (m : ClientWord → ℕ) (x u : List ℕ) (o : Obj) (s : Course) (r : Node) (u' : List ℕ) : Type 0 where
  pub asks : (w : Writes) → HoldsWrites slots x w → Asks slots m w o u s r u'
  pub noted : Noted m u'
  pub long : length u' ≡ length u
  pub inside : goes s ≡ true → object_in_store slots o ≡ true
  pub small : Small o r

-- ---- what the code is told
-- the record that comes with Going
abbrev pub given : Course → Node → Node
given s r = cond (goes s) r (free_node 0)

-- the object with the number n was looked for: how it is known, and whether what is known of it may be used
pub record Meets (m : ClientWord → ℕ) (u : List ℕ) (n : ℕ) (how : How) (right : Bool) (l : Stop) (s : Course) (u' : List ℕ) : Type 0 where
  pub numbered : (slots : ℕ) → how ≡ (source m n).how → (is_found how ≡ true → right ≡ look_fits slots m n (source m n))
      → Numbered slots m nothing u n l s (given s (source m n).node) u'
  pub found : goes s ≡ true → is_found how ≡ true

-- a record has room in a client's part from this word on
abbrev pub InPart : ℕ → Type 0
InPart place = place + record_words ≤ client_length

-- the records that the code is told: a node by value
abbrev pub node_in : Result Node Stop → Node
node_in = ok_or (free_node 0)

-- a node that stands at a place of a part of the bytes b
abbrev pub placed_in : List ℕ → Result ℕ Stop → Node
placed_in b (Ok place) = node_at (view b) place
placed_in b (Err s) = free_node 0

-- the metadata
abbrev pub meta_in : Result Meta Stop → Node
meta_in (Ok r) = metadata 0 r.root r.states
meta_in (Err s) = free_node 0

-- a flag
abbrev pub flag_in : Result Bool Stop → Node
flag_in r = single 0 (one_if (ok_or false r))

-- a node of the store, by its name
pub record PlacedNode (b u : List ℕ) (n : ℕ) (p : Result ℕ Stop) (u' : List ℕ) : Type 0 where
  pub numbered : (slots : ℕ) → Numbered slots (held b) nothing u (1 + n) (LacksNode n) (course p) (placed_in b p) u'
  pub within : IfOk p InPart

pub record SeenNode (m : ClientWord → ℕ) (x u : List ℕ) (n : ℕ) (a : Result Node Stop) (u' : List ℕ) : Type 0 where
  pub numbered : (slots : ℕ) → Numbered slots m x u (1 + n) (LacksNode n) (course a) (node_in a) u'

-- a flag of the store
pub record AskedFlag (m : ClientWord → ℕ) (u : List ℕ) (n : ℕ) (v : Result Bool Stop) (u' : List ℕ) : Type 0 where
  pub node : Node
  pub numbered : (slots : ℕ) → Numbered slots m nothing u (first_flag_number + n) (LacksVector (server_of n)) (course v) node u'
  pub value : IfOk v (λ t. t ≡ eqb (first_slot node) 1)

-- the last copy taken back
abbrev pub popped : List ℕ → List ℕ
popped u = set u 0 (get_or u 0 0 - 1)

-- a copy that is not in use yet comes into use
unfoldable pub with_copy : List ℕ → ℕ → List ℕ
with_copy u n = cond (among n (used_in u)) u (pushed u n)

abbrev pub noted_copy : How → List ℕ → ℕ → List ℕ
noted_copy d u n = cond (is_copied d) (with_copy u n) u

-- ---- a statement of a walk over what the walk is lent: the slots on each server, what the client's part holds, the own writes, the copies in use
abbrev pub over_lent : {A : Type 1} → (ℕ → (ClientWord → ℕ) → List ℕ → List ℕ → A) → ℕ → LentList → LentMut → LentMut → A
over_lent S slots part own used = S slots (held part.entry.now) own.entry.now used.entry.now

-- the same of a walk that only reads the own writes
abbrev pub over_own : {A : Type 1} → (ℕ → (ClientWord → ℕ) → List ℕ → List ℕ → A) → ℕ → LentList → LentList → LentMut → A
over_own S slots part own used = S slots (held part.entry.now) own.entry.now used.entry.now

-- the same of a walk that has written nothing
abbrev pub unwritten : {A : Type 1} → (ℕ → (ClientWord → ℕ) → List ℕ → List ℕ → A) → ℕ → LentList → LentMut → A
unwritten S slots part used = S slots (held part.entry.now) nothing used.entry.now

-- and of one that only reads
abbrev pub over_read : {A : Type 1} → (ℕ → (ClientWord → ℕ) → List ℕ → A) → ℕ → LentList → LentMut → A
over_read S slots part used = S slots (held part.entry.now) used.entry.now

-- the node that stands at a place of the lent part
abbrev pub lent_node : LentList → ℕ → Node
lent_node part place = node_at (view part.entry.now) place

-- ---- what a walk is lent: a client's part, the copies in use, and the operation's own writes
-- to one that only reads
abbrev pub Walking : List ℕ → List ℕ → Type 0
Walking part used = Noted (held part) used × ClientPart part

-- to one that reads its own writes too
abbrev pub WalkingOwn : List ℕ → List ℕ → List ℕ → Type 0
WalkingOwn part own used = OwnGood own × Noted (held part) used × ClientPart part

-- to one that writes, before its first write
abbrev pub Beginning : List ℕ → List ℕ → List ℕ → Type 0
Beginning part own used = OwnGood own × (get_or own 0 0 ≡ 0) × Noted (held part) used × ClientPart part

-- to one that writes, with less than n own writes
abbrev pub Writing : List ℕ → List ℕ → List ℕ → ℕ → Type 0
Writing part own used n = OwnGood own × (get_or own 0 0 < n) × Noted (held part) used × ClientPart part

-- to one that carries a change up, with at most n own writes
abbrev pub Rising : List ℕ → List ℕ → List ℕ → ℕ → Type 0
Rising part own used n = OwnGood own × (get_or own 0 0 ≤ n) × Noted (held part) used × ClientPart part
