-- "10. Something stored that this step's rule reads has a field out of range, or points to something that isn't there": what each rule reads of
-- its client's own part, and in which form. Begin and give read the phase and the waiting operation, which refusal 9 has judged; a loss that
-- aborts nothing reads the phase. Copies, and what an operation asks for, are judged where they are used (`Have`); what is checked or locked at
-- servers in the order of checking (`steps`, `Judge`).
use Rattle.std.specs.Prelude.{Bool, true, cond, ◌&&◌, ◌||◌, not, ℕ, ◌-◌, eqb, leb, ltb}
use Rattle.nodes.specs.Name.{server_of}
use Rattle.nodes.specs.States.{states_fit}
use Rattle.client.specs.declared.part.Set.{Set}
use Rattle.client.specs.declared.part.Set.TheVariants.{Reads, Writes, Copies}
use Rattle.client.specs.Layout.{ClientWord, vector_word, op_number, op_key, op_value, op_server, participants, prepared, applied, lost, reads_count, writes_count, limit}
use Rattle.client.specs.Record.{in_store, number_in_store, whole_in_range, kind_in_range, last_version}
use Rattle.client.specs.Sets.{count, number_at, record_at, find}
use Rattle.client.specs.Items.{all_below, has, inner, inner_before_after}
use Rattle.client.specs.Participants.{at_home, all_take_part, states_read}
use Rattle.client.specs.Drops.{version_of}
use Rattle.client.specs.Bounds.{most_servers, last_node_number, first_flag_number, most_listed}

module _ (m : ClientWord → ℕ) where
  -- how many items a set says that it has
  abbrev pub said_count : Set → ℕ
  said_count Reads = m reads_count
  said_count Writes = m writes_count
  said_count Copies = limit Copies

  -- is the kind of item i of a set in range
  unfoldable pub kind_fits : Set → ℕ → Bool
  kind_fits s i = kind_in_range (number_at m s i) (record_at m s i)

  -- "a written object's read" is there: that of write item i
  unfoldable pub is_read : ℕ → Bool
  is_read i = has m Reads (number_at m Writes i)

  -- the version read of an object has a next one; of flags none is kept
  unfoldable pub young : ℕ → Bool
  young x = ltb last_node_number x || ltb (version_of m (find m Reads x)) last_version

  -- does a server store something of the object: "at home and, for a node inner before or after, in every table"
  abbrev pub stored_at : ℕ → ℕ → Bool
  stored_at s x = at_home s x || inner_before_after m x

  -- the read of write item i is there, if it is metadata or a node: their version is the one read plus 1
  unfoldable pub read_fits : ℕ → Bool
  read_fits i = ltb last_node_number (number_at m Writes i) || is_read i

  -- the version read of write item i, if server s stores it
  unfoldable pub version_fits : ℕ → ℕ → Bool
  version_fits s i = not (stored_at s (number_at m Writes i)) || young (number_at m Writes i)

  -- a list's "count (the value field, 1 to 32)"
  abbrev pub list_fits : Bool
  list_fits = leb 1 (m op_value) && leb (m op_value) most_listed

  -- a set of servers has servers of the store only, which are eight
  unfoldable pub servers_fit : ClientWord → Bool
  servers_fit a = ltb (m a) 256

  -- where all servers take part, the metadata read says which they are
  unfoldable pub servers_known : Bool
  servers_known = not (all_take_part m) || states_fit (states_read m)

module _ (slots : ℕ) (m : ClientWord → ℕ) where
  -- is the object of item i of a set one of the store
  unfoldable pub number_fits : Set → ℕ → Bool
  number_fits s i = number_in_store slots (number_at m s i)

  -- a set has no more items than it may, and their objects are objects of the store
  unfoldable pub numbers_fit : Set → Bool
  numbers_fit s = leb (said_count m s) (limit s) && all_below (count m s) (number_fits s)

  -- both the read set and the write set
  abbrev pub sets_fit : Bool
  sets_fit = numbers_fit Reads && numbers_fit Writes

  -- a migrate's node and server are in the store
  abbrev pub migrate_fits : Bool
  migrate_fits = in_store slots (m op_key) && ltb (m op_server) most_servers

  -- the operation that waits is one of seven, and what a migrate and a list need of its fields
  unfoldable pub op_fits : Bool
  op_fits = leb (m op_number) 7 && cond (eqb (m op_number) 6) migrate_fits (cond (eqb (m op_number) 7) (list_fits m) true)

  -- WORK: the operation, and which objects are read and written
  unfoldable pub fit_to_work : Bool
  fit_to_work = op_fits && sets_fit

  -- COMMIT: which objects are read and written, their kinds, the reads of what is written, and the servers' states: they say who takes part
  unfoldable pub fit_to_commit : Bool
  fit_to_commit =
      sets_fit
      && (all_below (count m Reads) (kind_fits m Reads) && (all_below (count m Writes) (kind_fits m Writes) && (all_below (count m Writes) (is_read m) && servers_known m)))

  -- PREPARE: who takes part and who has prepared, which objects are read and written
  unfoldable pub fit_to_prepare : Bool
  fit_to_prepare = (servers_fit m participants && servers_fit m prepared) && sets_fit

  -- ABORT: who has prepared, and which objects are read
  unfoldable pub fit_to_abort : Bool
  fit_to_abort = servers_fit m prepared && numbers_fit Reads

  -- and where a server has prepared, what says what is locked there: who takes part, and which objects are written
  unfoldable pub fit_to_unlock : Bool
  fit_to_unlock = servers_fit m participants && numbers_fit Writes

  -- the record of write item i, where server s is its home
  unfoldable pub stored_record_fits : ℕ → ℕ → Bool
  stored_record_fits s i = not (at_home s (number_at m Writes i)) || whole_in_range slots (number_at m Writes i) (record_at m Writes i)

  -- write item i as server s stores it: the read of a written node; at home its record; wherever it is stored the version read
  unfoldable pub write_fits : ℕ → ℕ → Bool
  write_fits s i = read_fits m i && (stored_record_fits s i && version_fits m s i)

  -- all that server s stores
  unfoldable pub writes_fit : ℕ → Bool
  writes_fit s = all_below (count m Writes) (write_fits s)

  -- write item i as copies are renewed by it: of a flag its value, and whether there is a copy of its vector
  unfoldable pub flag_renewal_fits : ℕ → Bool
  flag_renewal_fits i =
      let x = number_at m Writes i in
      let s = server_of (x - first_flag_number) in
      (ltb s most_servers && leb (m (vector_word s 0)) 1) && whole_in_range slots x (record_at m Writes i)

  -- of metadata and inner nodes the whole record, and the version read
  unfoldable pub inner_renewal_fits : ℕ → Bool
  inner_renewal_fits i =
      let x = number_at m Writes i in
      not (inner x (record_at m Writes i)) || (whole_in_range slots x (record_at m Writes i) && young m x)

  -- by its number the one or the other
  unfoldable pub renewal_fits : ℕ → Bool
  renewal_fits i = cond (ltb last_node_number (number_at m Writes i)) (flag_renewal_fits i) (inner_renewal_fits i)

  -- the renewal of copies; "a lost client gets none"
  unfoldable pub fit_to_renew : Bool
  fit_to_renew = leb (m lost) 1 && (eqb (m lost) 1 || all_below (count m Writes) renewal_fits)

  -- APPLY at server s: who has applied, which objects are read, and the writes that s stores; what it unlocks; with the last one the renewal
  unfoldable pub fit_to_apply : ℕ → Bool → Bool
  fit_to_apply s last =
      (servers_fit m applied && numbers_fit Reads) && (fit_to_unlock && (writes_fit s && (not last || fit_to_renew)))
