-- THE CLAIM on the machine, with no ghost in it: in every state that its moves reach, the decided transactions' answers are the map's, what
-- the servers store, with all due writes counted in, holds the map, and the servers agree. It is the protocol's theorem, carried over.
use Rattle.std.specs.Prelude.{◌≡◌, Bool, true}
use Rattle.base.specs.Test.{ifd}
use Rattle.protocol.specs.Setting.{Setting}
use Rattle.protocol.specs.Replay.{settled}
use Rattle.protocol.specs.Meaning.{Meaning, map_all, RightAll}
use Rattle.protocol.specs.Machine.{Machine, seen}

-- "the memory as all applies still due would leave it"
abbrev pub due_in : (T : Setting) → Machine T → T.Server → T.Obj → T.Val
due_in T m = settled T (λ c. seen T (m.slots c)) m.value T.clients

-- "a server is what its own metadata calls it"
abbrev pub there_now : (T : Setting) → Machine T → T.Server → Bool
there_now T m s = T.present (m.value s T.meta) s

-- where an object is read: at home, and the metadata at s
abbrev pub seat : (T : Setting) → T.Server → T.Obj → T.Server
seat T s o = ifd (T.eq_obj o T.meta) s (T.home o)

module _ (T : Setting) (Z : Meaning T) where
  open T use {Server, meta}
  open Z use {HoldsMap}

  pub record Claim (m : Machine T) : Type 0 where
    -- each compared answer of a decided transaction is the map's, the transactions run in the order of decision
    pub answered : RightAll T Z m.log
    -- some server is there
    pub manned : (s : Server) × (there_now T m s ≡ true)
    -- the tree read from the memory, its metadata from any server that is there, is one of the map that they leave
    pub holds : (s : Server) → there_now T m s ≡ true → HoldsMap (λ o. due_in T m (seat T s o) o) (map_all T Z m.log)
    -- "the root that all servers' metadata then name", those not absent
    pub agree : (s t : Server) → there_now T m s ≡ true → there_now T m t ≡ true → due_in T m s meta ≡ due_in T m t meta
