-- "many readers, or one writer and nobody else". A lock is a word: below 65,536 it is the set of the clients that read, and
-- 65,536 + c is the client c that writes.
use Rattle.std.specs.Prelude.{Bool, true, false, cond, not, ℕ, ◌+◌, ◌^◌, eqb, ltb}
use Rattle.memory.specs.Bit.{put_bit}
use Rattle.server.specs.declared.lock.Use.{Use}
use Rattle.server.specs.declared.lock.Use.TheVariants.{Fetch, Read, Write}

-- do others than client c read
abbrev pub shared : Use → ℕ → ℕ → Bool
shared Fetch c w = false
shared Read c w = false
shared Write c w = not (eqb (put_bit false w c) 0)

-- "locked against this use by another client (fetch: by a writer)"
unfoldable pub busy : Use → ℕ → ℕ → Bool
busy u c w = cond (ltb w 65536) (shared u c w) (not (eqb w (65536 + c)))

-- the word once client c has locked it, for writing or for reading. For reading no writer's word is met: another client's is busy,
-- and an object that client c itself writes it locks for writing
unfoldable pub locked : Bool → ℕ → ℕ → ℕ
locked true c w = 65536 + c
locked false c w = cond (ltb w 65536) (put_bit true w c) w

-- the word once client c has unlocked it; another writer's word stays (from a new store on, a client unlocks only what it holds)
unfoldable pub unlocked : ℕ → ℕ → ℕ
unlocked c w = cond (ltb w 65536) (put_bit false w c) (cond (eqb w (65536 + c)) 0 w)

-- refusal 10: the clients that it names are below n
unfoldable pub lock_in_range : ℕ → ℕ → Bool
lock_in_range n w = cond (ltb w 65536) (ltb w (2 ^ n)) (ltb w (65536 + n))
