-- 8 servers of 1,024 slots, as a number.
use Rattle.std.specs.Prelude.{◌≡◌, refl}
use Rattle.operations.specs.Tree.{room}

pub room_is : room ≡ 8192
unfolding room
room_is = refl
