use Rattle.std.proofs.Common.{◌≡◌, ◌++◌, take}
use Rattle.std.specs.List.{flat_map}
use Rattle.room_picture.specs.Rooms.{tick_text}
use Rattle.room_picture.proofs.ticks.push_ticks.Given as goal

-- the texts so far were appended
abbrev pub invariant-powers : goal.invariant-powers
invariant-powers l = l.bytes.items ≡ l.fn.bytes.items ++ flat_map (tick_text l.least l.full) (take l.power-index l.powers)
