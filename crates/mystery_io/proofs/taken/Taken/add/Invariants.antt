use Rattle.std.proofs.Common.{◌≡◌, ◌++◌, take}
use Rattle.mystery_io.specs.Taken.{bytes_of}
use Rattle.mystery_io.proofs.taken.Taken.add.Given as goal

abbrev pub invariant-loop-byte : goal.invariant-loop-byte
invariant-loop-byte l = bytes_of l.self ≡ bytes_of l.fn.self ++ take l.byte-index l.piece
