use Rattle.std.proofs.Common.{◌≡◌, ◌++◌, map, take}
use Rattle.inspect_run.specs.Rows.{shown_byte}
use Rattle.inspect_run.proofs.row.push_shown.Given as goal

-- the bytes so far were appended
abbrev pub invariant-loop-byte : goal.invariant-loop-byte
invariant-loop-byte l = l.text.items ≡ l.fn.text.items ++ map shown_byte (take l.byte-index l.name)
