use Rattle.std.proofs.Common.{◌≡◌, ◌++◌, take}
use Rattle.std.specs.List.{flat_map}
use Rattle.event_text.specs.LineTexts.{escaped_byte}
use Rattle.event_text.proofs.quoting.push_escaped.Given as goal

-- the bytes so far were appended
abbrev pub invariant-loop-byte : goal.invariant-loop-byte
invariant-loop-byte l = l.bytes.items ≡ l.fn.bytes.items ++ flat_map escaped_byte (take l.byte-index l.text)
