use Rattle.std.proofs.Common.{◌≡◌, ◌++◌}
use Rattle.std.specs.Prelude.{encode_utf8_all}
use Rattle.std.specs.List.{flat_map}
use Rattle.markup.specs.Escapes.{escaped_sign}
use Rattle.markup.proofs.escaping.push_name.Given as goal

-- what stands for the signs so far was appended
abbrev pub invariant-loop-sign : goal.invariant-loop-sign
invariant-loop-sign l = l.bytes.items ≡ l.fn.bytes.items ++ encode_utf8_all (flat_map escaped_sign l.yielded)
