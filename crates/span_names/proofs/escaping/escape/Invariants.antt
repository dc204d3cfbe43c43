use Rattle.std.proofs.Common.{◌≡◌}
use Rattle.std.specs.Prelude.{string_bytes}
use Rattle.std.specs.List.{flat_map}
use Rattle.span_names.specs.inner.Characters.{escaped_char}
use Rattle.span_names.proofs.escaping.escape.Given as goal

-- what stands for the characters so far
abbrev pub invariant-loop-character : goal.invariant-loop-character
invariant-loop-character l = string_bytes l.name ≡ flat_map escaped_char l.yielded
