use Rattle.std.proofs.Common.{◌≡◌, ◌++◌}
use Rattle.std.specs.Prelude.{replicate, string_bytes}
use Rattle.pretty_cli.proofs.line.push_spaces.Given as goal

-- the spaces so far
abbrev pub invariant-spaces : goal.invariant-spaces
invariant-spaces l = string_bytes l.line ≡ string_bytes l.fn.line ++ replicate l.i 32
