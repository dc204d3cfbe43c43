use Rattle.std.specs.Prelude.{string_bytes, string_len}
use Rattle.pretty_cli.proofs.CutLemmas.{IsShortened}
use Rattle.pretty_cli.proofs.cut.cut.Given as goal

-- the line so far
abbrev pub invariant-shorten : goal.invariant-shorten
invariant-shorten l = IsShortened l.limit (string_bytes l.fn.line) (string_bytes l.line)

abbrev pub decreases-shorten : goal.decreases-shorten
decreases-shorten l = string_len l.line
