use Rattle.std.proofs.Common.{◌≡◌, drop}
use Rattle.span_names.specs.Names.{looks_numbered}
use Rattle.span_names.proofs.numbering.looks_numbered.Given as goal

-- what is left tells
abbrev pub invariant-loop-at : goal.invariant-loop-at
invariant-loop-at l = looks_numbered (drop l.at l.text) ≡ looks_numbered l.text
